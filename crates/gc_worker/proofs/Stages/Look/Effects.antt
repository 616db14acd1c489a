-- A look whose instruction's effect the registers alone decide: a register is set, a jump is made, a number is printed, or `snap` finds no
-- number, or no room, for one more checkpoint.
use Rattle.std.proofs.Common.{◌≡◌, ℕ, ◌+◌, ◌%◌, ◌<◌, ◌≤◌, false, List, [], ◌∷◌, ◌++◌, length, slice_index, slice_set, is_some, Some, None, Result, Ok, refl, ap, sym, subst, ◌∙◌, length-set, arith}
use Rattle.std.specs.Prelude.{⊤, IsTrue}
use Rattle.std.proofs.lemmas.List.{length-append}
use Rattle.plain_state.specs.declared.end.End.{End}
use Rattle.plain_state.specs.declared.sizes.TheConstants.{NUMBERS, REGISTERS, MOST_PRINTED}
use Rattle.plain_state.specs.declared.value.Value.{Value}
use Rattle.plain_state.specs.declared.value.Value.TheVariants.{Number}
use Rattle.plain_state.specs.State.{Heap, Mutator, Plain}
use Rattle.plain_state.specs.Writing.{took, with_heap}
use Rattle.mutator_asm.specs.declared.instr.Instr.{Instr}
use Rattle.mutator_asm.specs.Program.{is_valid}
use Rattle.plain_heap.specs.declared.action.Action.{Action}
use Rattle.plain_heap.specs.declared.action.Action.TheVariants.{Sets, Jumps, Links, Prints, Snaps}
use Rattle.plain_heap.specs.Action.{◌>>=◌, action, next_of}
use Rattle.plain_heap.specs.Call as plain
use Rattle.plain_heap.specs.Call.{performed, call}
use Rattle.plain_heap.proofs.Calls.Named.{Names}
use Rattle.atom_store.specs.declared.reply.Reply.{Reply}
use Rattle.heap_words.specs.Word.{number_word}
use Rattle.heap_state.specs.Configuration.{Configuration, Stands, era, memory, team}
use Rattle.heap_state.specs.Known.{Account, Known, is_running}
use Rattle.heap_laws.specs.Fields.Held.{HoldsValue, MayHold, going_on, with_mutator}
use Rattle.heap_laws.specs.Fields.Stores.{IsAs}
use Rattle.heap_laws.proofs.Fields.Laws.{mutators_snap, mutators_step}
use Rattle.gc_worker.specs.declared.stage.Stage.TheVariants.{Looks}
use Rattle.gc_worker.specs.declared.task.Task.TheVariants.{Calls}
use Rattle.gc_worker.specs.Workers.Fits.{AreValues, Fits}
use Rattle.gc_worker.specs.Steps.Goes.{Is, Goes}
use Rattle.gc_worker.specs.Workers.Held.{Held, at_stage}
use Rattle.gc_worker.specs.Workers.Knows.{knows}
use Rattle.record_access.specs.Seen.{word_for}
use Rattle.gc_worker.specs.declared.calls.did.Did.TheVariants.{Done}
use Rattle.gc_worker.specs.Steps.Turned.{Answers, begins, acts, turned, told, told_effect}
use Rattle.gc_worker.specs.Steps.Turned as turn
use Rattle.gc_worker.proofs.Plain.Actions.{plain_value, plain_action, plain_outcome}
use Rattle.gc_worker.proofs.Plain.AnswerSteps.{LawTo, IsIts, may_hold, going, next_as}
use Rattle.gc_worker.proofs.Plain.Effects.{counted, loaded_goes, loaded_as, moved_as, moved_goes, effect}
use Rattle.gc_worker.proofs.Stages.Look.Begun.{begun_fits}
use Rattle.gc_worker.proofs.Plain.Registers.{sight, Holds, holds_number, alike, is_value, names, writes}
use Rattle.gc_worker.proofs.Workers.Answered.{values_set, settled_as, settled_fits}
use Rattle.gc_worker.proofs.Words.RowSteps.{prepared}
use Rattle.gc_worker.proofs.Plain.WrittenRegisters.{WritesRegister}

module _ (c : Configuration) (p : Plain) (s : Stands c p) (k : ℕ) (y : Held) where
  abbrev x : Held
  x = at_stage y Looks

  module _ (is : Is c k x) (unended : x.account.end ≡ None) (q : Mutator) (its : IsIts c p s k x q) (instr : Instr) (task : x.task ≡ Some (Calls instr)) (valid : IsTrue (is_valid instr)) (reply : Reply)
      (tells : told x reply ≡ Answers (Calls instr) Done) where
    -- what the plain machine's call does
    called : (act : Action) → action (sight c p s k x is refl unended) instr ≡ Ok act → call k p.heap q instr ≡ performed k p.heap q (plain_action s.ghost.identity act)
    unfolding call
    called act is_act = ap (λ (o : Result Action End). o >>= performed k p.heap q) (alike c p s k x is refl unended q its instr valid ∙ ap (plain_outcome s.ghost.identity) is_act)

    abbrev Acts : Action → Type 0
    Acts act = action (sight c p s k x is refl unended) instr ≡ Ok act

    named : (act : Action) → Acts act → Names (Holds c p s k x is refl unended q its) ⊤ (sight c p s k x is refl unended) act
    named = names c p s k x is refl unended q its instr valid

    small_in : (act : Action) → Acts act → WritesRegister act
    small_in = writes c p s k x is refl unended q its instr valid

    -- with this account and these registers it goes on, as the plain mutator does that leaves this plain heap
    module _ (heap : Heap) (account : Account) (registers : List ℕ) (next : Mutator) (no_end : account.end ≡ None) (few : length account.printed ≤ MOST_PRINTED)
        (eight : length registers ≡ REGISTERS) (values : AreValues registers)
        (law : LawTo c p s k x None (knows (settled_as (begins x) account registers x.run)) s.ghost (with_mutator (with_heap p heap) k next))
        (calls : call k p.heap q instr ≡ Ok (record { heap = heap; mutator = next })) (same : turned x reply ≡ settled_as (begins x) account registers x.run) where
      fits : Fits c.pages c.mutators k (settled_as (begins x) account registers x.run)
      fits = settled_fits c.pages c.mutators k (begins x) (begun_fits c.pages c.mutators k y is.fits) is.fits.side account registers x.run (ap is_some no_end) eight values few is.fits.run

      leaves : Goes c p s k None x reply
      leaves = effect c p s k x is refl unended q its None reply (settled_as (begins x) account registers x.run) instr (record { heap = heap; mutator = next }) task same (tells ∙ sym (ap told_effect task)) refl calls law tt fits

    -- where the plain heap stays
    module _ (account : Account) (registers : List ℕ) (next : Mutator) (serial : account.serial ≡ x.account.serial) (no_end : account.end ≡ None) (few : length account.printed ≤ MOST_PRINTED)
        (eight : length registers ≡ REGISTERS) (values : AreValues registers) (may : (j : ℕ) → j < 8 → MayHold (era c) s.ghost.size s.ghost.writer (slice_index registers j))
        (like : IsAs s.ghost p.heap k (going_on (knows x) account (λ (j : ℕ). slice_index registers j) None None false) next)
        (calls : call k p.heap q instr ≡ Ok (record { heap = p.heap; mutator = next })) (same : turned x reply ≡ settled_as (begins x) account registers x.run) where
      law : LawTo c p s k x None (knows (settled_as (begins x) account registers x.run)) s.ghost (with_mutator p k next)
      law = mutators_step (era c) (memory c) (team c) s.ghost p k (knows (settled_as (begins x) account registers x.run)) next (prepared c p s k x is)
          (ap (λ (w : Known). is_running w.post) is.as_known) s.shown
          (going c p s k x is refl unended account (λ (j : ℕ). slice_index registers j) serial may) like

      goes : Goes c p s k None x reply
      goes = leaves p.heap account registers next no_end few eight values law calls same

    abbrev identity : ℕ → Rattle.plain_state.specs.declared.value.Identity.Identity
    identity = s.ghost.identity

    next_same : turn.next_of x ≡ next_of q
    next_same = ap (λ (n : ℕ). (n + 1) % NUMBERS) its.same.account.counter

    pub sets : (d : ℕ) (v : Value) → Acts (Sets d v) → turned x reply ≡ acts (begins x) (Sets d v) → Goes c p s k None x reply
    sets d v is_act same =
        let small = small_in (Sets d v) is_act in
        let holds = named (Sets d v) is_act in
        goes (counted c p s k x is refl unended) (slice_set x.registers d (word_for v)) (plain.went_on (plain.set_register q d (plain_value identity v))) refl unended is.fits.few_printed
        (length-set x.registers d (word_for v) ∙ is.fits.eight) (values_set x.registers d (word_for v) is.fits.eight (is_value identity (word_for v) (plain_value identity v) holds.denotes) is.fits.registers)
        ((loaded_goes c p s k x is refl unended q its d (word_for v) (plain_value identity v) small holds).registers unended)
        (loaded_as c p s k x is refl unended q its d (word_for v) (plain_value identity v) small holds) (called (Sets d v) is_act) same

    pub jumps : (target : ℕ) → Acts (Jumps target) → turned x reply ≡ acts (begins x) (Jumps target) → Goes c p s k None x reply
    jumps target is_act same =
        goes (record x.account { counter = target; executed = x.account.executed + 1 }) x.registers (plain.jumped q target) refl unended is.fits.few_printed is.fits.eight is.fits.registers
        (may_hold c p s k x is refl unended) (next_as c p s k x q its target target x.account.printed q.printed refl its.same.account.printed) (called (Jumps target) is_act) same

    pub links : (d target : ℕ) → Acts (Links d target) → turned x reply ≡ acts (begins x) (Links d target) → Goes c p s k None x reply
    links d target is_act same =
        let small = small_in (Links d target) is_act in
        let word : ℕ = number_word (turn.next_of x) in
        let holds : HoldsValue (era c) s.ghost word (Number (next_of q)) = subst (λ (n : ℕ). HoldsValue (era c) s.ghost word (Number n)) next_same (holds_number c p s k x is refl unended q its (turn.next_of x) (omega arith)) in
        let a = its.same.account in
        let r = (loaded_as c p s k x is refl unended q its d word (Number (next_of q)) small holds).registers in
        goes (record x.account { counter = target; executed = x.account.executed + 1 }) (slice_set x.registers d word) (plain.jumped (plain.set_register q d (Number (next_of q))) target) refl unended is.fits.few_printed
        (length-set x.registers d word ∙ is.fits.eight) (values_set x.registers d word is.fits.eight (is_value identity word (Number (next_of q)) holds.denotes) is.fits.registers)
        ((loaded_goes c p s k x is refl unended q its d word (Number (next_of q)) small holds).registers unended)
        (record {
          account = record { counter = refl; printed = a.printed; executed = ap (λ (n : ℕ). n + 1) a.executed; end = a.end; serial = a.serial };
          registers = record { eight = r.eight; registers_show = r.registers_show };
        }) (called (Links d target) is_act) same

    pub prints : (n : ℕ) → Acts (Prints n) → turned x reply ≡ acts (begins x) (Prints n) → Goes c p s k None x reply
    prints n is_act same =
        let room = (named (Prints n) is_act).1 in
        let printed : List ℕ = x.account.printed ++ n ∷ [] in
        goes (record x.account { counter = turn.next_of x; printed = printed; executed = x.account.executed + 1 }) x.registers (plain.went_on (record q { printed = q.printed ++ n ∷ [] })) refl unended
        (let l = length-append x.account.printed (n ∷ []) in omega (arith, room, l)) is.fits.eight is.fits.registers
        (may_hold c p s k x is refl unended) (next_as c p s k x q its (turn.next_of x) (next_of q) printed (q.printed ++ n ∷ []) next_same (ap (λ (l : List ℕ). l ++ n ∷ []) its.same.account.printed))
        (called (Prints n) is_act) same

    -- there is no number for one more checkpoint, or no room for any: the words stay
    pub snaps : Acts Snaps → turned x reply ≡ turn.went_on (begins x) → Goes c p s k None x reply
    snaps is_act same =
        let account : Account = counted c p s k x is refl unended in
        let next : Mutator = plain.went_on q in
        let law : LawTo c p s k x None (knows (settled_as (begins x) account x.registers x.run)) s.ghost (with_mutator (with_heap p (took p.heap)) k next) =
        mutators_snap (era c) (memory c) (team c) s.ghost p k (knows (settled_as (begins x) account x.registers x.run)) next (prepared c p s k x is)
        (ap (λ (w : Known). is_running w.post) is.as_known) s.shown
        (moved_goes c p s k x is refl unended q its) (moved_as c p s k x is refl unended q its) in
        leaves (took p.heap) account x.registers next unended is.fits.few_printed is.fits.eight is.fits.registers law (called Snaps is_act) same
