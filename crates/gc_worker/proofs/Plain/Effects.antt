-- What an instruction's effect, or its end, makes of a running mutator: to the plain machine, to the proofs of the heap, and to its own
-- soundness.
use Rattle.std.proofs.Common.{◌≡◌, ◌≢◌, ℕ, ◌+◌, ◌%◌, ◌<◌, true, false, List, length, nat_lt, slice_index, slice_set, slice_get, is_some, Option, None, Some, Ok, refl, ap, sym, subst, ◌∙◌, ⊎_elim, get_or-set_same, get_or-set_other, length-set, arith}
use Rattle.std.specs.Prelude.{IsOk, Result}
use Rattle.std.proofs.lemmas.Bool.{cases_eq}
use Rattle.plain_state.specs.declared.end.End.{End}
use Rattle.plain_state.specs.declared.sizes.TheConstants.{NUMBERS}
use Rattle.plain_state.specs.declared.value.Value.{Value}
use Rattle.plain_state.specs.State.{Mutator, Plain}
use Rattle.plain_state.proofs.Elements.{slice_get-set_same, slice_get-set_other}
use Rattle.mutator_asm.specs.declared.instr.Instr.{Instr}
use Rattle.plain_heap.specs.Call as plain
use Rattle.plain_heap.specs.Call.{call}
use Rattle.plain_heap.specs.Step.{settled}
use Rattle.atom_store.specs.declared.reply.Reply.{Reply}
use Rattle.heap_state.specs.Configuration.{Configuration, Stands, era, memory, team}
use Rattle.heap_state.specs.Memory.Entries.{Entry}
use Rattle.heap_state.specs.Meaning.Values.{value_of}
use Rattle.heap_state.specs.Known.{Account, Known, is_running}
use Rattle.heap_laws.specs.Fields.Held.{MutatorGoesOn, MayHold, HoldsValue, going_on, with_mutator}
use Rattle.heap_laws.specs.Fields.Stores.{IsAs}
use Rattle.heap_laws.specs.Fields.Stores as stores
use Rattle.heap_laws.proofs.Fields.Laws.{mutators_end}
use Rattle.gc_worker.specs.declared.task.Task.TheVariants.{Calls}
use Rattle.gc_worker.specs.Plain.Answer.{MayEnd}
use Rattle.gc_worker.specs.Workers.Fits.{Fits, Takes}
use Rattle.gc_worker.specs.Plain.Full.{FullByEnd}
use Rattle.gc_worker.specs.Steps.Goes.{Is, Goes}
use Rattle.gc_worker.specs.Workers.Held.{Held}
use Rattle.gc_worker.specs.Workers.Knows.{knows, post_in}
use Rattle.record_access.specs.Seen.{IsValueWord}
use Rattle.gc_worker.specs.declared.calls.did.Did.TheVariants.{Done, Trap}
use Rattle.gc_worker.specs.Steps.Turned.{turned, told, won, told_effect, told_end, next_of, loads, went_on, ended}
use Rattle.gc_worker.proofs.Plain.AnswerSteps.{LawTo, IsIts, answers, may_hold, going, next_as}
use Rattle.gc_worker.proofs.Workers.Answered.{values_set, settled_fits}
use Rattle.gc_worker.proofs.Words.RowSteps.{prepared}

-- a call that comes to its effect, of a mutator that runs or not
pub call_answers : (c : Configuration) (p : Plain) (s : Stands c p) (k : ℕ) (x : Held) (is : Is c k x) (q : Mutator) (its : IsIts c p s k x q) (e : Option Entry) (reply : Reply) (z : Held) (instr : Instr) (after : plain.After)
    → x.task ≡ Some (Calls instr) → turned x reply ≡ z → told x reply ≡ told_effect x.task → won x reply ≡ None
    → call k p.heap q instr ≡ Ok after → LawTo c p s k x e (knows z) s.ghost (record { heap = after.heap; mutators = slice_set p.mutators k after.mutator })
    → Takes x reply → Fits c.pages c.mutators k z → Goes c p s k e x reply
call_answers c p s k x is q its e reply z instr after task same tells none calls law takes fits =
    answers c p s k x e reply z s.ghost q (Calls instr) Done same (tells ∙ ap told_effect task) none is.below its.is its.no_end
    (subst (λ (r : Result plain.After End). IsOk r) (sym calls) refl)
    (subst (λ (r : Result plain.After End). LawTo c p s k x e (knows z) s.ghost (settled p k q r)) (sym calls) law) tt takes fits

module _ (c : Configuration) (p : Plain) (s : Stands c p) (k : ℕ) (x : Held) (is : Is c k x) (running : is_running (post_in x x.stage) ≡ true) (unended : x.account.end ≡ None) where
  -- ---- the mutator, one instruction further on

  -- its account
  abbrev pub counted : Account
  counted = record x.account { counter = next_of x; executed = x.account.executed + 1 }

  -- with these registers
  abbrev pub moved : List ℕ → Known
  moved registers = going_on (knows x) counted (λ (j : ℕ). slice_index registers j) None None false

  module _ (q : Mutator) (its : IsIts c p s k x q) where
    next_same : next_of x ≡ (q.counter + 1) % NUMBERS
    next_same = ap (λ (n : ℕ). (n + 1) % NUMBERS) its.same.account.counter

    pub moved_goes : MutatorGoesOn (era c) (memory c) s.ghost ((team c).worker k) (moved x.registers)
    moved_goes = going c p s k x is running unended counted (λ (j : ℕ). slice_index x.registers j) refl (may_hold c p s k x is running unended)

    pub moved_as : IsAs s.ghost p.heap k (moved x.registers) (plain.went_on q)
    moved_as = next_as c p s k x q its (next_of x) ((q.counter + 1) % NUMBERS) x.account.printed q.printed next_same its.same.account.printed

    -- with a word in a register that holds a value
    module _ (into word : ℕ) (v : Value) (small : into < 8) (holds : HoldsValue (era c) s.ghost word v) where
      abbrev pub with_it : List ℕ
      with_it = slice_set x.registers into word

      inside : into < length x.registers
      inside = let n = is.fits.eight in omega (arith, n, small)

      at_it : (j : ℕ) → j ≡ into → slice_index with_it j ≡ word
      at_it j e = ap (λ (i : ℕ). slice_index with_it i) e ∙ get_or-set_same x.registers into word 0 inside

      beside : (j : ℕ) → j ≢ into → slice_index with_it j ≡ slice_index x.registers j
      beside j e = get_or-set_other x.registers into j word 0 e

      pub loaded_goes : MutatorGoesOn (era c) (memory c) s.ghost ((team c).worker k) (moved with_it)
      loaded_goes = going c p s k x is running unended counted (λ (j : ℕ). slice_index with_it j) refl (λ j l. ⊎_elim
          (λ (e : j ≡ into). subst (MayHold (era c) s.ghost.size s.ghost.writer) (sym (at_it j e)) holds.held)
          (λ (e : j ≢ into). subst (MayHold (era c) s.ghost.size s.ghost.writer) (sym (beside j e)) (may_hold c p s k x is running unended j l))
          (cases_eq j into))

      pub loaded_as : IsAs s.ghost p.heap k (moved with_it) (plain.went_on (plain.set_register q into v))
      loaded_as =
          let r = its.same.registers in
          let plain_inside : into < length q.registers = let n = r.eight in omega (arith, n, small) in
          record {
            account = record { counter = next_same; printed = its.same.account.printed; executed = ap (λ (n : ℕ). n + 1) its.same.account.executed; end = its.same.account.end; serial = its.same.account.serial };
            registers = record {
              eight = length-set q.registers into v ∙ r.eight;
              registers_show = λ none j l. ⊎_elim
                  (λ (e : j ≡ into). ap (value_of s.ghost.identity) (at_it j e) ∙ (holds.denotes ∙ (sym (slice_get-set_same q.registers into v plain_inside) ∙ ap (λ (i : ℕ). slice_get (slice_set q.registers into v) i) (sym e))))
                  (λ (e : j ≢ into). ap (value_of s.ghost.identity) (beside j e) ∙ (r.registers_show none j l ∙ sym (slice_get-set_other q.registers into j v e)))
                  (cases_eq j into);
            };
          }

    -- ---- the effect and the end

    pub effect : (e : Option Entry) (reply : Reply) (z : Held) (instr : Instr) (after : plain.After) → x.task ≡ Some (Calls instr) → turned x reply ≡ z → told x reply ≡ told_effect x.task → won x reply ≡ None
        → call k p.heap q instr ≡ Ok after → LawTo c p s k x e (knows z) s.ghost (record { heap = after.heap; mutators = slice_set p.mutators k after.mutator })
        → Takes x reply → Fits c.pages c.mutators k z → Goes c p s k e x reply
    effect = call_answers c p s k x is q its

    pub ends : (reply : Reply) (instr : Instr) (why : End) → x.task ≡ Some (Calls instr) → turned x reply ≡ ended x why → told x reply ≡ told_end x.task why → won x reply ≡ None
        → MayEnd k p.heap q instr why → FullByEnd c.pages c.words x why → knows (ended x why) ≡ stores.with_end (knows x) why → Takes x reply → Fits c.pages c.mutators k (ended x why) → Goes c p s k None x reply
    ends reply instr why task same tells none may full known takes fits =
        let law : LawTo c p s k x None (stores.with_end (knows x) why) s.ghost (with_mutator p k (record q { end = Some why })) =
        subst (λ (w : Known). LawTo c p s k x None (stores.with_end w why) s.ghost (with_mutator p k (record q { end = Some why }))) is.as_known
        (mutators_end (era c) (memory c) (team c) s.ghost p k q why (prepared c p s k x is) (ap (λ (w : Known). is_running w.post) is.as_known ∙ running) s.shown its.is) in
        answers c p s k x None reply (ended x why) s.ghost q (Calls instr) (Trap why) same (tells ∙ ap (λ task. told_end task why) task) none is.below its.is its.no_end may
        (subst (λ (w : Known). LawTo c p s k x None w s.ghost (with_mutator p k (record q { end = Some why }))) (sym known) law) full takes fits

  -- ---- its soundness

  module _ (mutator : nat_lt x.number x.mutators ≡ true) where
    pub went_on_fits : Fits c.pages c.mutators k (went_on x)
    went_on_fits = settled_fits c.pages c.mutators k x is.fits mutator counted x.registers x.run (ap is_some unended) is.fits.eight is.fits.registers is.fits.few_printed is.fits.run

    pub loads_fits : (into word : ℕ) → into < 8 → IsValueWord word → Fits c.pages c.mutators k (loads x into word)
    loads_fits into word small value =
        settled_fits c.pages c.mutators k x is.fits mutator counted (slice_set x.registers into word) x.run (ap is_some unended)
        (length-set x.registers into word ∙ is.fits.eight) (values_set x.registers into word is.fits.eight value is.fits.registers) is.fits.few_printed is.fits.run
