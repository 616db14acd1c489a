-- The look at the gate: a request makes the mutator park; else its task begins, if it has one.
use Rattle.std.proofs.Common.{◌≡◌, ℕ, Bool, true, false, cond, is_some, List, Option, Some, None, Result, Ok, Err, refl, ap, sym, subst, ◌∙◌}
use Rattle.std.specs.Prelude.{IsTrue}
use Rattle.plain_state.specs.declared.end.End.{End}
use Rattle.plain_state.specs.declared.end.End.TheVariants.{HeapFull}
use Rattle.plain_state.specs.State.{Heap, Mutator, Plain}
use Rattle.mutator_asm.specs.declared.instr.Instr.{Instr}
use Rattle.mutator_asm.specs.Program.{is_valid}
use Rattle.plain_heap.specs.declared.action.Action.{Action}
use Rattle.plain_heap.specs.declared.action.Action.TheVariants.{Sets, Jumps, Links, Prints, Makes, Measures, Loads, Stores, Compares, Gets, Puts, Swaps, Snaps}
use Rattle.plain_heap.specs.Action.{◌>>=◌, action}
use Rattle.plain_heap.specs.Call.{performed, call}
use Rattle.plain_heap.specs.Step.{ended as plain_ended}
use Rattle.atom_store.specs.declared.reply.Reply.{Reply}
use Rattle.atom_store.specs.declared.reply.Reply.TheVariants.{Value}
use Rattle.atom_store.specs.declared.step.Step.TheVariants.{Load}
use Rattle.space_map.specs.Table.{Gate, place_of}
use Rattle.gate_core.specs.declared.passage.Passage.TheVariants.{Park}
use Rattle.heap_state.specs.Configuration.{Configuration, Stands, table, era, memory, team}
use Rattle.heap_state.specs.Known.{Known, is_running}
use Rattle.heap_laws.specs.Fields.Held.{with_mutator}
use Rattle.heap_laws.specs.Fields.Stores as stores
use Rattle.heap_laws.proofs.Fields.Laws.{mutators_end}
use Rattle.gc_worker.specs.declared.stage.after.After.TheVariants as afters
use Rattle.gc_worker.specs.declared.stage.Stage.TheVariants.{Looks}
use Rattle.gc_worker.specs.declared.task.Task.{Task}
use Rattle.gc_worker.specs.declared.task.Task.TheVariants.{Calls, Stops}
use Rattle.gc_worker.specs.Plain.Answer.{MayCome, MayEnd, after_outcome}
use Rattle.gc_worker.specs.Workers.Fits.{MayBegin, MayStop}
use Rattle.gc_worker.specs.Plain.Full.{FullByEnd}
use Rattle.gc_worker.specs.Steps.Goes.{Is, Goes, StepsSo}
use Rattle.gc_worker.specs.Workers.Held.{Held, at_stage, may_snap}
use Rattle.gc_worker.specs.Workers.Knows.{knows}
use Rattle.gc_worker.specs.Plain.Seen.{seen}
use Rattle.gc_worker.specs.declared.calls.did.Did.TheVariants.{Done, Trap}
use Rattle.gc_worker.specs.Steps.Turned.{Told, Silent, Answers, begins, passes, serves_snap, went_on, ended, acted, started, looked_by, turned, told, told_acted, told_start, told_gate}
use Rattle.gc_worker.proofs.Plain.Actions.{plain_outcome}
use Rattle.gc_worker.proofs.Plain.AnswerSteps.{LawTo, IsIts, answers, its_mutator}
use Rattle.gc_worker.proofs.Workers.KeptParts.{before_passage}
use Rattle.gc_worker.proofs.Stages.Gate.GateWords.{wants, gate_now, gate_says}
use Rattle.gc_worker.proofs.Stages.Look.Beginnings as beginning
use Rattle.gc_worker.proofs.Stages.Look.Begun.{begun_fits}
use Rattle.gc_worker.proofs.Stages.Look.Effects as effect
use Rattle.gc_worker.proofs.Stages.Look.StoppingInstructions.{its_end}
use Rattle.gc_worker.proofs.Plain.Registers.{alike}
use Rattle.gc_worker.proofs.Workers.Answered.{ended_fits}
use Rattle.gc_worker.proofs.Words.RowSteps.{becomes, loads, nothing, prepared}

-- ---- ends that are not that the heap is full

full_by : (n : ℕ) (words : List ℕ) (x : Held) (end : End) → MayStop end → FullByEnd n words x end
full_by n words x (HeapFull asked room live) may = absurd may
full_by n words x end may = tt

may_end : (k : ℕ) (heap : Heap) (q : Mutator) (instr : Instr) (end : End) → MayStop end → call k heap q instr ≡ Err end → MayEnd k heap q instr end
may_end k heap q instr (HeapFull asked room live) may calls = absurd may
may_end k heap q instr end may calls = calls

after_end : (p : Plain) (k : ℕ) (q : Mutator) (task : Task) (end : End) → after_outcome p k q task (Trap end) ≡ plain_ended p k q end
after_end p k q (Calls instr) end = refl
after_end p k q (Stops stop) end = refl

no_end : (end : Option End) → is_some end ≡ false → end ≡ None
no_end None is = refl
no_end (Some end) is = absurd (let is = is in cc)

module _ (c : Configuration) (p : Plain) (s : Stands c p) (k : ℕ) (y : Held) where
  abbrev x : Held
  x = at_stage y Looks

  module _ (is : Is c k x) where
    abbrev reply : Reply
    reply = Value (gate_now c)

    -- what the step makes of the worker, and tells
    pub record Comes (z : Held) (told_so : Told) : Type 0 where
      pub turns : turned x reply ≡ z
      pub tells : told x reply ≡ told_so

    unended : x.account.end ≡ None
    unended = no_end x.account.end is.fits.end

    mutator : (q : Mutator) × IsIts c p s k x q
    mutator = its_mutator c p s k x is refl unended

    abbrev q : Mutator
    q = mutator.0

    parks : Comes (at_stage x (passes x Park afters.Looks)) Silent → Goes c p s k None x reply
    parks so = becomes c p s k x None reply (at_stage x (passes x Park afters.Looks)) s.ghost so.turns is.below
        (nothing c p s k x is (knows (at_stage x (passes x Park afters.Looks))) refl) so.tells refl tt
        (before_passage c.pages c.mutators k x is.fits Park afters.Looks is.fits.end is.fits.side is.fits.task tt)

    stays : Comes x Silent → Goes c p s k None x reply
    stays so = becomes c p s k x None reply x s.ghost so.turns is.below (nothing c p s k x is (knows x) refl) so.tells refl tt is.fits

    ends : (task : Task) (end : End) → MayStop end → MayCome k p.heap q task (Trap end) → Comes (ended (begins x) end) (Answers task (Trap end)) → Goes c p s k None x reply
    ends task end may comes so =
        answers c p s k x None reply (ended (begins x) end) s.ghost q task (Trap end) so.turns so.tells refl is.below mutator.1.is mutator.1.no_end comes
        (subst (λ (r : Plain). LawTo c p s k x None (knows (ended (begins x) end)) s.ghost r) (sym (after_end p k q task end)) law)
        (full_by c.pages c.words x end may) tt (ended_fits c.pages c.mutators k (begins x) (begun_fits c.pages c.mutators k y is.fits) is.fits.side end)
      where
        law : LawTo c p s k x None (knows (ended (begins x) end)) s.ghost (plain_ended p k q end)
        law = subst (λ (w : Known). LawTo c p s k x None (stores.with_end w end) s.ghost (with_mutator p k (record q { end = Some end }))) is.as_known
            (mutators_end (era c) (memory c) (team c) s.ghost p k q end (prepared c p s k x is) (ap (λ (w : Known). is_running w.post) is.as_known) s.shown mutator.1.is)

    -- ---- an instruction

    module _ (instr : Instr) (task : x.task ≡ Some (Calls instr)) where
      valid : IsTrue (is_valid instr)
      valid = (subst (MayBegin x.account x.registers) task is.fits.task).valid

      abbrev Acts : Result Action End → Type 0
      Acts o = action (seen x.account x.registers) instr ≡ o

      calls_end : (why : End) → Acts (Err why) → call k p.heap q instr ≡ Err why
      unfolding call
      calls_end why e = ap (λ (o : Result Action End). o >>= performed k p.heap q) (alike c p s k x is refl unended q mutator.1 instr valid ∙ ap (plain_outcome s.ghost.identity) e)

      -- a checkpoint is begun, or cannot be
      snaps_if : (b : Bool) → may_snap x ≡ b → Acts (Ok Snaps) → Comes (cond b (at_stage (begins x) (serves_snap (begins x))) (went_on (begins x))) (cond b Silent (Answers (Calls instr) Done)) → Goes c p s k None x reply
      snaps_if true may e so = beginning.snaps c p s k y is unended q mutator.1 instr task reply so.tells may e so.turns
      snaps_if false may e so = effect.snaps c p s k y is unended q mutator.1 instr task valid reply so.tells e so.turns

      acts_so : (act : Action) → Acts (Ok act) → Comes (acted (begins x) (Ok act)) (told_acted x (Calls instr) (Ok act)) → Goes c p s k None x reply
      acts_so (Sets d v) e so = effect.sets c p s k y is unended q mutator.1 instr task valid reply so.tells d v e so.turns
      acts_so (Jumps target) e so = effect.jumps c p s k y is unended q mutator.1 instr task valid reply so.tells target e so.turns
      acts_so (Links d target) e so = effect.links c p s k y is unended q mutator.1 instr task valid reply so.tells d target e so.turns
      acts_so (Prints n) e so = effect.prints c p s k y is unended q mutator.1 instr task valid reply so.tells n e so.turns
      acts_so Snaps e so = snaps_if (may_snap x) refl e so
      acts_so (Makes kind d n v) e so = beginning.makes c p s k y is unended q mutator.1 instr task reply so.tells kind d n v e so.turns
      acts_so (Measures d i) e so = beginning.measures c p s k y is unended q mutator.1 instr task reply so.tells d i e so.turns
      acts_so (Loads d i n) e so = beginning.loads c p s k y is unended q mutator.1 instr task reply so.tells d i n e so.turns
      acts_so (Stores i n v) e so = beginning.stores c p s k y is unended q mutator.1 instr task reply so.tells i n v e so.turns
      acts_so (Compares d i n u v) e so = beginning.exchanges c p s k y is unended q mutator.1 instr task reply so.tells d i n u v e so.turns
      acts_so (Gets d n) e so = beginning.gets c p s k y is unended q mutator.1 instr task reply so.tells d n e so.turns
      acts_so (Puts n v) e so = beginning.puts c p s k y is unended q mutator.1 instr task reply so.tells n v e so.turns
      acts_so (Swaps d n v) e so = beginning.swaps c p s k y is unended q mutator.1 instr task reply so.tells d n v e so.turns

      calls : (o : Result Action End) → Acts o → Comes (acted (begins x) o) (told_acted x (Calls instr) o) → Goes c p s k None x reply
      calls (Ok act) e so = acts_so act e so
      calls (Err why) e so =
          let may = its_end (seen x.account x.registers) instr why e in
          ends (Calls instr) why may (may_end k p.heap q instr why may (calls_end why e)) so

    -- ---- any task

    by_task : (task : Option Task) → x.task ≡ task → Comes (started x task) (told_start x task) → Goes c p s k None x reply
    by_task None e so = stays so
    by_task (Some (Calls instr)) e so = calls instr e (action (seen x.account x.registers) instr) refl so
    by_task (Some (Stops end)) e so = ends (Stops end) end (subst (MayBegin x.account x.registers) e is.fits.task) refl so

    by_request : (b : Bool) → Comes (cond b (at_stage x (passes x Park afters.Looks)) (started x x.task)) (cond b Silent (told_start x x.task)) → Goes c p s k None x reply
    by_request true so = parks so
    by_request false so = by_task x.task refl so

    goes : Goes c p s k None x reply
    goes = by_request (table c).gate.request (record { turns = ap (looked_by x) (gate_says c p s); tells = ap (told_gate x) (gate_says c p s) })

    pub looks : StepsSo c p s k x
    looks = wants c p s k x (Load (place_of c.pages Gate)) (ap (λ n. Some (Load (place_of n Gate))) is.fits.pages) (loads c p s k x Gate tt goes)
