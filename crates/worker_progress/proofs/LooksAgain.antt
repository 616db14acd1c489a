-- A look at the gate after which the mutator looks again: it has no task, or has answered it.
use Rattle.std.proofs.Common.{◌≡◌, ℕ, Bool, true, false, cond, Option, Some, None, is_some, Result, Ok, Err, refl, ap, ◌∙◌}
use Rattle.std.specs.Prelude.{⊤}
use Rattle.atom_store.specs.declared.reply.Reply.TheVariants.{Value}
use Rattle.plain_state.specs.declared.end.End.{End}
use Rattle.plain_state.specs.declared.kind.Kind.{Kind}
use Rattle.plain_state.specs.declared.value.Value as values
use Rattle.record_layout.specs.declared.header.Header.{Header}
use Rattle.mutator_asm.specs.declared.instr.Instr.{Instr}
use Rattle.plain_heap.specs.declared.action.Action.{Action}
use Rattle.plain_heap.specs.declared.action.Action.TheVariants.{Sets, Jumps, Links, Prints, Makes, Snaps}
use Rattle.plain_heap.specs.Action.{action}
use Rattle.alloc_end.specs.Place as place
use Rattle.space_map.specs.declared.gate_word.GateWord.{GateWord}
use Rattle.space_map.specs.GateWord.{decode_gate}
use Rattle.gate_core.specs.declared.passage.Passage.TheVariants.{Park}
use Rattle.gc_worker.specs.declared.calls.did.Did.TheVariants.{Done}
use Rattle.gc_worker.specs.declared.stage.after.After.TheVariants as afters
use Rattle.gc_worker.specs.declared.stage.Stage.{Stage}
use Rattle.gc_worker.specs.declared.stage.Stage.TheVariants.{Looks, Places}
use Rattle.gc_worker.specs.declared.stage.write.Write.TheVariants.{OfPlace}
use Rattle.gc_worker.specs.declared.task.Task.{Task}
use Rattle.gc_worker.specs.declared.task.Task.TheVariants.{Calls, Stops}
use Rattle.gc_worker.specs.Plain.Seen.{seen}
use Rattle.gc_worker.specs.Laws.MachineEnds.{IsSameMachine}
use Rattle.gc_worker.specs.Steps.Turned.{Told, Silent, Answers, acted, acts, begins, looked_by, passes, places, serves_snap, started, told_acted, told_action, told_gate, told_look, told_start, turned_look, went_on}
use Rattle.gc_worker.specs.Workers.Fits.{FitsCall, IsMaking, MayBegin}
use Rattle.gc_worker.specs.Workers.Held.{Held, at_stage, fields_for, header_for, may_snap, run_held, target_for}
use Rattle.gc_worker.proofs.Plain.NewRecords.{header_is}
use Rattle.gc_worker.proofs.MachineEnds.Each.{guards_so}

-- what there is to do is done: nothing without a task, and else the task has its effect
abbrev pub IsDone : Option Task → Told → Type 0
IsDone None outcome = ⊤
IsDone (Some task) outcome = outcome ≡ Answers task Done

abbrev LooksAgain : Held → Type 0
LooksAgain y = IsSameMachine Looks y.stage

no_placing : (y : Held) (o : Option Header) → is_some o ≡ true → IsSameMachine Looks (places y o) → ⊥
no_placing y (Some header) stands again =
    let p = place.begun y.layout (run_held y) header y.epoch (fields_for y) y.snap (target_for y) in
    guards_so (λ (t : Stage). IsSameMachine Looks t → ⊥) y (OfPlace p) (place.writes_on p p.stage) (Places p) (λ same. same) (λ g same. same) again
no_placing y None stands again = cc

-- a checkpoint that can be begun begins another machine
no_snapping : (y : Held) (task : Task) (b : Bool) → LooksAgain (cond b (at_stage y (serves_snap y)) (went_on y)) → cond b Silent (Answers task Done) ≡ Answers task Done
no_snapping y task true again = absurd again
no_snapping y task false again = refl

-- an action of which more than one step is to come begins another machine
acts_done : (y : Held) (task : Task) (act : Action) → ((kind : Kind) (d n : ℕ) (v : values.Value) → act ≡ Makes kind d n v → is_some (header_for y) ≡ true)
    → LooksAgain (acts y act) → told_action y task act ≡ Answers task Done
acts_done y task (Sets d v) has again = refl
acts_done y task (Jumps target) has again = refl
acts_done y task (Links d target) has again = refl
acts_done y task (Prints n) has again = refl
acts_done y task Snaps has again = no_snapping y task (may_snap y) again
acts_done y task (Makes kind d n v) has again = absurd (no_placing y (header_for y) (has kind d n v refl) again)
acts_done y task _ has again = absurd again

module _ (x : Held) where
  calls_done : (instr : Instr) → x.task ≡ Some (Calls instr) → FitsCall x.account x.registers instr → (r : Result Action End) → action (seen x.account x.registers) instr ≡ r
      → LooksAgain (acted (begins x) r) → told_acted x (Calls instr) r ≡ Answers (Calls instr) Done
  calls_done instr task call (Ok act) is again = acts_done (begins x) (Calls instr) act has again
    where
      has : (kind : Kind) (d n : ℕ) (v : values.Value) → act ≡ Makes kind d n v → is_some (header_for (begins x)) ≡ true
      has kind d n v e =
          let making : IsMaking x.account x.registers x.task =
          record { making = record { kind = kind; into = d; len = n }; value = v; executes = record { instr = instr; task_is = task; call = call; acts = is ∙ ap Ok e } } in
          ap is_some (header_is x making)
  calls_done instr task call (Err why) is again = absurd again

  tasks_done : (task : Option Task) → x.task ≡ task → MayBegin x.account x.registers task → LooksAgain (started x task) → IsDone task (told_start x task)
  tasks_done None is may again = tt
  tasks_done (Some (Calls instr)) is may again = calls_done instr is may (action (seen x.account x.registers) instr) refl again
  tasks_done (Some (Stops end)) is may again = absurd again

  by_request : (b : Bool) → MayBegin x.account x.registers x.task → LooksAgain (cond b (at_stage x (passes x Park afters.Looks)) (started x x.task))
      → IsDone x.task (cond b Silent (told_start x x.task))
  by_request true may again = absurd again
  by_request false may again = tasks_done x.task refl may again

  by_gate : (o : Option GateWord) → is_some o ≡ true → MayBegin x.account x.registers x.task → LooksAgain (looked_by x o) → IsDone x.task (told_gate x o)
  by_gate (Some gate) some may again = by_request gate.request may again
  by_gate None some may again = absurd (cc)

  pub looks_done : (word : ℕ) → is_some (decode_gate word) ≡ true → MayBegin x.account x.registers x.task → LooksAgain (turned_look x (Value word)) → IsDone x.task (told_look x (Value word))
  looks_done word some may again = by_gate (decode_gate word) some may again
