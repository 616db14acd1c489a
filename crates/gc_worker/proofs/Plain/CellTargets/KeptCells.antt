-- What a step that answers a task does to cells, what the end of tracing does, and that at first there are none.
use Rattle.std.proofs.Common.{◌≡◌, ℕ, Option, Some, None, ap, sym, ◌∙◌}
use Rattle.std.specs.Option.{option_and_then}
use Rattle.plain_state.specs.declared.value.Identity.{Identity}
use Rattle.plain_state.specs.declared.value.Value.TheVariants.{Reference}
use Rattle.plain_state.specs.Cells.{CellsFollow, HasLostCells, KeepsCells, NewCellsRefer, cell_of, value_of_cell}
use Rattle.plain_state.specs.State.{Mutator, Plain}
use Rattle.plain_heap.specs.Emptied.{cells_to_empty}
use Rattle.plain_heap.proofs.Calls.KeptCells.{LeavesCells, same-cells, settled-cells}
use Rattle.plain_heap.proofs.Orders.NoCells.{no_record}
use Rattle.plain_heap.proofs.Reaching.Emptying.{lost-from, lost-in}
use Rattle.plain_heap.proofs.Reaching.Members.{In}
use Rattle.plain_heap.proofs.Reaching.TargetsOfCells.{target-empty, target-kept}
use Rattle.heap_laws.specs.Opening.{opening_plain}
use Rattle.gc_worker.specs.declared.calls.did.Did.{Did}
use Rattle.gc_worker.specs.declared.calls.did.Did.TheVariants.{Done, Trap}
use Rattle.gc_worker.specs.declared.task.Task.{Task}
use Rattle.gc_worker.specs.declared.task.Task.TheVariants.{Calls, Stops}
use Rattle.gc_worker.specs.Plain.Answer.{after_answer, after_outcome, with_emptied}

-- ---- an answer

module _ (p : Plain) (k : ℕ) where
  pub outcome_cells : (q : Mutator) (task : Task) (outcome : Did) → LeavesCells p.heap (after_outcome p k q task outcome).heap
  outcome_cells q (Calls instr) Done = settled-cells p k q instr
  outcome_cells q (Stops end) Done = same-cells p.heap
  outcome_cells q task (Trap end) = same-cells p.heap

  pub answer_cells : (task : Task) (outcome : Did) (mutator : Option Mutator) → LeavesCells p.heap (after_answer p k task outcome mutator).heap
  answer_cells task outcome (Some q) = outcome_cells q task outcome
  answer_cells task outcome None = same-cells p.heap

-- ---- the end of tracing

module _ (o p : Plain) where
  abbrev then : Plain
  then = with_emptied p (cells_to_empty o)

  pub lost_cells : KeepsCells o p → HasLostCells o then
  lost_cells keeps = record {
    lost = λ i lost. target-empty (cells_to_empty o) p.heap i (lost-in o i lost) (Reference lost.target) (keeps i (Reference lost.target) lost.is);
    kept = λ i v held stays. target-kept (cells_to_empty o) p.heap i (λ is. stays (lost-from o i is)) ∙ keeps i v held;
  }

  -- a cell that the state o hasn't is left
  not_listed : (i : Identity) → cell_of o.heap i ≡ None → ¬ (In i (cells_to_empty o))
  not_listed i none is = let both = sym none ∙ (lost-from o i is).is in cc

  pub made_cells : NewCellsRefer o p → NewCellsRefer o then
  made_cells refer i v none held = refer i v none (sym (target-kept (cells_to_empty o) p.heap i (not_listed i none)) ∙ held)

-- ---- the opening

no_cells : (mutators : ℕ) (i : Identity) → cell_of (opening_plain mutators).heap i ≡ None
no_cells mutators i = ap (option_and_then value_of_cell) (no_record mutators i.mutator i.serial)

pub opening_cells : (traced : Type 0) (mutators : ℕ) → CellsFollow traced (opening_plain mutators) (opening_plain mutators)
opening_cells traced mutators = record {
  untraced = λ not i v held. held;
  lost = λ is. record { lost = λ i lost. absurd (let both = sym (no_cells mutators i) ∙ lost.is in cc); kept = λ i v held stays. held };
  made = λ i v none held. absurd (let both = sym none ∙ held in cc);
}
