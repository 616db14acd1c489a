-- A run with what is noted of its order.
use Rattle.std.proofs.Common.{◌≡◌, ℕ, ◌+◌, ◌<◌, ◌≤◌, List, ◌++◌, true, false}
use Rattle.std.specs.Option.{option_to_list}
use Rattle.plain_heap.specs.declared.mark.Mark.{Mark}
use Rattle.gc_worker.specs.Plain.Marks.{mark_of}
use Rattle.gc_core.specs.Core.{CoreState}
use Rattle.gc_core.specs.Event.{event_of, core_after}
use Rattle.gc_core.specs.Run.{Ran, all_ended}
use Rattle.gc_core.proofs.Runs.EventByEvent.{ComesToOrder, came_out_order, came_over_order, comes_on_order}

-- how far a run has come, where this holds of the marks that were noted
pub record HasCome (schedule : ℕ → ℕ) (at steps : ℕ) (s : CoreState) (HasNoted : List Mark → Type 0) (all : Ran) : Type 0 where
  pub marks : List Mark
  pub noted : HasNoted marks
  pub comes : ComesToOrder schedule at steps s marks all

pub comes_on_noted : (schedule : ℕ → ℕ) (at steps : ℕ) (s : CoreState) (HasNoted HasNotedNext : List Mark → Type 0) (all : Ran) → at < steps → all_ended s ≡ false
    → ((order : List Mark) → HasNoted order → HasNotedNext (order ++ option_to_list (mark_of (event_of s (schedule at)).told)))
    → HasCome schedule at steps s HasNoted all → HasCome schedule (at + 1) steps (core_after s (schedule at)) HasNotedNext all
comes_on_noted schedule at steps s HasNoted HasNotedNext all some running notes h = record {
  marks = h.marks ++ option_to_list (mark_of (event_of s (schedule at)).told);
  noted = notes h.marks h.noted;
  comes = comes_on_order schedule at steps s h.marks all some running h.comes;
}

pub came_over_noted : (schedule : ℕ → ℕ) (at steps : ℕ) (s : CoreState) (HasNoted : List Mark → Type 0) (all : Ran) → all_ended s ≡ true
    → HasCome schedule at steps s HasNoted all → HasNoted all.order
came_over_noted schedule at steps s HasNoted all ended h = rw (← came_over_order schedule at steps s h.marks all ended h.comes) h.noted

pub came_out_noted : (schedule : ℕ → ℕ) (at steps : ℕ) (s : CoreState) (HasNoted : List Mark → Type 0) (all : Ran) → steps ≤ at
    → HasCome schedule at steps s HasNoted all → HasNoted all.order
came_out_noted schedule at steps s HasNoted all done h = rw (← came_out_order schedule at steps s h.marks all done h.comes) h.noted
