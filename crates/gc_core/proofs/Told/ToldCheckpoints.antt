-- What the words of a core say of the last checkpoint of its run.
use Rattle.std.proofs.Common.{◌≡◌, ℕ, Option, Some, None, refl, ap, ◌∙◌}
use Rattle.plain_heap.proofs.Orders.CheckpointsOfOrders.{orders_keep_the_last_checkpoint}
use Rattle.space_map.specs.Spaces.{Layout}
use Rattle.atom_store.specs.declared.step.Step.{Step}
use Rattle.gc_worker.specs.Laws.Step.{layout_of}
use Rattle.gc_worker.specs.Steps.Wanted.{wanted}
use Rattle.gc_core.specs.Checkpoints.{CheckpointsAreTold}
use Rattle.gc_core.specs.Core.{CoreState, opening_core}
use Rattle.gc_core.specs.Event.{core_after, event_of, ready}
use Rattle.gc_core.specs.Run.{run_from, run_of}
use Rattle.gc_core.proofs.Runs.EventByEvent.{run_keeps}
use Rattle.gc_core.proofs.EventLaws.{runs_follow}

event_layout : (layout : Layout) (s : CoreState) (w : ℕ) → layout_of s.heap ≡ layout → layout_of (core_after s w).heap ≡ layout
unfolding event_of
event_layout layout s w is = by_want (wanted (ready s w)) refl
  where
    by_want : (o : Option Step) → wanted (ready s w) ≡ o → layout_of (core_after s w).heap ≡ layout
    by_want None e = rw e is
    by_want (Some q) e = rw e is

-- a run leaves the layout of its heap
pub run_layout : (schedule : ℕ → ℕ) (at n : ℕ) (s : CoreState) → layout_of (run_from schedule at n s).last.heap ≡ layout_of s.heap
run_layout schedule at n s = run_keeps (λ (t : CoreState). layout_of t.heap ≡ layout_of s.heap) (event_layout (layout_of s.heap)) schedule at n s refl

pub checkpoints_are_told : CheckpointsAreTold
checkpoints_are_told code items turns config schedule n program size turns_fit few snap = record {
  told = (runs_follow code items turns config schedule n program size turns_fit few).tells (ap (λ (l : Layout). l.checkpoints) (run_layout schedule 0 n (opening_core code turns config)) ∙ snap);
  last = orders_keep_the_last_checkpoint code turns (run_of code turns config schedule n).order;
}
