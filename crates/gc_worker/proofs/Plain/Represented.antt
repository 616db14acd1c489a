-- A heap with its workers stands for each plain state that it represents, once it stands for one.
use Rattle.std.proofs.Common.{Bool, true, false, sym, subst, ◌∙◌}
use Rattle.plain_state.specs.State.{Plain, Snapped}
use Rattle.plain_heap.specs.Calls.{KeepsCheckpoint}
use Rattle.heap_state.specs.Meaning.Represents.{Represents}
use Rattle.heap_state.specs.Saving.Kept.{KeepsPicture}
use Rattle.heap_state.proofs.Represents.Represented.{represented_in_cycle}
use Rattle.gc_worker.specs.Laws.Represented.{HasKept}
use Rattle.gc_worker.specs.Laws.Step.{Heap, read, CheckpointsStand, StandIf, WorkersStand}

module _ (h : Heap) (p q : Plain) where
  kept_so : CheckpointsStand h p → KeepsCheckpoint p.heap q.heap → CheckpointsStand h q
  kept_so stand same = record {
    formed = stand.formed;
    frozen = stand.frozen;
    stands = stand.stands;
    shows = record {
      number = stand.shows.number ∙ sym same.snaps;
      keeps = λ some. subst (λ (kept : Snapped). KeepsPicture h.pages stand.frozen kept.board kept.records) (sym same.snapped) (stand.shows.keeps some);
    };
  }

  pub kept_by : (b : Bool) → StandIf b h p → HasKept b p q → StandIf b h q
  kept_by true stand same = kept_so stand same
  kept_by false stand same = tt

pub represented_workers : (h : Heap) (p q o : Plain) → WorkersStand h p o → Represents (read h) q → HasKept h.checkpoints p q → WorkersStand h q o
represented_workers h p q o s represents same =
    let t = represented_in_cycle (read h) p q o (record { stands = s.stands; cycle = s.cycle }) represents in
    record { stands = t.stands; cycle = t.cycle; fit = s.fit; laid_out = s.laid_out; whole = s.whole; saving = kept_by h p q h.checkpoints s.saving same }
