-- A machine that goes on wants a step on a row of the table. A passage writes the gate alone, the beginning of a checkpoint the
-- number of the last one, and a reading of which one runs nothing.
use Rattle.std.proofs.Common.{ℕ, arith}
use Rattle.atom_store.specs.StepOn.{IsOn, WritesOnly}
use Rattle.space_map.specs.Table.{Row, Gate, SnapNumber, IsRow}
use Rattle.gate_core.specs.declared.flip_stage.FlipStage.{FlipStage}
use Rattle.gate_core.specs.declared.flip_stage.FlipStage.TheVariants as flip_stage
use Rattle.gate_core.specs.declared.gate_stage.GateStage.{GateStage}
use Rattle.gate_core.specs.declared.gate_stage.GateStage.TheVariants as gate_stage
use Rattle.gate_core.specs.declared.recall.recall_stage.RecallStage.{RecallStage}
use Rattle.gate_core.specs.declared.recall.recall_stage.RecallStage.TheVariants as recall_stage
use Rattle.gate_core.specs.declared.snap.snap_stage.SnapStage.{SnapStage}
use Rattle.gate_core.specs.declared.snap.snap_stage.SnapStage.TheVariants as snap_stage
use Rattle.gate_core.specs.Flip.{Flipping}
use Rattle.gate_core.specs.Flip as flip
use Rattle.gate_core.specs.Gate.{Passing}
use Rattle.gate_core.specs.Gate as gate
use Rattle.gate_core.specs.Recall as recall
use Rattle.gate_core.specs.Snap.{Snapping}
use Rattle.gate_core.specs.Snap as snap
use Rattle.gate_core.specs.Soundness.{IsFlippingGoing, IsPassingGoing, IsRecallGoing, IsSnappingGoing}

pub passage_rows_fit : (p : Passing) (stage : GateStage) → IsPassingGoing stage → IsOn (IsRow p.layout.pages) (gate.wants_at p stage)
passage_rows_fit p (gate_stage.Ended result) going = going
passage_rows_fit p stage going = tt

pub passage_writes : (Q : Row → Type 0) → Q Gate → (p : Passing) (stage : GateStage) → WritesOnly Q (gate.wants_at p stage)
passage_writes Q gate p (gate_stage.Exchanges read) = gate
passage_writes Q gate p stage = tt

pub flip_rows_fit : (f : Flipping) (stage : FlipStage) → IsFlippingGoing stage → IsOn (IsRow f.layout.pages) (flip.wants_at f stage)
flip_rows_fit f flip_stage.LoadsGate going = tt
flip_rows_fit f (flip_stage.ResetsWeak reset) going = tt
flip_rows_fit f (flip_stage.Exchanges reset) going = tt
flip_rows_fit f (flip_stage.Ended result) going = going
flip_rows_fit f _ going = omega arith

pub recall_rows_fit : (n : ℕ) (stage : RecallStage) → IsRecallGoing stage → IsOn (IsRow n) (recall.wants_at stage)
recall_rows_fit n recall_stage.LoadsSnap going = tt
recall_rows_fit n (recall_stage.LoadsDone number) going = tt
recall_rows_fit n (recall_stage.Ended result) going = going

pub recall_writes : (Q : Row → Type 0) → (stage : RecallStage) → WritesOnly Q (recall.wants_at stage)
recall_writes Q recall_stage.LoadsSnap = tt
recall_writes Q _ = tt

pub snap_rows_fit : (s : Snapping) (stage : SnapStage) → IsSnappingGoing stage → IsOn (IsRow s.layout.pages) (snap.wants_at s stage)
snap_rows_fit s snap_stage.LoadsGate going = tt
snap_rows_fit s (snap_stage.ExchangesSnap gate) going = tt
snap_rows_fit s (snap_stage.Ended result) going = going

pub snap_writes : (Q : Row → Type 0) → Q SnapNumber → (s : Snapping) (stage : SnapStage) → WritesOnly Q (snap.wants_at s stage)
snap_writes Q snap_number s (snap_stage.ExchangesSnap gate) = snap_number
snap_writes Q snap_number s stage = tt
