-- What alone holds the machines up: a lost exchange, or a word that can't be there.
use Rattle.std.specs.Prelude.{◌≡◌, ℕ, ⊤, false, List, Some, None}
use Rattle.atom_store.specs.declared.reply.Reply.{Reply}
use Rattle.atom_store.specs.declared.reply.Reply.TheVariants.{Value, Lost}
use Rattle.atom_store.specs.declared.step.Step.{Step}
use Rattle.atom_store.specs.Step.{reply_of}
use Rattle.space_map.specs.AreaWord.{decode_area}
use Rattle.space_map.specs.GateWord.{decode_gate}
use Rattle.gate_core.specs.declared.flip_stage.FlipStage.{FlipStage}
use Rattle.gate_core.specs.declared.flip_stage.FlipStage.TheVariants as flip_stage
use Rattle.gate_core.specs.declared.gate_stage.GateStage.{GateStage}
use Rattle.gate_core.specs.declared.gate_stage.GateStage.TheVariants as gate_stage
use Rattle.gate_core.specs.declared.recall.recall_stage.RecallStage.{RecallStage}
use Rattle.gate_core.specs.declared.recall.recall_stage.RecallStage.TheVariants as recall_stage
use Rattle.gate_core.specs.declared.snap.snap_stage.SnapStage.{SnapStage}
use Rattle.gate_core.specs.declared.snap.snap_stage.SnapStage.TheVariants as snap_stage
use Rattle.gate_core.specs.Flip.{Flipping}
use Rattle.gate_core.specs.Flip as flip
use Rattle.gate_core.specs.Gate.{Passing}
use Rattle.gate_core.specs.Gate as gate
use Rattle.gate_core.specs.Recall.{Recalling, number_in}
use Rattle.gate_core.specs.Recall as recall
use Rattle.gate_core.specs.Snap.{Snapping}
use Rattle.gate_core.specs.Snap as snap

abbrev pub IsPassageHeldUp : GateStage → Reply → Type 0
IsPassageHeldUp gate_stage.Loads (Value word) = decode_gate word ≡ None
IsPassageHeldUp (gate_stage.Exchanges read) (Lost word) = ⊤
IsPassageHeldUp stage reply = ⊥

abbrev pub IsFlipHeldUp : FlipStage → Reply → Type 0
IsFlipHeldUp flip_stage.LoadsGate (Value word) = decode_gate word ≡ None
IsFlipHeldUp (flip_stage.LoadsArea read size) (Value word) = decode_area word ≡ None
IsFlipHeldUp (flip_stage.Exchanges reset) (Lost word) = ⊤
IsFlipHeldUp stage reply = ⊥

abbrev pub IsRecallHeldUp : RecallStage → Reply → Type 0
IsRecallHeldUp recall_stage.LoadsSnap (Value word) = number_in word ≡ None
IsRecallHeldUp (recall_stage.LoadsDone number) (Value word) = number_in word ≡ None
IsRecallHeldUp stage reply = ⊥

abbrev pub IsSnapHeldUp : SnapStage → Reply → Type 0
IsSnapHeldUp snap_stage.LoadsGate (Value word) = decode_gate word ≡ None
IsSnapHeldUp (snap_stage.ExchangesSnap read) (Lost word) = ⊤
IsSnapHeldUp stage reply = ⊥

-- whatever words a step meets, its reply takes the machine on, where what is left falls, or is one of those that hold it up
abbrev pub PassagesGoOn : Type 0
PassagesGoOn = (p : Passing) (step : Step) (met : List ℕ) → gate.wanted p ≡ Some step
    → gate.advances p (reply_of step met) ≡ false → IsPassageHeldUp p.stage (reply_of step met)

abbrev pub FlipsGoOn : Type 0
FlipsGoOn = (f : Flipping) (step : Step) (met : List ℕ) → flip.wanted f ≡ Some step
    → flip.advances f (reply_of step met) ≡ false → IsFlipHeldUp f.stage (reply_of step met)

abbrev pub RecallsGoOn : Type 0
RecallsGoOn = (r : Recalling) (step : Step) (met : List ℕ) → recall.wanted r ≡ Some step
    → recall.advances r (reply_of step met) ≡ false → IsRecallHeldUp r.stage (reply_of step met)

abbrev pub SnapsGoOn : Type 0
SnapsGoOn = (s : Snapping) (step : Step) (met : List ℕ) → snap.wanted s ≡ Some step
    → snap.advances s (reply_of step met) ≡ false → IsSnapHeldUp s.stage (reply_of step met)
