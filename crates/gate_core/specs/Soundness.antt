-- What the machines keep of themselves: the rows that they want are in the table, and the gates and areas that they write fit
-- their words.
use Rattle.std.specs.Prelude.{◌≡◌, ℕ, ◌+◌, ◌*◌, ◌^◌, ◌<◌, ◌≤◌, Bool, true, ⊤}
use Rattle.space_map.specs.declared.gate_word.GateWord.{GateWord}
use Rattle.space_map.specs.declared.spaces.TheConstants.{FEWEST_PAGES}
use Rattle.space_map.specs.GateWord.{GateFits}
use Rattle.space_map.specs.Spaces.{IsPageCount}
use Rattle.gate_core.specs.declared.passage.Passage.{Passage}
use Rattle.gate_core.specs.declared.passage.Passage.TheVariants.{Look, Attach, Park, Request, Resume, Forwarded, Leave, Clear}
use Rattle.gate_core.specs.declared.gate_stage.GateStage.{GateStage}
use Rattle.gate_core.specs.declared.gate_stage.GateStage.TheVariants as gate_stage
use Rattle.gate_core.specs.declared.flip_stage.FlipStage.{FlipStage}
use Rattle.gate_core.specs.declared.flip_stage.FlipStage.TheVariants as flip_stage
use Rattle.gate_core.specs.declared.recall.recall_stage.RecallStage.{RecallStage}
use Rattle.gate_core.specs.declared.recall.recall_stage.RecallStage.TheVariants as recall_stage
use Rattle.gate_core.specs.declared.reset.Reset.{Reset}
use Rattle.gate_core.specs.declared.snap.snap_stage.SnapStage.{SnapStage}
use Rattle.gate_core.specs.declared.snap.snap_stage.SnapStage.TheVariants as snap_stage
use Rattle.gate_core.specs.declared.snap.snapped.Snapped.{Snapped}
use Rattle.gate_core.specs.declared.snap.snapped.Snapped.TheVariants.{Begun, NotYet}
use Rattle.gate_core.specs.Gate.{Passing, allows}
use Rattle.gate_core.specs.Flip.{Flipping, is_still, next_size}
use Rattle.gate_core.specs.Recall.{Recalling}
use Rattle.gate_core.specs.Snap.{Snapping}

-- the gate counts those whom the passage takes away, and has room for those whom it brings
abbrev pub CountsAllow : Passage → GateWord → Type 0
CountsAllow Look gate = ⊤
CountsAllow Attach gate = (gate.live + 1 < 2 ^ 8) × (gate.running + 1 < 2 ^ 8)
CountsAllow Park gate = 0 < gate.running
CountsAllow Request gate = 0 < gate.running
CountsAllow (Resume epoch) gate = gate.running + 1 < 2 ^ 8
CountsAllow Forwarded gate = 0 < gate.behind
CountsAllow Leave gate = (0 < gate.live) × (0 < gate.running) × (gate.left + 1 < 2 ^ 5)
CountsAllow Clear gate = ⊤

-- a gate from which the passage may be made
pub record MayPass (passage : Passage) (gate : GateWord) : Type 0 where
  pub fits : GateFits gate
  pub allowed : allows passage gate ≡ true
  pub counts : CountsAllow passage gate

abbrev pub FitsGateStage : Passage → GateStage → Type 0
FitsGateStage passage gate_stage.Loads = ⊤
FitsGateStage passage (gate_stage.Exchanges gate) = MayPass passage gate
FitsGateStage passage (gate_stage.Ended result) = ⊤

pub record IsSoundPassing (p : Passing) : Type 0 where
  pub pages : IsPageCount p.layout.pages
  pub stage : FitsGateStage p.passage p.stage

-- the passage has a next step
abbrev pub IsPassingGoing : GateStage → Type 0
IsPassingGoing (gate_stage.Ended result) = ⊥
IsPassingGoing stage = ⊤

-- a gate from which the heap may be flipped
pub record MayFlip (gate : GateWord) : Type 0 where
  pub fits : GateFits gate
  pub still : is_still gate ≡ true
  pub next_fits : gate.epoch + 1 < 2 ^ 32

-- so many pages of a space may be in use
abbrev pub IsSizeWithin : (pages size : ℕ) → Type 0
IsSizeWithin n size = (FEWEST_PAGES ≤ size) × (size ≤ n)

-- a reset after which the heap may be flipped: no more words are in use than the pages in use have, and the next size is the one
-- that follows from this one, whatever was copied
pub record FitsReset (n : ℕ) (seen : Bool) (reset : Reset) : Type 0 where
  pub gate : MayFlip reset.gate
  pub size : IsSizeWithin n reset.size
  pub used : reset.used ≤ 64 * reset.size
  pub copied : ℕ
  pub next : reset.next ≡ next_size n seen reset.size copied

abbrev pub FitsFlipStage : (pages : ℕ) → (seen : Bool) → FlipStage → Type 0
FitsFlipStage n seen flip_stage.LoadsGate = ⊤
FitsFlipStage n seen (flip_stage.LoadsSize gate) = MayFlip gate
FitsFlipStage n seen (flip_stage.LoadsArea gate size) = MayFlip gate × IsSizeWithin n size
FitsFlipStage n seen (flip_stage.StoresSize reset) = FitsReset n seen reset
FitsFlipStage n seen (flip_stage.StoresArea reset) = FitsReset n seen reset
FitsFlipStage n seen (flip_stage.ResetsWeak reset) = FitsReset n seen reset
FitsFlipStage n seen (flip_stage.Exchanges reset) = FitsReset n seen reset
FitsFlipStage n seen (flip_stage.Ended result) = ⊤

pub record IsSoundFlipping (f : Flipping) : Type 0 where
  pub pages : IsPageCount f.layout.pages
  pub epoch : f.epoch + 1 < 2 ^ 32
  pub stage : FitsFlipStage f.layout.pages f.seen f.stage

-- the flip has a next step
abbrev pub IsFlippingGoing : FlipStage → Type 0
IsFlippingGoing (flip_stage.Ended result) = ⊥
IsFlippingGoing stage = ⊤

-- ---- what runs

abbrev pub FitsRecallStage : RecallStage → Type 0
FitsRecallStage recall_stage.LoadsSnap = ⊤
FitsRecallStage (recall_stage.LoadsDone number) = number < 2 ^ 32
FitsRecallStage (recall_stage.Ended recalled) = recalled.number < 2 ^ 32

pub record IsSoundRecalling (r : Recalling) : Type 0 where
  pub pages : IsPageCount r.layout.pages
  pub stage : FitsRecallStage r.stage

-- the reading has a next step
abbrev pub IsRecallGoing : RecallStage → Type 0
IsRecallGoing (recall_stage.Ended result) = ⊥
IsRecallGoing stage = ⊤

-- ---- the beginning of a checkpoint

-- a gate with nobody running
pub record IsStopped (gate : GateWord) : Type 0 where
  pub fits : GateFits gate
  pub none_runs : gate.running ≡ 0

-- a checkpoint is begun while nobody runs
abbrev pub FitsSnapped : Snapped → Type 0
FitsSnapped (Begun gate) = IsStopped gate
FitsSnapped (NotYet word) = ⊤

abbrev pub FitsSnapStage : SnapStage → Type 0
FitsSnapStage snap_stage.LoadsGate = ⊤
FitsSnapStage (snap_stage.ExchangesSnap gate) = IsStopped gate
FitsSnapStage (snap_stage.Ended result) = FitsSnapped result

pub record IsSoundSnapping (s : Snapping) : Type 0 where
  pub pages : IsPageCount s.layout.pages
  pub number : s.number + 1 < 2 ^ 32
  pub stage : FitsSnapStage s.stage

-- the beginning has a next step
abbrev pub IsSnappingGoing : SnapStage → Type 0
IsSnappingGoing (snap_stage.Ended result) = ⊥
IsSnappingGoing stage = ⊤
