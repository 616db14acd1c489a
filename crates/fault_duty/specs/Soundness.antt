-- What a round keeps of itself: the rows that it wants are in the table, FRONT as it was read is in the space or at its end, the
-- pages that it looks at are full, what it holds as forbidding to end the tracing forbids it, and by TRACED, as it read it, its
-- epoch is untraced. A claim or a walk that it makes is its own, and sound.
use Rattle.std.specs.Prelude.{◌≡◌, ◌≢◌, ℕ, ◌+◌, ◌*◌, ◌%◌, ◌^◌, ◌<◌, ◌≤◌, ⊤, Option, Some, None}
use Rattle.space_map.specs.declared.gate_word.GateWord.{GateWord}
use Rattle.space_map.specs.declared.page_word.PageWord.TheVariants.{Scanning}
use Rattle.space_map.specs.declared.spaces.TheConstants.{LAST_WORKER}
use Rattle.space_map.specs.GateWord.{decode_gate}
use Rattle.space_map.specs.PageWord.{PageFits, decode_page}
use Rattle.space_map.specs.Spaces.{IsPageCount, board_page, first_word}
use Rattle.page_slots.specs.Claim.{Claiming}
use Rattle.page_slots.specs.Soundness.{IsClaimGoing, IsSoundClaim}
use Rattle.cell_walk.specs.Soundness.{IsSound}
use Rattle.cell_walk.specs.Walking.{Walking, IsGoing}
use Rattle.fault_duty.specs.declared.caller.Caller.{Caller}
use Rattle.fault_duty.specs.declared.caller.Caller.TheVariants.{Faulted, Allocates, Scans}
use Rattle.fault_duty.specs.declared.findings.Findings.{Findings}
use Rattle.fault_duty.specs.declared.duty_stage.DutyStage.{DutyStage}
use Rattle.fault_duty.specs.declared.duty_stage.DutyStage.TheVariants.{LoadsGate, LoadsTraced, LoadsWanted, LoadsFrontFor, LoadsFront, LoadsPage, Claims, EndGate, EndArea, EndPage, EndFilling, EndAreaAgain, Walks, Traces, Ended}
use Rattle.fault_duty.specs.declared.page_state.PageState.TheVariants.{Opened}
use Rattle.fault_duty.specs.Duty.{Round, state_of, to_start, to_page}

abbrev pub FitsCaller : (pages : ℕ) → Caller → Type 0
FitsCaller n (Faulted page) = page ≤ board_page n
FitsCaller n Allocates = ⊤
FitsCaller n (Scans mutators) = ⊤

-- the word forbids to end the tracing of an epoch now: a gate with a mutator behind, or that of a page which a worker scans
pub data Forbids (epoch word : ℕ) : Type 0 where
  BehindGate : (gate : GateWord) → decode_gate word ≡ Some gate → gate.behind ≢ 0 → Forbids epoch word
  PageInScan : (worker : ℕ) → decode_page word ≡ Some (Scanning epoch worker) → Forbids epoch word

-- what is held as forbidding it does so
abbrev pub IsHindrance : (epoch : ℕ) → Option ℕ → Type 0
IsHindrance epoch (Some word) = Forbids epoch word
IsHindrance epoch None = ⊤

-- FRONT is in the space that is copied into, or at its end
pub record FitsFront (d : Round) (front : ℕ) : Type 0 where
  pub low : to_start d ≤ front
  pub high : front ≤ to_start d + 64 * d.layout.pages

-- the page is the board, or a full page of the space that is copied into
pub record IsChoice (d : Round) (front page : ℕ) : Type 0 where
  pub at : FitsFront d front
  pub in_table : page ≤ board_page d.layout.pages
  pub in_space : page ≢ board_page d.layout.pages → to_page d ≤ page
  pub full : page ≢ board_page d.layout.pages → first_word (page + 1) ≤ front

-- the claim is this round's
pub record IsOwnClaim (d : Round) (c : Claiming) : Type 0 where
  pub layout : c.layout ≡ d.layout
  pub epoch : c.epoch ≡ d.epoch
  pub worker : c.worker ≡ d.worker
  pub going : IsClaimGoing c.stage
  pub sound : IsSoundClaim c

-- the walk is this round's
pub record IsOwnWalk (d : Round) (v : Walking) : Type 0 where
  pub layout : v.layout ≡ d.layout
  pub epoch : v.epoch ≡ d.epoch
  pub going : IsGoing v.stage
  pub sound : IsSound v

-- this word of TRACED is of no epoch before this one, and doesn't say that this one is traced
abbrev pub IsUntraced : (epoch traced : ℕ) → Type 0
IsUntraced epoch traced = (epoch ≤ traced) × (traced ≢ epoch + 1)

-- what a round has found: its epoch is untraced by TRACED, and what is held as forbidding to end the tracing forbids it
pub record FitsFindings (epoch : ℕ) (found : Findings) : Type 0 where
  pub untraced : IsUntraced epoch found.traced
  pub hindrance : IsHindrance epoch found.hindrance

abbrev pub FitsDutyStage : Round → DutyStage → Type 0
FitsDutyStage d LoadsGate = ⊤
FitsDutyStage d (LoadsTraced hindrance) = IsHindrance d.epoch hindrance
FitsDutyStage d (LoadsWanted seen page) = FitsFindings d.epoch seen × (d.caller ≡ Faulted page)
FitsDutyStage d (LoadsFrontFor seen w) = FitsFindings d.epoch seen × (d.caller ≡ Faulted w.page) × PageFits w.says
FitsDutyStage d (LoadsFront seen) = FitsFindings d.epoch seen
FitsDutyStage d (LoadsPage choice page) = FitsFindings d.epoch choice.seen × IsChoice d choice.front page
FitsDutyStage d (Claims c) = IsOwnClaim d c
FitsDutyStage d (EndGate traced) = IsUntraced d.epoch traced
FitsDutyStage d (EndArea traced) = IsUntraced d.epoch traced
FitsDutyStage d (EndPage look page) = IsUntraced d.epoch look.traced × IsChoice d look.front page
FitsDutyStage d (EndFilling look) = IsUntraced d.epoch look.traced × FitsFront d look.front × (look.front % 64 ≢ 0)
FitsDutyStage d (EndAreaAgain look filling) =
    IsUntraced d.epoch look.traced × FitsFront d look.front × PageFits filling × (look.front % 64 ≡ 0 → state_of filling d.epoch ≡ Opened)
FitsDutyStage d (Walks traced v) = IsUntraced d.epoch traced × IsOwnWalk d v
FitsDutyStage d (Traces traced) = IsUntraced d.epoch traced
FitsDutyStage d (Ended result) = ⊤

pub record IsSoundRound (d : Round) : Type 0 where
  pub pages : IsPageCount d.layout.pages
  pub caller : FitsCaller d.layout.pages d.caller
  pub epoch : d.epoch < 2 ^ 32
  pub worker : d.worker ≤ LAST_WORKER
  pub stage : FitsDutyStage d d.stage

-- the round makes a claim
abbrev pub IsClaiming : DutyStage → Type 0
IsClaiming (Claims c) = ⊤
IsClaiming stage = ⊥

-- the round makes the walk
abbrev pub IsWalking : DutyStage → Type 0
IsWalking (Walks traced v) = ⊤
IsWalking stage = ⊥

-- the round has a next step
abbrev pub IsRoundGoing : DutyStage → Type 0
IsRoundGoing (Ended result) = ⊥
IsRoundGoing stage = ⊤
