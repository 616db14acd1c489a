-- What the machines keep of themselves: the rows that they want are in the table, and their words can be packed.
use Rattle.std.specs.Prelude.{◌≡◌, ◌≢◌, ◌^◌, ◌<◌, ◌≤◌, false, ⊤}
use Rattle.space_map.specs.declared.spaces.TheConstants.{LAST_WORKER}
use Rattle.space_map.specs.PageWord.{PageFits, IsEarlier}
use Rattle.space_map.specs.Spaces.{IsPageCount, board_page}
use Rattle.page_slots.specs.declared.claim_stage.ClaimStage.{ClaimStage}
use Rattle.page_slots.specs.declared.claim_stage.ClaimStage.TheVariants as claim_stage
use Rattle.page_slots.specs.declared.open_stage.OpenStage.{OpenStage}
use Rattle.page_slots.specs.declared.open_stage.OpenStage.TheVariants as open_stage
use Rattle.page_slots.specs.Claim.{Claiming}
use Rattle.page_slots.specs.Open.{Opening}

-- announced places are looked at for a full page alone
abbrev pub FitsClaimStage : Claiming → ClaimStage → Type 0
FitsClaimStage c (claim_stage.LooksAtPlace k) = (k ≤ LAST_WORKER) × (c.in_place ≡ false) × (c.page ≢ board_page c.layout.pages)
FitsClaimStage c claim_stage.LooksAtGate = ⊤
FitsClaimStage c claim_stage.Exchanges = ⊤
FitsClaimStage c (claim_stage.Ended result) = ⊤

-- the page is a space's or the board, and the word read there is of no epoch, or of one before the claim's
pub record IsSoundClaim (c : Claiming) : Type 0 where
  pub pages : IsPageCount c.layout.pages
  pub page : c.page ≤ board_page c.layout.pages
  pub worker : c.worker ≤ LAST_WORKER
  pub epoch : c.epoch < 2 ^ 32
  pub found : PageFits c.found
  pub earlier : IsEarlier c.found c.epoch
  pub stage : FitsClaimStage c c.stage

-- the claim has a next step
abbrev pub IsClaimGoing : ClaimStage → Type 0
IsClaimGoing (claim_stage.Ended result) = ⊥
IsClaimGoing stage = ⊤

-- the page is a space's or the board
pub record IsSoundOpening (o : Opening) : Type 0 where
  pub pages : IsPageCount o.layout.pages
  pub page : o.page ≤ board_page o.layout.pages
  pub epoch : o.epoch < 2 ^ 32

-- the opening has a next step
abbrev pub IsOpeningGoing : OpenStage → Type 0
IsOpeningGoing (open_stage.Ended result) = ⊥
IsOpeningGoing stage = ⊤
