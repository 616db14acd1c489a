-- A claim and an opening that go on want a step on a row of the table, and write a page's word alone.
use Rattle.std.proofs.Common.{ℕ, ◌≤◌}
use Rattle.atom_store.specs.StepOn.{IsOn, WritesOnly}
use Rattle.space_map.specs.Spaces.{board_page}
use Rattle.space_map.specs.Table.{Row, Page, IsRow}
use Rattle.page_slots.specs.declared.claim_stage.ClaimStage.{ClaimStage}
use Rattle.page_slots.specs.declared.claim_stage.ClaimStage.TheVariants as claim_stage
use Rattle.page_slots.specs.declared.open_stage.OpenStage.{OpenStage}
use Rattle.page_slots.specs.declared.open_stage.OpenStage.TheVariants as open_stage
use Rattle.page_slots.specs.Claim.{Claiming}
use Rattle.page_slots.specs.Claim as claim
use Rattle.page_slots.specs.Open.{Opening}
use Rattle.page_slots.specs.Open as open_page
use Rattle.page_slots.specs.Soundness.{FitsClaimStage, IsClaimGoing, IsOpeningGoing}

pub claim_rows_fit : (c : Claiming) (stage : ClaimStage) → FitsClaimStage c stage → c.page ≤ board_page c.layout.pages → IsClaimGoing stage → IsOn (IsRow c.layout.pages) (claim.wants_at c stage)
claim_rows_fit c (claim_stage.LooksAtPlace k) fits low going = fits.0
claim_rows_fit c claim_stage.LooksAtGate fits low going = tt
claim_rows_fit c claim_stage.Exchanges fits low going = low
claim_rows_fit c (claim_stage.Ended result) fits low going = going

pub opening_rows_fit : (o : Opening) (stage : OpenStage) → o.page ≤ board_page o.layout.pages → IsOpeningGoing stage → IsOn (IsRow o.layout.pages) (open_page.wants_at o stage)
opening_rows_fit o open_stage.StoresOpen low going = low
opening_rows_fit o (open_stage.Ended result) low going = going

module _ (Q : Row → Type 0) (pages : (page : ℕ) → Q (Page page)) where
  pub claim_writes : (c : Claiming) (stage : ClaimStage) → WritesOnly Q (claim.wants_at c stage)
  claim_writes c claim_stage.Exchanges = pages c.page
  claim_writes c stage = tt

  pub opening_writes : (o : Opening) (stage : OpenStage) → WritesOnly Q (open_page.wants_at o stage)
  opening_writes o open_stage.StoresOpen = pages o.page
  opening_writes o stage = tt
