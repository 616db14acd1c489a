-- A round that goes on wants a step on a row of the table, and writes TRACED, WEAKTURN, a page's word or a word of the heap.
use Rattle.std.proofs.Common.{◌≡◌, ℕ, refl, ap, subst, arith}
use Rattle.std.specs.Prelude.{option_map}
use Rattle.atom_store.specs.StepOn.{IsOn, WritesOnly, step_at}
use Rattle.space_map.specs.Spaces.{Layout}
use Rattle.space_map.specs.Table.{Row, Traced, WeakTurn, Page, HeapWord, IsRow, place_of}
use Rattle.page_slots.specs.Claim as claim
use Rattle.page_slots.proofs.ClaimRows.{claim_rows_fit, claim_writes}
use Rattle.cell_walk.specs.Walking as walk
use Rattle.cell_walk.proofs.WalkRows as walk_rows
use Rattle.fault_duty.specs.declared.duty_stage.DutyStage.{DutyStage}
use Rattle.fault_duty.specs.declared.duty_stage.DutyStage.TheVariants.{LoadsWanted, LoadsFrontFor, LoadsFront, LoadsPage, Claims, EndArea, EndPage, EndFilling, EndAreaAgain, Walks, Traces, Ended}
use Rattle.fault_duty.specs.Duty.{Round, wanted_at, wants_at}
use Rattle.fault_duty.specs.Soundness.{FitsCaller, FitsDutyStage, IsRoundGoing}
use Rattle.fault_duty.proofs.RoundMeasure.{to_start-le}

-- the layout of the claim and of the walk is the round's
pub by_rows : (d : Round) (stage : DutyStage) → FitsDutyStage d stage → wanted_at d stage ≡ option_map (step_at (place_of d.layout.pages)) (wants_at d stage)
by_rows d (Claims c) fits = ap (λ (l : Layout). option_map (step_at (place_of l.pages)) (claim.wants_at c c.stage)) fits.layout
by_rows d (Walks traced v) fits = ap (λ (l : Layout). option_map (step_at (place_of l.pages)) (walk.wants_at v.epoch v.stage)) fits.1.layout
by_rows d stage fits = refl

pub rows_fit : (d : Round) (stage : DutyStage) → FitsDutyStage d stage → FitsCaller d.layout.pages d.caller → IsRoundGoing stage → IsOn (IsRow d.layout.pages) (wants_at d stage)
rows_fit d (LoadsWanted seen page) fits caller going = subst (FitsCaller d.layout.pages) fits.1 caller
rows_fit d (LoadsFrontFor seen wanted) fits caller going = omega arith
rows_fit d (LoadsFront seen) fits caller going = omega arith
rows_fit d (LoadsPage choice page) fits caller going = fits.1.in_table
rows_fit d (Claims c) fits caller going =
    subst (λ (l : Layout). IsOn (IsRow l.pages) (claim.wants_at c c.stage)) fits.layout (claim_rows_fit c c.stage fits.sound.stage fits.sound.page fits.going)
rows_fit d (EndArea traced) fits caller going = omega arith
rows_fit d (EndPage look page) fits caller going = fits.1.in_table
rows_fit d (EndFilling look) fits caller going = let high = fits.1.high in let start = to_start-le d in omega (arith, high, start)
rows_fit d (EndAreaAgain look filling) fits caller going = omega arith
rows_fit d (Walks traced v) fits caller going =
    let own = fits.1 in
    subst (λ (l : Layout). IsOn (IsRow l.pages) (walk.wants_at v.epoch v.stage)) own.layout (walk_rows.rows_fit v.layout v.epoch v.stage own.sound.fits own.going)
rows_fit d (Ended result) fits caller going = going
rows_fit d _ fits caller going = tt

pub writes : (Q : Row → Type 0) → Q Traced → Q WeakTurn → ((page : ℕ) → Q (Page page)) → ((addr : ℕ) → Q (HeapWord addr)) → (d : Round) (stage : DutyStage)
    → WritesOnly Q (wants_at d stage)
writes Q traced turn pages words d (Claims c) = claim_writes Q pages c c.stage
writes Q traced turn pages words d (Walks word v) = walk_rows.writes Q turn words v.epoch v.stage
writes Q traced turn pages words d (Traces word) = traced
writes Q traced turn pages words d stage = tt
