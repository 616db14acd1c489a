-- A copy that goes on wants a step on a row of the table.
use Rattle.std.proofs.Common.{ℕ, ◌*◌, ◌<◌, ◌≤◌, arith}
use Rattle.atom_store.specs.StepOn.{IsOn}
use Rattle.space_map.specs.declared.spaces.TheConstants.{LAST_WORKER}
use Rattle.space_map.specs.Spaces.{Layout}
use Rattle.space_map.specs.Table.{IsRow}
use Rattle.forwarding.specs.declared.evac_stage.EvacStage.{EvacStage}
use Rattle.forwarding.specs.declared.evac_stage.EvacStage.TheVariants.{LoadsArea, Announces, Reserves, StoresHeader, LoadsWord, StoresWord, StoresCross, LoadsWeak, StoresLink, TakesWeak, Clears, Ended}
use Rattle.forwarding.specs.Evacuation.{IsGoing, wants_at}
use Rattle.forwarding.specs.Soundness.{FitsStage}

pub rows_fit : (l : Layout) (a e k : ℕ) → k ≤ LAST_WORKER → a < 128 * l.pages → (stage : EvacStage) → FitsStage l.pages a stage → IsGoing stage → IsOn (IsRow l.pages) (wants_at l a e k stage)
rows_fit l a e k few low (LoadsArea kept) fits going = omega arith
rows_fit l a e k few low (Announces kept area) fits going = few
rows_fit l a e k few low (Reserves kept area) fits going = omega arith
rows_fit l a e k few low (StoresHeader r) fits going = let inside = fits.inside in omega (arith, inside)
rows_fit l a e k few low (LoadsWord r i) fits going = let inside = fits.0.keeps.inside in let before = fits.2 in omega (arith, inside, before)
rows_fit l a e k few low (StoresWord r w) fits going = let inside = fits.0.inside in let before = fits.2 in omega (arith, inside, before)
rows_fit l a e k few low (StoresCross r page) fits going = let inside = fits.0.inside in let before = fits.2 in omega (arith, inside, before)
rows_fit l a e k few low (LoadsWeak to) fits going = tt
rows_fit l a e k few low (StoresLink to head) fits going = let link = fits.0 in omega (arith, link)
rows_fit l a e k few low (TakesWeak to head) fits going = tt
rows_fit l a e k few low (Clears to) fits going = few
rows_fit l a e k few low (Ended to) fits going = going
rows_fit l a e k few low _ fits going = omega (arith, low)
