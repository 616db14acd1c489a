-- A walk that goes on wants a step on a row of the table, and writes the turn's word and words of the heap alone.
use Rattle.std.proofs.Common.{◌≡◌, ℕ, zero, suc, ◌+◌, ◌*◌, ◌<◌, true, arith}
use Rattle.std.specs.Prelude.{◌&&◌, nat_le, nat_lt}
use Rattle.std.proofs.lemmas.Bool.Decides.{nat_tests}
use Rattle.atom_store.specs.StepOn.{IsOn, WritesOnly}
use Rattle.space_map.specs.Spaces.{Layout, to_space}
use Rattle.space_map.specs.Table.{Row, WeakTurn, HeapWord, IsRow}
use Rattle.cell_walk.specs.declared.walk_stage.WalkStage.{WalkStage}
use Rattle.cell_walk.specs.declared.walk_stage.WalkStage.TheVariants.{TakesTurn, LoadsTarget, LoadsTargetHeader, StoresTarget, LoadsLink, Ended}
use Rattle.cell_walk.specs.Soundness.{FitsStage}
use Rattle.cell_walk.specs.Taken.{is_old}
use Rattle.cell_walk.specs.Walking.{IsGoing, wants_at}

in_space : (n space old : ℕ) → space < 2 → (nat_le (64 * (n * space)) old && nat_lt old (64 * (n * space) + 64 * n)) ≡ true → old < 128 * n
in_space n zero old one back = grind (arith, nat_tests)
in_space n (suc zero) old one back = grind (arith, nat_tests)
in_space n (suc (suc space)) old one back = absurd (omega arith)

old_in_heap : (l : Layout) (e old : ℕ) → is_old l e old ≡ true → old < 128 * l.pages
old_in_heap l e old back = in_space l.pages (to_space (e + 1)) old (omega arith) back

pub rows_fit : (l : Layout) (e : ℕ) (stage : WalkStage) → FitsStage l e stage → IsGoing stage → IsOn (IsRow l.pages) (wants_at e stage)
rows_fit l e (LoadsTarget cell) fits going = let inside = fits.inside in omega arith
rows_fit l e (LoadsTargetHeader cell old) fits going = let inside = old_in_heap l e old fits.1 in omega arith
rows_fit l e (StoresTarget cell word) fits going = let inside = fits.0.inside in omega arith
rows_fit l e (LoadsLink cell) fits going = let inside = fits.inside in omega arith
rows_fit l e (Ended end) fits going = going
rows_fit l e _ fits going = tt

pub writes : (Q : Row → Type 0) → Q WeakTurn → ((addr : ℕ) → Q (HeapWord addr)) → (e : ℕ) (stage : WalkStage) → WritesOnly Q (wants_at e stage)
writes Q turn words e (TakesTurn found) = turn
writes Q turn words e (StoresTarget cell word) = words (cell.at + 1)
writes Q turn words e stage = tt
