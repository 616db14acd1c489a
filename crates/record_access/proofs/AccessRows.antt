-- An access wants a step on a row of the table, and writes words of the heap alone.
use Rattle.std.proofs.Common.{ℕ, Some, arith}
use Rattle.atom_store.specs.StepOn.{IsOn, WritesOnly}
use Rattle.space_map.specs.Spaces.{Layout}
use Rattle.space_map.specs.Table.{Row, HeapWord, IsRow}
use Rattle.record_access.specs.declared.access_stage.AccessStage.{AccessStage}
use Rattle.record_access.specs.declared.access_stage.AccessStage.TheVariants.{StoresField, ExchangesField, LooksAtBoard, StoresBoard, SwapsBoard}
use Rattle.record_access.specs.Access.{FitsStage, board_at, field_at, wants_at}

pub rows_fit : (l : Layout) (stage : AccessStage) → FitsStage l.pages stage → IsOn (IsRow l.pages) (Some (wants_at l stage))
rows_fit l (StoresField f new) fits = omega (arith, fits)
rows_fit l (LooksAtBoard b) fits = omega arith
rows_fit l (StoresBoard word new) fits = omega (arith, fits)
rows_fit l _ fits = let inside = fits.0 in omega (arith, inside)

pub writes : (Q : Row → Type 0) → ((addr : ℕ) → Q (HeapWord addr)) → (l : Layout) (stage : AccessStage) → WritesOnly Q (Some (wants_at l stage))
writes Q words l (StoresField f new) = words (field_at f)
writes Q words l (ExchangesField f e old) = words (field_at f)
writes Q words l (StoresBoard word new) = words (board_at l word)
writes Q words l (SwapsBoard s old) = words (board_at l s.word)
writes Q words l stage = tt
