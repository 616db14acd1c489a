-- An allocation that goes on wants a step on a row of the table.
use Rattle.std.proofs.Common.{arith}
use Rattle.atom_store.specs.StepOn.{IsOn}
use Rattle.space_map.specs.WholeTable.{IsWholeRow}
use Rattle.alloc_end.specs.declared.place_stage.PlaceStage.{PlaceStage}
use Rattle.alloc_end.specs.declared.place_stage.PlaceStage.TheVariants.{LoadsTraced, LoadsSize, LoadsArea, ExchangesArea, Ended}
use Rattle.alloc_end.specs.Place.{Placing, pages_for, size_of, wants_at}
use Rattle.alloc_end.specs.Soundness.{FitsPlaceStage, IsPlacingGoing, RunLiesInSpaces}

pub rows_fit : (p : Placing) (stage : PlaceStage) → FitsPlaceStage p.layout.pages (pages_for (size_of p.header)) p.snap p.run p.header stage → RunLiesInSpaces p.layout.pages p.run → IsPlacingGoing stage
    → IsOn (IsWholeRow p.layout.pages) (wants_at p stage)
rows_fit p LoadsTraced fits run going = tt
rows_fit p (LoadsSize traced) fits run going = omega arith
rows_fit p (LoadsArea traced size) fits run going = omega arith
rows_fit p (ExchangesArea f) fits run going = omega arith
rows_fit p (Ended result) fits run going = going
rows_fit p _ fits run going = omega (arith, fits, run)
