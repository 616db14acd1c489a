-- The worked scans, computed from the table.
use Rattle.std.proofs.Common.{refl}
use Rattle.atom_store.specs.Runs.{alone}
use Rattle.heap_words.specs.Decoded.{decode}
use Rattle.heap_words.specs.Word.{tag_of, pointer_word}
use Rattle.space_map.specs.AreaWord.{decode_area, area_in}
use Rattle.space_map.specs.Table.{place_of}
use Rattle.page_scan.specs.Theorems.{IsWorkedOut}
use Rattle.page_scan.specs.Worked.{full_words_with, mixed_words_with, words_with}

pub is_worked_out : IsWorkedOut
unfolding decode tag_of pointer_word decode_area area_in place_of alone words_with full_words_with mixed_words_with
is_worked_out = record {
  on_board = record { steps = refl; ends = refl };
  on_board_asks = record { steps = refl; ends = refl };
  on_board_goes_on = record { steps = refl; ends = refl };
  on_filling_asks = record { steps = refl; ends = refl };
  on_filling_goes_on = record { steps = refl; ends = refl };
  on_full = record { steps = refl; ends = refl };
  on_mixed_asks = record { steps = refl; ends = refl };
  on_mixed_goes_on = record { steps = refl; ends = refl };
  words = refl;
  full_words = refl;
  mixed_words = refl;
}
