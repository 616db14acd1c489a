-- The worked walks, computed from the definition.
use Rattle.std.proofs.Common.{refl}
use Rattle.heap_words.specs.Decoded.{decode}
use Rattle.heap_words.specs.Word.{tag_of}
use Rattle.space_map.specs.PageWord.{decode_page}
use Rattle.space_map.specs.Table.{place_of}
use Rattle.heap_state.specs.Memory.Table.{table_of, word_in}
use Rattle.crossing_map.specs.Walking.{next_in}
use Rattle.crossing_map.specs.Worked.{IsWorkedOut, worked}

pub is_worked_out : IsWorkedOut
unfolding decode tag_of decode_page place_of table_of word_in next_in worked
is_worked_out = record {
  first_copy = refl;
  over_reserved = refl;
  second_new = refl;
  over_closed = refl;
  forward = refl;
  busy = refl;
  blank = refl;
  in_the_middle = refl;
  passes_front = refl;
  unreserved = refl;
}
