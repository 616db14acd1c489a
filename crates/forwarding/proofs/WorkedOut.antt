-- The worked copy, computed from the table.
use Rattle.std.proofs.Common.{refl}
use Rattle.atom_store.specs.Runs.{alone}
use Rattle.heap_words.specs.Decoded.{decode}
use Rattle.heap_words.specs.Word.{tag_of, busy_word, forward_word}
use Rattle.space_map.specs.AreaWord.{decode_area, area_in, encode_area}
use Rattle.space_map.specs.Table.{place_of}
use Rattle.forwarding.specs.Theorems.{IsWorkedOut}
use Rattle.forwarding.specs.Worked.{words_replied, longest_replies, words_before, words_after}

pub is_worked_out : IsWorkedOut
unfolding decode tag_of busy_word forward_word decode_area area_in encode_area place_of alone words_replied longest_replies words_before words_after
is_worked_out = record {
  copy = record { steps = refl; ends = refl };
  second = record { steps = refl; ends = refl };
  taken_by_another = record { steps = refl; ends = refl };
  header_lost = record { steps = refl; ends = refl };
  low_moved = record { steps = refl; ends = refl };
  front_moved = record { steps = refl; ends = refl };
  over_two_pages = record { steps = refl; ends = refl };
  header_alone = record { steps = refl; ends = refl };
  cell = record { steps = refl; ends = refl };
  weak_lost = record { steps = refl; ends = refl };
  reserves_longest = refl;
  crosses_first = refl;
  crosses_last = refl;
  forwards_longest = refl;
  ends_longest = refl;
  words = refl;
  words_stay = refl;
}
