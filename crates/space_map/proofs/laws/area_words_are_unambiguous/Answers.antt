use Rattle.std.proofs.Common.{arith}
use Rattle.space_map.proofs.AreaWords.{decode_area-encode_area, encode_area-decode_area, AreaFits-decode_area, encode_area-lt}
use Rattle.space_map.proofs.laws.area_words_are_unambiguous.Goals as goal

pub returns : goal.returns
returns c = record {
  reads_back = decode_area-encode_area;
  one_spelling = encode_area-decode_area;
  parts_fit = AreaFits-decode_area;
  is_word = λ area fits. let short = encode_area-lt area fits in omega arith;
}
