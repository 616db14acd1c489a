use Rattle.std.proofs.Common.{arith}
use Rattle.space_map.proofs.SaveWords.{decode_save-encode_save, encode_save-decode_save, SaveFits-decode_save, encode_save-lt}
use Rattle.space_map.proofs.laws.save_words_are_unambiguous.Goals as goal

pub returns : goal.returns
returns c = record {
  reads_back = decode_save-encode_save;
  one_spelling = encode_save-decode_save;
  parts_fit = SaveFits-decode_save;
  is_word = λ save fits. let short = encode_save-lt save fits in omega arith;
}
