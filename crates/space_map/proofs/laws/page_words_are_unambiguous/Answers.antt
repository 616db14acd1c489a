use Rattle.std.proofs.Common.{arith}
use Rattle.space_map.proofs.PageWords.{decode_page-encode_page, encode_page-decode_page, PageFits-decode_page, encode_page-lt}
use Rattle.space_map.proofs.laws.page_words_are_unambiguous.Goals as goal

pub returns : goal.returns
returns c = record {
  reads_back = decode_page-encode_page;
  one_spelling = encode_page-decode_page;
  parts_fit = PageFits-decode_page;
  is_word = λ page fits. let short = encode_page-lt page fits in omega arith;
}
