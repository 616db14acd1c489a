use Rattle.heap_words.proofs.Spelling.{decode-encode, encode-decode, encode-below}
use Rattle.heap_words.proofs.Ranges.{IsInRange-decode}
use Rattle.heap_words.proofs.laws.words_are_unambiguous.Goals as goal

pub returns : goal.returns
returns c = record { reads_back = decode-encode; one_spelling = encode-decode; parts_fit = IsInRange-decode; is_word = encode-below }
