use Rattle.page_scan.proofs.ScanSteps.{stores_only_answers, asks_of_pointers, asks_at_words, cursor_rises, ends_in_place}
use Rattle.page_scan.proofs.laws.each_word_is_looked_at_once.Goals as goal

pub returns : goal.returns
returns c = record {
  stores_only_answers = stores_only_answers;
  asks_of_pointers = asks_of_pointers;
  asks_at_words = asks_at_words;
  cursor_rises = cursor_rises;
  ends_in_place = ends_in_place;
}
