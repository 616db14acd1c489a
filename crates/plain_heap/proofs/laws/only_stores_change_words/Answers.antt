use Rattle.plain_heap.proofs.Calls.RecordsAfterCalls.{exchanges_find_the_word, loads_take_the_word, only_stores_change_words}
use Rattle.plain_heap.proofs.laws.only_stores_change_words.Goals as goal

pub returns : goal.returns
returns c = record { stores = only_stores_change_words; loads = loads_take_the_word; exchanges = exchanges_find_the_word }
