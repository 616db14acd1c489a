use Rattle.gc_worker.proofs.History.Loads.{exchanges_find_the_last_store, loads_get_the_last_store, words_are_stored, words_begin_as_zero}
use Rattle.gc_worker.proofs.history_laws.loads_get_the_last_store.Goals as goal

pub returns : goal.returns
returns c = record { loads = loads_get_the_last_store; exchanges = exchanges_find_the_last_store; words = words_are_stored; first = words_begin_as_zero }
