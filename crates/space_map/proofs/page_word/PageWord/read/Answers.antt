use Rattle.std.proofs.Common.{sym, ◌∙◌}
use Rattle.space_map.specs.PageWord.{page_said, decode_page}
use Rattle.space_map.proofs.PageWords.{spelled, no_page_word}
use Rattle.space_map.proofs.StateWords
use Rattle.space_map.proofs.page_word.PageWord.read.Goals as goal

pub returns-in_err-epoch-clause-decoded : goal.returns-in_err-epoch-clause-decoded
unfolding decode_page
returns-in_err-epoch-clause-decoded c =
    c.from_residual.ensures ∙ sym (StateWords.read-no_number page_said c.args.word c.try_from.result c.try_from.ensures c.in_err-epoch.ensures.value)

pub returns-in_err-epoch-clause-none_packs_to_it : goal.returns-in_err-epoch-clause-none_packs_to_it
returns-in_err-epoch-clause-none_packs_to_it c = no_page_word c.args.word _ (returns-in_err-epoch-clause-decoded c)

pub returns-in_err-worker-clause-decoded : goal.returns-in_err-worker-clause-decoded
unfolding decode_page
returns-in_err-worker-clause-decoded c =
    c.from_residual-in_err-worker.ensures
    ∙ sym (StateWords.read-no_worker page_said c.args.word c.try_from-2.result c.try_from-2.ensures c.in_err-worker.ensures.value)

pub returns-in_err-worker-clause-none_packs_to_it : goal.returns-in_err-worker-clause-none_packs_to_it
returns-in_err-worker-clause-none_packs_to_it c = no_page_word c.args.word _ (returns-in_err-worker-clause-decoded c)

pub returns-clause-decoded : goal.returns-clause-decoded
unfolding decode_page
returns-clause-decoded c =
    c.said.ensures
    ∙ sym (
    StateWords.read-both page_said c.args.word c.in_ok-worker.worker c.in_ok-epoch.epoch c.try_from.result c.try_from-2.result c.try_from.ensures
    c.in_ok-epoch.ensures.value c.try_from-2.ensures c.in_ok-worker.ensures.value
    )

pub returns-clause-one_spelling : goal.returns-clause-one_spelling
returns-clause-one_spelling c = spelled c.args.word _ (returns-clause-decoded c)

pub returns-clause-none_packs_to_it : goal.returns-clause-none_packs_to_it
returns-clause-none_packs_to_it c = no_page_word c.args.word _ (returns-clause-decoded c)
