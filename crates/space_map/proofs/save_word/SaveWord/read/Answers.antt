use Rattle.std.proofs.Common.{sym, ◌∙◌}
use Rattle.space_map.specs.SaveWord.{save_said, decode_save}
use Rattle.space_map.proofs.SaveWords.{spelled, no_save_word}
use Rattle.space_map.proofs.StateWords
use Rattle.space_map.proofs.save_word.SaveWord.read.Goals as goal

pub returns-in_err-number-clause-decoded : goal.returns-in_err-number-clause-decoded
unfolding decode_save
returns-in_err-number-clause-decoded c =
    c.from_residual.ensures ∙ sym (StateWords.read-no_number save_said c.args.word c.try_from.result c.try_from.ensures c.in_err-number.ensures.value)

pub returns-in_err-number-clause-none_packs_to_it : goal.returns-in_err-number-clause-none_packs_to_it
returns-in_err-number-clause-none_packs_to_it c = no_save_word c.args.word _ (returns-in_err-number-clause-decoded c)

pub returns-in_err-worker-clause-decoded : goal.returns-in_err-worker-clause-decoded
unfolding decode_save
returns-in_err-worker-clause-decoded c =
    c.from_residual-in_err-worker.ensures
    ∙ sym (StateWords.read-no_worker save_said c.args.word c.try_from-2.result c.try_from-2.ensures c.in_err-worker.ensures.value)

pub returns-in_err-worker-clause-none_packs_to_it : goal.returns-in_err-worker-clause-none_packs_to_it
returns-in_err-worker-clause-none_packs_to_it c = no_save_word c.args.word _ (returns-in_err-worker-clause-decoded c)

pub returns-clause-decoded : goal.returns-clause-decoded
unfolding decode_save
returns-clause-decoded c =
    c.said.ensures
    ∙ sym (
    StateWords.read-both save_said c.args.word c.in_ok-worker.worker c.in_ok-number.number c.try_from.result c.try_from-2.result c.try_from.ensures
    c.in_ok-number.ensures.value c.try_from-2.ensures c.in_ok-worker.ensures.value
    )

pub returns-clause-one_spelling : goal.returns-clause-one_spelling
returns-clause-one_spelling c = spelled c.args.word _ (returns-clause-decoded c)

pub returns-clause-none_packs_to_it : goal.returns-clause-none_packs_to_it
returns-clause-none_packs_to_it c = no_save_word c.args.word _ (returns-clause-decoded c)
