use Rattle.atom_store.proofs.StepWords.{length-words_after, slice_index-words_after, slice_index-stored, won_exactly, slice_index-won, lost_tells_another, words_after-lost}
use Rattle.atom_store.proofs.laws.steps_touch_one_word.Goals as goal

pub returns : goal.returns
returns c = record {
  length_stays = length-words_after;
  others_stay = slice_index-words_after;
  stored = slice_index-stored;
  won_exactly = won_exactly;
  won_changes = slice_index-won;
  lost_tells_another = lost_tells_another;
  lost_changes_nothing = words_after-lost;
}
