use Rattle.checkpoint_text.proofs.CheckpointPlaces.{done_is}
use Rattle.checkpoint_text.proofs.saved_words.SavedWords.finished.Goals as goal

pub returns : goal.returns
returns c = done_is _ _ _ c.last_saved_place.ensures.place
