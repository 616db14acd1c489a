use Rattle.checkpoint_text.proofs.CheckpointPlaces.{snap_is}
use Rattle.checkpoint_text.proofs.saved_words.SavedWords.number.Goals as goal

pub returns : goal.returns
returns c = snap_is _ _ _ c.snap_place.ensures.place
