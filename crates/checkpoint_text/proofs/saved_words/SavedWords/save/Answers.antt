use Rattle.std.proofs.Common.{ap, ◌∙◌, unwrap_or, Option}
use Rattle.space_map.specs.declared.save_word.SaveWord.{SaveWord}
use Rattle.space_map.specs.declared.save_word.SaveWord.TheVariants.{Unsaved}
use Rattle.heap_state.specs.Saving.Words.{save_said_in, saves_of}
use Rattle.checkpoint_text.proofs.CheckpointPlaces.{save_is}
use Rattle.checkpoint_text.proofs.saved_words.SavedWords.save.Goals as goal

pub returns : goal.returns
unfolding saves_of
returns c =
    c.unwrap_or.ensures ∙ ap (λ (d : Option SaveWord). unwrap_or d Unsaved) c.read.ensures.decoded
    ∙ ap save_said_in (save_is c.args.self.now.spaces.pages c.args.self.now.words.now c.args.page c.save_place.result c.requires c.save_place.ensures.place)
