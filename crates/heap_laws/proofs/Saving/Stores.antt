-- Rows of checkpoints: what a load there reads, and what is said of checkpoints after a row is written, or none.
use Rattle.std.proofs.Common.{◌≡◌, Some, None, refl, sym}
use Rattle.space_map.specs.declared.save_word.SaveWord.TheVariants.{Unsaved}
use Rattle.space_map.specs.SaveWord.{decode_save}
use Rattle.space_map.proofs.Rows.{is_save_row-decides}
use Rattle.space_map.proofs.SaveWords.{encode_save-decode_save, SaveFits-decode_save}
use Rattle.heap_state.specs.Saving.Words.{save_word_in, save_said_in, saves_of}
use Rattle.heap_state.proofs.Table.CheckpointRows.{said_after}
use Rattle.heap_laws.specs.Saving.Stores.{SavesAreRead, BlankWordsSaveNothing, SavesFollow}

-- ---- loads

-- a word that is 0 says nothing of its page
said_some : decode_save 0 ≡ Some (save_said_in 0)
unfolding decode_save
said_some = refl

said_blank : save_said_in 0 ≡ Unsaved
unfolding decode_save
said_blank = refl

pub saves_are_read : SavesAreRead
unfolding saves_of save_word_in
saves_are_read = record {
  rows = λ n words row is. rw ((is_save_row-decides n row).1 is) refl;
  saves = λ n words formed page most. sym (encode_save-decode_save _ _ (formed.saves page most));
  fits = λ n words formed page most. SaveFits-decode_save _ _ (formed.saves page most);
}

pub blank_words_save_nothing : BlankWordsSaveNothing
unfolding saves_of
blank_words_save_nothing n words snap done blank = record {
  none = record { snap = snap; done = done; save = λ page. rw (blank page) said_blank; held = λ page. refl };
  formed = λ whole. record { whole = whole; saves = λ page most. rw (blank page) said_some };
}

-- ---- a row with what it says

pub saves_follow : SavesFollow
saves_follow n words None formed fits = record { says = refl; formed = formed }
saves_follow n words (Some e) formed fits = let said = said_after n words e formed fits in record { says = said.0; formed = said.1 }
