-- The configuration in which a checkpoint is in progress, as its words are.
use Rattle.std.proofs.Common.{◌≡◌, ℕ, ◌≤◌, refl, sym, ap, ◌∙◌, arith}
use Rattle.space_map.specs.declared.save_word.SaveWord.{SaveWord}
use Rattle.space_map.specs.SaveWord.{encode_save}
use Rattle.space_map.specs.Table.{SaveOf}
use Rattle.space_map.proofs.SaveWords.{encode_save-decode_save}
use Rattle.heap_state.specs.Examples.Saving.{saving_entries}
use Rattle.heap_state.specs.Functions.{put}
use Rattle.heap_state.specs.Memory.Entries.{EachFits, HasSizes}
use Rattle.heap_state.specs.Saving.Words.{saves_of, save_word_in, Saves}
use Rattle.heap_state.specs.Saving.Written.{written_whole}
use Rattle.heap_state.specs.Theorems.Examples.{IsWorkedOutSaving}
use Rattle.heap_state.specs.Theorems.Saves.{WrittenWhole}
use Rattle.heap_state.proofs.Saving.CheckpointWords.{saving_saves, save_2, save_3, save_8}
use Rattle.heap_state.proofs.Saving.SavingStands.{stands}
use Rattle.heap_state.proofs.Saving.Picture.{picture}
use Rattle.heap_state.proofs.Table.Writing.{writes_whole_tables}

pub entries_fit : EachFits 4 saving_entries
entries_fit = (omega arith, (omega arith, (omega arith, (omega arith, (record { epoch_fits = omega arith; live_fits = omega arith; running_fits = omega arith; behind_fits = omega arith; left_fits = omega arith }, (tt, ((omega arith, record { front_fits = omega arith; low_fits = omega arith; owed_fits = omega arith }), ((omega arith, record { front_fits = omega arith; low_fits = omega arith; owed_fits = omega arith }), (tt, ((omega arith, omega arith, omega arith), ((omega arith, omega arith, omega arith), ((omega arith, omega arith), ((omega arith, omega arith), ((omega arith, omega arith), (tt, (tt, ((omega arith, omega arith), ((omega arith, omega arith), ((omega arith, (omega arith, omega arith)), (omega arith, (omega arith, (omega arith, tt))))))))))))))))))))))

pub has_sizes : HasSizes saving_entries
has_sizes = record { first = (4, (9, omega arith, refl)); second = (4, (10, omega arith, refl)) }

table_is : WrittenWhole 4 saving_entries
table_is = writes_whole_tables 4 saving_entries entries_fit has_sizes

-- the word of a page's SAVE that says this
word_is : (page : ℕ) (v : SaveWord) → page ≤ 8 → saving_saves.save page ≡ v → save_word_in 4 (written_whole 4 saving_entries) (SaveOf page) ≡ encode_save v
unfolding saves_of
word_is page v l e = sym (encode_save-decode_save _ _ (table_is.saves_formed.saves page l)) ∙ ap encode_save (ap (λ (s : Saves). s.save page) table_is.saves ∙ e)

pub worked_out : IsWorkedOutSaving
unfolding put encode_save
worked_out = record {
  formed = table_is.formed;
  saves_formed = table_is.saves_formed;
  stands = rw (table_is.says, table_is.saves) stands;
  picture = picture;
  page_2 = word_is 2 _ (omega arith) save_2;
  page_3 = word_is 3 _ (omega arith) save_3;
  page_8 = word_is 8 _ (omega arith) save_8;
  field = rw (table_is.says, table_is.saves) refl;
  board = rw (table_is.says, table_is.saves) refl;
}
