-- What is read of the last checkpoint is as it was then.
use Rattle.std.proofs.Common.{◌≡◌, ◌≢◌, ℕ, ◌<◌, ⊎_elim, true, false, refl, ap, arith}
use Rattle.std.proofs.lemmas.Bool.{cases_Bool, cases_eq, eq-eqb, ne_eqb, eqb-true}
use Rattle.space_map.specs.declared.save_word.SaveWord.{SaveWord}
use Rattle.space_map.specs.declared.save_word.SaveWord.TheVariants.{Saved}
use Rattle.space_map.specs.Spaces.{page_of}
use Rattle.heap_state.specs.Memory.Table.{table_of}
use Rattle.heap_state.specs.Saving.Words.{saves_of, is_saved_for}
use Rattle.heap_state.specs.Theorems.Saves.{WordsReadAreFrozen, CheckpointsAreSaid}
use Rattle.heap_state.proofs.Puts.{true_false}

-- the test tells which SAVE says that the page is saved
saved_for : (c : ℕ) (v : SaveWord) → is_saved_for c v ≡ true → v ≡ Saved c
saved_for c (Saved number) is = ap Saved (eqb-true number c is)
saved_for c _ is = cc

saved_tested : (c : ℕ) (v : SaveWord) → v ≡ Saved c → is_saved_for c v ≡ true
saved_tested c v is = rw is (eq-eqb c c refl)

pub words_read_are_frozen : WordsReadAreFrozen
words_read_are_frozen t s z x w held = ⊎_elim
    (λ (rests : s.done ≡ s.snap). rw (eq-eqb s.done s.snap rests) (w.done rests x held))
    (λ (moves : s.done ≢ s.snap).
    let order = w.order.0 in
    let runs : s.done < s.snap = omega (arith, order, moves) in
    ⊎_elim
    (λ (is : is_saved_for s.snap (s.save (page_of x)) ≡ true). rw (ne_eqb s.done s.snap moves, is) (w.saved runs x held (saved_for s.snap (s.save (page_of x)) is)))
    (λ (other : is_saved_for s.snap (s.save (page_of x)) ≡ false).
    rw (ne_eqb s.done s.snap moves, other) (w.unsaved runs x held (λ is. true_false other (saved_tested s.snap (s.save (page_of x)) is))))
    (cases_Bool (is_saved_for s.snap (s.save (page_of x)))))
    (cases_eq s.done s.snap)

pub checkpoints_are_said : CheckpointsAreSaid
unfolding table_of
checkpoints_are_said n words z count saver heap formed stands shows = record {
  frozen = z;
  formed = formed;
  number_is = shows.number;
  picture = λ some. shows.keeps (let number = shows.number in omega (arith, number, some));
  within = stands.words.within;
  read = λ some x held. words_read_are_frozen (table_of n words) (saves_of n words) z x stands.words held;
}
