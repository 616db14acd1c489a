-- What a page's SAVE says to a lone mutator, and what its other rows leave of what is still to be paid for a checkpoint.
use Rattle.std.proofs.Common.{◌≡◌, ◌≢◌, ℕ, ◌<◌, ◌==◌, Bool, true, false, cond, None, nat_lt, refl, sym, ◌∙◌, arith}
use Rattle.std.proofs.lemmas.Bool.{eqb-true, eqb-false, ltb-false}
use Rattle.space_map.specs.declared.save_word.SaveWord.{SaveWord}
use Rattle.space_map.specs.declared.save_word.SaveWord.TheVariants.{Unsaved, Saving}
use Rattle.space_map.specs.SaveWord.{number_of}
use Rattle.page_saves.specs.declared.save_state.SaveState.{SaveState}
use Rattle.page_saves.specs.declared.save_state.SaveState.TheVariants.{Waits, Copying, Past}
use Rattle.page_saves.specs.SaveState.{state_of, state_within}
use Rattle.heap_state.specs.Configuration.{Configuration}
use Rattle.heap_state.specs.Saving.Words.{Saves}
use Rattle.gc_worker.specs.Workers.Held.{Held}
use Rattle.gc_worker.specs.Workers.Saves.{saver_of}
use Rattle.lone_mutator.specs.Law.{SavesStand, saves}
use Rattle.lone_mutator.specs.Saving.{saving_in, saving_left, unsaved}

-- ---- by its state

-- a page that is being saved has a worker
record IsSaving (says : SaveWord) : Type 0 where
  worker : ℕ
  is : says ≡ Saving (number_of says) worker

within_saving : (says : SaveWord) → state_within says ≡ Copying → IsSaving says
within_saving (Saving c worker) is = record { worker = worker; is = refl }
within_saving _ is = absurd (cc)

within_last : (says : SaveWord) → state_within says ≢ Past
within_last Unsaved is = cc
within_last _ is = cc

module _ (says : SaveWord) (number : ℕ) where
  abbrev State : Bool → Bool → SaveState
  State earlier same = cond earlier Waits (cond same (state_within says) Past)

  saving_by : (earlier same : Bool) → (number_of says == number) ≡ same → State earlier same ≡ Copying → (number_of says ≡ number) × IsSaving says
  saving_by true same test is = absurd (cc)
  saving_by false true test is = (eqb-true (number_of says) number test, within_saving says is)
  saving_by false false test is = absurd (cc)

  is_saving : state_of says number ≡ Copying → (number_of says ≡ number) × IsSaving says
  is_saving is = saving_by (nat_lt (number_of says) number) (number_of says == number) refl is

  later_by : (earlier same : Bool) → nat_lt (number_of says) number ≡ earlier → (number_of says == number) ≡ same → State earlier same ≡ Past → number < number_of says
  later_by true same less equal is = absurd (cc)
  later_by false true less equal is = absurd (within_last says is)
  later_by false false less equal is =
      let most = ltb-false (number_of says) number less in
      let other = eqb-false (number_of says) number equal in
      omega (arith, most, other)

  is_later : state_of says number ≡ Past → number < number_of says
  is_later is = later_by (nat_lt (number_of says) number) (number_of says == number) refl refl is

-- ---- to a lone mutator

module _ (c : Configuration) (x : Held) (stands : SavesStand c x) (page : ℕ) where
  -- no other saves it
  pub none_saves : (number : ℕ) → (saver_of x).save ≡ None → state_of ((saves c).save page) number ≢ Copying
  none_saves number none is =
      let saving = is_saving ((saves c).save page) number is in
      let won = stands.savers page (number_of ((saves c).save page)) saving.1.worker saving.1.is in
      absurd (let other = sym none ∙ won.is in cc)

  -- and none is of a later checkpoint than the last
  pub none_later : (number : ℕ) → number ≡ (saves c).snap → state_of ((saves c).save page) number ≢ Past
  none_later number last is = let later = is_later ((saves c).save page) number is in let young = stands.words.young page in omega (arith, later, young, last)

-- ---- what is still to be paid

-- an image changes nothing of it
pub saving_in-images : (checkpoints : Bool) (n : ℕ) (s : Saves) (image : ℕ → ℕ) → saving_in checkpoints n (record s { image = image }) ≡ saving_in checkpoints n s
unfolding saving_left unsaved
saving_in-images true n s image = refl
saving_in-images false n s image = refl
