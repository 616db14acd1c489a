-- What a save does in order, once it has won its exchange.
use Rattle.std.proofs.Common.{◌≡◌, ℕ, zero, suc, ◌+◌, ◌*◌, ◌<◌, Bool, true, false, nat_eq, List, refl, ap, ◌∙◌, subst, arith}
use Rattle.std.proofs.lemmas.Bool.{lt-ltb}
use Rattle.std.proofs.lemmas.Bool.Decides.{nat_tests}
use Rattle.atom_store.specs.declared.turn.Turn.TheVariants.{Finished}
use Rattle.atom_store.specs.Runs.{among, after_step}
use Rattle.space_map.specs.SaveWord.{encode_save}
use Rattle.space_map.specs.Table.{HeapWord, SaveOf}
use Rattle.page_saves.specs.declared.save_end.SaveEnd.TheVariants.{Saved, Taken}
use Rattle.page_saves.specs.declared.save_stage.SaveStage.{SaveStage}
use Rattle.page_saves.specs.declared.save_stage.SaveStage.TheVariants.{Exchanges, LoadsWord, StoresImage, StoresSaved, Ended}
use Rattle.page_saves.specs.Save.{PageSaving, save_machine, wanted, told, after_word, word_of_page}
use Rattle.page_saves.specs.Theorems.{SavesInOrder, WonSavesCopy, EndedSavesCopied}
use Rattle.space_map.specs.WholeTable.{Within, Behind, whole_word}

module _ (s : PageSaving) (met : ℕ → List ℕ) where
  -- after so many steps the save is at this stage
  abbrev IsAt : ℕ → SaveStage → Type 0
  IsAt n x = among save_machine s met n ≡ record s { stage = x }

  -- one step more
  abbrev then_at : SaveStage → ℕ → PageSaving
  then_at x n = after_step save_machine (record s { stage = x }) (wanted (record s { stage = x })) (met n)

  step : (n : ℕ) (x : SaveStage) → IsAt n x → among save_machine s met (suc n) ≡ then_at x n
  unfolding among
  step n x at = ap (λ z. after_step save_machine z (wanted z) (met n)) at

  abbrev said : ℕ
  said = whole_word s.layout.pages (Behind (SaveOf s.page)) (met 0)

  module _ (begins : s.stage ≡ Exchanges) where
    first : IsAt 0 Exchanges
    unfolding among
    first = λ i. record s { stage = begins i }

    module _ (won : said ≡ encode_save s.found) where
      test : nat_eq said (encode_save s.found) ≡ true
      test = grind (arith, nat_tests)

      abbrev word_at : ℕ → ℕ → ℕ
      word_at n i = whole_word s.layout.pages (Within (HeapWord (word_of_page s.page i))) (met n)

      begun : IsAt 1 (LoadsWord 0)
      begun = step 0 Exchanges first ∙ rw test refl

      loaded : (n i : ℕ) → IsAt n (LoadsWord i) → IsAt (suc n) (StoresImage i (word_at n i))
      loaded n i at = step n (LoadsWord i) at

      stored : (n i : ℕ) → IsAt n (LoadsWord i) → IsAt (suc (suc n)) (after_word i)
      stored n i at = step (suc n) (StoresImage i (word_at n i)) (loaded n i at)

      -- the word is loaded after so many steps
      word : (i : ℕ) → i < 64 → IsAt (2 * i + 1) (LoadsWord i)
      word zero below = begun
      word (suc i) below =
          let n : ℕ = 2 * i + 1 in
          let later : suc (suc n) ≡ 2 * suc i + 1 = omega arith in
          let next : i + 1 ≡ suc i = omega arith in
          let P : ℕ → Type 0 = λ k. IsAt k (LoadsWord (suc i)) in
          let Q : ℕ → Type 0 = λ k. IsAt (suc (suc n)) (LoadsWord k) in
          subst P later (subst Q next (stored n i (word i (omega arith)) ∙ rw (lt-ltb (i + 1) 64 (omega arith)) refl))

      stores : (i : ℕ) → i < 64 → IsAt (2 * i + 2) (StoresImage i (word_at (2 * i + 1) i))
      stores i below =
          let later : suc (2 * i + 1) ≡ 2 * i + 2 = omega arith in
          let P : ℕ → Type 0 = λ k. IsAt k (StoresImage i (word_at (2 * i + 1) i)) in
          subst P later (loaded (2 * i + 1) i (word i below))

      says : IsAt 129 StoresSaved
      says = stored 127 63 (word 63 (omega arith))

      ends : IsAt 130 (Ended Saved)
      ends = step 129 StoresSaved says

      pub in_order : SavesInOrder s met
      in_order = record {
        won = won;
        loads = λ i below. ap wanted (word i below);
        stores = λ i below. ap wanted (stores i below);
        says = ap wanted says;
        ends = ap told ends;
      }

    -- a lost exchange ends the save for good
    lost_one : nat_eq said (encode_save s.found) ≡ false → IsAt 1 (Ended (Taken said))
    lost_one test = step 0 Exchanges first ∙ rw test refl

    lost_on : (n : ℕ) → nat_eq said (encode_save s.found) ≡ false → IsAt (suc n) (Ended (Taken said))
    lost_on zero test = lost_one test
    lost_on (suc n) test = step (suc n) (Ended (Taken said)) (lost_on n test)

    never : (n : ℕ) → nat_eq said (encode_save s.found) ≡ false → told (among save_machine s met n) ≡ Finished Saved → ⊥
    never zero test tells = let more = ap told first in cc
    never (suc n) test tells = let taken = ap told (lost_on n test) in cc

    pub ended : (n : ℕ) → told (among save_machine s met n) ≡ Finished Saved → SavesInOrder s met
    ended n tells = by_test (nat_eq said (encode_save s.found)) refl
      where
        by_test : (b : Bool) → nat_eq said (encode_save s.found) ≡ b → SavesInOrder s met
        by_test true test = in_order (grind (arith, nat_tests))
        by_test false test = absurd (never n test tells)

pub won_saves_copy : WonSavesCopy
won_saves_copy s met begins won = in_order s met begins won

pub ended_saves_copied : EndedSavesCopied
ended_saves_copied s met n begins tells = ended s met begins n tells
