-- What a reading of which checkpoint runs keeps of itself, what is left of it, and what it has read after each of its steps.
use Rattle.std.proofs.Common.{◌≡◌, ◌≢◌, ℕ, zero, suc, ◌^◌, ◌<◌, Bool, true, false, cond, nat_eq, nat_lt, List, Option, Some, None, arith, refl, sym, ap, subst, ◌∙◌}
use Rattle.std.specs.Prelude.{is_some, ⊤}
use Rattle.std.proofs.lemmas.Bool.Decides.{nat_tests}
use Rattle.std.proofs.lemmas.Option.{same_Some}
use Rattle.atom_store.specs.declared.reply.Reply.{Reply}
use Rattle.atom_store.specs.declared.reply.Reply.TheVariants.{Value}
use Rattle.atom_store.specs.declared.turn.Turn.TheVariants.{Finished}
use Rattle.atom_store.specs.Runs.{among, after_step}
use Rattle.space_map.specs.Spaces.{Layout}
use Rattle.space_map.specs.Table as row
use Rattle.space_map.specs.TableWords.{row_word}
use Rattle.gate_core.specs.declared.recall.recalled.Recalled.{Recalled}
use Rattle.gate_core.specs.declared.recall.recall_stage.RecallStage.{RecallStage}
use Rattle.gate_core.specs.declared.recall.recall_stage.RecallStage.TheVariants.{LoadsSnap, LoadsDone, Ended}
use Rattle.gate_core.specs.Checkpoints.{IsWhatWasRead, RecallsTellWhatTheyRead}
use Rattle.gate_core.specs.Recall.{Recalling, begun, recall_machine, wanted, told_at, number_in, running_of, read_snap, read_done, next_stage, taken, left_at, advances_at}
use Rattle.gate_core.specs.Soundness.{IsSoundRecalling, FitsRecallStage}

-- a number that a word is, is the word
number_is : (word number : ℕ) → number_in word ≡ Some number → number ≡ word
number_is word number is = by_test (nat_lt word (2 ^ 32)) is
  where
    by_test : (b : Bool) → cond b (Some word) None ≡ Some number → number ≡ word
    by_test true e = sym (same_Some word number e)
    by_test false e = absurd (cc)

-- ---- what it keeps of itself

sound_number : (word : ℕ) (o : Option ℕ) → number_in word ≡ o → FitsRecallStage (read_snap o)
sound_number word (Some number) is = by_test (nat_lt word (2 ^ 32)) refl is
  where
    by_test : (b : Bool) → nat_lt word (2 ^ 32) ≡ b → cond b (Some word) None ≡ Some number → number < 2 ^ 32
    by_test true test e = let same : word ≡ number = same_Some word number e in subst (λ (x : ℕ). x < 2 ^ 32) same (grind (arith, nat_tests))
    by_test false test e = absurd (cc)
sound_number word None is = tt

sound_end : (number : ℕ) (o : Option ℕ) → number < 2 ^ 32 → FitsRecallStage (read_done number o)
sound_end number (Some done) fits = fits
sound_end number None fits = fits

stage_stays_sound : (stage : RecallStage) (reply : Reply) → FitsRecallStage stage → FitsRecallStage (next_stage stage reply)
stage_stays_sound LoadsSnap (Value word) fits = sound_number word (number_in word) refl
stage_stays_sound (LoadsDone number) (Value word) fits = sound_end number (number_in word) fits
stage_stays_sound LoadsSnap _ fits = tt
stage_stays_sound _ _ fits = fits

-- whatever word is read
pub recall_stays_sound : (r : Recalling) (reply : Reply) → IsSoundRecalling r → IsSoundRecalling (taken r reply)
recall_stays_sound r reply sound = record { pages = sound.pages; stage = stage_stays_sound r.stage reply sound.stage }

-- ---- what is left

by_snap_number : (o : Option ℕ) → is_some o ≡ true → left_at (read_snap o) < 2
by_snap_number (Some number) is = omega arith
by_snap_number None is = absurd (cc)

by_done_number : (number : ℕ) (o : Option ℕ) → is_some o ≡ true → left_at (read_done number o) < 1
by_done_number number (Some done) is = omega arith
by_done_number number None is = absurd (cc)

pub recalls_lower : (stage : RecallStage) (reply : Reply) → advances_at stage reply ≡ true → left_at (next_stage stage reply) < left_at stage
recalls_lower LoadsSnap (Value word) on = by_snap_number (number_in word) on
recalls_lower (LoadsDone number) (Value word) on = by_done_number number (number_in word) on
recalls_lower _ _ on = absurd (cc)

-- ---- what it has read

none_runs : (number done : ℕ) → done ≡ number → running_of number done ≡ 0
none_runs number done same = let test : nat_eq done number ≡ true = grind (arith, nat_tests) in rw test refl

it_runs : (number done : ℕ) → done ≢ number → running_of number done ≡ number
it_runs number done other = let test : nat_eq done number ≡ false = grind (arith, nat_tests) in rw test refl

module _ (layout : Layout) (met : ℕ → List ℕ) where
  abbrev at : RecallStage → Recalling
  at stage = record { layout = layout; stage = stage }

  -- the words of the two rows, as a step met them
  abbrev snap_met : ℕ → ℕ
  snap_met n = row_word layout.pages row.SnapNumber (met n)

  abbrev done_met : ℕ → ℕ
  done_met n = row_word layout.pages row.LastSaved (met n)

  -- a step before met this number of the last checkpoint begun
  record WasLoaded (n number : ℕ) : Type 0 where
    step : ℕ
    earlier : step < n
    is : number ≡ snap_met step

  abbrev HasRead : ℕ → RecallStage → Type 0
  HasRead n LoadsSnap = ⊤
  HasRead n (LoadsDone number) = WasLoaded n number
  HasRead n (Ended result) = IsWhatWasRead layout met n result

  by_snap : (n : ℕ) (o : Option ℕ) → number_in (snap_met n) ≡ o → HasRead (suc n) (read_snap o)
  by_snap n (Some number) is = record { step = n; earlier = omega arith; is = number_is (snap_met n) number is }
  by_snap n None is = tt

  by_done : (n number : ℕ) (o : Option ℕ) → WasLoaded n number → number_in (done_met n) ≡ o → HasRead (suc n) (read_done number o)
  by_done n number (Some done) was is =
      let same = number_is (done_met n) done is in
      record {
        snap_at = was.step;
        done_at = n;
        earlier = was.earlier;
        within = omega arith;
        number = was.is;
        none_runs = λ e. none_runs number done (same ∙ e);
        it_runs = λ other. it_runs number done (λ e. other (sym same ∙ e));
      }
  by_done n number None was is = record { step = was.step; earlier = (let e = was.earlier in omega arith); is = was.is }

  -- nothing is read after the end
  by_end : (n : ℕ) (result : Recalled) → IsWhatWasRead layout met n result → IsWhatWasRead layout met (suc n) result
  by_end n result r = record {
    snap_at = r.snap_at;
    done_at = r.done_at;
    earlier = r.earlier;
    within = (let e = r.within in omega arith);
    number = r.number;
    none_runs = r.none_runs;
    it_runs = r.it_runs;
  }

  -- the machine after some steps, and what it has read by then
  record Reads (n : ℕ) (r : Recalling) : Type 0 where
    stage : RecallStage
    is : r ≡ at stage
    has_read : HasRead n stage

  one_more : (n : ℕ) (stage : RecallStage) → HasRead n stage → Reads (suc n) (after_step recall_machine (at stage) (wanted (at stage)) (met n))
  one_more n LoadsSnap was = record { stage = read_snap (number_in (snap_met n)); is = refl; has_read = by_snap n (number_in (snap_met n)) refl }
  one_more n (LoadsDone number) was =
      record { stage = read_done number (number_in (done_met n)); is = refl; has_read = by_done n number (number_in (done_met n)) was refl }
  one_more n (Ended result) was = record { stage = Ended result; is = refl; has_read = by_end n result was }

  reads : (n : ℕ) → Reads n (among recall_machine (begun layout) met n)
  unfolding among
  reads zero = record { stage = LoadsSnap; is = refl; has_read = tt }
  reads (suc n) =
      let before = reads n in
      subst (λ (r : Recalling). Reads (suc n) (after_step recall_machine r (wanted r) (met n))) (sym before.is) (one_more n before.stage before.has_read)

  tells : (n : ℕ) (stage : RecallStage) (result : Recalled) → HasRead n stage → told_at stage ≡ Finished result → IsWhatWasRead layout met n result
  tells n (Ended found) result was e = let same : found ≡ result = cc in subst (λ (x : Recalled). IsWhatWasRead layout met n x) same was
  tells n LoadsSnap result was e = absurd (cc)
  tells n (LoadsDone number) result was e = absurd (cc)

pub recalls_tell_what_they_read : RecallsTellWhatTheyRead
recalls_tell_what_they_read layout met steps result told =
    let all = reads layout met steps in
    tells layout met steps all.stage result all.has_read (sym (ap (λ (r : Recalling). told_at r.stage) all.is) ∙ told)
