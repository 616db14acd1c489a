-- What a save round has read by the time that it looks at pages.
use Rattle.std.proofs.Common.{◌≡◌, ℕ, zero, suc, Bool, true, false, cond, nat_eq, List, Option, Some, None, arith, refl, sym, ap, ◌∙◌, subst}
use Rattle.std.specs.Prelude.{⊤}
use Rattle.std.proofs.lemmas.Bool.Decides.{nat_tests}
use Rattle.atom_store.specs.declared.step.Step.{Step}
use Rattle.atom_store.specs.declared.step.Step.TheVariants.{Load}
use Rattle.atom_store.specs.Runs.{among, after_step}
use Rattle.atom_store.specs.Step.{reply_of}
use Rattle.space_map.specs.declared.gate_word.GateWord.{GateWord}
use Rattle.space_map.specs.GateWord.{decode_gate}
use Rattle.space_map.specs.Table.{Gate, SnapNumber, LastSaved}
use Rattle.page_saves.specs.declared.save_caller.SaveCaller.{SaveCaller}
use Rattle.page_saves.specs.declared.save_caller.SaveCaller.TheVariants.{Mutates, Scans}
use Rattle.page_saves.specs.declared.save_round_end.SaveRoundEnd.TheVariants.{NoneRuns, NothingNow}
use Rattle.page_saves.specs.declared.save_round_stage.SaveRoundStage.{SaveRoundStage}
use Rattle.page_saves.specs.declared.save_round_stage.SaveRoundStage.TheVariants.{LoadsGate, LoadsSnap, LoadsDone, LoadsGateAgain, Ended}
use Rattle.page_saves.specs.RoundTheorems.{HasLoaded, HasEpoch, HasReadSnap, HasReadDone, HasReadAll, IsBegun, ByMutator, ByScanner, IsAtPages, NoneRunsIsShown, RoundsReadFirst, round_after, word_of_row}
use Rattle.page_saves.specs.SaveRound
use Rattle.page_saves.specs.SaveRound.{SavingRound, wanted, at_stage, save_round_machine}
use Rattle.space_map.specs.WholeTable.{WholeRow, Within, whole_place_of}
use Rattle.page_saves.proofs.PageLooks.{IsPastReads, goes_past}
use Rattle.page_saves.proofs.RoundEnds.{number_is}
use Rattle.page_saves.proofs.SaveRoundEffects.{none_runs}

module _ (begun : SavingRound) (met : ℕ → List ℕ) where
  -- ---- one step more

  abbrev pub then_at : ℕ → SavingRound → SaveRoundStage → SavingRound
  then_at n r stage = after_step save_round_machine (at_stage r stage) (wanted (at_stage r stage)) (met n)

  -- what is loaded now is loaded then
  abbrev pub now : (n : ℕ) (r : SavingRound) (pages : ℕ) (row : WholeRow) → round_after begun met n ≡ r → wanted r ≡ Some (Load (whole_place_of pages row))
      → HasLoaded begun met (suc n) pages row
  now n r pages row is wants = record { at = n; before = omega arith; wants = ap wanted is ∙ wants }

  abbrev pub later : (n pages : ℕ) (row : WholeRow) → HasLoaded begun met n pages row → HasLoaded begun met (suc n) pages row
  later n pages row load = record { at = load.at; before = (let before = load.before in omega (arith, before)); wants = load.wants }

  later_epoch : (n pages epoch : ℕ) (caller : SaveCaller) → HasEpoch begun met n pages epoch caller → HasEpoch begun met (suc n) pages epoch caller
  later_epoch n pages epoch Mutates has = tt
  later_epoch n pages epoch (Scans mutators) has =
      record { load = later n pages (Within Gate) has.load; gate = has.gate; says = has.says; same = has.same }

  later_snap : (n pages epoch number : ℕ) (caller : SaveCaller) → HasReadSnap begun met n pages epoch number caller → HasReadSnap begun met (suc n) pages epoch number caller
  later_snap n pages epoch number caller has = record { load = later n pages (Within SnapNumber) has.load; same = has.same; earlier = has.earlier }

  later_done : (n pages epoch number : ℕ) (caller : SaveCaller) → HasReadDone begun met n pages epoch number caller → HasReadDone begun met (suc n) pages epoch number caller
  later_done n pages epoch number caller has = record { load = later n pages (Within LastSaved) has.load; other = has.other; earlier = has.earlier }

  later_all : (n pages epoch number : ℕ) (caller : SaveCaller) → HasReadAll begun met n pages epoch number caller → HasReadAll begun met (suc n) pages epoch number caller
  later_all n pages epoch number Mutates has = later_done n pages epoch number Mutates has
  later_all n pages epoch number (Scans mutators) has =
      record { load = later n pages (Within Gate) has.load; gate = has.gate; says = has.says; same = has.same; earlier = has.earlier }

  -- ---- what has been read, by the stage

  abbrev HasReadAt : ℕ → SavingRound → SaveRoundStage → Type 0
  HasReadAt n r LoadsGate = ⊤
  HasReadAt n r LoadsSnap = HasEpoch begun met n r.layout.pages r.epoch r.caller
  HasReadAt n r LoadsDone = HasReadSnap begun met n r.layout.pages r.epoch r.number r.caller
  HasReadAt n r LoadsGateAgain = HasReadDone begun met n r.layout.pages r.epoch r.number r.caller
  HasReadAt n r (Ended result) = ⊤
  HasReadAt n r _ = HasReadAll begun met n r.layout.pages r.epoch r.number r.caller

  abbrev HasReadBy : ℕ → SavingRound → Type 0
  HasReadBy n r = HasReadAt n r r.stage

  gate_read : (n : ℕ) (r : SavingRound) (caller : SaveCaller) (gate : GateWord) → round_after begun met n ≡ at_stage r LoadsGate
      → decode_gate (word_of_row r (Within Gate) (met n)) ≡ Some gate → HasEpoch begun met (suc n) r.layout.pages gate.epoch caller
  gate_read n r Mutates gate is says = tt
  gate_read n r (Scans mutators) gate is says =
      record { load = now n (at_stage r LoadsGate) r.layout.pages (Within Gate) is refl; gate = gate; says = says; same = refl }

  at_gate : (n : ℕ) (r : SavingRound) (o : Option GateWord) → round_after begun met n ≡ at_stage r LoadsGate
      → decode_gate (word_of_row r (Within Gate) (met n)) ≡ o
      → HasReadBy (suc n) (SaveRound.looked_at_gate (at_stage r LoadsGate) (word_of_row r (Within Gate) (met n)) o)
  at_gate n r (Some gate) is says = by_test (SaveRound.all_left r.caller gate)
    where
      by_test : (b : Bool) → HasReadBy (suc n) (cond b (at_stage r (Ended (NothingNow (word_of_row r (Within Gate) (met n))))) (record r { epoch = gate.epoch; stage = LoadsSnap }))
      by_test true = tt
      by_test false = gate_read n r r.caller gate is says
  at_gate n r None is says = tt

  at_snap : (n : ℕ) (r : SavingRound) (o : Option ℕ) → round_after begun met n ≡ at_stage r LoadsSnap
      → SaveRound.number_in (word_of_row r (Within SnapNumber) (met n)) ≡ o → HasEpoch begun met n r.layout.pages r.epoch r.caller
      → HasReadBy (suc n) (SaveRound.found_snap (at_stage r LoadsSnap) o)
  at_snap n r (Some number) is says has = record {
    load = now n (at_stage r LoadsSnap) r.layout.pages (Within SnapNumber) is refl;
    same = sym (number_is (word_of_row r (Within SnapNumber) (met n)) number says);
    earlier = has;
  }
  at_snap n r None is says has = later_epoch n r.layout.pages r.epoch r.caller has

  when_runs : (n : ℕ) (r : SavingRound) (caller : SaveCaller) → r.caller ≡ caller
      → HasReadDone begun met (suc n) r.layout.pages r.epoch r.number caller → HasReadBy (suc n) (at_stage (record r { caller = caller }) (SaveRound.when_one_runs r caller))
  when_runs n r Mutates is has = has
  when_runs n r (Scans mutators) is has = has

  at_done : (n : ℕ) (r : SavingRound) (o : Option ℕ) → round_after begun met n ≡ at_stage r LoadsDone
      → SaveRound.number_in (word_of_row r (Within LastSaved) (met n)) ≡ o → HasReadSnap begun met n r.layout.pages r.epoch r.number r.caller
      → HasReadBy (suc n) (at_stage r (SaveRound.found_done r o))
  at_done n r (Some done) is says has = by_test (nat_eq done r.number) refl
    where
      by_test : (b : Bool) → nat_eq done r.number ≡ b → HasReadBy (suc n) (at_stage r (cond b (Ended (NoneRuns done)) (SaveRound.when_one_runs r r.caller)))
      by_test true test = tt
      by_test false test =
          let read = number_is (word_of_row r (Within LastSaved) (met n)) done says in
          when_runs n r r.caller refl (record {
            load = now n (at_stage r LoadsDone) r.layout.pages (Within LastSaved) is refl;
            other = grind (arith, nat_tests, read);
            earlier = has;
          })
  at_done n r None is says has = later_snap n r.layout.pages r.epoch r.number r.caller has

  -- after the second look at the gate all is read
  all_read : (n : ℕ) (r : SavingRound) (caller : SaveCaller) (gate : GateWord) → round_after begun met n ≡ at_stage r LoadsGateAgain
      → decode_gate (word_of_row r (Within Gate) (met n)) ≡ Some gate → gate.epoch ≡ r.epoch → HasReadDone begun met n r.layout.pages r.epoch r.number caller
      → HasReadAll begun met (suc n) r.layout.pages r.epoch r.number caller
  all_read n r Mutates gate is says same has = later_done n r.layout.pages r.epoch r.number Mutates has
  all_read n r (Scans mutators) gate is says same has =
      record { load = now n (at_stage r LoadsGateAgain) r.layout.pages (Within Gate) is refl; gate = gate; says = says; same = same; earlier = has }

  at_gate_again : (n : ℕ) (r : SavingRound) (o : Option GateWord) → round_after begun met n ≡ at_stage r LoadsGateAgain
      → decode_gate (word_of_row r (Within Gate) (met n)) ≡ o → HasReadDone begun met n r.layout.pages r.epoch r.number r.caller
      → HasReadBy (suc n) (at_stage r (SaveRound.looked_at_gate_again r (word_of_row r (Within Gate) (met n)) o))
  at_gate_again n r (Some gate) is says has = by_test (nat_eq gate.epoch r.epoch) refl
    where
      by_test : (b : Bool) → nat_eq gate.epoch r.epoch ≡ b
          → HasReadBy (suc n) (at_stage r (cond b (SaveRound.first_page r) (Ended (NothingNow (word_of_row r (Within Gate) (met n))))))
      by_test true test = all_read n r r.caller gate is says (grind (arith, nat_tests)) has
      by_test false test = tt
  at_gate_again n r None is says has = later_done n r.layout.pages r.epoch r.number r.caller has

  -- ---- at the pages nothing of it is lost

  abbrev All : ℕ → SavingRound → Type 0
  All n r = HasReadAll begun met n r.layout.pages r.epoch r.number r.caller

  all_past : (n : ℕ) (r : SavingRound) (stage : SaveRoundStage) → IsPastReads stage → All n r → HasReadBy n (at_stage r stage)
  all_past n r LoadsGate past has = absurd past
  all_past n r LoadsSnap past has = absurd past
  all_past n r LoadsDone past has = absurd past
  all_past n r LoadsGateAgain past has = absurd past
  all_past n r (Ended result) past has = tt
  all_past n r _ past has = has

  keeps_all : (n : ℕ) (r : SavingRound) (stage : SaveRoundStage) (o : Option Step) (words : List ℕ) → IsPastReads stage → All n r
      → HasReadBy n (after_step save_round_machine (at_stage r stage) o words)
  keeps_all n r stage None words past has = all_past n r stage past has
  keeps_all n r stage (Some step) words past has =
      let goes = goes_past r stage (reply_of step words) past in subst (HasReadBy n) (sym goes.is) (all_past n r goes.next goes.past has)

  -- ---- all

  keeps : (n : ℕ) (r : SavingRound) (stage : SaveRoundStage) → round_after begun met n ≡ at_stage r stage → HasReadAt n r stage → HasReadBy (suc n) (then_at n r stage)
  keeps n r LoadsGate is has = at_gate n r (decode_gate (word_of_row r (Within Gate) (met n))) is refl
  keeps n r LoadsSnap is has = at_snap n r (SaveRound.number_in (word_of_row r (Within SnapNumber) (met n))) is refl has
  keeps n r LoadsDone is has = at_done n r (SaveRound.number_in (word_of_row r (Within LastSaved) (met n))) is refl has
  keeps n r LoadsGateAgain is has = at_gate_again n r (decode_gate (word_of_row r (Within Gate) (met n))) is refl has
  keeps n r (Ended result) is has = tt
  keeps n r stage is has =
      keeps_all (suc n) r stage (wanted (at_stage r stage)) (met n) tt (later_all n r.layout.pages r.epoch r.number r.caller has)

  begins : IsBegun begun → HasReadBy 0 begun
  begins (ByMutator layout epoch worker is) = subst (HasReadBy 0) (sym is) tt
  begins (ByScanner layout mutators worker is) = subst (HasReadBy 0) (sym is) tt

  holds : IsBegun begun → (n : ℕ) → HasReadBy n (round_after begun met n)
  unfolding among
  holds new zero = begins new
  holds new (suc n) = let r : SavingRound = round_after begun met n in keeps n r r.stage refl (holds new n)

  at_done_number : (n : ℕ) (r : SavingRound) (stage : SaveRoundStage) (number : ℕ) → stage ≡ LoadsDone → number ≡ r.number → HasReadAt n r stage
      → HasReadSnap begun met n r.layout.pages r.epoch number r.caller
  at_done_number n r LoadsDone number at same has = record { load = has.load; same = has.same ∙ sym same; earlier = has.earlier }
  at_done_number n r _ number at same has = cc

  at_pages : (n : ℕ) (r : SavingRound) (stage : SaveRoundStage) → IsAtPages stage → HasReadAt n r stage → All n r
  at_pages n r LoadsGate at has = absurd at
  at_pages n r LoadsSnap at has = absurd at
  at_pages n r LoadsDone at has = absurd at
  at_pages n r LoadsGateAgain at has = absurd at
  at_pages n r (Ended result) at has = absurd at
  at_pages n r _ at has = has

pub rounds_read_first : RoundsReadFirst
rounds_read_first begun met n r new is at =
    at_pages begun met n r r.stage at (subst (HasReadBy begun met n) is (holds begun met new n))

pub none_runs_is_shown : NoneRunsIsShown
none_runs_is_shown begun met n r after number new is acts =
    let finds = none_runs r r.stage (met n) after number acts in
    let read : HasReadBy begun met n r = subst (HasReadBy begun met n) is (holds begun met new n) in
    record {
      last = finds.last;
      begun_last = at_done_number begun met n r r.stage number finds.last finds.same read;
      done_last = finds.read;
      same = finds.same;
      stays = finds.stays;
    }
