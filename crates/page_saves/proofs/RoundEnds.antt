-- What a save round tells, by the stage at which it tells it, if that is no look at a page: which results can come there, and what they show.
use Rattle.std.proofs.Common.{◌≡◌, ◌≢◌, ℕ, ◌^◌, ◌<◌, Bool, true, false, cond, nat_eq, nat_lt, List, Option, Some, None, arith, refl, ap}
use Rattle.std.proofs.lemmas.Bool.Decides.{nat_tests}
use Rattle.atom_store.specs.declared.reply.Reply.{Reply}
use Rattle.atom_store.specs.declared.reply.Reply.TheVariants as reply
use Rattle.atom_store.specs.declared.step.Step.{Step}
use Rattle.atom_store.specs.declared.turn.Turn.{Turn}
use Rattle.atom_store.specs.declared.turn.Turn.TheVariants.{More, Finished}
use Rattle.atom_store.specs.Acts.{MakesStep, after_next_step}
use Rattle.atom_store.specs.Runs.{after_step}
use Rattle.space_map.specs.declared.gate_word.GateWord.{GateWord}
use Rattle.space_map.specs.declared.save_word.SaveWord.{SaveWord}
use Rattle.space_map.specs.declared.save_word.SaveWord.TheVariants as save_word
use Rattle.space_map.specs.GateWord.{decode_gate}
use Rattle.space_map.specs.SaveWord.{number_of}
use Rattle.space_map.specs.Table.{Gate}
use Rattle.page_saves.specs.declared.save_caller.SaveCaller.{SaveCaller}
use Rattle.page_saves.specs.declared.save_caller.SaveCaller.TheVariants.{Mutates, Scans}
use Rattle.page_saves.specs.declared.save_end.SaveEnd.{SaveEnd}
use Rattle.page_saves.specs.declared.save_round_end.SaveRoundEnd.{SaveRoundEnd}
use Rattle.page_saves.specs.declared.save_round_end.SaveRoundEnd.TheVariants.{NoneRuns, Marked, NothingNow}
use Rattle.page_saves.specs.declared.save_round_stage.SaveRoundStage.TheVariants.{LoadsSnap, Saves, ExchangesDone, Ended}
use Rattle.page_saves.specs.declared.save_state.SaveState.{SaveState}
use Rattle.page_saves.specs.declared.save_state.SaveState.TheVariants.{Waits, Copying, Past}
use Rattle.page_saves.specs.RoundTheorems.{ShowsAllLeft, word_of_row}
use Rattle.page_saves.specs.Save.{PageSaving, save_machine}
use Rattle.page_saves.specs.Save as save
use Rattle.page_saves.specs.SaveRound
use Rattle.page_saves.specs.SaveRound.{SavingRound, at_stage, told, told_at, taken_at, save_round_machine}
use Rattle.page_saves.specs.SaveState.{state_of, state_within}
use Rattle.space_map.specs.WholeTable.{Within}

-- ---- at the gate

-- the gate's word was told, since all have left
pub record LeftEnds (r : SavingRound) (loaded : ℕ) (result : SaveRoundEnd) (o : Option GateWord) : Type 0 where
  pub told_word : result ≡ NothingNow loaded
  pub gate : GateWord
  pub is : o ≡ Some gate
  pub all : SaveRound.all_left r.caller gate ≡ true

pub gate_ends : (r : SavingRound) (loaded : ℕ) (result : SaveRoundEnd) (o : Option GateWord) → told (SaveRound.looked_at_gate r loaded o) ≡ Finished result
    → LeftEnds r loaded result o
gate_ends r loaded result (Some gate) tells = by_test (SaveRound.all_left r.caller gate) refl tells
  where
    by_test : (b : Bool) → SaveRound.all_left r.caller gate ≡ b
        → told (cond b (at_stage r (Ended (NothingNow loaded))) (record r { epoch = gate.epoch; stage = LoadsSnap })) ≡ Finished result
        → LeftEnds r loaded result (Some gate)
    by_test true test e = record { told_word = cc; gate = gate; is = refl; all = test }
    by_test false test e = cc
gate_ends r loaded result None tells = cc

-- who sees that all have left is a scanner
pub left_shows : (r : SavingRound) (words : List ℕ) (word : ℕ) (gate : GateWord) (caller : SaveCaller) → r.caller ≡ caller → SaveRound.all_left caller gate ≡ true
    → word ≡ word_of_row r (Within Gate) words → decode_gate word ≡ Some gate → ShowsAllLeft r words word
left_shows r words word gate Mutates is all read says = cc
left_shows r words word gate (Scans mutators) is all read says =
    record { mutators = mutators; scanner = is; gate = gate; read = read; says = says; left = grind (arith, nat_tests) }

-- the gate's word was told, for another epoch
pub record OtherEnds (r : SavingRound) (loaded : ℕ) (result : SaveRoundEnd) (o : Option GateWord) : Type 0 where
  pub told_word : result ≡ NothingNow loaded
  pub gate : GateWord
  pub is : o ≡ Some gate
  pub other : gate.epoch ≢ r.epoch

pub gate_again_ends : (r : SavingRound) (loaded : ℕ) (result : SaveRoundEnd) (o : Option GateWord) → told_at (SaveRound.looked_at_gate_again r loaded o) ≡ Finished result
    → OtherEnds r loaded result o
gate_again_ends r loaded result (Some gate) tells = by_test (nat_eq gate.epoch r.epoch) refl tells
  where
    by_test : (b : Bool) → nat_eq gate.epoch r.epoch ≡ b → told_at (cond b (SaveRound.first_page r) (Ended (NothingNow loaded))) ≡ Finished result
        → OtherEnds r loaded result (Some gate)
    by_test true test e = cc
    by_test false test e = record { told_word = cc; gate = gate; is = refl; other = grind (arith, nat_tests) }
gate_again_ends r loaded result None tells = cc

-- ---- at the numbers

pub snap_never : (r : SavingRound) (o : Option ℕ) (result : SaveRoundEnd) → told (SaveRound.found_snap r o) ≡ Finished result → ⊥
snap_never r (Some number) result tells = cc
snap_never r None result tells = cc

runs_never : (r : SavingRound) (caller : SaveCaller) (result : SaveRoundEnd) → told_at (SaveRound.when_one_runs r caller) ≡ Finished result → ⊥
runs_never r Mutates result tells = cc
runs_never r (Scans mutators) result tells = cc

-- the number of the checkpoint begun last was told
pub record DoneEnds (r : SavingRound) (result : SaveRoundEnd) (o : Option ℕ) : Type 0 where
  pub number : ℕ
  pub told_number : result ≡ NoneRuns number
  pub is : o ≡ Some number
  pub same : number ≡ r.number

pub done_ends : (r : SavingRound) (result : SaveRoundEnd) (o : Option ℕ) → told_at (SaveRound.found_done r o) ≡ Finished result → DoneEnds r result o
done_ends r result (Some done) tells = by_test (nat_eq done r.number) refl tells
  where
    by_test : (b : Bool) → nat_eq done r.number ≡ b → told_at (cond b (Ended (NoneRuns done)) (SaveRound.when_one_runs r r.caller)) ≡ Finished result
        → DoneEnds r result (Some done)
    by_test true test e = record { number = done; told_number = cc; is = refl; same = grind (arith, nat_tests) }
    by_test false test e = absurd (runs_never r r.caller result e)
done_ends r result None tells = cc

pub number_is : (word number : ℕ) → SaveRound.number_in word ≡ Some number → number ≡ word
number_is word number is = by_test (nat_lt word (2 ^ 32)) is
  where
    by_test : (b : Bool) → cond b (Some word) None ≡ Some number → number ≡ word
    by_test true e = cc
    by_test false e = cc

-- ---- what is said of a page

pub within_copying : (says : SaveWord) (number : ℕ) → number_of says ≡ number → state_within says ≡ Copying → (worker : ℕ) × (says ≡ save_word.Saving number worker)
within_copying (save_word.Saving found worker) number same is = (worker, ap (λ (c : ℕ). save_word.Saving c worker) same)
within_copying _ number same is = cc

pub within_never_past : (says : SaveWord) → state_within says ≡ Past → ⊥
within_never_past save_word.Unsaved is = cc
within_never_past _ is = cc

-- what a state tells of the word
pub record SaysState (says : SaveWord) (number : ℕ) (state : SaveState) : Type 0 where
  pub copying : state ≡ Copying → (worker : ℕ) × (says ≡ save_word.Saving number worker)
  pub past : state ≡ Past → number < number_of says

pub says_state : (says : SaveWord) (number : ℕ) → SaysState says number (state_of says number)
says_state says number = by_tests (nat_lt (number_of says) number) (nat_eq (number_of says) number) refl refl
  where
    by_tests : (less same : Bool) → nat_lt (number_of says) number ≡ less → nat_eq (number_of says) number ≡ same
        → SaysState says number (cond less Waits (cond same (state_within says) Past))
    by_tests true same a b = record { copying = λ e. absurd (cc); past = λ e. absurd (cc) }
    by_tests false true a b = record { copying = λ e. within_copying says number (grind (arith, nat_tests)) e; past = λ e. absurd (within_never_past says e) }
    by_tests false false a b = record { copying = λ e. absurd (cc); past = λ e. grind (arith, nat_tests) }

-- ---- the save's step is the round's

save_tells : (r : SavingRound) (s : PageSaving) (o : Option Step) (before : List ℕ) (result : SaveRoundEnd)
    → told (after_step save_round_machine (at_stage r (Saves s)) o before) ≡ Finished result
    → told_at (SaveRound.save_went (after_step save_machine s o before) (save.told (after_step save_machine s o before))) ≡ Finished result
save_tells r s None before result e = cc
save_tells r s (Some step) before result e = e

-- what the save came to
pub record WentEnds (result : SaveRoundEnd) (turn : Turn SaveEnd) : Type 0 where
  pub outcome : SaveEnd
  pub is : turn ≡ Finished outcome
  pub told_end : result ≡ SaveRound.save_comes_to outcome

went_ends : (s : PageSaving) (turn : Turn SaveEnd) (result : SaveRoundEnd) → told_at (SaveRound.save_went s turn) ≡ Finished result → WentEnds result turn
went_ends s More result tells = cc
went_ends s (Finished outcome) result tells = record { outcome = outcome; is = refl; told_end = cc }

pub saving_ends : (r : SavingRound) (s : PageSaving) (before after : List ℕ) (result : SaveRoundEnd)
    → MakesStep save_round_machine (at_stage r (Saves s)) before after (Finished result)
    → WentEnds result (save.told (after_next_step save_machine s before))
saving_ends r s before after result acts =
    went_ends (after_next_step save_machine s before) (save.told (after_next_step save_machine s before)) result
    (save_tells r s (save.wanted s) before result acts.tells)

-- ---- at the end

pub exchange_wins : (r : SavingRound) (answer : Reply) → told (taken_at r ExchangesDone answer) ≡ Finished Marked → r.stage ≡ ExchangesDone → answer ≡ reply.Won
exchange_wins r reply.Won tells is = refl
exchange_wins r _ tells is = cc

pub exchange_loses : (r : SavingRound) (answer : Reply) (word : ℕ) → told (taken_at r ExchangesDone answer) ≡ Finished (NothingNow word) → r.stage ≡ ExchangesDone → answer ≡ reply.Lost word
exchange_loses r (reply.Lost lost) word tells is = let same : lost ≡ word = cc in ap reply.Lost same
exchange_loses r _ word tells is = cc
