-- What the machines have left goes down with each reply that takes them on.
use Rattle.std.proofs.Common.{◌≡◌, ℕ, ◌+◌, ◌-◌, ◌*◌, ◌^◌, ◌<◌, ◌≤◌, Bool, true, false, cond, IsTrue, Option, Some, None, arith, refl, nat_eq, nat_lt}
use Rattle.std.specs.Prelude.{is_some}
use Rattle.std.proofs.lemmas.Bool.Decides.{nat_tests}
use Rattle.atom_store.specs.declared.reply.Reply.{Reply}
use Rattle.atom_store.specs.declared.reply.Reply.TheVariants.{Value, Done, Won, Lost}
use Rattle.atom_store.specs.declared.turn.Turn.{Turn}
use Rattle.atom_store.specs.declared.turn.Turn.TheVariants.{More, Finished}
use Rattle.space_map.specs.declared.gate_word.GateWord.{GateWord}
use Rattle.space_map.specs.declared.save_word.SaveWord.{SaveWord}
use Rattle.space_map.specs.GateWord.{decode_gate}
use Rattle.space_map.specs.SaveWord.{decode_save}
use Rattle.space_map.specs.Spaces.{IsPageCount, board_page}
use Rattle.page_saves.specs.declared.guard_stage.GuardStage.{GuardStage}
use Rattle.page_saves.specs.declared.guard_stage.GuardStage.TheVariants as guard_stage
use Rattle.page_saves.specs.declared.save_caller.SaveCaller.{SaveCaller}
use Rattle.page_saves.specs.declared.save_caller.SaveCaller.TheVariants.{Mutates, Scans}
use Rattle.page_saves.specs.declared.save_end.SaveEnd.{SaveEnd}
use Rattle.page_saves.specs.declared.save_round_end.SaveRoundEnd.TheVariants.{NoneRuns, NothingNow}
use Rattle.page_saves.specs.declared.save_round_stage.SaveRoundStage.{SaveRoundStage}
use Rattle.page_saves.specs.declared.save_round_stage.SaveRoundStage.TheVariants.{LoadsGate, LoadsSnap, LoadsDone, LoadsGateAgain, LoadsPage, LoadsSave, Saves, ExchangesDone, Ended}
use Rattle.page_saves.specs.declared.save_stage.SaveStage.{SaveStage}
use Rattle.page_saves.specs.declared.save_stage.SaveStage.TheVariants as save_stage
use Rattle.page_saves.specs.declared.save_state.SaveState.{SaveState}
use Rattle.page_saves.specs.declared.save_state.SaveState.TheVariants.{Waits, Copying, Kept, Past}
use Rattle.page_saves.specs.Guard.{Guarding}
use Rattle.page_saves.specs.Guard as guard
use Rattle.page_saves.specs.Save.{PageSaving}
use Rattle.page_saves.specs.Save as save
use Rattle.page_saves.specs.SaveRound
use Rattle.page_saves.specs.SaveRound.{SavingRound, left, left_at, pages_left, taken_at, advances_at}
use Rattle.page_saves.specs.SaveState.{state_of}
use Rattle.page_saves.specs.SoundGuard.{FitsGuardStage}
use Rattle.page_saves.specs.SoundRound.{IsRoundPage, FitsSaveRoundStage}
use Rattle.page_saves.specs.SoundSave.{FitsSaveStage}
use Rattle.page_saves.proofs.PageLooks.{of_page}
use Rattle.page_saves.proofs.PageOrder.{pages_left_gt, further}

-- ---- the save

by_word : (i : ℕ) → i < 64 → save.left_at (save.after_word i) < 128 - 2 * i
by_word i few = by_test (nat_lt (i + 1) 64) refl
  where
    by_test : (more : Bool) → nat_lt (i + 1) 64 ≡ more → save.left_at (cond more (save_stage.LoadsWord (i + 1)) save_stage.StoresSaved) < 128 - 2 * i
    by_test true test = let next : i + 1 < 64 = grind (arith, nat_tests) in omega (arith, next)
    by_test false test = omega (arith, few)

pub save_lowers : (stage : SaveStage) (r : Reply) → FitsSaveStage stage → IsTrue (save.advances_at stage r) → save.left_at (save.next_stage stage r) < save.left_at stage
save_lowers save_stage.Exchanges Won fits t = omega arith
save_lowers save_stage.Exchanges (Lost word) fits t = omega arith
save_lowers (save_stage.LoadsWord i) (Value word) fits t = omega arith
save_lowers (save_stage.StoresImage i word) Done fits t = by_word i fits
save_lowers save_stage.StoresSaved Done fits t = omega arith
save_lowers stage r fits t = cc

-- ---- the look before a write

by_looked : (g : Guarding) (says : SaveWord) (state : SaveState) → IsTrue (guard.goes_by state) → guard.left_at (guard.looked_by g says state) < 131
by_looked g says Waits t = omega arith
by_looked g says Copying t = cc
by_looked g says Kept t = omega arith
by_looked g says Past t = cc

by_look : (g : Guarding) (o : Option SaveWord) → IsTrue (guard.goes_on g.number o) → guard.left_at (guard.looked g o) < 131
by_look g (Some says) t = by_looked g says (state_of says g.number) t
by_look g None t = cc

guard_save_lowers : (g : Guarding) (s : PageSaving) (stage : SaveStage) (r : Reply) → FitsSaveStage stage → IsTrue (guard.save_goes_on stage r)
    → guard.left_at (guard.save_went (record s { stage = save.next_stage stage r }) (save.told_at (save.next_stage stage r))) < save.left_at stage
guard_save_lowers g s save_stage.Exchanges Won fits t = omega arith
guard_save_lowers g s save_stage.Exchanges r fits t = cc
guard_save_lowers g s (save_stage.LoadsWord i) (Value word) fits t = omega arith
guard_save_lowers g s (save_stage.StoresImage i word) Done fits t = by_test (nat_lt (i + 1) 64) refl
  where
    went : SaveStage → GuardStage
    went stage = guard.save_went (record s { stage = stage }) (save.told_at stage)

    by_test : (more : Bool) → nat_lt (i + 1) 64 ≡ more → guard.left_at (went (cond more (save_stage.LoadsWord (i + 1)) save_stage.StoresSaved)) < 128 - 2 * i
    by_test true test = let next : i + 1 < 64 = grind (arith, nat_tests) in omega (arith, next)
    by_test false test = omega (arith, fits)
guard_save_lowers g s save_stage.StoresSaved Done fits t = omega arith
guard_save_lowers g s stage r fits t = cc

pub guard_lowers : (g : Guarding) (stage : GuardStage) (r : Reply) → FitsGuardStage g stage → IsTrue (guard.advances_at g stage r)
    → guard.left_at (guard.next_stage g stage r) < guard.left_at stage
guard_lowers g guard_stage.Looks (Value word) fits t = by_look g (decode_save word) t
guard_lowers g (guard_stage.Saves s) r fits t = guard_save_lowers g s s.stage r fits.sound.stage t
guard_lowers g stage r fits t = cc

-- ---- the round

by_gate : (r : SavingRound) (word : ℕ) (o : Option GateWord) → IsTrue (is_some o) → left (SaveRound.looked_at_gate r word o) < 2 * r.layout.pages + 136
by_gate r word (Some gate) t = by_test (SaveRound.all_left r.caller gate)
  where
    by_test : (all : Bool) → left (cond all (SaveRound.at_stage r (Ended (NothingNow word))) (record r { epoch = gate.epoch; stage = LoadsSnap })) < 2 * r.layout.pages + 136
    by_test true = omega arith
    by_test false = omega arith
by_gate r word None t = cc

by_snap : (r : SavingRound) (word : ℕ) → IsTrue (nat_lt word (2 ^ 32)) → left (SaveRound.found_snap r (SaveRound.number_in word)) < 2 * r.layout.pages + 135
by_snap r word t = rw t (omega arith)

first_page_left : (r : SavingRound) → left_at r (SaveRound.first_page r) ≡ 2 * r.layout.pages + 132
first_page_left r = let test : nat_eq (board_page r.layout.pages) (board_page r.layout.pages) ≡ true = grind (arith, nat_tests) in rw test (omega arith)

by_runs : (r : SavingRound) (caller : SaveCaller) → left_at r (SaveRound.when_one_runs r caller) < 2 * r.layout.pages + 134
by_runs r Mutates = let first = first_page_left r in omega (arith, first)
by_runs r (Scans mutators) = omega arith

by_done : (r : SavingRound) (word : ℕ) → IsTrue (nat_lt word (2 ^ 32)) → left_at r (SaveRound.found_done r (SaveRound.number_in word)) < 2 * r.layout.pages + 134
by_done r word t = rw t (by_test (nat_eq word r.number))
  where
    by_test : (same : Bool) → left_at r (cond same (Ended (NoneRuns word)) (SaveRound.when_one_runs r r.caller)) < 2 * r.layout.pages + 134
    by_test true = omega arith
    by_test false = by_runs r r.caller

by_gate_again : (r : SavingRound) (word : ℕ) (o : Option GateWord) → IsTrue (is_some o)
    → left_at r (SaveRound.looked_at_gate_again r word o) < 2 * r.layout.pages + 133
by_gate_again r word (Some gate) t = by_test (nat_eq gate.epoch r.epoch)
  where
    by_test : (same : Bool) → left_at r (cond same (SaveRound.first_page r) (Ended (NothingNow word))) < 2 * r.layout.pages + 133
    by_test true = let first = first_page_left r in omega (arith, first)
    by_test false = omega arith
by_gate_again r word None t = cc

after_pages_le : (r : SavingRound) (busy : Option ℕ) → left_at r (SaveRound.after_pages busy) ≤ 1
after_pages_le r (Some word) = omega arith
after_pages_le r None = omega arith

passed_lt : (r : SavingRound) (page : ℕ) (busy : Option ℕ) → IsPageCount r.layout.pages → IsRoundPage r page
    → left_at r (SaveRound.passed_page r page busy) < 2 * pages_left r page + 129
passed_lt r page busy few fits = by_test (nat_lt (SaveRound.page_after r page) (SaveRound.to_page r + r.layout.pages)) refl
  where
    by_test : (more : Bool) → nat_lt (SaveRound.page_after r page) (SaveRound.to_page r + r.layout.pages) ≡ more
        → left_at r (cond more (LoadsPage (SaveRound.page_after r page) busy) (SaveRound.after_pages busy)) < 2 * pages_left r page + 129
    by_test true test =
        let fewer = further r page (let some = few.0 in omega (arith, some)) (grind (arith, nat_tests)) in omega (arith, fewer)
    by_test false test = let after = after_pages_le r busy in omega (arith, after)

by_page : (r : SavingRound) (page : ℕ) (busy : Option ℕ) (word : ℕ) → IsPageCount r.layout.pages → IsRoundPage r page
    → left_at r (SaveRound.looked_at_page r page busy word) < 2 * pages_left r page + 130
by_page r page busy word few fits =
    of_page (λ z. left_at r z < 2 * pages_left r page + 130) r page busy word (λ opened. omega arith)
    (λ other. let fewer = passed_lt r page busy few fits in omega (arith, fewer))

by_state : (r : SavingRound) (page : ℕ) (busy : Option ℕ) (word : ℕ) (says : SaveWord) (state : SaveState) → IsPageCount r.layout.pages → IsRoundPage r page
    → left_at r (SaveRound.looked_by r page busy word says state) < 2 * pages_left r page + 129
by_state r page busy word says Waits few fits = let some = pages_left_gt r page fits in omega (arith, some)
by_state r page busy word says Copying few fits = passed_lt r page (Some word) few fits
by_state r page busy word says Kept few fits = passed_lt r page busy few fits
by_state r page busy word says Past few fits = omega arith

by_save : (r : SavingRound) (page : ℕ) (busy : Option ℕ) (word : ℕ) (o : Option SaveWord) → IsPageCount r.layout.pages → IsRoundPage r page
    → IsTrue (is_some o) → left_at r (SaveRound.looked_at_save r page busy word o) < 2 * pages_left r page + 129
by_save r page busy word (Some says) few fits t = by_state r page busy word says (state_of says r.number) few fits
by_save r page busy word None few fits t = cc

save_went_le : (r : SavingRound) (s : PageSaving) (turn : Turn SaveEnd) → left_at r (SaveRound.save_went s turn) ≤ save.left s
save_went_le r s More = omega arith
save_went_le r s (Finished result) = omega arith

by_saving : (r : SavingRound) (s : PageSaving) (answer : Reply) → FitsSaveStage s.stage → IsTrue (save.advances s answer)
    → left_at r (SaveRound.save_went (save.taken s answer) (save.told (save.taken s answer))) < save.left s
by_saving r s answer fits t =
    let fewer = save_lowers s.stage answer fits t in
    let went = save_went_le r (save.taken s answer) (save.told (save.taken s answer)) in
    omega (arith, fewer, went)

pub round_lowers : (r : SavingRound) (stage : SaveRoundStage) (answer : Reply) → IsPageCount r.layout.pages → FitsSaveRoundStage r stage
    → IsTrue (advances_at stage answer) → left (taken_at r stage answer) < left_at r stage
round_lowers r LoadsGate (Value word) few fits t = by_gate r word (decode_gate word) t
round_lowers r LoadsSnap (Value word) few fits t = by_snap r word t
round_lowers r LoadsDone (Value word) few fits t = by_done r word t
round_lowers r LoadsGateAgain (Value word) few fits t = by_gate_again r word (decode_gate word) t
round_lowers r (LoadsPage page busy) (Value word) few fits t = by_page r page busy word few fits
round_lowers r (LoadsSave page busy) (Value word) few fits t = by_save r page busy word (decode_save word) few fits t
round_lowers r (Saves s) answer few fits t = by_saving r s answer fits.1.sound.stage t
round_lowers r ExchangesDone Won few fits t = omega arith
round_lowers r ExchangesDone (Lost word) few fits t = omega arith
round_lowers r stage answer few fits t = cc
