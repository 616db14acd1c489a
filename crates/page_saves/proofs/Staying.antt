-- The machines stay sound, whatever they are replied.
use Rattle.std.proofs.Common.{◌≡◌, ℕ, ◌+◌, ◌^◌, ◌<◌, ◌≤◌, Bool, true, false, cond, nat_eq, nat_lt, Option, Some, None, arith, refl}
use Rattle.std.proofs.lemmas.Bool.Decides.{nat_tests}
use Rattle.atom_store.specs.declared.reply.Reply.{Reply}
use Rattle.atom_store.specs.declared.reply.Reply.TheVariants.{Value, Done, Won, Lost}
use Rattle.atom_store.specs.declared.turn.Turn.{Turn}
use Rattle.atom_store.specs.declared.turn.Turn.TheVariants.{More, Finished}
use Rattle.space_map.specs.declared.gate_word.GateWord.{GateWord}
use Rattle.space_map.specs.declared.save_word.SaveWord.{SaveWord}
use Rattle.space_map.specs.declared.save_word.SaveWord.TheVariants as save_word
use Rattle.space_map.specs.declared.spaces.TheConstants.{LAST_WORKER}
use Rattle.space_map.specs.GateWord.{decode_gate}
use Rattle.space_map.specs.SaveWord.{decode_save, number_of}
use Rattle.space_map.specs.Spaces.{Layout, IsPageCount, board_page}
use Rattle.space_map.proofs.GateWords.{GateFits-decode_gate}
use Rattle.space_map.proofs.SaveWords.{SaveFits-decode_save}
use Rattle.page_saves.specs.declared.guard_stage.GuardStage.{GuardStage}
use Rattle.page_saves.specs.declared.guard_stage.GuardStage.TheVariants as guard_stage
use Rattle.page_saves.specs.declared.save_caller.SaveCaller.{SaveCaller}
use Rattle.page_saves.specs.declared.save_caller.SaveCaller.TheVariants.{Mutates, Scans}
use Rattle.page_saves.specs.declared.save_end.SaveEnd.{SaveEnd}
use Rattle.page_saves.specs.declared.save_end.SaveEnd.TheVariants as save_end
use Rattle.page_saves.specs.declared.save_round_end.SaveRoundEnd.TheVariants.{NoneRuns, Marked, NothingNow}
use Rattle.page_saves.specs.declared.save_round_stage.SaveRoundStage.{SaveRoundStage}
use Rattle.page_saves.specs.declared.save_round_stage.SaveRoundStage.TheVariants.{LoadsGate, LoadsSnap, LoadsDone, LoadsGateAgain, LoadsPage, LoadsSave, Saves, ExchangesDone, Ended}
use Rattle.page_saves.specs.declared.save_stage.SaveStage.{SaveStage}
use Rattle.page_saves.specs.declared.save_stage.SaveStage.TheVariants as save_stage
use Rattle.page_saves.specs.declared.save_state.SaveState.{SaveState}
use Rattle.page_saves.specs.declared.save_state.SaveState.TheVariants.{Waits, Copying, Kept, Past}
use Rattle.page_saves.specs.Guard.{Guarding}
use Rattle.page_saves.specs.Guard as guard
use Rattle.page_saves.specs.Save.{PageSaving}
use Rattle.page_saves.specs.Save as save
use Rattle.page_saves.specs.SaveRound
use Rattle.page_saves.specs.SaveRound.{SavingRound, at_stage, taken_at}
use Rattle.page_saves.specs.SaveState.{state_of, state_within}
use Rattle.page_saves.specs.SoundGuard.{IsSoundGuard, FitsGuardStage}
use Rattle.page_saves.specs.SoundRound.{IsSoundSaveRound, IsRoundPage, FitsSaveRoundStage}
use Rattle.page_saves.specs.SoundSave.{IsSoundSave, IsOwnSave, IsSaveGoing, FitsSaveStage}
use Rattle.page_saves.proofs.PageLooks.{of_page}
use Rattle.page_saves.proofs.PageOrder.{to_page-le, IsOrNot, Board, Other, board_or_not}

-- ---- the save

word_fits : (i : ℕ) → FitsSaveStage (save.after_word i)
word_fits i = by_test (nat_lt (i + 1) 64) refl
  where
    by_test : (more : Bool) → nat_lt (i + 1) 64 ≡ more → FitsSaveStage (cond more (save_stage.LoadsWord (i + 1)) save_stage.StoresSaved)
    by_test true test = grind (arith, nat_tests)
    by_test false test = tt

save_fits : (stage : SaveStage) (r : Reply) → FitsSaveStage stage → FitsSaveStage (save.next_stage stage r)
save_fits save_stage.Exchanges Won fits = omega arith
save_fits (save_stage.LoadsWord i) (Value _) fits = fits
save_fits (save_stage.LoadsWord i) _ fits = fits
save_fits (save_stage.StoresImage i word) Done fits = word_fits i
save_fits (save_stage.StoresImage i word) _ fits = fits
save_fits save_stage.StoresSaved Done fits = tt
save_fits _ _ fits = tt

pub save_stays : (s : PageSaving) (r : Reply) → IsSoundSave s → IsSoundSave (save.taken s r)
save_stays s r sound = record {
  pages = sound.pages;
  room = sound.room;
  page = sound.page;
  found = sound.found;
  earlier = sound.earlier;
  number = sound.number;
  worker = sound.worker;
  stage = save_fits s.stage r sound.stage;
}

-- a save that goes on has a next step
goes_on : (stage : SaveStage) → save.told_at stage ≡ More → IsSaveGoing stage
goes_on (save_stage.Ended result) more = cc
goes_on _ more = tt

-- it is the same worker's then, of the same page for the same checkpoint
own_stays : (layout : Layout) (page number worker : ℕ) (s : PageSaving) (r : Reply) → IsOwnSave layout page number worker s
    → save.told (save.taken s r) ≡ More → IsOwnSave layout page number worker (save.taken s r)
own_stays layout page number worker s r own more = record {
  in_layout = own.in_layout;
  of_page = own.of_page;
  for_number = own.for_number;
  by_worker = own.by_worker;
  going = goes_on (save.next_stage s.stage r) more;
  sound = save_stays s r own.sound;
}

-- ---- a save that begins

within_never_waits : (says : SaveWord) → state_within says ≡ Waits → ⊥
within_never_waits save_word.Unsaved is = cc
within_never_waits _ is = cc

-- a page that waits is of an earlier checkpoint, if of any
waits_is : (says : SaveWord) (number : ℕ) → state_of says number ≡ Waits → number_of says < number
waits_is says number is = by_tests (nat_lt (number_of says) number) (nat_eq (number_of says) number) refl is
  where
    by_tests : (less same : Bool) → nat_lt (number_of says) number ≡ less → cond less Waits (cond same (state_within says) Past) ≡ Waits → number_of says < number
    by_tests true same test e = grind (arith, nat_tests)
    by_tests false true test e = absurd (within_never_waits says e)
    by_tests false false test e = absurd (cc)

-- a save that begins is its worker's own
begun_own : (layout : Layout) (page number worker word : ℕ) (says : SaveWord) → IsPageCount layout.pages → layout.checkpoints ≡ true → page ≤ board_page layout.pages
    → number < 2 ^ 32 → worker ≤ LAST_WORKER → decode_save word ≡ Some says → state_of says number ≡ Waits
    → IsOwnSave layout page number worker (save.begun layout page says number worker)
begun_own layout page number worker word says pages room in_table number_fits worker_fits reads is = record {
  in_layout = refl;
  of_page = refl;
  for_number = refl;
  by_worker = refl;
  going = tt;
  sound = record {
    pages = pages;
    room = room;
    page = in_table;
    found = SaveFits-decode_save word says reads;
    earlier = waits_is says number is;
    number = number_fits;
    worker = worker_fits;
    stage = tt;
  };
}

-- ---- the look before a write

by_looked : (g : Guarding) (stage : GuardStage) (word : ℕ) (says : SaveWord) (state : SaveState) → IsSoundGuard (record g { stage = stage }) → decode_save word ≡ Some says
    → state_of says g.number ≡ state → FitsGuardStage g (guard.looked_by g says state)
by_looked g stage word says Waits sound reads is =
    begun_own g.layout g.page g.number g.worker word says sound.pages sound.room sound.page sound.number sound.worker reads is
by_looked g stage word says _ sound reads is = tt

by_look : (g : Guarding) (stage : GuardStage) (word : ℕ) (o : Option SaveWord) → IsSoundGuard (record g { stage = stage }) → decode_save word ≡ o → FitsGuardStage g (guard.looked g o)
by_look g stage word (Some says) sound reads = by_looked g stage word says (state_of says g.number) sound reads refl
by_look g stage word None sound reads = tt

by_went : (g : Guarding) (s : PageSaving) (turn : Turn SaveEnd) → (turn ≡ More → IsOwnSave g.layout g.page g.number g.worker s) → FitsGuardStage g (guard.save_went s turn)
by_went g s More own = own refl
by_went g s (Finished save_end.Saved) own = tt
by_went g s (Finished (save_end.Taken word)) own = tt

guard_fits : (g : Guarding) (stage : GuardStage) (r : Reply) → IsSoundGuard (record g { stage = stage }) → FitsGuardStage g (guard.next_stage g stage r)
guard_fits g guard_stage.Looks (Value word) sound = by_look g guard_stage.Looks word (decode_save word) sound refl
guard_fits g (guard_stage.Saves s) r sound =
    by_went g (save.taken s r) (save.told (save.taken s r)) (λ more. own_stays g.layout g.page g.number g.worker s r sound.stage more)
guard_fits g _ _ sound = tt

pub guard_stays : (g : Guarding) (r : Reply) → IsSoundGuard g → IsSoundGuard (guard.taken g r)
guard_stays g r sound = record {
  pages = sound.pages;
  room = sound.room;
  page = sound.page;
  number = sound.number;
  worker = sound.worker;
  stage = guard_fits g g.stage r sound;
}

-- ---- the pages of a round

first_fits : (r : SavingRound) → IsRoundPage r (board_page r.layout.pages)
first_fits r = record { in_table = omega arith; low = λ apart. absurd (apart refl); high = λ apart. absurd (apart refl) }

next_fits : (r : SavingRound) (page : ℕ) → IsRoundPage r page → SaveRound.page_after r page < SaveRound.to_page r + r.layout.pages → IsRoundPage r (SaveRound.page_after r page)
next_fits r page fits more = by_board (board_or_not r page)
  where
    by_board : IsOrNot r page → IsRoundPage r (SaveRound.page_after r page)
    by_board (Board is next count) =
        let low = to_page-le r in record { in_table = omega (arith, low, more); low = λ apart. omega (arith, next); high = λ apart. more }
    by_board (Other apart next count) =
        let low = to_page-le r in
        let from = fits.low apart in
        record { in_table = omega (arith, low, more); low = λ other. omega (arith, next, from); high = λ other. more }

by_passed : (r : SavingRound) (page : ℕ) (busy : Option ℕ) → IsRoundPage r page → FitsSaveRoundStage r (SaveRound.passed_page r page busy)
by_passed r page busy fits = by_test (nat_lt (SaveRound.page_after r page) (SaveRound.to_page r + r.layout.pages)) refl
  where
    after : (busy : Option ℕ) → FitsSaveRoundStage r (SaveRound.after_pages busy)
    after (Some word) = tt
    after None = tt

    by_test : (b : Bool) → nat_lt (SaveRound.page_after r page) (SaveRound.to_page r + r.layout.pages) ≡ b
        → FitsSaveRoundStage r (cond b (LoadsPage (SaveRound.page_after r page) busy) (SaveRound.after_pages busy))
    by_test true test = next_fits r page fits (grind (arith, nat_tests))
    by_test false test = after busy

-- ---- the round

-- what it keeps whatever its stage
record IsReady (r : SavingRound) : Type 0 where
  pages : IsPageCount r.layout.pages
  room : r.layout.checkpoints ≡ true
  epoch : r.epoch < 2 ^ 32
  number : r.number < 2 ^ 32
  worker : r.worker ≤ LAST_WORKER

sound_at : (r : SavingRound) (stage : SaveRoundStage) → IsReady r → FitsSaveRoundStage r stage → IsSoundSaveRound (at_stage r stage)
sound_at r stage ready fits =
    record { pages = ready.pages; room = ready.room; epoch = ready.epoch; number = ready.number; worker = ready.worker; stage = fits }

by_gate : (r : SavingRound) (word : ℕ) (o : Option GateWord) → IsReady r → decode_gate word ≡ o → IsSoundSaveRound (SaveRound.looked_at_gate r word o)
by_gate r word (Some gate) ready reads = by_test (SaveRound.all_left r.caller gate)
  where
    by_test : (b : Bool) → IsSoundSaveRound (cond b (at_stage r (Ended (NothingNow word))) (record r { epoch = gate.epoch; stage = LoadsSnap }))
    by_test true = sound_at r (Ended (NothingNow word)) ready tt
    by_test false =
        let epoch = (GateFits-decode_gate word gate reads).epoch_fits in
        record { pages = ready.pages; room = ready.room; epoch = epoch; number = ready.number; worker = ready.worker; stage = tt }
by_gate r word None ready reads = sound_at r LoadsGate ready tt

by_snap : (r : SavingRound) (word : ℕ) → IsReady r → IsSoundSaveRound (SaveRound.found_snap r (SaveRound.number_in word))
by_snap r word ready = by_test (nat_lt word (2 ^ 32)) refl
  where
    by_test : (b : Bool) → nat_lt word (2 ^ 32) ≡ b → IsSoundSaveRound (SaveRound.found_snap r (cond b (Some word) None))
    by_test true test =
        record { pages = ready.pages; room = ready.room; epoch = ready.epoch; number = grind (arith, nat_tests); worker = ready.worker; stage = tt }
    by_test false test = sound_at r LoadsSnap ready tt

when_runs : (r : SavingRound) (caller : SaveCaller) → FitsSaveRoundStage r (SaveRound.when_one_runs r caller)
when_runs r Mutates = first_fits r
when_runs r (Scans mutators) = tt

by_done : (r : SavingRound) (o : Option ℕ) → FitsSaveRoundStage r (SaveRound.found_done r o)
by_done r (Some done) = by_test (nat_eq done r.number)
  where
    by_test : (b : Bool) → FitsSaveRoundStage r (cond b (Ended (NoneRuns done)) (SaveRound.when_one_runs r r.caller))
    by_test true = tt
    by_test false = when_runs r r.caller
by_done r None = tt

by_gate_again : (r : SavingRound) (word : ℕ) (o : Option GateWord) → FitsSaveRoundStage r (SaveRound.looked_at_gate_again r word o)
by_gate_again r word (Some gate) = by_test (nat_eq gate.epoch r.epoch)
  where
    by_test : (b : Bool) → FitsSaveRoundStage r (cond b (SaveRound.first_page r) (Ended (NothingNow word)))
    by_test true = first_fits r
    by_test false = tt
by_gate_again r word None = tt

by_page : (r : SavingRound) (page : ℕ) (busy : Option ℕ) (word : ℕ) → IsRoundPage r page → FitsSaveRoundStage r (SaveRound.looked_at_page r page busy word)
by_page r page busy word fits = of_page (FitsSaveRoundStage r) r page busy word (λ opened. fits) (λ other. by_passed r page busy fits)

by_state : (r : SavingRound) (page : ℕ) (busy : Option ℕ) (word : ℕ) (says : SaveWord) (state : SaveState) → IsReady r → IsRoundPage r page → decode_save word ≡ Some says
    → state_of says r.number ≡ state → FitsSaveRoundStage r (SaveRound.looked_by r page busy word says state)
by_state r page busy word says Waits ready fits reads is =
    (fits, begun_own r.layout page r.number r.worker word says ready.pages ready.room fits.in_table ready.number ready.worker reads is)
by_state r page busy word says Copying ready fits reads is = by_passed r page (Some word) fits
by_state r page busy word says Kept ready fits reads is = by_passed r page busy fits
by_state r page busy word says Past ready fits reads is = tt

by_save : (r : SavingRound) (page : ℕ) (busy : Option ℕ) (word : ℕ) (o : Option SaveWord) → IsReady r → IsRoundPage r page → decode_save word ≡ o
    → FitsSaveRoundStage r (SaveRound.looked_at_save r page busy word o)
by_save r page busy word (Some says) ready fits reads = by_state r page busy word says (state_of says r.number) ready fits reads refl
by_save r page busy word None ready fits reads = fits

round_went : (r : SavingRound) (s : PageSaving) (turn : Turn SaveEnd) → (turn ≡ More → FitsSaveRoundStage r (Saves s)) → FitsSaveRoundStage r (SaveRound.save_went s turn)
round_went r s More fits = fits refl
round_went r s (Finished result) fits = tt

round_at : (r : SavingRound) (stage : SaveRoundStage) (answer : Reply) → IsReady r → FitsSaveRoundStage r stage
    → IsSoundSaveRound (taken_at (at_stage r stage) stage answer)
round_at r LoadsGate (Value word) ready fits = by_gate r word (decode_gate word) ready refl
round_at r LoadsSnap (Value word) ready fits = by_snap r word ready
round_at r LoadsDone (Value word) ready fits = sound_at r _ ready (by_done r (SaveRound.number_in word))
round_at r LoadsGateAgain (Value word) ready fits = sound_at r _ ready (by_gate_again r word (decode_gate word))
round_at r (LoadsPage page busy) (Value word) ready fits = sound_at r _ ready (by_page r page busy word fits)
round_at r (LoadsSave page busy) (Value word) ready fits = sound_at r _ ready (by_save r page busy word (decode_save word) ready fits refl)
round_at r (Saves s) answer ready fits =
    sound_at r _ ready (round_went r (save.taken s answer) (save.told (save.taken s answer))
    (λ more. (fits.0, own_stays r.layout s.page r.number r.worker s answer fits.1 more)))
round_at r ExchangesDone Won ready fits = sound_at r (Ended Marked) ready tt
round_at r ExchangesDone (Lost word) ready fits = sound_at r (Ended (NothingNow word)) ready tt
round_at r stage answer ready fits = sound_at r stage ready fits

pub round_stays : (r : SavingRound) (answer : Reply) → IsSoundSaveRound r → IsSoundSaveRound (SaveRound.taken r answer)
round_stays r answer sound =
    let ready : IsReady r = record { pages = sound.pages; room = sound.room; epoch = sound.epoch; number = sound.number; worker = sound.worker } in
    round_at r r.stage answer ready sound.stage
