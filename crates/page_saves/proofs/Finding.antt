-- What a save round has found of pages by the time that it marks the checkpoint, or finds that there is nothing to do now.
use Rattle.std.specs.Prelude.{⊤}
use Rattle.std.proofs.Common.{◌≡◌, ◌≢◌, ℕ, zero, suc, ◌+◌, ◌<◌, ◌≤◌, ◌⊎◌, inl, inr, Bool, true, false, cond, nat_eq, nat_lt, List, Option, Some, None, arith, refl, sym, ap, ◌∙◌, subst}
use Rattle.std.proofs.lemmas.Bool.Decides.{nat_tests}
use Rattle.atom_store.specs.declared.reply.Reply.TheVariants.{Won, Lost}
use Rattle.atom_store.specs.declared.step.Step.{Step}
use Rattle.atom_store.specs.declared.turn.Turn.{Turn}
use Rattle.atom_store.specs.declared.turn.Turn.TheVariants.{More, Finished}
use Rattle.atom_store.specs.Runs.{among, after_step}
use Rattle.space_map.specs.declared.gate_word.GateWord.{GateWord}
use Rattle.space_map.specs.declared.page_word.PageWord.TheVariants.{Open}
use Rattle.space_map.specs.declared.save_word.SaveWord.{SaveWord}
use Rattle.space_map.specs.declared.save_word.SaveWord.TheVariants as save_word
use Rattle.space_map.specs.PageWord.{encode_page}
use Rattle.space_map.specs.SaveWord.{decode_save}
use Rattle.space_map.specs.Spaces.{board_page}
use Rattle.space_map.specs.Table.{Gate, Page, SaveOf}
use Rattle.page_saves.specs.declared.save_caller.SaveCaller.{SaveCaller}
use Rattle.page_saves.specs.declared.save_caller.SaveCaller.TheVariants.{Mutates, Scans}
use Rattle.page_saves.specs.declared.save_end.SaveEnd.{SaveEnd}
use Rattle.page_saves.specs.declared.save_round_end.SaveRoundEnd.TheVariants.{NoneRuns, NothingNow}
use Rattle.page_saves.specs.declared.save_round_stage.SaveRoundStage.{SaveRoundStage}
use Rattle.page_saves.specs.declared.save_round_stage.SaveRoundStage.TheVariants.{LoadsGate, LoadsSnap, LoadsDone, LoadsGateAgain, LoadsPage, LoadsSave, Saves, ExchangesDone, Ended}
use Rattle.page_saves.specs.declared.save_state.SaveState.{SaveState}
use Rattle.page_saves.specs.declared.save_state.SaveState.TheVariants.{Waits, Copying, Kept, Past}
use Rattle.page_saves.specs.RoundTheorems.{HasLoaded, loaded, FoundHindrance, FoundKept, FoundSaid, HindrancesAreFound, LooksAtPage, WasBeingSaved, WasNotOpen, WasOfLater, WasSaved, IsBegun, ByMutator, ByScanner, OfLater, BusyBefore, BusyHere, RoundsMarkWhatIsKept, ShowsByPage, ShowsNothingToSave, round_after, word_of_row}
use Rattle.page_saves.specs.Save.{PageSaving}
use Rattle.page_saves.specs.Save as save
use Rattle.page_saves.specs.SaveRound
use Rattle.page_saves.specs.SaveRound.{SavingRound, at_stage, save_round_machine}
use Rattle.page_saves.specs.SaveState.{state_of}
use Rattle.page_saves.specs.SoundRound.{IsRoundPage}
use Rattle.space_map.specs.WholeTable.{Within, Behind}
use Rattle.page_saves.proofs.Guarding.{kept_is}
use Rattle.page_saves.proofs.PageLooks.{of_page}
use Rattle.page_saves.proofs.PageOrder.{IsOrNot, Board, Other, board_or_not}
use Rattle.page_saves.proofs.SaveRoundEffects.{shows_nothing}
use Rattle.page_saves.proofs.SaveRoundReads.{now, later, then_at}
use Rattle.page_saves.proofs.RoundEnds.{says_state}

-- ---- the pages that are passed

-- the page comes before this one in the order of the round
abbrev IsBefore : SavingRound → (page other : ℕ) → Type 0
IsBefore r page other = (page ≢ board_page r.layout.pages) × ((other ≡ board_page r.layout.pages) ⊎ ((SaveRound.to_page r ≤ other) × (other < page)))

-- the page is one of the round's
abbrev IsInRound : SavingRound → (page : ℕ) → Type 0
IsInRound r page = (page ≡ board_page r.layout.pages) ⊎ ((SaveRound.to_page r ≤ page) × (page < SaveRound.to_page r + r.layout.pages))

-- K is so of each page that is passed, if none of them was being saved; else B is so of the word by which one was found so
abbrev HasFound : (K B : ℕ → Type 0) → SavingRound → SaveRoundStage → Type 0
HasFound K B r (LoadsPage page None) = (other : ℕ) → IsBefore r page other → K other
HasFound K B r (LoadsPage page (Some word)) = B word
HasFound K B r (LoadsSave page None) = (other : ℕ) → IsBefore r page other → K other
HasFound K B r (LoadsSave page (Some word)) = B word
HasFound K B r ExchangesDone = (other : ℕ) → IsInRound r other → K other
HasFound K B r stage = ⊤

more_found : (K L B C : ℕ → Type 0) → ((page : ℕ) → K page → L page) → ((word : ℕ) → B word → C word) → (r : SavingRound) (stage : SaveRoundStage)
    → HasFound K B r stage → HasFound L C r stage
more_found K L B C then said r (LoadsPage page None) has = λ other before. then other (has other before)
more_found K L B C then said r (LoadsPage page (Some word)) has = said word has
more_found K L B C then said r (LoadsSave page None) has = λ other before. then other (has other before)
more_found K L B C then said r (LoadsSave page (Some word)) has = said word has
more_found K L B C then said r ExchangesDone has = λ other in_round. then other (has other in_round)
more_found K L B C then said r _ has = tt

-- the board comes first
first_found : (K B : ℕ → Type 0) (r : SavingRound) → HasFound K B r (SaveRound.first_page r)
first_found K B r = λ other before. absurd (before.0 refl)

module _ (K B : ℕ → Type 0) (r : SavingRound) (page : ℕ) (is : K page) (has : (other : ℕ) → IsBefore r page other → K other) where
  -- so the page before the next one is this, or one before it
  next_found : IsOrNot r page → (other : ℕ) → IsBefore r (SaveRound.page_after r page) other → K other
  next_found (Board at next left) other (apart, inl board) = subst K (at ∙ sym board) is
  next_found (Board at next left) other (apart, inr between) = absurd (let low = between.0 in let high = between.1 in omega (arith, low, high, next))
  next_found (Other apart next left) other (apart_next, inl board) = has other (apart, inl board)
  next_found (Other apart next left) other (apart_next, inr between) = by_test (nat_eq other page) refl
    where
      by_test : (b : Bool) → nat_eq other page ≡ b → K other
      by_test true test = let same : page ≡ other = grind (arith, nat_tests) in subst K same is
      by_test false test =
          let differ : other ≢ page = grind (arith, nat_tests) in
          let high = between.1 in
          has other (apart, inr (between.0, omega (arith, high, next, differ)))

  -- and behind the last page all are passed
  all_found : IsOrNot r page → SaveRound.to_page r + r.layout.pages ≤ SaveRound.page_after r page → (other : ℕ) → IsInRound r other → K other
  all_found (Board at next left) last other (inl board) = subst K (at ∙ sym board) is
  all_found (Board at next left) last other (inr between) = absurd (let low = between.0 in let high = between.1 in omega (arith, low, high, next, last))
  all_found (Other apart next left) last other (inl board) = has other (apart, inl board)
  all_found (Other apart next left) last other (inr between) = by_test (nat_eq other page) refl
    where
      by_test : (b : Bool) → nat_eq other page ≡ b → K other
      by_test true test = let same : page ≡ other = grind (arith, nat_tests) in subst K same is
      by_test false test =
          let differ : other ≢ page = grind (arith, nat_tests) in
          let high = between.1 in
          has other (apart, inr (between.0, omega (arith, high, next, last, differ)))

  passed_found : HasFound K B r (SaveRound.passed_page r page None)
  passed_found = by_test (nat_lt (SaveRound.page_after r page) (SaveRound.to_page r + r.layout.pages)) refl
    where
      by_test : (b : Bool) → nat_lt (SaveRound.page_after r page) (SaveRound.to_page r + r.layout.pages) ≡ b
          → HasFound K B r (cond b (LoadsPage (SaveRound.page_after r page) None) ExchangesDone)
      by_test true test = next_found (board_or_not r page)
      by_test false test = all_found (board_or_not r page) (grind (arith, nat_tests))

-- if one is being saved, only that is kept
busy_found : (K B : ℕ → Type 0) (r : SavingRound) (page word : ℕ) → B word → HasFound K B r (SaveRound.passed_page r page (Some word))
busy_found K B r page word is = by_test (nat_lt (SaveRound.page_after r page) (SaveRound.to_page r + r.layout.pages))
  where
    by_test : (b : Bool) → HasFound K B r (cond b (LoadsPage (SaveRound.page_after r page) (Some word)) (Ended (NothingNow word)))
    by_test true = is
    by_test false = tt

passed_by : (K B : ℕ → Type 0) (r : SavingRound) (page : ℕ) (busy : Option ℕ) → K page → HasFound K B r (LoadsPage page busy)
    → HasFound K B r (SaveRound.passed_page r page busy)
passed_by K B r page (Some word) is has = busy_found K B r page word has
passed_by K B r page None is has = passed_found K B r page is has

-- a look at SAVE keeps what a look at the page had
as_page : (K B : ℕ → Type 0) (r : SavingRound) (page : ℕ) (busy : Option ℕ) → HasFound K B r (LoadsSave page busy) → HasFound K B r (LoadsPage page busy)
as_page K B r page (Some word) has = has
as_page K B r page None has = has

as_save : (K B : ℕ → Type 0) (r : SavingRound) (page : ℕ) (busy : Option ℕ) → HasFound K B r (LoadsPage page busy) → HasFound K B r (LoadsSave page busy)
as_save K B r page (Some word) has = has
as_save K B r page None has = has

-- ---- what was found of a page

module _ (begun : SavingRound) (met : ℕ → List ℕ) where
  -- the page was not open, or its state was that of a saved or new one
  data Found (n pages epoch number page : ℕ) : Type 0 where
    NotOpen : (load : HasLoaded begun met n pages (Within (Page page))) → loaded load ≢ encode_page (Open epoch) → Found n pages epoch number page
    IsSaved : (load : HasLoaded begun met n pages (Behind (SaveOf page))) (says : SaveWord) → decode_save (loaded load) ≡ Some says → state_of says number ≡ Kept
        → Found n pages epoch number page

  later_found : (n pages epoch number page : ℕ) → Found n pages epoch number page → Found (suc n) pages epoch number page
  later_found n pages epoch number page (NotOpen load other) = NotOpen (later begun met n pages (Within (Page page)) load) other
  later_found n pages epoch number page (IsSaved load says reads is) = IsSaved (later begun met n pages (Behind (SaveOf page)) load) says reads is

  -- the word was loaded as what is said of a page, and says that a worker saves it for the checkpoint
  abbrev FoundBusy : (n pages number word : ℕ) → Type 0
  FoundBusy n pages number word = (worker : ℕ) × FoundSaid begun met n pages word (save_word.Saving number worker)

  -- a word that is loaded now, as what is said of the page
  said_now : (n : ℕ) (r : SavingRound) (page : ℕ) (busy : Option ℕ) (word : ℕ) (says : SaveWord) → round_after begun met n ≡ at_stage r (LoadsSave page busy)
      → word ≡ word_of_row r (Behind (SaveOf page)) (met n) → decode_save word ≡ Some says → FoundSaid begun met (suc n) r.layout.pages word says
  said_now n r page busy word says is same reads =
      record { page = page; load = now begun met n (at_stage r (LoadsSave page busy)) r.layout.pages (Behind (SaveOf page)) is refl; same = same; reads = reads }

  later_busy : (n pages number word : ℕ) → FoundBusy n pages number word → FoundBusy (suc n) pages number word
  later_busy n pages number word (worker, said) =
      (worker, record { page = said.page; load = later begun met n pages (Behind (SaveOf said.page)) said.load; same = said.same; reads = said.reads })

  abbrev FoundAt : ℕ → SavingRound → SaveRoundStage → Type 0
  FoundAt n r stage = HasFound (Found n r.layout.pages r.epoch r.number) (FoundBusy n r.layout.pages r.number) r stage

  abbrev FoundBy : ℕ → SavingRound → Type 0
  FoundBy n r = FoundAt n r r.stage

  found_later : (n : ℕ) (r : SavingRound) (stage : SaveRoundStage) → FoundAt n r stage → FoundAt (suc n) r stage
  found_later n r stage has =
      more_found (Found n r.layout.pages r.epoch r.number) (Found (suc n) r.layout.pages r.epoch r.number)
      (FoundBusy n r.layout.pages r.number) (FoundBusy (suc n) r.layout.pages r.number)
      (later_found n r.layout.pages r.epoch r.number) (later_busy n r.layout.pages r.number) r stage has

  -- ---- the first loads

  at_gate : (n : ℕ) (r : SavingRound) (word : ℕ) (o : Option GateWord) → FoundBy n (SaveRound.looked_at_gate (at_stage r LoadsGate) word o)
  at_gate n r word (Some gate) = by_test (SaveRound.all_left r.caller gate)
    where
      by_test : (b : Bool) → FoundBy n (cond b (at_stage r (Ended (NothingNow word))) (record r { epoch = gate.epoch; stage = LoadsSnap }))
      by_test true = tt
      by_test false = tt
  at_gate n r word None = tt

  at_snap : (n : ℕ) (r : SavingRound) (o : Option ℕ) → FoundBy n (SaveRound.found_snap (at_stage r LoadsSnap) o)
  at_snap n r (Some number) = tt
  at_snap n r None = tt

  when_runs : (n : ℕ) (r : SavingRound) (caller : SaveCaller) → FoundAt n r (SaveRound.when_one_runs r caller)
  when_runs n r Mutates = first_found (Found n r.layout.pages r.epoch r.number) (FoundBusy n r.layout.pages r.number) r
  when_runs n r (Scans mutators) = tt

  at_done : (n : ℕ) (r : SavingRound) (o : Option ℕ) → FoundAt n r (SaveRound.found_done r o)
  at_done n r (Some done) = by_test (nat_eq done r.number)
    where
      by_test : (b : Bool) → FoundAt n r (cond b (Ended (NoneRuns done)) (SaveRound.when_one_runs r r.caller))
      by_test true = tt
      by_test false = when_runs n r r.caller
  at_done n r None = tt

  at_gate_again : (n : ℕ) (r : SavingRound) (word : ℕ) (o : Option GateWord) → FoundAt n r (SaveRound.looked_at_gate_again r word o)
  at_gate_again n r word (Some gate) = by_test (nat_eq gate.epoch r.epoch)
    where
      by_test : (b : Bool) → FoundAt n r (cond b (SaveRound.first_page r) (Ended (NothingNow word)))
      by_test true = first_found (Found n r.layout.pages r.epoch r.number) (FoundBusy n r.layout.pages r.number) r
      by_test false = tt
  at_gate_again n r word None = tt

  -- ---- pages

  at_page : (n : ℕ) (r : SavingRound) (page : ℕ) (busy : Option ℕ) → round_after begun met n ≡ at_stage r (LoadsPage page busy) → FoundAt n r (LoadsPage page busy)
      → FoundAt (suc n) r (SaveRound.looked_at_page r page busy (word_of_row r (Within (Page page)) (met n)))
  at_page n r page busy is has =
      of_page (FoundAt (suc n) r) r page busy (word_of_row r (Within (Page page)) (met n))
      (λ opened. as_save (Found (suc n) r.layout.pages r.epoch r.number) (FoundBusy (suc n) r.layout.pages r.number) r page busy (found_later n r (LoadsPage page busy) has))
      (λ other.
      let load = now begun met n (at_stage r (LoadsPage page busy)) r.layout.pages (Within (Page page)) is refl in
      passed_by (Found (suc n) r.layout.pages r.epoch r.number) (FoundBusy (suc n) r.layout.pages r.number) r page busy (NotOpen load other)
      (found_later n r (LoadsPage page busy) has))

  by_state : (n : ℕ) (r : SavingRound) (page : ℕ) (busy : Option ℕ) (says : SaveWord) (state : SaveState) → round_after begun met n ≡ at_stage r (LoadsSave page busy)
      → decode_save (word_of_row r (Behind (SaveOf page)) (met n)) ≡ Some says → state_of says r.number ≡ state → FoundAt n r (LoadsSave page busy)
      → FoundAt (suc n) r (SaveRound.looked_by r page busy (word_of_row r (Behind (SaveOf page)) (met n)) says state)
  by_state n r page busy says Waits is reads state has = tt
  by_state n r page busy says Copying is reads state has =
      let by = (says_state says r.number).copying state in
      let word : ℕ = word_of_row r (Behind (SaveOf page)) (met n) in
      busy_found (Found (suc n) r.layout.pages r.epoch r.number) (FoundBusy (suc n) r.layout.pages r.number) r page word
      (by.0, said_now n r page busy word (save_word.Saving r.number by.0) is refl (reads ∙ ap Some by.1))
  by_state n r page busy says Kept is reads state has =
      let load = now begun met n (at_stage r (LoadsSave page busy)) r.layout.pages (Behind (SaveOf page)) is refl in
      passed_by (Found (suc n) r.layout.pages r.epoch r.number) (FoundBusy (suc n) r.layout.pages r.number) r page busy (IsSaved load says reads state)
      (as_page (Found (suc n) r.layout.pages r.epoch r.number) (FoundBusy (suc n) r.layout.pages r.number) r page busy (found_later n r (LoadsSave page busy) has))
  by_state n r page busy says Past is reads state has = tt

  at_save : (n : ℕ) (r : SavingRound) (page : ℕ) (busy : Option ℕ) (o : Option SaveWord) → round_after begun met n ≡ at_stage r (LoadsSave page busy)
      → decode_save (word_of_row r (Behind (SaveOf page)) (met n)) ≡ o → FoundAt n r (LoadsSave page busy)
      → FoundAt (suc n) r (SaveRound.looked_at_save r page busy (word_of_row r (Behind (SaveOf page)) (met n)) o)
  at_save n r page busy (Some says) is reads has = by_state n r page busy says (state_of says r.number) is reads refl has
  at_save n r page busy None is reads has = found_later n r (LoadsSave page busy) has

  went : (n : ℕ) (r : SavingRound) (s : PageSaving) (turn : Turn SaveEnd) → FoundAt n r (SaveRound.save_went s turn)
  went n r s More = tt
  went n r s (Finished result) = tt

  at_saving : (n : ℕ) (r : SavingRound) (s : PageSaving) (o : Option Step) (words : List ℕ) → FoundBy n (after_step save_round_machine (at_stage r (Saves s)) o words)
  at_saving n r s None words = tt
  at_saving n r s (Some step) words = went n r _ _

  at_end : (n : ℕ) (r : SavingRound) (won : Bool) (word : ℕ) → FoundBy n (SaveRound.taken_at (at_stage r ExchangesDone) ExchangesDone (cond won Won (Lost word)))
  at_end n r true word = tt
  at_end n r false word = tt

  -- ---- all

  keeps : (n : ℕ) (r : SavingRound) (stage : SaveRoundStage) → round_after begun met n ≡ at_stage r stage → FoundAt n r stage
      → FoundBy (suc n) (then_at begun met n r stage)
  keeps n r LoadsGate is has = at_gate (suc n) r (word_of_row r (Within Gate) (met n)) _
  keeps n r LoadsSnap is has = at_snap (suc n) r _
  keeps n r LoadsDone is has = at_done (suc n) r _
  keeps n r LoadsGateAgain is has = at_gate_again (suc n) r (word_of_row r (Within Gate) (met n)) _
  keeps n r (LoadsPage page busy) is has = at_page n r page busy is has
  keeps n r (LoadsSave page busy) is has = at_save n r page busy _ is refl has
  keeps n r (Saves s) is has = at_saving (suc n) r s (save.wanted s) (met n)
  keeps n r ExchangesDone is has = at_end (suc n) r _ _
  keeps n r (Ended result) is has = tt

  begins : IsBegun begun → FoundBy 0 begun
  begins (ByMutator layout epoch worker is) = subst (FoundBy 0) (sym is) tt
  begins (ByScanner layout mutators worker is) = subst (FoundBy 0) (sym is) tt

  holds : IsBegun begun → (n : ℕ) → FoundBy n (round_after begun met n)
  unfolding among
  holds new zero = begins new
  holds new (suc n) = let r : SavingRound = round_after begun met n in keeps n r r.stage refl (holds new n)

  told_found : (n pages epoch number page : ℕ) → 0 < number → Found n pages epoch number page → FoundKept begun met n pages epoch number page
  told_found n pages epoch number page some (NotOpen load other) = WasNotOpen load other
  told_found n pages epoch number page some (IsSaved load says reads is) = WasSaved load says reads (kept_is says number some is)

-- a page of the round is the board or lies in the space
in_round : (r : SavingRound) (page : ℕ) → IsRoundPage r page → IsInRound r page
in_round r page fits = by_test (nat_eq page (board_page r.layout.pages)) refl
  where
    by_test : (b : Bool) → nat_eq page (board_page r.layout.pages) ≡ b → IsInRound r page
    by_test true test = inl (grind (arith, nat_tests))
    by_test false test = let apart : page ≢ board_page r.layout.pages = grind (arith, nat_tests) in inr (fits.low apart, fits.high apart)

pub rounds_mark_what_is_kept : RoundsMarkWhatIsKept
rounds_mark_what_is_kept begun met n r new is at some page fits =
    let has : FoundBy begun met n r = subst (FoundBy begun met n) is (holds begun met new n) in
    let all : FoundAt begun met n r ExchangesDone = subst (FoundAt begun met n r) at has in
    told_found begun met n r.layout.pages r.epoch r.number page some (all page (in_round r page fits))

-- ---- the word that is told at a look, if there is nothing to do now

module _ (begun : SavingRound) (met : ℕ → List ℕ) where
  -- the word that the round has kept
  kept : (n pages number found word : ℕ) → FoundBusy begun met n pages number found → Some found ≡ Some word → FoundHindrance begun met (suc n) pages number word
  kept n pages number found word has same =
      let e : found ≡ word = cc in
      let then = later_busy begun met n pages number word (subst (FoundBusy begun met n pages number) e has) in
      WasBeingSaved then.0 then.1

  by_kept : (n : ℕ) (r : SavingRound) (page : ℕ) (busy : Option ℕ) (word : ℕ) → FoundAt begun met n r (LoadsPage page busy) → busy ≡ Some word
      → FoundHindrance begun met (suc n) r.layout.pages r.number word
  by_kept n r page (Some found) word has same = kept n r.layout.pages r.number found word has same
  by_kept n r page None word has same = cc

  by_page : (n : ℕ) (r : SavingRound) (page : ℕ) (busy : Option ℕ) (word : ℕ) → round_after begun met n ≡ at_stage r (LoadsSave page busy)
      → FoundAt begun met n r (LoadsPage page busy) → ShowsByPage (at_stage r (LoadsSave page busy)) page busy (word_of_row r (Behind (SaveOf page)) (met n)) word
      → FoundHindrance begun met (suc n) r.layout.pages r.number word
  by_page n r page busy word is has (OfLater same says reads less) = WasOfLater says (said_now begun met n r page busy word says is same reads) less
  by_page n r page busy word is has (BusyBefore same last) = by_kept n r page busy word has same
  by_page n r page busy word is has (BusyHere same worker reads last) =
      WasBeingSaved worker (said_now begun met n r page busy word (save_word.Saving r.number worker) is same reads)

  at_look : (n : ℕ) (r : SavingRound) (stage : SaveRoundStage) (word : ℕ) → LooksAtPage stage → round_after begun met n ≡ at_stage r stage → FoundAt begun met n r stage
      → ShowsNothingToSave (at_stage r stage) stage (met n) word → FoundHindrance begun met (suc n) r.layout.pages r.number word
  at_look n r (LoadsPage page busy) word at is has shows = by_kept n r page busy word has shows.1
  at_look n r (LoadsSave page busy) word at is has shows = by_page n r page busy word is (as_page _ _ r page busy has) shows
  at_look n r _ word at is has shows = elim at [ ]

pub hindrances_are_found : HindrancesAreFound
hindrances_are_found begun met n r after word new is at acts =
    let found = subst (FoundBy begun met n) is (holds begun met new n) in
    let next : suc n ≡ n + 1 = omega arith in
    subst (λ (m : ℕ). FoundHindrance begun met m r.layout.pages r.number word) next
    (at_look begun met n r r.stage word at is found (shows_nothing r r.stage (met n) after word acts).0)
