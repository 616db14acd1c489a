-- What is proved of a save round, by the words on which it makes its steps.
use Rattle.std.specs.Prelude.{◌≡◌, ◌≢◌, ℕ, ◌+◌, ◌-◌, ◌<◌, ◌≤◌, true, ⊤, List, Option, Some}
use Rattle.atom_store.specs.declared.step.Step.TheVariants.{Load}
use Rattle.atom_store.specs.declared.turn.Turn.TheVariants.{Finished}
use Rattle.atom_store.specs.Acts.{MakesStep}
use Rattle.atom_store.specs.Runs.{among}
use Rattle.space_map.specs.declared.gate_word.GateWord.{GateWord}
use Rattle.space_map.specs.declared.page_word.PageWord.TheVariants.{Open}
use Rattle.space_map.specs.declared.save_word.SaveWord.{SaveWord}
use Rattle.space_map.specs.declared.save_word.SaveWord.TheVariants as save_word
use Rattle.space_map.specs.GateWord.{decode_gate}
use Rattle.space_map.specs.PageWord.{encode_page}
use Rattle.space_map.specs.SaveWord.{decode_save, number_of}
use Rattle.space_map.specs.Spaces.{Layout}
use Rattle.space_map.specs.Table.{Gate, SnapNumber, LastSaved, Page, SaveOf}
use Rattle.page_saves.specs.declared.save_caller.SaveCaller.{SaveCaller}
use Rattle.page_saves.specs.declared.save_caller.SaveCaller.TheVariants.{Mutates, Scans}
use Rattle.page_saves.specs.declared.save_round_end.SaveRoundEnd.TheVariants.{NoneRuns, Saved, Marked, NothingNow}
use Rattle.page_saves.specs.declared.save_round_stage.SaveRoundStage.{SaveRoundStage}
use Rattle.page_saves.specs.declared.save_round_stage.SaveRoundStage.TheVariants.{LoadsGate, LoadsSnap, LoadsDone, LoadsGateAgain, LoadsPage, LoadsSave, Saves, ExchangesDone, Ended}
use Rattle.page_saves.specs.Save.{PageSaving}
use Rattle.page_saves.specs.SaveRound.{SavingRound, begun_by_mutator, begun_by_scanner, wanted, to_page, page_after, save_round_machine}
use Rattle.page_saves.specs.SaveState.{IsKept}
use Rattle.page_saves.specs.SoundRound.{IsRoundPage, IsSoundSaveRound}
use Rattle.page_saves.specs.SoundSave.{IsOwnSave}
use Rattle.page_saves.specs.Theorems.{EndsSave, ShowsSaveTaken}
use Rattle.space_map.specs.WholeTable.{WholeRow, Within, Behind, HoldsWhole, ChangesWholeOnly, whole_place_of, whole_word}

-- the word of a row of the round's table
abbrev pub word_of_row : SavingRound → WholeRow → List ℕ → ℕ
word_of_row r row words = whole_word r.layout.pages row words

-- ---- what a round tells

-- a save of the round's own has just ended
pub record SavesPage (r : SavingRound) (before after : List ℕ) : Type 0 where
  pub save : PageSaving
  pub saving : r.stage ≡ Saves save
  pub own : IsOwnSave r.layout save.page r.number r.worker save
  pub of_round : IsRoundPage r save.page
  pub ends : EndsSave save before after

abbrev pub SavedPagesAreOwn : Type 0
SavedPagesAreOwn = (r : SavingRound) (before after : List ℕ) → IsSoundSaveRound r → HoldsWhole r.layout before
    → MakesStep save_round_machine r before after (Finished Saved) → SavesPage r before after

-- the checkpoint before this one was the last that was done, and then this one is; no other word changes
pub record MarksDone (r : SavingRound) (before after : List ℕ) : Type 0 where
  pub last : r.stage ≡ ExchangesDone
  pub was : word_of_row r (Within LastSaved) before ≡ r.number - 1
  pub is : word_of_row r (Within LastSaved) after ≡ r.number
  pub others : ChangesWholeOnly r.layout.pages (Within LastSaved) before after

abbrev pub MarkedCheckpointsAreDone : Type 0
MarkedCheckpointsAreDone = (r : SavingRound) (before after : List ℕ) → IsSoundSaveRound r → HoldsWhole r.layout before
    → MakesStep save_round_machine r before after (Finished Marked) → MarksDone r before after

-- ---- nothing to do now

-- all mutators have left, as a scanner sees by the gate
pub record ShowsAllLeft (r : SavingRound) (words : List ℕ) (word : ℕ) : Type 0 where
  pub mutators : ℕ
  pub scanner : r.caller ≡ Scans mutators
  pub gate : GateWord
  pub read : word ≡ word_of_row r (Within Gate) words
  pub says : decode_gate word ≡ Some gate
  pub left : gate.left ≡ mutators

-- the gate has another epoch than when it was read first
pub record ShowsOtherEpoch (r : SavingRound) (words : List ℕ) (word : ℕ) : Type 0 where
  pub gate : GateWord
  pub read : word ≡ word_of_row r (Within Gate) words
  pub says : decode_gate word ≡ Some gate
  pub other : gate.epoch ≢ r.epoch

-- this is the last page of the round
abbrev pub IsLastPage : SavingRound → (page : ℕ) → Type 0
IsLastPage r page = to_page r + r.layout.pages ≤ page_after r page

-- what is said of a page is of a later checkpoint; or the page is the last one, and some page is being saved: one before it, by the word
-- that the round has kept, or this
pub data ShowsByPage (r : SavingRound) (page : ℕ) (busy : Option ℕ) (said word : ℕ) : Type 0 where
  OfLater : word ≡ said → (says : SaveWord) → decode_save word ≡ Some says → r.number < number_of says → ShowsByPage r page busy said word
  BusyBefore : busy ≡ Some word → IsLastPage r page → ShowsByPage r page busy said word
  BusyHere : word ≡ said → (worker : ℕ) → decode_save word ≡ Some (save_word.Saving r.number worker) → IsLastPage r page → ShowsByPage r page busy said word

-- A word shows that there is nothing to do now, by what the round was about to do.
abbrev pub ShowsNothingToSave : SavingRound → SaveRoundStage → (words : List ℕ) → (word : ℕ) → Type 0
ShowsNothingToSave r LoadsGate words word = ShowsAllLeft r words word
ShowsNothingToSave r LoadsSnap words word = ⊥
ShowsNothingToSave r LoadsDone words word = ⊥
ShowsNothingToSave r LoadsGateAgain words word = ShowsOtherEpoch r words word
ShowsNothingToSave r (LoadsPage page busy) words word =
    (word_of_row r (Within (Page page)) words ≢ encode_page (Open r.epoch)) × (busy ≡ Some word) × IsLastPage r page
ShowsNothingToSave r (LoadsSave page busy) words word = ShowsByPage r page busy (word_of_row r (Behind (SaveOf page)) words) word
ShowsNothingToSave r (Saves s) words word = ShowsSaveTaken s words word
ShowsNothingToSave r ExchangesDone words word = (word ≡ word_of_row r (Within LastSaved) words) × (word ≢ r.number - 1)
ShowsNothingToSave r (Ended result) words word = ⊥

abbrev pub NothingToSaveIsShown : Type 0
NothingToSaveIsShown = (r : SavingRound) (before after : List ℕ) (word : ℕ)
    → MakesStep save_round_machine r before after (Finished (NothingNow word)) → ShowsNothingToSave r r.stage before word × (after ≡ before)

-- ---- what a round has read

-- the round after so many steps, whatever words each of them met
abbrev pub round_after : SavingRound → (met : ℕ → List ℕ) → ℕ → SavingRound
round_after r met n = among save_round_machine r met n

-- before its step n the round has loaded the word of this row
pub record HasLoaded (begun : SavingRound) (met : ℕ → List ℕ) (n : ℕ) (pages : ℕ) (row : WholeRow) : Type 0 where
  pub at : ℕ
  pub before : at < n
  pub wants : wanted (round_after begun met at) ≡ Some (Load (whole_place_of pages row))

-- the word that it loaded
abbrev pub loaded : {begun : SavingRound} {met : ℕ → List ℕ} {n pages : ℕ} {row : WholeRow} → HasLoaded begun met n pages row → ℕ
loaded {begun} {met} {n} {pages} {row} load = whole_word pages row (met load.at)

-- a scanner has read the gate, and has the epoch from there; a mutator knows its epoch
pub record HasReadGate (begun : SavingRound) (met : ℕ → List ℕ) (n : ℕ) (pages epoch : ℕ) : Type 0 where
  pub load : HasLoaded begun met n pages (Within Gate)
  pub gate : GateWord
  pub says : decode_gate (loaded load) ≡ Some gate
  pub same : gate.epoch ≡ epoch

abbrev pub HasEpoch : (begun : SavingRound) (met : ℕ → List ℕ) (n : ℕ) (pages epoch : ℕ) → SaveCaller → Type 0
HasEpoch begun met n pages epoch Mutates = ⊤
HasEpoch begun met n pages epoch (Scans mutators) = HasReadGate begun met n pages epoch

-- after that it has read the number of the checkpoint begun last
pub record HasReadSnap (begun : SavingRound) (met : ℕ → List ℕ) (n : ℕ) (pages epoch number : ℕ) (caller : SaveCaller) : Type 0 where
  pub load : HasLoaded begun met n pages (Within SnapNumber)
  pub same : loaded load ≡ number
  pub earlier : HasEpoch begun met load.at pages epoch caller

-- and then that of the checkpoint done last, which is another
pub record HasReadDone (begun : SavingRound) (met : ℕ → List ℕ) (n : ℕ) (pages epoch number : ℕ) (caller : SaveCaller) : Type 0 where
  pub load : HasLoaded begun met n pages (Within LastSaved)
  pub other : loaded load ≢ number
  pub earlier : HasReadSnap begun met load.at pages epoch number caller

-- and then, if it is a scanner's, the gate once more, which has the same epoch
pub record HasReadGateAgain (begun : SavingRound) (met : ℕ → List ℕ) (n : ℕ) (pages epoch number : ℕ) (caller : SaveCaller) : Type 0 where
  pub load : HasLoaded begun met n pages (Within Gate)
  pub gate : GateWord
  pub says : decode_gate (loaded load) ≡ Some gate
  pub same : gate.epoch ≡ epoch
  pub earlier : HasReadDone begun met load.at pages epoch number caller

abbrev pub HasReadAll : (begun : SavingRound) (met : ℕ → List ℕ) (n : ℕ) (pages epoch number : ℕ) → SaveCaller → Type 0
HasReadAll begun met n pages epoch number Mutates = HasReadDone begun met n pages epoch number Mutates
HasReadAll begun met n pages epoch number (Scans mutators) = HasReadGateAgain begun met n pages epoch number (Scans mutators)

-- the round that is to make its step n has read the number of the checkpoint begun last, and loads it now as that of the one done
-- last; no word changes
pub record ShowsNoneRuns (begun : SavingRound) (met : ℕ → List ℕ) (n : ℕ) (r : SavingRound) (after : List ℕ) (number : ℕ) : Type 0 where
  pub last : r.stage ≡ LoadsDone
  pub begun_last : HasReadSnap begun met n r.layout.pages r.epoch number r.caller
  pub done_last : number ≡ word_of_row r (Within LastSaved) (met n)
  pub same : number ≡ r.number
  pub stays : after ≡ met n

-- a round as it is made, for a mutator or for a scanner
pub data IsBegun (r : SavingRound) : Type 0 where
  ByMutator : (layout : Layout) (epoch worker : ℕ) → r ≡ begun_by_mutator layout epoch worker → IsBegun r
  ByScanner : (layout : Layout) (mutators worker : ℕ) → r ≡ begun_by_scanner layout mutators worker → IsBegun r

abbrev pub NoneRunsIsShown : Type 0
NoneRunsIsShown = (begun : SavingRound) (met : ℕ → List ℕ) (n : ℕ) (r : SavingRound) (after : List ℕ) (number : ℕ) → IsBegun begun
    → round_after begun met n ≡ r → MakesStep save_round_machine r (met n) after (Finished (NoneRuns number)) → ShowsNoneRuns begun met n r after number

-- the round looks at pages, saves one, or is about to mark the checkpoint
abbrev pub IsAtPages : SaveRoundStage → Type 0
IsAtPages (LoadsPage page busy) = ⊤
IsAtPages (LoadsSave page busy) = ⊤
IsAtPages (Saves s) = ⊤
IsAtPages ExchangesDone = ⊤
IsAtPages stage = ⊥

-- It comes there only after its first loads, which showed that a checkpoint runs. A scanner's are four, in this order, and both of
-- the gate show its epoch.
abbrev pub RoundsReadFirst : Type 0
RoundsReadFirst = (begun : SavingRound) (met : ℕ → List ℕ) (n : ℕ) (r : SavingRound) → IsBegun begun → round_after begun met n ≡ r → IsAtPages r.stage
    → HasReadAll begun met n r.layout.pages r.epoch r.number r.caller

-- ---- what a round has found

-- in this round the page was found not open in the epoch, or saved or new for the checkpoint
pub data FoundKept (begun : SavingRound) (met : ℕ → List ℕ) (n : ℕ) (pages epoch number page : ℕ) : Type 0 where
  WasNotOpen : (load : HasLoaded begun met n pages (Within (Page page))) → loaded load ≢ encode_page (Open epoch) → FoundKept begun met n pages epoch number page
  WasSaved : (load : HasLoaded begun met n pages (Behind (SaveOf page))) (says : SaveWord) → decode_save (loaded load) ≡ Some says → IsKept says number
      → FoundKept begun met n pages epoch number page

-- a round is about to mark the checkpoint only if it has found that of each page; a checkpoint's number isn't 0
abbrev pub RoundsMarkWhatIsKept : Type 0
RoundsMarkWhatIsKept = (begun : SavingRound) (met : ℕ → List ℕ) (n : ℕ) (r : SavingRound) → IsBegun begun → round_after begun met n ≡ r → r.stage ≡ ExchangesDone
    → 0 < r.number → (page : ℕ) → IsRoundPage r page → FoundKept begun met n r.layout.pages r.epoch r.number page

-- ---- what a round tells of pages

-- in this round the word was loaded as what is said of a page, and it says this
pub record FoundSaid (begun : SavingRound) (met : ℕ → List ℕ) (n : ℕ) (pages word : ℕ) (says : SaveWord) : Type 0 where
  pub page : ℕ
  pub load : HasLoaded begun met n pages (Behind (SaveOf page))
  pub same : word ≡ loaded load
  pub reads : decode_save word ≡ Some says

-- it says that a worker saves the page for the checkpoint, or it is of a later one
pub data FoundHindrance (begun : SavingRound) (met : ℕ → List ℕ) (n : ℕ) (pages number word : ℕ) : Type 0 where
  WasBeingSaved : (worker : ℕ) → FoundSaid begun met n pages word (save_word.Saving number worker) → FoundHindrance begun met n pages number word
  WasOfLater : (says : SaveWord) → FoundSaid begun met n pages word says → number < number_of says → FoundHindrance begun met n pages number word

-- the round looks at a page
abbrev pub LooksAtPage : SaveRoundStage → Type 0
LooksAtPage (LoadsPage page busy) = ⊤
LooksAtPage (LoadsSave page busy) = ⊤
LooksAtPage stage = ⊥

-- a round that then finds that there is nothing to do now tells such a word, which it has loaded before or loads now
abbrev pub HindrancesAreFound : Type 0
HindrancesAreFound = (begun : SavingRound) (met : ℕ → List ℕ) (n : ℕ) (r : SavingRound) (after : List ℕ) (word : ℕ) → IsBegun begun
    → round_after begun met n ≡ r → LooksAtPage r.stage → MakesStep save_round_machine r (met n) after (Finished (NothingNow word))
    → FoundHindrance begun met (n + 1) r.layout.pages r.number word
