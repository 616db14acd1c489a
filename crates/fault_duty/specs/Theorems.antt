-- What is proved of a round of the duty, by the words on which it makes its steps.
use Rattle.std.specs.Prelude.{◌≡◌, ◌≢◌, ℕ, ◌+◌, ◌*◌, ◌<◌, ◌⊎◌, ◌≤◌, ⊤, Bool, true, false, List, Option, Some}
use Rattle.atom_store.specs.declared.reply.Reply.{Reply}
use Rattle.atom_store.specs.declared.turn.Turn.TheVariants.{More, Finished}
use Rattle.atom_store.specs.Acts.{MakesStep, after_next_step}
use Rattle.space_map.specs.declared.area_word.AreaWord.{AreaWord}
use Rattle.space_map.specs.declared.gate_word.GateWord.{GateWord}
use Rattle.space_map.specs.declared.page_word.PageWord.{PageWord}
use Rattle.space_map.specs.declared.page_word.PageWord.TheVariants as page_word
use Rattle.space_map.specs.AreaWord.{decode_area}
use Rattle.space_map.specs.GateWord.{decode_gate}
use Rattle.space_map.specs.PageWord.{age_of, encode_page, decode_page}
use Rattle.space_map.specs.Spaces.{to_space, page_of, board_page, first_word}
use Rattle.space_map.specs.Table.{Row, Gate, Traced, Area, WeakTurn, Page}
use Rattle.space_map.specs.TableWords.{row_word, HoldsTable, ChangesOnly}
use Rattle.page_slots.specs.Claim.{Claiming, begun, claim_machine}
use Rattle.page_slots.specs.Theorems.{WinsPage, ShowsTaken}
use Rattle.cell_walk.specs.declared.linked_cell.LinkedCell.{LinkedCell}
use Rattle.cell_walk.specs.declared.walk_end.WalkEnd.TheVariants.{Passed}
use Rattle.cell_walk.specs.declared.walk_stage.WalkStage.TheVariants.{TakesTurn, LoadsTarget}
use Rattle.cell_walk.specs.Taken as walk_replies
use Rattle.cell_walk.specs.Taken.{walk_machine}
use Rattle.cell_walk.specs.Theorems.{HasTurn, ShowsAnother}
use Rattle.cell_walk.specs.Walking.{Walking}
use Rattle.fault_duty.specs.declared.caller.Caller.TheVariants.{Scans}
use Rattle.fault_duty.specs.declared.choice.Choice.{Choice}
use Rattle.fault_duty.specs.declared.end_look.EndLook.{EndLook}
use Rattle.fault_duty.specs.declared.wanted_page.WantedPage.{WantedPage}
use Rattle.fault_duty.specs.declared.round_end.RoundEnd.TheVariants as round_end
use Rattle.fault_duty.specs.declared.round_end.RoundEnd.TheVariants.{ScanPage, ScanInPlace, Marked, AllLeft, NothingNow}
use Rattle.fault_duty.specs.declared.duty_stage.DutyStage.{DutyStage}
use Rattle.fault_duty.specs.declared.duty_stage.DutyStage.TheVariants.{LoadsGate, LoadsTraced, LoadsWanted, LoadsFrontFor, LoadsFront, LoadsPage, Claims, EndGate, EndArea, EndPage, EndFilling, EndAreaAgain, Walks, Traces, Ended}
use Rattle.fault_duty.specs.Duty.{Round, at_stage, front_of, page_after, duty_machine, taken_at}
use Rattle.fault_duty.specs.Soundness.{Forbids, IsChoice, IsOwnClaim, IsOwnWalk, IsSoundRound}

-- the word of a row of the round's table
abbrev pub word_of_row : Round → Row → List ℕ → ℕ
word_of_row d row words = row_word d.layout.pages row words

-- ---- nothing to do now

-- what a page's word says is of an epoch later than this
abbrev pub IsLater : PageWord → (epoch : ℕ) → Type 0
IsLater says epoch = epoch + 1 < age_of says

-- the gate's word has another epoch than the round's
pub record OtherEpoch (d : Round) (words : List ℕ) (word : ℕ) : Type 0 where
  pub gate : GateWord
  pub read : word ≡ word_of_row d Gate words
  pub says : decode_gate word ≡ Some gate
  pub other : gate.epoch ≢ d.epoch

-- the gate's word has another epoch, or a mutator behind
pub record NotStill (d : Round) (words : List ℕ) (word : ℕ) : Type 0 where
  pub gate : GateWord
  pub read : word ≡ word_of_row d Gate words
  pub says : decode_gate word ≡ Some gate
  pub unfit : (gate.epoch ≢ d.epoch) ⊎ (gate.behind ≢ 0)

-- the wanted page is open or scanned in this epoch, or it is the board and of a later one
pub record IsServed (d : Round) (page : ℕ) (words : List ℕ) (word : ℕ) : Type 0 where
  pub found : PageWord
  pub read : word ≡ word_of_row d (Page page) words
  pub says : decode_page word ≡ Some found
  pub served : (age_of found ≡ d.epoch + 1) ⊎ ((page ≡ board_page d.layout.pages) × IsLater found d.epoch)

-- a page that might be chosen is of a later epoch
pub record IsPastPage (d : Round) (page : ℕ) (words : List ℕ) (word : ℕ) : Type 0 where
  pub found : PageWord
  pub read : word ≡ word_of_row d (Page page) words
  pub says : decode_page word ≡ Some found
  pub later : IsLater found d.epoch

-- FRONT has moved since the first look at the end of the area
pub record FrontMoved (d : Round) (look : EndLook) (words : List ℕ) (word : ℕ) : Type 0 where
  pub area : AreaWord
  pub read : word ≡ word_of_row d (Area (to_space d.epoch)) words
  pub says : decode_area word ≡ Some area
  pub moved : front_of d area ≢ look.front

-- A word shows that there is nothing to do now, by what the round was about to do.
abbrev pub ShowsNothing : Round → DutyStage → (words : List ℕ) → (word : ℕ) → Type 0
ShowsNothing d LoadsGate words word = OtherEpoch d words word
ShowsNothing d (LoadsTraced hindrance) words word = ⊥
ShowsNothing d (LoadsWanted seen page) words word = IsServed d page words word
-- the word of the wanted page, as it was read, is of this epoch or a later one
ShowsNothing d (LoadsFrontFor seen w) words word = (word ≡ encode_page w.says) × (d.epoch < age_of w.says)
ShowsNothing d (LoadsFront seen) words word = ⊥
-- or no page is left to choose, since the next one isn't full, and the word forbids to end the tracing
ShowsNothing d (LoadsPage choice page) words word =
    IsPastPage d page words word ⊎ ((choice.front < first_word (page_after d page + 1)) × Forbids d.epoch word)
ShowsNothing d (Claims c) words word = ShowsTaken c words word
ShowsNothing d (EndGate traced) words word = NotStill d words word
ShowsNothing d (EndArea traced) words word = ⊥
ShowsNothing d (EndPage look page) words word = (word ≡ word_of_row d (Page page) words) × (word ≢ encode_page (page_word.Open d.epoch))
ShowsNothing d (EndFilling look) words word =
    (word ≡ word_of_row d (Page (page_of look.front)) words) × ((worker : ℕ) × (decode_page word ≡ Some (page_word.Scanning d.epoch worker)))
-- or the word of the filling page, as it was read, is of this epoch or a later one
ShowsNothing d (EndAreaAgain look filling) words word = FrontMoved d look words word ⊎ ((word ≡ encode_page filling) × (d.epoch < age_of filling))
-- another worker has the turn, or had it: WEAKTURN is of this epoch or a later one, or no longer what was read
ShowsNothing d (Walks traced v) words word = ShowsAnother v words word
ShowsNothing d (Traces traced) words word = (word ≡ word_of_row d Traced words) × (word ≢ traced)
ShowsNothing d (Ended result) words word = ⊥

abbrev pub NothingIsShown : Type 0
NothingIsShown = (d : Round) (before after : List ℕ) (word : ℕ) → IsSoundRound d
    → MakesStep duty_machine d before after (Finished (NothingNow word)) → ShowsNothing d d.stage before word × (after ≡ before)

-- ---- the epoch is traced

-- TRACED, which the round loads after the gate, says that its epoch is traced; no word changes
pub record SeesTraced (d : Round) (before after : List ℕ) : Type 0 where
  pub hindrance : Option ℕ
  pub loads : d.stage ≡ LoadsTraced hindrance
  pub says : word_of_row d Traced before ≡ d.epoch + 1
  pub stays : after ≡ before

abbrev pub TracedIsSeen : Type 0
TracedIsSeen = (d : Round) (before after : List ℕ)
    → MakesStep duty_machine d before after (Finished round_end.Traced) → SeesTraced d before after

-- and where it says so as the round loads it there, that is what is told
abbrev pub TracedIsTold : Type 0
TracedIsTold = (d : Round) (hindrance : Option ℕ) (words : List ℕ) → word_of_row d Traced words ≡ d.epoch + 1
    → MakesStep duty_machine (at_stage d (LoadsTraced hindrance)) words words (Finished round_end.Traced)

-- ---- all mutators have left

-- the gate's word, which a scanner reads first, counts all mutators as left; no word changes
pub record SeesAllLeft (d : Round) (before after : List ℕ) (word : ℕ) : Type 0 where
  pub first : d.stage ≡ LoadsGate
  pub mutators : ℕ
  pub scanner : d.caller ≡ Scans mutators
  pub gate : GateWord
  pub read : word ≡ word_of_row d Gate before
  pub says : decode_gate word ≡ Some gate
  pub left : gate.left ≡ mutators
  pub stays : after ≡ before

abbrev pub AllLeftIsSeen : Type 0
AllLeftIsSeen = (d : Round) (before after : List ℕ) (word : ℕ)
    → MakesStep duty_machine d before after (Finished (AllLeft word)) → SeesAllLeft d before after word

-- and where it does as a scanner reads it first, that is what is told
abbrev pub AllLeftIsTold : Type 0
AllLeftIsTold = (d : Round) (mutators : ℕ) (gate : GateWord) (words : List ℕ) → d.caller ≡ Scans mutators
    → decode_gate (word_of_row d Gate words) ≡ Some gate → gate.left ≡ mutators
    → MakesStep duty_machine (at_stage d LoadsGate) words words (Finished (AllLeft (word_of_row d Gate words)))

-- ---- what is done

-- the round has come to the exchange of TRACED, which was another word, and says then that the round's epoch is traced; no other
-- word changes
pub record MarksEpoch (d : Round) (before after : List ℕ) : Type 0 where
  pub traced : ℕ
  pub exchanges : d.stage ≡ Traces traced
  pub was : word_of_row d Traced before ≢ d.epoch + 1
  pub is : word_of_row d Traced after ≡ d.epoch + 1
  pub others : ChangesOnly d.layout.pages Traced before after

abbrev pub MarkedEpochsAreTraced : Type 0
MarkedEpochsAreTraced = (d : Round) (before after : List ℕ) → IsSoundRound d → HoldsTable d.layout.pages before
    → MakesStep duty_machine d before after (Finished Marked) → MarksEpoch d before after

-- with this step the round's walk, which has the turn, has passed all cells
pub record PassesCells (d : Round) (traced : ℕ) (before after : List ℕ) : Type 0 where
  pub walk : Walking
  pub walks : d.stage ≡ Walks traced walk
  pub own : IsOwnWalk d walk
  pub turn : HasTurn walk.stage
  pub passes : MakesStep walk_machine walk before after (Finished Passed)

-- the round has the turn: its walk goes over the chain of cells, or has passed it
abbrev pub HasRoundTurn : DutyStage → Type 0
HasRoundTurn (Walks traced v) = HasTurn v.stage
HasRoundTurn (Traces traced) = ⊤
HasRoundTurn stage = ⊥

-- the round's walk exchanges WEAKTURN, from the number of an earlier epoch, as it was read, to that of its own; no other word
-- changes
pub record WinsTurn (d : Round) (before after : List ℕ) : Type 0 where
  pub traced : ℕ
  pub walk : Walking
  pub walks : d.stage ≡ Walks traced walk
  pub turn : ℕ
  pub takes : walk.stage ≡ TakesTurn turn
  pub earlier : turn < d.epoch + 1
  pub was : word_of_row d WeakTurn before ≡ turn
  pub is : word_of_row d WeakTurn after ≡ d.epoch + 1
  pub others : ChangesOnly d.layout.pages WeakTurn before after

-- a round comes to the exchange of TRACED only from a walk that has passed all cells, and has the turn only from such an exchange
-- of WEAKTURN on
pub record CellsArePassedBeforeTheMark : Type 0 where
  pub passed : (d : Round) (before after : List ℕ) (traced : ℕ) → IsSoundRound d → MakesStep duty_machine d before after More
      → (after_next_step duty_machine d before).stage ≡ Traces traced → PassesCells d traced before after
  pub turn_won : (d : Round) (before after : List ℕ) → IsSoundRound d → HoldsTable d.layout.pages before → MakesStep duty_machine d before after More
      → HasRoundTurn (after_next_step duty_machine d before).stage → HasRoundTurn d.stage ⊎ WinsTurn d before after

-- the round's own claim of this page wins it
pub record ClaimsPage (d : Round) (page : ℕ) (in_place : Bool) (before after : List ℕ) : Type 0 where
  pub claim : Claiming
  pub own : IsOwnClaim d claim
  pub of_page : claim.page ≡ page
  pub placed : claim.in_place ≡ in_place
  pub wins : WinsPage claim before after

abbrev pub ScannedPagesAreClaimed : Type 0
ScannedPagesAreClaimed = (d : Round) (before after : List ℕ) (page : ℕ) → IsSoundRound d → HoldsTable d.layout.pages before
    → MakesStep duty_machine d before after (Finished (ScanPage page)) → ClaimsPage d page false before after

abbrev pub PagesInPlaceAreClaimed : Type 0
PagesInPlaceAreClaimed = (d : Round) (before after : List ℕ) (page : ℕ) → IsSoundRound d → HoldsTable d.layout.pages before
    → MakesStep duty_machine d before after (Finished (ScanInPlace page)) → ClaimsPage d page true before after

-- ---- which page is claimed

-- the wanted page is the board
pub record ClaimsBoard (d : Round) (page : ℕ) (words : List ℕ) (c : Claiming) : Type 0 where
  pub found : PageWord
  pub says : decode_page (word_of_row d (Page page) words) ≡ Some found
  pub board : page ≡ board_page d.layout.pages
  pub is : c ≡ begun d.layout page d.epoch d.worker found false

-- the wanted page is full by the area
pub record ClaimsWanted (d : Round) (w : WantedPage) (words : List ℕ) (c : Claiming) : Type 0 where
  pub area : AreaWord
  pub says : decode_area (word_of_row d (Area (to_space d.epoch)) words) ≡ Some area
  pub full : first_word (w.page + 1) ≤ front_of d area
  pub is : c ≡ begun d.layout w.page d.epoch d.worker w.says false

-- the page comes next in the choice: it is the board, or full
pub record ClaimsChosen (d : Round) (choice : Choice) (page : ℕ) (words : List ℕ) (c : Claiming) : Type 0 where
  pub found : PageWord
  pub says : decode_page (word_of_row d (Page page) words) ≡ Some found
  pub chosen : IsChoice d choice.front page
  pub is : c ≡ begun d.layout page d.epoch d.worker found false

-- FRONT stands where it stood, and the page is the one that it is on
pub record ClaimsFilling (d : Round) (look : EndLook) (filling : PageWord) (words : List ℕ) (c : Claiming) : Type 0 where
  pub area : AreaWord
  pub says : decode_area (word_of_row d (Area (to_space d.epoch)) words) ≡ Some area
  pub stands : front_of d area ≡ look.front
  pub is : c ≡ begun d.layout (page_of look.front) d.epoch d.worker filling true

-- why a round makes a claim, by what it was about to do; from then on it goes on with that claim
abbrev pub ClaimsFor : Round → DutyStage → List ℕ → Claiming → Type 0
ClaimsFor d (LoadsWanted found page) words c = ClaimsBoard d page words c
ClaimsFor d (LoadsFrontFor found w) words c = ClaimsWanted d w words c
ClaimsFor d (LoadsPage choice page) words c = ClaimsChosen d choice page words c
ClaimsFor d (EndAreaAgain look filling) words c = ClaimsFilling d look filling words c
ClaimsFor d (Claims before) words c = c ≡ after_next_step claim_machine before words
ClaimsFor d stage words c = ⊥

abbrev pub ClaimsHaveCause : Type 0
ClaimsHaveCause = (d : Round) (before after : List ℕ) (c : Claiming) → IsSoundRound d → MakesStep duty_machine d before after More
    → (after_next_step duty_machine d before).stage ≡ Claims c → ClaimsFor d d.stage before c

-- ---- what a round knows of itself

-- a round at its walk stays sound, where links lead to cells of the heap
abbrev pub WalksStaySound : Type 0
WalksStaySound = (d : Round) (traced : ℕ) (v : Walking) (reply : Reply) → IsSoundRound (at_stage d (Walks traced v))
    → ((cell : LinkedCell) → (walk_replies.taken v reply).stage ≡ LoadsTarget cell → cell.at + 2 < 128 * d.layout.pages)
    → IsSoundRound (taken_at (at_stage d (Walks traced v)) (Walks traced v) reply)
