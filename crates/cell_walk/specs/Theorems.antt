-- What is proved of the walk.
use Rattle.std.specs.Prelude.{◌≡◌, ◌≢◌, ℕ, ◌+◌, ◌*◌, ◌<◌, ◌≤◌, ◌⊎◌, ⊤, true, false, List, [], ◌∷◌, Some, All, Contains, slice_index}
use Rattle.atom_store.specs.Acts.{MakesStep}
use Rattle.atom_store.specs.Machine.{RunsTo}
use Rattle.atom_store.specs.Runs.{Working, alone, among}
use Rattle.atom_store.specs.Step.{reply_of}
use Rattle.atom_store.specs.declared.reply.Reply.{Reply}
use Rattle.atom_store.specs.declared.reply.Reply.TheVariants.{Value, Won}
use Rattle.atom_store.specs.declared.step.Step.{Step}
use Rattle.atom_store.specs.declared.step.Step.TheVariants.{Load, Store, Exchange}
use Rattle.atom_store.specs.declared.turn.Turn.TheVariants.{Finished}
use Rattle.heap_words.specs.Decoded.{PointerWord, ForwardWord, decode}
use Rattle.heap_words.specs.FirstWords.{is_forward}
use Rattle.heap_words.specs.Word.{number_word, pointer_word}
use Rattle.space_map.specs.Spaces.{Layout}
use Rattle.space_map.specs.Table.{Row, WeakTurn, HeapWord, place_of}
use Rattle.space_map.specs.TableWords.{row_word}
use Rattle.space_map.specs.Worked.{four_pages}
use Rattle.cell_walk.specs.declared.linked_cell.LinkedCell.{LinkedCell}
use Rattle.cell_walk.specs.declared.walk_end.WalkEnd.{WalkEnd}
use Rattle.cell_walk.specs.declared.walk_end.WalkEnd.TheVariants.{Passed, Another}
use Rattle.cell_walk.specs.declared.walk_stage.WalkStage.{WalkStage}
use Rattle.cell_walk.specs.declared.walk_stage.WalkStage.TheVariants.{LoadsTurn, TakesTurn, LoadsWeak, LoadsTarget, LoadsTargetHeader, StoresTarget, LoadsLink, Ended}
use Rattle.cell_walk.specs.Chains.{IsChain, heap_in, target_passed, target_place, words_passed}
use Rattle.cell_walk.specs.Left.{advances, left}
use Rattle.cell_walk.specs.Soundness.{IsSound}
use Rattle.cell_walk.specs.Taken.{is_old, taken, told, walk_machine}
use Rattle.cell_walk.specs.Walking.{Walking, begun, most_cells, wanted}
use Rattle.cell_walk.specs.Worked.{worked, two_cells, targets_stay, no_cells, turn_taken, later_turn, turn_lost, words_before, words_after}

-- the place of a row of the walk's table
abbrev pub place : Walking → Row → ℕ
place v row = place_of v.layout.pages row

-- ---- the turn

-- the worker has the turn: it goes over the chain, or has passed it
abbrev pub HasTurn : WalkStage → Type 0
HasTurn LoadsTurn = ⊥
HasTurn (TakesTurn found) = ⊥
HasTurn (Ended (Another word)) = ⊥
HasTurn _ = ⊤

-- it exchanges the turn's word, of an earlier epoch as it was read, for this epoch's
pub record WinsTurn (v : Walking) (reply : Reply) : Type 0 where
  pub found : ℕ
  pub takes : v.stage ≡ TakesTurn found
  pub earlier : found < v.epoch + 1
  pub exchanges : wanted v ≡ Some (Exchange (place v WeakTurn) found (v.epoch + 1))
  pub won : reply ≡ Won

-- a worker has the turn only from such an exchange on
abbrev pub TurnsAreWon : Type 0
TurnsAreWon = (v : Walking) (reply : Reply) → IsSound v → HasTurn (taken v reply).stage → HasTurn v.stage ⊎ WinsTurn v reply

-- the turn's word shows that another has the turn, or had it: it is of this epoch or a later one, or no longer what was read
pub data ShowsAnother (v : Walking) (words : List ℕ) (word : ℕ) : Type 0 where
  OfNoEarlierEpoch : word ≡ row_word v.layout.pages WeakTurn words → v.epoch + 1 ≤ word → ShowsAnother v words word
  OtherWord : (found : ℕ) → v.stage ≡ TakesTurn found → word ≡ row_word v.layout.pages WeakTurn words → word ≢ found → ShowsAnother v words word

-- a walk that ends for another's sake tells that word, and has changed nothing
abbrev pub OthersShowIt : Type 0
OthersShowIt = (v : Walking) (before after : List ℕ) (word : ℕ)
    → MakesStep walk_machine v before after (Finished (Another word)) → ShowsAnother v before word × (after ≡ before)

-- ---- the targets

-- the step loads, exchanges the turn's word, or stores the target of the cell that the walk has come to
abbrev pub StoresTargetOnly : Walking → Step → Type 0
StoresTargetOnly v (Load at) = ⊤
StoresTargetOnly v (Store at word) = (cell : LinkedCell) × (v.stage ≡ StoresTarget cell word) × (at ≡ place v (HeapWord (cell.at + 1)))
StoresTargetOnly v (Exchange at old new) = at ≡ place v WeakTurn

abbrev pub StoresOnlyTargets : Type 0
StoresOnlyTargets = (v : Walking) (step : Step) → wanted v ≡ Some step → StoresTargetOnly v step

-- the first word of an old record is looked at only where a target was read that leads to it
abbrev pub LooksWhereTargetsLead : Type 0
LooksWhereTargetsLead = (v : Walking) (reply : Reply) (cell : LinkedCell) (old : ℕ) → (taken v reply).stage ≡ LoadsTargetHeader cell old
    → (v.stage ≡ LoadsTargetHeader cell old)
    ⊎ ((word : ℕ) × (v.stage ≡ LoadsTarget cell) × (reply ≡ Value word) × (decode word ≡ PointerWord old) × (is_old v.layout v.epoch old ≡ true))

-- a target is to be replaced so, where this is the first word of the old record: by the pointer to the copy, if there is a
-- forward, else by the number 0
pub data IsReplacedBy (first new : ℕ) : Type 0 where
  ByCopy : (len address : ℕ) → decode first ≡ ForwardWord len address → new ≡ pointer_word address → IsReplacedBy first new
  ByNothing : is_forward (decode first) ≡ false → new ≡ number_word 0 → IsReplacedBy first new

-- a target is replaced only once that word is read
abbrev pub ReplacesByFirstWords : Type 0
ReplacesByFirstWords = (v : Walking) (reply : Reply) (cell : LinkedCell) (new : ℕ) → (taken v reply).stage ≡ StoresTarget cell new
    → (v.stage ≡ StoresTarget cell new)
    ⊎ ((old : ℕ) × (first : ℕ) × (v.stage ≡ LoadsTargetHeader cell old) × (reply ≡ Value first) × IsReplacedBy first new)

-- the walk comes to a cell from the word of the one that was linked last, or from the link of another, behind which one cell
-- fewer may come
pub data ComesTo (v : Walking) (reply : Reply) (cell : LinkedCell) : Type 0 where
  FromWeak : v.stage ≡ LoadsWeak → reply ≡ Value (cell.at + 1) → cell.most ≡ most_cells v.layout.pages → ComesTo v reply cell
  FromLink : (before : LinkedCell) → v.stage ≡ LoadsLink before → reply ≡ Value (cell.at + 1) → cell.most + 1 ≡ before.most → ComesTo v reply cell

abbrev pub GoesAlongLinks : Type 0
GoesAlongLinks = (v : Walking) (reply : Reply) (cell : LinkedCell) → (taken v reply).stage ≡ LoadsTarget cell
    → (v.stage ≡ LoadsTarget cell) ⊎ ComesTo v reply cell

-- ---- what the walk knows of itself

-- it stays sound, where links lead to cells of the heap
abbrev pub StaysSound : Type 0
StaysSound = (v : Walking) (reply : Reply) → IsSound v
    → ((cell : LinkedCell) → (taken v reply).stage ≡ LoadsTarget cell → cell.at + 2 < 128 * v.layout.pages)
    → IsSound (taken v reply)

-- ---- the steps left

-- whatever words a step meets, its reply takes the walk on, or to its end, and what is left falls
abbrev pub GoesOn : Type 0
GoesOn = (v : Walking) (step : Step) (met : List ℕ) → IsSound v → wanted v ≡ Some step
    → (advances v.stage (reply_of step met) ≡ true) × (left (taken v (reply_of step met)) < left v)

-- whatever words its steps meet, a walk has ended after so many
abbrev pub EndsInTime : Type 0
EndsInTime = (v : Walking) (met : ℕ → List ℕ) → IsSound v
    → (end : WalkEnd) × (told (among walk_machine v met (left v)).stage ≡ Finished end)

-- ---- a walk that nobody disturbs

-- the walk, and the words, after the steps that it has at most
abbrev pub after_walk : Layout → (epoch : ℕ) → List ℕ → Working Walking
after_walk l epoch words = alone walk_machine (left (begun l epoch)) (record { machine = begun l epoch; words = words })

-- it has passed all cells, and the words are those before, but for the turn and the cells' targets
abbrev pub ChainsAreWalked : Type 0
ChainsAreWalked = (l : Layout) (epoch : ℕ) (words : List ℕ) (cells : List ℕ)
    → IsChain l epoch words cells → row_word l.pages WeakTurn words < epoch + 1
    → after_walk l epoch words ≡ record { machine = record (begun l epoch) { stage = Ended Passed }; words = words_passed l epoch words cells }

-- word by word: the turn is taken, each target is as it is to be, and no other word has changed
pub record HasPassed (l : Layout) (epoch : ℕ) (words : List ℕ) (cells : List ℕ) (after : List ℕ) : Type 0 where
  pub turn : row_word l.pages WeakTurn after ≡ epoch + 1
  pub targets : All (λ cell. heap_in l after (cell + 1) ≡ target_passed l epoch words cell) cells
  pub others : (at : ℕ) → at ≢ place_of l.pages WeakTurn → ((cell : ℕ) → Contains cells cell → at ≢ target_place l cell)
      → slice_index after at ≡ slice_index words at

abbrev pub TargetsArePassed : Type 0
TargetsArePassed = (l : Layout) (epoch : ℕ) (words : List ℕ) (cells : List ℕ)
    → IsChain l epoch words cells → HasPassed l epoch words cells (words_passed l epoch words cells)

-- ---- the walks worked out by hand

-- where it is replied to so, the walk wants these steps and comes to this
pub record IsWorkedOut : Type 0 where
  pub two : RunsTo walk_machine worked two_cells Passed
  pub stay : RunsTo walk_machine worked targets_stay Passed
  pub none : RunsTo walk_machine worked no_cells Passed
  pub taken_turn : RunsTo walk_machine worked turn_taken (Another 2)
  pub later : RunsTo walk_machine worked later_turn (Another 3)
  pub lost : RunsTo walk_machine worked turn_lost (Another 2)
  pub chain : IsChain four_pages 1 words_before (261 ∷ 258 ∷ [])
  pub words : alone walk_machine 11 (record { machine = worked; words = words_before })
      ≡ record { machine = record worked { stage = Ended Passed }; words = words_after }
  pub passed : words_passed four_pages 1 words_before (261 ∷ 258 ∷ []) ≡ words_after
