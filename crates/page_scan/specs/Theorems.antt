-- What is proved of the scan of a page.
use Rattle.std.specs.Prelude.{◌≡◌, ℕ, ◌+◌, ◌≤◌, ◌↔◌, ⊤, Bool, true, false, List, Some, length, max}
use Rattle.atom_store.specs.Machine.{RunsTo}
use Rattle.atom_store.specs.Runs.{Working, alone}
use Rattle.atom_store.specs.Step.{reply_of}
use Rattle.atom_store.specs.declared.reply.Reply.{Reply}
use Rattle.atom_store.specs.declared.reply.Reply.TheVariants.{Value}
use Rattle.atom_store.specs.declared.step.Step.{Step}
use Rattle.atom_store.specs.declared.step.Step.TheVariants.{Load, Store, Exchange}
use Rattle.atom_store.specs.declared.turn.Turn.TheVariants.{Finished}
use Rattle.heap_words.specs.Decoded.{PointerWord, decode}
use Rattle.heap_words.specs.Word.{pointer_word}
use Rattle.space_map.specs.declared.area_word.AreaWord.{AreaWord}
use Rattle.space_map.specs.AreaWord.{decode_area}
use Rattle.space_map.specs.Spaces.{Layout, to_space, space_start, first_word, board_page}
use Rattle.space_map.specs.Table.{HeapWord, place_of, table_length}
use Rattle.space_map.specs.Worked.{four_pages}
use Rattle.page_scan.specs.declared.asked.Asked.{Asked}
use Rattle.page_scan.specs.declared.ending.Ending.{Ending}
use Rattle.page_scan.specs.declared.scan_stage.ScanStage.{ScanStage}
use Rattle.page_scan.specs.declared.scan_stage.ScanStage.TheVariants.{LoadsCross, LoadsFirst, LoadsCount, LoadsWord, Asks, StoresCopy, LoadsFront, LoadsNext, Ended}
use Rattle.page_scan.specs.declared.scanned.Scanned.TheVariants as comes_to
use Rattle.page_scan.specs.declared.scanned_record.ScannedRecord.{ScannedRecord}
use Rattle.page_scan.specs.declared.spot.Spot.{Spot}
use Rattle.page_scan.specs.Answering.{IsPacked, ReplacesPointers, answering, crossing_in, heap_in}
use Rattle.page_scan.specs.Fields.{IsFieldOn, IsOnBoard}
use Rattle.page_scan.specs.Left.{IsHeldUp, advances}
use Rattle.page_scan.specs.Scanning.{Scanning, HasStep, address_of, begun, wanted}
use Rattle.page_scan.specs.Soundness.{IsSound}
use Rattle.page_scan.specs.Taken.{answered, is_old, scan_end, scan_machine, taken, told}
use Rattle.page_scan.specs.Worked.{answered_after, board, board_loads, board_asks, board_goes_on, filling, filling_asks, filling_goes_on, full, full_loads, full_words_with, mixed, mixed_asks, mixed_goes_on, mixed_words_with, words_with}

-- ---- one step of a scan

-- the first word that a scan has not passed
abbrev pub cursor_at : (page : ℕ) → ScanStage → ℕ
cursor_at page LoadsCross = first_word page
cursor_at page (LoadsFirst at) = first_word page
cursor_at page (LoadsCount h) = max h.at (first_word page)
cursor_at page (LoadsWord spot) = address_of spot
cursor_at page (Asks asked) = address_of asked.spot
cursor_at page (StoresCopy asked to) = address_of asked.spot
cursor_at page (LoadsFront r) = r.next
cursor_at page (LoadsNext r) = r.next
cursor_at page (Ended ending) = ending.cursor

-- the step reads, or stores the pointer to the copy in the word that was asked about
abbrev pub StoresAnswer : Scanning → Step → Type 0
StoresAnswer v (Load place) = ⊤
StoresAnswer v (Store place word) = (asked : Asked) × (to : ℕ)
    × (v.stage ≡ StoresCopy asked to) × (place ≡ place_of v.layout.pages (HeapWord (address_of asked.spot))) × (word ≡ pointer_word to)
StoresAnswer v (Exchange place old new) = ⊥

abbrev pub StoresOnlyAnswers : Type 0
StoresOnlyAnswers = (v : Scanning) (step : Step) → wanted v ≡ Some step → StoresAnswer v step

-- a copy is asked for exactly where a word that was to be looked at leads into the old space
abbrev pub AsksOfPointers : Type 0
AsksOfPointers = (v : Scanning) (spot : Spot) (word old : ℕ) → v.stage ≡ LoadsWord spot
    → (told (taken v (Value word)).stage ≡ Finished (comes_to.Ask old)) ↔ ((decode word ≡ PointerWord old) × (is_old v.layout v.epoch old ≡ true))

-- no other stage asks
abbrev pub AsksAtWords : Type 0
AsksAtWords = (v : Scanning) (reply : Reply) (asked : Asked) → HasStep v.stage → (taken v reply).stage ≡ Asks asked
    → (v.stage ≡ LoadsWord asked.spot) × ((word : ℕ) × (reply ≡ Value word) × (decode word ≡ PointerWord asked.old))

-- what is passed is not looked at again
abbrev pub CursorRises : Type 0
CursorRises = (v : Scanning) (reply : Reply) → IsSound v → IsSound (taken v reply) → cursor_at v.page v.stage ≤ cursor_at v.page (taken v reply).stage

-- a scan ends at FRONT, as it was read, or behind the last word of what is scanned
pub record EndsAt (v : Scanning) (reply : Reply) (ending : Ending) : Type 0 where
  pub at_front : ending.at_front ≡ true → (r : ScannedRecord) × (word : ℕ) × (area : AreaWord) × (v.stage ≡ LoadsFront r) × (reply ≡ Value word)
      × (decode_area word ≡ Some area) × (space_start v.layout.pages (to_space v.epoch) + area.front ≡ ending.cursor)
  pub at_end : ending.at_front ≡ false → scan_end v.layout v.page ≤ ending.cursor

abbrev pub EndsInPlace : Type 0
EndsInPlace = (v : Scanning) (reply : Reply) (ending : Ending) → IsSound v → HasStep v.stage → (taken v reply).stage ≡ Ended ending → EndsAt v reply ending

-- whatever words a step meets, its reply takes the scan on, where what is left falls, or the word is one that can't be there
abbrev pub GoesOn : Type 0
GoesOn = (v : Scanning) (step : Step) (met : List ℕ) → wanted v ≡ Some step
    → advances v.stage (reply_of step met) ≡ false → IsHeldUp v.stage (reply_of step met)

-- ---- a scan that nobody disturbs

-- on the worked pages records lie packed: the filling one, the full one, and the one with a mixed record
pub record WorkedArePacked : Type 0 where
  pub filling_page : IsPacked four_pages 4 1 true (words_with 0x301) 259
  pub full_page : IsPacked four_pages 5 1 false (full_words_with 0x301) 422
  pub mixed_page : IsPacked four_pages 4 1 false (mixed_words_with 0x301) 320

-- after so many steps, answered at once
abbrev pub after_steps : (answer : ℕ → ℕ) → ℕ → Scanning → List ℕ → Working Scanning
after_steps answer n v words = alone (answering answer) n (record { machine = v; words = words })

-- a scan of a page that has ended has replaced each pointer into the old space in a field on the page, and changed no other
-- word
abbrev pub ScansPages : Type 0
ScansPages = (l : Layout) (page epoch : ℕ) (in_place : Bool) (words : List ℕ) (front : ℕ) (answer : ℕ → ℕ) (n : ℕ) (ending : Ending)
    → IsPacked l page epoch in_place words front
    → let w = after_steps answer n (begun l page epoch in_place) words in
    w.machine.stage ≡ Ended ending
    → ReplacesPointers l epoch (IsFieldOn page (heap_in l words) (crossing_in l words page) front) answer words w.words

-- a scan of the board has replaced each such pointer on the board
abbrev pub ScansBoards : Type 0
ScansBoards = (l : Layout) (epoch : ℕ) (in_place : Bool) (words : List ℕ) (answer : ℕ → ℕ) (n : ℕ) (ending : Ending)
    → table_length l.pages ≤ length words
    → let w = after_steps answer n (begun l (board_page l.pages) epoch in_place) words in
    w.machine.stage ≡ Ended ending
    → ReplacesPointers l epoch (IsOnBoard (board_page l.pages)) answer words w.words

-- ---- the scans worked out by hand

-- the scan and its words once it is answered
abbrev pub answered_over : Working Scanning → ℕ → Working Scanning
answered_over w to = record { machine = answered w.machine to; words = w.words }

-- where it is replied to so, the scan wants these steps and comes to this
pub record IsWorkedOut : Type 0 where
  pub on_board : RunsTo scan_machine board board_loads (comes_to.Ended false)
  pub on_board_asks : RunsTo scan_machine board board_asks (comes_to.Ask 192)
  pub on_board_goes_on : RunsTo scan_machine (answered_after board board_asks 256) board_goes_on (comes_to.Ended false)
  pub on_filling_asks : RunsTo scan_machine filling filling_asks (comes_to.Ask 192)
  pub on_filling_goes_on : RunsTo scan_machine (answered_after filling filling_asks 256) filling_goes_on (comes_to.Ended true)
  pub on_full : RunsTo scan_machine full full_loads (comes_to.Ended false)
  pub on_mixed_asks : RunsTo scan_machine mixed mixed_asks (comes_to.Ask 192)
  pub on_mixed_goes_on : RunsTo scan_machine (answered_after mixed mixed_asks 256) mixed_goes_on (comes_to.Ended false)
  pub words : alone scan_machine 2 (answered_over (alone scan_machine 4 (record { machine = filling; words = words_with 0x301 })) 256)
      ≡ record { machine = record filling { stage = Ended (record { cursor = 259; at_front = true }) }; words = words_with 0x401 }
  pub full_words : after_steps (λ old. 256) 5 full (full_words_with 0x301)
      ≡ record { machine = record full { stage = Ended (record { cursor = 422; at_front = false }) }; words = full_words_with 0x401 }
  pub mixed_words : after_steps (λ old. 256) 6 mixed (mixed_words_with 0x301)
      ≡ record { machine = record mixed { stage = Ended (record { cursor = 320; at_front = false }) }; words = mixed_words_with 0x401 }
