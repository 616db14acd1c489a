-- The save of a page, step by step: what it wants, what a reply makes of it, what it comes to, and what it has left.
use Rattle.std.specs.Prelude.{ℕ, ◌+◌, ◌-◌, ◌*◌, Bool, true, false, Option, Some, None, option_map, nat_lt, if◌then◌else◌}
use Rattle.atom_store.specs.declared.step.Step.{Step}
use Rattle.atom_store.specs.declared.reply.Reply.{Reply}
use Rattle.atom_store.specs.declared.reply.Reply.TheVariants.{Value, Done, Won, Lost}
use Rattle.atom_store.specs.declared.turn.Turn.{Turn}
use Rattle.atom_store.specs.declared.turn.Turn.TheVariants.{More, Finished}
use Rattle.atom_store.specs.Machine.{Machine}
use Rattle.atom_store.specs.StepOn.{StepOn, Load, Store, Exchange, step_at}
use Rattle.space_map.specs.declared.save_word.SaveWord.{SaveWord}
use Rattle.space_map.specs.declared.save_word.SaveWord.TheVariants as save_word
use Rattle.space_map.specs.declared.spaces.TheConstants.{PAGE_WORDS}
use Rattle.space_map.specs.SaveWord.{encode_save}
use Rattle.space_map.specs.Spaces.{Layout, first_word}
use Rattle.space_map.specs.Table.{HeapWord, SaveOf, ImageOf}
use Rattle.page_saves.specs.declared.save_end.SaveEnd.{SaveEnd}
use Rattle.page_saves.specs.declared.save_end.SaveEnd.TheVariants.{Saved, Taken}
use Rattle.page_saves.specs.declared.save_stage.SaveStage.{SaveStage}
use Rattle.page_saves.specs.declared.save_stage.SaveStage.TheVariants.{Exchanges, LoadsWord, StoresImage, StoresSaved, Ended}
use Rattle.space_map.specs.WholeTable.{WholeRow, Within, Behind, whole_place_of}

-- the save of a page for a checkpoint by a worker, by what was said of the page when that was read
pub record PageSaving : Type 0 where
  pub layout : Layout
  pub page : ℕ
  pub found : SaveWord
  pub number : ℕ
  pub worker : ℕ
  pub stage : SaveStage

abbrev pub begun : Layout → (page : ℕ) → SaveWord → (number worker : ℕ) → PageSaving
begun layout page found number worker = record {
  layout = layout;
  page = page;
  found = found;
  number = number;
  worker = worker;
  stage = Exchanges;
}

-- ---- the next step

-- the address of a page's word
abbrev pub word_of_page : (page i : ℕ) → ℕ
word_of_page page i = first_word page + i

-- by the row that it is on
abbrev pub wants_at : PageSaving → SaveStage → Option (StepOn WholeRow)
wants_at s Exchanges = Some (Exchange (Behind (SaveOf s.page)) (encode_save s.found) (encode_save (save_word.Saving s.number s.worker)))
wants_at s (LoadsWord i) = Some (Load (Within (HeapWord (word_of_page s.page i))))
wants_at s (StoresImage i word) = Some (Store (Behind (ImageOf (word_of_page s.page i))) word)
wants_at s StoresSaved = Some (Store (Behind (SaveOf s.page)) (encode_save (save_word.Saved s.number)))
wants_at s (Ended result) = None

abbrev pub wanted_at : PageSaving → SaveStage → Option Step
wanted_at s stage = option_map (step_at (whole_place_of s.layout.pages)) (wants_at s stage)

abbrev pub wanted : PageSaving → Option Step
wanted s = wanted_at s s.stage

-- ---- what a reply makes of it

-- after a word is saved, the next one; after the last, that the page is saved
abbrev pub after_word : (i : ℕ) → SaveStage
after_word i = if nat_lt (i + 1) PAGE_WORDS then LoadsWord (i + 1) else StoresSaved

abbrev pub next_stage : SaveStage → Reply → SaveStage
next_stage Exchanges Won = LoadsWord 0
next_stage Exchanges (Lost word) = Ended (Taken word)
next_stage (LoadsWord i) (Value word) = StoresImage i word
next_stage (StoresImage i word) Done = after_word i
next_stage StoresSaved Done = Ended Saved
next_stage stage answer = stage

abbrev pub taken : PageSaving → Reply → PageSaving
taken s answer = record s { stage = next_stage s.stage answer }

-- ---- what it tells

abbrev pub told_at : SaveStage → Turn SaveEnd
told_at (Ended result) = Finished result
told_at stage = More

abbrev pub told : PageSaving → Turn SaveEnd
told s = told_at s.stage

-- the save as a machine
abbrev pub save_machine : Machine PageSaving SaveEnd
save_machine = record { wanted = wanted; taken = taken; told = told }

-- ---- the steps that are left

abbrev pub left_at : SaveStage → ℕ
left_at Exchanges = 2 * PAGE_WORDS + 2
left_at (LoadsWord i) = 2 * PAGE_WORDS + 1 - 2 * i
left_at (StoresImage i word) = 2 * PAGE_WORDS - 2 * i
left_at StoresSaved = 1
left_at (Ended result) = 0

abbrev pub left : PageSaving → ℕ
left s = left_at s.stage

-- the reply is one to the step that it wants, and takes it on
abbrev pub advances_at : SaveStage → Reply → Bool
advances_at Exchanges Won = true
advances_at Exchanges (Lost word) = true
advances_at (LoadsWord i) (Value word) = true
advances_at (StoresImage i word) Done = true
advances_at StoresSaved Done = true
advances_at stage answer = false

abbrev pub advances : PageSaving → Reply → Bool
advances s answer = advances_at s.stage answer
