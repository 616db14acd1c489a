-- The allocation of a record, step by step: what it wants, what a reply makes of it, what it comes to, and what it has left.
use Rattle.std.specs.Prelude.{ℕ, ◌+◌, ◌-◌, ◌*◌, ◌/◌, ◌==◌, Bool, true, false, Option, Some, None, is_some, option_map, nat_lt, nat_le, if◌then◌else◌}
use Rattle.atom_store.specs.declared.step.Step.{Step}
use Rattle.atom_store.specs.declared.reply.Reply.{Reply}
use Rattle.atom_store.specs.declared.reply.Reply.TheVariants.{Value, Done, Won, Lost}
use Rattle.atom_store.specs.declared.turn.Turn.{Turn}
use Rattle.atom_store.specs.declared.turn.Turn.TheVariants.{More, Finished}
use Rattle.atom_store.specs.Machine.{Machine}
use Rattle.atom_store.specs.StepOn.{StepOn, Load, Store, Exchange, step_at}
use Rattle.heap_words.specs.declared.kind.Kind.{Kind}
use Rattle.heap_words.specs.declared.kind.Kind.TheVariants.{Fields, Raw, Mixed, Weak}
use Rattle.heap_words.specs.Decoded.{encode}
use Rattle.heap_words.specs.Word.{number_word}
use Rattle.record_layout.specs.declared.header.Header.{Header}
use Rattle.record_layout.specs.Layout.{header_says}
use Rattle.space_map.specs.declared.area_word.AreaWord.{AreaWord}
use Rattle.space_map.specs.declared.page_word.PageWord.TheVariants.{Open}
use Rattle.space_map.specs.declared.save_word.SaveWord.TheVariants.{New}
use Rattle.space_map.specs.AreaWord.{encode_area, decode_area}
use Rattle.space_map.specs.PageWord.{encode_page}
use Rattle.space_map.specs.SaveWord.{encode_save}
use Rattle.space_map.specs.Spaces.{Layout, to_space, space_start, page_of}
use Rattle.space_map.specs.Table.{Traced, Area, Size, Page, HeapWord, SaveOf}
use Rattle.space_map.specs.WholeTable.{WholeRow, Within, Behind, whole_place_of}
use Rattle.alloc_end.specs.declared.run.Run.{Run}
use Rattle.alloc_end.specs.declared.fitting.Fitting.{Fitting}
use Rattle.alloc_end.specs.declared.new_pages.NewPages.{NewPages}
use Rattle.alloc_end.specs.declared.shortage.Shortage.{Shortage}
use Rattle.alloc_end.specs.declared.allocated.Allocated.{Allocated}
use Rattle.alloc_end.specs.declared.allocated.Allocated.TheVariants.{Placed, Full}
use Rattle.alloc_end.specs.declared.place_stage.PlaceStage.{PlaceStage}
use Rattle.alloc_end.specs.declared.place_stage.PlaceStage.TheVariants.{LoadsTraced, LoadsSize, LoadsArea, ExchangesArea, StoresZero, StoresNew, OpensPage, StoresCount, StoresTarget, StoresLink, StoresHeader, Ended}

-- The allocation of a record with this header, if it is mixed with so many fields, and if it is a cell with this word as its target, by a
-- mutator of an epoch that has this run and saw so many checkpoints begun.
pub record Placing : Type 0 where
  pub layout : Layout
  pub run : Run
  pub header : Header
  pub fields : ℕ
  pub epoch : ℕ
  pub snap : ℕ
  pub target : ℕ
  pub stage : PlaceStage

-- the words of a record with this header
abbrev pub size_of : Header → ℕ
size_of header = header.len + 1

-- the pages that a record of this size needs
abbrev pub pages_for : ℕ → ℕ
pages_for size = (size + 63) / 64

-- the words of the pages that a record with this header needs
abbrev pub words_for : Header → ℕ
words_for header = 64 * pages_for (size_of header)

-- ---- how it begins

-- the first store of a record into a run: the count of a mixed one's fields, a cell's target, else the header
abbrev pub stores_first : Kind → PlaceStage
stores_first Fields = StoresHeader
stores_first Raw = StoresHeader
stores_first Mixed = StoresCount
stores_first Weak = StoresTarget

-- in the run, where the record fits there
abbrev pub first_stage : Run → Header → PlaceStage
first_stage run header = if nat_le (run.at + size_of header) run.end then stores_first header.kind else LoadsTraced

abbrev pub begun : Layout → Run → Header → (epoch fields snap target : ℕ) → Placing
begun layout run header epoch fields snap target =
    record { layout = layout; run = run; header = header; fields = fields; epoch = epoch; snap = snap; target = target; stage = first_stage run header }

-- ---- the claim of pages

-- the words that have to be kept for the records still to be copied: none, once the epoch is traced
abbrev pub kept_room : (traced : Bool) → AreaWord → ℕ
kept_room true area = 0
kept_room false area = area.owed

-- the words between FRONT and LOW
abbrev pub room_in : AreaWord → ℕ
room_in area = area.low - area.front

-- so many words can be claimed, and the room that has to be kept is left
abbrev pub fits : (traced : Bool) → (words : ℕ) → AreaWord → Bool
fits traced words area = nat_le (words + kept_room traced area) (room_in area)

-- the area after the claim of so many words
abbrev pub area_after : (words : ℕ) → Fitting → AreaWord
area_after words f = record { front = f.area.front; low = f.area.low - words; owed = kept_room f.traced f.area }

-- what forbids the claim, in a space of so many pages in use
abbrev pub shortage : (traced : Bool) → (size : ℕ) → Header → AreaWord → Shortage
shortage traced size header area = record {
  asked = pages_for (size_of header);
  room = room_in area;
  owed = kept_room traced area;
  traced = traced;
  live = area.front;
  size = size;
}

-- the first word of the pages claimed
abbrev pub first_claimed : Placing → Fitting → ℕ
first_claimed p f = space_start p.layout.pages (to_space p.epoch) + (f.area.low - words_for p.header)

-- ---- the next step

-- by the row that it is on
abbrev pub wants_at : Placing → PlaceStage → Option (StepOn WholeRow)
wants_at p LoadsTraced = Some (Load (Within Traced))
wants_at p (LoadsSize traced) = Some (Load (Within (Size (to_space p.epoch))))
wants_at p (LoadsArea traced size) = Some (Load (Within (Area (to_space p.epoch))))
wants_at p (ExchangesArea f) = Some (Exchange (Within (Area (to_space p.epoch))) (encode_area f.area) (encode_area (area_after (words_for p.header) f)))
wants_at p (StoresZero new) = Some (Store (Within (HeapWord new.next)) 0)
wants_at p (StoresNew new) = Some (Store (Behind (SaveOf new.next)) (encode_save (New p.snap)))
wants_at p (OpensPage new) = Some (Store (Within (Page new.next)) (encode_page (Open p.epoch)))
wants_at p StoresCount = Some (Store (Within (HeapWord (p.run.at + 1))) (number_word p.fields))
wants_at p StoresTarget = Some (Store (Within (HeapWord (p.run.at + 1))) p.target)
wants_at p StoresLink = Some (Store (Within (HeapWord (p.run.at + 2))) 0)
wants_at p StoresHeader = Some (Store (Within (HeapWord p.run.at)) (encode (header_says p.header)))
wants_at p (Ended result) = None

abbrev pub wanted_at : Placing → PlaceStage → Option Step
wanted_at p stage = option_map (step_at (whole_place_of p.layout.pages)) (wants_at p stage)

abbrev pub wanted : Placing → Option Step
wanted p = wanted_at p p.stage

-- the page on which it writes a word of its record next
abbrev pub writes_on : Placing → PlaceStage → Option ℕ
writes_on p StoresCount = Some (page_of (p.run.at + 1))
writes_on p StoresTarget = Some (page_of (p.run.at + 1))
writes_on p StoresLink = Some (page_of (p.run.at + 2))
writes_on p StoresHeader = Some (page_of p.run.at)
writes_on p stage = None

-- ---- what a reply makes of it

abbrev pub at_stage : Placing → PlaceStage → Placing
at_stage p stage = record p { stage = stage }

-- by what the area's word says
abbrev pub looked_at_area : Placing → (traced : Bool) → (size : ℕ) → Option AreaWord → PlaceStage
looked_at_area p traced size (Some area) =
    if fits traced (words_for p.header) area then ExchangesArea (record { traced = traced; area = area }) else Ended (Full (shortage traced size p.header area))
looked_at_area p traced size None = LoadsArea traced size

-- a page whose words are cleared is opened; where a checkpoint was begun, that it is new stands in its SAVE before that
abbrev pub readies : (snap : ℕ) → NewPages → PlaceStage
readies snap new = if snap == 0 then OpensPage new else StoresNew new

-- after a word that was cleared, the next; after the last, the first page
abbrev pub cleared : (words snap : ℕ) → NewPages → PlaceStage
cleared words snap new =
    if nat_lt (new.next + 1) (new.first + words) then StoresZero (record { first = new.first; next = new.next + 1 })
    else readies snap (record { first = new.first; next = page_of new.first })

-- after a page that was opened, the next; after the last, these pages are the run
abbrev pub after_opening : Placing → NewPages → Placing
after_opening p new =
    if nat_lt (new.next + 1) (page_of new.first + pages_for (size_of p.header))
    then at_stage p (readies p.snap (record { first = new.first; next = new.next + 1 }))
    else record p { run = record { at = new.first; end = new.first + words_for p.header }; stage = stores_first p.header.kind }

-- the record stands, and the run goes on behind it
abbrev pub placed : Placing → Placing
placed p = record p { run = record { at = p.run.at + size_of p.header; end = p.run.end }; stage = Ended (Placed p.run.at) }

abbrev pub taken_at : Placing → PlaceStage → Reply → Placing
taken_at p LoadsTraced (Value word) = at_stage p (LoadsSize (word == p.epoch + 1))
taken_at p (LoadsSize traced) (Value word) = at_stage p (LoadsArea traced word)
taken_at p (LoadsArea traced size) (Value word) = at_stage p (looked_at_area p traced size (decode_area word))
taken_at p (ExchangesArea f) Won = at_stage p (StoresZero (record { first = first_claimed p f; next = first_claimed p f }))
taken_at p (ExchangesArea f) (Lost word) = at_stage p LoadsTraced
taken_at p (StoresZero new) Done = at_stage p (cleared (words_for p.header) p.snap new)
taken_at p (StoresNew new) Done = at_stage p (OpensPage new)
taken_at p (OpensPage new) Done = after_opening p new
taken_at p StoresCount Done = at_stage p StoresHeader
taken_at p StoresTarget Done = at_stage p StoresLink
taken_at p StoresLink Done = at_stage p StoresHeader
taken_at p StoresHeader Done = placed p
taken_at p stage answer = p

abbrev pub taken : Placing → Reply → Placing
taken p answer = taken_at p p.stage answer

-- ---- what it tells

abbrev pub told_at : PlaceStage → Turn Allocated
told_at (Ended result) = Finished result
told_at stage = More

abbrev pub told : Placing → Turn Allocated
told p = told_at p.stage

-- the allocation as a machine
abbrev pub place_machine : Machine Placing Allocated
place_machine = record { wanted = wanted; taken = taken; told = told }

-- ---- the steps that are left, no exchange being lost

-- where the record needs so many pages; at most two words stand ahead of its header, so up to the first store this bounds them
abbrev pub left_at : (asked : ℕ) → PlaceStage → ℕ
left_at asked LoadsTraced = 66 * asked + 7
left_at asked (LoadsSize traced) = 66 * asked + 6
left_at asked (LoadsArea traced size) = 66 * asked + 5
left_at asked (ExchangesArea f) = 66 * asked + 4
left_at asked (StoresZero new) = 66 * asked + 3 - (new.next - new.first)
left_at asked (StoresNew new) = 2 * asked + 3 - 2 * (new.next - page_of new.first)
left_at asked (OpensPage new) = 2 * asked + 2 - 2 * (new.next - page_of new.first)
left_at asked StoresCount = 2
left_at asked StoresTarget = 3
left_at asked StoresLink = 2
left_at asked StoresHeader = 1
left_at asked (Ended result) = 0

abbrev pub left : Placing → ℕ
left p = left_at (pages_for (size_of p.header)) p.stage

-- the reply is one to the step that it wants, and takes it on: the exchange isn't lost
abbrev pub advances_at : PlaceStage → Reply → Bool
advances_at LoadsTraced (Value word) = true
advances_at (LoadsSize traced) (Value word) = true
advances_at (LoadsArea traced size) (Value word) = is_some (decode_area word)
advances_at (ExchangesArea f) Won = true
advances_at (StoresZero new) Done = true
advances_at (StoresNew new) Done = true
advances_at (OpensPage new) Done = true
advances_at StoresCount Done = true
advances_at StoresTarget Done = true
advances_at StoresLink Done = true
advances_at StoresHeader Done = true
advances_at stage answer = false

abbrev pub advances : Placing → Reply → Bool
advances p answer = advances_at p.stage answer
