-- The opening of a page: one store.
use Rattle.std.specs.Prelude.{ℕ, Bool, true, false, Option, Some, None, option_map}
use Rattle.atom_store.specs.declared.step.Step.{Step}
use Rattle.atom_store.specs.declared.reply.Reply.{Reply}
use Rattle.atom_store.specs.declared.reply.Reply.TheVariants.{Done}
use Rattle.atom_store.specs.declared.turn.Turn.{Turn}
use Rattle.atom_store.specs.declared.turn.Turn.TheVariants.{More, Finished}
use Rattle.atom_store.specs.Machine.{Machine}
use Rattle.atom_store.specs.StepOn.{StepOn, Store, step_at}
use Rattle.space_map.specs.declared.page_word.PageWord.TheVariants.{Open}
use Rattle.space_map.specs.PageWord.{encode_page}
use Rattle.space_map.specs.Spaces.{Layout}
use Rattle.space_map.specs.Table.{Row, Page, place_of}
use Rattle.page_slots.specs.declared.opened.Opened.{Opened}
use Rattle.page_slots.specs.declared.open_stage.OpenStage.{OpenStage}
use Rattle.page_slots.specs.declared.open_stage.OpenStage.TheVariants.{StoresOpen, Ended}

-- the opening of a page in an epoch
pub record Opening : Type 0 where
  pub layout : Layout
  pub page : ℕ
  pub epoch : ℕ
  pub stage : OpenStage

abbrev pub begun : Layout → (page epoch : ℕ) → Opening
begun layout page epoch = record { layout = layout; page = page; epoch = epoch; stage = StoresOpen }

-- the next step, by the row that it is on
abbrev pub wants_at : Opening → OpenStage → Option (StepOn Row)
wants_at o StoresOpen = Some (Store (Page o.page) (encode_page (Open o.epoch)))
wants_at o (Ended result) = None

abbrev pub wanted_at : Opening → OpenStage → Option Step
wanted_at o stage = option_map (step_at (place_of o.layout.pages)) (wants_at o stage)

-- the next step
abbrev pub wanted : Opening → Option Step
wanted o = wanted_at o o.stage

abbrev pub next_stage : OpenStage → Reply → OpenStage
next_stage StoresOpen Done = Ended (record {})
next_stage stage answer = stage

-- what a reply makes of it
abbrev pub taken : Opening → Reply → Opening
taken o answer = record o { stage = next_stage o.stage answer }

abbrev pub told_at : OpenStage → Turn Opened
told_at (Ended result) = Finished result
told_at stage = More

-- what it tells
abbrev pub told : Opening → Turn Opened
told o = told_at o.stage

-- the opening as a machine
abbrev pub open_machine : Machine Opening Opened
open_machine = record { wanted = wanted; taken = taken; told = told }

abbrev pub left_at : OpenStage → ℕ
left_at StoresOpen = 1
left_at (Ended result) = 0

-- the steps that are left
abbrev pub left : Opening → ℕ
left o = left_at o.stage

abbrev pub advances_at : OpenStage → Reply → Bool
advances_at StoresOpen Done = true
advances_at stage answer = false

-- the reply is one to the step that it wants, and takes it on
abbrev pub advances : Opening → Reply → Bool
advances o answer = advances_at o.stage answer
