-- What a mutator that begins to run reads of checkpoints, step by step: what it wants, what a reply makes of it, what it comes
-- to, and what it has left.
use Rattle.std.specs.Prelude.{ℕ, ◌^◌, ◌==◌, Bool, false, Option, Some, None, is_some, option_map, nat_lt, if◌then◌else◌}
use Rattle.atom_store.specs.declared.step.Step.{Step}
use Rattle.atom_store.specs.declared.reply.Reply.{Reply}
use Rattle.atom_store.specs.declared.reply.Reply.TheVariants.{Value}
use Rattle.atom_store.specs.declared.turn.Turn.{Turn}
use Rattle.atom_store.specs.declared.turn.Turn.TheVariants.{More, Finished}
use Rattle.atom_store.specs.Machine.{Machine}
use Rattle.atom_store.specs.StepOn.{StepOn, Load, step_at}
use Rattle.space_map.specs.Spaces.{Layout}
use Rattle.space_map.specs.Table.{Row, SnapNumber, LastSaved, place_of}
use Rattle.gate_core.specs.declared.recall.recalled.Recalled.{Recalled}
use Rattle.gate_core.specs.declared.recall.recall_stage.RecallStage.{RecallStage}
use Rattle.gate_core.specs.declared.recall.recall_stage.RecallStage.TheVariants.{LoadsSnap, LoadsDone, Ended}

-- a reading of which checkpoint runs
pub record Recalling : Type 0 where
  pub layout : Layout
  pub stage : RecallStage

abbrev pub begun : Layout → Recalling
begun layout = record { layout = layout; stage = LoadsSnap }

-- ---- what the words say

-- the number of a checkpoint that a word is, if it is one
abbrev pub number_in : (word : ℕ) → Option ℕ
number_in word = if nat_lt word (2 ^ 32) then Some word else None

-- the checkpoint that runs, 0 if none does: the last one begun, unless it is the last one finished
abbrev pub running_of : (number done : ℕ) → ℕ
running_of number done = if done == number then 0 else number

-- ---- the next step

-- by the row that it is on
abbrev pub wants_at : RecallStage → Option (StepOn Row)
wants_at LoadsSnap = Some (Load SnapNumber)
wants_at (LoadsDone number) = Some (Load LastSaved)
wants_at (Ended result) = None

abbrev pub wanted_at : Recalling → RecallStage → Option Step
wanted_at r stage = option_map (step_at (place_of r.layout.pages)) (wants_at stage)

abbrev pub wanted : Recalling → Option Step
wanted r = wanted_at r r.stage

-- ---- what a reply makes of it

-- by the number of the last checkpoint that was begun
abbrev pub read_snap : Option ℕ → RecallStage
read_snap (Some number) = LoadsDone number
read_snap None = LoadsSnap

-- by that of the last one that was finished
abbrev pub read_done : (number : ℕ) → Option ℕ → RecallStage
read_done number (Some done) = Ended (record { number = number; running = running_of number done })
read_done number None = LoadsDone number

abbrev pub next_stage : RecallStage → Reply → RecallStage
next_stage LoadsSnap (Value word) = read_snap (number_in word)
next_stage (LoadsDone number) (Value word) = read_done number (number_in word)
next_stage stage answer = stage

abbrev pub taken : Recalling → Reply → Recalling
taken r answer = record r { stage = next_stage r.stage answer }

-- ---- what it tells

abbrev pub told_at : RecallStage → Turn Recalled
told_at (Ended result) = Finished result
told_at stage = More

abbrev pub told : Recalling → Turn Recalled
told r = told_at r.stage

-- the reading as a machine
abbrev pub recall_machine : Machine Recalling Recalled
recall_machine = record { wanted = wanted; taken = taken; told = told }

-- ---- the steps that are left

abbrev pub left_at : RecallStage → ℕ
left_at LoadsSnap = 2
left_at (LoadsDone number) = 1
left_at (Ended result) = 0

abbrev pub left : Recalling → ℕ
left r = left_at r.stage

-- the reply is one to the step that it wants, and takes it on
abbrev pub advances_at : RecallStage → Reply → Bool
advances_at LoadsSnap (Value word) = is_some (number_in word)
advances_at (LoadsDone number) (Value word) = is_some (number_in word)
advances_at stage answer = false

abbrev pub advances : Recalling → Reply → Bool
advances r answer = advances_at r.stage answer
