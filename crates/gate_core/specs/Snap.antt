-- The beginning of a checkpoint, step by step: what it wants, what a reply makes of it, what it comes to, and what it has left.
use Rattle.std.specs.Prelude.{ℕ, ◌+◌, ◌==◌, Bool, true, false, Option, Some, None, is_some, option_map, if◌then◌else◌}
use Rattle.atom_store.specs.declared.step.Step.{Step}
use Rattle.atom_store.specs.declared.reply.Reply.{Reply}
use Rattle.atom_store.specs.declared.reply.Reply.TheVariants.{Value, Won}
use Rattle.atom_store.specs.declared.turn.Turn.{Turn}
use Rattle.atom_store.specs.declared.turn.Turn.TheVariants.{More, Finished}
use Rattle.atom_store.specs.Machine.{Machine}
use Rattle.atom_store.specs.StepOn.{StepOn, Load, Exchange, step_at}
use Rattle.space_map.specs.declared.gate_word.GateWord.{GateWord}
use Rattle.space_map.specs.GateWord.{decode_gate}
use Rattle.space_map.specs.Spaces.{Layout}
use Rattle.space_map.specs.Table.{Row, Gate, SnapNumber, place_of}
use Rattle.gate_core.specs.declared.snap.snapped.Snapped.{Snapped}
use Rattle.gate_core.specs.declared.snap.snapped.Snapped.TheVariants.{Begun, NotYet}
use Rattle.gate_core.specs.declared.snap.snap_stage.SnapStage.{SnapStage}
use Rattle.gate_core.specs.declared.snap.snap_stage.SnapStage.TheVariants.{LoadsGate, ExchangesSnap, Ended}

-- the beginning of the checkpoint after that of this number, which was the last one, by the mutator that requested it
pub record Snapping : Type 0 where
  pub layout : Layout
  pub number : ℕ
  pub stage : SnapStage

abbrev pub begun : Layout → (number : ℕ) → Snapping
begun layout number = record { layout = layout; number = number; stage = LoadsGate }

-- ---- the next step

-- by the row that it is on
abbrev pub wants_at : Snapping → SnapStage → Option (StepOn Row)
wants_at s LoadsGate = Some (Load Gate)
wants_at s (ExchangesSnap gate) = Some (Exchange SnapNumber s.number (s.number + 1))
wants_at s (Ended result) = None

abbrev pub wanted_at : Snapping → SnapStage → Option Step
wanted_at s stage = option_map (step_at (place_of s.layout.pages)) (wants_at s stage)

abbrev pub wanted : Snapping → Option Step
wanted s = wanted_at s s.stage

-- ---- what a reply makes of it

-- by what the gate's word says: nobody may run
abbrev pub looked : (word : ℕ) → Option GateWord → SnapStage
looked word (Some gate) = if gate.running == 0 then ExchangesSnap gate else Ended (NotYet word)
looked word None = LoadsGate

abbrev pub next_stage : SnapStage → Reply → SnapStage
next_stage LoadsGate (Value word) = looked word (decode_gate word)
next_stage (ExchangesSnap gate) Won = Ended (Begun gate)
next_stage stage answer = stage

abbrev pub taken : Snapping → Reply → Snapping
taken s answer = record s { stage = next_stage s.stage answer }

-- ---- what it tells

abbrev pub told_at : SnapStage → Turn Snapped
told_at (Ended result) = Finished result
told_at stage = More

abbrev pub told : Snapping → Turn Snapped
told s = told_at s.stage

-- the beginning as a machine
abbrev pub snap_machine : Machine Snapping Snapped
snap_machine = record { wanted = wanted; taken = taken; told = told }

-- ---- the steps that are left, no exchange being lost

abbrev pub left_at : SnapStage → ℕ
left_at LoadsGate = 2
left_at (ExchangesSnap gate) = 1
left_at (Ended result) = 0

abbrev pub left : Snapping → ℕ
left s = left_at s.stage

-- the reply is one to the step that it wants, and takes it on: the exchange isn't lost
abbrev pub advances_at : SnapStage → Reply → Bool
advances_at LoadsGate (Value word) = is_some (decode_gate word)
advances_at (ExchangesSnap gate) Won = true
advances_at stage answer = false

abbrev pub advances : Snapping → Reply → Bool
advances s answer = advances_at s.stage answer
