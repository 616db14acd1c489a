-- A passage of the gate, step by step: what it wants, what a reply makes of it, what it comes to, and what it has left.
use Rattle.std.specs.Prelude.{ℕ, ◌+◌, ◌-◌, ◌==◌, ◌&&◌, Bool, true, false, not, Option, Some, None, is_some, option_map, if◌then◌else◌}
use Rattle.atom_store.specs.declared.step.Step.{Step}
use Rattle.atom_store.specs.declared.reply.Reply.{Reply}
use Rattle.atom_store.specs.declared.reply.Reply.TheVariants.{Value, Won, Lost}
use Rattle.atom_store.specs.declared.turn.Turn.{Turn}
use Rattle.atom_store.specs.declared.turn.Turn.TheVariants.{More, Finished}
use Rattle.atom_store.specs.Machine.{Machine}
use Rattle.atom_store.specs.StepOn.{StepOn, Load, Exchange, step_at}
use Rattle.space_map.specs.declared.gate_word.GateWord.{GateWord}
use Rattle.space_map.specs.GateWord.{encode_gate, decode_gate}
use Rattle.space_map.specs.Spaces.{Layout}
use Rattle.space_map.specs.Table.{Row, place_of}
use Rattle.space_map.specs.Table as row
use Rattle.gate_core.specs.declared.passage.Passage.{Passage}
use Rattle.gate_core.specs.declared.passage.Passage.TheVariants.{Look, Attach, Park, Request, Resume, Forwarded, Leave, Clear}
use Rattle.gate_core.specs.declared.passed.Passed.{Passed}
use Rattle.gate_core.specs.declared.passed.Passed.TheVariants.{Went, NotYet}
use Rattle.gate_core.specs.declared.gate_stage.GateStage.{GateStage}
use Rattle.gate_core.specs.declared.gate_stage.GateStage.TheVariants.{Loads, Exchanges, Ended}

-- a passage of the gate
pub record Passing : Type 0 where
  pub layout : Layout
  pub passage : Passage
  pub stage : GateStage

abbrev pub begun : Layout → Passage → Passing
begun layout passage = record { layout = layout; passage = passage; stage = Loads }

-- the passage by which who began a checkpoint clears the request: it goes on from the gate that was seen then
abbrev pub clear_begun : Layout → GateWord → Passing
clear_begun layout gate = record { layout = layout; passage = Clear; stage = Exchanges gate }

-- ---- the table of passages

-- nothing is requested, and no mutator is behind
abbrev pub is_clear : GateWord → Bool
is_clear gate = not gate.request && (gate.behind == 0)

-- the gate allows the passage
abbrev pub allows : Passage → GateWord → Bool
allows Look gate = not gate.request
allows Attach gate = is_clear gate
allows Park gate = gate.request
allows Request gate = not gate.request
allows (Resume epoch) gate = is_clear gate && (gate.epoch == epoch)
allows Forwarded gate = true
allows Leave gate = true
allows Clear gate = true

-- the gate after the passage
abbrev pub gate_after : Passage → GateWord → GateWord
gate_after Look gate = gate
gate_after Attach gate = record gate { live = gate.live + 1; running = gate.running + 1 }
gate_after Park gate = record gate { running = gate.running - 1 }
gate_after Request gate = record gate { running = gate.running - 1; request = true }
gate_after (Resume epoch) gate = record gate { running = gate.running + 1 }
gate_after Forwarded gate = record gate { behind = gate.behind - 1 }
gate_after Leave gate = record gate { live = gate.live - 1; running = gate.running - 1; left = gate.left + 1 }
gate_after Clear gate = record gate { request = false }

-- ---- the next step

-- by the row that it is on
abbrev pub wants_at : Passing → GateStage → Option (StepOn Row)
wants_at p Loads = Some (Load row.Gate)
wants_at p (Exchanges gate) = Some (Exchange row.Gate (encode_gate gate) (encode_gate (gate_after p.passage gate)))
wants_at p (Ended result) = None

abbrev pub wanted_at : Passing → GateStage → Option Step
wanted_at p stage = option_map (step_at (place_of p.layout.pages)) (wants_at p stage)

abbrev pub wanted : Passing → Option Step
wanted p = wanted_at p p.stage

-- ---- what a reply makes of it

-- from a gate that allows the passage: a look is made, anything else is to be written
abbrev pub allowed : Passage → (word : ℕ) → GateWord → GateStage
allowed Look word gate = Ended (Went word)
allowed passage word gate = Exchanges gate

-- by what the gate's word says
abbrev pub looked : Passage → (word : ℕ) → Option GateWord → GateStage
looked passage word (Some gate) = if allows passage gate then allowed passage word gate else Ended (NotYet word)
looked passage word None = Loads

abbrev pub next_stage : Passage → GateStage → Reply → GateStage
next_stage passage Loads (Value word) = looked passage word (decode_gate word)
next_stage passage (Exchanges gate) Won = Ended (Went (encode_gate (gate_after passage gate)))
next_stage passage (Exchanges gate) (Lost word) = Loads
next_stage passage stage answer = stage

abbrev pub taken : Passing → Reply → Passing
taken p answer = record p { stage = next_stage p.passage p.stage answer }

-- ---- what it tells

abbrev pub told_at : GateStage → Turn Passed
told_at (Ended result) = Finished result
told_at stage = More

abbrev pub told : Passing → Turn Passed
told p = told_at p.stage

-- the passage as a machine
abbrev pub gate_machine : Machine Passing Passed
gate_machine = record { wanted = wanted; taken = taken; told = told }

-- ---- the steps that are left, no exchange being lost

-- before the load
abbrev pub left_before : Passage → ℕ
left_before Look = 1
left_before passage = 2

abbrev pub left_at : Passage → GateStage → ℕ
left_at passage Loads = left_before passage
left_at passage (Exchanges g) = 1
left_at passage (Ended result) = 0

abbrev pub left : Passing → ℕ
left p = left_at p.passage p.stage

-- the reply is one to the step that it wants, and takes it on: the exchange isn't lost
abbrev pub advances_at : GateStage → Reply → Bool
advances_at Loads (Value word) = is_some (decode_gate word)
advances_at (Exchanges gate) Won = true
advances_at stage answer = false

abbrev pub advances : Passing → Reply → Bool
advances p answer = advances_at p.stage answer
