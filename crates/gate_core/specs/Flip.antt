-- The flip, step by step: what it wants, what a reply makes of it, what it comes to, and what it has left.
use Rattle.std.specs.Prelude.{ℕ, ◌+◌, ◌-◌, ◌*◌, ◌==◌, ◌&&◌, ◌||◌, Bool, true, false, Option, Some, None, is_some, option_map, nat_lt, min, if◌then◌else◌}
use Rattle.atom_store.specs.declared.step.Step.{Step}
use Rattle.atom_store.specs.declared.reply.Reply.{Reply}
use Rattle.atom_store.specs.declared.reply.Reply.TheVariants.{Value, Done, Won, Lost}
use Rattle.atom_store.specs.declared.turn.Turn.{Turn}
use Rattle.atom_store.specs.declared.turn.Turn.TheVariants.{More, Finished}
use Rattle.atom_store.specs.Machine.{Machine}
use Rattle.atom_store.specs.StepOn.{StepOn, Load, Store, Exchange, step_at}
use Rattle.space_map.specs.declared.area_word.AreaWord.{AreaWord}
use Rattle.space_map.specs.declared.gate_word.GateWord.{GateWord}
use Rattle.space_map.specs.AreaWord.{encode_area, decode_area}
use Rattle.space_map.specs.GateWord.{encode_gate, decode_gate}
use Rattle.space_map.specs.Spaces.{Layout, to_space}
use Rattle.space_map.specs.Table.{Row, Gate, Area, Size, WeakHead, place_of}
use Rattle.gate_core.specs.declared.flipped.Flipped.{Flipped}
use Rattle.gate_core.specs.declared.flipped.Flipped.TheVariants.{Went, NotYet}
use Rattle.gate_core.specs.declared.flip_stage.FlipStage.{FlipStage}
use Rattle.gate_core.specs.declared.flip_stage.FlipStage.TheVariants.{LoadsGate, LoadsSize, LoadsArea, StoresSize, StoresArea, ResetsWeak, Exchanges, Ended}

-- the flip out of an epoch, by the mutator that requested it because it asks for so many pages, and that has seen another flip
-- since its instruction began or not
pub record Flipping : Type 0 where
  pub layout : Layout
  pub epoch : ℕ
  pub asked : ℕ
  pub seen : Bool
  pub stage : FlipStage

abbrev pub begun : Layout → (epoch asked : ℕ) → (seen : Bool) → Flipping
begun layout epoch asked seen = record { layout = layout; epoch = epoch; asked = asked; seen = seen; stage = LoadsGate }

-- ---- what changes

-- all mutators have stopped, and none is behind
abbrev pub is_still : GateWord → Bool
is_still gate = (gate.running == 0) && (gate.behind == 0)

-- the gate of the next epoch: all that are live are behind, and no flip is requested any more
abbrev pub gate_flipped : GateWord → GateWord
gate_flipped gate = record gate { epoch = gate.epoch + 1; behind = gate.live; request = false }

-- The pages of the other space that are in use from now on: twice as many as were in use of this one, as far as there are so
-- many, if more than half of its words were copied or the flipper has seen a flip since its instruction began; else as many.
abbrev pub next_size : (pages : ℕ) → (seen : Bool) → (size copied : ℕ) → ℕ
next_size n seen size copied = if seen || nat_lt (64 * size) (2 * copied) then min n (2 * size) else size

-- the words in use in a space of which so many pages are: those that are not between FRONT and LOW
abbrev pub used_in : (size : ℕ) → AreaWord → ℕ
used_in size area = 64 * size - (area.low - area.front)

-- the area of an empty space of so many pages, in which so many words are going to be copied
abbrev pub area_reset : (next used : ℕ) → AreaWord
area_reset next used = record { front = 0; low = 64 * next; owed = used }

-- ---- the next step

-- by the row that it is on
abbrev pub wants_at : Flipping → FlipStage → Option (StepOn Row)
wants_at f LoadsGate = Some (Load Gate)
wants_at f (LoadsSize gate) = Some (Load (Size (to_space f.epoch)))
wants_at f (LoadsArea gate size) = Some (Load (Area (to_space f.epoch)))
wants_at f (StoresSize reset) = Some (Store (Size (to_space (f.epoch + 1))) reset.next)
wants_at f (StoresArea reset) = Some (Store (Area (to_space (f.epoch + 1))) (encode_area (area_reset reset.next reset.used)))
wants_at f (ResetsWeak reset) = Some (Store WeakHead 0)
wants_at f (Exchanges reset) = Some (Exchange Gate (encode_gate reset.gate) (encode_gate (gate_flipped reset.gate)))
wants_at f (Ended result) = None

abbrev pub wanted_at : Flipping → FlipStage → Option Step
wanted_at f stage = option_map (step_at (place_of f.layout.pages)) (wants_at f stage)

abbrev pub wanted : Flipping → Option Step
wanted f = wanted_at f f.stage

-- ---- what a reply makes of it

-- by what the gate's word says
abbrev pub looked : (word : ℕ) → Option GateWord → FlipStage
looked word (Some gate) = if is_still gate then LoadsSize gate else Ended (NotYet word)
looked word None = LoadsGate

-- by what the word of the area in use says
abbrev pub read_area : (pages : ℕ) → (seen : Bool) → GateWord → (size : ℕ) → Option AreaWord → FlipStage
read_area n seen gate size (Some area) = StoresSize (record { gate = gate; size = size; next = next_size n seen size area.front; used = used_in size area })
read_area n seen gate size None = LoadsArea gate size

abbrev pub next_stage : Flipping → FlipStage → Reply → FlipStage
next_stage f LoadsGate (Value word) = looked word (decode_gate word)
next_stage f (LoadsSize gate) (Value word) = LoadsArea gate word
next_stage f (LoadsArea gate size) (Value word) = read_area f.layout.pages f.seen gate size (decode_area word)
next_stage f (StoresSize reset) Done = StoresArea reset
next_stage f (StoresArea reset) Done = ResetsWeak reset
next_stage f (ResetsWeak reset) Done = Exchanges reset
next_stage f (Exchanges reset) Won = Ended (Went f.asked)
next_stage f (Exchanges reset) (Lost word) = LoadsGate
next_stage f stage answer = stage

abbrev pub taken : Flipping → Reply → Flipping
taken f answer = record f { stage = next_stage f f.stage answer }

-- ---- what it tells

abbrev pub told_at : FlipStage → Turn Flipped
told_at (Ended result) = Finished result
told_at stage = More

abbrev pub told : Flipping → Turn Flipped
told f = told_at f.stage

-- the flip as a machine
abbrev pub flip_machine : Machine Flipping Flipped
flip_machine = record { wanted = wanted; taken = taken; told = told }

-- ---- the steps that are left, no exchange being lost

abbrev pub left_at : FlipStage → ℕ
left_at LoadsGate = 7
left_at (LoadsSize gate) = 6
left_at (LoadsArea gate size) = 5
left_at (StoresSize reset) = 4
left_at (StoresArea reset) = 3
left_at (ResetsWeak reset) = 2
left_at (Exchanges reset) = 1
left_at (Ended result) = 0

abbrev pub left : Flipping → ℕ
left f = left_at f.stage

-- the reply is one to the step that it wants, and takes it on: the exchange isn't lost
abbrev pub advances_at : FlipStage → Reply → Bool
advances_at LoadsGate (Value word) = is_some (decode_gate word)
advances_at (LoadsSize gate) (Value word) = true
advances_at (LoadsArea gate size) (Value word) = is_some (decode_area word)
advances_at (StoresSize reset) Done = true
advances_at (StoresArea reset) Done = true
advances_at (ResetsWeak reset) Done = true
advances_at (Exchanges reset) Won = true
advances_at stage answer = false

abbrev pub advances : Flipping → Reply → Bool
advances f answer = advances_at f.stage answer
