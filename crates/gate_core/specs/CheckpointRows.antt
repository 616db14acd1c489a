-- Worked rows of checkpoints, in a heap of 4 pages a space: each step with its reply, words as numbers.
use Rattle.std.specs.Prelude.{ℕ, true, List, [], ◌∷◌}
use Rattle.atom_store.specs.declared.step.Step.{Step}
use Rattle.atom_store.specs.declared.step.Step.TheVariants.{Load, Exchange}
use Rattle.atom_store.specs.declared.reply.Reply.{Reply}
use Rattle.atom_store.specs.declared.reply.Reply.TheVariants.{Value, Won, Lost}
use Rattle.atom_store.specs.Machine.{RunsTo}
use Rattle.space_map.specs.declared.gate_word.GateWord.{GateWord}
use Rattle.space_map.specs.Worked.{four_pages}
use Rattle.gate_core.specs.declared.passed.Passed.{Passed}
use Rattle.gate_core.specs.declared.passed.Passed.TheVariants as passed
use Rattle.gate_core.specs.declared.recall.recalled.Recalled.{Recalled}
use Rattle.gate_core.specs.declared.snap.snapped.Snapped.{Snapped}
use Rattle.gate_core.specs.declared.snap.snapped.Snapped.TheVariants as snapped
use Rattle.gate_core.specs.Gate.{clear_begun, gate_machine}
use Rattle.gate_core.specs.Recall as recall
use Rattle.gate_core.specs.Snap as snap

-- a mutator that begins to run makes these steps, and comes to this
abbrev pub RecallRunsTo : List (Step × Reply) → Recalled → Type 0
RecallRunsTo rows result = RunsTo recall.recall_machine (recall.begun four_pages) rows result

-- the beginning of the checkpoint after this one does
abbrev pub SnapRunsTo : (number : ℕ) → List (Step × Reply) → Snapped → Type 0
SnapRunsTo number rows result = RunsTo snap.snap_machine (snap.begun four_pages number) rows result

-- the passage that clears the request, begun from this gate, does
abbrev pub ClearRunsTo : GateWord → List (Step × Reply) → Passed → Type 0
ClearRunsTo gate rows result = RunsTo gate_machine (clear_begun four_pages gate) rows result

-- the gate of an only mutator that is stopped, with its request
abbrev pub one_stopped : GateWord
one_stopped = record { epoch = 0; live = 1; running = 0; behind = 0; request = true; left = 0 }

-- before the first checkpoint none runs
abbrev pub RecallsNone : Type 0
RecallsNone = RecallRunsTo ((Load 14, Value 0) ∷ (Load 15, Value 0) ∷ []) (record { number = 0; running = 0 })

-- the first one is begun, and runs
abbrev pub RecallsFirst : Type 0
RecallsFirst = RecallRunsTo ((Load 14, Value 1) ∷ (Load 15, Value 0) ∷ []) (record { number = 1; running = 1 })

-- it is finished: its number is kept, but it doesn't run
abbrev pub RecallsFinished : Type 0
RecallsFinished = RecallRunsTo ((Load 14, Value 1) ∷ (Load 15, Value 1) ∷ []) (record { number = 1; running = 0 })

-- a word that is no number of a checkpoint would be loaded again
abbrev pub RecallIsTriedAgain : Type 0
RecallIsTriedAgain =
    RecallRunsTo ((Load 14, Value 0x1_0000_0000) ∷ (Load 14, Value 0xFFFF_FFFF) ∷ (Load 15, Value 0x1_FFFF_FFFF) ∷ (Load 15, Value 0xFFFF_FFFE) ∷ []) (record { number = 0xFFFF_FFFF; running = 0xFFFF_FFFF })

-- the first checkpoint is begun
abbrev pub BeginsFirst : Type 0
BeginsFirst =
    SnapRunsTo 0 ((Load 0, Value 0x0100_0001_0000_0000) ∷ (Exchange 14 0 1, Won) ∷ []) (snapped.Begun one_stopped)

-- the last one that there may be is begun
abbrev pub BeginsLast : Type 0
BeginsLast =
    SnapRunsTo 0xFFFF_FFFE ((Load 0, Value 0x0100_0001_0000_0000) ∷ (Exchange 14 0xFFFF_FFFE 0xFFFF_FFFF, Won) ∷ []) (snapped.Begun one_stopped)

-- no checkpoint is begun while a mutator runs
abbrev pub RunningHindersCheckpoint : Type 0
RunningHindersCheckpoint =
    SnapRunsTo 0 ((Load 0, Value 0x0100_0102_0000_0000) ∷ []) (snapped.NotYet 0x0100_0102_0000_0000)

-- a lost exchange would be tried again
abbrev pub CheckpointIsTriedAgain : Type 0
CheckpointIsTriedAgain =
    SnapRunsTo 0 ((Load 0, Value 0x0100_0001_0000_0000) ∷ (Exchange 14 0 1, Lost 2) ∷ (Exchange 14 0 1, Won) ∷ []) (snapped.Begun one_stopped)

-- the request is cleared without a load
abbrev pub ClearsAtOnce : Type 0
ClearsAtOnce =
    ClearRunsTo one_stopped ((Exchange 0 0x0100_0001_0000_0000 0x0000_0001_0000_0000, Won) ∷ []) (passed.Went 0x0000_0001_0000_0000)

-- were the gate another then, it would be loaded
abbrev pub ClearIsTriedAgain : Type 0
ClearIsTriedAgain =
    ClearRunsTo one_stopped ((Exchange 0 0x0100_0001_0000_0000 0x0000_0001_0000_0000, Lost 0x0300_0102_0000_0000) ∷ (Load 0, Value 0x0300_0102_0000_0000) ∷ (Exchange 0 0x0300_0102_0000_0000 0x0200_0102_0000_0000, Won) ∷ []) (passed.Went 0x0200_0102_0000_0000)
