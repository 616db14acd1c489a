-- Worked rows of the gate and the flip, in a heap of 4 pages a space, or of 8 of which 4 are in use: each step with its reply,
-- words as numbers.
use Rattle.std.specs.Prelude.{Bool, true, false, List, [], ◌∷◌}
use Rattle.atom_store.specs.declared.step.Step.{Step}
use Rattle.atom_store.specs.declared.step.Step.TheVariants.{Load, Store, Exchange}
use Rattle.atom_store.specs.declared.reply.Reply.{Reply}
use Rattle.atom_store.specs.declared.reply.Reply.TheVariants.{Value, Done, Won, Lost}
use Rattle.atom_store.specs.Machine.{RunsTo}
use Rattle.space_map.specs.Worked.{four_pages}
use Rattle.gate_core.specs.declared.passage.Passage.{Passage}
use Rattle.gate_core.specs.declared.passage.Passage.TheVariants.{Look, Attach, Park, Request, Resume, Forwarded, Leave}
use Rattle.gate_core.specs.declared.passed.Passed.{Passed}
use Rattle.gate_core.specs.declared.passed.Passed.TheVariants as passed
use Rattle.gate_core.specs.declared.flipped.Flipped.{Flipped}
use Rattle.gate_core.specs.declared.flipped.Flipped.TheVariants as flipped
use Rattle.gate_core.specs.Gate.{begun, gate_machine}
use Rattle.gate_core.specs.Flip as flip

-- a passage of the gate makes these steps, and comes to this
abbrev pub GateRunsTo : Passage → List (Step × Reply) → Passed → Type 0
GateRunsTo passage rows result = RunsTo gate_machine (begun four_pages passage) rows result

-- the flip out of epoch 0 for one page does
abbrev pub FlipRunsTo : List (Step × Reply) → Flipped → Type 0
FlipRunsTo rows result = RunsTo flip.flip_machine (flip.begun four_pages 0 1 false) rows result

-- the same in a heap of 8 pages a space, by a mutator that has seen a flip since its instruction began or not
abbrev pub LargerFlipRunsTo : (seen : Bool) → List (Step × Reply) → Flipped → Type 0
LargerFlipRunsTo seen rows result = RunsTo flip.flip_machine (flip.begun (record { pages = 8; checkpoints = false }) 0 1 seen) rows result

-- the first mutator attaches to an empty heap
abbrev pub Attaches : Type 0
Attaches =
    GateRunsTo Attach ((Load 0, Value 0) ∷ (Exchange 0 0 0x0000_0101_0000_0000, Won) ∷ []) (passed.Went 0x0000_0101_0000_0000)

-- it requests a flip, and stops
abbrev pub Requests : Type 0
Requests =
    GateRunsTo Request ((Load 0, Value 0x0000_0101_0000_0000) ∷ (Exchange 0 0x0000_0101_0000_0000 0x0100_0001_0000_0000, Won) ∷ []) (passed.Went 0x0100_0001_0000_0000)

-- it flips: one page of four has words in use, so the other space, of as many pages, begins with 64 words owed
abbrev pub FlipsSpaces : Type 0
FlipsSpaces =
    FlipRunsTo ((Load 0, Value 0x0100_0001_0000_0000) ∷ (Load 12, Value 4) ∷ (Load 4, Value 0x0000_0000_0300_0000) ∷ (Store 13 4, Done) ∷ (Store 5 0x0000_0400_0400_0000, Done) ∷ (Store 6 0, Done) ∷ (Exchange 0 0x0100_0001_0000_0000 0x0001_0001_0000_0001, Won) ∷ []) (flipped.Went 1)

-- it has forwarded its registers
abbrev pub TellsForwarded : Type 0
TellsForwarded =
    GateRunsTo Forwarded ((Load 0, Value 0x0001_0001_0000_0001) ∷ (Exchange 0 0x0001_0001_0000_0001 0x0000_0001_0000_0001, Won) ∷ []) (passed.Went 0x0000_0001_0000_0001)

-- it runs on
abbrev pub Resumes : Type 0
Resumes =
    GateRunsTo (Resume 1) ((Load 0, Value 0x0000_0001_0000_0001) ∷ (Exchange 0 0x0000_0001_0000_0001 0x0000_0101_0000_0001, Won) ∷ []) (passed.Went 0x0000_0101_0000_0001)

-- it leaves
abbrev pub Leaves : Type 0
Leaves =
    GateRunsTo Leave ((Load 0, Value 0x0000_0101_0000_0001) ∷ (Exchange 0 0x0000_0101_0000_0001 0x0200_0000_0000_0001, Won) ∷ []) (passed.Went 0x0200_0000_0000_0001)

-- of two mutators the other one stops when it sees the request
abbrev pub Parks : Type 0
Parks =
    GateRunsTo Park ((Load 0, Value 0x0100_0102_0000_0000) ∷ (Exchange 0 0x0100_0102_0000_0000 0x0100_0002_0000_0000, Won) ∷ []) (passed.Went 0x0100_0002_0000_0000)

-- where the exchange is lost to another mutator, the gate is loaded again
abbrev pub ExchangeIsTriedAgain : Type 0
ExchangeIsTriedAgain =
    GateRunsTo Park ((Load 0, Value 0x0100_0203_0000_0000) ∷ (Exchange 0 0x0100_0203_0000_0000 0x0100_0103_0000_0000, Lost 0x0100_0103_0000_0000) ∷ (Load 0, Value 0x0100_0103_0000_0000) ∷ (Exchange 0 0x0100_0103_0000_0000 0x0100_0003_0000_0000, Won) ∷ []) (passed.Went 0x0100_0003_0000_0000)

-- a running mutator goes on, if no flip is requested
abbrev pub Looks : Type 0
Looks = GateRunsTo Look ((Load 0, Value 0x0000_0202_0000_0000) ∷ []) (passed.Went 0x0000_0202_0000_0000)

-- nobody goes on, attaches, resumes or requests while a flip is requested
abbrev pub RequestHinders : Type 0
RequestHinders =
    (GateRunsTo Look ((Load 0, Value 0x0100_0102_0000_0000) ∷ []) (passed.NotYet 0x0100_0102_0000_0000)) × (GateRunsTo Attach ((Load 0, Value 0x0100_0102_0000_0000) ∷ []) (passed.NotYet 0x0100_0102_0000_0000)) × (GateRunsTo Request ((Load 0, Value 0x0100_0102_0000_0000) ∷ []) (passed.NotYet 0x0100_0102_0000_0000)) × (GateRunsTo (Resume 0) ((Load 0, Value 0x0100_0102_0000_0000) ∷ []) (passed.NotYet 0x0100_0102_0000_0000))

-- nobody attaches or resumes while a mutator is behind
abbrev pub BehindHinders : Type 0
BehindHinders =
    (GateRunsTo Attach ((Load 0, Value 0x0002_0002_0000_0001) ∷ []) (passed.NotYet 0x0002_0002_0000_0001)) × (GateRunsTo (Resume 1) ((Load 0, Value 0x0002_0002_0000_0001) ∷ []) (passed.NotYet 0x0002_0002_0000_0001))

-- nobody parks without a request
abbrev pub NoRequestHinders : Type 0
NoRequestHinders =
    GateRunsTo Park ((Load 0, Value 0x0000_0202_0000_0000) ∷ []) (passed.NotYet 0x0000_0202_0000_0000)

-- nobody resumes in an epoch that is past
abbrev pub LaterEpochHinders : Type 0
LaterEpochHinders =
    GateRunsTo (Resume 0) ((Load 0, Value 0x0000_0001_0000_0001) ∷ []) (passed.NotYet 0x0000_0001_0000_0001)

-- nobody flips while a mutator runs
abbrev pub RunningHindersFlip : Type 0
RunningHindersFlip =
    FlipRunsTo ((Load 0, Value 0x0100_0102_0000_0000) ∷ []) (flipped.NotYet 0x0100_0102_0000_0000)

-- a flip whose exchange were lost would begin again
abbrev pub LostFlipBeginsAgain : Type 0
LostFlipBeginsAgain =
    FlipRunsTo ((Load 0, Value 0x0100_0002_0000_0000) ∷ (Load 12, Value 4) ∷ (Load 4, Value 0x0000_0000_0300_0000) ∷ (Store 13 4, Done) ∷ (Store 5 0x0000_0400_0400_0000, Done) ∷ (Store 6 0, Done) ∷ (Exchange 0 0x0100_0002_0000_0000 0x0002_0002_0000_0001, Lost 0x0100_0102_0000_0000) ∷ (Load 0, Value 0x0100_0102_0000_0000) ∷ []) (flipped.NotYet 0x0100_0102_0000_0000)

-- the other space has twice as many pages, once the mutator has seen a flip
abbrev pub GrowsOnceSeen : Type 0
GrowsOnceSeen =
    LargerFlipRunsTo true ((Load 0, Value 0x0100_0001_0000_0000) ∷ (Load 12, Value 4) ∷ (Load 4, Value 0x0000_0000_0100_0000) ∷ (Store 13 8, Done) ∷ (Store 5 0x0000_0C00_0800_0000, Done) ∷ (Store 6 0, Done) ∷ (Exchange 0 0x0100_0001_0000_0000 0x0001_0001_0000_0001, Won) ∷ []) (flipped.Went 1)

-- it has as many at the first
abbrev pub StaysAtFirst : Type 0
StaysAtFirst =
    LargerFlipRunsTo false ((Load 0, Value 0x0100_0001_0000_0000) ∷ (Load 12, Value 4) ∷ (Load 4, Value 0x0000_0000_0100_0000) ∷ (Store 13 4, Done) ∷ (Store 5 0x0000_0C00_0400_0000, Done) ∷ (Store 6 0, Done) ∷ (Exchange 0 0x0100_0001_0000_0000 0x0001_0001_0000_0001, Won) ∷ []) (flipped.Went 1)

-- it has twice as many too if more than half of the 256 words were copied, 129 of them
abbrev pub GrowsPastHalf : Type 0
GrowsPastHalf =
    LargerFlipRunsTo false ((Load 0, Value 0x0100_0001_0000_0000) ∷ (Load 12, Value 4) ∷ (Load 4, Value 0x0000_0000_0400_0081) ∷ (Store 13 8, Done) ∷ (Store 5 0x0000_0810_0800_0000, Done) ∷ (Store 6 0, Done) ∷ (Exchange 0 0x0100_0001_0000_0000 0x0001_0001_0000_0001, Won) ∷ []) (flipped.Went 1)

-- half isn't enough
abbrev pub StaysAtHalf : Type 0
StaysAtHalf =
    LargerFlipRunsTo false ((Load 0, Value 0x0100_0001_0000_0000) ∷ (Load 12, Value 4) ∷ (Load 4, Value 0x0000_0000_0400_0080) ∷ (Store 13 4, Done) ∷ (Store 5 0x0000_0800_0400_0000, Done) ∷ (Store 6 0, Done) ∷ (Exchange 0 0x0100_0001_0000_0000 0x0001_0001_0000_0001, Won) ∷ []) (flipped.Went 1)

-- it never has more pages than there are
abbrev pub GrowsNoFurther : Type 0
GrowsNoFurther =
    LargerFlipRunsTo true ((Load 0, Value 0x0100_0001_0000_0000) ∷ (Load 12, Value 8) ∷ (Load 4, Value 0x0000_0000_0100_0000) ∷ (Store 13 8, Done) ∷ (Store 5 0x0000_1C00_0800_0000, Done) ∷ (Store 6 0, Done) ∷ (Exchange 0 0x0100_0001_0000_0000 0x0001_0001_0000_0001, Won) ∷ []) (flipped.Went 1)
