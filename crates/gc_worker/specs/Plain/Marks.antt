-- What the order of a run has of what workers tell, and the task that a mutator fetches.
use Rattle.std.specs.Prelude.{◌≡◌, ⊤, ℕ, ◌*◌, ◌<◌, List, Option, Some, None, Result, Ok, Err}
use Rattle.plain_state.specs.declared.end.End.{End}
use Rattle.plain_state.specs.declared.end.End.TheVariants as ends
use Rattle.plain_state.specs.declared.sizes.TheConstants.{PAGE_WORDS}
use Rattle.plain_state.specs.State.{Plain}
use Rattle.mutator_asm.specs.declared.instr.Instr.{Instr}
use Rattle.plain_heap.specs.declared.mark.Mark.{Mark}
use Rattle.plain_heap.specs.declared.mark.Mark.TheVariants as marks
use Rattle.plain_heap.specs.Step.{asked_by}
use Rattle.plain_heap.specs.Order.{Story, end_of, EachMark}
use Rattle.gc_worker.specs.declared.calls.did.Did.{Did}
use Rattle.gc_worker.specs.declared.calls.did.Did.TheVariants.{Done, Trap}
use Rattle.gc_worker.specs.declared.steps.stepped.Stepped.{Stepped}
use Rattle.gc_worker.specs.declared.steps.stepped.Stepped.TheVariants.{Idle, Moved, Effect, Flipped, Traced, Ended}
use Rattle.gc_worker.specs.declared.task.Task.{Task}
use Rattle.gc_worker.specs.declared.task.Task.TheVariants.{Calls, Stops}

-- the task of what a mutator fetches: the instruction, or the end that stands in its place
abbrev pub task_of : Result Instr End → Task
task_of (Ok instr) = Calls instr
task_of (Err why) = Stops why

-- ---- marks

-- the mark of an end that mutator m got
abbrev pub end_mark : ℕ → End → Mark
end_mark m ends.Halt = marks.Step m
end_mark m ends.NotPointer = marks.Step m
end_mark m ends.NotNumber = marks.Step m
end_mark m ends.OutOfRange = marks.Step m
end_mark m ends.WeakCell = marks.Step m
end_mark m ends.IntoRaw = marks.Step m
end_mark m ends.ZeroDivisor = marks.Step m
end_mark m ends.JumpOut = marks.Step m
end_mark m ends.TurnsOut = marks.Step m
end_mark m ends.OutputFull = marks.Step m
end_mark m (ends.HeapFull asked room live) = marks.Full m asked room live

-- the mark of what mutator m's call comes to
abbrev pub mark_by : ℕ → Did → Mark
mark_by m Done = marks.Step m
mark_by m (Trap end) = end_mark m end

-- the mark of an event, where the plain machine sees it
abbrev pub mark_of : Stepped → Option Mark
mark_of Idle = None
mark_of Moved = None
mark_of (Effect m) = Some (marks.Step m)
mark_of (Flipped asked) = Some (marks.Flip asked)
mark_of Traced = Some marks.Traced
mark_of (Ended m why) = Some (end_mark m why)

-- ---- an order that acts

-- A mark acts: it is of a mutator that had no end. An end for want of room comes only where the mutator's next step asks for more
-- than there is. A flip moves records alone, and tracing empties cells.
abbrev pub MarkActs : List (List Instr) → ℕ → Plain → Mark → Type 0
MarkActs code turns s (marks.Step m) = end_of s m ≡ Some None
MarkActs code turns s (marks.Flip asked) = ⊤
MarkActs code turns s marks.Traced = ⊤
MarkActs code turns s (marks.Full m asked room live) = (end_of s m ≡ Some None) × (asked_by code turns s m ≡ Some asked) × (room < PAGE_WORDS * asked)

-- each mark of an order acts on the state that the marks before it leave, from a story on
abbrev pub EachActs : List (List Instr) → ℕ → Story → List Mark → Type 0
EachActs code turns s order = EachMark (MarkActs code turns) code turns s order
