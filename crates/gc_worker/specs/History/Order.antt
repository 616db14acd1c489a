-- The order of a history, and histories in which mutators execute a program.
use Rattle.std.specs.Prelude.{◌≡◌, ⊤, ℕ, ◌*◌, ◌<◌, List, [], ◌∷◌, map, Some, slice_get}
use Rattle.plain_state.specs.declared.end.End.{End}
use Rattle.plain_state.specs.declared.end.End.TheVariants.{HeapFull}
use Rattle.plain_state.specs.declared.sizes.TheConstants.{PAGE_WORDS}
use Rattle.plain_state.specs.State.{Mutator, Plain}
use Rattle.mutator_asm.specs.declared.instr.Instr.{Instr}
use Rattle.plain_heap.specs.declared.mark.Mark.{Mark}
use Rattle.plain_heap.specs.declared.mark.Mark.TheVariants.{Flip, Traced}
use Rattle.plain_heap.specs.Step.{fetch}
use Rattle.gc_worker.specs.declared.calls.did.Did.{Did}
use Rattle.gc_worker.specs.declared.calls.did.Did.TheVariants.{Done, Trap}
use Rattle.gc_worker.specs.declared.calls.entry.Entry.{Entry}
use Rattle.gc_worker.specs.declared.calls.entry.Entry.TheVariants.{Made, Exchanged, Emptied}
use Rattle.gc_worker.specs.History.Legal.{after_call}
use Rattle.gc_worker.specs.Plain.Marks.{mark_by, task_of}
use Rattle.gc_worker.specs.Plain.Answer.{with_emptied}

-- ---- the order of a history

abbrev pub entry_mark : Entry → Mark
entry_mark (Made c) = mark_by c.by c.did
entry_mark (Exchanged by asked) = Flip asked
entry_mark (Emptied cells) = Traced

-- the order in which the plain machine executes what a history has
abbrev pub order_of : List Entry → List Mark
order_of log = map entry_mark log

-- ---- the calls of a program

-- each call of mutator m is of what it fetches there
abbrev pub AreFetched : List (List Instr) → (turns m : ℕ) → Plain → List Entry → Type 0
AreFetched code turns m p [] = ⊤
AreFetched code turns m p (Made c ∷ es) =
    (c.by ≡ m → (q : Mutator) → slice_get p.mutators m ≡ Some q → c.task ≡ task_of (fetch code turns m q)) × AreFetched code turns m (after_call p c) es
AreFetched code turns m p (Exchanged by asked ∷ es) = AreFetched code turns m p es
AreFetched code turns m p (Emptied cells ∷ es) = AreFetched code turns m (with_emptied p cells) es

-- where the heap is told to be full, the room that is told is less than what is asked for
abbrev pub IsShortEnd : End → Type 0
IsShortEnd (HeapFull asked room live) = room < PAGE_WORDS * asked
IsShortEnd end = ⊤

abbrev pub IsShort : Did → Type 0
IsShort Done = ⊤
IsShort (Trap end) = IsShortEnd end

-- so it is in each call of mutator m
abbrev pub AreShort : (m : ℕ) → List Entry → Type 0
AreShort m [] = ⊤
AreShort m (Made c ∷ es) = (c.by ≡ m → IsShort c.did) × AreShort m es
AreShort m (Exchanged by asked ∷ es) = AreShort m es
AreShort m (Emptied cells ∷ es) = AreShort m es
