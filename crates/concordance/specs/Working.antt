-- The clerks of a heap, on threads: what each comes to when it has read its part of the text.
use Rattle.std.specs.Prelude.{◌≡◌, ◌≢◌, ⊤, ℕ, ◌+◌, ◌<◌, ◌≤◌, None, Some, List, [], ◌∷◌, ◌++◌, length, slice_get}
use Rattle.std.specs.List.{AllByRecursion}
use Rattle.space_map.specs.declared.spaces.TheConstants.{MOST_MUTATORS}
use Rattle.atomic_table.specs.Seated.{TableId}
use Rattle.mutator_asm.specs.declared.instr.Instr.TheVariants.{Halt, Put}
use Rattle.mutator_asm.specs.declared.operand.Operand.TheVariants as operands
use Rattle.gc_worker.specs.declared.calls.call.Call.{Call}
use Rattle.gc_worker.specs.declared.calls.did.Did.TheVariants.{Done}
use Rattle.gc_worker.specs.declared.stage.Stage.TheVariants.{Gone}
use Rattle.gc_worker.specs.declared.task.Task.TheVariants.{Calls}
use Rattle.gc_worker.specs.History.Legal.{IsLegal}
use Rattle.ael_threads.specs.declared.view.Plan.{Plan}
use Rattle.ael_threads.specs.Calls.{call_by}
use Rattle.ael_threads.specs.Histories.{Each, first_plain, hand}
use Rattle.ael_threads.specs.Runs.Running.{EachFrom}
use Rattle.ael_threads.specs.Seats.{IsMine, Seated, first_number, first_own}
use Rattle.concordance_text.specs.declared.part.Part.{Part}
use Rattle.concordance_text.specs.Parts.{IsNumbered, mentions_of_part}
use Rattle.concordance_text.specs.Words.{HasShortWords}
use Rattle.concordance.specs.declared.registers.TheConstants.{LATEST}
use Rattle.concordance.specs.Full.{WasFullFor}
use Rattle.concordance.specs.Lone.{IsLone, desk_of}
use Rattle.concordance.specs.Notes.Desks.{HasNotedJust}

-- the heap that all threads share: its table, and its plan
pub record SharedHeap : Type 0 where
  pub table : TableId
  pub plan : Plan

abbrev pub shared_heap : TableId → Plan → SharedHeap
shared_heap t plan = record { table = t; plan = plan }

-- clerk k of the heap has left the board alone, noted nothing, and made no record
pub record IsReady (w : SharedHeap) (k : ℕ) (s : Seated) : Type 0 where
  pub table : s.table ≡ w.table
  pub plan : s.knows.plan ≡ w.plan
  pub number : first_number s.knows.hands ≡ k
  pub lone : IsLone s
  pub none : HasNotedJust (desk_of s) []

-- no word of the part is too long
abbrev pub IsShort : Part → Type 0
IsShort part = HasShortWords part.text.now

-- it may read this part
abbrev pub MayWork : SharedHeap → ℕ → Part → Seated → Type 0
MayWork w k part s = (k < MOST_MUTATORS) × IsNumbered part × IsShort part × IsReady w k s

-- the call was of `halt`
abbrev pub IsHalt : Call → Type 0
IsHalt c = c.task ≡ Calls Halt

-- Clerk k has noted the words of its part, and then put what leads to its latest entry on word k of the board. After that it has made no call
-- but `halt`, and clerk 0 has no end.
pub record HasWorked (w : SharedHeap) (k : ℕ) (part : Part) (s : Seated) : Type 0 where
  pub plan : s.knows.plan ≡ w.plan
  pub hands : s.knows.hands ≡ hand k s.worker (first_own s.knows.hands) ∷ []
  pub mine : IsMine s.knows
  pub read : Seated
  pub lone : IsLone read
  pub plan_read : read.knows.plan ≡ w.plan
  pub number_read : first_number read.knows.hands ≡ k
  pub noted : HasNotedJust (desk_of read) (mentions_of_part part)
  pub rest : List Call
  pub own : first_own s.knows.hands ≡ first_own read.knows.hands ++ call_by read (Calls (Put (operands.Number k) LATEST)) Done ∷ rest
  pub halts : Each IsHalt rest
  pub legal : IsLegal (first_plain w.plan) s.knows.seen
  pub stays : k ≡ 0 → s.worker.account.end ≡ None

-- whatever it came to, the clerk is of the heap, and has left if it is not clerk 0: so clerk 0 can take it in
pub record MayBeTakenIn (w : SharedHeap) (k : ℕ) (s : Seated) : Type 0 where
  pub table : s.table ≡ w.table
  pub left : k ≢ 0 → s.worker.stage ≡ Gone

-- ---- all clerks, numbered from this one on

abbrev pub AreReady : SharedHeap → (from : ℕ) → List Seated → Type 0
AreReady w from clerks = EachFrom (IsReady w) from clerks

-- each may read the part in its place
abbrev pub MayAllWork : SharedHeap → (from : ℕ) → List Part → List Seated → Type 0
MayAllWork w from parts clerks =
    (from + length clerks ≤ MOST_MUTATORS) × (length parts ≡ length clerks) × AllByRecursion IsNumbered parts
    × AllByRecursion IsShort parts × AreReady w from clerks

abbrev pub MayAllBeTakenIn : SharedHeap → (from : ℕ) → List Seated → Type 0
MayAllBeTakenIn w from clerks = EachFrom (MayBeTakenIn w) from clerks

-- each has worked on the part in its place
abbrev pub HaveWorked : SharedHeap → (from : ℕ) → List Part → List Seated → Type 0
HaveWorked w from [] [] = ⊤
HaveWorked w from (p ∷ ps) (s ∷ ss) = HasWorked w from p s × HaveWorked w (from + 1) ps ss
HaveWorked w from _ _ = ⊥

-- the heap was full for one of them
pub record WasFullForOne (w : SharedHeap) (from : ℕ) (parts : List Part) (asked room : ℕ) : Type 0 where
  pub place : ℕ
  pub part : Part
  pub is : slice_get parts place ≡ Some part
  pub full : WasFullFor w.plan (from + place) (mentions_of_part part) asked room
