-- A clerk that leaves the board alone is alone: its calls come to what they come to if nobody else makes one.
use Rattle.std.specs.Prelude.{◌≡◌, ℕ, [], ◌∷◌, None}
use Rattle.plain_state.specs.declared.end.End.TheVariants.{HeapFull}
use Rattle.plain_state.specs.State.{Plain}
use Rattle.mutator_asm.specs.declared.instr.Instr.{Instr}
use Rattle.plain_heap.specs.Step.{pages_for}
use Rattle.gc_worker.specs.declared.calls.did.Did.TheVariants.{Trap}
use Rattle.gc_worker.specs.declared.task.Task.TheVariants.{Calls}
use Rattle.gc_worker.specs.History.Legal.{IsLegal, after_all}
use Rattle.ael_threads.specs.Alone.{LeavesBoard, alone_history}
use Rattle.ael_threads.specs.Calls.{Called}
use Rattle.ael_threads.specs.Histories.{Each, first_plain, hand}
use Rattle.ael_threads.specs.Seats.{IsMine, Seated, first_number, first_own}
use Rattle.concordance.specs.Desk.{Desk, desk_in, desk_size_made}

-- the plain state after its own calls, if nobody else made one
abbrev pub alone_by : Seated → Plain
alone_by s = after_all (first_plain s.knows.plan) (alone_history (first_own s.knows.hands))

-- its records and registers there
unfoldable pub desk_of : Seated → Desk
desk_of s = desk_in (alone_by s) (first_number s.knows.hands)

-- It has taken in nobody, no call of it names the board, and it has no end.
pub record IsLone (s : Seated) : Type 0 where
  pub one : s.knows.hands ≡ hand (first_number s.knows.hands) s.worker (first_own s.knows.hands) ∷ []
  pub mine : IsMine s.knows
  pub legal : IsLegal (first_plain s.knows.plan) s.knows.seen
  pub leaves : Each LeavesBoard (first_own s.knows.hands)
  pub no_end : s.worker.account.end ≡ None

-- a clerk of the same number, on the same heap
pub record KeepsSeat (a b : Seated) : Type 0 where
  pub table : b.table ≡ a.table
  pub plan : b.knows.plan ≡ a.knows.plan
  pub number : first_number b.knows.hands ≡ first_number a.knows.hands

-- The heap is full for the record that the instruction makes: so many pages are asked for, and there is room for so many words.
pub record FindsFull (a : Seated) (i : Instr) (asked room : ℕ) (b : Seated) : Type 0 where
  pub live : ℕ
  pub called : Called a (Calls i) (Trap (HeapFull asked room live)) b
  pub asked_is : asked ≡ pages_for (desk_size_made i)
