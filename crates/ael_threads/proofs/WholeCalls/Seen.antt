-- What a call leaves to its mutator: nothing comes behind it but a checkpoint's `snap`, and all its calls are among those that were seen.
use Rattle.std.proofs.Common.{◌≡◌, ◌≢◌, List, refl, sym, subst}
use Rattle.mutator_asm.specs.declared.instr.Instr.{Instr}
use Rattle.mutator_asm.specs.declared.instr.Instr.TheVariants as instrs
use Rattle.gc_worker.specs.declared.calls.did.Did.{Did}
use Rattle.gc_worker.specs.declared.task.Task.{Task}
use Rattle.gc_worker.specs.declared.task.Task.TheVariants.{Calls}
use Rattle.gc_worker.specs.History.Legal.{calls_of}
use Rattle.ael_threads.specs.declared.view.Hand.{Hand}
use Rattle.ael_threads.specs.Calls.{Called, CalledBy}
use Rattle.ael_threads.specs.Histories.{HasOwnCalls}
use Rattle.ael_threads.specs.Seats.{IsMine, Seated, first_number, first_own}

-- nothing comes after a call but after one of `snap`
pub called : (a b : Seated) (i : Instr) (did : Did) → i ≢ instrs.Snap → CalledBy a i did b → Called a (Calls i) did b
called a b instrs.Snap did other by = absurd (other refl)
called a b _ did other by = by

-- all its calls were seen
pub mine_more : (a b : Seated) (task : Task) (did : Did) → Called a task did b → IsMine b.knows
mine_more a b task did h = subst (λ (hs : List Hand). HasOwnCalls b.knows.seen hs → calls_of (first_number hs) b.knows.seen ≡ first_own hs) (sym h.hands) (λ own. own.0) h.history.own
