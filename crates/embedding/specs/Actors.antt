-- What the actors do with the box, and how they begin and end.
use Rattle.std.specs.Prelude.{◌≡◌, ℕ, true, None, Result, OnErr, OnOk}
use Rattle.atomic_table.specs.Seated.{TableId}
use Rattle.plain_state.specs.declared.value.Value.TheVariants.{Number}
use Rattle.plain_state.specs.Writing.{with_board}
use Rattle.plain_heap.specs.Action.{is_reference}
use Rattle.plain_heap.specs.Call.{board_word}
use Rattle.gc_worker.specs.declared.stage.Stage.TheVariants.{Gone}
use Rattle.ael_threads.specs.Seats.{IsMine, Seated}
use Rattle.ael_runtime.specs.Reading.{heap_before, seen_heap}
use Rattle.embedding.specs.declared.actors.TheConstants.{BOX}
use Rattle.embedding.specs.declared.signs.Stop.{Stop}
use Rattle.embedding.specs.Lists.{list_of}
use Rattle.embedding.specs.Signs.{HasSignedOff}

-- the list that it had is in the box
abbrev pub HasPut : Seated → Seated → Type 0
HasPut a b = seen_heap b ≡ with_board (heap_before b) BOX (list_of a)

-- it has a list, which was in the box, and the box is empty
pub record HasTaken (b : Seated) : Type 0 where
  pub list : is_reference (list_of b) ≡ true
  pub got : list_of b ≡ board_word (heap_before b) BOX
  pub empty : seen_heap b ≡ with_board (heap_before b) BOX (Number 0)

-- a mutator of this heap with no call under way and no end, which has seen all calls that it made
pub record MayAct (t : TableId) (mutator : Seated) : Type 0 where
  pub of_heap : mutator.table ≡ t
  pub rests : mutator.worker.task ≡ None
  pub no_end : mutator.worker.account.end ≡ None
  pub mine : IsMine mutator.knows

-- The mutator of an actor has left. Its spare has no call under way: it is as it was, or if the actor failed it has put up the sign and left.
pub record HasFinished (t : TableId) (was mutator spare : Seated) (outcome : Result ℕ Stop) : Type 0 where
  pub of_heap : (mutator.table ≡ t) × (spare.table ≡ t)
  pub rest : (mutator.worker.task ≡ None) × (spare.worker.task ≡ None)
  pub gone : mutator.worker.stage ≡ Gone
  pub quiet : OnOk outcome (spare ≡ was)
  pub says : OnErr outcome (HasSignedOff spare)
