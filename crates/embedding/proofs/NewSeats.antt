-- The mutators of a new heap may act.
use Rattle.std.proofs.Common.{◌≡◌, ℕ, Bool, true, false, nat_lt, Option, Some, None, refl, subst}
use Rattle.std.specs.Prelude.{if◌then◌else◌}
use Rattle.atomic_table.specs.Seated.{TableId}
use Rattle.gc_worker.specs.Laws.Between.{fresh_mutator, fresh_scanner}
use Rattle.gc_worker.specs.Workers.Held.{Held}
use Rattle.ael_threads.specs.declared.view.Plan.{Plan}
use Rattle.ael_threads.specs.Seats.{Seated, new_seated}
use Rattle.embedding.specs.Actors.{MayAct}

-- it has no call under way and no end
abbrev IsFresh : Held → Type 0
IsFresh x = (x.task ≡ None) × (x.account.end ≡ None)

module _ (t : TableId) (plan : Plan) (n : ℕ) where
  fresh : (is_mutator : Bool) → IsFresh (if is_mutator then fresh_mutator plan.prints plan.spaces plan.mutators n else fresh_scanner plan.prints plan.spaces plan.mutators n)
  fresh true = (refl, refl)
  fresh false = (refl, refl)

  new_may_act : MayAct t (new_seated t plan n)
  new_may_act =
      let is = fresh (nat_lt n plan.mutators) in record { of_heap = refl; rests = is.0; no_end = is.1; mine = refl }

  -- so may one that was taken
  pub taken_may_act : (o : Option Seated) (m : Seated) → o ≡ Some (new_seated t plan n) → o ≡ Some m → MayAct t m
  taken_may_act o m new is = let same : new_seated t plan n ≡ m = cc in subst (MayAct t) same new_may_act
