-- A mutator that has left has no call under way.
use Rattle.std.proofs.Common.{◌≡◌, Option, Some, None, refl}
use Rattle.plain_state.specs.declared.end.End.{End}
use Rattle.ael_threads.specs.Calls.{Halts, StaysSilent}
use Rattle.ael_threads.specs.Seats.{Seated}

pub left_rests : (a b : Seated) → ((end : End) → a.worker.account.end ≡ Some end → StaysSilent a b) → (a.worker.account.end ≡ None → Halts a b) → b.worker.task ≡ None
left_rests a b ended halts = by_end a.worker.account.end refl
  where
    by_end : (o : Option End) → a.worker.account.end ≡ o → b.worker.task ≡ None
    by_end (Some end) is = (ended end is).none
    by_end None is = (halts is).quiet.none
