-- Each call of a clerk that has no end was executed.
use Rattle.std.proofs.Common.{◌≡◌, ℕ, List, [], ◌∷◌, Some, None, slice_get, refl, ap, sym, ◌∙◌, subst}
use Rattle.plain_state.specs.State.{Mutator, Plain}
use Rattle.gc_worker.specs.declared.calls.call.Call.{Call}
use Rattle.gc_worker.specs.declared.calls.did.Did.{Did}
use Rattle.gc_worker.specs.declared.calls.did.Did.TheVariants.{Done, Trap}
use Rattle.gc_worker.specs.History.Legal.{IsLegal, after_all, after_call}
use Rattle.ael_threads.specs.Alone.{ComesToTheSame, EndIsLast, LeavesBoard, alone_history}
use Rattle.ael_threads.specs.Histories.{Each, first_plain}
use Rattle.ael_threads.specs.Seats.{first_number, first_own, plain_after_seen}
use Rattle.ael_threads.proofs.Alone.Replying.{AllBy, calls_by, end_is}
use Rattle.ael_threads.proofs.Alone.LoneCalls.{lone_calls_come_to_the_same}
use Rattle.concordance.specs.Full.{LoneCallsAreDone}
use Rattle.concordance.specs.OneMutator.{WasDone}

-- calls of mutator m alone, after which it has no end
all_done : (m : ℕ) (p : Plain) (cs : List Call) → AllBy m cs → IsLegal p (alone_history cs) → EndIsLast cs
    → ((q : Mutator) → slice_get (after_all p (alone_history cs)).mutators m ≡ Some q → q.end ≡ None) → Each WasDone cs
all_done m p [] by legal last none = tt
all_done m p (c ∷ cs) by legal last none = (by_did c.did refl, all_done m (after_call p c) cs by.1 legal.1 last.1 none)
  where
    by_did : (did : Did) → c.did ≡ did → c.did ≡ Done
    by_did Done is = is
    by_did (Trap end) is =
        let q : Mutator = record legal.0.mutator { end = Some end } in
        let after : slice_get (after_all (after_call p c) (alone_history cs)).mutators m ≡ Some q =
        ap (λ (rest : List Call). slice_get (after_all (after_call p c) (alone_history rest)).mutators m) (last.0 end is) ∙ end_is m p c by.0 legal.0 end is in
        absurd (let e : Some end ≡ None = none q after in cc)

pub lone_calls_are_done : LoneCallsAreDone
lone_calls_are_done s lone shows =
    let m = first_number s.knows.hands in
    let seen = s.knows.seen in
    let same : ComesToTheSame (first_plain s.knows.plan) (plain_after_seen s.knows) m (first_own s.knows.hands) =
    subst (ComesToTheSame (first_plain s.knows.plan) (plain_after_seen s.knows) m) lone.mine
    (lone_calls_come_to_the_same s.knows.plan.mutators seen m lone.legal (subst (Each LeavesBoard) (sym lone.mine) lone.leaves)) in
    all_done m (first_plain s.knows.plan) (first_own s.knows.hands) (subst (AllBy m) lone.mine (calls_by m seen)) same.legal same.last
    (λ q is. sym (shows q (sym same.mutator ∙ is)).end ∙ lone.no_end)
