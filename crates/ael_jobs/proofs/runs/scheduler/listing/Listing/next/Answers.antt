use Rattle.std.proofs.Common.{arith}
use Rattle.ael_jobs.proofs.WholeRuns.WorkerRounds.{HasItemAtHand, ready_names, ready_later, ready_now, ready_next, ready_again}
use Rattle.ael_jobs.proofs.runs.scheduler.listing.Listing.next.Goals as goal
use Rattle.ael_jobs.proofs.runs.scheduler.listing.Listing.next.Goals.{After-self-2-1, then-self-eq0, then-self, else-self, else-self-eq0}

ready : (c : goal.After-self-2-1) → HasItemAtHand c.if-self-eq0.self-inside.now c.if-self-eq0.self-inside.next c.if-self-eq0.self-inside.items.now c.args.self.now
ready c = elim c.if-self-eq0.branch [
  | then-self-eq0 w ↦ elim w.if-self.branch [ then-self v ↦ rw (w.self-inside-is, v.next-is, ← c.self.view_is) (ready_next _ _ _ w.if-self-eq0.true v.if-self.true c.self.invariant.1) | else-self v ↦ rw (w.self-inside-is, v.next-is, ← c.self.view_is) (ready_again _ _ _ w.if-self-eq0.true (omega arith) c.self.invariant.0 c.self.invariant.1) ]
  | else-self-eq0 w ↦ rw (w.self-inside-is, ← c.self.view_is) (ready_now _ _ _ w.if-self-eq0.false)
]

pub returns-clause-names : goal.returns-clause-names
returns-clause-names c = ready_names _ _ _ _ (ready c)

pub returns-clause-later : goal.returns-clause-later
returns-clause-later c = ready_later _ _ _ _ (ready c)
