use Rattle.std.proofs.Common.{◌≡◌, [], ◌∙◌, ap, subst, sym}
use mathlib.Core.Option.{none}
use Rattle.atomic_table.specs.Seated.{TableId}
use Rattle.atomic_table.specs.Table.{step}
use Rattle.crossbeam_utils.specs.Padded.{padded_value}
use Rattle.ael_threads.specs.GateLooks.{FindsGate}
use Rattle.ael_threads.specs.Seats.{FitsTable, HasHeardAllSeen, Heads, IsMine, Me, Seated, ShowsSeen, first_number}
use Rattle.ael_threads.proofs.TableRule.GateLooks.{glances}
use Rattle.ael_threads.proofs.caller.Caller.glances.Goals as goal

pub load-requires : goal.load-requires
load-requires c = (
  ap (λ (z : Seated). z.table) c.self.view_is ∙ c.requires,
  c.args.h.now.some,
  glances _ _ _ _ (step 0 0 0 0 none) c.self.invariant.2.0,
)

pub invariant_of-self : goal.invariant_of-self
invariant_of-self c =
    let x = padded_value c.self.inside.worker in
    subst (λ (z : TableId × Me). (z.1.1 ≡ []) × Heads z.1.0.plan x z.1.0.hands × FitsTable z.0 z.1.0 × IsMine z.1.0 × ShowsSeen x z.1.0 × HasHeardAllSeen z.1.0) (λ i. (sym c.load.ensures.0 i, sym c.load.ensures.2.0 i)) c.self.invariant

pub returns-clause-same : goal.returns-clause-same
returns-clause-same c =
    (λ i. record { table = c.load.ensures.0 i; worker = padded_value c.self.inside.worker; knows = (c.load.ensures.2.0 i).0 }) ∙ c.self.view_is

pub returns-clause-finds : goal.returns-clause-finds
returns-clause-finds c =
    subst (λ (z : Seated). FindsGate z.knows (first_number z.knows.hands) z.worker c.load.result) c.self.view_is (c.load.ensures.2.1 (padded_value c.self.inside.worker) c.self.invariant.1)
