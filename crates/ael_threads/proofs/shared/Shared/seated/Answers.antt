use Rattle.std.proofs.Common.{◌<◌, ◌≤◌, [], arith, refl, sym, ◌∙◌, ap, subst}
use Rattle.crossbeam_utils.specs.Padded.{padded_value}
use Rattle.space_map.specs.declared.spaces.TheConstants.{LAST_WORKER}
use Rattle.gc_worker.specs.Workers.Held.{Held}
use Rattle.space_map.specs.Spaces.{IsPageCount}
use Rattle.ael_threads.specs.declared.view.View.{View}
use Rattle.ael_threads.specs.Rule.{crew}
use Rattle.ael_threads.specs.Seats.{HasHeardAllSeen, IsMine, Me, new_seated}
use Rattle.ael_threads.proofs.WorkerSeats.Dealt.{deals, gives, leaves}
use Rattle.ael_threads.proofs.WholeCalls.BetweenSteps.{fresh_heads, fresh_shows, still_live}
use Rattle.ael_threads.proofs.shared.Shared.seated.Goals as goal

pub split_seat-own-requires : goal.split_seat-own-requires
split_seat-own-requires c = (c.requires.table, c.args.self.now.some, deals _ _ _)

pub invariant_of-result : goal.invariant_of-result
invariant_of-result c =
    let s = c.split_seat-own.ensures in
    let plan = c.args.plan.now in
    let worker : Held = padded_value c.new.result in
    let fresh = c.new.ensures ∙ c.requires.worker in
    let size : IsPageCount plan.spaces.pages = c.known.ensures in
    let few : c.args.k ≤ LAST_WORKER = (let a = c.requires.below in let b = c.requires.few.1 in omega (arith, a, b)) in
    let some : 0 < plan.spaces.pages = (let a = size.0 in omega (arith, a)) in
    let is = ap (λ (z : Me). z.0) s.4 ∙ gives _ plan c.args.k (crew plan) c.requires.below (ap (λ (z : Me). z.0) c.requires.seat) in (
      ap (λ (z : Me). z.1) s.4,
      fresh_heads plan c.args.k worker c.split_seat-own.result.me.0 size few fresh is,
      still_live _ _ (new_seated c.args.self.now.table.shared.table_id plan 0).knows c.split_seat-own.result.me.0 (s.3 ∙ c.requires.table) (ap (λ (z : View). z.plan) is) (some, c.requires.live),
      subst IsMine (sym is) refl,
      fresh_shows plan c.args.k worker c.split_seat-own.result.me.0 size c.requires.few.0 c.requires.few.1 c.requires.below fresh is,
      subst HasHeardAllSeen (sym is) ([], refl),
    )

pub returns-clause-left : goal.returns-clause-left
returns-clause-left c =
    let plan = c.args.plan.now in
    c.split_seat-own.ensures.2 ∙ (λ i. (leaves _ plan c.args.k (crew plan) c.requires.below (ap (λ (z : Me). z.0) c.requires.seat) i, ap (λ (z : Me). z.1) c.requires.seat i))

pub returns-clause-caller : goal.returns-clause-caller
returns-clause-caller c =
    let s = c.split_seat-own.ensures in
    let plan = c.args.plan.now in
    let is = ap (λ (z : Me). z.0) s.4 ∙ gives _ plan c.args.k (crew plan) c.requires.below (ap (λ (z : Me). z.0) c.requires.seat) in (λ i. record {
      table = (s.3 ∙ c.requires.table) i;
      worker = (c.new.ensures ∙ c.requires.worker) i;
      knows = is i;
    })
