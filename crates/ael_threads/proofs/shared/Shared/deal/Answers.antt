use Rattle.std.proofs.Common.{◌+◌, ◌≤◌, ℕ, sym, ◌∙◌, ap, subst, le-add_right, vec_capacity}
use Rattle.ael_threads.proofs.Lists.Elements.{has_room}
use Rattle.ael_threads.proofs.WorkerSeats.OneByOne.{has_all, has_fewer, has_scanners, held_mutator, held_scanner, is_mutator, mutators_all, mutators_more, scanners_all, scanners_more}
use Rattle.ael_threads.proofs.shared.Shared.deal.Goals as goal

pub loop-k-init : goal.loop-k-init
loop-k-init c = record {
  table = c.requires.table;
  seat = has_all c.args.plan.now c.args.seat.me c.requires.seat;
  made = c.in_ok-mutators.ensures.items;
  count = c.in_ok-mutators.ensures.len;
  room = subst (λ (n : ℕ). n ≤ vec_capacity c.in_ok-mutators.mutators) c.from-count.ensures c.in_ok-mutators.ensures.capacity;
}

pub seated-caller-requires-clause-worker : goal.seated-caller-requires-clause-worker
seated-caller-requires-clause-worker c = held_mutator c.args.plan.now c.loop-k.k c.in_ok-worker.worker c.loop-k-test.true c.in_ok-worker.ensures

pub invariant_of-push_reserved : goal.invariant_of-push_reserved
invariant_of-push_reserved c = is_mutator c.args.self.now.table.shared.table_id c.args.plan.now c.loop-k.k c.seated-caller.result c.loop-k-test.true c.seated-caller.ensures.caller

pub push_reserved-requires : goal.push_reserved-requires
push_reserved-requires c = has_room _ _ _ _ c.loop-k.invariant.count c.loop-k-test.true c.loop-k.invariant.room

pub loop-k-preserved : goal.loop-k-preserved
loop-k-preserved c = record {
  table = c.seated-caller.ensures.table ∙ c.loop-k.invariant.table;
  seat = c.seated-caller.ensures.left;
  made = mutators_more c.args.self.now.table.shared.table_id c.args.plan.now c.loop-k.k _ _ c.seated-caller.result c.loop-k.invariant.made c.seated-caller.ensures.caller c.push_reserved.ensures.items;
  count = c.push_reserved.ensures.len ∙ ap (λ (n : ℕ). n + 1) c.loop-k.invariant.count;
  room = subst (λ (n : ℕ). c.args.plan.now.mutators ≤ n) (sym c.push_reserved.ensures.capacity) c.loop-k.invariant.room;
}

pub loop-i-init : goal.loop-i-init
loop-i-init c = record {
  table = c.loop-k.invariant.table;
  seat = has_scanners c.args.plan.now c.loop-k.seat.me c.loop-k.k c.loop-k-test.false c.loop-k.auto.k-end c.loop-k.invariant.seat;
  mutators = mutators_all c.args.self.now.table.shared.table_id c.args.plan.now c.loop-k.k _ c.loop-k-test.false c.loop-k.auto.k-end c.loop-k.invariant.made;
  made = c.in_ok-scanners.ensures.items;
  count = c.in_ok-scanners.ensures.len;
  room = subst (λ (n : ℕ). n ≤ vec_capacity c.in_ok-scanners.scanners) c.from-count-2.ensures c.in_ok-scanners.ensures.capacity;
}

pub seated-caller-requires-in-loop-i-clause-worker :
    goal.seated-caller-requires-in-loop-i-clause-worker
seated-caller-requires-in-loop-i-clause-worker c = held_scanner c.args.plan.now (c.args.plan.now.mutators + c.loop-i.i) c.scanner-worker.result (le-add_right _ _) c.scanner-worker.ensures

pub push_reserved-requires-in-loop-i : goal.push_reserved-requires-in-loop-i
push_reserved-requires-in-loop-i c = has_room _ _ _ _ c.loop-i.invariant.count c.loop-i-test.true c.loop-i.invariant.room

pub loop-i-preserved : goal.loop-i-preserved
loop-i-preserved c = record {
  table = c.seated-caller-in-loop-i.ensures.table ∙ c.loop-i.invariant.table;
  seat = has_fewer c.args.plan.now c.seated-caller-in-loop-i.new.seat.me c.loop-i.i c.seated-caller-in-loop-i.ensures.left;
  mutators = c.loop-i.invariant.mutators;
  made = scanners_more c.args.self.now.table.shared.table_id c.args.plan.now c.args.plan.now.mutators c.loop-i.i _ _ c.seated-caller-in-loop-i.result c.loop-i.invariant.made c.seated-caller-in-loop-i.ensures.caller c.push_reserved-in-loop-i.ensures.items;
  count = c.push_reserved-in-loop-i.ensures.len ∙ ap (λ (n : ℕ). n + 1) c.loop-i.invariant.count;
  room = subst (λ (n : ℕ). c.args.plan.now.scanners ≤ n) (sym c.push_reserved-in-loop-i.ensures.capacity) c.loop-i.invariant.room;
}

pub returns-clause-mutators : goal.returns-clause-mutators
returns-clause-mutators c = c.loop-i.invariant.mutators

pub returns-clause-scanners : goal.returns-clause-scanners
returns-clause-scanners c = scanners_all c.args.self.now.table.shared.table_id c.args.plan.now c.args.plan.now.mutators c.loop-i.i _ c.loop-i-test.false c.loop-i.auto.i-end c.loop-i.invariant.made
