-- the seats so far
use Rattle.std.proofs.Common.{◌≡◌, ◌+◌, ◌≤◌, ◌-◌, [], vec_capacity, vec_len}
use Rattle.ael_threads.specs.Histories.{new_hands}
use Rattle.ael_threads.specs.Opened.{new_scanners}
use Rattle.ael_threads.specs.Rule.{crew, view}
use Rattle.ael_threads.specs.Seats.{new_callers}
use Rattle.ael_threads.proofs.shared.Shared.deal.Given as goal

abbrev pub invariant-loop-k : goal.invariant-loop-k
invariant-loop-k l = record {
  table : l.seat.table_id ≡ l.self.table.shared.table_id;
  seat : l.seat.me ≡ (view l.plan (new_hands l.plan l.k (crew l.plan - l.k)) [] [] [], []);
  made : l.mutators.items ≡ new_callers l.self.table.shared.table_id l.plan 0 l.k;
  count : vec_len l.mutators ≡ l.k;
  room : l.plan.mutators ≤ vec_capacity l.mutators;
}

abbrev pub invariant-loop-i : goal.invariant-loop-i
invariant-loop-i l = record {
  table : l.seat.table_id ≡ l.self.table.shared.table_id;
  seat : l.seat.me ≡ (view l.plan (new_hands l.plan (l.plan.mutators + l.i) (crew l.plan - (l.plan.mutators + l.i))) [] [] [], []);
  mutators : l.mutators.items ≡ new_callers l.self.table.shared.table_id l.plan 0 l.plan.mutators;
  made : l.scanners.items ≡ new_scanners l.self.table.shared.table_id l.plan l.plan.mutators l.i;
  count : vec_len l.scanners ≡ l.i;
  room : l.plan.scanners ≤ vec_capacity l.scanners;
}
