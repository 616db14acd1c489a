-- nothing is heard of it
use Rattle.std.proofs.Common.{◌≡◌}
use Rattle.concordance.proofs.Working.Silence.{KeepsSilent}
use Rattle.concordance.proofs.clerk.Clerk.looks.Given as goal

abbrev pub invariant-loop : goal.invariant-loop
invariant-loop l = (l.self-inside.mutator.table ≡ l.self-inside.heap.now.table.shared.table_id) × KeepsSilent l.fn.self l.self-inside.mutator
