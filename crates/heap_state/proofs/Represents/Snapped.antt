-- A plain state that is shown is shown with another checkpoint as well.
use Rattle.plain_state.specs.State as plain
use Rattle.plain_state.specs.Writing.{with_heap, took}
use Rattle.heap_state.specs.Invariant.Ghost.{Ghost}
use Rattle.heap_state.specs.Meaning.Values.{Shown}
use Rattle.heap_state.specs.Memory.Era.{Era, Memory}
use Rattle.heap_state.specs.Known.{Team}

pub snaps_show : (E : Era) (m : Memory) (team : Team) (g : Ghost) (p : plain.Plain) → Shown E m team g p → Shown E m team g (with_heap p (took p.heap))
snaps_show E m team g p s = record {
  objects = record { shows = s.objects.shows };
  targets = record { shows = s.targets.shows };
  board = record { sixteen = s.board.sixteen; board = s.board.board };
  as_many = s.as_many;
  makers = s.makers;
  accounts = λ k q e. let c = s.accounts k q e in record { counter = c.counter; printed = c.printed; executed = c.executed; end = c.end; serial = c.serial };
  registers = s.registers;
}
