-- The flip: the epoch's space becomes the old one, and a cycle begins. Then each stopped mutator forwards its registers.
use Rattle.std.specs.Prelude.{◌≡◌, ℕ, ◌+◌, ◌^◌, ◌<◌, ◌≤◌, ◌&&◌, true, false, Some, None, nat_le, nat_lt, if◌then◌else◌}
use Rattle.plain_state.specs.State.{Plain}
use Rattle.space_map.specs.declared.gate_word.GateWord.{GateWord}
use Rattle.heap_state.specs.Cycles.Cycle.{Cycle}
use Rattle.heap_state.specs.Memory.Era.{Era, Memory}
use Rattle.heap_state.specs.Invariant.Ghost.{Ghost}
use Rattle.heap_state.specs.Invariant.Inductive.{Invariant}
use Rattle.heap_state.specs.Meaning.Values.{Shown}
use Rattle.heap_state.specs.Known.{Known, Team, Stopped, Flipping, Reset}
use Rattle.heap_laws.specs.Steps.{with_worker, Ready}

-- ---- the flip

-- the next epoch, whose spaces are the other way round
abbrev pub next_era : Era → Era
next_era E = record { epoch = E.epoch + 1; start = E.old_start; span = E.old_span; old_start = E.start; old_span = E.span; board = E.board }

-- the gate after the flip: each live mutator is behind
abbrev pub flipped_gate : GateWord → GateWord
flipped_gate gate = record { epoch = gate.epoch + 1; live = gate.live; running = gate.running; behind = gate.live; request = false; left = gate.left }

-- the memory as the next epoch sees it
abbrev pub next_memory : Memory → Memory
next_memory m = record m {
  gate = flipped_gate m.gate;
  front = m.old_front;
  low = m.old_low;
  owed = m.old_owed;
  old_front = m.front;
  old_low = m.low;
  old_owed = m.owed;
}

-- only the records of the space that becomes the old one count from now on, and none of them has a copy
abbrev pub only_in : (start span : ℕ) → (ℕ → ℕ) → ℕ → ℕ
only_in start span size a = if nat_le start a && nat_lt a (start + span) then size a else 0

abbrev pub next_ghost : Era → Ghost → Ghost
next_ghost E g = record {
  size = only_in E.start E.span g.size;
  writer = λ a. 0;
  copy = λ a. 0;
  keeper = λ a. 0;
  kind = g.kind;
  identity = g.identity;
  kept = λ k. 0;
}

-- the flipper after the flip
abbrev pub after_flip : Known → Known
after_flip w = record w { post = Stopped; traced_seen = false; reset = None }

-- Worker k flips: it has asked for it, has read a gate with nobody running and nobody behind, and has stored the other space's
-- area, and WEAK. Another epoch fits the gate, and the other space is as large.
pub record Flips (E : Era) (team : Team) (k : ℕ) (r : Reset) : Type 0 where
  pub asked : ℕ
  pub post : (team.worker k).post ≡ Flipping asked
  pub reset : (team.worker k).reset ≡ Some r
  pub stored : r.stored ≡ true
  pub cleared : r.cleared ≡ true
  pub fits : E.epoch + 1 < 2 ^ 32
  pub large : E.span ≤ E.old_span

-- The exchange of the gate is won. In the next epoch the invariant holds and the same plain state is shown, and a cycle begins of
-- that state. No page word changes.
pub record FlipKeeps (E : Era) (m : Memory) (team : Team) (g : Ghost) (k : ℕ) (r : Reset) : Type 0 where
  pub won : m.gate ≡ r.read
  pub invariant : Invariant (next_era E) (next_memory m) (with_worker team k (after_flip (team.worker k))) (next_ghost E g)
  pub shown : (p : Plain) → Shown E m team g p → Shown (next_era E) (next_memory m) (with_worker team k (after_flip (team.worker k))) (next_ghost E g) p
  pub pages : (next_memory m).page ≡ m.page
  pub begins : (p : Plain) → Shown E m team g p → Cycle (next_era E) (next_memory m) (with_worker team k (after_flip (team.worker k))) (next_ghost E g) p

abbrev pub FlippingKeeps : Type 0
FlippingKeeps = (E : Era) (m : Memory) (team : Team) (g : Ghost) (k : ℕ) (r : Reset) → Ready E m team g k → Flips E team k r → FlipKeeps E m team g k r
