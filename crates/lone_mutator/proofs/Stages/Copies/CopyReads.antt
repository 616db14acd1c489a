-- A lone worker never meets a record that is being copied.
use Rattle.std.proofs.Common.{◌≡◌, ℕ, zero, suc, ◌+◌, ◌<◌, ◌≤◌, ◌⊎◌, inl, inr, true, refl, ap, arith}
use Rattle.heap_words.specs.Decoded.{Decoded, decode}
use Rattle.heap_words.specs.FirstWords.{is_header, is_forward}
use Rattle.heap_state.specs.Memory.Era.{Era, Memory}
use Rattle.heap_state.specs.Invariant.Ghost.{Ghost}
use Rattle.heap_state.specs.Invariant.Inductive.{Invariant}
use Rattle.heap_state.specs.Known.{Team, Quest}
use Rattle.heap_state.specs.Invariant.Parts.Copying.{Seeks}

-- the word is a header or a forward
abbrev pub IsFirstWord : Decoded → Type 0
IsFirstWord d = (is_header d ≡ true) ⊎ (is_forward d ≡ true)

module _ (E : Era) (m : Memory) (team : Team) (g : Ghost) (i : Invariant E m team g) (one : team.count ≡ 1) where
  -- nobody keeps the header of a record
  module _ (a : ℕ) (stands : 0 < g.size a) (idle : g.kept 0 ≡ 0) where
    unkept : (k : ℕ) → g.keeper a ≡ k → g.keeper a ≡ 0
    unkept zero is = is
    unkept (suc k) is =
        let keeps : g.keeper a ≡ k + 1 = omega (arith, is) in
        let below = i.kept.kept a k stands keeps in
        let zero_only : k ≡ 0 = omega (arith, below, one) in
        let kept = (i.copied.keeper_of a k stands keeps).0 in
        absurd (let own = ap g.kept zero_only in omega (arith, kept, own, idle))

    by_copy : (b : ℕ) → g.copy a ≡ b → E.old_start ≤ a → a < E.old_start + E.old_span → IsFirstWord (decode (m.heap a))
    by_copy zero is low high =
        inl (ap is_header (i.headed.own a stands (i.older.written a stands low high) is (unkept (g.keeper a) refl)))
    by_copy (suc b) is low high =
        inr (ap is_forward (i.headed.gone a b stands (let next : g.copy a ≡ b + 1 = omega (arith, is) in next) (unkept (g.keeper a) refl)))

  -- so who looks for a copy, and copies nothing yet, reads a header or a forward
  pub reads_first : (q : Quest) → Seeks E g.size g.writer g.copy q → g.kept 0 ≡ 0 → IsFirstWord (decode (m.heap q.old))
  reads_first q seeks idle = by_copy q.old seeks.old.0 idle (g.copy q.old) refl seeks.old.1 seeks.old.2
