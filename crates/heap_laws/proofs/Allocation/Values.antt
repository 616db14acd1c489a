-- What words denote before and after a record begins to stand.
use Rattle.std.proofs.Common.{◌≡◌, ℕ, ◌+◌, ◌<◌, ◌≤◌, true, refl, ap, arith, ⊎_elim, inl, inr}
use Rattle.heap_words.specs.Decoded.{Decoded, PointerWord, decode}
use Rattle.plain_state.specs.declared.value.Identity.{Identity}
use Rattle.plain_state.specs.Layout.{is_field}
use Rattle.heap_state.specs.Memory.Era.{Era, Memory}
use Rattle.heap_state.specs.Functions.{put}
use Rattle.heap_state.specs.Invariant.Ghost.{Ghost, Lands, Here}
use Rattle.heap_state.specs.Invariant.Inductive.{Invariant}
use Rattle.heap_state.specs.Meaning.Values.{value_said, value_of}
use Rattle.heap_state.specs.Known.{Team}
use Rattle.heap_state.proofs.Puts.{put_other}

-- a field of a record that nobody writes leads to such a record
pub field_lands : (E : Era) (m : Memory) (team : Team) (g : Ghost) (b j : ℕ) → Invariant E m team g → 0 < g.size b → g.writer b ≡ 0 → is_field (g.kind b) j ≡ true → 0 < j → j < g.size b → Lands g.size g.writer (m.heap (b + j))
unfolding Here Lands
field_lands E m team g b j inv st w t f l = ⊎_elim
    (λ (y : (E.old_start ≤ b) × (b < E.old_start + E.old_span)).
    λ x e. let q = inv.older.older b j x (record { stands = st; written = w; field = t; first = f; last = l }) y.0 y.1 e in (q.0, inv.older.written x q.0 q.1 q.2))
    (λ (y : (E.start ≤ b) × (b < E.start + E.span)).
    inv.landing.lands (b + j) (inl (record { a = b; i = j; field = record { stands = st; written = w; field = t; first = f; last = l }; inside = y; at = refl })))
    (⊎_elim
    (λ q. inr (q.0, omega (arith, q, inv.laid.order, st)))
    (λ z. ⊎_elim (λ q. inr (omega (arith, q, inv.laid.order), omega (arith, q, st))) (λ q. inl (q.0, omega (arith, q, st))) z)
    (inv.laid.lies b st))

-- where nothing stood at a, what leads to a record denotes what it denoted
pub value_allocated : (size writer : ℕ → ℕ) (identity : ℕ → Identity) (a : ℕ) (i : Identity) (w : ℕ) → size a ≡ 0 → Lands size writer w → value_of (put identity a i) w ≡ value_of identity w
unfolding value_of Lands
value_allocated size writer identity a i w blank lands = by_word (decode w) lands
  where
    by_word : (u : Decoded) → ((b : ℕ) → u ≡ PointerWord b → (0 < size b) × (writer b ≡ 0)) → value_said (put identity a i) u ≡ value_said identity u
    by_word (PointerWord b) f = rw (put_other identity a i b (λ e. let q : size b ≡ size a = ap size e in let s = (f b refl).0 in omega (arith, q, s, blank))) refl
    by_word _ f = refl
