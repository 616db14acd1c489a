-- Which places a walk comes to, where other records stand.
use Rattle.std.proofs.Common.{◌≡◌, ◌≢◌, ℕ, ◌+◌, ◌<◌, arith, ⊎_elim, ◌⊎◌, inl, inr}
use Rattle.std.proofs.lemmas.Bool.{cases_eq}
use Rattle.heap_state.specs.Functions.{put}
use Rattle.heap_state.specs.Invariant.Parts.Records.{WalkComesTo}
use Rattle.heap_state.proofs.Puts.{put_at, put_other}

-- where fewer stand, as long as they were
pub comes_to_fewer : {few size : ℕ → ℕ} → ((a : ℕ) → 0 < few a → (0 < size a) × (few a ≡ size a)) → (x : ℕ) → WalkComesTo few x → WalkComesTo size x
comes_to_fewer each x (inl z) = inl z
comes_to_fewer each x (inr r) = let u = each r.0 r.1 in inr (r.0, u.0, omega (arith, u.1, r.2))

-- where one more stands
pub comes_to_more : (size : ℕ → ℕ) (a z x : ℕ) → WalkComesTo (put size a z) x → WalkComesTo size x ⊎ (x ≡ a + z)
comes_to_more size a z x (inl e) = inl (inl e)
comes_to_more size a z x (inr r) = ⊎_elim
    (λ (e : r.0 ≡ a). inr (let q = put_at size a z r.0 e in omega (arith, q, e, r.2)))
    (λ (d : r.0 ≢ a). let q = put_other size a z r.0 d in inl (inr (r.0, omega (arith, q, r.1), omega (arith, q, r.2))))
    (cases_eq r.0 a)
