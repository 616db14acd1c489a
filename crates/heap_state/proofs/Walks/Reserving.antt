-- The places that a walk leaves out are those that somebody writes.
use Rattle.std.proofs.Common.{◌≡◌, ◌≢◌, ℕ, zero, suc, ◌+◌, ◌-◌, ◌<◌, true, false, List, [], ◌∷◌, length, get_or, Option, Some, None, refl, sym, ap, ◌∙◌, arith, ⊎_elim, ◌⊎◌, inl, inr}
use Rattle.std.proofs.lemmas.Bool.{cases_eq, cases_Bool, eq-eqb, ne_eqb}
use Rattle.heap_state.specs.Configuration.{team_of}
use Rattle.heap_state.specs.Memory.Era.{Era, Memory}
use Rattle.heap_state.specs.Invariant.Ghost.{Ghost}
use Rattle.heap_state.specs.Invariant.Inductive.{Invariant}
use Rattle.heap_words.specs.Decoded.{decode}
use Rattle.std.proofs.Math.ListN.{get_or-map, length-map}
use Rattle.heap_state.specs.Kept.{Kept, kept_by, kept_of, kept_at, size_said, reserved_by, reserved_in}
use Rattle.heap_state.specs.Known.{Known, Scanner, Team, Copy, fresh}
use Rattle.heap_state.proofs.Records.Holding.{writer, reserves}

none_reserved : (a : ℕ) (kept : List Kept) → ((j : ℕ) → j < length kept → reserved_by (kept_at kept j) a ≡ 0) → reserved_in kept a ≡ 0
none_reserved a [] h = refl
none_reserved a (k ∷ kept) h = rw (h 0 (omega arith)) (none_reserved a kept (λ j l. h (suc j) (omega arith)))

one_reserved : (a z : ℕ) (kept : List Kept) (k : ℕ) → k < length kept → reserved_by (kept_at kept k) a ≡ z → 0 < z
    → ((j : ℕ) → j < length kept → (reserved_by (kept_at kept j) a ≡ 0) ⊎ (reserved_by (kept_at kept j) a ≡ z)) → reserved_in kept a ≡ z
one_reserved a z [] k l e p h = absurd (omega arith)
one_reserved a z (o ∷ kept) zero l e p h = rw (e, ne_eqb z 0 (λ q. omega arith)) refl
one_reserved a z (o ∷ kept) (suc k) l e p h = ⊎_elim
    (λ (n : reserved_by o a ≡ 0). rw n (one_reserved a z kept k (omega arith) e p (λ j m. h (suc j) (omega arith))))
    (λ (n : reserved_by o a ≡ z). rw (n, ne_eqb z 0 (λ q. omega arith)) refl)
    (h 0 (omega arith))

-- a copy's reserved place is at this address, or it has none there
reserved_there : (o : Option Copy) (a : ℕ)
    → (reserved_by (kept_by o) a ≡ 0) ⊎ ((c : Copy) × (o ≡ Some c) × (c.reserved ≡ true) × (c.to ≡ a) × (reserved_by (kept_by o) a ≡ size_said (decode c.header)))
reserved_there None a = inl (rw (ne_eqb 0 (a + 1) (λ q. omega arith)) refl)
reserved_there (Some c) a = ⊎_elim
    (λ (r : c.reserved ≡ true). ⊎_elim
    (λ (e : c.to ≡ a). inr (c, refl, r, e, rw (r, e, eq-eqb (a + 1) (a + 1) refl) refl))
    (λ (n : c.to ≢ a). inl (rw (r, ne_eqb (c.to + 1) (a + 1) (λ q. n (omega arith))) refl))
    (cases_eq c.to a))
    (λ (r : c.reserved ≡ false). inl (rw (r, ne_eqb 0 (a + 1) (λ q. omega arith)) refl))
    (cases_Bool c.reserved)

-- what is kept, by the worker that keeps it
pub kept_there : (workers : List Known) (k : ℕ) → kept_at (kept_of workers) k ≡ kept_by (get_or workers k (fresh Scanner)).copy
kept_there workers k = get_or-map (λ (w : Known). kept_by w.copy) workers k (fresh Scanner)

module _ (E : Era) (m : Memory) (mutators : ℕ) (workers : List Known) (g : Ghost) (inv : Invariant E m (team_of mutators workers) g) where
  abbrev team : Team
  team = team_of mutators workers

  -- the worker at j has reserved a place at the address
  record ReservesAt (a j : ℕ) : Type 0 where
    written : g.writer a ≡ j + 1
    sized : reserved_by (kept_at (kept_of workers) j) a ≡ g.size a

  reserves_at : (a j : ℕ) → j < length workers → (reserved_by (kept_at (kept_of workers) j) a ≡ 0) ⊎ ReservesAt a j
  reserves_at a j l = rw (kept_there workers j) (⊎_elim (λ e. inl e) (λ c. inr (by_copy c)) (reserved_there (team.worker j).copy a))
    where
      by_copy : (c : Copy) × ((team.worker j).copy ≡ Some c) × (c.reserved ≡ true) × (c.to ≡ a) × (reserved_by (kept_by (team.worker j).copy) a ≡ size_said (decode c.header)) → ReservesAt a j
      by_copy c =
          let r = reserves E m team g inv j c.0 l c.1 c.2 in
          let k = (inv.workers j l).keeps c.0 c.1 in
          let w : g.writer c.0.to ≡ g.writer a = ap g.writer c.3 in
          let z : g.size c.0.to ≡ g.size a = ap g.size c.3 in
          let said : size_said (decode c.0.header) ≡ c.0.size - 1 + 1 = rw k.keeps refl in
          record { written = sym w ∙ r.0; sized = rw (kept_there workers j) (c.4 ∙ omega (arith, said, r, z)) }

  pub tells : (a : ℕ) → 0 < g.size a → ((g.writer a ≡ 0) × (reserved_in (kept_of workers) a ≡ 0)) ⊎ ((0 < g.writer a) × (reserved_in (kept_of workers) a ≡ g.size a))
  tells a st = ⊎_elim
      (λ (n : g.writer a ≡ 0). inl (n, none_reserved a (kept_of workers) (λ j l. ⊎_elim (λ e. e) (λ (c : ReservesAt a j). absurd (omega (arith, n, c.written))) (reserves_at a j (below j l)))))
      (λ (n : g.writer a ≢ 0). inr (omega arith, by_writer (g.writer a - 1) (omega arith)))
      (cases_eq (g.writer a) 0)
    where
      below : (j : ℕ) → j < length (kept_of workers) → j < length workers
      below j l = rw (length-map {A = Known}) at l

      by_writer : (k : ℕ) → g.writer a ≡ k + 1 → reserved_in (kept_of workers) a ≡ g.size a
      by_writer k w =
          let p = writer E m team g inv a k st w in
          let l : k < length (kept_of workers) = rw (length-map {A = Known}) p.below in
          let said : size_said (decode p.copy.header) ≡ p.copy.size - 1 + 1 = rw ((inv.workers k p.below).keeps p.copy p.copies).keeps refl in
          one_reserved a (g.size a) (kept_of workers) k l (rw (kept_there workers k, p.copies, p.reserved, p.to, eq-eqb (a + 1) (a + 1) refl) (omega (arith, said, p.sized, st))) st
          (λ j m. ⊎_elim (λ e. inl e) (λ (c : ReservesAt a j). inr c.sized) (reserves_at a j (below j m)))
