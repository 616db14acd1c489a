-- The chain of copied cells is short: each linked cell takes three words below FRONT.
use Rattle.std.proofs.Common.{◌≡◌, ◌≢◌, ℕ, zero, suc, ◌+◌, ◌-◌, ◌*◌, ◌<◌, ◌≤◌, refl, sym, ap, ◌∙◌, arith, ⊎_elim}
use Rattle.std.proofs.lemmas.Bool.{cases_eq, cases_lt}
use Rattle.heap_state.specs.Cells.{Ranks, Linked, Chain}
use Rattle.heap_state.specs.Functions.{put, sum_below}
use Rattle.heap_state.specs.Memory.Era.{Era, Memory}
use Rattle.heap_state.specs.Invariant.Ghost.{Ghost}
use Rattle.heap_state.specs.Known.{Team}
use Rattle.heap_state.proofs.Puts.{put_at, put_other, put_same, sum_below-change, sum_below-none}
use Rattle.heap_laws.specs.Cells.Walks.{ChainIsShort}
use Rattle.heap_laws.specs.Steps.{Ready}

-- ---- marks that are three apart

-- marks below an end, each at most 1, three apart, and three before the end
record Spaced (f : ℕ → ℕ) (end : ℕ) : Type 0 where
  small : (x : ℕ) → f x ≤ 1
  apart : (x y : ℕ) → x < y → y < end → 0 < f x → 0 < f y → x + 3 ≤ y
  ends : (x : ℕ) → x < end → 0 < f x → x + 3 ≤ end

-- no mark is within the last three places
last_none : (f : ℕ → ℕ) (end x : ℕ) → Spaced f end → x < end → end < x + 3 → f x ≡ 0
last_none f end x s l m = ⊎_elim (λ (p : 0 < f x). absurd (let e = s.ends x l p in omega (arith, e, m))) (λ (z : f x ≤ 0). omega (arith, z)) (cases_lt 0 (f x))

spaced_are_few : (fuel end : ℕ) (f : ℕ → ℕ) → end ≤ fuel → Spaced f end → 3 * sum_below end f ≤ end
unfolding sum_below
spaced_are_few fuel zero f l s = omega arith
spaced_are_few zero (suc n) f l s = absurd (omega (arith, l))
spaced_are_few (suc fuel) (suc zero) f l s = let a : f 0 ≡ 0 = last_none f 1 0 s (omega arith) (omega arith) in omega (arith, a)
spaced_are_few (suc fuel) (suc (suc zero)) f l s = let a : f 0 ≡ 0 = last_none f 2 0 s (omega arith) (omega arith) in let b : f 1 ≡ 0 = last_none f 2 1 s (omega arith) (omega arith) in omega (arith, a, b)
spaced_are_few (suc fuel) (suc (suc (suc n))) f l s =
    let a : f (suc (suc n)) ≡ 0 = last_none f (suc (suc (suc n))) (suc (suc n)) s (omega arith) (omega arith) in
    let b : f (suc n) ≡ 0 = last_none f (suc (suc (suc n))) (suc n) s (omega arith) (omega arith) in
    ⊎_elim
    (λ (p : 0 < f n).
    let one = s.small n in
    let rest : 3 * sum_below n f ≤ n = spaced_are_few fuel n f (omega (arith, l)) (record { small = s.small; apart = λ x y m o. s.apart x y m (omega (arith, o)); ends = λ x m q. s.apart x n m (omega arith) q p }) in
    omega (arith, a, b, one, rest))
    (λ (z : f n ≤ 0).
    let rest : 3 * sum_below (suc (suc n)) f ≤ suc (suc n) = spaced_are_few fuel (suc (suc n)) f (omega (arith, l)) (record {
      small = s.small;
      apart = λ x y m o. s.apart x y m (omega (arith, o));
      ends = λ x m q. let e = s.ends x (omega (arith, m)) q in let d : x ≢ n = λ i. (let y : f x ≡ f n = ap f i in omega (arith, y, q, z)) in omega (arith, e, d);
    }) in
    omega (arith, a, rest))
    (cases_lt 0 (f n))

-- ---- the linked cells are marked

-- so many places are marked, each a linked cell of at most this rank
record Marked (E : Era) (r : Ranks) (end n : ℕ) : Type 0 where
  marks : ℕ → ℕ
  small : (x : ℕ) → marks x ≤ 1
  ranked : (x : ℕ) → 0 < marks x → (0 < r.rank (E.start + x)) × (r.rank (E.start + x) ≤ n)
  sum : sum_below end marks ≡ n

-- a place of this rank
record HasPlace (r : Ranks) (n : ℕ) : Type 0 where
  place : ℕ
  ranked : r.rank place ≡ n

module _ (E : Era) (m : Memory) (weak turn : ℕ) (team : Team) (g : Ghost) (r : Ranks) (k : ℕ) (ready : Ready E m team g k) (chain : Chain E m weak turn team g r) (untraced : m.traced ≤ E.epoch) where
  linked : Linked E m weak g r
  linked = chain.linked untraced

  place_of : (d n : ℕ) → 0 < n → n + d ≡ r.length → HasPlace r n
  place_of zero n p e = ⊎_elim
      (λ (z : (weak ≡ 0) × (r.length ≡ 0)). absurd (omega (arith, z, p, e)))
      (λ (z : (a : ℕ) × (weak ≡ a + 1) × (0 < r.rank a) × (r.rank a ≡ r.length)). record { place = z.0; ranked = let f = z.3 in omega (arith, f, e) })
      linked.head
  place_of (suc d) n p e =
      let next = place_of d (n + 1) (omega arith) (omega (arith, e)) in
      ⊎_elim
      (λ (z : (m.heap (next.place + 2) ≡ 0) × (n ≡ 0)). absurd (omega (arith, z, p)))
      (λ (z : (a : ℕ) × (m.heap (next.place + 2) ≡ a + 1) × (0 < r.rank a) × (r.rank a ≡ n)). record { place = z.0; ranked = z.3 })
      (linked.link next.place n next.ranked)

  abbrev end : ℕ
  end = m.front - E.start

  marked : (n : ℕ) → n ≤ r.length → Marked E r end n
  marked zero l = record { marks = λ x. 0; small = λ x. omega arith; ranked = λ x p. absurd (omega (arith, p)); sum = sum_below-none end (λ x. 0) (λ x _. refl) }
  marked (suc n) l =
      let o = marked n (omega (arith, l)) in
      let at = place_of (r.length - suc n) (suc n) (omega arith) (omega (arith, l)) in
      let a : ℕ = at.place in
      let rank : r.rank a ≡ suc n = at.ranked in
      let i = (linked.ranked a (omega (arith, rank))).0.inside in
      let x : ℕ = a - E.start in
      let e : E.start + x ≡ a = omega (arith, i) in
      let none : o.marks x ≡ 0 = ⊎_elim
      (λ (p : 0 < o.marks x). absurd (let y = (o.ranked x p).1 in let z : r.rank (E.start + x) ≡ r.rank a = ap r.rank e in omega (arith, y, z, rank)))
      (λ (z : o.marks x ≤ 0). omega (arith, z))
      (cases_lt 0 (o.marks x)) in
      let same : put o.marks x 1 x ≡ 1 = put_same o.marks x 1 in
      let changed = sum_below-change end o.marks (put o.marks x 1) x (omega (arith, i)) (λ y _ d. sym (put_other o.marks x 1 y d)) in
      let total = o.sum in
      record {
        marks = put o.marks x 1;
        small = λ y. ⊎_elim (λ (f : y ≡ x). let z = put_at o.marks x 1 y f in omega (arith, z)) (λ (d : y ≢ x). rw (put_other o.marks x 1 y d) (o.small y)) (cases_eq y x);
        ranked = λ y p. ⊎_elim
            (λ (f : y ≡ x). let z : r.rank (E.start + y) ≡ suc n = ap r.rank (ap (λ u. E.start + u) f ∙ e) ∙ rank in (omega (arith, z), omega (arith, z)))
            (λ (d : y ≢ x). let z = o.ranked y (rw (put_other o.marks x 1 y d) at p) in (z.0, let q = z.1 in omega (arith, q)))
            (cases_eq y x);
        sum = omega (arith, changed, none, same, total);
      }

  -- ---- their words

  words : (x : ℕ) → 0 < r.rank (E.start + x) → (g.size (E.start + x) ≡ 3) × (E.start + x + 3 ≤ m.front)
  words x p =
      let c = (linked.ranked (E.start + x) p).0 in
      let z = chain.three (E.start + x) c.stands c.weak in
      let y = ready.invariant.laid.lies (E.start + x) c.stands in
      let o = ready.invariant.laid.order in
      let i = c.inside in
      let q = ready.laid_out.apart in
      (z, omega (arith, y, z, o, i, q))

  pub short : E.start + 3 * r.length ≤ m.front
  short =
      let o = marked r.length (omega arith) in
      let f = spaced_are_few end end o.marks (omega arith) (record {
        small = o.small;
        apart = λ x y l _ p q.
            let a = words x (o.ranked x p).0 in
            let s : 0 < g.size (E.start + x) = (let z = a.0 in omega (arith, z)) in
            let b = words y (o.ranked y q).0 in
            let t : 0 < g.size (E.start + y) = (let z = b.0 in omega (arith, z)) in
            let z = ready.invariant.laid.apart (E.start + x) (E.start + y) s t (omega (arith, l)) in
            let n = a.0 in
            omega (arith, z, n);
        ends = λ x _ p. let z = (words x (o.ranked x p).0).1 in omega (arith, z);
      }) in
      let total = o.sum in
      let order = ready.invariant.laid.order in
      omega (arith, f, total, order)

pub chain_is_short : ChainIsShort
chain_is_short E m weak turn team g r k ready untraced chain = short E m weak turn team g r k ready chain untraced
