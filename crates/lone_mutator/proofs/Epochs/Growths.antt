-- How often a space may still grow: each time that it doubles, once less.
use Rattle.std.proofs.Common.{◌≡◌, ℕ, ◌+◌, ◌-◌, ◌*◌, ◌^◌, ◌<◌, ◌≤◌, true, false, min, nat_lt, refl, sym, ap, ◌∙◌, arith, ⊎_elim}
use Rattle.std.proofs.lemmas.Bool.{cases_Bool, cases_lt, lt-ltb, le-ltb}
use Rattle.std.proofs.Math.Nat.{mul-le-mul_left, mul-le-mul_right}
use Rattle.space_map.specs.declared.spaces.TheConstants.{MOST_PAGES}
use Rattle.heap_state.specs.Functions.{sum_below}
use Rattle.lone_mutator.specs.Bound.{flip_cost, flips_cost, grows, growths, most_flips}
use Rattle.lone_mutator.proofs.Epochs.Cost.{sum_below-few, sum_below-le}

-- ---- once

grows-few : (n p : ℕ) → grows n p ≤ 1
grows-few n p = ⊎_elim
    (λ (e : nat_lt p n ≡ true). rw e (omega arith))
    (λ (e : nat_lt p n ≡ false). rw e (omega arith))
    (cases_Bool (nat_lt p n))

grows-below : (n p : ℕ) → p < n → grows n p ≡ 1
grows-below n p below = rw (lt-ltb p n below) refl

grows-full : (n p : ℕ) → n ≤ p → grows n p ≡ 0
grows-full n p full = rw (le-ltb p n full) refl

-- a larger space grows no more often
grows-le : (n p q : ℕ) → p ≤ q → grows n q ≤ grows n p
grows-le n p q larger = ⊎_elim
    (λ (below : p < n). let few = grows-few n q in let one = grows-below n p below in omega (arith, few, one))
    (λ (full : n ≤ p). let none = grows-full n q (omega (arith, full, larger)) in omega (arith, none))
    (cases_lt p n)

-- ---- in all

pub growths-few : (n p : ℕ) → growths n p ≤ 9
unfolding growths
growths-few n p = sum_below-few 9 (λ i. grows n (p * 2 ^ i)) (λ i l. grows-few n (p * 2 ^ i))

-- the nine terms
nine : (n p : ℕ) → growths n p ≡ grows n (p * 256) + (grows n (p * 128) + (grows n (p * 64) + (grows n (p * 32) + (grows n (p * 16) + (grows n (p * 8) + (grows n (p * 4) + (grows n (p * 2) + (grows n (p * 1) + 0))))))))
unfolding growths sum_below
nine n p = refl

pub growths-le : (n p q : ℕ) → p ≤ q → growths n q ≤ growths n p
unfolding growths
growths-le n p q larger =
    sum_below-le 9 (λ i. grows n (q * 2 ^ i)) (λ i. grows n (p * 2 ^ i)) (λ i l. grows-le n (p * 2 ^ i) (q * 2 ^ i) (mul-le-mul_right (2 ^ i) larger))

-- if all pages are in use there is none
growths-full : (n p : ℕ) → n ≤ p → growths n p ≡ 0
growths-full n p full =
    let all = nine n p in
    let a = grows-full n (p * 1) (omega (arith, full)) in
    let b = grows-full n (p * 2) (omega (arith, full)) in
    let c = grows-full n (p * 4) (omega (arith, full)) in
    let d = grows-full n (p * 8) (omega (arith, full)) in
    let e = grows-full n (p * 16) (omega (arith, full)) in
    let f = grows-full n (p * 32) (omega (arith, full)) in
    let g = grows-full n (p * 64) (omega (arith, full)) in
    let h = grows-full n (p * 128) (omega (arith, full)) in
    let i = grows-full n (p * 256) (omega (arith, full)) in
    omega (arith, all, a, b, c, d, e, f, g, h, i)

-- and else there is at least one
pub growths-below : (n p : ℕ) → p < n → 1 ≤ growths n p
growths-below n p below =
    let all = nine n p in
    let one = grows-below n (p * 1) (omega (arith, below)) in
    omega (arith, all, one)

-- ---- when it doubles

twice : (n p k m : ℕ) → 2 * p * k ≡ p * m → grows n (2 * p * k) ≡ grows n (p * m)
twice n p k m same = ap (grows n) same

doubled : (n p : ℕ) → 4 ≤ p → n ≤ MOST_PAGES → p < n → growths n (2 * p) + 1 ≡ growths n p
doubled n p least most below =
    let before = nine n p in
    let now = nine n (2 * p) in
    let one = grows-below n (p * 1) (omega (arith, below)) in
    let none = grows-full n (2 * p * 256) (omega (arith, least, most)) in
    let a = twice n p 1 2 (omega arith) in
    let b = twice n p 2 4 (omega arith) in
    let c = twice n p 4 8 (omega arith) in
    let d = twice n p 8 16 (omega arith) in
    let e = twice n p 16 32 (omega arith) in
    let f = twice n p 32 64 (omega arith) in
    let g = twice n p 64 128 (omega arith) in
    let h = twice n p 128 256 (omega arith) in
    omega (arith, before, now, one, none, a, b, c, d, e, f, g, h)

-- as far as there are so many pages
module _ (n p : ℕ) (least : 4 ≤ p) (most : n ≤ MOST_PAGES) (below : p < n) where
  whole : 2 * p < n → growths n (min n (2 * p)) + 1 ≤ growths n p
  whole room =
      let is : min n (2 * p) ≡ 2 * p = omega (arith, room) in
      let once = doubled n p least most below in
      rw is (omega (arith, once))

  part : n ≤ 2 * p → growths n (min n (2 * p)) + 1 ≤ growths n p
  part room =
      let is : min n (2 * p) ≡ n = omega (arith, room) in
      let none = growths-full n n (omega arith) in
      let some = growths-below n p below in
      rw is (omega (arith, none, some))

  grown : growths n (min n (2 * p)) + 1 ≤ growths n p
  grown = ⊎_elim whole part (cases_lt (2 * p) n)

-- it may then do so once less, if it could
pub growths-once : (n p : ℕ) → 4 ≤ p → n ≤ MOST_PAGES → growths n (min n (2 * p)) ≤ growths n p - 1
growths-once n p least most = ⊎_elim
    (λ (below : p < n). let once = grown n p least most below in omega (arith, once))
    (λ (full : n ≤ p). let none = growths-full n (min n (2 * p)) (omega (arith, full)) in omega (arith, none))
    (cases_lt p n)

-- ---- what they cost

flips_cost-more : (n k : ℕ) → flips_cost n (k + 1) ≡ flips_cost n k + flip_cost n
unfolding flips_cost
flips_cost-more n k = omega arith

pub flips_cost-less : (n k : ℕ) → 1 ≤ k → flips_cost n k ≡ flips_cost n (k - 1) + flip_cost n
flips_cost-less n k some =
    let is : k - 1 + 1 ≡ k = omega (arith, some) in
    ap (flips_cost n) (sym is) ∙ flips_cost-more n (k - 1)

pub flips_cost-most : (n : ℕ) → flips_cost n most_flips ≡ most_flips * flip_cost n
unfolding flips_cost
flips_cost-most n = omega arith

pub flips_cost-le : (n k j : ℕ) → k ≤ j → flips_cost n k ≤ flips_cost n j
unfolding flips_cost
flips_cost-le n k j fewer = mul-le-mul_left (flip_cost n) fewer
