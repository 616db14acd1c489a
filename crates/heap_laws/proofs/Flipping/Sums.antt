-- Sums over workers, and over the records of a space.
use Rattle.std.proofs.Common.{◌≡◌, ◌≢◌, ℕ, zero, suc, ◌+◌, ◌-◌, ◌<◌, ◌≤◌, Bool, true, false, refl, sym, arith, ⊎_elim, ◌⊎◌, inl, inr}
use Rattle.std.proofs.lemmas.Bool.{cases_eq, cases_lt, lt-ltb, le-ltb, lt-leb, le-leb}
use Rattle.heap_state.specs.Functions.{put, sum_below, count_one}
use Rattle.heap_state.specs.Invariant.Parts.Copies.{owing}
use Rattle.heap_state.proofs.Puts.{put_at, put_other, sum_below-same, sum_below-none, sum_below-change}
use Rattle.heap_state.proofs.Walks.Walking.{sum_below-from}
use Rattle.heap_laws.specs.Flipping.Flip.{only_in}

-- ---- terms

pub sum_below-term : (n : ℕ) (f : ℕ → ℕ) (x : ℕ) → x < n → f x ≤ sum_below n f
unfolding sum_below
sum_below-term zero f x l = absurd (omega arith)
sum_below-term (suc n) f x l = ⊎_elim (λ (e : x ≡ n). rw e (omega arith)) (λ (d : x ≢ n). let q = sum_below-term n f x (omega arith) in omega (arith, q)) (cases_eq x n)

pub sum_below-two : (n : ℕ) (f : ℕ → ℕ) (x y : ℕ) → x < n → y < n → x ≢ y → f x + f y ≤ sum_below n f
sum_below-two n f x y l m d =
    let c = sum_below-change n f (put f x 0) x l (λ z k e. sym (put_other f x 0 z e)) in
    let s = put_at f x 0 x refl in
    let o : put f x 0 y ≡ f y = put_other f x 0 y (λ e. d (sym e)) in
    let t = sum_below-term n (put f x 0) y m in
    omega (arith, c, s, o, t)

pub one_of : (b : Bool) → b ≡ true → count_one b ≡ 1
one_of b e = rw e refl

pub at_most_one : (b : Bool) → count_one b ≤ 1
at_most_one true = omega arith
at_most_one false = omega arith

-- ---- records

-- records that begin in the n words from `start` on and end within m words take at most m words
packed : (size : ℕ → ℕ) (start n m : ℕ) → ((a b : ℕ) → 0 < size a → 0 < size b → a < b → a + size a ≤ b) → n ≤ m → ((x : ℕ) → x < n → 0 < size (start + x) → x + size (start + x) ≤ m) → sum_below n (λ x. size (start + x)) ≤ m
unfolding sum_below
packed size start zero m apart l h = omega arith
packed size start (suc n) m apart l h = ⊎_elim
    (λ (p : 0 < size (start + n)).
    let i : sum_below n (λ x. size (start + x)) ≤ n = packed size start n n apart (omega arith) (λ x y q. let r = apart (start + x) (start + n) q p (omega arith) in omega arith) in
    let j : n + size (start + n) ≤ m = h n (omega arith) p in omega arith)
    (λ (p : size (start + n) ≤ 0).
    let i : sum_below n (λ x. size (start + x)) ≤ m = packed size start n m apart (omega arith) (λ x y q. h x (omega arith) q) in omega arith)
    (cases_lt 0 (size (start + n)))

-- the records of a space take at most the words that aren't free
pub space_total : (size : ℕ → ℕ) (start span front low : ℕ) → ((a b : ℕ) → 0 < size a → 0 < size b → a < b → a + size a ≤ b) → start ≤ front → front ≤ low → low ≤ start + span
    → ((a : ℕ) → 0 < size a → start ≤ a → a < start + span → (a + size a ≤ front) ⊎ ((low ≤ a) × (a + size a ≤ start + span)))
    → sum_below span (λ x. size (start + x)) ≤ span - (low - front)
space_total size start span front low apart o1 o2 o3 lies =
    let a = packed size start (front - start) (front - start) apart (omega arith) (λ x l p. let q = lies (start + x) p (omega arith) (omega arith) in omega arith) in
    let b = sum_below-none (low - front) (λ x. size (front + x)) (λ x l. ⊎_elim (λ (p : 0 < size (front + x)). absurd (let q = lies (front + x) p (omega arith) (omega arith) in omega arith)) (λ (p : size (front + x) ≤ 0). let z : size (front + x) ≡ 0 = omega arith in z) (cases_lt 0 (size (front + x)))) in
    let c = packed size low (start + span - low) (start + span - low) apart (omega arith) (λ x l p. let q = lies (low + x) p (omega arith) (omega arith) in omega arith) in
    let e1 = sum_below-from (front - start) (span - (front - start)) (λ x. size (start + x)) in
    let e2 = sum_below-from (low - front) (start + span - low) (λ x. size (front + x)) in
    let m1 : span - (front - start) + (front - start) ≡ span = omega arith in
    let m2 : start + span - low + (low - front) ≡ span - (front - start) = omega arith in
    let s1 = sum_below-same (span - (front - start)) (λ x. size (start + (front - start + x))) (λ x. size (front + x)) (λ x l. let q : start + (front - start + x) ≡ front + x = omega arith in rw q) in
    let s2 = sum_below-same (start + span - low) (λ x. size (front + (low - front + x))) (λ x. size (low + x)) (λ x l. let q : front + (low - front + x) ≡ low + x = omega arith in rw q) in
    omega (arith, a, b, c, rw m1 at e1, rw m2 at e2, s1, s2)

-- ---- the records of one space alone

pub only_cases : (start span : ℕ) (size : ℕ → ℕ) (a : ℕ) → ((start ≤ a) × (a < start + span) × (only_in start span size a ≡ size a)) ⊎ ((only_in start span size a ≡ 0) × (start ≤ a → a < start + span → ⊥))
only_cases start span size a = ⊎_elim
    (λ (l : a < start). inr (rw (lt-leb start a l), λ p q. omega arith))
    (λ (l : start ≤ a). ⊎_elim
    (λ (b : a < start + span). inl (l, b, rw (le-leb start a l, lt-ltb a (start + span) b)))
    (λ (b : start + span ≤ a). inr (rw (le-leb start a l, le-ltb a (start + span) b), λ p q. omega arith))
    (cases_lt a (start + span)))
    (cases_lt a start)

pub stood : (start span : ℕ) (size : ℕ → ℕ) (a : ℕ) → 0 < only_in start span size a → (0 < size a) × (start ≤ a) × (a < start + span) × (only_in start span size a ≡ size a)
stood start span size a st = ⊎_elim (λ c. (omega (arith, c.2), c.0, c.1, c.2)) (λ n. absurd (omega (arith, n.0))) (only_cases start span size a)

pub inside : (start span : ℕ) (size : ℕ → ℕ) (a : ℕ) → start ≤ a → a < start + span → only_in start span size a ≡ size a
inside start span size a l m = ⊎_elim (λ c. c.2) (λ n. absurd (n.1 l m)) (only_cases start span size a)

-- none of them has a copy, so all that they take is owed
pub owing_only : (start span : ℕ) (size : ℕ → ℕ) → sum_below span (λ x. owing (only_in start span size) (λ a. 0) (start + x)) ≡ sum_below span (λ x. size (start + x))
owing_only start span size = sum_below-same _ _ _ (λ x l. inside start span size (start + x) (omega arith) (omega arith))
