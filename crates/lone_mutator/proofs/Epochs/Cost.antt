-- What is still to be paid for an epoch's tracing: when it falls, and how much it is at most.
use Rattle.std.proofs.Common.{◌≡◌, ◌≢◌, ℕ, zero, suc, ◌+◌, ◌-◌, ◌*◌, ◌<◌, ◌≤◌, ◌⊎◌, inl, inr, refl, sym, ap, ◌∙◌, arith, ⊎_elim}
use Rattle.std.proofs.lemmas.Bool.{eq-eqb, ne_eqb, cases_eq}
use Rattle.std.proofs.Math.Nat.{mul-le-mul_left}
use Rattle.space_map.specs.declared.page_word.PageWord.{PageWord}
use Rattle.space_map.specs.declared.spaces.TheConstants.{PAGE_WORDS}
use Rattle.space_map.specs.PageWord.{age_of}
use Rattle.space_map.specs.Spaces.{board_page, to_space}
use Rattle.heap_state.specs.Functions.{put, sum_below}
use Rattle.heap_state.proofs.Puts.{put_at, put_other, sum_below-change}
use Rattle.lone_mutator.specs.Bound.{round_cost, page_cost, walk_cost, longest_tracing}
use Rattle.lone_mutator.specs.Tracing.{waits, unclaimed, walk_due, tracing_left, tracing_due}

-- ---- sums

-- a sum of smaller terms is smaller
pub sum_below-le : (n : ℕ) (f g : ℕ → ℕ) → ((x : ℕ) → x < n → f x ≤ g x) → sum_below n f ≤ sum_below n g
unfolding sum_below
sum_below-le zero f g each = omega arith
sum_below-le (suc n) f g each =
    let here : f n ≤ g n = each n (omega arith) in
    let below = sum_below-le n f g (λ x l. each x (omega arith)) in
    omega (arith, here, below)

-- and one of terms that are 1 at most is no more than their number
pub sum_below-few : (n : ℕ) (f : ℕ → ℕ) → ((x : ℕ) → x < n → f x ≤ 1) → sum_below n f ≤ n
unfolding sum_below
sum_below-few zero f each = omega arith
sum_below-few (suc n) f each =
    let here : f n ≤ 1 = each n (omega arith) in
    let below = sum_below-few n f (λ x l. each x (omega arith)) in
    omega (arith, here, below)

-- ---- a page

waits-le : (e : ℕ) (w : PageWord) → waits e w ≤ 1
waits-le e w = ⊎_elim
    (λ (s : age_of w ≡ e + 1). rw (eq-eqb (age_of w) (e + 1) s) (omega arith))
    (λ (d : age_of w ≢ e + 1). rw (ne_eqb (age_of w) (e + 1) d) (omega arith))
    (cases_eq (age_of w) (e + 1))

waits-not : (e : ℕ) (w : PageWord) → age_of w ≡ e + 1 → waits e w ≡ 0
waits-not e w s = rw (eq-eqb (age_of w) (e + 1) s) refl

waits-still : (e : ℕ) (w : PageWord) → age_of w ≢ e + 1 → waits e w ≡ 1
waits-still e w d = rw (ne_eqb (age_of w) (e + 1) d) refl

-- ---- the pages still to be claimed

unclaimed-le : (n e : ℕ) (page : ℕ → PageWord) → unclaimed n e page ≤ n + 1
unfolding unclaimed
unclaimed-le n e page =
    let board = waits-le e (page (board_page n)) in
    let rest = sum_below-few n (λ i. waits e (page (n * to_space e + i))) (λ i l. waits-le e (page (n * to_space e + i))) in
    omega (arith, board, rest)

-- the page is the board, or one of the epoch's space
abbrev pub IsToBeTraced : (n e p : ℕ) → Type 0
IsToBeTraced n e p = (p ≡ board_page n) ⊎ ((n * to_space e ≤ p) × (p < n * to_space e + n))

module _ (n e p : ℕ) (w : PageWord) (page : ℕ → PageWord) (new : age_of w ≡ e + 1) where
  abbrev after : ℕ → PageWord
  after = put page p w

  fewer : (q : ℕ) → waits e (after q) ≤ waits e (page q)
  fewer q = ⊎_elim
      (λ (s : q ≡ p). rw (put_at page p w q s, waits-not e w new) (omega arith))
      (λ (d : q ≢ p). rw (put_other page p w q d) (omega arith))
      (cases_eq q p)

  unclaimed-new : unclaimed n e after ≤ unclaimed n e page
  unfolding unclaimed
  unclaimed-new =
      let board = fewer (board_page n) in
      let rest = sum_below-le n (λ i. waits e (after (n * to_space e + i))) (λ i. waits e (page (n * to_space e + i))) (λ i l. fewer (n * to_space e + i)) in
      omega (arith, board, rest)

  module _ (old : age_of (page p) ≢ e + 1) where
    at_board : p ≡ board_page n → unclaimed n e after + 1 ≤ unclaimed n e page
    unfolding unclaimed
    at_board is =
        let now : waits e (after (board_page n)) ≡ 0 = ap (waits e) (put_at page p w (board_page n) (sym is)) ∙ waits-not e w new in
        let before : waits e (page (board_page n)) ≡ 1 = ap (λ q. waits e (page q)) (sym is) ∙ waits-still e (page p) old in
        let rest = sum_below-le n (λ i. waits e (after (n * to_space e + i))) (λ i. waits e (page (n * to_space e + i))) (λ i l. fewer (n * to_space e + i)) in
        omega (arith, now, before, rest)

    in_space : n * to_space e ≤ p → p < n * to_space e + n → unclaimed n e after + 1 ≤ unclaimed n e page
    unfolding unclaimed
    in_space low high =
        let i : ℕ = p - n * to_space e in
        let is : n * to_space e + i ≡ p = omega arith in
        let f : (ℕ → ℕ) = (λ (j : ℕ). waits e (page (n * to_space e + j))) in
        let g : (ℕ → ℕ) = (λ (j : ℕ). waits e (after (n * to_space e + j))) in
        let others : ((j : ℕ) → j < n → j ≢ i → f j ≡ g j) =
        (λ j l d. sym (ap (waits e) (put_other page p w (n * to_space e + j) (λ (s : n * to_space e + j ≡ p). d (omega (arith, s, is)))))) in
        let change = sum_below-change n f g i (omega (arith, low, high)) others in
        let now : g i ≡ 0 = ap (waits e) (put_at page p w (n * to_space e + i) is) ∙ waits-not e w new in
        let before : f i ≡ 1 = ap (λ q. waits e (page q)) is ∙ waits-still e (page p) old in
        let board = fewer (board_page n) in
        omega (arith, change, now, before, board)

    unclaimed-claimed : IsToBeTraced n e p → unclaimed n e after + 1 ≤ unclaimed n e page
    unclaimed-claimed (inl is) = at_board is
    unclaimed-claimed (inr is) = in_space is.0 is.1

-- ---- the walk

walk_due-taken : (n e turn : ℕ) → turn ≡ e + 1 → walk_due n e turn ≡ 0
unfolding walk_due
walk_due-taken n e turn is = rw (eq-eqb turn (e + 1) is) refl

walk_due-free : (n e turn : ℕ) → turn ≢ e + 1 → walk_due n e turn ≡ walk_cost n
unfolding walk_due
walk_due-free n e turn other = rw (ne_eqb turn (e + 1) other) refl

walk_due-le : (n e turn : ℕ) → walk_due n e turn ≤ walk_cost n
walk_due-le n e turn = ⊎_elim
    (λ (is : turn ≡ e + 1). let none = walk_due-taken n e turn is in omega (arith, none))
    (λ (other : turn ≢ e + 1). let all = walk_due-free n e turn other in omega (arith, all))
    (cases_eq turn (e + 1))

-- ---- what is still to be paid

module _ (n e traced turn owed : ℕ) (page : ℕ → PageWord) where
  pub left_traced : traced ≡ e + 1 → tracing_left n e traced turn owed page ≡ 0
  unfolding tracing_left
  left_traced is = rw (eq-eqb traced (e + 1) is) refl

  pub due_traced : traced ≡ e + 1 → tracing_due n e traced turn owed page ≡ 0
  unfolding tracing_due
  due_traced is = rw (eq-eqb traced (e + 1) is) refl

  left_untraced : traced ≢ e + 1 → tracing_left n e traced turn owed page ≡ page_cost n * unclaimed n e page + 5 * owed + walk_due n e turn
  unfolding tracing_left
  left_untraced other = rw (ne_eqb traced (e + 1) other) refl

  pub due_still : traced ≢ e + 1 → tracing_due n e traced turn owed page ≡ page_cost n * unclaimed n e page + 5 * owed + walk_due n e turn + round_cost n
  unfolding tracing_due
  due_still other = rw (ne_eqb traced (e + 1) other) refl

  -- a round is paid for where the epoch isn't traced
  pub due_untraced : traced ≢ e + 1 → tracing_due n e traced turn owed page ≡ tracing_left n e traced turn owed page + round_cost n
  due_untraced other = rw (left_untraced other, due_still other) refl

  pub due_le_left : tracing_due n e traced turn owed page ≤ tracing_left n e traced turn owed page + round_cost n
  due_le_left = ⊎_elim
      (λ (is : traced ≡ e + 1). rw (due_traced is) (omega arith))
      (λ (other : traced ≢ e + 1). rw (due_untraced other) (omega arith))
      (cases_eq traced (e + 1))

  -- it is no more than the tracing of a whole space
  pub due_le_longest : owed ≤ PAGE_WORDS * n → tracing_due n e traced turn owed page ≤ longest_tracing n
  unfolding longest_tracing
  due_le_longest few = ⊎_elim
      (λ (is : traced ≡ e + 1). rw (due_traced is) (omega arith))
      (λ (other : traced ≢ e + 1). rw (due_still other)
      (let pages : page_cost n * unclaimed n e page ≤ page_cost n * (n + 1) = mul-le-mul_left (page_cost n) (unclaimed-le n e page) in
      let walk = walk_due-le n e turn in
      omega (arith, pages, few, walk)))
      (cases_eq traced (e + 1))

  -- ---- when it falls

  -- the turn is taken: the walk is paid
  pub left_turned : traced ≢ e + 1 → turn ≢ e + 1 → tracing_left n e traced (e + 1) owed page + walk_cost n ≡ tracing_left n e traced turn owed page
  unfolding tracing_left
  left_turned other free =
      let none = walk_due-taken n e (e + 1) refl in
      let all = walk_due-free n e turn free in
      rw (ne_eqb traced (e + 1) other) (omega (arith, none, all))

  -- a copy's room is reserved: five steps for each of its words are paid
  pub left_reserved : (z : ℕ) → traced ≢ e + 1 → z ≤ owed → tracing_left n e traced turn (owed - z) page + 5 * z ≡ tracing_left n e traced turn owed page
  unfolding tracing_left
  left_reserved z other few = rw (ne_eqb traced (e + 1) other) (omega (arith, few))

module _ (n e traced turn owed : ℕ) (page : ℕ → PageWord) (p : ℕ) (w : PageWord) (new : age_of w ≡ e + 1) where
  -- a page is claimed: its scan and the next round are paid
  pub left_claimed : traced ≢ e + 1 → IsToBeTraced n e p → age_of (page p) ≢ e + 1
      → tracing_left n e traced turn owed (put page p w) + page_cost n ≤ tracing_left n e traced turn owed page
  left_claimed other is old =
      let one = unclaimed-claimed n e p w page new old is in
      let pages : page_cost n * (unclaimed n e (put page p w) + 1) ≤ page_cost n * unclaimed n e page = mul-le-mul_left (page_cost n) one in
      let before = left_untraced n e traced turn owed page other in
      let now = left_untraced n e traced turn owed (put page p w) other in
      omega (arith, pages, before, now)

  -- a page that is opened is one less to be claimed, or was claimed before
  pub left_opened : tracing_left n e traced turn owed (put page p w) ≤ tracing_left n e traced turn owed page
  left_opened = ⊎_elim
      (λ (is : traced ≡ e + 1). let now = left_traced n e traced turn owed (put page p w) is in omega (arith, now))
      (λ (other : traced ≢ e + 1).
      let pages : page_cost n * unclaimed n e (put page p w) ≤ page_cost n * unclaimed n e page = mul-le-mul_left (page_cost n) (unclaimed-new n e p w page new) in
      let before = left_untraced n e traced turn owed page other in
      let now = left_untraced n e traced turn owed (put page p w) other in
      omega (arith, pages, before, now))
      (cases_eq traced (e + 1))

  pub due_opened : tracing_due n e traced turn owed (put page p w) ≤ tracing_due n e traced turn owed page
  due_opened = ⊎_elim
      (λ (is : traced ≡ e + 1). let now = due_traced n e traced turn owed (put page p w) is in omega (arith, now))
      (λ (other : traced ≢ e + 1).
      let before = due_untraced n e traced turn owed page other in
      let now = due_untraced n e traced turn owed (put page p w) other in
      let fewer = left_opened in
      omega (arith, before, now, fewer))
      (cases_eq traced (e + 1))
