-- What is still to be paid for a checkpoint in progress: when it falls, when it stays, and how much it is at most.
use Rattle.std.proofs.Common.{◌≡◌, ◌≢◌, ℕ, ◌+◌, ◌*◌, ◌<◌, ◌≤◌, Bool, true, false, refl, sym, ap, ◌∙◌, arith, ⊎_elim}
use Rattle.std.proofs.lemmas.Bool.{eq-eqb, ne_eqb, cases_eq, cases_lt, lt-ltb, le-ltb}
use Rattle.std.proofs.Math.Nat.{mul-le-mul_left}
use Rattle.space_map.specs.declared.save_word.SaveWord.{SaveWord}
use Rattle.space_map.specs.SaveWord.{number_of}
use Rattle.heap_state.specs.Functions.{put}
use Rattle.heap_state.specs.Saving.Words.{Saves}
use Rattle.heap_state.proofs.Puts.{put_at, put_other, sum_below-change}
use Rattle.lone_mutator.specs.Bound.{save_round_cost}
use Rattle.lone_mutator.specs.Saving.{is_unsaved, saving_in, saving_left, unsaved}
use Rattle.lone_mutator.proofs.Epochs.Cost.{sum_below-few, sum_below-le}

-- ---- a page

unsaved-few : (snap : ℕ) (w : SaveWord) → is_unsaved snap w ≤ 1
unsaved-few snap w = ⊎_elim
    (λ (below : number_of w < snap). rw (lt-ltb (number_of w) snap below) (omega arith))
    (λ (past : snap ≤ number_of w). rw (le-ltb (number_of w) snap past) (omega arith))
    (cases_lt (number_of w) snap)

unsaved-still : (snap : ℕ) (w : SaveWord) → number_of w < snap → is_unsaved snap w ≡ 1
unsaved-still snap w below = rw (lt-ltb (number_of w) snap below) refl

unsaved-not : (snap : ℕ) (w : SaveWord) → snap ≤ number_of w → is_unsaved snap w ≡ 0
unsaved-not snap w past = rw (le-ltb (number_of w) snap past) refl

-- ---- all pages

unsaved-le : (n : ℕ) (s : Saves) → unsaved n s ≤ 2 * n + 1
unfolding unsaved
unsaved-le n s = sum_below-few (2 * n + 1) (λ page. is_unsaved s.snap (s.save page)) (λ page l. unsaved-few s.snap (s.save page))

-- of a page it is said then that it is saved, or new, for the last checkpoint
module _ (n : ℕ) (s : Saves) (p : ℕ) (w : SaveWord) (last : s.snap ≤ number_of w) where
  abbrev after : Saves
  after = record s { save = put s.save p w }

  fewer : (q : ℕ) → is_unsaved s.snap (after.save q) ≤ is_unsaved s.snap (s.save q)
  fewer q = ⊎_elim
      (λ (same : q ≡ p). rw (put_at s.save p w q same, unsaved-not s.snap w last) (omega arith))
      (λ (other : q ≢ p). rw (put_other s.save p w q other) (omega arith))
      (cases_eq q p)

  unsaved-kept : unsaved n after ≤ unsaved n s
  unfolding unsaved
  unsaved-kept = sum_below-le (2 * n + 1) (λ q. is_unsaved s.snap (after.save q)) (λ q. is_unsaved s.snap (s.save q)) (λ q l. fewer q)

  -- it was said to be saved for none, or for an earlier one
  unsaved-saved : p ≤ 2 * n → number_of (s.save p) < s.snap → unsaved n after + 1 ≤ unsaved n s
  unfolding unsaved
  unsaved-saved inside earlier =
      let f : (ℕ → ℕ) = (λ (q : ℕ). is_unsaved s.snap (s.save q)) in
      let g : (ℕ → ℕ) = (λ (q : ℕ). is_unsaved s.snap (after.save q)) in
      let others : ((q : ℕ) → q < 2 * n + 1 → q ≢ p → f q ≡ g q) = (λ q l other. ap (is_unsaved s.snap) (sym (put_other s.save p w q other))) in
      let change = sum_below-change (2 * n + 1) f g p (omega (arith, inside)) others in
      let now : g p ≡ 0 = ap (is_unsaved s.snap) (put_at s.save p w p refl) ∙ unsaved-not s.snap w last in
      let before : f p ≡ 1 = unsaved-still s.snap (s.save p) earlier in
      omega (arith, change, now, before)

-- ---- what is still to be paid

pub saving_rests : (n : ℕ) (s : Saves) → s.done ≡ s.snap → saving_left n s ≡ 0
unfolding saving_left
saving_rests n s rests = rw (eq-eqb s.done s.snap rests) refl

pub saving_runs : (n : ℕ) (s : Saves) → s.done ≢ s.snap → saving_left n s ≡ save_round_cost n * (unsaved n s + 1)
unfolding saving_left
saving_runs n s runs = rw (ne_eqb s.done s.snap runs) refl

-- it is no more than for all pages
pub saving-le : (n : ℕ) (s : Saves) → saving_left n s ≤ save_round_cost n * (2 * n + 2)
saving-le n s = ⊎_elim
    (λ (rests : s.done ≡ s.snap). let none = saving_rests n s rests in omega (arith, none))
    (λ (runs : s.done ≢ s.snap).
    let is = saving_runs n s runs in
    let few = unsaved-le n s in
    let all : save_round_cost n * (unsaved n s + 1) ≤ save_round_cost n * (2 * n + 2) = mul-le-mul_left (save_round_cost n) (omega (arith, few)) in
    omega (arith, is, all))
    (cases_eq s.done s.snap)

pub saving_in-le : (checkpoints : Bool) (n : ℕ) (s : Saves) → saving_in checkpoints n s ≤ save_round_cost n * (2 * n + 2)
saving_in-le true n s = saving-le n s
saving_in-le false n s = omega arith

-- it is at least a save round
pub saving-some : (n : ℕ) (s : Saves) → s.done ≢ s.snap → save_round_cost n ≤ saving_left n s
saving-some n s runs = let is = saving_runs n s runs in omega (arith, is)

module _ (n : ℕ) (s : Saves) (p : ℕ) (w : SaveWord) (last : s.snap ≤ number_of w) where
  -- SAVE of a page says so: it doesn't rise
  pub saving_kept : saving_left n (record s { save = put s.save p w }) ≤ saving_left n s
  saving_kept = ⊎_elim
      (λ (rests : s.done ≡ s.snap). let now = saving_rests n (record s { save = put s.save p w }) rests in omega (arith, now))
      (λ (runs : s.done ≢ s.snap).
      let fewer = unsaved-kept n s p w last in
      let pays : save_round_cost n * (unsaved n (record s { save = put s.save p w }) + 1) ≤ save_round_cost n * (unsaved n s + 1) = mul-le-mul_left (save_round_cost n) (omega (arith, fewer)) in
      let before = saving_runs n s runs in
      let now = saving_runs n (record s { save = put s.save p w }) runs in
      omega (arith, pays, before, now))
      (cases_eq s.done s.snap)

  pub saving_in-kept : (checkpoints : Bool) → saving_in checkpoints n (record s { save = put s.save p w }) ≤ saving_in checkpoints n s
  saving_in-kept true = saving_kept
  saving_in-kept false = omega arith

  -- and where it didn't say so before, a save round is paid
  pub saving_saved : s.done ≢ s.snap → p ≤ 2 * n → number_of (s.save p) < s.snap → saving_left n (record s { save = put s.save p w }) + save_round_cost n ≤ saving_left n s
  saving_saved runs inside earlier =
      let fewer = unsaved-saved n s p w last inside earlier in
      let pays : save_round_cost n * (unsaved n (record s { save = put s.save p w }) + 1 + 1) ≤ save_round_cost n * (unsaved n s + 1) = mul-le-mul_left (save_round_cost n) (omega (arith, fewer)) in
      let before = saving_runs n s runs in
      let now = saving_runs n (record s { save = put s.save p w }) runs in
      omega (arith, pays, before, now)
