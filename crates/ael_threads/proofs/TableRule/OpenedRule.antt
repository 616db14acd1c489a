-- The rule at the opening.
use Rattle.std.proofs.Common.{◌≡◌, ◌≢◌, ℕ, zero, suc, ◌+◌, ◌<◌, ◌≤◌, Bool, true, false, nat_lt, List, [], ◌∷◌, map, length, refl, sym, ◌∙◌, ap, subst, arith}
use mathlib.Core.Option.{some, some-injective, some-ne-none}
use lib.ListN.{get_elem?}
use Rattle.atomic_table.specs.Table as table
use Rattle.space_map.specs.declared.spaces.TheConstants.{FEWEST_PAGES, MOST_MUTATORS, MOST_SCANNERS}
use Rattle.space_map.specs.Spaces.{Layout, IsPageCount}
use Rattle.gc_worker.specs.Laws.Between.{fresh_mutator, fresh_scanner, fresh_worker, fresh_workers, opening_words}
use Rattle.gc_worker.specs.Laws.Cycles.{IsInCall}
use Rattle.gc_worker.specs.Workers.Held.{Held}
use Rattle.gc_worker.specs.Steps.Stepped.{uncounted}
use Rattle.gc_worker.proofs.Between.Last.{scanners_begin_last}
use Rattle.gc_worker.proofs.StoriesKeep.{stories_open}
use Rattle.std.specs.Prelude.{if◌then◌else◌}
use Rattle.ael_threads.specs.declared.view.Hand.{Hand}
use Rattle.ael_threads.specs.declared.view.Plan.{Plan}
use Rattle.ael_threads.specs.declared.view.View.{View}
use Rattle.ael_threads.specs.Histories.{Each, IsOnce, first_held, first_plain, hand, new_hands, hand_number}
use Rattle.ael_threads.specs.Rule.{FitsView, HasHand, RuleHolds, StandsAs, crew, first_view}
use Rattle.ael_threads.proofs.Lists.Elements.{not_empty, prefix_self}
use Rattle.gc_worker.proofs.History.Counted.OpeningTallies.{opening_tallied}

abbrev pub first_words : Plan → List ℕ
first_words plan = opening_words plan.spaces plan.least

-- ---- the workers

-- as they stand in the list
abbrev first_workers : Plan → List Held
first_workers plan = fresh_workers plan.prints plan.spaces plan.mutators 0 (crew plan)

module _ (prints : Bool) (s : Layout) (mutators : ℕ) where
  count_is : (from count : ℕ) → length (fresh_workers prints s mutators from count) ≡ count
  unfolding fresh_workers
  count_is from zero = refl
  count_is from (suc count) = ap suc (count_is (from + 1) count)

  pub worker_at : (from count k : ℕ) → k < count → get_elem? (fresh_workers prints s mutators from count) k ≡ some (fresh_worker prints s mutators (from + k))
  unfolding fresh_workers
  worker_at from zero k l = absurd (omega arith)
  worker_at from (suc count) zero l = ap (λ (j : ℕ). some (fresh_worker prints s mutators j)) (let e : from ≡ from + 0 = omega arith in e)
  worker_at from (suc count) (suc k) l = worker_at (from + 1) count k (omega arith) ∙ ap (λ (j : ℕ). some (fresh_worker prints s mutators j)) (let e : from + 1 + k ≡ from + suc k = omega arith in e)

  -- it has counted nothing
  pub uncounted_first : (k : ℕ) → uncounted (fresh_worker prints s mutators k) ≡ fresh_worker prints s mutators k
  uncounted_first k = by_side (nat_lt k mutators)
    where
      by_side : (b : Bool) → uncounted (if b then fresh_mutator prints s mutators k else fresh_scanner prints s mutators k) ≡ (if b then fresh_mutator prints s mutators k else fresh_scanner prints s mutators k)
      by_side true = refl
      by_side false = refl

-- a fact of each new worker
each_new : (plan : Plan) (P : Hand → Type 0) (from count : ℕ) → ((k : ℕ) → k < count → P (hand (from + k) (first_held plan (from + k)) [])) → Each P (new_hands plan from count)
each_new plan P from zero h = tt
each_new plan P from (suc count) h = let e : from + 0 ≡ from = omega arith in (
  subst (λ (j : ℕ). P (hand j (first_held plan j) [])) e (h 0 (omega arith)),
  each_new plan P (from + 1) count (λ k less. let f : from + suc k ≡ from + 1 + k = omega arith in subst (λ (j : ℕ). P (hand j (first_held plan j) [])) f (h (suc k) (omega arith))),
)

later : (plan : Plan) (a from count : ℕ) → a < from → Each (λ d. d ≢ a) (map hand_number (new_hands plan from count))
later plan a from zero h = tt
later plan a from (suc count) h = ((λ e. omega arith), later plan a (from + 1) count (omega arith))

apart : (plan : Plan) (from count : ℕ) → IsOnce (map hand_number (new_hands plan from count))
apart plan from zero = tt
apart plan from (suc count) = (later plan from (from + 1) count (omega arith), apart plan (from + 1) count)

-- no new worker is in a call
new_looks : (prints : Bool) (s : Layout) (mutators k : ℕ) → IsInCall (fresh_worker prints s mutators k).stage → ⊥
new_looks prints s mutators k = by_side (nat_lt k mutators)
  where
    by_side : (b : Bool) → IsInCall (if b then fresh_mutator prints s mutators k else fresh_scanner prints s mutators k).stage → ⊥
    by_side true call = call
    by_side false call = call

fresh_looks : (prints : Bool) (s : Layout) (mutators from count m : ℕ) (x : Held) → get_elem? (fresh_workers prints s mutators from count) m ≡ some x → IsInCall x.stage → ⊥
unfolding fresh_workers
fresh_looks prints s mutators from zero m x is call = absurd (some-ne-none x (sym is))
fresh_looks prints s mutators from (suc count) zero x is call = new_looks prints s mutators from (subst (λ (y : Held). IsInCall y.stage) (sym (some-injective (fresh_worker prints s mutators from) x is)) call)
fresh_looks prints s mutators from (suc count) (suc m) x is call = fresh_looks prints s mutators (from + 1) count m x is call

pub opens_kept : (plan : Plan) → IsPageCount plan.spaces.pages → FEWEST_PAGES ≤ plan.least → plan.least ≤ plan.spaces.pages → plan.mutators ≤ MOST_MUTATORS → crew plan ≤ MOST_MUTATORS + MOST_SCANNERS → RuleHolds plan (table.opening {S = ℕ} (first_words plan) [] (first_view plan))
opens_kept plan size fewest most few all = record {
  log = [];
  workers = first_workers plan;
  count = count_is plan.prints plan.spaces plan.mutators 0 (crew plan);
  owner = λ n. 0;
  winner = λ c. 0;
  legal = tt;
  story = stories_open plan.prints plan.spaces plan.least plan.mutators plan.scanners size fewest most few all;
  last = scanners_begin_last plan.prints plan.spaces plan.least plan.mutators plan.scanners;
  tallied = opening_tallied plan.prints plan.spaces plan.least plan.mutators plan.scanners size fewest most few all (first_plain plan);
  begun = λ m x is call. absurd (fresh_looks plan.prints plan.spaces plan.mutators 0 (crew plan) m x is call);
  flipped = λ m front rest task asked room live is. absurd (not_empty front rest _ is);
  seats = λ id v at. one id v at;
}
  where
    state : (k : ℕ) → k < crew plan → StandsAs (first_workers plan) (0 + k) (first_held plan (0 + k))
    state k less = record {
      held = first_held plan (0 + k);
      is = (let e : 0 + k ≡ k = omega arith in ap (get_elem? (first_workers plan)) e ∙ worker_at plan.prints plan.spaces plan.mutators 0 (crew plan) k less);
      shown = uncounted_first plan.prints plan.spaces plan.mutators (0 + k);
    }

    first_fits : FitsView plan (first_words plan) (first_workers plan) [] (λ n. 0) (λ c. 0) 0 (first_view plan)
    first_fits = record {
      same = λ h. refl;
      seen = prefix_self [];
      heard = prefix_self [];
      hands = each_new plan (HasHand (first_workers plan) [] (λ n. 0) 0) 0 (crew plan) (λ k less. record { owns = refl; state = state k less; calls = refl });
      apart = apart plan 0 (crew plan);
      claims = tt;
      once = tt;
    }

    one : (id : ℕ) (v : View) → get_elem? (first_view plan ∷ []) id ≡ some v → FitsView plan (first_words plan) (first_workers plan) [] (λ n. 0) (λ c. 0) id v
    one zero v at = subst (FitsView plan (first_words plan) (first_workers plan) [] (λ n. 0) (λ c. 0) 0) (some-injective (first_view plan) v at) first_fits
    one (suc id) v at = absurd (some-ne-none v (sym at))
