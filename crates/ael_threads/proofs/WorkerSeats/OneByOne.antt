-- The seats of a heap's workers, made one by one.
use Rattle.std.proofs.Common.{◌≡◌, ℕ, ◌+◌, ◌-◌, ◌<◌, ◌≤◌, List, [], ◌∷◌, ◌++◌, sym, ◌∙◌, ap, subst, arith, add-one, lt-ltb}
use Rattle.std.proofs.lemmas.Bool.{le-ltb}
use Rattle.atomic_table.specs.Seated.{TableId}
use Rattle.gc_worker.specs.Laws.Between.{fresh_mutator, fresh_scanner}
use Rattle.gc_worker.specs.Workers.Held.{Held}
use Rattle.ael_threads.specs.declared.view.Plan.{Plan}
use Rattle.ael_threads.specs.Histories.{first_held, new_hands}
use Rattle.ael_threads.specs.Opened.{new_scanners}
use Rattle.ael_threads.specs.Readers.{SeatedScanner}
use Rattle.ael_threads.specs.Rule.{crew, first_view, view}
use Rattle.ael_threads.specs.Seats.{Me, Seated, new_callers, new_seated}

-- what the first seat knows when it has the workers from this one on
abbrev HasFrom : Plan → Me → ℕ → Type 0
HasFrom plan me k = me ≡ (view plan (new_hands plan k (crew plan - k)) [] [] [], [])

module _ (plan : Plan) (me : Me) where
  -- all of them
  pub has_all : me ≡ (first_view plan, []) → HasFrom plan me 0
  has_all all = subst (λ (n : ℕ). me ≡ (view plan (new_hands plan 0 n) [] [] [], [])) (omega arith) all

  -- the scanners, once each mutator has its seat
  pub has_scanners : (k : ℕ) → plan.mutators ≤ k → k ≤ plan.mutators → HasFrom plan me k → HasFrom plan me (plan.mutators + 0)
  has_scanners k past upto h = subst (HasFrom plan me) (omega (arith, past, upto)) h

  -- one scanner fewer
  pub has_fewer : (k : ℕ) → HasFrom plan me (plan.mutators + k + 1) → HasFrom plan me (plan.mutators + (k + 1))
  has_fewer k h = subst (HasFrom plan me) (omega arith) h

-- what a worker holds as it gets its seat
pub held_mutator : (plan : Plan) (k : ℕ) (x : Held) → k < plan.mutators → x ≡ fresh_mutator plan.prints plan.spaces plan.mutators k → x ≡ first_held plan k
held_mutator plan k x below is = rw (lt-ltb k plan.mutators below) is

pub held_scanner : (plan : Plan) (k : ℕ) (x : Held) → plan.mutators ≤ k → x ≡ fresh_scanner plan.prints plan.spaces plan.mutators k → x ≡ first_held plan k
held_scanner plan k x past is = rw (le-ltb k plan.mutators past) is

module _ (t : TableId) (plan : Plan) where
  -- its number is one of a mutator
  pub is_mutator : (k : ℕ) (s : Seated) → k < plan.mutators → s ≡ new_seated t plan k → s.worker.number < s.worker.mutators
  is_mutator k s below is = subst (λ (z : Seated). z.worker.number < z.worker.mutators) (sym is) (rw (lt-ltb k plan.mutators below) below)

  -- one mutator more
  pub mutators_more : (k : ℕ) (made later : List Seated) (s : Seated) → made ≡ new_callers t plan 0 k → s ≡ new_seated t plan k → later ≡ made ++ s ∷ [] → later ≡ new_callers t plan 0 (k + 1)
  mutators_more k made later s so_far is grown =
      let here : k ≡ 0 + k = omega arith in
      rw (add-one k) (grown ∙ (λ i. so_far i ++ (is ∙ ap (new_seated t plan) here) i ∷ []))

  -- once there are as many as the plan has
  pub mutators_all : (k : ℕ) (made : List Seated) → plan.mutators ≤ k → k ≤ plan.mutators → made ≡ new_callers t plan 0 k → made ≡ new_callers t plan 0 plan.mutators
  mutators_all k made past upto so_far = let is : k ≡ plan.mutators = omega (arith, past, upto) in so_far ∙ ap (new_callers t plan 0) is

  abbrev unmoved : Seated → SeatedScanner
  unmoved s = record { seated = s; steps = 0 }

  -- one scanner more
  pub scanners_more : (from k : ℕ) (made later : List SeatedScanner) (s : Seated) → made ≡ new_scanners t plan from k → s ≡ new_seated t plan (from + k) → later ≡ made ++ unmoved s ∷ [] → later ≡ new_scanners t plan from (k + 1)
  scanners_more from k made later s so_far is grown = rw (add-one k) (grown ∙ (λ i. so_far i ++ unmoved (is i) ∷ []))

  -- once there are as many as the plan has
  pub scanners_all : (from k : ℕ) (made : List SeatedScanner) → plan.scanners ≤ k → k ≤ plan.scanners → made ≡ new_scanners t plan from k → made ≡ new_scanners t plan from plan.scanners
  scanners_all from k made past upto so_far = let is : k ≡ plan.scanners = omega (arith, past, upto) in so_far ∙ ap (new_scanners t plan from) is
