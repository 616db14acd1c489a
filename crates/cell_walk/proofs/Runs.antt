-- Runs of a machine alone, one behind the other.
use Rattle.std.proofs.Common.{◌≡◌, ℕ, zero, suc, ◌+◌, ◌-◌, ◌≤◌, refl, ap, ◌∙◌, arith}
use Rattle.atom_store.specs.Machine.{Machine}
use Rattle.atom_store.specs.Runs.{Working, after_step, alone, words_then}

module _ {M R : Type 0} (k : Machine M R) where
  pub alone-+ : (a b : ℕ) (w : Working M) → alone k (a + b) w ≡ alone k b (alone k a w)
  unfolding alone
  alone-+ zero b w = let e : 0 + b ≡ b = omega arith in ap (λ n. alone k n w) e
  alone-+ (suc a) b w =
      let e : suc a + b ≡ suc (a + b) = omega arith in
      ap (λ n. alone k n w) e
      ∙ alone-+ a b (record { machine = after_step k w.machine (k.wanted w.machine) w.words; words = words_then (k.wanted w.machine) w.words })

  -- from the one to the other in at most so many steps
  pub record Runs (from to : Working M) (most : ℕ) : Type 0 where
    pub count : ℕ
    pub within : count ≤ most
    pub is : alone k count from ≡ to

  pub then_runs : (a b c : Working M) (m n : ℕ) → Runs a b m → Runs b c n → Runs a c (m + n)
  then_runs a b c m n first second =
      let short = first.within in let brief = second.within in
      record {
        count = first.count + second.count;
        within = omega arith;
        is = alone-+ first.count second.count a ∙ ap (λ w. alone k second.count w) first.is ∙ second.is;
      }

  pub in_more : (a b : Working M) (m n : ℕ) → m ≤ n → Runs a b m → Runs a b n
  in_more a b m n longer r = let short = r.within in record { count = r.count; within = omega arith; is = r.is }

  pub no_step_runs : (a b : Working M) (n : ℕ) → a ≡ b → Runs a b n
  unfolding alone
  no_step_runs a b n same = record { count = 0; within = omega arith; is = same }

  pub one_step_runs : (a : Working M)
      → Runs a (record { machine = after_step k a.machine (k.wanted a.machine) a.words; words = words_then (k.wanted a.machine) a.words }) 1
  unfolding alone
  one_step_runs a = record { count = 1; within = omega arith; is = refl }

  -- where the machine stays once it is there, it is there after all those steps
  pub at_last : (a b : Working M) (n : ℕ) → Runs a b n → ((more : ℕ) → alone k more b ≡ b) → alone k n a ≡ b
  at_last a b n r stays =
      let short = r.within in
      let e : n ≡ r.count + (n - r.count) = omega arith in
      ap (λ z. alone k z a) e ∙ alone-+ r.count (n - r.count) a ∙ ap (λ w. alone k (n - r.count) w) r.is ∙ stays (n - r.count)
