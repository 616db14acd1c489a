-- The workers of the opening, and what they know.
use Rattle.std.proofs.Common.{◌≡◌, ℕ, zero, suc, ◌+◌, ◌-◌, ◌<◌, ◌≤◌, false, get_or, replicate, refl, ◌∙◌, arith, ⊎_elim, le-ltb, lt-ltb}
use Rattle.std.proofs.lemmas.Bool.{cases_lt}
use Rattle.std.proofs.lemmas.List.{get_or-replicate, length-replicate, get_or-append_right, get_or_past, length-append}
use Rattle.std.proofs.Math.ListN.{get_or-append}
use Rattle.std.specs.Prelude.{nat_lt}
use Rattle.space_map.specs.declared.spaces.TheConstants.{MOST_MUTATORS, MOST_SCANNERS}
use Rattle.space_map.specs.declared.gate_word.GateWord.{GateWord}
use Rattle.heap_state.specs.Configuration.{team_of}
use Rattle.heap_state.specs.Functions.{sum_below, count_one}
use Rattle.heap_state.specs.Invariant.Parts.Gate.{Counted, Staffed}
use Rattle.heap_state.specs.Known.{Known, Team, Outside, Scanner, fresh, is_live, is_running, is_gone, is_late, is_mutator, is_asking}
use Rattle.heap_laws.specs.Opening.{opening_workers}

-- ---- who they are

-- a mutator outside below their number, else a scanner
pub data IsFresh (mutators k : ℕ) (w : Known) : Type 0 where
  AsMutator : k < mutators → w ≡ fresh Outside → IsFresh mutators k w
  AsScanner : mutators ≤ k → w ≡ fresh Scanner → IsFresh mutators k w

abbrev pub opening_team : ℕ → ℕ → Team
opening_team mutators scanners = team_of mutators (opening_workers mutators scanners)

a_scanner : (scanners i : ℕ) → get_or (replicate scanners (fresh Scanner)) i (fresh Scanner) ≡ fresh Scanner
a_scanner scanners i = ⊎_elim
    (λ (l : i < scanners). get_or-replicate scanners i (fresh Scanner) (fresh Scanner) l)
    (λ (l : scanners ≤ i). get_or_past (replicate scanners (fresh Scanner)) i (fresh Scanner) (let e = length-replicate scanners (fresh Scanner) in omega arith))
    (cases_lt i scanners)

pub who : (mutators scanners k : ℕ) → IsFresh mutators k ((opening_team mutators scanners).worker k)
who mutators scanners k = ⊎_elim
    (λ (l : k < mutators). AsMutator l (
    get_or-append (replicate mutators (fresh Outside)) (replicate scanners (fresh Scanner)) (fresh Scanner) k (let e = length-replicate mutators (fresh Outside) in omega arith)
    ∙ get_or-replicate mutators k (fresh Outside) (fresh Scanner) l))
    (λ (l : mutators ≤ k). AsScanner l (
    get_or-append_right (replicate mutators (fresh Outside)) (replicate scanners (fresh Scanner)) mutators k (fresh Scanner) (length-replicate mutators (fresh Outside)) l
    ∙ a_scanner scanners (k - mutators)))
    (cases_lt k mutators)

pub many : (mutators scanners : ℕ) → (opening_team mutators scanners).count ≡ mutators + scanners
many mutators scanners =
    let a = length-append (replicate mutators (fresh Outside)) (replicate scanners (fresh Scanner)) in
    let b = length-replicate mutators (fresh Outside) in
    let c = length-replicate scanners (fresh Scanner) in
    omega arith

-- what holds of both kinds of fresh worker holds of each
pub each_fresh : (mutators scanners k : ℕ) (P : Known → Type 0) → P (fresh Outside) → P (fresh Scanner) → P ((opening_team mutators scanners).worker k)
each_fresh mutators scanners k P m s = by_kind (who mutators scanners k)
  where
    by_kind : {w : Known} → IsFresh mutators k w → P w
    by_kind (AsMutator l e) = rw e m
    by_kind (AsScanner l e) = rw e s

-- ---- the gate

sum-zero : (n : ℕ) (f : ℕ → ℕ) → ((x : ℕ) → f x ≡ 0) → 0 ≡ sum_below n f
unfolding sum_below
sum-zero zero f z = refl
sum-zero (suc n) f z = let e = sum-zero n f z in let q = z n in omega arith

pub counted : (mutators scanners : ℕ) (gate : GateWord) → gate ≡ record { epoch = 0; live = 0; running = 0; behind = 0; request = false; left = 0 }
    → Counted gate (opening_team mutators scanners).count (opening_team mutators scanners).worker
counted mutators scanners gate e = rw e (record {
  live = sum-zero _ _ (λ k. each_fresh mutators scanners k (λ w. count_one (is_live w.post) ≡ 0) refl refl);
  running = sum-zero _ _ (λ k. each_fresh mutators scanners k (λ w. count_one (is_running w.post) ≡ 0) refl refl);
  behind = sum-zero _ _ (λ k. each_fresh mutators scanners k (λ w. count_one (is_late 0 w) ≡ 0) refl refl);
  left = sum-zero _ _ (λ k. each_fresh mutators scanners k (λ w. count_one (is_gone w.post) ≡ 0) refl refl);
  request = sum-zero _ _ (λ k. each_fresh mutators scanners k (λ w. count_one (is_asking w.post) ≡ 0) refl refl);
  still = λ b. absurd (omega (arith, b));
  epoch_fits = omega arith;
})

pub staffed : (mutators scanners : ℕ) → mutators ≤ MOST_MUTATORS → mutators + scanners ≤ MOST_MUTATORS + MOST_SCANNERS → Staffed mutators (opening_team mutators scanners).count (opening_team mutators scanners).worker
staffed mutators scanners few all = let m = many mutators scanners in record { few = (few, omega arith, omega arith); posts = λ k l. by_kind k (who mutators scanners k) }
  where
    by_kind : (k : ℕ) {w : Known} → IsFresh mutators k w → is_mutator w.post ≡ nat_lt k mutators
    by_kind k (AsMutator l e) = rw (e, lt-ltb k mutators l) refl
    by_kind k (AsScanner l e) = rw (e, le-ltb k mutators l) refl
