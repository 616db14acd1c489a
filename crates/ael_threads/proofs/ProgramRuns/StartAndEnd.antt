-- How the workers of a run are before their first steps, and after their last.
use Rattle.std.proofs.Common.{◌≡◌, ℕ, zero, suc, ◌+◌, ◌<◌, ◌≤◌, Bool, true, false, nat_lt, List, [], ◌∷◌, ◌++◌, length, get_or, None, refl, sym, ◌∙◌, ap, subst, arith, lt-ltb}
use Rattle.std.specs.Prelude.{IfOk, IsSome, Result, Ok, Err, drop, if◌then◌else◌, take}
use Rattle.std.proofs.lemmas.List.{append-nil, drop_all, length-append, take_all}
use Rattle.atomic_table.specs.Seated.{TableId}
use Rattle.mutator_asm.specs.declared.instr.Instr.{Instr}
use Rattle.gc_worker.specs.Laws.Between.{fresh_mutator, fresh_scanner}
use Rattle.ael_threads.specs.declared.view.Plan.{Plan}
use Rattle.ael_threads.specs.Histories.{Each}
use Rattle.ael_threads.specs.Opened.{new_scanner, new_scanners}
use Rattle.ael_threads.specs.Runs.Outputs.{HasEnd}
use Rattle.ael_threads.specs.Readers.{SeatedScanner}
use Rattle.ael_threads.specs.Runs.Running.{AreReady, AreScanning, EachFrom, Executing, ScannerIsGone, HaveRun, HaveScanned, RunsAsScanner, Work}
use Rattle.ael_threads.specs.Seats.{Seated, new_callers, new_seated}
use Rattle.ael_threads.proofs.ProgramRuns.Programs.{executed_first}
use Rattle.ael_threads.proofs.ProgramRuns.Outputs.{from_append}

-- ---- before

-- one more at the end
from_push : {A : Type 0} (P : ℕ → A → Type 0) (from n : ℕ) (xs : List A) (x : A) → length xs ≡ n → EachFrom P from xs → P (from + n) x → EachFrom P from (xs ++ x ∷ [])
from_push P from n xs x many h k = from_append P from xs (x ∷ []) h (subst (λ (m : ℕ). P (from + m) x) (sym many) k, tt)

module _ (t : TableId) (plan : Plan) where
  pub callers_length : (from n : ℕ) → length (new_callers t plan from n) ≡ n
  callers_length from zero = refl
  callers_length from (suc n) = length-append (new_callers t plan from n) (new_seated t plan (from + n) ∷ []) ∙ (let e = callers_length from n in omega (arith, e))

  pub scanners_length : (from n : ℕ) → length (new_scanners t plan from n) ≡ n
  scanners_length from zero = refl
  scanners_length from (suc n) = length-append (new_scanners t plan from n) (new_scanner t plan (from + n) ∷ []) ∙ (let e = scanners_length from n in omega (arith, e))

module _ (code : List (List Instr)) (turns : ℕ) (t : TableId) (plan : Plan) where
  abbrev work : Work
  work = record { code = code; turns = turns; table = t; plan = plan }

  ready : (m : ℕ) → m < plan.mutators → Executing work m 0 (new_seated t plan m)
  ready m below = record {
    table = refl;
    plan = refl;
    own = [];
    hands = refl;
    mine = refl;
    task = rw (lt-ltb m plan.mutators below) refl;
    going = rw (lt-ltb m plan.mutators below) refl;
    legal = tt;
    executed = executed_first code turns t plan m below;
  }

  pub all_ready : (n : ℕ) → n ≤ plan.mutators → AreReady work 0 (new_callers t plan 0 n)
  all_ready zero few = tt
  all_ready (suc n) few =
      from_push (λ m s. Executing work m 0 s) 0 n (new_callers t plan 0 n) (new_seated t plan (0 + n)) (callers_length t plan 0 n) (all_ready n (omega (arith, few))) (ready (0 + n) (omega (arith, few)))

  scanning : (k : ℕ) → RunsAsScanner work k (new_seated t plan k)
  scanning k = record { table = refl; plan = refl; hands = refl; task = by_side (nat_lt k plan.mutators) }
    where
      by_side : (is_mutator : Bool) → (if is_mutator then fresh_mutator plan.prints plan.spaces plan.mutators k else fresh_scanner plan.prints plan.spaces plan.mutators k).task ≡ None
      by_side true = refl
      by_side false = refl

  pub all_scanning : (from n : ℕ) → AreScanning work from (new_scanners t plan from n)
  all_scanning from zero = tt
  all_scanning from (suc n) =
      from_push (λ k (s : SeatedScanner). RunsAsScanner work k s.seated) from n (new_scanners t plan from n) (new_scanner t plan (from + n)) (scanners_length t plan from n) (all_scanning from n) (scanning (from + n))

-- ---- after

module _ (w : Work) where
  pub mutators_of : (n : ℕ) (ms : List Seated) → HaveRun w n ms → Each (λ (m : Seated). m.table ≡ w.table) ms
  mutators_of n [] h = tt
  mutators_of n (s ∷ ss) h = (h.0.executed.table, mutators_of (n + 1) ss h.1)

  pub all_ended : (n : ℕ) (ms : List Seated) → HaveRun w n ms → Each HasEnd ms
  all_ended n [] h = tt
  all_ended n (s ∷ ss) h = (subst IsSome (sym h.0.executed.ended) refl, all_ended (n + 1) ss h.1)

  pub scanners_of : (n : ℕ) (ss : List SeatedScanner) → AreScanning w n ss → Each (λ (s : SeatedScanner). s.seated.table ≡ w.table) ss
  scanners_of n [] h = tt
  scanners_of n (s ∷ ss) h = (h.0.table, scanners_of (n + 1) ss h.1)

  pub were_scanning : (n : ℕ) (ss : List SeatedScanner) → HaveScanned w n ss → AreScanning w n ss
  were_scanning n [] h = tt
  were_scanning n (s ∷ ss) h = (h.0.scanning, were_scanning (n + 1) ss h.1)

  -- each of them, wherever it stands
  pub each_scanned : (n : ℕ) (old new : List SeatedScanner) → length new ≡ length old
      → ((i : ℕ) (s : SeatedScanner) → i < length old → (k : ℕ) → RunsAsScanner w k (get_or old i s).seated → ScannerIsGone w k (get_or new i s).seated) → AreScanning w n old → HaveScanned w n new
  each_scanned n [] [] many scans h = tt
  each_scanned n [] (y ∷ ys) many scans h = absurd (omega (arith, many))
  each_scanned n (x ∷ xs) [] many scans h = absurd (omega (arith, many))
  each_scanned n (x ∷ xs) (y ∷ ys) many scans h =
      (scans 0 x (omega arith) n h.0, each_scanned (n + 1) xs ys (omega (arith, many)) (λ i s below. scans (suc i) s (omega (arith, below))) h.1)

-- ---- a run

-- the slices of a heap's seats that were written back are all of them
pub all_back : {A : Type 0} (n : ℕ) (old new : List A) → length old ≡ n → length new ≡ length old → take n (new ++ drop (length new) old) ≡ new
all_back n old new many same =
    let none : drop (length new) old ≡ [] = drop_all (length new) old (omega (arith, same)) in
    ap (λ rest. take n (new ++ rest)) none ∙ (ap (take n) (append-nil new) ∙ take_all n new (omega (arith, many, same)))

-- what holds of each value holds of one that is there
pub of_ok : {T E : Type 0} (P Q : T → Type 0) → ((x : T) → P x → Q x) → (r : Result T E) → IfOk r P → IfOk r Q
of_ok P Q f (Ok x) h = f x h
of_ok P Q f (Err e) h = h
