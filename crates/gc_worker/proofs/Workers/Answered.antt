-- A mutator that has answered its task: it is sound with its new account, registers and run.
use Rattle.std.proofs.Common.{◌≡◌, ℕ, ◌<◌, ◌≤◌, true, false, List, length, slice_index, Option, None, is_some, nat_lt, refl, subst, sym, ⊎_elim, get_or-set_same, get_or-set_other}
use Rattle.std.specs.Prelude.{slice_set}
use Rattle.std.proofs.lemmas.Bool.{cases_eq}
use Rattle.plain_state.specs.declared.end.End.{End}
use Rattle.plain_state.specs.declared.sizes.TheConstants.{REGISTERS, MOST_PRINTED}
use Rattle.alloc_end.specs.declared.run.Run.{Run}
use Rattle.heap_state.specs.Functions.{put}
use Rattle.heap_state.specs.Known.{Account}
use Rattle.heap_state.proofs.Puts.{put_is}
use Rattle.gc_worker.specs.declared.stage.Stage.TheVariants.{Looks}
use Rattle.gc_worker.specs.Workers.Fits.{AreValues, Fits, FitsRun}
use Rattle.gc_worker.specs.Workers.Held.{Held}
use Rattle.record_access.specs.Seen.{IsValueWord}
use Rattle.gc_worker.specs.Steps.Turned.{ended}
use Rattle.gc_worker.proofs.Workers.KeptParts.{with_parts, page_count}

-- a register changed in the list is changed in the function
pub registers_put : (registers : List ℕ) (r v : ℕ) → r < length registers → (λ (j : ℕ). slice_index (slice_set registers r v) j) ≡ put (λ (j : ℕ). slice_index registers j) r v
registers_put registers r v l =
    put_is (λ (j : ℕ). slice_index registers j) (λ (j : ℕ). slice_index (slice_set registers r v) j) r v (get_or-set_same registers r v 0 l) (λ j d. get_or-set_other registers r j v 0 d)

-- registers of which one gets a value's word
pub values_set : (registers : List ℕ) (d v : ℕ) → length registers ≡ REGISTERS → IsValueWord v → AreValues registers → AreValues (slice_set registers d v)
values_set registers d v eight is all r small = ⊎_elim
    (λ (same : r ≡ d). subst IsValueWord (sym (subst (λ (j : ℕ). slice_index (slice_set registers d v) j ≡ v) (sym same) (get_or-set_same registers d v 0 (subst (λ (n : ℕ). d < n) (sym eight) (subst (λ (j : ℕ). j < REGISTERS) same small))))) is)
    (λ other. subst IsValueWord (sym (get_or-set_other registers d r v 0 other)) (all r small))
    (cases_eq r d)

-- with this account, these registers and this run it looks at the gate, and has no task
abbrev pub settled_as : Held → Account → List ℕ → Option Run → Held
settled_as x account registers run = record x { account = account; registers = registers; run = run; task = None; stage = Looks }

pub settled_fits : (n mutators k : ℕ) (x : Held) (f : Fits n mutators k x) → nat_lt x.number x.mutators ≡ true → (account : Account) (registers : List ℕ) (run : Option Run) → is_some account.end ≡ false
    → length registers ≡ REGISTERS → AreValues registers → length account.printed ≤ MOST_PRINTED → FitsRun n run → Fits n mutators k (settled_as x account registers run)
settled_fits n mutators k x f mutator account registers run unended eight values few own = record {
  worker = with_parts f.worker f.epoch eight values few own;
  end = unended;
  side = mutator;
  task = tt;
  stage = tt;
}

-- with an end it leaves
pub ended_fits : (n mutators k : ℕ) (x : Held) (f : Fits n mutators k x) → nat_lt x.number x.mutators ≡ true → (end : End) → Fits n mutators k (ended x end)
ended_fits n mutators k x f mutator end = record {
  worker = f.worker;
  end = refl;
  side = mutator;
  task = refl;
  stage = record { layout = refl; passage = tt; going = tt; sound = record { pages = page_count n mutators k x f; stage = tt } };
}
