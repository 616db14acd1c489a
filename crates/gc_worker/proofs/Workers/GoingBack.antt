-- After a round of the duty a worker goes back to its access, its allocation or the next round.
use Rattle.std.proofs.Common.{◌≡◌, ℕ, false, is_some, nat_lt, refl, arith}
use Rattle.gc_worker.specs.declared.stage.back.Back.{Back}
use Rattle.gc_worker.specs.declared.stage.back.Back.TheVariants.{ToAccess, ToTarget, ToPlace, ToSnap, ToScanner}
use Rattle.gc_worker.specs.Workers.Fits.{Fits, FitsBack, FitsTaskBack, IsOnSideBack}
use Rattle.gc_worker.specs.Workers.Held.{Held}
use Rattle.gc_worker.specs.Steps.Turned.{goes_back, back_from}
use Rattle.gc_worker.proofs.Workers.KeptParts.{refit, page_count}
use Rattle.gc_worker.proofs.Workers.ResumedMutators.{places_fit, snaps_fit, targets_fit}

module _ (n mutators k : ℕ) (x : Held) (f : Fits n mutators k x) (unended : is_some x.account.end ≡ false) where
  pub back_fits : (back : Back) → FitsBack x back → IsOnSideBack back (nat_lt x.number x.mutators) → FitsTaskBack x back → Fits n mutators k (back_from x back)
  back_fits (ToAccess a) own side task = refit n mutators k x f (goes_back x (ToAccess a)) unended side task own.0
  back_fits (ToTarget a) own side task = targets_fit n mutators k x f unended side a own task
  back_fits ToPlace own side task = places_fit n mutators k x f unended side task
  back_fits ToSnap own side task = snaps_fit n mutators k x f unended side task.0 task.1
  back_fits ToScanner own side task = refit n mutators k x f (goes_back x ToScanner) unended side task (
    record {
      layout = refl;
      worker = refl;
      caller = refl;
      epoch = tt;
      going = tt;
      sound = record { pages = page_count n mutators k x f; caller = tt; epoch = omega arith; worker = let a = f.few in let b = f.number in omega (arith, a, b); stage = tt };
    },
    own,
  )
