-- What a round goes back to, by what its worker holds.
use Rattle.std.proofs.Common.{◌≡◌, ℕ, true, refl}
use Rattle.heap_state.specs.Known.{is_running}
use Rattle.gc_worker.specs.declared.stage.back.Back.{Back}
use Rattle.gc_worker.specs.declared.stage.back.Back.TheVariants.{ToPlace, ToScanner}
use Rattle.gc_worker.specs.Workers.Begun.{IsPastBack}
use Rattle.gc_worker.specs.Workers.Fits.{IsEpochOf}
use Rattle.gc_worker.specs.Workers.Held.{Held}
use Rattle.gc_worker.specs.Workers.Knows.{post_back}
use Rattle.lone_mutator.specs.Lone.{BackStands}
use Rattle.lone_mutator.specs.Potential.{back_left}

-- it is dear or not by the epochs alone
pub same_back : (n size : ℕ) (x y : Held) (back : Back) → x.begun ≡ y.begun → x.epoch ≡ y.epoch → back_left n size x back ≡ back_left n size y back
same_back n size x y ToPlace begun epoch = rw (begun, epoch) refl
same_back n size x y _ begun epoch = refl

-- a round that goes back to a mutator's work is of a running mutator, and of its epoch
pub runs : (back : Back) → BackStands back → is_running (post_back back) ≡ true
runs ToScanner stands = absurd stands
runs _ stands = refl

pub own_epoch : (x : Held) (epoch : ℕ) (back : Back) → BackStands back → IsEpochOf x back epoch → epoch ≡ x.epoch
own_epoch x epoch ToScanner stands of_epoch = absurd stands
own_epoch x epoch _ stands of_epoch = of_epoch

-- and its instruction has begun
pub past_look : (back : Back) → BackStands back → IsPastBack back
past_look ToScanner stands = absurd stands
past_look _ stands = tt
