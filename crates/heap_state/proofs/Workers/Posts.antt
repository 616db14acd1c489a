-- Posts.
use Rattle.std.proofs.Common.{◌≡◌, true, refl}
use Rattle.heap_state.specs.Known.{Post, Flipping, is_flipper, is_asking}

-- who flips has asked for it
pub flips_ask : (post : Post) → is_flipper post ≡ true → is_asking post ≡ true
flips_ask (Flipping asked) f = refl
flips_ask _ f = absurd (cc)
