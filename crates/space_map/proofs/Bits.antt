-- Parts of a word put together by shifts and `|` are their sum.
use Rattle.std.proofs.Common.{◌≡◌, ℕ, ◌+◌, ◌*◌, ◌^◌, ◌<◌, ◌∙◌, add_comm, bit_or}
use Rattle.std.proofs.lemmas.Nat.{or_comm, or_shifted}

pub or_above : (low high k : ℕ) → low < 2 ^ k → bit_or low (high * 2 ^ k) ≡ low + high * 2 ^ k
or_above low high k below = or_comm low (high * 2 ^ k) ∙ or_shifted high k low below ∙ add_comm (high * 2 ^ k) low
