-- The parts of a word, joined by `|` after a shift each, are their sum.
use Rattle.std.proofs.Common.{◌≡◌, ℕ, ◌+◌, ◌*◌, ◌%◌, ◌^◌, ◌<◌, ◌≤◌, bit_or, arith, ◌∙◌, add_comm}
use Rattle.std.proofs.lemmas.Nat.{or_comm, or_shifted}

-- one more part, above those that are there
joined : (low part k whole : ℕ) → low < 2 ^ k → whole ≡ part * 2 ^ k → bit_or low whole ≡ low + part * 2 ^ k
joined low part k whole below shifted = rw shifted (or_comm low (part * 2 ^ k) ∙ or_shifted part k low below ∙ add_comm (part * 2 ^ k) low)

pub header_joined : (kind len serial mutator : ℕ) → kind < 4 → len ≤ 4095 → serial < 2 ^ 40 → mutator < 2 ^ 8
    → bit_or (bit_or (bit_or (bit_or 2 (kind * 4 % 2 ^ 64)) (len * 16 % 2 ^ 64)) (serial * 2 ^ 16 % 2 ^ 64)) (mutator * 2 ^ 56 % 2 ^ 64)
    ≡ 2 + 4 * kind + 2 ^ 4 * len + 2 ^ 16 * serial + 2 ^ 56 * mutator
header_joined kind len serial mutator kind_fits len_fits serial_fits mutator_fits =
    let with_kind = joined 2 kind 2 (kind * 4 % 2 ^ 64) (omega arith) (omega arith) in
    let with_len = joined (2 + kind * 2 ^ 2) len 4 (len * 16 % 2 ^ 64) (omega arith) (omega arith) in
    let with_serial = joined (2 + kind * 2 ^ 2 + len * 2 ^ 4) serial 16 (serial * 2 ^ 16 % 2 ^ 64) (omega arith) (omega arith) in
    let with_mutator = joined (2 + kind * 2 ^ 2 + len * 2 ^ 4 + serial * 2 ^ 16) mutator 56 (mutator * 2 ^ 56 % 2 ^ 64) (omega arith) (omega arith) in
    rw (with_kind, with_len, with_serial, with_mutator) (omega arith)

-- a word of tag 3 by its lowest four bits, its length and what stands above it
pub forward_joined : (form len rest : ℕ) → form < 16 → len ≤ 4095 → rest < 2 ^ 32
    → bit_or (bit_or form (len * 16 % 2 ^ 64)) (rest * 2 ^ 16 % 2 ^ 64) ≡ form + 2 ^ 4 * len + 2 ^ 16 * rest
forward_joined form len rest form_fits len_fits rest_fits =
    let with_len = joined form len 4 (len * 16 % 2 ^ 64) (omega arith) (omega arith) in
    let with_rest = joined (form + len * 2 ^ 4) rest 16 (rest * 2 ^ 16 % 2 ^ 64) (omega arith) (omega arith) in
    rw (with_len, with_rest) (omega arith)
