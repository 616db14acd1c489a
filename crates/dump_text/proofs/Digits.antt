-- How many decimal digits stand at the front.
use Rattle.std.proofs.Common.{ℕ, suc, ◌≤◌, true, false, cond, List, [], ◌∷◌, length, arith}
use Rattle.std.specs.Char.{is_ascii_digit}
use Rattle.dump_text.specs.Pieces.{digit_count}

pub count_fits : (bytes : List ℕ) → digit_count bytes ≤ length bytes
count_fits [] = omega arith
count_fits (b ∷ bytes) =
    elim (is_ascii_digit b) as (λ t. cond t (suc (digit_count bytes)) 0 ≤ suc (length bytes)) [ true ↦ omega (arith, count_fits bytes) | false ↦ omega arith ]
