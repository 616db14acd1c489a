-- What the hexadecimal form of a word with zeros in front writes.
use Rattle.std.proofs.Common.{◌≡◌, ℕ, ◌^◌, ◌-◌, false, [], length, refl, append-nil, arith}
use Rattle.std.specs.Fmt.{digits, padded_integral, format_spec, char_count}
use Rattle.dump_text.specs.Text.{word_text}

pub hex_word : (word : ℕ) → padded_integral (format_spec 32 0 4 16 (2 ^ 64 - 1)) false [] (digits 16 false word) ≡ word_text word
unfolding padded_integral char_count
hex_word word = let short : 16 - length (digits 16 false word) - 0 - 0 ≡ 16 - length (digits 16 false word) = omega arith in rw (short, append-nil) refl
