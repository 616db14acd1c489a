-- The tags of the words that are made.
use Rattle.std.proofs.Common.{◌≡◌, ℕ, zero, suc, ◌+◌, ◌*◌, ◌%◌, ◌^◌, ◌<◌, refl, arith}
use Rattle.heap_words.specs.declared.kind.Kind.{Kind}
use Rattle.heap_words.specs.declared.tag.Tag.{Tag}
use Rattle.heap_words.specs.declared.tag.Tag.TheVariants.{Number, Pointer, Header, Forward}
use Rattle.heap_words.specs.Word.{tag_spelled, tag_of, kind_code, number_word, pointer_word, header_word, forward_word, busy_word}

pub tag_of-number_word : (n : ℕ) → tag_of (number_word n) ≡ Number
unfolding tag_of number_word
tag_of-number_word n = let bits : 4 * n % 4 ≡ 0 = omega arith in rw bits

pub tag_of-pointer_word : (address : ℕ) → tag_of (pointer_word address) ≡ Pointer
unfolding tag_of pointer_word
tag_of-pointer_word address = let bits : (1 + 4 * address) % 4 ≡ 1 = omega arith in rw bits

pub tag_of-header_word : (kind : Kind) (len serial mutator : ℕ) → tag_of (header_word kind len serial mutator) ≡ Header
unfolding tag_of header_word
tag_of-header_word kind len serial mutator =
    let bits : (2 + 4 * kind_code kind + 2 ^ 4 * len + 2 ^ 16 * serial + 2 ^ 56 * mutator) % 4 ≡ 2 = omega arith in rw bits

pub tag_of-forward_word : (len address : ℕ) → tag_of (forward_word len address) ≡ Forward
unfolding tag_of forward_word
tag_of-forward_word len address = let bits : (3 + 2 ^ 4 * len + 2 ^ 16 * address) % 4 ≡ 3 = omega arith in rw bits

pub tag_of-busy_word : (len worker : ℕ) → tag_of (busy_word len worker) ≡ Forward
unfolding tag_of busy_word
tag_of-busy_word len worker = let bits : (3 + 4 + 2 ^ 4 * len + 2 ^ 16 * worker) % 4 ≡ 3 = omega arith in rw bits

-- the two bits of a tag
abbrev pub tag_bits : Tag → ℕ
tag_bits Number = 0
tag_bits Pointer = 1
tag_bits Header = 2
tag_bits Forward = 3

tag_bits-tag_spelled : (bits : ℕ) → bits < 4 → tag_bits (tag_spelled bits) ≡ bits
tag_bits-tag_spelled zero small = refl
tag_bits-tag_spelled (suc zero) small = refl
tag_bits-tag_spelled (suc (suc zero)) small = refl
tag_bits-tag_spelled (suc (suc (suc bits))) small = omega arith

pub tag_bits-tag_of : (w : ℕ) → tag_bits (tag_of w) ≡ w % 4
unfolding tag_of
tag_bits-tag_of w = tag_bits-tag_spelled (w % 4) (omega arith)
