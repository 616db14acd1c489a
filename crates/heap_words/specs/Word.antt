-- The formats of the words of the heap. A word's lowest two bits are its tag.
use Rattle.std.specs.Prelude.{ℕ, ◌+◌, ◌*◌, ◌%◌, ◌^◌}
use Rattle.std.proofs.Common.{zero, suc}
use Rattle.heap_words.specs.declared.kind.Kind.{Kind}
use Rattle.heap_words.specs.declared.kind.Kind.TheVariants.{Fields, Raw, Mixed, Weak}
use Rattle.heap_words.specs.declared.tag.Tag.{Tag}
use Rattle.heap_words.specs.declared.tag.Tag.TheVariants.{Number, Pointer, Header, Forward}

-- the tag that two bits spell
abbrev pub tag_spelled : ℕ → Tag
tag_spelled zero = Number
tag_spelled (suc zero) = Pointer
tag_spelled (suc (suc zero)) = Header
tag_spelled (suc (suc (suc bits))) = Forward

-- the tag of a word
unfoldable pub tag_of : ℕ → Tag
tag_of w = tag_spelled (w % 4)

-- the code of a kind in a header
abbrev pub kind_code : Kind → ℕ
kind_code Fields = 0
kind_code Raw = 1
kind_code Mixed = 2
kind_code Weak = 3

-- a number: tag 0, then 62 bits
unfoldable pub number_word : ℕ → ℕ
number_word n = 4 * n

-- a pointer: tag 1, then 32 bits of the address of a header
unfoldable pub pointer_word : ℕ → ℕ
pointer_word address = 1 + 4 * address

-- a header: tag 2, then 2 bits of kind, 12 of length, 40 of serial and 8 of mutator
unfoldable pub header_word : Kind → ℕ → ℕ → ℕ → ℕ
header_word kind len serial mutator = 2 + 4 * kind_code kind + 2 ^ 4 * len + 2 ^ 16 * serial + 2 ^ 56 * mutator

-- a forward: tag 3, two bits 0, then 12 bits of length and 32 of the copy's address
unfoldable pub forward_word : ℕ → ℕ → ℕ
forward_word len address = 3 + 2 ^ 4 * len + 2 ^ 16 * address

-- the word in place of a header that a worker has taken to copy its record: as a forward, but with bit 2 set and 8
-- bits of the worker's number in place of the address
unfoldable pub busy_word : ℕ → ℕ → ℕ
busy_word len worker = 3 + 4 + 2 ^ 4 * len + 2 ^ 16 * worker
