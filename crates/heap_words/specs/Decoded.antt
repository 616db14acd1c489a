-- What a word of the heap says.
use Rattle.std.specs.Prelude.{ℕ, ◌/◌, ◌%◌, ◌^◌, ◌<◌, ◌≤◌, ⊤, Option, Some, None, nat_lt, if◌then◌else◌}
use Rattle.std.proofs.Common.{zero, suc}
use Rattle.heap_words.specs.declared.kind.Kind.{Kind}
use Rattle.heap_words.specs.declared.kind.Kind.TheVariants.{Fields, Raw, Mixed, Weak}
use Rattle.heap_words.specs.declared.tag.Tag.{Tag}
use Rattle.heap_words.specs.declared.tag.Tag.TheVariants.{Number, Pointer, Header, Forward}
use Rattle.heap_words.specs.declared.word.TheConstants.{NUMBERS}
use Rattle.heap_words.specs.Word.{tag_of, number_word, pointer_word, header_word, forward_word, busy_word}

-- a word by what it was made from; a malformed one was made from nothing
pub data Decoded : Type 0 where
  NumberWord : (n : ℕ) → Decoded
  PointerWord : (address : ℕ) → Decoded
  HeaderWord : (kind : Kind) (len serial mutator : ℕ) → Decoded
  ForwardWord : (len address : ℕ) → Decoded
  BusyWord : (len worker : ℕ) → Decoded
  Malformed : Decoded

-- ---- from a word

-- the kind that two bits of a header spell
abbrev pub kind_spelled : ℕ → Kind
kind_spelled zero = Fields
kind_spelled (suc zero) = Raw
kind_spelled (suc (suc zero)) = Mixed
kind_spelled (suc (suc (suc bits))) = Weak

-- a word of tag 3 by its bits 2 and 3
abbrev pub decode_forward : ℕ → ℕ → Decoded
decode_forward zero w = if nat_lt w (2 ^ 48) then ForwardWord (w / 2 ^ 4 % 2 ^ 12) (w / 2 ^ 16) else Malformed
decode_forward (suc zero) w = if nat_lt w (2 ^ 24) then BusyWord (w / 2 ^ 4 % 2 ^ 12) (w / 2 ^ 16) else Malformed
decode_forward (suc (suc bits)) w = Malformed

-- a word of this tag
abbrev pub decode_as : Tag → ℕ → Decoded
decode_as Number w = if nat_lt w (2 ^ 64) then NumberWord (w / 4) else Malformed
decode_as Pointer w = if nat_lt w (2 ^ 34) then PointerWord (w / 4) else Malformed
decode_as Header w = HeaderWord (kind_spelled (w / 4 % 4)) (w / 2 ^ 4 % 2 ^ 12) (w / 2 ^ 16 % 2 ^ 40) (w / 2 ^ 56)
decode_as Forward w = decode_forward (w / 4 % 4) w

-- what a word says
unfoldable pub decode : ℕ → Decoded
decode w = decode_as (tag_of w) w

-- ---- to a word

-- the word that says this, or some malformed word
abbrev pub encode : Decoded → ℕ
encode (NumberWord n) = number_word n
encode (PointerWord address) = pointer_word address
encode (HeaderWord kind len serial mutator) = header_word kind len serial mutator
encode (ForwardWord len address) = forward_word len address
encode (BusyWord len worker) = busy_word len worker
encode Malformed = 15

-- each part is in the range that its bits can say
abbrev pub IsInRange : Decoded → Type 0
IsInRange (NumberWord n) = n < NUMBERS
IsInRange (PointerWord address) = address < 2 ^ 32
IsInRange (HeaderWord kind len serial mutator) = (len ≤ 4095) × (serial < 2 ^ 40) × (mutator < 2 ^ 8)
IsInRange (ForwardWord len address) = (len ≤ 4095) × (address < 2 ^ 32)
IsInRange (BusyWord len worker) = (len ≤ 4095) × (worker < 2 ^ 8)
IsInRange Malformed = ⊤

-- ---- the parts

-- the number that the word is, if it is one
abbrev pub number_in : Decoded → Option ℕ
number_in (NumberWord n) = Some n
number_in (PointerWord address) = None
number_in (HeaderWord kind len serial mutator) = None
number_in (ForwardWord len address) = None
number_in (BusyWord len worker) = None
number_in Malformed = None

-- the address that the word points to, if it is a pointer
abbrev pub pointer_in : Decoded → Option ℕ
pointer_in (NumberWord n) = None
pointer_in (PointerWord address) = Some address
pointer_in (HeaderWord kind len serial mutator) = None
pointer_in (ForwardWord len address) = None
pointer_in (BusyWord len worker) = None
pointer_in Malformed = None

-- the address of the copy, if the word is a forward
abbrev pub copy_in : Decoded → Option ℕ
copy_in (ForwardWord len address) = Some address
copy_in _ = None
