-- The parts that a word decodes to are in range.
use Rattle.std.proofs.Common.{◌≡◌, ℕ, zero, suc, ◌/◌, ◌%◌, ◌^◌, ◌<◌, ◌≤◌, nat_lt, cond, Bool, true, false, refl, arith, subst}
use Rattle.std.specs.Bool.{⊤}
use Rattle.std.proofs.lemmas.Bool.{ltb-true}
use Rattle.heap_words.specs.declared.kind.Kind.{Kind}
use Rattle.heap_words.specs.declared.word.TheConstants.{NUMBERS}
use Rattle.heap_words.specs.Word.{tag_spelled, tag_of, number_word, header_word}
use Rattle.heap_words.specs.Decoded.{Decoded, NumberWord, PointerWord, HeaderWord, ForwardWord, BusyWord, Malformed, decode_as, decode_forward, decode, IsInRange}
use Rattle.heap_words.proofs.Spelling.{header_word-decode}

-- the parts are in range but for one that reaches up to a word's end, the mutator
abbrev IsBounded : Decoded → Type 0
IsBounded (NumberWord n) = n < NUMBERS
IsBounded (PointerWord address) = address < 2 ^ 32
IsBounded (HeaderWord kind len serial mutator) = (len ≤ 4095) × (serial < 2 ^ 40)
IsBounded (ForwardWord len address) = (len ≤ 4095) × (address < 2 ^ 32)
IsBounded (BusyWord len worker) = (len ≤ 4095) × (worker < 2 ^ 8)
IsBounded Malformed = ⊤

bounded_if : (b : Bool) (d : Decoded) → (b ≡ true → IsBounded d) → IsBounded (cond b d Malformed)
bounded_if true d bounded = bounded refl
bounded_if false d bounded = tt

bounded_forward : (form w : ℕ) → IsBounded (decode_forward form w)
bounded_forward zero w =
    bounded_if (nat_lt w (2 ^ 48)) (ForwardWord (w / 2 ^ 4 % 2 ^ 12) (w / 2 ^ 16))
    (λ short. let below = ltb-true w (2 ^ 48) short in (omega arith, omega arith))
bounded_forward (suc zero) w =
    bounded_if (nat_lt w (2 ^ 24)) (BusyWord (w / 2 ^ 4 % 2 ^ 12) (w / 2 ^ 16))
    (λ short. let below = ltb-true w (2 ^ 24) short in (omega arith, omega arith))
bounded_forward (suc (suc form)) w = tt

bounded_tagged : (bits w : ℕ) → IsBounded (decode_as (tag_spelled bits) w)
bounded_tagged zero w =
    bounded_if (nat_lt w (2 ^ 64)) (NumberWord (w / 4)) (λ short. let below = ltb-true w (2 ^ 64) short in omega arith)
bounded_tagged (suc zero) w =
    bounded_if (nat_lt w (2 ^ 34)) (PointerWord (w / 4)) (λ short. let below = ltb-true w (2 ^ 34) short in omega arith)
bounded_tagged (suc (suc zero)) w = (omega arith, omega arith)
bounded_tagged (suc (suc (suc bits))) w = bounded_forward (w / 4 % 4) w

bounded : (w : ℕ) → IsBounded (decode w)
unfolding decode tag_of
bounded w = bounded_tagged (w % 4) w

pub number_bounds : (w n : ℕ) → decode w ≡ NumberWord n → n < NUMBERS
number_bounds w n is = subst IsBounded is (bounded w)

pub pointer_bounds : (w address : ℕ) → decode w ≡ PointerWord address → address < 2 ^ 32
pointer_bounds w address is = subst IsBounded is (bounded w)

pub header_bounds : (w : ℕ) (kind : Kind) (len serial mutator : ℕ) → decode w ≡ HeaderWord kind len serial mutator
    → (len ≤ 4095) × (serial < 2 ^ 40)
header_bounds w kind len serial mutator is = subst IsBounded is (bounded w)

pub forward_bounds : (w len address : ℕ) → decode w ≡ ForwardWord len address → (len ≤ 4095) × (address < 2 ^ 32)
forward_bounds w len address is = subst IsBounded is (bounded w)

pub busy_bounds : (w len worker : ℕ) → decode w ≡ BusyWord len worker → (len ≤ 4095) × (worker < 2 ^ 8)
busy_bounds w len worker is = subst IsBounded is (bounded w)

in_range : (w : ℕ) (d : Decoded) → decode w ≡ d → w < 2 ^ 64 → IsInRange d
unfolding number_word header_word
in_range w (NumberWord n) is below = number_bounds w n is
in_range w (PointerWord address) is below = pointer_bounds w address is
in_range w (HeaderWord kind len serial mutator) is below =
    let bounds = header_bounds w kind len serial mutator is in
    (bounds.0, bounds.1, omega (arith, header_word-decode w kind len serial mutator is))
in_range w (ForwardWord len address) is below = forward_bounds w len address is
in_range w (BusyWord len worker) is below = busy_bounds w len worker is
in_range w Malformed is below = tt

pub IsInRange-decode : (w : ℕ) → w < 2 ^ 64 → IsInRange (decode w)
IsInRange-decode w below = in_range w (decode w) refl below
