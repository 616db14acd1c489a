-- What is made reads back.
use Rattle.std.proofs.Common.{◌≡◌, ℕ, ◌+◌, ◌*◌, ◌/◌, ◌%◌, ◌^◌, ◌<◌, ◌≤◌, nat_lt, true, refl, arith, ap}
use Rattle.std.proofs.lemmas.Bool.Decides.{nat_tests}
use Rattle.heap_words.specs.declared.kind.Kind.{Kind}
use Rattle.heap_words.specs.declared.word.TheConstants.{NUMBERS}
use Rattle.heap_words.specs.Word.{kind_code, number_word, pointer_word, header_word, forward_word, busy_word}
use Rattle.heap_words.specs.Decoded.{NumberWord, PointerWord, HeaderWord, ForwardWord, BusyWord, decode}
use Rattle.heap_words.proofs.Tags.{tag_of-number_word, tag_of-pointer_word, tag_of-header_word, tag_of-forward_word, tag_of-busy_word}
use Rattle.heap_words.proofs.KindCodes.{kind_code-lt, kind_spelled-kind_code}

pub decode-number_word : (n : ℕ) → n < NUMBERS → decode (number_word n) ≡ NumberWord n
unfolding decode number_word
decode-number_word n in_range =
    let part : 4 * n / 4 ≡ n = omega arith in
    let short : nat_lt (4 * n) (2 ^ 64) ≡ true = grind (arith, nat_tests) in
    rw (tag_of-number_word n, short) (ap NumberWord part)

pub decode-pointer_word : (address : ℕ) → address < 2 ^ 32 → decode (pointer_word address) ≡ PointerWord address
unfolding decode pointer_word
decode-pointer_word address in_range =
    let part : (1 + 4 * address) / 4 ≡ address = omega arith in
    let short : nat_lt (1 + 4 * address) (2 ^ 34) ≡ true = grind (arith, nat_tests) in
    rw (tag_of-pointer_word address, short) (ap PointerWord part)

pub decode-header_word : (kind : Kind) (len serial mutator : ℕ) → len ≤ 4095 → serial < 2 ^ 40
    → decode (header_word kind len serial mutator) ≡ HeaderWord kind len serial mutator
unfolding decode header_word
decode-header_word kind len serial mutator short counted =
    let w : ℕ = 2 + 4 * kind_code kind + 2 ^ 4 * len + 2 ^ 16 * serial + 2 ^ 56 * mutator in
    let small = kind_code-lt kind in
    let kind_is : w / 4 % 4 ≡ kind_code kind = omega arith in
    let len_is : w / 2 ^ 4 % 2 ^ 12 ≡ len = omega arith in
    let serial_is : w / 2 ^ 16 % 2 ^ 40 ≡ serial = omega arith in
    let mutator_is : w / 2 ^ 56 ≡ mutator = omega arith in
    rw (tag_of-header_word kind len serial mutator, kind_is, kind_spelled-kind_code kind, len_is, serial_is, mutator_is) refl

pub decode-forward_word : (len address : ℕ) → len ≤ 4095 → address < 2 ^ 32
    → decode (forward_word len address) ≡ ForwardWord len address
unfolding decode forward_word
decode-forward_word len address short in_range =
    let w : ℕ = 3 + 2 ^ 4 * len + 2 ^ 16 * address in
    let form : w / 4 % 4 ≡ 0 = omega arith in
    let fits : nat_lt w (2 ^ 48) ≡ true = grind (arith, nat_tests) in
    let len_is : w / 2 ^ 4 % 2 ^ 12 ≡ len = omega arith in
    let address_is : w / 2 ^ 16 ≡ address = omega arith in
    rw (tag_of-forward_word len address, form, fits, len_is, address_is) refl

pub decode-busy_word : (len worker : ℕ) → len ≤ 4095 → worker < 2 ^ 8
    → decode (busy_word len worker) ≡ BusyWord len worker
unfolding decode busy_word
decode-busy_word len worker short in_range =
    let w : ℕ = 3 + 4 + 2 ^ 4 * len + 2 ^ 16 * worker in
    let form : w / 4 % 4 ≡ 1 = omega arith in
    let fits : nat_lt w (2 ^ 24) ≡ true = grind (arith, nat_tests) in
    let len_is : w / 2 ^ 4 % 2 ^ 12 ≡ len = omega arith in
    let worker_is : w / 2 ^ 16 ≡ worker = omega arith in
    rw (tag_of-busy_word len worker, form, fits, len_is, worker_is) refl
