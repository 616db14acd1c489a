-- A word that was made from a header, a forward or a busy word reads as that, and a word that wasn't reads as none.
use Rattle.std.proofs.Common.{◌≡◌, ℕ, ◌^◌, ◌<◌, ◌≤◌, Some, None, refl, ap, ◌∙◌}
use Rattle.std.specs.Coded.{le_prop}
use Rattle.std.proofs.Math.Decide.{dec_le, dec_lt}
use Rattle.heap_words.specs.declared.kind.Kind.{Kind}
use Rattle.heap_words.specs.Word.{header_word, busy_word}
use Rattle.heap_words.specs.Decoded.{Decoded, HeaderWord, ForwardWord, BusyWord, copy_in, decode, encode}
use Rattle.heap_words.proofs.Decoding.{decode-header_word, decode-forward_word, decode-busy_word}
use Rattle.heap_words.proofs.Spelling.{header_word-decode, busy_word-decode}
use Rattle.heap_words.proofs.Ranges.{header_bounds, forward_bounds, busy_bounds}
use Rattle.record_layout.specs.declared.header.Header.{Header}
use Rattle.record_layout.specs.declared.forward.Forward.{Forward}
use Rattle.record_layout.specs.declared.busy.Busy.{Busy}
use Rattle.record_layout.specs.Layout.{header_says, forward_says, busy_says, header_with, forward_with, busy_with, header_in, forward_in, busy_in}

-- ---- headers

header_with-itself : (h : Header) (short : Dec (h.len ≤ 4095)) (counted : Dec (h.serial < 2 ^ 40))
    → header_with h.kind h.len h.serial h.mutator short counted ≡ Some h
header_with-itself h (yes short) (yes counted) =
    λ i. Some (record { kind = h.kind; len = h.len; serial = h.serial; mutator = h.mutator; short = le_prop short h.short i; counted = le_prop counted h.counted i })
header_with-itself h (yes short) (no uncounted) = absurd (uncounted h.counted)
header_with-itself h (no long) counted = absurd (long h.short)

pub header_in-header_says : (h : Header) → header_in (header_says h) ≡ Some h
unfolding header_in
header_in-header_says h = header_with-itself h (dec_le h.len 4095) (dec_lt h.serial (2 ^ 40))

pub header_in-decode : (w : ℕ) (h : Header) → w ≡ encode (header_says h) → header_in (decode w) ≡ Some h
header_in-decode w h is =
    ap header_in (ap decode is ∙ decode-header_word h.kind h.len h.serial h.mutator h.short h.counted) ∙ header_in-header_says h

-- a word that says a header reads as one with these parts
pub header_in-said : (w : ℕ) (kind : Kind) (len serial mutator : ℕ) → decode w ≡ HeaderWord kind len serial mutator
    → (h : Header) × (header_in (decode w) ≡ Some h) × (h.kind ≡ kind) × (h.len ≡ len) × (h.serial ≡ serial) × (h.mutator ≡ mutator)
header_in-said w kind len serial mutator is =
    let bounds = header_bounds w kind len serial mutator is in
    let h : Header = record { kind = kind; len = len; serial = serial; mutator = mutator; short = bounds.0; counted = bounds.1 } in
    (h, ap header_in is ∙ header_in-header_says h, refl, refl, refl, refl)

no_header : (w : ℕ) (d : Decoded) → decode w ≡ d
    → ((kind : Kind) (len serial mutator : ℕ) → w ≡ header_word kind len serial mutator → ⊥) → header_in d ≡ None
unfolding header_in
no_header w (HeaderWord kind len serial mutator) is other =
    absurd (other kind len serial mutator (header_word-decode w kind len serial mutator is))
no_header w d is other = refl

pub header_in-none : (w : ℕ) → ((kind : Kind) (len serial mutator : ℕ) → w ≡ header_word kind len serial mutator → ⊥)
    → header_in (decode w) ≡ None
header_in-none w other = no_header w (decode w) refl other

-- ---- forwards

forward_with-itself : (f : Forward) (short : Dec (f.len ≤ 4095)) → forward_with f.len f.addr short ≡ Some f
forward_with-itself f (yes short) = λ i. Some (record { len = f.len; addr = f.addr; short = le_prop short f.short i })
forward_with-itself f (no long) = absurd (long f.short)

pub forward_in-forward_says : (f : Forward) → forward_in (forward_says f) ≡ Some f
unfolding forward_in
forward_in-forward_says f = forward_with-itself f (dec_le f.len 4095)

pub forward_in-decode : (w : ℕ) (f : Forward) → f.addr < 2 ^ 32 → w ≡ encode (forward_says f) → forward_in (decode w) ≡ Some f
forward_in-decode w f in_range is =
    ap forward_in (ap decode is ∙ decode-forward_word f.len f.addr f.short in_range) ∙ forward_in-forward_says f

pub forward_in-said : (w len address : ℕ) → decode w ≡ ForwardWord len address
    → (f : Forward) × (forward_in (decode w) ≡ Some f) × (f.len ≡ len) × (f.addr ≡ address)
forward_in-said w len address is =
    let bounds = forward_bounds w len address is in
    let f : Forward = record { len = len; addr = address; short = bounds.0 } in
    (f, ap forward_in is ∙ forward_in-forward_says f, refl, refl)

no_forward : (d : Decoded) → None ≡ copy_in d → forward_in d ≡ None
unfolding forward_in
no_forward (ForwardWord len address) none = absurd (cc)
no_forward d none = refl

-- a word in which no copy's address is read is no forward
pub forward_in-no_copy : (w : ℕ) → None ≡ copy_in (decode w) → forward_in (decode w) ≡ None
forward_in-no_copy w none = no_forward (decode w) none

-- ---- busy words

busy_with-itself : (b : Busy) (short : Dec (b.len ≤ 4095)) → busy_with b.len b.worker short ≡ Some b
busy_with-itself b (yes short) = λ i. Some (record { len = b.len; worker = b.worker; short = le_prop short b.short i })
busy_with-itself b (no long) = absurd (long b.short)

pub busy_in-busy_says : (b : Busy) → busy_in (busy_says b) ≡ Some b
unfolding busy_in
busy_in-busy_says b = busy_with-itself b (dec_le b.len 4095)

pub busy_in-decode : (w : ℕ) (b : Busy) → b.worker < 2 ^ 8 → w ≡ encode (busy_says b) → busy_in (decode w) ≡ Some b
busy_in-decode w b in_range is =
    ap busy_in (ap decode is ∙ decode-busy_word b.len b.worker b.short in_range) ∙ busy_in-busy_says b

pub busy_in-said : (w len worker : ℕ) → decode w ≡ BusyWord len worker
    → (b : Busy) × (busy_in (decode w) ≡ Some b) × (b.len ≡ len) × (b.worker ≡ worker)
busy_in-said w len worker is =
    let bounds = busy_bounds w len worker is in
    let b : Busy = record { len = len; worker = worker; short = bounds.0 } in
    (b, ap busy_in is ∙ busy_in-busy_says b, refl, refl)

no_busy : (w : ℕ) (d : Decoded) → decode w ≡ d
    → ((len worker : ℕ) → len ≤ 4095 → worker < 2 ^ 8 → w ≡ busy_word len worker → ⊥) → busy_in d ≡ None
unfolding busy_in
no_busy w (BusyWord len worker) is other = let bounds = busy_bounds w len worker is in absurd (other len worker bounds.0 bounds.1 (busy_word-decode w len worker is))
no_busy w d is other = refl

pub busy_in-none : (w : ℕ)
    → ((len worker : ℕ) → len ≤ 4095 → worker < 2 ^ 8 → w ≡ busy_word len worker → ⊥) → busy_in (decode w) ≡ None
busy_in-none w other = no_busy w (decode w) refl other
