-- The own header of a record, and the identity that it names, as the code reads them.
use Rattle.std.proofs.Common.{◌≡◌, ℕ, zero, suc, ◌^◌, ◌<◌, ◌≤◌, List, [], ◌∷◌, Some, None, length, get_or, refl, sym, ap, ◌∙◌, arith}
use Rattle.std.specs.Prelude.{IsTrue, ◌↔◌, is_some, option_map}
use Rattle.std.proofs.Math.Decide.{dec_le, dec_lt}
use Rattle.heap_words.specs.Decoded.{Decoded, HeaderWord, BusyWord, ForwardWord, decode, encode}
use Rattle.heap_words.specs.Word.{tag_of}
use Rattle.heap_words.specs.declared.kind.Kind.{Kind}
use Rattle.heap_words.proofs.Decoding.{decode-forward_word, decode-busy_word}
use Rattle.plain_state.specs.declared.value.Identity.{Identity}
use Rattle.record_layout.specs.declared.busy.Busy.{Busy}
use Rattle.record_layout.specs.declared.forward.Forward.{Forward}
use Rattle.record_layout.specs.declared.header.Header.{Header}
use Rattle.record_layout.specs.Layout.{busy_in, busy_says, forward_in, forward_says, header_in, header_says, header_with}
use Rattle.record_layout.proofs.Rereading.{busy_in-said, forward_in-said, header_in-said}
use Rattle.crossing_map.specs.Crossing.{pairs_kept}
use Rattle.heap_state.specs.Kept.{Kept, kept_at}
use Rattle.heap_state.specs.Meaning.Denotes.{named_by, named_in, own_header_in}
use Rattle.heap_state.specs.Meaning.Represents.{IsBusy}
use Rattle.heap_state.proofs.Puts.{some_same}

abbrev pub identity_by : Header → Identity
identity_by h = record { mutator = h.mutator; serial = h.serial }

-- ---- words

pub decode-busy : (w : ℕ) (b : Busy) → b.worker < 2 ^ 8 → w ≡ encode (busy_says b) → decode w ≡ busy_says b
decode-busy w b in_range spelled = ap decode spelled ∙ decode-busy_word b.len b.worker b.short in_range

pub decode-forward : (w : ℕ) (f : Forward) → f.addr < 2 ^ 32 → w ≡ encode (forward_says f) → decode w ≡ forward_says f
decode-forward w f in_range spelled = ap decode spelled ∙ decode-forward_word f.len f.addr f.short in_range

-- ---- what workers keep

pub kept_there : (pairs : List (ℕ × ℕ)) (k : ℕ) (d : ℕ × ℕ) → k < length pairs → (kept_at (pairs_kept pairs) k).header ≡ (get_or pairs k d).0
kept_there [] k d l = absurd (omega arith)
kept_there (one ∷ pairs) zero d l = refl
kept_there (one ∷ pairs) (suc k) d l = kept_there pairs k d (omega arith)

pub kept_nowhere : (pairs : List (ℕ × ℕ)) (k : ℕ) → length pairs ≤ k → (kept_at (pairs_kept pairs) k).header ≡ 0
kept_nowhere [] k l = refl
kept_nowhere (one ∷ pairs) zero l = absurd (omega arith)
kept_nowhere (one ∷ pairs) (suc k) l = kept_nowhere pairs k (omega arith)

pub no_header : header_in (decode 0) ≡ None
unfolding decode tag_of header_in
no_header = refl

-- a word reads as busy exactly if it is
pub busy_reads : (w : ℕ) (d : Decoded) → decode w ≡ d → (IsTrue (is_some (busy_in d)) ↔ IsBusy d)
unfolding busy_in
busy_reads w (BusyWord len worker) e = (λ t. tt, λ t. let b = busy_in-said w len worker e in ap is_some (ap busy_in (sym e) ∙ b.1))
busy_reads w _ e = (λ t. cc, λ none. absurd none)

-- ---- the own header

pub own-kept : (kept : List Kept) (w : ℕ) (b : Busy) → decode w ≡ busy_says b → own_header_in kept (decode w) ≡ decode (kept_at kept b.worker).header
own-kept kept w b e = rw e refl

own_by : (kept : List Kept) (w : ℕ) (d : Decoded) → decode w ≡ d → None ≡ busy_in (decode w) → header_in d ≡ header_in (own_header_in kept d)
unfolding header_in
own_by kept w (BusyWord len worker) e none = let b = busy_in-said w len worker e in absurd (let z : None ≡ Some b.0 = none ∙ b.1 in cc)
own_by kept w _ e none = refl

pub own-placed : (kept : List Kept) (w : ℕ) → None ≡ busy_in (decode w) → header_in (decode w) ≡ header_in (own_header_in kept (decode w))
own-placed kept w none = own_by kept w (decode w) refl none

-- ---- what a header says

says_with : (kind : Kind) (len serial mutator : ℕ) (h : Header) (short : Dec (len ≤ 4095)) (counted : Dec (serial < 2 ^ 40))
    → header_with kind len serial mutator short counted ≡ Some h → HeaderWord kind len serial mutator ≡ header_says h
says_with kind len serial mutator h (yes short) (yes counted) e = some_same (ap (option_map header_says) e)
says_with kind len serial mutator h (yes short) (no counted) e = absurd (cc)
says_with kind len serial mutator h (no short) counted e = absurd (cc)

pub header_in-says : (d : Decoded) (h : Header) → header_in d ≡ Some h → d ≡ header_says h
unfolding header_in
header_in-says (HeaderWord kind len serial mutator) h e = says_with kind len serial mutator h (dec_le len 4095) (dec_lt serial (2 ^ 40)) e
header_in-says _ h e = absurd (cc)

-- ---- the identity

named_by_word : (w : ℕ) (d : Decoded) → decode w ≡ d → named_by d ≡ option_map identity_by (header_in d)
unfolding header_in
named_by_word w (HeaderWord kind len serial mutator) e =
    let h = header_in-said w kind len serial mutator e in
    let is : header_in (HeaderWord kind len serial mutator) ≡ Some h.0 = sym (ap header_in e) ∙ h.1 in
    let says = header_in-says (HeaderWord kind len serial mutator) h.0 is in
    ap named_by says ∙ sym (ap (option_map identity_by) is)
named_by_word w _ e = refl

pub named_header : (w : ℕ) → named_by (decode w) ≡ option_map identity_by (header_in (decode w))
named_header w = named_by_word w (decode w) refl

named_own_by : (kept : List Kept) (w : ℕ) (d : Decoded) → decode w ≡ d → named_by (own_header_in kept d) ≡ option_map identity_by (header_in (own_header_in kept d))
unfolding header_in
named_own_by kept w (HeaderWord kind len serial mutator) e = named_by_word w (HeaderWord kind len serial mutator) e
named_own_by kept w (BusyWord len worker) e = named_header (kept_at kept worker).header
named_own_by kept w _ e = refl

pub named_own : (kept : List Kept) (w : ℕ) → named_by (own_header_in kept (decode w)) ≡ option_map identity_by (header_in (own_header_in kept (decode w)))
named_own kept w = named_own_by kept w (decode w) refl

pub named-forwarded : (heap : ℕ → ℕ) (kept : List Kept) (w : ℕ) (f : Forward) → decode w ≡ forward_says f → named_in heap kept (decode w) ≡ named_by (decode (heap f.addr))
named-forwarded heap kept w f e = rw e refl

named_in_by : (heap : ℕ → ℕ) (kept : List Kept) (w : ℕ) (d : Decoded) → decode w ≡ d → None ≡ forward_in (decode w) → named_in heap kept d ≡ named_by (own_header_in kept d)
named_in_by heap kept w (ForwardWord len a) e none = let f = forward_in-said w len a e in absurd (let z : None ≡ Some f.0 = none ∙ f.1 in cc)
named_in_by heap kept w _ e none = refl

pub named-in_place : (heap : ℕ → ℕ) (kept : List Kept) (w : ℕ) → None ≡ forward_in (decode w) → named_in heap kept (decode w) ≡ named_by (own_header_in kept (decode w))
named-in_place heap kept w none = named_in_by heap kept w (decode w) refl none
