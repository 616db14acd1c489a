-- What the code reads in a record's first word is what a walk meets there.
use Rattle.std.proofs.Common.{◌≡◌, ℕ, ◌+◌, ◌^◌, ◌<◌, Some, None, refl, sym, ap, ◌∙◌}
use Rattle.heap_words.specs.Decoded.{Decoded, HeaderWord, ForwardWord, BusyWord, decode, encode}
use Rattle.heap_words.proofs.Decoding.{decode-header_word, decode-forward_word, decode-busy_word}
use Rattle.record_layout.specs.declared.busy.Busy.{Busy}
use Rattle.record_layout.specs.declared.header.Header.{Header}
use Rattle.record_layout.specs.declared.forward.Forward.{Forward}
use Rattle.record_layout.specs.Layout.{header_in, forward_in, busy_in, header_says, forward_says, busy_says}
use Rattle.record_layout.proofs.Rereading.{header_in-said, forward_in-said, busy_in-said}
use Rattle.heap_state.specs.Kept.{size_said}
use Rattle.heap_state.specs.Memory.Walk.{met_word}
use Rattle.crossing_map.specs.FirstWord.{size_met}

pub decode-header : (w : ℕ) (h : Header) → w ≡ encode (header_says h) → decode w ≡ header_says h
decode-header w h spelled = ap decode spelled ∙ decode-header_word h.kind h.len h.serial h.mutator h.short h.counted

pub met-header : (w : ℕ) (h : Header) → w ≡ encode (header_says h) → Some (h.len + 1) ≡ size_met (met_word (decode w))
met-header w h spelled = sym (ap (λ d. size_met (met_word d)) (decode-header w h spelled))

pub met-forward : (w : ℕ) (f : Forward) → f.addr < 2 ^ 32 → w ≡ encode (forward_says f) → Some (f.len + 1) ≡ size_met (met_word (decode w))
met-forward w f in_range spelled =
    sym (ap (λ d. size_met (met_word d)) (ap decode spelled ∙ decode-forward_word f.len f.addr f.short in_range))

pub met-busy : (w : ℕ) (b : Busy) → b.worker < 2 ^ 8 → w ≡ encode (busy_says b) → Some (b.len + 1) ≡ size_met (met_word (decode w))
met-busy w b in_range spelled =
    sym (ap (λ d. size_met (met_word d)) (ap decode spelled ∙ decode-busy_word b.len b.worker b.short in_range))

none_of : (w : ℕ) (d : Decoded) → decode w ≡ d → None ≡ header_in (decode w) → None ≡ forward_in (decode w) → None ≡ busy_in (decode w)
    → None ≡ size_met (met_word d)
none_of w (HeaderWord kind len serial mutator) e no_header no_forward no_busy =
    let h = header_in-said w kind len serial mutator e in absurd (let z : None ≡ Some h.0 = no_header ∙ h.1 in cc)
none_of w (ForwardWord len a) e no_header no_forward no_busy =
    let f = forward_in-said w len a e in absurd (let z : None ≡ Some f.0 = no_forward ∙ f.1 in cc)
none_of w (BusyWord len worker) e no_header no_forward no_busy =
    let b = busy_in-said w len worker e in absurd (let z : None ≡ Some b.0 = no_busy ∙ b.1 in cc)
none_of w _ e no_header no_forward no_busy = refl

pub met-none : (w : ℕ) → None ≡ header_in (decode w) → None ≡ forward_in (decode w) → None ≡ busy_in (decode w) → None ≡ size_met (met_word (decode w))
met-none w no_header no_forward no_busy = none_of w (decode w) refl no_header no_forward no_busy

-- ---- a kept header

pub size_said-header : (w : ℕ) (h : Header) → w ≡ encode (header_says h) → size_said (decode w) ≡ h.len + 1
size_said-header w h spelled = ap size_said (decode-header w h spelled)

no_size : (w : ℕ) (d : Decoded) → decode w ≡ d → None ≡ header_in (decode w) → size_said d ≡ 0
no_size w (HeaderWord kind len serial mutator) e none =
    let h = header_in-said w kind len serial mutator e in absurd (let z : None ≡ Some h.0 = none ∙ h.1 in cc)
no_size w _ e none = refl

pub size_said-none : (w : ℕ) → None ≡ header_in (decode w) → size_said (decode w) ≡ 0
size_said-none w none = no_size w (decode w) refl none
