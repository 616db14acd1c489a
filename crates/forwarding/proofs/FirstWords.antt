-- What the code reads in an old record's first word is what the machine makes of it.
use Rattle.std.proofs.Common.{◌≡◌, ℕ, ◌^◌, ◌<◌, Some, None, refl, sym, ap, ◌∙◌}
use Rattle.heap_words.specs.Decoded.{Decoded, HeaderWord, ForwardWord, decode, encode}
use Rattle.heap_words.proofs.Decoding.{decode-header_word, decode-forward_word}
use Rattle.record_layout.specs.declared.header.Header.{Header}
use Rattle.record_layout.specs.declared.forward.Forward.{Forward}
use Rattle.record_layout.specs.Layout.{header_in, forward_in, header_says, forward_says}
use Rattle.record_layout.proofs.Rereading.{header_in-said, forward_in-said}
use Rattle.forwarding.specs.declared.evac_stage.EvacStage.TheVariants.{LoadsHeader, Ended}
use Rattle.forwarding.specs.Taken.{by_first_word}

pub by_first_word-forward : (w : ℕ) (f : Forward) → f.addr < 2 ^ 32 → w ≡ encode (forward_says f) → by_first_word w (decode w) ≡ Ended f.addr
by_first_word-forward w f in_range spelled = ap (by_first_word w) (ap decode spelled ∙ decode-forward_word f.len f.addr f.short in_range)

pub by_first_word-header : (w : ℕ) (h : Header) → w ≡ encode (header_says h) → by_first_word w (decode w) ≡ by_first_word w (header_says h)
by_first_word-header w h spelled =
    ap (by_first_word w) (ap decode spelled ∙ decode-header_word h.kind h.len h.serial h.mutator h.short h.counted)

neither : (w : ℕ) (d : Decoded) → decode w ≡ d → header_in (decode w) ≡ None → forward_in (decode w) ≡ None
    → by_first_word w d ≡ LoadsHeader
neither w (HeaderWord kind len serial mutator) e no_header no_forward =
    let h = header_in-said w kind len serial mutator e in absurd (let z : None ≡ Some h.0 = sym no_header ∙ h.1 in cc)
neither w (ForwardWord len address) e no_header no_forward =
    let f = forward_in-said w len address e in absurd (let z : None ≡ Some f.0 = sym no_forward ∙ f.1 in cc)
neither w _ e no_header no_forward = refl

pub by_first_word-neither : (w : ℕ) → None ≡ header_in (decode w) → None ≡ forward_in (decode w) → by_first_word w (decode w) ≡ LoadsHeader
by_first_word-neither w no_header no_forward = neither w (decode w) refl (sym no_header) (sym no_forward)
