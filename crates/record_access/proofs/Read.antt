-- What an access reads in a word is what the definitions make of it.
use Rattle.std.proofs.Common.{◌≡◌, ℕ, ◌∙◌, None, Some, refl, sym, ap}
use Rattle.heap_words.specs.Decoded.{Decoded, NumberWord, PointerWord, HeaderWord, decode, encode}
use Rattle.heap_words.proofs.Decoding.{decode-header_word}
use Rattle.heap_words.proofs.Spelling.{number_word-decode, pointer_word-decode}
use Rattle.record_layout.specs.declared.header.Header.{Header}
use Rattle.record_layout.specs.Layout.{header_in, header_says}
use Rattle.record_layout.proofs.Rereading.{header_in-said}
use Rattle.record_access.specs.declared.access_stage.AccessStage.TheVariants.{LoadsHeader}
use Rattle.record_access.specs.declared.record_access.RecordAccess.{RecordAccess}
use Rattle.record_access.specs.Access.{GoesTo, by_kind, read_header}
use Rattle.record_access.specs.Seen.{IsValueAs, IsValueWord, seen_as, value_seen, word_for}

-- ---- values

word_seen : (w : ℕ) (d : Decoded) → decode w ≡ d → IsValueAs d → word_for (seen_as d) ≡ w
word_seen w (NumberWord n) is value = sym (number_word-decode w n is)
word_seen w (PointerWord address) is value = sym (pointer_word-decode w address is)
word_seen w _ is value = absurd value

-- the word of the value that is seen in a value's word is this word
pub word_of_value_seen : (w : ℕ) → IsValueWord w → word_for (value_seen w) ≡ w
word_of_value_seen w value = word_seen w (decode w) refl value

-- ---- headers

pub headers_are_read : (r : RecordAccess) (w : ℕ) (h : Header) → w ≡ encode (header_says h)
    → read_header r (decode w) ≡ by_kind r h.kind h.len
headers_are_read r w h spelled = ap (read_header r) (ap decode spelled ∙ decode-header_word h.kind h.len h.serial h.mutator h.short h.counted)

no_header : (r : RecordAccess) (w : ℕ) (d : Decoded) → decode w ≡ d → header_in (decode w) ≡ None → read_header r d ≡ GoesTo (LoadsHeader r)
no_header r w (HeaderWord kind len serial mutator) e none =
    let h = header_in-said w kind len serial mutator e in absurd (let z : None ≡ Some h.0 = sym none ∙ h.1 in cc)
no_header r w _ e none = refl

pub others_are_not_read : (r : RecordAccess) (w : ℕ) → None ≡ header_in (decode w) → read_header r (decode w) ≡ GoesTo (LoadsHeader r)
others_are_not_read r w none = no_header r w (decode w) refl (sym none)
