-- A word that decodes is spelled as what it says.
use Rattle.std.proofs.Common.{◌≡◌, ◌≢◌, ℕ, zero, suc, ◌/◌, ◌%◌, ◌^◌, ◌<◌, cond, Bool, true, false, refl, arith, ap, sym, ◌∙◌}
use Rattle.heap_words.specs.declared.kind.Kind.{Kind}
use Rattle.heap_words.specs.Word.{tag_spelled, tag_of, number_word, pointer_word, header_word, forward_word, busy_word}
use Rattle.heap_words.specs.Decoded.{Decoded, NumberWord, PointerWord, HeaderWord, ForwardWord, BusyWord, Malformed, kind_spelled, decode_as, decode_forward, decode, encode, IsInRange}
use Rattle.heap_words.proofs.KindCodes.{kind_code-lt, kind_code-kind_spelled}
use Rattle.heap_words.proofs.Decoding.{decode-number_word, decode-pointer_word, decode-header_word, decode-forward_word, decode-busy_word}

-- ---- the spelling

-- a decoded word is this one, if it is not malformed
abbrev Spells : Decoded → ℕ → Type 0
Spells d w = d ≢ Malformed → encode d ≡ w

spells_if : (b : Bool) (d : Decoded) (w : ℕ) → encode d ≡ w → Spells (cond b d Malformed) w
spells_if true d w spelled formed = spelled
spells_if false d w spelled formed = absurd (formed refl)

spells-header : (w : ℕ) → w % 4 ≡ 2
    → header_word (kind_spelled (w / 4 % 4)) (w / 2 ^ 4 % 2 ^ 12) (w / 2 ^ 16 % 2 ^ 40) (w / 2 ^ 56) ≡ w
unfolding header_word
spells-header w tag =
    let code = kind_code-kind_spelled (w / 4 % 4) (omega arith) in rw code (omega arith)

spells-forward : (form w : ℕ) → w % 4 ≡ 3 → w / 4 % 4 ≡ form → Spells (decode_forward form w) w
unfolding forward_word busy_word
spells-forward zero w tag is formed = spells_if _ (ForwardWord (w / 2 ^ 4 % 2 ^ 12) (w / 2 ^ 16)) w (omega arith) formed
spells-forward (suc zero) w tag is formed = spells_if _ (BusyWord (w / 2 ^ 4 % 2 ^ 12) (w / 2 ^ 16)) w (omega arith) formed
spells-forward (suc (suc form)) w tag is formed = absurd (formed refl)

spells-tagged : (bits w : ℕ) → w % 4 ≡ bits → Spells (decode_as (tag_spelled bits) w) w
unfolding number_word pointer_word
spells-tagged zero w tag formed = spells_if _ (NumberWord (w / 4)) w (omega arith) formed
spells-tagged (suc zero) w tag formed = spells_if _ (PointerWord (w / 4)) w (omega arith) formed
spells-tagged (suc (suc zero)) w tag formed = spells-header w tag
spells-tagged (suc (suc (suc bits))) w tag formed = spells-forward (w / 4 % 4) w (omega arith) refl formed

pub encode-decode : (w : ℕ) → decode w ≢ Malformed → encode (decode w) ≡ w
unfolding decode tag_of
encode-decode w = spells-tagged (w % 4) w refl

-- the word that says this
spelled : (w : ℕ) (d : Decoded) → decode w ≡ d → d ≢ Malformed → w ≡ encode d
spelled w d is formed = sym (encode-decode w (λ malformed. formed (sym is ∙ malformed))) ∙ ap encode is

pub number_word-decode : (w n : ℕ) → decode w ≡ NumberWord n → w ≡ number_word n
number_word-decode w n is = spelled w (NumberWord n) is (λ e. cc)

pub pointer_word-decode : (w address : ℕ) → decode w ≡ PointerWord address → w ≡ pointer_word address
pointer_word-decode w address is = spelled w (PointerWord address) is (λ e. cc)

pub header_word-decode : (w : ℕ) (kind : Kind) (len serial mutator : ℕ) → decode w ≡ HeaderWord kind len serial mutator
    → w ≡ header_word kind len serial mutator
header_word-decode w kind len serial mutator is = spelled w (HeaderWord kind len serial mutator) is (λ e. cc)

pub forward_word-decode : (w len address : ℕ) → decode w ≡ ForwardWord len address → w ≡ forward_word len address
forward_word-decode w len address is = spelled w (ForwardWord len address) is (λ e. cc)

pub busy_word-decode : (w len worker : ℕ) → decode w ≡ BusyWord len worker → w ≡ busy_word len worker
busy_word-decode w len worker is = spelled w (BusyWord len worker) is (λ e. cc)

-- ---- the two directions

decode-malformed : decode 15 ≡ Malformed
unfolding decode tag_of
decode-malformed = refl

pub decode-encode : (d : Decoded) → IsInRange d → decode (encode d) ≡ d
decode-encode (NumberWord n) fits = decode-number_word n fits
decode-encode (PointerWord address) fits = decode-pointer_word address fits
decode-encode (HeaderWord kind len serial mutator) fits = decode-header_word kind len serial mutator fits.0 fits.1
decode-encode (ForwardWord len address) fits = decode-forward_word len address fits.0 fits.1
decode-encode (BusyWord len worker) fits = decode-busy_word len worker fits.0 fits.1
decode-encode Malformed fits = decode-malformed

pub encode-below : (d : Decoded) → IsInRange d → encode d < 2 ^ 64
unfolding number_word pointer_word header_word forward_word busy_word
encode-below (HeaderWord kind len serial mutator) fits = omega (arith, kind_code-lt kind)
encode-below _ fits = omega arith
