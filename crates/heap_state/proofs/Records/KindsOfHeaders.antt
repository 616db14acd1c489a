-- The kind that a header says, with the word after it.
use Rattle.std.proofs.Common.{◌≡◌, ℕ, ◌+◌, ◌<◌, refl, ap, ◌∙◌, arith}
use Rattle.plain_state.specs.declared.kind.Kind.{Kind}
use Rattle.plain_state.specs.declared.kind.Kind.TheVariants.{Mixed, Weak}
use Rattle.plain_state.specs.declared.sizes.TheConstants.{NUMBERS}
use Rattle.plain_state.specs.Layout.{is_field}
use Rattle.heap_words.specs.declared.kind.Kind.TheVariants as header
use Rattle.heap_words.specs.Word.{number_word}
use Rattle.heap_words.specs.Decoded.{NumberWord, decode}
use Rattle.heap_words.proofs.Decoding.{decode-number_word}
use Rattle.heap_state.specs.Invariant.Ghost.{header_kind, count_said, said_kind}
use Rattle.heap_state.specs.Invariant.Parts.Records.{RawWords, Counts}

-- a record's header, with the word after it, says the record's kind
said_kind-header_kind : (k : Kind) (next : ℕ) → ((count : ℕ) → k ≡ Mixed count → (next ≡ number_word count) × (next < NUMBERS)) → said_kind (header_kind k) next ≡ k
unfolding number_word
said_kind-header_kind (Mixed count) next says =
    let s = says count refl in
    ap (λ w. Mixed (count_said (decode w))) s.0 ∙ ap (λ d. Mixed (count_said d)) (decode-number_word count (omega (arith, s.0, s.1)))
said_kind-header_kind _ next says = refl

-- only a cell has a cell's header
pub weak_header : (k : Kind) → header_kind k ≡ header.Weak → k ≡ Weak
weak_header Weak e = refl
weak_header _ e = cc

module _ (size writer : ℕ → ℕ) (kind : ℕ → Kind) (heap : ℕ → ℕ) (raw_words : RawWords size writer kind heap) (counts : Counts size writer kind heap) (a : ℕ) (stands : 0 < size a) (written : writer a ≡ 0) where
  pub said_there : said_kind (header_kind (kind a)) (heap (a + 1)) ≡ kind a
  said_there = said_kind-header_kind (kind a) (heap (a + 1)) (λ count e.
      let n = counts.counts a count stands written e in
      (n.0, raw_words.raw a 1 stands written (omega arith) (omega (arith, n.1)) (ap (λ k. is_field k 1) e)))

  -- word 1 of a mixed record says its count
  pub count_there : (count : ℕ) → kind a ≡ Mixed count → decode (heap (a + 1)) ≡ NumberWord count
  unfolding number_word
  count_there count e =
      let n = counts.counts a count stands written e in
      let small = raw_words.raw a 1 stands written (omega arith) (omega (arith, n.1)) (ap (λ k. is_field k 1) e) in
      ap decode n.0 ∙ decode-number_word count (omega (arith, n.0, small))
