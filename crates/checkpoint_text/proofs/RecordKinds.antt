-- The kinds of records, by their headers and their word 1.
use Rattle.std.proofs.Common.{◌≡◌, ℕ, ◌+◌, ◌<◌, ◌≤◌, true, unwrap_or, refl, ap, subst, arith}
use Rattle.std.specs.Bool.{⊤}
use Rattle.std.proofs.lemmas.Bool.{le-leb, lt-ltb}
use Rattle.heap_words.specs.Decoded.{NumberWord, decode, number_in}
use Rattle.plain_state.specs.declared.kind.Kind.{Kind}
use Rattle.plain_state.specs.declared.kind.Kind.TheVariants.{Fields, Raw, Mixed, Weak}
use Rattle.plain_state.specs.Layout.{is_field, is_raw, word_of_value, values_at, words_behind}
use Rattle.heap_state.specs.Invariant.Ghost.{header_kind}
use Rattle.checkpoint_text.specs.Records.{denoted_by, fields_by, kind_with, words_after, words_before}

-- word 1 of a mixed record says the count of its fields
abbrev pub SaysCount : Kind → (next : ℕ) → Type 0
SaysCount (Mixed count) next = decode next ≡ NumberWord count
SaysCount _ next = ⊤

count_read : (count next : ℕ) → decode next ≡ NumberWord count → unwrap_or (number_in (decode next)) 0 ≡ count
count_read count next says = ap (λ d. unwrap_or (number_in d) 0) says

pub kind_is : (k : Kind) (len next : ℕ) → SaysCount k next → kind_with (header_kind k) (fields_by (header_kind k) len next) ≡ k
kind_is (Mixed count) len next says = ap Mixed (count_read count next says)
kind_is _ len next says = refl

pub before_is : (k : Kind) → words_before (header_kind k) ≡ values_at k
before_is Fields = refl
before_is _ = refl

pub after_is : (k : Kind) → words_after (header_kind k) ≡ words_behind k
after_is Fields = refl
after_is _ = refl

pub some_before : (k : Kind) → 1 ≤ values_at k
some_before Fields = omega arith
some_before _ = omega arith

pub field_is : (k : Kind) (len next x : ℕ) → SaysCount k next → x < len → x < fields_by (header_kind k) len next → is_field k (word_of_value k x) ≡ true
field_is Fields len next x says within front = refl
field_is Raw len next x says within front = absurd (omega (arith, front))
field_is (Mixed count) len next x says within front =
    let low : x < count = subst (λ (n : ℕ). x < n) (count_read count next says) front in
    rw (le-leb 2 (x + 2) (omega arith), lt-ltb (x + 2) (count + 2) (omega (arith, low))) refl
field_is Weak len next x says within front = absurd (omega (arith, front))

-- a value that no word denotes as in a field is a plain number, if a cell has one value
pub raw_is : (k : Kind) (len next x : ℕ) → SaysCount k next → (k ≡ Weak → len ≡ 1) → x < len → denoted_by (header_kind k) (fields_by (header_kind k) len next) ≤ x → is_raw k (word_of_value k x) ≡ true
raw_is Fields len next x says one within behind = absurd (omega (arith, within, behind))
raw_is Raw len next x says one within behind = refl
raw_is (Mixed count) len next x says one within behind =
    let high : count ≤ x = subst (λ (n : ℕ). n ≤ x) (count_read count next says) behind in
    le-leb (count + 2) (x + 2) (omega (arith, high))
raw_is Weak len next x says one within behind = absurd (omega (arith, within, behind, one refl))

-- ---- the target of a cell

-- a value that a word denotes, but that is in no field, is the target of a cell
pub target_is : (k : Kind) (fields x : ℕ) → x < denoted_by (header_kind k) fields → fields ≤ x → (x ≡ 0) × (k ≡ Weak)
target_is Weak fields x within behind = (omega (arith, within), refl)
target_is _ fields x within behind = absurd (omega (arith, within, behind))

-- a record has none if one of its words is a field
pub no_target : (k : Kind) (fields i : ℕ) → is_field k i ≡ true → denoted_by (header_kind k) fields ≡ fields
no_target Weak fields i field = cc
no_target _ fields i field = refl
