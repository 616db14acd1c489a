-- Where the values of a record stand.
use Rattle.std.proofs.Common.{◌≡◌, ℕ, ◌+◌, ◌<◌, ◌≤◌, true, false, nat_le, nat_lt, Option, length, refl, ap, ◌∙◌, arith, le-ltb}
use Rattle.std.proofs.lemmas.Bool.{and_parts, and_right, leb-true}
use Rattle.plain_state.specs.declared.kind.Kind.{Kind}
use Rattle.plain_state.specs.declared.kind.Kind.TheVariants.{Fields, Raw, Mixed, Weak}
use Rattle.plain_state.specs.declared.value.Value.{Value}
use Rattle.plain_state.specs.Layout.{is_field, is_raw, values_at, words_behind, word_of_value}
use Rattle.plain_state.specs.State as plain
use Rattle.heap_state.specs.Meaning.Values.{CountShows, Shows}

-- a word with a plain number is no field
pub raw_is_no_field : (k : Kind) (i : ℕ) → is_raw k i ≡ true → is_field k i ≡ false
raw_is_no_field Fields i e = cc
raw_is_no_field Raw i e = refl
raw_is_no_field (Mixed count) i e = and_right (nat_le 2 i) (nat_lt i (count + 2)) (le-ltb i (count + 2) (leb-true (count + 2) i e))
raw_is_no_field Weak i e = cc

-- values begin behind the header
pub values_behind_header : (k : Kind) → 0 < values_at k
values_behind_header Fields = omega arith
values_behind_header _ = omega arith

-- a field behind the header is a value
pub field_is_value : (k : Kind) (i : ℕ) → 0 < i → is_field k i ≡ true → values_at k ≤ i
field_is_value Fields i f e = omega (arith, f)
field_is_value Raw i f e = cc
field_is_value (Mixed count) i f e = leb-true 2 i (and_parts (nat_le 2 i) (nat_lt i (count + 2)) e).0
field_is_value Weak i f e = cc

-- behind the values of a record that has a field or a plain number there is no word
none_behind_fields : (k : Kind) (i : ℕ) → is_field k i ≡ true → words_behind k ≡ 0
none_behind_fields Weak i e = cc
none_behind_fields _ i e = refl

none_behind_numbers : (k : Kind) (i : ℕ) → is_raw k i ≡ true → words_behind k ≡ 0
none_behind_numbers Weak i e = cc
none_behind_numbers _ i e = refl

-- each value of a record stands behind the header, and within the record
pub value_within : {denotes : ℕ → Option Value} {heap : ℕ → ℕ} {a z : ℕ} {k : Kind} (r : plain.Record) → Shows denotes heap a k z r → (x : ℕ) → x < length r.values
    → (0 < word_of_value k x) × (word_of_value k x < z)
value_within {k = k} r s x l = let e = s.size in let b = ap values_at s.kind in (omega (arith, values_behind_header k), omega (arith, l, e, b))

-- a field and a plain number are values
pub field_within : {denotes : ℕ → Option Value} {heap : ℕ → ℕ} {a z : ℕ} {k : Kind} (r : plain.Record) → Shows denotes heap a k z r → (x : ℕ) → is_field k (word_of_value k x) ≡ true → word_of_value k x < z
    → x < length r.values
field_within {k = k} r s x f l = let e = s.size in let b = ap values_at s.kind in let n = ap words_behind s.kind ∙ none_behind_fields k (word_of_value k x) f in omega (arith, l, e, b, n)

pub number_within : {denotes : ℕ → Option Value} {heap : ℕ → ℕ} {a z : ℕ} {k : Kind} (r : plain.Record) → Shows denotes heap a k z r → (x : ℕ) → is_raw k (word_of_value k x) ≡ true → word_of_value k x < z
    → x < length r.values
number_within {k = k} r s x f l = let e = s.size in let b = ap values_at s.kind in let n = ap words_behind s.kind ∙ none_behind_numbers k (word_of_value k x) f in omega (arith, l, e, b, n)

-- the count of a record's fields stands where the word behind the header is as it was
pub count_stays : {denotes : ℕ → Option Value} {heap : ℕ → ℕ} {a z : ℕ} {k : Kind} (r : plain.Record) → Shows denotes heap a k z r → (changed : ℕ → ℕ) (b : ℕ)
    → (1 < values_at k → 1 < z → is_field k 1 ≡ false → changed (b + 1) ≡ heap (a + 1)) → CountShows k changed b
count_stays {heap = heap} {a = a} {z = z} {k = k} r s changed b same = let e = s.size in let n = ap values_at s.kind in by_kind k (omega (arith, e, n)) same s.count
  where
    by_kind : (k : Kind) → values_at k ≤ z → (1 < values_at k → 1 < z → is_field k 1 ≡ false → changed (b + 1) ≡ heap (a + 1)) → CountShows k heap a → CountShows k changed b
    by_kind (Mixed count) room same shows = same (omega arith) room refl ∙ shows
    by_kind _ room same shows = tt
