-- The words of a seed, one after another.
use Rattle.std.proofs.Common.{◌≡◌, ℕ, ◌+◌, ◌*◌, zero, suc, List, ◌++◌, refl, sym, ap, ap₂, add-one, ◌∙◌, arith}
use Rattle.std.specs.Fn.{iterate}
use Rattle.rand_xoshiro.specs.SplitMix64.{mix_u64, next_state}
use Rattle.benchmark.specs.declared.keys.Keys.{Keys}
use Rattle.benchmark.specs.Text.{keys_by, keys_of, section_text, sections_text}

-- once more, behind all others
pub iterate-next : {A : Type 0} (h : A → A) (n : ℕ) (x : A) → iterate h (n + 1) x ≡ h (iterate h n x)
iterate-next h zero x = refl
iterate-next h (suc n) x = rw add-one (rw add-one at (iterate-next h n (h x)))

-- and twice
pub iterate_two : {A : Type 0} (h : A → A) (n : ℕ) (x : A) → iterate h (2 * (n + 1)) x ≡ h (h (iterate h (2 * n) x))
iterate_two h n x =
    let two : 2 * (n + 1) ≡ 2 * n + 1 + 1 = omega arith in
    rw (two, iterate-next h (2 * n + 1) x, iterate-next h (2 * n) x) refl

-- ---- the text so far

-- the section of one more mutator
pub one_more : (count seed m words : ℕ) (keys : Keys) (before after : List ℕ) → words ≡ iterate next_state (2 * m) seed → before ≡ sections_text count seed m
    → keys ≡ keys_by count (mix_u64 words).0 (mix_u64 (next_state words)).0 → after ≡ before ++ section_text count keys → after ≡ sections_text count seed (m + 1)
unfolding sections_text
one_more count seed m words keys before after words_are before_is keys_are after_is =
    let by = λ (x y : ℕ). keys_by count (mix_u64 x).0 (mix_u64 y).0 in
    let next : next_state words ≡ iterate next_state (2 * m + 1) seed = ap next_state words_are ∙ sym (iterate-next next_state (2 * m) seed) in
    let drawn : keys ≡ keys_of count seed m = keys_are ∙ ap₂ by words_are next in
    rw add-one (after_is ∙ ap₂ (λ text k. text ++ section_text count k) before_is drawn)
