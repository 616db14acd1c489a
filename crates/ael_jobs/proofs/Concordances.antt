-- Long words, and heaps that suffice for a concordance.
use Rattle.std.proofs.Common.{◌≡◌, false, ◌≤◌, ◌*◌, ◌+◌, ℕ, List, [], ◌∷◌, ◌++◌, Option, Some, None, refl, sym, subst, ◌∙◌, true≢false, arith}
use Rattle.std.specs.List.{AllByRecursion, position_from}
use Rattle.plain_state.specs.declared.sizes.TheConstants.{PAGE_WORDS}
use Rattle.concordance_text.specs.MayBeFull.{MayBeFull}
use Rattle.concordance_text.specs.Theorems.{OneListOfRows}
use Rattle.concordance_text.specs.Rows.{need}
use Rattle.concordance_text.specs.Words.{HasShortWords, IsFirstTooLong, has_long_word, lines_of, mentions_of}
use Rattle.concordance_text.proofs.LongWords.{none, number_found}
use Rattle.ael_jobs.specs.Calls.Concordance.{SufficesFor, ByRows, ByWords}

-- ---- long words

-- what is so of all elements is so of one between others
between : {A : Type 0} (P : A → Type 0) (front : List A) (x : A) (back : List A) → AllByRecursion P (front ++ x ∷ back) → P x
between P [] x back all = all.0
between P (y ∷ front) x back all = between P front x back all.1

-- a text of short words has no line with a long one
pub never_long : (text : List ℕ) (line : ℕ) → HasShortWords text → IsFirstTooLong text line → ⊥
never_long text line short first =
    let P : List ℕ → Type 0 = λ l. has_long_word l ≡ false in
    true≢false (sym first.long ∙ between P first.before first.line first.after (subst (AllByRecursion P) first.lines short))

-- and each other text has one
pub short_words : (text : List ℕ) → ((line : ℕ) → IsFirstTooLong text line → ⊥) → HasShortWords text
short_words text never = by (position_from has_long_word 0 (lines_of text)) refl
  where
    by : (found : Option ℕ) → position_from has_long_word 0 (lines_of text) ≡ found → HasShortWords text
    by None is = none has_long_word (lines_of text) 0 is
    by (Some place) is = absurd (never (place + 1) (number_found text place (place + 1) is refl))

-- ---- the heap

-- a heap that suffices for the concordance isn't one that may be full for it
pub never_full : OneListOfRows → (pages : ℕ) (text : List ℕ) (asked room : ℕ) → SufficesFor pages text → MayBeFull pages text asked room → ⊥
never_full one pages text asked room (ByWords large) small = let few = small.few_pages in omega (arith, large, few)
never_full one pages text asked room (ByRows rows are large) small =
    let same : rows ≡ small.rows = one (mentions_of text) rows small.rows are small.are in
    let filled : PAGE_WORDS * pages ≤ room + need rows = rw same small.filled in
    let few = small.few_asked in
    let no_room = small.no_room in
    omega (arith, large, filled, few, no_room)
