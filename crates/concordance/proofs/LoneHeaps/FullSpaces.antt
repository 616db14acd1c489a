-- A heap that is full for the only clerk is one that may be full for the text.
use Rattle.std.proofs.Common.{◌≡◌, ℕ, ◌+◌, ◌-◌, ◌*◌, ◌/◌, ◌^◌, ◌<◌, ◌≤◌, zero, suc, Bool, true, false, cond, Some, Result, Ok, Err, List, [], ◌∷◌, flat_map, length, refl, sym, ap, ◌∙◌, subst, arith}
use Rattle.std.specs.Prelude.{IsErrAnd, IsErrOf, count_by, slice_get}
use Rattle.std.specs.List.{onto_first, slice_split, sum_by}
use Rattle.std.proofs.lemmas.List.{append-nil, length-append, length-map}
use Rattle.std.proofs.lemmas.List.Splits.{length-slice_split}
use Rattle.std.proofs.lemmas.List.Sums.{count_by-le-length, length-filter, sum_by-cons}
use Rattle.std.proofs.lemmas.Option.{same_Some, slice_get_within}
use Rattle.plain_state.specs.declared.sizes.TheConstants.{PAGE_WORDS}
use Rattle.plain_state.specs.Layout.{size_of}
use Rattle.plain_state.specs.State.{serial_of}
use Rattle.ael_threads.specs.declared.view.Plan.{Plan}
use Rattle.concordance_text.specs.declared.part.Part.{Part}
use Rattle.concordance_text.specs.MayBeFull.{MayBeFull}
use Rattle.concordance_text.specs.Parts.{mentions_of_part}
use Rattle.concordance_text.specs.Rows.{AreRowsOf}
use Rattle.concordance_text.specs.Words.{Mention, ends_line, is_some_run, lines_of, lower_cased, mention, mentions_from, mentions_in, mentions_of, separates, words_in}
use Rattle.concordance_text.proofs.Existence.{are_rows, rows_for}
use Rattle.concordance.specs.declared.error.ConcordError.{ConcordError}
use Rattle.concordance.specs.declared.error.ConcordError.TheVariants.{HeapFull}
use Rattle.concordance.specs.Full.{WasFullFor, words_made}
use Rattle.concordance.specs.Lone.{alone_by, desk_of}
use Rattle.concordance.specs.OneMutator.{IsWhole}
use Rattle.concordance.specs.Working.{WasFullForOne, SharedHeap}
use Rattle.concordance.proofs.LoneHeaps.DoneCalls.{lone_calls_are_done}
use Rattle.concordance.proofs.LoneHeaps.FullHeaps.{lone_fulls_are_filled}

-- ---- how many words a text has

-- a piece has at least no bytes, and one separator stands between two
abbrev with_end : List ℕ → ℕ
with_end piece = length piece + 1

first_more : (x : ℕ) (pieces : List (List ℕ)) → 0 < length pieces → sum_by with_end (onto_first x pieces) ≡ sum_by with_end pieces + 1
first_more x [] some = absurd (omega (arith, some))
first_more x (p ∷ ps) some = let before = sum_by-cons with_end p ps in let after = sum_by-cons with_end (x ∷ p) ps in omega (arith, before, after)

pieces_fill : (p : ℕ → Bool) (xs : List ℕ) → sum_by with_end (slice_split p xs) ≡ length xs + 1
pieces_fill p [] = refl
pieces_fill p (x ∷ xs) = by_test (p x) (pieces_fill p xs) (length-slice_split p xs)
  where
    by_test : (b : Bool) → sum_by with_end (slice_split p xs) ≡ length xs + 1 → length (slice_split p xs) ≡ count_by p xs + 1
        → sum_by with_end (cond b ([] ∷ slice_split p xs) (onto_first x (slice_split p xs))) ≡ length (x ∷ xs) + 1
    by_test true more many = let e = sum_by-cons with_end [] (slice_split p xs) in omega (arith, more, e)
    by_test false more many = let e = first_more x (slice_split p xs) (omega (arith, many)) in omega (arith, more, e)

abbrev told : (n : ℕ) → List ℕ → Mention
told n word = mention (lower_cased word) n

words_few : (n : ℕ) (line : List ℕ) → length (mentions_in n line) ≤ with_end line
words_few n line =
    let pieces = slice_split separates line in
    let kept = length-filter is_some_run pieces in
    let fewer = count_by-le-length is_some_run pieces in
    let split = length-slice_split separates line in
    let separators = count_by-le-length separates line in
    let as_many = length-map (words_in line) (told n) in
    omega (arith, kept, fewer, split, separators, as_many)

mentions_few : (n : ℕ) (lines : List (List ℕ)) → length (mentions_from n lines) ≤ sum_by with_end lines
mentions_few n [] = omega arith
mentions_few n (line ∷ lines) =
    let both = length-append (mentions_in n line) (mentions_from (n + 1) lines) in
    let first = words_few n line in
    let more = mentions_few (n + 1) lines in
    let fill = sum_by-cons with_end line lines in
    omega (arith, both, first, more, fill)

text_few : (text : List ℕ) → length (mentions_of text) ≤ length text + 1
text_few text = let few = mentions_few 1 (lines_of text) in let fill = pieces_fill ends_line text in omega (arith, few, fill)

-- ---- the heap

two_pages : (size asked : ℕ) → size ≤ 65 → asked ≡ (size + (PAGE_WORDS - 1)) / PAGE_WORDS → asked ≤ 2
two_pages size asked short is = omega arith

-- fewer than four pages for each word, and two
pages_few : (pages room asked made words : ℕ) → PAGE_WORDS * pages ≤ room + made → made ≤ 74 * words → room < PAGE_WORDS * asked → asked ≤ 2 → pages < 4 * words + 2
pages_few pages room asked made words filled few short two = omega arith

module _ (plan : Plan) (text : List ℕ) (mentions : List Mention) (asked room : ℕ) (short : length text ≤ 2 ^ 20) (one : plan.mutators ≡ 1) (whole : IsWhole plan) (same : mentions ≡ mentions_of text) (f : WasFullFor plan 0 mentions asked room) where
  made_is : words_made (alone_by f.here).heap 0 ≡ sum_by size_of (desk_of f.here).records
  unfolding desk_of
  made_is = ap (words_made (alone_by f.here).heap) (sym f.number_is)

  serial_is : serial_of (alone_by f.here).heap 0 ≡ length (desk_of f.here).records
  unfolding desk_of
  serial_is = ap (serial_of (alone_by f.here).heap) (sym f.number_is)

  few_serials : serial_of (alone_by f.here).heap 0 + 1 < 2 ^ 32 - 1
  few_serials =
      let few = f.few_records in
      let words = text_few text in
      let as_many = ap length same in
      let is = serial_is in
      omega (arith, few, words, as_many, is, short)

  filled : PAGE_WORDS * plan.spaces.pages ≤ room + sum_by size_of (desk_of f.here).records
  filled =
      let single = ap (λ (q : Plan). q.mutators) f.plan_is ∙ one in
      let full = lone_fulls_are_filled f.here f.then f.instr asked room f.full.live f.lone single (subst IsWhole (sym f.plan_is) whole) f.number_is (lone_calls_are_done f.here f.lone f.shows) few_serials f.full.called in
      subst (λ (z : Plan × ℕ). PAGE_WORDS * z.0.spaces.pages ≤ room + z.1) (λ i. (f.plan_is i, made_is i)) full

  too_small : MayBeFull plan.spaces.pages text asked room
  too_small =
      let rows = rows_for (mentions_of text) in
      let are = are_rows (mentions_of text) in
      let two = two_pages _ asked f.short f.full.asked_is in
      let fills = filled in
      let needed = f.needed rows (subst (λ (ms : List Mention). AreRowsOf ms rows) (sym same) are) in
      record {
        rows = rows;
        are = are;
        few_asked = two;
        no_room = f.full.called.full.short;
        few_pages = pages_few plan.spaces.pages room asked (sum_by size_of (desk_of f.here).records) (length (mentions_of text)) fills (subst (λ (ms : List Mention). sum_by size_of (desk_of f.here).records ≤ 74 * length ms) same f.few_words) f.full.called.full.short two;
        filled = omega (arith, fills, needed);
      }

-- the whole text is its only part
one_part : (parts : List Part) (place : ℕ) (part : Part) → length parts ≡ 1 → slice_get parts place ≡ Some part → (place ≡ 0) × (mentions_of_part part ≡ flat_map mentions_of_part parts)
one_part [] place part many is = absurd (omega (arith, many))
one_part (p ∷ []) zero part many is = (refl, ap mentions_of_part (same_Some part p (sym is)) ∙ sym (append-nil (mentions_of_part p)))
one_part (p ∷ []) (suc n) part many is = absurd (let within = slice_get_within (p ∷ []) (suc n) part is in omega (arith, within))
one_part (p ∷ q ∷ ps) place part many is = absurd (omega (arith, many))

-- A heap with one clerk was full for it.
pub may_be_full_alone : (w : SharedHeap) (text : List ℕ) (parts : List Part) (asked room : ℕ) → length text ≤ 2 ^ 20 → w.plan.mutators ≡ 1 → IsWhole w.plan → length parts ≡ 1 → flat_map mentions_of_part parts ≡ mentions_of text
    → WasFullForOne w 0 parts asked room → MayBeFull w.plan.spaces.pages text asked room
may_be_full_alone w text parts asked room short one whole many same f =
    let only = one_part parts f.place f.part many f.is in
    let first : 0 + f.place ≡ 0 = (let zero_is = only.0 in omega (arith, zero_is)) in
    too_small w.plan text (mentions_of_part f.part) asked room short one whole (only.1 ∙ same) (subst (λ (k : ℕ). WasFullFor w.plan k (mentions_of_part f.part) asked room) first f.full)

-- what comes of an error that is handed on
pub handed_on : {S T : Type 0} (Q : ℕ → ℕ → Type 0) (noted : Result S ConcordError) (r : Result T ConcordError) (e : ConcordError) → noted ≡ Err e → IsErrAnd r (λ f. f ≡ e)
    → ((asked room : ℕ) → IsErrOf noted (HeapFull asked room) → Q asked room) → (asked room : ℕ) → IsErrOf r (HeapFull asked room) → Q asked room
handed_on Q noted (Ok x) e was same full asked room is = absurd (cc)
handed_on Q noted (Err f) e was same full asked room is = let whole : f ≡ HeapFull asked room = cc in full asked room (was ∙ ap Err (sym same ∙ whole))
