-- How much stands before a line, line by line.
use Rattle.std.proofs.Common.{◌≡◌, ℕ, zero, suc, ◌+◌, ◌<◌, ◌≤◌, Bool, true, false, cond, List, [], ◌∷◌, ◌++◌, length, get_or, take, drop, Option, refl, sym, ap, ◌∙◌, arith}
use Rattle.std.specs.Prelude.{count_by}
use Rattle.std.specs.List.{slice_split}
use Rattle.std.proofs.Math.Seq.{take-append_seam, take-nil}
use Rattle.std.proofs.lemmas.Grind.{get_or_after_one}
use Rattle.std.proofs.lemmas.List.{append-nil, length-append, length-map, length-drop, length-take-le, take_all, take_more, get_or-map}
use Rattle.std.proofs.lemmas.List.Concat.{flat_map-append}
use Rattle.std.proofs.lemmas.List.Splits.{length-slice_split}
use Rattle.std.proofs.lemmas.List.Sums.{count_by-le-length, sum_by_push, sum_by-take-le}
use Rattle.program_text.specs.declared.text.before.Before.{Before}
use Rattle.mutator_asm.specs.declared.mistake.Mistake.{Mistake}
use Rattle.program_text.specs.declared.text.line.Line.{Line as Read}
use Rattle.program_text.specs.declared.text.part.Part.{Part}
use Rattle.program_text.specs.Labels.{lines_since, before_of, and_line}
use Rattle.mutator_asm.specs.Line.{Line}
use Rattle.program_text.specs.Part.{part_view, parts_view}
use Rattle.program_text.specs.Read.{line_view, lines_view}
use Rattle.mutator_asm.specs.Text.{begins_section, counts, items_on, schedule_of, sections_in, section_no, has_label, error_by, error_of, IsCleanUpTo}
use Rattle.mutator_asm.proofs.Texts.Clean.{cut_at, error_at}
use Rattle.mutator_asm.proofs.Lists.Seams.{seam, later}
use Rattle.program_text.proofs.Programs.Sections.{part_short}

-- ---- one line more

since_step : (b : Bool) (xs : List Line) (l : Line) (m : ℕ) → begins_section l ≡ b → m ≡ count_by begins_section xs + cond b 1 0 → length (get_or (slice_split begins_section (xs ++ l ∷ [])) m []) ≡ cond b 0 (length (lines_since xs) + 1)
since_step true xs l m h e =
    let last : get_or (slice_split begins_section (l ∷ [])) 1 [] ≡ [] = rw h refl in
    rw (e, later begins_section xs (l ∷ []) 0, last) refl
since_step false xs l m h e =
    let same : m ≡ count_by begins_section xs = omega arith in
    let first : get_or (slice_split begins_section (l ∷ [])) 0 [] ≡ l ∷ [] = rw h refl in
    rw (same, seam begins_section xs (l ∷ []), first) (length-append (lines_since xs) (l ∷ []))

items_push : (xs : List Line) (l : Line) → length (schedule_of (xs ++ l ∷ [])) ≡ length (schedule_of xs) + length (items_on l)
items_push xs l = rw (flat_map-append items_on xs (l ∷ []), append-nil (items_on l)) (length-append (schedule_of xs) (items_on l))

abbrev before_with : ℕ → ℕ → ℕ → ℕ → Before
before_with sections lines instrs items = record { sections = sections; lines = lines; instrs = instrs; items = items }

same_fields : (a b c d e f g h : ℕ) → a ≡ b → c ≡ d → e ≡ f → g ≡ h → before_with a c e g ≡ before_with b d f h
same_fields a b c d e f g h p q r s = rw (p, q, r, s) refl

same_before : (a b : Before) → a.sections ≡ b.sections → a.lines ≡ b.lines → a.instrs ≡ b.instrs → a.items ≡ b.items → a ≡ b
same_before a b e f g h = same_fields a.sections b.sections a.lines b.lines a.instrs b.instrs a.items b.items e f g h

before_push : (xs : List Line) (l : Line) → before_of (xs ++ l ∷ []) ≡ and_line (before_of xs) l
unfolding before_of
before_push xs l =
    let sections = sum_by_push (λ y. cond (begins_section y) 1 0) xs l in
    same_before (before_of (xs ++ l ∷ [])) (and_line (before_of xs) l) sections (since_step (begins_section l) xs l (count_by begins_section (xs ++ l ∷ [])) refl sections) (sum_by_push (λ y. cond (counts y) 1 0) xs l) (items_push xs l)

pub before_more : (lines : List Line) (i : ℕ) (l : Line) → i < length lines → l ≡ get_or lines i l → and_line (before_of (take i lines)) l ≡ before_of (take (i + 1) lines)
before_more lines i l lt is =
    let more : take (i + 1) lines ≡ take i lines ++ l ∷ [] = take_more lines i l lt ∙ ap (λ (x : Line). take i lines ++ x ∷ []) (sym is) in
    sym (ap before_of more ∙ before_push (take i lines) l)

-- ---- how much it can be

pub record IsFew (before : Before) (n : ℕ) : Type 0 where
  pub sections : before.sections ≤ n
  pub lines : before.lines ≤ n
  pub instrs : before.instrs ≤ n

few_before : (lines : List Line) (i : ℕ) (before : Before) → i ≤ length lines → before ≡ before_of (take i lines) → IsFew before i
unfolding before_of
few_before lines i before le is =
    let xs = take i lines in
    let len : length xs ≡ i = length-take-le i lines le in
    let inside : count_by begins_section xs < length (slice_split begins_section xs) = omega (arith, length-slice_split begins_section xs) in
    rw is (record {
      sections = omega (arith, count_by-le-length begins_section xs);
      lines = omega (arith, part_short begins_section xs (count_by begins_section xs) [] inside);
      instrs = omega (arith, count_by-le-length counts xs);
    })

-- the same before a line that was read
pub few_read : (ls : List Read) (i : ℕ) (before : Before) → i < length ls → before ≡ before_of (take i (lines_view ls)) → IsFew before i
few_read ls i before lt is = few_before (lines_view ls) i before (omega (arith, length-map ls line_view)) is

-- ---- the section of a line

prefix_at : (k : ℕ) (before rest : List Line) → count_by begins_section before ≡ k → take (length (lines_since before)) (section_no (before ++ rest) k) ≡ section_no before k
prefix_at zero before rest e = take-nil (length (lines_since before))
prefix_at (suc j) before rest e =
    let next : 1 + j ≡ count_by begins_section before = omega arith in
    rw (get_or_after_one (slice_split begins_section (before ++ rest)) j [], get_or_after_one (slice_split begins_section before) j [], next, seam begins_section before rest) (take-append_seam (lines_since before) (get_or (slice_split begins_section rest) 0 []))

-- the lines of a section that stand before a line of it
prefix : (before rest : List Line) → take (length (lines_since before)) (section_no (before ++ rest) (count_by begins_section before)) ≡ section_no before (count_by begins_section before)
prefix before rest = prefix_at (count_by begins_section before) before rest refl

-- the table, at a line
pub error_row : (lines : List Line) (i : ℕ) (l : Line) (before : Before) → i < length lines → l ≡ get_or lines i l → before ≡ before_of (take i lines)
    → error_by (has_label (section_no lines before.sections)) (has_label (take before.lines (section_no lines before.sections))) before.sections before.instrs before.items l ≡ error_at lines i l
unfolding before_of error_at error_of
error_row lines i l before lt is b-is =
    let xs = take i lines in
    let rest = get_or lines i l ∷ drop (i + 1) lines in
    let cut : xs ++ rest ≡ lines = sym (cut_at lines i l lt) in
    let front : take (length (lines_since xs)) (section_no lines (count_by begins_section xs)) ≡ section_no xs (count_by begins_section xs) = rw cut at (prefix xs rest) in
    rw (b-is, cut, front, ← is) refl

-- ---- the sections that the code keeps

part_at : (parts : List Part) (lines : List Line) (k : ℕ) (x : Part) → parts_view parts ≡ [] ∷ sections_in lines → k < length parts → x ≡ get_or parts k x → part_view x ≡ section_no lines k
part_at parts lines k x e lt is =
    ap part_view is ∙ sym (get_or-map part_view parts k x [] lt) ∙ ap (λ (ss : List (List Line)). get_or ss k []) e

pub parts_enough : (parts : List Part) (lines : List Line) (i : ℕ) (before : Before) → parts_view parts ≡ [] ∷ sections_in lines → before ≡ before_of (take i lines) → before.sections < length parts
unfolding before_of
parts_enough parts lines i before e is =
    let split = slice_split begins_section lines in
    rw is (omega (arith, length-map parts part_view, ap length e, length-drop 1 split, length-slice_split begins_section lines, sum_by-take-le (λ l. cond (begins_section l) 1 0) lines i))

-- ---- a line that was read

pub read_at : (ls : List Read) (i : ℕ) (x : Read) → i < length ls → x ≡ get_or ls i x → line_view x ≡ get_or (lines_view ls) i (line_view x)
read_at ls i x lt is = ap line_view is ∙ sym (get_or-map line_view ls i x (line_view x) lt)

pub error_here : (ls : List Read) (parts : List Part) (i : ℕ) (x : Read) (part : Part) (before : Before) (o : Option Mistake) → i < length ls → x ≡ get_or ls i x → before ≡ before_of (take i (lines_view ls)) → parts_view parts ≡ [] ∷ sections_in (lines_view ls) → part ≡ get_or parts before.sections part
    → o ≡ error_by (has_label (part_view part)) (has_label (take before.lines (part_view part))) before.sections before.instrs before.items (line_view x)
    → error_at (lines_view ls) i (line_view x) ≡ o
error_here ls parts i x part before o lt is b-is e part-is here =
    let lines = lines_view ls in
    let inside : i < length lines = rw (length-map ls line_view) lt in
    let same = part_at parts lines before.sections part e (parts_enough parts lines i before e b-is) part-is in
    sym (error_row lines i (line_view x) before inside (read_at ls i x lt is) b-is) ∙ sym (rw same at here)

-- all lines were read
pub record IsAllRead (ls : List Read) (before : Before) : Type 0 where
  pub sections : before.sections ≡ count_by begins_section (lines_view ls)
  pub clean : IsCleanUpTo (length (lines_view ls)) (lines_view ls)

pub all_read : (ls : List Read) (i : ℕ) (before : Before) → length ls ≤ i → i ≤ length ls → before ≡ before_of (take i (lines_view ls)) → IsCleanUpTo i (lines_view ls) → IsAllRead ls before
unfolding before_of
all_read ls i before ge le is clean =
    let lines = lines_view ls in
    let end : i ≡ length lines = omega (arith, length-map ls line_view) in
    let whole : take i lines ≡ lines = take_all i lines (omega arith) in
    record {
      sections = ap (λ (b : Before). b.sections) is ∙ ap (count_by begins_section) whole;
      clean = rw end at clean;
    }
