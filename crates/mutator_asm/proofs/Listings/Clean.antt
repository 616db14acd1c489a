-- No line of a listing has an error.
use Rattle.std.proofs.Common.{◌≡◌, ℕ, ◌+◌, ◌<◌, ◌≤◌, true, cond, List, [], ◌∷◌, ◌++◌, length, get_or, None, refl, sym, ap, ◌∙◌, add-one, arith}
use Rattle.std.specs.Prelude.{count_by, sum_by}
use Rattle.std.specs.List.{All, slice_split, flat_map, list_all}
use Rattle.std.proofs.lemmas.Bool.{and_parts}
use Rattle.std.proofs.lemmas.Grind.{get_or_after_one}
use Rattle.std.proofs.lemmas.List.{append-nil, append_assoc, length-append}
use Rattle.std.proofs.lemmas.List.Elements.{All-head, All-tail}
use Rattle.std.proofs.lemmas.List.Sums.{sum_by-cons}
use Rattle.plain_state.specs.declared.sizes.TheConstants.{MOST_INSTRS, MOST_MUTATORS}
use Rattle.mutator_asm.specs.declared.instr.Instr.{Instr}
use Rattle.mutator_asm.specs.declared.item.Item.{Item}
use Rattle.mutator_asm.specs.Line.{Nothing, Begins, Schedules, Line, unlabelled}
use Rattle.mutator_asm.specs.Program.{IsWellFormed, is_closed}
use Rattle.mutator_asm.specs.Text.{begins_section, counts, schedule_of, section_no, has_label, error_by, error_of, IsCleanUpTo}
use Rattle.mutator_asm.proofs.Texts.Clean.{error_is, clean_none, clean_more}
use Rattle.mutator_asm.proofs.Listings.Lines.{body_read, section_read, listed}
use Rattle.mutator_asm.proofs.Listings.Code.{body_begins, body_counts}
use Rattle.mutator_asm.proofs.Listings.Labels.{IsFound, not_again, body_found}
use Rattle.mutator_asm.proofs.Listings.ErrorRows.{schedule_row, begin_row, blank_row, section_row, IsInSection, body_in_section}
use Rattle.mutator_asm.proofs.Lists.Tests.{count_by-append, count_by-cons}
use Rattle.mutator_asm.proofs.Lists.Seams.{later, first_on}

-- one more line without an error
clean_next : (lines before : List Line) (line : Line) (after : List Line) → lines ≡ before ++ line ∷ after → error_of before line after ≡ None → IsCleanUpTo (length before) lines → IsCleanUpTo (length before + 1) lines
clean_next lines before line after cut none clean = clean_more lines (length before) line (sym (error_is lines before line after line cut) ∙ none) clean

-- ---- a section

-- a section goes on to the next line that begins one
section_at : (front part rest : List Line) → count_by begins_section part ≡ 0 → section_no (front ++ (unlabelled (Begins true) ∷ (part ++ rest))) (count_by begins_section front + 1) ≡ part ++ get_or (slice_split begins_section rest) 0 []
section_at front part rest none =
    let back = unlabelled (Begins true) ∷ (part ++ rest) in
    let split = slice_split begins_section (front ++ back) in
    let number : 1 + count_by begins_section front ≡ count_by begins_section front + 1 = omega arith in
    let here : get_or split (count_by begins_section front + 1) [] ≡ get_or (slice_split begins_section (part ++ rest)) 0 [] = later begins_section front back 0 in
    rw (add-one) (get_or_after_one split (count_by begins_section front) [] ∙ ap (λ (n : ℕ). get_or split n []) number ∙ here ∙ first_on begins_section part rest none)

-- a line has no error where the table says so by its section
in_section : (lines front part : List Line) (line : Line) (rest : List Line) → lines ≡ front ++ (unlabelled (Begins true) ∷ (part ++ line ∷ rest)) → count_by begins_section part ≡ 0
    → ((items : ℕ) → error_by (has_label (section_no lines (count_by begins_section front + 1))) (has_label part) (count_by begins_section front + 1) (count_by counts front + count_by counts part) items line ≡ None)
    → IsCleanUpTo (length front + 1 + length part) lines → IsCleanUpTo (length front + 1 + length part + 1) lines
unfolding error_of
in_section lines front part line rest cut none row clean =
    let begin = unlabelled (Begins true) in
    let before = front ++ begin ∷ part in
    let whole : lines ≡ before ++ line ∷ rest = cut ∙ sym (append_assoc front (begin ∷ part) (line ∷ rest)) in
    let place : length before ≡ length front + 1 + length part = omega (arith, length-append front (begin ∷ part)) in
    let sections : count_by begins_section before ≡ count_by begins_section front + 1 = omega (arith, count_by-append begins_section front (begin ∷ part), count_by-cons begins_section begin part, none) in
    let instrs : count_by counts before ≡ count_by counts front + count_by counts part = omega (arith, count_by-append counts front (begin ∷ part), count_by-cons counts begin part) in
    let earlier : section_no before (count_by begins_section front + 1) ≡ part = rw (append-nil part) at (section_at front part [] none) in
    let no_error : error_of before line rest ≡ None = rw (← whole, sections, instrs, earlier) (row (length (schedule_of before))) in
    rw place at (clean_next lines before line rest whole no_error (rw place clean))

-- the lines of a section from one on
body_clean : (lines front rest : List Line) (section : List Instr) (part todo : List Line) → lines ≡ front ++ (section_read section ++ rest) → is_closed section ≡ true → count_by counts front + length section ≤ MOST_INSTRS
    → body_read section ≡ part ++ todo → All IsInSection todo → All (IsFound (section_no lines (count_by begins_section front + 1))) todo
    → IsCleanUpTo (length front + 1 + length part) lines → IsCleanUpTo (length front + 1 + length (body_read section)) lines
body_clean lines front rest section part [] whole closed few cut inner found clean = rw (cut, append-nil part) clean
body_clean lines front rest section part (line ∷ todo) whole closed few cut inner found clean =
    let section_lines = section_no lines (count_by begins_section front + 1) in
    let none : count_by begins_section part ≡ 0 = omega (arith, body_begins section, ap (count_by begins_section) cut, count_by-append begins_section part (line ∷ todo)) in
    let room : count_by counts front + count_by counts part + cond (counts line) 1 0 ≤ MOST_INSTRS = omega (arith, body_counts section closed (omega arith), ap (count_by counts) cut, count_by-append counts part (line ∷ todo), count_by-cons counts line todo) in
    let here : lines ≡ front ++ (unlabelled (Begins true) ∷ (part ++ line ∷ (todo ++ rest))) = whole ∙ ap (λ (ls : List Line). front ++ (unlabelled (Begins true) ∷ (ls ++ rest))) cut ∙ ap (λ (ls : List Line). front ++ (unlabelled (Begins true) ∷ ls)) (append_assoc part (line ∷ todo) rest) in
    let row = λ (items : ℕ). section_row (has_label section_lines) (has_label part) (count_by begins_section front + 1) (count_by counts front + count_by counts part) items line.label line.word (All-head IsInSection line todo inner) (omega arith) room (All-head (IsFound section_lines) line todo found) (not_again section part todo line cut (omega arith)) in
    let next = in_section lines front part line (todo ++ rest) here none row clean in
    let place : length front + 1 + length part + 1 ≡ length front + 1 + length (part ++ line ∷ []) = omega (arith, length-append part (line ∷ [])) in
    body_clean lines front rest section (part ++ line ∷ []) todo whole closed few (cut ∙ sym (append_assoc part (line ∷ []) todo)) (All-tail IsInSection line todo inner) (All-tail (IsFound section_lines) line todo found) (rw place at next)

section_clean : (lines front rest : List Line) (section : List Instr) → lines ≡ front ++ (section_read section ++ rest) → is_closed section ≡ true → count_by begins_section front < MOST_MUTATORS → count_by counts front + length section ≤ MOST_INSTRS → IsCleanUpTo (length front) lines → IsCleanUpTo (length (front ++ section_read section)) lines
section_clean lines front rest section whole closed place few clean =
    let begin = clean_next lines front (unlabelled (Begins true)) (body_read section ++ rest) whole (begin_row front (body_read section ++ rest) place) clean in
    let first : length front + 1 ≡ length front + 1 + 0 = omega arith in
    let end : length front + 1 + length (body_read section) ≡ length (front ++ section_read section) = omega (arith, length-append front (section_read section)) in
    let known : section_no lines (count_by begins_section front + 1) ≡ body_read section ++ get_or (slice_split begins_section rest) 0 [] = ap (λ (ls : List Line). section_no ls (count_by begins_section front + 1)) whole ∙ section_at front (body_read section) rest (body_begins section) in
    rw end at (body_clean lines front rest section [] (body_read section) whole closed few refl (body_in_section section) (rw known (body_found section (get_or (slice_split begins_section rest) 0 []) closed (omega arith))) (rw first at begin))

-- ---- all lines

sections_clean : (lines front : List Line) (code : List (List Instr)) → lines ≡ front ++ (flat_map section_read code ++ unlabelled Nothing ∷ []) → list_all is_closed code ≡ true → count_by begins_section front + length code ≤ MOST_MUTATORS → count_by counts front + sum_by length code ≤ MOST_INSTRS → IsCleanUpTo (length front) lines → IsCleanUpTo (length lines) lines
sections_clean lines front [] whole closed few room clean =
    let end : length front + 1 ≡ length lines = omega (arith, ap length whole, length-append front (unlabelled Nothing ∷ [])) in
    rw end at (clean_next lines front (unlabelled Nothing) [] whole (blank_row front []) clean)
sections_clean lines front (section ∷ code) whole closed few room clean =
    let tests = and_parts (is_closed section) (list_all is_closed code) closed in
    let rest = flat_map section_read code ++ unlabelled Nothing ∷ [] in
    let sum = sum_by-cons length section code in
    let here : lines ≡ front ++ (section_read section ++ rest) = whole ∙ ap (λ (ls : List Line). front ++ ls) (append_assoc (section_read section) (flat_map section_read code) (unlabelled Nothing ∷ [])) in
    let begun : count_by begins_section (front ++ section_read section) ≡ count_by begins_section front + 1 = omega (arith, count_by-append begins_section front (section_read section), count_by-cons begins_section (unlabelled (Begins true)) (body_read section), body_begins section) in
    let instrs : count_by counts (front ++ section_read section) ≡ count_by counts front + length section = omega (arith, count_by-append counts front (section_read section), count_by-cons counts (unlabelled (Begins true)) (body_read section), body_counts section tests.0 (omega arith)) in
    sections_clean lines (front ++ section_read section) code (here ∙ sym (append_assoc front (section_read section) rest)) tests.1 (omega arith) (omega arith) (section_clean lines front rest section here tests.0 (omega arith) (omega arith) clean)

-- each line of a well-formed program's listing
pub listed_clean : (code : List (List Instr)) (schedule : List Item) → IsWellFormed code schedule → IsCleanUpTo (length (listed code schedule)) (listed code schedule)
listed_clean code [] h = sections_clean (listed code []) [] code refl h.targets (omega (arith, h.few_sections)) (omega (arith, h.few_instrs)) (clean_none (listed code []))
listed_clean code (item ∷ items) h =
    let lines = listed code (item ∷ items) in
    let line = unlabelled (Schedules (item ∷ items)) in
    let after = flat_map section_read code ++ unlabelled Nothing ∷ [] in
    let first = clean_next lines [] line after refl (schedule_row (item ∷ items) after h.few_items) (clean_none lines) in
    sections_clean lines (line ∷ []) code refl h.targets (omega (arith, h.few_sections)) (omega (arith, h.few_instrs)) first
