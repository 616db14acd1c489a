-- The lines of a listing mean the program that it lists.
use Rattle.std.proofs.Common.{◌≡◌, ℕ, ◌+◌, ◌≤◌, true, false, List, [], ◌∷◌, ◌++◌, length, map, drop, Some, refl, sym, ap, ◌∙◌, arith}
use Rattle.std.specs.Prelude.{count_by, sum_by}
use Rattle.std.specs.List.{All, filter_map, flat_map, list_all, slice_split}
use Rattle.std.proofs.lemmas.Bool.{and_parts, cond_both}
use Rattle.std.proofs.lemmas.Bool.Decides.{nat_tests}
use Rattle.std.proofs.lemmas.List.{append-nil, append_assoc}
use Rattle.std.proofs.lemmas.List.Concat.{flat_map-append}
use Rattle.std.proofs.lemmas.List.Elements.{All-nil, All-cons, All-head, All-tail, All-append, filter_map-append}
use Rattle.std.proofs.lemmas.List.Folds.{list_any_at}
use Rattle.std.proofs.lemmas.List.Splits.{length-slice_split, slice_split_at, slice_split_none}
use Rattle.std.proofs.lemmas.List.Sums.{sum_by-cons}
use Rattle.plain_state.specs.declared.sizes.TheConstants.{MOST_INSTRS}
use Rattle.mutator_asm.specs.declared.instr.Instr.{Instr}
use Rattle.mutator_asm.specs.declared.instr.Instr.TheVariants.{Halt}
use Rattle.mutator_asm.specs.declared.item.Item.{Item}
use Rattle.mutator_asm.specs.Line.{Nothing, Begins, Line, unlabelled}
use Rattle.mutator_asm.specs.Listing.{leads_to, is_target_in, label_name}
use Rattle.mutator_asm.specs.Program.{IsWellFormed, is_closed}
use Rattle.mutator_asm.specs.Text.{begins_section, counts, is_begin, items_in, items_on, instr_by, target_of, section_of, sections_in, code_of, schedule_of}
use Rattle.mutator_asm.proofs.Programs.Lengths.{length_section}
use Rattle.mutator_asm.proofs.Listings.Lines.{instr_word, label_line, instrs_read, end_read, body_read, section_read, schedule_read, listed, body_words}
use Rattle.mutator_asm.proofs.Listings.Labels.{target_is}

-- ---- the sections

-- a line begins no section
abbrev IsInside : Line → Type 0
IsInside line = begins_section line ≡ false

instr_inside : (instr : Instr) → is_begin (instr_word instr) ≡ false
instr_inside Halt = refl
instr_inside instr = refl

body_inside : (section : List Instr) → All IsInside (body_read section)
body_inside section = body_words (λ word. is_begin word ≡ false) section refl (λ k instr lt. instr_inside _)

pub body_begins : (section : List Instr) → count_by begins_section (body_read section) ≡ 0
body_begins section = omega (arith, length-slice_split begins_section (body_read section), ap length (slice_split_none begins_section (body_read section) (body_inside section)))

schedule_inside : (schedule : List Item) → All IsInside (schedule_read schedule)
schedule_inside [] = All-nil IsInside
schedule_inside (item ∷ items) = All-cons IsInside _ [] refl (All-nil IsInside)

-- these lines, and then the bodies of these sections; the blank line ends the last
abbrev parts_from : List Line → List (List Instr) → List (List Line)
parts_from front [] = (front ++ unlabelled Nothing ∷ []) ∷ []
parts_from front (section ∷ code) = front ∷ parts_from (body_read section) code

split_from : (front : List Line) (code : List (List Instr)) → All IsInside front → slice_split begins_section (front ++ flat_map section_read code ++ unlabelled Nothing ∷ []) ≡ parts_from front code
split_from front [] inside =
    let blank : All IsInside (unlabelled Nothing ∷ []) = All-cons IsInside (unlabelled Nothing) [] refl (All-nil IsInside) in
    rw (append-nil front) (slice_split_none begins_section (front ++ unlabelled Nothing ∷ []) (All-append IsInside front (unlabelled Nothing ∷ []) inside blank))
split_from front (section ∷ code) inside =
    let rest = body_read section ++ flat_map section_read code in
    ap (slice_split begins_section) (append_assoc front (unlabelled (Begins true) ∷ rest) (unlabelled Nothing ∷ []))
    ∙ slice_split_at begins_section front (unlabelled (Begins true)) (rest ++ unlabelled Nothing ∷ []) inside refl
    ∙ ap (λ parts. front ∷ parts) (split_from (body_read section) code (body_inside section))

-- what stands before the first section, and then the bodies of all sections
split_listed : (code : List (List Instr)) (schedule : List Item) → slice_split begins_section (listed code schedule) ≡ parts_from (schedule_read schedule) code
split_listed code schedule = split_from (schedule_read schedule) code (schedule_inside schedule)

sections_listed : (code : List (List Instr)) (schedule : List Item) → sections_in (listed code schedule) ≡ drop 1 (parts_from (schedule_read schedule) code)
sections_listed code schedule = ap (drop 1) (split_listed code schedule)

length_parts : (front : List Line) (code : List (List Instr)) → length (parts_from front code) ≡ length code + 1
length_parts front [] = refl
length_parts front (section ∷ code) = omega (arith, length_parts (body_read section) code)

count_listed : (code : List (List Instr)) (schedule : List Item) → count_by begins_section (listed code schedule) ≡ length code
count_listed code schedule = omega (arith, length-slice_split begins_section (listed code schedule), ap length (split_listed code schedule), length_parts (schedule_read schedule) code)

-- ---- the instructions of a section

-- an instruction, where its label has its target
instr_back : (target : List ℕ → ℕ) (instr : Instr) → ((t : ℕ) → leads_to t instr ≡ true → target (label_name t) ≡ t) → instr_by target (instr_word instr) ≡ Some instr
instr_back target Halt h = refl
instr_back target instr h = grind (arith, nat_tests, h)

instrs_back : (target : List ℕ → ℕ) (section : List Instr) (k : ℕ) (instrs : List Instr) → All (λ instr. instr_by target (instr_word instr) ≡ Some instr) instrs → filter_map (λ (l : Line). instr_by target l.word) (instrs_read section k instrs) ≡ instrs
instrs_back target section k [] all = refl
instrs_back target section k (instr ∷ instrs) all =
    rw (All-head (λ i. instr_by target (instr_word i) ≡ Some i) instr instrs all, instrs_back target section (k + 1) instrs (All-tail (λ i. instr_by target (instr_word i) ≡ Some i) instr instrs all)) refl

end_back : (target : List ℕ → ℕ) (section : List Instr) → filter_map (λ (l : Line). instr_by target l.word) (end_read section) ≡ []
end_back target section = cond_both (is_target_in section (length section)) (label_line (length section) ∷ []) [] (λ ls. filter_map (λ (l : Line). instr_by target l.word) ls ≡ []) (λ e. refl) (λ e. refl)

-- a closed section, of its lines and others that have no instruction
section_back : (section : List Instr) (more : List Line) → is_closed section ≡ true → length section ≤ MOST_INSTRS → ((target : List ℕ → ℕ) → filter_map (λ (l : Line). instr_by target l.word) more ≡ []) → section_of (body_read section ++ more) ≡ section
unfolding section_of
section_back section more closed few none =
    let target = target_of (body_read section ++ more) in
    let instr_of = λ (line : Line). instr_by target line.word in
    let instrs = instrs_back target section 0 section (λ k instr lt. instr_back target _ (λ t e. target_is section t more closed few (list_any_at (leads_to t) section k instr lt e))) in
    rw (filter_map-append instr_of (body_read section) more, filter_map-append instr_of (instrs_read section 0 section) (end_read section), instrs, end_back target section, none target, append-nil section, append-nil section) refl

section_whole : (section : List Instr) → is_closed section ≡ true → length section ≤ MOST_INSTRS → section_of (body_read section) ≡ section
section_whole section closed few = ap section_of (sym (append-nil (body_read section))) ∙ section_back section [] closed few (λ target. refl)

-- the lines of a closed section have its instructions
pub body_counts : (section : List Instr) → is_closed section ≡ true → length section ≤ MOST_INSTRS → count_by counts (body_read section) ≡ length section
body_counts section closed few = sym (length_section (body_read section)) ∙ ap length (section_whole section closed few)

sections_back : (section : List Instr) (code : List (List Instr)) → list_all is_closed (section ∷ code) ≡ true → sum_by length (section ∷ code) ≤ MOST_INSTRS → map section_of (parts_from (body_read section) code) ≡ section ∷ code
sections_back section [] closed few =
    let sum = sum_by-cons length section [] in
    ap (λ (s : List Instr). s ∷ []) (section_back section (unlabelled Nothing ∷ []) (and_parts _ _ closed).0 (omega arith) (λ target. refl))
sections_back section (next ∷ code) closed few =
    let parts = and_parts (is_closed section) (list_all is_closed (next ∷ code)) closed in
    let sum = sum_by-cons length section (next ∷ code) in
    rw (section_whole section parts.0 (omega arith), sections_back next code parts.1 (omega arith)) refl

code_back : (front : List Line) (code : List (List Instr)) → list_all is_closed code ≡ true → sum_by length code ≤ MOST_INSTRS → map section_of (drop 1 (parts_from front code)) ≡ code
code_back front [] closed few = refl
code_back front (section ∷ code) closed few = sections_back section code closed few

-- ---- the schedule

instr_idle : (instr : Instr) → items_in (instr_word instr) ≡ []
instr_idle Halt = refl
instr_idle instr = refl

lines_idle : (lines : List Line) → All (λ line. items_on line ≡ []) lines → schedule_of lines ≡ []
lines_idle [] all = refl
lines_idle (line ∷ lines) all = rw (All-head (λ l. items_on l ≡ []) line lines all) (lines_idle lines (All-tail (λ l. items_on l ≡ []) line lines all))

-- a section has no items
body_idle : (section : List Instr) → schedule_of (body_read section) ≡ []
body_idle section = lines_idle (body_read section) (body_words (λ word. items_in word ≡ []) section refl (λ k instr lt. instr_idle _))

code_idle : (code : List (List Instr)) → schedule_of (flat_map section_read code) ≡ []
code_idle [] = refl
code_idle (section ∷ code) = rw (flat_map-append items_on (body_read section) (flat_map section_read code), body_idle section) (code_idle code)

schedule_back : (schedule : List Item) → schedule_of (schedule_read schedule) ≡ schedule
schedule_back [] = refl
schedule_back (item ∷ items) = append-nil (item ∷ items)

-- ---- what the lines mean

pub listed_begun : (code : List (List Instr)) (schedule : List Item) → IsWellFormed code schedule → 1 ≤ count_by begins_section (listed code schedule)
listed_begun code schedule w = rw (count_listed code schedule) w.a_section

pub listed_code : (code : List (List Instr)) (schedule : List Item) → IsWellFormed code schedule → code ≡ code_of (listed code schedule)
unfolding code_of
listed_code code schedule w = sym (ap (map section_of) (sections_listed code schedule) ∙ code_back (schedule_read schedule) code w.targets w.few_instrs)

pub listed_schedule : (code : List (List Instr)) (schedule : List Item) → schedule ≡ schedule_of (listed code schedule)
listed_schedule code schedule =
    sym (rw (flat_map-append items_on (schedule_read schedule ++ flat_map section_read code) (unlabelled Nothing ∷ []), flat_map-append items_on (schedule_read schedule) (flat_map section_read code), schedule_back schedule, code_idle code, append-nil schedule) (append-nil schedule))
