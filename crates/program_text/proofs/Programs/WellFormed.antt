-- The program of a text without an error is well formed.
use Rattle.std.proofs.Common.{◌≡◌, ℕ, ◌+◌, ◌^◌, ◌<◌, ◌≤◌, Bool, true, false, cond, ◌&&◌, eqb, List, [], ◌∷◌, length, drop, map, refl, sym, ap, ◌∙◌, arith}
use Rattle.std.specs.Prelude.{count_by, sum_by}
use Rattle.std.specs.List.{slice_split, onto_first, filter_map, cons_option, list_all, before_first, position_or_len}
use Rattle.std.proofs.lemmas.Bool.{and_parts, and_from, cond_both, le-leb}
use Rattle.std.proofs.lemmas.List.{length-map, length-drop, take_all}
use Rattle.std.proofs.lemmas.List.Folds.{list_all-append}
use Rattle.std.proofs.lemmas.List.Splits.{length-slice_split}
use Rattle.std.proofs.lemmas.List.Sums.{sum_by-cons, sum_by-take-le, count_by-le-length}
use Rattle.plain_state.specs.declared.sizes.TheConstants.{MOST_INSTRS}
use Rattle.mutator_asm.specs.declared.instr.Instr.{Instr}
use Rattle.mutator_asm.specs.declared.instr.Instr.TheVariants.{Jmp, Jz, Jal}
use Rattle.mutator_asm.specs.declared.item.Item.{Item}
use Rattle.mutator_asm.specs.declared.jump.Jump.{Jump}
use Rattle.mutator_asm.specs.declared.jump.Jump.TheVariants.{Always, IfZero, Link}
use Rattle.program_text.specs.declared.text.line.Line.{Line as Read}
use Rattle.mutator_asm.specs.Instr.{jump_to}
use Rattle.program_text.specs.Labels.{before_of}
use Rattle.mutator_asm.specs.Line.{Word, Begins, Schedules, Does, Jumps, Line, line_of, lines_of}
use Rattle.mutator_asm.specs.Program.{IsWellFormed, is_item, is_valid, leads_within, is_closed}
use Rattle.program_text.specs.Read.{line_view, lines_view}
use Rattle.mutator_asm.specs.Text.{begins_section, counts, is_begin, has_instr, items_on, items_in, defines, has_label, target_of, instr_by, section_of, code_of, schedule_of, IsCleanUpTo, IsText}
use Rattle.program_text.proofs.Texts.Limits.{within_up_to}
use Rattle.mutator_asm.proofs.Lists.Tests.{if_passes, all_weaker, count_by-cons}
use Rattle.mutator_asm.proofs.Programs.Lengths.{length_by, length_section}
use Rattle.program_text.proofs.Texts.Sound.{is_plain, is_jump_valid, is_sound, is_sound_line, lines_sound}

-- ---- a section's instructions

target_le : (lines : List Line) (label : List ℕ) → target_of lines label ≤ count_by counts lines
target_le lines label =
    let before = before_first (defines label) lines in
    cond_both (has_label lines label) (count_by counts before) 0 (λ n. n ≤ count_by counts lines) (λ e. sum_by-take-le (λ l. cond (counts l) 1 0) lines (position_or_len (defines label) lines)) (λ e. omega arith)

-- an instruction is one that a line can have, and stays in a section of n instructions
is_fine : ℕ → Instr → Bool
is_fine n instr = is_valid instr && leads_within n instr

plain_leads : (n : ℕ) (instr : Instr) → is_plain instr ≡ true → leads_within n instr ≡ true
plain_leads n (Jmp t) h = absurd cc
plain_leads n (Jz a t) h = absurd cc
plain_leads n (Jal d t) h = absurd cc
plain_leads n _ h = refl

jump_fine : (n t : ℕ) (jump : Jump) → is_jump_valid jump ≡ true → t ≤ n → n ≤ MOST_INSTRS → is_fine n (jump_to jump t) ≡ true
unfolding is_fine
jump_fine n t Always h le few = and_from _ _ (le-leb t MOST_INSTRS (omega arith)) (le-leb t n le)
jump_fine n t (IfZero a) h le few = and_from _ _ (and_from _ _ h (le-leb t MOST_INSTRS (omega arith))) (le-leb t n le)
jump_fine n t (Link d) h le few = and_from _ _ (and_from _ _ h (le-leb t MOST_INSTRS (omega arith))) (le-leb t n le)

word_fine : (n : ℕ) (t : List ℕ → ℕ) (w : Word) (instrs : List Instr) → is_sound w ≡ true → ((q : List ℕ) → t q ≤ n) → n ≤ MOST_INSTRS → list_all (is_fine n) instrs ≡ true → list_all (is_fine n) (cons_option (instr_by t w) instrs) ≡ true
unfolding is_fine
word_fine n t (Does instr) instrs h le few rest = let parts = and_parts _ _ h in and_from _ _ (and_from _ _ parts.1 (plain_leads n instr parts.0)) rest
word_fine n t (Jumps jump label) instrs h le few rest = and_from _ _ (jump_fine n (t label) jump h (le label) few) rest
word_fine n t _ instrs h le few rest = rest

fine_by : (n : ℕ) (t : List ℕ → ℕ) (lines : List Line) → list_all is_sound_line lines ≡ true → ((q : List ℕ) → t q ≤ n) → n ≤ MOST_INSTRS → list_all (is_fine n) (filter_map (λ l. instr_by t l.word) lines) ≡ true
fine_by n t [] h le few = refl
fine_by n t (line ∷ lines) h le few = let parts = and_parts _ _ h in word_fine n t line.word _ parts.0 le few (fine_by n t lines parts.1 le few)

-- a section of sound lines has such instructions, and stays in itself
record IsGood (section : List Instr) : Type 0 where
  valid : list_all is_valid section ≡ true
  closed : is_closed section ≡ true

section_good : (lines : List Line) → list_all is_sound_line lines ≡ true → count_by counts lines ≤ MOST_INSTRS → IsGood (section_of lines)
unfolding section_of is_fine
section_good lines h few =
    let n = count_by counts lines in
    let fine = fine_by n (target_of lines) lines h (target_le lines) few in
    let valid = all_weaker (is_fine n) is_valid (λ instr e. (and_parts (is_valid instr) (leads_within n instr) e).0) (section_of lines) fine in
    let closed = all_weaker (is_fine n) (leads_within n) (λ instr e. (and_parts (is_valid instr) (leads_within n instr) e).1) (section_of lines) fine in
    record { valid = valid; closed = rw (length_by (target_of lines) lines) closed }

-- ---- sections

-- all sections have as many instructions as the lines
onto_sum : (line : Line) (parts : List (List Line)) → sum_by (count_by counts) (onto_first line parts) ≡ cond (counts line) 1 0 + sum_by (count_by counts) parts
onto_sum line [] = omega (arith, sum_by-cons (count_by counts) (line ∷ []) [], count_by-cons counts line [])
onto_sum line (part ∷ parts) = omega (arith, sum_by-cons (count_by counts) (line ∷ part) parts, sum_by-cons (count_by counts) part parts, count_by-cons counts line part)

abbrev weight_of : Word → ℕ
weight_of w = cond (has_instr w) 1 0

begin_counts : (w : Word) → is_begin w ≡ true → weight_of w ≡ 0
begin_counts (Begins alone) h = refl
begin_counts _ h = absurd cc

split_step : (b : Bool) (line : Line) (parts : List (List Line)) → is_begin line.word ≡ b → sum_by (count_by counts) (cond b ([] ∷ parts) (onto_first line parts)) ≡ cond (counts line) 1 0 + sum_by (count_by counts) parts
split_step true line parts h = omega (arith, sum_by-cons (count_by counts) [] parts, begin_counts line.word h)
split_step false line parts h = onto_sum line parts

split_sum : (lines : List Line) → sum_by (count_by counts) (slice_split begins_section lines) ≡ count_by counts lines
split_sum [] = refl
split_sum (line ∷ lines) =
    split_step (begins_section line) line (slice_split begins_section lines) refl ∙ ap (λ n. cond (counts line) 1 0 + n) (split_sum lines) ∙ sym (count_by-cons counts line lines)

rest_sum : (parts : List (List Line)) → sum_by (count_by counts) (drop 1 parts) ≤ sum_by (count_by counts) parts
rest_sum [] = omega arith
rest_sum (part ∷ parts) = omega (arith, sum_by-cons (count_by counts) part parts)

onto_all : {A : Type 0} (p : A → Bool) (x : A) (parts : List (List A)) → p x ≡ true → list_all (list_all p) parts ≡ true → list_all (list_all p) (onto_first x parts) ≡ true
onto_all p x [] h k = and_from _ _ (and_from _ _ h refl) refl
onto_all p x (part ∷ parts) h k = let rest = and_parts _ _ k in and_from _ _ (and_from _ _ h rest.0) rest.1

-- what all elements pass, all parts pass
split_all : {A : Type 0} (p q : A → Bool) (xs : List A) → list_all p xs ≡ true → list_all (list_all p) (slice_split q xs) ≡ true
split_all p q [] h = refl
split_all p q (x ∷ xs) h = let parts = and_parts _ _ h in let rest = split_all p q xs parts.1 in if_passes (list_all (list_all p)) (q x) ([] ∷ slice_split q xs) _ rest (onto_all p x (slice_split q xs) parts.0 rest)

rest_all : {A : Type 0} (p : A → Bool) (xs : List A) → list_all p xs ≡ true → list_all p (drop 1 xs) ≡ true
rest_all p [] h = refl
rest_all p (x ∷ xs) h = (and_parts _ _ h).1

-- the sections of sound lines
record AreGood (code : List (List Instr)) : Type 0 where
  valid : list_all (list_all is_valid) code ≡ true
  closed : list_all is_closed code ≡ true

sections_good : (parts : List (List Line)) → list_all (list_all is_sound_line) parts ≡ true → sum_by (count_by counts) parts ≤ MOST_INSTRS → AreGood (map section_of parts)
sections_good [] h few = record { valid = refl; closed = refl }
sections_good (part ∷ parts) h few =
    let sound = and_parts _ _ h in
    let sum = sum_by-cons (count_by counts) part parts in
    let here = section_good part sound.0 (omega arith) in
    let rest = sections_good parts sound.1 (omega arith) in
    record { valid = and_from _ _ here.valid rest.valid; closed = and_from _ _ here.closed rest.closed }

sections_sum : (parts : List (List Line)) → sum_by length (map section_of parts) ≡ sum_by (count_by counts) parts
sections_sum [] = refl
sections_sum (part ∷ parts) = omega (arith, sum_by-cons length (section_of part) (map section_of parts), sum_by-cons (count_by counts) part parts, length_section part, sections_sum parts)

-- ---- the schedule

items_good : (w : Word) → is_sound w ≡ true → list_all is_item (items_in w) ≡ true
items_good (Schedules items) h = h
items_good _ h = refl

schedule_good : (lines : List Line) → list_all is_sound_line lines ≡ true → list_all is_item (schedule_of lines) ≡ true
schedule_good [] h = refl
schedule_good (line ∷ lines) h =
    let parts = and_parts _ _ h in
    rw (list_all-append is_item (items_on line) (schedule_of lines)) (and_from _ _ (items_good line.word parts.0) (schedule_good lines parts.1))

-- ---- a text

-- the program of a text without an error is well formed
pub well_formed : (text : List ℕ) (lines : List Line) → lines ≡ lines_of text → IsCleanUpTo (length lines) lines → 1 ≤ count_by begins_section lines → IsWellFormed (code_of lines) (schedule_of lines)
unfolding code_of before_of
well_formed text lines e clean begun =
    let parts = slice_split begins_section lines in
    let limits = rw (take_all (length lines) lines (omega arith)) at (within_up_to lines (length lines) (length lines) (omega arith) (omega arith) clean) in
    let sections : length (map section_of (drop 1 parts)) ≡ count_by begins_section lines = omega (arith, length-map (drop 1 parts) section_of, length-drop 1 parts, length-slice_split begins_section lines) in
    let few : sum_by (count_by counts) (drop 1 parts) ≤ MOST_INSTRS = omega (arith, rest_sum parts, split_sum lines, limits.instrs) in
    let sound : list_all is_sound_line lines ≡ true = rw e (lines_sound text) in
    let good = sections_good (drop 1 parts) (rest_all (list_all is_sound_line) parts (split_all is_sound_line begins_section lines sound)) few in
    record {
      a_section = omega arith;
      few_sections = omega (arith, limits.sections);
      few_instrs = omega (arith, sections_sum (drop 1 parts));
      instrs = good.valid;
      targets = good.closed;
      few_items = limits.items;
      items = schedule_good lines sound;
    }

-- a text has at most one line more than bytes
pub lines_few : (text : List ℕ) (lines : List Read) → lines_view lines ≡ lines_of text → length text < 2 ^ 31 → length lines < 2 ^ 32
unfolding lines_of
lines_few text lines e lt =
    let parts = slice_split (λ b. eqb b 10) text in
    let same : length (lines_view lines) ≡ length (map line_of parts) = ap length e in
    omega (arith, length-map lines line_view, length-map parts line_of, same, length-slice_split (λ b. eqb b 10) text, count_by-le-length (λ b. eqb b 10) text)

-- ---- what the code made

-- the lines of a text, as they were checked and read
pub text_is : (text : List ℕ) (lines : List Read) (code : List (List Instr)) (schedule : List Item) → lines_view lines ≡ lines_of text
    → IsCleanUpTo (length lines) (lines_view lines) → 1 ≤ count_by begins_section (lines_view lines) → code ≡ code_of (lines_view lines) → schedule ≡ schedule_of (lines_view lines) → IsText text code schedule
text_is text lines code schedule e clean begun code-is schedule-is =
    let clean2 : IsCleanUpTo (length (lines_view lines)) (lines_view lines) = rw (length-map lines line_view) clean in
    record {
      clean = rw e at clean2;
      begun = rw e at begun;
      code_is = code-is ∙ ap code_of e;
      schedule_is = schedule-is ∙ ap schedule_of e;
    }

pub text_well_formed : (text : List ℕ) (code : List (List Instr)) (schedule : List Item) → IsText text code schedule → IsWellFormed code schedule
text_well_formed text code schedule p = rw (p.code_is, p.schedule_is) (well_formed text (lines_of text) refl p.clean p.begun)
