-- What the table of errors says of each kind of line that a listing has.
use Rattle.std.proofs.Common.{◌≡◌, ℕ, ◌+◌, ◌<◌, ◌≤◌, Bool, true, false, cond, eqb, List, [], length, Option, None, refl, arith}
use Rattle.std.proofs.Math.Bool.{and-false}
use Rattle.std.specs.Prelude.{count_by}
use Rattle.std.specs.List.{All}
use Rattle.std.proofs.lemmas.Bool.{lt-leb, le-ltb, ne_eqb}
use Rattle.plain_state.specs.declared.sizes.TheConstants.{MOST_INSTRS, MOST_ITEMS, MOST_MUTATORS}
use Rattle.mutator_asm.specs.declared.instr.Instr.{Instr}
use Rattle.mutator_asm.specs.declared.instr.Instr.TheVariants.{Halt}
use Rattle.mutator_asm.specs.declared.item.Item.{Item}
use Rattle.mutator_asm.specs.Line.{Word, Nothing, Begins, Schedules, Does, Jumps, Line, unlabelled}
use Rattle.mutator_asm.specs.Text.{begins_section, has_instr, is_lost, is_again, error_by, error_of}
use Rattle.mutator_asm.proofs.Listings.Lines.{instr_word, body_read, body_words}

-- a schedule, before which nothing stands
pub schedule_row : (items : List Item) (after : List Line) → length items ≤ MOST_ITEMS → error_of [] (unlabelled (Schedules items)) after ≡ None
unfolding error_of
schedule_row items after le = rw (le-ltb MOST_ITEMS (0 + length items) (omega arith)) refl

-- the begin of a section, before which fewer than the most begin
pub begin_row : (before after : List Line) → count_by begins_section before < MOST_MUTATORS → error_of before (unlabelled (Begins true)) after ≡ None
unfolding error_of
begin_row before after lt = rw (and-false (eqb (count_by begins_section before) 0), lt-leb MOST_MUTATORS (count_by begins_section before) lt) refl

-- a blank line
pub blank_row : (before after : List Line) → error_of before (unlabelled Nothing) after ≡ None
unfolding error_of
blank_row before after = rw (and-false (eqb (count_by begins_section before) 0)) refl

-- ---- the lines of a section

-- a word that stands behind the begin of a section
abbrev is_in_section : Word → Bool
is_in_section Nothing = true
is_in_section (Does instr) = true
is_in_section (Jumps jump label) = true
is_in_section _ = false

-- a line in a section, where fewer than the most instructions stand before one
pub section_row : (known earlier : List ℕ → Bool) (sections instrs items : ℕ) (label : Option (List ℕ)) (word : Word) → is_in_section word ≡ true → 1 ≤ sections → instrs + cond (has_instr word) 1 0 ≤ MOST_INSTRS → is_lost known word ≡ false → is_again earlier label ≡ false
    → error_by known earlier sections instrs items (record { label = label; word = word }) ≡ None
section_row known earlier sections instrs items label Nothing h begun few found new = rw (new, ne_eqb sections 0 (λ e. omega arith)) refl
section_row known earlier sections instrs items label (Does instr) h begun few found new = rw (new, ne_eqb sections 0 (λ e. omega arith), lt-leb MOST_INSTRS instrs (omega arith)) refl
section_row known earlier sections instrs items label (Jumps jump target) h begun few found new = rw (found, new, ne_eqb sections 0 (λ e. omega arith), lt-leb MOST_INSTRS instrs (omega arith)) refl
section_row known earlier sections instrs items label _ h begun few found new = absurd cc

instr_in_section : (instr : Instr) → is_in_section (instr_word instr) ≡ true
instr_in_section Halt = refl
instr_in_section instr = refl

abbrev pub IsInSection : Line → Type 0
IsInSection line = is_in_section line.word ≡ true

pub body_in_section : (section : List Instr) → All IsInSection (body_read section)
body_in_section section = body_words (λ word. is_in_section word ≡ true) section refl (λ k instr lt. instr_in_section _)
