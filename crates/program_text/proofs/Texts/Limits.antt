-- How many sections, instructions and items a text without an error has.
use Rattle.std.proofs.Common.{◌≡◌, ℕ, zero, suc, ◌+◌, ◌<◌, ◌≤◌, Bool, true, false, cond, ◌&&◌, ◌||◌, eqb, leb, List, [], length, get_or, take, Option, Some, None, refl, ◌∙◌, add-one, arith}
use Rattle.std.specs.Option.{is_some}
use Rattle.std.proofs.lemmas.Bool.{or_parts, leb-false, ltb-false}
use Rattle.std.proofs.lemmas.List.{get_or_default}
use Rattle.plain_state.specs.declared.sizes.TheConstants.{MOST_INSTRS, MOST_ITEMS, MOST_MUTATORS}
use Rattle.program_text.specs.declared.text.before.Before.{Before}
use Rattle.mutator_asm.specs.declared.mistake.Mistake.{Mistake}
use Rattle.mutator_asm.specs.declared.mistake.Mistake.TheVariants.{UnknownInstr, BadOperand, UnknownLabel, LabelTwice, NoMutator, TooManyMutators, CodeTooLong, BadSchedule, NumberTooBig}
use Rattle.program_text.specs.Labels.{before_of, and_line}
use Rattle.mutator_asm.specs.Line.{Word, Nothing, Schedules, Line, unlabelled}
use Rattle.mutator_asm.specs.Text.{items_in, is_begin, has_instr, is_instr, is_bad, is_begin_with_more, is_lost, is_again, is_overlong, error_by, section_no, has_label, IsCleanUpTo}
use Rattle.mutator_asm.proofs.Texts.Clean.{clean_at}
use Rattle.program_text.proofs.Texts.Before.{before_more, error_row}

-- ---- what the table allows

row : (b : Bool) (mistake : Mistake) (later : Option Mistake) → cond b (Some mistake) later ≡ None → (b ≡ false) × (later ≡ None)
row true mistake later e = absurd cc
row false mistake later e = (refl, e)

-- the rows with a limit don't hold
record NoneTooMany (before : Before) (line : Line) : Type 0 where
  sections : (is_begin line.word && leb MOST_MUTATORS before.sections) ≡ false
  instrs : (is_instr line.word && leb MOST_INSTRS before.instrs) ≡ false
  items : is_overlong before.items line.word ≡ false

none_too_many : (known earlier : List ℕ → Bool) (before : Before) (line : Line) → error_by known earlier before.sections before.instrs before.items line ≡ None → NoneTooMany before line
none_too_many known earlier before line e =
    let first = row (is_bad UnknownInstr line.word) UnknownInstr _ e in
    let second = row (is_bad BadOperand line.word || is_begin_with_more line.word) BadOperand _ first.1 in
    let third = row (is_lost known line.word) UnknownLabel _ second.1 in
    let fourth = row (is_again earlier line.label) LabelTwice _ third.1 in
    let fifth = row (eqb before.sections 0 && (is_some line.label || is_instr line.word)) NoMutator _ fourth.1 in
    let sixth = row (is_begin line.word && leb MOST_MUTATORS before.sections) TooManyMutators _ fifth.1 in
    let seventh = row (is_instr line.word && leb MOST_INSTRS before.instrs) CodeTooLong _ sixth.1 in
    let eighth = row (is_bad BadSchedule line.word || is_overlong before.items line.word) BadSchedule _ seventh.1 in
    record { sections = sixth.0; instrs = seventh.0; items = (or_parts (is_bad BadSchedule line.word) (is_overlong before.items line.word) eighth.0).1 }

few_sections : (b : Bool) (n : ℕ) → (b && leb MOST_MUTATORS n) ≡ false → n ≤ MOST_MUTATORS → n + cond b 1 0 ≤ MOST_MUTATORS
few_sections true n e h = let less = leb-false MOST_MUTATORS n e in omega arith
few_sections false n e h = omega arith

few_instrs : (a b : Bool) (n : ℕ) → ((a || b) && leb MOST_INSTRS n) ≡ false → n ≤ MOST_INSTRS → n + cond a 1 0 ≤ MOST_INSTRS
few_instrs true b n e h = let less = leb-false MOST_INSTRS n e in omega arith
few_instrs false b n e h = omega arith

few_items : (n : ℕ) (w : Word) → is_overlong n w ≡ false → n ≤ MOST_ITEMS → n + length (items_in w) ≤ MOST_ITEMS
few_items n (Schedules items) e h = ltb-false MOST_ITEMS (n + length items) e
few_items n _ e h = omega arith

-- ---- lines without an error

pub record IsWithinLimits (before : Before) : Type 0 where
  pub sections : before.sections ≤ MOST_MUTATORS
  pub instrs : before.instrs ≤ MOST_INSTRS
  pub items : before.items ≤ MOST_ITEMS

pub within_step : (known earlier : List ℕ → Bool) (before : Before) (line : Line) → error_by known earlier before.sections before.instrs before.items line ≡ None → IsWithinLimits before → IsWithinLimits (and_line before line)
within_step known earlier before line e h =
    let none = none_too_many known earlier before line e in
    record {
      sections = few_sections (is_begin line.word) before.sections none.sections h.sections;
      instrs = few_instrs (has_instr line.word) (is_bad NumberTooBig line.word) before.instrs none.instrs h.instrs;
      items = few_items before.items line.word none.items h.items;
    }

at_first : IsWithinLimits (before_of [])
unfolding before_of
at_first = record { sections = omega arith; instrs = omega arith; items = omega arith }

pub within_up_to : (lines : List Line) (m n : ℕ) → n ≤ m → n ≤ length lines → IsCleanUpTo m lines → IsWithinLimits (before_of (take n lines))
within_up_to lines m zero le inside clean = at_first
within_up_to lines m (suc n) le inside clean =
    let lt : n < length lines = omega arith in
    let line = get_or lines n (unlabelled Nothing) in
    let is = get_or_default lines n (unlabelled Nothing) line lt in
    let before = before_of (take n lines) in
    let none = clean_at lines m n line clean (omega arith) lt in
    let row = error_row lines n line before lt is refl in
    let step = within_step (has_label (section_no lines before.sections)) (has_label (take before.lines (section_no lines before.sections))) before line (row ∙ none) (within_up_to lines m n (omega arith) (omega arith) clean) in
    rw (← add-one, ← before_more lines n line lt is) step
