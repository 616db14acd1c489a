-- What the code keeps of a section and of the lines before one.
use Rattle.std.specs.Prelude.{◌≡◌, ℕ, ◌+◌, ◌≤◌, Bool, List, [], length, Option, Some, None, if◌then◌else◌, count_by, slice_get, slice_index_or}
use Rattle.std.specs.List.{before_first, slice_split}
use Rattle.std.specs.HashMap.{HashMap, get_by}
use Rattle.std.specs.Str.{bytes_eq}
use denote.Ref.{Bor}
use Rattle.mutator_asm.specs.declared.instr.Instr.{Instr}
use Rattle.program_text.specs.declared.text.labels.Place.{Place}
use Rattle.program_text.specs.declared.text.before.Before.{Before}
use Rattle.mutator_asm.specs.Line.{Line}
use Rattle.mutator_asm.specs.Listing.{is_target_in}
use Rattle.mutator_asm.specs.Text.{begins_section, counts, defines, items_on, has_label, schedule_of}

-- ---- labels

-- where a label stands first in a section
abbrev pub label_place : List Line → List ℕ → Option Place
label_place section name =
    let before = before_first (defines name) section in
    if has_label section name then Some (record { lines = length before; instrs = count_by counts before }) else None

-- the place that is kept for a name
abbrev pub get_place : {S : Type 0} → HashMap (Bor (List ℕ)) Place S → List ℕ → Option Place
get_place labels name = get_by (λ k. bytes_eq name k.now) labels

-- the places that are kept are those of a section's labels
abbrev pub KnowsLabels : {S : Type 0} → HashMap (Bor (List ℕ)) Place S → List Line → Type 0
KnowsLabels labels section = (name : List ℕ) → get_place labels name ≡ label_place section name

-- ---- the lines before one

-- the lines since the last that begins a section, or all where none does
abbrev pub lines_since : List Line → List Line
lines_since lines = slice_index_or (slice_split begins_section lines) (count_by begins_section lines) []

-- how much stands before a line
unfoldable pub before_of : List Line → Before
before_of lines = record {
  sections = count_by begins_section lines;
  lines = length (lines_since lines);
  instrs = count_by counts lines;
  items = length (schedule_of lines);
}

-- the same with one line more
abbrev pub and_line : Before → Line → Before
and_line before line = record {
  sections = before.sections + (if begins_section line then 1 else 0);
  lines = if begins_section line then 0 else before.lines + 1;
  instrs = before.instrs + (if counts line then 1 else 0);
  items = before.items + length (items_on line);
}

-- ---- the targets of jumps

-- of each number of a section, and of the one behind its last instruction, it is known whether a jump
-- leads there
pub record KnowsTargets (targets : List Bool) (section : List Instr) : Type 0 where
  pub all : length targets ≡ length section + 1
  pub each : (k : ℕ) → k ≤ length section → slice_get targets k ≡ Some (is_target_in section k)
