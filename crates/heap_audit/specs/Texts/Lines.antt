-- The lines of mutators, read from the front.
use Rattle.std.specs.Prelude.{ℕ, ◌+◌, ◌^◌, ◌<◌, ◌≤◌, ◌≡◌, ◌==◌, if◌then◌else◌, List, [], ◌∷◌, length, Option, Some, None}
use Rattle.std.specs.List.{AllByRecursion}
use Rattle.plain_state.specs.declared.end.End.{End}
use Rattle.plain_state.specs.declared.sizes.TheConstants.{MOST_PRINTED}
use Rattle.plain_heap.specs.Print.{Seen, printed_lines}
use Rattle.dump_text.specs.Pieces.{Piece, ◌>>=◌, byte_at}
use Rattle.heap_audit.specs.Texts.Ends.{end_at, EndFits}
use Rattle.heap_audit.specs.Texts.Pieces.{decimal_at, mutator_at}
use Rattle.heap_audit.specs.declared.reading.lines.MutatorLines.{MutatorLines}

-- what stands behind the number of mutator m, a colon and a space
unfoldable pub named_at : ℕ → List ℕ → Option (List ℕ)
named_at m bytes = do
  named ← mutator_at bytes
  if named.0 == m then (byte_at 58 named.1 >>= λ rest. byte_at 32 rest) else None

-- a line of a number that mutator m printed
unfoldable pub printed_at : ℕ → Piece ℕ
printed_at m bytes = do
  text ← named_at m bytes
  number ← decimal_at (2 ^ 62) text
  rest ← byte_at 10 number.1
  Some (number.0, rest)

-- the line of the end of mutator m
unfoldable pub ended_at : ℕ → Piece (Option End)
ended_at m bytes = do
  text ← named_at m bytes
  end ← end_at text
  rest ← byte_at 10 end.1
  Some (end.0, rest)

-- a number that a program can print
abbrev pub IsPrinted : ℕ → Type 0
IsPrinted n = n < 2 ^ 62

-- at most as many numbers as a mutator may print, each one that it can print, and an end whose numbers fit
abbrev pub SeenFits : Seen → Type 0
SeenFits k = (length k.printed ≤ MOST_PRINTED) × AllByRecursion IsPrinted k.printed × EndFits k.end

-- what is seen of a mutator by its lines
abbrev pub seen_by : MutatorLines → Seen
seen_by k = record { printed = k.printed.items; end = k.end }

-- what is seen of so many mutators
abbrev pub AreSeen : ℕ → List Seen → Type 0
AreSeen n all = (length all ≡ n) × AllByRecursion SeenFits all

-- the lines of mutator m, by what is seen of it
abbrev pub seen_text : ℕ → Seen → List ℕ
seen_text m k = printed_lines m k.printed k.end

-- how many lines mutators have
abbrev pub line_count : List Seen → ℕ
line_count [] = 0
line_count (k ∷ ks) = length k.printed + 1 + line_count ks
