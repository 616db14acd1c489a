-- An input of two parts: the text of a program, and behind a line `.output` what should be an output of it.
use Rattle.std.specs.Prelude.{◌≡◌, ℕ, List, [], ◌∷◌, ◌++◌, Option, Some, None, codes, if◌then◌else◌, option_map, unwrap_or}
use Rattle.std.specs.List.{join_with_byte}
use Rattle.std.specs.Str.{bytes_eq}
use Rattle.concordance_text.specs.Words.{lines_of}

-- the line between them
abbrev pub output_line : List ℕ
output_line = codes ".output"

-- with more in front of the text
abbrev pub preceded_by : List ℕ → List ℕ × List ℕ → List ℕ × List ℕ
preceded_by front parts = (front ++ parts.0, parts.1)

-- of lines the text, which is all those before the first line `.output`, each with its end, and the part, which is all those behind it
abbrev pub divide_lines : List (List ℕ) → Option (List ℕ × List ℕ)
divide_lines [] = None
divide_lines (line ∷ lines) =
    if bytes_eq line output_line then Some ([], join_with_byte 10 lines) else option_map (preceded_by (line ++ codes "\n")) (divide_lines lines)

-- no line of an input is `.output`
abbrev pub HasNoPart : List ℕ → Type 0
HasNoPart input = divide_lines (lines_of input) ≡ None

-- the text and the part of an input; if there is no line `.output` the text is all of it
unfoldable pub divided : List ℕ → List ℕ × List ℕ
divided input = unwrap_or (divide_lines (lines_of input)) (input, [])

abbrev pub text_in : List ℕ → List ℕ
text_in input = (divided input).0

abbrev pub part_in : List ℕ → List ℕ
part_in input = (divided input).1
