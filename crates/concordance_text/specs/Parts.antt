-- Parts of a text, each of some lines one after the other.
use Rattle.std.specs.Prelude.{◌≡◌, ◌⊎◌, ⊤, ℕ, ◌+◌, ◌^◌, ◌<◌, List, [], ◌∷◌, ◌++◌, length, flat_map}
use Rattle.concordance_text.specs.declared.part.Part.{Part}
use Rattle.concordance_text.specs.Rows.{IsElementOf}
use Rattle.concordance_text.specs.Words.{Mention, lines_of, mentions_from}

-- each word of a part with its line
abbrev pub mentions_of_part : Part → List Mention
mentions_of_part part = mentions_from part.line (lines_of part.text.now)

-- the bytes of a part
abbrev pub bytes_of : Part → List ℕ
bytes_of part = part.text.now

-- the numbers of its lines fit
abbrev pub IsNumbered : Part → Type 0
IsNumbered part = part.line + length part.text.now < 2 ^ 32

-- a text that is empty or ends with a line's end
abbrev pub EndsWithLine : List ℕ → Type 0
EndsWithLine text = (text ≡ []) ⊎ ((front : List ℕ) × (text ≡ front ++ 10 ∷ []))

-- each of the first words stands in a line before those of the second
abbrev pub AreInEarlierLines : List Mention → List Mention → Type 0
AreInEarlierLines ms ns = (m n : Mention) → IsElementOf m ms → IsElementOf n ns → m.line < n.line

-- two parts of a text, one after the other: the first ends with a line's end, or is all of it
pub record IsCut (whole first rest : Part) : Type 0 where
  pub bytes : bytes_of first ++ bytes_of rest ≡ bytes_of whole
  pub at_line_end : EndsWithLine (bytes_of first) ⊎ (bytes_of rest ≡ [])
  pub begins : first.line ≡ whole.line
  pub mentions : mentions_of_part first ++ mentions_of_part rest ≡ mentions_of_part whole
  pub in_order : AreInEarlierLines (mentions_of_part first) (mentions_of_part rest)

-- parts of a text in a row: each ends with a line's end, or nothing comes after it
abbrev pub AreCutAtLineEnds : List Part → Type 0
AreCutAtLineEnds [] = ⊤
AreCutAtLineEnds (p ∷ ps) = (EndsWithLine (bytes_of p) ⊎ (flat_map bytes_of ps ≡ [])) × AreCutAtLineEnds ps

-- parts of a text in a row: the words of each stand in lines before those of all parts after it
abbrev pub AreInLineOrder : List Part → Type 0
AreInLineOrder [] = ⊤
AreInLineOrder (p ∷ ps) = AreInEarlierLines (mentions_of_part p) (flat_map mentions_of_part ps) × AreInLineOrder ps
