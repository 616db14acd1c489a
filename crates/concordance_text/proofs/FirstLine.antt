-- The first line of a text: where it ends, and the lines that it leaves.
use Rattle.std.proofs.Common.{◌≡◌, inl, inr, ℕ, ◌-◌, ◌<◌, ◌≤◌, false, List, [], ◌∷◌, ◌++◌, length, take, drop, refl, sym, ap₂, ◌∙◌, append-nil, arith}
use borrow.Author.Tests.{eqb-true}
use Rattle.std.specs.List.{AllByRecursion}
use Rattle.std.proofs.lemmas.List.{take_all}
use Rattle.std.proofs.lemmas.List.Elements.{All-from_recursion}
use Rattle.std.proofs.lemmas.List.Splits.{slice_split_at, slice_split_none}
use Rattle.concordance_text.specs.Lines.{BeginsWithLine}
use Rattle.concordance_text.specs.Words.{ends_line, lines_of}
use Rattle.concordance_text.proofs.Pieces.{CutsAtFirst}

-- what is behind a line, without the byte that ends it
abbrev pub behind_of : List ℕ → List ℕ
behind_of [] = []
behind_of (y ∷ ys) = ys

pub begins_with : (text line rest behind : List ℕ) → CutsAtFirst ends_line text line rest → behind ≡ behind_of rest → BeginsWithLine text line behind
begins_with text line [] behind cut is = record { one = cut.none; whole = inr (cut.is ∙ append-nil line, is) }
begins_with text line (y ∷ ys) behind cut is = record { one = cut.none; whole = inl (cut.is ∙ ap₂ (λ b bs. line ++ b ∷ bs) (eqb-true y 10 cut.begins) (sym is)) }

pub none_behind : (rest : List ℕ) → length rest < 1 → rest ≡ behind_of rest
none_behind [] short = refl
none_behind (y ∷ ys) short = absurd (omega arith)

pub all_behind : (rest : List ℕ) → 1 ≤ length rest → take (length rest - 1) (drop 1 rest) ≡ behind_of rest
all_behind [] some = absurd (omega arith)
all_behind (y ∷ ys) some = take_all (length (y ∷ ys) - 1) ys (omega arith)

-- a line with its end, and what is behind
pub lines_ended : (line behind : List ℕ) → AllByRecursion (λ byte. ends_line byte ≡ false) line → lines_of (line ++ 10 ∷ behind) ≡ line ∷ lines_of behind
lines_ended line behind one = slice_split_at ends_line line 10 behind (All-from_recursion _ line one) refl

-- a line alone
pub lines_last : (line : List ℕ) → AllByRecursion (λ byte. ends_line byte ≡ false) line → lines_of line ≡ line ∷ []
lines_last line one = slice_split_none ends_line line (All-from_recursion _ line one)
