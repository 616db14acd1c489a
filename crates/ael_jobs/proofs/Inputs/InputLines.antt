-- The lines of an input, and where they divide it.
use Rattle.std.proofs.Common.{◌≡◌, ◌≢◌, ℕ, ◌-◌, Bool, true, false, List, [], ◌∷◌, ◌++◌, Option, Some, None, length, take, unwrap_or, refl, sym, ap, ◌∙◌, append_assoc, length-append, inl, inr, true≢false, arith}
use Rattle.std.specs.Prelude.{◌⊎◌, codes, option_map}
use borrow.Author.Tests.{eqb-true}
use lib.Dec.{eqb}
use Rattle.std.specs.List.{join_with_byte}
use Rattle.std.specs.Str.{bytes_eq}
use Rattle.std.proofs.lemmas.List.{append-nil, take_at}
use Rattle.std.proofs.lemmas.List.Splits.{join_with_byte-slice_split}
use Rattle.std.proofs.lemmas.Slice.Eq.{bytes_eq-Decides}
use Rattle.concordance_text.specs.Lines.{BeginsWithLine}
use Rattle.concordance_text.specs.Words.{lines_of}
use Rattle.concordance_text.proofs.FirstLine.{lines_ended, lines_last}
use Rattle.ael_jobs.specs.Tasks.Division.{divide_lines, divided, output_line, preceded_by}

-- ---- the line between text and part

pub is_output : (line wanted : List ℕ) (same : Bool) → wanted ≡ output_line → same ≡ bytes_eq line wanted → same ≡ true → line ≡ output_line
is_output line wanted same is tests is_same = (bytes_eq-Decides line wanted).0 (sym tests ∙ is_same) ∙ is

pub is_other : (line wanted : List ℕ) (same : Bool) → wanted ≡ output_line → same ≡ bytes_eq line wanted → same ≡ false → line ≢ output_line
is_other line wanted same is tests isnt e = true≢false (sym ((bytes_eq-Decides line wanted).1 (e ∙ sym is)) ∙ sym tests ∙ isnt)

pub empty : (rest : List ℕ) (none_left : Bool) → none_left ≡ eqb (length rest) 0 → none_left ≡ true → rest ≡ []
empty [] none_left tests is = refl
empty (x ∷ rest) none_left tests is = let nothing : length (x ∷ rest) ≡ 0 = eqb-true (length (x ∷ rest)) 0 (sym tests ∙ is) in absurd (omega (arith, nothing))

-- ---- where they divide the input

-- the first line does
pub divides : (line : List ℕ) (lines : List (List ℕ)) → line ≡ output_line → divide_lines (line ∷ lines) ≡ Some ([], join_with_byte 10 lines)
divides line lines is = ap (λ l. divide_lines (l ∷ lines)) is

-- it doesn't
pub passes : (line : List ℕ) (lines : List (List ℕ)) → line ≢ output_line → divide_lines (line ∷ lines) ≡ option_map (preceded_by (line ++ codes "\n")) (divide_lines lines)
passes line lines other = by (bytes_eq line output_line) refl
  where
    by : (b : Bool) → bytes_eq line output_line ≡ b → divide_lines (line ∷ lines) ≡ option_map (preceded_by (line ++ codes "\n")) (divide_lines lines)
    by true is = absurd (other ((bytes_eq-Decides line output_line).0 is))
    by false is = rw is

-- the first line of the bytes does
pub divides_here : (bytes line behind : List ℕ) → BeginsWithLine bytes line behind → line ≡ output_line → divide_lines (lines_of bytes) ≡ Some ([], behind)
divides_here bytes line behind first is = by first.whole
  where
    by : (bytes ≡ line ++ 10 ∷ behind) ⊎ ((bytes ≡ line) × (behind ≡ [])) → divide_lines (lines_of bytes) ≡ Some ([], behind)
    by (inl ended) = ap (λ bs. divide_lines (lines_of bs)) ended ∙ ap divide_lines (lines_ended line behind first.one) ∙ divides line (lines_of behind) is ∙ ap (λ (bs : List ℕ). Some ([], bs)) (join_with_byte-slice_split 10 behind)
    by (inr last) = ap (λ bs. divide_lines (lines_of bs)) last.0 ∙ ap divide_lines (lines_last line first.one) ∙ divides line [] is ∙ ap (λ (bs : List ℕ). Some ([], bs)) (sym last.1)

-- ---- how far the lines were looked at

-- none of the lines in front of the rest divides the input
pub record HasPassed (input rest : List ℕ) : Type 0 where
  pub front : List ℕ
  pub whole : input ≡ front ++ rest
  pub same : divide_lines (lines_of input) ≡ option_map (preceded_by front) (divide_lines (lines_of rest))

with_nothing : (o : Option (List ℕ × List ℕ)) → o ≡ option_map (preceded_by []) o
with_nothing None = refl
with_nothing (Some parts) = refl

with_more : (front more : List ℕ) (o : Option (List ℕ × List ℕ)) → option_map (preceded_by front) (option_map (preceded_by more) o) ≡ option_map (preceded_by (front ++ more)) o
with_more front more None = refl
with_more front more (Some parts) = ap (λ (text : List ℕ). Some (text, parts.1)) (sym (append_assoc front more parts.0))

pub passed_none : (input : List ℕ) → HasPassed input input
passed_none input = record { front = []; whole = refl; same = with_nothing (divide_lines (lines_of input)) }

pub passed_one : (input rest line behind : List ℕ) → HasPassed input rest → BeginsWithLine rest line behind → line ≢ output_line → HasPassed input behind
passed_one input rest line behind h first other = by first.whole
  where
    by : (rest ≡ line ++ 10 ∷ behind) ⊎ ((rest ≡ line) × (behind ≡ [])) → HasPassed input behind
    by (inl ended) =
        let lines : divide_lines (lines_of rest) ≡ option_map (preceded_by (line ++ codes "\n")) (divide_lines (lines_of behind)) =
        ap (λ bs. divide_lines (lines_of bs)) ended ∙ ap divide_lines (lines_ended line behind first.one) ∙ passes line (lines_of behind) other in
        record {
          front = h.front ++ (line ++ codes "\n");
          whole = h.whole ∙ ap (λ bs. h.front ++ bs) (ended ∙ sym (append_assoc line (codes "\n") behind)) ∙ sym (append_assoc h.front (line ++ codes "\n") behind);
          same = h.same ∙ ap (option_map (preceded_by h.front)) lines ∙ with_more h.front (line ++ codes "\n") (divide_lines (lines_of behind));
        }
    by (inr last) =
        let none_there : divide_lines (lines_of rest) ≡ None =
        ap (λ bs. divide_lines (lines_of bs)) last.0 ∙ ap divide_lines (lines_last line first.one) ∙ passes line [] other in
        record {
          front = h.front ++ line;
          whole = h.whole ∙ ap (λ bs. h.front ++ bs) last.0 ∙ sym (append-nil (h.front ++ line)) ∙ ap (λ bs. (h.front ++ line) ++ bs) (sym last.1);
          same = h.same ∙ ap (option_map (preceded_by h.front)) none_there ∙ ap (λ bs. option_map (preceded_by (h.front ++ line)) (divide_lines (lines_of bs))) (sym last.1);
        }

-- the next line divides it
pub is_divided : (input rest line behind : List ℕ) → HasPassed input rest → BeginsWithLine rest line behind → line ≡ output_line → (take (length input - length rest) input, behind) ≡ divided input
unfolding divided
is_divided input rest line behind h first is =
    let long = ap length h.whole ∙ length-append h.front rest in
    let text : take (length input - length rest) input ≡ h.front ++ [] = ap (take (length input - length rest)) h.whole ∙ take_at h.front rest (length input - length rest) (omega (arith, long)) ∙ sym (append-nil h.front) in
    ap (λ (bs : List ℕ). (bs, behind)) text ∙ sym (ap (λ (o : Option (List ℕ × List ℕ)). unwrap_or o (input, [])) (h.same ∙ ap (option_map (preceded_by h.front)) (divides_here rest line behind first is)))

-- no line does
pub is_undivided : (input rest : List ℕ) → HasPassed input rest → rest ≡ [] → (input, rest) ≡ divided input
unfolding divided
is_undivided input rest h nothing =
    let no_line : divide_lines (lines_of input) ≡ None = h.same ∙ ap (λ bs. option_map (preceded_by h.front) (divide_lines (lines_of bs))) nothing in
    ap (λ (bs : List ℕ). (input, bs)) nothing ∙ sym (ap (λ (o : Option (List ℕ × List ℕ)). unwrap_or o (input, [])) no_line)
