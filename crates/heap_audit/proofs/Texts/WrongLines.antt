-- Bytes that go wrong behind a front.
use Rattle.std.proofs.Common.{◌≡◌, ℕ, zero, suc, ◌+◌, List, ◌++◌, sym, ap, ◌∙◌, arith}
use Rattle.std.proofs.lemmas.List.{append_assoc, append_cancel_left}
use Rattle.dump_text.specs.Lines.{first_lines}
use Rattle.dump_text.proofs.FirstLines.{front_and_rest}
use Rattle.heap_audit.proofs.Texts.Fronts.{ends, front_lines, lines_more}

-- what stands behind the same front is the same as far as this
pub same_behind : (front rest behind : List ℕ) (k : ℕ) → first_lines k rest ≡ first_lines k behind → first_lines (ends front + k) (front ++ rest) ≡ first_lines (ends front + k) (front ++ behind)
same_behind front rest behind zero e = let none : ends front + 0 ≡ ends front = omega arith in rw none (front_lines front rest behind)
same_behind front rest behind (suc k) e =
    let next : ends front + suc k ≡ suc (ends front + k) = omega arith in
    rw next (lines_more front rest k ∙ ap (λ (xs : List ℕ). front ++ xs) e ∙ sym (lines_more front behind k))

-- a text begins with the front, and goes on as what stands behind it does
pub record GoesOn (front rest whole : List ℕ) (k : ℕ) : Type 0 where
  pub tail : List ℕ
  pub split : whole ≡ front ++ tail
  pub same : first_lines (suc k) rest ≡ first_lines (suc k) tail

pub goes_on : (front rest whole : List ℕ) (k : ℕ) → first_lines (suc (ends front + k)) (front ++ rest) ≡ first_lines (suc (ends front + k)) whole → GoesOn front rest whole k
goes_on front rest whole k e =
    let n = suc (ends front + k) in
    let lines = first_lines (suc k) rest in
    let here : first_lines n whole ≡ front ++ lines = sym e ∙ lines_more front rest k in
    let f = front_and_rest n whole in
    let tail = lines ++ f.0 in
    let split : whole ≡ front ++ tail = f.1 ∙ ap (λ (xs : List ℕ). xs ++ f.0) here ∙ append_assoc front lines f.0 in
    record { tail = tail; split = split; same = append_cancel_left front lines (first_lines (suc k) tail) (sym here ∙ ap (first_lines n) split ∙ lines_more front tail k) }
