-- Texts that are one line.
use Rattle.std.proofs.Common.{◌≡◌, ℕ, ◌+◌, ◌^◌, ◌<◌, Bool, true, false, cond, eqb, decimal, List, [], ◌∷◌, ◌++◌, codes, Option, Some, refl, sym, ap, ◌∙◌, arith}
use Rattle.std.proofs.lemmas.List.{append_assoc}
use Rattle.std.proofs.lemmas.List.Folds.{list_all-append}
use Rattle.std.proofs.lemmas.List.Concat.{flat_map-cons}
use Rattle.std.specs.List.{flat_map, list_all, AllByRecursion}
use Rattle.dump_text.specs.Lines.{first_lines}
use Rattle.dump_text.proofs.FirstLines.{front_and_rest, inside_line, is_inside}
use Rattle.dump_text.proofs.Options.{both_true}
use Rattle.dump_text.proofs.FirstLine.{decimal_inside}
use Rattle.plain_heap.specs.declared.mark.Mark.{Mark}
use Rattle.plain_heap.specs.declared.mark.Mark.TheVariants.{Step, Flip, Full, Traced}
use Rattle.plain_heap.specs.Print.{end_text, mark_text, order_line, printed_line}
use Rattle.plain_state.specs.declared.end.End.{End}
use Rattle.plain_state.specs.declared.end.End.TheVariants.{HeapFull}
use Rattle.heap_audit.specs.Texts.Ends.{EndFits}
use Rattle.heap_audit.specs.Texts.Order.{MarkFits}
use Rattle.heap_audit.proofs.Texts.Fronts.{ends, ends_append}

-- ---- what stands inside of a line

-- no line ends in a text
abbrev pub IsInside : List ℕ → Type 0
IsInside text = list_all is_inside text ≡ true

pub both_inside : (xs ys : List ℕ) → IsInside xs → IsInside ys → IsInside (xs ++ ys)
both_inside xs ys hx hy = rw (list_all-append is_inside xs ys, hx, hy) refl

no_end_here : (t : Bool) → cond t false true ≡ true → t ≡ false
no_end_here true e = absurd cc
no_end_here false e = refl

ends_inside : (text : List ℕ) → IsInside text → ends text ≡ 0
ends_inside [] h = refl
ends_inside (b ∷ text) h =
    let t = both_true (is_inside b) (list_all is_inside text) h in
    rw (no_end_here (eqb b 10) t.0, ends_inside text t.1) refl

-- ---- one line

-- a text that is one line
pub record IsLine (text : List ℕ) : Type 0 where
  pub body : List ℕ
  pub is : text ≡ body ++ 10 ∷ []
  pub inside : IsInside body

pub line_ends : (text : List ℕ) → IsLine text → ends text ≡ 1
line_ends text l = ap ends l.is ∙ ends_append l.body (10 ∷ []) ∙ ap (λ (n : ℕ). n + 1) (ends_inside l.body l.inside)

pub line_first : (text tail : List ℕ) → IsLine text → first_lines 1 (text ++ tail) ≡ text
line_first text tail l =
    ap (λ (xs : List ℕ). first_lines 1 (xs ++ tail)) l.is ∙ ap (first_lines 1) (append_assoc l.body (10 ∷ []) tail) ∙ inside_line 0 l.body (10 ∷ tail) l.inside ∙ sym l.is

-- bytes whose first line is that of a text begin with it
pub begin_so : (bytes text tail : List ℕ) → IsLine text → first_lines 1 bytes ≡ first_lines 1 (text ++ tail) → (rest : List ℕ) × (bytes ≡ text ++ rest)
begin_so bytes text tail l same =
    let f = front_and_rest 1 bytes in
    (f.0, f.1 ∙ ap (λ (xs : List ℕ). xs ++ f.0) (same ∙ line_first text tail l))

-- ---- the lines of mutators

pub printed_is_line : (m : ℕ) (text : List ℕ) → m < 2 ^ 64 → IsInside text → IsLine (printed_line m text)
printed_is_line m text lt h =
    let name = decimal m ++ codes ": " in
    record { body = name ++ text; is = refl; inside = both_inside name text (both_inside (decimal m) (codes ": ") (decimal_inside m lt) refl) h }

pub end_inside : (end : Option End) → EndFits end → IsInside (end_text end)
end_inside (Some (HeapFull asked room live)) fits =
    let a = codes "heap full asked " ++ decimal asked in
    let b = a ++ codes " room " in
    let c = b ++ decimal room in
    let d = c ++ codes " live " in
    both_inside d (decimal live) (both_inside c (codes " live ") (both_inside b (decimal room) (both_inside a (codes " room ")
    (both_inside (codes "heap full asked ") (decimal asked) refl (decimal_inside asked (omega (arith, fits.0)))) refl) (decimal_inside room (omega (arith, fits.1)))) refl) (decimal_inside live (omega (arith, fits.2)))
end_inside _ fits = refl

-- ---- the line of an order

mark_inside : (mark : Mark) → MarkFits mark → IsInside (mark_text mark)
mark_inside (Step m) fits = decimal_inside m (omega (arith, fits))
mark_inside (Flip asked) fits = both_inside (codes "F") (decimal asked) refl (decimal_inside asked (omega (arith, fits)))
mark_inside (Full m asked room live) fits =
    let a = codes "X" ++ decimal m in
    let b = a ++ codes "," in
    let c = b ++ decimal asked in
    let d = c ++ codes "," in
    let e = d ++ decimal room in
    let f = e ++ codes "," in
    both_inside f (decimal live) (both_inside e (codes ",") (both_inside d (decimal room) (both_inside c (codes ",") (both_inside b (decimal asked) (both_inside a (codes ",")
    (both_inside (codes "X") (decimal m) refl (decimal_inside m (omega (arith, fits.0)))) refl) (decimal_inside asked (omega (arith, fits.1)))) refl) (decimal_inside room (omega (arith, fits.2)))) refl) (decimal_inside live (omega (arith, fits.3)))
mark_inside Traced fits = refl

abbrev spaced : Mark → List ℕ
spaced mark = codes " " ++ mark_text mark

marks_inside : (marks : List Mark) → AllByRecursion MarkFits marks → IsInside (flat_map spaced marks)
marks_inside [] h = refl
marks_inside (mark ∷ marks) h =
    ap (list_all is_inside) (flat_map-cons spaced mark marks)
    ∙ both_inside (spaced mark) (flat_map spaced marks) (both_inside (codes " ") (mark_text mark) refl (mark_inside mark h.0)) (marks_inside marks h.1)

pub order_is_line : (marks : List Mark) → AllByRecursion MarkFits marks → IsLine (order_line marks)
order_is_line marks h =
    record { body = codes "order" ++ flat_map spaced marks; is = refl; inside = both_inside (codes "order") (flat_map spaced marks) refl (marks_inside marks h) }
