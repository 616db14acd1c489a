-- The line of an order, read mark by mark, as a loop does.
use Rattle.std.proofs.Common.{◌≡◌, ℕ, ◌+◌, ◌<◌, ◌≤◌, List, [], ◌∷◌, ◌++◌, length, Some, None, refl, sym, ap, subst, ◌∙◌, arith}
use Rattle.std.proofs.lemmas.List.{append_assoc, append-nil, length-append}
use Rattle.std.proofs.lemmas.List.Concat.{flat_map-cons}
use Rattle.std.specs.List.{flat_map, AllByRecursion}
use Rattle.dump_text.specs.Pieces.{◌>>=◌, byte_at}
use Rattle.dump_text.proofs.Options.{some_bind, some_is}
use Rattle.dump_text.proofs.Pieces.{byte_takes, byte_again}
use Rattle.plain_heap.specs.declared.mark.Mark.{Mark}
use Rattle.plain_heap.specs.Print.{mark_text, order_line}
use Rattle.heap_audit.specs.Texts.FirstWrong.{NamesWrong}
use Rattle.heap_audit.specs.Texts.Order.{MarkFits}
use Rattle.heap_audit.specs.Texts.Pieces.{mark_at, name_at}
use Rattle.heap_audit.specs.declared.reading.reading_error.ReadingError.TheVariants as errors
use Rattle.dump_text.proofs.Numerals.{Stops}
use Rattle.heap_audit.proofs.Texts.OrderMarks.{mark_takes, mark_again}
use Rattle.heap_audit.proofs.Texts.OneLine.{begin_so, order_is_line}

abbrev spaced : Mark → List ℕ
spaced mark = 32 ∷ mark_text mark

-- the text of marks, a space before each
abbrev pub marks_text : List Mark → List ℕ
marks_text marks = flat_map spaced marks

-- what stands behind marks: others, and the line's end
abbrev Line : List Mark → List ℕ → List ℕ
Line marks tail = marks_text marks ++ 10 ∷ tail

text_of_one : (mark : Mark) (marks : List Mark) (tail : List ℕ) → Line (mark ∷ marks) tail ≡ 32 ∷ (mark_text mark ++ Line marks tail)
text_of_one mark marks tail = ap (λ (t : List ℕ). t ++ 10 ∷ tail) (flat_map-cons spaced mark marks) ∙ append_assoc (spaced mark) (marks_text marks) (10 ∷ tail)

line_stops : (marks : List Mark) (tail : List ℕ) → Stops (Line marks tail)
line_stops [] tail = refl
line_stops (mark ∷ marks) tail = subst Stops (sym (text_of_one mark marks tail)) refl

-- what is left of marks when some of them are read
pub record Left (found marks : List Mark) (rest tail : List ℕ) : Type 0 where
  pub more : List Mark
  pub split : marks ≡ found ++ more
  pub fit : AllByRecursion MarkFits more
  pub text : rest ≡ Line more tail

-- the marks that are read are those that stand at the front
pub record SoFar (bytes : List ℕ) (found : List Mark) (rest : List ℕ) : Type 0 where
  pub taken : bytes ≡ marks_text found ++ rest
  pub fit : AllByRecursion MarkFits found
  pub only : (marks : List Mark) (tail : List ℕ) → AllByRecursion MarkFits marks → bytes ≡ Line marks tail → Left found marks rest tail

fits_one_more : (found : List Mark) (mark : Mark) → AllByRecursion MarkFits found → MarkFits mark → AllByRecursion MarkFits (found ++ mark ∷ [])
fits_one_more [] mark h one = (one, tt)
fits_one_more (m ∷ found) mark h one = (h.0, fits_one_more found mark h.1 one)

text_one_more : (found : List Mark) (mark : Mark) (after : List ℕ) → marks_text (found ++ mark ∷ []) ++ after ≡ marks_text found ++ (32 ∷ (mark_text mark ++ after))
text_one_more [] mark after = ap (λ (t : List ℕ). t ++ after) (append-nil (spaced mark))
text_one_more (m ∷ found) mark after =
    ap (λ (t : List ℕ). t ++ after) (flat_map-cons spaced m (found ++ mark ∷ [])) ∙ append_assoc (spaced m) (marks_text (found ++ mark ∷ [])) after
    ∙ ap (λ (t : List ℕ). spaced m ++ t) (text_one_more found mark after) ∙ sym (append_assoc (spaced m) (marks_text found) (32 ∷ (mark_text mark ++ after)))
    ∙ ap (λ (t : List ℕ). t ++ 32 ∷ (mark_text mark ++ after)) (sym (flat_map-cons spaced m found))

same_tail : (a b : ℕ) (xs ys : List ℕ) → a ∷ xs ≡ b ∷ ys → (a ≡ b) × (xs ≡ ys)
same_tail a b xs ys e = (cc, cc)

space_is_no_end : (xs ys : List ℕ) → 32 ∷ xs ≡ 10 ∷ ys → ⊥
space_is_no_end xs ys e = absurd cc

-- what is left begins with a mark
pub record Begins (left : List Mark) (text tail : List ℕ) : Type 0 where
  pub mark : Mark
  pub marks : List Mark
  pub split : left ≡ mark ∷ marks
  pub fits : MarkFits mark
  pub others : AllByRecursion MarkFits marks
  pub read : mark_at text ≡ Some (mark, Line marks tail)

begins : (left : List Mark) (text tail : List ℕ) → AllByRecursion MarkFits left → 32 ∷ text ≡ Line left tail → Begins left text tail
begins [] text tail h e = absurd (space_is_no_end text tail e)
begins (mark ∷ marks) text tail h e =
    let is : text ≡ mark_text mark ++ Line marks tail = (same_tail 32 32 text (mark_text mark ++ Line marks tail) (e ∙ text_of_one mark marks tail)).1 in
    record { mark = mark; marks = marks; split = refl; fits = h.0; others = h.1; read = ap mark_at is ∙ mark_again mark (Line marks tail) h.0 (line_stops marks tail) }

one_more : (found : List Mark) (mark m : Mark) (after : List ℕ) (marks left : List Mark) (tail : List ℕ) → (all : List Mark) → all ≡ found ++ left → left ≡ m ∷ marks → AllByRecursion MarkFits marks → ◌≡◌ {A = Mark × List ℕ} (mark, after) (m, Line marks tail) → Left (found ++ mark ∷ []) all after tail
one_more found mark m after marks left tail all split begin others same =
    let is : mark ≡ m = ap (λ (q : Mark × List ℕ). q.0) same in
    record {
      more = marks;
      split = split ∙ ap (λ (ms : List Mark). found ++ ms) (begin ∙ ap (λ (x : Mark). x ∷ marks) (sym is)) ∙ sym (append_assoc found (mark ∷ []) marks);
      fit = others;
      text = ap (λ (q : Mark × List ℕ). q.1) same;
    }

-- one more mark
pub goes_on : (bytes : List ℕ) (found : List Mark) (text : List ℕ) (mark : Mark) (after : List ℕ) → mark_at text ≡ Some (mark, after) → SoFar bytes found (32 ∷ text) → SoFar bytes (found ++ mark ∷ []) after
goes_on bytes found text mark after read s =
    let t = mark_takes text mark after read in
    record {
      taken = s.taken ∙ ap (λ (xs : List ℕ). marks_text found ++ 32 ∷ xs) t.0 ∙ sym (text_one_more found mark after);
      fit = fits_one_more found mark s.fit t.1;
      only = λ marks tail h e.
          let l = s.only marks tail h e in
          let b = begins l.more text tail l.fit l.text in
          one_more found mark b.mark after b.marks l.more tail marks l.split b.split b.others (some_is {A = Mark × List ℕ} (mark, after) (b.mark, Line b.marks tail) (sym read ∙ b.read));
    }

-- reading a mark leaves less
pub less : (text : List ℕ) (mark : Mark) (after : List ℕ) → mark_at text ≡ Some (mark, after) → length after ≤ length text
less text mark after read =
    let t = mark_takes text mark after read in
    omega (arith, ap (λ (xs : List ℕ). length xs) t.0, length-append (mark_text mark) after)

none_is_not_some : (q : Mark × List ℕ) → None ≡ Some q → ⊥
none_is_not_some q e = absurd cc

-- a mark that is wrong: there is no such order
pub wrong_mark : (bytes : List ℕ) (found : List Mark) (text : List ℕ) → mark_at text ≡ None → SoFar bytes found (32 ∷ text) → (marks : List Mark) (tail : List ℕ) → AllByRecursion MarkFits marks → bytes ≡ Line marks tail → ⊥
wrong_mark bytes found text read s marks tail h e =
    let l = s.only marks tail h e in
    let b = begins l.more text tail l.fit l.text in
    none_is_not_some (b.mark, Line b.marks tail) (sym read ∙ b.read)

end_is : (more : List Mark) (after tail : List ℕ) → 10 ∷ after ≡ Line more tail → (more ≡ []) × (after ≡ tail)
end_is [] after tail e = (refl, (same_tail 10 10 after tail e).1)
end_is (mark ∷ marks) after tail e = absurd (space_is_no_end (mark_text mark ++ Line marks tail) after (sym (e ∙ text_of_one mark marks tail)))

-- the line's end
pub ends : (bytes : List ℕ) (found : List Mark) (after : List ℕ) → SoFar bytes found (10 ∷ after) → (marks : List Mark) (tail : List ℕ) → AllByRecursion MarkFits marks → bytes ≡ Line marks tail → ◌≡◌ {A = List Mark × List ℕ} (found, after) (marks, tail)
ends bytes found after s marks tail h e =
    let l = s.only marks tail h e in
    let is = end_is l.more after tail l.text in
    let all : marks ≡ found = l.split ∙ ap (λ (ms : List Mark). found ++ ms) is.0 ∙ append-nil found in
    rw (all, is.1) refl

-- ---- the whole line

-- bytes that begin with the word `order`
abbrev pub Begun : List ℕ → List ℕ
Begun body = 111 ∷ 114 ∷ 100 ∷ 101 ∷ 114 ∷ body

pub line_is : (marks : List Mark) (tail : List ℕ) → order_line marks ++ tail ≡ Begun (Line marks tail)
line_is marks tail = ap Begun (append_assoc (marks_text marks) (10 ∷ []) tail)

same_body : (xs ys : List ℕ) → Begun xs ≡ Begun ys → xs ≡ ys
same_body xs ys e = cc

name_takes : (bytes body : List ℕ) → name_at bytes ≡ Some body → bytes ≡ Begun body
name_takes bytes body h =
    let o = some_bind (byte_at 111 bytes) (λ o. byte_at 114 o >>= λ r. byte_at 100 r >>= λ d. byte_at 101 d >>= λ e. byte_at 114 e) body h in
    let r = some_bind (byte_at 114 o.0) (λ r. byte_at 100 r >>= λ d. byte_at 101 d >>= λ e. byte_at 114 e) body o.2 in
    let d = some_bind (byte_at 100 r.0) (λ d. byte_at 101 d >>= λ e. byte_at 114 e) body r.2 in
    let e = some_bind (byte_at 101 d.0) (λ e. byte_at 114 e) body d.2 in
    byte_takes 111 bytes o.0 o.1 ∙ ap (λ (t : List ℕ). 111 ∷ t) (byte_takes 114 o.0 r.0 r.1 ∙ ap (λ (t : List ℕ). 114 ∷ t) (byte_takes 100 r.0 d.0 d.1
    ∙ ap (λ (t : List ℕ). 100 ∷ t) (byte_takes 101 d.0 e.0 e.1 ∙ ap (λ (t : List ℕ). 101 ∷ t) (byte_takes 114 e.0 body e.2))))

none_is_no_text : (xs : List ℕ) → None ≡ Some xs → ⊥
none_is_no_text xs e = absurd cc

-- bytes that do not begin with the word are no order's
pub no_name : (bytes : List ℕ) → name_at bytes ≡ None → (marks : List Mark) (tail : List ℕ) → bytes ≡ order_line marks ++ tail → ⊥
no_name bytes h marks tail e = none_is_no_text (Line marks tail) (sym h ∙ ap name_at (e ∙ line_is marks tail))

no_space : (rest text : List ℕ) → byte_at 32 rest ≡ None → rest ≡ 32 ∷ text → ⊥
no_space rest text h e = none_is_no_text text (sym h ∙ ap (byte_at 32) e ∙ byte_again 32 text)

no_end : (rest text : List ℕ) → byte_at 10 rest ≡ None → rest ≡ 10 ∷ text → ⊥
no_end rest text h e = none_is_no_text text (sym h ∙ ap (byte_at 10) e ∙ byte_again 10 text)

no_line : (more : List Mark) (rest tail : List ℕ) → byte_at 32 rest ≡ None → byte_at 10 rest ≡ None → rest ≡ Line more tail → ⊥
no_line [] rest tail space end e = no_end rest tail end e
no_line (mark ∷ marks) rest tail space end e = no_space rest (mark_text mark ++ Line marks tail) space (e ∙ text_of_one mark marks tail)

-- one more mark is read
pub order_goes_on : (body : List ℕ) (found : List Mark) (rest text : List ℕ) (mark : Mark) (after : List ℕ) → byte_at 32 rest ≡ Some text → mark_at text ≡ Some (mark, after) → SoFar body found rest → SoFar body (found ++ mark ∷ []) after
order_goes_on body found rest text mark after space read s = goes_on body found text mark after read (subst (SoFar body found) (byte_takes 32 rest text space) s)

pub order_is_less : (rest text : List ℕ) (mark : Mark) (after : List ℕ) → byte_at 32 rest ≡ Some text → mark_at text ≡ Some (mark, after) → length after < length rest
order_is_less rest text mark after space read = omega (arith, less text mark after read, ap (λ (xs : List ℕ). length xs) (byte_takes 32 rest text space))

module _ (bytes body : List ℕ) (found : List Mark) (rest : List ℕ) (name : name_at bytes ≡ Some body) (s : SoFar body found rest) where
  body_is : (marks : List Mark) (tail : List ℕ) → bytes ≡ order_line marks ++ tail → body ≡ Line marks tail
  body_is marks tail e = same_body body (Line marks tail) (sym (name_takes bytes body name) ∙ e ∙ line_is marks tail)

  pub order_only : (after : List ℕ) → byte_at 10 rest ≡ Some after → (marks : List Mark) (tail : List ℕ) → AllByRecursion MarkFits marks → bytes ≡ order_line marks ++ tail → ◌≡◌ {A = List Mark × List ℕ} (found, after) (marks, tail)
  order_only after end marks tail h is = ends body found after (subst (SoFar body found) (byte_takes 10 rest after end) s) marks tail h (body_is marks tail is)

  pub order_wrong : (text : List ℕ) → byte_at 32 rest ≡ Some text → mark_at text ≡ None → (marks : List Mark) (tail : List ℕ) → AllByRecursion MarkFits marks → bytes ≡ order_line marks ++ tail → ⊥
  order_wrong text space read marks tail h is = wrong_mark body found text read (subst (SoFar body found) (byte_takes 32 rest text space) s) marks tail h (body_is marks tail is)

  pub order_unended : byte_at 32 rest ≡ None → byte_at 10 rest ≡ None → (marks : List Mark) (tail : List ℕ) → AllByRecursion MarkFits marks → bytes ≡ order_line marks ++ tail → ⊥
  order_unended space end marks tail h is =
      let l = s.only marks tail h (body_is marks tail is) in
      no_line l.more rest tail space end l.text

-- ---- lines at the front

same_marks : (marks others : List Mark) (rest tail : List ℕ) → AllByRecursion MarkFits marks → AllByRecursion MarkFits others → Line marks rest ≡ Line others tail → (marks ≡ others) × (rest ≡ tail)
same_marks [] others rest tail hm ho e = let is = end_is others rest tail e in (sym is.0, is.1)
same_marks (mark ∷ marks) others rest tail hm ho e =
    let behind = Line marks rest in
    let b = begins others (mark_text mark ++ behind) tail ho (sym (text_of_one mark marks rest) ∙ e) in
    let same = some_is {A = Mark × List ℕ} (mark, behind) (b.mark, Line b.marks tail) (sym (mark_again mark behind hm.0 (line_stops marks rest)) ∙ b.read) in
    let deeper = same_marks marks b.marks rest tail hm.1 b.others (ap (λ (q : Mark × List ℕ). q.1) same) in
    (ap (λ (ms : List Mark). mark ∷ ms) deeper.0 ∙ ap (λ (q : Mark × List ℕ). q.0 ∷ b.marks) same ∙ sym b.split, deeper.1)

-- the line of an order at the front is that of one order alone
pub same_order : (marks others : List Mark) (rest tail : List ℕ) → AllByRecursion MarkFits marks → AllByRecursion MarkFits others → order_line marks ++ rest ≡ order_line others ++ tail → (marks ≡ others) × (rest ≡ tail)
same_order marks others rest tail hm ho e = same_marks marks others rest tail hm ho (same_body (Line marks rest) (Line others tail) (sym (line_is marks rest) ∙ e ∙ line_is others tail))

-- ---- the first wrong line

-- bytes that begin with no order's line are wrong in their first line
pub names_wrong : (bytes : List ℕ) (before line : ℕ) → line ≡ before + 1 → ((marks : List Mark) (tail : List ℕ) → AllByRecursion MarkFits marks → bytes ≡ order_line marks ++ tail → ⊥) → NamesWrong order_line (AllByRecursion MarkFits) bytes before (errors.Bad line)
names_wrong bytes before line is none = (
  0,
  omega (arith, is),
  record {
    begun = [];
    fits = tt;
    before = λ more. refl;
    wrong = λ marks more fits same. let r = begin_so bytes (order_line marks) more (order_is_line marks fits) same in none marks r.0 fits r.1;
  },
)
