-- Readers of lines that are exact: what is read has its text, each text is read again, and a fault is the first wrong line.
use Rattle.std.proofs.Common.{◌≡◌, ℕ, zero, suc, ◌+◌, List, [], ◌∷◌, ◌++◌, length, Option, Some, None, Result, Ok, Err, refl, sym, ap, subst, ◌∙◌, arith}
use Rattle.std.proofs.lemmas.List.{append_assoc, append_cancel_left, append-nil}
use Rattle.std.proofs.lemmas.List.Concat.{flat_map-cons}
use Rattle.std.specs.List.{flat_map, AllByRecursion}
use Rattle.dump_text.specs.Lines.{first_lines}
use Rattle.dump_text.specs.Pieces.{Piece}
use Rattle.dump_text.specs.Reading.{Reader, ◌>>=◌, or_line, many}
use Rattle.dump_text.proofs.FirstLines.{front_and_rest}
use Rattle.dump_text.proofs.Pieces.{IsPiece}

-- the value of a reading that did not fail
pub ok_bind : {A B : Type 0} (r : Result A ℕ) (f : A → Result B ℕ) (y : B) → (r >>= f) ≡ Ok y → (x : A) × (r ≡ Ok x) × (f x ≡ Ok y)
ok_bind (Ok x) f y e = (x, refl, e)
ok_bind (Err l) f y e = absurd cc

abbrev done : {A : Type 0} → A → Result A ℕ
done x = Ok x

abbrev failed : {A : Type 0} → ℕ → Result A ℕ
failed l = Err l

pub err_is : {A : Type 0} (k l : ℕ) → failed {A = A} k ≡ failed {A = A} l → k ≡ l
err_is k l e = cc

pub ok_is : {A : Type 0} (x y : A) → done x ≡ done y → x ≡ y
ok_is x y e = cc

-- a reading fails in its first part or in its second
pub data Failed {A B : Type 0} (r : Result A ℕ) (f : A → Result B ℕ) (l : ℕ) : Type 0 where
  First : r ≡ Err l → Failed r f l
  Second : (x : A) → r ≡ Ok x → f x ≡ Err l → Failed r f l

pub err_bind : {A B : Type 0} (r : Result A ℕ) (f : A → Result B ℕ) (l : ℕ) → (r >>= f) ≡ Err l → Failed r f l
err_bind (Ok x) f l e = Second x refl e
err_bind {A} {B} (Err k) f l e = First (ap (failed {A = A}) (err_is {A = B} k l e))

pub ok_not_err : {A : Type 0} (x : A) (l : ℕ) → done x ≡ Err l → ⊥
ok_not_err x l e = absurd cc

-- bytes are wrong in this line: those before it begin a text that fits, and with it they begin none
pub record IsWrong {A : Type 0} (text : A → List ℕ) (Fits : A → Type 0) (bytes : List ℕ) (place : ℕ) : Type 0 where
  pub begun : A
  pub fits : Fits begun
  pub before : (more : List ℕ) → first_lines place bytes ≡ first_lines place (text begun ++ more)
  pub wrong : (x : A) (more : List ℕ) → Fits x → first_lines (suc place) bytes ≡ first_lines (suc place) (text x ++ more) → ⊥

-- a reader of values, of which each has a text of so many lines
pub record IsExact {A : Type 0} (read : Reader A) (text : A → List ℕ) (Fits : A → Type 0) (count : A → ℕ) : Type 0 where
  pub takes : (line : ℕ) (bytes : List ℕ) (x : A) (rest : List ℕ) → read line bytes ≡ Ok (x, rest) → (bytes ≡ text x ++ rest) × Fits x
  pub again : (line : ℕ) (x : A) (rest : List ℕ) → Fits x → read line (text x ++ rest) ≡ Ok (x, rest)
  pub ends : (x : A) (rest : List ℕ) (n : ℕ) → Fits x → first_lines (count x + n) (text x ++ rest) ≡ text x ++ first_lines n rest
  pub fault : (line : ℕ) (bytes : List ℕ) (l : ℕ) → read line bytes ≡ Err l → (place : ℕ) × (l ≡ line + place) × IsWrong text Fits bytes place
  pub begun : A
  pub begun_fits : Fits begun

-- ---- one line

or_ok : {X : Type 0} (line : ℕ) (o : Option X) (x : X) → or_line line o ≡ Ok x → o ≡ Some x
or_ok line None x e = absurd cc
or_ok line (Some y) x e = ap (λ v. Some v) (ok_is y x e)

or_err : {X : Type 0} (line : ℕ) (o : Option X) (l : ℕ) → or_line line o ≡ Err l → (o ≡ None) × (l ≡ line)
or_err line None l e = (refl, sym (err_is line l e))
or_err line (Some y) l e = absurd cc

some_is_not_none : {X : Type 0} (x : X) (o : Option X) → o ≡ Some x → o ≡ None → ⊥
some_is_not_none x o e f = absurd cc

module _ {A : Type 0} {piece : Piece A} {text : A → List ℕ} {Fits : A → Type 0} (p : IsPiece piece text Fits) where
  -- the reader of one line, whose text is a line
  pub one_line : (begun : A) → Fits begun → ((x : A) (rest : List ℕ) (n : ℕ) → Fits x → first_lines (suc n) (text x ++ rest) ≡ text x ++ first_lines n rest)
      → IsExact (λ line bytes. or_line line (piece bytes)) text Fits (λ _. 1)
  one_line begun fits ends = record {
    takes = λ line bytes x rest e. p.takes bytes x rest (or_ok line (piece bytes) (x, rest) e);
    again = λ line x rest h. ap (or_line line) (p.again x rest h);
    ends = λ x rest n h. let one : 1 + n ≡ suc n = omega arith in rw one (ends x rest n h);
    fault = λ line bytes l e.
        let o = or_err line (piece bytes) l e in (
          0,
          omega (arith, o.1),
          record {
            begun = begun;
            fits = fits;
            before = λ more. refl;
            wrong = λ x more h same.
                let whole : first_lines 1 bytes ≡ text x = same ∙ ends x more 0 h ∙ append-nil (text x) in
                let f = front_and_rest 1 bytes in
                let is : bytes ≡ text x ++ f.0 = f.1 ∙ ap (λ (xs : List ℕ). xs ++ f.0) whole in
                some_is_not_none (x, f.0) (piece bytes) (ap piece is ∙ p.again x f.0 h) o.0;
          },
        );
    begun = begun;
    begun_fits = fits;
  }

-- ---- two texts

module _ {A : Type 0} {first : Reader A} {text : A → List ℕ} {Fits : A → Type 0} {count : A → ℕ} (p : IsExact first text Fits count) where
  -- a text at the front is the one that is read there
  pub same_front : (x y : A) (xs ys : List ℕ) → Fits x → Fits y → text x ++ xs ≡ text y ++ ys → (x ≡ y) × (xs ≡ ys)
  same_front x y xs ys hx hy e =
      let pair = ok_is {A = A × List ℕ} (x, xs) (y, ys) (sym (p.again 0 x xs hx) ∙ ap (first 0) e ∙ p.again 0 y ys hy) in
      (ap (λ (q : A × List ℕ). q.0) pair, ap (λ (q : A × List ℕ). q.1) pair)

-- ---- lines of one kind

module _ {A : Type 0} (piece : Piece A) {text : A → List ℕ} {Fits : A → Type 0} (p : IsExact (λ line bytes. or_line line (piece bytes)) text Fits (λ _. 1)) where
  line_ends : (x : A) (rest : List ℕ) (n : ℕ) → Fits x → first_lines (suc n) (text x ++ rest) ≡ text x ++ first_lines n rest
  line_ends x rest n h = let one : suc n ≡ 1 + n = omega arith in rw one (p.ends x rest n h)

  regroup : (x : A) (xs : List A) (rest : List ℕ) → flat_map text (x ∷ xs) ++ rest ≡ text x ++ (flat_map text xs ++ rest)
  regroup x xs rest = ap (λ (t : List ℕ). t ++ rest) (flat_map-cons text x xs) ∙ append_assoc (text x) (flat_map text xs) rest

  many_takes : (n line : ℕ) (bytes : List ℕ) (xs : List A) (rest : List ℕ) → many piece n line bytes ≡ Ok (xs, rest) → (bytes ≡ flat_map text xs ++ rest) × (length xs ≡ n) × AllByRecursion Fits xs
  many_takes zero line bytes xs rest e =
      let pair = ok_is {A = List A × List ℕ} ([], bytes) (xs, rest) e in
      let P : List A × List ℕ → Type 0 = λ q. (bytes ≡ flat_map text q.0 ++ q.1) × (length q.0 ≡ 0) × AllByRecursion Fits q.0 in
      subst P pair (refl, refl, tt)
  many_takes (suc n) line bytes xs rest e =
      let a = ok_bind (or_line line (piece bytes)) (λ first. many piece n (line + 1) first.1 >>= λ others. Ok (first.0 ∷ others.0, others.1)) (xs, rest) e in
      let b = ok_bind (many piece n (line + 1) a.0.1) (λ others. Ok (a.0.0 ∷ others.0, others.1)) (xs, rest) a.2 in
      let pair = ok_is {A = List A × List ℕ} (a.0.0 ∷ b.0.0, b.0.1) (xs, rest) b.2 in
      let t = p.takes line bytes a.0.0 a.0.1 a.1 in
      let u = many_takes n (line + 1) a.0.1 b.0.0 b.0.1 b.1 in
      let whole : bytes ≡ flat_map text (a.0.0 ∷ b.0.0) ++ b.0.1 = t.0 ∙ ap (λ (ys : List ℕ). text a.0.0 ++ ys) u.0 ∙ sym (regroup a.0.0 b.0.0 b.0.1) in
      let P : List A × List ℕ → Type 0 = λ q. (bytes ≡ flat_map text q.0 ++ q.1) × (length q.0 ≡ suc n) × AllByRecursion Fits q.0 in
      subst P pair (whole, ap suc u.1, (t.1, u.2))

  many_again : (xs : List A) (line : ℕ) (rest : List ℕ) → AllByRecursion Fits xs → many piece (length xs) line (flat_map text xs ++ rest) ≡ Ok (xs, rest)
  many_again [] line rest h = refl
  many_again (x ∷ xs) line rest h =
      ap (many piece (suc (length xs)) line) (regroup x xs rest) ∙ rw (p.again line x (flat_map text xs ++ rest) h.0, many_again xs (line + 1) rest h.1) refl

  many_ends : (xs : List A) (rest : List ℕ) (n : ℕ) → AllByRecursion Fits xs → first_lines (length xs + n) (flat_map text xs ++ rest) ≡ flat_map text xs ++ first_lines n rest
  many_ends [] rest n h = let none : 0 + n ≡ n = omega arith in rw none refl
  many_ends (x ∷ xs) rest n h =
      let more : suc (length xs) + n ≡ suc (length xs + n) = omega arith in
      ap (λ (k : ℕ). first_lines k (flat_map text (x ∷ xs) ++ rest)) more ∙ ap (first_lines (suc (length xs + n))) (regroup x xs rest) ∙ line_ends x (flat_map text xs ++ rest) (length xs + n) h.0
      ∙ ap (λ (ys : List ℕ). text x ++ ys) (many_ends xs rest n h.1) ∙ sym (regroup x xs (first_lines n rest))

  abbrev filled : ℕ → List A
  filled zero = []
  filled (suc n) = p.begun ∷ filled n

  filled_fits : (n : ℕ) → (length (filled n) ≡ n) × AllByRecursion Fits (filled n)
  filled_fits zero = (refl, tt)
  filled_fits (suc n) = let h = filled_fits n in (ap suc h.0, (p.begun_fits, h.1))

  abbrev AreMany : ℕ → List A → Type 0
  AreMany n xs = (length xs ≡ n) × AllByRecursion Fits xs

  -- the first line of them is wrong
  wrong_first : (n : ℕ) (bytes : List ℕ) (place : ℕ) → IsWrong text Fits bytes place → IsWrong (flat_map text) (AreMany (suc n)) bytes place
  wrong_first n bytes place w = record {
    begun = w.begun ∷ filled n;
    fits = let h = filled_fits n in (ap suc h.0, (w.fits, h.1));
    before = λ more. w.before (flat_map text (filled n) ++ more) ∙ ap (first_lines place) (sym (regroup w.begun (filled n) more));
    wrong = λ xs more. elim xs as (λ ys. AreMany (suc n) ys → first_lines (suc place) bytes ≡ first_lines (suc place) (flat_map text ys ++ more) → ⊥) [
      | [] ↦ λ h same. absurd (omega (arith, h.0))
      | x ∷ ys ↦ λ h same. w.wrong x (flat_map text ys ++ more) h.1.0 (same ∙ ap (first_lines (suc place)) (regroup x ys more))
    ];
  }

  -- a line after the first is wrong
  wrong_later : (n : ℕ) (bytes rest : List ℕ) (x : A) (place : ℕ) → bytes ≡ text x ++ rest → Fits x → IsWrong (flat_map text) (AreMany n) rest place → IsWrong (flat_map text) (AreMany (suc n)) bytes (suc place)
  wrong_later n bytes rest x place e fits w = record {
    begun = x ∷ w.begun;
    fits = (ap suc w.fits.0, (fits, w.fits.1));
    before = λ more.
        ap (first_lines (suc place)) e ∙ line_ends x rest place fits ∙ ap (λ (ys : List ℕ). text x ++ ys) (w.before more) ∙ sym (line_ends x (flat_map text w.begun ++ more) place fits)
        ∙ ap (first_lines (suc place)) (sym (regroup x w.begun more));
    wrong = λ xs more. elim xs as (λ ys. AreMany (suc n) ys → first_lines (suc (suc place)) bytes ≡ first_lines (suc (suc place)) (flat_map text ys ++ more) → ⊥) [
      | [] ↦ λ h same. absurd (omega (arith, h.0))
      | y ∷ ys ↦ λ h same.
          let left : first_lines (suc (suc place)) bytes ≡ text x ++ first_lines (suc place) rest = ap (first_lines (suc (suc place))) e ∙ line_ends x rest (suc place) fits in
          let right : first_lines (suc (suc place)) (flat_map text (y ∷ ys) ++ more) ≡ text y ++ first_lines (suc place) (flat_map text ys ++ more) = ap (first_lines (suc (suc place))) (regroup y ys more) ∙ line_ends y (flat_map text ys ++ more) (suc place) h.1.0 in
          w.wrong ys more (omega (arith, h.0), h.1.1) (same_front p x y (first_lines (suc place) rest) (first_lines (suc place) (flat_map text ys ++ more)) fits h.1.0 (sym left ∙ same ∙ right)).1
    ];
  }

  many_fault : (n line : ℕ) (bytes : List ℕ) (l : ℕ) → many piece n line bytes ≡ Err l → (place : ℕ) × (l ≡ line + place) × IsWrong (flat_map text) (AreMany n) bytes place
  many_fault zero line bytes l e = absurd (ok_not_err ([], bytes) l e)
  many_fault (suc n) line bytes l e =
      elim (err_bind (or_line line (piece bytes)) (λ first. many piece n (line + 1) first.1 >>= λ others. Ok (first.0 ∷ others.0, others.1)) l e) [
        | First f ↦ let w = p.fault line bytes l f in (w.0, w.1, wrong_first n bytes w.0 w.2)
        | Second x ok f ↦
            let t = p.takes line bytes x.0 x.1 ok in
            elim (err_bind (many piece n (line + 1) x.1) (λ others. Ok (x.0 ∷ others.0, others.1)) l f) [
              | First g ↦ let w = many_fault n (line + 1) x.1 l g in (suc w.0, omega (arith, w.1), wrong_later n bytes x.1 x.0 w.0 t.0 t.1 w.2)
              | Second y also g ↦ absurd (ok_not_err (x.0 ∷ y.0, y.1) l g)
            ]
      ]

  -- so many lines of one kind
  pub many_lines : (n : ℕ) → IsExact (many piece n) (flat_map text) (λ xs. (length xs ≡ n) × AllByRecursion Fits xs) (λ _. n)
  many_lines n = record {
    takes = λ line bytes xs rest e. let t = many_takes n line bytes xs rest e in (t.0, (t.1, t.2));
    again = λ line xs rest h. ap (λ (k : ℕ). many piece k line (flat_map text xs ++ rest)) (sym h.0) ∙ many_again xs line rest h.1;
    ends = λ xs rest k h. ap (λ (j : ℕ). first_lines (j + k) (flat_map text xs ++ rest)) (sym h.0) ∙ many_ends xs rest k h.1;
    fault = λ line bytes l e. many_fault n line bytes l e;
    begun = filled n;
    begun_fits = filled_fits n;
  }

-- ---- one reader and then another

abbrev pub both : {A B : Type 0} → Reader A → (A → ℕ) → (A → Reader B) → Reader (A × B)
both first count second line bytes = first line bytes >>= λ x. second x.0 (line + count x.0) x.1 >>= λ y. Ok ((x.0, y.0), y.1)

module _ {A B : Type 0} {first : Reader A} {text : A → List ℕ} {Fits : A → Type 0} {count : A → ℕ} (p : IsExact first text Fits count)
    {second : A → Reader B} {text_after : B → List ℕ} {FitsAfter : A → B → Type 0} {count_after : A → B → ℕ} (q : (x : A) → IsExact (second x) text_after (FitsAfter x) (count_after x)) where
  abbrev pub both_text : A × B → List ℕ
  both_text z = text z.0 ++ text_after z.1

  abbrev pub BothFit : A × B → Type 0
  BothFit z = Fits z.0 × FitsAfter z.0 z.1

  both_takes : (line : ℕ) (bytes : List ℕ) (z : A × B) (rest : List ℕ) → both first count second line bytes ≡ Ok (z, rest) → (bytes ≡ both_text z ++ rest) × BothFit z
  both_takes line bytes z rest e =
      let a = ok_bind (first line bytes) (λ x. second x.0 (line + count x.0) x.1 >>= λ y. Ok ((x.0, y.0), y.1)) (z, rest) e in
      let b = ok_bind (second a.0.0 (line + count a.0.0) a.0.1) (λ y. Ok ((a.0.0, y.0), y.1)) (z, rest) a.2 in
      let made : A × B = (a.0.0, b.0.0) in
      let pair = ok_is {A = (A × B) × List ℕ} (made, b.0.1) (z, rest) b.2 in
      let t = p.takes line bytes a.0.0 a.0.1 a.1 in
      let u = (q a.0.0).takes (line + count a.0.0) a.0.1 b.0.0 b.0.1 b.1 in
      let whole : bytes ≡ both_text made ++ b.0.1 = t.0 ∙ ap (λ (ys : List ℕ). text a.0.0 ++ ys) u.0 ∙ sym (append_assoc (text a.0.0) (text_after b.0.0) b.0.1) in
      let P : (A × B) × List ℕ → Type 0 = λ w. (bytes ≡ both_text w.0 ++ w.1) × BothFit w.0 in
      subst P pair (whole, (t.1, u.1))

  both_again : (line : ℕ) (z : A × B) (rest : List ℕ) → BothFit z → both first count second line (both_text z ++ rest) ≡ Ok (z, rest)
  both_again line z rest h =
      ap (both first count second line) (append_assoc (text z.0) (text_after z.1) rest)
      ∙ rw (p.again line z.0 (text_after z.1 ++ rest) h.0, (q z.0).again (line + count z.0) z.1 rest h.1) refl

  both_ends : (z : A × B) (rest : List ℕ) (n : ℕ) → BothFit z → first_lines (count z.0 + count_after z.0 z.1 + n) (both_text z ++ rest) ≡ both_text z ++ first_lines n rest
  both_ends z rest n h =
      let sum : count z.0 + count_after z.0 z.1 + n ≡ count z.0 + (count_after z.0 z.1 + n) = omega arith in
      ap (λ (k : ℕ). first_lines k (both_text z ++ rest)) sum ∙ ap (first_lines (count z.0 + (count_after z.0 z.1 + n))) (append_assoc (text z.0) (text_after z.1) rest)
      ∙ p.ends z.0 (text_after z.1 ++ rest) (count_after z.0 z.1 + n) h.0 ∙ ap (λ (ys : List ℕ). text z.0 ++ ys) ((q z.0).ends z.1 rest n h.1) ∙ sym (append_assoc (text z.0) (text_after z.1) (first_lines n rest))

  -- the fault is the first reader's
  wrong_before : (bytes : List ℕ) (place : ℕ) → IsWrong text Fits bytes place → IsWrong both_text BothFit bytes place
  wrong_before bytes place w = record {
    begun = (w.begun, (q w.begun).begun);
    fits = (w.fits, (q w.begun).begun_fits);
    before = λ more. w.before (text_after (q w.begun).begun ++ more) ∙ ap (first_lines place) (sym (append_assoc (text w.begun) (text_after (q w.begun).begun) more));
    wrong = λ z more h same. w.wrong z.0 (text_after z.1 ++ more) h.0 (same ∙ ap (first_lines (suc place)) (append_assoc (text z.0) (text_after z.1) more));
  }

  -- the fault is the second reader's
  wrong_after : (bytes rest : List ℕ) (x : A) (place : ℕ) → bytes ≡ text x ++ rest → Fits x → IsWrong text_after (FitsAfter x) rest place → IsWrong both_text BothFit bytes (count x + place)
  wrong_after bytes rest x place e fits w = record {
    begun = (x, w.begun);
    fits = (fits, w.fits);
    before = λ more.
        ap (first_lines (count x + place)) e ∙ p.ends x rest place fits ∙ ap (λ (ys : List ℕ). text x ++ ys) (w.before more) ∙ sym (p.ends x (text_after w.begun ++ more) place fits)
        ∙ ap (first_lines (count x + place)) (sym (append_assoc (text x) (text_after w.begun) more));
    wrong = λ z more h same.
        let n = suc (count x + place) in
        let sum : n ≡ count x + suc place = omega arith in
        let later = text_after z.1 ++ more in
        let left : first_lines n bytes ≡ text x ++ first_lines (suc place) rest = ap (λ (k : ℕ). first_lines k bytes) sum ∙ ap (first_lines (count x + suc place)) e ∙ p.ends x rest (suc place) fits in
        let right : first_lines n (text z.0 ++ later) ≡ text x ++ first_lines (suc place) rest = ap (first_lines n) (sym (append_assoc (text z.0) (text_after z.1) more)) ∙ sym same ∙ left in
        let f = front_and_rest n (text z.0 ++ later) in
        let split : text z.0 ++ later ≡ text x ++ (first_lines (suc place) rest ++ f.0) = f.1 ∙ ap (λ (ys : List ℕ). ys ++ f.0) right ∙ append_assoc (text x) (first_lines (suc place) rest) f.0 in
        let is : z.0 ≡ x = (same_front p z.0 x later (first_lines (suc place) rest ++ f.0) h.0 fits split).0 in
        let there : first_lines n (text z.0 ++ later) ≡ text x ++ first_lines (suc place) later =
        ap (λ (y : A). first_lines n (text y ++ later)) is ∙ ap (λ (k : ℕ). first_lines k (text x ++ later)) sum ∙ p.ends x later (suc place) fits in
        let Q : A → Type 0 = λ y. FitsAfter y z.1 in
        w.wrong z.1 more (subst Q is h.1) (append_cancel_left (text x) (first_lines (suc place) rest) (first_lines (suc place) later) (sym right ∙ there));
  }

  both_fault : (line : ℕ) (bytes : List ℕ) (l : ℕ) → both first count second line bytes ≡ Err l → (place : ℕ) × (l ≡ line + place) × IsWrong both_text BothFit bytes place
  both_fault line bytes l e =
      elim (err_bind (first line bytes) (λ x. second x.0 (line + count x.0) x.1 >>= λ y. Ok ((x.0, y.0), y.1)) l e) [
        | First f ↦ let w = p.fault line bytes l f in (w.0, w.1, wrong_before bytes w.0 w.2)
        | Second x ok f ↦
            let t = p.takes line bytes x.0 x.1 ok in
            elim (err_bind (second x.0 (line + count x.0) x.1) (λ y. Ok ((x.0, y.0), y.1)) l f) [
              | First g ↦ let w = (q x.0).fault (line + count x.0) x.1 l g in (count x.0 + w.0, omega (arith, w.1), wrong_after bytes x.1 x.0 w.0 t.0 t.1 w.2)
              | Second y also g ↦ absurd (ok_not_err ((x.0, y.0), y.1) l g)
            ]
      ]

  pub both_exact : IsExact (both first count second) both_text BothFit (λ z. count z.0 + count_after z.0 z.1)
  both_exact = record {
    takes = both_takes;
    again = both_again;
    ends = both_ends;
    fault = both_fault;
    begun = (p.begun, (q p.begun).begun);
    begun_fits = (p.begun_fits, (q p.begun).begun_fits);
  }
