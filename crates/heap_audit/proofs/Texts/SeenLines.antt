-- The lines of one mutator, read number by number, as a loop does.
use Rattle.std.proofs.Common.{◌≡◌, ℕ, suc, ◌+◌, ◌^◌, ◌<◌, ◌≤◌, Bool, true, false, cond, eqb, decimal, List, [], ◌∷◌, ◌++◌, length, Option, Some, None, refl, sym, ap, subst, ◌∙◌, arith}
use Rattle.std.proofs.lemmas.Bool.{eqb-true, eq-eqb}
use Rattle.std.proofs.lemmas.List.{append_assoc, append-nil, length-append}
use Rattle.std.proofs.lemmas.List.Concat.{flat_map-cons}
use Rattle.std.specs.List.{flat_map, AllByRecursion}
use Rattle.plain_state.specs.declared.end.End.{End}
use Rattle.plain_state.specs.declared.sizes.TheConstants.{MOST_PRINTED}
use Rattle.plain_heap.specs.Print.{end_text, printed_line, printed_lines, Seen}
use Rattle.dump_text.specs.Lines.{first_lines}
use Rattle.dump_text.specs.Pieces.{◌>>=◌, byte_at}
use Rattle.dump_text.proofs.Options.{some_bind, some_is}
use Rattle.dump_text.proofs.Pieces.{byte_takes}
use Rattle.dump_text.proofs.FirstLine.{decimal_inside}
use Rattle.heap_audit.specs.Texts.Ends.{end_at, EndFits}
use Rattle.heap_audit.specs.Texts.FirstWrong.{GoWrongBehind, NamesWrong}
use Rattle.heap_audit.specs.Texts.Lines.{named_at, printed_at, ended_at, IsPrinted, SeenFits, seen_text}
use Rattle.heap_audit.specs.Texts.Pieces.{decimal_at, mutator_at}
use Rattle.heap_audit.specs.declared.reading.reading_error.ReadingError.TheVariants as errors
use Rattle.heap_audit.proofs.Texts.EndTexts.{end_takes, end_again, no_number}
use Rattle.heap_audit.proofs.Texts.Fronts.{ends, ends_append, front_lines}
use Rattle.heap_audit.proofs.Texts.OrderMarks.{mutator_takes, mutator_again}
use Rattle.heap_audit.proofs.Decimals.{decimal_takes, decimal_again}
use Rattle.heap_audit.proofs.Texts.OneLine.{IsLine, begin_so, end_inside, line_ends, printed_is_line}
use Rattle.heap_audit.proofs.Texts.WrongLines.{goes_on as front_goes_on}

-- ---- a line

-- a test that stands in the way and passed
some_where : {A : Type 0} (b : Bool) (o : Option A) (y : A) → cond b o None ≡ Some y → (b ≡ true) × (o ≡ Some y)
some_where true o y e = (refl, e)
some_where false o y e = absurd cc

-- the number of a mutator, and what stands behind it
abbrev Named : ℕ → List ℕ → List ℕ
Named m text = decimal m ++ 58 ∷ 32 ∷ text

pub line_is : (m : ℕ) (text rest : List ℕ) → printed_line m text ++ rest ≡ Named m (text ++ 10 ∷ rest)
line_is m text rest = simp append_assoc refl

named_takes : (m : ℕ) (bytes rest : List ℕ) → named_at m bytes ≡ Some rest → bytes ≡ Named m rest
unfolding named_at
named_takes m bytes rest e =
    let a = some_bind (mutator_at bytes) (λ named. cond (eqb named.0 m) (byte_at 58 named.1 >>= λ rest. byte_at 32 rest) None) rest e in
    let b = some_where (eqb a.0.0 m) (byte_at 58 a.0.1 >>= λ rest. byte_at 32 rest) rest a.2 in
    let c = some_bind (byte_at 58 a.0.1) (λ rest. byte_at 32 rest) rest b.1 in
    (mutator_takes bytes a.0.0 a.0.1 a.1).0
    ∙ ap (λ (t : List ℕ). decimal a.0.0 ++ t) (byte_takes 58 a.0.1 c.0 c.1 ∙ ap (λ (t : List ℕ). 58 ∷ t) (byte_takes 32 c.0 rest c.2))
    ∙ ap (λ (k : ℕ). Named k rest) (eqb-true a.0.0 m b.0)

named_again : (m : ℕ) (rest : List ℕ) → m < 256 → named_at m (Named m rest) ≡ Some rest
unfolding named_at
named_again m rest lt = rw (mutator_again m (58 ∷ 32 ∷ rest) lt refl, eq-eqb m m refl) refl

printed_takes : (m : ℕ) (bytes : List ℕ) (n : ℕ) (rest : List ℕ) → printed_at m bytes ≡ Some (n, rest) → (bytes ≡ printed_line m (decimal n) ++ rest) × IsPrinted n
unfolding printed_at
printed_takes m bytes n rest e =
    let a = some_bind (named_at m bytes) (λ text. decimal_at (2 ^ 62) text >>= λ number. byte_at 10 number.1 >>= λ rest. Some (number.0, rest)) (n, rest) e in
    let b = some_bind (decimal_at (2 ^ 62) a.0) (λ number. byte_at 10 number.1 >>= λ rest. Some (number.0, rest)) (n, rest) a.2 in
    let c = some_bind (byte_at 10 b.0.1) (λ rest. Some (b.0.0, rest)) (n, rest) b.2 in
    let t = decimal_takes (2 ^ 62) a.0 b.0.0 b.0.1 b.1 in
    let whole : bytes ≡ Named m (decimal b.0.0 ++ 10 ∷ c.0) =
    named_takes m bytes a.0 a.1 ∙ ap (λ (xs : List ℕ). Named m xs) (t.0 ∙ ap (λ (xs : List ℕ). decimal b.0.0 ++ xs) (byte_takes 10 b.0.1 c.0 c.1)) in
    let P : ℕ × List ℕ → Type 0 = λ q. (bytes ≡ printed_line m (decimal q.0) ++ q.1) × IsPrinted q.0 in
    subst P (some_is {A = ℕ × List ℕ} (b.0.0, c.0) (n, rest) c.2) (whole ∙ sym (line_is m (decimal b.0.0) c.0), t.1)

printed_again : (m n : ℕ) (rest : List ℕ) → m < 256 → IsPrinted n → printed_at m (printed_line m (decimal n) ++ rest) ≡ Some (n, rest)
unfolding printed_at
printed_again m n rest lt fits =
    ap (printed_at m) (line_is m (decimal n) rest)
    ∙ rw (named_again m (decimal n ++ 10 ∷ rest) lt, decimal_again (2 ^ 62) n (10 ∷ rest) (omega arith) fits refl) refl

-- the line of an end is no number's
not_printed : (m : ℕ) (end : Option End) (rest : List ℕ) → m < 256 → printed_at m (printed_line m (end_text end) ++ rest) ≡ None
unfolding printed_at
not_printed m end rest lt =
    ap (printed_at m) (line_is m (end_text end) rest) ∙ rw (named_again m (end_text end ++ 10 ∷ rest) lt, no_number (2 ^ 62) end (10 ∷ rest)) refl

ended_takes : (m : ℕ) (bytes : List ℕ) (end : Option End) (rest : List ℕ) → ended_at m bytes ≡ Some (end, rest) → (bytes ≡ printed_line m (end_text end) ++ rest) × EndFits end
unfolding ended_at
ended_takes m bytes end rest e =
    let a = some_bind (named_at m bytes) (λ text. end_at text >>= λ end. byte_at 10 end.1 >>= λ rest. Some (end.0, rest)) (end, rest) e in
    let b = some_bind (end_at a.0) (λ end. byte_at 10 end.1 >>= λ rest. Some (end.0, rest)) (end, rest) a.2 in
    let c = some_bind (byte_at 10 b.0.1) (λ rest. Some (b.0.0, rest)) (end, rest) b.2 in
    let t = end_takes a.0 b.0.0 b.0.1 b.1 in
    let whole : bytes ≡ Named m (end_text b.0.0 ++ 10 ∷ c.0) =
    named_takes m bytes a.0 a.1 ∙ ap (λ (xs : List ℕ). Named m xs) (t.0 ∙ ap (λ (xs : List ℕ). end_text b.0.0 ++ xs) (byte_takes 10 b.0.1 c.0 c.1)) in
    let P : Option End × List ℕ → Type 0 = λ q. (bytes ≡ printed_line m (end_text q.0) ++ q.1) × EndFits q.0 in
    subst P (some_is {A = Option End × List ℕ} (b.0.0, c.0) (end, rest) c.2) (whole ∙ sym (line_is m (end_text b.0.0) c.0), t.1)

ended_again : (m : ℕ) (end : Option End) (rest : List ℕ) → m < 256 → EndFits end → ended_at m (printed_line m (end_text end) ++ rest) ≡ Some (end, rest)
unfolding ended_at
ended_again m end rest lt fits =
    ap (ended_at m) (line_is m (end_text end) rest)
    ∙ rw (named_again m (end_text end ++ 10 ∷ rest) lt, end_again end (10 ∷ rest) fits refl) refl

-- ---- the lines so far

-- the lines of numbers
abbrev pub numbers_text : ℕ → List ℕ → List ℕ
numbers_text m numbers = flat_map (λ n. printed_line m (decimal n)) numbers

-- the lines of numbers and of an end, and what stands behind them
abbrev pub Lines : ℕ → List ℕ → Option End → List ℕ → List ℕ
Lines m numbers end tail = numbers_text m numbers ++ (printed_line m (end_text end) ++ tail)

lines_are : (m : ℕ) (numbers : List ℕ) (end : Option End) (tail : List ℕ) → printed_lines m numbers end ++ tail ≡ Lines m numbers end tail
lines_are m numbers end tail = append_assoc (numbers_text m numbers) (printed_line m (end_text end)) tail

text_of_one : (m n : ℕ) (numbers : List ℕ) (after : List ℕ) → numbers_text m (n ∷ numbers) ++ after ≡ printed_line m (decimal n) ++ (numbers_text m numbers ++ after)
text_of_one m n numbers after = ap (λ (t : List ℕ). t ++ after) (flat_map-cons (λ n. printed_line m (decimal n)) n numbers) ∙ append_assoc (printed_line m (decimal n)) (numbers_text m numbers) after

-- what is left of a mutator's lines when some numbers are read
pub record Left (m : ℕ) (found numbers : List ℕ) (end : Option End) (rest tail : List ℕ) : Type 0 where
  pub more : List ℕ
  pub split : numbers ≡ found ++ more
  pub fit : AllByRecursion IsPrinted more
  pub text : rest ≡ Lines m more end tail

-- the numbers that are read are those that stand at the front
pub record SoFar (m : ℕ) (bytes found rest : List ℕ) : Type 0 where
  pub taken : bytes ≡ numbers_text m found ++ rest
  pub few : length found ≤ MOST_PRINTED
  pub fit : AllByRecursion IsPrinted found
  pub only : (numbers : List ℕ) (end : Option End) (tail : List ℕ) → AllByRecursion IsPrinted numbers → bytes ≡ Lines m numbers end tail → Left m found numbers end rest tail

fits_one_more : (found : List ℕ) (n : ℕ) → AllByRecursion IsPrinted found → IsPrinted n → AllByRecursion IsPrinted (found ++ n ∷ [])
fits_one_more [] n h one = (one, tt)
fits_one_more (k ∷ found) n h one = (h.0, fits_one_more found n h.1 one)

text_one_more : (m : ℕ) (found : List ℕ) (n : ℕ) (after : List ℕ) → numbers_text m (found ++ n ∷ []) ++ after ≡ numbers_text m found ++ (printed_line m (decimal n) ++ after)
text_one_more m [] n after = text_of_one m n [] after
text_one_more m (k ∷ found) n after =
    text_of_one m k (found ++ n ∷ []) after ∙ ap (λ (t : List ℕ). printed_line m (decimal k) ++ t) (text_one_more m found n after) ∙ sym (text_of_one m k found (printed_line m (decimal n) ++ after))

none_is_not_some : {A : Type 0} (o : Option A) (x : A) → o ≡ None → o ≡ Some x → ⊥
none_is_not_some o x none some = absurd cc

-- the numbers that are left begin with the one that is read
record Begins (m : ℕ) (left : List ℕ) (n : ℕ) (after : List ℕ) (end : Option End) (tail : List ℕ) : Type 0 where
  others : List ℕ
  split : left ≡ n ∷ others
  fit : AllByRecursion IsPrinted others
  text : after ≡ Lines m others end tail

same_parts : (a b : List ℕ) (e f : Option End) → a ≡ b → e ≡ f → ◌≡◌ {A = Seen} (record { printed = a; end = e }) (record { printed = b; end = f })
same_parts a b e f p q = rw (p, q) refl

number_is_line : (m n : ℕ) → m < 256 → IsPrinted n → IsLine (printed_line m (decimal n))
number_is_line m n lt fits = printed_is_line m (decimal n) (omega (arith, lt)) (decimal_inside n (omega (arith, fits)))

end_is_line : (m : ℕ) (end : Option End) → m < 256 → EndFits end → IsLine (printed_line m (end_text end))
end_is_line m end lt fits = printed_is_line m (end_text end) (omega (arith, lt)) (end_inside end fits)

module _ (m : ℕ) (lt : m < 256) where
  begins : (left : List ℕ) (end : Option End) (tail rest : List ℕ) (n : ℕ) (after : List ℕ) → AllByRecursion IsPrinted left → rest ≡ Lines m left end tail → printed_at m rest ≡ Some (n, after) → Begins m left n after end tail
  begins [] end tail rest n after h e read = absurd (none_is_not_some (printed_at m rest) (n, after) (ap (printed_at m) e ∙ not_printed m end tail lt) read)
  begins (k ∷ left) end tail rest n after h e read =
      let again : printed_at m rest ≡ Some (k, Lines m left end tail) =
      ap (printed_at m) (e ∙ text_of_one m k left (printed_line m (end_text end) ++ tail)) ∙ printed_again m k (Lines m left end tail) lt h.0 in
      let same = some_is {A = ℕ × List ℕ} (k, Lines m left end tail) (n, after) (sym again ∙ read) in
      record {
        others = left;
        split = ap (λ (q : ℕ × List ℕ). q.0 ∷ left) same;
        fit = h.1;
        text = sym (ap (λ (q : ℕ × List ℕ). q.1) same);
      }

  -- no number is left where none is read
  at_end : (left : List ℕ) (end : Option End) (tail rest : List ℕ) → AllByRecursion IsPrinted left → rest ≡ Lines m left end tail → printed_at m rest ≡ None → left ≡ []
  at_end [] end tail rest h e read = refl
  at_end (k ∷ left) end tail rest h e read =
      absurd (none_is_not_some (printed_at m rest) (k, Lines m left end tail) read (ap (printed_at m) (e ∙ text_of_one m k left (printed_line m (end_text end) ++ tail)) ∙ printed_again m k (Lines m left end tail) lt h.0))

  -- numbers at the front are the first of those whose lines these are
  strip : (found numbers : List ℕ) (end : Option End) (rest tail : List ℕ) → AllByRecursion IsPrinted found → AllByRecursion IsPrinted numbers → numbers_text m found ++ rest ≡ Lines m numbers end tail → Left m found numbers end rest tail
  strip [] numbers end rest tail hf hn e = record { more = numbers; split = refl; fit = hn; text = e }
  strip (k ∷ found) numbers end rest tail hf hn e =
      let whole = numbers_text m (k ∷ found) ++ rest in
      let behind = numbers_text m found ++ rest in
      let read : printed_at m whole ≡ Some (k, behind) = ap (printed_at m) (text_of_one m k found rest) ∙ printed_again m k behind lt hf.0 in
      let b = begins numbers end tail whole k behind hn e read in
      let l = strip found b.others end rest tail hf.1 b.fit b.text in
      record { more = l.more; split = b.split ∙ ap (λ (xs : List ℕ). k ∷ xs) l.split; fit = l.fit; text = l.text }

  -- lines of a mutator at the front are those of one thing alone
  pub same_seen : (a b : Seen) (s t : List ℕ) → SeenFits a → SeenFits b → seen_text m a ++ s ≡ seen_text m b ++ t → (a ≡ b) × (s ≡ t)
  same_seen a b s t fa fb e =
      let rest = printed_line m (end_text a.end) ++ s in
      let l = strip a.printed b.printed b.end rest t fa.1 fb.1 (sym (lines_are m a.printed a.end s) ∙ e ∙ lines_are m b.printed b.end t) in
      let over = at_end l.more b.end t rest l.fit l.text (not_printed m a.end s lt) in
      let last : rest ≡ printed_line m (end_text b.end) ++ t = l.text ∙ ap (λ (xs : List ℕ). Lines m xs b.end t) over in
      let same = some_is {A = Option End × List ℕ} (a.end, s) (b.end, t) (sym (ended_again m a.end s lt fa.2) ∙ ap (ended_at m) last ∙ ended_again m b.end t lt fb.2) in
      let printed : b.printed ≡ a.printed = l.split ∙ ap (λ (xs : List ℕ). a.printed ++ xs) over ∙ append-nil a.printed in
      (same_parts a.printed b.printed a.end b.end (sym printed) (ap (λ (q : Option End × List ℕ). q.0) same), ap (λ (q : Option End × List ℕ). q.1) same)

  -- ---- how many lines there are

  numbers_count : (numbers : List ℕ) → AllByRecursion IsPrinted numbers → ends (numbers_text m numbers) ≡ length numbers
  numbers_count [] h = refl
  numbers_count (n ∷ numbers) h =
      let one = line_ends (printed_line m (decimal n)) (number_is_line m n lt h.0) in
      let sum = ap ends (flat_map-cons (λ n. printed_line m (decimal n)) n numbers) ∙ ends_append (printed_line m (decimal n)) (numbers_text m numbers) in
      omega (arith, one, sum, numbers_count numbers h.1)

  pub seen_count : (k : Seen) → SeenFits k → ends (seen_text m k) ≡ length k.printed + 1
  seen_count k fits =
      let end = line_ends (printed_line m (end_text k.end)) (end_is_line m k.end lt fits.2) in
      let sum = ends_append (numbers_text m k.printed) (printed_line m (end_text k.end)) in
      omega (arith, end, sum, numbers_count k.printed fits.1)

  -- ---- the first wrong line

  -- the first of what is left isn't the first of a mutator's lines that go on so
  abbrev Apart : (found rest : List ℕ) → Type 0
  Apart found rest = (left : List ℕ) (end : Option End) (tail : List ℕ) → AllByRecursion IsPrinted left → EndFits end → length found + length left ≤ MOST_PRINTED → first_lines 1 rest ≡ first_lines 1 (Lines m left end tail) → ⊥

  go_wrong : (bytes found rest : List ℕ) → SoFar m bytes found rest → Apart found rest → GoWrongBehind (seen_text m) SeenFits bytes (length found)
  go_wrong bytes found rest s apart =
      let front = numbers_text m found in
      let count = numbers_count found s.fit in
      let none : Option End = None in
      record {
        begun = record { printed = found; end = none };
        fits = (s.few, s.fit, tt);
        before = λ more.
            ap (λ (n : ℕ). first_lines n bytes) (sym count) ∙ ap (first_lines (ends front)) s.taken ∙ front_lines front rest (printed_line m (end_text none) ++ more)
            ∙ ap (first_lines (ends front)) (sym (lines_are m found none more)) ∙ ap (λ (n : ℕ). first_lines n (printed_lines m found none ++ more)) count;
        wrong = λ x more fits same.
            let n : suc (length found) ≡ suc (ends front + 0) = omega (arith, count) in
            let whole = seen_text m x ++ more in
            let f = front_goes_on front rest whole 0 (ap (first_lines (suc (ends front + 0))) (sym s.taken) ∙ ap (λ (k : ℕ). first_lines k bytes) (sym n) ∙ same ∙ ap (λ (k : ℕ). first_lines k whole) n) in
            let l = strip found x.printed x.end f.tail more s.fit fits.1 (sym f.split ∙ lines_are m x.printed x.end more) in
            let long : length x.printed ≡ length found + length l.more = ap (λ (xs : List ℕ). length xs) l.split ∙ length-append found l.more in
            apart l.more x.end more l.fit fits.2 (omega (arith, long, fits.0)) (f.same ∙ ap (first_lines 1) l.text);
      }

  -- what reads the line of an end, or of a number, reads it here
  reads_end : (end : Option End) (rest tail : List ℕ) → EndFits end → first_lines 1 rest ≡ first_lines 1 (printed_line m (end_text end) ++ tail) → (behind : List ℕ) × (rest ≡ printed_line m (end_text end) ++ behind)
  reads_end end rest tail fits same = begin_so rest (printed_line m (end_text end)) tail (end_is_line m end lt fits) same

  reads_number : (n : ℕ) (left : List ℕ) (end : Option End) (rest tail : List ℕ) → IsPrinted n → first_lines 1 rest ≡ first_lines 1 (Lines m (n ∷ left) end tail) → (behind : List ℕ) × (rest ≡ printed_line m (decimal n) ++ behind)
  reads_number n left end rest tail fits same =
      begin_so rest (printed_line m (decimal n)) (Lines m left end tail) (number_is_line m n lt fits) (same ∙ ap (first_lines 1) (text_of_one m n left (printed_line m (end_text end) ++ tail)))

  full_apart : (found rest : List ℕ) (n : ℕ) (after : List ℕ) → printed_at m rest ≡ Some (n, after) → length found ≡ MOST_PRINTED → (left : List ℕ) (end : Option End) (tail : List ℕ) → AllByRecursion IsPrinted left → EndFits end → length found + length left ≤ MOST_PRINTED → first_lines 1 rest ≡ first_lines 1 (Lines m left end tail) → ⊥
  full_apart found rest n after read full [] end tail fit fits room same =
      let r = reads_end end rest tail fits same in
      none_is_not_some (printed_at m rest) (n, after) (ap (printed_at m) r.1 ∙ not_printed m end r.0 lt) read
  full_apart found rest n after read full (k ∷ left) end tail fit fits room same = absurd (omega (arith, full, room))

  unread_apart : (found rest : List ℕ) → printed_at m rest ≡ None → ended_at m rest ≡ None → (left : List ℕ) (end : Option End) (tail : List ℕ) → AllByRecursion IsPrinted left → EndFits end → length found + length left ≤ MOST_PRINTED → first_lines 1 rest ≡ first_lines 1 (Lines m left end tail) → ⊥
  unread_apart found rest none wrong [] end tail fit fits room same =
      let r = reads_end end rest tail fits same in
      none_is_not_some (ended_at m rest) (end, r.0) wrong (ap (ended_at m) r.1 ∙ ended_again m end r.0 lt fits)
  unread_apart found rest none wrong (k ∷ left) end tail fit fits room same =
      let r = reads_number k left end rest tail fit.0 same in
      none_is_not_some (printed_at m rest) (k, r.0) none (ap (printed_at m) r.1 ∙ printed_again m k r.0 lt fit.0)

  module _ (bytes found rest : List ℕ) (s : SoFar m bytes found rest) where
    -- one more number
    pub goes_on : (n : ℕ) (after : List ℕ) → printed_at m rest ≡ Some (n, after) → length found < MOST_PRINTED → SoFar m bytes (found ++ n ∷ []) after
    goes_on n after read room =
        let t = printed_takes m rest n after read in
        record {
          taken = s.taken ∙ ap (λ (xs : List ℕ). numbers_text m found ++ xs) t.0 ∙ sym (text_one_more m found n after);
          few = omega (arith, length-append found (n ∷ []), room);
          fit = fits_one_more found n s.fit t.1;
          only = λ numbers end tail h e.
              let l = s.only numbers end tail h e in
              let b = begins l.more end tail rest n after l.fit l.text read in
              record {
                more = b.others;
                split = l.split ∙ ap (λ (xs : List ℕ). found ++ xs) b.split ∙ sym (append_assoc found (n ∷ []) b.others);
                fit = b.fit;
                text = b.text;
              };
        }

    -- one number too many
    pub too_many : (n : ℕ) (after : List ℕ) → printed_at m rest ≡ Some (n, after) → length found ≡ MOST_PRINTED → (seen : Seen) (tail : List ℕ) → SeenFits seen → bytes ≡ printed_lines m seen.printed seen.end ++ tail → ⊥
    too_many n after read full seen tail fits e =
        let l = s.only seen.printed seen.end tail fits.1 (e ∙ lines_are m seen.printed seen.end tail) in
        let b = begins l.more seen.end tail rest n after l.fit l.text read in
        let long : length seen.printed ≡ length found + length l.more = ap (λ (xs : List ℕ). length xs) l.split ∙ length-append found l.more in
        let more : length l.more ≡ suc (length b.others) = ap (λ (xs : List ℕ). length xs) b.split in
        absurd (omega (arith, long, more, full, fits.0))

    -- what is left is the line of the end
    left_end : printed_at m rest ≡ None → (seen : Seen) (tail : List ℕ) → SeenFits seen → bytes ≡ printed_lines m seen.printed seen.end ++ tail → (seen.printed ≡ found) × (rest ≡ printed_line m (end_text seen.end) ++ tail)
    left_end none seen tail fits e =
        let l = s.only seen.printed seen.end tail fits.1 (e ∙ lines_are m seen.printed seen.end tail) in
        let over = at_end l.more seen.end tail rest l.fit l.text none in
        (l.split ∙ ap (λ (xs : List ℕ). found ++ xs) over ∙ append-nil found, l.text ∙ ap (λ (xs : List ℕ). Lines m xs seen.end tail) over)

    pub no_end : printed_at m rest ≡ None → ended_at m rest ≡ None → (seen : Seen) (tail : List ℕ) → SeenFits seen → bytes ≡ printed_lines m seen.printed seen.end ++ tail → ⊥
    no_end none wrong seen tail fits e =
        let l = left_end none seen tail fits e in
        none_is_not_some (ended_at m rest) (seen.end, tail) wrong (ap (ended_at m) l.1 ∙ ended_again m seen.end tail lt fits.2)

    -- the line of the number that is too many is the first wrong one
    pub too_many_wrong : (n : ℕ) (after : List ℕ) (before line : ℕ) → printed_at m rest ≡ Some (n, after) → length found ≡ MOST_PRINTED → line ≡ before + length found + 1 → NamesWrong (seen_text m) SeenFits bytes before (errors.Bad line)
    too_many_wrong n after before line read full is = (length found, is, go_wrong bytes found rest s (full_apart found rest n after read full))

    -- a line that is no number's and no end's is the first wrong one
    pub no_end_wrong : (before line : ℕ) → printed_at m rest ≡ None → ended_at m rest ≡ None → line ≡ before + length found + 1 → NamesWrong (seen_text m) SeenFits bytes before (errors.Bad line)
    no_end_wrong before line none wrong is = (length found, is, go_wrong bytes found rest s (unread_apart found rest none wrong))

    pub seen_ends : (end : Option End) (after : List ℕ) → ended_at m rest ≡ Some (end, after) → SeenFits (record { printed = found; end = end }) × (bytes ≡ printed_lines m found end ++ after)
    seen_ends end after read =
        let t = ended_takes m rest end after read in
        ((s.few, s.fit, t.1), s.taken ∙ ap (λ (xs : List ℕ). numbers_text m found ++ xs) t.0 ∙ sym (lines_are m found end after))

    pub ends_only : (end : Option End) (after : List ℕ) → printed_at m rest ≡ None → ended_at m rest ≡ Some (end, after) → (seen : Seen) (tail : List ℕ) → SeenFits seen → bytes ≡ printed_lines m seen.printed seen.end ++ tail → ◌≡◌ {A = Seen × List ℕ} (record { printed = found; end = end }, after) (seen, tail)
    ends_only end after none read seen tail fits e =
        let l = left_end none seen tail fits e in
        let same = some_is {A = Option End × List ℕ} (end, after) (seen.end, tail) (sym read ∙ ap (ended_at m) l.1 ∙ ended_again m seen.end tail lt fits.2) in
        ap (λ (xs : List ℕ). (record { printed = xs; end = end }, after)) (sym l.0) ∙ ap (λ (q : Option End × List ℕ). (record { printed = seen.printed; end = q.0 }, q.1)) same

  -- reading a number leaves less
  pub less : (rest : List ℕ) (n : ℕ) (after : List ℕ) → printed_at m rest ≡ Some (n, after) → length after < length rest
  less rest n after read =
      let t = printed_takes m rest n after read in
      let e : rest ≡ Named m (decimal n ++ 10 ∷ after) = t.0 ∙ line_is m (decimal n) after in
      omega (arith, ap (λ (xs : List ℕ). length xs) e, length-append (decimal m) (58 ∷ 32 ∷ (decimal n ++ 10 ∷ after)), length-append (decimal n) (10 ∷ after))
