-- The lines of mutators, read mutator by mutator, as a loop does.
use Rattle.std.proofs.Common.{Bor, ◌≡◌, ℕ, zero, suc, ◌+◌, ◌-◌, ◌<◌, ◌≤◌, List, [], ◌∷◌, ◌++◌, length, map, None, Result, Ok, Err, refl, sym, ap, subst, ◌∙◌, arith}
use Rattle.std.proofs.lemmas.List.{append_assoc, append-nil, length-append, map-append}
use Rattle.std.specs.List.{AllByRecursion}
use Rattle.std.specs.Prelude.{IfErr}
use Rattle.std.specs.Result.{IsErrAnd}
use Rattle.dump_text.specs.Lines.{first_lines}
use Rattle.plain_heap.specs.Print.{lines_seen, Seen}
use Rattle.heap_audit.specs.Texts.FirstWrong.{GoWrongBehind, NamesWrong}
use Rattle.heap_audit.specs.Texts.Lines.{SeenFits, AreSeen, line_count, seen_by, seen_text}
use Rattle.heap_audit.specs.Texts.Order.{ReadsAs}
use Rattle.heap_audit.specs.declared.reading.lines.MutatorLines.{MutatorLines}
use Rattle.heap_audit.specs.declared.reading.reading_error.ReadingError.{ReadingError}
use Rattle.heap_audit.specs.declared.reading.reading_error.ReadingError.TheVariants as errors
use Rattle.heap_audit.proofs.Texts.Fronts.{ends, ends_append}
use Rattle.heap_audit.proofs.Texts.SeenLines.{same_seen, seen_count}
use Rattle.heap_audit.proofs.Texts.WrongLines.{goes_on as front_goes_on, same_behind}

abbrev Lines : ℕ → Seen → List ℕ
Lines m k = seen_text m k

-- what is left of mutators' lines when some mutators are read
pub record AllLeft (found all : List Seen) (m : ℕ) (rest tail : List ℕ) : Type 0 where
  pub more : List Seen
  pub split : all ≡ found ++ more
  pub fit : AllByRecursion SeenFits more
  pub text : rest ≡ lines_seen m more ++ tail

-- the mutators that are read, of n, are those that stand at the front
pub record AllSoFar (n : ℕ) (bytes : List ℕ) (found : List Seen) (m : ℕ) (rest : List ℕ) : Type 0 where
  pub taken : bytes ≡ lines_seen 0 found ++ rest
  pub number : length found ≡ m
  pub fit : AllByRecursion SeenFits found
  pub only : (all : List Seen) (tail : List ℕ) → AreSeen n all → bytes ≡ lines_seen 0 all ++ tail → AllLeft found all m rest tail

fits_one_more : (found : List Seen) (k : Seen) → AllByRecursion SeenFits found → SeenFits k → AllByRecursion SeenFits (found ++ k ∷ [])
fits_one_more [] k h one = (one, tt)
fits_one_more (j ∷ found) k h one = (h.0, fits_one_more found k h.1 one)

text_one_more : (i : ℕ) (found : List Seen) (k : Seen) (after : List ℕ) (m : ℕ) → i + length found ≡ m → lines_seen i (found ++ k ∷ []) ++ after ≡ lines_seen i found ++ (Lines m k ++ after)
text_one_more i [] k after m e =
    let is : i ≡ m = omega (arith, e) in
    ap (λ (t : List ℕ). t ++ after) (append-nil (Lines i k)) ∙ ap (λ (j : ℕ). Lines j k ++ after) is
text_one_more i (j ∷ found) k after m e =
    append_assoc (Lines i j) (lines_seen (i + 1) (found ++ k ∷ [])) after ∙ ap (λ (t : List ℕ). Lines i j ++ t) (text_one_more (i + 1) found k after m (omega (arith, e)))
    ∙ sym (append_assoc (Lines i j) (lines_seen (i + 1) found) (Lines m k ++ after))

-- what is left begins with a mutator's lines
record Begins (found all : List Seen) (m : ℕ) (rest tail : List ℕ) : Type 0 where
  first : Seen
  others : List Seen
  split : all ≡ found ++ first ∷ others
  fits : SeenFits first
  others_fit : AllByRecursion SeenFits others
  text : rest ≡ Lines m first ++ (lines_seen (m + 1) others ++ tail)

begins : (found all more : List Seen) (m n : ℕ) (rest tail : List ℕ) → length found ≡ m → m < n → length all ≡ n → all ≡ found ++ more → AllByRecursion SeenFits more → rest ≡ lines_seen m more ++ tail → Begins found all m rest tail
begins found all [] m n rest tail number lt len split fit text =
    absurd (omega (arith, number, lt, len, ap (λ (ks : List Seen). length ks) (split ∙ append-nil found)))
begins found all (k ∷ more) m n rest tail number lt len split fit text =
    record { first = k; others = more; split = split; fits = fit.0; others_fit = fit.1; text = text ∙ append_assoc (Lines m k) (lines_seen (m + 1) more) tail }

nothing_left : (found all more : List Seen) (n : ℕ) → length found ≡ n → length all ≡ n → all ≡ found ++ more → more ≡ []
nothing_left found all [] n number len split = refl
nothing_left found all (k ∷ more) n number len split =
    absurd (omega (arith, number, len, ap (λ (ks : List Seen). length ks) split, length-append found (k ∷ more)))

err_again : {X Y Z W : Type 0} (v : X → Y) (w : Z → W) (e : ReadingError) (y : Y) (z : W) → ReadsAs v (Err e) y → ReadsAs w (Err e) z
err_again v w errors.NoMemory y z h = tt
err_again v w (errors.Bad line) y z h = absurd h

pub handed_on : {X Z Y W : Type 0} (v : X → Y) (w : Z → W) (r : Result Z ReadingError) (why : ReadingError) (y : Y) (z : W) → IsErrAnd r (λ e. e ≡ why) → ReadsAs v (Err why) y → ReadsAs w r z
handed_on v w (Ok x) why y z is h = absurd is
handed_on v w (Err e) why y z is h = subst (λ (e : ReadingError). ReadsAs w (Err e) z) (sym is) (err_again v w why y z h)

-- what is read of one mutator, and the bytes behind it
abbrev line_view : MutatorLines × Bor (List ℕ) → Seen × List ℕ
line_view x = (seen_by x.0, x.1.now)

-- the lines of one mutator that are read are the only ones
abbrev OnlyLines : ℕ → List ℕ → (Seen → List ℕ → Type 0) → Type 0
OnlyLines m rest Is = (seen : Seen) (tail : List ℕ) → SeenFits seen → rest ≡ Lines m seen ++ tail → Is seen tail

module _ (n : ℕ) (bytes : List ℕ) (all : List MutatorLines) (m : ℕ) (rest : List ℕ) (s : AllSoFar n bytes (map seen_by all) m rest) where
  left : m < n → (ks : List Seen) (tail : List ℕ) → AreSeen n ks → bytes ≡ lines_seen 0 ks ++ tail → Begins (map seen_by all) ks m rest tail
  left lt ks tail h e =
      let l = s.only ks tail h e in
      begins (map seen_by all) ks l.more m n rest tail s.number lt h.0 l.split l.fit l.text

  -- one more mutator
  pub goes_on : (lines : MutatorLines) (behind : List ℕ) → m < n → SeenFits (seen_by lines) × (rest ≡ Lines m (seen_by lines) ++ behind) → OnlyLines m rest (λ seen tail. ◌≡◌ {A = Seen × List ℕ} (seen_by lines, behind) (seen, tail)) → AllSoFar n bytes (map seen_by (all ++ lines ∷ [])) (m + 1) behind
  goes_on lines behind lt found only =
      let before = map seen_by all in
      let k = seen_by lines in
      subst (λ (ks : List Seen). AllSoFar n bytes ks (m + 1) behind) (sym (map-append seen_by all (lines ∷ []))) (record {
        taken = s.taken ∙ ap (λ (xs : List ℕ). lines_seen 0 before ++ xs) found.1 ∙ sym (text_one_more 0 before k behind m (omega (arith, s.number)));
        number = omega (arith, length-append before (k ∷ []), s.number);
        fit = fits_one_more before k s.fit found.0;
        only = λ ks tail h e.
            let b = left lt ks tail h e in
            let same = only b.first (lines_seen (m + 1) b.others ++ tail) b.fits b.text in
            record {
              more = b.others;
              split = b.split ∙ ap (λ (q : Seen × List ℕ). before ++ q.0 ∷ b.others) (sym same) ∙ sym (append_assoc before (k ∷ []) b.others);
              fit = b.others_fit;
              text = ap (λ (q : Seen × List ℕ). q.1) same;
            };
      })

  -- a mutator whose lines are wrong
  pub fails : {Z : Type 0} (w : Z → List Seen × List ℕ) (r : Result Z ReadingError) (why : ReadingError) → IsErrAnd r (λ e. e ≡ why) → m < n → OnlyLines m rest (λ seen tail. ReadsAs line_view (Err why) (seen, tail)) → (ks : List Seen) (tail : List ℕ) → AreSeen n ks → bytes ≡ lines_seen 0 ks ++ tail → ReadsAs w r (ks, tail)
  fails w r why is lt only ks tail h e =
      let b = left lt ks tail h e in
      let behind = lines_seen (m + 1) b.others ++ tail in
      handed_on line_view w r why (b.first, behind) (ks, tail) is (only b.first behind b.fits b.text)

  pub all_only : m ≡ n → (ks : List Seen) (tail : List ℕ) → AreSeen n ks → bytes ≡ lines_seen 0 ks ++ tail → ◌≡◌ {A = List Seen × List ℕ} (map seen_by all, rest) (ks, tail)
  all_only is ks tail h e =
      let l = s.only ks tail h e in
      let none = nothing_left (map seen_by all) ks l.more n (s.number ∙ is) h.0 l.split in
      let whole : ks ≡ map seen_by all = l.split ∙ ap (λ (xs : List Seen). map seen_by all ++ xs) none ∙ append-nil (map seen_by all) in
      let behind : rest ≡ tail = l.text ∙ ap (λ (xs : List Seen). lines_seen m xs ++ tail) none in
      ap (λ (xs : List Seen). (xs, rest)) (sym whole) ∙ ap (λ (t : List ℕ). (ks, t)) behind

-- ---- lines at the front

lines_more : (i : ℕ) (found ks : List Seen) (m : ℕ) → i + length found ≡ m → lines_seen i (found ++ ks) ≡ lines_seen i found ++ lines_seen m ks
lines_more i [] ks m e = let is : i ≡ m = omega (arith, e) in ap (λ (j : ℕ). lines_seen j ks) is
lines_more i (k ∷ found) ks m e =
    ap (λ (t : List ℕ). Lines i k ++ t) (lines_more (i + 1) found ks m (omega (arith, e))) ∙ sym (append_assoc (Lines i k) (lines_seen (i + 1) found) (lines_seen m ks))

-- mutators at the front are the first of those whose lines these are
strip : (i : ℕ) (found ks : List Seen) (m : ℕ) (rest tail : List ℕ) → i + length found ≡ m → m ≤ 256 → length found ≤ length ks → AllByRecursion SeenFits found → AllByRecursion SeenFits ks → lines_seen i found ++ rest ≡ lines_seen i ks ++ tail → AllLeft found ks m rest tail
strip i [] ks m rest tail is low short hf hk e =
    let here : i ≡ m = omega (arith, is) in
    record { more = ks; split = refl; fit = hk; text = e ∙ ap (λ (j : ℕ). lines_seen j ks ++ tail) here }
strip i (k ∷ found) [] m rest tail is low short hf hk e = absurd (omega (arith, short))
strip i (k ∷ found) (j ∷ ks) m rest tail is low short hf hk e =
    let whole = sym (append_assoc (Lines i k) (lines_seen (i + 1) found) rest) ∙ e ∙ append_assoc (Lines i j) (lines_seen (i + 1) ks) tail in
    let same = same_seen i (omega (arith, is, low)) k j (lines_seen (i + 1) found ++ rest) (lines_seen (i + 1) ks ++ tail) hf.0 hk.0 whole in
    let l = strip (i + 1) found ks m rest tail (omega (arith, is)) low (omega (arith, short)) hf.1 hk.1 same.1 in
    record { more = l.more; split = ap (λ (x : Seen). x ∷ ks) (sym same.0) ∙ ap (λ (xs : List Seen). k ∷ xs) l.split; fit = l.fit; text = l.text }

-- lines of so many mutators at the front are those of one thing alone
pub same_lines : (n : ℕ) (all ks : List Seen) (rest tail : List ℕ) → n ≤ 256 → AreSeen n all → AreSeen n ks → lines_seen 0 all ++ rest ≡ lines_seen 0 ks ++ tail → (all ≡ ks) × (rest ≡ tail)
same_lines n all ks rest tail low ha hk e =
    let l = strip 0 all ks n rest tail (omega (arith, ha.0)) low (omega (arith, ha.0, hk.0)) ha.1 hk.1 e in
    let none = nothing_left all ks l.more n ha.0 hk.0 l.split in
    (sym (l.split ∙ ap (λ (xs : List Seen). all ++ xs) none ∙ append-nil all), l.text ∙ ap (λ (xs : List Seen). lines_seen n xs ++ tail) none)

-- ---- how many lines there are

pub lines_count : (i : ℕ) (ks : List Seen) → i + length ks ≤ 256 → AllByRecursion SeenFits ks → ends (lines_seen i ks) ≡ line_count ks
lines_count i [] low h = refl
lines_count i (k ∷ ks) low h =
    omega (arith, ends_append (Lines i k) (lines_seen (i + 1) ks), seen_count i (omega (arith, low)) k h.0, lines_count (i + 1) ks (omega (arith, low)) h.1)

pub count_one_more : (ks : List Seen) (k : Seen) → line_count (ks ++ k ∷ []) ≡ line_count ks + length k.printed + 1
count_one_more [] k = omega arith
count_one_more (j ∷ ks) k = omega (arith, count_one_more ks k)

-- ---- the first wrong line

-- mutators that were stopped before they printed
abbrev stopped : Seen
stopped = record { printed = []; end = None }

filled : ℕ → List Seen
filled zero = []
filled (suc n) = stopped ∷ filled n

filled_fits : (n : ℕ) → (length (filled n) ≡ n) × AllByRecursion SeenFits (filled n)
unfolding filled
filled_fits zero = (refl, tt)
filled_fits (suc n) = let h = filled_fits n in (ap suc h.0, ((omega arith, tt, tt), h.1))

all_fit : (found ks : List Seen) → AllByRecursion SeenFits found → AllByRecursion SeenFits ks → AllByRecursion SeenFits (found ++ ks)
all_fit [] ks hf hk = hk
all_fit (k ∷ found) ks hf hk = (hf.0, all_fit found ks hf.1 hk)

-- the lines of mutator m are wrong, which stands behind those that were read
pub go_wrong : (n : ℕ) (bytes : List ℕ) (found : List Seen) (m : ℕ) (rest : List ℕ) (k : ℕ) → n ≤ 256 → m < n → AllSoFar n bytes found m rest → GoWrongBehind (seen_text m) SeenFits rest k → GoWrongBehind (lines_seen 0) (AreSeen n) bytes (line_count found + k)
go_wrong n bytes found m rest k low lt s w =
    let front = lines_seen 0 found in
    let others = filled (n - (m + 1)) in
    let h = filled_fits (n - (m + 1)) in
    let begun = found ++ w.begun ∷ others in
    let count : ends front ≡ line_count found = lines_count 0 found (omega (arith, s.number, low, lt)) s.fit in
    let here : line_count found + k ≡ ends front + k = omega (arith, count) in
    let next : suc (line_count found + k) ≡ suc (ends front + k) = omega (arith, count) in
    record {
      begun = begun;
      fits = (omega (arith, length-append found (w.begun ∷ others), h.0, s.number, lt), all_fit found (w.begun ∷ others) s.fit (w.fits, h.1));
      before = λ more.
          let behind = lines_seen (m + 1) others ++ more in
          let text : lines_seen 0 begun ++ more ≡ front ++ (Lines m w.begun ++ behind) =
          ap (λ (xs : List ℕ). xs ++ more) (lines_more 0 found (w.begun ∷ others) m (omega (arith, s.number))) ∙ append_assoc front (Lines m w.begun ++ lines_seen (m + 1) others) more
          ∙ ap (λ (xs : List ℕ). front ++ xs) (append_assoc (Lines m w.begun) (lines_seen (m + 1) others) more) in
          ap (λ (j : ℕ). first_lines j bytes) here ∙ ap (first_lines (ends front + k)) s.taken ∙ same_behind front rest (Lines m w.begun ++ behind) k (w.before behind)
          ∙ ap (first_lines (ends front + k)) (sym text) ∙ ap (λ (j : ℕ). first_lines j (lines_seen 0 begun ++ more)) (sym here);
      wrong = λ ks more fits same.
          let whole = lines_seen 0 ks ++ more in
          let f = front_goes_on front rest whole k (ap (first_lines (suc (ends front + k))) (sym s.taken) ∙ ap (λ (j : ℕ). first_lines j bytes) (sym next) ∙ same ∙ ap (λ (j : ℕ). first_lines j whole) next) in
          let l = strip 0 found ks m f.tail more (omega (arith, s.number)) (omega (arith, low, lt)) (omega (arith, s.number, fits.0, lt)) s.fit fits.1 (sym f.split) in
          let b = begins found ks l.more m n f.tail more s.number lt fits.0 l.split l.fit l.text in
          w.wrong b.first (lines_seen (m + 1) b.others ++ more) b.fits (f.same ∙ ap (first_lines (suc k)) b.text);
    }

-- an error that names a line of mutator m names that of all
names_wrong : (n : ℕ) (bytes : List ℕ) (found : List Seen) (m : ℕ) (rest : List ℕ) (count : ℕ) (why : ReadingError) → n ≤ 256 → m < n → AllSoFar n bytes found m rest → count ≡ line_count found → NamesWrong (seen_text m) SeenFits rest count why → NamesWrong (lines_seen 0) (AreSeen n) bytes 0 why
names_wrong n bytes found m rest count errors.NoMemory low lt s is w = tt
names_wrong n bytes found m rest count (errors.Bad line) low lt s is w =
    (line_count found + w.0, omega (arith, is, w.1), go_wrong n bytes found m rest w.0 low lt s w.2)

pub fails_wrong : {Z : Type 0} (n : ℕ) (bytes : List ℕ) (found : List Seen) (m : ℕ) (rest : List ℕ) (count : ℕ) (r : Result Z ReadingError) (why : ReadingError) → IsErrAnd r (λ e. e ≡ why) → n ≤ 256 → m < n → AllSoFar n bytes found m rest → count ≡ line_count found → NamesWrong (seen_text m) SeenFits rest count why → IfErr r (NamesWrong (lines_seen 0) (AreSeen n) bytes 0)
fails_wrong n bytes found m rest count (Ok x) why is low lt s c w = tt
fails_wrong n bytes found m rest count (Err e) why is low lt s c w = subst (NamesWrong (lines_seen 0) (AreSeen n) bytes 0) (sym is) (names_wrong n bytes found m rest count why low lt s c w)
