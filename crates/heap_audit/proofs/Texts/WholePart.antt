-- The whole part, read from its lines, its order and its dump.
use Rattle.std.proofs.Common.{◌≡◌, ℕ, zero, suc, ◌+◌, ◌-◌, ◌≤◌, true, List, [], ◌++◌, Result, Ok, Err, refl, sym, ap, subst, ◌∙◌, arith}
use Rattle.std.proofs.lemmas.List.{append_assoc}
use Rattle.std.specs.List.{AllByRecursion}
use Rattle.std.specs.Prelude.{IfErr}
use Rattle.std.proofs.lemmas.Bool.Decides.{nat_tests}
use Rattle.std.specs.Result.{IsErrAnd}
use Rattle.space_map.specs.declared.spaces.TheConstants.{MOST_MUTATORS}
use Rattle.plain_heap.specs.declared.mark.Mark.{Mark}
use Rattle.plain_heap.specs.Print.{Seen, lines_seen, order_line}
use Rattle.dump_text.specs.Lines.{first_lines}
use Rattle.dump_text.specs.Reading.{GivesReading}
use Rattle.dump_text.specs.Text.{Counts, Dumped, are_counts, counts_of, dump_text}
use Rattle.dump_text.proofs.WholeDump.{one_dump}
use Rattle.dump_text.specs.declared.dump_error.DumpError.{DumpError}
use Rattle.dump_text.specs.declared.dump_error.DumpError.TheVariants as dump_errors
use Rattle.heap_audit.specs.Texts.FirstWrong.{DumpNamesWrong, IsFirstWrongOf, NamesFirstWrongOf, NamesWrong, behind}
use Rattle.heap_audit.specs.Texts.Lines.{AreSeen, line_count}
use Rattle.heap_audit.specs.Texts.Order.{MarkFits, ReadsAs}
use Rattle.heap_audit.specs.Texts.Part.{IsDumpOf, IsPart, Output, TellsOneOutput, part_text}
use Rattle.heap_audit.specs.declared.reading.reading_error.ReadingError.{ReadingError}
use Rattle.heap_audit.specs.declared.reading.reading_error.ReadingError.TheVariants as errors
use Rattle.heap_audit.proofs.Texts.AllLines.{handed_on, lines_count, same_lines}
use Rattle.heap_audit.proofs.Texts.Dumps.{some_dump, some_is_dump}
use Rattle.heap_audit.proofs.Texts.Fronts.{ends, ends_append}
use Rattle.heap_audit.proofs.Texts.OneLine.{line_ends, order_is_line}
use Rattle.heap_audit.proofs.Texts.Orders.{same_order}
use Rattle.heap_audit.proofs.Texts.WrongLines.{goes_on, same_behind}

-- what stands behind the lines of the mutators
abbrev behind_lines : Output → List ℕ
behind_lines output = order_line output.order ++ dump_text output.dump

lines_first : (output : Output) → part_text output ≡ lines_seen 0 output.seen ++ behind_lines output
lines_first output = append_assoc (lines_seen 0 output.seen) (order_line output.order) (dump_text output.dump)

-- ---- it is read back

-- what a reader gives of bytes is the only thing with which they begin
abbrev pub OnlyLines : {X : Type 0} → ℕ → (X → List Seen × List ℕ) → List ℕ → Result X ReadingError → Type 0
OnlyLines n v bytes r = (all : List Seen) (rest : List ℕ) → AreSeen n all → bytes ≡ lines_seen 0 all ++ rest → ReadsAs v r (all, rest)

abbrev pub OnlyOrder : {X : Type 0} → (X → List Mark × List ℕ) → List ℕ → Result X ReadingError → Type 0
OnlyOrder v bytes r = (marks : List Mark) (rest : List ℕ) → AllByRecursion MarkFits marks → bytes ≡ order_line marks ++ rest → ReadsAs v r (marks, rest)

-- and what they are
abbrev pub OnlyDump : {X : Type 0} → ℕ → (X → Dumped) → List ℕ → Result X DumpError → Type 0
OnlyDump n v bytes r = (d : Dumped) → IsDumpOf n d → bytes ≡ dump_text d → GivesReading v r (Ok d)

abbrev pub OnlyPart : {X : Type 0} → ℕ → (X → Output) → List ℕ → Result X ReadingError → Type 0
OnlyPart n v bytes r = (output : Output) → IsPart n output → bytes ≡ part_text output → ReadsAs v r output

same_output : (seen all : List Seen) (order marks : List Mark) (dump d : Dumped) → seen ≡ all → order ≡ marks → dump ≡ d → ◌≡◌ {A = Output} (record { seen = seen; order = order; dump = dump }) (record { seen = all; order = marks; dump = d })
same_output seen all order marks dump d e f g = rw (e, f, g) refl

ok_is_not_err : {A : Type 0} (x : A) (line : ℕ) → ◌≡◌ {A = Result A ℕ} (Ok x) (Err line) → ⊥
ok_is_not_err x line e = absurd cc

ok_is : {A : Type 0} (x y : A) → ◌≡◌ {A = Result A ℕ} (Ok x) (Ok y) → x ≡ y
ok_is x y e = cc

-- a dump that could not be read
dump_unread : {X Z W : Type 0} (v : X → Dumped) (w : Z → W) (lines : ℕ) (why : DumpError) (d : Dumped) (z : W) → GivesReading v (Err why) (Ok d) → ReadsAs w (Err (behind lines why)) z
dump_unread v w lines dump_errors.NoMemory d z h = tt
dump_unread v w lines (dump_errors.Bad line) d z h = ok_is_not_err d line h

module _ (n : ℕ) (bytes : List ℕ) {X Z : Type 0} (v : X → List Seen × List ℕ) (w : Z → Output) where
  -- the lines of the mutators are wrong
  pub lines_fail : (r : Result Z ReadingError) (why : ReadingError) → IsErrAnd r (λ e. e ≡ why) → OnlyLines n v bytes (Err why) → OnlyPart n w bytes r
  lines_fail r why err only output is e = handed_on v w r why (output.seen, behind_lines output) output err (only output.seen (behind_lines output) is.seen (e ∙ lines_first output))

  module _ (x : X) (lines : OnlyLines n v bytes (Ok x)) where
    -- the lines that were read are those of each part that the bytes are
    lines_are : (output : Output) → IsPart n output → bytes ≡ part_text output → v x ≡ (output.seen, behind_lines output)
    lines_are output is e = lines output.seen (behind_lines output) is.seen (e ∙ lines_first output)

    rest_is : (output : Output) → IsPart n output → bytes ≡ part_text output → (v x).1 ≡ behind_lines output
    rest_is output is e = ap (λ (q : List Seen × List ℕ). q.1) (lines_are output is e)

    module _ {Y : Type 0} (u : Y → List Mark × List ℕ) where
      -- the order is wrong
      pub order_fails : (r : Result Z ReadingError) (why : ReadingError) → IsErrAnd r (λ e. e ≡ why) → OnlyOrder u (v x).1 (Err why) → OnlyPart n w bytes r
      order_fails r why err only output is e =
          handed_on u w r why (output.order, dump_text output.dump) output err (only output.order (dump_text output.dump) is.order (rest_is output is e))

      module _ (y : Y) (order : OnlyOrder u (v x).1 (Ok y)) where
        order_is : (output : Output) → IsPart n output → bytes ≡ part_text output → u y ≡ (output.order, dump_text output.dump)
        order_is output is e = order output.order (dump_text output.dump) is.order (rest_is output is e)

        last_is : (output : Output) → IsPart n output → bytes ≡ part_text output → (u y).1 ≡ dump_text output.dump
        last_is output is e = ap (λ (q : List Mark × List ℕ). q.1) (order_is output is e)

        module _ {D : Type 0} (t : D → Dumped) where
          -- the dump is wrong
          pub dump_fails : (lines : ℕ) (why : DumpError) → OnlyDump n t (u y).1 (Err why) → OnlyPart n w bytes (Err (behind lines why))
          dump_fails lines why only output is e = dump_unread t w lines why output.dump output (only output.dump is.dump (last_is output is e))

          -- nothing is wrong
          pub part_only : (d : D) → OnlyDump n t (u y).1 (Ok d) → (output : Output) → IsPart n output → bytes ≡ part_text output → ◌≡◌ {A = Output} (record { seen = (v x).0; order = (u y).0; dump = t d }) output
          part_only d only output is e =
              same_output (v x).0 output.seen (u y).0 output.order (t d) output.dump
              (ap (λ (q : List Seen × List ℕ). q.0) (lines_are output is e)) (ap (λ (q : List Mark × List ℕ). q.0) (order_is output is e))
              (sym (ok_is output.dump (t d) (only output.dump is.dump (last_is output is e))))

-- ---- no other has its text

-- a part has no more mutators than a heap
few_mutators : (n : ℕ) (output : Output) → IsPart n output → n ≤ MOST_MUTATORS
few_mutators n output is = few (counts_of output.dump) is.dump.as_many is.dump.is_dump.counts
  where
    few : (c : Counts) → c.mutators ≡ n → are_counts c ≡ true → n ≤ MOST_MUTATORS
    few c many counts = grind (arith, nat_tests)

pub one_output : TellsOneOutput
one_output n a b is_a is_b same =
    let few : n ≤ 256 = omega (arith, few_mutators n a is_a) in
    let seen = same_lines n a.seen b.seen (behind_lines a) (behind_lines b) few is_a.seen is_b.seen (sym (lines_first a) ∙ same ∙ lines_first b) in
    let order = same_order a.order b.order (dump_text a.dump) (dump_text b.dump) is_a.order is_b.order seen.1 in
    same_output a.seen b.seen a.order b.order a.dump b.dump seen.0 order.0 (one_dump a.dump b.dump is_a.dump.is_dump is_b.dump.is_dump order.1)

-- ---- the first wrong line

module _ (n : ℕ) (some : 1 ≤ n) (few : n ≤ MOST_MUTATORS) (bytes : List ℕ) where
  abbrev Wrong : ReadingError → Type 0
  Wrong why = NamesFirstWrongOf part_text (IsPart n) bytes why

  -- in the lines of the mutators
  lines_wrong : (why : ReadingError) → NamesWrong (lines_seen 0) (AreSeen n) bytes 0 why → Wrong why
  lines_wrong errors.NoMemory w = tt
  lines_wrong (errors.Bad line) named =
      let k = named.0 in
      let w = named.2 in
      let is : line ≡ 0 + k + 1 = named.1 in
      let here : line - 1 ≡ k = omega (arith, is) in
      let next : line ≡ suc k = omega (arith, is) in
      let begun : Output = record { seen = w.begun; order = []; dump = some_dump n } in
      record {
        begun = begun;
        fits = record { seen = w.fits; order = tt; dump = some_is_dump n some few };
        before =
            ap (λ (j : ℕ). first_lines j bytes) here ∙ w.before (behind_lines begun) ∙ ap (first_lines k) (sym (lines_first begun)) ∙ ap (λ (j : ℕ). first_lines j (part_text begun)) (sym here);
        wrong = λ output fits same.
            w.wrong output.seen (behind_lines output) fits.seen
            (ap (λ (j : ℕ). first_lines j bytes) (sym next) ∙ same ∙ ap (λ (j : ℕ). first_lines j (part_text output)) next ∙ ap (first_lines (suc k)) (lines_first output));
      }

  module _ (seen : List Seen) (rest : List ℕ) (lines : ℕ) (found : AreSeen n seen × (bytes ≡ lines_seen 0 seen ++ rest)) (counted : lines ≡ line_count seen) where
    lines_end : ends (lines_seen 0 seen) ≡ lines
    lines_end = lines_count 0 seen (omega (arith, found.0.0, few)) found.0.1 ∙ sym counted

    -- a part that begins with these lines has what stands behind them
    behind_is : (output : Output) (tail : List ℕ) → IsPart n output → part_text output ≡ lines_seen 0 seen ++ tail → behind_lines output ≡ tail
    behind_is output tail is e = (same_lines n output.seen seen (behind_lines output) tail (omega (arith, few)) is.seen found.0 (sym (lines_first output) ∙ e)).1

    -- in the order
    order_wrong : (why : ReadingError) → NamesWrong order_line (AllByRecursion MarkFits) rest lines why → Wrong why
    order_wrong errors.NoMemory w = tt
    order_wrong (errors.Bad line) named =
        let k = named.0 in
        let w = named.2 in
        let is : line ≡ lines + k + 1 = named.1 in
        let front = lines_seen 0 seen in
        let here : line - 1 ≡ ends front + k = omega (arith, is, lines_end) in
        let next : line ≡ suc (ends front + k) = omega (arith, is, lines_end) in
        let begun : Output = record { seen = seen; order = w.begun; dump = some_dump n } in
        record {
          begun = begun;
          fits = record { seen = found.0; order = w.fits; dump = some_is_dump n some few };
          before =
              ap (λ (j : ℕ). first_lines j bytes) here ∙ ap (first_lines (ends front + k)) found.1 ∙ same_behind front rest (behind_lines begun) k (w.before (dump_text begun.dump))
              ∙ ap (first_lines (ends front + k)) (sym (lines_first begun)) ∙ ap (λ (j : ℕ). first_lines j (part_text begun)) (sym here);
          wrong = λ output fits same.
              let g = goes_on front rest (part_text output) k
              (ap (first_lines (suc (ends front + k))) (sym found.1) ∙ ap (λ (j : ℕ). first_lines j bytes) (sym next) ∙ same ∙ ap (λ (j : ℕ). first_lines j (part_text output)) next) in
              w.wrong output.order (dump_text output.dump) fits.order (g.same ∙ ap (first_lines (suc k)) (sym (behind_is output g.tail fits g.split)));
        }

    module _ (order : List Mark) (last : List ℕ) (read : AllByRecursion MarkFits order × (rest ≡ order_line order ++ last)) where
      abbrev front : List ℕ
      front = lines_seen 0 seen ++ order_line order

      front_ends : ends front ≡ lines + 1
      front_ends = omega (arith, ends_append (lines_seen 0 seen) (order_line order), lines_end, line_ends (order_line order) (order_is_line order read.0))

      bytes_are : bytes ≡ front ++ last
      bytes_are = found.1 ∙ ap (λ (xs : List ℕ). lines_seen 0 seen ++ xs) read.1 ∙ sym (append_assoc (lines_seen 0 seen) (order_line order) last)

      -- a part that begins with these lines has this dump
      dump_is : (output : Output) (tail : List ℕ) → IsPart n output → part_text output ≡ front ++ tail → dump_text output.dump ≡ tail
      dump_is output tail is e =
          let b = behind_is output (order_line order ++ tail) is (e ∙ append_assoc (lines_seen 0 seen) (order_line order) tail) in
          (same_order output.order order (dump_text output.dump) tail is.order read.0 b).1

      -- in the dump
      dump_line_wrong : (k : ℕ) → IsFirstWrongOf dump_text (IsDumpOf n) last (suc k) → IsFirstWrongOf part_text (IsPart n) bytes (lines + 1 + suc k)
      dump_line_wrong k w =
          let line = lines + 1 + suc k in
          let first : suc k - 1 ≡ k = omega arith in
          let here : line - 1 ≡ ends front + k = omega (arith, front_ends) in
          let next : line ≡ suc (ends front + k) = omega (arith, front_ends) in
          let begun : Output = record { seen = seen; order = order; dump = w.begun } in
          let before : first_lines k last ≡ first_lines k (dump_text w.begun) = ap (λ (j : ℕ). first_lines j last) (sym first) ∙ w.before ∙ ap (λ (j : ℕ). first_lines j (dump_text w.begun)) first in
          record {
            begun = begun;
            fits = record { seen = found.0; order = read.0; dump = w.fits };
            before =
                ap (λ (j : ℕ). first_lines j bytes) here ∙ ap (first_lines (ends front + k)) bytes_are ∙ same_behind front last (dump_text w.begun) k before
                ∙ ap (λ (j : ℕ). first_lines j (part_text begun)) (sym here);
            wrong = λ output fits same.
                let g = goes_on front last (part_text output) k
                (ap (first_lines (suc (ends front + k))) (sym bytes_are) ∙ ap (λ (j : ℕ). first_lines j bytes) (sym next) ∙ same ∙ ap (λ (j : ℕ). first_lines j (part_text output)) next) in
                w.wrong output.dump fits.dump (g.same ∙ ap (first_lines (suc k)) (sym (dump_is output g.tail fits g.split)));
          }

      pub dump_wrong : (why : DumpError) → DumpNamesWrong dump_text (IsDumpOf n) last why → Wrong (behind (lines + 1) why)
      dump_wrong dump_errors.NoMemory w = tt
      dump_wrong (dump_errors.Bad zero) w = absurd (w.wrong w.begun w.fits refl)
      dump_wrong (dump_errors.Bad (suc k)) w = dump_line_wrong k w

  handed : {Z : Type 0} (r : Result Z ReadingError) (why : ReadingError) → IsErrAnd r (λ e. e ≡ why) → Wrong why → IfErr r Wrong
  handed (Ok x) why is w = tt
  handed (Err e) why is w = subst Wrong (sym is) w

  pub lines_fail_wrong : {Z : Type 0} (r : Result Z ReadingError) (why : ReadingError) → IsErrAnd r (λ e. e ≡ why) → NamesWrong (lines_seen 0) (AreSeen n) bytes 0 why → IfErr r Wrong
  lines_fail_wrong r why is w = handed r why is (lines_wrong why w)

  pub order_fails_wrong : {Z : Type 0} (seen : List Seen) (rest : List ℕ) (lines : ℕ) → AreSeen n seen × (bytes ≡ lines_seen 0 seen ++ rest) → lines ≡ line_count seen → (r : Result Z ReadingError) (why : ReadingError) → IsErrAnd r (λ e. e ≡ why)
      → NamesWrong order_line (AllByRecursion MarkFits) rest lines why → IfErr r Wrong
  order_fails_wrong seen rest lines found counted r why is w = handed r why is (order_wrong seen rest lines found counted why w)
