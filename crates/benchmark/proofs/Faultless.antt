-- No line of the text has an error, so that it means a program.
use Rattle.std.proofs.Common.{◌≡◌, ℕ, ◌+◌, ◌^◌, ◌≤◌, ◌&&◌, Bool, true, List, [], ◌∷◌, ◌++◌, length, refl, sym, ap, ◌∙◌, Option, Some, None, append_assoc, arith}
use Rattle.std.specs.Prelude.{count_by, not}
use Rattle.std.specs.Option.{is_some}
use Rattle.std.proofs.lemmas.Bool.{and_parts}
use Rattle.std.proofs.lemmas.List.{append-nil, length-append}
use Rattle.mutator_asm.specs.declared.mistake.Mistake.{Mistake}
use Rattle.mutator_asm.specs.Instr.{instr_of}
use Rattle.mutator_asm.specs.Line.{Line, Nothing, lines_of, named_of, unlabelled}
use Rattle.mutator_asm.specs.Text.{begins_section, code_of, error_of, schedule_of, IsCleanUpTo}
use Rattle.mutator_asm.specs.Theorems.{Means}
use Rattle.mutator_asm.specs.Token.{label_of, number_of, register_of}
use Rattle.mutator_asm.proofs.Texts.Clean.{clean_more, clean_none, error_is}
use Rattle.benchmark.specs.Text.{bench_text}
use Rattle.benchmark.proofs.Bounds.{pow_from_1_to_9}
use Rattle.benchmark.proofs.Sections.{lines_are, lines_below}

-- whether none of these lines has an error, where others come before them
abbrev are_clean : List Line → List Line → Bool
are_clean before [] = true
are_clean before (line ∷ after) = not (is_some (error_of before line after)) && are_clean (before ++ line ∷ []) after

none_is : (error : Option Mistake) → not (is_some error) ≡ true → error ≡ None
none_is None h = refl
none_is (Some mistake) h = cc

clean_by : (before after : List Line) → are_clean before after ≡ true → IsCleanUpTo (length before) (before ++ after) → IsCleanUpTo (length (before ++ after)) (before ++ after)
clean_by before [] h clean = rw append-nil (rw append-nil at clean)
clean_by before (line ∷ after) h clean =
    let parts = and_parts (not (is_some (error_of before line after))) (are_clean (before ++ line ∷ []) after) h in
    let none : error_of before line after ≡ None = none_is (error_of before line after) parts.0 in
    let more = clean_more (before ++ line ∷ after) (length before) line (sym (error_is (before ++ line ∷ after) before line after line refl) ∙ none) clean in
    let again = append_assoc before (line ∷ []) after in
    let longer : length before + 1 ≡ length (before ++ line ∷ []) = omega (arith, length-append before (line ∷ [])) in
    rw again at (clean_by (before ++ line ∷ []) after parts.1 (rw (again, ← longer) more))

-- ---- four sections

are_clean_below_4 : (count seed : ℕ) → are_clean [] (lines_below count seed 4 ++ unlabelled Nothing ∷ []) ≡ true
unfolding lines_below error_of label_of named_of instr_of register_of number_of
are_clean_below_4 count seed = refl

begun_below_4 : (count seed : ℕ) → count_by begins_section (lines_below count seed 4 ++ unlabelled Nothing ∷ []) ≡ 4
unfolding lines_below label_of named_of instr_of register_of number_of
begun_below_4 count seed = refl

pub bench_means : (depth seed : ℕ) → 1 ≤ depth → depth ≤ 9 → Means (bench_text depth seed)
bench_means depth seed some few =
    let bounds = pow_from_1_to_9 depth some few in
    let lines = lines_are (2 ^ depth) seed 4 bounds.0 bounds.1 in
    let all = lines_below (2 ^ depth) seed 4 ++ unlabelled Nothing ∷ [] in
    record {
      code = code_of (lines_of (bench_text depth seed));
      schedule = schedule_of (lines_of (bench_text depth seed));
      text = record {
        clean = rw lines (clean_by [] all (are_clean_below_4 (2 ^ depth) seed) (clean_none all));
        begun = omega (arith, begun_below_4 (2 ^ depth) seed, ap (count_by begins_section) lines);
        code_is = refl;
        schedule_is = refl;
      };
    }
