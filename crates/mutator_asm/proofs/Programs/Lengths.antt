-- How many instructions the lines of a section have.
use Rattle.std.proofs.Common.{◌≡◌, ℕ, ◌+◌, cond, List, [], ◌∷◌, length, refl, arith}
use Rattle.std.specs.Prelude.{count_by}
use Rattle.std.specs.List.{filter_map, cons_option}
use Rattle.mutator_asm.specs.declared.instr.Instr.{Instr}
use Rattle.mutator_asm.specs.Line.{Word, Nothing, Line}
use Rattle.mutator_asm.specs.Text.{counts, has_instr, target_of, instr_by, section_of}
use Rattle.mutator_asm.proofs.Lists.Tests.{count_by-cons}

length_on : (t : List ℕ → ℕ) (w : Word) (instrs : List Instr) → length (cons_option (instr_by t w) instrs) ≡ cond (has_instr w) 1 0 + length instrs
length_on t Nothing instrs = omega arith
length_on t _ instrs = omega arith

pub length_by : (t : List ℕ → ℕ) (lines : List Line) → length (filter_map (λ l. instr_by t l.word) lines) ≡ count_by counts lines
length_by t [] = refl
length_by t (line ∷ lines) = omega (arith, length_on t line.word (filter_map (λ l. instr_by t l.word) lines), length_by t lines, count_by-cons counts line lines)

pub length_section : (lines : List Line) → length (section_of lines) ≡ count_by counts lines
unfolding section_of
length_section lines = length_by (target_of lines) lines
