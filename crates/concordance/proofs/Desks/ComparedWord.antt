-- An entry whose letters are loaded and counted.
use Rattle.std.proofs.Common.{◌≡◌, length, refl, arith}
use Rattle.std.proofs.lemmas.List.{length-map}
use Rattle.plain_state.specs.declared.value.Value.{Value}
use Rattle.plain_state.specs.declared.value.Value.TheVariants.{Number}
use Rattle.mutator_asm.specs.declared.instr.Instr.TheVariants.{Ld, Len}
use Rattle.mutator_asm.specs.declared.operand.Operand.TheVariants as operands
use Rattle.concordance.specs.Desk.{CanDo, desk_after, desk_register}
use Rattle.ael_threads.specs.Seats.{Seated}
use Rattle.concordance.specs.Lone.{desk_of}
use Rattle.concordance.specs.Notes.Records.{IsEntry, IsLetters, Note, entry_record, letters_record}
use Rattle.concordance.specs.declared.registers.TheConstants.{HERE, LETTERS, NUMBER}
use Rattle.concordance.proofs.Desks.AtEntry.{can_measure, letters_there, loaded, measured, to_entry, to_letters}
use Rattle.concordance.proofs.Desks.Instructions.{Loads}
use Rattle.concordance.proofs.Shown.{all_registers}

module _ (a b : Seated) (e : Note) (before : Value) (is : IsEntry (desk_of a).number (desk_of a).records (desk_register (desk_of a) HERE) e before) (one : desk_of b ≡ desk_after (desk_of a) (Ld LETTERS HERE (operands.Number 0))) where
  it_loads : Loads (desk_of a) LETTERS is.letters (desk_of b)
  it_loads = loaded (desk_of a) (all_registers a) HERE (entry_record is.letters is.line is.left is.right before) (to_entry (desk_of a) (desk_register (desk_of a) HERE) e before is) 0 LETTERS is.letters (desk_of b) (omega arith) refl one

  letters_loaded : IsLetters (desk_of b).number (desk_of b).records (desk_register (desk_of b) LETTERS) e.word
  letters_loaded = letters_there (desk_of a) (desk_of b) is.letters (desk_register (desk_of b) LETTERS) e.word it_loads.number it_loads.records it_loads.taken is.word

  pub can_count : CanDo (desk_of b) (Len NUMBER LETTERS)
  can_count = can_measure (desk_of b) (all_registers b) LETTERS (letters_record e.word) (to_letters (desk_of b) (desk_register (desk_of b) LETTERS) e.word letters_loaded) 0 NUMBER

  module _ (d : Seated) (two : desk_of d ≡ desk_after (desk_of b) (Len NUMBER LETTERS)) where
    pub counted : Loads (desk_of b) NUMBER (Number (length e.word)) (desk_of d)
    counted = measured (desk_of b) (all_registers b) LETTERS (letters_record e.word) (to_letters (desk_of b) (desk_register (desk_of b) LETTERS) e.word letters_loaded) 0 NUMBER (length e.word) (desk_of d) (omega arith) (length-map e.word Number) two

    pub letters_counted : IsLetters (desk_of d).number (desk_of d).records (desk_register (desk_of d) LETTERS) e.word
    letters_counted = letters_there (desk_of b) (desk_of d) (desk_register (desk_of b) LETTERS) (desk_register (desk_of d) LETTERS) e.word counted.number counted.records (counted.others LETTERS (λ same. absurd (omega arith))) letters_loaded
