-- Letters that are compared with a word, one by one.
use Rattle.std.proofs.Common.{◌≡◌, ℕ, List, get_or, refl, ◌∙◌, arith}
use Rattle.plain_state.specs.declared.value.Value.{Value}
use Rattle.plain_state.specs.declared.value.Value.TheVariants.{Number}
use Rattle.mutator_asm.specs.declared.instr.Instr.TheVariants.{Ld}
use Rattle.mutator_asm.specs.declared.operand.Operand.TheVariants as operands
use Rattle.concordance.specs.Desk.{desk_after, desk_register}
use Rattle.ael_threads.specs.Seats.{Seated}
use Rattle.concordance.specs.Lone.{IsLone, KeepsSeat, desk_of}
use Rattle.concordance.specs.Notes.Desks.{for_number}
use Rattle.concordance.specs.Notes.Records.{IsLetters, letters_record}
use Rattle.concordance.specs.declared.registers.TheConstants.{LETTERS, NUMBER}
use Rattle.concordance.proofs.Desks.AtEntry.{letters_there, loaded, to_letters}
use Rattle.concordance.proofs.Desks.Instructions.{changes_then, loads, loads_change}
use Rattle.concordance.proofs.Desks.Seats.{StaysWith, seat_then}
use Rattle.concordance.proofs.Lists.Letters.{letter_at}
use Rattle.concordance.proofs.Shown.{all_registers}

module _ (a s t : Seated) (place : ℕ) (stays : StaysWith for_number a s) (taken : desk_of t ≡ desk_after (desk_of s) (Ld NUMBER LETTERS (operands.Number place))) where
  pub stays_on : KeepsSeat s t → IsLone t → StaysWith for_number a t
  stays_on same lone =
      let l = loads (desk_of s) NUMBER _ (desk_of t) (all_registers s) (omega arith) taken in
      record {
        same = seat_then a s t stays.same same;
        lone = lone;
        records = l.records ∙ stays.records;
        others = changes_then for_number (desk_of a) (desk_of s) (desk_of t) stays.others (loads_change for_number (desk_of s) NUMBER _ (desk_of t) refl l);
      }

  pub compared : (letters : List ℕ) → IsLetters (desk_of a).number (desk_of a).records (desk_register (desk_of a) LETTERS) letters → desk_register (desk_of t) NUMBER ≡ Number (get_or letters place 0)
  compared letters is =
      let here = letters_there (desk_of a) (desk_of s) (desk_register (desk_of a) LETTERS) (desk_register (desk_of s) LETTERS) letters stays.others.number stays.records (stays.others.registers LETTERS refl) is in
      (loaded (desk_of s) (all_registers s) LETTERS (letters_record letters) (to_letters (desk_of s) (desk_register (desk_of s) LETTERS) letters here) place NUMBER (Number (get_or letters place 0)) (desk_of t) (omega arith) (letter_at letters place) taken).taken

pub same_number : (n k : ℕ) → ◌≡◌ {A = Value} (Number n) (Number k) → n ≡ k
same_number n k e = cc
