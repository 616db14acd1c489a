-- What is read at an entry.
use Rattle.std.proofs.Common.{◌≡◌, ℕ, ◌<◌, false, List, length, get_or, sym, ap, ◌∙◌, subst}
use Rattle.plain_state.specs.declared.sizes.TheConstants.{REGISTERS}
use Rattle.plain_state.specs.declared.value.Value.{Value}
use Rattle.plain_state.specs.declared.value.Value.TheVariants.{Number}
use Rattle.plain_state.specs.State.{Record, at_serial}
use Rattle.mutator_asm.specs.declared.instr.Instr.TheVariants.{Ld, Len}
use Rattle.mutator_asm.specs.declared.operand.Operand.TheVariants as operands
use Rattle.plain_heap.specs.Call.{is_cell}
use Rattle.concordance.specs.Desk.{CanDo, Desk, LeadsTo, desk_after, desk_register, desk_word, own}
use Rattle.concordance.specs.Notes.Records.{IsEntry, IsLetters, Note, entry_record, letters_record}
use Rattle.concordance.proofs.Doing.{values_there, word_there}
use Rattle.concordance.proofs.Desks.Instructions.{Loads, loads}

-- ---- a value of a record

-- a record to which a register leads, and its value x is taken into another
module _ (a : Desk) (count : length a.registers ≡ REGISTERS) (from : ℕ) (r : Record) (leads : LeadsTo a (desk_register a from) r) (x : ℕ) where
  pub can_load : (d : ℕ) → x < length r.values → is_cell r.kind ≡ false → CanDo a (Ld d from (operands.Number x))
  can_load d within no_cell = record { found = r; leads = leads; within = within; no_cell = no_cell }

  pub loaded : (d : ℕ) (v : Value) (b : Desk) → d < REGISTERS → get_or r.values x (Number 0) ≡ v → b ≡ desk_after a (Ld d from (operands.Number x)) → Loads a d v b
  loaded d v b within value is = subst (λ (w : Value). Loads a d w b) (word_there a (desk_register a from) r leads x ∙ value) (loads a d (desk_word a (desk_register a from) x) b count within is)

  pub can_measure : (d : ℕ) → CanDo a (Len d from)
  can_measure d = (r, leads)

  pub measured : (d : ℕ) (n : ℕ) (b : Desk) → d < REGISTERS → length r.values ≡ n → b ≡ desk_after a (Len d from) → Loads a d (Number n) b
  measured d n b within value is =
      subst (λ (w : Value). Loads a d w b) (ap (λ (vs : List Value). Number (length vs)) (values_there a (desk_register a from) r leads) ∙ ap Number value) (loads a d _ b count within is)

-- ---- letters

pub to_letters : (desk : Desk) (v : Value) (word : List ℕ) → IsLetters desk.number desk.records v word → LeadsTo desk v (letters_record word)
to_letters desk v word is = record { serial = is.serial; is = is.is; found = is.letters }

pub to_entry : (desk : Desk) (v : Value) (note : Note) (before : Value) (is : IsEntry desk.number desk.records v note before) → LeadsTo desk v (entry_record is.letters is.line is.left is.right before)
to_entry desk v note before is = record { serial = note.serial; is = is.is; found = is.entry }

-- on a desk with the same records
pub letters_there : (a b : Desk) (v w : Value) (word : List ℕ) → b.number ≡ a.number → b.records ≡ a.records → w ≡ v → IsLetters a.number a.records v word → IsLetters b.number b.records w word
letters_there a b v w word number records same is = record { serial = is.serial; is = same ∙ (is.is ∙ ap (λ (m : ℕ). own m is.serial) (sym number)); letters = ap (λ (rs : List Record). at_serial rs is.serial) records ∙ is.letters }

pub entry_there : (a b : Desk) (v w : Value) (note : Note) (before : Value) → b.number ≡ a.number → b.records ≡ a.records → w ≡ v → IsEntry a.number a.records v note before → IsEntry b.number b.records w note before
entry_there a b v w note before number records same is =
    subst (λ (m : ℕ). IsEntry m b.records w note before) (sym number) (subst (λ (rs : List Record). IsEntry a.number rs w note before) (sym records) (subst (λ (u : Value). IsEntry a.number a.records u note before) (sym same) is))
