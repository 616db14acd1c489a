-- A desk on which a word's entry is looked for.
use Rattle.std.proofs.Common.{◌≡◌, ◌≢◌, ℕ, ◌<◌, Bool, true, false, List, Some, refl, sym, ap, ◌∙◌, subst, arith}
use Rattle.plain_state.specs.declared.value.Value.{Value}
use Rattle.plain_state.specs.declared.value.Value.TheVariants.{Number}
use Rattle.plain_state.specs.State.{Record, at_serial}
use Rattle.mutator_asm.specs.declared.instr.Instr.TheVariants.{Ld}
use Rattle.mutator_asm.specs.declared.operand.Operand.TheVariants as operands
use Rattle.concordance_text.specs.Words.{Mention}
use Rattle.concordance.specs.Desk.{CanDo, desk_after, desk_register, own}
use Rattle.ael_threads.specs.Seats.{Seated}
use Rattle.concordance.specs.Lone.{desk_of}
use Rattle.concordance.specs.Notes.Desks.{HasNoted, IsAtEntry}
use Rattle.concordance.specs.Notes.Invariant.{AreKept}
use Rattle.concordance.specs.Notes.Paths.{bits_of, doubled, field_or_zero, is_high, side, turn_from}
use Rattle.concordance.specs.Notes.Places.{PathEndsAt, HasNone, IsEntryOf}
use Rattle.concordance.specs.Notes.Records.{IsEntry, Note, entry_record}
use Rattle.concordance.specs.declared.registers.TheConstants.{FIRST, HERE, LATEST, NEXT}
use Rattle.concordance.proofs.Desks.AtEntry.{can_load, entry_there, loaded, to_entry}
use Rattle.concordance.proofs.Desks.Instructions.{Loads}
use Rattle.concordance.proofs.Notes.Finding.{none_at_all}
use Rattle.concordance.proofs.Notes.Keeping.{HasEntry, entry_of}
use Rattle.concordance.proofs.Notes.Search.{IsOnPath, begins_on_path, ends_here, goes_on}
use Rattle.concordance.proofs.Shown.{all_registers}

pub side_within : (right : Bool) → side right < 5
side_within true = omega arith
side_within false = omega arith

-- the field of an entry is where a turn leads
turn_is : (m : ℕ) (records : List Record) (serial : ℕ) (r : Record) (right : Bool) → at_serial records serial ≡ Some r → field_or_zero (Some r) (side right) ≡ turn_from records (own m serial) right
turn_is m records serial r right there = ap (λ o. field_or_zero o (side right)) (sym there)

module _ (a : Seated) (notes : List Note) (noted : List Mention) (holds : HasNoted (desk_of a) notes noted) (word : List ℕ) where
  abbrev m : ℕ
  m = (desk_of a).number

  abbrev records : List Record
  records = (desk_of a).records

  abbrev first : Value
  first = desk_register (desk_of a) FIRST

  abbrev latest : Value
  latest = desk_register (desk_of a) LATEST

  -- there is no entry
  pub none_found : first ≡ Number 0 → HasNone notes word
  none_found is = subst (λ (es : List Note). HasNone es word) (sym (none_at_all m records latest notes (subst (λ (v : Value). AreKept m records v latest notes) is holds.kept))) tt

  -- it begins at the first
  pub begins_there : (v : Value) (bits : ℕ) → first ≢ Number 0 → v ≡ first → bits ≡ bits_of word → IsOnPath m records first notes word v bits
  begins_there v bits some is bits_are =
      subst (λ (w : Value). IsOnPath m records first notes word w bits) (sym is)
      (subst (IsOnPath m records first notes word first) (sym bits_are) (begins_on_path m records first latest notes holds.kept word some))

  -- at an entry
  module _ (s : Seated) (bits : ℕ) (number : (desk_of s).number ≡ m) (same : (desk_of s).records ≡ records) (on : IsOnPath m records first notes word (desk_register (desk_of s) HERE) bits) where
    abbrev here : Value
    here = desk_register (desk_of s) HERE

    pub its_entry : HasEntry m records on.note
    its_entry = entry_of m records latest notes on.note holds.kept.entries on.noted

    pub entry_here : (h : HasEntry m records on.note) → IsEntry (desk_of s).number (desk_of s).records here on.note h.before
    entry_here h = entry_there (desk_of a) (desk_of s) (own m on.note.serial) here on.note h.before number same on.is h.is

    pub is_at_entry : IsAtEntry (desk_of s)
    is_at_entry = record { note = on.note; before = its_entry.before; is = entry_here its_entry }

    -- it is of the word
    pub found_here : (n : ℕ) (v : Value) → n ≡ m → v ≡ here → on.note.word ≡ word → IsEntryOf n notes word v
    found_here n v is_n is_v of_word = record { note = on.note; noted = on.noted; word_is = of_word; is = is_v ∙ (on.is ∙ ap (λ (k : ℕ). own k on.note.serial) (sym is_n)) }

    -- it is of another
    pub can_turn : (right : Bool) → CanDo (desk_of s) (Ld NEXT HERE (operands.Number (side right)))
    can_turn right = let e = entry_here its_entry in can_load (desk_of s) (all_registers s) HERE (entry_record e.letters e.line e.left e.right its_entry.before) (to_entry (desk_of s) here on.note its_entry.before e) (side right) NEXT (side_within right) refl

    pub turns : (right : Bool) (u : Seated) → desk_of u ≡ desk_after (desk_of s) (Ld NEXT HERE (operands.Number (side right))) → Loads (desk_of s) NEXT (turn_from records (own m on.note.serial) right) (desk_of u)
    turns right u is =
        let e = entry_here its_entry in
        loaded (desk_of s) (all_registers s) HERE (entry_record e.letters e.line e.left e.right its_entry.before) (to_entry (desk_of s) here on.note its_entry.before e) (side right) NEXT (turn_from records (own m on.note.serial) right) (desk_of u) (omega arith)
        (turn_is m records on.note.serial (entry_record e.letters e.line e.left e.right its_entry.before) right (ap (λ (rs : List Record). at_serial rs on.note.serial) (sym same) ∙ e.entry)) is

    pub ends_there : on.note.word ≢ word → (right : Bool) → right ≡ is_high bits → turn_from records (own m on.note.serial) right ≡ Number 0 → (n : ℕ) (rs : List Record) (start v : Value) → n ≡ m → rs ≡ records → start ≡ first → v ≡ here
        → HasNone notes word × PathEndsAt n rs start notes word v right
    ends_there other right turn none n rs start v is_n is_rs is_start is_v =
        subst (λ (k : ℕ). HasNone notes word × PathEndsAt k rs start notes word v right) (sym is_n)
        (subst (λ (qs : List Record). HasNone notes word × PathEndsAt m qs start notes word v right) (sym is_rs)
        (subst (λ (w : Value). HasNone notes word × PathEndsAt m records w notes word v right) (sym is_start)
        (subst (λ (w : Value). HasNone notes word × PathEndsAt m records first notes word w right) (sym is_v)
        (subst (λ (b : Bool). HasNone notes word × PathEndsAt m records first notes word here b) (sym turn)
        (ends_here m records first latest notes holds.kept word here bits on other (ap (turn_from records (own m on.note.serial)) (sym turn) ∙ none))))))

    pub goes_there : on.note.word ≢ word → (right : Bool) → right ≡ is_high bits → turn_from records (own m on.note.serial) right ≢ Number 0 → (v : Value) (rest : ℕ) → v ≡ turn_from records (own m on.note.serial) right → rest ≡ doubled bits
        → IsOnPath m records first notes word v rest
    goes_there other right turn some v rest is_v is_rest =
        subst (λ (w : Value). IsOnPath m records first notes word w rest) (sym (is_v ∙ ap (turn_from records (own m on.note.serial)) turn))
        (subst (IsOnPath m records first notes word (turn_from records (own m on.note.serial) (is_high bits))) (sym is_rest)
        (goes_on m records first latest notes holds.kept word here bits on other (λ e. some (ap (turn_from records (own m on.note.serial)) turn ∙ e))))
