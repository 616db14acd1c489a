-- An entry that is made of what three registers hold.
use Rattle.std.proofs.Common.{◌≡◌, ℕ, ◌+◌, List, [], ◌∷◌, ◌++◌, length, refl, ap, ◌∙◌, arith}
use Rattle.plain_state.specs.declared.kind.Kind.TheVariants.{Fields}
use Rattle.plain_state.specs.declared.value.Value.TheVariants.{Number}
use Rattle.plain_state.specs.State.{Record}
use Rattle.plain_state.specs.Writing.{with_value, zeros}
use Rattle.concordance.specs.Desk.{MayTake, desk_register, desk_with_record, desk_with_value, desk_with_word, own}
use Rattle.ael_threads.specs.Seats.{Seated}
use Rattle.concordance.specs.Lone.{desk_of}
use Rattle.concordance.specs.Notes.Records.{entry_record}
use Rattle.concordance.specs.declared.registers.TheConstants.{ENTRY, LATEST, LETTERS, LINE}
use Rattle.concordance.proofs.Desks.FreshRecord.{IsFresh, fresh_made, fresh_registers, fresh_stores, fresh_takes}
use Rattle.concordance.proofs.Desks.Instructions.{Loads, Makes, loads, makes}
use Rattle.concordance.proofs.Shown.{all_registers}

module _ (a b : Seated) (made : desk_of b ≡ desk_with_record (desk_of a) Fields ENTRY 5) where
  abbrev base : List Record
  base = (desk_of a).records

  it_makes : Makes (desk_of a) Fields ENTRY 5 (desk_of b)
  it_makes = makes (desk_of a) Fields ENTRY 5 (desk_of b) (all_registers a) (omega arith) made

  first : IsFresh base (zeros Fields 5) ENTRY (desk_of b)
  first = fresh_made (desk_of a) Fields ENTRY 5 (desk_of b) it_makes

  -- the letters
  pub takes_letters : MayTake (desk_of b) (desk_register (desk_of b) ENTRY) 0 (desk_register (desk_of b) LETTERS)
  takes_letters = fresh_takes base (zeros Fields 5) ENTRY (desk_of b) first 0 (desk_register (desk_of b) LETTERS) (omega arith) refl

  module _ (c : Seated) (one : desk_of c ≡ desk_with_word (desk_of b) (desk_register (desk_of b) ENTRY) 0 (desk_register (desk_of b) LETTERS)) where
    abbrev with_letters : Record
    with_letters = with_value (zeros Fields 5) 0 (desk_register (desk_of b) LETTERS)

    second : IsFresh base with_letters ENTRY (desk_of c)
    second = fresh_stores base (zeros Fields 5) ENTRY (desk_of b) first 0 (desk_register (desk_of b) LETTERS) (desk_of c) one

    -- the line
    pub takes_line : MayTake (desk_of c) (desk_register (desk_of c) ENTRY) 1 (desk_register (desk_of c) LINE)
    takes_line = fresh_takes base with_letters ENTRY (desk_of c) second 1 (desk_register (desk_of c) LINE) (omega arith) refl

    module _ (d : Seated) (two : desk_of d ≡ desk_with_word (desk_of c) (desk_register (desk_of c) ENTRY) 1 (desk_register (desk_of c) LINE)) where
      abbrev with_lines : Record
      with_lines = with_value with_letters 1 (desk_register (desk_of c) LINE)

      third : IsFresh base with_lines ENTRY (desk_of d)
      third = fresh_stores base with_letters ENTRY (desk_of c) second 1 (desk_register (desk_of c) LINE) (desk_of d) two

      -- the entry that was made before
      pub takes_latest : MayTake (desk_of d) (desk_register (desk_of d) ENTRY) 4 (desk_register (desk_of d) LATEST)
      takes_latest = fresh_takes base with_lines ENTRY (desk_of d) third 4 (desk_register (desk_of d) LATEST) (omega arith) refl

      module _ (e : Seated) (three : desk_of e ≡ desk_with_word (desk_of d) (desk_register (desk_of d) ENTRY) 4 (desk_register (desk_of d) LATEST)) (f : Seated) (four : desk_of f ≡ desk_with_value (desk_of e) LATEST (desk_register (desk_of e) ENTRY)) where
        fourth : IsFresh base (with_value with_lines 4 (desk_register (desk_of d) LATEST)) ENTRY (desk_of e)
        fourth = fresh_stores base with_lines ENTRY (desk_of d) third 4 (desk_register (desk_of d) LATEST) (desk_of e) three

        last : Loads (desk_of e) LATEST (desk_register (desk_of e) ENTRY) (desk_of f)
        last = loads (desk_of e) LATEST (desk_register (desk_of e) ENTRY) (desk_of f) (all_registers e) (omega arith) four

        register_c : (n : ℕ) → desk_register (desk_of c) n ≡ desk_register (desk_of b) n
        register_c = fresh_registers base (zeros Fields 5) ENTRY (desk_of b) first 0 (desk_register (desk_of b) LETTERS) (desk_of c) one

        register_d : (n : ℕ) → desk_register (desk_of d) n ≡ desk_register (desk_of c) n
        register_d = fresh_registers base with_letters ENTRY (desk_of c) second 1 (desk_register (desk_of c) LINE) (desk_of d) two

        register_e : (n : ℕ) → desk_register (desk_of e) n ≡ desk_register (desk_of d) n
        register_e = fresh_registers base with_lines ENTRY (desk_of d) third 4 (desk_register (desk_of d) LATEST) (desk_of e) three

        letters_same : desk_register (desk_of b) LETTERS ≡ desk_register (desk_of a) LETTERS
        letters_same = it_makes.others LETTERS (λ same. absurd (omega arith))

        line_same : desk_register (desk_of c) LINE ≡ desk_register (desk_of a) LINE
        line_same = register_c LINE ∙ it_makes.others LINE (λ same. absurd (omega arith))

        latest_same : desk_register (desk_of d) LATEST ≡ desk_register (desk_of a) LATEST
        latest_same = register_d LATEST ∙ (register_c LATEST ∙ it_makes.others LATEST (λ same. absurd (omega arith)))

        pub made_entry : (desk_of f).records ≡ base ++ entry_record (desk_register (desk_of a) LETTERS) (desk_register (desk_of a) LINE) (Number 0) (Number 0) (desk_register (desk_of a) LATEST) ∷ []
        made_entry =
            last.records
            ∙ (fourth.records
            ∙ (ap (λ v. base ++ entry_record v (desk_register (desk_of c) LINE) (Number 0) (Number 0) (desk_register (desk_of d) LATEST) ∷ []) letters_same
            ∙ (ap (λ v. base ++ entry_record (desk_register (desk_of a) LETTERS) v (Number 0) (Number 0) (desk_register (desk_of d) LATEST) ∷ []) line_same
            ∙ ap (λ v. base ++ entry_record (desk_register (desk_of a) LETTERS) (desk_register (desk_of a) LINE) (Number 0) (Number 0) v ∷ []) latest_same)))

        leads : desk_register (desk_of e) ENTRY ≡ own (desk_of a).number (length base + 1)
        leads = register_e ENTRY ∙ (register_d ENTRY ∙ (register_c ENTRY ∙ it_makes.taken))

        pub entry_leads : desk_register (desk_of f) ENTRY ≡ own (desk_of a).number (length base + 1)
        entry_leads = last.others ENTRY (λ same. absurd (omega arith)) ∙ leads

        pub latest_leads : desk_register (desk_of f) LATEST ≡ own (desk_of a).number (length base + 1)
        latest_leads = last.taken ∙ leads
