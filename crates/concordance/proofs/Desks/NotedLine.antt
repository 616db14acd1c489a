-- A line that is noted at the entry of its word.
use Rattle.std.proofs.Common.{◌≡◌, ◌≢◌, ℕ, ◌+◌, List, [], ◌∷◌, ◌++◌, length, refl, sym, ap, ap₂, ◌∙◌, subst, arith}
use Rattle.std.proofs.lemmas.List.{length-append}
use Rattle.std.proofs.Math.ListN.{length-set}
use Rattle.plain_state.specs.declared.value.Value.{Value}
use Rattle.plain_state.specs.declared.value.Value.TheVariants.{Number}
use Rattle.plain_state.specs.State.{Record, at_serial}
use Rattle.mutator_asm.specs.declared.instr.Instr.TheVariants.{Ld}
use Rattle.mutator_asm.specs.declared.operand.Operand.TheVariants as operands
use Rattle.concordance_text.specs.Words.{Mention, mention}
use Rattle.concordance.specs.Desk.{CanDo, LeadsTo, MayTake, desk_after, desk_register, desk_with_word, own}
use Rattle.ael_threads.specs.Seats.{Seated}
use Rattle.concordance.specs.Lone.{desk_of}
use Rattle.concordance.specs.Notes.Desks.{ChangesAtMost, HasNoted, HasNotedJust, for_line}
use Rattle.concordance.specs.Notes.Invariant.{NoneIsLater}
use Rattle.concordance.specs.Notes.Making.{StoresIn}
use Rattle.concordance.specs.Notes.Places.{IsEntryOf}
use Rattle.concordance.specs.Notes.Records.{Note, entry_record, line_record}
use Rattle.concordance.specs.declared.registers.TheConstants.{FIRST, HERE, LATEST, LINE, NEXT, NUMBER}
use Rattle.concordance.proofs.Desks.AtEntry.{can_load, loaded}
use Rattle.concordance.proofs.Desks.ComparedLetters.{same_number}
use Rattle.concordance.proofs.Desks.FreshRecord.{IsFresh, fresh_number, fresh_registers, fresh_stores, fresh_takes}
use Rattle.concordance.proofs.Desks.Instructions.{Loads, Stores, stores}
use Rattle.concordance.proofs.Desks.Noting.{LatestLine, again_noted, entry_here, line_here, line_noted}
use Rattle.concordance.proofs.Lists.Serials.{at_front}
use Rattle.concordance.proofs.Notes.Keeping.{HasEntry}
use Rattle.concordance.proofs.Shown.{all_registers}

module _ (a : Seated) (notes : List Note) (noted : List Mention) (word : List ℕ) (holds : HasNoted (desk_of a) notes noted) (at : IsEntryOf (desk_of a).number notes word (desk_register (desk_of a) HERE)) where
  abbrev base : List Record
  base = (desk_of a).records

  abbrev m : ℕ
  m = (desk_of a).number

  abbrev serial : ℕ
  serial = at.note.serial

  abbrev entry : HasEntry m base at.note
  entry = entry_here (desk_of a) notes noted holds word at

  abbrev latest : LatestLine m base entry.is.line at.note.lines
  latest = line_here (desk_of a) notes noted holds word at

  abbrev here : Record
  here = entry_record entry.is.letters entry.is.line entry.is.left entry.is.right entry.before

  leads : LeadsTo (desk_of a) (desk_register (desk_of a) HERE) here
  leads = record { serial = serial; is = at.is; found = entry.is.entry }

  pub can_load_line : CanDo (desk_of a) (Ld NEXT HERE (operands.Number 1))
  can_load_line = can_load (desk_of a) (all_registers a) HERE here leads 1 NEXT (omega arith) refl

  -- its latest line is loaded
  module _ (b : Seated) (one : desk_of b ≡ desk_after (desk_of a) (Ld NEXT HERE (operands.Number 1))) where
    line_loaded : Loads (desk_of a) NEXT entry.is.line (desk_of b)
    line_loaded = loaded (desk_of a) (all_registers a) HERE here leads 1 NEXT entry.is.line (desk_of b) (omega arith) refl one

    abbrev before : Record
    before = line_record (Number latest.number) latest.before

    to_before : LeadsTo (desk_of b) (desk_register (desk_of b) NEXT) before
    to_before = record {
      serial = latest.is.serial;
      is = line_loaded.taken ∙ (latest.is.is ∙ ap (λ (n : ℕ). own n latest.is.serial) (sym line_loaded.number));
      found = ap (λ (rs : List Record). at_serial rs latest.is.serial) line_loaded.records ∙ latest.is.line;
    }

    pub can_load_number : CanDo (desk_of b) (Ld NUMBER NEXT (operands.Number 0))
    can_load_number = can_load (desk_of b) (all_registers b) NEXT before to_before 0 NUMBER (omega arith) refl

    -- and its number
    module _ (c : Seated) (two : desk_of c ≡ desk_after (desk_of b) (Ld NUMBER NEXT (operands.Number 0))) where
      number_loaded : Loads (desk_of b) NUMBER (Number latest.number) (desk_of c)
      number_loaded = loaded (desk_of b) (all_registers b) NEXT before to_before 0 NUMBER (Number latest.number) (desk_of c) (omega arith) refl two

      number_c : (desk_of c).number ≡ m
      number_c = number_loaded.number ∙ line_loaded.number

      pub records_c : (desk_of c).records ≡ base
      records_c = number_loaded.records ∙ line_loaded.records

      stays_c : (r : ℕ) → r ≢ NEXT → r ≢ NUMBER → desk_register (desk_of c) r ≡ desk_register (desk_of a) r
      stays_c r not_next not_number = number_loaded.others r not_number ∙ line_loaded.others r not_next

      first_c : desk_register (desk_of c) FIRST ≡ desk_register (desk_of a) FIRST
      first_c = stays_c FIRST (λ same. absurd (omega arith)) (λ same. absurd (omega arith))

      latest_c : desk_register (desk_of c) LATEST ≡ desk_register (desk_of a) LATEST
      latest_c = stays_c LATEST (λ same. absurd (omega arith)) (λ same. absurd (omega arith))

      pub noted_again : (line : ℕ) → desk_register (desk_of c) NUMBER ≡ Number line → HasNotedJust (desk_of c) (noted ++ mention word line ∷ [])
      noted_again line is = again_noted (desk_of a) notes noted holds word at (desk_of c) line (same_number _ _ (sym number_loaded.taken ∙ is)) number_c records_c first_c latest_c

      -- a line is made
      module _ (line : ℕ) (d : Seated) (made : (desk_of d).records ≡ (desk_of c).records ++ line_record (Number line) (Number 0) ∷ []) (to_line : desk_register (desk_of d) LINE ≡ own (desk_of c).number (length (desk_of c).records + 1)) (change : ChangesAtMost for_line (desk_of c) (desk_of d)) where
        abbrev alone : Record
        alone = line_record (Number line) (Number 0)

        number_d : (desk_of d).number ≡ m
        number_d = change.number ∙ number_c

        fresh : IsFresh base alone LINE (desk_of d)
        fresh = record {
          records = made ∙ ap (λ (rs : List Record). rs ++ alone ∷ []) records_c;
          leads = to_line ∙ ap₂ (λ (n : ℕ) (rs : List Record). own n (length rs + 1)) (sym change.number) records_c;
        }

        pub takes_before : MayTake (desk_of d) (desk_register (desk_of d) LINE) 1 (desk_register (desk_of d) NEXT)
        takes_before = fresh_takes base alone LINE (desk_of d) fresh 1 (desk_register (desk_of d) NEXT) (omega arith) refl

        next_d : desk_register (desk_of d) NEXT ≡ entry.is.line
        next_d = change.registers NEXT refl ∙ (number_loaded.others NEXT (λ same. absurd (omega arith)) ∙ line_loaded.taken)

        here_d : desk_register (desk_of d) HERE ≡ desk_register (desk_of a) HERE
        here_d = change.registers HERE refl ∙ stays_c HERE (λ same. absurd (omega arith)) (λ same. absurd (omega arith))

        -- it leads to the latest one
        module _ (e : Seated) (three : desk_of e ≡ desk_with_word (desk_of d) (desk_register (desk_of d) LINE) 1 (desk_register (desk_of d) NEXT)) where
          abbrev new : Record
          new = line_record (Number line) entry.is.line

          linked : IsFresh base new LINE (desk_of e)
          linked = subst (λ (v : Value). IsFresh base (line_record (Number line) v) LINE (desk_of e)) next_d (fresh_stores base alone LINE (desk_of d) fresh 1 (desk_register (desk_of d) NEXT) (desk_of e) three)

          number_e : (desk_of e).number ≡ m
          number_e = fresh_number base alone LINE (desk_of d) fresh 1 (desk_register (desk_of d) NEXT) (desk_of e) three ∙ number_d

          register_e : (r : ℕ) → desk_register (desk_of e) r ≡ desk_register (desk_of d) r
          register_e = fresh_registers base alone LINE (desk_of d) fresh 1 (desk_register (desk_of d) NEXT) (desk_of e) three

          abbrev to_here : LeadsTo (desk_of e) (desk_register (desk_of e) HERE) here
          to_here = record {
            serial = serial;
            is = register_e HERE ∙ (here_d ∙ (at.is ∙ ap (λ (n : ℕ). own n serial) (sym number_e)));
            found = ap (λ (rs : List Record). at_serial rs serial) linked.records ∙ at_front base (new ∷ []) serial here entry.is.entry;
          }

          pub takes_line : MayTake (desk_of e) (desk_register (desk_of e) HERE) 1 (desk_register (desk_of e) LINE)
          takes_line = record { found = here; leads = to_here; within = omega arith; holds = refl }

          -- and the entry leads to it
          module _ (f : Seated) (four : desk_of f ≡ desk_with_word (desk_of e) (desk_register (desk_of e) HERE) 1 (desk_register (desk_of e) LINE)) where
            put : Stores (desk_of e) serial 1 (desk_register (desk_of e) LINE) (desk_of f)
            put = stores (desk_of e) (desk_register (desk_of e) HERE) here to_here 1 (desk_register (desk_of e) LINE) (desk_of f) four

            leads_e : desk_register (desk_of e) LINE ≡ own m (length base + 1)
            leads_e = linked.leads ∙ ap (λ (n : ℕ). own n (length base + 1)) number_e

            stored : StoresIn (base ++ new ∷ []) serial 1 (own m (length base + 1)) (desk_of f).records
            stored = subst (λ (rs : List Record). StoresIn rs serial 1 (own m (length base + 1)) (desk_of f).records) linked.records
                (subst (λ (v : Value). StoresIn (desk_of e).records serial 1 v (desk_of f).records) leads_e put.records)

            pub line_is_noted : desk_register (desk_of c) NUMBER ≢ Number line → NoneIsLater noted line → HasNotedJust (desk_of f) (noted ++ mention word line ∷ [])
            line_is_noted other none_later = line_noted (desk_of a) notes noted holds word at (desk_of f) line (λ same. other (number_loaded.taken ∙ ap Number same)) none_later (put.number ∙ number_e)
                (put.registers FIRST ∙ (register_e FIRST ∙ (change.registers FIRST refl ∙ first_c))) (put.registers LATEST ∙ (register_e LATEST ∙ (change.registers LATEST refl ∙ latest_c))) stored

            pub one_more : length (desk_of f).records ≡ length base + 1
            one_more = ap (λ (rs : List Record). length rs) stored.later_is ∙ (length-set (base ++ new ∷ []) _ _ ∙ length-append base (new ∷ []))
