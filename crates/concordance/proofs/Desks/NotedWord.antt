-- A word that is noted by its three records, after the search found no entry.
use Rattle.std.proofs.Common.{◌≡◌, ℕ, ◌+◌, ◌≤◌, Bool, List, [], ◌∷◌, ◌++◌, length, refl, sym, ap, ◌∙◌, arith}
use Rattle.std.proofs.lemmas.List.{length-append}
use Rattle.std.proofs.Math.ListN.{length-set}
use Rattle.plain_state.specs.declared.value.Value.TheVariants.{Number}
use Rattle.plain_state.specs.State.{Record, at_serial}
use Rattle.concordance_text.specs.declared.letters.TheConstants.{MOST_LETTERS}
use Rattle.concordance_text.specs.Words.{Mention, mention}
use Rattle.concordance.specs.Desk.{LeadsTo, MayTake, desk_register, desk_with_value, desk_with_word, own}
use Rattle.ael_threads.specs.Seats.{Seated}
use Rattle.concordance.specs.Lone.{desk_of}
use Rattle.concordance.specs.Notes.Desks.{ChangesAtMost, HasNoted, HasNotedJust, for_entry, for_finding}
use Rattle.concordance.specs.Notes.Making.{new_records}
use Rattle.concordance.specs.Notes.Paths.{side}
use Rattle.concordance.specs.Notes.Places.{PathEndsAt, HasNone}
use Rattle.concordance.specs.Notes.Records.{Note, entry_record}
use Rattle.concordance.specs.declared.registers.TheConstants.{ENTRY, FIRST, HERE, LATEST}
use Rattle.concordance.proofs.Desks.Instructions.{Stores, loads, stores}
use Rattle.concordance.proofs.Desks.Noting.{first_noted, side_noted, still_noted}
use Rattle.concordance.proofs.Desks.Searched.{side_within}
use Rattle.concordance.proofs.Lists.Serials.{at_front}
use Rattle.concordance.proofs.Notes.Keeping.{HasEntry, entry_of}
use Rattle.concordance.proofs.Shown.{all_registers}

-- before the search, after it, and with the records
module _ (a b c : Seated) (word : List ℕ) (line : ℕ) (short : length word ≤ MOST_LETTERS) (same : (desk_of b).records ≡ (desk_of a).records) (search : ChangesAtMost for_finding (desk_of a) (desk_of b))
    (made : (desk_of c).records ≡ (desk_of b).records ++ new_records (desk_of b).number (length (desk_of b).records) (desk_register (desk_of b) LATEST) word line)
    (to_entry : desk_register (desk_of c) ENTRY ≡ own (desk_of b).number (length (desk_of b).records + 3)) (to_latest : desk_register (desk_of c) LATEST ≡ own (desk_of b).number (length (desk_of b).records + 3))
    (change : ChangesAtMost for_entry (desk_of b) (desk_of c)) (notes : List Note) (noted : List Mention) (holds : HasNoted (desk_of a) notes noted) (none : HasNone notes word) where
  abbrev holds_still : HasNoted (desk_of b) notes noted
  holds_still = still_noted (desk_of a) (desk_of b) notes noted same search holds

  abbrev more : List Record
  more = new_records (desk_of b).number (length (desk_of b).records) (desk_register (desk_of b) LATEST) word line

  count_c : length (desk_of c).records ≡ length (desk_of a).records + 3
  count_c =
      let e = ap (λ (rs : List Record). length rs) made ∙ length-append (desk_of b).records more in
      let f = ap (λ (rs : List Record). length rs) same in
      omega (arith, e, f)

  -- the first of all
  pub noted_first : (d : Seated) → desk_register (desk_of b) FIRST ≡ Number 0 → desk_of d ≡ desk_with_value (desk_of c) FIRST (desk_register (desk_of c) ENTRY) → HasNotedJust (desk_of d) (noted ++ mention word line ∷ [])
  noted_first d empty is =
      let l = loads (desk_of c) FIRST (desk_register (desk_of c) ENTRY) (desk_of d) (all_registers c) (omega arith) is in
      first_noted (desk_of b) (desk_of c) notes noted holds_still word line short none made to_latest to_entry change (desk_of d) empty l.number l.records l.taken (l.others LATEST (λ same. absurd (omega arith)))

  -- at the entry where its path ended
  module _ (right : Bool) (at : PathEndsAt (desk_of b).number (desk_of b).records (desk_register (desk_of b) FIRST) notes word (desk_register (desk_of b) HERE) right) where
    abbrev entry : HasEntry (desk_of b).number (desk_of b).records at.note
    entry = entry_of (desk_of b).number (desk_of b).records (desk_register (desk_of b) LATEST) notes at.note holds_still.kept.entries at.noted

    abbrev here : Record
    here = entry_record entry.is.letters entry.is.line entry.is.left entry.is.right entry.before

    abbrev to_here : LeadsTo (desk_of c) (desk_register (desk_of c) HERE) here
    to_here = record {
      serial = at.note.serial;
      is = change.registers HERE refl ∙ (at.is ∙ ap (λ (n : ℕ). own n at.note.serial) (sym change.number));
      found = ap (λ (rs : List Record). at_serial rs at.note.serial) made ∙ at_front (desk_of b).records more at.note.serial here entry.is.entry;
    }

    pub takes_entry : MayTake (desk_of c) (desk_register (desk_of c) HERE) (side right) (desk_register (desk_of c) ENTRY)
    takes_entry = record { found = here; leads = to_here; within = side_within right; holds = refl }

    module _ (d : Seated) (is : desk_of d ≡ desk_with_word (desk_of c) (desk_register (desk_of c) HERE) (side right) (desk_register (desk_of c) ENTRY)) where
      put : Stores (desk_of c) at.note.serial (side right) (desk_register (desk_of c) ENTRY) (desk_of d)
      put = stores (desk_of c) (desk_register (desk_of c) HERE) here to_here (side right) (desk_register (desk_of c) ENTRY) (desk_of d) is

      pub noted_aside : HasNotedJust (desk_of d) (noted ++ mention word line ∷ [])
      noted_aside = side_noted (desk_of b) (desk_of c) notes noted holds_still word line short none made to_latest to_entry change (desk_of d) (desk_register (desk_of b) HERE) right at put.number put.records (put.registers FIRST) (put.registers LATEST)

      pub three_more : length (desk_of d).records ≡ length (desk_of a).records + 3
      three_more = ap (λ (rs : List Record). length rs) put.records.later_is ∙ (length-set (desk_of c).records _ _ ∙ count_c)
