-- Letters that are written into a new record, one by one.
use Rattle.std.proofs.Common.{◌≡◌, ℕ, suc, ◌+◌, ◌<◌, List, length, get_or, slice_set, refl, sym, ap, ◌∙◌, subst, arith}
use Rattle.std.specs.Prelude.{IsOk}
use Rattle.plain_state.specs.declared.kind.Kind.TheVariants.{Raw}
use Rattle.plain_state.specs.declared.value.Value.{Value}
use Rattle.plain_state.specs.declared.value.Value.TheVariants.{Number}
use Rattle.plain_state.specs.State.{Record}
use Rattle.plain_heap.specs.Call.{may_hold}
use Rattle.concordance.specs.Desk.{MayTake, desk_register, desk_with_record, desk_with_value, desk_with_word}
use Rattle.ael_threads.specs.Seats.{Seated}
use Rattle.concordance.specs.Lone.{desk_of}
use Rattle.concordance.specs.Notes.Desks.{ChangesAtMost, for_letters}
use Rattle.concordance.specs.Notes.Records.{raw}
use Rattle.concordance.specs.declared.registers.TheConstants.{LETTERS, NUMBER}
use Rattle.concordance.proofs.Desks.FreshRecord.{IsFresh, fresh_leads, fresh_loads, fresh_made, fresh_stores, fresh_takes}
use Rattle.concordance.proofs.Desks.Instructions.{Loads, Makes, changes_then, loads, loads_change, makes, makes_change, stores, stores_change}
use Rattle.concordance.proofs.Lists.Letters.{length_written, none_written, one_written, written}
use Rattle.concordance.proofs.Shown.{all_registers}

module _ (a : Seated) (word : List ℕ) where
  abbrev base : List Record
  base = (desk_of a).records

  -- none is written
  module _ (b : Seated) (made : desk_of b ≡ desk_with_record (desk_of a) Raw LETTERS (length word)) where
    it_makes : Makes (desk_of a) Raw LETTERS (length word) (desk_of b)
    it_makes = makes (desk_of a) Raw LETTERS (length word) (desk_of b) (all_registers a) (omega arith) made

    pub begun : IsFresh base (raw (written word 0)) LETTERS (desk_of b)
    begun = subst (λ (vs : List Value). IsFresh base (raw vs) LETTERS (desk_of b)) (none_written word) (fresh_made (desk_of a) Raw LETTERS (length word) (desk_of b) it_makes)

    pub begun_changes : ChangesAtMost for_letters (desk_of a) (desk_of b)
    begun_changes = makes_change for_letters (desk_of a) Raw LETTERS (length word) (desk_of b) refl it_makes

  -- one more is
  module _ (s t : Seated) (i place letter : ℕ) (is_place : place ≡ i) (is_letter : letter ≡ get_or word i 0) (fresh : IsFresh base (raw (written word i)) LETTERS (desk_of s)) (change : ChangesAtMost for_letters (desk_of a) (desk_of s))
      (set : desk_of t ≡ desk_with_value (desk_of s) NUMBER (Number letter)) where
    it_loads : Loads (desk_of s) NUMBER (Number letter) (desk_of t)
    it_loads = loads (desk_of s) NUMBER (Number letter) (desk_of t) (all_registers s) (omega arith) set

    fresh_still : IsFresh base (raw (written word i)) LETTERS (desk_of t)
    fresh_still = fresh_loads base (raw (written word i)) LETTERS (desk_of s) fresh NUMBER (Number letter) (desk_of t) (λ same. absurd (omega arith)) it_loads

    pub takes_letter : i < length word → MayTake (desk_of t) (desk_register (desk_of t) LETTERS) place (desk_register (desk_of t) NUMBER)
    takes_letter within =
        let n = length_written word i in
        fresh_takes base (raw (written word i)) LETTERS (desk_of t) fresh_still place (desk_register (desk_of t) NUMBER) (omega (arith, n, within, is_place)) (subst (λ (v : Value). IsOk (may_hold Raw place v)) (sym it_loads.taken) refl)

    module _ (u : Seated) (put : desk_of u ≡ desk_with_word (desk_of t) (desk_register (desk_of t) LETTERS) place (desk_register (desk_of t) NUMBER)) where
      values_are : slice_set (written word i) place (desk_register (desk_of t) NUMBER) ≡ written word (i + 1)
      values_are =
          let e : suc i ≡ i + 1 = omega arith in
          ap (λ (p : ℕ). slice_set (written word i) p (desk_register (desk_of t) NUMBER)) is_place
          ∙ (ap (λ (v : Value). slice_set (written word i) i v) (it_loads.taken ∙ ap Number is_letter) ∙ (one_written word i ∙ ap (written word) e))

      pub goes_on : IsFresh base (raw (written word (i + 1))) LETTERS (desk_of u)
      goes_on = subst (λ (vs : List Value). IsFresh base (raw vs) LETTERS (desk_of u)) values_are
          (fresh_stores base (raw (written word i)) LETTERS (desk_of t) fresh_still place (desk_register (desk_of t) NUMBER) (desk_of u) put)

      pub goes_on_changes : ChangesAtMost for_letters (desk_of a) (desk_of u)
      goes_on_changes = changes_then for_letters (desk_of a) (desk_of s) (desk_of u) change
          (changes_then for_letters (desk_of s) (desk_of t) (desk_of u) (loads_change for_letters (desk_of s) NUMBER (Number letter) (desk_of t) refl it_loads)
          (stores_change for_letters (desk_of t) _ place (desk_register (desk_of t) NUMBER) (desk_of u)
          (stores (desk_of t) (desk_register (desk_of t) LETTERS) (raw (written word i)) (fresh_leads base (raw (written word i)) LETTERS (desk_of t) fresh_still) place (desk_register (desk_of t) NUMBER) (desk_of u) put)))
