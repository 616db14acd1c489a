-- What a clerk's registers and its serial show of its desk.
use Rattle.std.proofs.Common.{◌≡◌, ℕ, ◌<◌, List, length, Option, Some, None, slice_get, slice_index, slice_index_or, refl, ap, sym, ◌∙◌, subst}
use Rattle.std.specs.Option.{unwrap_or}
use Rattle.std.proofs.lemmas.Option.{get_or_from_slice_get, slice_get-get_or, unwrap_or-slice_get}
use Rattle.heap_words.specs.Decoded.{NumberWord, PointerWord, decode}
use Rattle.plain_state.specs.declared.sizes.TheConstants.{REGISTERS}
use Rattle.plain_state.specs.declared.value.Identity.{Identity}
use Rattle.plain_state.specs.declared.value.Value.TheVariants.{Number, Reference}
use Rattle.plain_state.specs.State.{Mutator, Record}
use Rattle.plain_heap.specs.Order.{fresh}
use Rattle.ael_threads.specs.Alone.{alone_history}
use Rattle.ael_threads.specs.Readers.{IsThere}
use Rattle.ael_threads.specs.Seats.{IsShown, Seated, ShowsSeen, first_number, first_own, plain_after_seen}
use Rattle.concordance.specs.Desk.{desk_register}
use Rattle.concordance.specs.Lone.{IsLone, alone_by, desk_of}
use Rattle.concordance.proofs.Lone.{same_alone}
use Rattle.ael_threads.proofs.RegisterCount.{have_registers}

module _ (s : Seated) (lone : IsLone s) (shows : ShowsSeen s.worker s.knows) (there : IsThere s) where
  abbrev n : ℕ
  n = first_number s.knows.hands

  abbrev k : Mutator
  k = slice_index_or (plain_after_seen s.knows).mutators n fresh

  is_there : slice_get (plain_after_seen s.knows).mutators n ≡ Some k
  is_there = slice_get-get_or (plain_after_seen s.knows).mutators n fresh (subst (λ (j : ℕ). j < length (plain_after_seen s.knows).mutators) (sym there.0) there.1)

  shown : IsShown (plain_after_seen s.knows).heap n s.worker k
  shown = shows k is_there

  -- its mutator alone is the same
  alone_is : slice_get (alone_by s).mutators n ≡ Some k
  alone_is = (same_alone s.knows.plan n s.knows.seen (first_own s.knows.hands) lone.mine lone.legal lone.leaves).mutator ∙ is_there

  mutator_is : slice_index_or (alone_by s).mutators n fresh ≡ k
  mutator_is = get_or_from_slice_get (alone_by s).mutators n k fresh alone_is

  register_is : (r : ℕ) → desk_register (desk_of s) r ≡ slice_index_or k.registers r (Number 0)
  unfolding desk_of
  register_is r = ap (λ (q : Mutator). slice_index_or q.registers r (Number 0)) mutator_is

  number_shown : (r w : ℕ) → r < REGISTERS → decode (slice_index s.worker.registers r) ≡ NumberWord w → desk_register (desk_of s) r ≡ Number w
  number_shown r w below is = register_is r ∙ get_or_from_slice_get k.registers r (Number w) (Number 0) (shown.registers.numbers r w below is)

  pointer_shown : (r address : ℕ) → r < REGISTERS → decode (slice_index s.worker.registers r) ≡ PointerWord address → (i : Identity) × (desk_register (desk_of s) r ≡ Reference i)
  pointer_shown r address below is =
      let leads = shown.registers.pointers r address below is in
      (leads.0, register_is r ∙ get_or_from_slice_get k.registers r (Reference leads.0) (Number 0) leads.1)

  serial_shown : s.worker.account.serial ≡ length (desk_of s).records
  unfolding desk_of
  serial_shown = shown.serial ∙ ap (λ (rs : List Record). length rs) (sym (same_alone s.knows.plan n s.knows.seen (first_own s.knows.hands) lone.mine lone.legal lone.leaves).records)

-- ---- as they are read of the seat in a clerk

module _ (x s : Seated) (same : x ≡ s) (lone : IsLone s) (shows : ShowsSeen x.worker x.knows) (there : IsThere x) where
  pub number_read : (r w : ℕ) → r < REGISTERS → decode (slice_index x.worker.registers r) ≡ NumberWord w → desk_register (desk_of s) r ≡ Number w
  number_read r w below is = subst (λ (t : Seated). IsLone t → desk_register (desk_of t) r ≡ Number w) same (λ here. number_shown x here shows there r w below is) lone

  pub pointer_read : (r address : ℕ) → r < REGISTERS → decode (slice_index x.worker.registers r) ≡ PointerWord address → (i : Identity) × (desk_register (desk_of s) r ≡ Reference i)
  pointer_read r address below is = subst (λ (t : Seated). IsLone t → (i : Identity) × (desk_register (desk_of t) r ≡ Reference i)) same (λ here. pointer_shown x here shows there r address below is) lone

  pub serial_read : x.worker.account.serial ≡ length (desk_of s).records
  serial_read = subst (λ (t : Seated). IsLone t → x.worker.account.serial ≡ length (desk_of t).records) same (λ here. serial_shown x here shows there) lone

-- ---- all registers are there

registers_in : (ks : List Mutator) (n : ℕ) (o : Option Mutator) → slice_get ks n ≡ o → ((k : Mutator) → slice_get ks n ≡ Some k → length k.registers ≡ REGISTERS)
    → length (unwrap_or o fresh).registers ≡ REGISTERS
registers_in ks n (Some k) is have = have k is
registers_in ks n None is have = refl

pub all_registers : (s : Seated) → length (desk_of s).registers ≡ REGISTERS
unfolding desk_of
all_registers s =
    let ks = (alone_by s).mutators in
    let n = first_number s.knows.hands in
    ap (λ (q : Mutator). length q.registers) (sym (unwrap_or-slice_get ks n fresh))
    ∙ registers_in ks n (slice_get ks n) refl (have_registers s.knows.plan.mutators (alone_history (first_own s.knows.hands)) n)
