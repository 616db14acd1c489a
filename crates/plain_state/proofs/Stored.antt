-- The plain heap of which one word changes.
use Rattle.std.proofs.Common.{◌≡◌, ◌≢◌, ℕ, ◌-◌, ◌<◌, ◌≤◌, List, [], length, Some, slice_set, refl, ap, arith, get_or-set_same, get_or-set_other, ⊎_elim}
use Rattle.std.proofs.Math.ListN.{length-set}
use Rattle.std.proofs.lemmas.Bool.{cases_eq, cases_lt}
use Rattle.std.proofs.lemmas.List.{get_or_past}
use Rattle.plain_state.specs.State.{Record, Heap, made_by, record_of, serial_of, IsMade}
use Rattle.plain_state.specs.declared.value.Identity.{Identity}
use Rattle.plain_state.specs.declared.value.Value.{Value}
use Rattle.plain_state.specs.Writing.{stored, with_value}
use Rattle.plain_state.proofs.Elements.{at_serial_within, at_serial-set_same, at_serial-set_other}

-- an identity that has a record is one of a mutator that there is
pub maker_within : (heap : Heap) (i : Identity) (r : Record) → record_of heap i ≡ Some r → i.mutator < length heap.records
maker_within heap i r e = ⊎_elim
    (λ (l : i.mutator < length heap.records). l)
    (λ (l : length heap.records ≤ i.mutator). absurd (
    let w = at_serial_within (made_by heap i.mutator) i.serial r e in
    let n : made_by heap i.mutator ≡ [] = get_or_past heap.records i.mutator [] l in
    let z : length (made_by heap i.mutator) ≡ 0 = ap length n in
    omega arith))
    (cases_lt i.mutator (length heap.records))

module _ (heap : Heap) (i : Identity) (r : Record) (x : ℕ) (y : Value) (is : record_of heap i ≡ Some r) where
  abbrev changed : List Record
  changed = slice_set (made_by heap i.mutator) (i.serial - 1) (with_value r x y)

  made_same : made_by (stored heap i r x y) i.mutator ≡ changed
  made_same = get_or-set_same heap.records i.mutator changed [] (maker_within heap i r is)

  made_other : (m : ℕ) → m ≢ i.mutator → made_by (stored heap i r x y) m ≡ made_by heap m
  made_other m d = get_or-set_other heap.records i.mutator m changed [] d

  pub stored_there : record_of (stored heap i r x y) i ≡ Some (with_value r x y)
  stored_there =
      let w = at_serial_within (made_by heap i.mutator) i.serial r is in
      rw made_same (at_serial-set_same (made_by heap i.mutator) i.serial (with_value r x y) w.0 w.1)

  pub stored_elsewhere : (j : Identity) → (j.mutator ≡ i.mutator → j.serial ≢ i.serial) → record_of (stored heap i r x y) j ≡ record_of heap j
  stored_elsewhere j apart = ⊎_elim
      (λ (e : j.mutator ≡ i.mutator). rw (e, made_same) (at_serial-set_other (made_by heap i.mutator) i.serial j.serial (with_value r x y) (apart e) (at_serial_within (made_by heap i.mutator) i.serial r is).0))
      (λ (d : j.mutator ≢ i.mutator). rw (made_other j.mutator d) refl)
      (cases_eq j.mutator i.mutator)

  pub stored_serial : (m : ℕ) → serial_of (stored heap i r x y) m ≡ serial_of heap m
  stored_serial m = ⊎_elim
      (λ (e : m ≡ i.mutator). rw (e, made_same) (length-set (made_by heap i.mutator) (i.serial - 1) (with_value r x y)))
      (λ (d : m ≢ i.mutator). rw (made_other m d) refl)
      (cases_eq m i.mutator)

  pub stored_makers : length (stored heap i r x y).records ≡ length heap.records
  stored_makers = length-set heap.records i.mutator changed

  -- what was allocated stays
  pub stored_made : (j : Identity) → IsMade heap j → IsMade (stored heap i r x y) j
  stored_made j made = record { first = made.first; last = omega (arith, made.last, stored_serial j.mutator) }
