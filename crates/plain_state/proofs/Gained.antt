-- The plain heap in which a mutator has one more record.
use Rattle.std.proofs.Common.{◌≡◌, ◌≢◌, ℕ, ◌+◌, ◌<◌, ◌≤◌, List, [], ◌∷◌, ◌++◌, length, Some, refl, arith, get_or-set_same, get_or-set_other, ⊎_elim}
use Rattle.std.proofs.Math.ListN.{length-set}
use Rattle.std.proofs.lemmas.Bool.{cases_eq}
use Rattle.std.proofs.lemmas.List.{length-append}
use Rattle.plain_state.specs.State.{Record, Heap, made_by, record_of, serial_of, IsMade}
use Rattle.plain_state.specs.Writing.{gained}
use Rattle.plain_state.specs.declared.value.Identity.{Identity}
use Rattle.plain_state.proofs.Elements.{at_serial-append_end, at_serial-append_front}

module _ (heap : Heap) (k : ℕ) (r : Record) (within : k < length heap.records) where
  abbrev grown : List Record
  grown = made_by heap k ++ r ∷ []

  made_same : made_by (gained heap k r) k ≡ grown
  made_same = get_or-set_same heap.records k grown [] within

  made_other : (m : ℕ) → m ≢ k → made_by (gained heap k r) m ≡ made_by heap m
  made_other m d = get_or-set_other heap.records k m grown [] d

  -- the new record is there
  pub gained_there : (i : Identity) → i.mutator ≡ k → i.serial ≡ serial_of heap k + 1 → record_of (gained heap k r) i ≡ Some r
  gained_there i e f = rw (e, made_same) (at_serial-append_end (made_by heap k) i.serial r f)

  -- and the others are as they were
  pub gained_elsewhere : (j : Identity) (q : Record) → record_of heap j ≡ Some q → record_of (gained heap k r) j ≡ Some q
  gained_elsewhere j q is = ⊎_elim
      (λ (e : j.mutator ≡ k). rw (e, made_same) (at_serial-append_front (made_by heap k) j.serial r q (rw e at is)))
      (λ (d : j.mutator ≢ k). rw (made_other j.mutator d) is)
      (cases_eq j.mutator k)

  pub gained_serial : serial_of (gained heap k r) k ≡ serial_of heap k + 1
  gained_serial = rw made_same (length-append (made_by heap k) (r ∷ []))

  pub gained_serial_other : (m : ℕ) → m ≢ k → serial_of (gained heap k r) m ≡ serial_of heap m
  gained_serial_other m d = rw (made_other m d) refl

  pub gained_makers : length (gained heap k r).records ≡ length heap.records
  gained_makers = length-set heap.records k grown

  -- what was allocated stays
  pub gained_made : (i : Identity) → IsMade heap i → IsMade (gained heap k r) i
  gained_made i made = ⊎_elim
      (λ (e : i.mutator ≡ k). let last : i.serial ≤ serial_of heap k = rw e at made.last in rw e (record { first = made.first; last = omega (arith, last, gained_serial) }))
      (λ (d : i.mutator ≢ k). record { first = made.first; last = omega (arith, made.last, gained_serial_other i.mutator d) })
      (cases_eq i.mutator k)

  -- and so is the new record
  pub gained_newest : IsMade (gained heap k r) (record { mutator = k; serial = serial_of heap k + 1 })
  gained_newest = record { first = omega arith; last = omega (arith, gained_serial) }
