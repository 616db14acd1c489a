-- Cells of the plain heap after a store in a record that is none: each has the value that it had.
use Rattle.std.proofs.Common.{◌≡◌, ◌≢◌, ℕ, false, Some, None, refl, sym, ap, ◌∙◌, ⊎_elim}
use Rattle.std.specs.Option.{option_and_then}
use Rattle.std.proofs.lemmas.Bool.{cases_eq}
use Rattle.plain_state.specs.declared.kind.Kind.{Kind}
use Rattle.plain_state.specs.declared.kind.Kind.TheVariants.{Weak}
use Rattle.plain_state.specs.declared.value.Identity.{Identity}
use Rattle.plain_state.specs.declared.value.Value.{Value}
use Rattle.plain_state.specs.Cells.{is_cell, cell_of, value_of_cell}
use Rattle.plain_state.specs.State.{Record, Heap, record_of}
use Rattle.plain_state.specs.Writing.{stored, with_value}
use Rattle.plain_state.proofs.Stored.{stored_there, stored_elsewhere}
use Rattle.heap_state.proofs.Puts.{none≢some}

no_cell : (k : Kind) → k ≢ Weak → is_cell k ≡ false
no_cell Weak other = absurd (other refl)
no_cell _ other = refl

-- r has the identity i, and its value x becomes y
module _ (heap : Heap) (i : Identity) (r : Record) (x : ℕ) (y : Value) (is : record_of heap i ≡ Some r) (other : r.kind ≢ Weak) where
  abbrev after : Heap
  after = stored heap i r x y

  none_there : (j : Identity) (v : Value) → j.mutator ≡ i.mutator → j.serial ≡ i.serial → ¬ (cell_of after j ≡ Some v)
  none_there j v e f cell =
      let there : record_of after j ≡ Some (with_value r x y) = rw (e, f) (stored_there heap i r x y is) in
      let none : value_of_cell (with_value r x y) ≡ None = rw (no_cell r.kind other) refl in
      none≢some (sym none ∙ (sym (ap (option_and_then value_of_cell) there) ∙ cell))

  had : (j : Identity) (v : Value) → (j.mutator ≡ i.mutator → j.serial ≢ i.serial) → cell_of after j ≡ Some v → cell_of heap j ≡ Some v
  had j v apart cell = sym (ap (option_and_then value_of_cell) (stored_elsewhere heap i r x y is j apart)) ∙ cell

  pub stored_keeps_cells : (j : Identity) (v : Value) → cell_of after j ≡ Some v → cell_of heap j ≡ Some v
  stored_keeps_cells j v cell = ⊎_elim
      (λ (e : j.mutator ≡ i.mutator). ⊎_elim
      (λ (f : j.serial ≡ i.serial). absurd (none_there j v e f cell))
      (λ (d : j.serial ≢ i.serial). had j v (λ _. d) cell)
      (cases_eq j.serial i.serial))
      (λ (d : j.mutator ≢ i.mutator). had j v (λ e. absurd (d e)) cell)
      (cases_eq j.mutator i.mutator)
