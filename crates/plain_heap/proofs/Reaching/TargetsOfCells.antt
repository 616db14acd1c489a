-- What cells have of which some are emptied.
use Rattle.std.proofs.Common.{◌≡◌, ◌⊎◌, inl, inr, Bool, true, false, cond, List, [], ◌∷◌, Option, Some, None, fold, slice_get, refl, ap, sym, ◌∙◌}
use Rattle.std.specs.Option.{option_and_then, option_map}
use Rattle.std.proofs.lemmas.Option.{same_Some}
use Rattle.plain_state.specs.declared.value.Identity.{Identity}
use Rattle.plain_state.specs.declared.value.Value.{Value}
use Rattle.plain_state.specs.declared.value.Value.TheVariants.{Number}
use Rattle.plain_state.specs.Cells.{cell_of, is_cell, value_of_cell, without_target}
use Rattle.plain_state.specs.State.{Record, Heap, record_of}
use Rattle.plain_state.specs.Writing.{with_value}
use Rattle.plain_heap.specs.Emptied.{emptied_cell}
use Rattle.plain_heap.proofs.Reaching.Emptying.{all-is, emptied-in, emptied-out}
use Rattle.plain_heap.proofs.Reaching.Members.{In}

-- the cell had a value before
abbrev pub Had : Option Record → Type 0
Had o = (w : Value) × (option_and_then value_of_cell o ≡ Some w)

-- a record without its target has the number 0, where it was a cell with a value
without-value : (o : Option Record) (v : Value) → option_and_then value_of_cell (option_map without_target o) ≡ Some v → (v ≡ Number 0) × Had o
without-value None v is = absurd (cc)
without-value (Some r) v is = by_kind (is_cell r.kind) refl is
  where
    by_values : (values : List Value) → slice_get (with_value (record r { values = values }) 0 (Number 0)).values 0 ≡ Some v → (v ≡ Number 0) × ((w : Value) × (slice_get values 0 ≡ Some w))
    by_values [] is = absurd (cc)
    by_values (w ∷ values) is = (sym (same_Some (Number 0) v is), (w, refl))

    by_kind : (cell : Bool) → is_cell r.kind ≡ cell → value_of_cell (cond cell (with_value r 0 (Number 0)) r) ≡ Some v → (v ≡ Number 0) × Had (Some r)
    by_kind true is held =
        let has = by_values r.values (rw is at held) in
        (has.0, (has.1.0, ap (λ (b : Bool). cond b (slice_get r.values 0) None) is ∙ has.1.1))
    by_kind false is held = absurd (let none = rw is at held in cc)

-- and if it was one, it has that number
without-cell : (o : Option Record) (w : Value) → option_and_then value_of_cell o ≡ Some w → option_and_then value_of_cell (option_map without_target o) ≡ Some (Number 0)
without-cell None w is = absurd (cc)
without-cell (Some r) w is = by_kind (is_cell r.kind) refl is
  where
    by_values : (values : List Value) → slice_get values 0 ≡ Some w → slice_get (with_value (record r { values = values }) 0 (Number 0)).values 0 ≡ Some (Number 0)
    by_values [] is = absurd (cc)
    by_values (x ∷ values) is = refl

    by_kind : (cell : Bool) → is_cell r.kind ≡ cell → cond cell (slice_get r.values 0) None ≡ Some w → value_of_cell (cond cell (with_value r 0 (Number 0)) r) ≡ Some (Number 0)
    by_kind true is held = rw is (by_values r.values held)
    by_kind false is held = absurd (cc)

module _ (cells : List Identity) (heap : Heap) (i : Identity) where
  abbrev later : Heap
  later = fold emptied_cell heap cells

  -- a cell with a value had one before
  pub target-was : (v : Value) → cell_of later i ≡ Some v → (w : Value) × (cell_of heap i ≡ Some w)
  target-was v held = by_is (all-is i cells heap)
    where
      by_is : (record_of later i ≡ record_of heap i) ⊎ (record_of later i ≡ option_map without_target (record_of heap i)) → (w : Value) × (cell_of heap i ≡ Some w)
      by_is (inl same) = (v, sym (ap (option_and_then value_of_cell) same) ∙ held)
      by_is (inr less) = (without-value (record_of heap i) v (sym (ap (option_and_then value_of_cell) less) ∙ held)).1

  -- one of the list has the number 0
  pub target-emptied : In i cells → (v : Value) → cell_of later i ≡ Some v → v ≡ Number 0
  target-emptied is v held = (without-value (record_of heap i) v (sym (ap (option_and_then value_of_cell) (emptied-in i cells heap is)) ∙ held)).0

  pub target-empty : In i cells → (w : Value) → cell_of heap i ≡ Some w → cell_of later i ≡ Some (Number 0)
  target-empty is w had = ap (option_and_then value_of_cell) (emptied-in i cells heap is) ∙ without-cell (record_of heap i) w had

  -- any other has what it had
  pub target-kept : ¬ (In i cells) → cell_of later i ≡ cell_of heap i
  target-kept out = ap (option_and_then value_of_cell) (emptied-out i cells heap out)
