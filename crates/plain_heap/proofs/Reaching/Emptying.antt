-- What is emptied is the cells whose targets aren't reachable.
use Rattle.std.proofs.Common.{◌≡◌, ◌≢◌, ◌⊎◌, inl, inr, ℕ, zero, suc, ◌-◌, Bool, true, false, cond, not, List, [], ◌∷◌, Option, Some, None, fold, slice_get, slice_set, refl, ap, sym, subst, ◌∙◌, ⊎_elim, arith}
use Rattle.std.specs.Option.{option_and_then, option_map, option_map_or}
use Rattle.std.proofs.lemmas.Bool.{cases_eq}
use Rattle.std.proofs.lemmas.List.{set-get_or}
use Rattle.std.proofs.lemmas.Option.{get_or_from_slice_get}
use Rattle.plain_state.specs.declared.value.Identity.{Identity}
use Rattle.plain_state.specs.declared.value.Value.{Value}
use Rattle.plain_state.specs.declared.value.Value.TheVariants.{Number, Reference}
use Rattle.plain_state.specs.Cells.{is_cell, cell_of, value_of_cell, LosesTarget, without_target}
use Rattle.plain_state.specs.State.{Record, Heap, Plain, at_serial, made_by, record_of}
use Rattle.plain_state.specs.Writing.{stored, with_value}
use Rattle.plain_state.proofs.Stored.{stored_elsewhere, stored_there}
use Rattle.plain_heap.specs.Emptied.{EmptiedOfLostCells, cells_to_empty, emptied, emptied_cell, emptied_record, is_unreached, loses_target}
use Rattle.plain_heap.specs.Reaching.{identities, reaches}
use Rattle.plain_heap.proofs.Reaching.Closure.{In-identities, reachable-reaches, reaches-reachable}
use Rattle.plain_heap.proofs.Reaching.Members.{In, In-filter, In-filter_from}

-- ---- one cell

-- a record of another identity
abbrev pub IsApart : Identity → Identity → Type 0
IsApart i j = j.mutator ≡ i.mutator → j.serial ≢ i.serial

module _ (heap : Heap) (i : Identity) where
  emptied_of : (r : Record) → record_of heap i ≡ Some r → (cell : Bool) → is_cell r.kind ≡ cell
      → record_of (cond cell (stored heap i r 0 (Number 0)) heap) i ≡ Some (cond cell (with_value r 0 (Number 0)) r)
  emptied_of r found true is = stored_there heap i r 0 (Number 0) found
  emptied_of r found false is = found

  emptied_as : (o : Option Record) → record_of heap i ≡ o → record_of (emptied_record heap i o) i ≡ option_map without_target o
  emptied_as None found = found
  emptied_as (Some r) found = emptied_of r found (is_cell r.kind) refl

  pub emptied_there : record_of (emptied_cell heap i) i ≡ option_map without_target (record_of heap i)
  emptied_there = emptied_as (record_of heap i) refl

  module _ (j : Identity) (apart : IsApart i j) where
    emptied_apart : (r : Record) → record_of heap i ≡ Some r → (cell : Bool) → record_of (cond cell (stored heap i r 0 (Number 0)) heap) j ≡ record_of heap j
    emptied_apart r found true = stored_elsewhere heap i r 0 (Number 0) found j apart
    emptied_apart r found false = refl

    emptied_apart_as : (o : Option Record) → record_of heap i ≡ o → record_of (emptied_record heap i o) j ≡ record_of heap j
    emptied_apart_as None found = refl
    emptied_apart_as (Some r) found = emptied_apart r found (is_cell r.kind)

    pub emptied_elsewhere : record_of (emptied_cell heap i) j ≡ record_of heap j
    emptied_elsewhere = emptied_apart_as (record_of heap i) refl

  -- a fact of heaps that a store in a cell keeps
  module _ (P : Heap → Type 0) (keeps : (r : Record) → record_of heap i ≡ Some r → is_cell r.kind ≡ true → P (stored heap i r 0 (Number 0))) (so : P heap) where
    kept_of : (r : Record) → record_of heap i ≡ Some r → (cell : Bool) → is_cell r.kind ≡ cell → P (cond cell (stored heap i r 0 (Number 0)) heap)
    kept_of r found true is = keeps r found is
    kept_of r found false is = so

    kept_as : (o : Option Record) → record_of heap i ≡ o → P (emptied_record heap i o)
    kept_as None found = so
    kept_as (Some r) found = kept_of r found (is_cell r.kind) refl

    pub emptied_keeps : P (emptied_cell heap i)
    emptied_keeps = kept_as (record_of heap i) refl

-- what is empty is left as it is
pub without-again : (r : Record) → without_target (without_target r) ≡ without_target r
without-again r = by_kind (is_cell r.kind) refl
  where
    set-again : (values : List Value) → slice_set (slice_set values 0 (Number 0)) 0 (Number 0) ≡ slice_set values 0 (Number 0)
    set-again [] = refl
    set-again (v ∷ values) = refl

    by_kind : (cell : Bool) → is_cell r.kind ≡ cell → without_target (cond cell (with_value r 0 (Number 0)) r) ≡ cond cell (with_value r 0 (Number 0)) r
    by_kind true is = rw is (λ t. record { kind = r.kind; values = set-again r.values t })
    by_kind false is = rw is refl

without-twice : (o : Option Record) → option_map without_target (option_map without_target o) ≡ option_map without_target o
without-twice None = refl
without-twice (Some r) = ap Some (without-again r)

-- ---- many cells

pub cases_same : (i j : Identity) → (i ≡ j) ⊎ IsApart i j
cases_same i j = ⊎_elim
    (λ (e : j.mutator ≡ i.mutator). ⊎_elim
    (λ (f : j.serial ≡ i.serial). inl (λ t. record { mutator = sym e t; serial = sym f t }))
    (λ (d : j.serial ≢ i.serial). inr (λ e. d))
    (cases_eq j.serial i.serial))
    (λ (d : j.mutator ≢ i.mutator). inr (λ e. absurd (d e)))
    (cases_eq j.mutator i.mutator)

module _ (j : Identity) where
  -- a heap whose record is emptied, or is what it was
  abbrev pub Is : (before after : Heap) → Type 0
  Is before after = (record_of after j ≡ record_of before j) ⊎ (record_of after j ≡ option_map without_target (record_of before j))

  one-is : (heap : Heap) (i : Identity) → Is heap (emptied_cell heap i)
  one-is heap i = ⊎_elim
      (λ (e : i ≡ j). inr (subst (λ k. record_of (emptied_cell heap i) k ≡ option_map without_target (record_of heap k)) e (emptied_there heap i)))
      (λ (apart : IsApart i j). inl (emptied_elsewhere heap i j apart))
      (cases_same i j)

  pub all-is : (cells : List Identity) (heap : Heap) → Is heap (fold emptied_cell heap cells)
  all-is [] heap = inl refl
  all-is (i ∷ cells) heap = by_one (one-is heap i) (all-is cells (emptied_cell heap i))
    where
      by_one : Is heap (emptied_cell heap i) → Is (emptied_cell heap i) (fold emptied_cell (emptied_cell heap i) cells) → Is heap (fold emptied_cell (emptied_cell heap i) cells)
      by_one (inl same) (inl later) = inl (later ∙ same)
      by_one (inl same) (inr later) = inr (later ∙ ap (option_map without_target) same)
      by_one (inr first) (inl later) = inr (later ∙ first)
      by_one (inr first) (inr later) = inr (later ∙ ap (option_map without_target) first ∙ without-twice (record_of heap j))

  -- a cell of the list is emptied
  pub emptied-in : (cells : List Identity) (heap : Heap) → In j cells → record_of (fold emptied_cell heap cells) j ≡ option_map without_target (record_of heap j)
  emptied-in [] heap is = absurd is
  emptied-in (i ∷ cells) heap (inl e) = by_rest (all-is cells (emptied_cell heap i))
    where
      first : record_of (emptied_cell heap i) j ≡ option_map without_target (record_of heap j)
      first = subst (λ k. record_of (emptied_cell heap i) k ≡ option_map without_target (record_of heap k)) e (emptied_there heap i)

      by_rest : Is (emptied_cell heap i) (fold emptied_cell (emptied_cell heap i) cells) → record_of (fold emptied_cell (emptied_cell heap i) cells) j ≡ option_map without_target (record_of heap j)
      by_rest (inl later) = later ∙ first
      by_rest (inr later) = later ∙ ap (option_map without_target) first ∙ without-twice (record_of heap j)
  emptied-in (i ∷ cells) heap (inr is) = by_one (one-is heap i) (emptied-in cells (emptied_cell heap i) is)
    where
      by_one : Is heap (emptied_cell heap i) → record_of (fold emptied_cell (emptied_cell heap i) cells) j ≡ option_map without_target (record_of (emptied_cell heap i) j)
          → record_of (fold emptied_cell (emptied_cell heap i) cells) j ≡ option_map without_target (record_of heap j)
      by_one (inl same) later = later ∙ ap (option_map without_target) same
      by_one (inr first) later = later ∙ ap (option_map without_target) first ∙ without-twice (record_of heap j)

  -- and any other record is not
  pub emptied-out : (cells : List Identity) (heap : Heap) → ¬ (In j cells) → record_of (fold emptied_cell heap cells) j ≡ record_of heap j
  emptied-out [] heap not_in = refl
  emptied-out (i ∷ cells) heap not_in = emptied-out cells (emptied_cell heap i) (λ is. not_in (inr is)) ∙ ⊎_elim
      (λ (e : i ≡ j). absurd (not_in (inl e)))
      (λ (apart : IsApart i j). emptied_elsewhere heap i j apart)
      (cases_same i j)

-- what a store in a cell keeps
pub all-keep : (P : Heap → Type 0) → ((heap : Heap) (i : Identity) (r : Record) → record_of heap i ≡ Some r → is_cell r.kind ≡ true → P heap → P (stored heap i r 0 (Number 0)))
    → (cells : List Identity) (heap : Heap) → P heap → P (fold emptied_cell heap cells)
all-keep P keeps [] heap so = so
all-keep P keeps (i ∷ cells) heap so = all-keep P keeps cells (emptied_cell heap i) (emptied_keeps heap i P (λ r found is. keeps heap i r found is so) so)

-- ---- the cells that lose their targets

loses : (o : Plain) (i : Identity) → loses_target o i ≡ true → LosesTarget o i
loses o i is = by_value (cell_of o.heap i) refl is
  where
    by_value : (v : Option Value) → cell_of o.heap i ≡ v → option_map_or (is_unreached o) v false ≡ true → LosesTarget o i
    by_value None held lost = absurd (cc)
    by_value (Some (Number n)) held lost = absurd (cc)
    by_value (Some (Reference j)) held lost = record {
      target = j;
      is = held;
      unreachable = λ reach. let no : not true ≡ true = ap not (sym (reachable-reaches o j reach)) ∙ lost in absurd (cc);
    }

lost-tested : (o : Plain) (i : Identity) → LosesTarget o i → loses_target o i ≡ true
lost-tested o i lost = rw lost.is (by_test (reaches o lost.target) refl)
  where
    by_test : (b : Bool) → reaches o lost.target ≡ b → not b ≡ true
    by_test true is = absurd (lost.unreachable (reaches-reachable o lost.target is))
    by_test false is = refl

pub loses_or_not : (o : Plain) (i : Identity) → LosesTarget o i ⊎ ¬ (LosesTarget o i)
loses_or_not o i = by_test (loses_target o i) refl
  where
    by_test : (b : Bool) → loses_target o i ≡ b → LosesTarget o i ⊎ ¬ (LosesTarget o i)
    by_test true is = inl (loses o i is)
    by_test false is = inr (λ lost. let both : true ≡ false = sym (lost-tested o i lost) ∙ is in cc)

-- the heap has the cell whose value is told
pub has-cell : (heap : Heap) (i : Identity) (v : Value) → cell_of heap i ≡ Some v → (r : Record) × (record_of heap i ≡ Some r) × (is_cell r.kind ≡ true)
has-cell heap i v is = by_record (record_of heap i) refl is
  where
    by_kind : (r : Record) → record_of heap i ≡ Some r → (cell : Bool) → is_cell r.kind ≡ cell → cond cell (slice_get r.values 0) None ≡ Some v
        → (r : Record) × (record_of heap i ≡ Some r) × (is_cell r.kind ≡ true)
    by_kind r found true cell held = (r, found, cell)
    by_kind r found false cell held = absurd (cc)

    by_record : (o : Option Record) → record_of heap i ≡ o → option_and_then value_of_cell o ≡ Some v → (r : Record) × (record_of heap i ≡ Some r) × (is_cell r.kind ≡ true)
    by_record None found held = absurd (cc)
    by_record (Some r) found held = by_kind r found (is_cell r.kind) refl held

pub lost-in : (o : Plain) (i : Identity) → LosesTarget o i → In i (cells_to_empty o)
lost-in o i lost =
    let has = has-cell o.heap i (Reference lost.target) lost.is in
    In-filter (loses_target o) i (identities o.heap) (In-identities o.heap i has.0 has.1) (lost-tested o i lost)

pub lost-from : (o : Plain) (i : Identity) → In i (cells_to_empty o) → LosesTarget o i
lost-from o i is = loses o i (In-filter_from (loses_target o) i (identities o.heap) is).1

-- ---- a whole state

pub emptied_of_lost_cells : EmptiedOfLostCells
unfolding emptied
emptied_of_lost_cells o p = record {
  lost = λ i lost. emptied-in i (cells_to_empty o) p.heap (lost-in o i lost);
  kept = λ i safe. emptied-out i (cells_to_empty o) p.heap (λ is. safe (lost-from o i is));
  board = all-keep (λ h. h.board ≡ p.heap.board) (λ heap i r found is so. so) (cells_to_empty o) p.heap refl;
  snaps = all-keep (λ h. h.snaps ≡ p.heap.snaps) (λ heap i r found is so. so) (cells_to_empty o) p.heap refl;
  snapped = all-keep (λ h. h.snapped ≡ p.heap.snapped) (λ heap i r found is so. so) (cells_to_empty o) p.heap refl;
  mutators = refl;
}

-- what a store in a cell keeps is kept
pub emptied_heap_keeps : (P : Heap → Type 0) → ((heap : Heap) (i : Identity) (r : Record) → record_of heap i ≡ Some r → is_cell r.kind ≡ true → P heap → P (stored heap i r 0 (Number 0)))
    → (o p : Plain) → P p.heap → P (emptied o p).heap
unfolding emptied
emptied_heap_keeps P keeps o p so = all-keep P keeps (cells_to_empty o) p.heap so

-- ---- where nothing changes

-- the cell is empty already
module _ (heap : Heap) (i : Identity) (r : Record) (found : record_of heap i ≡ Some r) (same : with_value r 0 (Number 0) ≡ r) where
  rewritten : (serial : ℕ) → at_serial (made_by heap i.mutator) serial ≡ Some r → slice_set (made_by heap i.mutator) (serial - 1) r ≡ made_by heap i.mutator
  rewritten serial is = sym (ap (slice_set (made_by heap i.mutator) (serial - 1)) (get_or_from_slice_get _ (serial - 1) r r (by_serial serial is))) ∙ set-get_or (made_by heap i.mutator) (serial - 1) r
    where
      by_serial : (serial : ℕ) → at_serial (made_by heap i.mutator) serial ≡ Some r → slice_get (made_by heap i.mutator) (serial - 1) ≡ Some r
      by_serial zero is = absurd (cc)
      by_serial (suc n) is = let e : suc n - 1 ≡ n = omega arith in rw e is

  stored-same : stored heap i r 0 (Number 0) ≡ heap
  stored-same = rw same (rw (rewritten i.serial found) (ap (λ (records : List (List Record)). record heap { records = records }) (set-get_or heap.records i.mutator [])))

-- the record is a cell that is empty
pub record IsEmptied (heap : Heap) (i : Identity) : Type 0 where
  pub own : Record
  pub found : record_of heap i ≡ Some own
  pub cell : is_cell own.kind ≡ true
  pub empty : with_value own 0 (Number 0) ≡ own

emptied-same : (heap : Heap) (i : Identity) → IsEmptied heap i → emptied_cell heap i ≡ heap
emptied-same heap i is = rw (is.found, is.cell) (stored-same heap i is.own is.found is.empty)

all-same : (cells : List Identity) (heap : Heap) → ((i : Identity) → In i cells → IsEmptied heap i) → fold emptied_cell heap cells ≡ heap
all-same [] heap are = refl
all-same (i ∷ cells) heap are =
    let same = emptied-same heap i (are i (inl refl)) in
    rw same (all-same cells heap (λ j is. are j (inr is)))

-- each cell is empty that loses its target
abbrev pub AreEmptied : (o p : Plain) → Type 0
AreEmptied o p = (i : Identity) → LosesTarget o i → IsEmptied p.heap i

pub emptied-already : (o p : Plain) → AreEmptied o p → emptied o p ≡ p
unfolding emptied
emptied-already o p are = ap (λ (h : Heap). record p { heap = h }) (all-same (cells_to_empty o) p.heap (λ i is. are i (lost-from o i is)))

-- a state without cells
abbrev pub NoCells : Heap → Type 0
NoCells heap = (i : Identity) (r : Record) → record_of heap i ≡ Some r → is_cell r.kind ≡ false

none-loses : (o : Plain) → NoCells o.heap → (i : Identity) → ¬ (LosesTarget o i)
none-loses o none i lost =
    let has = has-cell o.heap i (Reference lost.target) lost.is in
    let both : true ≡ false = sym has.2 ∙ none i has.0 has.1 in
    absurd (cc)

pub emptied-none : (o p : Plain) → NoCells o.heap → emptied o p ≡ p
emptied-none o p none = emptied-already o p (λ i lost. absurd (none-loses o none i lost))

pub none-to_empty : (o : Plain) → NoCells o.heap → cells_to_empty o ≡ []
none-to_empty o none = by_list (cells_to_empty o) (λ i is. none-loses o none i (lost-from o i is))
  where
    by_list : (l : List Identity) → ((i : Identity) → ¬ (In i l)) → l ≡ []
    by_list [] nobody = refl
    by_list (i ∷ l) nobody = absurd (nobody i (inl refl))
