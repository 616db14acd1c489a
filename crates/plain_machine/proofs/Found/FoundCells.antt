-- The cells that a search tells to be emptied are those whose targets aren't reachable.
use Rattle.std.proofs.Common.{◌≡◌, ℕ, zero, suc, ◌-◌, ◌<◌, Bool, true, false, cond, List, [], ◌∷◌, ◌++◌, length, map, Option, Some, None, fold, slice_get, get_or, refl, ap, sym, ◌∙◌, arith}
use Rattle.std.specs.List.{All, filter, flat_map, list_any, range_with_len}
use Rattle.std.specs.Option.{option_and_then, option_map_or}
use Rattle.std.proofs.lemmas.List.Elements.{All-nil, filter-append}
use Rattle.std.proofs.lemmas.Option.{slice_get-get_or}
use Rattle.plain_state.specs.declared.kind.Kind.TheVariants.{Weak}
use Rattle.plain_state.specs.declared.value.Identity.{Identity}
use Rattle.plain_state.specs.declared.value.Value.{Value}
use Rattle.plain_state.specs.declared.value.Value.TheVariants.{Number, Reference}
use Rattle.plain_state.specs.Cells.{is_cell, value_of_cell}
use Rattle.plain_state.specs.Consistent.{IsConsistent, IsRecord}
use Rattle.plain_state.specs.State.{Heap, IsMade, IsValue, Plain, Record, at_serial, made_by, record_of, serial_of}
use Rattle.plain_state.proofs.Stored.{maker_within, stored_makers}
use Rattle.plain_heap.specs.Emptied.{cells_to_empty, emptied_cell, is_unreached, loses_target}
use Rattle.plain_heap.specs.Reaching.{identities_by}
use Rattle.plain_machine.specs.Search.{AreOfReachable, is_lost, is_unfound, is_unset, lost_among, lost_cells}
use Rattle.plain_heap.proofs.Alone.Owned.{found_all, found_serial, read_all}
use Rattle.plain_heap.proofs.Reaching.Emptying.{NoCells, all-keep, none-to_empty}
use Rattle.plain_heap.proofs.Reaching.Members.{In, In-from_slice_get, list_any-In}

-- ---- no cells

module _ (heap : Heap) (none : list_any (list_any (λ (r : Record). is_cell r.kind)) heap.records ≡ false) where
  abbrev HasCell : List Record → Bool
  HasCell records = list_any (λ (r : Record). is_cell r.kind) records

  In-serial : (records : List Record) (serial : ℕ) (r : Record) → at_serial records serial ≡ Some r → In r records
  In-serial records zero r is = absurd (cc)
  In-serial records (suc n) r is = In-from_slice_get r records n is

  no_cells : NoCells heap
  no_cells i r found = by_kind (is_cell r.kind) refl
    where
      by_kind : (cell : Bool) → is_cell r.kind ≡ cell → is_cell r.kind ≡ false
      by_kind false is = is
      by_kind true is =
          let its : HasCell (made_by heap i.mutator) ≡ true = list_any-In (λ (q : Record). is_cell q.kind) r (made_by heap i.mutator) (In-serial (made_by heap i.mutator) i.serial r found) is in
          let there : In (made_by heap i.mutator) heap.records = In-from_slice_get (made_by heap i.mutator) heap.records i.mutator (slice_get-get_or heap.records i.mutator [] (maker_within heap i r found)) in
          let both : true ≡ false = sym (list_any-In HasCell (made_by heap i.mutator) heap.records there its) ∙ none in
          absurd (cc)

-- there is none to be emptied
pub none_listed : (p : Plain) → list_any (list_any (λ (r : Record). is_cell r.kind)) p.heap.records ≡ false → cells_to_empty p ≡ []
none_listed p none = none-to_empty p (no_cells p.heap none)

-- ---- the same cells

filter-flat_map : {X Y : Type 0} (p : Y → Bool) (f : X → List Y) (xs : List X) → filter p (flat_map f xs) ≡ flat_map (λ x. filter p (f x)) xs
filter-flat_map p f [] = refl
filter-flat_map p f (x ∷ xs) = filter-append p (f x) (flat_map f xs) ∙ ap (λ l. filter p (f x) ++ l) (filter-flat_map p f xs)

filters_agree : {X Y : Type 0} (p q : Y → Bool) (f : X → Y) → ((x : X) → p (f x) ≡ q (f x)) → (xs : List X) → filter p (map f xs) ≡ filter q (map f xs)
filters_agree p q f same [] = refl
filters_agree p q f same (x ∷ xs) = λ t. cond (same x t) (f x ∷ filters_agree p q f same xs t) (filters_agree p q f same xs t)

maps_agree : {X Y : Type 0} (f g : X → List Y) → ((x : X) → f x ≡ g x) → (xs : List X) → flat_map f xs ≡ flat_map g xs
maps_agree f g same [] = refl
maps_agree f g same (x ∷ xs) = λ t. same x t ++ maps_agree f g same xs t

module _ (p : Plain) (is : IsConsistent p) (marks : List (List Bool)) (are : AreOfReachable p marks) where
  -- what was allocated is there
  made-there : (i : Identity) → IsMade p.heap i → (r : Record) × (record_of p.heap i ≡ Some r)
  made-there i made = by_serial i.serial (omega (arith, made.first)) (omega (arith, made.first, made.last))
    where
      by_serial : (serial : ℕ) → 0 < serial → serial - 1 < length (made_by p.heap i.mutator) → (r : Record) × (at_serial (made_by p.heap i.mutator) serial ≡ Some r)
      by_serial zero some within = absurd (omega (arith, some))
      by_serial (suc n) some within =
          let d : Record = record { kind = Weak; values = [] } in
          (get_or (made_by p.heap i.mutator) n d, slice_get-get_or (made_by p.heap i.mutator) n d (omega (arith, within)))

  value-held : (i : Identity) (r : Record) (v : Value) → record_of p.heap i ≡ Some r → slice_get r.values 0 ≡ Some v → IsValue p.heap v
  value-held i r v found held =
      let records = read_all (All (IsRecord p.heap)) p.heap.records i.mutator [] is.heap.records (All-nil (IsRecord p.heap)) in
      found_all (IsValue p.heap) r.values 0 v (found_serial (IsRecord p.heap) (made_by p.heap i.mutator) i.serial r records found).values held

  same_test : (i : Identity) → option_map_or (is_lost marks) (record_of p.heap i) false ≡ loses_target p i
  same_test i = by_record (record_of p.heap i) refl
    where
      by_value : (r : Record) → record_of p.heap i ≡ Some r → (v : Value) → slice_get r.values 0 ≡ Some v → is_unfound marks v ≡ is_unreached p v
      by_value r found (Number n) held = refl
      by_value r found (Reference j) held = let there = made-there j (value-held i r (Reference j) found held) in ap is_unset (are j there.0 there.1)

      by_held : (r : Record) → record_of p.heap i ≡ Some r → (o : Option Value) → slice_get r.values 0 ≡ o → option_map_or (is_unfound marks) o false ≡ option_map_or (is_unreached p) o false
      by_held r found None held = refl
      by_held r found (Some v) held = by_value r found v held

      by_kind : (r : Record) → record_of p.heap i ≡ Some r → (cell : Bool)
          → option_map_or (is_unfound marks) (cond cell (slice_get r.values 0) None) false ≡ option_map_or (is_unreached p) (cond cell (slice_get r.values 0) None) false
      by_kind r found true = by_held r found (slice_get r.values 0) refl
      by_kind r found false = refl

      by_record : (o : Option Record) → record_of p.heap i ≡ o → option_map_or (is_lost marks) o false ≡ option_map_or (is_unreached p) (option_and_then value_of_cell o) false
      by_record None found = refl
      by_record (Some r) found = by_kind r found (is_cell r.kind)

  pub lost_listed : lost_cells marks p.heap ≡ cells_to_empty p
  lost_listed =
      maps_agree (λ m. lost_among marks m (made_by p.heap m)) (λ m. filter (loses_target p) (identities_by p.heap m)) same_among (range_with_len 0 (length p.heap.records))
      ∙ sym (filter-flat_map (loses_target p) (identities_by p.heap) (range_with_len 0 (length p.heap.records)))
    where
      same_among : (m : ℕ) → lost_among marks m (made_by p.heap m) ≡ filter (loses_target p) (identities_by p.heap m)
      same_among m =
          filters_agree (λ i. option_map_or (is_lost marks) (at_serial (made_by p.heap m) i.serial) false) (loses_target p) (λ serial. record { mutator = m; serial = serial })
          (λ serial. same_test (record { mutator = m; serial = serial })) (range_with_len 1 (serial_of p.heap m))

-- ---- what is emptied

-- as many mutators have records
pub emptied_makers : (cells : List Identity) (heap : Heap) → length (fold emptied_cell heap cells).records ≡ length heap.records
emptied_makers cells heap = all-keep (λ h. length h.records ≡ length heap.records) (λ h i r found cell same. stored_makers h i r 0 (Number 0) found ∙ same) cells heap refl
