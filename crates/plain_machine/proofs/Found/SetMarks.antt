-- A mark that is set.
use Rattle.std.proofs.Common.{◌≡◌, ◌≢◌, ℕ, zero, suc, ◌+◌, ◌-◌, ◌<◌, ◌≤◌, Bool, true, false, cond, not, List, [], length, replicate, Option, Some, None, slice_get, slice_set, get_or, count_by, add-zero, refl, ap, sym, ◌∙◌, arith, ⊎_elim, get_or-set_same, get_or-set_other}
use Rattle.std.specs.Option.{option_map}
use Rattle.std.proofs.lemmas.Bool.{cases_eq, cases_lt}
use Rattle.std.proofs.lemmas.List.{get_or_past, length-map}
use Rattle.std.proofs.lemmas.List.Sums.{sum_by-set}
use Rattle.std.proofs.lemmas.Option.{get_or_from_slice_get, slice_get-get_or, slice_get-map, slice_get_within}
use Rattle.plain_state.specs.declared.value.Identity.{Identity}
use Rattle.plain_state.specs.State.{Heap, Record, made_by, record_of}
use Rattle.plain_state.proofs.Elements.{at_serial_within, slice_get-of_replicate, slice_get-replicate, slice_get-set_other, slice_get-set_same}
use Rattle.plain_state.proofs.Stored.{maker_within}
use Rattle.plain_machine.specs.Search.{mark_at, mark_of, no_marks, unset, with_mark}
use Rattle.plain_heap.proofs.Reaching.Emptying.{IsApart}

-- how many of these aren't set
abbrev unset_in : List Bool → ℕ
unset_in list = count_by not list

-- ---- the marks of one mutator

within_at : (list : List Bool) (serial : ℕ) (b : Bool) → mark_at list serial ≡ Some b → (0 < serial) × (serial - 1 < length list) × (get_or list (serial - 1) b ≡ b)
within_at list zero b is = absurd (cc)
within_at list (suc n) b is =
    let l = slice_get_within list n b is in
    let e : suc n - 1 ≡ n = omega arith in
    (omega arith, omega arith, rw e (get_or_from_slice_get list n b b is))

set_at : (list : List Bool) (serial : ℕ) (b : Bool) → 0 < serial → serial - 1 < length list → mark_at (slice_set list (serial - 1) b) serial ≡ Some b
set_at list zero b some within = absurd (omega arith)
set_at list (suc n) b some within = let e : suc n - 1 ≡ n = omega arith in rw e (slice_get-set_same list n b (omega arith))

set_elsewhere : (list : List Bool) (serial other : ℕ) (b : Bool) → 0 < serial → other ≢ serial → mark_at (slice_set list (serial - 1) b) other ≡ mark_at list other
set_elsewhere list serial zero b some apart = refl
set_elsewhere list serial (suc n) b some apart = slice_get-set_other list (serial - 1) n b (λ e. apart (omega arith))

-- ---- all marks

module _ (marks : List (List Bool)) (i : Identity) (is : mark_of marks i ≡ Some false) where
  abbrev list : List Bool
  list = get_or marks i.mutator []

  place : (0 < i.serial) × (i.serial - 1 < length list) × (get_or list (i.serial - 1) false ≡ false)
  place = within_at list i.serial false is

  maker : i.mutator < length marks
  maker = ⊎_elim
      (λ (l : i.mutator < length marks). l)
      (λ (l : length marks ≤ i.mutator). absurd (
      let none : length list ≡ 0 = ap length (get_or_past marks i.mutator [] l) in
      omega (arith, place.1, none)))
      (cases_lt i.mutator (length marks))

  same_list : get_or (with_mark marks i) i.mutator [] ≡ slice_set list (i.serial - 1) true
  same_list = get_or-set_same marks i.mutator (slice_set list (i.serial - 1) true) [] maker

  pub set_there : mark_of (with_mark marks i) i ≡ Some true
  set_there = rw same_list (set_at list i.serial true place.0 place.1)

  pub set_apart : (j : Identity) → IsApart i j → mark_of (with_mark marks i) j ≡ mark_of marks j
  set_apart j apart = ⊎_elim
      (λ (e : j.mutator ≡ i.mutator). rw (e, same_list) (set_elsewhere list i.serial j.serial true place.0 (apart e)))
      (λ (d : j.mutator ≢ i.mutator). rw (get_or-set_other marks i.mutator j.mutator (slice_set list (i.serial - 1) true) [] d) refl)
      (cases_eq j.mutator i.mutator)

  -- one less is left
  pub one_set : unset marks ≡ unset (with_mark marks i) + 1
  one_set =
      let one : ℕ = unset_in list in
      let inner : unset_in (slice_set list (i.serial - 1) true) + 1 ≡ one = rw place.2 at (sum_by-set (λ b. cond (not b) 1 0) list (i.serial - 1) true false place.1) ∙ add-zero one in
      let outer : unset (with_mark marks i) + one ≡ unset marks + unset_in (slice_set list (i.serial - 1) true) = sum_by-set unset_in marks i.mutator (slice_set list (i.serial - 1) true) [] maker in
      omega (arith, inner, outer)

-- ---- no mark is set

-- each record has a mark
pub none_set : (heap : Heap) (i : Identity) (r : Record) → record_of heap i ≡ Some r → mark_of (no_marks heap.records) i ≡ Some false
none_set heap i r found =
    let within = maker_within heap i r found in
    let its : get_or (no_marks heap.records) i.mutator [] ≡ replicate (length (made_by heap i.mutator)) false =
    get_or_from_slice_get (no_marks heap.records) i.mutator (replicate (length (made_by heap i.mutator)) false) []
    (slice_get-map (λ (list : List Record). replicate (length list) false) heap.records i.mutator ∙ ap (option_map (λ (list : List Record). replicate (length list) false)) (slice_get-get_or heap.records i.mutator [] within)) in
    rw its (by_serial i.serial (at_serial_within (made_by heap i.mutator) i.serial r found))
  where
    by_serial : (serial : ℕ) → (0 < serial) × (serial - 1 < length (made_by heap i.mutator)) → mark_at (replicate (length (made_by heap i.mutator)) false) serial ≡ Some false
    by_serial zero within = absurd (omega (arith, within.0))
    by_serial (suc n) within = slice_get-of_replicate (length (made_by heap i.mutator)) n false (omega (arith, within.1))

-- and none is set
pub no_mark_set : (records : List (List Record)) (i : Identity) (b : Bool) → mark_of (no_marks records) i ≡ Some b → b ≡ false
no_mark_set records i b is = by_list (slice_get records i.mutator) refl
  where
    by_serial : (n serial : ℕ) → mark_at (replicate n false) serial ≡ Some b → b ≡ false
    by_serial n zero at = absurd (cc)
    by_serial n (suc k) at = slice_get-replicate n k false b at

    nothing : (serial : ℕ) → mark_at [] serial ≡ Some b → b ≡ false
    nothing zero at = absurd (cc)
    nothing (suc k) at = absurd (cc)

    by_list : (o : Option (List Record)) → slice_get records i.mutator ≡ o → b ≡ false
    by_list (Some list) found =
        let its : get_or (no_marks records) i.mutator [] ≡ replicate (length list) false =
        get_or_from_slice_get (no_marks records) i.mutator (replicate (length list) false) []
        (slice_get-map (λ (list : List Record). replicate (length list) false) records i.mutator ∙ ap (option_map (λ (list : List Record). replicate (length list) false)) found) in
        by_serial (length list) i.serial (sym (ap (λ (marks : List Bool). mark_at marks i.serial) its) ∙ is)
    by_list None found = ⊎_elim
        (λ (within : i.mutator < length records). let some = slice_get-get_or records i.mutator [] within in let both : None ≡ Some (get_or records i.mutator []) = sym found ∙ some in absurd (cc))
        (λ (past : length records ≤ i.mutator).
        let its : get_or (no_marks records) i.mutator [] ≡ [] = get_or_past (no_marks records) i.mutator [] (omega (arith, length-map records (λ (list : List Record). replicate (length list) false))) in
        nothing i.serial (sym (ap (λ (marks : List Bool). mark_at marks i.serial) its) ∙ is))
        (cases_lt i.mutator (length records))
