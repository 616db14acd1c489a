-- The records that are met from the board on are those to which it leads.
use Rattle.std.proofs.Common.{◌≡◌, ⊎_elim, ℕ, ◌+◌, ◌-◌, ◌<◌, ◌≤◌, Bool, true, false, cond, List, ◌++◌, length, slice_get, slice_index_or, Some, None, refl, sym, ap, ◌∙◌, subst, arith}
use Rattle.std.specs.List.{Contains}
use Rattle.std.proofs.lemmas.Bool.{cases_lt}
use Rattle.std.proofs.lemmas.List.{get_or_append_left, length-append}
use Rattle.std.proofs.lemmas.List.Elements.{All-contains}
use Rattle.std.proofs.lemmas.Option.{get_or_from_slice_get, same_Some, slice_get-get_or, slice_get_read, slice_get_within}
use Rattle.checkpoint_text.specs.declared.saved_record.SavedRecord.{SavedRecord}
use Rattle.checkpoint_text.specs.Records.{field_count, first_value, record_there}
use Rattle.checkpoint_text.specs.Visits.{Visited, met_from, unvisited}
use Rattle.checkpoint_text.specs.Reached.{AreReached, FromBoard, FromField, IsInField, IsOnBoard, Reaches, RefersTo}
use Rattle.checkpoint_text.proofs.Meets.{Grows, IsVisited, listed_within, met_from_grows, met_from_has, met_from_visited, still_listed, unvisited_is}

-- what the board refers to is listed, and what the fields of the first records refer to
pub record IsScanned (heap : ℕ → ℕ) (board top : ℕ) (m : Visited) (next : ℕ) : Type 0 where
  pub visited : IsVisited heap board top m
  pub within : next ≤ length m.records
  pub from_board : (r : SavedRecord) → IsOnBoard heap board r → Contains m.records r
  pub from_fields : (k : ℕ) (from r : SavedRecord) → k < next → slice_get m.records k ≡ Some from → IsInField heap from r → Contains m.records r

slice_get_front : (xs ys : List SavedRecord) (k : ℕ) (x : SavedRecord) → k < length xs → slice_get (xs ++ ys) k ≡ Some x → slice_get xs k ≡ Some x
slice_get_front xs ys k x within is =
    slice_get_read xs (length xs) k x refl within (sym (sym (get_or_append_left xs ys x k within) ∙ get_or_from_slice_get (xs ++ ys) k x x is))

has_listed : (xs : List SavedRecord) (k : ℕ) (x : SavedRecord) → slice_get xs k ≡ Some x → Contains xs x
has_listed xs k x is = (k, slice_get_within xs k x is, get_or_from_slice_get xs k x x is)

most_one : (b : Bool) → cond b 1 0 ≤ 1
most_one true = omega arith
most_one false = omega arith

module _ (heap : ℕ → ℕ) (board top : ℕ) (bounded : (address : ℕ) (r : SavedRecord) → record_there heap address ≡ Some r → address < top) where
  leads_board : (x : ℕ) (r : SavedRecord) → x < 16 → RefersTo heap (heap (board + x)) r → Reaches heap board r
  leads_board x r below refers = FromBoard r (record { x = x; within = below; refers = refers })

  -- after the board nothing is scanned
  pub begins : IsScanned heap board top (met_from heap board 16 (unvisited top)) 0
  begins = record {
    visited = met_from_visited heap board top bounded (unvisited top) board 16 (unvisited_is heap board top) leads_board;
    within = omega arith;
    from_board = λ r on. met_from_has heap board top bounded (unvisited top) board 16 (unvisited_is heap board top) leads_board on.x r on.within on.refers;
    from_fields = λ k from r below is field. absurd (omega (arith, below));
  }

  module _ (m : Visited) (next : ℕ) (s : SavedRecord) (so_far : IsScanned heap board top m next) (is : slice_get m.records next ≡ Some s) where
    leads_field : (x : ℕ) (r : SavedRecord) → x < field_count s → RefersTo heap (heap (first_value s + x)) r → Reaches heap board r
    leads_field x r below refers =
        FromField s r (All-contains (Reaches heap board) m.records s so_far.visited.reached (has_listed m.records next s is)) (record { x = x; within = below; refers = refers })

    grown : Grows m (met_from heap (first_value s) (field_count s) m)
    grown = met_from_grows heap board top bounded m (first_value s) (field_count s)

    from_next : (from r : SavedRecord) → s ≡ from → IsInField heap from r → Contains (met_from heap (first_value s) (field_count s) m).records r
    from_next from r same field =
        let its : IsInField heap s r = subst (λ (t : SavedRecord). IsInField heap t r) (sym same) field in
        met_from_has heap board top bounded m (first_value s) (field_count s) so_far.visited leads_field its.x r its.within its.refers

    -- the next record is scanned
    pub goes_on : IsScanned heap board top (met_from heap (first_value s) (field_count s) m) (next + 1)
    goes_on =
        let below_length = slice_get_within m.records next s is in
        record {
          visited = met_from_visited heap board top bounded m (first_value s) (field_count s) so_far.visited leads_field;
          within = omega (arith, below_length, ap length grown.is, length-append {A = SavedRecord} m.records grown.more);
          from_board = λ r on. still_listed m (met_from heap (first_value s) (field_count s) m) r grown (so_far.from_board r on);
          from_fields = λ k from r below there field.
              let its : slice_get m.records k ≡ Some from = slice_get_front m.records grown.more k from (omega (arith, below, below_length)) (ap (λ (xs : List SavedRecord). slice_get xs k) (sym grown.is) ∙ there) in
              ⊎_elim
              (λ (before : k < next). still_listed m (met_from heap (first_value s) (field_count s) m) r grown (so_far.from_fields k from r before its field))
              (λ (last : next ≤ k).
              let here : k ≡ next = omega (arith, last, below) in
              from_next from r (same_Some s from (sym is ∙ ap (slice_get m.records) (sym here) ∙ its)) field)
              (cases_lt k next);
        }

    -- there are no more records than words
    pub comes_nearer : top - (next + 1) < top - next
    comes_nearer = omega (arith, slice_get_within m.records next s is, listed_within heap board top m so_far.visited)

  -- once each is scanned, they are the records to which the board leads
  pub ends : (m : Visited) (next : ℕ) → IsScanned heap board top m next → slice_get m.records next ≡ None → AreReached heap board m.records
  ends m next so_far none = record {
    reached = so_far.visited.reached;
    once = λ a. subst (λ (n : ℕ). n ≤ 1) (sym (so_far.visited.counts a)) (most_one (slice_index_or m.visited a false));
    from_board = so_far.from_board;
    from_fields = λ from r has field.
        let there : slice_get m.records has.0 ≡ Some from = slice_get_read m.records (length m.records) has.0 from refl has.1 (sym has.2) in
        ⊎_elim
        (λ (below : has.0 < next). so_far.from_fields has.0 from r below there field)
        (λ (beyond : next ≤ has.0).
        let all : slice_get m.records next ≡ Some (slice_index_or m.records next from) = slice_get-get_or m.records next from (omega (arith, beyond, has.1)) in
        absurd (let differ : None ≡ Some (slice_index_or m.records next from) = sym none ∙ all in cc))
        (cases_lt has.0 next);
  }
