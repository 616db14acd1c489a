-- What stays so while records are met.
use Rattle.std.proofs.Common.{◌≡◌, ◌≢◌, ⊎_elim, ℕ, zero, suc, ◌+◌, ◌<◌, ◌≤◌, ◌==◌, Bool, true, false, not, cond, List, [], ◌∷◌, ◌++◌, length, replicate, slice_index_or, slice_set, count_by, Option, Some, None, refl, sym, ap, ◌∙◌, subst, arith}
use Rattle.std.specs.List.{All, Contains, sum_by}
use Rattle.std.proofs.lemmas.Bool.{cases_lt}
use Rattle.std.proofs.lemmas.Bool.Decides.{eqb_tells}
use Rattle.std.proofs.lemmas.List.{append_assoc, append-nil, get_or_past, get_or_default, get_or-set_other, length-set, length-replicate, length_push}
use Rattle.std.proofs.lemmas.Grind.{get_or-set_at}
use Rattle.std.proofs.lemmas.List.Elements.{All-nil, All-push, All-contains, Contains-append_left, Contains-push}
use Rattle.std.proofs.lemmas.List.Folds.{sum_by-replicate}
use Rattle.std.proofs.lemmas.List.Sums.{count_by-le-length, sum_by-set, sum_by_push}
use Rattle.std.proofs.lemmas.Option.{same_Some}
use Rattle.heap_words.specs.Decoded.{PointerWord, decode, pointer_in}
use Rattle.checkpoint_text.specs.declared.saved_record.SavedRecord.{SavedRecord}
use Rattle.checkpoint_text.specs.Records.{record_there}
use Rattle.checkpoint_text.specs.Visits.{Visited, added, is_new, met, met_at, met_from, unvisited, with_record}
use Rattle.checkpoint_text.specs.Reached.{Reaches, RefersTo, IsThere, times_listed}
use Rattle.checkpoint_text.proofs.Finds.{address_is, counted_stands, as_count, pointer_is}

-- ---- visited

new_false : (b : Bool) → not b ≡ true → b ≡ false
new_false true is = cc
new_false false is = refl

old_true : (b : Bool) → not b ≡ false → b ≡ true
old_true true is = refl
old_true false is = cc

-- an address that is new is in the heap
new_within : (visited : List Bool) (a : ℕ) → is_new visited a ≡ true → a < length visited
new_within visited a new = ⊎_elim
    (λ (within : a < length visited). within)
    (λ (beyond : length visited ≤ a). absurd (let differ : true ≡ false = sym (get_or_past visited a true beyond) ∙ new_false (slice_index_or visited a true) new in cc))
    (cases_lt a (length visited))

new_unset : (visited : List Bool) (a : ℕ) → is_new visited a ≡ true → slice_index_or visited a false ≡ false
new_unset visited a new = get_or_default visited a false true (new_within visited a new) ∙ new_false (slice_index_or visited a true) new

old_set : (visited : List Bool) (a : ℕ) → a < length visited → is_new visited a ≡ false → slice_index_or visited a false ≡ true
old_set visited a within old = get_or_default visited a false true within ∙ old_true (slice_index_or visited a true) old

none_set : (n a : ℕ) → slice_index_or (replicate n false) a false ≡ false
none_set zero a = get_or_past [] a false (omega arith)
none_set (suc n) zero = refl
none_set (suc n) (suc a) = none_set n a

module _ (heap : ℕ → ℕ) where
  -- ---- a word by what it refers to

  pub met_none : (m : Visited) (word : ℕ) → pointer_in (decode word) ≡ None → met heap word m ≡ m
  unfolding met
  met_none m word none = ap (met_at heap m) none

  met_pointer : (m : Visited) (word address : ℕ) (o : Option SavedRecord) → pointer_in (decode word) ≡ Some address → record_there heap address ≡ o → met heap word m ≡ added m o
  unfolding met
  met_pointer m word address o is found = ap (met_at heap m) is ∙ ap (added m) found

  pub met_nothing : (m : Visited) (word address : ℕ) → pointer_in (decode word) ≡ Some address → record_there heap address ≡ None → met heap word m ≡ m
  met_nothing m word address is none = met_pointer m word address None is none

  pub met_new : (m : Visited) (word address : ℕ) (r : SavedRecord) → pointer_in (decode word) ≡ Some address → record_there heap address ≡ Some r → is_new m.visited r.address ≡ true → met heap word m ≡ with_record m r
  met_new m word address r is found new = met_pointer m word address (Some r) is found ∙ ap (λ (b : Bool). cond b (with_record m r) m) new

  pub met_old : (m : Visited) (word address : ℕ) (r : SavedRecord) → pointer_in (decode word) ≡ Some address → record_there heap address ≡ Some r → is_new m.visited r.address ≡ false → met heap word m ≡ m
  met_old m word address r is found old = met_pointer m word address (Some r) is found ∙ ap (λ (b : Bool). cond b (with_record m r) m) old

-- ---- what stays so

-- the visited are those of the records, each of which is listed once, stands there, and is reached
pub record IsVisited (heap : ℕ → ℕ) (board top : ℕ) (m : Visited) : Type 0 where
  pub len : length m.visited ≡ top
  pub counts : (a : ℕ) → times_listed a m.records ≡ as_count (slice_index_or m.visited a false)
  pub total : count_by (λ b. b) m.visited ≡ length m.records
  pub stands : All (IsThere heap) m.records
  pub reached : All (Reaches heap board) m.records

-- records were added behind those that were listed
pub record Grows (m later : Visited) : Type 0 where
  pub more : List SavedRecord
  pub is : later.records ≡ m.records ++ more

grows_not : (m : Visited) → Grows m m
grows_not m = record { more = []; is = sym (append-nil m.records) }

grows_on : (a b c : Visited) → Grows a b → Grows b c → Grows a c
grows_on a b c first second = record { more = first.more ++ second.more; is = second.is ∙ ap (λ (xs : List SavedRecord). xs ++ second.more) first.is ∙ append_assoc a.records first.more second.more }

pub still_listed : (m later : Visited) (r : SavedRecord) → Grows m later → Contains m.records r → Contains later.records r
still_listed m later r grows has = subst (λ (xs : List SavedRecord). Contains xs r) (sym grows.is) (Contains-append_left m.records grows.more r has)

module _ (heap : ℕ → ℕ) (board top : ℕ) where
  pub unvisited_is : IsVisited heap board top (unvisited top)
  unvisited_is = record {
    len = length-replicate top false;
    counts = λ a. ap as_count (sym (none_set top a));
    total = sum_by-replicate as_count top false ∙ omega arith;
    stands = All-nil (IsThere heap);
    reached = All-nil (Reaches heap board);
  }

  -- no more records are listed than there are words
  pub listed_within : (m : Visited) → IsVisited heap board top m → length m.records ≤ top
  listed_within m k = omega (arith, k.total, k.len, count_by-le-length (λ b. b) m.visited)

  module _ (m : Visited) (k : IsVisited heap board top m) (r : SavedRecord) where
    counts_more : is_new m.visited r.address ≡ true → (a : ℕ) → times_listed a m.records + as_count (r.address == a) ≡ as_count (slice_index_or (slice_set m.visited r.address true) a false)
    counts_more new a = ⊎_elim
        (λ (h : ((r.address == a) ≡ true) × (r.address ≡ a)).
        let unset = subst (λ (b : ℕ). slice_index_or m.visited b false ≡ false) h.1 (new_unset m.visited r.address new) in
        let none : times_listed a m.records ≡ 0 = k.counts a ∙ ap as_count unset in
        let set_there = get_or-set_at m.visited r.address a true false (sym h.1) (new_within m.visited r.address new) in
        rw (h.0, set_there, none) refl)
        (λ (h : ((r.address == a) ≡ false) × (r.address ≢ a)).
        let other = get_or-set_other m.visited r.address a true false (λ e. h.1 (sym e)) in
        rw (h.0, other) (omega (arith, k.counts a)))
        (eqb_tells r.address a)

    with_visited : is_new m.visited r.address ≡ true → IsThere heap r → Reaches heap board r → IsVisited heap board top (with_record m r)
    with_visited new stands reached = record {
      len = length-set m.visited r.address true ∙ k.len;
      counts = λ a. sum_by_push (λ (s : SavedRecord). as_count (s.address == a)) m.records r ∙ counts_more new a;
      total =
          let change : sum_by as_count (slice_set m.visited r.address true) + as_count (slice_index_or m.visited r.address false) ≡ sum_by as_count m.visited + 1 = sum_by-set as_count m.visited r.address true false (new_within m.visited r.address new) in
          let unset = new_unset m.visited r.address new in
          let added_one = rw unset at change in
          omega (arith, added_one, k.total, length_push m.records r);
      stands = All-push (IsThere heap) m.records r k.stands stands;
      reached = All-push (Reaches heap board) m.records r k.reached reached;
    }

    -- a record whose address is visited is listed
    visited_has : r.address < top → is_new m.visited r.address ≡ false → IsThere heap r → Contains m.records r
    visited_has within old stands =
        let set = old_set m.visited r.address (omega (arith, k.len)) old in
        let some : 0 < times_listed r.address m.records = omega (arith, k.counts r.address ∙ ap as_count set) in
        let there = counted_stands r.address m.records some in
        let its : record_there heap there.0.address ≡ Some there.0 = All-contains (IsThere heap) m.records there.0 k.stands there.1 in
        let same : there.0 ≡ r = same_Some there.0 r (sym its ∙ ap (record_there heap) there.2 ∙ stands) in
        subst (λ (s : SavedRecord). Contains m.records s) same there.1

    added_visited_by : (b : Bool) → is_new m.visited r.address ≡ b → IsThere heap r → Reaches heap board r → IsVisited heap board top (cond b (with_record m r) m)
    added_visited_by true new stands reached = with_visited new stands reached
    added_visited_by false old stands reached = k

    added_has_by : (b : Bool) → is_new m.visited r.address ≡ b → r.address < top → IsThere heap r → Contains (cond b (with_record m r) m).records r
    added_has_by true new within stands = Contains-push m.records r
    added_has_by false old within stands = visited_has within old stands

  added_grows_by : (m : Visited) (r : SavedRecord) (b : Bool) → Grows m (cond b (with_record m r) m)
  added_grows_by m r true = record { more = r ∷ []; is = refl }
  added_grows_by m r false = grows_not m

  added_grows : (m : Visited) (o : Option SavedRecord) → Grows m (added m o)
  added_grows m None = grows_not m
  added_grows m (Some r) = added_grows_by m r (is_new m.visited r.address)

  met_at_grows : (m : Visited) (p : Option ℕ) → Grows m (met_at heap m p)
  met_at_grows m None = grows_not m
  met_at_grows m (Some address) = added_grows m (record_there heap address)

  -- where it was found it stands
  found_stands : (address : ℕ) (r : SavedRecord) → record_there heap address ≡ Some r → IsThere heap r
  found_stands address r found = ap (record_there heap) (address_is heap address r found) ∙ found

  added_visited : (m : Visited) (address : ℕ) (o : Option SavedRecord) → record_there heap address ≡ o → IsVisited heap board top m → ((r : SavedRecord) → o ≡ Some r → Reaches heap board r) → IsVisited heap board top (added m o)
  added_visited m address None found k leads = k
  added_visited m address (Some r) found k leads = added_visited_by m k r (is_new m.visited r.address) refl (found_stands address r found) (leads r refl)

  met_at_visited : (m : Visited) (p : Option ℕ) → IsVisited heap board top m → ((address : ℕ) (r : SavedRecord) → p ≡ Some address → record_there heap address ≡ Some r → Reaches heap board r) → IsVisited heap board top (met_at heap m p)
  met_at_visited m None k leads = k
  met_at_visited m (Some address) k leads = added_visited m address (record_there heap address) refl k (λ r is. leads address r refl is)

  -- ---- after a word

  pub met_grows : (m : Visited) (word : ℕ) → Grows m (met heap word m)
  unfolding met
  met_grows m word = met_at_grows m (pointer_in (decode word))

  pub met_visited : (m : Visited) (word : ℕ) → IsVisited heap board top m → ((r : SavedRecord) → RefersTo heap word r → Reaches heap board r) → IsVisited heap board top (met heap word m)
  unfolding met
  met_visited m word k leads = met_at_visited m (pointer_in (decode word)) k (λ address r is found. leads r (address, pointer_is (decode word) address is, found))

  met_is : (m : Visited) (word address : ℕ) (r : SavedRecord) → decode word ≡ PointerWord address → record_there heap address ≡ Some r → met heap word m ≡ added m (Some r)
  unfolding met
  met_is m word address r is found = ap (λ d. met_at heap m (pointer_in d)) is ∙ ap (added m) found

  module _ (bounded : (address : ℕ) (r : SavedRecord) → record_there heap address ≡ Some r → address < top) where
    pub met_has : (m : Visited) (word : ℕ) (r : SavedRecord) → IsVisited heap board top m → RefersTo heap word r → Contains (met heap word m).records r
    met_has m word r k refers =
        let found = refers.2 in
        let within : r.address < top = subst (λ (a : ℕ). a < top) (sym (address_is heap refers.0 r found)) (bounded refers.0 r found) in
        subst (λ (later : Visited). Contains later.records r) (sym (met_is m word refers.0 r refers.1 found)) (added_has_by m k r (is_new m.visited r.address) refl within (found_stands refers.0 r found))

    -- ---- after the words of a run

    pub met_from_grows : (m : Visited) (first count : ℕ) → Grows m (met_from heap first count m)
    met_from_grows m first zero = grows_not m
    met_from_grows m first (suc x) = grows_on m (met_from heap first x m) (met_from heap first (suc x) m) (met_from_grows m first x) (met_grows (met_from heap first x m) (heap (first + x)))

    pub met_from_visited : (m : Visited) (first count : ℕ) → IsVisited heap board top m → ((x : ℕ) (r : SavedRecord) → x < count → RefersTo heap (heap (first + x)) r → Reaches heap board r) → IsVisited heap board top (met_from heap first count m)
    met_from_visited m first zero k leads = k
    met_from_visited m first (suc x) k leads =
        met_visited (met_from heap first x m) (heap (first + x)) (met_from_visited m first x k (λ y r below. leads y r (omega (arith, below)))) (λ r. leads x r (omega arith))

    pub met_from_has : (m : Visited) (first count : ℕ) → IsVisited heap board top m → ((x : ℕ) (r : SavedRecord) → x < count → RefersTo heap (heap (first + x)) r → Reaches heap board r)
        → (x : ℕ) (r : SavedRecord) → x < count → RefersTo heap (heap (first + x)) r → Contains (met_from heap first count m).records r
    met_from_has m first zero k leads x r below refers = absurd (omega (arith, below))
    met_from_has m first (suc y) k leads x r below refers = ⊎_elim
        (λ (before : x < y).
        still_listed (met_from heap first y m) (met_from heap first (suc y) m) r (met_grows (met_from heap first y m) (heap (first + y)))
        (met_from_has m first y k (λ z s low. leads z s (omega (arith, low))) x r before refers))
        (λ (last : y ≤ x).
        let here : x ≡ y = omega (arith, last, below) in
        met_has (met_from heap first y m) (heap (first + y)) r (met_from_visited m first y k (λ z s low. leads z s (omega (arith, low)))) (subst (λ (z : ℕ). RefersTo heap (heap (first + z)) r) here refers))
        (cases_lt x y)
