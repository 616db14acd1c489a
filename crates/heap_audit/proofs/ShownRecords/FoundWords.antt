-- The first word of the heap that isn't as it should be, over the records that were looked at so far.
use Rattle.std.proofs.Common.{◌≡◌, ℕ, zero, suc, ◌+◌, ◌-◌, ◌*◌, ◌<◌, ◌≤◌, Bool, false, List, [], ◌∷◌, ◌++◌, Option, Some, None, get_or, length, map, take, refl, sym, ap, ◌∙◌, subst, arith, ⊎_elim, inl, inr, true}
use Rattle.std.specs.Prelude.{IfSome, IsSomeAnd, MatchOption, option_map, nat_lt, IsTrue, ◌↔◌}
use Rattle.std.specs.List.{Contains}
use Rattle.std.proofs.lemmas.Bool.{cases_eq, cases_lt, le-leb, lt-leb, lt-ltb, le-ltb}
use Rattle.std.proofs.lemmas.List.{append-nil, get_or-append_right, get_or-map, get_or_append_left, length-append, length-map, take_all}
use Rattle.std.proofs.lemmas.List.Elements.{Contains-append_left, Contains-get_or, Contains-push, Contains-push_cases}
use Rattle.plain_state.specs.declared.value.Identity.{Identity}
use Rattle.plain_state.specs.State as plain
use Rattle.space_map.specs.declared.spaces.TheConstants.{MOST_PAGES}
use Rattle.space_map.specs.Spaces.{space_start, to_space, past_heaps}
use Rattle.heap_state.specs.Kept.{reserved_in}
use Rattle.heap_state.specs.Meaning.Denotes.{named_by}
use Rattle.heap_state.specs.Meaning.Dump.{Dump}
use Rattle.heap_state.specs.Meaning.Represents.{BoardWordShows, IsCopying, IsInHeap, IsInOrder, IsWalkedSpace, own_header}
use Rattle.heap_state.specs.Memory.Era.{from_space}
use Rattle.heap_state.specs.Memory.Walk.{Met, AtEnd, Nothing, Reserved, Record, Broken, Walked, is_closed_before, is_protected, meets, next_place, old_walk_in, walk_in}
use Rattle.heap_audit.specs.Breaks.{BreaksAt, BreaksSpace, break_at, break_in}
use Rattle.heap_audit.specs.Firsts.{TellsFirst, least}
use Rattle.heap_audit.specs.Places.{TellsFirstUnseen, TellsFirstWrongSpace, WordSeen}
use Rattle.heap_audit.specs.Records.{NoneOwned, WordOfRecordShows}
use Rattle.heap_audit.specs.Showing.{TellsFirstRegister}
use Rattle.heap_audit.specs.Told.{extent_of}
use Rattle.heap_audit.specs.Walks.{AreWalks, walked}
use Rattle.heap_audit.specs.declared.places.place.Place.{Place}
use Rattle.heap_audit.specs.declared.places.place.Place.TheVariants.{Word}
use Rattle.heap_audit.specs.declared.walks.RecordAt.{RecordAt}
use Rattle.heap_audit.specs.declared.walks.Walks.{Walks}
use Rattle.heap_audit.proofs.WalkedSpaces.Breaks.{unbroken_end}
use Rattle.heap_audit.proofs.WrongPlaces.FirstPlaces.{all_places, found_first, shift_first, word_unseen}
use Rattle.heap_audit.proofs.WalkedSpaces.Leasts.{first_least, first_same}
use Rattle.heap_audit.proofs.ShownRecords.RecordsSoFar.{walked_more}
use Rattle.heap_audit.proofs.WalkedSpaces.SpaceWalks.{both_found, in_one_walk, lies_in_heap, now_found, starts}

-- ---- one record more

module _ (d : Dump) (p : plain.Plain) where
  -- no walk breaks there, and each of these records shows what it should by the word, if it has it
  abbrev pub SeenBy : List Walked → ℕ → Type 0
  SeenBy ws a = (BreaksAt d a → ⊥) × ((w : Walked) → Contains ws w → (i : ℕ) → w.at + i ≡ a → WordOfRecordShows d p w i)

  pub none_yet : (o : Option ℕ) → TellsFirst (λ a. BreaksAt d a → ⊥) o → TellsFirst (SeenBy []) o
  none_yet o first = first_same (λ a. BreaksAt d a → ⊥) (SeenBy []) o (λ a apart. (apart, λ w has i at. absurd (omega (arith, has.1)))) (λ a s. s.0) first

  module _ (rs : List RecordAt) (i : ℕ) (z r : RecordAt) (inside : i < length rs) (is : get_or rs i z ≡ r) where
    abbrev before : List Walked
    before = map walked (take i rs)

    abbrev after : List Walked
    after = map walked (take (i + 1) rs)

    -- this record shows what it should
    abbrev Here : ℕ → Type 0
    Here a = (k : ℕ) → r.at + k ≡ a → WordOfRecordShows d p (walked r) k

    one_more : after ≡ before ++ walked r ∷ []
    one_more = walked_more rs i z r inside is

    to_all : (a : ℕ) → SeenBy before a × Here a → SeenBy after a
    to_all a both = (
      both.0.0,
      λ w has k at. ⊎_elim
          (λ old. both.0.1 w old k at)
          (λ (same : walked r ≡ w). subst (λ (v : Walked). WordOfRecordShows d p v k) same (both.1 k (ap (λ (v : Walked). v.at + k) same ∙ at)))
          (Contains-push_cases before (walked r) w (subst (λ (xs : List Walked). Contains xs w) one_more has)),
    )

    from_all : (a : ℕ) → SeenBy after a → SeenBy before a × Here a
    from_all a s = (
      (s.0, λ w has k at. s.1 w (subst (λ (xs : List Walked). Contains xs w) (sym one_more) (Contains-append_left before (walked r ∷ []) w has)) k at),
      λ k at. s.1 (walked r) (subst (λ (xs : List Walked). Contains xs (walked r)) (sym one_more) (Contains-push before (walked r))) k at,
    )

    -- one that shows all that it should changes nothing
    pub right_record : (o : Option ℕ) → TellsFirst (WordOfRecordShows d p (walked r)) None → TellsFirst (SeenBy before) o → TellsFirst (SeenBy after) o
    right_record o shows first = first_same (SeenBy before) (SeenBy after) o (λ a s. to_all a (s, λ k at. shows k)) (λ a s. (from_all a s).0) first

    -- the first word of one that doesn't may be the first of all
    pub wrong_record : (o : Option ℕ) (x : ℕ) → TellsFirst (WordOfRecordShows d p (walked r)) (Some x) → TellsFirst (SeenBy before) o → TellsFirst (SeenBy after) (least o (Some (r.at + x)))
    wrong_record o x shows first = first_same (λ a. SeenBy before a × Here a) (SeenBy after) (least o (Some (r.at + x))) to_all from_all
        (first_least (SeenBy before) Here o (Some (r.at + x)) first (shift_first (WordOfRecordShows d p (walked r)) r.at (Some x) shows))

  pub all_seen_by : (rs : List RecordAt) (i : ℕ) (o : Option ℕ) → length rs ≤ i → ((w : Walked) → Contains (map walked rs) w ↔ IsInHeap d w)
      → TellsFirst (SeenBy (map walked (take i rs))) o → TellsFirst (WordSeen d p) o
  all_seen_by rs i o all found first = found_first d p (map walked rs) found o (subst (λ (xs : List RecordAt). TellsFirst (SeenBy (map walked xs)) o) (take_all i rs all) first)

-- the lesser of two that are below a limit is
pub least_below : (o : Option ℕ) (b limit : ℕ) → IfSome o (λ a. a < limit) → b < limit → IfSome (least o (Some b)) (λ a. a < limit)
least_below None b limit few short = short
least_below (Some a) b limit few short = ⊎_elim
    (λ (l : b < a). rw (lt-ltb b a l) short)
    (λ (l : a ≤ b). rw (le-ltb b a l) few)
    (cases_lt b a)

-- ---- where a walk breaks

module _ (passes : ℕ → Bool) (reserved heap : ℕ → ℕ) (end : ℕ) where
  break_by : (n at a : ℕ) (m : Met) → at < end → break_at end at m (break_in n passes reserved heap end (next_place end at m)) ≡ Some a
      → ((there : ℕ) → break_in n passes reserved heap end there ≡ Some a → a < end) → a < end
  break_by n at a AtEnd before is rest = absurd (cc)
  break_by n at a Nothing before is rest = rest (next_place end at Nothing) is
  break_by n at a (Reserved size) before is rest = rest (at + size) is
  break_by n at a (Record size) before is rest = ⊎_elim
      (λ (over : end < at + size). let e : Some at ≡ Some a = rw (lt-leb (at + size) end over) at is in let q : at ≡ a = cc in omega arith)
      (λ (within : at + size ≤ end). rest (at + size) (rw (le-leb (at + size) end within) at is))
      (cases_lt end (at + size))
  break_by n at a Broken before is rest = let q : at ≡ a = cc in omega arith

  pub break_lies : (turns at a : ℕ) → break_in turns passes reserved heap end at ≡ Some a → a < end
  unfolding break_in
  break_lies zero at a is = absurd (cc)
  break_lies (suc n) at a is = ⊎_elim
      (λ (before : at < end). break_by n at a (meets passes reserved heap end at) before is (λ there e. break_lies n there a e))
      (λ (behind : end ≤ at). absurd (let none : None ≡ Some a = sym (unbroken_end passes reserved heap end (suc n) at behind) ∙ is in cc))
      (cases_lt at end)

module _ (d : Dump) (ordered : (space : ℕ) → IsWalkedSpace d.table space → IsInOrder d.table space) where
  abbrev n : ℕ
  n = d.table.pages

  breaks_in_space : (passes : ℕ → Bool) (space a : ℕ) → IsInOrder d.table space
      → BreaksSpace passes (reserved_in d.kept) d.table.heap (extent_of d.table space).start (extent_of d.table space).front (extent_of d.table space).low (extent_of d.table space).end a
      → a < space_start n space + 64 * n
  breaks_in_space passes space a order (inl e) =
      let l = break_lies (λ p. false) (reserved_in d.kept) d.table.heap (extent_of d.table space).front ((extent_of d.table space).front - space_start n space) (space_start n space) a e in
      omega (arith, l, order.area, order.size)
  breaks_in_space passes space a order (inr e) =
      let l = break_lies passes (λ x. 0) d.table.heap (extent_of d.table space).end ((extent_of d.table space).end - (extent_of d.table space).low) (extent_of d.table space).low a e in
      omega (arith, l, order.size)

  pub breaks_in_heap : (a : ℕ) → BreaksAt d a → a < 128 * n
  breaks_in_heap a (inl now) =
      let l = breaks_in_space (λ p. is_protected d.table.gate.epoch (d.table.page p)) (to_space d.table.gate.epoch) a (ordered (to_space d.table.gate.epoch) (inl refl)) now in
      let s = starts n (to_space d.table.gate.epoch) (omega arith) in
      omega (arith, l, s)
  breaks_in_heap a (inr old) =
      let l = breaks_in_space (λ p. is_closed_before d.table.gate.epoch (d.table.page p)) (from_space d.table.gate.epoch) a (ordered (from_space d.table.gate.epoch) (inr (old.0, refl))) old.1 in
      let s = starts n (from_space d.table.gate.epoch) (omega arith) in
      omega (arith, l, s)

  pub first_break_in_heap : (a : ℕ) → TellsFirst (λ b. BreaksAt d b → ⊥) (Some a) → a < 128 * n
  first_break_in_heap a first = ⊎_elim
      (λ (l : a < 128 * n). l)
      (λ (l : 128 * n ≤ a). absurd (first.0 (λ b. let k = breaks_in_heap a b in omega arith)))
      (cases_lt a (128 * n))

  pub break_short : (o : Option ℕ) → n ≤ MOST_PAGES → TellsFirst (λ b. BreaksAt d b → ⊥) o → IfSome o (λ a. a < 2 * past_heaps)
  break_short None few first = tt
  break_short (Some a) few first = let l = first_break_in_heap a first in omega arith

  -- ---- what the walks met

  module _ (ws : Walks) (are : AreWalks d ws) where
    abbrev rs : List RecordAt
    rs = ws.records.items

    pub met_in_heap : (w : Walked) → Contains (map walked rs) w ↔ IsInHeap d w
    met_in_heap w = ⊎_elim
        (λ (e : d.table.traced ≡ d.table.gate.epoch + 1). let traced : IsCopying d.table → ⊥ = (λ copying. copying e) in now_found d rs traced (are.traced traced) w)
        (λ (copying : IsCopying d.table). both_found d rs copying (are.copying copying) w)
        (cases_eq d.table.traced (d.table.gate.epoch + 1))

    module _ (xs : List RecordAt) (same : xs ≡ rs) (i : ℕ) (z : RecordAt) (within : i < length xs) where
      abbrev r : RecordAt
      r = get_or xs i z

      pub inside : i < length rs
      inside = omega (arith, within, ap length same)

      pub met_item : get_or rs i z ≡ r
      met_item = ap (λ (ys : List RecordAt). get_or ys i z) (sym same)

      met_at : get_or (map walked rs) i (walked z) ≡ walked r
      met_at = get_or-map walked rs i z (walked z) inside ∙ ap walked met_item

      pub met_here : IsInHeap d (walked r)
      met_here = (met_in_heap (walked r)).0 (subst (λ (w : Walked). Contains (map walked rs) w) met_at (Contains-get_or (map walked rs) i (walked z) (omega (arith, inside, length-map rs walked))))

      pub met_low : (pages : ℕ) → n ≡ pages → r.at < 128 * pages
      met_low pages e = let l = lies_in_heap d ordered (walked r) met_here in omega (arith, l, e)

      -- it is of the epoch's space if it is one of the first
      in_now : (others : List Walked) → map walked rs ≡ walk_in d.table d.kept ++ others → i < ws.now → Contains (walk_in d.table d.kept) (walked r)
      in_now others e l =
          let few : i < length (walk_in d.table d.kept) = omega (arith, l, are.now) in
          let at : get_or (walk_in d.table d.kept) i (walked z) ≡ walked r =
          sym (get_or_append_left (walk_in d.table d.kept) others (walked z) i few) ∙ (ap (λ (xs : List Walked). get_or xs i (walked z)) (sym e) ∙ met_at) in
          subst (λ (w : Walked). Contains (walk_in d.table d.kept) w) at (Contains-get_or (walk_in d.table d.kept) i (walked z) few)

      in_others : (others : List Walked) → map walked rs ≡ walk_in d.table d.kept ++ others → ws.now ≤ i → Contains others (walked r)
      in_others others e l =
          let k : ℕ = i - length (walk_in d.table d.kept) in
          let few : k < length others = omega (arith, l, inside, are.now, length-map rs walked, ap length e, length-append (walk_in d.table d.kept) others) in
          let at : get_or others k (walked z) ≡ walked r =
          sym (get_or-append_right (walk_in d.table d.kept) others (length (walk_in d.table d.kept)) i (walked z) refl (omega (arith, l, are.now))) ∙ (ap (λ (xs : List Walked). get_or xs i (walked z)) (sym e) ∙ met_at) in
          subst (λ (w : Walked). Contains others w) at (Contains-get_or others k (walked z) few)

      now_by : (others : List Walked) → map walked rs ≡ walk_in d.table d.kept ++ others → (Contains (walk_in d.table d.kept) (walked r) → Contains others (walked r) → ⊥)
          → IsTrue (nat_lt i ws.now) ↔ Contains (walk_in d.table d.kept) (walked r)
      now_by others e apart = ⊎_elim
          (λ (l : i < ws.now). (λ t. in_now others e l, λ has. lt-ltb i ws.now l))
          (λ (l : ws.now ≤ i). (
            λ t. absurd (let q : true ≡ false = sym t ∙ le-ltb i ws.now l in cc),
            λ has. absurd (apart has (in_others others e l)),
          ))
          (cases_lt i ws.now)

      pub met_now : IsTrue (nat_lt i ws.now) ↔ Contains (walk_in d.table d.kept) (walked r)
      met_now = ⊎_elim
          (λ (e : d.table.traced ≡ d.table.gate.epoch + 1).
          now_by [] (are.traced (λ copying. copying e) ∙ sym (append-nil (walk_in d.table d.kept))) (λ now has. omega (arith, has.1)))
          (λ (copying : IsCopying d.table).
          now_by (old_walk_in d.table d.kept) (are.copying copying) (λ now has. in_one_walk d ordered (walked r) now copying has))
          (cases_eq d.table.traced (d.table.gate.epoch + 1))

-- ---- owners

-- where no record that was found has a header with the identity, none in the heap has
pub owned_in_heap : (d : Dump) (ws : List Walked) (i : Identity) (o : Option ℕ) → ((w : Walked) → Contains ws w ↔ IsInHeap d w) → TellsFirst (NoneOwned d ws i) o
    → TellsFirst (λ a. (w : Walked) → IsInHeap d w → w.at ≡ a → named_by (own_header d w.at) ≡ Some i → ⊥) o
owned_in_heap d ws i o found first = first_same (NoneOwned d ws i) (λ a. (w : Walked) → IsInHeap d w → w.at ≡ a → named_by (own_header d w.at) ≡ Some i → ⊥) o
    (λ a none w there. none w ((found w).1 there)) (λ a none w has. none w ((found w).0 has)) first

-- ---- the first place

pub word_told : (d : Dump) (p : plain.Plain) → TellsFirstWrongSpace d None → TellsFirstRegister d p None → TellsFirst (λ x. x < 16 → BoardWordShows d p x) None → (o : Option ℕ)
    → TellsFirst (WordSeen d p) o → TellsFirstUnseen d p (option_map Word o)
word_told d p ordered registers board None tells = all_places d p ordered registers board tells
word_told d p ordered registers board (Some a) tells = word_unseen d p ordered registers board a tells

-- what is made of a place where there is one
pub mapped : (o : Option ℕ) (m : Option Place) (P : ℕ → Place → Type 0) → ((x : ℕ) (r : Place) → P x r → r ≡ Word x) → MatchOption o (m ≡ None) (λ x. IsSomeAnd m (P x)) → m ≡ option_map Word o
mapped None m P is e = e
mapped (Some x) None P is e = absurd e
mapped (Some x) (Some r) P is e = ap (λ (q : Place). Some q) (is x r e)
