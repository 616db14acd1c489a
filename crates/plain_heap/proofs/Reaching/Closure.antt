-- The function that tells what is reachable tells it.
use Rattle.std.proofs.Common.{◌≡◌, ◌⊎◌, inl, inr, ℕ, zero, suc, ◌+◌, ◌<◌, ◌≤◌, Bool, true, false, cond, not, List, [], ◌∷◌, ◌++◌, length, map, Option, Some, None, slice_get, get_or, take, append-nil, refl, ap, sym, subst, ◌∙◌, ⊎_elim, arith}
use Rattle.std.specs.List.{enumerate_from, filter, flat_map, range_with_len}
use Rattle.std.specs.Option.{is_none, option_map_or}
use Rattle.std.proofs.lemmas.Bool.{and_parts, eq-eqb, eqb-true}
use Rattle.std.proofs.lemmas.List.{length-take-le, map-append, take_more}
use Rattle.std.proofs.lemmas.List.Elements.{filter-append}
use Rattle.std.proofs.lemmas.List.Filters.{length-filter_both}
use Rattle.std.proofs.lemmas.Option.{same_Some}
use Rattle.plain_state.specs.declared.end.End.{End}
use Rattle.plain_state.specs.declared.kind.Kind.{Kind}
use Rattle.plain_state.specs.declared.value.Identity.{Identity}
use Rattle.plain_state.specs.declared.value.Value.{Value}
use Rattle.plain_state.specs.declared.value.Value.TheVariants.{Number, Reference}
use Rattle.plain_state.specs.Layout.{is_field, word_of_value}
use Rattle.plain_state.specs.Reachable.{Reachable, FromRegister, FromBoard, FromRecord}
use Rattle.plain_state.specs.State.{Record, Heap, Mutator, Plain, made_by, record_of}
use Rattle.plain_state.proofs.Elements.{at_serial_within}
use Rattle.plain_state.proofs.Stored.{maker_within}
use Rattle.plain_heap.specs.Action.{are_same}
use Rattle.plain_heap.specs.Reaching.{ReachesIsReachable, closure, fields_at, fields_of, held_by, identities, identities_by, is_led_to, reached_records, reaches, refer_to, roots}
use Rattle.plain_heap.proofs.Reaching.Members.{In, In-append_cases, In-append_left, In-append_right, In-filter, In-filter_from, In-flat_map, In-flat_map_from, In-from_list_any, In-from_slice_get, In-map, In-map_from, In-range, all-fail, list_any-In, none-passes, slice_get-In}

-- ---- values

pub same_reference : (v : Value) (i : Identity) → are_same v (Reference i) ≡ true → v ≡ Reference i
same_reference (Number n) i is = absurd (cc)
same_reference (Reference j) i is =
    let of = and_parts _ _ is in
    λ t. Reference (record { mutator = eqb-true j.mutator i.mutator of.0 t; serial = eqb-true j.serial i.serial of.1 t })

itself : (i : Identity) → are_same (Reference i) (Reference i) ≡ true
itself i = rw (eq-eqb i.mutator i.mutator refl, eq-eqb i.serial i.serial refl) refl

pub refers-In : (values : List Value) (i : Identity) → In (Reference i) values → refer_to values i ≡ true
refers-In values i is = list_any-In (λ v. are_same v (Reference i)) (Reference i) values is (itself i)

pub In-from_refers : (values : List Value) (i : Identity) → refer_to values i ≡ true → In (Reference i) values
In-from_refers values i is =
    let found = In-from_list_any (λ v. are_same v (Reference i)) values is in
    subst (λ v. In v values) (same_reference found.0 i found.2) found.1

-- ---- fields

abbrev pub fields_from : Kind → (at : ℕ) → List Value → List Value
fields_from kind at values = map (λ (f : ℕ × Value). f.1) (filter (λ (f : ℕ × Value). is_field kind (word_of_value kind f.0)) (enumerate_from at values))

In-fields : (kind : Kind) (at : ℕ) (values : List Value) (n : ℕ) (v : Value) → slice_get values n ≡ Some v → is_field kind (word_of_value kind (at + n)) ≡ true → In v (fields_from kind at values)
In-fields kind at values n v is field = In-map (λ (f : ℕ × Value). f.1) (at + n, v) _ (In-filter _ (at + n, v) (enumerate_from at values) (numbered at values n is) field)
  where
    numbered : (at : ℕ) (values : List Value) (n : ℕ) → slice_get values n ≡ Some v → In (at + n, v) (enumerate_from at values)
    numbered at [] n is = absurd (cc)
    numbered at (w ∷ values) zero is = let e : at ≡ at + 0 = omega arith in let f : w ≡ v = same_Some w v is in inl (λ t. (e t, f t))
    numbered at (w ∷ values) (suc n) is =
        let e : (at + 1) + n ≡ at + suc n = omega arith in
        inr (subst (λ k. In (k, v) (enumerate_from (at + 1) values)) e (numbered (at + 1) values n is))

-- a field, by its number
record IsFieldAt (kind : Kind) (at : ℕ) (values : List Value) (v : Value) : Type 0 where
  number : ℕ
  is : slice_get values number ≡ Some v
  field : is_field kind (word_of_value kind (at + number)) ≡ true

In-fields_from : (kind : Kind) (at : ℕ) (values : List Value) (v : Value) → In v (fields_from kind at values) → IsFieldAt kind at values v
In-fields_from kind at values v is =
    let of = In-map_from (λ (f : ℕ × Value). f.1) v _ is in
    let passes = In-filter_from _ of.0 (enumerate_from at values) of.1 in
    let there = number_of at values of.0 passes.0 in
    record {
      number = there.0;
      is = there.2 ∙ ap (λ (w : Value). Some w) of.2;
      field = subst (λ n. is_field kind (word_of_value kind n) ≡ true) there.1 passes.1;
    }
  where
    number_of : (at : ℕ) (values : List Value) (f : ℕ × Value) → In f (enumerate_from at values) → (n : ℕ) × (f.0 ≡ at + n) × (slice_get values n ≡ Some f.1)
    number_of at [] f is = absurd is
    number_of at (w ∷ values) f (inl e) = let first = ap (λ (g : ℕ × Value). g.0) e in (0, omega (arith, first), ap (λ (g : ℕ × Value). Some g.1) e)
    number_of at (w ∷ values) f (inr is) = let rest = number_of (at + 1) values f is in (suc rest.0, omega (arith, rest.1), rest.2)

enumerate-append : (at : ℕ) (xs ys : List Value) → enumerate_from at (xs ++ ys) ≡ enumerate_from at xs ++ enumerate_from (at + length xs) ys
enumerate-append at [] ys = let e : at ≡ at + 0 = omega arith in ap (λ n. enumerate_from n ys) e
enumerate-append at (x ∷ xs) ys =
    let e : (at + 1) + length xs ≡ at + length (x ∷ xs) = omega arith in
    ap (λ l. (at, x) ∷ l) (enumerate-append (at + 1) xs ys ∙ ap (λ n. enumerate_from (at + 1) xs ++ enumerate_from n ys) e)

-- one value more
pub fields_more : (kind : Kind) (values : List Value) (x : ℕ) (d : Value) → x < length values
    → fields_from kind 0 (take (x + 1) values) ≡ fields_from kind 0 (take x values) ++ cond (is_field kind (word_of_value kind x)) (get_or values x d ∷ []) []
fields_more kind values x d within =
    let front = take x values in
    let v = get_or values x d in
    let IsField : ℕ × Value → Bool = λ f. is_field kind (word_of_value kind f.0) in
    let Value_of : ℕ × Value → Value = λ f. f.1 in
    let long : 0 + length front ≡ x = omega (arith, length-take-le x values (omega arith)) in
    ap (fields_from kind 0) (take_more values x d within)
    ∙ ap (λ l. map Value_of (filter IsField l)) (enumerate-append 0 front (v ∷ []))
    ∙ ap (map Value_of) (filter-append IsField (enumerate_from 0 front) (enumerate_from (0 + length front) (v ∷ [])))
    ∙ map-append Value_of (filter IsField (enumerate_from 0 front)) (filter IsField (enumerate_from (0 + length front) (v ∷ [])))
    ∙ ap (λ n. fields_from kind 0 front ++ map Value_of (filter IsField (enumerate_from n (v ∷ [])))) long
    ∙ ap (λ l. fields_from kind 0 front ++ l) (last v (is_field kind (word_of_value kind x)))
  where
    last : (v : Value) (b : Bool) → map (λ (f : ℕ × Value). f.1) (cond b ((x, v) ∷ []) []) ≡ cond b (v ∷ []) []
    last v true = refl
    last v false = refl

-- what a field of a reachable record refers to is reachable
pub field-reachable : (p : Plain) (from i : Identity) → Reachable p from → In (Reference i) (fields_at p.heap from) → Reachable p i
field-reachable p from i reach is = by_record (record_of p.heap from) refl is
  where
    by_record : (o : Option Record) → record_of p.heap from ≡ o → In (Reference i) (option_map_or fields_of o []) → Reachable p i
    by_record None found none = absurd none
    by_record (Some r) found field =
        let at = In-fields_from r.kind 0 r.values (Reference i) field in
        let e : 0 + at.number ≡ at.number = omega arith in
        FromRecord from r at.number i reach found (subst (λ n. is_field r.kind (word_of_value r.kind n) ≡ true) e at.field) at.is

-- and it is in a field
pub In-fields_at : (heap : Heap) (i : Identity) (r : Record) (n : ℕ) (v : Value) → record_of heap i ≡ Some r → is_field r.kind (word_of_value r.kind n) ≡ true → slice_get r.values n ≡ Some v
    → In v (fields_at heap i)
In-fields_at heap i r n v found field is =
    let e : n ≡ 0 + n = omega arith in
    subst (λ (o : Option Record). In v (option_map_or fields_of o [])) (sym found)
    (In-fields r.kind 0 r.values n v is (subst (λ k. is_field r.kind (word_of_value r.kind k) ≡ true) e field))

-- ---- roots

module _ (p : Plain) where
  pub board-root : (x : ℕ) (i : Identity) → slice_get p.heap.board x ≡ Some (Reference i) → In (Reference i) (roots p)
  board-root x i is = In-append_left (Reference i) p.heap.board _ (In-from_slice_get (Reference i) p.heap.board x is)

  pub register-root : (m : ℕ) (k : Mutator) (j : ℕ) (i : Identity) → slice_get p.mutators m ≡ Some k → k.end ≡ None → slice_get k.registers j ≡ Some (Reference i) → In (Reference i) (roots p)
  register-root m k j i found no_end is =
      In-append_right (Reference i) p.heap.board (flat_map held_by p.mutators)
      (In-flat_map held_by k (Reference i) p.mutators (In-from_slice_get k p.mutators m found) (rw no_end (In-from_slice_get (Reference i) k.registers j is)))

  pub root-reachable : (i : Identity) → In (Reference i) (roots p) → Reachable p i
  root-reachable i is = by_part (In-append_cases (Reference i) p.heap.board (flat_map held_by p.mutators) is)
    where
      by_end : (k : Mutator) (end : Option End) → k.end ≡ end → In k p.mutators → In (Reference i) (cond (is_none end) k.registers []) → Reachable p i
      by_end k (Some why) is there held = absurd held
      by_end k None is there held =
          let found = slice_get-In k p.mutators there in
          let at = slice_get-In (Reference i) k.registers held in
          FromRegister found.0 k at.0 i found.1 is at.1

      by_part : In (Reference i) p.heap.board ⊎ In (Reference i) (flat_map held_by p.mutators) → Reachable p i
      by_part (inl board) = let at = slice_get-In (Reference i) p.heap.board board in FromBoard at.0 i at.1
      by_part (inr held) =
          let of = In-flat_map_from held_by (Reference i) p.mutators held in
          by_end of.0 of.0.end refl of.1 of.2

-- ---- identities

pub In-identities : (heap : Heap) (i : Identity) (r : Record) → record_of heap i ≡ Some r → In i (identities heap)
In-identities heap i r is =
    let within = at_serial_within (made_by heap i.mutator) i.serial r is in
    let maker = maker_within heap i r is in
    In-flat_map (identities_by heap) i.mutator i (range_with_len 0 (length heap.records)) (In-range i.mutator 0 (length heap.records) (omega arith) (omega arith))
    (In-map (λ serial. record { mutator = i.mutator; serial = serial }) i.serial (range_with_len 1 (length (made_by heap i.mutator))) (In-range i.serial 1 (length (made_by heap i.mutator)) (omega arith) (omega arith)))

-- ---- what is reached

module _ (p : Plain) where
  abbrev AreReachable : List Identity → Type 0
  AreReachable reached = (i : Identity) → In i reached → Reachable p i

  -- what is led to from reachable records is reachable
  led-reachable : (reached : List Identity) → AreReachable reached → (i : Identity) → is_led_to p reached i ≡ true → Reachable p i
  led-reachable reached are i led = by_part (In-append_cases (Reference i) (roots p) _ (In-from_refers _ i led))
    where
      by_part : In (Reference i) (roots p) ⊎ In (Reference i) (flat_map (fields_at p.heap) reached) → Reachable p i
      by_part (inl root) = root-reachable p i root
      by_part (inr field) =
          let of = In-flat_map_from (fields_at p.heap) (Reference i) reached field in
          field-reachable p of.0 i (are of.0 of.1) of.2

  abbrev led : List Identity → List Identity → List Identity
  led reached others = filter (is_led_to p reached) others

  abbrev left : List Identity → List Identity → List Identity
  left reached others = filter (λ i. not (is_led_to p reached i)) others

  closure-reachable : (n : ℕ) (reached others : List Identity) → AreReachable reached → AreReachable (closure p n reached others)
  closure-reachable zero reached others are = are
  closure-reachable (suc n) reached others are = closure-reachable n (reached ++ led reached others) (left reached others) more
    where
      more : AreReachable (reached ++ led reached others)
      more i is = by_part (In-append_cases i reached (led reached others) is)
        where
          by_part : In i reached ⊎ In i (led reached others) → Reachable p i
          by_part (inl before) = are i before
          by_part (inr new) = led-reachable reached are i (In-filter_from (is_led_to p reached) i others new).1

  -- ---- nothing else is led to

  -- each of these identities is in the one list or the other
  abbrev Covers : (all reached others : List Identity) → Type 0
  Covers all reached others = (i : Identity) → In i all → In i reached ⊎ In i others

  -- a round more covers the same
  covers-more : (all reached others : List Identity) → Covers all reached others → Covers all (reached ++ led reached others) (left reached others)
  covers-more all reached others covers i is = by_part (covers i is)
    where
      by_test : (b : Bool) → is_led_to p reached i ≡ b → In i others → In i (reached ++ led reached others) ⊎ In i (left reached others)
      by_test true passes there = inl (In-append_right i reached (led reached others) (In-filter (is_led_to p reached) i others there passes))
      by_test false fails there = inr (In-filter (λ i. not (is_led_to p reached i)) i others there (ap not fails))

      by_part : In i reached ⊎ In i others → In i (reached ++ led reached others) ⊎ In i (left reached others)
      by_part (inl before) = inl (In-append_left i reached (led reached others) before)
      by_part (inr there) = by_test (is_led_to p reached i) refl there

  -- if nothing more is led to, it stays so
  closure-stays : (n : ℕ) (reached others : List Identity) → led reached others ≡ [] → closure p n reached others ≡ reached
  closure-stays zero reached others none = refl
  closure-stays (suc n) reached others none =
      rw (none, all-fail (is_led_to p reached) others none, append-nil reached) (closure-stays n reached others none)

  -- whatever of them is led to is reached
  abbrev IsClosed : (all reached : List Identity) → Type 0
  IsClosed all reached = (i : Identity) → In i all → is_led_to p reached i ≡ true → In i reached

  closure-closed : (n : ℕ) (all reached others : List Identity) → length others ≤ n → Covers all reached others → IsClosed all (closure p n reached others)
  closure-closed zero all reached [] few covers = λ i is passes. ⊎_elim (λ (there : In i reached). there) (λ (none : In i []). absurd none) (covers i is)
  closure-closed zero all reached (x ∷ others) few covers = absurd (omega (arith, few))
  closure-closed (suc n) all reached others few covers = by_led (led reached others) refl (λ fewer. closure-closed n all (reached ++ led reached others) (left reached others) fewer (covers-more all reached others covers))
    where
      closed : led reached others ≡ [] → IsClosed all reached
      closed none i is passes = by_part (covers i is)
        where
          by_part : In i reached ⊎ In i others → In i reached
          by_part (inl there) = there
          by_part (inr other) = absurd (let fails = none-passes (is_led_to p reached) others none i other in let both : true ≡ false = sym passes ∙ fails in cc)

      by_led : (l : List Identity) → led reached others ≡ l → (length (left reached others) ≤ n → IsClosed all (closure p (suc n) reached others)) → IsClosed all (closure p (suc n) reached others)
      by_led [] none rest = rw (closure-stays (suc n) reached others none) (closed none)
      by_led (x ∷ l) some rest =
          let both = length-filter_both (is_led_to p reached) (λ i. not (is_led_to p reached i)) (λ i. refl) others in
          let more : length (led reached others) ≡ length (x ∷ l) = ap length some in
          rest (omega (arith, both, more, few))

  abbrev all : List Identity
  all = identities p.heap

  records-closed : IsClosed all (reached_records p)
  records-closed = closure-closed (length all) all [] all (omega arith) (λ i is. inr is)

  reached-led : (i : Identity) → Reachable p i → is_led_to p (reached_records p) i ≡ true
  reached-led _ (FromRegister m k j i found no_end is) = refers-In _ i (In-append_left (Reference i) (roots p) _ (register-root p m k j i found no_end is))
  reached-led _ (FromBoard x i is) = refers-In _ i (In-append_left (Reference i) (roots p) _ (board-root p x i is))
  reached-led _ (FromRecord i r n j reach found field is) =
      let there = records-closed i (In-identities p.heap i r found) (reached-led i reach) in
      refers-In _ j (In-append_right (Reference j) (roots p) (flat_map (fields_at p.heap) (reached_records p))
      (In-flat_map (fields_at p.heap) i (Reference j) (reached_records p) there (In-fields_at p.heap i r n (Reference j) found field is)))

  nothing : AreReachable []
  nothing i is = absurd is

  pub reaches-reachable : (i : Identity) → reaches p i ≡ true → Reachable p i
  unfolding reaches
  reaches-reachable i is = led-reachable (reached_records p) (closure-reachable (length all) [] all nothing) i is

  pub reachable-reaches : (i : Identity) → Reachable p i → reaches p i ≡ true
  unfolding reaches
  reachable-reaches i reach = reached-led i reach

pub reaches_is_reachable : ReachesIsReachable
reaches_is_reachable p i = (reaches-reachable p i, reachable-reaches p i)
