-- The identities of the records that were copied, with one record more, and of all.
use Rattle.std.proofs.Common.{◌≡◌, ℕ, ◌+◌, ◌-◌, ◌^◌, ◌<◌, ◌≤◌, ◌↔◌, ◌⊎◌, ◌≢◌, Bool, true, false, eqb, List, [], ◌∷◌, ◌++◌, Option, Some, None, get_or, length, map, take, refl, sym, ap, ◌∙◌, subst, arith, ⊎_elim, inl, inr}
use Rattle.std.specs.Prelude.{IsTrue, if◌then◌else◌, option_map}
use Rattle.std.specs.List.{Contains}
use Rattle.std.proofs.lemmas.Bool.{cases_eq, cases_lt, eq-eqb, le-leb, le-ltb, lt-leb, lt-ltb, ne_eqb}
use Rattle.std.proofs.lemmas.List.{take_all}
use Rattle.std.proofs.lemmas.List.Elements.{Contains-append_cases, Contains-append_left, Contains-push, Contains-push_cases}
use Rattle.heap_words.specs.Decoded.{decode}
use Rattle.plain_state.specs.declared.value.Identity.{Identity}
use Rattle.record_layout.specs.declared.header.Header.{Header}
use Rattle.record_layout.specs.Layout.{header_in}
use Rattle.space_map.specs.Spaces.{to_space}
use Rattle.heap_state.specs.Cycles.Copies.{copied_in}
use Rattle.heap_state.specs.Kept.{reserved_in}
use Rattle.heap_state.specs.Meaning.Denotes.{named_by}
use Rattle.heap_state.specs.Meaning.Dump.{Dump}
use Rattle.heap_state.specs.Meaning.Represents.{IsInHeap, IsInOrder, IsWalkedSpace}
use Rattle.heap_state.specs.Memory.Era.{from_space}
use Rattle.heap_state.specs.Memory.Walk.{Walked, is_protected}
use Rattle.heap_state.proofs.Puts.{some_same}
use Rattle.heap_audit.specs.Copied.{HasCopy, IsCopyAmong, header_copied}
use Rattle.heap_audit.specs.Records.{key_of}
use Rattle.heap_audit.specs.Told.{extent_of}
use Rattle.heap_audit.specs.Walks.{walked}
use Rattle.heap_audit.specs.declared.told_heap.Extent.{Extent}
use Rattle.heap_audit.specs.declared.walks.RecordAt.{RecordAt}
use Rattle.heap_audit.proofs.ShownRecords.OwnHeaders.{identity_by, named_header}
use Rattle.heap_audit.proofs.ShownRecords.OwnedFirst.{same_identity}
use Rattle.heap_audit.proofs.ShownRecords.RecordsSoFar.{walked_more}
use Rattle.heap_audit.proofs.WalkedSpaces.SpaceWalks.{old_lies, starts}
use Rattle.heap_audit.proofs.WalkedSpaces.StretchWalks.{walked_lie}

-- the serial of an identity that a word names has forty bits
pub named_short : (w : ℕ) (i : Identity) → named_by (decode w) ≡ Some i → i.serial < 2 ^ 40
named_short w i named = by_header (header_in (decode w)) (sym (named_header w) ∙ named)
  where
    by_header : (o : Option Header) → option_map identity_by o ≡ Some i → i.serial < 2 ^ 40
    by_header None e = absurd (cc)
    by_header (Some h) e = let s : h.serial ≡ i.serial = ap (λ (j : Identity). j.serial) (some_same e) in omega (arith, s, h.counted)

-- ---- one record

module _ (d : Dump) (space : Extent) (a : ℕ) where
  -- the record there was copied, and the header in its place names the identity
  abbrev pub CopyNamed : Identity → Type 0
  CopyNamed i = ((space.start ≤ a) × (a < space.front)) × (named_by (decode (d.table.heap a)) ≡ Some i)

  header_inside : (space.start ≤ a) × (a < space.front) → header_copied d space a ≡ header_in (decode (d.table.heap a))
  header_inside l = rw (le-leb space.start a l.0, lt-ltb a space.front l.1) refl

  lies_inside : (h : Header) → header_copied d space a ≡ Some h → (space.start ≤ a) × (a < space.front)
  lies_inside h e = ⊎_elim
      (λ (l : a < space.start). absurd (let z : None ≡ Some h = rw (lt-leb space.start a l) at e in cc))
      (λ (l : space.start ≤ a). ⊎_elim
      (λ (b : a < space.front). (l, b))
      (λ (b : space.front ≤ a). absurd (let z : None ≡ Some h = rw (le-leb space.start a l, le-ltb a space.front b) at e in cc))
      (cases_lt a space.front))
      (cases_lt a space.start)

  pub copy_named : (h : Header) (i : Identity) → header_copied d space a ≡ Some h → CopyNamed i ↔ (identity_by h ≡ i)
  copy_named h i e =
      let l = lies_inside h e in
      let named : named_by (decode (d.table.heap a)) ≡ Some (identity_by h) = named_header (d.table.heap a) ∙ ap (option_map identity_by) (sym (header_inside l) ∙ e) in
      (λ both. some_same (sym named ∙ both.1), λ same. (l, named ∙ ap {B = Option Identity} Some same))

  pub none_named : (i : Identity) → header_copied d space a ≡ None → CopyNamed i → ⊥
  none_named i e both =
      let named : None ≡ Some i = sym (named_header (d.table.heap a) ∙ ap (option_map identity_by) (sym (header_inside both.0) ∙ e)) ∙ both.1 in
      cc

-- ---- one record more

module _ (d : Dump) (space : Extent) (rs : List RecordAt) (k : ℕ) (z r : RecordAt) (inside : k < length rs) (is : get_or rs k z ≡ r) (i : Identity) where
  abbrev Before : Type 0
  Before = IsCopyAmong d space (map walked (take k rs)) i

  abbrev After : Type 0
  After = IsCopyAmong d space (map walked (take (k + 1) rs)) i

  one_more : map walked (take (k + 1) rs) ≡ map walked (take k rs) ++ walked r ∷ []
  one_more = walked_more rs k z r inside is

  pub more_among : Before ⊎ CopyNamed d space r.at i → After
  more_among (inl b) = record {
    copy = b.copy;
    among = subst (λ (xs : List Walked). Contains xs b.copy) (sym one_more) (Contains-append_left (map walked (take k rs)) (walked r ∷ []) b.copy b.among);
    lies = b.lies;
    named = b.named;
  }
  more_among (inr n) = record {
    copy = walked r;
    among = subst (λ (xs : List Walked). Contains xs (walked r)) (sym one_more) (Contains-push (map walked (take k rs)) (walked r));
    lies = n.0;
    named = n.1;
  }

  pub among_before : After → Before ⊎ CopyNamed d space r.at i
  among_before y = ⊎_elim
      (λ old. inl (record { copy = y.copy; among = old; lies = y.lies; named = y.named }))
      (λ (same : walked r ≡ y.copy). inr (subst (λ (w : Walked). CopyNamed d space w.at i) (sym same) (y.lies, y.named)))
      (Contains-push_cases (map walked (take k rs)) (walked r) y.copy (subst (λ (xs : List Walked). Contains xs y.copy) one_more y.among))

  -- a name more is told of
  pub name_added : (h : Header) → header_copied d space r.at ≡ Some h → i.serial < 2 ^ 40 → (old new : Bool) (key : ℕ) → key ≡ key_of (identity_by h)
      → new ≡ (if eqb key (key_of i) then true else old) → IsTrue old ↔ Before → IsTrue new ↔ After
  name_added h e short old new key k is told = ⊎_elim
      (λ (s : key ≡ key_of i).
      let same : identity_by h ≡ i = same_identity (identity_by h) i h.counted short (sym k ∙ s) in
      let yes : new ≡ true = is ∙ ap (λ (b : Bool). if b then true else old) (eq-eqb key (key_of i) s) in
      (λ t. more_among (inr ((copy_named d space r.at h i e).1 same)), λ y. yes))
      (λ (n : key ≢ key_of i).
      let kept : new ≡ old = is ∙ ap (λ (b : Bool). if b then true else old) (ne_eqb key (key_of i) n) in (
        λ t. more_among (inl (told.0 (sym kept ∙ t))),
        λ y. kept ∙ ⊎_elim (λ b. told.1 b) (λ here. absurd (n (k ∙ ap key_of ((copy_named d space r.at h i e).0 here)))) (among_before y),
      ))
      (cases_eq key (key_of i))

  -- none is, since the record was not copied, or has no header in its place
  pub none_added : header_copied d space r.at ≡ None → (told : Bool) → IsTrue told ↔ Before → IsTrue told ↔ After
  none_added e told so =
      (λ t. more_among (inl (so.0 t)), λ y. ⊎_elim (λ b. so.1 b) (λ here. absurd (none_named d space r.at i e here)) (among_before y))

pub among_all : (d : Dump) (space : Extent) (rs : List RecordAt) (k : ℕ) (i : Identity) → length rs ≤ k
    → IsCopyAmong d space (map walked (take k rs)) i ↔ IsCopyAmong d space (map walked rs) i
among_all d space rs k i all =
    subst (λ (xs : List RecordAt). IsCopyAmong d space (map walked (take k rs)) i ↔ IsCopyAmong d space (map walked xs) i) (take_all k rs all) (λ y. y, λ y. y)

-- ---- all that are in the heap

module _ (d : Dump) (ordered : (space : ℕ) → IsWalkedSpace d.table space → IsInOrder d.table space) where
  abbrev epoch : ℕ
  epoch = d.table.gate.epoch

  abbrev space : Extent
  space = extent_of d.table (to_space epoch)

  order : (space.start ≤ space.front) × (space.front ≤ space.low)
  order = let o = (ordered (to_space epoch) (inl refl)).area in (omega arith, omega (arith, o))

  -- those that were copied are those that begin there
  pub copies_lie : (w : Walked) → IsInHeap d w → ((space.start ≤ w.at) × (w.at < space.front)) ↔ Contains (copied_in d.table d.kept) w
  copies_lie w there = (λ lies. by_walk there lies, λ has. walked_lie (λ p. false) (reserved_in d.kept) d.table.heap space.front (space.front - space.start) space.start w has)
    where
      by_walk : IsInHeap d w → (space.start ≤ w.at) × (w.at < space.front) → Contains (copied_in d.table d.kept) w
      by_walk (inl now) lies = ⊎_elim
          (λ has. has)
          (λ has. absurd (let l = walked_lie (λ p. is_protected epoch (d.table.page p)) (λ a. 0) d.table.heap space.end (space.end - space.low) space.low w has in omega (arith, l, lies, order)))
          (Contains-append_cases _ _ w now)
      by_walk (inr old) lies = absurd (
          let l = old_lies d ordered old.0 w old.1 in
          let s = starts d.table.pages (to_space epoch) (omega arith) in
          let t = starts d.table.pages (from_space epoch) (omega arith) in
          let o = ordered (to_space epoch) (inl refl) in
          omega (arith, l, lies, s, t, o.size, o.area))

  -- an identity is among those of the walked records just if it has a copy
  pub among_copied : (ws : List Walked) → ((w : Walked) → Contains ws w ↔ IsInHeap d w) → (i : Identity) → IsCopyAmong d space ws i ↔ HasCopy d i
  among_copied ws found i = (
    λ y. (y.copy, (copies_lie y.copy ((found y.copy).0 y.among)).0 y.lies, y.named),
    λ y. let there : IsInHeap d y.0 = inl (Contains-append_left _ _ y.0 y.1) in record { copy = y.0; among = (found y.0).1 there; lies = (copies_lie y.0 there).1 y.1; named = y.2 },
  )
