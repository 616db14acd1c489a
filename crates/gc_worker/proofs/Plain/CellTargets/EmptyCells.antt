-- The cells that the words of a configuration say are empty.
use Rattle.std.proofs.Common.{◌≡◌, ◌⊎◌, inl, inr, ℕ, zero, suc, ◌+◌, ◌-◌, ◌<◌, ◌≤◌, ◌==◌, Bool, true, false, cond, List, [], ◌∷◌, length, get_or, Some, None, refl, ap, sym, subst, ◌∙◌, ⊎_elim, arith}
use Rattle.std.specs.List.{Contains, flat_map}
use Rattle.std.specs.Option.{option_to_list}
use Rattle.std.proofs.Math.Seq.{map-set_same}
use Rattle.std.proofs.lemmas.Bool.{eqb-true}
use Rattle.heap_words.specs.declared.kind.Kind.TheVariants as headers
use Rattle.heap_words.specs.Decoded.{Decoded, NumberWord, HeaderWord, decode}
use Rattle.plain_state.specs.declared.kind.Kind.{Kind}
use Rattle.plain_state.specs.declared.value.Identity.{Identity}
use Rattle.plain_heap.proofs.Reaching.Members.{In, In-flat_map, In-flat_map_from}
use Rattle.heap_state.specs.Configuration.{Configuration, table, era, memory, team}
use Rattle.heap_state.specs.Invariant.Ghost.{Ghost, header_kind}
use Rattle.heap_state.specs.Invariant.Inductive.{Invariant}
use Rattle.heap_state.specs.Kept.{Kept, kept_by, kept_of}
use Rattle.heap_state.specs.Memory.Entries.{TracedIs}
use Rattle.heap_state.specs.Memory.Era.{Era, Memory}
use Rattle.heap_state.specs.Memory.Table.{IsFormed, Table}
use Rattle.heap_state.specs.Memory.Walk.{Walked, walk_in, walk_of}
use Rattle.heap_state.specs.Targets.{IsCell}
use Rattle.heap_state.specs.Known.{Scanner, Known, fresh}
use Rattle.heap_state.proofs.Records.Holding.{uncopied_here}
use Rattle.heap_state.proofs.Walks.InHeap.{lay, now_complete, now_sound}
use Rattle.heap_state.proofs.Walks.Walking.{item}
use Rattle.heap_laws.specs.Lifting.{configuration_after}
use Rattle.heap_laws.proofs.Lifting.Configurations.{seen}
use Rattle.gc_worker.specs.Plain.Empty.{empty_cell, empty_cell_at, empty_cells}

-- ---- elements

In-contained : {X : Type 0} (x : X) (xs : List X) (k : ℕ) → k < length xs → get_or xs k x ≡ x → In x xs
In-contained x [] k below is = absurd (omega arith)
In-contained x (y ∷ xs) zero below is = inl is
In-contained x (y ∷ xs) (suc k) below is = inr (In-contained x xs k (omega (arith, below)) is)

contained-In : {X : Type 0} (x : X) (xs : List X) → In x xs → Contains xs x
contained-In x [] is = absurd is
contained-In x (y ∷ xs) (inl e) = (0, omega arith, e)
contained-In x (y ∷ xs) (inr is) = let rest = contained-In x xs is in (suc rest.0, omega (arith, rest.1), rest.2)

-- ---- words

-- the word is the number 0, or not
pub zero_or_not : (d : Decoded) → (d ≡ NumberWord 0) ⊎ ¬ (d ≡ NumberWord 0)
zero_or_not (NumberWord zero) = inl refl
zero_or_not (NumberWord (suc n)) = inr (λ e. let same : suc n ≡ 0 = cc in omega arith)
zero_or_not _ = inr (λ e. cc)

-- what the words of an empty cell say
record IsEmpty (header target : Decoded) (i : Identity) : Type 0 where
  len : ℕ
  names : header ≡ HeaderWord headers.Weak len i.serial i.mutator
  none : target ≡ NumberWord 0

empty_said : (header target : Decoded) (i : Identity) → In i (option_to_list (empty_cell header target)) → IsEmpty header target i
empty_said (HeaderWord headers.Weak len serial mutator) (NumberWord n) i is = by_test (n == 0) refl is
  where
    by_test : (b : Bool) → (n == 0) ≡ b → In i (option_to_list (cond b (Some (record { mutator = mutator; serial = serial })) None)) → IsEmpty (HeaderWord headers.Weak len serial mutator) (NumberWord n) i
    by_test true is_zero (inl e) = record { len = len; names = λ t. HeaderWord headers.Weak len (e t).serial (e t).mutator; none = ap NumberWord (eqb-true n 0 is_zero) }
    by_test true is_zero (inr is) = absurd is
    by_test false some is = absurd is
empty_said _ _ i is = absurd is

-- ---- the walk of the epoch's space

module _ (c : Configuration) (g : Ghost) (formed : IsFormed c.pages c.words) (inv : Invariant (era c) (memory c) (team c) g) where
  abbrev E : Era
  E = era c

  abbrev m : Memory
  m = memory c

  -- a record of that space has its header in its place
  header_is : (a : ℕ) → 0 < g.size a → g.writer a ≡ 0 → E.start ≤ a → a < E.start + E.span
      → decode (m.heap a) ≡ HeaderWord (header_kind (g.kind a)) (g.size a - 1) (g.identity a).serial (g.identity a).mutator
  header_is a stands written from to =
      let own = uncopied_here E m (team c) g inv (lay c g formed inv) a stands from to in
      inv.headed.own a stands written own.0 own.1

  -- and is the only one of its identity there
  alone : (a b : ℕ) → 0 < g.size a → E.start ≤ a → a < E.start + E.span → 0 < g.size b → E.start ≤ b → b < E.start + E.span → g.identity a ≡ g.identity b → a ≡ b
  alone a b stands from to other low high same =
      let first = (uncopied_here E m (team c) g inv (lay c g formed inv) a stands from to).0 in
      let second = (uncopied_here E m (team c) g inv (lay c g formed inv) b other low high).0 in
      ⊎_elim
      (λ (e : a ≡ b). e)
      (λ (copies : (g.copy a ≡ b + 1) ⊎ (g.copy b ≡ a + 1)). ⊎_elim
      (λ (e : g.copy a ≡ b + 1). absurd (omega (arith, e, first)))
      (λ (e : g.copy b ≡ a + 1). absurd (omega (arith, e, second)))
      copies)
      (inv.once.once a b stands other same)

  -- a cell whose target is the number 0 is among the empty ones
  pub empty_listed : (a : ℕ) → IsCell g a → E.start ≤ a → a < E.start + E.span → decode (m.heap (a + 1)) ≡ NumberWord 0 → In (g.identity a) (empty_cells c)
  empty_listed a cell from to none =
      let has = now_complete c g formed inv a from to cell.stands cell.written in
      let header : decode (m.heap a) ≡ HeaderWord headers.Weak (g.size a - 1) (g.identity a).serial (g.identity a).mutator =
      header_is a cell.stands cell.written from to ∙ ap (λ (k : Kind). HeaderWord (header_kind k) (g.size a - 1) (g.identity a).serial (g.identity a).mutator) cell.weak in
      In-flat_map (λ (w : Walked). option_to_list (empty_cell_at (table c).heap w)) (item a (g.size a)) (g.identity a) (walk_of c)
      (In-contained (item a (g.size a)) (walk_of c) has.0 has.1 has.2)
      (subst (λ (d : Decoded). In (g.identity a) (option_to_list (empty_cell d (decode (m.heap (a + 1)))))) (sym header)
      (subst (λ (d : Decoded). In (g.identity a) (option_to_list (empty_cell (HeaderWord headers.Weak (g.size a - 1) (g.identity a).serial (g.identity a).mutator) d))) (sym none) (inl refl)))

  -- no other one is
  pub listed_empty : (a : ℕ) → IsCell g a → E.start ≤ a → a < E.start + E.span → In (g.identity a) (empty_cells c) → decode (m.heap (a + 1)) ≡ NumberWord 0
  listed_empty a cell from to is =
      let one = In-flat_map_from (λ (w : Walked). option_to_list (empty_cell_at (table c).heap w)) (g.identity a) (walk_of c) is in
      let w : Walked = one.0 in
      let there = now_sound c g formed inv w (contained-In w (walk_of c) one.1) in
      let empty = empty_said (decode (m.heap w.at)) (decode (m.heap (w.at + 1))) (g.identity a) one.2 in
      let stands : 0 < g.size w.at = (let z = there.sized in omega (arith, z)) in
      let both : HeaderWord (header_kind (g.kind w.at)) (g.size w.at - 1) (g.identity w.at).serial (g.identity w.at).mutator ≡ HeaderWord headers.Weak empty.len (g.identity a).serial (g.identity a).mutator =
      sym (header_is w.at stands there.written there.inside.0 there.inside.1) ∙ empty.names in
      let serial : (g.identity w.at).serial ≡ (g.identity a).serial = cc in
      let mutator : (g.identity w.at).mutator ≡ (g.identity a).mutator = cc in
      let same : w.at ≡ a = alone w.at a stands there.inside.0 there.inside.1 cell.stands from to (λ t. record { mutator = mutator t; serial = serial t }) in
      subst (λ (b : ℕ). decode (m.heap (b + 1)) ≡ NumberWord 0) same empty.none

-- ---- TRACED is exchanged

-- the empty cells, by the table and what workers keep
abbrev empty_in : Table → List Kept → List Identity
empty_in t kept = flat_map (λ (w : Walked). option_to_list (empty_cell_at t.heap w)) (walk_in t kept)

-- then the same cells are empty, as long as the worker keeps what it kept
pub same_empty : (c : Configuration) (k : ℕ) (w : Known) (word : ℕ) → IsFormed c.pages c.words → k < length c.workers → w.copy ≡ ((team c).worker k).copy
    → empty_cells (configuration_after c (Some (TracedIs word)) k w) ≡ empty_cells c
same_empty c k w word formed below same =
    let said = (seen c (Some (TracedIs word)) k w formed below tt).table_said in
    let kept : kept_of (configuration_after c (Some (TracedIs word)) k w).workers ≡ kept_of c.workers =
    map-set_same (λ (v : Known). kept_by v.copy) c.workers k w (fresh Scanner) (ap kept_by same) in
    (λ t. empty_in (said t) (kept t))

-- and TRACED is that word
pub traced_after : (c : Configuration) (k : ℕ) (w : Known) (word : ℕ) → IsFormed c.pages c.words → k < length c.workers → (memory (configuration_after c (Some (TracedIs word)) k w)).traced ≡ word
traced_after c k w word formed below = ap (λ (t : Table). t.traced) (seen c (Some (TracedIs word)) k w formed below tt).table_said
