-- What a traced epoch has copied, as the walk below FRONT shows it.
use Rattle.std.proofs.Common.{◌≡◌, ℕ, ◌+◌, ◌<◌, true, List, [], ◌∷◌, map, Option, Some, None, slice_get, refl, sym, ap, ◌∙◌, arith}
use Rattle.std.specs.List.{All, Contains}
use Rattle.std.specs.Option.{option_map}
use Rattle.std.proofs.lemmas.List.{get_or-map, length-map}
use Rattle.std.proofs.lemmas.List.Elements.{All-map, All-head, All-tail, All-contains_itself, All-weaker}
use Rattle.std.proofs.lemmas.Option.{slice_get_within, slice_get-map, get_or_from_slice_get, same_Some}
use Rattle.plain_state.specs.declared.value.Identity.{Identity}
use Rattle.plain_state.specs.Reachable.{Reachable, IsLive, words_of, sum_of_records}
use Rattle.plain_state.specs.State.{Plain, Heap, record_of}
use Rattle.heap_state.specs.Configuration.{Configuration, era, memory, team}
use Rattle.heap_state.specs.Cycles.Copies.{copied_of, words_copied, name_of, CopiedIsLive}
use Rattle.heap_state.specs.Memory.Era.{IsLaidOut}
use Rattle.heap_state.specs.Invariant.Ghost.{Ghost}
use Rattle.heap_state.specs.Invariant.Inductive.{Invariant}
use Rattle.heap_state.specs.Sums.{sum_of_sizes}
use Rattle.heap_state.specs.Theorems.Standing.{StandsInCycle}
use Rattle.heap_state.specs.Memory.Walk.{Walked}
use Rattle.heap_state.proofs.Table.LaidOut.{laid_out}
use Rattle.heap_state.proofs.Walks.CopiedIdentities.{copy_named}
use Rattle.heap_state.proofs.Walks.WalksBelowFront.{copied_total, copied_once, copied_sound, copied_complete}
use Rattle.heap_state.proofs.Walks.Walking.{IsItem, item}
use Rattle.heap_laws.specs.Flipping.Live.{TracedIsLive}
use Rattle.heap_laws.specs.Tracing.{NothingLeads, CopiesReachable}
use Rattle.heap_laws.proofs.Tracing.Copied.{copies_reachable}
use Rattle.heap_laws.proofs.Tracing.TracedExchange.{leads_nowhere}
use Rattle.heap_state.specs.Memory.Table.{IsFormed}
use Rattle.heap_state.specs.Targets.{IsCopied}

-- ---- lists

-- what stands in a list is in it
has_it : {X : Type 0} (xs : List X) (k : ℕ) (x : X) → slice_get xs k ≡ Some x → Contains xs x
has_it xs k x e = (k, slice_get_within xs k x e, get_or_from_slice_get xs k x x e)

has_mapped : {X Y : Type 0} (f : X → Y) (xs : List X) (x : X) → Contains xs x → Contains (map f xs) (f x)
has_mapped f xs x h = (h.0, (let n = length-map xs f in let l = h.1 in omega (arith, n, l)), get_or-map f xs h.0 x (f x) h.1 ∙ ap f h.2)

-- an element of a mapped list comes from one of the list, at the same place
from_mapped : {X Y : Type 0} (f : X → Y) (xs : List X) (k : ℕ) (y : Y) → slice_get (map f xs) k ≡ Some y → (x : X) × (slice_get xs k ≡ Some x) × (f x ≡ y)
from_mapped {X} f xs k y e = by_it (slice_get xs k) refl (sym (slice_get-map f xs k) ∙ e)
  where
    by_it : (o : Option X) → slice_get xs k ≡ o → option_map f o ≡ Some y → (x : X) × (slice_get xs k ≡ Some x) × (f x ≡ y)
    by_it (Some x) at same = (x, at, same_Some (f x) y same)
    by_it None at same = absurd (cc)

-- the sums agree where each record is as long as that of its identity
sums_agree : (heap : Heap) (identity : Walked → Identity) (xs : List Walked) → All (λ w. words_of (record_of heap (identity w)) ≡ w.size) xs
    → sum_of_records heap (map identity xs) ≡ sum_of_sizes (λ w. true) xs
sums_agree heap identity [] long = refl
sums_agree heap identity (x ∷ xs) long =
    let i = sums_agree heap identity xs (All-tail (λ w. words_of (record_of heap (identity w)) ≡ w.size) x xs long) in
    let e : words_of (record_of heap (identity x)) ≡ x.size = All-head (λ w. words_of (record_of heap (identity w)) ≡ w.size) x xs long in
    omega (arith, i, e)

-- ---- the copies

module _ (c : Configuration) (p o : Plain) (st : StandsInCycle c p o) (traced : (memory c).traced ≡ (era c).epoch + 1) where
  abbrev g : Ghost
  g = st.stands.ghost

  formed : IsFormed c.pages c.words
  formed = st.stands.formed

  inv : Invariant (era c) (memory c) (team c) g
  inv = st.stands.invariant

  lay : IsLaidOut (era c)
  lay = laid_out c.pages c.words formed

  nothing : NothingLeads (era c) (memory c) (team c) g
  nothing = leads_nowhere (era c) (memory c) (team c) g lay inv traced

  reachable : CopiesReachable (era c) (memory c) g o
  reachable = copies_reachable (era c) (memory c) (team c) g o lay inv st.cycle traced

  abbrev IsOne : Walked → Type 0
  IsOne w = IsItem (era c).start (memory c).front g.size g.writer w

  sound : (w : Walked) → Contains (copied_of c) w → IsOne w
  sound = copied_sound c g formed inv

  abbrev of : Walked → Identity
  of w = g.identity w.at

  stands : (w : Walked) → IsOne w → 0 < g.size w.at
  stands w is = let z = is.sized in omega (arith, z)

  named : (w : Walked) → IsOne w → name_of c w ≡ Some (of w)
  named = copy_named c g formed inv

  abbrev copy : (w : Walked) → IsOne w → IsCopied (era c) (memory c).front g.size g.writer g.identity (of w)
  copy w is = record { at = w.at; stands = (stands w is, is.written); below = is.inside; named = refl }

  long : (w : Walked) → IsOne w → words_of (record_of o.heap (of w)) ≡ w.size
  long w is = let s = st.cycle.copying.sizes w.at (stands w is) is.inside.0 is.inside.1 in ap words_of s.1 ∙ (s.2 ∙ is.sized.1)

  -- two records of one identity are one
  same_place : (v w : Walked) → IsOne v → IsOne w → of v ≡ of w → v.at ≡ w.at
  same_place v w a b e =
      reachable.once (of v) (copy v a) (record { at = w.at; stands = (stands w b, b.written); below = b.inside; named = sym e })

  once : (a b : ℕ) (v w : Walked) → slice_get (copied_of c) a ≡ Some v → slice_get (copied_of c) b ≡ Some w → of v ≡ of w → a ≡ b
  once a b v w at_a at_b e =
      copied_once c g formed inv nothing.none_writes a b v w at_a at_b
      (same_place v w (sound v (has_it (copied_of c) a v at_a)) (sound w (has_it (copied_of c) b w at_b)) e)

  -- each reachable identity has its copy
  there : (i : Identity) → Reachable o i → (w : Walked) × Contains (copied_of c) w × (of w ≡ i)
  there i r =
      let k = reachable.all i r in
      (item k.at (g.size k.at), copied_complete c g formed inv k.at k.below.0 k.below.1 k.stands.0 k.stands.1, k.named)

  abbrev identities : List Identity
  identities = map of (copied_of c)

  each : (P : Walked → Type 0) → ((w : Walked) → IsOne w → P w) → All P (copied_of c)
  each P holds = All-weaker (Contains (copied_of c)) P (λ w has. holds w (sound w has)) (copied_of c) (All-contains_itself (copied_of c))

  live : IsLive o (words_copied c)
  live = record {
    identities = identities;
    reachable = All-map (Reachable o) of (copied_of c) (each (λ w. Reachable o (of w)) (λ w is. reachable.only (of w) (copy w is)));
    all = λ i r. let t = there i r in subst_contains i t;
    once = λ a b i at_a at_b.
        let v = from_mapped of (copied_of c) a i at_a in
        let w = from_mapped of (copied_of c) b i at_b in
        once a b v.0 w.0 v.1 w.1 (v.2 ∙ sym w.2);
    sum = sums_agree o.heap of (copied_of c) (each (λ w. words_of (record_of o.heap (of w)) ≡ w.size) long);
  }
    where
      subst_contains : (i : Identity) → (w : Walked) × Contains (copied_of c) w × (of w ≡ i) → Contains identities i
      subst_contains i t = rw t.2 at (has_mapped of (copied_of c) t.0 t.1)

  pub copied_is_live : CopiedIsLive c o
  copied_is_live = record {
    only = λ w has. let is = sound w has in (of w, reachable.only (of w) (copy w is), record { named = named w is; long = long w is });
    all = λ i r. let t = there i r in (t.0, t.1, named t.0 (sound t.0 t.1) ∙ ap Some t.2);
    once = λ a b v w at_a at_b e.
        once a b v w at_a at_b
        (same_Some (of v) (of w) (sym (named v (sound v (has_it (copied_of c) a v at_a))) ∙ (e ∙ named w (sound w (has_it (copied_of c) b w at_b)))));
    front = copied_total c g formed inv nothing.none_writes;
    live = live;
  }

pub traced_is_live : TracedIsLive
traced_is_live c p o st traced = copied_is_live c p o st traced
