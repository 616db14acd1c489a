-- When TRACED is exchanged the target of a cell is 0 exactly if it is lost: by then what is copied is what was reachable at the flip.
use Rattle.std.proofs.Common.{◌≡◌, ℕ, ◌+◌, ◌<◌, ◌≤◌, ◌⊎◌, Some, None, length, get_or, refl, sym, ap, ◌∙◌, arith, ⊎_elim, inl, inr}
use Rattle.std.specs.Option.{option_and_then}
use Rattle.std.proofs.lemmas.Option.{slice_get-get_or}
use Rattle.heap_words.specs.Decoded.{PointerWord, decode}
use Rattle.plain_state.specs.declared.kind.Kind.TheVariants.{Weak}
use Rattle.plain_state.specs.declared.value.Identity.{Identity}
use Rattle.plain_state.specs.declared.value.Value.{Value}
use Rattle.plain_state.specs.declared.value.Value.TheVariants.{Number, Reference}
use Rattle.plain_state.specs.Cells.{KeepsCells, LosesTarget, cell_of, value_of_cell}
use Rattle.plain_state.specs.Layout.{size_of}
use Rattle.plain_state.specs.State.{Heap, Plain, Record, record_of}
use Rattle.heap_state.specs.Cells.{IsCopiedCell}
use Rattle.heap_state.specs.Cycles.Cycle.{Cycle}
use Rattle.heap_state.specs.Memory.Era.{Era, Memory}
use Rattle.heap_state.specs.Invariant.Ghost.{Ghost}
use Rattle.heap_state.specs.Invariant.Inductive.{Invariant}
use Rattle.heap_state.specs.Meaning.Values.{MayBeEmptied, Shown, value_of}
use Rattle.heap_state.specs.Targets.{IsCell, IsCopied}
use Rattle.heap_state.specs.Known.{Team, LastLook}
use Rattle.heap_state.proofs.Puts.{none≢some, some_same}
use Rattle.heap_laws.specs.Cells.Walks.{IsWalked}
use Rattle.heap_laws.specs.Steps.{Ready, with_traced, with_worker}
use Rattle.heap_laws.specs.Tracing.{CopiesReachable, IsLostOrShown, LostTargetsAreZero, WinsTraced, has_traced}
use Rattle.heap_laws.proofs.Cells.Turned.{walk_is_done}
use Rattle.heap_laws.proofs.Frames.Values.{pointer_from_value}
use Rattle.heap_laws.proofs.Targets.Carried.{copied_cell, landed, leads_at}
use Rattle.heap_laws.proofs.Tracing.Copied.{copies_reachable}
use Rattle.heap_laws.proofs.Tracing.TracedExchange.{cycle, invariant}

-- a cell of three words has a value
pub cell_has_value : (heap : Heap) (i : Identity) (r : Record) → record_of heap i ≡ Some r → r.kind ≡ Weak → size_of r ≡ 3 → (u : Value) × (cell_of heap i ≡ Some u)
cell_has_value heap i r is weak three =
    let z : length r.values + 2 ≡ 3 = rw weak at three in
    (get_or r.values 0 (Number 0), rw (is, weak) (slice_get-get_or r.values 0 (Number 0) (omega (arith, z))))

module _ (E : Era) (m : Memory) (team : Team) (g : Ghost) (k : ℕ) (l : LastLook) (p o : Plain)
    (ready : Ready E m team g k) (wins : WinsTraced m team k l) (s : Shown E m team g p) (cy : Cycle E m team g o) (keeps : KeepsCells o p) where
  abbrev inv : Invariant E m team g
  inv = ready.invariant

  -- after the exchange what is copied is what was reachable, and before it no copied cell's target leads into the old space
  reachable : CopiesReachable E (with_traced m (E.epoch + 1)) g o
  reachable =
      copies_reachable E (with_traced m (E.epoch + 1)) (with_worker team k (has_traced (team.worker k))) g o
      ready.laid_out (invariant E m team g k l ready wins) (cycle E m team g k l ready wins o cy) refl

  walked : IsWalked E m g
  walked = walk_is_done E m m.weak m.weak_turn team g inv.cells.ranks k ready wins.walked inv.cells.chain

  module _ (a : ℕ) (v : Value) (c : IsCell g a) (from : E.start ≤ a) (to : a < E.start + E.span) (is : cell_of p.heap (g.identity a) ≡ Some v) where
    abbrev Denotes : Type 0
    Denotes = value_of g.identity (m.heap (a + 1)) ≡ Some v

    shown : Denotes ⊎ MayBeEmptied E m g a v
    shown = s.targets.shows a v (record { cell = c; place = inl (from, to) }) is

    -- a cell that was copied was there at the flip, with this value
    module _ (copied : IsCopiedCell E m.front g a) where
      was : cell_of o.heap (g.identity a) ≡ Some v
      was =
          let r = cy.copying.sizes a c.stands copied.inside.0 copied.inside.1 in
          let three = inv.cells.chain.three a c.stands c.weak in
          let u = cell_has_value o.heap (g.identity a) r.0 r.1 (r.3 ∙ c.weak) (r.2 ∙ three) in
          let same : u.0 ≡ v = some_same (sym (keeps (g.identity a) u.0 u.1) ∙ is) in
          u.1 ∙ ap Some same

      -- what its target leads to is copied
      target_copied : (b : ℕ) → decode (m.heap (a + 1)) ≡ PointerWord b → IsCopied E m.front g.size g.writer g.identity (g.identity b)
      target_copied b e = ⊎_elim
          (λ old. absurd (walked.clean a copied (leads_at E (m.heap (a + 1)) b e old.0 old.1)))
          (λ below. record { at = b; stands = landed g.size g.writer (m.heap (a + 1)) b (inv.cells.targets.lands a c from to) e; below = below; named = refl })
          (inv.cells.targets.aims a b copied e)

      kept : Denotes → ¬ (LosesTarget o (g.identity a))
      kept denotes lost =
          let refers : v ≡ Reference lost.target = some_same (sym was ∙ lost.is) in
          let b = pointer_from_value g.identity (m.heap (a + 1)) lost.target (denotes ∙ ap Some refers) in
          lost.unreachable (reachable.only lost.target (rw b.2 at (target_copied b.0 b.1)))

      copied_is : IsLostOrShown m g o a v
      copied_is = ⊎_elim
          (λ (e : Denotes). inl (e, kept e))
          (λ (e : MayBeEmptied E m g a v).
          let lost = e.lost in
          inr (e.empty, record { target = lost.0; is = was ∙ ap Some lost.1; unreachable = λ r. lost.2 (reachable.all lost.0 r) }))
          shown

    -- one that was made since was not there
    new_is : m.low ≤ a → IsLostOrShown m g o a v
    new_is low = inl (
      ⊎_elim
          (λ (e : Denotes). e)
          (λ (e : MayBeEmptied E m g a v). absurd (let i = e.copied.inside in let order = inv.laid.order in omega (arith, i, order, low)))
          shown,
      λ lost. not_there lost (cy.made.new a c.stands low to),
    )
      where
        not_there : LosesTarget o (g.identity a) → record_of o.heap (g.identity a) ≡ None → ⊥
        not_there lost none = none≢some (sym (ap (option_and_then value_of_cell) none) ∙ lost.is)

    pub lost_or_shown : IsLostOrShown m g o a v
    lost_or_shown =
        let st = c.stands in
        let order = inv.laid.order in
        let apart = ready.laid_out.apart in
        ⊎_elim
        (λ below. copied_is (copied_cell E m.front g a c from (omega (arith, below, st))))
        (λ y. ⊎_elim
        (λ above. new_is above.0)
        (λ old. absurd (omega (arith, old, from, to, apart, st)))
        y)
        (inv.laid.lies a st)

pub lost_targets_are_zero : LostTargetsAreZero
lost_targets_are_zero E m team g k l p o ready wins s cy keeps a v c from to is = lost_or_shown E m team g k l p o ready wins s cy keeps a v c from to is
