-- What targets show once the walk over the chain replaces one: it denotes the same, or the cell may be emptied.
use Rattle.std.proofs.Common.{◌≡◌, ◌≢◌, ℕ, ◌+◌, ◌≤◌, ◌⊎◌, false, Some, refl, sym, ap, ◌∙◌, arith, ⊎_elim, inl, inr}
use Rattle.std.proofs.lemmas.Bool.{cases_eq}
use Rattle.heap_words.specs.Decoded.{NumberWord, PointerWord}
use Rattle.plain_state.specs.Cells.{cell_of}
use Rattle.plain_state.specs.State as plain
use Rattle.plain_state.specs.declared.value.Value.{Value}
use Rattle.plain_state.specs.declared.value.Value.TheVariants.{Reference}
use Rattle.heap_state.specs.Cells.{IsCopiedCell, TargetsOld, ReplacesTarget}
use Rattle.heap_state.specs.Memory.Era.{Era, Memory}
use Rattle.heap_state.specs.Invariant.Ghost.{Ghost}
use Rattle.heap_state.specs.Invariant.Inductive.{Invariant}
use Rattle.heap_state.specs.Meaning.Values.{IsShownCell, MayBeEmptied, TargetsShow, value_of}
use Rattle.heap_state.specs.Targets.{IsCopied}
use Rattle.heap_state.specs.Known.{Team, Visit, At}
use Rattle.heap_state.proofs.Puts.{put_at, put_other, some_same}
use Rattle.heap_laws.specs.Steps.{Ready, with_word}
use Rattle.heap_laws.proofs.Frames.Values.{value_from_pointer}
use Rattle.heap_laws.proofs.Targets.Walked.{cell, passing, visited}

-- the cell's target denotes this value, or it may be emptied
abbrev ShowsTarget : Era → Memory → Ghost → (a : ℕ) → Value → Type 0
ShowsTarget E m g a u = (value_of g.identity (m.heap (a + 1)) ≡ Some u) ⊎ MayBeEmptied E m g a u

module _ (E : Era) (m : Memory) (team : Team) (g : Ghost) (k : ℕ) (v : Visit) (x : ℕ) (ready : Ready E m team g k) (has : (team.worker k).pass ≡ Some (At v))
    (before : v.past ≡ false) (word : v.word ≡ Some x) (records : plain.Heap) (t : TargetsShow E m g records) where
  abbrev inv : Invariant E m team g
  inv = ready.invariant

  abbrev later : Memory
  later = with_word m (v.cell + 1) x

  here : IsCopiedCell E m.front g v.cell
  here = cell E m m.weak m.weak_turn team g inv.cells.ranks k v ready has inv.cells.chain

  now : (m.traced ≤ E.epoch) × (m.weak_turn ≡ E.epoch + 1)
  now = let p = (passing E m m.weak m.weak_turn team g inv.cells.ranks k v ready has inv.cells.chain).now in (p.1, p.2)

  new_word : later.heap (v.cell + 1) ≡ x
  new_word = put_at m.heap (v.cell + 1) x (v.cell + 1) refl

  -- the old record that the target leads to, for which the word stands
  module _ (b : ℕ) (leads : TargetsOld E m g v.cell b) where
    -- a record of its identity stands below FRONT only if it has a copy
    uncopied : g.copy b ≡ 0 → ¬ (IsCopied E m.front g.size g.writer g.identity (g.identity b))
    uncopied none y =
        let o = inv.laid.order in
        let p = ready.laid_out.apart in
        let below = y.below in
        ⊎_elim
        (λ (e : y.at ≡ b). omega (arith, e, below, leads, o, p))
        (λ c. ⊎_elim
        (λ (e : g.copy y.at ≡ b + 1). let s = inv.copied.target y.at b y.stands.0 e in omega (arith, s, below, o, p))
        (λ (e : g.copy b ≡ y.at + 1). omega (arith, e, none))
        c)
        (inv.once.once y.at b y.stands.0 leads.1 y.named)

    of_word : ReplacesTarget g b x → (value_of g.identity x ≡ Some (Reference (g.identity b))) ⊎ MayBeEmptied E later g v.cell (Reference (g.identity b))
    of_word (inl z) = inl (value_from_pointer g.identity x z.0 z.2 ∙ ap (λ i. Some (Reference i)) (inv.copied.target b z.0 leads.1 z.1).5)
    of_word (inr z) = inr (record { copied = here; walked = now; empty = rw new_word z.1; lost = (g.identity b, refl, uncopied z.0) })

    -- what the plain cell has
    value : (u : Value) → ShowsTarget E m g v.cell u → Reference (g.identity b) ≡ u
    value u (inl e) = some_same (sym (value_from_pointer g.identity (m.heap (v.cell + 1)) b leads.0) ∙ e)
    value u (inr e) = absurd (let f : PointerWord b ≡ NumberWord 0 = sym leads.0 ∙ e.empty in cc)

  shown_before : (a : ℕ) → IsShownCell E later g a → IsShownCell E m g a
  shown_before a c = record { cell = c.cell; place = c.place }

  of_cell : (u : Value) → IsShownCell E later g v.cell → cell_of records (g.identity v.cell) ≡ Some u → ShowsTarget E later g v.cell u
  of_cell u c is =
      let o : (b : ℕ) × TargetsOld E m g v.cell b × ReplacesTarget g b x =
      (visited E m m.weak m.weak_turn team g inv.cells.ranks k v ready has inv.cells.chain).word x before word in
      rw (← value o.0 o.1 u (t.shows v.cell u (shown_before v.cell c) is), new_word) (of_word o.0 o.1 o.2)

  same : (a : ℕ) → a ≢ v.cell → later.heap (a + 1) ≡ m.heap (a + 1)
  same a d = put_other m.heap (v.cell + 1) x (a + 1) (λ e. d (let f : a ≡ v.cell = omega (arith, e) in f))

  of_other : (a : ℕ) (u : Value) → a ≢ v.cell → ShowsTarget E m g a u → ShowsTarget E later g a u
  of_other a u d (inl e) = inl (rw (same a d) e)
  of_other a u d (inr e) = inr (record { copied = e.copied; walked = e.walked; empty = rw (same a d) e.empty; lost = e.lost })

  pub shown_replaced : TargetsShow E later g records
  shown_replaced = record {
    shows = λ a u c is. ⊎_elim
        (λ (e : a ≡ v.cell). rw e (of_cell u (rw e at c) (rw e at is)))
        (λ (d : a ≢ v.cell). of_other a u d (t.shows a u (shown_before a c) is))
        (cases_eq a v.cell);
  }
