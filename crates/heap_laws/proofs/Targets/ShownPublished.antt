-- What targets show once the copy of a record is published: that of a cell shows what the old cell showed.
use Rattle.std.proofs.Common.{◌≡◌, ◌≢◌, ℕ, ◌+◌, ◌<◌, ◌⊎◌, Option, Some, sym, ap, ◌∙◌, arith, ⊎_elim, inl, inr, add-zero}
use Rattle.std.proofs.lemmas.Bool.{cases_eq}
use Rattle.plain_state.specs.Cells.{cell_of}
use Rattle.plain_state.specs.State as plain
use Rattle.plain_state.specs.declared.value.Value.{Value}
use Rattle.heap_state.specs.Memory.Era.{Era, Memory}
use Rattle.heap_state.specs.Invariant.Ghost.{Ghost}
use Rattle.heap_state.specs.Meaning.Values.{IsShownCell, MayBeEmptied, TargetsShow, value_of}
use Rattle.heap_state.specs.Targets.{IsCell}
use Rattle.heap_state.specs.Known.{Team, Quest, Copy, Linking}
use Rattle.heap_state.proofs.Puts.{put_at, put_other}
use Rattle.heap_laws.specs.Copying.{published}
use Rattle.heap_laws.specs.Steps.{with_word}
use Rattle.heap_laws.proofs.Cells.Kept.{words_no_targets}
use Rattle.heap_laws.proofs.Copying.Forward.{Publishing, mine, from_written, twin, copied_word, was_written}
use Rattle.heap_laws.proofs.Copying.Room.{untraced}
use Rattle.heap_laws.proofs.Targets.ShownCopies.{copying_empties_nothing}

module _ {E : Era} {m : Memory} {team : Team} {g : Ghost} {k : ℕ} {c : Copy} {q : Quest} {v : ℕ} {l : Option Linking}
    (publishing : Publishing E m team g k c q v l) (records : plain.Heap) (t : TargetsShow E m g records) where
  open publishing use {ready, has}

  abbrev h : Ghost
  h = published g k c.from c.to

  abbrev later : Memory
  later = with_word m (c.from + 0) v

  source : 0 < g.size c.from
  source = let o = (mine publishing).old in omega (arith, o)

  nothing : (a : ℕ) (u : Value) → ¬ (MayBeEmptied E m g a u)
  nothing = copying_empties_nothing ready c has

  -- a shown cell that isn't the copy was one, and has its target
  module _ (a : ℕ) (d : a ≢ c.to) (cell : IsShownCell E later h a) where
    kept_before : (g.copy a ≡ 0) ⊎ (0 < h.keeper a) → (g.copy a ≡ 0) ⊎ (0 < g.keeper a)
    kept_before y = ⊎_elim
        (λ e. inl e)
        (λ (z : 0 < h.keeper a).
        let n : a ≢ c.from = λ e. let p = put_at g.keeper c.from 0 a e in omega (arith, p, z) in
        inr (rw (put_other g.keeper c.from 0 a n) at z))
        y

    before : IsShownCell E m g a
    before = record {
      cell = record { stands = cell.cell.stands; written = was_written publishing a cell.cell.written d; weak = cell.cell.weak };
      place = ⊎_elim (λ i. inl i) (λ o. inr (o.0, o.1, kept_before o.2)) cell.place;
    }

    same : later.heap (a + 1) ≡ m.heap (a + 1)
    same = put_other m.heap (c.from + 0) v (a + 1) (λ e. (words_no_targets ready).first c.from source a before.cell (sym (e ∙ add-zero c.from)))

  -- the old record is a cell if its copy is, and is shown
  from_cell : IsCell h c.to → IsShownCell E m g c.from
  from_cell cell = record {
    cell = record { stands = source; written = from_written publishing; weak = sym (twin publishing).6 ∙ cell.weak };
    place = inr (untraced E m team g k c ready has, ((twin publishing).0, (twin publishing).1), inr (let o = (mine publishing).old in omega (arith, o)));
  }

  -- the copy has its target
  same_target : IsCell h c.to → later.heap (c.to + 1) ≡ m.heap (c.from + 1)
  same_target cell =
      let z = ready.invariant.cells.chain.three c.from source (from_cell cell).cell.weak in
      let o = (mine publishing).old in
      copied_word publishing 1 (omega arith) (omega (arith, z, o))

  of_copy : (u : Value) → IsCell h c.to → cell_of records (g.identity c.to) ≡ Some u → value_of g.identity (later.heap (c.to + 1)) ≡ Some u
  of_copy u cell is = ⊎_elim
      (λ (e : value_of g.identity (m.heap (c.from + 1)) ≡ Some u). rw (same_target cell) e)
      (λ (e : MayBeEmptied E m g c.from u). absurd (nothing c.from u e))
      (t.shows c.from u (from_cell cell) (ap (cell_of records) (sym (twin publishing).5) ∙ is))

  pub shown_published : TargetsShow E later h records
  shown_published = record {
    shows = λ a u cell is. ⊎_elim
        (λ (e : a ≡ c.to). inl (rw e (of_copy u (rw e at cell.cell) (rw e at is))))
        (λ (d : a ≢ c.to). inl (rw (same a d cell) (⊎_elim
        (λ (e : value_of g.identity (m.heap (a + 1)) ≡ Some u). e)
        (λ (e : MayBeEmptied E m g a u). absurd (nothing a u e))
        (t.shows a u (before a d cell) is))))
        (cases_eq a c.to);
  }
