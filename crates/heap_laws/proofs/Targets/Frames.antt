-- What targets show, and what was made since the flip, where a step leaves what is read of it.
use Rattle.std.proofs.Common.{◌≡◌, ℕ, ◌+◌, inl, inr, Some, refl, sym, ◌∙◌, ⊎_elim}
use Rattle.plain_state.specs.declared.value.Identity.{Identity}
use Rattle.plain_state.specs.declared.value.Value.{Value}
use Rattle.plain_state.specs.Cells.{cell_of}
use Rattle.plain_state.specs.State as plain
use Rattle.heap_state.specs.Cycles.Cycle.{MadeSince}
use Rattle.heap_state.specs.Functions.{put}
use Rattle.heap_state.specs.Memory.Era.{Era, Memory}
use Rattle.heap_state.specs.Invariant.Ghost.{Ghost}
use Rattle.heap_state.specs.Meaning.Values.{IsShownCell, MayBeEmptied, TargetsShow, value_of}
use Rattle.heap_state.specs.Known.{Known}
use Rattle.heap_state.proofs.Puts.{proj_put, put_other}
use Rattle.heap_laws.specs.Steps.{with_word}
use Rattle.heap_laws.specs.Targets.Frames.{IsNoTarget}

-- ---- what targets show

-- Each shown cell was one, with the same identity and target, which denotes the same; a cell that may be emptied still may.
pub record CarriesShown (E : Era) (m n : Memory) (g h : Ghost) : Type 0 where
  pub cells : (a : ℕ) → IsShownCell E n h a → IsShownCell E m g a
  pub named : (a : ℕ) → IsShownCell E n h a → h.identity a ≡ g.identity a
  pub denoted : (a : ℕ) → IsShownCell E n h a → value_of h.identity (n.heap (a + 1)) ≡ value_of g.identity (m.heap (a + 1))
  pub emptied : (a : ℕ) (v : Value) → IsShownCell E n h a → MayBeEmptied E m g a v → MayBeEmptied E n h a v

-- what they show of plain records they show of others in which each such cell has the value that it had
pub carried_shown : (E : Era) (m n : Memory) (g h : Ghost) (records others : plain.Heap) → CarriesShown E m n g h
    → ((i : Identity) (v : Value) → cell_of others i ≡ Some v → cell_of records i ≡ Some v) → TargetsShow E m g records → TargetsShow E n h others
carried_shown E m n g h records others carries values t = record {
  shows = λ a v cell is. ⊎_elim
      (λ (e : value_of g.identity (m.heap (a + 1)) ≡ Some v). inl (carries.denoted a cell ∙ e))
      (λ (l : MayBeEmptied E m g a v). inr (carries.emptied a v cell l))
      (t.shows a v (carries.cells a cell) (rw (carries.named a cell) at (values (h.identity a) v is)));
}

-- ---- with the same records

module _ (E : Era) (m n : Memory) (g : Ghost) (traced : n.traced ≡ m.traced) (front : n.front ≡ m.front) (turn : m.weak_turn ≡ E.epoch + 1 → n.weak_turn ≡ E.epoch + 1) where
  still_shown : (a : ℕ) → IsShownCell E n g a → IsShownCell E m g a
  still_shown a c = record { cell = c.cell; place = rw traced at c.place }

  still_emptied : (a : ℕ) (v : Value) → n.heap (a + 1) ≡ m.heap (a + 1) → MayBeEmptied E m g a v → MayBeEmptied E n g a v
  still_emptied a v same e = record { copied = rw front e.copied; walked = rw traced (e.walked.0, turn e.walked.1); empty = rw same e.empty; lost = rw front e.lost }

  -- the targets that are shown stay
  pub shown_by_words : (records : plain.Heap) → ((a : ℕ) → IsShownCell E m g a → n.heap (a + 1) ≡ m.heap (a + 1)) → TargetsShow E m g records → TargetsShow E n g records
  shown_by_words records words t = record {
    shows = λ a v cell is.
        let was = still_shown a cell in
        let same = words a was in
        ⊎_elim
        (λ (e : value_of g.identity (m.heap (a + 1)) ≡ Some v). inl (rw same e))
        (λ (l : MayBeEmptied E m g a v). inr (still_emptied a v same l))
        (t.shows a v was is);
  }

  -- all words stay
  pub shown_by_heap : (records : plain.Heap) → n.heap ≡ m.heap → TargetsShow E m g records → TargetsShow E n g records
  shown_by_heap records same t = shown_by_words records (λ a c. let e = same in (λ i. e i (a + 1))) t

-- a word is stored that is no target
pub shown_beside : (E : Era) (m : Memory) (g : Ghost) (x v : ℕ) → IsNoTarget g x
    → (records : plain.Heap) → TargetsShow E m g records → TargetsShow E (with_word m x v) g records
shown_beside E m g x v none records t =
    shown_by_words E m (with_word m x v) g refl refl (λ e. e) records (λ a c. put_other m.heap x v (a + 1) (λ e. none a c.cell (sym e))) t

-- of other plain records, in which each cell has the value that it had
pub shown_of_others : (E : Era) (m : Memory) (g : Ghost) (records others : plain.Heap) → ((i : Identity) (v : Value) → cell_of others i ≡ Some v → cell_of records i ≡ Some v)
    → TargetsShow E m g records → TargetsShow E m g others
shown_of_others E m g records others values t = record { shows = λ a v cell is. t.shows a v cell (values (g.identity a) v is) }

-- ---- what was made since the flip

-- a worker that has made as many records
pub made_put : {E : Era} {low mutators : ℕ} {size : ℕ → ℕ} {identity : ℕ → Identity} {p : plain.Plain} (worker : ℕ → Known) (k : ℕ) (w : Known)
    → w.account.serial ≡ (worker k).account.serial → MadeSince E low mutators size identity worker p → MadeSince E low mutators size identity (put worker k w) p
made_put worker k w serial s = record { new = s.new; grown = λ j l. rw (proj_put (λ u. u.account.serial) worker k w j serial) (s.grown j l) }
