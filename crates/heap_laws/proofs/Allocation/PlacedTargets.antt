-- What the targets of cells show where a new record begins to stand, which may be a cell.
use Rattle.std.proofs.Common.{◌≡◌, ◌≢◌, ℕ, ◌+◌, ◌-◌, ◌<◌, ◌≤◌, length, Some, refl, sym, ap, ◌∙◌, arith, ⊎_elim, ◌⊎◌, inl, inr}
use Rattle.std.proofs.lemmas.Bool.{cases_eq}
use Rattle.plain_state.specs.Cells.{cell_of, value_of_cell}
use Rattle.plain_state.specs.State as plain
use Rattle.plain_state.specs.declared.kind.Kind.{Kind}
use Rattle.plain_state.specs.declared.kind.Kind.TheVariants.{Weak}
use Rattle.plain_state.specs.declared.value.Identity.{Identity}
use Rattle.plain_state.specs.declared.value.Value.{Value}
use Rattle.plain_state.specs.Writing.{gained}
use Rattle.plain_state.proofs.Gained.{gained_there, gained_elsewhere}
use Rattle.heap_state.specs.Invariant.Ghost.{Ghost, Lands}
use Rattle.heap_state.specs.Invariant.Inductive.{Invariant}
use Rattle.heap_state.specs.Invariant.Parts.Stocks.{Stocked}
use Rattle.heap_state.specs.Meaning.Values.{IsShownCell, MayBeEmptied, Shown, TargetsShow, value_of}
use Rattle.heap_state.specs.Memory.Era.{Era, IsLaidOut, Memory}
use Rattle.heap_state.specs.Targets.{IsCopied}
use Rattle.heap_state.specs.Known.{Team, Stock}
use Rattle.heap_state.proofs.Puts.{put_at, put_other}
use Rattle.heap_laws.specs.Allocation.Records.{next_identity, allocated, stored_ahead}
use Rattle.heap_laws.specs.Fields.Stores.{HoldsTarget}
use Rattle.heap_laws.specs.Steps.{with_word}
use Rattle.heap_laws.proofs.Allocation.FreeWords.{IsFree, word_same}
use Rattle.heap_laws.proofs.Allocation.Header.{new_place, free}
use Rattle.heap_laws.proofs.Allocation.NewRecordParts.{NewPlace, unused, was, same_size, same_writer, below_other}
use Rattle.heap_laws.proofs.Allocation.StockPages.Stocks.{Places, target_ahead}
use Rattle.heap_laws.proofs.Allocation.Values.{value_allocated}
use Rattle.heap_laws.proofs.Targets.Carried.{lands_at}

module _ (E : Era) (m : Memory) (team : Team) (g : Ghost) (p : plain.Plain) (k : ℕ) (q : Stock) (c : Kind) (z v : ℕ) {target : ℕ} (new : plain.Record) (lay : IsLaidOut E) (inv : Invariant E m team g) (places : Places E team k q c z v target)
    (holds : c ≡ Weak → HoldsTarget E g target new) (s : Shown E m team g p) (within : k < length p.heap.records) (serial : (team.worker k).account.serial ≡ plain.serial_of p.heap k) where
  abbrev i : Identity
  i = next_identity team k

  abbrev g' : Ghost
  g' = allocated g q.at z c i

  abbrev later : Memory
  later = with_word m q.at v

  abbrev after : plain.Heap
  after = gained p.heap k new

  cr : NewPlace E m.front m.low g.size g.copy g.keeper q.at z
  cr = new_place E m team g k q c z v lay inv places

  is_free : IsFree E g.size q.at
  is_free = free E m team g k q c z v lay inv places

  -- ---- cells that stood before

  cell_was : (a : ℕ) → a ≢ q.at → IsShownCell E later g' a → IsShownCell E m g a
  cell_was a d y = record {
    cell = record {
      stands = was cr a d y.cell.stands;
      written = rw (same_writer cr g.writer a d) at y.cell.written;
      weak = rw (put_other g.kind q.at c a d) at y.cell.weak;
    };
    place = y.place;
  }

  -- a cell of the epoch's space has no copy, and an old one that is shown has none yet
  uncopied : (a : ℕ) → IsShownCell E m g a → (g.copy a ≡ 0) ⊎ (0 < g.keeper a)
  uncopied a y = ⊎_elim
      (λ (o : (E.start ≤ a) × (a < E.start + E.span)). ⊎_elim
      (λ (e : g.copy a ≡ 0). inl e)
      (λ (d : g.copy a ≢ 0). absurd (let t = inv.copied.target a (g.copy a - 1) y.cell.stands (omega arith) in let n = lay.apart in omega (arith, t.0, t.1, o, n)))
      (cases_eq (g.copy a) 0))
      (λ (o : (m.traced ≤ E.epoch) × ((E.old_start ≤ a) × (a < E.old_start + E.old_span)) × ((g.copy a ≡ 0) ⊎ (0 < g.keeper a))). o.2)
      y.place

  lands : (a : ℕ) → IsShownCell E m g a → Lands g.size g.writer (m.heap (a + 1))
  lands a y = ⊎_elim
      (λ (o : (E.start ≤ a) × (a < E.start + E.span)). inv.cells.targets.lands a y.cell o.0 o.1)
      (λ (o : (m.traced ≤ E.epoch) × ((E.old_start ≤ a) × (a < E.old_start + E.old_span)) × ((g.copy a ≡ 0) ⊎ (0 < g.keeper a))).
      lands_at g.size g.writer (m.heap (a + 1)) (λ b e. let t = inv.cells.targets.older o.0 a b y.cell o.1 e in (t.0, inv.older.written b t.0 t.1.0 t.1.1)))
      y.place

  word : (a : ℕ) → IsShownCell E m g a → later.heap (a + 1) ≡ m.heap (a + 1)
  word a y = word_same is_free g.writer g.kind m.heap v a 1 (let e = inv.cells.chain.three a y.cell.stands y.cell.weak in omega arith)

  -- the plain cell has the value that it had
  value_was : (a : ℕ) (x : Value) → IsShownCell E m g a → cell_of after (g.identity a) ≡ Some x → cell_of p.heap (g.identity a) ≡ Some x
  value_was a x y is =
      let r = s.objects.shows a y.cell.stands y.cell.written (uncopied a y) in
      rw r.1 (rw (gained_elsewhere p.heap k new within (g.identity a) r.0 r.1) at is)

  emptied : (a : ℕ) (x : Value) → IsShownCell E m g a → MayBeEmptied E m g a x → MayBeEmptied E later g' a x
  emptied a x y e = record {
    copied = let d = below_other cr a e.copied.inside.1 in record {
      stands = rw (same_size cr a d) e.copied.stands;
      written = rw (same_writer cr g.writer a d) e.copied.written;
      weak = rw (put_other g.kind q.at c a d) e.copied.weak;
      inside = e.copied.inside;
    };
    walked = e.walked;
    empty = rw (word a y) e.empty;
    lost = (e.lost.0, e.lost.1, λ t. e.lost.2 (still t));
  }
    where
      still : IsCopied E m.front g'.size g'.writer g'.identity e.lost.0 → IsCopied E m.front g.size g.writer g.identity e.lost.0
      still t = let d = below_other cr t.at t.below.1 in record {
        at = t.at;
        stands = rw (same_size cr t.at d, same_writer cr g.writer t.at d) at t.stands;
        below = t.below;
        named = rw (put_other g.identity q.at i t.at d) at t.named;
      }

  shows_old : (a : ℕ) (x : Value) → a ≢ q.at → IsShownCell E later g' a → cell_of after (g'.identity a) ≡ Some x → (value_of g'.identity (later.heap (a + 1)) ≡ Some x) ⊎ MayBeEmptied E later g' a x
  shows_old a x d cell is =
      let y = cell_was a d cell in
      ⊎_elim
      (λ (e : value_of g.identity (m.heap (a + 1)) ≡ Some x). inl (rw (word a y) (value_allocated g.size g.writer g.identity q.at i (m.heap (a + 1)) (unused cr) (lands a y) ∙ e)))
      (λ (e : MayBeEmptied E m g a x). inr (emptied a x y e))
      (s.targets.shows a x y (value_was a x y (rw (put_other g.identity q.at i a d) at is)))

  -- ---- the new cell

  shows_new : (x : Value) → IsShownCell E later g' q.at → cell_of after (g'.identity q.at) ≡ Some x → value_of g'.identity (later.heap (q.at + 1)) ≡ Some x
  shows_new x cell is =
      let weak : c ≡ Weak = sym (put_at g.kind q.at c q.at refl) ∙ cell.cell.weak in
      let t = holds weak in
      let stored : later.heap (q.at + 1) ≡ target = put_other m.heap q.at v (q.at + 1) (λ e. omega (arith, e)) ∙ target_ahead q ok target (places.ahead ∙ ap (λ y. stored_ahead y target) weak) in
      let there : plain.record_of after (g'.identity q.at) ≡ Some new = rw (put_at g.identity q.at i q.at refl) (gained_there p.heap k new within i refl (omega (arith, serial))) in
      let made : value_of_cell new ≡ Some x = rw there at is in
      rw stored (value_allocated g.size g.writer g.identity q.at i target (unused cr) t.2.held.lands ∙ (t.2.denotes ∙ (sym t.1 ∙ made)))
    where
      ok : Stocked E m.low g.size m.heap m.page q
      ok = inv.stocks.stocked k places.own.worker q places.own.has places.own.epoch

  pub placing_shows_targets : TargetsShow E later g' after
  placing_shows_targets = record {
    shows = λ a x cell is. ⊎_elim
        (λ (e : a ≡ q.at). let t = shows_new x (rw e at cell) (rw e at is) in inl (rw e t))
        (λ (d : a ≢ q.at). shows_old a x d cell is)
        (cases_eq a q.at);
  }
