-- Where marks `Traced` change nothing: without a flip, and after another one.
use Rattle.std.proofs.Common.{◌≡◌, ℕ, Bool, true, false, cond, List, [], ◌∷◌, ◌++◌, Option, Some, None, Result, Ok, Err, slice_get, refl, ap, sym, subst, ◌∙◌}
use Rattle.std.specs.List.{list_any}
use Rattle.std.specs.Option.{option_map, option_map_or}
use Rattle.std.proofs.lemmas.Option.{same_Some}
use Rattle.plain_state.specs.declared.end.End.{End}
use Rattle.plain_state.specs.declared.end.End.TheVariants.{HeapFull}
use Rattle.plain_state.specs.declared.value.Identity.{Identity}
use Rattle.plain_state.specs.declared.value.Value.TheVariants.{Number, Reference}
use Rattle.plain_state.specs.Cells.{is_cell, without_target}
use Rattle.plain_state.specs.State.{Heap, Mutator, Plain, Record, record_of}
use Rattle.plain_state.specs.Writing.{stored, with_value}
use Rattle.mutator_asm.specs.declared.instr.Instr.{Instr}
use Rattle.plain_heap.specs.declared.mark.Mark.{Mark}
use Rattle.plain_heap.specs.declared.mark.Mark.TheVariants.{Step, Flip, Full, Traced}
use Rattle.plain_heap.specs.Action.{◌>>=◌}
use Rattle.plain_heap.specs.Call.{After, call}
use Rattle.plain_heap.specs.Emptied.{emptied}
use Rattle.plain_heap.specs.Order.{Story, ended_for_want, first_story, is_asked, is_flip, story, story_after, story_marked}
use Rattle.plain_heap.specs.Step.{asked_by, ended, fetch, mutator_in, settled, stepped, stepped_as, stepped_if}
use Rattle.plain_heap.specs.Tracing.{TracingIsDoneOnce, TracingNeedsFlip}
use Rattle.plain_heap.specs.Records.{RecordShape, shape, shape_of}
use Rattle.plain_heap.proofs.Calls.MadeCells.{cells_stay}
use Rattle.plain_heap.proofs.Calls.RecordsAfterCalls.{stored_shape}
use Rattle.plain_heap.proofs.Orders.NoCells.{opening-none}
use Rattle.plain_heap.proofs.Orders.Stories.{story-no_flip, story_after-append}
use Rattle.plain_heap.proofs.Reaching.Emptying.{AreEmptied, IsEmptied, NoCells, emptied-already, emptied-none, emptied_heap_keeps, emptied_of_lost_cells, has-cell, without-again}

-- ---- the cells of the state at the last flip

module _ (code : List (List Instr)) (turns : ℕ) (i : Identity) where
  -- a fact of record i that no instruction changes
  module _ (P : Record → Type 0) (cells : (r : Record) → P r → is_cell r.kind ≡ true) where
    -- the state has such a record
    pub record Has (s : Plain) : Type 0 where
      pub own : Record
      pub found : record_of s.heap i ≡ Some own
      pub so : P own

    module _ (s : Plain) (has : Has s) (m : ℕ) where
      by_call : (k : Mutator) (instr : Instr) (o : Result After End) → call m s.heap k instr ≡ o → Has (settled s m k o)
      by_call k instr (Ok after) is = record { own = has.own; found = cells_stay m s.heap k instr after i has.own is (cells has.own has.so) has.found; so = has.so }
      by_call k instr (Err why) is = record { own = has.own; found = has.found; so = has.so }

      by_fetch : (k : Mutator) (o : Result Instr End) → Has (settled s m k (o >>= call m s.heap k))
      by_fetch k (Ok instr) = by_call k instr (call m s.heap k instr) refl
      by_fetch k (Err why) = record { own = has.own; found = has.found; so = has.so }

      by_end : (k : Mutator) (end : Option End) → Has (stepped_if code turns s m k end)
      by_end k (Some why) = has
      by_end k None = by_fetch k (fetch code turns m k)

      by_mutator : (o : Option Mutator) → Has (stepped_as code turns s m o)
      by_mutator None = has
      by_mutator (Some k) = by_end k k.end

      pub stepped-has : Has (stepped code turns s m)
      unfolding stepped
      stepped-has = by_mutator (mutator_in code s m)

      by_full : (asked room live : ℕ) (is : Bool) (o : Option Mutator) → Has (cond is (option_map_or (λ k. ended s m k (HeapFull asked room live)) o s) s)
      by_full asked room live true None = has
      by_full asked room live true (Some k) = record { own = has.own; found = has.found; so = has.so }
      by_full asked room live false o = has

      pub ended-has : (asked room live : ℕ) → Has (ended_for_want code turns s m asked room live)
      unfolding ended_for_want
      ended-has asked room live = by_full asked room live (is_asked asked (asked_by code turns s m)) (slice_get s.mutators m)

module _ (code : List (List Instr)) (turns : ℕ) where
  -- a record that is a cell, and one that is empty
  abbrev IsCell : Record → Type 0
  IsCell r = is_cell r.kind ≡ true

  abbrev IsEmpty : Record → Type 0
  IsEmpty r = (is_cell r.kind ≡ true) × (with_value r 0 (Number 0) ≡ r)

  abbrev HasCell : Identity → Plain → Type 0
  HasCell i s = Has code turns i IsCell (λ r is. is) s

  -- each cell of the state at the last flip is a cell now
  abbrev CellsAreKept : Story → Type 0
  CellsAreKept s = (i : Identity) (r : Record) → record_of s.flip.heap i ≡ Some r → is_cell r.kind ≡ true → HasCell i s.now

  -- what is emptied is a cell still
  emptied-has : (o p : Plain) (i : Identity) → HasCell i p → HasCell i (emptied o p)
  emptied-has o p i has =
      let kept = emptied_heap_keeps HasIn more o p (has.own, has.found, has.so) in
      record { own = kept.0; found = kept.1; so = kept.2 }
    where
      HasIn : Heap → Type 0
      HasIn heap = (r : Record) × (record_of heap i ≡ Some r) × (is_cell r.kind ≡ true)

      by_shape : (heap : Heap) (s : RecordShape) → is_cell s.kind ≡ true → shape_of heap i ≡ Some s → HasIn heap
      by_shape heap s cell is = by_record (record_of heap i) refl is
        where
          by_record : (o : Option Record) → record_of heap i ≡ o → option_map shape o ≡ Some s → (r : Record) × (record_of heap i ≡ Some r) × (is_cell r.kind ≡ true)
          by_record None found same = absurd (cc)
          by_record (Some r) found same = (r, found, ap (λ (z : RecordShape). is_cell z.kind) (same_Some (shape r) s same) ∙ cell)

      more : (heap : Heap) (j : Identity) (r : Record) → record_of heap j ≡ Some r → is_cell r.kind ≡ true → HasIn heap → HasIn (stored heap j r 0 (Number 0))
      more heap j r found cell its = by_shape (stored heap j r 0 (Number 0)) (shape its.0) its.2 (stored_shape heap j r 0 (Number 0) found i ∙ ap (option_map shape) its.1)

  kept-more : (s : Story) (mark : Mark) → CellsAreKept s → CellsAreKept (story_marked code turns s mark)
  kept-more s (Step m) kept i r found cell = stepped-has code turns i IsCell (λ r is. is) s.now (kept i r found cell) m
  kept-more s (Flip asked) kept i r found cell = record { own = r; found = found; so = cell }
  kept-more s (Full m asked room live) kept i r found cell = ended-has code turns i IsCell (λ r is. is) s.now (kept i r found cell) m asked room live
  kept-more s Traced kept i r found cell = emptied-has s.flip s.now i (kept i r found cell)

  kept-after : (s : Story) (order : List Mark) → CellsAreKept s → CellsAreKept (story_after code turns s order)
  kept-after s [] kept = kept
  kept-after s (mark ∷ marks) kept = kept-after (story_marked code turns s mark) marks (kept-more s mark kept)

  pub cells_are_kept : (order : List Mark) → CellsAreKept (story code turns order)
  cells_are_kept order = kept-after (first_story code) order (λ i r found cell. record { own = r; found = found; so = cell })

  -- ---- after a mark `Traced`

  -- the cells that lost their targets at the last flip are empty
  abbrev LostAreEmpty : Story → Type 0
  LostAreEmpty s = AreEmptied s.flip s.now

  traced-empties : (s : Story) → CellsAreKept s → LostAreEmpty (story_marked code turns s Traced)
  traced-empties s kept i lost =
      let cell = has-cell s.flip.heap i (Reference lost.target) lost.is in
      let has = kept i cell.0 cell.1 cell.2 in
      let is : without_target has.own ≡ with_value has.own 0 (Number 0) = ap (λ (b : Bool). cond b (with_value has.own 0 (Number 0)) has.own) has.so in
      let again : without_target (with_value has.own 0 (Number 0)) ≡ with_value has.own 0 (Number 0) = sym (ap without_target is) ∙ without-again has.own ∙ is in
      record {
        own = with_value has.own 0 (Number 0);
        found = (emptied_of_lost_cells s.flip s.now).lost i lost ∙ ap (option_map without_target) has.found ∙ ap Some is;
        cell = has.so;
        empty = sym (ap (λ (b : Bool). cond b (with_value (with_value has.own 0 (Number 0)) 0 (Number 0)) (with_value has.own 0 (Number 0))) has.so) ∙ again;
      }

  empty-has : (s : Plain) (i : Identity) → IsEmptied s.heap i → Has code turns i IsEmpty (λ r is. is.0) s
  empty-has s i is = record { own = is.own; found = is.found; so = (is.cell, is.empty) }

  has-empty : (s : Plain) (i : Identity) → Has code turns i IsEmpty (λ r is. is.0) s → IsEmptied s.heap i
  has-empty s i has = record { own = has.own; found = has.found; cell = has.so.0; empty = has.so.1 }

  empty-more : (s : Story) (mark : Mark) → is_flip mark ≡ false → LostAreEmpty s → LostAreEmpty (story_marked code turns s mark)
  empty-more s (Step m) none are i lost = has-empty (stepped code turns s.now m) i (stepped-has code turns i IsEmpty (λ r is. is.0) s.now (empty-has s.now i (are i lost)) m)
  empty-more s (Flip asked) none are i lost = absurd (cc)
  empty-more s (Full m asked room live) none are i lost =
      has-empty (ended_for_want code turns s.now m asked room live) i (ended-has code turns i IsEmpty (λ r is. is.0) s.now (empty-has s.now i (are i lost)) m asked room live)
  empty-more s Traced none are i lost = subst (λ (p : Plain). IsEmptied p.heap i) (sym (emptied-already s.flip s.now are)) (are i lost)

  empty-after : (s : Story) (order : List Mark) → list_any is_flip order ≡ false → LostAreEmpty s → LostAreEmpty (story_after code turns s order)
  empty-after s [] none are = are
  empty-after s (Step m ∷ marks) none are = empty-after (story_marked code turns s (Step m)) marks none (empty-more s (Step m) refl are)
  empty-after s (Flip asked ∷ marks) none are = absurd (cc)
  empty-after s (Full m asked room live ∷ marks) none are = empty-after (story_marked code turns s (Full m asked room live)) marks none (empty-more s (Full m asked room live) refl are)
  empty-after s (Traced ∷ marks) none are = empty-after (story_marked code turns s Traced) marks none (empty-more s Traced refl are)

  -- another one changes nothing
  traced-again : (s : Story) → LostAreEmpty s → story_marked code turns s Traced ≡ s
  traced-again s are = λ t. record { flip = s.flip; now = emptied-already s.flip s.now are t }

pub tracing_is_done_once : TracingIsDoneOnce
tracing_is_done_once code turns before between none =
    let first : Story = story code turns before in
    let s : Story = story_after code turns (story_marked code turns first Traced) between in
    let comes : story code turns (before ++ Traced ∷ between) ≡ s = story_after-append code turns (first_story code) before (Traced ∷ between) in
    let are = empty-after code turns (story_marked code turns first Traced) between none (traced-empties code turns first (cells_are_kept code turns before)) in
    story_after-append code turns (first_story code) (before ++ Traced ∷ between) (Traced ∷ [])
    ∙ ap (λ (t : Story). story_marked code turns t Traced) comes
    ∙ traced-again code turns s are
    ∙ sym comes

pub tracing_needs_flip : TracingNeedsFlip
tracing_needs_flip code turns order none =
    let s : Story = story code turns order in
    let same : emptied s.flip s.now ≡ s.now = emptied-none s.flip s.now (subst (λ (o : Plain). NoCells o.heap) (sym (story-no_flip code turns order none)) (opening-none code)) in
    story_after-append code turns (first_story code) order (Traced ∷ []) ∙ (λ t. record { flip = s.flip; now = same t })
