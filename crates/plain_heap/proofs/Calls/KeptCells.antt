-- No instruction changes what a cell has, and each cell that one makes refers to a record.
use Rattle.std.proofs.Common.{◌≡◌, ℕ, Bool, true, false, Option, Some, None, Result, Ok, Err, refl, ap, sym, ◌∙◌, ⊎_elim}
use Rattle.std.specs.Option.{option_and_then}
use Rattle.std.proofs.lemmas.Option.{same_Some}
use Rattle.plain_state.specs.declared.end.End.{End}
use Rattle.plain_state.specs.declared.kind.Kind.TheVariants.{Weak}
use Rattle.plain_state.specs.declared.value.Identity.{Identity}
use Rattle.plain_state.specs.declared.value.Value.{Value}
use Rattle.plain_state.specs.declared.value.Value.TheVariants.{Number, Reference}
use Rattle.plain_state.specs.Cells.{CellsFollow, cell_of, is_cell, value_of_cell}
use Rattle.plain_state.specs.State.{Heap, Mutator, Plain, Record, record_of}
use Rattle.plain_state.specs.Writing.{filled, gained}
use Rattle.mutator_asm.specs.declared.instr.Instr.{Instr}
use Rattle.mutator_asm.specs.declared.instr.Instr.TheVariants as instrs
use Rattle.plain_heap.specs.declared.action.Action.TheVariants.{Makes}
use Rattle.plain_heap.specs.Action.{◌>>=◌, action, reference_in, register}
use Rattle.plain_heap.specs.Call.{After, call, performed}
use Rattle.plain_heap.specs.Step.{settled}
use Rattle.plain_heap.specs.Tracing.{is_weak}
use Rattle.plain_heap.proofs.Calls.MadeCells.{cells_stay, gained_is, no_cell_comes}
use Rattle.plain_heap.proofs.Reaching.Emptying.{has-cell}

-- ---- cells stay

pub call-cells : (m : ℕ) (heap : Heap) (k : Mutator) (instr : Instr) (after : After) → call m heap k instr ≡ Ok after → (i : Identity) (v : Value) → cell_of heap i ≡ Some v → cell_of after.heap i ≡ Some v
call-cells m heap k instr after is i v held =
    let has = has-cell heap i v held in
    ap (option_and_then value_of_cell) (cells_stay m heap k instr after i has.0 is has.2 has.1 ∙ sym has.1) ∙ held

-- ---- cells come

module _ (m : ℕ) (heap : Heap) (k : Mutator) (i : Identity) (v : Value) (none : cell_of heap i ≡ None) where
  -- the cell with this value refers to a record
  abbrev Refers : Type 0
  Refers = (j : Identity) × (v ≡ Reference j)

  -- a record that isn't a cell with a value, or becomes none
  not_there : (r : Record) → record_of heap i ≡ Some r → ¬ (value_of_cell r ≡ Some v)
  not_there r found holds = let both = sym none ∙ (ap (option_and_then value_of_cell) found ∙ holds) in cc

  no_cell_before : (instr : Instr) (after : After) → call m heap k instr ≡ Ok after → cell_of after.heap i ≡ Some v → (r : Record) → record_of heap i ≡ Some r → is_cell r.kind ≡ false
  no_cell_before instr after is held r found = by_kind (is_cell r.kind) refl
    where
      by_kind : (cell : Bool) → is_cell r.kind ≡ cell → cell ≡ false
      by_kind true cell =
          let stays = cells_stay m heap k instr after i r is cell found in
          absurd (not_there r found (sym (ap (option_and_then value_of_cell) stays) ∙ held))
      by_kind false other = refl

  none_comes : (instr : Instr) (after : After) → is_weak instr ≡ false → call m heap k instr ≡ Ok after → cell_of after.heap i ≡ Some v → Refers
  none_comes instr after other is held =
      let has = has-cell after.heap i v held in
      let no_cell = no_cell_comes m heap k instr after i other (no_cell_before instr after is held) is has.0 has.1 in
      let both : true ≡ false = sym has.2 ∙ no_cell in
      absurd (cc)

  gained_refers : (j : Identity) → cell_of (gained heap m (filled Weak 1 (Reference j))) i ≡ Some v → Refers
  gained_refers j held =
      let new : Record = filled Weak 1 (Reference j) in
      let has = has-cell (gained heap m new) i v held in
      let holds : value_of_cell has.0 ≡ Some v = sym (ap (option_and_then value_of_cell) has.1) ∙ held in
      ⊎_elim
      (λ (before : record_of heap i ≡ Some has.0). absurd (not_there has.0 before holds))
      (λ (newest : new ≡ has.0). (j, same_Some v (Reference j) (sym holds ∙ ap value_of_cell (sym newest))))
      (gained_is m heap k i new has.0 has.1)

  pub made-cell : (instr : Instr) (after : After) → call m heap k instr ≡ Ok after → cell_of after.heap i ≡ Some v → Refers
  unfolding call action
  made-cell (instrs.Weak d a) after is held = by_register (register k a) is
    where
      by_register : (x : Value) → ((reference_in x >>= (λ j. Ok (Makes Weak d 1 (Reference j)))) >>= performed m heap k) ≡ Ok after → Refers
      by_register (Number n) is = absurd (cc)
      by_register (Reference j) is = gained_refers j (ap (λ (h : Heap). cell_of h i) (heap_is is) ∙ held)
        where
          heap_is : performed m heap k (Makes Weak d 1 (Reference j)) ≡ Ok after → gained heap m (filled Weak 1 (Reference j)) ≡ after.heap
          heap_is is = cc
  made-cell instr after is held = none_comes instr after refl is held

-- ---- what a step does

-- each cell of the heap before has what it had, and each other one of the heap after refers to a record
pub record LeavesCells (before after : Heap) : Type 0 where
  pub keeps : (i : Identity) (v : Value) → cell_of before i ≡ Some v → cell_of after i ≡ Some v
  pub made : (i : Identity) (v : Value) → cell_of before i ≡ None → cell_of after i ≡ Some v → (j : Identity) × (v ≡ Reference j)

pub same-cells : (heap : Heap) → LeavesCells heap heap
same-cells heap = record { keeps = λ i v held. held; made = λ i v none held. absurd (let both = sym none ∙ held in cc) }

pub settled-cells : (p : Plain) (m : ℕ) (k : Mutator) (instr : Instr) → LeavesCells p.heap (settled p m k (call m p.heap k instr)).heap
settled-cells p m k instr = by_call (call m p.heap k instr) refl
  where
    by_call : (r : Result After End) → call m p.heap k instr ≡ r → LeavesCells p.heap (settled p m k r).heap
    by_call (Ok after) is = record { keeps = call-cells m p.heap k instr after is; made = λ i v none held. made-cell m p.heap k i v none instr after is held }
    by_call (Err why) is = same-cells p.heap

-- the cells of an earlier state are followed still, if the epoch is traced exactly if it was before
module _ (was now : Type 0) (o p q : Plain) (still : was → now) (before : now → was) (leaves : LeavesCells p.heap q.heap) (follows : CellsFollow was o p) where
  made_since : (i : Identity) (v : Value) → cell_of o.heap i ≡ None → cell_of q.heap i ≡ Some v → (j : Identity) × (v ≡ Reference j)
  made_since i v none held = by_value (cell_of p.heap i) refl
    where
      by_value : (w : Option Value) → cell_of p.heap i ≡ w → (j : Identity) × (v ≡ Reference j)
      by_value None new = leaves.made i v new held
      by_value (Some w) had =
          let refers = follows.made i w none had in
          (refers.0, same_Some v w (sym held ∙ leaves.keeps i w had) ∙ refers.1)

  pub followed-on : CellsFollow now o q
  followed-on = record {
    untraced = λ not i v held. leaves.keeps i v (follows.untraced (λ is. not (still is)) i v held);
    lost = λ is. record {
      lost = λ i lost. leaves.keeps i (Number 0) ((follows.lost (before is)).lost i lost);
      kept = λ i v held stays. leaves.keeps i v ((follows.lost (before is)).kept i v held stays);
    };
    made = made_since;
  }
