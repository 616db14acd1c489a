-- What an instruction leaves of the checkpoints.
use Rattle.std.proofs.Common.{◌≡◌, ◌⊎◌, inl, inr, ℕ, ◌+◌, ◌==◌, min, if◌then◌else◌, Bool, true, false, cond, Option, Some, None, Result, Ok, Err, refl, ap, sym, subst, ◌∙◌, arith}
use Rattle.std.proofs.lemmas.Bool.{eqb-true, eqb-false}
use Rattle.std.specs.Result.{IfOk}
use Rattle.plain_state.specs.declared.end.End.{End}
use Rattle.plain_state.specs.declared.sizes.TheConstants.{MOST_CHECKPOINTS}
use Rattle.plain_state.specs.declared.value.Identity.{Identity}
use Rattle.plain_state.specs.declared.value.Value.{Value}
use Rattle.plain_state.specs.declared.value.Value.TheVariants.{Number}
use Rattle.plain_state.specs.State.{Record, Heap, Mutator, record_of}
use Rattle.plain_state.specs.Writing.{stored, snapped_now, took}
use Rattle.mutator_asm.specs.declared.instr.Instr.{Instr}
use Rattle.mutator_asm.specs.declared.instr.Instr.TheVariants.{Snap}
use Rattle.plain_heap.specs.declared.action.Action.{Action}
use Rattle.plain_heap.specs.declared.action.Action.TheVariants.{Loads, Stores, Compares, Snaps}
use Rattle.plain_heap.specs.Action.{◌>>=◌, action}
use Rattle.plain_heap.specs.Call.{After, value_in, may_hold, store_in, set_register, performed, call, went_on}
use Rattle.plain_heap.specs.Calls.{KeepsCheckpoint, LeavesCheckpoint, OnlySnapBegins}
use Rattle.plain_heap.specs.Checkpoints.LastCheckpoint.{BeginsBetween, is_snap}
use Rattle.plain_heap.proofs.Calls.OnlySnap.{is_snap_alone, snap_takes, snaps_alone}
use Rattle.plain_heap.proofs.Calls.CallOutcomes.{if_ok-bind, if_ok-is, performed_exchange}

module _ (m : ℕ) (heap : Heap) (k : Mutator) where
  abbrev Keeps : After → Type 0
  Keeps after = KeepsCheckpoint heap after.heap

  abbrev Leaves : Result Action End → After → Type 0
  Leaves act after = LeavesCheckpoint act heap after.heap

  stores_keep : (l : Mutator) (i : Identity) (o : Option Record) (x : ℕ) (v : Value) → IfOk (store_in heap i o x v >>= (λ h. Ok (record { heap = h; mutator = l }))) Keeps
  stores_keep l i None x v = tt
  stores_keep l i (Some r) x v = by_held (may_hold r.kind x v)
    where
      by_held : (o : Result Value End) → IfOk ((o >>= (λ v. Ok (stored heap i r x v))) >>= (λ h. Ok (record { heap = h; mutator = l }))) Keeps
      by_held (Ok v) = record { snaps = refl; snapped = refl }
      by_held (Err why) = tt

  performed_leaves : (act : Action) → IfOk (performed m heap k act) (Leaves (Ok act))
  performed_leaves (Loads d i x) = if_ok-bind (Leaves (Ok (Loads d i x))) (value_in heap i x) _ (λ v. record { snaps = refl; snapped = refl })
  performed_leaves (Stores i x v) = if_ok-bind (Leaves (Ok (Stores i x v))) (value_in heap i x) _ (λ old. stores_keep (went_on k) i (record_of heap i) x v)
  performed_leaves (Compares d i x expected new) =
      performed_exchange m heap k d i x expected new Keeps (record { snaps = refl; snapped = refl }) (stores_keep (went_on (set_register k d (Number 1))) i (record_of heap i) x new)
  performed_leaves Snaps = refl
  performed_leaves _ = record { snaps = refl; snapped = refl }

  leaves_as : (o : Result Action End) → IfOk (o >>= performed m heap k) (Leaves o)
  leaves_as (Ok act) = performed_leaves act
  leaves_as (Err why) = tt

pub only_snap_begins : OnlySnapBegins
unfolding call
only_snap_begins m heap k instr after is = if_ok-is (Leaves m heap k (action k instr)) (call m heap k instr) after (leaves_as m heap k (action k instr)) is

-- ---- which instruction begins one

-- a checkpoint begins from the first heap to the second one, which keeps it
abbrev pub Begins : (heap next : Heap) → Type 0
Begins heap next = BeginsBetween heap next next.snaps next.snapped

-- what doesn't execute `snap` leaves what is kept
pub record NoSnap (heap next : Heap) (snaps : Bool) : Type 0 where
  pub is : snaps ≡ false
  pub keeps : KeepsCheckpoint heap next

-- and so does what executes it once there have been the most checkpoints
pub record SnapAtMost (heap next : Heap) (snaps : Bool) : Type 0 where
  pub is : snaps ≡ true
  pub most : heap.snaps ≡ MOST_CHECKPOINTS
  pub keeps : KeepsCheckpoint heap next

-- else it begins one
pub record SnapBegins (heap next : Heap) (snaps : Bool) : Type 0 where
  pub is : snaps ≡ true
  pub fewer : heap.snaps ≡ MOST_CHECKPOINTS → ⊥
  pub begins : Begins heap next

-- from the first heap comes the second one, by what executes `snap` or doesn't
abbrev pub SnapLeaves : (heap next : Heap) → (snaps : Bool) → Type 0
SnapLeaves heap next snaps = NoSnap heap next snaps ⊎ (SnapAtMost heap next snaps ⊎ SnapBegins heap next snaps)

-- it leaves the heap
pub left_as_it_is : (heap : Heap) → SnapLeaves heap heap false
left_as_it_is heap = inl (record { is = refl; keeps = record { snaps = refl; snapped = refl } })

abbrev pub heap_left : Heap → Result After End → Heap
heap_left heap (Ok after) = after.heap
heap_left heap (Err why) = heap

module _ (heap : Heap) where
  abbrev taken_if : (most : Bool) → Heap
  taken_if most = record heap { snaps = cond most heap.snaps (heap.snaps + 1); snapped = cond most heap.snapped (snapped_now heap) }

  taken : (most : Bool) → (heap.snaps == MOST_CHECKPOINTS) ≡ most → SnapLeaves heap (taken_if most) true
  taken true is = inr (inl (record { is = refl; most = eqb-true heap.snaps MOST_CHECKPOINTS is; keeps = record { snaps = refl; snapped = refl } }))
  taken false is = inr (inr (record {
    is = refl;
    fewer = eqb-false heap.snaps MOST_CHECKPOINTS is;
    begins = record { earlier = refl; number_is = refl; board = refl; records = refl };
  }))

  module _ (m : ℕ) (k : Mutator) (instr : Instr) where
    other_keeps : is_snap instr ≡ false → (next : Heap) (act : Result Action End) → action k instr ≡ act → LeavesCheckpoint act heap next → KeepsCheckpoint heap next
    other_keeps other next (Ok Snaps) acts leaves =
        let never : true ≡ false = subst (λ (i : Instr). is_snap i ≡ false) (snaps_alone k instr acts) other in
        absurd (cc)
    other_keeps other next _ acts leaves = leaves

    other_leaves : is_snap instr ≡ false → (o : Result After End) → call m heap k instr ≡ o → SnapLeaves heap (heap_left heap o) false
    other_leaves other (Ok after) is =
        inl (record { is = refl; keeps = other_keeps other after.heap (action k instr) refl (only_snap_begins m heap k instr after is) })
    other_leaves other (Err why) is = left_as_it_is heap

    by_snap : instr ≡ Snap → (o : Result After End) → call m heap k instr ≡ o → SnapLeaves heap (heap_left heap o) true
    by_snap snap o is =
        let takes : o ≡ Ok (record { heap = took heap; mutator = went_on k }) = sym is ∙ (ap (λ (i : Instr). call m heap k i) snap ∙ snap_takes m heap k) in
        subst (λ (z : Result After End). SnapLeaves heap (heap_left heap z) true) (sym takes) (taken (heap.snaps == MOST_CHECKPOINTS) refl)

    -- what a call leaves
    pub snap_leaves : (o : Result After End) → call m heap k instr ≡ o → SnapLeaves heap (heap_left heap o) (is_snap instr)
    snap_leaves o is = by_test (is_snap instr) refl
      where
        by_test : (snaps : Bool) → is_snap instr ≡ snaps → SnapLeaves heap (heap_left heap o) snaps
        by_test true snaps = by_snap (is_snap_alone instr snaps) o is
        by_test false other = other_leaves other o is

-- ---- how many were begun

abbrev pub if_snaps : (snaps : Bool) → ℕ
if_snaps snaps = if snaps then 1 else 0

module _ (heap next : Heap) (snaps : Bool) (count : ℕ) (counted : heap.snaps ≡ min count MOST_CHECKPOINTS) where
  -- as many as executed `snap`, or the most
  pub counted_more : SnapLeaves heap next snaps → next.snaps ≡ min (count + if_snaps snaps) MOST_CHECKPOINTS
  counted_more (inl leaves) = let same = leaves.keeps.snaps in rw (leaves.is) omega (arith, same, counted)
  counted_more (inr (inl leaves)) = let same = leaves.keeps.snaps in let most = leaves.most in rw (leaves.is) omega (arith, same, most, counted)
  counted_more (inr (inr leaves)) = let one = leaves.begins.earlier in let fewer = leaves.fewer in rw (leaves.is) omega (arith, one, fewer, counted)

  -- the one that begins has the number of those that executed it
  pub begun_counted : SnapBegins heap next snaps → count + 1 ≡ next.snaps
  begun_counted leaves = let one = leaves.begins.earlier in let fewer = leaves.fewer in omega (arith, one, fewer, counted)
