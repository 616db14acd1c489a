-- How the plain machine's calls end, of the instructions that the runtime makes.
use Rattle.std.proofs.Common.{◌≡◌, ℕ, true, Some, None, Result, Ok, Err, refl, ap, sym, ◌∙◌, subst}
use Rattle.std.specs.Prelude.{IsOk}
use Rattle.std.specs.Option.{option_map}
use Rattle.plain_state.specs.declared.end.End.{End}
use Rattle.plain_state.specs.declared.end.End.TheVariants.{HeapFull}
use Rattle.plain_state.specs.State.{Heap, Mutator}
use Rattle.mutator_asm.specs.declared.instr.Instr.{Instr}
use Rattle.plain_heap.specs.declared.action.Action.{Action}
use Rattle.plain_heap.specs.declared.action.Action.TheVariants.{Makes}
use Rattle.plain_heap.specs.Action.{action}
use Rattle.plain_heap.specs.Alone.{is_heap_full}
use Rattle.plain_heap.specs.Call.{After, call}
use Rattle.plain_heap.specs.Step.{pages_of, record_made}
use Rattle.gc_worker.specs.Plain.Answer.{MayEnd}
use Rattle.gc_worker.specs.Plain.Seen.{making_in}

-- it has its effect
pub is_done : (o : Result After End) (after : After) → o ≡ Ok after → IsOk o
is_done o after is = subst IsOk (sym is) refl

record_none : (o : Result Action End) → making_in o ≡ None → record_made o ≡ None
record_none (Ok (Makes kind d n v)) none = cc
record_none _ none = refl

-- it has its effect, or an end
not_both : (o : Result After End) (end : End) → IsOk o → o ≡ Err end → ⊥
not_both (Ok after) end ok is = cc
not_both (Err why) end ok is = cc

-- an instruction that has its effect, and makes no record, has no end
pub not_ended : (m : ℕ) (heap : Heap) (k : Mutator) (i : Instr) (end : End) → making_in (action k i) ≡ None → IsOk (call m heap k i) → MayEnd m heap k i end → ⊥
not_ended m heap k i (HeapFull asked room live) none ok may = let asks : None ≡ Some asked = sym (ap (option_map pages_of) (record_none (action k i) none)) ∙ may in cc
not_ended m heap k i _ none ok may = not_both (call m heap k i) _ ok may

-- one that makes no record has the end that the plain machine gives it
pub own_end : (m : ℕ) (heap : Heap) (k : Mutator) (i : Instr) (end : End) → making_in (action k i) ≡ None → MayEnd m heap k i end → call m heap k i ≡ Err end
own_end m heap k i (HeapFull asked room live) none may = let asks : None ≡ Some asked = sym (ap (option_map pages_of) (record_none (action k i) none)) ∙ may in absurd (cc)
own_end m heap k i _ none may = may

-- one that has its effect ends only for a full heap
pub ends_full : (m : ℕ) (heap : Heap) (k : Mutator) (i : Instr) (end : End) → IsOk (call m heap k i) → MayEnd m heap k i end → is_heap_full end ≡ true
ends_full m heap k i (HeapFull asked room live) ok may = refl
ends_full m heap k i _ ok may = absurd (not_both (call m heap k i) _ ok may)
