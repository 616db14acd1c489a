-- What an executed instruction does to the registers.
use Rattle.std.proofs.Common.{◌≡◌, ◌≢◌, ℕ, ◌<◌, Result, Ok, ap, ◌∙◌, arith, get_or-set_same, get_or-set_other}
use Rattle.plain_state.specs.declared.end.End.{End}
use Rattle.plain_state.specs.declared.sizes.TheConstants.{REGISTERS}
use Rattle.plain_state.specs.declared.value.Value.{Value}
use Rattle.plain_state.specs.declared.value.Value.TheVariants.{Number}
use Rattle.plain_state.specs.State.{Heap, Mutator}
use Rattle.mutator_asm.specs.declared.instr.Instr.{Instr}
use Rattle.plain_heap.specs.Action.{register}
use Rattle.plain_heap.specs.Call.{After, call, loads, went_on}
use Rattle.ael_threads.specs.Seats.{Seated}
use Rattle.ael_runtime.specs.Calling.{HadEffect}
use Rattle.ael_runtime.specs.Reading.{held, number, seen_heap, seen_mutator}

pub after_same : (o : Result After End) (x y : After) → o ≡ Ok x → o ≡ Ok y → x ≡ y
after_same o x y is other = cc

-- it leaves this heap, and this value in register d
pub record Sets (a : Seated) (d : ℕ) (v : Value) (heap : Heap) (b : Seated) : Type 0 where
  pub value : held b d ≡ v
  pub others : (j : ℕ) → j ≢ d → held b j ≡ held a j
  pub heap_is : seen_heap b ≡ heap

pub sets : (a b : Seated) (i : Instr) (e : HadEffect a i b) (d : ℕ) (v : Value) (heap : Heap) → d < REGISTERS
    → call (number a) e.heap (seen_mutator a) i ≡ Ok (loads heap (seen_mutator a) d v) → Sets a d v heap b
sets a b i e d v heap within is =
    let same : e.after ≡ loads heap (seen_mutator a) d v = after_same _ e.after (loads heap (seen_mutator a) d v) e.is is in
    let mutator : seen_mutator b ≡ (loads heap (seen_mutator a) d v).mutator = e.mutator_is ∙ ap (λ (x : After). x.mutator) same in
    let count = e.at_call.registers in record {
      value = ap (λ (k : Mutator). register k d) mutator ∙ get_or-set_same (seen_mutator a).registers d v (Number 0) (omega (arith, count, within));
      others = λ j other. ap (λ (k : Mutator). register k j) mutator ∙ get_or-set_other (seen_mutator a).registers d j v (Number 0) other;
      heap_is = e.heap_is ∙ ap (λ (x : After). x.heap) same;
    }

-- it leaves this heap, and the registers as they were
pub record Writes (a : Seated) (heap : Heap) (b : Seated) : Type 0 where
  pub registers : (j : ℕ) → held b j ≡ held a j
  pub heap_is : seen_heap b ≡ heap

pub writes : (a b : Seated) (i : Instr) (e : HadEffect a i b) (heap : Heap)
    → call (number a) e.heap (seen_mutator a) i ≡ Ok (record { heap = heap; mutator = went_on (seen_mutator a) }) → Writes a heap b
writes a b i e heap is =
    let left : After = record { heap = heap; mutator = went_on (seen_mutator a) } in
    let same : e.after ≡ left = after_same _ e.after left e.is is in
    let mutator : seen_mutator b ≡ left.mutator = e.mutator_is ∙ ap (λ (x : After). x.mutator) same in record {
      registers = λ j. ap (λ (k : Mutator). register k j) mutator;
      heap_is = e.heap_is ∙ ap (λ (x : After). x.heap) same;
    }
