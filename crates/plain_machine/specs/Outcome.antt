-- What the outcome of an instruction on the plain machine says of the code that executes it.
use Rattle.std.specs.Prelude.{◌≡◌, Result, Ok, Err, IsOk, MatchResult}
use Rattle.plain_state.specs.declared.end.End.{End}
use Rattle.plain_state.specs.State.{Heap, Mutator}
use Rattle.plain_heap.specs.Call.{After}
use Rattle.plain_machine.specs.declared.stop.Stop.{Stop}
use Rattle.plain_machine.specs.declared.stop.Stop.TheVariants.{Ended, OutOfMemory}

-- the instruction is executed, and leaves this heap and this mutator
abbrev pub Leaves : Result After End → Heap → Mutator → Type 0
Leaves outcome heap k = outcome ≡ Ok (record { heap = heap; mutator = k })

-- the instruction is executed, or it is the mutator's end and nothing changed
abbrev pub IsExecuted : {T : Type 0} → Result After End → Result T End → Heap → Mutator → Heap → Mutator → Type 0
IsExecuted outcome answer heap k new_heap new_k =
    MatchResult answer (λ _. Leaves outcome new_heap new_k)
    (λ why. (outcome ≡ Err why) × (new_heap ≡ heap) × (new_k ≡ k))

-- The instruction isn't executed: it is this end, or there is no memory for what it would leave.
abbrev pub StopsBy : Result After End → Stop → Type 0
StopsBy outcome (Ended why) = outcome ≡ Err why
StopsBy outcome OutOfMemory = IsOk outcome

-- the same of an instruction that takes memory: it is executed, or it stops and nothing changed
abbrev pub IsTried : {T : Type 0} → Result After End → Result T Stop → Heap → Mutator → Heap → Mutator → Type 0
IsTried outcome answer heap k new_heap new_k =
    MatchResult answer (λ _. Leaves outcome new_heap new_k)
    (λ stop. StopsBy outcome stop × (new_heap ≡ heap) × (new_k ≡ k))
