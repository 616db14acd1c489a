-- What the steps of a run find in a word of a record: what the run stored there last.
use Rattle.std.specs.Prelude.{◌≡◌, ℕ, List, [], ◌∷◌, ◌++◌, Some, slice_get}
use Rattle.plain_state.specs.declared.value.Identity.{Identity}
use Rattle.plain_state.specs.declared.value.Value.{Value}
use Rattle.plain_state.specs.State.{Mutator}
use Rattle.plain_heap.specs.declared.action.Action.TheVariants.{Loads, Compares}
use Rattle.plain_heap.specs.declared.mark.Mark.{Mark}
use Rattle.plain_heap.specs.declared.mark.Mark.TheVariants.{Step}
use Rattle.plain_heap.specs.Call.{set_register, went_on}
use Rattle.plain_heap.specs.Order.{plain}
use Rattle.plain_heap.specs.Records.{loaded_there, success}
use Rattle.plain_heap.specs.Stores.{StepDoes, last_store}
use Rattle.gc_core.specs.Run.{InEveryRun, run_of}

-- in the order of every run of every program, a load gets what was stored last in its word before it, or the number 0; or the value of a cell
abbrev pub LoadsOfRunsGetTheLastStore : Type 0
LoadsOfRunsGetTheLastStore = InEveryRun (λ code turns config schedule n. (front rest : List Mark) (m : ℕ) (own : Mutator) (register : ℕ) (identity : Identity) (index : ℕ)
    → (run_of code turns config schedule n).order ≡ front ++ Step m ∷ rest
    → StepDoes code turns (plain code turns front) m own (Loads register identity index)
    → slice_get (plain code turns (front ++ Step m ∷ [])).mutators m ≡ Some (went_on (set_register own register (loaded_there (plain code turns front).heap identity index (last_store code turns front identity index)))))

-- and an exchange finds that: if it is what it expects, its mutator goes on with 1 in the register, else with 0
abbrev pub ExchangesOfRunsFindTheLastStore : Type 0
ExchangesOfRunsFindTheLastStore = InEveryRun (λ code turns config schedule n. (front rest : List Mark) (m : ℕ) (own : Mutator) (register : ℕ) (identity : Identity) (index : ℕ) (expected new : Value)
    → (run_of code turns config schedule n).order ≡ front ++ Step m ∷ rest
    → StepDoes code turns (plain code turns front) m own (Compares register identity index expected new)
    → slice_get (plain code turns (front ++ Step m ∷ [])).mutators m
    ≡ Some (went_on (set_register own register (success (last_store code turns front identity index) expected))))
