-- Steps on things that have places, as the rows of a table: what a step is on, and what it does there.
use Rattle.std.specs.Prelude.{ℕ, ⊤, Option, Some, None}
use Rattle.atom_store.specs.declared.step.Step.{Step}
use Rattle.atom_store.specs.declared.step.Step.TheVariants as step

-- a load, a store or an exchange of the word of a P
pub data StepOn (P : Type 0) : Type 0 where
  Load : (on : P) → StepOn P
  Store : (on : P) (word : ℕ) → StepOn P
  Exchange : (on : P) (old new : ℕ) → StepOn P

-- what the step is on
abbrev pub touched : {P : Type 0} → StepOn P → P
touched (Load on) = on
touched (Store on word) = on
touched (Exchange on old new) = on

-- the step, by the place of each P
abbrev pub step_at : {P : Type 0} → (place : P → ℕ) → StepOn P → Step
step_at place (Load on) = step.Load (place on)
step_at place (Store on word) = step.Store (place on) word
step_at place (Exchange on old new) = step.Exchange (place on) old new

-- there is a step, and Q is so of what it is on
abbrev pub IsOn : {P : Type 0} → (Q : P → Type 0) → Option (StepOn P) → Type 0
IsOn Q None = ⊥
IsOn Q (Some step) = Q (touched step)

-- Q is so of whatever the step writes, if there is one
abbrev pub WritesOnly : {P : Type 0} → (Q : P → Type 0) → Option (StepOn P) → Type 0
WritesOnly Q None = ⊤
WritesOnly Q (Some (Load on)) = ⊤
WritesOnly Q (Some (Store on word)) = Q on
WritesOnly Q (Some (Exchange on old new)) = Q on
