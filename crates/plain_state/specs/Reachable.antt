-- What the plain machine's roots reach.
use Rattle.std.specs.Prelude.{◌≡◌, ℕ, ◌+◌, List, [], ◌∷◌, All, Contains, Option, Some, None, slice_get, true}
use Rattle.plain_state.specs.declared.value.Identity.{Identity}
use Rattle.plain_state.specs.declared.value.Value.TheVariants.{Reference}
use Rattle.plain_state.specs.State.{Record, Heap, Mutator, Plain, record_of}
use Rattle.plain_state.specs.Layout.{is_field, word_of_value, size_of}

-- Reachable is what a register of a mutator without an end or a board word refers to, and what a field of a reachable record
-- refers to.
pub data Reachable (p : Plain) : Identity → Type 0 where
  FromRegister : (m : ℕ) (q : Mutator) (j : ℕ) (i : Identity) → slice_get p.mutators m ≡ Some q → q.end ≡ None → slice_get q.registers j ≡ Some (Reference i) → Reachable p i
  FromBoard : (x : ℕ) (i : Identity) → slice_get p.heap.board x ≡ Some (Reference i) → Reachable p i
  FromRecord : (i : Identity) (r : Record) (n : ℕ) (j : Identity) → Reachable p i → record_of p.heap i ≡ Some r → is_field r.kind (word_of_value r.kind n) ≡ true
      → slice_get r.values n ≡ Some (Reference j) → Reachable p j

-- the words that a record takes, if there is one
abbrev pub words_of : Option Record → ℕ
words_of None = 0
words_of (Some r) = size_of r

-- the words that the records of these identities take
abbrev pub sum_of_records : Heap → List Identity → ℕ
sum_of_records heap [] = 0
sum_of_records heap (i ∷ identities) = words_of (record_of heap i) + sum_of_records heap identities

-- so many words are live: those of the reachable records, each counted once
pub record IsLive (p : Plain) (words : ℕ) : Type 0 where
  pub identities : List Identity
  pub reachable : All (Reachable p) identities
  pub all : (i : Identity) → Reachable p i → Contains identities i
  pub once : (a b : ℕ) (i : Identity) → slice_get identities a ≡ Some i → slice_get identities b ≡ Some i → a ≡ b
  pub sum : sum_of_records p.heap identities ≡ words
