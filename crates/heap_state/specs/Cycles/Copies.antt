-- What a cycle has copied, by the words alone: the records of the epoch's space that stand below FRONT.
use Rattle.std.specs.Prelude.{◌≡◌, ℕ, ◌+◌, ◌-◌, true, false, List, Contains, Option, Some, slice_get}
use Rattle.heap_words.specs.Decoded.{decode}
use Rattle.plain_state.specs.declared.value.Identity.{Identity}
use Rattle.plain_state.specs.Reachable.{Reachable, IsLive, words_of}
use Rattle.plain_state.specs.State.{Plain, record_of}
use Rattle.heap_state.specs.Configuration.{Configuration, table, era, memory}
use Rattle.heap_state.specs.Meaning.Denotes.{named_by}
use Rattle.heap_state.specs.Memory.Era.{era_of, memory_of}
use Rattle.heap_state.specs.Kept.{Kept, kept_of, reserved_in}
use Rattle.heap_state.specs.Sums.{sum_of_sizes}
use Rattle.heap_state.specs.Memory.Table.{Table}
use Rattle.heap_state.specs.Memory.Walk.{Walked, walk}

-- the records that were copied in this epoch; a copy that is still written is none yet
abbrev pub copied_in : Table → List Kept → List Walked
copied_in t kept = walk ((memory_of t).front - (era_of t).start) (λ p. false) (reserved_in kept) t.heap (memory_of t).front (era_of t).start

abbrev pub copied_of : Configuration → List Walked
copied_of c = copied_in (table c) (kept_of c.workers)

-- the words that they take
abbrev pub words_copied : Configuration → ℕ
words_copied c = sum_of_sizes (λ w. true) (copied_of c)

-- the identity that a record's header names
abbrev pub name_of : Configuration → Walked → Option Identity
name_of c w = named_by (decode ((table c).heap w.at))

-- the header names the identity, and the record is as long as that identity's record
pub record IsCopyOf (c : Configuration) (o : Plain) (w : Walked) (i : Identity) : Type 0 where
  pub named : name_of c w ≡ Some i
  pub long : words_of (record_of o.heap i) ≡ w.size

-- What was copied is what was reachable in the plain state o: each copy is of such an identity, each such identity has one, and no two
-- copies are of one identity. They take all words below FRONT, which are as many as were live.
pub record CopiedIsLive (c : Configuration) (o : Plain) : Type 0 where
  pub only : (w : Walked) → Contains (copied_of c) w → (i : Identity) × Reachable o i × IsCopyOf c o w i
  pub all : (i : Identity) → Reachable o i → (w : Walked) × Contains (copied_of c) w × (name_of c w ≡ Some i)
  pub once : (a b : ℕ) (v w : Walked) → slice_get (copied_of c) a ≡ Some v → slice_get (copied_of c) b ≡ Some w → name_of c v ≡ name_of c w → a ≡ b
  pub front : (era c).start + words_copied c ≡ (memory c).front
  pub live : IsLive o (words_copied c)
