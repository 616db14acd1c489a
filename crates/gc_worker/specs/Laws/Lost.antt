-- What the cells of a traced epoch are: exactly those are empty whose targets weren't reachable at its flip, besides those that were empty then.
use Rattle.std.specs.Prelude.{◌≡◌, ℕ, ◌+◌, ◌⊎◌, ◌↔◌, Contains, Some, None}
use Rattle.heap_words.specs.declared.kind.Kind.TheVariants.{Weak}
use Rattle.heap_words.specs.Decoded.{NumberWord, HeaderWord, decode}
use Rattle.plain_state.specs.declared.value.Identity.{Identity}
use Rattle.plain_state.specs.declared.value.Value.{Value}
use Rattle.plain_state.specs.declared.value.Value.TheVariants.{Number, Reference}
use Rattle.plain_state.specs.Cells.{LosesTarget, cell_of}
use Rattle.plain_state.specs.State.{Plain}
use Rattle.heap_state.specs.Configuration.{Configuration, table}
use Rattle.heap_state.specs.Meaning.Denotes.{denoted}
use Rattle.heap_state.specs.Memory.Walk.{Walked, walk_of}
use Rattle.gc_worker.specs.Laws.Copied.{IsTraced}
use Rattle.gc_worker.specs.Laws.Step.{Heap, read}
use Rattle.gc_worker.specs.Laws.Stories.{StoryStands}

-- a cell in the walk of the epoch's space, by the header in its place, which has this identity
pub record IsWalkedCell (c : Configuration) (w : Walked) (i : Identity) : Type 0 where
  pub walked : Contains (walk_of c) w
  pub len : ℕ
  pub header : decode ((table c).heap w.at) ≡ HeaderWord Weak len i.serial i.mutator

-- the word of the cell's target
abbrev pub target_word : Configuration → Walked → ℕ
target_word c w = (table c).heap (w.at + 1)

-- The cell with identity i is empty exactly if its target wasn't reachable in the plain state o, or if it was empty there. One that o has
-- and that didn't lose its target denotes what it had there. One that o hasn't refers to a record. Each denotes what it has in the state p.
pub record IsEmptyIfLost (c : Configuration) (p o : Plain) (w : Walked) (i : Identity) : Type 0 where
  pub empty : (decode (target_word c w) ≡ NumberWord 0) ↔ (LosesTarget o i ⊎ (cell_of o.heap i ≡ Some (Number 0)))
  pub kept : (v : Value) → cell_of o.heap i ≡ Some v → ¬ (LosesTarget o i) → denoted c (target_word c w) ≡ Some v
  pub made : cell_of o.heap i ≡ None → (j : Identity) × (denoted c (target_word c w) ≡ Some (Reference j))
  pub now : denoted c (target_word c w) ≡ cell_of p.heap i

-- once the epoch is traced it is so of each cell in its space, by the plain state o at its flip and the plain state p now
abbrev pub AreEmptyIfLost : Heap → (p o : Plain) → Type 0
AreEmptyIfLost h p o = IsTraced h → (w : Walked) (i : Identity) → IsWalkedCell (read h) w i → IsEmptyIfLost (read h) p o w i

abbrev pub LostCellsAreEmpty : Type 0
LostCellsAreEmpty = (h : Heap) (p o : Plain) → StoryStands h p o → AreEmptyIfLost h p o
