-- What words stand for in the plain machine, by what the proofs know of the heap.
use Rattle.std.specs.Prelude.{◌≡◌, ℕ, ◌+◌, ◌<◌, ◌≤◌, ◌⊎◌, true, length, Option, Some, None, slice_get}
use Rattle.std.specs.Bool.{⊤}
use Rattle.plain_state.specs.declared.kind.Kind.{Kind}
use Rattle.plain_state.specs.declared.kind.Kind.TheVariants.{Mixed}
use Rattle.heap_words.specs.Word.{number_word}
use Rattle.heap_words.specs.Decoded.{Decoded, NumberWord, PointerWord, decode}
use Rattle.plain_state.specs.declared.value.Identity.{Identity}
use Rattle.plain_state.specs.declared.value.Value.{Value}
use Rattle.plain_state.specs.declared.value.Value.TheVariants.{Number, Reference}
use Rattle.plain_state.specs.Cells.{cell_of}
use Rattle.plain_state.specs.State as plain
use Rattle.plain_state.specs.Layout.{is_field, is_raw, word_of_value, size_of}
use Rattle.heap_state.specs.Cells.{IsCopiedCell}
use Rattle.heap_state.specs.Memory.Era.{Era, Memory}
use Rattle.heap_state.specs.Invariant.Ghost.{Ghost}
use Rattle.heap_state.specs.Targets.{IsCell, IsCopied, IsOld}
use Rattle.heap_state.specs.Known.{Team, Account}

-- ---- words

-- the value that a word of a register, a field or the board denotes, if it denotes one
abbrev pub value_said : (ℕ → Identity) → Decoded → Option Value
value_said identity (NumberWord n) = Some (Number n)
value_said identity (PointerWord address) = Some (Reference (identity address))
value_said identity _ = None

unfoldable pub value_of : (ℕ → Identity) → ℕ → Option Value
value_of identity w = value_said identity (decode w)

-- ---- records

-- a mixed record at a has the count of its fields in word 1
abbrev pub CountShows : Kind → (heap : ℕ → ℕ) → (a : ℕ) → Type 0
CountShows (Mixed count) heap a = heap (a + 1) ≡ number_word count
CountShows _ heap a = ⊤

-- The words at a show a record of this kind and size: each value that stands in a field is denoted there, and each other one
-- is the number there.
pub record Shows (denotes : ℕ → Option Value) (heap : ℕ → ℕ) (a : ℕ) (k : Kind) (z : ℕ) (r : plain.Record) : Type 0 where
  pub kind : r.kind ≡ k
  pub size : size_of r ≡ z
  pub fields : (x : ℕ) → x < length r.values → is_field k (word_of_value k x) ≡ true → denotes (heap (a + word_of_value k x)) ≡ slice_get r.values x
  pub numbers : (x : ℕ) → x < length r.values → is_raw k (word_of_value k x) ≡ true → Some (Number (heap (a + word_of_value k x))) ≡ slice_get r.values x
  pub count : CountShows k heap a

-- each record that nobody writes, and that has not been copied to the end, shows the plain record of its identity
pub record ShowsAll (size writer copy keeper : ℕ → ℕ) (kind : ℕ → Kind) (identity : ℕ → Identity) (heap : ℕ → ℕ) (records : plain.Heap) : Type 0 where
  pub shows : (a : ℕ) → 0 < size a → writer a ≡ 0 → (copy a ≡ 0) ⊎ (0 < keeper a)
      → (r : plain.Record) × (plain.record_of records (identity a) ≡ Some r) × Shows (value_of identity) heap a (kind a) (size a) r

-- ---- cells

-- The target of the cell at a says what the plain cell has: the cell is in the epoch's space; or it is an old one, has not been copied to
-- the end, and the epoch isn't traced.
pub record IsShownCell (E : Era) (m : Memory) (g : Ghost) (a : ℕ) : Type 0 where
  pub cell : IsCell g a
  pub place : ((E.start ≤ a) × (a < E.start + E.span)) ⊎ ((m.traced ≤ E.epoch) × IsOld E a × ((g.copy a ≡ 0) ⊎ (0 < g.keeper a)))

-- The walk over the chain may have emptied the cell at a, whose plain value this is: it is a copied cell of an epoch that isn't traced
-- and whose turn is taken, its target is 0, and the plain one is a record of which no copy stands.
pub record MayBeEmptied (E : Era) (m : Memory) (g : Ghost) (a : ℕ) (v : Value) : Type 0 where
  pub copied : IsCopiedCell E m.front g a
  pub walked : (m.traced ≤ E.epoch) × (m.weak_turn ≡ E.epoch + 1)
  pub empty : decode (m.heap (a + 1)) ≡ NumberWord 0
  pub lost : (i : Identity) × (v ≡ Reference i) × ¬ (IsCopied E m.front g.size g.writer g.identity i)

-- each such target denotes the value of its plain cell, or the walk may have emptied the cell
pub record TargetsShow (E : Era) (m : Memory) (g : Ghost) (records : plain.Heap) : Type 0 where
  pub shows : (a : ℕ) (v : Value) → IsShownCell E m g a → cell_of records (g.identity a) ≡ Some v → (value_of g.identity (m.heap (a + 1)) ≡ Some v) ⊎ MayBeEmptied E m g a v

-- ---- mutators

-- a mutator has what its plain mutator has, which made as many records
pub record Accounts (records : plain.Heap) (m : ℕ) (a : Account) (p : plain.Mutator) : Type 0 where
  pub counter : a.counter ≡ p.counter
  pub printed : a.printed ≡ p.printed
  pub executed : a.executed ≡ p.executed
  pub end : a.end ≡ p.end
  pub serial : a.serial ≡ plain.serial_of records m

-- as long as it has no end, its registers denote the values of the plain registers
pub record RegistersShow (denotes : ℕ → Option Value) (registers : ℕ → ℕ) (p : plain.Mutator) : Type 0 where
  pub eight : length p.registers ≡ 8
  pub registers_show : p.end ≡ None → (j : ℕ) → j < 8 → denotes (registers j) ≡ slice_get p.registers j

-- the board's words denote the values of the plain board
pub record BoardShows (E : Era) (denotes : ℕ → Option Value) (heap : ℕ → ℕ) (records : plain.Heap) : Type 0 where
  pub sixteen : length records.board ≡ 16
  pub board : (x : ℕ) → x < 16 → denotes (heap (E.board + x)) ≡ slice_get records.board x

-- ---- the whole

-- the memory and its team show the plain state
pub record Shown (E : Era) (m : Memory) (team : Team) (g : Ghost) (p : plain.Plain) : Type 0 where
  pub objects : ShowsAll g.size g.writer g.copy g.keeper g.kind g.identity m.heap p.heap
  pub targets : TargetsShow E m g p.heap
  pub board : BoardShows E (value_of g.identity) m.heap p.heap
  pub as_many : length p.mutators ≡ team.mutators
  pub makers : length p.heap.records ≡ team.mutators
  pub accounts : (k : ℕ) (q : plain.Mutator) → slice_get p.mutators k ≡ Some q → Accounts p.heap k (team.worker k).account q
  pub registers : (k : ℕ) (q : plain.Mutator) → slice_get p.mutators k ≡ Some q → RegistersShow (value_of g.identity) (team.worker k).registers q
