-- Where the targets of weak cells lead: what a step keeps of it that writes none.
use Rattle.std.specs.Prelude.{◌≡◌, ◌≢◌, ℕ, ◌+◌, ◌<◌, ◌≤◌, ⊤, Option, Some}
use Rattle.heap_state.specs.Cells.{Ranks, IsCopiedCell, Chain}
use Rattle.heap_state.specs.Memory.Entries.{Entry, WeakIs, WeakTurnIs, WordIs}
use Rattle.heap_state.specs.Memory.Era.{Era, Memory}
use Rattle.heap_state.specs.Invariant.Ghost.{Ghost}
use Rattle.heap_state.specs.Targets.{IsCell, Targets}
use Rattle.heap_state.specs.Known.{Team, Stock}
use Rattle.heap_laws.specs.Allocation.Stocks.{HasStock}
use Rattle.heap_laws.specs.Cells.Frames.{IsUnreadRow, SameCells}
use Rattle.heap_laws.specs.Steps.{Ready, WritesRow}

-- ---- what is read

-- TRACED and the targets of cells stay. No place becomes a cell, none that was above FRONT or below LOW comes to be below FRONT or from
-- LOW up, and each record that nobody writes is still one.
pub record CarriesTargets (E : Era) (m later : Memory) (g h : Ghost) : Type 0 where
  pub traced : later.traced ≡ m.traced
  pub front : m.front ≤ later.front
  pub fewer : (a : ℕ) → IsCell h a → IsCell g a
  pub below : (a : ℕ) → IsCopiedCell E later.front h a → a < m.front
  pub above : (a : ℕ) → IsCell h a → later.low ≤ a → a < E.start + E.span → m.low ≤ a
  pub targets : (a : ℕ) → IsCell h a → later.heap (a + 1) ≡ m.heap (a + 1)
  pub stands : (b : ℕ) → 0 < g.size b → 0 < h.size b
  pub written : (b : ℕ) → 0 < g.size b → g.writer b ≡ 0 → h.writer b ≡ 0

abbrev pub TargetsAreCarried : Type 0
TargetsAreCarried = (E : Era) (m later : Memory) (g h : Ghost) → CarriesTargets E m later g h → Targets E m g → Targets E later h

-- ---- rows and words that are none of it

-- the row is none of those by which targets are known: also WEAK and WEAKTURN are none
abbrev pub IsNoTargetRow : Era → Option Entry → Type 0
IsNoTargetRow E (Some (WeakIs word)) = ⊤
IsNoTargetRow E (Some (WeakTurnIs word)) = ⊤
IsNoTargetRow E e = IsUnreadRow E e

abbrev pub UnreadRowsCarryTargets : Type 0
UnreadRowsCarryTargets = (E : Era) (m later : Memory) (g h : Ghost) (e : Option Entry) → WritesRow E m e later → IsNoTargetRow E e → SameCells g h
    → Targets E m g → Targets E later h

-- the address is that of no target
abbrev pub IsNoTarget : Ghost → ℕ → Type 0
IsNoTarget g x = (a : ℕ) → IsCell g a → x ≢ a + 1

abbrev pub UnreadWordsCarryTargets : Type 0
UnreadWordsCarryTargets = (E : Era) (m later : Memory) (g h : Ghost) (x v : ℕ) → WritesRow E m (Some (WordIs x v)) later → IsNoTarget g x → SameCells g h
    → Targets E m g → Targets E later h

-- Such is a word of a record that is no cell, the first word of any record, a cell's link, a word of the board, and a word of the
-- stock of worker k.
pub record WordsAreNoTargets (E : Era) (team : Team) (g : Ghost) (k : ℕ) : Type 0 where
  pub of_others : (b i : ℕ) → i < g.size b → ¬ (IsCell g b) → IsNoTarget g (b + i)
  pub first : (b : ℕ) → 0 < g.size b → IsNoTarget g b
  pub link : (b : ℕ) → IsCell g b → IsNoTarget g (b + 2)
  pub board : (x : ℕ) → E.board ≤ x → IsNoTarget g x
  pub stock : (q : Stock) → HasStock team k q → (x : ℕ) → q.at ≤ x → x < q.end → IsNoTarget g x

abbrev pub NoTargetWords : Type 0
NoTargetWords = (E : Era) (m : Memory) (weak turn : ℕ) (team : Team) (g : Ghost) (r : Ranks) (k : ℕ) → Ready E m team g k → Chain E m weak turn team g r → WordsAreNoTargets E team g k
