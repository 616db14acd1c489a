-- What a running mutator may hold, and how it goes on: with other registers, another account, or another access.
use Rattle.plain_state.specs.declared.value.Value.{Value}
use Rattle.std.specs.Prelude.{◌≡◌, ℕ, ◌+◌, ◌<◌, Bool, true, Some, None, slice_set, Option, ◌↔◌, ◌*◌}
use Rattle.plain_state.specs.State as plain
use Rattle.space_map.specs.declared.page_word.PageWord.TheVariants.{Open}
use Rattle.heap_state.specs.Memory.Era.{Era, Memory}
use Rattle.heap_state.specs.Invariant.Ghost.{Ghost, Leads, Lands}
use Rattle.heap_state.specs.Invariant.Parts.Knowledge.{Accesses}
use Rattle.heap_state.specs.Meaning.Values.{value_of}
use Rattle.heap_state.specs.Known.{Known, Stock, Access, Round, Reset, Account, Team}
use Rattle.heap_laws.specs.Composing.{LessAtPages, SameAtChain}
use Rattle.heap_laws.specs.Steps.{Ready}
use Rattle.space_map.specs.declared.spaces.TheConstants.{PAGE_WORDS}

-- a word that a mutator may hold: where it is a pointer, it leads to a record that stands, and not into the old space
pub record MayHold (E : Era) (size writer : ℕ → ℕ) (w : ℕ) : Type 0 where
  pub clean : ¬ (Leads E w)
  pub lands : Lands size writer w

-- the word is one that a mutator may hold, and denotes the value
pub record HoldsValue (E : Era) (g : Ghost) (w : ℕ) (y : Value) : Type 0 where
  pub held : MayHold E g.size g.writer w
  pub denotes : value_of g.identity w ≡ Some y

-- two words that a mutator may hold are equal exactly where they denote the same value
abbrev pub SameWords : Type 0
SameWords = (E : Era) (m : Memory) (team : Team) (g : Ghost) (k v w : ℕ) (x y : Value) → Ready E m team g k → HoldsValue E g v x → HoldsValue E g w y → (v ≡ w) ↔ (x ≡ y)

-- Mutator w goes on as `next`. It stands where it stood, and copies, links and scans what it did. What it knows it knew before, but
-- for its access, a page found open, whether the epoch is traced and its space's size, of which what it says is so. Its registers hold what a mutator may
-- hold, as long as it has no end.
pub record MutatorGoesOn (E : Era) (m : Memory) (g : Ghost) (w next : Known) : Type 0 where
  pub post : next.post ≡ w.post
  pub epoch : next.epoch ≡ w.epoch
  pub done : next.done ≡ w.done
  pub serial : next.account.serial ≡ w.account.serial
  pub quest : next.quest ≡ w.quest
  pub copy : next.copy ≡ w.copy
  pub scan : next.scan ≡ w.scan
  pub chain : SameAtChain next w
  pub gate_step : next.gate_step ≡ None
  pub stock : (q : Stock) → next.stock ≡ Some q → w.stock ≡ Some q
  pub round : (r : Round) → next.round ≡ Some r → w.round ≡ Some r
  pub pages : LessAtPages next w
  pub traced_seen : next.traced_seen ≡ true → m.traced ≡ E.epoch + 1
  pub size_seen : (p : ℕ) → next.size_seen ≡ Some p → E.span ≡ PAGE_WORDS * p
  pub reset : (r : Reset) → next.reset ≡ Some r → w.reset ≡ Some r
  pub access : (f : Access) → next.access ≡ Some f → Accesses E g.size g.writer g.kind f
  pub opened : (p : ℕ) → next.opened ≡ Some p → m.page p ≡ Open E.epoch
  pub registers : next.account.end ≡ None → (j : ℕ) → j < 8 → MayHold E g.size g.writer (next.registers j)

-- Worker w with another account, other registers, another access and another page found open, which has seen its epoch traced or not. It
-- knows the rest that it knew.
abbrev pub going_on : Known → Account → (ℕ → ℕ) → Option Access → Option ℕ → (seen : Bool) → Known
going_on w account registers access opened seen =
    record w { account = account; registers = registers; access = access; opened = opened; traced_seen = seen; gate_step = None }

-- what it becomes so goes on, if what it then knows is so
abbrev pub GoesOnSo : Type 0
GoesOnSo = (E : Era) (m : Memory) (team : Team) (g : Ghost) (k : ℕ) (account : Account) (registers : ℕ → ℕ) (access : Option Access) (opened : Option ℕ) (seen : Bool) → Ready E m team g k
    → account.serial ≡ (team.worker k).account.serial
    → ((f : Access) → access ≡ Some f → Accesses E g.size g.writer g.kind f) → ((p : ℕ) → opened ≡ Some p → m.page p ≡ Open E.epoch)
    → (account.end ≡ None → (j : ℕ) → j < 8 → MayHold E g.size g.writer (registers j))
    → (seen ≡ true → (team.worker k).traced_seen ≡ true)
    → MutatorGoesOn E m g (team.worker k) (going_on (team.worker k) account registers access opened seen)

-- the plain state in which mutator k is this one
abbrev pub with_mutator : plain.Plain → ℕ → plain.Mutator → plain.Plain
with_mutator p k q = record p { mutators = slice_set p.mutators k q }
