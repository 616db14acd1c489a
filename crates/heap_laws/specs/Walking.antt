-- The walk over the chain of copied cells, step by step: WEAK is loaded, and of each cell its target, what stands where that leads, and
-- its link; and a target that leads into the old space is replaced.
use Rattle.std.specs.Prelude.{◌≡◌, ℕ, ◌+◌, ◌-◌, ◌*◌, ◌^◌, ◌<◌, ◌≤◌, ◌⊎◌, true, false, Some, None}
use Rattle.heap_words.specs.declared.kind.Kind.{Kind}
use Rattle.heap_words.specs.Decoded.{NumberWord, PointerWord, HeaderWord, ForwardWord, decode}
use Rattle.heap_state.specs.Memory.Entries.{WordIs}
use Rattle.heap_state.specs.Memory.Era.{Era, Memory}
use Rattle.heap_state.specs.Invariant.Ghost.{Ghost, Leads}
use Rattle.heap_state.specs.Known.{Known, Team, Visit, Pass, Begins, At}
use Rattle.heap_laws.specs.Cells.Walks.{ComesTo, passed, replacing}
use Rattle.heap_laws.specs.Steps.{Ready, Steps}

-- the worker whose walk is this
abbrev pub walking : Known → Pass → Known
walking w q = record w { pass = Some q }

-- worker k has come to this cell, and hasn't done with its target
pub record IsAtTarget (team : Team) (k : ℕ) (v : Visit) : Type 0 where
  pub at : (team.worker k).pass ≡ Some (At v)
  pub before : v.past ≡ false

-- ---- from cell to cell

-- WEAK is loaded, and as many cells may come as the epoch's space has room for
abbrev pub WalksBegin : Type 0
WalksBegin = (E : Era) (m : Memory) (team : Team) (g : Ghost) (k more : ℕ) (q : Pass) → Ready E m team g k → (team.worker k).pass ≡ Some Begins
    → E.span < 3 * (more + 1) → ComesTo m.weak more q
    → Steps E m team g k None (walking (team.worker k) q) g

-- the link of a cell is loaded that the walk has done with
abbrev pub WalksGoOn : Type 0
WalksGoOn = (E : Era) (m : Memory) (team : Team) (g : Ghost) (k : ℕ) (v : Visit) (q : Pass) → Ready E m team g k → (team.worker k).pass ≡ Some (At v) → v.past ≡ true
    → ComesTo (m.heap (v.cell + 2)) (v.more - 1) q
    → Steps E m team g k None (walking (team.worker k) q) g

-- ---- a cell's target

-- it is loaded, and doesn't lead into the old space
abbrev pub TargetsStay : Type 0
TargetsStay = (E : Era) (m : Memory) (team : Team) (g : Ghost) (k : ℕ) (v : Visit) → Ready E m team g k → IsAtTarget team k v → ¬ (Leads E (m.heap (v.cell + 1)))
    → Steps E m team g k None (walking (team.worker k) (At (passed v))) g

-- it is loaded, and leads out of the epoch's space
abbrev pub TargetsLeadOut : Type 0
TargetsLeadOut = (E : Era) (m : Memory) (team : Team) (g : Ghost) (k : ℕ) (v : Visit) (b : ℕ) → Ready E m team g k → IsAtTarget team k v
    → decode (m.heap (v.cell + 1)) ≡ PointerWord b → (b < E.start) ⊎ (E.start + E.span ≤ b)
    → Steps E m team g k None (walking (team.worker k) (At (record v { old = Some b; word = None }))) g

-- a forward is loaded where it leads: the pointer to the copy is to replace it
abbrev pub CopiesReplaceTargets : Type 0
CopiesReplaceTargets = (E : Era) (m : Memory) (team : Team) (g : Ghost) (k : ℕ) (v : Visit) (b len d word : ℕ) → Ready E m team g k → IsAtTarget team k v → v.old ≡ Some b
    → decode (m.heap b) ≡ ForwardWord len d → decode word ≡ PointerWord d
    → Steps E m team g k None (walking (team.worker k) (At (replacing v word))) g

-- a header is loaded there: the number 0 is to replace it
abbrev pub NothingReplacesTargets : Type 0
NothingReplacesTargets = (E : Era) (m : Memory) (team : Team) (g : Ghost) (k : ℕ) (v : Visit) (b : ℕ) (kind : Kind) (len serial mutator word : ℕ) → Ready E m team g k → IsAtTarget team k v → v.old ≡ Some b
    → decode (m.heap b) ≡ HeaderWord kind len serial mutator → decode word ≡ NumberWord 0
    → Steps E m team g k None (walking (team.worker k) (At (replacing v word))) g

-- the word that is to replace it, which is below 2^62, is stored
abbrev pub TargetsAreReplaced : Type 0
TargetsAreReplaced = (E : Era) (m : Memory) (team : Team) (g : Ghost) (k : ℕ) (v : Visit) (word : ℕ) → Ready E m team g k → IsAtTarget team k v → v.word ≡ Some word → word < 2 ^ 62
    → Steps E m team g k (Some (WordIs (v.cell + 1) word)) (walking (team.worker k) (At (passed v))) g
