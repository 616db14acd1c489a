-- Where the targets of weak cells lead: the walk over the chain loads each target and replaces it, and TRACED is exchanged.
use Rattle.std.specs.Prelude.{◌≡◌, ℕ, ◌+◌, ◌<◌, ◌≤◌, ◌⊎◌, false, Some, None}
use Rattle.heap_words.specs.Decoded.{PointerWord, decode}
use Rattle.heap_state.specs.Cells.{Ranks, Chain}
use Rattle.heap_state.specs.Memory.Entries.{WordIs, TracedIs}
use Rattle.heap_state.specs.Memory.Era.{Era, Memory}
use Rattle.heap_state.specs.Invariant.Ghost.{Ghost, Leads}
use Rattle.heap_state.specs.Targets.{IsCell, Targets}
use Rattle.heap_state.specs.Known.{Team, Visit, At, Done}
use Rattle.heap_laws.specs.Cells.Walks.{FindsTarget, passed}
use Rattle.heap_laws.specs.Fields.Held.{MayHold}
use Rattle.heap_laws.specs.Steps.{Ready, WritesRow}

-- ---- a target is loaded

-- What the walk finds by the target of the cell that it has come to: one that doesn't lead into the old space is passed; and a pointer
-- out of the epoch's space leads to a record of the old one.
pub record TargetIsFound (E : Era) (m : Memory) (g : Ghost) (v : Visit) : Type 0 where
  pub passed : ¬ (Leads E (m.heap (v.cell + 1))) → FindsTarget E m g v (passed v)
  pub old : (b : ℕ) → decode (m.heap (v.cell + 1)) ≡ PointerWord b → (b < E.start) ⊎ (E.start + E.span ≤ b) → FindsTarget E m g v (record v { old = Some b; word = None })

abbrev pub TargetsAreFound : Type 0
TargetsAreFound = (E : Era) (m : Memory) (weak turn : ℕ) (team : Team) (g : Ghost) (r : Ranks) (k : ℕ) (v : Visit) → Ready E m team g k
    → (team.worker k).pass ≡ Some (At v) → Chain E m weak turn team g r → Targets E m g → TargetIsFound E m g v

-- ---- it is replaced

-- a pointer to the copy is stored as the target, or the number 0
abbrev pub ReplacingCarriesTargets : Type 0
ReplacingCarriesTargets = (E : Era) (m later : Memory) (weak turn : ℕ) (team : Team) (g : Ghost) (r : Ranks) (k : ℕ) (v : Visit) (x : ℕ) → Ready E m team g k
    → (team.worker k).pass ≡ Some (At v) → v.past ≡ false → v.word ≡ Some x → WritesRow E m (Some (WordIs (v.cell + 1) x)) later
    → Chain E m weak turn team g r → Targets E m g → Targets E later g

-- ---- TRACED

-- the exchange of TRACED is won by who has walked over all copied cells
abbrev pub TracingCarriesTargets : Type 0
TracingCarriesTargets = (E : Era) (m later : Memory) (weak turn : ℕ) (team : Team) (g : Ghost) (r : Ranks) (k : ℕ) → Ready E m team g k
    → (team.worker k).pass ≡ Some Done → WritesRow E m (Some (TracedIs ((team.worker k).epoch + 1))) later
    → Chain E m weak turn team g r → Targets E m g → Targets E later g

-- once the epoch is traced, the target of a cell of the epoch's space is a word that a mutator may hold
abbrev pub TracedTargetsAreHeld : Type 0
TracedTargetsAreHeld = (E : Era) (m : Memory) (team : Team) (g : Ghost) (k a : ℕ) → Ready E m team g k → m.traced ≡ E.epoch + 1 → IsCell g a → E.start ≤ a → a < E.start + E.span
    → Targets E m g → MayHold E g.size g.writer (m.heap (a + 1))
