-- The gate's other steps: a mutator attaches, parks, asks for a flip or for a checkpoint, clears the request that was its own, has
-- forwarded its registers, goes on, or leaves. Each is the exchange of the gate from the word that was read.
use Rattle.std.specs.Prelude.{◌≡◌, ℕ, ◌+◌, ◌*◌, ◌-◌, true, false, Some, None, is_some}
use Rattle.space_map.specs.declared.gate_word.GateWord.{GateWord}
use Rattle.space_map.specs.declared.spaces.TheConstants.{PAGE_WORDS}
use Rattle.space_map.specs.GateWord.{GateFits}
use Rattle.heap_state.specs.Memory.Era.{Era, Memory}
use Rattle.heap_state.specs.Invariant.Ghost.{Ghost}
use Rattle.heap_state.specs.Invariant.Inductive.{Invariant}
use Rattle.heap_state.specs.Known.{Known, Team, Scanner, Running, Stopped, Flipping, Snapping, Gone, Passage, Enter, Park, Request, RequestSnap, Clear, Forwarded, Resume, Leave, GateStep, is_running}
use Rattle.heap_state.specs.Memory.Entries.{GateIs}
use Rattle.heap_state.specs.Invariant.Parts.Knowledge.{Passes}
use Rattle.heap_laws.specs.Composing.{ends_round}
use Rattle.heap_laws.specs.Steps.{Ready, Steps}

-- the gate after a passage
abbrev pub gate_after : Passage → GateWord → GateWord
gate_after Enter gate = record gate { live = gate.live + 1; running = gate.running + 1 }
gate_after Park gate = record gate { running = gate.running - 1 }
gate_after (Request asked) gate = record gate { running = gate.running - 1; request = true }
gate_after RequestSnap gate = record gate { running = gate.running - 1; request = true }
gate_after Clear gate = record gate { request = false }
gate_after Forwarded gate = record gate { behind = gate.behind - 1 }
gate_after Resume gate = record gate { running = gate.running + 1 }
gate_after Leave gate = record gate { live = gate.live - 1; running = gate.running - 1; left = gate.left + 1 }

-- the worker that comes into an epoch: what it had claimed and read in an older one is of no use
abbrev pub into_epoch : Known → ℕ → Known
into_epoch w epoch = record (ends_round w) { epoch = epoch; done = 0; stock = None; gate_step = None }

-- the worker that runs no more: it knows of no page any more that it is open, and of no size
abbrev pub out_of_run : Known → Known
out_of_run w = record w { access = None; opened = None; size_seen = None; gate_step = None }

-- the worker after a passage, in an epoch
abbrev pub worker_after : ℕ → Passage → Known → Known
worker_after epoch Enter w = record (into_epoch w epoch) { post = Running }
worker_after epoch Park w = record (out_of_run w) { post = Stopped; traced_seen = false }
worker_after epoch (Request asked) w = record (out_of_run w) { post = Flipping asked }
worker_after epoch RequestSnap w = record (out_of_run w) { post = Snapping }
worker_after epoch Clear w = record (out_of_run w) { post = Stopped; traced_seen = false }
worker_after epoch Forwarded w = into_epoch w epoch
worker_after epoch Resume w = record w { post = Running; gate_step = None }
worker_after epoch Leave w = record (out_of_run w) { post = Gone; traced_seen = false }

-- the gate is read, and allows this passage
abbrev pub ReadingGateKeeps : Type 0
ReadingGateKeeps = (E : Era) (m : Memory) (team : Team) (g : Ghost) (k : ℕ) (p : Passage) → Ready E m team g k
    → Passes (team.worker k).post (team.worker k).epoch (team.worker k).done (is_some (team.worker k).account.end) (team.worker k).traced_seen m.gate p
    → Steps E m team g k None (record (team.worker k) { gate_step = Some (record { read = m.gate; passage = p }) }) g

-- worker k wins the exchange: the gate is the one that was read
pub record WinsGate (m : Memory) (team : Team) (k : ℕ) (s : GateStep) : Type 0 where
  pub step : (team.worker k).gate_step ≡ Some s
  pub unchanged : m.gate ≡ s.read

abbrev pub PassingGateKeeps : Type 0
PassingGateKeeps = (E : Era) (m : Memory) (team : Team) (g : Ghost) (k : ℕ) (s : GateStep) → Ready E m team g k → (team.worker k).pass ≡ None → WinsGate m team k s
    → Steps E m team g k (Some (GateIs (gate_after s.passage s.read))) (worker_after s.read.epoch s.passage (team.worker k)) g

-- a scanner that scans nothing, and doesn't walk over the chain, takes the epoch of the gate that it reads
abbrev pub TakingEpochKeeps : Type 0
TakingEpochKeeps = (E : Era) (m : Memory) (team : Team) (g : Ghost) (k : ℕ) → Ready E m team g k
    → (team.worker k).post ≡ Scanner → (team.worker k).scan ≡ None → (team.worker k).pass ≡ None → Steps E m team g k None (into_epoch (team.worker k) m.gate.epoch) g

-- what the gate counts fits its word
abbrev pub GatesFit : Type 0
GatesFit = (E : Era) (m : Memory) (team : Team) (g : Ghost) → Invariant E m team g → GateFits m.gate

-- a worker that runs reads in TRACED that its epoch is traced
abbrev pub SeeingTracedKeeps : Type 0
SeeingTracedKeeps = (E : Era) (m : Memory) (team : Team) (g : Ghost) (k : ℕ) → Ready E m team g k
    → is_running (team.worker k).post ≡ true → m.traced ≡ (team.worker k).epoch + 1
    → Steps E m team g k None (record (team.worker k) { traced_seen = true }) g

-- a worker that runs reads the size of the epoch's space
abbrev pub SeeingSizeKeeps : Type 0
SeeingSizeKeeps = (E : Era) (m : Memory) (team : Team) (g : Ghost) (k p : ℕ) → Ready E m team g k
    → is_running (team.worker k).post ≡ true → E.span ≡ PAGE_WORDS * p
    → Steps E m team g k None (record (team.worker k) { size_seen = Some p }) g

-- what a worker has read as the size of the epoch's space is its size
abbrev pub SizesAreKnown : Type 0
SizesAreKnown = (E : Era) (m : Memory) (team : Team) (g : Ghost) (k p : ℕ) → Ready E m team g k
    → (team.worker k).size_seen ≡ Some p → E.span ≡ PAGE_WORDS * p
