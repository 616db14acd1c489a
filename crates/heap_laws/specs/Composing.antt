-- Steps one after another: what is one atomic step may be several changes of what a worker knows. And a worker may forget.
use Rattle.std.specs.Prelude.{◌≡◌, ℕ, true, false, Option, Some, None, is_some, ◌⊎◌}
use Rattle.plain_state.specs.State.{Plain}
use Rattle.heap_state.specs.Cells.{SameGround}
use Rattle.heap_state.specs.Memory.Entries.{Entry}
use Rattle.heap_state.specs.Memory.Era.{Era, Memory}
use Rattle.heap_state.specs.Invariant.Ghost.{Ghost}
use Rattle.heap_state.specs.Known.{Known, Team, Scan, Round, is_asking, is_sized}
use Rattle.heap_laws.specs.Steps.{Ready, IsBeside, Steps, StepsTo, with_worker}

-- ---- what may be forgotten

-- the first has nothing but what the second has
abbrev pub IsLess : {X : Type 0} → Option X → Option X → Type 0
IsLess {X} less more = (x : X) → less ≡ Some x → more ≡ Some x

-- the first is the same scan, of a page of which it knows at most the records that the second knows
pub record IsLessScan (s u : Scan) : Type 0 where
  pub page : s.page ≡ u.page
  pub cursor : s.cursor ≡ u.cursor
  pub in_place : s.in_place ≡ u.in_place
  pub over : IsLess s.over u.over
  pub headed : IsLess s.headed u.headed
  pub current : IsLess s.current u.current
  pub inner : s.inner ≡ true → u.inner ≡ true
  pub ended : s.ended ≡ u.ended

-- of a worker that scans or does not: its scan is the same, or knows less
pub data IsScanWithin (o p : Option Scan) : Type 0 where
  SameScan : o ≡ p → IsScanWithin o p
  LessScan : (s u : Scan) → o ≡ Some s → p ≡ Some u → IsLessScan s u → IsScanWithin o p

-- there is such a round, which has read the same TRACED, and FRONT if this one has
pub record IsLessRound (r : Round) (o : Option Round) : Type 0 where
  pub more : Round
  pub is : o ≡ Some more
  pub traced : r.traced ≡ more.traced
  pub front : IsLess r.front more.front

-- The parts of a worker by groups. Each group names its own parts alone: so of two workers that have the same there it says what it
-- says of one of them.

-- what others read of it is the same, and so are its searches and copies
abbrev pub SameToOthers : (w v : Known) → Type 0
SameToOthers w v = record {
  post : w.post ≡ v.post;
  epoch : w.epoch ≡ v.epoch;
  account : w.account ≡ v.account;
  registers : w.registers ≡ v.registers;
  done : w.done ≡ v.done;
  quest : w.quest ≡ v.quest;
  copy : w.copy ≡ v.copy;
}

-- of its run, its access and the page that it found open it knows at most as much
abbrev pub LessAtHand : (w v : Known) → Type 0
LessAtHand w v = record {
  stock : IsLess w.stock v.stock;
  access : IsLess w.access v.access;
  opened : IsLess w.opened v.opened;
}

-- and so of the page that it claims, and of its looks at pages
abbrev pub LessAtPages : (w v : Known) → Type 0
LessAtPages w v = record {
  claim : IsLess w.claim v.claim;
  look : IsLess w.look v.look;
  last_look : IsLess w.last_look v.last_look;
}

-- And so of the gate. Who flips still knows whether it has stored the size; whose the request is, or who is about to exchange the
-- gate, whether the epoch is traced.
abbrev pub LessAtGate : (w v : Known) → Type 0
LessAtGate w v = record {
  gate_step : IsLess w.gate_step v.gate_step;
  reset : IsLess w.reset v.reset;
  sized : is_sized w.reset ≡ is_sized v.reset;
  traced_seen : w.traced_seen ≡ true → v.traced_seen ≡ true;
  size_seen : IsLess w.size_seen v.size_seen;
  asks : (is_asking w.post ≡ true) ⊎ (is_some w.gate_step ≡ true) → w.traced_seen ≡ v.traced_seen;
}

-- Of the chain of copied cells it knows the same, and if it walks over the chain, its walk rests on the same.
abbrev pub SameAtChain : (w v : Known) → Type 0
SameAtChain w v = record {
  linking : w.linking ≡ v.linking;
  pass : w.pass ≡ v.pass;
  ground : is_some v.pass ≡ true → SameGround w v;
}

-- worker w knows at most what v knows, and scans the same page as far, if it scans
pub record IsAtMost (w v : Known) : Type 0 where
  pub others : SameToOthers w v
  pub scan : IsScanWithin w.scan v.scan
  pub hand : LessAtHand w v
  pub round : (r : Round) → w.round ≡ Some r → IsLessRound r v.round
  pub pages : LessAtPages w v
  pub gate : LessAtGate w v
  pub chain : SameAtChain w v

-- a worker whose round of the duty ends, and that doesn't walk over the chain: it forgets the round, its claim and its looks
abbrev pub ends_round : Known → Known
ends_round w = record w { round = None; claim = None; look = None; last_look = None }

abbrev pub RoundsAreForgotten : Type 0
RoundsAreForgotten = (w : Known) → w.pass ≡ None → IsAtMost (ends_round w) w

-- a worker whose the request isn't, and that doesn't pass the gate, forgets that the epoch is traced
abbrev pub unaware : Known → Known
unaware w = record w { traced_seen = false }

abbrev pub TracedIsForgotten : Type 0
TracedIsForgotten = (w : Known) → is_asking w.post ≡ false → w.gate_step ≡ None → IsAtMost (unaware w) w

-- a worker forgets the size that it has read
abbrev pub without_size : Known → Known
without_size w = record w { size_seen = None }

abbrev pub SizesAreForgotten : Type 0
SizesAreForgotten = (w : Known) → IsAtMost (without_size w) w

-- a scan of which it is not known which record the cursor is in
abbrev pub of_no_record : Scan → Scan
of_no_record s = record s { over = None; headed = None; current = None }

abbrev pub ScannedRecordsAreForgotten : Type 0
ScannedRecordsAreForgotten = (w : Known) (s : Scan) → w.scan ≡ Some s → IsAtMost (record w { scan = Some (of_no_record s) }) w

-- a round that keeps TRACED alone
abbrev pub without_front : Round → Round
without_front r = record r { front = None }

abbrev pub RoundFrontsAreForgotten : Type 0
RoundFrontsAreForgotten = (w : Known) (r : Round) → w.round ≡ Some r → IsAtMost (record w { round = Some (without_front r) }) w

-- ---- the laws

-- after a step a worker forgets
abbrev pub StepsForget : Type 0
StepsForget = (E : Era) (m : Memory) (team : Team) (g : Ghost) (k : ℕ) (e : Option Entry) (v w : Known) (h : Ghost)
    → Steps E m team g k e v h → IsAtMost w v → Steps E m team g k e w h

-- after a step all is ready for the next one, of the same worker
abbrev pub StepsAreReady : Type 0
StepsAreReady = (E : Era) (m : Memory) (team : Team) (g : Ghost) (k : ℕ) (e : Option Entry) (v : Known) (h : Ghost)
    → Ready E m team g k → (s : Steps E m team g k e v h) → Ready E s.later (with_worker team k v) h k

-- a step that writes no row follows, and both are one step
abbrev pub StepsFollow : Type 0
StepsFollow = (E : Era) (m : Memory) (team : Team) (g : Ghost) (k : ℕ) (e : Option Entry) (v w : Known) (h i : Ghost)
    → (s : Steps E m team g k e v h) → Steps E s.later (with_worker team k v) h k None w i → Steps E m team g k e w i

-- the same three of steps of the plain machine
abbrev pub PlainStepsForget : Type 0
PlainStepsForget = (E : Era) (m : Memory) (team : Team) (g : Ghost) (k : ℕ) (e : Option Entry) (v w : Known) (h : Ghost) (q : Plain)
    → StepsTo E m team g k e v h q → IsAtMost w v → StepsTo E m team g k e w h q

abbrev pub PlainStepsAreReady : Type 0
PlainStepsAreReady = (E : Era) (m : Memory) (team : Team) (g : Ghost) (k : ℕ) (e : Option Entry) (v : Known) (h : Ghost) (q : Plain)
    → Ready E m team g k → (s : StepsTo E m team g k e v h q) → Ready E s.later (with_worker team k v) h k

abbrev pub PlainStepsFollow : Type 0
PlainStepsFollow = (E : Era) (m : Memory) (team : Team) (g : Ghost) (k : ℕ) (e : Option Entry) (v w : Known) (h i : Ghost) (q : Plain)
    → (s : StepsTo E m team g k e v h q) → Steps E s.later (with_worker team k v) h k None w i → StepsTo E m team g k e w i q

-- ---- rows that the epoch doesn't see

-- a step that writes no row may write one of which the epoch sees nothing
abbrev pub StepsWriteBeside : Type 0
StepsWriteBeside = (E : Era) (m : Memory) (team : Team) (g : Ghost) (k : ℕ) (e : Entry) (w : Known) (h : Ghost) → IsBeside E e
    → Steps E m team g k None w h → Steps E m team g k (Some e) w h

-- the same of a step of the plain machine
abbrev pub PlainStepsWriteBeside : Type 0
PlainStepsWriteBeside = (E : Era) (m : Memory) (team : Team) (g : Ghost) (k : ℕ) (e : Entry) (w : Known) (h : Ghost) (q : Plain) → IsBeside E e
    → StepsTo E m team g k None w h q → StepsTo E m team g k (Some e) w h q
