-- One step of one worker: the row that it writes, and what it keeps.
use Rattle.std.specs.Prelude.{◌≡◌, ℕ, ◌+◌, ◌^◌, ◌<◌, ◌≤◌, ⊤, true, Option, Some, None, is_some}
use Rattle.plain_state.specs.State.{Plain}
use Rattle.space_map.specs.declared.area_word.AreaWord.{AreaWord}
use Rattle.space_map.specs.declared.gate_word.GateWord.{GateWord}
use Rattle.space_map.specs.declared.page_word.PageWord.{PageWord}
use Rattle.space_map.specs.AreaWord.{AreaFits}
use Rattle.space_map.specs.GateWord.{GateFits}
use Rattle.space_map.specs.PageWord.{PageFits, age_of}
use Rattle.space_map.specs.SaveWord.{SaveFits}
use Rattle.space_map.specs.Spaces.{to_space, page_of}
use Rattle.heap_state.specs.Cycles.Cycle.{Cycle}
use Rattle.heap_state.specs.Memory.Entries.{Entry, GateIs, TracedIs, AreaIs, WeakIs, WeakTurnIs, PageIs, CrossIs, WordIs, AnnounceIs, SnapIs, LastSavedIs, SaveIs, ImageIs}
use Rattle.heap_state.specs.Memory.Era.{Era, Memory, IsLaidOut, from_space}
use Rattle.heap_state.specs.Functions.{put}
use Rattle.heap_state.specs.Invariant.Ghost.{Ghost}
use Rattle.heap_state.specs.Invariant.Inductive.{Invariant, Knows}
use Rattle.heap_state.specs.Meaning.Values.{Shown}
use Rattle.heap_state.specs.Cells.{KnowsCopy, SameGround}
use Rattle.heap_state.specs.Known.{Known, Team, is_cleared}
use Rattle.space_map.specs.declared.spaces.TheConstants.{PAGE_WORDS, MOST_MUTATORS, MOST_SCANNERS}

-- The invariant holds, the gate is of the epoch, and worker k is one of the team. This is the first premise of each law.
pub record Ready (E : Era) (m : Memory) (team : Team) (g : Ghost) (k : ℕ) : Type 0 where
  pub laid_out : IsLaidOut E
  pub at_gate : m.gate.epoch ≡ E.epoch
  pub invariant : Invariant E m team g
  pub member : k < team.count

-- the area word of the epoch's space
pub record IsAreaNow (E : Era) (m : Memory) (area : AreaWord) : Type 0 where
  pub front : m.front ≡ E.start + area.front
  pub low : m.low ≡ E.start + area.low
  pub owed : m.owed ≡ area.owed
  pub fits : AreaFits area

-- ---- what changes

-- worker k becomes another
abbrev pub with_worker : Team → ℕ → Known → Team
with_worker team k w = record team { worker = put team.worker k w }

-- the gate is stored
abbrev pub with_gate : Memory → GateWord → Memory
with_gate m gate = record m { gate = gate }

-- TRACED is stored
abbrev pub with_traced : Memory → ℕ → Memory
with_traced m word = record m { traced = word }

-- FRONT, LOW and owed of the epoch's space are stored, FRONT and LOW as addresses
abbrev pub with_area : Memory → (front low owed : ℕ) → Memory
with_area m front low owed = record m { front = front; low = low; owed = owed }

-- those of the old space are stored
abbrev pub with_old_area : Memory → (front low owed : ℕ) → Memory
with_old_area m front low owed = record m { old_front = front; old_low = low; old_owed = owed }

-- a page's word is stored
abbrev pub with_page : Memory → ℕ → PageWord → Memory
with_page m page word = record m { page = put m.page page word }

-- a page's crossing is stored
abbrev pub with_crossing : Memory → (page place : ℕ) → Memory
with_crossing m page place = record m { cross = put m.cross page place }

-- WEAK is stored
abbrev pub with_weak : Memory → ℕ → Memory
with_weak m word = record m { weak = word }

-- WEAKTURN is stored
abbrev pub with_weak_turn : Memory → ℕ → Memory
with_weak_turn m word = record m { weak_turn = word }

-- a heap word is stored
abbrev pub with_word : Memory → (addr word : ℕ) → Memory
with_word m addr word = record m { heap = put m.heap addr word }

-- the place that a worker announces is stored
abbrev pub with_announced : Memory → (worker place : ℕ) → Memory
with_announced m worker place = record m { announced = put m.announced worker place }

-- the row is one of checkpoints, of which the epoch sees nothing, and what is written fits its word
abbrev pub IsBeside : Era → Entry → Type 0
IsBeside E (SnapIs number) = ⊤
IsBeside E (LastSavedIs number) = ⊤
IsBeside E (SaveIs page word) = (page ≤ page_of E.board) × SaveFits word
IsBeside E (ImageIs addr word) = addr < E.board + PAGE_WORDS
IsBeside E _ = ⊥

-- A row of the table is written that is no size, or none, and then the epoch sees this memory. What is written fits its word.
pub data WritesRow (E : Era) (m : Memory) : Option Entry → Memory → Type 0 where
  NoRow : WritesRow E m None m
  InGate : (gate : GateWord) → GateFits gate → gate.epoch ≡ E.epoch → WritesRow E m (Some (GateIs gate)) (with_gate m gate)
  InTraced : (word : ℕ) → WritesRow E m (Some (TracedIs word)) (with_traced m word)
  InArea : (area : AreaWord) → AreaFits area → WritesRow E m (Some (AreaIs (to_space E.epoch) area)) (with_area m (E.start + area.front) (E.start + area.low) area.owed)
  InOldArea : (area : AreaWord) → AreaFits area → WritesRow E m (Some (AreaIs (from_space E.epoch) area)) (with_old_area m (E.old_start + area.front) (E.old_start + area.low) area.owed)
  InWeak : (word : ℕ) → word < 2 ^ 62 → WritesRow E m (Some (WeakIs word)) (with_weak m word)
  InWeakTurn : (word : ℕ) → WritesRow E m (Some (WeakTurnIs word)) (with_weak_turn m word)
  InPage : (page : ℕ) (word : PageWord) → page ≤ page_of E.board → PageFits word → WritesRow E m (Some (PageIs page word)) (with_page m page word)
  InCross : (page place : ℕ) → page < page_of E.board → WritesRow E m (Some (CrossIs page place)) (with_crossing m page place)
  InWord : (addr word : ℕ) → addr < E.board + PAGE_WORDS → WritesRow E m (Some (WordIs addr word)) (with_word m addr word)
  InAnnounce : (worker place : ℕ) → worker < MOST_MUTATORS + MOST_SCANNERS → WritesRow E m (Some (AnnounceIs worker place)) (with_announced m worker place)
  Beside : (e : Entry) → IsBeside E e → WritesRow E m (Some e) m

-- ---- what is kept

-- The invariant is kept. Each plain state that was shown still is, and what a cycle keeps is kept. No page word's epoch falls.
pub record Preserves (E : Era) (m later : Memory) (team after : Team) (g h : Ghost) : Type 0 where
  pub invariant : Invariant E later after h
  pub shown : (p : Plain) → Shown E m team g p → Shown E later after h p
  pub cycle : (p : Plain) → Cycle E m team g p → Cycle E later after h p
  pub ages : (page : ℕ) → age_of (m.page page) ≤ age_of (later.page page)

-- Worker k becomes w, and what the proofs know beside the words becomes h: a row of the table is written, or none, and all is
-- kept. This is what a law says of a step that is none of the plain machine.
pub record Steps (E : Era) (m : Memory) (team : Team) (g : Ghost) (k : ℕ) (e : Option Entry) (w : Known) (h : Ghost) : Type 0 where
  pub later : Memory
  pub writes : WritesRow E m e later
  pub keeps : Preserves E m later team (with_worker team k w) g h

-- A step that is one of the plain machine: the invariant is kept, and the plain state q is shown after it. What a cycle keeps is
-- kept. No page word's epoch falls.
pub record Makes (E : Era) (m later : Memory) (team after : Team) (g h : Ghost) (q : Plain) : Type 0 where
  pub invariant : Invariant E later after h
  pub shown : Shown E later after h q
  pub cycle : (p : Plain) → Cycle E m team g p → Cycle E later after h p
  pub ages : (page : ℕ) → age_of (m.page page) ≤ age_of (later.page page)

-- the same of such a step: after it the plain state is q
pub record StepsTo (E : Era) (m : Memory) (team : Team) (g : Ghost) (k : ℕ) (e : Option Entry) (w : Known) (h : Ghost) (q : Plain) : Type 0 where
  pub later : Memory
  pub writes : WritesRow E m e later
  pub makes : Makes E m later team (with_worker team k w) g h q

-- ---- what others read of a worker

-- Worker w has the cell to link and the walk over the chain that u has. If it has a cell to link, it has still found the copy that it
-- asks for; if it walks, its walk rests on the same. It hasn't stored WEAK for a flip since.
pub record SameInChain (w u : Known) : Type 0 where
  pub linking : w.linking ≡ u.linking
  pub pass : w.pass ≡ u.pass
  pub asked : is_some u.linking ≡ true → KnowsCopy u → KnowsCopy w
  pub ground : is_some u.pass ≡ true → SameGround w u
  pub cleared : is_cleared w.reset ≡ true → is_cleared u.reset ≡ true

-- The worker w has the post, epoch, account, registers, stock and scan of u, and its part in the chain of copied cells. These are what
-- others read of a worker.
pub record Alike (w u : Known) : Type 0 where
  pub post : w.post ≡ u.post
  pub epoch : w.epoch ≡ u.epoch
  pub account : w.account ≡ u.account
  pub registers : w.registers ≡ u.registers
  pub done : w.done ≡ u.done
  pub stock : w.stock ≡ u.stock
  pub scan : w.scan ≡ u.scan
  pub chain : SameInChain w u

-- a step that changes what worker k knows, and nothing else: a load
abbrev pub KnowledgeChangesAlone : Type 0
KnowledgeChangesAlone = (E : Era) (m : Memory) (team : Team) (g : Ghost) (k : ℕ) (w : Known) → Ready E m team g k → Alike w (team.worker k)
    → Knows E m.gate m.traced m.front m.low m.old_front m.old_low m.old_owed g m.page m.cross m.announced m.heap k w
    → Steps E m team g k None w g

-- a step that changes nothing: a load that teaches nothing, an exchange that is lost
abbrev pub NothingChanges : Type 0
NothingChanges = (E : Era) (m : Memory) (team : Team) (g : Ghost) (k : ℕ) → Ready E m team g k → Steps E m team g k None (team.worker k) g
