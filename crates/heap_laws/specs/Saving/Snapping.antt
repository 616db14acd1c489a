-- How a checkpoint begins: who holds the request finds the gate with nobody running, exchanges SNAP, by which the heap of now becomes
-- the frozen one, and clears the request.
use Rattle.std.specs.Prelude.{◌≡◌, ◌≢◌, ℕ, ◌+◌, ◌*◌, ◌^◌, ◌<◌, ◌==◌, ◌&&◌, ◌||◌, Bool, true, false, nat_le, nat_lt, Some, None}
use Rattle.plain_state.specs.State as plain
use Rattle.plain_state.specs.Writing.{with_heap, took}
use Rattle.space_map.specs.declared.gate_word.GateWord.{GateWord}
use Rattle.space_map.specs.declared.page_word.PageWord.{PageWord}
use Rattle.space_map.specs.declared.page_word.PageWord.TheVariants.{Open}
use Rattle.space_map.specs.Spaces.{board_page, to_space}
use Rattle.heap_state.specs.Functions.{put}
use Rattle.heap_state.specs.Invariant.Ghost.{Ghost}
use Rattle.heap_state.specs.Invariant.Inductive.{Invariant}
use Rattle.heap_state.specs.Invariant.Parts.Gate.{Counted}
use Rattle.heap_state.specs.Meaning.Values.{Shown}
use Rattle.heap_state.specs.Memory.Entries.{GateIs, SnapIs}
use Rattle.heap_state.specs.Memory.Era.{Era, Memory, IsLaidOut, era_of, memory_of}
use Rattle.heap_state.specs.Memory.Table.{Table}
use Rattle.heap_state.specs.Saving.Frozen.{Frozen}
use Rattle.heap_state.specs.Saving.Kept.{KeepsPicture, ShowsSnapped}
use Rattle.heap_state.specs.Saving.Parts.{SavingStands}
use Rattle.heap_state.specs.Saving.Savers.{Saver}
use Rattle.heap_state.specs.Saving.Words.{Saves}
use Rattle.heap_state.specs.Known.{Known, Team, Account, Snapping, Clear, is_running, is_asking}
use Rattle.heap_laws.specs.Fields.Held.{with_mutator}
use Rattle.heap_laws.specs.Fields.Stores.{IsAs}
use Rattle.heap_laws.specs.Flipping.Flip.{only_in}
use Rattle.heap_laws.specs.Lifting.{table_after}
use Rattle.heap_laws.specs.Saving.Rows.{NobodyIsStill}
use Rattle.heap_laws.specs.Steps.{Ready, StepsTo}

-- ---- who runs and who holds the request

-- what is known of each worker's saves says that it runs, or holds the request, as its post does
pub record FollowPosts (count : ℕ) (worker : ℕ → Known) (saver : ℕ → Saver) : Type 0 where
  pub runs : (k : ℕ) → k < count → (saver k).runs ≡ is_running (worker k).post
  pub asks : (k : ℕ) → k < count → (saver k).asks ≡ is_asking (worker k).post

abbrev pub NobodyRuns : (count : ℕ) (saver : ℕ → Saver) → Type 0
NobodyRuns count saver = (j : ℕ) → j < count → (saver j).runs ≡ false

-- nobody but worker k holds the request
abbrev pub NobodyElseAsks : (count : ℕ) (saver : ℕ → Saver) (k : ℕ) → Type 0
NobodyElseAsks count saver k = (j : ℕ) → j < count → j ≢ k → (saver j).asks ≡ false

-- nobody runs if the gate counts nobody running
abbrev pub RunnersAreCounted : Type 0
RunnersAreCounted = (gate : GateWord) (count : ℕ) (worker : ℕ → Known) (saver : ℕ → Saver) → Counted gate count worker → FollowPosts count worker saver
    → gate.running ≡ 0 → NobodyRuns count saver

-- who holds the request is alone with it
abbrev pub AskersAreAlone : Type 0
AskersAreAlone = (gate : GateWord) (count : ℕ) (worker : ℕ → Known) (saver : ℕ → Saver) (k : ℕ) → Counted gate count worker → FollowPosts count worker saver
    → k < count → (saver k).asks ≡ true → NobodyElseAsks count saver k

-- ---- the request is made

-- the worker that stops to hold the request: it stays settled
abbrev pub saver_after_request : Saver → Saver
saver_after_request w = record w { runs = false; asks = true; recalled = false; guarded = None; marked = None }

-- a passage by which a worker gets the request leaves what is kept of checkpoints, if nobody is still
abbrev pub RequestsAreSpared : Type 0
RequestsAreSpared = (t : Table) (s : Saves) (z : Frozen) (count : ℕ) (saver : ℕ → Saver) (k : ℕ) (gate : GateWord) → SavingStands t s z count saver
    → k < count → gate.epoch ≡ t.gate.epoch → NobodyIsStill count saver
    → SavingStands (table_after t (Some (GateIs gate))) s z count (put saver k (saver_after_request (saver k)))

-- ---- nobody runs

-- the worker that has found this gate with nobody running
abbrev pub saver_still : Saver → GateWord → Saver
saver_still w gate = record w { still = Some gate }

-- who holds the request finds the gate with nobody running, and it stands still
abbrev pub GatesAreFoundStill : Type 0
GatesAreFoundStill = (t : Table) (s : Saves) (z : Frozen) (count : ℕ) (saver : ℕ → Saver) (k : ℕ) → SavingStands t s z count saver
    → k < count → (saver k).asks ≡ true → t.gate.running ≡ 0 → SavingStands t s z count (put saver k (saver_still (saver k) t.gate))

-- ---- the heap of now

-- the page is the board's, or one of the epoch's space
abbrev pub is_page_of : (n epoch page : ℕ) → Bool
is_page_of n epoch page = (page == board_page n) || (nat_le (n * to_space epoch) page && nat_lt page (n * to_space epoch + n))

-- the page is open in this epoch
abbrev pub is_open_in : ℕ → PageWord → Bool
is_open_in epoch (Open e) = e == epoch
is_open_in epoch _ = false

-- The heap of now, frozen: the pages that are open, the words, and the records of the epoch's space.
abbrev pub frozen_of : Table → Ghost → Frozen
frozen_of t g = record {
  held = λ page. is_page_of t.pages t.gate.epoch page && is_open_in t.gate.epoch (t.page page);
  heap = t.heap;
  size = only_in (era_of t).start (era_of t).span g.size;
  kind = g.kind;
  identity = g.identity;
}

-- in a traced epoch it shows the board and the records of the plain heap
abbrev pub FrozenHeapsShow : Type 0
FrozenHeapsShow = (t : Table) (team : Team) (g : Ghost) (p : plain.Plain) → IsLaidOut (era_of t) → Invariant (era_of t) (memory_of t) team g
    → Shown (era_of t) (memory_of t) team g p → t.traced ≡ t.gate.epoch + 1 → KeepsPicture t.pages (frozen_of t g) p.heap.board p.heap.records

-- ---- SNAP is exchanged

-- one checkpoint more is begun
abbrev pub next_saves : Saves → Saves
next_saves s = record s { snap = s.snap + 1 }

-- the worker that has begun it
abbrev pub saver_after_snap : Saver → Saver
saver_after_snap w = record w { settled = false }

-- Worker k may begin a checkpoint: it has found DONE equal to SNAP, nobody runs, nobody else holds the request, and there is a
-- number for one more.
pub record MaySnap (s : Saves) (count : ℕ) (saver : ℕ → Saver) (k : ℕ) : Type 0 where
  pub settled : (saver k).settled ≡ true
  pub runs : NobodyRuns count saver
  pub asks : NobodyElseAsks count saver k
  pub fits : s.snap + 1 < 2 ^ 32

-- then it stands for the heap of now
abbrev pub SnapsAreBegun : Type 0
SnapsAreBegun = (t : Table) (s : Saves) (z : Frozen) (g : Ghost) (count : ℕ) (saver : ℕ → Saver) (k : ℕ) → SavingStands t s z count saver → k < count
    → MaySnap s count saver k → SavingStands t (next_saves s) (frozen_of t g) count (put saver k (saver_after_snap (saver k)))

-- Worker k exchanges SNAP: it is still and settled.
pub record IsAboutToSnap (s : Saves) (saver : ℕ → Saver) (k : ℕ) : Type 0 where
  pub gate : GateWord
  pub still : (saver k).still ≡ Some gate
  pub settled : (saver k).settled ≡ true
  pub fits : s.snap + 1 < 2 ^ 32

-- the checkpoint is begun: what is kept of checkpoints stands for the heap of now, and the plain heap has kept that too
pub record SnapIsKept (t : Table) (s : Saves) (g : Ghost) (count : ℕ) (saver : ℕ → Saver) (k : ℕ) (heap : plain.Heap) : Type 0 where
  pub stands : SavingStands t (next_saves s) (frozen_of t g) count (put saver k (saver_after_snap (saver k)))
  pub shows : ShowsSnapped t.pages (next_saves s) (frozen_of t g) (took heap)

abbrev pub SnapsAreKept : Type 0
SnapsAreKept = (t : Table) (s : Saves) (z : Frozen) (team : Team) (g : Ghost) (p : plain.Plain) (saver : ℕ → Saver) (k : ℕ) → IsLaidOut (era_of t)
    → Invariant (era_of t) (memory_of t) team g → Shown (era_of t) (memory_of t) team g p → SavingStands t s z team.count saver
    → ShowsSnapped t.pages s z p.heap → FollowPosts team.count team.worker saver → k < team.count → IsAboutToSnap s saver k → SnapIsKept t s g team.count saver k p.heap

-- ---- the mutator goes on

-- the mutator that has begun a checkpoint: its account goes on, and it is about to clear the request
abbrev pub about_to_clear : Known → Account → GateWord → Known
about_to_clear w account gate = record w { account = account; gate_step = Some (record { read = gate; passage = Clear }) }

-- The exchange of SNAP by worker k is a step of the plain machine too, whose heap keeps its board and its records.
abbrev pub SnappersStep : Type 0
SnappersStep = (E : Era) (m : Memory) (team : Team) (g : Ghost) (p : plain.Plain) (k number : ℕ) (account : Account) (gate : GateWord) (q : plain.Mutator) → Ready E m team g k
    → (team.worker k).post ≡ Snapping → Shown E m team g p → account.serial ≡ (team.worker k).account.serial → account.end ≡ None
    → IsAs g p.heap k (about_to_clear (team.worker k) account gate) q
    → StepsTo E m team g k (Some (SnapIs number)) (about_to_clear (team.worker k) account gate) g (with_mutator (with_heap p (took p.heap)) k q)

-- ---- the request is cleared

-- the worker without the request
abbrev pub saver_after_clear : Saver → Saver
saver_after_clear w = record w { asks = false; settled = false; still = None }

-- who is alone with the request clears it, and the gate moves again
abbrev pub ClearsAreSpared : Type 0
ClearsAreSpared = (t : Table) (s : Saves) (z : Frozen) (count : ℕ) (saver : ℕ → Saver) (k : ℕ) (gate : GateWord) → SavingStands t s z count saver
    → k < count → gate.epoch ≡ t.gate.epoch → NobodyElseAsks count saver k
    → SavingStands (table_after t (Some (GateIs gate))) s z count (put saver k (saver_after_clear (saver k)))

-- the worker that begins to run
abbrev pub saver_running : Saver → Saver
saver_running w = record w { runs = true }

-- a passage by which a worker begins to run leaves what is kept of checkpoints, if nobody is still
abbrev pub RunnersAreSpared : Type 0
RunnersAreSpared = (t : Table) (s : Saves) (z : Frozen) (count : ℕ) (saver : ℕ → Saver) (k : ℕ) (gate : GateWord) → SavingStands t s z count saver
    → k < count → gate.epoch ≡ t.gate.epoch → NobodyIsStill count saver
    → SavingStands (table_after t (Some (GateIs gate))) s z count (put saver k (saver_running (saver k)))
