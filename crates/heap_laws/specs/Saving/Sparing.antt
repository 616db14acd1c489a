-- Why the steps that store in a row of the table spare the checkpoints: what stands beside the heap's law for each of them. Of the
-- rows of areas, sizes, crossings, announced places and the chain of copied cells nobody reads anything of checkpoints.
use Rattle.std.specs.Prelude.{◌≡◌, ◌≢◌, ℕ, ◌+◌, ◌<◌, true, false, Some, None}
use Rattle.space_map.specs.declared.gate_word.GateWord.{GateWord}
use Rattle.space_map.specs.declared.page_word.PageWord.TheVariants.{Open, Scanning}
use Rattle.space_map.specs.declared.save_word.SaveWord.TheVariants.{Saving}
use Rattle.space_map.specs.Spaces.{page_of}
use Rattle.heap_state.specs.Functions.{put}
use Rattle.heap_state.specs.Invariant.Ghost.{Ghost}
use Rattle.heap_state.specs.Invariant.Parts.Gate.{Counted}
use Rattle.heap_state.specs.Memory.Entries.{GateIs, TracedIs, PageIs, WordIs}
use Rattle.heap_state.specs.Memory.Era.{Era, Memory, era_of, memory_of}
use Rattle.heap_state.specs.Memory.Table.{Table}
use Rattle.heap_state.specs.Saving.Frozen.{Frozen}
use Rattle.heap_state.specs.Saving.Parts.{SavingStands}
use Rattle.heap_state.specs.Saving.Savers.{Saver}
use Rattle.heap_state.specs.Saving.Words.{Saves}
use Rattle.heap_state.specs.Known.{Known, Team, Stock, Quest, Copy, Scan, Claim, LastLook, Pass, Passage, Enter, Park, Request, RequestSnap, Clear, Forwarded, Resume, Leave, GateStep, Reset}
use Rattle.heap_laws.specs.Allocation.Stocks.{HasStock, OpensNext}
use Rattle.heap_laws.specs.Flipping.Flip.{Flips, flipped_gate, after_flip}
use Rattle.heap_laws.specs.Gate.{WinsGate, gate_after, worker_after}
use Rattle.heap_laws.specs.Lifting.{table_after}
use Rattle.heap_laws.specs.Saving.Rows.{NobodyIsStill, Spares, saver_after_flip}
use Rattle.heap_laws.specs.Saving.Rounds.{saver_stopped}
use Rattle.heap_laws.specs.Saving.Snapping.{FollowPosts, saver_after_request, saver_after_clear, saver_running}
use Rattle.heap_laws.specs.Scanning.Claims.{WinsPage, HasScanned}
use Rattle.heap_laws.specs.Steps.{Ready}
use Rattle.heap_laws.specs.Tracing.{WinsTraced}

-- ---- what traces an epoch

-- Worker k does what nobody does once the epoch is traced: it asks for a copy, copies, scans or walks over the chain of copied
-- cells, or wins the exchange of a page's word or of TRACED.
pub data IsTracing (E : Era) (m : Memory) (team : Team) (k : ℕ) : Type 0 where
  AsksForCopy : (q : Quest) → (team.worker k).quest ≡ Some q → IsTracing E m team k
  CopiesRecord : (c : Copy) → (team.worker k).copy ≡ Some c → IsTracing E m team k
  ScansPage : (s : Scan) → (team.worker k).scan ≡ Some s → IsTracing E m team k
  WalksChain : (q : Pass) → (team.worker k).pass ≡ Some q → IsTracing E m team k
  WinsItsPage : (q : Claim) → WinsPage E m team k q → IsTracing E m team k
  WinsItsTraced : (l : LastLook) → WinsTraced m team k l → IsTracing E m team k

-- the epoch isn't traced then
abbrev pub TracingIsBefore : Type 0
TracingIsBefore = (E : Era) (m : Memory) (team : Team) (g : Ghost) (k : ℕ) → Ready E m team g k → IsTracing E m team k → m.traced ≢ E.epoch + 1

-- So no checkpoint is in progress, and any word may be stored: that of a worker in place of a header, a copied word, a forward, a
-- pointer to a copy, and what replaces a cell's target.
abbrev pub TracedWordsAreSpared : Type 0
TracedWordsAreSpared = (t : Table) (s : Saves) (z : Frozen) (team : Team) (g : Ghost) (saver : ℕ → Saver) (k addr word : ℕ) → SavingStands t s z team.count saver
    → Ready (era_of t) (memory_of t) team g k → IsTracing (era_of t) (memory_of t) team k → Spares t s z team.count saver (Some (WordIs addr word))

-- a page is claimed
abbrev pub ClaimsAreSpared : Type 0
ClaimsAreSpared = (t : Table) (s : Saves) (z : Frozen) (team : Team) (g : Ghost) (saver : ℕ → Saver) (k : ℕ) (q : Claim) → SavingStands t s z team.count saver
    → Ready (era_of t) (memory_of t) team g k → WinsPage (era_of t) (memory_of t) team k q
    → Spares t s z team.count saver (Some (PageIs q.page (Scanning (team.worker k).epoch k)))

-- a scanned page is opened
abbrev pub ScannedPagesAreSpared : Type 0
ScannedPagesAreSpared = (t : Table) (s : Saves) (z : Frozen) (team : Team) (g : Ghost) (saver : ℕ → Saver) (k : ℕ) (r : Scan) → SavingStands t s z team.count saver
    → Ready (era_of t) (memory_of t) team g k → HasScanned team k r
    → Spares t s z team.count saver (Some (PageIs r.page (Open (team.worker k).epoch)))

-- TRACED is exchanged
abbrev pub TracedIsSpared : Type 0
TracedIsSpared = (t : Table) (s : Saves) (z : Frozen) (team : Team) (g : Ghost) (saver : ℕ → Saver) (k : ℕ) (l : LastLook) → SavingStands t s z team.count saver
    → Ready (era_of t) (memory_of t) team g k → WinsTraced (memory_of t) team k l
    → Spares t s z team.count saver (Some (TracedIs ((team.worker k).epoch + 1)))

-- ---- a mutator's stores on open pages

-- Worker w may store on the page: no checkpoint was in progress when it recalled, or it has found the page saved or new.
pub data MayStoreOn (w : Saver) (page : ℕ) : Type 0 where
  StoresAtRest : w.recalled ≡ true → w.reads_done ≡ false → w.running ≡ 0 → MayStoreOn w page
  StoresGuarded : w.guarded ≡ Some page → MayStoreOn w page

-- in a record, on the board, a new record's header, or a word ahead of it
abbrev pub StoresAreSpared : Type 0
StoresAreSpared = (t : Table) (s : Saves) (z : Frozen) (count : ℕ) (saver : ℕ → Saver) (k addr word : ℕ) → SavingStands t s z count saver
    → k < count → MayStoreOn (saver k) (page_of addr) → Spares t s z count saver (Some (WordIs addr word))

-- ---- a mutator's new pages

-- the next word of a stock is made 0
abbrev pub ZerosAreSpared : Type 0
ZerosAreSpared = (t : Table) (s : Saves) (z : Frozen) (team : Team) (g : Ghost) (saver : ℕ → Saver) (k : ℕ) (q : Stock) → SavingStands t s z team.count saver
    → Ready (era_of t) (memory_of t) team g k → HasStock team k q → q.zeroed < q.end → Spares t s z team.count saver (Some (WordIs q.zeroed 0))

-- the page is none of a checkpoint in progress, and nobody saves it
pub record IsLoose (s : Saves) (z : Frozen) (page : ℕ) : Type 0 where
  pub held : s.done < s.snap → z.held page ≡ false
  pub unnamed : (c worker : ℕ) → s.save page ≢ Saving c worker

-- so the next page of a stock to open may be marked as new
abbrev pub NewPagesAreLoose : Type 0
NewPagesAreLoose = (t : Table) (s : Saves) (z : Frozen) (team : Team) (g : Ghost) (saver : ℕ → Saver) (k page : ℕ) (q : Stock) → SavingStands t s z team.count saver
    → Ready (era_of t) (memory_of t) team g k → OpensNext team k q page → IsLoose s z page

-- Worker w may open the page: no checkpoint was begun when it recalled, or it has marked the page as new.
pub data MayOpenNew (w : Saver) (page : ℕ) : Type 0 where
  OpensBeforeAll : w.recalled ≡ true → w.snap ≡ 0 → MayOpenNew w page
  OpensMarked : w.marked ≡ Some page → MayOpenNew w page

-- the next page of a stock is opened
abbrev pub NewPagesAreSpared : Type 0
NewPagesAreSpared = (t : Table) (s : Saves) (z : Frozen) (team : Team) (g : Ghost) (saver : ℕ → Saver) (k page : ℕ) (q : Stock) → SavingStands t s z team.count saver
    → Ready (era_of t) (memory_of t) team g k → OpensNext team k q page → MayOpenNew (saver k) page
    → Spares t s z team.count saver (Some (PageIs page (Open (team.worker k).epoch)))

-- ---- the gate

-- The gate shows that nobody has found it with nobody running, to begin a checkpoint: no request is set, a mutator runs, or one is
-- behind.
pub data IsAstir (gate : GateWord) : Type 0 where
  NobodyAsks : gate.request ≡ false → IsAstir gate
  SomeoneRuns : 0 < gate.running → IsAstir gate
  SomeoneIsBehind : 0 < gate.behind → IsAstir gate

-- then nobody is still
abbrev pub NobodyIsStillWhereAstir : Type 0
NobodyIsStillWhereAstir = (t : Table) (s : Saves) (z : Frozen) (count : ℕ) (worker : ℕ → Known) (saver : ℕ → Saver) → SavingStands t s z count saver
    → Counted t.gate count worker → FollowPosts count worker saver → IsAstir t.gate → NobodyIsStill count saver

-- the gate after a passage is of the same epoch, and nobody is still
pub record IsPassed (t : Table) (count : ℕ) (saver : ℕ → Saver) (gate : GateWord) : Type 0 where
  pub epoch : gate.epoch ≡ t.gate.epoch
  pub nobody : NobodyIsStill count saver

-- so it is at each passage but the one that clears the request of who begins a checkpoint
abbrev pub PassagesAreSpared : Type 0
PassagesAreSpared = (t : Table) (s : Saves) (z : Frozen) (team : Team) (g : Ghost) (saver : ℕ → Saver) (k : ℕ) (step : GateStep) → SavingStands t s z team.count saver
    → Ready (era_of t) (memory_of t) team g k → FollowPosts team.count team.worker saver → WinsGate (memory_of t) team k step → step.passage ≢ Clear
    → IsPassed t team.count saver (gate_after step.passage step.read)

-- the worker after a passage
abbrev pub saver_passed : Passage → Saver → Saver
saver_passed Enter w = saver_running w
saver_passed Park w = saver_stopped w
saver_passed (Request asked) w = saver_after_request w
saver_passed RequestSnap w = saver_after_request w
saver_passed Clear w = saver_after_clear w
saver_passed Forwarded w = w
saver_passed Resume w = saver_running w
saver_passed Leave w = saver_stopped w

-- after it what is known of each worker's saves says again that it runs, or holds the request, as its post does
abbrev pub PassagesFollowPosts : Type 0
PassagesFollowPosts = (E : Era) (m : Memory) (team : Team) (g : Ghost) (saver : ℕ → Saver) (k : ℕ) (step : GateStep) → Ready E m team g k
    → FollowPosts team.count team.worker saver → WinsGate m team k step
    → FollowPosts team.count (put team.worker k (worker_after step.read.epoch step.passage (team.worker k))) (put saver k (saver_passed step.passage (saver k)))

-- a passage leaves what is kept of checkpoints
abbrev pub PassagesKeepSaving : Type 0
PassagesKeepSaving = (t : Table) (s : Saves) (z : Frozen) (team : Team) (g : Ghost) (saver : ℕ → Saver) (k : ℕ) (step : GateStep) → SavingStands t s z team.count saver
    → Ready (era_of t) (memory_of t) team g k → FollowPosts team.count team.worker saver → WinsGate (memory_of t) team k step
    → SavingStands (table_after t (Some (GateIs (gate_after step.passage step.read)))) s z team.count (put saver k (saver_passed step.passage (saver k)))

-- and so does the flip of who has found that no checkpoint is in progress
abbrev pub FlippersKeepSaving : Type 0
FlippersKeepSaving = (t : Table) (s : Saves) (z : Frozen) (team : Team) (g : Ghost) (saver : ℕ → Saver) (k : ℕ) (r : Reset) → SavingStands t s z team.count saver
    → Ready (era_of t) (memory_of t) team g k → FollowPosts team.count team.worker saver → Flips (era_of t) team k r
    → (saver k).settled ≡ true → (saver k).still ≡ None
    → SavingStands (table_after t (Some (GateIs (flipped_gate r.read)))) s z team.count (put saver k (saver_after_flip (saver k)))

-- what is known of each worker's saves says after a flip too that it runs, or holds the request, as its post does
abbrev pub FlippersFollowPosts : Type 0
FlippersFollowPosts = (E : Era) (m : Memory) (team : Team) (g : Ghost) (saver : ℕ → Saver) (k : ℕ) (r : Reset) → Ready E m team g k
    → FollowPosts team.count team.worker saver → Flips E team k r
    → FollowPosts team.count (put team.worker k (after_flip (team.worker k))) (put saver k (saver_after_flip (saver k)))
