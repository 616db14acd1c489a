-- The end of the copied area: it is looked at, the turn is taken, TRACED is exchanged after the walk, and then nothing leads into the old space.
use Rattle.std.specs.Prelude.{◌≡◌, ◌≢◌, ℕ, ◌+◌, ◌<◌, ◌≤◌, ◌⊎◌, true, false, length, Some, None}
use Rattle.std.specs.Option.{option_map}
use Rattle.heap_words.specs.Decoded.{NumberWord, decode}
use Rattle.plain_state.specs.declared.value.Identity.{Identity}
use Rattle.plain_state.specs.declared.value.Value.{Value}
use Rattle.plain_state.specs.Cells.{KeepsCells, LosesTarget, cell_of, without_target}
use Rattle.plain_state.specs.Reachable.{Reachable}
use Rattle.plain_state.specs.State.{Plain, record_of, serial_of}
use Rattle.space_map.specs.declared.page_word.PageWord.{PageWord}
use Rattle.space_map.specs.declared.page_word.PageWord.TheVariants.{Open}
use Rattle.space_map.specs.PageWord.{age_of}
use Rattle.heap_state.specs.Cycles.Cycle.{Cycle}
use Rattle.heap_state.specs.Memory.Era.{Era, Memory, IsLaidOut}
use Rattle.heap_state.specs.Invariant.Ghost.{Ghost, Here, Leads}
use Rattle.heap_state.specs.Invariant.Inductive.{Invariant}
use Rattle.heap_state.specs.Known.{Known, Team, Copy, Scan, Round, Claim, Look, LastLook, Begins, Done, is_mutator}
use Rattle.heap_state.specs.Memory.Entries.{TracedIs, WeakTurnIs}
use Rattle.heap_state.specs.Meaning.Values.{Shown, value_of}
use Rattle.heap_state.specs.Targets.{IsCell, IsCopied}
use Rattle.heap_laws.specs.Steps.{Ready, Steps, StepsTo}
use Rattle.space_map.specs.Spaces.{page_of, first_word}
use Rattle.space_map.specs.declared.spaces.TheConstants.{PAGE_WORDS}

-- ---- a round

-- the worker in this round
abbrev pub in_round : Known → Round → Known
in_round w r = record w { round = Some r }

-- TRACED is read, and isn't the one that says that the worker's epoch is traced
abbrev pub ReadingTracedKeeps : Type 0
ReadingTracedKeeps = (E : Era) (m : Memory) (team : Team) (g : Ghost) (k : ℕ) → Ready E m team g k → m.traced ≢ (team.worker k).epoch + 1
    → Steps E m team g k None (in_round (team.worker k) (record { traced = m.traced; front = None })) g

-- f is FRONT as the area of the worker's own epoch has it: a worker of a past epoch reads the area of another space
pub record IsFrontFor (E : Era) (m : Memory) (w : Known) (f : ℕ) : Type 0 where
  pub now : w.epoch ≡ E.epoch → f ≡ m.front
  pub before : w.epoch + 1 ≡ E.epoch → f ≡ m.old_front

-- FRONT is read in a round
abbrev pub ReadingRoundFrontKeeps : Type 0
ReadingRoundFrontKeeps = (E : Era) (m : Memory) (team : Team) (g : Ghost) (k : ℕ) (r : Round) (f : ℕ) → Ready E m team g k → (team.worker k).round ≡ Some r
    → IsFrontFor E m (team.worker k) f → Steps E m team g k None (in_round (team.worker k) (record r { front = Some f })) g

-- ---- the first look

-- the worker at this look
abbrev pub looking : Known → Look → Known
looking w l = record w { look = Some l }

-- worker k is at this look
pub record IsLooking (team : Team) (k : ℕ) (l : Look) : Type 0 where
  pub looks : (team.worker k).look ≡ Some l

-- the gate is of the worker's epoch, and nobody is behind: the look begins
pub record BeginsLook (m : Memory) (team : Team) (k : ℕ) (r : Round) : Type 0 where
  pub round : (team.worker k).round ≡ Some r
  pub same : m.gate.epoch ≡ (team.worker k).epoch
  pub none : m.gate.behind ≡ 0

abbrev pub look_begun : Era → Round → Look
look_begun E r = record { traced = r.traced; start = E.start; front = E.start; board = false; upto = 0; filled = false }

abbrev pub BeginningLookKeeps : Type 0
BeginningLookKeeps = (E : Era) (m : Memory) (team : Team) (g : Ghost) (k : ℕ) (r : Round) → Ready E m team g k → BeginsLook m team k r
    → Steps E m team g k None (looking (team.worker k) (look_begun E r)) g

-- FRONT is read, before any page
abbrev pub LookingAtFrontKeeps : Type 0
LookingAtFrontKeeps = (E : Era) (m : Memory) (team : Team) (g : Ghost) (k : ℕ) (l : Look) (f : ℕ) → Ready E m team g k → IsLooking team k l
    → l.board ≡ false → l.filled ≡ false → IsFrontFor E m (team.worker k) f → Steps E m team g k None (looking (team.worker k) (record l { front = f })) g

-- the board is found open
abbrev pub LookingAtBoardKeeps : Type 0
LookingAtBoardKeeps = (E : Era) (m : Memory) (team : Team) (g : Ghost) (k : ℕ) (l : Look) → Ready E m team g k → IsLooking team k l
    → m.page (page_of E.board) ≡ Open (team.worker k).epoch → Steps E m team g k None (looking (team.worker k) (record l { board = true })) g

-- the next page is found open
abbrev pub LookingAtPageKeeps : Type 0
LookingAtPageKeeps = (E : Era) (m : Memory) (team : Team) (g : Ghost) (k : ℕ) (l : Look) (p : ℕ) → Ready E m team g k → IsLooking team k l
    → (p ≡ l.upto) ⊎ (first_word p ≡ l.start) → m.page p ≡ Open (team.worker k).epoch → Steps E m team g k None (looking (team.worker k) (record l { upto = p + 1 })) g

-- the filling page is found open, or there is none
abbrev pub LookingAtFillingPageKeeps : Type 0
LookingAtFillingPageKeeps = (E : Era) (m : Memory) (team : Team) (g : Ghost) (k : ℕ) (l : Look) → Ready E m team g k → IsLooking team k l
    → ((p : ℕ) → first_word p < l.front → l.front < first_word p + PAGE_WORDS → m.page p ≡ Open (team.worker k).epoch) → Steps E m team g k None (looking (team.worker k) (record l { filled = true })) g

-- ---- the second look

-- AREA is read again and has the same FRONT; the board and all full pages were found open
pub record LooksAgain (E : Era) (m : Memory) (team : Team) (k : ℕ) (l : Look) : Type 0 where
  pub looks : (team.worker k).look ≡ Some l
  pub front : IsFrontFor E m (team.worker k) l.front
  pub board : l.board ≡ true
  pub full : (l.front < first_word l.upto + PAGE_WORDS) ⊎ (l.front < l.start + PAGE_WORDS)

-- the worker that may exchange TRACED
abbrev pub about_to_trace : Known → Look → Known
about_to_trace w l = record w { look = None; last_look = Some (record { traced = l.traced }) }

abbrev pub LookingAgainKeeps : Type 0
LookingAgainKeeps = (E : Era) (m : Memory) (team : Team) (g : Ghost) (k : ℕ) (l : Look) → Ready E m team g k → (team.worker k).pass ≡ None → LooksAgain E m team k l
    → l.filled ≡ true → Steps E m team g k None (about_to_trace (team.worker k) l) g

-- where the filling page had the word of an epoch before, it is claimed
abbrev pub filling_claim : ℕ → PageWord → Claim
filling_claim p old = record { page = p; old = old; in_place = true; looked = 0; sure = true }

abbrev pub about_to_fill : Known → ℕ → PageWord → Known
about_to_fill w p old = record w { look = None; claim = Some (filling_claim p old) }

abbrev pub ClaimingFillingPageKeeps : Type 0
ClaimingFillingPageKeeps = (E : Era) (m : Memory) (team : Team) (g : Ghost) (k : ℕ) (l : Look) (p : ℕ) (old : PageWord) → Ready E m team g k → LooksAgain E m team k l
    → l.start ≤ first_word p → first_word p < l.front → l.front < first_word p + PAGE_WORDS → age_of old ≤ (team.worker k).epoch
    → Steps E m team g k None (about_to_fill (team.worker k) p old) g

-- ---- the turn is taken

-- the worker that has the turn: its walk over the chain of copied cells begins
abbrev pub has_turn : Known → Known
has_turn w = record w { pass = Some Begins }

-- Worker k wins the exchange: WEAKTURN is a word below the one that says that the turn of the worker's epoch is taken. The TRACED that
-- the second look keeps is of that epoch.
pub record WinsTurn (turn : ℕ) (team : Team) (k : ℕ) (l : LastLook) : Type 0 where
  pub looks : (team.worker k).last_look ≡ Some l
  pub of_epoch : (team.worker k).epoch ≤ l.traced
  pub free : turn < (team.worker k).epoch + 1

abbrev pub TurnsAreTaken : Type 0
TurnsAreTaken = (E : Era) (m : Memory) (team : Team) (g : Ghost) (k : ℕ) (l : LastLook) → Ready E m team g k → WinsTurn m.weak_turn team k l
    → Steps E m team g k (Some (WeakTurnIs ((team.worker k).epoch + 1))) (has_turn (team.worker k)) g

-- ---- TRACED is exchanged

-- worker k, which has walked over the chain of copied cells, wins the exchange: TRACED is the word that was read
pub record WinsTraced (m : Memory) (team : Team) (k : ℕ) (l : LastLook) : Type 0 where
  pub looks : (team.worker k).last_look ≡ Some l
  pub unchanged : m.traced ≡ l.traced
  pub walked : (team.worker k).pass ≡ Some Done

abbrev pub has_traced : Known → Known
has_traced w = record w { last_look = None; pass = None }

-- The plain state q is p, but that cells may be empty. Each target in the epoch's space denotes the value of its cell in q.
pub record FollowsTargets (E : Era) (m : Memory) (g : Ghost) (p q : Plain) : Type 0 where
  pub mutators : q.mutators ≡ p.mutators
  pub board : q.heap.board ≡ p.heap.board
  pub makers : length q.heap.records ≡ length p.heap.records
  pub serials : (k : ℕ) → serial_of q.heap k ≡ serial_of p.heap k
  pub records : (i : Identity) → (record_of q.heap i ≡ record_of p.heap i) ⊎ (record_of q.heap i ≡ option_map without_target (record_of p.heap i))
  pub targets : (a : ℕ) (v : Value) → IsCell g a → E.start ≤ a → a < E.start + E.span → cell_of q.heap (g.identity a) ≡ Some v → value_of g.identity (m.heap (a + 1)) ≡ Some v

-- Only a worker of the current epoch wins it. What it does keeps all, and the plain state then is one that follows the targets.
pub record Traces (E : Era) (m : Memory) (team : Team) (g : Ghost) (k : ℕ) : Type 0 where
  pub now : (team.worker k).epoch ≡ E.epoch
  pub steps : (p q : Plain) → Shown E m team g p → FollowsTargets E m g p q → StepsTo E m team g k (Some (TracedIs ((team.worker k).epoch + 1))) (has_traced (team.worker k)) g q

abbrev pub TracingKeeps : Type 0
TracingKeeps = (E : Era) (m : Memory) (team : Team) (g : Ghost) (k : ℕ) (l : LastLook) → Ready E m team g k → WinsTraced m team k l → Traces E m team g k

-- By the plain state o at the flip: the target of the cell at a denotes the cell's value, and its target was reachable then, if the cell
-- was there; or the target is the number 0, and was not.
abbrev pub IsLostOrShown : Memory → Ghost → (o : Plain) → (a : ℕ) → Value → Type 0
IsLostOrShown m g o a v = ((value_of g.identity (m.heap (a + 1)) ≡ Some v) × ¬ (LosesTarget o (g.identity a))) ⊎ ((decode (m.heap (a + 1)) ≡ NumberWord 0) × LosesTarget o (g.identity a))

-- so it is of each cell in the epoch's space when TRACED is exchanged, where the plain state has kept the values of the cells of then
abbrev pub LostTargetsAreZero : Type 0
LostTargetsAreZero = (E : Era) (m : Memory) (team : Team) (g : Ghost) (k : ℕ) (l : LastLook) (p o : Plain) → Ready E m team g k → WinsTraced m team k l
    → Shown E m team g p → Cycle E m team g o → KeepsCells o p
    → (a : ℕ) (v : Value) → IsCell g a → E.start ≤ a → a < E.start + E.span → cell_of p.heap (g.identity a) ≡ Some v → IsLostOrShown m g o a v

-- who slept past a flip finds that TRACED is another word
abbrev pub SleeperLosesTraced : Type 0
SleeperLosesTraced = (E : Era) (m : Memory) (team : Team) (g : Ghost) (k : ℕ) (l : LastLook) → Ready E m team g k
    → (team.worker k).last_look ≡ Some l → (team.worker k).epoch < E.epoch → m.traced ≢ l.traced

-- ---- the epoch is traced

-- What then holds: each page of the epoch's records is open, no field, no board word and no register of a mutator without an end
-- leads into the old space, nobody copies or scans, and no place is being written.
pub record NothingLeads (E : Era) (m : Memory) (team : Team) (g : Ghost) : Type 0 where
  pub opened : (x : ℕ) → Here E g.size g.writer g.kind x → m.page (page_of x) ≡ Open E.epoch
  pub clean : (x : ℕ) → Here E g.size g.writer g.kind x → ¬ (Leads E (m.heap x))
  pub registers : (k r : ℕ) → k < team.count → r < 8 → is_mutator (team.worker k).post ≡ true → (team.worker k).account.end ≡ None → ¬ (Leads E ((team.worker k).registers r))
  pub none_copies : (k : ℕ) (c : Copy) → k < team.count → ¬ ((team.worker k).copy ≡ Some c)
  pub none_scans : (k : ℕ) (s : Scan) → k < team.count → ¬ ((team.worker k).scan ≡ Some s)
  pub none_writes : (b : ℕ) → 0 < g.size b → g.writer b ≡ 0

abbrev pub TracedLeadsNowhere : Type 0
TracedLeadsNowhere = (E : Era) (m : Memory) (team : Team) (g : Ghost) → IsLaidOut E → Invariant E m team g → m.traced ≡ E.epoch + 1 → NothingLeads E m team g

-- what was copied is what was reachable at the flip, each identity once
pub record CopiesReachable (E : Era) (m : Memory) (g : Ghost) (p : Plain) : Type 0 where
  pub all : (i : Identity) → Reachable p i → IsCopied E m.front g.size g.writer g.identity i
  pub only : (i : Identity) → IsCopied E m.front g.size g.writer g.identity i → Reachable p i
  pub once : (i : Identity) (a b : IsCopied E m.front g.size g.writer g.identity i) → a.at ≡ b.at

abbrev pub TracedCopiesReachable : Type 0
TracedCopiesReachable = (E : Era) (m : Memory) (team : Team) (g : Ghost) (p : Plain) → IsLaidOut E → Invariant E m team g → Cycle E m team g p → m.traced ≡ E.epoch + 1 → CopiesReachable E m g p
