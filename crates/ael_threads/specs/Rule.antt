-- The rule of the table: what is so of the words, of all workers and of what each seat knows, between any two steps.
use Rattle.std.specs.Prelude.{◌≡◌, ℕ, ◌<◌, false, List, [], map, length}
use mathlib.Core.Option.{some}
use mathlib.Core.List.{IsPrefix}
use lib.ListN.{get_elem?}
use Rattle.atomic_table.specs.Table as table
use Rattle.gc_worker.specs.Workers.Held.{Held}
use Rattle.gc_worker.specs.Laws.Cycles.{IsInCall}
use Rattle.gc_worker.specs.Laws.Gone.{ScannersAreLast}
use Rattle.gc_worker.specs.Laws.Step.{IsOut}
use Rattle.gc_worker.specs.Laws.Stories.{StoryStands}
use Rattle.gc_worker.specs.Steps.Turned.{PageWon}
use Rattle.ael_threads.specs.declared.view.WonClaim.{WonClaim}
use Rattle.gc_worker.specs.declared.calls.entry.Entry.{Entry}
use Rattle.ael_threads.specs.declared.view.Hand.{Hand}
use Rattle.ael_threads.specs.declared.view.Plan.{Plan}
use Rattle.ael_threads.specs.declared.view.View.{View}
use Rattle.gc_worker.specs.History.Tally.{IsTallied}
use Rattle.ael_threads.specs.Histories.{opening_tally, Each, IsOnce, first_plain, new_hands, hand_number}
use Rattle.gc_worker.specs.History.Legal.{IsLegal, after_all, calls_of, last_flip}
use Rattle.ael_threads.specs.Began.{FlippedIfFull, HasLooked, begun_held}
pub use Rattle.ael_threads.specs.Workers.{StandsAs, crew, heap_of}

-- ---- views

abbrev pub view : Plan → List Hand → (seen heard : List Entry) → List WonClaim → View
view plan hands seen heard claims = record { plan = plan; hands = hands; seen = seen; heard = heard; claims = claims }

-- the first seat has all workers
abbrev pub first_view : Plan → View
first_view plan = view plan (new_hands plan 0 (crew plan)) [] [] []

-- a seat whose workers went to another seat
abbrev pub no_plan : Plan
no_plan = record { spaces = record { pages = 0; checkpoints = false }; least = 0; mutators = 0; scanners = 0; prints = false }

abbrev pub spent_view : View
spent_view = view no_plan [] [] [] []

-- ---- the rule

abbrev pub won_page : WonClaim → PageWon
won_page c = record { page = c.page; epoch = c.epoch }

-- the seat id has this worker, whose code holds this, and the calls that it made
pub record HasHand (workers : List Held) (log : List Entry) (owner : ℕ → ℕ) (id : ℕ) (h : Hand) : Type 0 where
  pub owns : owner h.number ≡ id
  pub state : StandsAs workers h.number h.worker
  pub calls : calls_of h.number log ≡ h.own

-- the seat id won this page
pub record Won (n : ℕ) (words : List ℕ) (winner : WonClaim → ℕ) (id : ℕ) (c : WonClaim) : Type 0 where
  pub owns : winner c ≡ id
  pub out : IsOut n words (won_page c)

-- what a seat knows fits the history, the workers, and whose they and the pages won are
pub record FitsView (plan : Plan) (words : List ℕ) (workers : List Held) (log : List Entry) (owner : ℕ → ℕ) (winner : WonClaim → ℕ) (id : ℕ) (v : View) : Type 0 where
  pub same : 0 < v.plan.spaces.pages → v.plan ≡ plan
  pub seen : IsPrefix v.seen log
  pub heard : IsPrefix v.heard log
  pub hands : Each (HasHand workers log owner id) v.hands
  pub apart : IsOnce (map hand_number v.hands)
  pub claims : Each (Won plan.spaces.pages words winner id) v.claims
  pub once : IsOnce v.claims

-- THE RULE: with what all workers hold the words stand for the plain state after one legal history, and keep what a cycle keeps that
-- began at its last flip, also in cells; once a scanner is gone, all mutators are; what is counted along the history fits the words and the
-- workers; each worker that is in a call began it by a look at a beginning of the history, in the epoch that it keeps, and where the history
-- tells that a worker found the heap full, a flip came since that look, or none can; what each seat knows fits these.
pub record RuleHolds (plan : Plan) (s : table.State ℕ View) : Type 0 where
  pub log : List Entry
  pub workers : List Held
  pub count : length workers ≡ crew plan
  pub owner : ℕ → ℕ
  pub winner : WonClaim → ℕ
  pub legal : IsLegal (first_plain plan) log
  pub story : StoryStands (heap_of plan s.words workers) (after_all (first_plain plan) log) (last_flip (first_plain plan) log)
  pub last : ScannersAreLast (heap_of plan s.words workers)
  pub tallied : IsTallied plan.least (heap_of plan s.words workers) (opening_tally plan) log
  pub begun : (m : ℕ) (x : Held) → get_elem? workers m ≡ some x → IsInCall x.stage → HasLooked plan m x log
  pub flipped : (m : ℕ) → FlippedIfFull plan m (begun_held workers m) log
  pub seats : (id : ℕ) (v : View) → get_elem? s.views id ≡ some v → FitsView plan s.words workers log owner winner id v
