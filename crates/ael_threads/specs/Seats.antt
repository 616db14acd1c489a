-- What a seat is told by a step, and by what it takes in.
use Rattle.std.specs.Prelude.{◌≡◌, ◌≢◌, ℕ, zero, suc, ◌+◌, ◌==◌, ◌<◌, ◌≤◌, ◌⊎◌, ⊤, true, Option, Some, None, List, [], ◌∷◌, ◌++◌, map, take, drop, slice_get, length, if◌then◌else◌}
use mathlib.Core.List.{IsPrefix}
use lib.ListN.{get_elem?}
use Rattle.atomic_table.specs.Table as table
use Rattle.atomic_table.specs.Seated.{TableId}
use Rattle.atom_store.specs.declared.reply.Reply.{Reply}
use Rattle.atom_store.specs.declared.reply.Reply.TheVariants as replies
use Rattle.atom_store.specs.declared.step.Step.{Step}
use Rattle.atom_store.specs.declared.step.Step.TheVariants.{Load, Store, Exchange}
use Rattle.atom_store.specs.Step.{reply_of, words_after}
use Rattle.space_map.specs.Table.{whole_length}
use Rattle.plain_state.specs.Reachable as reachable
use Rattle.plain_state.specs.State.{Mutator, Plain, serial_of}
use Rattle.plain_state.specs.State as plain
use Rattle.mutator_asm.specs.declared.instr.Instr.TheVariants.{Snap}
use Rattle.gc_worker.specs.declared.stage.Stage.{Stage}
use Rattle.gc_worker.specs.declared.stage.Stage.TheVariants.{Gone}
use Rattle.gc_worker.specs.declared.steps.stepped.Stepped.{Stepped}
use Rattle.gc_worker.specs.declared.steps.stepped.Stepped.TheVariants.{Idle}
use Rattle.gc_worker.specs.Laws.Between.{Begins, AreAlike, KeepsToTask, RegistersLand, Readies, ShowsRegisters, is_present}
use Rattle.gc_worker.specs.Workers.Counted.{counted}
use Rattle.gc_worker.specs.Workers.Fits.{Fits, Takes}
use Rattle.gc_worker.specs.Plain.Full.{FullWhereTold}
use Rattle.gc_worker.specs.Workers.Held.{Held}
use Rattle.gc_worker.specs.Workers.Knows.{post_in}
use Rattle.plain_state.specs.declared.end.End.{End}
use Rattle.plain_state.specs.declared.end.End.TheVariants.{HeapFull}
use Rattle.heap_state.specs.Known.{is_running}
use Rattle.gc_worker.specs.Laws.Checkpoints.{TellsKept}
use Rattle.gc_worker.specs.Laws.Copied.{IsTraced}
use Rattle.gc_worker.specs.Laws.Gone.{ScannersAreLast}
use Rattle.gc_worker.specs.Laws.Step.{FlipsWhereTold, held_at, read, epoch_of}
use Rattle.heap_state.specs.Cycles.Copies.{CopiedIsLive}
use Rattle.gc_worker.specs.Steps.Stepped.{IsBeginningCheckpoint, stepped_by, uncounted}
use Rattle.gc_worker.specs.declared.calls.did.Did.TheVariants.{Done, Trap}
use Rattle.gc_worker.specs.declared.task.Task.{Task}
use Rattle.gc_worker.specs.declared.task.Task.TheVariants.{Calls}
use Rattle.gc_worker.specs.Steps.Turned.{PageWon, Told, Silent, Empties, Answers, Marks, told, turned, won}
use Rattle.gc_worker.specs.Steps.Wanted.{wanted}
use Rattle.gc_worker.specs.declared.calls.call.Call.{Call}
use Rattle.ael_threads.specs.declared.view.WonClaim.{WonClaim}
use Rattle.gc_worker.specs.declared.calls.entry.Entry.{Entry}
use Rattle.gc_worker.specs.declared.calls.entry.Entry.TheVariants.{Made}
use Rattle.ael_threads.specs.declared.view.Hand.{Hand}
use Rattle.ael_threads.specs.declared.view.Plan.{Plan}
use Rattle.ael_threads.specs.declared.view.View.{View}
use Rattle.gc_worker.specs.History.Checkpoints.{IsLastOfHistory}
use Rattle.gc_worker.specs.History.Large.{HasNoFullCall, IsLargeFor}
use Rattle.gc_worker.specs.History.Tally.{EachEntry, EntryIs, IsTallied, Sizes, Tasks, size_now, tasks_held, tally}
use Rattle.gc_worker.specs.Laws.Cycles.{size_of}
use Rattle.ael_threads.specs.Histories.{AreBy, AreSizesOf, opening_tally, Each, IsOnce, HasOwnCalls, first_held, first_plain, hand, hand_number}
use Rattle.gc_worker.specs.History.Legal.{IsLegal, after_all, worker_call, calls_of, extra, last_flip, own_after}
use Rattle.ael_threads.specs.Began.{FlippedIfFull, begun_held}
use Rattle.ael_threads.specs.Rule.{StandsAs, crew, heap_of, view}
use Rattle.ael_threads.specs.Workers.{HistoryStands}

-- ---- a step by the word that it finds

abbrev pub reply_to : Step → ℕ → Reply
reply_to (Load place) x = replies.Value x
reply_to (Store place v) x = replies.Done
reply_to (Exchange place old new) x = if x == old then replies.Won else replies.Lost x

-- ---- the seat's own worker, its first

abbrev pub first_number : List Hand → ℕ
first_number [] = 0
first_number (h ∷ hs) = h.number

abbrev pub first_own : List Hand → List Call
first_own [] = []
first_own (h ∷ hs) = h.own

-- all its calls were seen
abbrev pub IsMine : View → Type 0
IsMine v = calls_of (first_number v.hands) v.seen ≡ first_own v.hands

-- what was heard of begins with what was seen
abbrev pub HasHeardAllSeen : View → Type 0
HasHeardAllSeen v = IsPrefix v.seen v.heard

-- the plain state after all that was seen
abbrev pub plain_after_seen : View → Plain
plain_after_seen v = after_all (first_plain v.plan) v.seen

-- Worker m, which holds x, is as its plain mutator q, and its registers show that one's, also once it has its end.
pub record IsShown (records : plain.Heap) (m : ℕ) (x : Held) (q : Mutator) : Type 0 where
  pub counter : x.account.counter ≡ q.counter
  pub printed : x.account.printed ≡ q.printed
  pub end : x.account.end ≡ q.end
  pub serial : x.account.serial ≡ serial_of records m
  pub registers : ShowsRegisters x.registers q

-- The seat's own worker is as its plain mutator after what was seen: whatever came since was none of its calls.
abbrev pub ShowsSeen : Held → View → Type 0
ShowsSeen x v = (q : Mutator) → slice_get (plain_after_seen v).mutators (first_number v.hands) ≡ Some q → IsShown (plain_after_seen v).heap (first_number v.hands) x q

-- ---- what a step tells

abbrev pub claim_by_win : PageWon → WonClaim
claim_by_win w = record { page = w.page; epoch = w.epoch }

abbrev pub with_claim : List WonClaim → Option PageWon → List WonClaim
with_claim cs None = cs
with_claim cs (Some w) = claim_by_win w ∷ cs

-- what the seat has seen after a step, if the history is this then
abbrev pub seen_after : (seen log : List Entry) → Told → List Entry
seen_after seen log Silent = seen
seen_after seen log Empties = seen
seen_after seen log (Answers task outcome) = log
seen_after seen log (Marks asked) = seen

-- THE CLAUSE OF A CALL: the history after it is legal, begins with all that was seen and ends with the call; of these workers it has
-- just the calls that they made.
pub record Extends (plan : Plan) (hands : List Hand) (seen : List Entry) (c : Call) (later : List Entry) : Type 0 where
  pub between : List Entry
  pub is : later ≡ (seen ++ between) ++ Made c ∷ []
  pub own : HasOwnCalls later hands
  pub legal : IsLegal (first_plain plan) later

-- what a step of worker m tells of the history
abbrev pub Sees : View → (m : ℕ) → Told → View → Type 0
Sees v m Silent w = w.seen ≡ v.seen
Sees v m Empties w = w.seen ≡ v.seen
Sees v m (Answers task outcome) w = Extends v.plan w.hands v.seen (worker_call m task outcome) w.seen
Sees v m (Marks asked) w = w.seen ≡ v.seen

-- the words that the end of a full heap tells as live are those that were live in this plain state
abbrev pub LiveByEnd : Plain → End → Type 0
LiveByEnd o (HeapFull asked room live) = reachable.IsLive o live
LiveByEnd o end = ⊤

abbrev pub LiveWhereTold : Plain → Told → Type 0
LiveWhereTold o Silent = ⊤
LiveWhereTold o Empties = ⊤
LiveWhereTold o (Answers task Done) = ⊤
LiveWhereTold o (Answers task (Trap end)) = LiveByEnd o end
LiveWhereTold o (Marks asked) = ⊤

-- a mutator that has no end, and runs: no flip comes before it stops at the gate
abbrev pub IsRunning : Held → Type 0
IsRunning x = (x.account.end ≡ None) × (is_running (post_in x x.stage) ≡ true)

-- a mutator that has no end, and runs or has made the request: its epoch is the gate's
abbrev pub IsPresent : Held → Type 0
IsPresent x = (x.account.end ≡ None) × (is_present (post_in x x.stage) ≡ true)

-- by this task a checkpoint is begun
abbrev pub BeginsBySnap : Stage → Task → Type 0
BeginsBySnap stage task = IsBeginningCheckpoint stage × (task ≡ Calls Snap)

-- With these words, and with worker m, which holds x but for its count, all workers stand for the plain state after a legal history
-- that begins with this; once the epoch is traced, exactly those cells of its space are empty that lost their targets by its last flip, or
-- were empty then; and what is counted along it fits them.
pub record StandWith (plan : Plan) (m : ℕ) (x : Held) (seen : List Entry) (words : List ℕ) : Type 0 where
  pub history : HistoryStands (first_plain plan) plan words
  pub open history use *
  pub begins : IsPrefix seen log
  pub here : StandsAs workers m (uncounted x)
  pub tallied : IsTallied plan.least (heap_of plan words workers) (opening_tally plan) log

-- Words with which all workers stood, with worker m, which holds x. The history then begins with all that the seat had seen and heard of,
-- and has just the calls that the worker made.
pub record FindsWords (v : View) (m : ℕ) (x : Held) : Type 0 where
  pub words : List ℕ
  pub stands : StandWith v.plan m x v.seen words
  pub heard : IsPrefix v.heard stands.log
  pub own : calls_of m stands.log ≡ first_own v.hands

-- A step of worker m, whose code holds x and takes r. It is the step that x wants, on the words before it, and r is what that step replies;
-- with the words before and after it the workers stand for histories of which the latter has what the step tells besides, and no other
-- worker has changed. A scanner that is gone after it found all mutators gone. The history before it begins with all that the seat had
-- heard of, and has just the calls that the worker made; the seat hears of the one after it. A flip, and nothing else, raises the epoch by
-- one, for the pages that the worker's task asks for. Where the heap is told to be full it was by the words before, and what is told as
-- live was live at the last flip. An effect leaves a mutator that is present, and that runs, if it is not the effect of `snap` by which a
-- checkpoint is begun: then it has yet to clear its request. If the worker is one that is present, each pointer in its registers leads to a
-- record's header in the words after, and two registers hold one word exactly where the plain ones hold one value.
pub record Moves (v : View) (m : ℕ) (x : Held) (r : Reply) (w : View) : Type 0 where
  pub takes : Takes x r
  pub fits : Fits v.plan.spaces.pages v.plan.mutators m (turned x r)
  pub hands : w.hands ≡ hand m (uncounted (turned x r)) (own_after m (first_own v.hands) (told x r)) ∷ drop 1 v.hands
  pub plan : w.plan ≡ v.plan
  pub claims : w.claims ≡ with_claim v.claims (won x r)
  pub seen : Sees v m (told x r) w
  pub mine : IsMine w
  pub shows : ShowsSeen (uncounted (turned x r)) w
  pub step : Step
  pub wants : wanted x ≡ Some step
  pub finds : FindsWords v m x
  pub open finds use {words as before, stands as found, heard, own}
  pub reply : r ≡ reply_of step before
  pub after : List ℕ
  pub left : after ≡ words_after step before
  pub stands : StandWith v.plan m (turned x r) w.seen after
  pub grows : stands.log ≡ found.log ++ extra (last_flip (first_plain v.plan) found.log) m (told x r)
  pub hears : w.heard ≡ stands.log
  pub sees : w.seen ≡ seen_after v.seen stands.log (told x r)
  pub others : (j : ℕ) → j ≢ m → get_elem? stands.workers j ≡ get_elem? found.workers j
  pub saw : v.plan.mutators ≤ m → (turned x r).stage ≡ Gone → (j : ℕ) → j < v.plan.mutators → (held_at (heap_of v.plan before found.workers) j).stage ≡ Gone
  pub flips : FlipsWhereTold v.plan.spaces.pages before after x (told x r)
  pub full : FullWhereTold v.plan.spaces.pages before x (told x r)
  pub live : LiveWhereTold (last_flip (first_plain v.plan) w.seen) (told x r)
  pub present : (task : Task) → told x r ≡ Answers task Done → IsPresent (turned x r)
  pub runs : (task : Task) → told x r ≡ Answers task Done → BeginsBySnap x.stage task ⊎ IsRunning (turned x r)
  pub lands : IsPresent (turned x r) → RegistersLand v.plan.spaces.pages after (turned x r)
  pub alike : IsPresent (turned x r) → (q : Mutator) → slice_get (plain_after_seen w).mutators m ≡ Some q → AreAlike (turned x r).registers q

abbrev pub Me : Type 0
Me = table.Me ℕ View

-- What a seat is told by a step of its worker, which holds x and wants it.
abbrev pub Plays : Held → table.Step ℕ → Me → ℕ → Me → Type 0
Plays x st me found later = (later.1 ≡ me.1) × ((q : Step) → wanted x ≡ Some q → Moves me.0 (first_number me.0.hands) x (reply_to q found) later.0)

-- ---- callers

-- a caller: which table it is of, what its code holds, and what its seat knows
pub record Seated : Type 0 where
  pub table : TableId
  pub worker : Held
  pub knows : View

-- Since its last step the worker may have been given a task; whatever it has counted, to the proofs of the heap it is as it was then. Its
-- layout is the heap's, and it may print if mutators of the heap may.
pub record Follows (plan : Plan) (m : ℕ) (was now : Held) : Type 0 where
  pub begins : Begins was now
  pub readies : (count : ℕ) → Readies plan.spaces.pages plan.mutators m (counted count was) (counted count now)
  pub fits : Fits plan.spaces.pages plan.mutators m now
  pub laid_out : now.layout ≡ plan.spaces
  pub prints : now.prints ≡ plan.prints

abbrev pub Heads : Plan → Held → List Hand → Type 0
Heads plan x [] = ⊥
Heads plan x (was ∷ others) = Follows plan was.number was.worker x

-- the seat is of a heap whose table has as many words as this one
abbrev pub FitsTable : TableId → View → Type 0
FitsTable t v = (0 < v.plan.spaces.pages) × (t.words ≡ whole_length v.plan.spaces)

-- what an act tells: the caller's code took this reply to the step that it wanted, and goes on with its task or has answered it
pub record ActsBy (a : Seated) (r : Reply) (s : Stepped) (b : Seated) : Type 0 where
  pub wants : (q : Step) × (wanted a.worker ≡ Some q)
  pub stepped : s ≡ stepped_by a.worker.number (told a.worker r)
  pub worker : b.worker ≡ uncounted (turned a.worker r)
  pub knows : Moves a.knows (first_number a.knows.hands) a.worker r b.knows
  pub goes_on : KeepsToTask a.worker r

-- An act is idle exactly where the worker is gone. The act that brought it there was a mutator's exchange of the gate that counts it as
-- left, or a scanner's look at a gate that counts all mutators as left (`who_is_gone_saw_why`), which then were gone (`saw`).
abbrev pub Acts : Seated → Stepped → Seated → Type 0
Acts a Idle b = (b ≡ a) × (a.worker.stage ≡ Gone)
Acts a s b = (r : Reply) × ActsBy a r s b

-- ---- how a seat's first worker goes to a new seat

abbrev pub others_of : View → View
others_of v = view v.plan (drop 1 v.hands) v.seen v.heard v.claims

abbrev pub first_of : View → View
first_of v = view v.plan (take 1 v.hands) v.seen v.heard []

abbrev pub new_seated : TableId → Plan → ℕ → Seated
new_seated t plan n = record { table = t; worker = first_held plan n; knows = view plan (hand n (first_held plan n) [] ∷ []) [] [] [] }

-- so many callers from this number on
abbrev pub new_callers : TableId → Plan → (from count : ℕ) → List Seated
new_callers t plan from zero = []
new_callers t plan from (suc n) = new_callers t plan from n ++ new_seated t plan (from + n) ∷ []

-- ---- how a seat takes in what another knows

-- What each had heard of, its own and the other's. What it had seen is the beginning of the one; so nothing of both is lost in the whole
-- history, which it sees next.
abbrev pub both_of : View → View → View
both_of v w = view v.plan (v.hands ++ w.hands) v.heard w.heard (v.claims ++ w.claims)

-- Where the history tells that this worker found the heap full, a flip came since the look by which it began that task, in the epoch that
-- its code keeps, or none can.
abbrev pub HasFlippedIfFull : Plan → List Entry → Hand → Type 0
HasFlippedIfFull plan log h = FlippedIfFull plan h.number h.worker.begun log

-- The whole history was seen and heard of. It is legal, and the calls of these workers stand in it, each once; no worker is there twice, and
-- no page was won twice in one epoch. There are tasks, one a worker at most, by which, where the history has no later call of a worker,
-- each full heap of it was filled and each of its flips was asked for, with so many pages in use in each epoch; and if one of these workers
-- found the heap full, a flip came since the look by which it began that task, in the epoch that its code keeps, or none can; if another
-- did, since such a look in some epoch.
pub record KnowsWholeHistory (w : View) : Type 0 where
  pub hears : w.heard ≡ w.seen
  pub own : HasOwnCalls w.seen w.hands
  pub apart : IsOnce (map hand_number w.hands)
  pub once : IsOnce w.claims
  pub legal : IsLegal (first_plain w.plan) w.seen
  pub tasks : Tasks
  pub sizes : Sizes
  pub sized : AreSizesOf w.plan sizes
  pub entries : EachEntry (EntryIs sizes tasks) (opening_tally w.plan) w.seen
  pub flipped : Each (HasFlippedIfFull w.plan w.seen) w.hands
  pub all_flipped : (m : ℕ) → (begun : ℕ) × FlippedIfFull w.plan m begun w.seen

-- the whole history is known, of which both lists are beginnings
pub record Learned (v w : View) : Type 0 where
  pub plan : w.plan ≡ v.plan
  pub hands : w.hands ≡ v.hands
  pub claims : w.claims ≡ v.claims
  pub seen : IsPrefix v.seen w.seen
  pub heard : IsPrefix v.heard w.seen
  pub whole : KnowsWholeHistory w
  pub open whole use *

abbrev pub Learns : table.Step ℕ → Me → ℕ → Me → Type 0
Learns st me found later = (later.1 ≡ me.1) × Learned me.0 later.0

-- THE CLAUSE OF ABSORB: one history for both callers, of which what each had seen and heard of is a beginning, and which has just the calls
-- that both made; no worker of both, and no page won by both in one epoch; each full heap of it was filled, and each of its flips was asked
-- for.
pub record Absorbs (v u w : View) : Type 0 where
  pub plan : w.plan ≡ v.plan
  pub hands : w.hands ≡ v.hands ++ u.hands
  pub claims : w.claims ≡ v.claims ++ u.claims
  pub mine : IsPrefix v.seen w.seen
  pub other : IsPrefix u.seen w.seen
  pub heard : IsPrefix v.heard w.seen
  pub other_heard : IsPrefix u.heard w.seen
  pub whole : KnowsWholeHistory w
  pub open whole use *

-- ---- the end

-- all workers of these callers, and all pages that they won
abbrev pub all_hands : List Seated → List Hand
all_hands [] = []
all_hands (s ∷ ss) = all_hands ss ++ s.knows.hands

abbrev pub all_claims : List Seated → List WonClaim
all_claims [] = []
all_claims (s ∷ ss) = all_claims ss ++ s.knows.claims

-- one caller has taken in these, itself among them
pub record Gathers (t : TableId) (all : List Seated) (one : Seated) : Type 0 where
  pub table : one.table ≡ t
  pub hands : one.knows.hands ≡ all_hands all
  pub claims : one.knows.claims ≡ all_claims all
  pub seen : Each (λ (s : Seated). IsPrefix s.knows.seen one.knows.seen) all
  pub heard : Each (λ (s : Seated). IsPrefix s.knows.heard one.knows.heard) all

-- a worker stands among these as its code has it, and its calls are all that the history has of it
pub record Stays (workers : List Held) (log : List Entry) (h : Hand) : Type 0 where
  pub state : StandsAs workers h.number h.worker
  pub calls : calls_of h.number log ≡ h.own

-- Words of a heap, and a history for which they stand with all workers; what the words tell of it: what was copied in an epoch that is traced
-- is what was live at the last flip; if checkpoints can be begun, the words are just those of the layout, and say what is kept; as many
-- pages are in use as the history's flips have brought into use. By the tasks that the workers have begun each full heap of the history was
-- filled and each of its flips was asked for; where it tells that a worker found the heap full, a flip came since the look by which that one
-- began its task, in the epoch that it keeps, or none can.
pub record WordsTellHistory (first : Plain) (plan : Plan) (words : List ℕ) : Type 0 where
  pub history : HistoryStands first plan words
  pub open history use *
  pub copied : IsTraced (heap_of plan words workers) → CopiedIsLive (read (heap_of plan words workers)) (last_flip first log)
  pub kept : plan.spaces.checkpoints ≡ true → TellsKept (heap_of plan words workers) (after_all first log)
  pub sizes : Sizes
  pub sized : AreSizesOf plan sizes
  pub size : size_of plan.spaces.pages words ≡ size_now sizes (tally (opening_tally plan) log)
  pub entries : EachEntry (EntryIs sizes (tasks_held workers)) (opening_tally plan) log
  pub all_flipped : (m : ℕ) → FlippedIfFull plan m (begun_held workers m) log

-- THE CLAUSE OF CLOSE: the calls of all these callers stand in one legal history, each once, of which what each has seen and heard of is a
-- beginning; with what their codes hold the words stand for the plain state after it; if a scanner is gone, all mutators are; what was copied in an
-- epoch that is traced is what was live at the last flip of the history, and exactly those cells of its space are empty that lost their
-- targets by that flip, or were empty then; if checkpoints can be begun, the words are just those of the layout, and say what was kept at
-- the last `snap` of the history; the gate's epoch is the number of its flips; each flip was for a record, and if a call told the heap to
-- be full, what was live at the flip before it and the room left no more of the pages in use than the pages of records made since then, or
-- made next, by the history or else by the tasks that mutators have begun; that flip came since the look by which the worker began that
-- task, in the epoch that it keeps, and all pages of the space were in use, if that flip was not the last that there can be. So a heap
-- whose limit is as large as the history needs is never full; after the last flip that there can be, its pages at first have to be enough.
-- As many pages are in use as the history's flips have brought into use, each of which leaves them or doubles them, as far as the limit
-- goes; between two of its calls no mutator asked for two flips of a space all of whose pages were in use; if all workers are there the
-- history has no other calls; no worker stands twice, and no page was won twice in one epoch.
pub record Closes (plan : Plan) (all : List Seated) (words : List ℕ) : Type 0 where
  pub words_tell : WordsTellHistory (first_plain plan) plan words
  pub open words_tell use *
  pub last : ScannersAreLast (heap_of plan words workers)
  pub last_snap : IsLastOfHistory (first_plain plan) log
  pub epoch : epoch_of plan.spaces.pages words ≡ (tally (opening_tally plan) log).flips
  pub large : IsLargeFor plan.spaces.pages plan.least (tasks_held workers) (opening_tally plan) log → HasNoFullCall log
  pub flipped : Each (HasFlippedIfFull plan log) (all_hands all)
  pub seen : Each (λ (s : Seated). IsPrefix s.knows.seen log) all
  pub heard : Each (λ (s : Seated). IsPrefix s.knows.heard log) all
  pub hands : Each (Stays workers log) (all_hands all)
  pub others : length (all_hands all) ≡ crew plan → AreBy (map hand_number (all_hands all)) log
  pub apart : IsOnce (map hand_number (all_hands all))
  pub once : IsOnce (all_claims all)
