-- What the proofs of the heap know of a worker, component by component, each by cases on its stage.
use Rattle.std.specs.Prelude.{ℕ, ◌+◌, ◌-◌, ◌/◌, ◌==◌, ◌||◌, Bool, true, false, [], ◌∷◌, Option, Some, None, nat_lt, slice_index, if◌then◌else◌, max}
use Rattle.heap_words.specs.declared.kind.Kind.{Kind as HeaderKind}
use Rattle.heap_words.specs.declared.kind.Kind.TheVariants as headers
use Rattle.plain_state.specs.declared.kind.Kind.{Kind}
use Rattle.plain_state.specs.declared.kind.Kind.TheVariants.{Fields, Raw, Mixed, Weak}
use Rattle.space_map.specs.declared.spaces.TheConstants.{LAST_WORKER, PAGE_WORDS}
use Rattle.space_map.specs.Spaces.{Layout, page_of, first_word, board_page}
use Rattle.alloc_end.specs.declared.place_stage.PlaceStage.{PlaceStage}
use Rattle.alloc_end.specs.declared.place_stage.PlaceStage.TheVariants as place_stage
use Rattle.alloc_end.specs.declared.new_pages.NewPages.{NewPages}
use Rattle.alloc_end.specs.declared.run.Run.{Run}
use Rattle.alloc_end.specs.Place.{Placing, words_for}
use Rattle.cell_walk.specs.declared.linked_cell.LinkedCell.{LinkedCell}
use Rattle.cell_walk.specs.declared.walk_end.WalkEnd.TheVariants.{Passed, Another}
use Rattle.cell_walk.specs.declared.walk_stage.WalkStage.{WalkStage}
use Rattle.cell_walk.specs.declared.walk_stage.WalkStage.TheVariants as walk_stage
use Rattle.fault_duty.specs.declared.duty_stage.DutyStage.{DutyStage}
use Rattle.heap_laws.specs.Cells.Walks.{visit, passed, replacing}
use Rattle.fault_duty.specs.declared.duty_stage.DutyStage.TheVariants as duty_stage
use Rattle.fault_duty.specs.declared.page_state.PageState.{PageState}
use Rattle.fault_duty.specs.declared.page_state.PageState.TheVariants as page_state
use Rattle.fault_duty.specs.Duty as duty
use Rattle.forwarding.specs.declared.evac_stage.EvacStage.{EvacStage}
use Rattle.forwarding.specs.declared.evac_stage.EvacStage.TheVariants as evac_stage
use Rattle.forwarding.specs.declared.kept_header.KeptHeader.{KeptHeader}
use Rattle.forwarding.specs.declared.reserved.Reserved.{Reserved}
use Rattle.forwarding.specs.Evacuation as evac
use Rattle.forwarding.specs.Taken.{first_page}
use Rattle.gate_core.specs.declared.flip_stage.FlipStage.{FlipStage}
use Rattle.gate_core.specs.declared.flip_stage.FlipStage.TheVariants as flip_stage
use Rattle.gate_core.specs.declared.gate_stage.GateStage.{GateStage}
use Rattle.gate_core.specs.declared.gate_stage.GateStage.TheVariants as gate_stage
use Rattle.gate_core.specs.declared.passage.Passage as gate_passage
use Rattle.gate_core.specs.declared.passage.Passage.TheVariants as passages
use Rattle.page_scan.specs.declared.headed_record.HeadedRecord.{HeadedRecord}
use Rattle.page_scan.specs.declared.scan_stage.ScanStage.{ScanStage}
use Rattle.page_scan.specs.declared.scan_stage.ScanStage.TheVariants as scan_stage
use Rattle.page_scan.specs.declared.scanned_record.ScannedRecord.{ScannedRecord}
use Rattle.page_scan.specs.declared.spot.Spot.{Spot}
use Rattle.page_scan.specs.declared.spot.Spot.TheVariants.{OnBoard, InRecord}
use Rattle.page_scan.specs.Scanning as scan
use Rattle.page_slots.specs.declared.claim_stage.ClaimStage.{ClaimStage}
use Rattle.page_slots.specs.declared.claim_stage.ClaimStage.TheVariants as claim_stage
use Rattle.page_slots.specs.Claim.{Claiming}
use Rattle.heap_laws.specs.Allocation.Records.{stored_ahead}
use Rattle.heap_laws.specs.Copying.{begun}
use Rattle.heap_state.specs.Known.{Known, Post, Outside, Running, Stopped, Flipping, Snapping, Passage, Enter, Park, Request, RequestSnap, Clear, Forwarded, Resume, Leave, GateStep, Reset, Stock, SeenHeader, SeenRecord, UnknownRole, Origin, Register, Scanned, Quest, Copy, Scan, Round, Claim, Look, LastLook, Linking, Visit, Pass, Begins, At, Done}
use Rattle.heap_state.specs.Known as workers
use Rattle.heap_state.specs.Known.{Access}
use Rattle.record_access.specs.declared.access_stage.AccessStage.{AccessStage}
use Rattle.record_access.specs.declared.access_stage.AccessStage.TheVariants.{LooksAtRecord, LoadsHeader, LooksAtCount, LoadsCount, LooksAtField, LoadsField, StoresField, LoadsForCas, ExchangesField, LooksAtBoard, LoadsBoard, StoresBoard, LoadsForSwap, SwapsBoard}
use Rattle.gc_worker.specs.declared.stage.back.Back.{Back}
use Rattle.gc_worker.specs.declared.stage.back.Back.TheVariants.{ToAccess, ToTarget, ToPlace, ToSnap, ToScanner}
use Rattle.record_access.specs.declared.field_access.FieldAccess.{FieldAccess}
use Rattle.record_access.specs.declared.mixed_access.MixedAccess.{MixedAccess}
use Rattle.record_access.specs.Access.{role_of, is_at_target, count_at, field_at, read_before}
use Rattle.gc_worker.specs.declared.stage.after.After.{After}
use Rattle.gc_worker.specs.declared.stage.after.After.TheVariants as afters
use Rattle.gc_worker.specs.declared.stage.goal.Goal.{Goal}
use Rattle.gc_worker.specs.declared.stage.goal.Goal.TheVariants.{ForFlip, ForSnap, ForScanner}
use Rattle.gc_worker.specs.declared.stage.write.Write.TheVariants.{OfAccess, OfPlace}
use Rattle.gc_worker.specs.declared.stage.Stage.{Stage}
use Rattle.gc_worker.specs.declared.stage.Stage.TheVariants.{Looks, Passes, Flips, Forwards, Accesses, Places, Serves, Scans, Evacuates, Opens, Recalls, Guards, Checkpoints, BeginsCheckpoint, Gone}
use Rattle.gc_worker.specs.Workers.Held.{Held, pages_needed}

-- ---- at the gate

-- a mutator that is about to make a passage
abbrev pub post_before : gate_passage.Passage → Post
post_before passages.Look = Running
post_before passages.Attach = Outside
post_before passages.Park = Running
post_before passages.Request = Running
post_before (passages.Resume epoch) = Stopped
post_before passages.Forwarded = Stopped
post_before passages.Leave = Running
post_before passages.Clear = Snapping

abbrev pub post_back : Back → Post
post_back (ToAccess a) = Running
post_back (ToTarget a) = Running
post_back ToPlace = Running
post_back ToSnap = Running
post_back ToScanner = workers.Scanner

abbrev pub post_for : Goal → Post
post_for ForFlip = Running
post_for ForSnap = Running
post_for ForScanner = workers.Scanner

-- a mutator that is gone, or a scanner
abbrev pub post_gone : (is_mutator : Bool) → Post
post_gone true = workers.Gone
post_gone false = workers.Scanner

abbrev pub post_in : Held → Stage → Post
post_in x Looks = Running
post_in x (Passes g after) = post_before g.passage
post_in x (Flips f) = Flipping f.asked
post_in x (Forwards w) = Stopped
post_in x (Accesses a) = Running
post_in x (Places p) = Running
post_in x (Serves d back) = post_back back
post_in x (Scans s back) = post_back back
post_in x (Evacuates v s back) = post_back back
post_in x (Opens o s back) = post_back back
post_in x (Recalls r after) = Running
post_in x (Guards g write) = Running
post_in x (Checkpoints r goal) = post_for goal
post_in x (BeginsCheckpoint s) = Snapping
post_in x Gone = post_gone (nat_lt x.number x.mutators)

-- what is requested: a checkpoint, or a flip
abbrev pub request_for : (asked : ℕ) → After → Passage
request_for asked afters.Snaps = RequestSnap
request_for asked after = Request asked

-- the passage, where it isn't a look
abbrev pub passage_in : (asked : ℕ) → After → gate_passage.Passage → Option Passage
passage_in asked after passages.Look = None
passage_in asked after passages.Attach = Some Enter
passage_in asked after passages.Park = Some Park
passage_in asked after passages.Request = Some (request_for asked after)
passage_in asked after (passages.Resume epoch) = Some Resume
passage_in asked after passages.Forwarded = Some Forwarded
passage_in asked after passages.Leave = Some Leave
passage_in asked after passages.Clear = Some Clear

abbrev pub step_from : Rattle.space_map.specs.declared.gate_word.GateWord.GateWord → Option Passage → Option GateStep
step_from read None = None
step_from read (Some passage) = Some (record { read = read; passage = passage })

abbrev pub gate_step_at : (asked : ℕ) → After → gate_passage.Passage → GateStage → Option GateStep
gate_step_at asked after passage (gate_stage.Exchanges read) = step_from read (passage_in asked after passage)
gate_step_at asked after passage gate_stage.Loads = None
gate_step_at asked after passage (gate_stage.Ended result) = None

abbrev pub gate_step_in : Held → Stage → Option GateStep
gate_step_in x (Passes g after) = gate_step_at (pages_needed x) after g.passage g.stage
gate_step_in x stage = None

-- the flip so far
abbrev pub reset_at : FlipStage → Option Reset
reset_at flip_stage.LoadsGate = None
reset_at (flip_stage.LoadsSize read) = Some (record { read = read; size = None; grown = None; used = None; sized = false; stored = false; cleared = false })
reset_at (flip_stage.LoadsArea read size) = Some (record { read = read; size = Some size; grown = None; used = None; sized = false; stored = false; cleared = false })
reset_at (flip_stage.StoresSize r) = Some (record { read = r.gate; size = Some r.size; grown = Some r.next; used = Some r.used; sized = false; stored = false; cleared = false })
reset_at (flip_stage.StoresArea r) = Some (record { read = r.gate; size = Some r.size; grown = Some r.next; used = Some r.used; sized = true; stored = false; cleared = false })
reset_at (flip_stage.ResetsWeak r) = Some (record { read = r.gate; size = Some r.size; grown = Some r.next; used = Some r.used; sized = true; stored = true; cleared = false })
reset_at (flip_stage.Exchanges r) = Some (record { read = r.gate; size = Some r.size; grown = Some r.next; used = Some r.used; sized = true; stored = true; cleared = true })
reset_at (flip_stage.Ended result) = None

abbrev pub reset_in : Stage → Option Reset
reset_in (Flips f) = reset_at f.stage
reset_in stage = None

-- ---- registers

abbrev pub done_before : gate_passage.Passage → ℕ
done_before passages.Forwarded = 8
done_before passages.Look = 0
done_before passages.Attach = 0
done_before passages.Park = 0
done_before passages.Request = 0
done_before (passages.Resume epoch) = 0
done_before passages.Leave = 0
done_before passages.Clear = 0

abbrev pub done_in : Stage → ℕ
done_in (Passes g after) = done_before g.passage
done_in (Forwards w) = w.register
done_in stage = 0

-- ---- the epoch: a round's is that of its gate, once it has left it

abbrev pub epoch_at : (own : ℕ) → duty.Round → DutyStage → ℕ
epoch_at own d duty_stage.LoadsGate = own
epoch_at own d stage = d.epoch

abbrev pub epoch_in : (own : ℕ) → Stage → ℕ
epoch_in own (Serves d back) = epoch_at own d d.stage
epoch_in own stage = own

-- ---- new records

abbrev pub stock_of : (epoch : ℕ) → Run → Stock
stock_of epoch run = record { epoch = epoch; at = run.at; end = run.end; zeroed = run.end; opened = run.end; ahead = [] }

abbrev pub own_stock : (epoch : ℕ) → Option Run → Option Stock
own_stock epoch None = None
own_stock epoch (Some run) = Some (stock_of epoch run)

-- pages claimed, of which the words before one are 0, or the pages before one are open
abbrev pub zeroed_to : Placing → NewPages → Stock
zeroed_to p new = record { epoch = p.epoch; at = new.first; end = new.first + words_for p.header; zeroed = new.next; opened = new.first; ahead = [] }

abbrev pub opened_to : Placing → NewPages → Stock
opened_to p new = record { epoch = p.epoch; at = new.first; end = new.first + words_for p.header; zeroed = new.first + words_for p.header; opened = first_word new.next; ahead = [] }

-- the kind of a record with this header, and if it is mixed with so many fields
abbrev pub kind_with : HeaderKind → (fields : ℕ) → Kind
kind_with headers.Fields fields = Fields
kind_with headers.Raw fields = Raw
kind_with headers.Mixed fields = Mixed fields
kind_with headers.Weak fields = Weak

-- a run in which all stands ahead of a record's header
abbrev pub counted_in : Placing → Stock
counted_in p = record (stock_of p.epoch p.run) { ahead = stored_ahead (kind_with p.header.kind p.fields) p.target }

-- one in which a cell's target stands there, and its link not yet
abbrev pub targeted_in : Placing → Stock
targeted_in p = record (stock_of p.epoch p.run) { ahead = p.target ∷ [] }

abbrev pub stock_at : Held → Placing → PlaceStage → Option Stock
stock_at x p place_stage.LoadsTraced = own_stock x.epoch x.run
stock_at x p (place_stage.LoadsSize traced) = own_stock x.epoch x.run
stock_at x p (place_stage.LoadsArea traced size) = own_stock x.epoch x.run
stock_at x p (place_stage.ExchangesArea f) = own_stock x.epoch x.run
stock_at x p (place_stage.StoresZero new) = Some (zeroed_to p new)
stock_at x p (place_stage.StoresNew new) = Some (opened_to p new)
stock_at x p (place_stage.OpensPage new) = Some (opened_to p new)
stock_at x p place_stage.StoresCount = Some (stock_of p.epoch p.run)
stock_at x p place_stage.StoresTarget = Some (stock_of p.epoch p.run)
stock_at x p place_stage.StoresLink = Some (targeted_in p)
stock_at x p place_stage.StoresHeader = Some (counted_in p)
stock_at x p (place_stage.Ended result) = own_stock x.epoch x.run

abbrev pub stock_in : Held → Stage → Option Stock
stock_in x (Places p) = stock_at x p p.stage
stock_in x (Guards g (OfPlace p)) = stock_at x p p.stage
stock_in x stage = own_stock x.epoch x.run

-- TRACED was read as that of this epoch
abbrev pub traced_at : PlaceStage → Bool
traced_at (place_stage.LoadsSize traced) = traced
traced_at (place_stage.LoadsArea traced size) = traced
traced_at (place_stage.ExchangesArea f) = f.traced
traced_at stage = false

abbrev pub traced_before : gate_passage.Passage → Bool
traced_before passages.Request = true
traced_before passages.Clear = true
traced_before passage = false

-- who is to request anything has seen its epoch traced
abbrev pub traced_for : Goal → Bool
traced_for ForFlip = true
traced_for ForSnap = true
traced_for ForScanner = false

abbrev pub traced_seen_in : Stage → Bool
traced_seen_in (Passes g after) = traced_before g.passage
traced_seen_in (Flips f) = true
traced_seen_in (Accesses a) = is_at_target a.stage
traced_seen_in (Places p) = traced_at p.stage
traced_seen_in (Checkpoints r goal) = traced_for goal
traced_seen_in (BeginsCheckpoint s) = true
traced_seen_in stage = false

-- SIZE as an allocation has read it
abbrev pub size_at : PlaceStage → Option ℕ
size_at (place_stage.LoadsArea traced size) = Some size
size_at stage = None

abbrev pub size_seen_in : Stage → Option ℕ
size_seen_in (Places p) = size_at p.stage
size_seen_in stage = None

-- ---- accesses

abbrev pub known_access : FieldAccess → Access
known_access f = record { at = f.at; first = f.first; word = f.word; role = role_of f.role }

-- before the count is read it is an access to the value's own word already
abbrev pub uncounted_access : MixedAccess → Access
uncounted_access m = record { at = m.at; first = 2; word = m.value + 2; role = UnknownRole }

abbrev pub access_at : AccessStage → Option Access
access_at (LooksAtCount m) = Some (uncounted_access m)
access_at (LoadsCount m) = Some (uncounted_access m)
access_at (LooksAtField f usage) = Some (known_access f)
access_at (LoadsField f into) = Some (known_access f)
access_at (StoresField f new) = Some (known_access f)
access_at (LoadsForCas f e) = Some (known_access f)
access_at (ExchangesField f e old) = Some (known_access f)
access_at stage = None

-- the page found open: the header's, then the count's and the field's; or the board's
abbrev pub opened_at : Layout → AccessStage → Option ℕ
opened_at l (LoadsHeader r) = Some (page_of r.at)
opened_at l (LooksAtCount m) = Some (page_of m.at)
opened_at l (LoadsCount m) = Some (page_of (count_at m))
opened_at l (LooksAtField f usage) = Some (page_of (read_before f))
opened_at l (LoadsField f into) = Some (page_of (field_at f))
opened_at l (StoresField f new) = Some (page_of (field_at f))
opened_at l (LoadsForCas f e) = Some (page_of (field_at f))
opened_at l (ExchangesField f e old) = Some (page_of (field_at f))
opened_at l (LoadsBoard word into) = Some (board_page l.pages)
opened_at l (StoresBoard word new) = Some (board_page l.pages)
opened_at l (LoadsForSwap s) = Some (board_page l.pages)
opened_at l (SwapsBoard s old) = Some (board_page l.pages)
opened_at l (LooksAtRecord r) = None
opened_at l (LooksAtBoard b) = None

abbrev pub access_back : Back → Option Access
access_back (ToAccess a) = access_at a.stage
access_back (ToTarget a) = access_at a.stage
access_back ToPlace = None
access_back ToSnap = None
access_back ToScanner = None

abbrev pub access_in : Stage → Option Access
access_in (Accesses a) = access_at a.stage
access_in (Guards g (OfAccess a)) = access_at a.stage
access_in (Serves d back) = access_back back
access_in (Scans s back) = access_back back
access_in (Evacuates v s back) = access_back back
access_in (Opens o s back) = access_back back
access_in stage = None

abbrev pub opened_back : Layout → Back → Option ℕ
opened_back l (ToAccess a) = opened_at l a.stage
opened_back l (ToTarget a) = opened_at l a.stage
opened_back l ToPlace = None
opened_back l ToSnap = None
opened_back l ToScanner = None

abbrev pub opened_in : Layout → Stage → Option ℕ
opened_in l (Accesses a) = opened_at l a.stage
opened_in l (Guards g (OfAccess a)) = opened_at l a.stage
opened_in l (Serves d back) = opened_back l back
opened_in l (Scans s back) = opened_back l back
opened_in l (Evacuates v s back) = opened_back l back
opened_in l (Opens o s back) = opened_back l back
opened_in l stage = None

-- ---- copies

-- the copy's place, once the worker has found it
abbrev pub found_in : EvacStage → Option ℕ
found_in (evac_stage.LoadsWeak to) = Some to
found_in (evac_stage.StoresLink to word) = Some to
found_in (evac_stage.TakesWeak to word) = Some to
found_in (evac_stage.Clears to) = Some to
found_in (evac_stage.Ended to) = Some to
found_in stage = None

-- a copy whose place was read as FRONT, and is announced or not
abbrev pub placing : (addr to : ℕ) → KeptHeader → (announced : Bool) → Copy
placing addr to kept announced = record (begun kept.word addr (evac.size_of kept)) { to = to; aimed = true; announced = announced }

-- a copy that is reserved, of which so many words are stored, and the next one is loaded or not
abbrev pub moving : (addr : ℕ) → Reserved → (done : ℕ) → Option ℕ → (crossed : ℕ) → Copy
moving addr r done word crossed = record {
  header = r.kept.word;
  from = addr;
  to = r.to;
  size = evac.size_of r.kept;
  done = done;
  word = word;
  aimed = true;
  announced = true;
  reserved = true;
  crossed = crossed;
}

-- the first page that begins behind a copy
abbrev pub page_past : Reserved → ℕ
page_past r = (r.to + evac.size_of r.kept + (PAGE_WORDS - 1)) / PAGE_WORDS

abbrev pub copy_at : Layout → (addr epoch : ℕ) → EvacStage → Option Copy
copy_at l a e evac_stage.LoadsHeader = None
copy_at l a e (evac_stage.TakesHeader kept) = None
copy_at l a e (evac_stage.LoadsArea kept) = Some (begun kept.word a (evac.size_of kept))
copy_at l a e (evac_stage.Announces kept area) = Some (placing a (evac.front_of l e area) kept false)
copy_at l a e (evac_stage.Reserves kept area) = Some (placing a (evac.front_of l e area) kept true)
copy_at l a e (evac_stage.StoresHeader r) = Some (moving a r 0 None (first_page r))
copy_at l a e (evac_stage.LoadsWord r i) = Some (moving a r i None (first_page r))
copy_at l a e (evac_stage.StoresWord r w) = Some (moving a r w.number (Some w.word) (first_page r))
copy_at l a e (evac_stage.StoresCross r page) = Some (moving a r (evac.size_of r.kept) None page)
copy_at l a e (evac_stage.StoresForward r) = Some (moving a r (evac.size_of r.kept) None (page_past r))
copy_at l a e (evac_stage.LoadsWeak to) = None
copy_at l a e (evac_stage.StoresLink to word) = None
copy_at l a e (evac_stage.TakesWeak to word) = None
copy_at l a e (evac_stage.Clears to) = None
copy_at l a e (evac_stage.Ended to) = None

abbrev pub copy_of : evac.Evacuation → Option Copy
copy_of v = copy_at v.layout v.addr v.epoch v.stage

abbrev pub copy_in : Stage → Option Copy
copy_in (Forwards w) = copy_of w.evac
copy_in (Evacuates v s back) = copy_of v
copy_in stage = None

-- the cell that it has copied and not linked yet, with what it has read of WEAK
abbrev pub linking_at : EvacStage → Option Linking
linking_at (evac_stage.LoadsWeak to) = Some (record { cell = to; read = None; stored = false })
linking_at (evac_stage.StoresLink to word) = Some (record { cell = to; read = Some word; stored = false })
linking_at (evac_stage.TakesWeak to word) = Some (record { cell = to; read = Some word; stored = true })
linking_at stage = None

abbrev pub linking_in : Stage → Option Linking
linking_in (Forwards w) = linking_at w.evac.stage
linking_in (Evacuates v s back) = linking_at v.stage
linking_in stage = None

abbrev pub quest_for : Origin → evac.Evacuation → Quest
quest_for origin v = record { old = v.addr; origin = origin; found = found_in v.stage }

-- ---- scans

abbrev pub seen_record : ScannedRecord → SeenRecord
seen_record r = record { at = r.at; fields_end = r.fields_end; next = r.next }

abbrev pub current_at : Spot → Option SeenRecord
current_at (OnBoard x) = None
current_at (InRecord r x) = Some (seen_record r)

abbrev pub seen_header : HeadedRecord → SeenHeader
seen_header h = record { at = h.at; size = h.size }

abbrev pub scan_with : scan.Scanning → (cursor : ℕ) (over : Option ℕ) (current : Option SeenRecord) (inner ended : Bool) → Scan
scan_with s cursor over current inner ended = record {
  page = s.page;
  cursor = cursor;
  in_place = s.in_place;
  over = over;
  headed = None;
  current = current;
  inner = inner;
  ended = ended;
}

-- at a word of the board, or at a field
abbrev pub scan_at : scan.Scanning → Spot → Scan
scan_at s spot = scan_with s (scan.address_of spot) None (current_at spot) false false

abbrev pub scan_of : scan.Scanning → ScanStage → Scan
scan_of s scan_stage.LoadsCross = scan_with s (first_word s.page) None None false false
scan_of s (scan_stage.LoadsFirst at) = scan_with s (first_word s.page) (Some at) None false false
scan_of s (scan_stage.LoadsCount h) = record (scan_with s (max h.at (first_word s.page)) None None false false) { headed = Some (seen_header h) }
scan_of s (scan_stage.LoadsWord spot) = scan_at s spot
scan_of s (scan_stage.Asks asked) = scan_at s asked.spot
scan_of s (scan_stage.StoresCopy asked to) = scan_at s asked.spot
scan_of s (scan_stage.LoadsFront r) = scan_with s r.next None (Some (seen_record r)) false false
scan_of s (scan_stage.LoadsNext r) = scan_with s r.next None (Some (seen_record r)) s.in_place false
scan_of s (scan_stage.Ended ending) = scan_with s ending.cursor None None false true

abbrev pub scan_in : Stage → Option Scan
scan_in (Scans s back) = Some (scan_of s s.stage)
scan_in (Evacuates v s back) = Some (scan_of s s.stage)
scan_in (Opens o s back) = Some (scan_of s s.stage)
scan_in stage = None

-- what a scan asks for: the word at the cursor led there, and the copy is found
abbrev pub quest_at : ScanStage → Option Quest
quest_at (scan_stage.StoresCopy asked to) = Some (record { old = asked.old; origin = Scanned (scan.address_of asked.spot); found = Some to })
quest_at stage = None

-- where a scan that asks stands
abbrev pub cursor_asked : ScanStage → ℕ
cursor_asked (scan_stage.Asks asked) = scan.address_of asked.spot
cursor_asked stage = 0

abbrev pub quest_in : Stage → Option Quest
quest_in (Forwards w) = Some (quest_for (Register w.register) w.evac)
quest_in (Evacuates v s back) = Some (quest_for (Scanned (cursor_asked s.stage)) v)
quest_in (Scans s back) = quest_at s.stage
quest_in stage = None

-- ---- rounds of the duty

abbrev pub round_at : DutyStage → Option Round
round_at (duty_stage.LoadsWanted seen page) = Some (record { traced = seen.traced; front = None })
round_at (duty_stage.LoadsFrontFor seen w) = Some (record { traced = seen.traced; front = None })
round_at (duty_stage.LoadsFront seen) = Some (record { traced = seen.traced; front = None })
round_at (duty_stage.LoadsPage choice page) = Some (record { traced = choice.seen.traced; front = Some choice.front })
round_at (duty_stage.EndGate traced) = Some (record { traced = traced; front = None })
round_at stage = None

-- a claim of the board, or of the filling page, asks for no looks at announced places
abbrev pub looks_not : Claiming → Bool
looks_not c = c.in_place || (c.page == board_page c.layout.pages)

abbrev pub looked_all : Claiming → ℕ
looked_all c = if looks_not c then 0 else LAST_WORKER + 1

abbrev pub claim_with : Claiming → (looked : ℕ) (sure : Bool) → Claim
claim_with c looked sure = record { page = c.page; old = c.found; in_place = c.in_place; looked = looked; sure = sure }

abbrev pub claim_at : Claiming → ClaimStage → Option Claim
claim_at c (claim_stage.LooksAtPlace k) = Some (claim_with c k false)
claim_at c claim_stage.LooksAtGate = Some (claim_with c (looked_all c) false)
claim_at c claim_stage.Exchanges = Some (claim_with c (looked_all c) true)
claim_at c (claim_stage.Ended result) = None

abbrev pub claim_by : DutyStage → Option Claim
claim_by (duty_stage.Claims c) = claim_at c c.stage
claim_by stage = None

-- the pages found open before this one: the first one of the space is looked at after the board
abbrev pub upto_before : duty.Round → (page : ℕ) → ℕ
upto_before d page = if (page == board_page d.layout.pages) || (page == duty.to_page d) then 0 else page

-- the pages found open, where all full ones are
abbrev pub upto_all : duty.Round → (front : ℕ) → ℕ
upto_all d front = if nat_lt front (duty.to_start d + PAGE_WORDS) then 0 else page_of front

abbrev pub look_with : duty.Round → (traced front : ℕ) (board : Bool) (upto : ℕ) (filled : Bool) → Look
look_with d traced front board upto filled = record {
  traced = traced;
  start = duty.to_start d;
  front = front;
  board = board;
  upto = upto;
  filled = filled;
}

-- a page is not the board
abbrev pub is_past_board : duty.Round → (page : ℕ) → Bool
is_past_board d page = if page == board_page d.layout.pages then false else true

abbrev pub is_open_state : PageState → Bool
is_open_state page_state.Opened = true
is_open_state page_state.Scanned = false
is_open_state page_state.Waits = false
is_open_state page_state.Past = false

abbrev pub look_at : duty.Round → DutyStage → Option Look
look_at d (duty_stage.EndArea traced) = Some (look_with d traced (duty.to_start d) false 0 false)
look_at d (duty_stage.EndPage l page) = Some (look_with d l.traced l.front (is_past_board d page) (upto_before d page) false)
look_at d (duty_stage.EndFilling l) = Some (look_with d l.traced l.front true (upto_all d l.front) false)
look_at d (duty_stage.EndAreaAgain l filling) =
    Some (look_with d l.traced l.front true (upto_all d l.front) (is_open_state (duty.state_of filling d.epoch)))
look_at d stage = None

abbrev pub last_look_at : DutyStage → Option LastLook
last_look_at (duty_stage.Walks traced walk) = Some (record { traced = traced })
last_look_at (duty_stage.Traces traced) = Some (record { traced = traced })
last_look_at stage = None

-- a cell that a walk has come to, of which nothing is known yet
abbrev pub visited : LinkedCell → Visit
visited cell = visit cell.at cell.most

-- how far the walk over the chain of copied cells is, from the turn on
abbrev pub pass_of : WalkStage → Option Pass
pass_of walk_stage.LoadsTurn = None
pass_of (walk_stage.TakesTurn turn) = None
pass_of walk_stage.LoadsWeak = Some Begins
pass_of (walk_stage.LoadsTarget cell) = Some (At (visited cell))
pass_of (walk_stage.LoadsTargetHeader cell old) = Some (At (record (visited cell) { old = Some old }))
pass_of (walk_stage.StoresTarget cell word) = Some (At (replacing (visited cell) word))
pass_of (walk_stage.LoadsLink cell) = Some (At (passed (visited cell)))
pass_of (walk_stage.Ended Passed) = Some Done
pass_of (walk_stage.Ended (Another word)) = None

abbrev pub pass_at : DutyStage → Option Pass
pass_at (duty_stage.Walks traced walk) = pass_of walk.stage
pass_at (duty_stage.Traces traced) = Some Done
pass_at stage = None

abbrev pub round_in : Stage → Option Round
round_in (Serves d back) = round_at d.stage
round_in stage = None

abbrev pub claim_in : Stage → Option Claim
claim_in (Serves d back) = claim_by d.stage
claim_in stage = None

abbrev pub look_in : Stage → Option Look
look_in (Serves d back) = look_at d d.stage
look_in stage = None

abbrev pub last_look_in : Stage → Option LastLook
last_look_in (Serves d back) = last_look_at d.stage
last_look_in stage = None

abbrev pub pass_in : Stage → Option Pass
pass_in (Serves d back) = pass_at d.stage
pass_in stage = None

-- ---- the whole

-- what its number, account, registers and run are, at a stage
abbrev pub known_at : Held → Stage → Known
known_at x stage = record {
  post = post_in x stage;
  epoch = epoch_in x.epoch stage;
  account = x.account;
  registers = λ r. slice_index x.registers r;
  done = done_in stage;
  stock = stock_in x stage;
  access = access_in stage;
  opened = opened_in x.layout stage;
  quest = quest_in stage;
  copy = copy_in stage;
  scan = scan_in stage;
  round = round_in stage;
  claim = claim_in stage;
  look = look_in stage;
  last_look = last_look_in stage;
  linking = linking_in stage;
  pass = pass_in stage;
  traced_seen = traced_seen_in stage;
  size_seen = size_seen_in stage;
  gate_step = gate_step_in x stage;
  reset = reset_in stage;
}

abbrev pub knows : Held → Known
knows x = known_at x x.stage
