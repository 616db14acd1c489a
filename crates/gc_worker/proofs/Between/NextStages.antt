-- From most machines a worker goes on to a stage at which it is there, and neither flips nor asks for a flip.
use Rattle.std.proofs.Common.{◌≡◌, ◌+◌, ◌-◌, Bool, true, false, cond, Option, Some, None, Result, Ok, Err, sym, subst}
use Rattle.std.specs.Prelude.{⊤}
use Rattle.plain_state.specs.declared.end.End.{End}
use Rattle.record_layout.specs.declared.header.Header.{Header}
use Rattle.atom_store.specs.declared.reply.Reply.{Reply}
use Rattle.atom_store.specs.declared.reply.Reply.TheVariants as replies
use Rattle.atom_store.specs.declared.turn.Turn.{Turn}
use Rattle.atom_store.specs.declared.turn.Turn.TheVariants.{More, Finished}
use Rattle.space_map.specs.declared.gate_word.GateWord.{GateWord}
use Rattle.space_map.specs.GateWord.{decode_gate}
use Rattle.alloc_end.specs.Place as place
use Rattle.forwarding.specs.declared.to.To.{To}
use Rattle.forwarding.specs.Evacuation as evac
use Rattle.forwarding.specs.Taken as evac_taken
use Rattle.gate_core.specs.declared.passage.Passage.{Passage}
use Rattle.gate_core.specs.declared.passage.Passage.TheVariants.{Park, Request}
use Rattle.gate_core.specs.declared.recall.recalled.Recalled.{Recalled}
use Rattle.gate_core.specs.declared.snap.snapped.Snapped.{Snapped}
use Rattle.gate_core.specs.declared.snap.snapped.Snapped.TheVariants as snapped
use Rattle.gate_core.specs.Recall as recall
use Rattle.gate_core.specs.Snap as snap
use Rattle.page_saves.specs.declared.may_write.MayWrite.{MayWrite}
use Rattle.page_saves.specs.Guard as guard
use Rattle.page_scan.specs.declared.scanned.Scanned.{Scanned}
use Rattle.page_scan.specs.declared.scanned.Scanned.TheVariants as scanned
use Rattle.page_scan.specs.Scanning as scan
use Rattle.page_scan.specs.Taken as scan_taken
use Rattle.page_slots.specs.declared.opened.Opened.{Opened}
use Rattle.page_slots.specs.Open as open_page
use Rattle.plain_heap.specs.declared.action.Action.{Action}
use Rattle.plain_heap.specs.declared.action.Action.TheVariants.{Makes, Snaps}
use Rattle.plain_heap.specs.Action.{action}
use Rattle.record_access.specs.declared.access.Access.{Access}
use Rattle.record_access.specs.declared.accessed.Accessed.{Accessed}
use Rattle.record_access.specs.declared.accessed.Accessed.TheVariants.{Faults}
use Rattle.record_access.specs.Access as access
use Rattle.gc_worker.specs.declared.stage.after.After.{After}
use Rattle.gc_worker.specs.declared.stage.after.After.TheVariants as afters
use Rattle.gc_worker.specs.declared.stage.back.Back.{Back}
use Rattle.gc_worker.specs.declared.stage.back.Back.TheVariants.{ToPlace, ToScanner}
use Rattle.gc_worker.specs.declared.stage.goal.Goal.TheVariants.{ForFlip, ForScanner}
use Rattle.gc_worker.specs.declared.stage.write.Write.{Write}
use Rattle.gc_worker.specs.declared.stage.write.Write.TheVariants.{OfAccess, OfPlace}
use Rattle.gc_worker.specs.declared.stage.forwarding_register.ForwardingRegister.{ForwardingRegister}
use Rattle.gc_worker.specs.declared.stage.Stage.{Stage}
use Rattle.gc_worker.specs.declared.stage.Stage.TheVariants.{Looks, Passes, Flips, Forwards, Accesses, Places, Serves, Scans, Evacuates, Opens, Recalls, Guards, Checkpoints, BeginsCheckpoint, Gone}
use Rattle.gc_worker.specs.declared.task.Task.{Task}
use Rattle.gc_worker.specs.declared.task.Task.TheVariants.{Calls, Stops}
use Rattle.gc_worker.specs.Steps.Turned.{Pointed, acted, acts, begins, checkpoints, first_pointer, forwards_it, goes_back, goes_on, guards_place, looked_by, passes, places, recalled, runs_on, serves_snap, started, traced_by, turned_access, turned_at, turned_copy, turned_guard, turned_look, turned_opening, turned_recall, turned_register, turned_scan, turned_snap, went_on, with_copy, with_evac, writes}
use Rattle.gc_worker.specs.Workers.Held.{Held, at_stage, header_for, may_snap}
use Rattle.gc_worker.specs.Plain.Seen.{seen}
use Rattle.gc_worker.proofs.MachineEnds.Each.{either_so, goes_on_so, guards_so, places_so}

abbrev pub IsNoRequest : Passage → Type 0
IsNoRequest Request = ⊥
IsNoRequest passage = ⊤

-- a stage at which a worker is there, and neither flips, nor asks for a flip or waits for a checkpoint to ask for one
abbrev pub AsksNothing : Stage → Type 0
AsksNothing (Passes g after) = IsNoRequest g.passage
AsksNothing (Flips f) = ⊥
AsksNothing (Checkpoints r ForFlip) = ⊥
AsksNothing Gone = ⊥
AsksNothing stage = ⊤

-- ---- where a worker goes on

pub placing : (y : Held) (o : Option Header) → AsksNothing (places y o)
placing y o = places_so AsksNothing y (λ p. tt) (λ g write. tt) o tt

pub placing_on : (y : Held) (p : place.Placing) → AsksNothing (guards_place y p)
placing_on y p = guards_so AsksNothing y (OfPlace p) (place.writes_on p p.stage) (Places p) tt (λ g. tt)

pub going_on : (y : Held) (after : After) → AsksNothing (goes_on y after)
going_on y after = goes_on_so AsksNothing y (λ p. tt) (λ g write. tt) after tt tt

pub running_on : (y : Held) (after : After) → AsksNothing (runs_on y after)
running_on y after = either_so AsksNothing y.layout.checkpoints (Recalls (recall.begun y.layout) after) (goes_on y after) tt (going_on y after)

pub going_back : (y : Held) (back : Back) → AsksNothing (goes_back y back)
going_back y ToPlace = placing y (header_for y)
going_back y _ = tt

pub tracing : (y : Held) (back : Back) → AsksNothing (traced_by y back).stage
tracing y ToPlace = placing y (header_for y)
tracing y ToScanner = either_so AsksNothing y.layout.checkpoints (checkpoints y ForScanner) (goes_back y ToScanner) tt tt
tracing y _ = tt

pub forwarding : (y : Held) (after : After) (o : Option Pointed) → AsksNothing (forwards_it y after o)
forwarding y after (Some p) = tt
forwarding y after None = tt

writing : (write : Write) → AsksNothing (writes write)
writing (OfAccess a) = tt
writing (OfPlace p) = tt

module _ (x : Held) where
  -- ---- a look

  either_held : (b : Bool) (y z : Held) → AsksNothing y.stage → AsksNothing z.stage → AsksNothing (cond b y z).stage
  either_held true y z is other = is
  either_held false y z is other = other

  by_action : (act : Action) → AsksNothing (acts x act).stage
  by_action Snaps = either_held (may_snap x) (at_stage x (serves_snap x)) (went_on x) tt tt
  by_action (Makes kind d n v) = placing x (header_for x)
  by_action _ = tt

  by_result : (r : Result Action End) → AsksNothing (acted x r).stage
  by_result (Ok act) = by_action act
  by_result (Err why) = tt

  -- ---- copies, accesses and scans

  registers : (w : ForwardingRegister) (turn : Turn To) → AsksNothing (turned_register x w turn).stage
  registers w More = tt
  registers w (Finished to) = let y = with_copy x w.register to.0 in forwarding y w.after (first_pointer y.registers (8 - (w.register + 1)) (w.register + 1))

  accessing : (a : Access) (turn : Turn Accessed) → AsksNothing (turned_access x a turn).stage
  accessing a More = guards_so AsksNothing x (OfAccess a) (access.writes_on a.spaces a.stage) (Accesses a) tt (λ g. tt)
  accessing a (Finished (Faults _)) = tt
  accessing a (Finished _) = tt

  scanning : (s : scan.Scanning) (back : Back) (turn : Turn Scanned) → AsksNothing (turned_scan x s back turn).stage
  scanning s back More = tt
  scanning s back (Finished (scanned.Ask old)) = tt
  scanning s back (Finished (scanned.Ended at_front)) = tt

  copying : (v : evac.Evacuation) (s : scan.Scanning) (back : Back) (turn : Turn To) → AsksNothing (turned_copy x v s back turn).stage
  copying v s back More = tt
  copying v s back (Finished to) = tt

  opening : (o : open_page.Opening) (s : scan.Scanning) (back : Back) (turn : Turn Opened) → AsksNothing (turned_opening x o s back turn).stage
  opening o s back More = tt
  opening o s back (Finished opened) = going_back x back

  -- ---- checkpoints

  recalling : (r : recall.Recalling) (after : After) (turn : Turn Recalled) → AsksNothing (turned_recall x r after turn).stage
  recalling r after More = tt
  recalling r after (Finished result) = going_on (recalled x result) after

  looking : (g : guard.Guarding) (write : Write) (turn : Turn MayWrite) → AsksNothing (turned_guard x g write turn).stage
  looking g write More = tt
  looking g write (Finished result) = writing write

  beginning : (s : snap.Snapping) (turn : Turn Snapped) → AsksNothing (turned_snap x s turn).stage
  beginning s More = tt
  beginning s (Finished (snapped.Begun seen)) = tt
  beginning s (Finished (snapped.NotYet word)) = tt

starting : (x : Held) (task : Option Task) → AsksNothing (started x task).stage
starting x None = tt
starting x (Some (Calls instr)) = by_result (begins x) (action (seen x.account x.registers) instr)
starting x (Some (Stops why)) = tt

module _ (x : Held) (own : AsksNothing x.stage) where
  by_gate : (o : Option GateWord) → AsksNothing (looked_by x o).stage
  by_gate (Some read) = either_held x read.request (at_stage x (passes x Park afters.Looks)) (started x x.task) tt (starting x x.task)
  by_gate None = own

  by_look : (reply : Reply) → AsksNothing (turned_look x reply).stage
  by_look (replies.Value word) = by_gate (decode_gate word)
  by_look _ = own

-- ---- each such machine

-- no passage or flip, no allocation, and no round
abbrev pub NeverAsks : Stage → Type 0
NeverAsks (Passes g after) = ⊥
NeverAsks (Flips f) = ⊥
NeverAsks (Places p) = ⊥
NeverAsks (Serves d back) = ⊥
NeverAsks (Checkpoints r goal) = ⊥
NeverAsks Gone = ⊥
NeverAsks stage = ⊤

pub asks_nothing : (x : Held) (reply : Reply) (stage : Stage) → NeverAsks stage → x.stage ≡ stage → AsksNothing (turned_at x stage reply).stage
asks_nothing x reply Looks never e = by_look x (subst AsksNothing (sym e) tt) reply
asks_nothing x reply (Forwards w) never e = registers x (with_evac w (evac_taken.taken w.evac reply)) (evac_taken.told (evac_taken.taken w.evac reply).stage)
asks_nothing x reply (Accesses a) never e = accessing x (access.taken a reply) (access.told a reply)
asks_nothing x reply (Scans s back) never e = scanning x (scan_taken.taken s reply) back (scan_taken.told (scan_taken.taken s reply).stage)
asks_nothing x reply (Evacuates v s back) never e = copying x (evac_taken.taken v reply) s back (evac_taken.told (evac_taken.taken v reply).stage)
asks_nothing x reply (Opens o s back) never e = opening x (open_page.taken o reply) s back (open_page.told (open_page.taken o reply))
asks_nothing x reply (Recalls r after) never e = recalling x (recall.taken r reply) after (recall.told (recall.taken r reply))
asks_nothing x reply (Guards g write) never e = looking x (guard.taken g reply) write (guard.told (guard.taken g reply))
asks_nothing x reply (BeginsCheckpoint s) never e = beginning x (snap.taken s reply) (snap.told (snap.taken s reply))
asks_nothing x reply _ never e = absurd never
