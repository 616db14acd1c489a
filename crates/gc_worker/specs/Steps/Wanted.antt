-- The next step of a worker.
use Rattle.std.specs.Prelude.{Option, Some, None}
use Rattle.atom_store.specs.declared.step.Step.{Step}
use Rattle.atom_store.specs.declared.step.Step.TheVariants.{Load}
use Rattle.space_map.specs.Table.{Gate, place_of}
use Rattle.alloc_end.specs.Place as place
use Rattle.fault_duty.specs.Duty as duty
use Rattle.forwarding.specs.Evacuation as evac
use Rattle.gate_core.specs.Gate as gate
use Rattle.gate_core.specs.Flip as flip
use Rattle.gate_core.specs.Recall as recall
use Rattle.gate_core.specs.Snap as snap
use Rattle.page_saves.specs.Guard as guard
use Rattle.page_saves.specs.SaveRound as save_round
use Rattle.page_scan.specs.Scanning as scan
use Rattle.page_slots.specs.Open as open_page
use Rattle.gc_worker.specs.declared.stage.Stage.{Stage}
use Rattle.gc_worker.specs.declared.stage.Stage.TheVariants.{Looks, Passes, Flips, Forwards, Accesses, Places, Serves, Scans, Evacuates, Opens, Recalls, Guards, Checkpoints, BeginsCheckpoint, Gone}
use Rattle.record_access.specs.Access as access
use Rattle.gc_worker.specs.Workers.Held.{Held}

abbrev pub wanted_at : Held → Stage → Option Step
wanted_at x Looks = Some (Load (place_of x.layout.pages Gate))
wanted_at x (Passes g after) = gate.wanted g
wanted_at x (Flips f) = flip.wanted f
wanted_at x (Forwards w) = evac.wanted w.evac
wanted_at x (Accesses a) = Some (access.wanted a)
wanted_at x (Places p) = place.wanted p
wanted_at x (Serves d back) = duty.wanted d
wanted_at x (Scans s back) = scan.wanted s
wanted_at x (Evacuates v s back) = evac.wanted v
wanted_at x (Opens o s back) = open_page.wanted o
wanted_at x (Recalls r after) = recall.wanted r
wanted_at x (Guards g write) = guard.wanted g
wanted_at x (Checkpoints r goal) = save_round.wanted r
wanted_at x (BeginsCheckpoint s) = snap.wanted s
wanted_at x Gone = None

-- the next step; a worker that is gone has none
abbrev pub wanted : Held → Option Step
wanted x = wanted_at x x.stage
