-- What a step has brought after which the same machine is at work: less is left of it, but for an exchange that was lost, a header that
-- another worker keeps, a page that another worker is saving, a round that is over, and a worker that waits for others. A look after
-- which the mutator looks again had nothing to do, or has done it.
use Rattle.std.specs.Prelude.{◌≡◌, ◌≢◌, ℕ, ◌<◌, length, Some, None}
use Rattle.plain_state.specs.State.{Plain}
use Rattle.atom_store.specs.declared.reply.Reply.TheVariants.{Lost}
use Rattle.atom_store.specs.declared.step.Step.{Step}
use Rattle.atom_store.specs.declared.step.Step.TheVariants.{Load}
use Rattle.atom_store.specs.Step.{reply_of}
use Rattle.heap_words.specs.Decoded.{BusyWord, decode}
use Rattle.space_map.specs.declared.save_word.SaveWord.TheVariants.{Saving}
use Rattle.space_map.specs.SaveWord.{decode_save}
use Rattle.space_map.specs.Table.{HeapWord, SaveOf, place_of, save_place_of}
use Rattle.heap_state.specs.Saving.Words.{save_word_in}
use Rattle.alloc_end.specs.Place as place
use Rattle.fault_duty.specs.Duty as duty
use Rattle.forwarding.specs.Left as evac_left
use Rattle.gate_core.specs.Flip as flip
use Rattle.gate_core.specs.Gate as gate
use Rattle.gate_core.specs.Recall as recall
use Rattle.gate_core.specs.Snap as snap
use Rattle.page_saves.specs.Guard as guard
use Rattle.page_saves.specs.SaveRound as save_round
use Rattle.heap_state.specs.Memory.Table.{word_in}
use Rattle.page_scan.specs.Left as scan_left
use Rattle.page_slots.specs.Open as open_page
use Rattle.record_access.specs.Access as access
use Rattle.gc_worker.specs.Workers.Held.{Held}
use Rattle.gc_worker.specs.Laws.MachineEnds.{IsRoundOver, IsSameMachine, IsWaiting}
use Rattle.gc_worker.specs.Laws.Step.{Heap, WorkersStand, held_at}
use Rattle.gc_worker.specs.Steps.Turned.{Answers, told, turned}
use Rattle.gc_worker.specs.Steps.Wanted.{wanted}
use Rattle.gc_worker.specs.declared.calls.did.Did.TheVariants.{Done}
use Rattle.gc_worker.specs.declared.stage.Stage.{Stage}
use Rattle.gc_worker.specs.declared.stage.Stage.TheVariants.{Looks, Passes, Flips, Forwards, Accesses, Places, Serves, Scans, Evacuates, Opens, Recalls, Guards, Checkpoints, BeginsCheckpoint, Gone}
use Rattle.gc_worker.specs.declared.task.Task.{Task}

-- so many steps are left of the machine at work at a stage, as the machine itself counts them
abbrev pub left_at : Stage → ℕ
left_at Looks = 0
left_at (Passes g after) = gate.left g
left_at (Flips f) = flip.left f
left_at (Forwards w) = evac_left.left w.evac
left_at (Accesses a) = access.left a
left_at (Places p) = place.left p
left_at (Serves d back) = duty.left d
left_at (Scans s back) = scan_left.left s
left_at (Evacuates v s back) = evac_left.left v
left_at (Opens o s back) = open_page.left o
left_at (Recalls r after) = recall.left r
left_at (Guards g write) = guard.left g
left_at (Checkpoints r goal) = save_round.left r
left_at (BeginsCheckpoint s) = snap.left s
left_at Gone = 0

-- the step of worker k loads the first word of a record whose header another worker keeps
pub record ReadsAnothers (h : Heap) (k : ℕ) (q : Step) : Type 0 where
  pub at : ℕ
  pub loads : q ≡ Load (place_of h.pages (HeapWord at))
  pub len : ℕ
  pub worker : ℕ
  pub busy : decode (word_in h.pages h.words (HeapWord at)) ≡ BusyWord len worker
  pub other : worker ≢ k

-- the step of worker k loads what is said of a page that another worker is saving
pub record ReadsSaving (h : Heap) (k : ℕ) (q : Step) : Type 0 where
  pub page : ℕ
  pub loads : q ≡ Load (save_place_of h.pages (SaveOf page))
  pub number : ℕ
  pub worker : ℕ
  pub saving : decode_save (save_word_in h.pages h.words (SaveOf page)) ≡ Some (Saving number worker)
  pub other : worker ≢ k

-- what a step of worker k, which holds x, has brought
pub data Progress (h : Heap) (k : ℕ) (x : Held) (q : Step) : Type 0 where
  LessIsLeft : left_at (turned x (reply_of q h.words)).stage < left_at x.stage → Progress h k x q
  ExchangeWasLost : (word : ℕ) → reply_of q h.words ≡ Lost word → Progress h k x q
  AnotherCopies : ReadsAnothers h k q → Progress h k x q
  AnotherSaves : ReadsSaving h k q → Progress h k x q
  RoundIsOver : IsRoundOver x.stage (reply_of q h.words) → Progress h k x q
  OthersGoFirst : IsWaiting x.stage (reply_of q h.words) → Progress h k x q
  NothingIsAsked : x.stage ≡ Looks → x.task ≡ None → Progress h k x q
  TaskIsDone : x.stage ≡ Looks → (task : Task) → x.task ≡ Some task → told x (reply_of q h.words) ≡ Answers task Done → Progress h k x q

-- A step from a heap that stands, after which the same machine is at work, leaves it less to do; or its exchange was lost; or it read a
-- header that another worker keeps, or SAVE of a page that another worker is saving; or a round is over; or the worker waits for others.
-- If a mutator looks at the gate and looks again, it has no task, or one that the look itself has done.
abbrev pub MachinesGoOn : Type 0
MachinesGoOn = (h : Heap) (p o : Plain) (k : ℕ) (x : Held) (q : Step) → WorkersStand h p o → k < length h.workers → held_at h k ≡ x → wanted x ≡ Some q
    → IsSameMachine x.stage (turned x (reply_of q h.words)).stage → Progress h k x q
