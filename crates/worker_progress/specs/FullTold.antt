-- That a mutator tells the heap to be full where there is no room and no flip can help.
use Rattle.std.specs.Prelude.{◌≡◌, ℕ, ◌<◌, Bool, true, List, length, Some}
use Rattle.plain_state.specs.State.{Plain}
use Rattle.plain_state.specs.declared.end.End.TheVariants.{HeapFull}
use Rattle.atom_store.specs.declared.reply.Reply.TheVariants.{Value}
use Rattle.space_map.specs.Spaces.{to_space}
use Rattle.space_map.specs.Table.{Area, Size}
use Rattle.alloc_end.specs.declared.place_stage.PlaceStage.TheVariants.{LoadsArea}
use Rattle.alloc_end.specs.Place.{Placing}
use Rattle.heap_state.specs.Memory.Table.{word_in}
use Rattle.gc_worker.specs.declared.stage.Stage.{Stage}
use Rattle.gc_worker.specs.declared.stage.Stage.TheVariants.{Places}
use Rattle.gc_worker.specs.declared.task.Task.{Task}
use Rattle.gc_worker.specs.Workers.Fits.{Fits}
use Rattle.gc_worker.specs.Plain.Full.{FindsNoRoom}
use Rattle.gc_worker.specs.Workers.Held.{Held, at_stage, pages_needed}
use Rattle.gc_worker.specs.Laws.Step.{Heap, WorkersStand, held_at}
use Rattle.gc_worker.specs.declared.calls.did.Did.TheVariants.{Trap}
use Rattle.gc_worker.specs.Steps.Turned.{Answers, told}

-- an allocation that found its epoch traced, in a space of so many pages in use, and reads the area next
abbrev pub found_traced : Placing → (size : ℕ) → Stage
found_traced z size = Places (record z { stage = LoadsArea true size })

-- it answers its task by this end
pub record TellsFull (words : List ℕ) (n : ℕ) (x : Held) (z : Placing) (size room live : ℕ) : Type 0 where
  pub task : Task
  pub is : x.task ≡ Some task
  pub tells : told (at_stage x (found_traced z size)) (Value (word_in n words (Area (to_space x.epoch)))) ≡ Answers task (Trap (HeapFull (pages_needed x) room live))

-- a mutator that found its epoch traced tells that the heap is full where it finds no room for the pages that its task asks for,
-- in a space of as many pages in use as it has read
abbrev pub FullIsTold : Type 0
FullIsTold = (n mutators k : ℕ) (words : List ℕ) (x : Held) (z : Placing) (size room live : ℕ) → Fits n mutators k (at_stage x (found_traced z size))
    → (finds : FindsNoRoom n words x (pages_needed x) room live) → finds.size ≡ size → TellsFull words n x z size room live

-- the pages in use that an allocation has read are still those of the space of its epoch
abbrev pub SizesReadAreSo : Type 0
SizesReadAreSo = (h : Heap) (p o : Plain) (k : ℕ) (x : Held) (z : Placing) (traced : Bool) (size : ℕ) → WorkersStand h p o → k < length h.workers → held_at h k ≡ x
    → x.stage ≡ Places (record z { stage = LoadsArea traced size }) → word_in h.pages h.words (Size (to_space x.epoch)) ≡ size

-- so in a heap that stands that mutator tells it, whatever size it has read
abbrev pub FullIsToldInHeaps : Type 0
FullIsToldInHeaps = (h : Heap) (p o : Plain) (k : ℕ) (x : Held) (z : Placing) (size room live : ℕ) → WorkersStand h p o → k < length h.workers
    → held_at h k ≡ at_stage x (found_traced z size) → FindsNoRoom h.pages h.words x (pages_needed x) room live → TellsFull h.words h.pages x z size room live
