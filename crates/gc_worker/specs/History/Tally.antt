-- What a history tells of its cycles, beside that it is legal: for which record each flip came, and what fills the space where the heap is full.
use Rattle.std.specs.Prelude.{◌≡◌, ⊤, ℕ, ◌+◌, ◌-◌, ◌*◌, ◌^◌, ◌<◌, ◌≤◌, ◌==◌, ◌⊎◌, Bool, true, false, cond, List, [], ◌∷◌, length, Option, Some, None, slice_get, slice_index_or, unwrap_or}
use Rattle.std.specs.Option.{option_and_then, option_map}
use Rattle.plain_state.specs.declared.end.End.{End}
use Rattle.plain_state.specs.declared.end.End.TheVariants.{HeapFull}
use Rattle.plain_state.specs.declared.sizes.TheConstants.{PAGE_WORDS}
use Rattle.plain_state.specs.Reachable.{IsLive}
use Rattle.plain_state.specs.State.{Mutator, Plain}
use Rattle.plain_heap.specs.Emptied.{cells_to_empty}
use Rattle.plain_heap.specs.Step.{new_record, pages_of}
use Rattle.heap_state.specs.Functions.{sum_below}
use Rattle.gc_worker.specs.declared.calls.did.Did.{Did}
use Rattle.gc_worker.specs.declared.calls.did.Did.TheVariants.{Done, Trap}
use Rattle.gc_worker.specs.declared.calls.entry.Entry.{Entry}
use Rattle.gc_worker.specs.declared.calls.entry.Entry.TheVariants.{Made, Exchanged, Emptied}
use Rattle.gc_worker.specs.declared.task.Task.{Task}
use Rattle.gc_worker.specs.declared.task.Task.TheVariants.{Calls, Stops}
use Rattle.gc_worker.specs.Workers.Begun.{IsPastLook}
use Rattle.gc_worker.specs.Laws.Cycles.{IsFirst, IsInCall, low_of, set_aside, size_of, snaps_at}
use Rattle.gc_worker.specs.Laws.Growth.{Grows}
use Rattle.gc_worker.specs.Workers.Held.{Held}
use Rattle.gc_worker.specs.Plain.Answer.{with_emptied}
use Rattle.gc_worker.specs.History.Legal.{after_call}
use Rattle.gc_worker.specs.Laws.Step.{Heap, epoch_of, held_at, nobody}

-- ---- what a mutator does next

-- the tasks that workers have begun and not answered, by their numbers
abbrev pub Tasks : Type 0
Tasks = ℕ → Option Task

abbrev pub tasks_held : List Held → Tasks
tasks_held workers j = (slice_index_or workers j nobody).task

-- the task of worker j's first call here; where it makes none, this
abbrev pub next_task : (j : ℕ) → List Entry → Option Task → Option Task
next_task j [] now = now
next_task j (Made c ∷ es) now = cond (c.by == j) (Some c.task) (next_task j es now)
next_task j (Exchanged by asked ∷ es) now = next_task j es now
next_task j (Emptied cells ∷ es) now = next_task j es now

-- the pages of the record that a mutator's task makes
abbrev pub asked_for : Mutator → Option Task → Option ℕ
asked_for q (Some (Calls instr)) = option_map pages_of (new_record q instr)
asked_for q (Some (Stops end)) = None
asked_for q None = None

-- one with an end makes none
abbrev pub asked_unless_ended : Option End → Mutator → Option Task → Option ℕ
asked_unless_ended None q task = asked_for q task
asked_unless_ended (Some end) q task = None

-- by mutator j
abbrev pub asked_by_task : Plain → (j : ℕ) → Option Task → Option ℕ
asked_by_task p j task = option_and_then (λ (q : Mutator). asked_unless_ended q.end q task) (slice_get p.mutators j)

abbrev pub pages_by_task : Plain → (j : ℕ) → Option Task → ℕ
pages_by_task p j task = unwrap_or (asked_by_task p j task) 0

-- the pages of the records that the mutators other than m make next: by their calls here, or else by their tasks
abbrev pub made_next : Plain → Tasks → (m : ℕ) → List Entry → ℕ
made_next p tasks m es = sum_below (length p.mutators) (λ j. cond (j == m) 0 (pages_by_task p j (next_task j es (tasks j))))

-- ---- what is counted along a history

-- The plain state now and at the last flip; the pages of the records made since then; how many flips came; of which workers one came
-- since their last call, and which have asked for one since.
pub record Tally : Type 0 where
  pub now : Plain
  pub flip : Plain
  pub made : ℕ
  pub flips : ℕ
  pub since : ℕ → Bool
  pub asked : ℕ → Bool

-- before the first entry
abbrev pub first_tally : Plain → Tally
first_tally p = record { now = p; flip = p; made = 0; flips = 0; since = λ j. false; asked = λ j. false }

abbrev pub made_if : Did → (pages : ℕ) → ℕ
made_if Done pages = pages
made_if (Trap end) pages = 0

-- after one
abbrev pub after_entry : Tally → Entry → Tally
after_entry t (Made c) = record t {
  now = after_call t.now c;
  made = t.made + made_if c.did (pages_by_task t.now c.by (Some c.task));
  since = λ j. cond (j == c.by) false (t.since j);
  asked = λ j. cond (j == c.by) false (t.asked j);
}
after_entry t (Exchanged by asked) = record {
  now = t.now;
  flip = t.now;
  made = 0;
  flips = t.flips + 1;
  since = λ j. true;
  asked = λ j. cond (j == by) true (t.asked j);
}
after_entry t (Emptied cells) = record t { now = with_emptied t.now cells }

abbrev pub tally : Tally → List Entry → Tally
tally t [] = t
tally t (e ∷ es) = tally (after_entry t e) es

-- a fact of each entry, by what is counted before it and by the entries after it
abbrev pub EachEntry : (Tally → Entry → List Entry → Type 0) → Tally → List Entry → Type 0
EachEntry P t [] = ⊤
EachEntry P t (e ∷ es) = P t e es × EachEntry P (after_entry t e) es

-- ---- the pages in use

-- the fewest and the most pages of a space that may be in use, and those that are in use of the space of each epoch
pub record Sizes : Type 0 where
  pub least : ℕ
  pub limit : ℕ
  pub in_use : ℕ → ℕ

-- those in use now
abbrev pub size_now : Sizes → Tally → ℕ
size_now z t = z.in_use t.flips

-- ---- what each entry is

-- Mutator by has no end, and the record that it makes next takes so many pages; it has asked for no other flip since its last call, or the
-- space may still grow. The space of the next epoch has as many pages in use, or twice as many, as far as there are so many.
pub record IsAskedFor (z : Sizes) (tasks : Tasks) (t : Tally) (by asked : ℕ) (es : List Entry) : Type 0 where
  pub first : (t.asked by ≡ false) ⊎ (size_now z t < z.limit)
  pub makes : asked_by_task t.now by (next_task by es (tasks by)) ≡ Some asked
  pub grows : Grows z.limit (size_now z t) (z.in_use (t.flips + 1))

-- Mutator m finds too few words for the record that its task makes, in an epoch whose flip came since its last call and in which all pages
-- of the space are in use, or in the last one. What is told as live was live at the last flip. What it and the room leave of the pages in
-- use is no more than have the pages of records made since then or that the other mutators make next. A single mutator with a flip since
-- its last call made none since then.
pub record IsFilled (z : Sizes) (tasks : Tasks) (t : Tally) (m : ℕ) (task : Task) (asked room live : ℕ) (es : List Entry) : Type 0 where
  pub asked_is : asked_by_task t.now m (Some task) ≡ Some asked
  pub short : room < PAGE_WORDS * asked
  pub no_flip : ((t.since m ≡ true) × (size_now z t ≡ z.limit)) ⊎ (t.flips ≡ 2 ^ 32 - 1)
  pub within : (z.least ≤ size_now z t) × (size_now z t ≤ z.limit)
  pub live_is : IsLive t.flip live
  pub claims : ℕ
  pub filled : room + live + claims ≡ PAGE_WORDS * size_now z t
  pub for_records : claims ≤ PAGE_WORDS * (t.made + made_next t.now tasks m es)
  pub single : length t.now.mutators ≡ 1 → t.since m ≡ true → t.made ≡ 0

abbrev pub IsFilledByEnd : Sizes → Tasks → Tally → (m : ℕ) → Task → End → List Entry → Type 0
IsFilledByEnd z tasks t m task (HeapFull asked room live) es = IsFilled z tasks t m task asked room live es
IsFilledByEnd z tasks t m task end es = ⊤

abbrev pub IsFilledBy : Sizes → Tasks → Tally → (m : ℕ) → Task → Did → List Entry → Type 0
IsFilledBy z tasks t m task Done es = ⊤
IsFilledBy z tasks t m task (Trap end) es = IsFilledByEnd z tasks t m task end es

-- Where a call tells the heap to be full it is filled, and each flip came for the record of the mutator that made it. The cells that are
-- emptied are those whose targets weren't reachable at the last flip.
abbrev pub EntryIs : Sizes → Tasks → Tally → Entry → List Entry → Type 0
EntryIs z tasks t (Made c) es = IsFilledBy z tasks t c.by c.task c.did es
EntryIs z tasks t (Exchanged by asked) es = IsAskedFor z tasks t by asked es
EntryIs z tasks t (Emptied cells) es = cells ≡ cells_to_empty t.flip

-- ---- between two steps

-- by all workers
abbrev pub aside_in : Heap → ℕ
aside_in h = sum_below (length h.workers) (λ k. set_aside (held_at h k))

-- What was claimed since the last flip is all that LOW has fallen, and no more than the pages of records made since then and those set
-- aside. Where all mutators have a flip since their last call none was made. The gate's epoch is the number of flips; no instruction began in a
-- later one, and a mutator whose instruction began in an earlier one has a flip since its last call. Who asks for a flip has seen none
-- since it began its instruction, or the space may still grow; who has asked for one is still in its call, which begins no
-- checkpoint, and has seen one.
pub record FitsTally (h : Heap) (z : Sizes) (t : Tally) : Type 0 where
  pub limit : z.limit ≡ h.pages
  pub size : size_of h.pages h.words ≡ size_now z t
  pub least : z.least ≤ size_now z t
  pub claims : ℕ
  pub low : low_of h.pages h.words + claims ≡ PAGE_WORDS * size_now z t
  pub for_records : claims ≤ PAGE_WORDS * t.made + aside_in h
  pub none_made : ((m : ℕ) → m < h.mutators → t.since m ≡ true) → t.made ≡ 0
  pub epoch : epoch_of h.pages h.words ≡ t.flips
  pub begun : (m : ℕ) → m < h.mutators → (held_at h m).account.end ≡ None → IsPastLook (held_at h m).stage → (held_at h m).begun ≤ t.flips
  pub since : (m : ℕ) → m < h.mutators → (held_at h m).account.end ≡ None → IsPastLook (held_at h m).stage → (held_at h m).begun < t.flips → t.since m ≡ true
  pub first : (m : ℕ) → m < length h.workers → IsFirst h.pages h.words (held_at h m)
  pub call : (m : ℕ) → t.asked m ≡ true → IsInCall (held_at h m).stage × ((held_at h m).begun < t.flips) × (snaps_at (held_at h m).stage ≡ false)

-- what a history tells of its cycles, from what is counted before it, when so many pages were in use
pub record IsTallied (least : ℕ) (h : Heap) (first : Tally) (log : List Entry) : Type 0 where
  pub sizes : Sizes
  pub began : (sizes.least ≡ least) × (size_now sizes first ≡ least)
  pub entries : EachEntry (EntryIs sizes (tasks_held h.workers)) first log
  pub counts : FitsTally h sizes (tally first log)
