-- The words that allocations claim within an epoch, for which records they do, and which instruction asks for a flip.
use Rattle.std.specs.Prelude.{◌≡◌, ℕ, ◌+◌, ◌*◌, ◌<◌, ◌≤◌, ◌⊎◌, ⊤, Bool, true, false, min, List, length, Option, Some, None, slice_get}
use Rattle.std.specs.Option.{option_map}
use Rattle.plain_state.specs.State.{Mutator, Plain}
use Rattle.mutator_asm.specs.declared.instr.Instr.{Instr}
use Rattle.plain_heap.specs.Step.{new_record, pages_of}
use Rattle.atom_store.specs.declared.reply.Reply.{Reply}
use Rattle.atom_store.specs.declared.reply.Reply.TheVariants as replies
use Rattle.atom_store.specs.declared.step.Step.{Step}
use Rattle.atom_store.specs.Step.{words_after, reply_of}
use Rattle.space_map.specs.declared.area_word.AreaWord.{AreaWord}
use Rattle.space_map.specs.declared.spaces.TheConstants.{FEWEST_PAGES, PAGE_WORDS}
use Rattle.space_map.specs.AreaWord.{decode_area}
use Rattle.space_map.specs.Spaces.{Layout, to_space}
use Rattle.space_map.specs.Table.{Area, Size}
use Rattle.alloc_end.specs.declared.place_stage.PlaceStage.{PlaceStage}
use Rattle.alloc_end.specs.declared.place_stage.PlaceStage.TheVariants.{ExchangesArea, StoresZero, StoresNew, OpensPage, StoresCount, StoresTarget, StoresLink, StoresHeader}
use Rattle.alloc_end.specs.Place.{Placing, words_for}
use Rattle.gate_core.specs.declared.flip_stage.FlipStage.{FlipStage}
use Rattle.gate_core.specs.declared.flip_stage.FlipStage.TheVariants.{StoresSize, StoresArea, ResetsWeak, Exchanges}
use Rattle.gate_core.specs.declared.passage.Passage.{Passage}
use Rattle.gate_core.specs.declared.passage.Passage.TheVariants.{Look, Attach, Park, Request, Resume, Forwarded, Leave, Clear}
use Rattle.gate_core.specs.declared.reset.Reset.{Reset}
use Rattle.gate_core.specs.Flip.{next_size}
use Rattle.heap_state.specs.Memory.Table.{word_in}
use Rattle.gc_worker.specs.declared.stage.after.After.{After}
use Rattle.gc_worker.specs.declared.stage.after.After.TheVariants as afters
use Rattle.gc_worker.specs.declared.stage.back.Back.{Back}
use Rattle.gc_worker.specs.declared.stage.back.Back.TheVariants.{ToAccess, ToTarget, ToPlace, ToSnap, ToScanner}
use Rattle.gc_worker.specs.declared.stage.goal.Goal.{Goal}
use Rattle.gc_worker.specs.declared.stage.goal.Goal.TheVariants.{ForFlip, ForSnap, ForScanner}
use Rattle.gc_worker.specs.declared.stage.write.Write.TheVariants.{OfPlace}
use Rattle.gc_worker.specs.declared.stage.Stage.{Stage}
use Rattle.gc_worker.specs.declared.stage.Stage.TheVariants.{Looks, Passes, Flips, Forwards, Accesses, Places, Serves, Scans, Evacuates, Opens, Recalls, Guards, Checkpoints, BeginsCheckpoint, Gone}
use Rattle.gc_worker.specs.declared.task.Task.TheVariants.{Calls}
use Rattle.gc_worker.specs.Workers.Begun.{IsPastAfter, IsPastBack, IsPastGoal}
use Rattle.gc_worker.specs.Laws.Growth.{Grows}
use Rattle.gc_worker.specs.Laws.Between.{IsNoAnswer, opening_heap}
use Rattle.gc_worker.specs.Workers.Fits.{Fits}
use Rattle.gc_worker.specs.Workers.Held.{Held, has_seen_flip, may_snap, pages_needed}
use Rattle.gc_worker.specs.Laws.Step.{Heap, WorkersStand, held_at, epoch_of, moved}
use Rattle.gc_worker.specs.declared.calls.did.Did.TheVariants.{Done, Trap}
use Rattle.gc_worker.specs.Steps.Turned.{Told, Silent, Empties, Answers, Marks, turned, told}
use Rattle.gc_worker.specs.Steps.Wanted.{wanted}

-- ---- claims of pages for records

abbrev pub claimed_by_placing : Placing → PlaceStage → Reply → ℕ
claimed_by_placing p (ExchangesArea f) replies.Won = words_for p.header
claimed_by_placing p stage reply = 0

abbrev pub claimed_at : Stage → Reply → ℕ
claimed_at (Places p) reply = claimed_by_placing p p.stage reply
claimed_at stage reply = 0

-- the words of the pages that this step claims for a record
abbrev pub words_claimed : Held → Reply → ℕ
words_claimed x reply = claimed_at x.stage reply

abbrev pub low_said : Option AreaWord → ℕ
low_said (Some area) = area.low
low_said None = 0

-- LOW of a space, counted from its first word
abbrev pub low_at : (n : ℕ) → List ℕ → (space : ℕ) → ℕ
low_at n words space = low_said (decode_area (word_in n words (Area space)))

-- LOW of the space of the gate's epoch
abbrev pub low_of : (n : ℕ) → List ℕ → ℕ
low_of n words = low_at n words (to_space (epoch_of n words))

-- the pages in use of the space of the gate's epoch
abbrev pub size_of : (n : ℕ) → List ℕ → ℕ
size_of n words = word_in n words (Size (to_space (epoch_of n words)))

-- within an epoch LOW falls by the words claimed, and after a flip it is the end of the space
abbrev pub LowGoes : (n : ℕ) → (words later : List ℕ) → (claims : ℕ) → Told → Type 0
LowGoes n words later claims Silent = low_of n later + claims ≡ low_of n words
LowGoes n words later claims Empties = low_of n later + claims ≡ low_of n words
LowGoes n words later claims (Answers task outcome) = low_of n later + claims ≡ low_of n words
LowGoes n words later claims (Marks asked) = low_of n later ≡ PAGE_WORDS * size_of n later

abbrev pub LowFallsByClaims : Type 0
LowFallsByClaims = (h : Heap) (p o : Plain) (k : ℕ) (x : Held) (q : Step) → WorkersStand h p o → k < length h.workers → held_at h k ≡ x → wanted x ≡ Some q
    → LowGoes h.pages h.words (words_after q h.words) (words_claimed x (reply_of q h.words)) (told x (reply_of q h.words))

-- ---- what a claim is for

abbrev pub set_aside_by : Placing → PlaceStage → ℕ
set_aside_by p (StoresZero new) = words_for p.header
set_aside_by p (StoresNew new) = words_for p.header
set_aside_by p (OpensPage new) = words_for p.header
set_aside_by p StoresCount = words_for p.header
set_aside_by p StoresTarget = words_for p.header
set_aside_by p StoresLink = words_for p.header
set_aside_by p StoresHeader = words_for p.header
set_aside_by p stage = 0

abbrev pub set_aside_at : Stage → ℕ
set_aside_at (Places p) = set_aside_by p p.stage
set_aside_at (Guards g (OfPlace p)) = set_aside_by p p.stage
set_aside_at stage = 0

-- the words of the pages that a record needs for which room was found, and which doesn't stand yet
abbrev pub set_aside : Held → ℕ
set_aside x = set_aside_at x.stage

-- What is claimed is set aside, until the record stands for which it was claimed; who ends has nothing set aside. Of a flip nothing is said.
abbrev pub SetsAside : (was : Held) → (claims : ℕ) → (now : Held) → Told → Type 0
SetsAside was claims now Silent = claims + set_aside was ≤ set_aside now
SetsAside was claims now Empties = claims + set_aside was ≤ set_aside now
SetsAside was claims now (Answers task Done) = claims ≡ 0
SetsAside was claims now (Answers task (Trap end)) = claims + set_aside was ≡ 0
SetsAside was claims now (Marks asked) = ⊤

abbrev pub ClaimsAreSetAside : Type 0
ClaimsAreSetAside = (n mutators k : ℕ) (x : Held) (reply : Reply) → Fits n mutators k x → SetsAside x (words_claimed x reply) (turned x reply) (told x reply)

-- The mutator's plain one has no end, and the record that its task makes takes so many pages.
pub record MakesRecord (p : Plain) (k : ℕ) (x : Held) (pages : ℕ) : Type 0 where
  pub mutator : Mutator
  pub is : slice_get p.mutators k ≡ Some mutator
  pub no_end : mutator.end ≡ None
  pub instr : Instr
  pub task : x.task ≡ Some (Calls instr)
  pub pages_are : option_map pages_of (new_record mutator instr) ≡ Some pages

-- it is set aside for the record that the plain mutator's next instruction makes
pub record IsForRecord (p : Plain) (k : ℕ) (x : Held) : Type 0 where
  pub few : set_aside x ≤ PAGE_WORDS * pages_needed x
  pub makes : 0 < set_aside x → MakesRecord p k x (pages_needed x)

abbrev pub SetAsideIsForRecords : Type 0
SetAsideIsForRecords = (h : Heap) (p o : Plain) (k : ℕ) (x : Held) → WorkersStand h p o → k < length h.workers → held_at h k ≡ x → IsForRecord p k x

-- ---- the pages in use

-- within an epoch the pages in use stay
abbrev pub SizeGoes : (n : ℕ) → (words later : List ℕ) → Told → Type 0
SizeGoes n words later Silent = size_of n later ≡ size_of n words
SizeGoes n words later Empties = size_of n later ≡ size_of n words
SizeGoes n words later (Answers task outcome) = size_of n later ≡ size_of n words
SizeGoes n words later (Marks asked) = Grows n (size_of n words) (size_of n later)

abbrev pub SizesStay : Type 0
SizesStay = (h : Heap) (p o : Plain) (k : ℕ) (x : Held) (q : Step) → WorkersStand h p o → k < length h.workers → held_at h k ≡ x → wanted x ≡ Some q
    → SizeGoes h.pages h.words (words_after q h.words) (told x (reply_of q h.words))

-- they are 4 to all pages of the space
abbrev pub SizesAreWithin : Type 0
SizesAreWithin = (h : Heap) (p o : Plain) → WorkersStand h p o → (FEWEST_PAGES ≤ size_of h.pages h.words) × (size_of h.pages h.words ≤ h.pages)

-- a flip by a mutator that has seen one since it began its instruction is into a space with twice as many, as far as there are so many
abbrev pub SeenFlipsDouble : Type 0
SeenFlipsDouble = (h : Heap) (p o : Plain) (k : ℕ) (x : Held) (q : Step) (asked : ℕ) → WorkersStand h p o → k < length h.workers → held_at h k ≡ x → wanted x ≡ Some q
    → told x (reply_of q h.words) ≡ Marks asked → has_seen_flip x ≡ true → size_of h.pages (words_after q h.words) ≡ min h.pages (2 * size_of h.pages h.words)

abbrev pub front_said : Option AreaWord → ℕ
front_said (Some area) = area.front
front_said None = 0

-- FRONT of the space of the gate's epoch, counted from its first word: so many words were copied into it
abbrev pub front_of : (n : ℕ) → List ℕ → ℕ
front_of n words = front_said (decode_area (word_in n words (Area (to_space (epoch_of n words)))))

-- The pages of the other space that are in use once this mutator has flipped: twice as many as of this one, as far as there are so many, if
-- it has seen a flip since it began its instruction or more than half of this one's words were copied; else as many.
abbrev pub size_next : (n : ℕ) → List ℕ → Held → ℕ
size_next n words x = next_size n (has_seen_flip x) (size_of n words) (front_of n words)

-- what a flip goes by, once it has read all
abbrev pub reset_of : FlipStage → Option Reset
reset_of (StoresSize r) = Some r
reset_of (StoresArea r) = Some r
reset_of (ResetsWeak r) = Some r
reset_of (Exchanges r) = Some r
reset_of stage = None

abbrev pub HasFound : (next : ℕ) → Option Reset → Type 0
HasFound next None = ⊤
HasFound next (Some r) = r.next ≡ next

abbrev pub HasFoundAt : (next : ℕ) → Stage → Type 0
HasFoundAt next (Flips f) = HasFound next (reset_of f.stage)
HasFoundAt next stage = ⊤

-- a flipper that has read all has found that size
abbrev pub HasNextSize : (n : ℕ) → List ℕ → Held → Type 0
HasNextSize n words x = HasFoundAt (size_next n words x) x.stage

abbrev pub HaveNextSizes : Heap → Type 0
HaveNextSizes h = (k : ℕ) → k < length h.workers → HasNextSize h.pages h.words (held_at h k)

-- it is so of all workers at the opening, and each step of a worker keeps it
abbrev pub NextSizesBegin : Type 0
NextSizesBegin = (prints : Bool) (layout : Layout) (least mutators scanners : ℕ) → HaveNextSizes (opening_heap prints layout least mutators scanners)

abbrev pub NextSizesStay : Type 0
NextSizesStay = (h : Heap) (p o : Plain) (k : ℕ) (x : Held) (q : Step) → WorkersStand h p o → k < length h.workers → held_at h k ≡ x → wanted x ≡ Some q
    → HaveNextSizes h → HaveNextSizes (moved h k x q)

-- and so a flip sets it: the size of the space that is flipped into follows from that of the one before and from FRONT
abbrev pub FlipsSetSizes : Type 0
FlipsSetSizes = (h : Heap) (p o : Plain) (k : ℕ) (x : Held) (q : Step) (asked : ℕ) → WorkersStand h p o → k < length h.workers → held_at h k ≡ x → wanted x ≡ Some q
    → HasNextSize h.pages h.words x → told x (reply_of q h.words) ≡ Marks asked → size_of h.pages (words_after q h.words) ≡ size_next h.pages h.words x

-- the pages in use of a space
abbrev pub size_at : (n : ℕ) → List ℕ → (space : ℕ) → ℕ
size_at n words space = word_in n words (Size space)

-- The space of the gate's epoch keeps its size, and so does the other one, or it gets a size that is no smaller than that of the first.
pub record SizesHoldAt (n : ℕ) (words later : List ℕ) (space other : ℕ) : Type 0 where
  pub in_use : size_at n later space ≡ size_at n words space
  pub beside : (size_at n later other ≡ size_at n words other) ⊎ (size_at n words space ≤ size_at n later other)

abbrev pub SizesHold : Type 0
SizesHold = (h : Heap) (p o : Plain) (k : ℕ) (x : Held) (q : Step) → WorkersStand h p o → k < length h.workers → held_at h k ≡ x → wanted x ≡ Some q
    → SizesHoldAt h.pages h.words (words_after q h.words) (to_space (epoch_of h.pages h.words)) (to_space (epoch_of h.pages h.words + 1))

-- ---- who asks for a flip

-- it has seen none since it began its instruction, or the space may still grow
abbrev pub MayAsk : (n size : ℕ) → Held → Type 0
MayAsk n size x = (x.epoch ≤ x.begun) ⊎ (size < n)

abbrev pub IsFirstBy : (n size : ℕ) → Held → Passage → After → Type 0
IsFirstBy n size x Request afters.Places = MayAsk n size x
IsFirstBy n size x passage after = ⊤

abbrev pub IsFirstAt : (n size : ℕ) → Held → Stage → Type 0
IsFirstAt n size x (Passes g after) = IsFirstBy n size x g.passage after
IsFirstAt n size x (Flips f) = MayAsk n size x
IsFirstAt n size x (Checkpoints r ForFlip) = MayAsk n size x
IsFirstAt n size x stage = ⊤

-- a mutator that asks for a flip of a space with all its pages in use has seen none since it began its instruction
abbrev pub IsFirst : (n : ℕ) → List ℕ → Held → Type 0
IsFirst n words x = IsFirstAt n (size_of n words) x x.stage

-- a step keeps that, of the worker that makes it and of all others
abbrev pub FlipsStayFirst : Type 0
FlipsStayFirst = (h : Heap) (p o : Plain) (k : ℕ) (x : Held) (q : Step) → WorkersStand h p o → k < length h.workers → held_at h k ≡ x → wanted x ≡ Some q
    → ((j : ℕ) → j < length h.workers → IsFirst h.pages h.words (held_at h j))
    → (j : ℕ) → j < length h.workers → IsFirst h.pages (words_after q h.words) (held_at (moved h k x q) j)

-- and so it is of one that makes the flip
abbrev pub FlipsAreFirst : Type 0
FlipsAreFirst = (n : ℕ) (words : List ℕ) (x : Held) (reply : Reply) (asked : ℕ) → IsFirst n words x → told x reply ≡ Marks asked → MayAsk n (size_of n words) x

-- ---- an instruction that is not answered yet

abbrev pub IsInPassage : Passage → After → Type 0
IsInPassage Look after = ⊥
IsInPassage Attach after = ⊥
IsInPassage Park after = IsPastAfter after
IsInPassage Request after = IsPastAfter after
IsInPassage (Resume epoch) after = IsPastAfter after
IsInPassage Forwarded after = IsPastAfter after
IsInPassage Leave after = ⊥
IsInPassage Clear after = ⊥

-- a mutator at this stage has begun an instruction, and has not answered it
abbrev pub IsInCall : Stage → Type 0
IsInCall Looks = ⊥
IsInCall (Passes g after) = IsInPassage g.passage after
IsInCall (Flips f) = ⊤
IsInCall (Forwards w) = IsPastAfter w.after
IsInCall (Accesses a) = ⊤
IsInCall (Places p) = ⊤
IsInCall (Serves d back) = IsPastBack back
IsInCall (Scans s back) = IsPastBack back
IsInCall (Evacuates v s back) = IsPastBack back
IsInCall (Opens o s back) = IsPastBack back
IsInCall (Recalls r after) = IsPastAfter after
IsInCall (Guards g write) = ⊤
IsInCall (Checkpoints r goal) = IsPastGoal goal
IsInCall (BeginsCheckpoint s) = ⊤
IsInCall Gone = ⊥

-- ---- which instruction it is

abbrev pub snaps_after : After → Bool
snaps_after afters.Looks = false
snaps_after afters.Places = false
snaps_after afters.Snaps = true

abbrev pub snaps_back : Back → Bool
snaps_back (ToAccess a) = false
snaps_back (ToTarget a) = false
snaps_back ToPlace = false
snaps_back ToSnap = true
snaps_back ToScanner = false

abbrev pub snaps_for : Goal → Bool
snaps_for ForFlip = false
snaps_for ForSnap = true
snaps_for ForScanner = false

-- at this stage it is on its way to begin a checkpoint
abbrev pub snaps_at : Stage → Bool
snaps_at (Passes g after) = snaps_after after
snaps_at (Forwards w) = snaps_after w.after
snaps_at (Serves d back) = snaps_back back
snaps_at (Scans s back) = snaps_back back
snaps_at (Evacuates v s back) = snaps_back back
snaps_at (Opens o s back) = snaps_back back
snaps_at (Recalls r after) = snaps_after after
snaps_at (Checkpoints r goal) = snaps_for goal
snaps_at (BeginsCheckpoint s) = true
snaps_at stage = false

-- it is in its call, and if that begins no checkpoint, none that does
abbrev pub StaysInCall : (was now : Stage) → Type 0
StaysInCall was now = IsInCall now × (snaps_at was ≡ false → snaps_at now ≡ false)

-- one that was to begin a checkpoint looks at the gate again, since there is no number for one more
abbrev pub BeginsAnew : (was : Stage) → (now : Held) → Type 0
BeginsAnew was now = (snaps_at was ≡ true) × (now.stage ≡ Looks) × (may_snap now ≡ false)

-- It is in its call until it answers. Only if there is no number left for a checkpoint does it begin its instruction anew.
abbrev pub CallsGoOn : Type 0
CallsGoOn = (n mutators k : ℕ) (x : Held) (reply : Reply) → Fits n mutators k x → Fits n mutators k (turned x reply) → IsInCall x.stage → IsNoAnswer (told x reply)
    → StaysInCall x.stage (turned x reply).stage ⊎ BeginsAnew x.stage (turned x reply)
