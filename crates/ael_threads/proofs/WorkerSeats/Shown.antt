-- What a worker shows of its plain mutator, whatever its count of instructions is.
use Rattle.std.proofs.Common.{◌≡◌, ◌⊎◌, inl, inr, ℕ, zero, suc, ◌<◌, Bool, true, false, nat_lt, ltb-true, Option, Some, None, List, [], ◌∷◌, length, slice_get, refl, sym, ◌∙◌, ap, subst, arith}
use Rattle.std.specs.Option.{is_some}
use Rattle.plain_state.specs.declared.end.End.{End}
use Rattle.plain_state.specs.declared.end.End.TheVariants.{HeapFull}
use Rattle.plain_state.specs.State.{Mutator, Plain}
use Rattle.plain_state.proofs.Elements.{slice_get-set_same}
use Rattle.std.proofs.lemmas.Option.{same_Some, slice_get_within}
use Rattle.heap_state.specs.Known.{is_running}
use Rattle.gc_worker.specs.declared.stage.Stage.{Stage}
use Rattle.gc_worker.specs.declared.stage.back.Back.{Back}
use Rattle.gc_worker.specs.declared.stage.back.Back.TheVariants.{ToScanner}
use Rattle.gc_worker.specs.declared.stage.goal.Goal.{Goal}
use Rattle.gc_worker.specs.declared.stage.goal.Goal.TheVariants.{ForFlip, ForScanner, ForSnap}
use Rattle.gc_worker.specs.declared.stage.Stage.TheVariants.{BeginsCheckpoint, Checkpoints, Evacuates, Gone, Looks, Opens, Passes, Scans, Serves}
use Rattle.gc_worker.specs.declared.task.Task.{Task}
use Rattle.gc_worker.specs.declared.task.Task.TheVariants.{Calls, Stops}
use Rattle.gc_worker.specs.Plain.Answer.{after_answer}
use Rattle.gc_worker.specs.Laws.Between.{AreAlike, IsAsPlain, RegistersLand, RestsAt, ShowsRegisters, is_present}
use Rattle.gc_worker.specs.Workers.Counted.{counted}
use Rattle.gc_worker.specs.Workers.Fits.{Fits, FitsEnd, FitsTask, IsEndBefore, IsOnSide, IsOnSideBack, IsOnSideFor}
use Rattle.gc_worker.specs.Plain.Full.{FullByEnd, FullWhereTold}
use Rattle.gc_worker.specs.Workers.Held.{Held}
use Rattle.gc_worker.specs.Workers.Knows.{post_back, post_before, post_for, post_gone, post_in}
use Rattle.gc_worker.specs.Laws.Step.{Heap, WorkersStand}
use Rattle.gc_worker.proofs.Between.Pages.Copied.{full_tells_live}
use Rattle.gc_worker.specs.Steps.Stepped.{IsBeginningCheckpoint, awaits, awaits_at, uncounted}
use Rattle.gc_worker.specs.declared.calls.did.Did.TheVariants.{Trap}
use Rattle.gc_worker.specs.Plain.Seen.{seen}
use Rattle.gc_worker.proofs.Plain.OnlySnap.{snaps_alone}
use Rattle.gate_core.specs.declared.passage.Passage.{Passage}
use Rattle.mutator_asm.specs.declared.instr.Instr.{Instr}
use Rattle.mutator_asm.specs.declared.instr.Instr.TheVariants.{Snap}
use Rattle.gc_worker.specs.Steps.Turned.{Told, Answers}
use Rattle.ael_threads.specs.Seats.{IsPresent, IsRunning, IsShown, LiveByEnd, LiveWhereTold}

pub shown_by : (h : Heap) (p : Plain) (m count : ℕ) (z : Held) (q : Mutator) → IsAsPlain h p m (counted count z) q → ShowsRegisters z.registers q → IsShown p.heap m (uncounted z) q
shown_by h p m count z q a shows = record {
  counter = a.account.counter;
  printed = a.account.printed;
  end = a.account.end;
  serial = a.account.serial;
  registers = shows;
}

-- ---- who runs

pub none_of : (o : Option End) → is_some o ≡ false → o ≡ None
none_of None e = refl
none_of (Some end) e = absurd (cc)

-- who looks at the gate has no end, and runs
pub looks_run : (n mutators m : ℕ) (z : Held) → Fits n mutators m z → z.stage ≡ Looks → IsRunning z
looks_run n mutators m z f looks = (
  none_of z.account.end (subst (λ (stage : Stage). FitsEnd stage (is_some z.account.end)) looks f.end),
  ap (λ (stage : Stage). is_running (post_in z stage)) looks,
)

-- so does who awaits a task
pub awaits_look : (x : Held) → awaits x ≡ true → x.stage ≡ Looks
awaits_look x is = by_stage x.stage x.task is
  where
    by_stage : (stage : Stage) (task : Option Task) → awaits_at stage task ≡ true → stage ≡ Looks
    by_stage Looks task is = refl
    by_stage _ task is = absurd (cc)

-- ---- after an effect

-- who rests has no end
rests_unended : (n mutators m : ℕ) (was : Stage) (z : Held) → Fits n mutators m z → RestsAt was z.stage → z.account.end ≡ None
rests_unended n mutators m was z f rests = none_of z.account.end (by_stage z.stage f.end rests)
  where
    by_stage : (stage : Stage) → FitsEnd stage (is_some z.account.end) → RestsAt was stage → is_some z.account.end ≡ false
    by_stage Looks end rests = end
    by_stage (Passes g after) end rests = subst (λ (p : Passage). IsEndBefore p (is_some z.account.end)) rests.1 end
    by_stage _ end rests = absurd rests

-- and is present
pub rests_present : (n mutators m : ℕ) (was : Stage) (z : Held) → Fits n mutators m z → RestsAt was z.stage → IsPresent z
rests_present n mutators m was z f rests = (rests_unended n mutators m was z f rests, by_stage z.stage rests)
  where
    by_stage : (stage : Stage) → RestsAt was stage → is_present (post_in z stage) ≡ true
    by_stage Looks rests = refl
    by_stage (Passes g after) rests = ap (λ (p : Passage). is_present (post_before p)) rests.1
    by_stage _ rests = absurd rests

-- it runs, if it has not begun a checkpoint
pub rests_run : (n mutators m : ℕ) (was : Stage) (z : Held) → Fits n mutators m z → RestsAt was z.stage → IsBeginningCheckpoint was ⊎ IsRunning z
rests_run n mutators m was z f = by_stage z.stage refl
  where
    by_stage : (stage : Stage) → z.stage ≡ stage → RestsAt was stage → IsBeginningCheckpoint was ⊎ IsRunning z
    by_stage Looks looks rests = inr (looks_run n mutators m z f looks)
    by_stage (Passes g after) is rests = inl rests.0
    by_stage _ is rests = absurd rests

-- which `snap` alone begins
pub begins_by : (x : Held) (task : Task) (stage : Stage) → FitsTask x stage → IsBeginningCheckpoint stage → x.task ≡ Some task → task ≡ Calls Snap
begins_by x task (BeginsCheckpoint s) fits begins asked =
    let only : fits.instr ≡ Snap = snaps_alone (seen x.account x.registers) fits.instr fits.acts in
    same_Some task (Calls Snap) (sym asked ∙ (fits.task_is ∙ ap (λ (i : Instr). Some (Calls i)) only))
begins_by x task _ fits begins asked = absurd begins

-- a scanner never is
gone_is_none : (b : Bool) → is_present (post_gone b) ≡ true → ⊥
gone_is_none true e = cc
gone_is_none false e = cc

back_present : (back : Back) (b : Bool) → IsOnSideBack back b → is_present (post_back back) ≡ true → b ≡ true
back_present ToScanner b side e = absurd (cc)
back_present _ b side e = side

goal_present : (goal : Goal) (b : Bool) → IsOnSideFor goal b → is_present (post_for goal) ≡ true → b ≡ true
goal_present ForFlip b side e = side
goal_present ForSnap b side e = side
goal_present ForScanner b side e = absurd (cc)

pub present_aside : (n mutators m : ℕ) (z : Held) → Fits n mutators m z → is_present (post_in z z.stage) ≡ true → m < mutators
present_aside n mutators m z f present =
    let less = ltb-true z.number z.mutators (by_stage z.stage f.side present) in
    let number = f.number in
    let beside = f.beside in
    omega (arith, less, number, beside)
  where
    by_stage : (stage : Stage) → IsOnSide stage (nat_lt z.number z.mutators) (is_some z.account.end) → is_present (post_in z stage) ≡ true → nat_lt z.number z.mutators ≡ true
    by_stage (Serves d back) side e = back_present back (nat_lt z.number z.mutators) side e
    by_stage (Scans s back) side e = back_present back (nat_lt z.number z.mutators) side e
    by_stage (Evacuates v s back) side e = back_present back (nat_lt z.number z.mutators) side e
    by_stage (Opens o s back) side e = back_present back (nat_lt z.number z.mutators) side e
    by_stage (Checkpoints r goal) side e = goal_present goal (nat_lt z.number z.mutators) side e
    by_stage Gone side e = absurd (gone_is_none (nat_lt z.number z.mutators) e)
    by_stage _ side e = side

-- whatever its count is
counted_post : (count : ℕ) (z : Held) (stage : Stage) → post_in (counted count z) stage ≡ post_in z stage
counted_post count z Looks = refl
counted_post count z _ = refl

-- who runs does so whatever its count is
pub runs_uncounted : (z : Held) → IsRunning z → IsRunning (uncounted z)
runs_uncounted z r = (r.0, ap is_running (counted_post 0 z z.stage) ∙ r.1)

-- so is who is present
pub present_uncounted : (z : Held) → IsPresent z → IsPresent (uncounted z)
present_uncounted z r = (r.0, ap is_present (counted_post 0 z z.stage) ∙ r.1)

pub present_with_count : (z : Held) → IsPresent (uncounted z) → IsPresent z
present_with_count z r = (r.0, ap is_present (sym (counted_post 0 z z.stage)) ∙ r.1)

module _ (h : Heap) (p : Plain) (m count : ℕ) (z : Held) (q : Mutator) (a : IsAsPlain h p m (counted count z) q) (r : IsPresent z) where
  pub unended : q.end ≡ None
  unended = sym a.account.end ∙ r.0

  counted_present : is_present (post_in (counted count z) z.stage) ≡ true
  counted_present = ap is_present (counted_post count z z.stage) ∙ r.1

  pub lands_by : RegistersLand h.pages h.words z
  lands_by = let l = a.lands unended counted_present in record { in_space = l.in_space; header = l.header }

  pub alike_by : AreAlike z.registers q
  alike_by = a.alike unended counted_present

pub mutator_at : (l : List Mutator) (i : ℕ) → i < length l → (q : Mutator) × (slice_get l i ≡ Some q)
mutator_at [] i h = absurd (omega arith)
mutator_at (q ∷ qs) zero h = (q, refl)
mutator_at (q ∷ qs) (suc i) h = mutator_at qs i (omega arith)

-- ---- a full heap

full_end : (n : ℕ) (words : List ℕ) (count : ℕ) (x : Held) (end : End) → FullByEnd n words (counted count x) end → FullByEnd n words x end
full_end n words count x (HeapFull asked room live) h = record {
  gate = h.gate;
  gate_is = h.gate_is;
  epoch = h.epoch;
  traced = h.traced;
  area = h.area;
  area_is = h.area_is;
  room_is = h.room_is;
  live_is = h.live_is;
  short = h.short;
  size = h.size;
  size_is = h.size_is;
  no_flip = h.no_flip;
}
full_end n words count x _ h = tt

pub full_by : (n : ℕ) (words : List ℕ) (count : ℕ) (x : Held) (t : Told) → FullWhereTold n words (counted count x) t → FullWhereTold n words x t
full_by n words count x (Answers task (Trap end)) h = full_end n words count x end h
full_by n words count x _ h = tt

-- ---- an end

module _ (p : Plain) (m : ℕ) (q : Mutator) (why : End) (its : slice_get p.mutators m ≡ Some q) where
  abbrev with_end : Mutator
  with_end = record q { end = Some why }

  -- who answers by an end has it
  pub ended_is : (task : Task) → slice_get (after_answer p m task (Trap why) (slice_get p.mutators m)).mutators m ≡ Some with_end
  ended_is (Calls instr) = ap (λ (o : Option Mutator). slice_get (after_answer p m (Calls instr) (Trap why) o).mutators m) its ∙ slice_get-set_same p.mutators m with_end (slice_get_within p.mutators m q its)
  ended_is (Stops end) = ap (λ (o : Option Mutator). slice_get (after_answer p m (Stops end) (Trap why) o).mutators m) its ∙ slice_get-set_same p.mutators m with_end (slice_get_within p.mutators m q its)

-- and keeps its registers
pub ends_with : (p : Plain) (m : ℕ) (q : Mutator) (task : Task) (why : End) (w : Mutator) (registers : List ℕ) → slice_get p.mutators m ≡ Some q → slice_get (after_answer p m task (Trap why) (slice_get p.mutators m)).mutators m ≡ Some w
    → ShowsRegisters registers q → ShowsRegisters registers w
ends_with p m q task why w registers its was s =
    let new : Mutator = record q { end = Some why } in
    let same : new ≡ w = same_Some new w (sym (ended_is p m q why its task) ∙ was) in
    subst (ShowsRegisters registers) same (record { numbers = s.numbers; pointers = s.pointers })

-- ---- what is told as live

module _ (h : Heap) (p o : Plain) (stands : WorkersStand h p o) (x : Held) where
  live_end : (end : End) → FullByEnd h.pages h.words x end → LiveByEnd o end
  live_end (HeapFull asked room live) f = full_tells_live h p o x asked room live stands f
  live_end _ f = tt

  pub live_by : (t : Told) → FullWhereTold h.pages h.words x t → LiveWhereTold o t
  live_by (Answers task (Trap end)) f = live_end end f
  live_by _ f = tt
