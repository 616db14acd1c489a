-- What a core's step needs of its worker, and what it leaves.
use Rattle.std.proofs.Common.{◌≡◌, ℕ, ◌<◌, ◌≤◌, Bool, true, false, nat_le, List, length, set, Option, Some, None, Err, refl, ap, sym, subst, ◌∙◌, arith, leb-false}
use Rattle.std.specs.Option.{ok_or}
use Rattle.std.specs.Prelude.{if◌then◌else◌}
use Rattle.std.proofs.lemmas.List.{set-get_or}
use Rattle.std.proofs.lemmas.Option.{slice_get_within}
use Rattle.plain_state.specs.declared.end.End.TheVariants.{TurnsOut, JumpOut}
use Rattle.plain_state.specs.State.{Mutator}
use Rattle.mutator_asm.specs.declared.instr.Instr.{Instr}
use Rattle.mutator_asm.specs.Program.{instr_at}
use Rattle.atom_store.specs.declared.reply.Reply.{Reply}
use Rattle.atom_store.specs.declared.step.Step.{Step}
use Rattle.atom_store.specs.Step.{reply_of}
use Rattle.gc_worker.specs.declared.stage.Stage.{Stage}
use Rattle.gc_worker.specs.declared.task.Task.{Task}
use Rattle.gc_worker.specs.declared.task.Task.TheVariants.{Calls, Stops}
use Rattle.gc_worker.specs.Plain.Answer.{ComesTo, IsAnswered, MayCome}
use Rattle.gc_worker.specs.Workers.Fits.{Fits}
use Rattle.gc_worker.specs.Workers.Held.{Held}
use Rattle.heap_state.specs.Known.{Account}
use Rattle.gc_worker.specs.Laws.Step.{StepKeeps, held_at, nobody}
use Rattle.gc_worker.specs.Steps.Made.{AllowsStep, MayMake, step_made, step_made_by}
use Rattle.gc_worker.specs.Steps.Stepped.{IsSound, awaits, stepped_by}
use Rattle.gc_worker.specs.declared.calls.did.Did.TheVariants.{Done}
use Rattle.gc_worker.specs.Steps.Turned.{Told, Answers, told, turned}
use Rattle.gc_worker.specs.Steps.Wanted.{wanted, wanted_at}
use Rattle.gc_worker.proofs.Between.Beginning.{tasks_may_begin}
use Rattle.gc_worker.proofs.Between.KeptTasks.{workers_go_on}
use Rattle.gc_worker.proofs.Between.Readying.{readying_stands}
use Rattle.gc_worker.proofs.Between.StandingHeaps.{what_stands_is_so}
use Rattle.gc_worker.proofs.StepKeeps.{steps_keep}
use Rattle.gc_worker.specs.declared.steps.stepped.Stepped.TheVariants as tells
use Rattle.gc_worker.specs.Plain.Marks.{task_of}
use Rattle.gc_core.specs.Core.{CoreState, workers_of}
use Rattle.gc_core.specs.Event.{Event, core_after, event_of, fetched_task, readied, ready}
use Rattle.gc_core.specs.Law.{IsLawful}
use Rattle.gc_core.proofs.Events.Readied.{Due, Begins, Rests, ReadyToStep, due, readied_stands, ready_task, ready_account}
use Rattle.gc_core.proofs.Events.Tasks.{idle_by}
use Rattle.gc_core.proofs.Events.Lawful.{event_none, event_some, makes, ready_fits}

-- a worker that fits a heap is sound
sound_by : (n mutators k : ℕ) (x : Held) → Fits n mutators k x → IsSound x
sound_by n mutators k x f = subst (λ (j : ℕ). Fits x.layout.pages x.mutators j x) (sym f.number)
    (subst (λ (m : ℕ). Fits x.layout.pages m k x) (sym f.beside) (subst (λ (pages : ℕ). Fits pages mutators k x) (sym f.pages) f))

-- who executes an instruction has turns left
has_turns : (code : List (List Instr)) (turns m : ℕ) (x : Held) (instr : Instr) → Calls instr ≡ fetched_task code turns m x → x.account.executed < turns
has_turns code turns m x instr is = by_turns (nat_le turns x.account.executed) refl
  where
    by_turns : (b : Bool) → nat_le turns x.account.executed ≡ b → x.account.executed < turns
    by_turns false e = leb-false turns x.account.executed e
    by_turns true e = absurd (let stops : Calls instr ≡ Stops TurnsOut = is ∙ ap (λ (b : Bool). task_of (if b then Err TurnsOut else ok_or (instr_at code m x.account.counter) JumpOut)) e in cc)

-- an effect answers a task
effect_of : (k m : ℕ) (t : Told) → stepped_by k t ≡ tells.Effect m → (task : Task) × (t ≡ Answers task Done)
effect_of k m (Answers task Done) is = (task, refl)
effect_of k m _ is = absurd (cc)

module _ (s : CoreState) (w : ℕ) (lawful : IsLawful s) (below : w < length s.heap.workers) where
  abbrev x : Held
  x = held_at s.heap w

  abbrev y : Held
  y = ready s w

  held_sound : IsSound x
  held_sound = sound_by s.heap.pages s.heap.mutators w x (lawful.stands.fit w below)

  held_counts : awaits x ≡ true → x.account.serial ≤ x.account.executed
  held_counts is =
      let idle = idle_by x held_sound is in
      let f = lawful.stands.fit w below in
      (lawful.steady.on_task w (let n = idle.is_mutator in let a = f.number in let b = f.beside in omega (arith, n, a, b))).counted

  r : ReadyToStep s w lawful.plain lawful.flip
  r = readied_stands readying_stands tasks_may_begin s w lawful.plain lawful.flip lawful.steady lawful.stands below

  fits : Fits s.heap.pages s.heap.mutators w y
  fits = ready_fits s w lawful below

  ready_sound : IsSound y
  ready_sound = sound_by s.heap.pages s.heap.mutators w y fits

  -- ---- a step

  module _ (q : Step) (asked : wanted y ≡ Some q) where
    abbrev reply : Reply
    reply = reply_of q s.heap.words

    keeps : StepKeeps r.heap lawful.plain lawful.flip w y q
    keeps = steps_keep r.heap lawful.plain lawful.flip w y q r.stands r.below r.holds asked

    pub turned_sound : IsSound (turned y reply)
    turned_sound = sound_by s.heap.pages s.heap.mutators w (turned y reply) (makes s w q lawful below asked).fits

    pub room : (m : ℕ) → stepped_by y.number (told y reply) ≡ tells.Effect m → y.account.executed < 4294967295
    room m is =
        let effect = effect_of y.number m (told y reply) is in
        let comes : ComesTo lawful.plain w effect.0 Done = subst (IsAnswered lawful.plain w) effect.1 (rw r.words at keeps.answered) in
        let so = what_stands_is_so r.heap lawful.plain lawful.flip r.stands in
        let few : w < s.heap.mutators = (let l = slice_get_within lawful.plain.mutators w comes.mutator comes.is in let n = so.as_many in let k = r.mutators in omega (arith, l, n, k)) in
        let answer = (workers_go_on s.heap.pages s.heap.mutators w y reply fits).answers effect.0 Done effect.1 in
        let turns = by_task comes.mutator effect.0 comes.may (ready_task s w lawful.steady few effect.0 answer.asked) in
        let same = ready_account s w in
        let left : y.account.executed < s.turns = subst (λ (a : Account). a.executed < s.turns) (sym same) turns in
        let most = lawful.steady.turns_fit in
        omega (arith, left, most)
      where
        by_task : (q : Mutator) (task : Task) → MayCome w lawful.plain.heap q task Done → task ≡ fetched_task s.code s.turns w x → x.account.executed < s.turns
        by_task q (Calls instr) may is = has_turns s.code s.turns w x instr is
        by_task q (Stops end) may is = absurd may

-- the core in which worker w holds x, on these words
abbrev pub with_step : CoreState → ℕ → Held → List ℕ → CoreState
with_step s w x words = record s { heap = record s.heap { words = words; workers = set s.heap.workers w x } }

-- who wants nothing was given nothing
pub idle_same : (s : CoreState) (w : ℕ) → wanted (ready s w) ≡ None → ready s w ≡ held_at s.heap w
idle_same s w none = by_due (due s.code s.turns w (held_at s.heap w))
  where
    by_due : Due s.code s.turns w (held_at s.heap w) → ready s w ≡ held_at s.heap w
    by_due (Rests is) = is
    by_due (Begins stage task is) = absurd (let e = sym none ∙ (ap wanted is ∙ ap (λ (stage : Stage). wanted_at (held_at s.heap w) stage) stage) in cc)

-- ---- the step that a worker makes

module _ (s : CoreState) (w : ℕ) (lawful : IsLawful s) (below : w < workers_of s) where
  abbrev worker : Held
  worker = ready s w

  abbrev on : List ℕ
  on = s.heap.words

  may_by : (o : Option Step) → wanted worker ≡ o → AllowsStep worker on o
  may_by None none = tt
  may_by (Some q) asked = let m = makes s w q lawful below asked in record { place = m.place; takes = m.takes; fits = turned_sound s w lawful below q asked }

  room_by : (o : Option Step) → wanted worker ≡ o → (m : ℕ) → (step_made_by worker on o).told ≡ tells.Effect m → worker.account.executed < 4294967295
  room_by None none m is = absurd (cc)
  room_by (Some q) asked m is = room s w lawful below q asked m is

  told_by : (o : Option Step) → wanted worker ≡ o → (step_made_by worker on o).told ≡ (event_of s w).told
  told_by None none = sym (ap (λ (e : Event). e.told) (event_none s w none))
  told_by (Some q) asked =
      ap (λ (k : ℕ). stepped_by k (told worker (reply_of q on))) (ready_fits s w lawful below).number
      ∙ ap (λ (e : Event). e.told) (sym (event_some s w q asked))

  core_by : (o : Option Step) → wanted worker ≡ o → with_step s w (step_made_by worker on o).held (step_made_by worker on o).words ≡ core_after s w
  core_by None none =
      ap (λ (ks : List Held). record s { heap = record s.heap { workers = ks } }) (ap (set s.heap.workers w) (idle_same s w none) ∙ set-get_or s.heap.workers w nobody)
      ∙ sym (ap (λ (e : Event). record s { heap = e.after }) (event_none s w none))
  core_by (Some q) asked = sym (ap (λ (e : Event). record s { heap = e.after }) (event_some s w q asked))

-- x is worker w of a lawful core
pub record IsWorkerOfCore (s : CoreState) (w : ℕ) (x : Held) : Type 0 where
  pub lawful : IsLawful s
  pub below : w < workers_of s
  pub held : x ≡ held_at s.heap w

-- and that worker, once it was made ready
pub record WorkerIsReady (s : CoreState) (w : ℕ) (x : Held) : Type 0 where
  pub lawful : IsLawful s
  pub below : w < workers_of s
  pub made_ready : x ≡ ready s w

module _ (s : CoreState) (w : ℕ) (x : Held) (is : IsWorkerOfCore s w x) where
  -- it may be made ready
  pub readies_soundly : IsSound x
  readies_soundly = subst IsSound (sym is.held) (held_sound s w is.lawful is.below)

  pub has_counted : awaits x ≡ true → x.account.serial ≤ x.account.executed
  has_counted = subst (λ (y : Held). awaits y ≡ true → y.account.serial ≤ y.account.executed) (sym is.held) (held_counts s w is.lawful is.below)

  pub is_ready : (y : Held) → y ≡ readied s.code s.turns w x → WorkerIsReady s w y
  is_ready y made = record { lawful = is.lawful; below = is.below; made_ready = made ∙ ap (readied s.code s.turns w) is.held }

module _ (s : CoreState) (w : ℕ) (x : Held) (is : WorkerIsReady s w x) where
  pub steps_soundly : IsSound x
  steps_soundly = subst IsSound (sym is.made_ready) (ready_sound s w is.lawful is.below)

  -- it may make its step
  pub may_step : MayMake x s.heap.words
  may_step = subst (λ (y : Held). MayMake y s.heap.words) (sym is.made_ready) (may_by s w is.lawful is.below (wanted (ready s w)) refl)

  pub has_room : (m : ℕ) → (step_made x s.heap.words).told ≡ tells.Effect m → x.account.executed < 4294967295
  has_room =
      subst (λ (y : Held). (m : ℕ) → (step_made y s.heap.words).told ≡ tells.Effect m → y.account.executed < 4294967295) (sym is.made_ready)
      (room_by s w is.lawful is.below (wanted (ready s w)) refl)

  -- what is told of the step is told of the event
  pub stepped_told : (step_made x s.heap.words).told ≡ (event_of s w).told
  stepped_told = ap (λ (y : Held). (step_made y s.heap.words).told) is.made_ready ∙ told_by s w is.lawful is.below (wanted (ready s w)) refl

  -- and the core that it leaves is the one after the event
  pub stepped_core : (z : Held) (words : List ℕ) → z ≡ (step_made x s.heap.words).held → words ≡ (step_made x s.heap.words).words → with_step s w z words ≡ core_after s w
  stepped_core z words z_is words_is =
      (λ i. with_step s w (z_is i) (words_is i))
      ∙ (ap (λ (y : Held). with_step s w (step_made y s.heap.words).held (step_made y s.heap.words).words) is.made_ready
      ∙ core_by s w is.lawful is.below (wanted (ready s w)) refl)
