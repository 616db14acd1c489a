-- A run of one mutator gets on: each of its steps is paid, and an instruction pays for no more than the most steps of one.
use Rattle.std.proofs.Common.{◌≡◌, ℕ, zero, suc, ◌+◌, ◌*◌, ◌/◌, ◌<◌, ◌≤◌, ◌⊎◌, inl, inr, Bool, true, false, List, [], ◌∷◌, length, Option, Some, None, refl, sym, ap, subst, ◌∙◌, arith, get_or-set_same, set-set}
use Rattle.std.specs.Prelude.{is_some, nat_lt, IsTrue}
use Rattle.std.proofs.Math.Bool.{and-true}
use Rattle.std.proofs.Math.Nat.{div-lt_iff_lt-mul}
use Rattle.plain_state.specs.State.{Plain}
use Rattle.atom_store.specs.declared.step.Step.{Step}
use Rattle.atom_store.specs.Step.{words_after, reply_of}
use Rattle.mutator_asm.specs.declared.instr.Instr.{Instr}
use Rattle.mutator_asm.specs.declared.item.Item.{Item}
use Rattle.mutator_asm.specs.Program.{IsWellFormed}
use Rattle.space_map.specs.Spaces.{Layout}
use Rattle.gc_worker.specs.declared.config.Config.{Config}
use Rattle.gc_worker.specs.declared.config.TheConstants.{MOST_TURNS}
use Rattle.gc_worker.specs.declared.stage.Stage.{Stage}
use Rattle.gc_worker.specs.declared.stage.Stage.TheVariants.{Looks, Gone}
use Rattle.gc_worker.specs.declared.task.Task.{Task}
use Rattle.gc_worker.specs.Laws.Between.{fresh_workers, opening_heap, with_task, with_worker}
use Rattle.gc_worker.specs.Workers.Fits.{Fits, IsGoneBy}
use Rattle.gc_worker.specs.Workers.Held.{Held}
use Rattle.gc_worker.specs.Laws.Step.{Heap, WorkersStand, held_at, layout_of, moved, nobody}
use Rattle.gc_worker.specs.Steps.Stepped.{awaits, awaits_at}
use Rattle.gc_worker.specs.declared.calls.did.Did.TheVariants.{Done, Trap}
use Rattle.gc_worker.specs.Steps.Turned.{Told, Answers, told, turned}
use Rattle.gc_worker.specs.Steps.Wanted.{wanted}
use Rattle.gc_worker.proofs.Between.Beginning.{tasks_may_begin}
use Rattle.gc_worker.proofs.Between.Readying.{readying_stands}
use Rattle.gc_worker.proofs.Between.Wanting.{workers_want}
use Rattle.gc_core.specs.Core.{CoreState, opening_core, has_sizes, layout_by}
use Rattle.gc_core.specs.Event.{Event, event_of, core_after, ready, fetched_task}
use Rattle.gc_core.specs.Law.{IsLawful}
use Rattle.gc_core.specs.Run.{all_ended, run_from}
use Rattle.gc_core.proofs.Events.OpenedCore.{limit_fits, sizes_fit}
use Rattle.gc_core.proofs.Events.Tasks.{at_look}
use Rattle.gc_core.proofs.Events.Readied.{readied_awaits, readied_rests}
use Rattle.gc_core.proofs.Events.Lawful.{event_none, event_some, lawful_after, lawful_opening, may_be_given, workers_after}
use Rattle.lone_mutator.specs.Bound.{most_steps_of}
use Rattle.lone_mutator.specs.Law.{AfterStep}
use Rattle.lone_mutator.specs.Lone.{IsLone, potential}
use Rattle.lone_mutator.specs.Runs.{has_end, executed_by, KeepsPace, LoneMutatorsGoOn}
use Rattle.lone_mutator.proofs.Runs.Tasks.{tasks_begin}
use Rattle.lone_mutator.proofs.Runs.MostSteps.{costs_lt_most, most_le_most_of}
use Rattle.lone_mutator.proofs.Runs.LoneOpening.{heaps_open}
use Rattle.lone_mutator.proofs.Steps.Law.{lone_steps_lower}

-- ---- its end

-- where it is the only worker, all have ended exactly where it has
ended_by : (workers : List Held) → length workers ≡ 1 → (s : CoreState) → s.heap.mutators ≡ 1 → s.heap.workers ≡ workers → all_ended s ≡ has_end s 0
ended_by [] one s alone are = absurd (omega (arith, one))
ended_by (x ∷ []) one s alone are = rw (alone, are) (and-true (is_some x.account.end))
ended_by (x ∷ y ∷ rest) one s alone are = absurd (omega (arith, one))

pub ended_is : (s : CoreState) → IsLone s.heap → all_ended s ≡ has_end s 0
ended_is s lone = ended_by s.heap.workers lone.one s lone.alone refl

-- ---- the heap in which it has its task

pub record CoreIsReady (s : CoreState) (p o : Plain) : Type 0 where
  pub heap : Heap
  pub stands : WorkersStand heap p o
  pub lone : IsLone heap
  pub holds : held_at heap 0 ≡ ready s 0
  pub words : heap.words ≡ s.heap.words
  pub layout : layout_of heap ≡ layout_of s.heap
  pub moves : (x : Held) (q : Step) → moved heap 0 x q ≡ moved s.heap 0 x q
  pub paid : potential heap ≡ potential s.heap
  pub counted : (ready s 0).account.executed ≡ executed_by s 0
  pub has_task : awaits (ready s 0) ≡ false

module _ (s : CoreState) (l : IsLawful s) (lone : IsLone s.heap) where
  abbrev x : Held
  x = held_at s.heap 0

  abbrev task : Task
  task = fetched_task s.code s.turns 0 x

  abbrev given : Held
  given = with_task x task

  below : 0 < length s.heap.workers
  below = let one = lone.one in omega (arith, one)

  given_awaits : (stage : Stage) → awaits_at stage (Some task) ≡ false
  given_awaits Looks = refl
  given_awaits stage = refl

  ready_by : (b : Bool) → awaits x ≡ b → CoreIsReady s l.plain l.flip
  ready_by true waits =
      let is = readied_awaits s.code s.turns 0 x waits in
      let at = at_look x.stage x.task waits in
      let may = may_be_given s 0 l below at.0 at.1 in
      let begins = tasks_begin s.heap task lone in
      record {
        heap = with_worker s.heap 0 given;
        stands = readying_stands s.heap l.plain l.flip 0 given l.stands below (tasks_may_begin s.heap.pages s.heap.mutators 0 x task (l.stands.fit 0 below) may.idle may.begins);
        lone = begins.0;
        holds = get_or-set_same s.heap.workers 0 given nobody below ∙ sym is;
        words = refl;
        layout = refl;
        moves = λ y q. ap (λ (ks : List Held). record s.heap { words = words_after q s.heap.words; workers = ks }) (set-set s.heap.workers 0 given (turned y (reply_of q s.heap.words)));
        paid = begins.1;
        counted = ap (λ (z : Held). z.account.executed) is;
        has_task = ap awaits is ∙ given_awaits x.stage;
      }
  ready_by false waits =
      let is = readied_rests s.code s.turns 0 x waits in
      record {
        heap = s.heap;
        stands = l.stands;
        lone = lone;
        holds = sym is;
        words = refl;
        layout = refl;
        moves = λ y q. refl;
        paid = refl;
        counted = ap (λ (z : Held). z.account.executed) is;
        has_task = ap awaits is ∙ waits;
      }

  is_ready : CoreIsReady s l.plain l.flip
  is_ready = ready_by (awaits x) refl

-- ---- it wants a step

wants_some : (h : Heap) (p o : Plain) → WorkersStand h p o → IsLone h → wanted (held_at h 0) ≡ None → ⊥
wants_some h p o stands lone none =
    let x = held_at h 0 in
    let fits : Fits h.pages h.mutators 0 x = stands.fit 0 (let one = lone.one in omega (arith, one)) in
    let gone : x.stage ≡ Gone = (workers_want h.pages h.mutators 0 x fits).0 none in
    let first : nat_lt x.number x.mutators ≡ true = rw (fits.number, fits.beside, lone.alone) refl in
    let side : IsGoneBy true (is_some x.account.end) = rw (gone, first) at fits.side in
    let end : is_some x.account.end ≡ false = ap is_some lone.no_end in
    absurd (let e : false ≡ true = sym end ∙ side in cc)

-- ---- a step

-- the most steps of an instruction
abbrev most : CoreState → ℕ
most s = most_steps_of (layout_of s.heap)

-- what one more instruction pays, and what none does
one_pays : (most left before executed : ℕ) → left < most → left + 1 + most * executed ≤ before + most * (executed + 1)
one_pays most left before executed less = omega (arith, less)

none_pays : (most left before executed : ℕ) → left < before → left + 1 + most * executed ≤ before + most * executed
none_pays most left before executed less = omega (arith, less)

-- The heap is lone after it, and what a step costs is paid by what was to be paid before or by an instruction that was executed; or
-- the mutator has its end.
data Went (s : CoreState) (h : Heap) : Type 0 where
  GoesOn : IsLone h → potential h + 1 + most s * executed_by s 0 ≤ potential s.heap + most s * (held_at h 0).account.executed → Went s h
  Stops : is_some (held_at h 0).account.end ≡ true → Went s h

module _ (s : CoreState) (l : IsLawful s) (r : CoreIsReady s l.plain l.flip) where
  was : (held_at r.heap 0).account.executed ≡ executed_by s 0
  was = ap (λ (z : Held). z.account.executed) r.holds ∙ r.counted

  module _ (h : Heap) where
    silent : IsLone h × (potential h < potential r.heap) × ((held_at h 0).account.executed ≡ (held_at r.heap 0).account.executed) → Went s h
    silent after = GoesOn after.0 (rw (after.2, was) (none_pays (most s) (potential h) (potential s.heap) (executed_by s 0) (rw r.paid at after.1)))

    less : potential h < most_steps_of (layout_of r.heap) → potential h < most s
    less = subst (λ (l : Layout). potential h < most_steps_of l) r.layout

    went_by : (t : Told) → AfterStep r.heap h t → Went s h
    went_by (Answers task Done) after = GoesOn after.0 (rw (after.2, was) (one_pays (most s) (potential h) (potential s.heap) (executed_by s 0) (less after.1)))
    went_by (Answers task (Trap end)) after = Stops (ap is_some after)
    went_by _ after = silent after

  went_of : (o : Option Step) → wanted (ready s 0) ≡ o → Went s (event_of s 0).after
  went_of None none = absurd (wants_some r.heap l.plain l.flip r.stands r.lone (ap wanted r.holds ∙ none))
  went_of (Some q) asks =
      let after = lone_steps_lower r.heap l.plain l.flip (ready s 0) q r.stands r.lone r.holds r.has_task asks in
      let same : moved r.heap 0 (ready s 0) q ≡ (event_of s 0).after = r.moves (ready s 0) q ∙ sym (ap (λ (e : Event). e.after) (event_some s 0 q asks)) in
      subst (Went s) same (went_by (moved r.heap 0 (ready s 0) q) (told (ready s 0) (reply_of q r.heap.words)) after)

-- ---- a run

-- what one step and the others pay
adds_up : (n most most_then before after executed then last : ℕ) → most_then ≡ most → after + 1 + most * executed ≤ before + most * then → n + most_then * then ≤ after + most_then * last
    → suc n + most * executed ≤ before + most * last
adds_up n most most_then before after executed then last same one others = let rest = rw same at others in omega (arith, one, rest)

-- in so many steps from a core on
abbrev Paces : (steps : ℕ) → (s last : CoreState) → Type 0
Paces steps s last = (has_end last 0 ≡ true) ⊎ (steps + most s * executed_by s 0 ≤ potential s.heap + most s * executed_by last 0)

module _ (schedule : ℕ → ℕ) (alone : (at : ℕ) → schedule at ≡ 0) where
  run_ends : (n at : ℕ) (s : CoreState) → all_ended s ≡ true → (run_from schedule at n s).last ≡ s
  unfolding run_from
  run_ends zero at s ended = refl
  run_ends (suc n) at s ended = rw ended refl

  module _ (s : CoreState) (l : IsLawful s) (lone : IsLone s.heap) where
    later_layout : (o : Option Step) → wanted (ready s 0) ≡ o → layout_of (event_of s 0).after ≡ layout_of s.heap
    later_layout None e = ap (λ (v : Event). layout_of v.after) (event_none s 0 e)
    later_layout (Some q) e = ap (λ (v : Event). layout_of v.after) (event_some s 0 q e)

    later_mutators : (o : Option Step) → wanted (ready s 0) ≡ o → (event_of s 0).after.mutators ≡ s.heap.mutators
    later_mutators None e = ap (λ (v : Event). v.after.mutators) (event_none s 0 e)
    later_mutators (Some q) e = ap (λ (v : Event). v.after.mutators) (event_some s 0 q e)

    goes : (n : ℕ) (last : CoreState)
        → potential (core_after s 0).heap + 1 + most s * executed_by s 0 ≤ potential s.heap + most s * executed_by (core_after s 0) 0
        → Paces n (core_after s 0) last → Paces (suc n) s last
    goes n last paid (inl ended) = inl ended
    goes n last paid (inr rest) = inr (adds_up n (most s) (most (core_after s 0)) (potential s.heap) (potential (core_after s 0).heap) (executed_by s 0)
        (executed_by (core_after s 0) 0) (executed_by last 0) (ap most_steps_of (later_layout (wanted (ready s 0)) refl)) paid rest)

    module _ (n at : ℕ) (rest : IsLone (core_after s 0).heap → Paces n (core_after s 0) (run_from schedule (at + 1) n (core_after s 0)).last) where
      by_step : Went s (core_after s 0).heap → Paces (suc n) s (run_from schedule (at + 1) n (core_after s 0)).last
      by_step (GoesOn after paid) = goes n (run_from schedule (at + 1) n (core_after s 0)).last paid (rest after)
      by_step (Stops end) =
          let one = workers_after s 0 ∙ lone.one in
          let single = later_mutators (wanted (ready s 0)) refl ∙ lone.alone in
          let over = ended_by (core_after s 0).heap.workers one (core_after s 0) single refl ∙ end in
          inl (rw (run_ends n (at + 1) (core_after s 0) over) end)

      steps_so : Paces (suc n) s (run_from schedule at (suc n) s).last
      unfolding run_from
      steps_so =
          let running : all_ended s ≡ false = ended_is s lone ∙ ap is_some lone.no_end in
          rw (running, alone at) (by_step (went_of s l (is_ready s l lone) (wanted (ready s 0)) refl))

  paces : (n at : ℕ) (s : CoreState) → IsLawful s → IsLone s.heap → Paces n s (run_from schedule at n s).last
  unfolding run_from
  paces zero at s l lone = inr (omega arith)
  paces (suc n) at s l lone = steps_so s l lone n at (λ after. paces n (at + 1) (core_after s 0) (lawful_after s 0 l) after)

-- ---- from the opening on

pace : (most steps executed paid : ℕ) → 0 < most → paid < most → steps ≤ paid + most * executed → steps / most ≤ executed
pace most steps executed paid some less few =
    let below : steps / most < executed + 1 = (div-lt_iff_lt-mul some).1 (omega (arith, less, few)) in
    omega (arith, below)

first_executed : (l : Layout) (least : ℕ) → (held_at (opening_heap true l least 1 0) 0).account.executed ≡ 0
unfolding fresh_workers
first_executed l least = refl

module _ (section : List Instr) (items : List Item) (turns : ℕ) (config : Config) (program : IsWellFormed (section ∷ []) items) (size : IsTrue (has_sizes config))
    (turns_fit : turns ≤ MOST_TURNS) (none : config.scanners ≡ 0) where
  abbrev first : CoreState
  first = opening_core (section ∷ []) turns config

  abbrev l : Layout
  l = layout_by config

  heap_is : first.heap ≡ opening_heap true l config.pages 1 0
  heap_is = ap (opening_heap true l config.pages 1) none

  begins : IsLone first.heap × (potential first.heap < most_steps_of l)
  begins = subst (λ (h : Heap). IsLone h × (potential h < most_steps_of l)) (sym heap_is) (let fit = sizes_fit config size in heaps_open true l config.pages (limit_fits config size) fit.0 fit.1)

  some : 0 < most_steps_of l
  some = let bound = costs_lt_most config.limit (limit_fits config size).0 in let most = most_le_most_of l in omega (arith, bound, most)

  keeps_pace : (steps : ℕ) (last : CoreState) → Paces steps first last → KeepsPace l steps last
  keeps_pace steps last (inl ended) = inl ended
  keeps_pace steps last (inr paid) =
      let zero_first : executed_by first 0 ≡ 0 = ap (λ (h : Heap). (held_at h 0).account.executed) heap_is ∙ first_executed l config.pages in
      let all = rw zero_first at paid in
      inr (pace (most_steps_of l) steps (executed_by last 0) (potential first.heap) some begins.1 (omega (arith, all)))

pub lone_mutators_go_on : LoneMutatorsGoOn
lone_mutators_go_on section items turns config schedule steps program size turns_fit none alone =
    keeps_pace section items turns config program size turns_fit none steps (run_from schedule 0 steps (opening_core (section ∷ []) turns config)).last
    (paces schedule alone steps 0 (opening_core (section ∷ []) turns config)
    (lawful_opening (section ∷ []) items turns config program size turns_fit (omega (arith, none)))
    (begins section items turns config program size turns_fit none).0)
