-- What a core's code is owed: its core stays lawful, and each step that a worker wants may be made.
use Rattle.std.proofs.Common.{◌≡◌, ℕ, ◌<◌, ◌≤◌, List, length, Option, Some, None, refl, ap, ◌∙◌, arith, length-set}
use Rattle.std.specs.Prelude.{IsTrue}
use Rattle.mutator_asm.specs.declared.instr.Instr.{Instr}
use Rattle.mutator_asm.specs.declared.item.Item.{Item}
use Rattle.mutator_asm.specs.Program.{IsWellFormed}
use Rattle.plain_heap.specs.Order.{Story}
use Rattle.atom_store.specs.declared.step.Step.{Step}
use Rattle.atom_store.specs.Step.{place_in, reply_of}
use Rattle.gc_worker.specs.declared.stage.Stage.TheVariants.{Looks}
use Rattle.gc_worker.specs.Laws.Between.{IsIdle}
use Rattle.gc_worker.specs.Workers.Fits.{Fits, Takes, MayBegin}
use Rattle.gc_worker.specs.Laws.Step.{held_at, moved}
use Rattle.gc_worker.specs.Steps.Turned.{turned, told}
use Rattle.gc_worker.specs.Steps.Wanted.{wanted}
use Rattle.gc_worker.proofs.Between.Beginning.{tasks_may_begin}
use Rattle.gc_worker.proofs.Between.OpenedHeap.{heaps_open}
use Rattle.gc_worker.proofs.Between.Readying.{readying_stands}
use Rattle.gc_worker.proofs.StepKeeps.{steps_keep}
use Rattle.gc_worker.specs.declared.config.Config.{Config}
use Rattle.gc_core.specs.Core.{CoreState, opening_core, workers_of, has_sizes}
use Rattle.gc_core.specs.Event.{Event, event_of, event_by, core_after, ready, fetched_task}
use Rattle.gc_worker.specs.Steps.Stepped.{stepped_by}
use Rattle.gc_core.specs.Law.{IsLawful, story_met}
use Rattle.gc_core.proofs.Events.OpenedCore.{opening_lawful}
use Rattle.gc_core.proofs.Events.Readied.{readied_stands, looks_idle, may_begin}
use Rattle.gc_core.proofs.EventLaws.{events_stand}

-- ---- it stays lawful

pub lawful_after : (s : CoreState) (w : ℕ) → IsLawful s → IsLawful (core_after s w)
lawful_after s w l =
    let story : Story = record { flip = l.flip; now = l.plain } in
    let k = events_stand s w story l.steady l.stands in
    record { steady = k.steady; plain = (story_met s story (event_of s w)).now; flip = (story_met s story (event_of s w)).flip; stands = k.stands }

pub lawful_opening : (code : List (List Instr)) (items : List Item) (turns : ℕ) (config : Config) → IsWellFormed code items → IsTrue (has_sizes config) → turns ≤ 10000000 → config.scanners ≤ 8
    → IsLawful (opening_core code turns config)
lawful_opening = opening_lawful heaps_open

pub event_none : (s : CoreState) (w : ℕ) → wanted (ready s w) ≡ None → event_of s w ≡ record { told = (event_by s.heap w (ready s w) None).told; after = s.heap }
unfolding event_of
event_none s w e = rw e refl

pub event_some : (s : CoreState) (w : ℕ) (q : Step) → wanted (ready s w) ≡ Some q
    → event_of s w ≡ record { told = stepped_by w (told (ready s w) (reply_of q s.heap.words)); after = moved s.heap w (ready s w) q }
unfolding event_of
event_some s w q e = rw e refl

-- it has as many workers
pub workers_after : (s : CoreState) (w : ℕ) → workers_of (core_after s w) ≡ workers_of s
workers_after s w = by_want (wanted (ready s w)) refl
  where
    by_want : (o : Option Step) → wanted (ready s w) ≡ o → workers_of (core_after s w) ≡ workers_of s
    by_want None e = ap (λ (v : Event). length v.after.workers) (event_none s w e)
    by_want (Some q) e = ap (λ (v : Event). length v.after.workers) (event_some s w q e) ∙ length-set s.heap.workers w (turned (ready s w) (reply_of q s.heap.words))

-- ---- a worker's next step

-- the step is of a word of the table, the worker may take the reply and is sound then, and this is the event
pub record MakesEvent (s : CoreState) (w : ℕ) (q : Step) : Type 0 where
  pub fits_before : Fits s.heap.pages s.heap.mutators w (ready s w)
  pub place : place_in q < length s.heap.words
  pub takes : Takes (ready s w) (reply_of q s.heap.words)
  pub fits : Fits s.heap.pages s.heap.mutators w (turned (ready s w) (reply_of q s.heap.words))
  pub event : event_of s w ≡ record { told = stepped_by w (told (ready s w) (reply_of q s.heap.words)); after = moved s.heap w (ready s w) q }

pub ready_fits : (s : CoreState) (w : ℕ) → IsLawful s → w < workers_of s → Fits s.heap.pages s.heap.mutators w (ready s w)
ready_fits s w l below =
    let r = readied_stands readying_stands tasks_may_begin s w l.plain l.flip l.steady l.stands below in
    rw (r.holds, r.pages, r.mutators) at (r.stands.fit w r.below)

pub makes : (s : CoreState) (w : ℕ) (q : Step) → IsLawful s → w < workers_of s → wanted (ready s w) ≡ Some q → MakesEvent s w q
makes s w q l below e =
    let r = readied_stands readying_stands tasks_may_begin s w l.plain l.flip l.steady l.stands below in
    let k = steps_keep r.heap l.plain l.flip w (ready s w) q r.stands r.below r.holds e in
    record {
      fits_before = ready_fits s w l below;
      place = rw r.words at k.place;
      takes = rw r.words at k.takes;
      fits = rw (r.words, r.pages, r.mutators) at k.fits;
      event = event_some s w q e;
    }

-- ---- the task that it is given

-- who looks at the gate and has no task may be given the next one
pub record MayBeGiven (s : CoreState) (w : ℕ) : Type 0 where
  pub idle : IsIdle (held_at s.heap w)
  pub begins : MayBegin (held_at s.heap w).account (held_at s.heap w).registers (Some (fetched_task s.code s.turns w (held_at s.heap w)))

pub may_be_given : (s : CoreState) (w : ℕ) → IsLawful s → w < workers_of s → (held_at s.heap w).stage ≡ Looks → (held_at s.heap w).task ≡ None → MayBeGiven s w
may_be_given s w l below looks none =
    let x = held_at s.heap w in
    let idle = looks_idle readying_stands tasks_may_begin s w l.plain l.flip l.steady l.stands below looks none in
    let f = l.stands.fit w below in
    let few : w < s.heap.mutators = (let n = idle.is_mutator in let a = f.number in let b = f.beside in omega (arith, n, a, b)) in
    record { idle = idle; begins = may_begin s.code s.turns w x.account x.registers l.steady.valid l.steady.turns_fit (l.steady.on_task w few).counted }
