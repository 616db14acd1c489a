-- A task that is given to a lone mutator changes nothing of what it remembers or has to pay.
use Rattle.std.proofs.Common.{◌≡◌, ◌+◌, sym, ap, subst, ◌∙◌, arith, get_or-set_same, length-set}
use Rattle.heap_state.specs.Configuration.{table}
use Rattle.heap_state.specs.Memory.Table.{Table}
use Rattle.heap_state.specs.Saving.Words.{Saves}
use Rattle.gc_worker.specs.declared.task.Task.{Task}
use Rattle.gc_worker.specs.Laws.Between.{with_task, with_worker}
use Rattle.gc_worker.specs.Workers.Held.{Held}
use Rattle.gc_worker.specs.Laws.Step.{Heap, held_at, nobody, read, saves_in}
use Rattle.lone_mutator.specs.Law.{LoneTasksBegin}
use Rattle.lone_mutator.specs.Lone.{IsLone, Remembers, potential}
use Rattle.lone_mutator.specs.Potential.{potential_in}
use Rattle.lone_mutator.specs.Saving.{saving_in}

same_memory : (t : Table) (s : Saves) (x : Held) (task : Task) → Remembers t s x → Remembers t s (with_task x task)
same_memory t s x task is = record { began = is.began; quiet = is.quiet; stands = is.stands }

module _ (h : Heap) (task : Task) (lone : IsLone h) where
  abbrev given : Held
  given = with_task (held_at h 0) task

  holds : held_at (with_worker h 0 given) 0 ≡ given
  holds = get_or-set_same h.workers 0 given nobody (let one = lone.one in omega (arith, one))

  begins : IsLone (with_worker h 0 given) × (potential (with_worker h 0 given) ≡ potential h)
  begins = (
    record {
      one = length-set h.workers 0 given ∙ lone.one;
      alone = lone.alone;
      no_end = ap (λ (z : Held). z.account.end) holds ∙ lone.no_end;
      remembers = subst (λ (z : Held). Remembers (table (read h)) (saves_in h) z) (sym holds) (same_memory (table (read h)) (saves_in h) (held_at h 0) task lone.remembers);
    },
    ap (λ (z : Held). potential_in h.pages (table (read h)) z + saving_in h.checkpoints h.pages (saves_in h)) holds,
  )

pub tasks_begin : LoneTasksBegin
tasks_begin h task lone = begins h task lone
