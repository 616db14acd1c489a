-- A new heap of one mutator is alone, and has no more to pay than an instruction and its attaching.
use Rattle.std.proofs.Common.{◌≡◌, ℕ, ◌+◌, ◌<◌, ◌≤◌, Bool, length, refl, sym, ap, subst, arith}
use Rattle.heap_state.specs.Memory.Entries.{table_with}
use Rattle.heap_state.specs.Memory.Table.{Table, table_of}
use Rattle.heap_state.specs.Saving.Words.{Saves}
use Rattle.heap_laws.specs.Opening.{opening_entries}
use Rattle.space_map.specs.declared.spaces.TheConstants.{FEWEST_PAGES}
use Rattle.space_map.specs.Spaces.{IsPageCount, Layout, to_space}
use Rattle.gc_worker.specs.Laws.Between.{fresh_mutator, fresh_workers, opening_heap, opening_words}
use Rattle.gc_worker.specs.Laws.Step.{Heap, held_at, saves_in}
use Rattle.gc_worker.specs.Workers.Held.{Held}
use Rattle.gc_worker.proofs.Between.OpenedHeap.{are_opening}
use Rattle.lone_mutator.specs.Bound.{most_steps_of}
use Rattle.lone_mutator.specs.Law.{LoneHeapsOpen}
use Rattle.lone_mutator.specs.Lone.{IsLone, Remembers, potential}
use Rattle.lone_mutator.specs.Potential.{due_in, potential_in}
use Rattle.lone_mutator.specs.Saving.{saving_in}
use Rattle.lone_mutator.proofs.Epochs.Cost.{due_traced}
use Rattle.lone_mutator.proofs.Epochs.CheckpointDebt.{saving_in-le}
use Rattle.lone_mutator.proofs.Runs.MostSteps.{costs_lt_most, most_le_most_of}

module _ (prints : Bool) (l : Layout) (least : ℕ) (size : IsPageCount l.pages) (least_fits : FEWEST_PAGES ≤ least) (within : least ≤ l.pages) where
  abbrev x : Held
  x = fresh_mutator prints l 1 0

  abbrev h : Heap
  h = opening_heap prints l least 1 0

  -- the table before the first step
  abbrev t : Table
  t = table_of l.pages (opening_words l least)

  abbrev opened : Table
  opened = table_with l.pages (opening_entries l.pages least)

  says : t ≡ opened
  says = (are_opening l.pages least size least_fits within l.checkpoints).says

  one : length (fresh_workers prints l 1 0 1) ≡ 1
  unfolding fresh_workers
  one = refl

  first : held_at h 0 ≡ x
  unfolding fresh_workers
  first = refl

  remembers : (s : Saves) → Remembers opened s x
  remembers s = record { began = λ past. absurd past; quiet = λ k few others. refl; stands = (tt, tt) }

  -- the epoch is traced
  nothing_due : due_in l.pages opened ≡ 0
  nothing_due = due_traced l.pages 0 1 opened.weak_turn (opened.area (to_space 0)).owed opened.page refl

  cheap : (s : Saves) → potential_in l.pages opened x + saving_in l.checkpoints l.pages s < most_steps_of l
  cheap s =
      let none = nothing_due in
      let saving = saving_in-le l.checkpoints l.pages s in
      let few = costs_lt_most l.pages size.0 in
      let most = most_le_most_of l in
      omega (arith, none, saving, few, most)

  pub opens : IsLone h × (potential h < most_steps_of l)
  opens = (
    record {
      one = one;
      alone = refl;
      no_end = ap (λ (y : Held). y.account.end) first;
      remembers = subst (λ (y : Held). Remembers t (saves_in h) y) (sym first) (subst (λ (z : Table). Remembers z (saves_in h) x) (sym says) (remembers (saves_in h)));
    },
    subst (λ (y : Held). potential_in l.pages t y + saving_in l.checkpoints l.pages (saves_in h) < most_steps_of l) (sym first)
        (subst (λ (z : Table). potential_in l.pages z x + saving_in l.checkpoints l.pages (saves_in h) < most_steps_of l) (sym says) (cheap (saves_in h))),
  )

pub heaps_open : LoneHeapsOpen
heaps_open prints l least size least_fits within = opens prints l least size least_fits within
