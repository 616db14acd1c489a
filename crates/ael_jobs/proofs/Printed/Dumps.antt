-- What the dump of a run tells is a dump of a heap.
use Rattle.std.proofs.Common.{◌≡◌, ℕ, ◌+◌, ◌≤◌, Bool, true, false, Option, Some, None, length, map, refl, ◌∙◌, arith}
use Rattle.std.proofs.lemmas.Bool.Decides.{nat_tests}
use Rattle.std.proofs.lemmas.List.{length-map, length-take-le}
use Rattle.space_map.specs.declared.spaces.TheConstants.{MOST_MUTATORS, MOST_SCANNERS}
use Rattle.space_map.specs.Spaces.{IsPageCount}
use Rattle.space_map.specs.Table.{table_length, whole_length}
use Rattle.heap_state.specs.Kept.{kept_by}
use Rattle.heap_state.specs.Known.{Known}
use Rattle.dump_text.specs.Text.{IsDump, are_counts}
use Rattle.gc_worker.specs.Laws.Step.{layout_of}
use Rattle.gc_worker.specs.Workers.Held.{Held}
use Rattle.gc_worker.specs.Workers.Knows.{knows}
use Rattle.gc_core.specs.Core.{CoreState, workers_of}
use Rattle.gc_core.specs.Dumped.{dumped}
use Rattle.gc_core.specs.Readers.{kept_in, mutators_in, registers_in}
use Rattle.gc_core.specs.Event.{core_after, event_of, ready}
use Rattle.gc_core.specs.Run.{run_from}
use Rattle.gc_core.proofs.Events.Lawful.{workers_after}
use Rattle.gc_core.proofs.Runs.EventByEvent.{run_keeps}
use Rattle.gc_worker.specs.Steps.Wanted.{wanted}
use Rattle.ael_jobs.specs.Runs.Told.{TellsWords}

table_within : (room : Bool) (n : ℕ) → table_length n ≤ whole_length (record { pages = n; checkpoints = room })
table_within true n = omega arith
table_within false n = omega arith

counts_pass : (pages mutators workers : ℕ) → IsPageCount pages → 1 ≤ mutators → mutators ≤ MOST_MUTATORS → mutators ≤ workers → workers ≤ mutators + MOST_SCANNERS
    → are_counts (record { pages = pages; mutators = mutators; workers = workers }) ≡ true
counts_pass pages mutators workers count some few enough most = let least = count.0 in let greatest = count.1 in grind (arith, nat_tests)

-- so many mutators and scanners, with a whole table
pub record IsOfSize (s : CoreState) : Type 0 where
  pub count : IsPageCount s.heap.pages
  pub mutators : (1 ≤ s.heap.mutators) × (s.heap.mutators ≤ MOST_MUTATORS)
  pub workers : (s.heap.mutators ≤ workers_of s) × (workers_of s ≤ s.heap.mutators + MOST_SCANNERS)
  pub whole : whole_length (layout_of s.heap) ≤ length s.heap.words

module _ (s : CoreState) (size : IsOfSize s) where
  registers_many : length (registers_in s) ≡ s.heap.mutators
  registers_many = length-map (mutators_in s) (λ (x : Held). x.registers) ∙ length-take-le s.heap.mutators s.heap.workers size.workers.0

  kept_many : length (kept_in s) ≡ workers_of s
  kept_many = length-map (map knows s.heap.workers) (λ (w : Known). kept_by w.copy) ∙ length-map s.heap.workers knows

  pub dump_is : TellsWords (dumped s) → IsDump (dumped s)
  dump_is told = record {
    counts = rw (registers_many, kept_many) (counts_pass s.heap.pages s.heap.mutators (workers_of s) size.count size.mutators.0 size.mutators.1 size.workers.0 size.workers.1);
    registers = told.registers;
    kept = told.kept;
    words = told.words;
    length = length-take-le (table_length s.heap.pages) s.heap.words (let within = table_within s.heap.checkpoints s.heap.pages in let whole = size.whole in omega (arith, within, whole));
  }

-- ---- a run by a schedule

event_mutators : (s : CoreState) (w : ℕ) → (core_after s w).heap.mutators ≡ s.heap.mutators
unfolding event_of
event_mutators s w = by_want (wanted (ready s w)) refl
  where
    by_want : (o : Option _) → wanted (ready s w) ≡ o → (core_after s w).heap.mutators ≡ s.heap.mutators
    by_want None e = rw e refl
    by_want (Some q) e = rw e refl

-- it leaves the mutators and workers in their number
pub run_many : (schedule : ℕ → ℕ) (at n : ℕ) (s : CoreState) → ((run_from schedule at n s).last.heap.mutators ≡ s.heap.mutators) × (workers_of (run_from schedule at n s).last ≡ workers_of s)
run_many schedule at n s =
    let AsMany : CoreState → Type 0 = λ t. (t.heap.mutators ≡ s.heap.mutators) × (workers_of t ≡ workers_of s) in
    run_keeps AsMany (λ t w is. (event_mutators t w ∙ is.0, workers_after t w ∙ is.1)) schedule at n s (refl, refl)
