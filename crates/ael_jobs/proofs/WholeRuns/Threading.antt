-- A run on threads, and what is printed of it.
use Rattle.std.proofs.Common.{◌≡◌, ℕ, zero, suc, ◌+◌, ◌≤◌, true, List, [], ◌∷◌, ◌++◌, Some, length, map, slice_get, refl, sym, ap, ap₂, subst, ◌∙◌, arith}
use mathlib.Core.Option.{some, some-injective, some-ne-none}
use lib.ListN.{get_elem?}
use Rattle.std.specs.List.{AllByRecursion, list_all}
use Rattle.std.proofs.lemmas.List.{length-map, length-take-le}
use Rattle.mutator_asm.specs.declared.instr.Instr.{Instr}
use Rattle.mutator_asm.specs.declared.item.Item.{Item}
use Rattle.mutator_asm.specs.Program.{IsWellFormed}
use Rattle.plain_state.specs.State.{Plain}
use Rattle.plain_heap.specs.Order.{plain, story}
use Rattle.plain_heap.specs.Print.{Seen, lines_seen}
use Rattle.space_map.specs.Spaces.{IsPageCount, Layout}
use Rattle.space_map.specs.Table.{whole_length}
use Rattle.heap_state.specs.Kept.{kept_by}
use Rattle.heap_state.specs.Known.{Known}
use Rattle.gc_worker.specs.Workers.Held.{Held}
use Rattle.gc_worker.specs.Workers.Knows.{knows}
use Rattle.gc_worker.specs.Laws.Checkpoints.{TellsKept}
use Rattle.gc_worker.specs.Laws.Lost.{AreEmptyIfLost}
use Rattle.gc_worker.specs.Laws.Step.{Heap, WorkersStand, layout_of}
use Rattle.gc_core.specs.Checkpoints.{TellsLastCheckpoint}
use Rattle.gc_core.specs.Core.{CoreState, layout_by}
use Rattle.gc_core.specs.Readers.{mutators_in}
use Rattle.gc_core.specs.Run.{Ran}
use Rattle.gc_core.specs.Told.{IsToldOf, WhatStandsIsTold}
use Rattle.ael_threads.specs.declared.programs.outputs.Outputs.{Outputs}
use Rattle.ael_threads.specs.declared.programs.outputs.Printed.{Printed}
use Rattle.ael_threads.specs.Opened.{plan_of}
use Rattle.ael_threads.specs.Runs.Outputs.{Runs, as_kept, printed_by}
use Rattle.gc_worker.specs.History.Order.{order_of}
use Rattle.ael_threads.specs.Rule.{heap_of}
use Rattle.ael_jobs.specs.declared.arguments.options.RunOptions.{RunOptions}
use Rattle.ael_jobs.specs.declared.status.Status.{Status}
use Rattle.ael_jobs.specs.Runs.ClosedHeap.{HasClosed, IsWholeHeap, told_by}
use Rattle.ael_jobs.specs.Runs.Run.{HasFitEnd, IsCheckpointOf, IsRun, Threaded}
use Rattle.ael_jobs.specs.Runs.Verdict.{has_ended, status_seen}
use Rattle.ael_jobs.specs.Runs.Simulation.{config}
use Rattle.ael_jobs.specs.Runs.Threads.{IsThreaded}
use Rattle.ael_jobs.specs.Runs.Told.{AreLinesIf, RunReport, TellsWords, heap_lines, told_of}
use Rattle.ael_jobs.proofs.Printed.LastCheckpoints.{told_if}
use Rattle.ael_jobs.proofs.Printed.Dumps.{IsOfSize, dump_is}

-- ---- what is read of it

-- each mutator has the end that is told
pub all_ended : (ms : List Printed) → true ≡ list_all has_ended (map printed_by ms)
all_ended [] = refl
all_ended (m ∷ ms) = all_ended ms

pub word_there : (words : List ℕ) (place word : ℕ) → get_elem? words place ≡ some word → slice_get words place ≡ Some word
word_there [] place word is = absurd (some-ne-none word (sym is))
word_there (x ∷ words) zero word is = ap (λ (w : ℕ). Some w) (some-injective x word is)
word_there (x ∷ words) (suc place) word is = word_there words place word is

-- ---- what a run came to

module _ (law : WhatStandsIsTold) (options : RunOptions) (program : List (List Instr)) (items : List Item) (outputs : Outputs) (r : Runs program options.turns (config options) outputs) where
  abbrev heap : Heap
  heap = heap_of (plan_of (length program) (config options)) outputs.words r.workers

  abbrev ran : Ran
  ran = record { last = record { code = program; turns = options.turns; heap = heap }; order = order_of r.log }

  abbrev last : Plain
  last = plain program options.turns (order_of r.log)

  abbrev flip : Plain
  flip = (story program options.turns (order_of r.log)).flip

  stands : WorkersStand heap last flip
  stands = rw (r.plain_is, ← r.flip_is) r.stands

  lost : AreEmptyIfLost heap last flip
  lost = rw (r.plain_is, ← r.flip_is) r.lost

  -- the words say what the plain machine has kept
  checkpoint : options.snap ≡ true → TellsLastCheckpoint program options.turns (order_of r.log) ran.last
  checkpoint snap = record {
    told = subst (TellsKept heap) (sym r.plain_is) (r.kept snap);
    last = r.last;
  }

  so : IsToldOf ran.last last flip
  so = law ran.last last flip stands

  threaded : IsThreaded options program ran
  threaded = record { outputs = outputs; runs = r; order_is = refl; last_is = refl }

  tells : told_by outputs ≡ told_of ran.last
  tells = rw (r.layout, r.tells.mutators, r.tells.cycles, r.tells.live, r.tells.registers, r.tells.kept) refl

  pub has_closed : HasClosed options program items (told_by outputs)
  has_closed = record {
    ran = ran;
    is = record { made = threaded; acts = r.acts; dump = so.dump; checkpoint = checkpoint; live = so.live; lost = lost };
    tells = tells;
    seen = r.tells.mutators ∙ so.seen;
  }

  -- ---- what it tells

  abbrev seen_by_held : Held → Seen
  seen_by_held x = record { printed = x.account.printed; end = x.account.end }

  many : length (mutators_in ran.last) ≡ length program
  many = length-take-le (length program) r.workers so.enough

  seen_many : length outputs.mutators.items ≡ length program
  seen_many = sym (length-map outputs.mutators.items printed_by) ∙ ap length r.tells.mutators ∙ length-map (mutators_in ran.last) seen_by_held ∙ many

  registers_many : length outputs.regs.items ≡ length program
  registers_many = ap length r.tells.registers ∙ length-map (mutators_in ran.last) (λ (x : Held). x.registers) ∙ many

  kept_many : length outputs.kept.items ≡ length r.workers
  kept_many =
      sym (length-map outputs.kept.items as_kept) ∙ ap length r.tells.kept
      ∙ length-map (map knows r.workers) (λ (w : Known). kept_by w.copy) ∙ length-map r.workers knows

  pub is_whole : IsWellFormed program items → options.scanners ≤ 8 → IsWholeHeap outputs
  is_whole formed few =
      let sections = formed.few_sections in
      let count : length r.workers ≡ length program + options.scanners = r.count in
      let seen = seen_many in
      let kept = kept_many in
      record {
        registers = registers_many ∙ sym seen_many;
        mutators = omega (arith, seen, sections);
        workers = omega (arith, kept, count, sections, few);
        words = r.all_words ∙ ap whole_length (sym r.layout);
      }

-- ---- what is printed

-- the run has a mutator for each section and so many scanners, and its table is whole
run_size : (options : RunOptions) (program : List (List Instr)) (items : List Item) (ran : Ran) → IsThreaded options program ran → IsWellFormed program items → IsPageCount options.limit → options.scanners ≤ 8 → IsOfSize ran.last
run_size options program items ran made formed count few =
    let r = made.runs in
    let workers : length r.workers ≡ length program + options.scanners = r.count in
    let words = r.all_words in
    subst IsOfSize (sym made.last_is) (record {
      count = count;
      mutators = (formed.a_section, formed.few_sections);
      workers = (omega (arith, workers), omega (arith, workers, few));
      whole = omega (arith, words);
    })

-- the last checkpoint of the order is what the words of the heap say
saved_is : (options : RunOptions) (program : List (List Instr)) (items : List Item) (told : RunReport) (checkpoint : List ℕ) (h : HasClosed options program items told)
    → IsPageCount options.limit → AreLinesIf options.snap told.words checkpoint → IsCheckpointOf (Threaded options) program h.ran checkpoint
saved_is options program items told checkpoint h count lines =
    let made = h.is.made in
    let layout : layout_of h.ran.last.heap ≡ layout_by (config options) = ap (λ (s : CoreState). layout_of s.heap) made.last_is in
    told_if program options.turns h.ran.order h.ran.last (subst (λ (l : Layout). IsPageCount l.pages) (sym layout) count) checkpoint options.snap
    (ap (λ (l : Layout). l.checkpoints) layout) h.is.checkpoint (subst (λ (t : RunReport). AreLinesIf options.snap t.words checkpoint) h.tells lines)

pub run_is : (options : RunOptions) (program : List (List Instr)) (items : List Item) (told : RunReport) (output : List ℕ) (status : Status)
    → HasClosed options program items told → IsWellFormed program items → IsPageCount options.limit → options.scanners ≤ 8
    → (options.dump ≡ true → TellsWords told.dump)
    → AllByRecursion HasFitEnd told.seen
    → (checkpoint : List ℕ) → AreLinesIf options.snap told.words checkpoint
    → output ≡ lines_seen 0 told.seen ++ heap_lines options told checkpoint
    → status ≡ status_seen told.seen
    → IsRun (Threaded options) program items output status
run_is options program items told output status h formed count few words ends checkpoint lines printed went = record {
  ran = h.ran;
  is = h.is;
  checkpoint = checkpoint;
  saved = saved_is options program items told checkpoint h count lines;
  is_dump = λ asked. dump_is h.ran.last (run_size options program items h.ran h.is.made formed count few) (subst (λ (t : RunReport). TellsWords t.dump) h.tells (words asked));
  fits = record { ends = subst (AllByRecursion HasFitEnd) h.seen ends; marks = λ asked. cc };
  prints = printed ∙ ap₂ (λ (xs ys : List ℕ). xs ++ ys) (ap (lines_seen 0) h.seen) (ap (λ (t : RunReport). heap_lines options t checkpoint) h.tells);
  went = went ∙ ap status_seen h.seen;
}
