-- A run by a schedule, and what is printed of it.
use Rattle.std.proofs.Common.{◌≡◌, ℕ, ◌+◌, ◌≤◌, Bool, true, false, List, [], ◌∷◌, ◌++◌, length, refl, sym, ap, ap₂, subst, append_assoc, ◌∙◌, cond, arith}
use Rattle.std.specs.List.{AllByRecursion}
use Rattle.mutator_asm.specs.declared.instr.Instr.{Instr}
use Rattle.mutator_asm.specs.declared.item.Item.{Item}
use Rattle.mutator_asm.specs.Program.{IsWellFormed}
use Rattle.plain_heap.specs.declared.mark.Mark.{Mark}
use Rattle.plain_heap.specs.declared.mark.Mark.TheVariants.{Flip, Full, Step, Traced}
use Rattle.plain_heap.specs.Order.{plain}
use Rattle.plain_heap.specs.Print.{lines_seen, order_line, plain_seen}
use Rattle.plain_heap.specs.Tracing.{has_weak, untraced}
use Rattle.space_map.specs.Spaces.{IsPageCount, Layout}
use Rattle.gc_worker.specs.Laws.Step.{layout_of}
use Rattle.gc_worker.proofs.Between.OpenedHeap.{many as fresh_many}
use Rattle.gc_core.specs.Core.{CoreState, layout_by, workers_of}
use Rattle.gc_core.specs.Dumped.{dumped}
use Rattle.gc_core.specs.Law.{IsLawful}
use Rattle.gc_core.specs.Readers.{seen_of}
use Rattle.gc_core.specs.Run.{Ran}
use Rattle.gc_core.proofs.Told.ToldCheckpoints.{run_layout}
use Rattle.ael_jobs.specs.declared.arguments.options.SimOptions.{SimOptions}
use Rattle.ael_jobs.specs.declared.status.Status.{Status}
use Rattle.ael_jobs.specs.Runs.Orders.{AreNoted, shown_order}
use Rattle.heap_audit.specs.Texts.Order.{MarkFits}
use Rattle.ael_jobs.specs.Runs.Run.{HasFitEnd, IsCheckpointOf, IsRun, IsRunOf, Scheduled}
use Rattle.ael_jobs.specs.Runs.Verdict.{status_seen}
use Rattle.ael_jobs.specs.Runs.Simulation.{config, core_of, scheduled, simulated_run}
use Rattle.ael_jobs.specs.Runs.Told.{AreLinesIf, TellsWords, heap_lines, told_of}
use Rattle.ael_jobs.proofs.Printed.Dumps.{IsOfSize, dump_is, run_many}
use Rattle.ael_jobs.proofs.Printed.LastCheckpoints.{told_if}

-- the layout of the heap is that of the options
layout_is : (options : SimOptions) (program : List (List Instr)) (items : List Item) → layout_of (simulated_run options program items).last.heap ≡ layout_by (config options.run)
layout_is options program items = run_layout (scheduled options program items) 0 options.steps (core_of options program)

-- the last checkpoint of the order is what the words of the heap say
saved_is : (options : SimOptions) (program : List (List Instr)) (items : List Item) (last : CoreState) (checkpoint : List ℕ)
    → IsRunOf (Scheduled options) program items (simulated_run options program items) → IsPageCount options.run.limit
    → last ≡ (simulated_run options program items).last → AreLinesIf options.run.snap last.heap.words checkpoint
    → IsCheckpointOf (Scheduled options) program (simulated_run options program items) checkpoint
saved_is options program items last checkpoint is count is_last lines =
    let ran : Ran = simulated_run options program items in
    let layout = layout_is options program items in
    told_if program options.run.turns ran.order ran.last (subst (λ (l : Layout). IsPageCount l.pages) (sym layout) count) checkpoint options.run.snap
    (ap (λ (l : Layout). l.checkpoints) layout) is.checkpoint (subst (λ (s : CoreState). AreLinesIf options.run.snap s.heap.words checkpoint) is_last lines)

-- the run has a mutator for each section and so many scanners, and its table is whole
pub run_size : (options : SimOptions) (program : List (List Instr)) (items : List Item) → IsWellFormed program items → IsPageCount options.run.limit → options.run.scanners ≤ 8
    → IsLawful (simulated_run options program items).last → IsOfSize (simulated_run options program items).last
run_size options program items formed count few lawful =
    let opening = core_of options program in
    let last = (simulated_run options program items).last in
    let many = run_many (scheduled options program items) 0 options.steps opening in
    let mutators : last.heap.mutators ≡ length program = many.0 in
    let workers : workers_of last ≡ length program + options.run.scanners = many.1 ∙ fresh_many true (layout_by (config options.run)) (length program) 0 (length program + options.run.scanners) in
    let some = formed.a_section in
    let sections = formed.few_sections in
    record {
      count = subst (λ (l : Layout). IsPageCount l.pages) (sym (layout_is options program items)) count;
      mutators = (omega (arith, mutators, some), omega (arith, mutators, sections));
      workers = (omega (arith, mutators, workers), omega (arith, mutators, workers, few));
      whole = lawful.stands.whole;
    }

-- the order is needed only where it is printed
line_if : (b : Bool) (order marks : List Mark) → (b ≡ true → order ≡ marks) → cond b (order_line order) [] ≡ cond b (order_line marks) []
line_if true order marks same = ap order_line (same refl)
line_if false order marks same = refl

-- the marks that are shown fit if all do
untraced_fit : (order : List Mark) → AllByRecursion MarkFits order → AllByRecursion MarkFits (untraced order)
untraced_fit [] fit = tt
untraced_fit (Step m ∷ order) fit = (fit.0, untraced_fit order fit.1)
untraced_fit (Flip asked ∷ order) fit = (fit.0, untraced_fit order fit.1)
untraced_fit (Full m asked room live ∷ order) fit = (fit.0, untraced_fit order fit.1)
untraced_fit (Traced ∷ order) fit = untraced_fit order fit.1

fit_by : (b : Bool) (order : List Mark) → AllByRecursion MarkFits order → AllByRecursion MarkFits (cond b order (untraced order))
fit_by true order fit = fit
fit_by false order fit = untraced_fit order fit

shown_fit : (program : List (List Instr)) (order : List Mark) → AllByRecursion MarkFits order → AllByRecursion MarkFits (shown_order program order)
shown_fit program order fit = fit_by (has_weak program) order fit

pub simulated : (options : SimOptions) (program : List (List Instr)) (items : List Item) (last : CoreState) (order shown : List Mark) (checkpoint output : List ℕ) (status : Status)
    → IsRunOf (Scheduled options) program items (simulated_run options program items) → IsOfSize (simulated_run options program items).last
    → seen_of (simulated_run options program items).last ≡ plain_seen (plain program options.run.turns (simulated_run options program items).order)
    → last ≡ (simulated_run options program items).last → (options.order ≡ true → AreNoted order (simulated_run options program items).order)
    → shown ≡ shown_order program order
    → AreLinesIf options.run.snap last.heap.words checkpoint
    → (options.run.dump ≡ true → TellsWords (dumped last))
    → AllByRecursion HasFitEnd (seen_of last)
    → output ≡ (lines_seen 0 (seen_of last) ++ cond options.order (order_line shown) []) ++ heap_lines options.run (told_of last) checkpoint
    → status ≡ status_seen (seen_of last)
    → IsRun (Scheduled options) program items output status
simulated options program items last order shown checkpoint output status is size seen_is is_last kept shown_is saved words ends printed went =
    let ran : Ran = simulated_run options program items in
    let count : IsPageCount options.run.limit = subst (λ (l : Layout). IsPageCount l.pages) (layout_is options program items) size.count in
    let seen : seen_of last ≡ plain_seen (plain program options.run.turns ran.order) = ap seen_of is_last ∙ seen_is in
    let told : options.order ≡ true → shown ≡ shown_order program ran.order = λ asked. shown_is ∙ ap (shown_order program) (kept asked).same in
    let line = line_if options.order shown (shown_order program ran.order) told in
    let lines : heap_lines options.run (told_of last) checkpoint ≡ heap_lines options.run (told_of ran.last) checkpoint = ap (λ (s : CoreState). heap_lines options.run (told_of s) checkpoint) is_last in
    record {
      ran = ran;
      is = is;
      checkpoint = checkpoint;
      saved = saved_is options program items last checkpoint is count is_last saved;
      is_dump = λ asked. dump_is ran.last size (subst (λ (s : CoreState). TellsWords (dumped s)) is_last (words asked));
      fits = record { ends = subst (AllByRecursion HasFitEnd) seen ends; marks = λ asked. shown_fit program ran.order (kept asked).fit };
      prints = printed ∙ append_assoc (lines_seen 0 (seen_of last)) (cond options.order (order_line shown) []) (heap_lines options.run (told_of last) checkpoint) ∙ ap₂ (λ (xs ys : List ℕ). xs ++ ys) (ap (lines_seen 0) seen) (ap₂ (λ (xs ys : List ℕ). xs ++ ys) line lines);
      went = went ∙ ap status_seen seen;
    }
