-- What holds of a call, from its answer and the answer's cause.
use Rattle.std.proofs.Common.{◌≡◌, ℕ, List, ap, ◌∙◌, subst, inl, inr}
use Rattle.std.specs.Prelude.{◌⊎◌, Some}
use Rattle.std.proofs.lemmas.Option.{same_Some}
use Rattle.benchmark.specs.Text.{bench_text}
use Rattle.concordance_text.specs.Theorems.{OneListOfRows}
use Rattle.mutator_asm.specs.declared.instr.Instr.{Instr}
use Rattle.mutator_asm.specs.declared.item.Item.{Item}
use Rattle.mutator_asm.specs.Text.{IsText}
use Rattle.mutator_asm.specs.Theorems.{MeansOneProgram, MeansWellFormed, HasNoFault, ListsText}
use Rattle.plain_heap.specs.Alone.{AlwaysTheSame}
use Rattle.plain_heap.specs.Order.{plain}
use Rattle.ael_jobs.specs.declared.arguments.job.Job.{Job}
use Rattle.ael_jobs.specs.declared.arguments.job.Job.TheVariants.{Asm, Audit, Bench, Concord, Run, Sim}
use Rattle.ael_jobs.specs.declared.arguments.operands.BenchOperands.{BenchOperands}
use Rattle.ael_jobs.specs.declared.arguments.options.AuditOptions.{AuditOptions}
use Rattle.ael_jobs.specs.declared.arguments.options.ConcordOptions.{ConcordOptions}
use Rattle.ael_jobs.specs.declared.arguments.options.RunOptions.{RunOptions}
use Rattle.ael_jobs.specs.declared.arguments.options.SimOptions.{SimOptions}
use Rattle.ael_jobs.specs.declared.status.Status.{Status}
use Rattle.ael_jobs.specs.declared.status.Status.TheVariants.{Text}
use Rattle.ael_jobs.specs.Tasks.Bench.{bench_options}
use Rattle.ael_jobs.specs.Calls.Call.{Call}
use Rattle.ael_jobs.specs.Calls.Headline.{HeadlineHolds, IsAlwaysTheSame, CallIsAnswered, IsComplete, IsDone, PrintsListing, PrintsPlainly}
use Rattle.ael_jobs.specs.Calls.Concordance.{CallTells}
use Rattle.ael_jobs.specs.Arguments.Jobs.{run_by, job_task, job_text}
use Rattle.ael_jobs.specs.Tasks.ProgramTask.{HasFault, IsMadeOf, IsProgram}
use Rattle.ael_jobs.specs.Runs.Run.{IsRun, Manner, Scheduled, Threaded, options_by}
use Rattle.ael_jobs.specs.Calls.Status.{status_code}
use Rattle.ael_jobs.specs.Streams.Stream.{Grows}
use Rattle.ael_jobs.specs.Calls.Success.{Succeeds}
use Rattle.plain_heap.proofs.States.SameMutators.{plain_count}
use Rattle.ael_jobs.proofs.Concordances.{never_long}
use Rattle.ael_jobs.proofs.Audits.{never_faulty}
use Rattle.ael_jobs.proofs.Calls.AuditEnds.{audit_ends, says_yes}
use Rattle.ael_jobs.proofs.Calls.ConcordEnds.{concord_ends, large_heaps_suffice, prints_concordance}
use Rattle.ael_jobs.proofs.Calls.SoundEnds.{ByRefusal, ForMemory, OfInput, SoundCause, cause, call_tells}

-- ---- the input

-- the text of a program has no fault
not_refused : {A : Type 0} → HasNoFault → (bytes : List ℕ) (status : Status) → IsProgram bytes → HasFault bytes status → A
not_refused no_fault bytes (Text number line) right fault = absurd (no_fault bytes right.program right.items number line right.text fault)
not_refused no_fault bytes _ right fault = absurd fault

-- a right input is not refused
is_taken : {A : Type 0} → MeansOneProgram → HasNoFault → (job : Job) (bytes : List ℕ) (status : Status) → (job_task job).IsRight bytes → (job_task job).Refuses bytes status → A
is_taken one no_fault (Bench operands) bytes status right fault = absurd fault
is_taken one no_fault (Concord options) bytes status right long = absurd (never_long bytes long.line right long.first)
is_taken one no_fault (Audit options) bytes status right faulty = absurd (never_faulty one no_fault bytes status right faulty)
is_taken one no_fault _ bytes status right fault = not_refused no_fault bytes status right fault

-- ---- the output

-- what is made of a text is made of its program
of_program : {Makes : List (List Instr) → List Item → List ℕ → Status → Type 0} → MeansOneProgram → (bytes : List ℕ) (program : List (List Instr)) (items : List Item) (output : List ℕ) (status : Status)
    → IsText bytes program items → IsMadeOf Makes bytes output status → Makes program items output status
of_program {Makes} one bytes program items output status text made =
    let same = one bytes made.program program made.items items made.text text in
    rw (← same.0, ← same.1) made.made

-- what a job makes is a run of its program, in this manner
record RunsIn (job : Job) (manner : Manner) : Type 0 where
  is_run : (bytes output : List ℕ) (status : Status) → (job_task job).Makes bytes output status → IsMadeOf (IsRun manner) (job_text job bytes) output status

-- what is a run in one manner is one in the same
run_in : (own manner : Manner) (bytes output : List ℕ) (status : Status) → Some own ≡ Some manner → IsMadeOf (IsRun own) bytes output status → IsMadeOf (IsRun manner) bytes output status
run_in own manner bytes output status same made = subst (λ m. IsMadeOf (IsRun m) bytes output status) (same_Some own manner same) made

asm_runs_in : (manner : Manner) → run_by Asm ≡ Some manner → RunsIn Asm manner
asm_runs_in manner runs = cc

bench_runs_in : (operands : BenchOperands) (manner : Manner) → run_by (Bench operands) ≡ Some manner → RunsIn (Bench operands) manner
bench_runs_in operands manner runs = record {
  is_run = λ bytes output status made. run_in (Scheduled (bench_options operands)) manner (bench_text operands.depth operands.seed) output status runs made;
}

sim_runs_in : (options : SimOptions) (manner : Manner) → run_by (Sim options) ≡ Some manner → RunsIn (Sim options) manner
sim_runs_in options manner runs = record { is_run = λ bytes output status made. run_in (Scheduled options) manner bytes output status runs made }

run_runs_in : (options : RunOptions) (manner : Manner) → run_by (Run options) ≡ Some manner → RunsIn (Run options) manner
run_runs_in options manner runs = record { is_run = λ bytes output status made. run_in (Threaded options) manner bytes output status runs made }

concord_runs_in : (options : ConcordOptions) (manner : Manner) → run_by (Concord options) ≡ Some manner → RunsIn (Concord options) manner
concord_runs_in options manner runs = cc

audit_runs_in : (options : AuditOptions) (manner : Manner) → run_by (Audit options) ≡ Some manner → RunsIn (Audit options) manner
audit_runs_in options manner runs = cc

runs_in : (job : Job) (manner : Manner) → run_by job ≡ Some manner → RunsIn job manner
runs_in Asm manner runs = asm_runs_in manner runs
runs_in (Bench operands) manner runs = bench_runs_in operands manner runs
runs_in (Sim options) manner runs = sim_runs_in options manner runs
runs_in (Run options) manner runs = run_runs_in options manner runs
runs_in (Concord options) manner runs = concord_runs_in options manner runs
runs_in (Audit options) manner runs = audit_runs_in options manner runs

module _ (one : MeansOneProgram) (no_fault : HasNoFault) (call : Call) (a : CallIsAnswered call) where
  -- the job is done, or there was no memory
  pub is_complete : IsComplete call
  is_complete job bytes well = by (cause call a job bytes well.ends) (call_tells call a job bytes well.ends)
    where
      by : SoundCause job bytes a.output a.status → CallTells call a.output a.status → IsDone call job bytes ⊎ (call.code ≡ 7)
      by (OfInput made) told = inl (record { output = a.output; status = a.status; made = made; printed = told.printed; code_is = told.code_is })
      by (ByRefusal refused silent) told = is_taken one no_fault job bytes a.status well.right refused
      by (ForMemory wanting silent) told = inr (told.code_is ∙ ap status_code wanting)

  -- where memory was not wanting, it is done
  done : (job : Job) (program : List (List Instr)) (items : List Item) (s : Succeeds call job program items) → IsDone call job s.bytes
  done job program items s = elim (is_complete job s.bytes s.well) [ inl is ↦ is | inr none ↦ absurd (s.memory none) ]

  -- and a job that runs its program has run it
  ran : (job : Job) (manner : Manner) (program : List (List Instr)) (items : List Item) → run_by job ≡ Some manner → (s : Succeeds call job program items)
      → ((d : IsDone call job s.bytes) × IsRun manner program items d.output d.status)
  ran job manner program items runs s =
      let d = done job program items s in
      (d, of_program one (job_text job s.bytes) program items d.output d.status s.text ((runs_in job manner runs).is_run s.bytes d.output d.status d.made))

  pub prints_plainly : PrintsPlainly call
  prints_plainly job manner program items runs s =
      let d = ran job manner program items runs s in
      record {
        ran = d.1.ran;
        is = d.1.is;
        checkpoint = d.1.checkpoint;
        saved = d.1.saved;
        is_dump = d.1.is_dump;
        prints = subst (λ output. Grows call.out.held output call.out.holds) d.1.prints d.0.printed;
      }

  pub prints_listing : MeansWellFormed → ListsText → PrintsListing call
  prints_listing well_formed lists program items s =
      let d = done Asm program items s in
      let listed = of_program one s.bytes program items d.output d.status s.text d.made in
      (subst (λ output. Grows call.out.held output call.out.holds) listed.listed d.printed, lists program items (well_formed s.bytes program items s.text))

  pub is_always_the_same : AlwaysTheSame → IsAlwaysTheSame call
  is_always_the_same same job manner program items runs s shares_nothing =
      let plainly = prints_plainly job manner program items runs s in
      record {
        ran = plainly.ran;
        is = plainly.is;
        mutators = (plain program (options_by manner).turns plainly.ran.order).mutators;
        all = plain_count program (options_by manner).turns plainly.ran.order;
        checkpoint = plainly.checkpoint;
        saved = plainly.saved;
        prints = plainly.prints;
        alone = λ m k at. same program (options_by manner).turns plainly.ran.order m k shares_nothing at;
      }

-- all that holds of a call
pub holds : MeansOneProgram → HasNoFault → MeansWellFormed → ListsText → AlwaysTheSame → OneListOfRows → (call : Call) → CallIsAnswered call → HeadlineHolds call
holds one no_fault well_formed lists same rows call a = record {
  answered = a;
  complete = is_complete one no_fault call a;
  prints = prints_plainly one no_fault call a;
  lists = prints_listing one no_fault call a well_formed lists;
  always_the_same = is_always_the_same one no_fault call a same;
  concords = prints_concordance call a;
  concord_ends = concord_ends call a;
  large_heaps_suffice = large_heaps_suffice call a rows;
  audits = audit_ends call a;
  says_yes = says_yes one no_fault call a;
}
