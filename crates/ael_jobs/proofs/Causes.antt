-- Why an answer is what it is.
use Rattle.std.proofs.Common.{◌≡◌, ◌≢◌, List, [], ℕ, true, Some, refl, sym, ap, ◌∙◌, subst, inl, inr}
use Rattle.std.specs.Prelude.{◌⊎◌, Result, Ok, Err, IfOk, IfErr, IsErrAnd}
use Rattle.std.specs.Result.{MatchResult}
use Rattle.std.proofs.lemmas.Bool.{true≢false}
use Rattle.mutator_asm.specs.declared.instr.Instr.{Instr}
use Rattle.mutator_asm.specs.declared.item.Item.{Item}
use Rattle.mutator_asm.specs.Text.{IsText}
use Rattle.benchmark.specs.Text.{bench_text}
use Rattle.ael_jobs.specs.declared.arguments.job.Job.{Job}
use Rattle.ael_jobs.specs.declared.arguments.job.Job.TheVariants.{Asm, Audit, Bench, Concord, Run, Sim}
use Rattle.ael_jobs.specs.declared.arguments.operands.BenchOperands.{BenchOperands}
use Rattle.ael_jobs.specs.declared.arguments.options.AuditOptions.{AuditOptions}
use Rattle.ael_jobs.specs.declared.arguments.options.ConcordOptions.{ConcordOptions}
use Rattle.ael_jobs.specs.declared.arguments.options.RunOptions.{RunOptions}
use Rattle.ael_jobs.specs.declared.arguments.options.SimOptions.{SimOptions}
use Rattle.ael_jobs.specs.declared.status.Status.{Status}
use Rattle.ael_jobs.specs.declared.status.Status.TheVariants.{Text, ReadFault, NoMemory, TooLong}
use Rattle.ael_jobs.specs.Calls.Answer.{IsCaused, IsDrawnFor, Made, Refused, Unread, OutOfMemory}
use Rattle.ael_jobs.specs.Tasks.Asm.{IsListed}
use Rattle.ael_jobs.specs.Tasks.Audit.{HasNoVerdict, IsAudited}
use Rattle.ael_jobs.specs.Tasks.Bench.{bench_options}
use Rattle.ael_jobs.specs.Streams.Ends.{Drawn}
use Rattle.ael_jobs.specs.Arguments.Jobs.{IsStill, ReadsProgram, job_task}
use Rattle.ael_jobs.specs.Tasks.ProgramTask.{IsMadeOf, IsTextIn, IsUnfit}
use Rattle.ael_jobs.specs.Runs.Run.{IsRun, Scheduled, Threaded}
use Rattle.ael_jobs.specs.Calls.Status.{is_made}
use Rattle.ael_jobs.specs.Tasks.Concord.{FoundFull, HasLongWord, HasNoConcordance, HasNoMemory, HasNoRoom, IsMadeOfText}
use Rattle.ael_jobs.specs.Tasks.Task.{Everything, IsDrawn, IsInput}

-- a failure that is told, or want of memory to tell it, passes over no failed read
pub failed_counts : {P : Type 0} (status final : Status) → (final ≡ status) ⊎ ((final ≡ NoMemory) × (is_made status ≡ true)) → (status ≢ ReadFault → P) → final ≢ ReadFault → P
failed_counts status final (inl same) counted not = counted (λ e. not (same ∙ e))
failed_counts status final (inr none) counted not = counted (λ e. true≢false (sym none.1 ∙ ap is_made e))

-- an error that is passed on
pub passed_on : {T : Type 0} (P : Status → Type 0) (r : Result T Status) (e : Status) → IsErrAnd r (λ x. x ≡ e) → P e → IfErr r P
passed_on P (Ok x) e is p = tt
passed_on P (Err x) e is p = subst P (sym is) p

-- what holds of what was made holds of what is told of it
pub kept_ok : {X E : Type 0} (P Q : X → Type 0) (made : Result X E) (r : Result X Status) → MatchResult made (λ x. r ≡ Ok x) (λ _. r ≡ Err NoMemory)
    → ((x : X) → P x → Q x) → IfOk made P → IfOk r Q
kept_ok P Q (Ok x) r is weaker p = subst (λ r. IfOk r Q) (sym is) (weaker x p)
kept_ok P Q (Err e) r is weaker p = subst (λ r. IfOk r Q) (sym is) tt

-- and where nothing was made, there was no memory
pub none_made : {X E : Type 0} (job : Job) (source : Drawn) (made : Result X E) (r : Result X Status) → MatchResult made (λ x. r ≡ Ok x) (λ _. r ≡ Err NoMemory)
    → IfErr r (IsCaused job source [])
none_made job source (Ok x) r is = subst (λ r. IfErr r (IsCaused job source [])) (sym is) tt
none_made job source (Err e) r is = subst (λ r. IfErr r (IsCaused job source [])) (sym is) (OutOfMemory refl refl)

-- the answer to a job on a program that is read, where there is none
pub unfit : (job : Job) (source : Drawn) (status : Status) → ReadsProgram job → IsUnfit source status → IsCaused job source [] status
unfit (Bench operands) source status reads u = absurd reads
unfit (Concord options) source status reads u = absurd reads
unfit (Audit options) source status reads u = absurd reads
unfit _ source (Text number line) reads u = Refused u.bytes u.input u.fault refl
unfit _ source ReadFault reads u = Unread u refl
unfit _ source TooLong reads u = Unread u refl
unfit job source NoMemory reads u = OutOfMemory refl refl
unfit job source _ reads u = absurd u

-- each job that waits for nobody, but the benchmark and audits, reads a program
pub reads_program : (job : Job) → IsStill job → ((operands : BenchOperands) → job ≢ Bench operands) → ((options : AuditOptions) → job ≢ Audit options) → ReadsProgram job
reads_program (Bench operands) still no_bench no_audit = absurd (no_bench operands refl)
reads_program (Concord options) still no_bench no_audit = absurd (true≢false still)
reads_program (Audit options) still no_bench no_audit = absurd (no_audit options refl)
reads_program _ still no_bench no_audit = tt

-- then it reads its input
pub reads_all : (job : Job) → ReadsProgram job → (job_task job).reads ≡ Everything
reads_all Asm reads = refl
reads_all (Sim options) reads = refl
reads_all (Run options) reads = refl
reads_all _ reads = absurd reads

-- and with it as much as a program
pub drawn_for : (job : Job) (source : Drawn) → (job_task job).reads ≡ Everything → IsDrawn Everything source → IsDrawnFor (Some job) source
drawn_for job source reads drawn = rw reads drawn

-- what is made of a program that is read
pub of_program : (job : Job) (source : Drawn) (program : List (List Instr)) (items : List Item) (output : List ℕ) (status : Status) → (job_task job).reads ≡ Everything
    → IsTextIn source program items → ((bytes : List ℕ) → IsText bytes program items → (job_task job).Makes bytes output status) → IsCaused job source output status
of_program job source program items output status reads t makes = Made t.bytes (rw reads t.input) (makes t.bytes t.text)

-- `asm` lists it
pub lists : (job : Job) (program : List (List Instr)) (items : List Item) (output : List ℕ) (status : Status) → job ≡ Asm → IsListed program items output status
    → (bytes : List ℕ) → IsText bytes program items → (job_task job).Makes bytes output status
lists job program items output status is made bytes text =
    subst (λ j. (job_task j).Makes bytes output status) (sym is) (record { program = program; items = items; text = text; made = made })

-- `sim` runs it by a schedule
pub simulates : (job : Job) (options : SimOptions) (program : List (List Instr)) (items : List Item) (output : List ℕ) (status : Status) → job ≡ Sim options
    → IsRun (Scheduled options) program items output status → (bytes : List ℕ) → IsText bytes program items → (job_task job).Makes bytes output status
simulates job options program items output status is made bytes text =
    subst (λ j. (job_task j).Makes bytes output status) (sym is) (record { program = program; items = items; text = text; made = made })

-- a program that is run on threads
pub threaded : (job : Job) (options : RunOptions) (source : Drawn) (program : List (List Instr)) (items : List Item) (output : List ℕ) (status : Status) → job ≡ Run options
    → IsTextIn source program items → IsRun (Threaded options) program items output status → IsCaused job source output status
threaded job options source program items output status is t made =
    subst (λ j. IsCaused j source output status) (sym is) (Made t.bytes t.input (record { program = program; items = items; text = t.text; made = made }))

-- a text whose concordance is made
pub concords : (job : Job) (options : ConcordOptions) (source : Drawn) (bytes output : List ℕ) (status : Status) → job ≡ Concord options
    → IsInput Everything source bytes → IsMadeOfText options.pages bytes output status → IsCaused job source output status
concords job options source bytes output status is input made = subst (λ j. IsCaused j source output status) (sym is) (Made bytes input made)

-- or one that has none
pub without_concordance : (job : Job) (options : ConcordOptions) (source : Drawn) (bytes : List ℕ) (status : Status) → job ≡ Concord options
    → IsInput Everything source bytes → HasNoConcordance options.pages bytes status → IsCaused job source [] status
without_concordance job options source bytes status is input none = subst (λ j. IsCaused j source [] status) (sym is) (by none)
  where
    by : HasNoConcordance options.pages bytes status → IsCaused (Concord options) source [] status
    by (HasLongWord long) = Refused bytes input long refl
    by (HasNoRoom asked room short may told) = Made bytes input (FoundFull asked room short may told refl)
    by (HasNoMemory wanting) = OutOfMemory wanting refl

-- a part that is audited
pub audited : (job : Job) (options : AuditOptions) (source : Drawn) (bytes output : List ℕ) (status : Status) → job ≡ Audit options
    → IsInput Everything source bytes → IsAudited options.turns bytes output status → IsCaused job source output status
audited job options source bytes output status is input made = subst (λ j. IsCaused j source output status) (sym is) (Made bytes input made)

-- or one on which there is no verdict
pub without_verdict : (job : Job) (options : AuditOptions) (source : Drawn) (bytes : List ℕ) (status : Status) → job ≡ Audit options
    → IsInput Everything source bytes → HasNoVerdict bytes status → IsCaused job source [] status
without_verdict job options source bytes status is input none = subst (λ j. IsCaused j source [] status) (sym is) (by none)
  where
    by : HasNoVerdict bytes status → IsCaused (Audit options) source [] status
    by (inl faulty) = Refused bytes input faulty refl
    by (inr wanting) = OutOfMemory wanting refl

-- the benchmark
pub benched : (job : Job) (operands : BenchOperands) (source : Drawn) (output : List ℕ) (status : Status) → job ≡ Bench operands
    → IsMadeOf (IsRun (Scheduled (bench_options operands))) (bench_text operands.depth operands.seed) output status → IsCaused job source output status
benched job operands source output status is made = subst (λ j. IsCaused j source output status) (sym is) (Made [] refl made)
