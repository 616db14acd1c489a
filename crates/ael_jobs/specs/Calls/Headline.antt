-- The headline: what a call of the program answers, and what its sinks hold then.
use Rattle.std.specs.Prelude.{◌≡◌, ◌⊎◌, ◌++◌, ℕ, List, [], length, Some, IsTrue, slice_get}
use Rattle.mutator_asm.specs.declared.instr.Instr.{Instr}
use Rattle.mutator_asm.specs.declared.item.Item.{Item}
use Rattle.mutator_asm.specs.Listing.{listing}
use Rattle.mutator_asm.specs.Text.{IsText}
use Rattle.plain_state.specs.State.{Mutator}
use Rattle.plain_heap.specs.Order.{plain}
use Rattle.plain_heap.specs.Print.{lines_seen, print_of, seen_in}
use Rattle.plain_heap.specs.Alone.{IsAsAlone, shares_nothing}
use Rattle.gc_core.specs.Run.{Ran}
use Rattle.ael_jobs.specs.declared.arguments.job.Job.{Job}
use Rattle.ael_jobs.specs.declared.arguments.job.Job.TheVariants.{Asm}
use Rattle.ael_jobs.specs.declared.status.Status.{Status}
use Rattle.ael_jobs.specs.declared.status.Status.TheVariants.{NoMemory}
use Rattle.ael_jobs.specs.Calls.Answer.{IsAnswerTo}
use Rattle.ael_jobs.specs.Calls.Audits.{AuditEnds, SaysYesToTrueOutputs}
use Rattle.ael_jobs.specs.Calls.Call.{Call}
use Rattle.ael_jobs.specs.Calls.Concordance.{ConcordEnds, LargeHeapsSuffice, PrintsConcordance}
use Rattle.ael_jobs.specs.Calls.Emits.{IsEmitted}
use Rattle.ael_jobs.specs.Arguments.Jobs.{run_by, job_task}
use Rattle.ael_jobs.specs.Runs.Run.{IsCheckpointOf, IsDumpOf, IsRunOf, Manner, flag_lines, options_by}
use Rattle.ael_jobs.specs.Calls.Status.{status_code}
use Rattle.ael_jobs.specs.Streams.Stream.{Grows}
use Rattle.ael_jobs.specs.Calls.Success.{GoesWell, Succeeds}
use Rattle.ael_jobs.specs.Arguments.Words.{job_of}

-- The words and the input have an answer with its cause; that is what is written, and the exit status
-- is its code.
pub record CallIsAnswered (call : Call) : Type 0 where
  pub output : List ℕ
  pub status : Status
  pub answer : IsAnswerTo (job_of call.words) call.source output status
  pub emitted : IsEmitted output status call.out call.err call.code

-- memory was wanting before anything was read: that is what is told
pub record IsOutOfMemory (call : Call) : Type 0 where
  pub unread : call.source.rest ≡ call.source.left
  pub steady : call.source.after ≡ call.source.before
  pub emitted : IsEmitted [] NoMemory call.out call.err call.code

-- the bytes held grow by what the job makes of the input, and the exit status is how that went
pub record IsDone (call : Call) (job : Job) (bytes : List ℕ) : Type 0 where
  pub output : List ℕ
  pub status : Status
  pub made : (job_task job).Makes bytes output status
  pub printed : Grows call.out.held output call.out.holds
  pub code_is : call.code ≡ status_code status

-- completeness: where nothing fails the job is done, or there was no memory
abbrev pub IsComplete : Call → Type 0
IsComplete call = (job : Job) (bytes : List ℕ) → GoesWell call job bytes → IsDone call job bytes ⊎ (call.code ≡ 7)

-- The bytes held grow by what the plain machine prints that executes the order of a run, and then by
-- the lines of the flags, which tell that same run, and the last checkpoint of its order and a dump of a heap if they are asked for.
pub record IsPlainlyPrinted (call : Call) (manner : Manner) (program : List (List Instr)) (items : List Item) : Type 0 where
  pub ran : Ran
  pub is : IsRunOf manner program items ran
  pub checkpoint : List ℕ
  pub saved : IsCheckpointOf manner program ran checkpoint
  pub is_dump : IsDumpOf manner ran
  pub prints : Grows call.out.held (print_of (plain program (options_by manner).turns ran.order) ++ flag_lines manner program ran checkpoint) call.out.holds

-- the headline in one sentence: where `sim`, `run` or `bench` succeeds, it prints what the plain machine prints
abbrev pub PrintsPlainly : Call → Type 0
PrintsPlainly call = (job : Job) (manner : Manner) (program : List (List Instr)) (items : List Item) → run_by job ≡ Some manner → Succeeds call job program items
    → IsPlainlyPrinted call manner program items

-- where `asm` succeeds, the bytes held grow by the program's listing, which is a text of this same program
abbrev pub PrintsListing : Call → Type 0
PrintsListing call = (program : List (List Instr)) (items : List Item) → Succeeds call Asm program items
    → Grows call.out.held (listing program items) call.out.holds × IsText (listing program items) program items

-- The bytes held grow by the lines of mutators, one for each section, and those of the flags. Each
-- mutator printed the first of the numbers that it prints alone on the plain machine; where it has
-- an end, and that isn't heap full, it printed all of them and the end is the same.
pub record IsPrintedAsAlone (call : Call) (manner : Manner) (program : List (List Instr)) (items : List Item) : Type 0 where
  pub ran : Ran
  pub is : IsRunOf manner program items ran
  pub mutators : List Mutator
  pub all : length mutators ≡ length program
  pub checkpoint : List ℕ
  pub saved : IsCheckpointOf manner program ran checkpoint
  pub prints : Grows call.out.held (lines_seen 0 (seen_in mutators) ++ flag_lines manner program ran checkpoint) call.out.holds
  pub alone : (m : ℕ) (k : Mutator) → slice_get mutators m ≡ Some k → IsAsAlone program (options_by manner).turns m k

-- if `sim`, `run` or `bench` succeeds, the mutators of a program without `get`, `put`, `swap` and `weak` print what they print alone
abbrev pub IsAlwaysTheSame : Call → Type 0
IsAlwaysTheSame call = (job : Job) (manner : Manner) (program : List (List Instr)) (items : List Item) → run_by job ≡ Some manner → Succeeds call job program items
    → IsTrue (shares_nothing program) → IsPrintedAsAlone call manner program items

-- all of it
pub record HeadlineHolds (call : Call) : Type 0 where
  pub answered : CallIsAnswered call
  pub complete : IsComplete call
  pub prints : PrintsPlainly call
  pub lists : PrintsListing call
  pub always_the_same : IsAlwaysTheSame call
  pub concords : PrintsConcordance call
  pub concord_ends : ConcordEnds call
  pub large_heaps_suffice : LargeHeapsSuffice call
  pub audits : AuditEnds call
  pub says_yes : SaysYesToTrueOutputs call
