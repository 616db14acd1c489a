-- What a call by C is to a mutator or a scanner, before it and after it.
use Rattle.std.specs.Prelude.{◌≡◌, ℕ, ⊤, true, false, Bool, Option, Some, None, is_some, nat_lt, slice_index}
use Rattle.plain_state.specs.declared.end.End.{End}
use Rattle.plain_state.specs.declared.sizes.TheConstants.{REGISTERS}
use Rattle.mutator_asm.specs.declared.instr.Instr.{Instr}
use Rattle.mutator_asm.specs.declared.instr.Instr.TheVariants.{Halt}
use Rattle.gc_worker.specs.declared.calls.did.Did.{Did}
use Rattle.gc_worker.specs.declared.stage.Stage.TheVariants.{Gone}
use Rattle.gc_worker.specs.declared.task.Task.{Task}
use Rattle.gc_worker.specs.declared.task.Task.TheVariants as tasks
use Rattle.gc_worker.specs.declared.steps.stepped.Stepped.{Stepped}
use Rattle.gc_worker.specs.declared.steps.stepped.Stepped.TheVariants.{Idle}
use Rattle.gc_worker.specs.Laws.Between.{with_task}
use Rattle.gc_worker.specs.Steps.AtRest.{is_at_rest}
use Rattle.ael_threads.specs.declared.mutator.Reg.{Reg}
use Rattle.ael_threads.specs.declared.mutator.Reg.TheVariants as regs
use Rattle.ael_threads.specs.declared.mutator.refused.Refused.{Refused}
use Rattle.ael_threads.specs.ActsInRow.{MakesSome, ScannerActs, ends_round, is_answer, is_idle, is_rest}
use Rattle.ael_threads.specs.Calls.{IsUnderWay, RegistersStand, StaysSilent, Tries}
use Rattle.ael_threads.specs.Readers.{IsReg, SeatedScanner}
use Rattle.ael_threads.specs.Refusals.{refusal}
use Rattle.ael_threads.specs.Seats.{Acts, Seated, ShowsSeen}
use Rattle.ael_c.specs.declared.answer.Answer.{Answer}
use Rattle.ael_c.specs.declared.answer.Answer.TheVariants as answers
use Rattle.ael_c.specs.Answers.{answer_by, answer_to, leaving_by}

-- it is refused for this reason, and nothing changes
abbrev pub IsRefused : Answer → Seated → Answer → Seated → Type 0
IsRefused why a answer b = (answer ≡ why) × (b ≡ a)

-- ---- call

-- it has begun this task
abbrev pub begins : Seated → Task → Seated
begins a task = record { table = a.table; worker = with_task a.worker task; knows = a.knows }

-- acts were made for a task, up to the one that answered it, if there is one; then it is a call that came to this (`Called`)
pub record MakesActs (a : Seated) (task : Task) (answer : Answer) (b : Seated) : Type 0 where
  pub did : Option Did
  pub told : answer ≡ answer_by did
  pub tries : Tries a task did b
  pub acts : MakesSome Acts is_answer (is_some did) (begins a task) b

abbrev pub MakesUnless : Option Refused → Instr → Seated → Answer → Seated → Type 0
MakesUnless (Some why) instr a answer b = IsRefused (answer_to instr why) a answer b
MakesUnless None instr a answer b = MakesActs a (tasks.Calls instr) answer b

-- THE CLAUSE OF CALL: the instruction is refused, or begun, and acts are made for it
abbrev pub MakesCall : Option Instr → Seated → Answer → Seated → Type 0
MakesCall None a answer b = IsRefused answers.BadInstruction a answer b
MakesCall (Some instr) a answer b = MakesUnless (refusal a instr) instr a answer b

-- ---- poll

-- Acts were made for the call that is under way, whatever it was before, up to the one that answered it, if there is one: then it is a call
-- that came to this.
pub record GoesOn (tell : Option Did → Answer) (a : Seated) (answer : Answer) (b : Seated) : Type 0 where
  pub did : Option Did
  pub told : answer ≡ tell did
  pub tries : (first : Seated) (task : Task) → IsUnderWay first task a → Tries first task did b
  pub acts : MakesSome Acts is_answer (is_some did) a b

-- it rests once that is answered, and its registers may be compared
abbrev pub RestsOnceDone : Answer → Seated → Type 0
RestsOnceDone answers.Done b = (is_at_rest b.worker ≡ true) × ShowsSeen b.worker b.knows × RegistersStand b
RestsOnceDone answers.Again b = ⊤
RestsOnceDone answer b = ⊥

-- it is done
abbrev pub is_done : Answer → Bool
is_done answers.Done = true
is_done answer = false

-- no call is made, and acts are, up to the first after which it rests, if there is one
pub record Rests (a : Seated) (answer : Answer) (b : Seated) : Type 0 where
  pub quiet : StaysSilent a b
  pub acts : MakesSome Acts is_rest (is_done answer) a b
  pub done : RestsOnceDone answer b

-- with its end it makes no call, and acts, up to the first that finds that it has left, if there is one
pub record Departs (has_left : Bool) (a b : Seated) : Type 0 where
  pub quiet : StaysSilent a b
  pub acts : MakesSome Acts is_idle has_left a b

abbrev pub PollsWith : Option End → Option Task → Seated → Answer → Seated → Type 0
PollsWith (Some end) task a answer b = (has_left : Bool) × Departs has_left a b × (answer ≡ answers.Ended end)
PollsWith None (Some task) a answer b = GoesOn answer_by a answer b
PollsWith None None a answer b = Rests a answer b

-- THE CLAUSE OF POLL: a mutator with an end goes on to leave, and the end is told; a call goes on; or the mutator looks at the gate, and does
-- what that asks
abbrev pub Polls : Seated → Answer → Seated → Type 0
Polls a answer b = PollsWith a.worker.account.end a.worker.task a answer b

-- ---- leave

-- it has left
abbrev pub is_left : Answer → Bool
is_left answers.Left = true
is_left answer = false

-- it has left once that is answered
abbrev pub HasLeftOnceTold : Answer → Seated → Type 0
HasLeftOnceTold answers.Left b = b.worker.stage ≡ Gone
HasLeftOnceTold answers.Again b = ⊤
HasLeftOnceTold answer b = ⊥

-- what acts came to, of which C is told only that it isn't done
pub record ActsOn (P : Answer → Type 0) (answer : Answer) : Type 0 where
  pub told : answer ≡ answers.Again
  pub came : Answer
  pub acts : P came

abbrev pub LeavesWith : Option End → Option Task → Seated → Answer → Seated → Type 0
LeavesWith (Some end) task a answer b = Departs (is_left answer) a b × HasLeftOnceTold answer b
LeavesWith None (Some task) a answer b = GoesOn leaving_by a answer b
LeavesWith None None a answer b = ActsOn (λ came. MakesActs a (tasks.Calls Halt) came b) answer

-- THE CLAUSE OF LEAVE: a call goes on, and what it came to is told; then `halt` is made; with its end the mutator leaves, and no call of it
-- is heard of any more
abbrev pub Leaves : Seated → Answer → Seated → Type 0
Leaves a answer b = LeavesWith a.worker.account.end a.worker.task a answer b

-- ---- what it shows

abbrev pub answer_reg : Reg → Answer
answer_reg (regs.Number n) = answers.Number
answer_reg (regs.Pointer address) = answers.Pointer

abbrev pub value_reg : Reg → ℕ
value_reg (regs.Number n) = n
value_reg (regs.Pointer address) = address

-- a register holds this, and shows the plain mutator's after all that was seen
pub record TellsRegister (i : ℕ) (s : Seated) (answer : Answer) (value : ℕ) : Type 0 where
  pub reg : Reg
  pub is : IsReg (slice_index s.worker.registers i) reg
  pub told : answer ≡ answer_reg reg
  pub value_is : value ≡ value_reg reg
  pub shows : ShowsSeen s.worker s.knows

abbrev pub ReadsIf : Bool → (i before value : ℕ) → Seated → Answer → Type 0
ReadsIf true i before value a answer = TellsRegister i a answer value
ReadsIf false i before value a answer = (answer ≡ answers.BadRegister) × (value ≡ before)

-- THE CLAUSE OF REG
abbrev pub ReadsRegister : (i before value : ℕ) → Seated → Answer → Seated → Type 0
ReadsRegister i before value a answer b = ReadsIf (nat_lt i REGISTERS) i before value a answer × (b ≡ a)

-- by an end
abbrev pub answer_of_end : Option End → Answer
answer_of_end None = answers.Done
answer_of_end (Some end) = answers.Ended end

-- THE CLAUSE OF TELL: these are the plain mutator's after all that was seen, but for the epoch
pub record Tells (serial epoch : ℕ) (a : Seated) (answer : Answer) (b : Seated) : Type 0 where
  pub told : answer ≡ answer_of_end a.worker.account.end
  pub serial_is : serial ≡ a.worker.account.serial
  pub epoch_is : epoch ≡ a.worker.epoch
  pub shows : ShowsSeen a.worker a.knows
  pub same : b ≡ a

-- ---- scan

abbrev pub StopsOnceTold : Answer → Seated → Type 0
StopsOnceTold answers.Done b = is_at_rest b.worker ≡ true
StopsOnceTold answers.Again b = ⊤
StopsOnceTold answers.Left b = b.worker.stage ≡ Gone
StopsOnceTold answer b = ⊥

-- what acts came to, if they ended a round or not, by what the last one told
abbrev pub answer_of_round : Bool → Stepped → Answer
answer_of_round false told = answers.Again
answer_of_round true Idle = answers.Left
answer_of_round true told = answers.Done

-- THE CLAUSE OF SCAN: nothing is heard of a scanner; acts are made, up to the first that ends a round, if there is one; then it rests, and if
-- that act was idle it is gone, since all mutators have left
pub record Scans (a : SeatedScanner) (answer : Answer) (b : SeatedScanner) : Type 0 where
  pub quiet : (first : Seated) → StaysSilent first a.seated → StaysSilent first b.seated
  pub stops : StopsOnceTold answer b.seated
  pub ends : Bool
  pub acts : MakesSome ScannerActs ends_round ends a b
  pub told : answer ≡ answer_of_round ends acts.until.told
