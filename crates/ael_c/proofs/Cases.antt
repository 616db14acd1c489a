-- Which case of a clause it is, by what a call found before.
use Rattle.std.proofs.Common.{◌≡◌, ◌+◌, ◌<◌, ℕ, true, false, Bool, List, Option, Some, None, length, arith, refl, sym, subst}
use Rattle.std.specs.Prelude.{is_some, nat_lt}
use Rattle.plain_state.specs.declared.end.End.{End}
use Rattle.plain_state.specs.declared.sizes.TheConstants.{REGISTERS}
use Rattle.mutator_asm.specs.declared.instr.Instr.{Instr}
use Rattle.mutator_asm.specs.declared.instr.Instr.TheVariants.{Halt}
use Rattle.gc_worker.specs.declared.calls.did.Did.{Did}
use Rattle.gc_worker.specs.declared.task.Task.{Task}
use Rattle.gc_worker.specs.declared.task.Task.TheVariants as tasks
use Rattle.gc_worker.specs.declared.steps.stepped.Stepped.{Stepped}
use Rattle.gc_worker.specs.declared.steps.stepped.Stepped.TheVariants as stepped
use Rattle.gc_worker.specs.Laws.Between.{with_task}
use Rattle.gc_worker.specs.Steps.AtRest.{is_at_rest}
use Rattle.ael_threads.specs.declared.calls.TheConstants.{ACTS}
use Rattle.ael_threads.specs.ActsInRow.{ScannerActs, Series, ends_round}
use Rattle.ael_threads.specs.Calls.{StaysSilent}
use Rattle.ael_threads.specs.Readers.{SeatedScanner}
use Rattle.ael_threads.proofs.ActsInRow.{some_made}
use Rattle.ael_threads.specs.declared.mutator.refused.Refused.{Refused}
use Rattle.ael_threads.specs.Refusals.{refusal}
use Rattle.ael_threads.specs.Seats.{Seated}
use Rattle.ael_c.specs.declared.answer.Answer.{Answer}
use Rattle.ael_c.specs.declared.answer.Answer.TheVariants as answers
use Rattle.ael_c.specs.Answers.{answer_by, leaving_by}
use Rattle.ael_c.specs.Calls.{ActsOn, Departs, GoesOn, Leaves, LeavesWith, MakesActs, MakesCall, MakesUnless, Polls, PollsWith, ReadsIf, ReadsRegister, Rests, Scans, StopsOnceTold, TellsRegister, answer_of_round, begins}

module _ (a b : Seated) (answer : Answer) where
  -- ---- call

  pub makes_acts : (o : Option Instr) (instr : Instr) → o ≡ Some instr → refusal a instr ≡ None → MakesActs a (tasks.Calls instr) answer b → MakesCall o a answer b
  makes_acts o instr is free acts =
      subst (λ (x : Option Instr). MakesCall x a answer b) (sym is) (subst (λ (w : Option Refused). MakesUnless w instr a answer b) (sym free) acts)

  -- ---- poll

  pub polls_ended : (end : End) → a.worker.account.end ≡ Some end → (has_left : Bool) → Departs has_left a b → answer ≡ answers.Ended end → Polls a answer b
  polls_ended end is has_left departs told = subst (λ (e : Option End). PollsWith e a.worker.task a answer b) (sym is) (has_left, departs, told)

  pub polls_calling : a.worker.account.end ≡ None → is_some a.worker.task ≡ true → GoesOn answer_by a answer b → Polls a answer b
  polls_calling none calls goes = subst (λ (e : Option End). PollsWith e a.worker.task a answer b) (sym none) (by_task a.worker.task calls)
    where
      by_task : (o : Option Task) → is_some o ≡ true → PollsWith None o a answer b
      by_task None some = absurd (cc)
      by_task (Some task) some = goes

  pub polls_resting : a.worker.account.end ≡ None → a.worker.task ≡ None → Rests a answer b → Polls a answer b
  polls_resting none idle rests =
      subst (λ (e : Option End). PollsWith e a.worker.task a answer b) (sym none) (subst (λ (t : Option Task). PollsWith None t a answer b) (sym idle) rests)

  -- ---- leave

  pub leaves_calling : a.worker.account.end ≡ None → is_some a.worker.task ≡ true → GoesOn leaving_by a answer b → Leaves a answer b
  leaves_calling none calls goes = subst (λ (e : Option End). LeavesWith e a.worker.task a answer b) (sym none) (by_task a.worker.task calls)
    where
      by_task : (o : Option Task) → is_some o ≡ true → LeavesWith None o a answer b
      by_task None some = absurd (cc)
      by_task (Some task) some = goes

  pub leaves_halting : a.worker.account.end ≡ None → a.worker.task ≡ None → ActsOn (λ came. MakesActs a (tasks.Calls Halt) came b) answer → Leaves a answer b
  leaves_halting none idle acts =
      subst (λ (e : Option End). LeavesWith e a.worker.task a answer b) (sym none) (subst (λ (t : Option Task). LeavesWith None t a answer b) (sym idle) acts)

-- a mutator that has begun a task
pub has_begun : (a x : Seated) (task : Task) → x.worker ≡ with_task a.worker task → x.table ≡ a.table → x.knows ≡ a.knows → x ≡ begins a task
has_begun a x task worker table knows = λ i. record { table = table i; worker = worker i; knows = knows i }

-- as the code tests it
pub is_idle : (o : Option Task) → is_some o ≡ false → o ≡ None
is_idle None none = refl
is_idle (Some task) none = absurd (cc)

-- ---- scan

-- an act that isn't idle ends a round
pub round_done : (told : Stepped) → (told ≡ stepped.Idle → ⊥) → answers.Done ≡ answer_of_round true told
round_done stepped.Idle idle = absurd (idle refl)
round_done _ idle = refl

module _ (a b : SeatedScanner) (quiet : (first : Seated) → StaysSilent first a.seated → StaysSilent first b.seated) where
  -- an act ended the round, before which fewer than ACTS were made
  pub scans_to_end : (before : List SeatedScanner) (last : SeatedScanner) (told : Stepped) (n : ℕ) → Series ScannerActs ends_round a before last → length before ≡ n → n < ACTS → ScannerActs last told b
      → is_at_rest b.seated.worker ≡ true → (answer : Answer) → answer ≡ answer_of_round true told → StopsOnceTold answer b.seated → Scans a answer b
  scans_to_end before last told n series count few made rests answer is stops = record {
    quiet = quiet;
    stops = stops;
    ends = true;
    acts = record {
      until = record { before = before; last = last; series = series; told = told; made = made; done = sym rests };
      most = omega (arith, count, few);
      all = λ e. absurd (cc);
    };
    told = is;
  }

  -- ACTS were made, none of which ended it
  pub scans_on : (before : List SeatedScanner) → Series ScannerActs ends_round a before b → length before ≡ ACTS → Scans a answers.Again b
  scans_on before series count = record { quiet = quiet; stops = tt; ends = false; acts = some_made ScannerActs ends_round a before b series count; told = refl }

-- ---- reg

module _ (i before value : ℕ) (a : Seated) (answer : Answer) where
  pub reads_register : nat_lt i REGISTERS ≡ true → TellsRegister i a answer value → ReadsRegister i before value a answer a
  reads_register within tells = (subst (λ (x : Bool). ReadsIf x i before value a answer) (sym within) tells, refl)
