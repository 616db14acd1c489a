-- An instruction that isn't refused may be begun.
use Rattle.std.proofs.Common.{◌≡◌, ℕ, ◌<◌, ◌+◌, ◌^◌, Bool, true, false, ◌&&◌, not, Option, Some, None, nat_le, refl, sym, ◌∙◌, leb-false, arith}
use Rattle.std.specs.Prelude.{if◌then◌else◌}
use Rattle.plain_state.specs.declared.end.End.{End}
use Rattle.plain_state.specs.State.{Mutator}
use Rattle.plain_heap.specs.Action.{action}
use Rattle.mutator_asm.specs.declared.instr.Instr.{Instr}
use Rattle.mutator_asm.specs.declared.instr.Instr.TheVariants as instrs
use Rattle.mutator_asm.specs.Program.{is_valid}
use Rattle.gc_worker.specs.declared.task.Task.{Task}
use Rattle.gc_worker.specs.declared.task.Task.TheVariants.{Calls}
use Rattle.gc_worker.specs.declared.steps.allocating.Making.{Making}
use Rattle.gc_worker.specs.Plain.Seen.{making_in, seen}
use Rattle.gc_worker.specs.Workers.Fits.{MayBegin}
use Rattle.gc_worker.specs.Steps.Stepped.{MayExecute, MayIf, is_output}
use Rattle.gc_worker.proofs.Plain.RecordsMade.{made_of, makes_of}
use Rattle.ael_threads.specs.declared.mutator.refused.Refused.TheVariants.{Operand, Printing, Records}
use Rattle.ael_threads.specs.declared.mutator.refused.TheConstants.{MOST_RECORDS}
use Rattle.ael_threads.specs.Seats.{Seated}
use Rattle.ael_threads.specs.Refusals.{lacks_serial, makes_record, may_not_print, refusal, refusal_by}

-- the other instructions make no record
makes_none : (q : Mutator) (instr : Instr) → makes_record instr ≡ false → makes_of q instr ≡ None
makes_none q (instrs.New d x) other = absurd (cc)
makes_none q (instrs.Raw d x) other = absurd (cc)
makes_none q (instrs.Mix d fields raw) other = absurd (cc)
makes_none q (instrs.Weak d a) other = absurd (cc)
makes_none q _ other = refl

-- a serial is left for each record that is made
serial_left : (q : Mutator) (instr : Instr) (serial : ℕ) → lacks_serial instr serial ≡ false → (m : Making) → making_in (action q instr) ≡ Some m → serial + 1 < 2 ^ 40
serial_left q instr serial left m is = by_making (makes_record instr) refl
  where
    by_making : (b : Bool) → makes_record instr ≡ b → serial + 1 < 2 ^ 40
    by_making true makes = by_count (nat_le MOST_RECORDS serial) refl
      where
        by_count : (b : Bool) → nat_le MOST_RECORDS serial ≡ b → serial + 1 < 2 ^ 40
        by_count true most = absurd (let lacks : lacks_serial instr serial ≡ true = (λ i. makes i && most i) in let e : true ≡ false = sym lacks ∙ left in cc)
        by_count false most = let less = leb-false MOST_RECORDS serial most in omega (arith, less)
    by_making false makes = absurd (let e : None ≡ Some m = sym (makes_none q instr makes) ∙ sym (made_of q instr) ∙ is in cc)

-- what is so if there is no reason
pub record MayBeBegun (a : Seated) (instr : Instr) : Type 0 where
  pub no_end : a.worker.account.end ≡ None
  pub no_task : a.worker.task ≡ None
  pub may_begin : MayBegin a.worker.account a.worker.registers (Some (Calls instr))
  pub may_execute : MayExecute a.knows.plan.prints instr

-- there is room if it prints
room_left : (asks prints : Bool) → asks && not prints ≡ false → MayIf asks prints
room_left true true left = refl
room_left true false left = absurd (cc)
room_left false prints left = tt

pub may_be_begun : (a : Seated) (instr : Instr) → refusal a instr ≡ None → MayBeBegun a instr
may_be_begun a instr none = by_end a.worker.account.end refl a.worker.task refl none
  where
    by_room : a.worker.account.end ≡ None → a.worker.task ≡ None → is_valid instr ≡ true → lacks_serial instr a.worker.account.serial ≡ false
        → (b : Bool) → may_not_print instr a.knows.plan.prints ≡ b → (if b then Some Printing else None) ≡ None → MayBeBegun a instr
    by_room end task valid left true lacks e = absurd (cc)
    by_room end task valid left false lacks e = record {
      no_end = end;
      no_task = task;
      may_begin = record { valid = valid; serial = serial_left (seen a.worker.account a.worker.registers) instr a.worker.account.serial left };
      may_execute = room_left (is_output instr) a.knows.plan.prints lacks;
    }

    by_lack : a.worker.account.end ≡ None → a.worker.task ≡ None → is_valid instr ≡ true → (b : Bool) → lacks_serial instr a.worker.account.serial ≡ b
        → (if b then Some Records else (if may_not_print instr a.knows.plan.prints then Some Printing else None)) ≡ None → MayBeBegun a instr
    by_lack end task valid true lacks e = absurd (cc)
    by_lack end task valid false lacks e = by_room end task valid lacks (may_not_print instr a.knows.plan.prints) refl e

    by_valid : a.worker.account.end ≡ None → a.worker.task ≡ None → (b : Bool) → is_valid instr ≡ b
        → (if b then (if lacks_serial instr a.worker.account.serial then Some Records else (if may_not_print instr a.knows.plan.prints then Some Printing else None))
        else Some Operand) ≡ None
        → MayBeBegun a instr
    by_valid end task true valid e = by_lack end task valid (lacks_serial instr a.worker.account.serial) refl e
    by_valid end task false valid e = absurd (cc)

    by_end : (end : Option End) → a.worker.account.end ≡ end → (task : Option Task) → a.worker.task ≡ task
        → refusal_by instr end task a.worker.account.serial a.knows.plan.prints ≡ None → MayBeBegun a instr
    by_end (Some end) is task its e = absurd (cc)
    by_end None is (Some task) its e = absurd (cc)
    by_end None is None its e = by_valid is its (is_valid instr) refl e
