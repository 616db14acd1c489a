use Rattle.std.proofs.Common.{◌≡◌, Bool, Some, None, sym, ◌∙◌, subst}
use Rattle.gc_worker.specs.declared.calls.did.Did.TheVariants.{Done, Trap}
use Rattle.gc_worker.specs.declared.task.Task.TheVariants.{Calls}
use Rattle.mutator_asm.specs.declared.instr.Instr.TheVariants.{Ld}
use Rattle.mutator_asm.specs.declared.operand.Operand.TheVariants as operands
use Rattle.ael_threads.specs.Calls.{Called}
use Rattle.ael_threads.specs.Direct.{CalledSo}
use Rattle.ael_threads.specs.Seats.{IsMine, Seated}
use Rattle.ael_threads.proofs.WholeCalls.Seen.{mine_more}
use Rattle.ael_runtime.specs.KnownLengths.{IsKnown}
use Rattle.ael_runtime.specs.Reading.{seen_mutator}
use Rattle.ael_runtime.proofs.KnownLengths.{known_then}
use Rattle.ael_runtime.proofs.PlainCalls.{not_ended}
use Rattle.ael_runtime.proofs.SeenCalls.{executed, may_trap}
use Rattle.ael_runtime.proofs.local.Local.loads.Goals as goal

pub load-requires-clause-may_begin : goal.load-requires-clause-may_begin
load-requires-clause-may_begin g c = record {
  valid = c.requires.valid;
  serial = λ m makes. let no : None ≡ Some m = sym (c.requires.sure.no_record _) ∙ makes in absurd (cc);
}

pub unreachable-requires : goal.unreachable-requires
unreachable-requires g c =
    let instr = Ld c.args.into c.args.base (operands.Number c.args.value) in
    let by = subst (λ (b : Bool). CalledSo c.self.inside.mutator (Calls instr) b c.load.new.self) c.if-not-load.true c.load.ensures.called in
    let called = subst (λ (s : Seated). Called s (Calls instr) (Trap by.0) c.load.new.self) c.self.view_is by.1 in
    let t = may_trap c.args.self.now c.load.new.self instr by.0 c.requires.no_end (subst (λ (s : Seated). IsMine s.knows) c.self.view_is c.self.invariant.2) called in
    let sure = c.requires.sure in
    not_ended _ t.heap (seen_mutator c.args.self.now) instr by.0 (sure.no_record (seen_mutator c.args.self.now)) (sure.ok t.heap t.at_call) t.may

pub returns-clause-executed : goal.returns-clause-executed
returns-clause-executed g c =
    let instr = Ld c.args.into c.args.base (operands.Number c.args.value) in
    let by = subst (λ (b : Bool). CalledSo c.self.inside.mutator (Calls instr) b c.load.new.self) c.if-not-load.false c.load.ensures.called in
    executed c.args.self.now c.load.new.self instr c.requires.no_end (subst (λ (s : Seated). IsMine s.knows) c.self.view_is c.self.invariant.2) (subst (λ (s : Seated). Called s (Calls instr) Done c.load.new.self) c.self.view_is by)

pub invariant_of-self : goal.invariant_of-self
invariant_of-self g c =
    let instr = Ld c.args.into c.args.base (operands.Number c.args.value) in
    let by = subst (λ (s : Seated). Called s (Calls instr) Done c.load.new.self) c.self.view_is
    (subst (λ (b : Bool). CalledSo c.self.inside.mutator (Calls instr) b c.load.new.self) c.if-not-load.false c.load.ensures.called) in (
      c.load.ensures.table ∙ c.self.invariant.0,
      by.rests,
      mine_more c.args.self.now c.load.new.self (Calls instr) Done by,
      known_then c.args.self.now c.load.new.self instr Done c.self.inside.known c.known_after_load-self-inside.result (c.known_after_load-self-inside.ensures c.args.base (operands.Number c.args.value))
          (subst (IsKnown c.self.inside.known) c.self.view_is c.self.invariant.3) (λ done. returns-clause-executed g c),
    )
