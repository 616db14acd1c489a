use Rattle.std.proofs.Common.{◌≡◌, Some, None, sym, ◌∙◌}
use Rattle.ael_runtime.specs.Reading.{seen_mutator}
use Rattle.ael_runtime.proofs.PlainCalls.{not_ended}
use Rattle.ael_runtime.proofs.local.Local.does.Goals as goal

pub call-requires-clause-other : goal.call-requires-clause-other
call-requires-clause-other g c = c.requires.sure.other

pub call-requires-clause-may_begin : goal.call-requires-clause-may_begin
call-requires-clause-may_begin g c = record {
  valid = c.requires.valid;
  serial = λ m makes. let no : None ≡ Some m = sym (c.requires.sure.no_record _) ∙ makes in absurd (cc);
}

pub unreachable-requires : goal.unreachable-requires
unreachable-requires g c =
    let t = c.call.ensures.trapped c.in-Trap.field-0 c.in-Trap.is in
    let sure = c.requires.sure in
    not_ended _ t.heap (seen_mutator c.args.self.now) c.args.instr c.in-Trap.field-0 (sure.no_record (seen_mutator c.args.self.now)) (sure.ok t.heap t.at_call) t.may

pub returns-clause-executed : goal.returns-clause-executed
returns-clause-executed g c = c.call.ensures.executed c.in-Done.is
