use Rattle.std.proofs.Common.{sym, ◌∙◌}
use Rattle.checkpoint_text.specs.Words.{saved_heap}
use Rattle.checkpoint_text.proofs.Meets.{met_new, met_none, met_nothing, met_old}
use Rattle.checkpoint_text.proofs.visiting.Visiting.meet.Goals as goal

pub returns-in_default : goal.returns-in_default
returns-in_default c = sym (met_none (saved_heap c.args.words.now) c.args.self.now c.args.word (sym c.as_pointer.ensures.decoded ∙ c.in_default.is))

pub returns-in_default-record : goal.returns-in_default-record
returns-in_default-record c =
    sym (met_nothing (saved_heap c.args.words.now) c.args.self.now c.args.word c.in-Some.address (sym c.as_pointer.ensures.decoded ∙ c.in-Some.is) (sym c.record.ensures ∙ c.in_default-record.is))

pub returns-in_ok-add : goal.returns-in_ok-add
returns-in_ok-add c =
    c.in_ok-add.ensures
    ∙ sym (met_new (saved_heap c.args.words.now) c.args.self.now c.args.word c.in-Some.address c.in-Some-record.record (sym c.as_pointer.ensures.decoded ∙ c.in-Some.is) (sym c.record.ensures ∙ c.in-Some-record.is) (sym c.is_new.ensures ∙ c.if-is_new.true))

pub returns-else-is_new : goal.returns-else-is_new
returns-else-is_new c =
    sym (met_old (saved_heap c.args.words.now) c.args.self.now c.args.word c.in-Some.address c.in-Some-record.record (sym c.as_pointer.ensures.decoded ∙ c.in-Some.is) (sym c.record.ensures ∙ c.in-Some-record.is) (sym c.is_new.ensures ∙ c.if-is_new.false))
