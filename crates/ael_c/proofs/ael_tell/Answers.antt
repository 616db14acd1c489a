use Rattle.std.proofs.Common.{◌∙◌, Some, ap, sym}
use Rattle.ael_c.specs.declared.seat.Seat.{Seat}
use Rattle.ael_c.specs.Handles.{is_mutator}
use Rattle.ael_c.proofs.ael_tell.Goals as goal

pub returns-clause-kept : goal.returns-clause-kept
returns-clause-kept c other =
    c.tell-answer.ensures.kept (ap (λ (x : Seat). is_mutator (Some x)) c.deref.ensures ∙ ap is_mutator (sym c.in-Some.ensures.took) ∙ other)
