-- what was taken last is told
use Rattle.stack_language.proofs.interpreter.Interpreter.take_from.Goals as goal

pub returns-then-ne-clause-value : goal.returns-then-ne-clause-value
returns-then-ne-clause-value g c = c.in_ok-take.ensures.value

pub returns-then-ne-clause-empty : goal.returns-then-ne-clause-empty
returns-then-ne-clause-empty g c = c.in_ok-take.ensures.empty
