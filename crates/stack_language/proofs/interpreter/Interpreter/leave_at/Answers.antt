-- what is left on the board is what the root held all the time
use Rattle.std.proofs.Common.{ap, arith, ◌∙◌}
use Rattle.plain_state.specs.Writing.{with_board}
use Rattle.ael_runtime.specs.Reading.{heap_before}
use Rattle.stack_language.proofs.interpreter.Interpreter.leave_at.Goals as goal

pub returns-then-eq-clause-left : goal.returns-then-eq-clause-left
returns-then-eq-clause-left g c =
    c.in_ok-share.ensures.put
    ∙ ap (with_board (heap_before c.share.new.self) c.args.word)
    (c.in_ok-read_shared.ensures.effects.others 2 (λ e. absurd (omega (arith, e))) (λ e. absurd (omega (arith, e))) ∙ c.loop.invariant.1)
