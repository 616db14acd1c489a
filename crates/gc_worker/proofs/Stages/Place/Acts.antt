-- The plain mutator makes the record that the worker makes.
use Rattle.std.proofs.Common.{◌≡◌, ℕ, true, None, Ok, ap, ◌∙◌}
use Rattle.plain_state.specs.State.{Mutator, Plain}
use Rattle.plain_heap.specs.declared.action.Action.TheVariants.{Makes}
use Rattle.plain_heap.specs.Action.{action}
use Rattle.heap_state.specs.Configuration.{Configuration, Stands}
use Rattle.heap_state.specs.Known.{is_running}
use Rattle.gc_worker.specs.Workers.Fits.{IsMaking}
use Rattle.gc_worker.specs.Steps.Goes.{Is}
use Rattle.gc_worker.specs.Workers.Held.{Held}
use Rattle.gc_worker.specs.Workers.Knows.{post_in}
use Rattle.gc_worker.proofs.Plain.Actions.{plain_outcome, plain_value}
use Rattle.gc_worker.proofs.Plain.AnswerSteps.{IsIts}
use Rattle.gc_worker.proofs.Plain.Registers.{alike}

pub makes_alike : (c : Configuration) (p : Plain) (s : Stands c p) (k : ℕ) (x : Held) (is : Is c k x) (running : is_running (post_in x x.stage) ≡ true) (unended : x.account.end ≡ None)
    (q : Mutator) (its : IsIts c p s k x q) (making : IsMaking x.account x.registers x.task)
    → action q making.executes.instr ≡ Ok (Makes making.making.kind making.making.into making.making.len (plain_value s.ghost.identity making.value))
makes_alike c p s k x is running unended q its making =
    alike c p s k x is running unended q its making.executes.instr making.executes.call.valid ∙ ap (plain_outcome s.ghost.identity) making.executes.acts
