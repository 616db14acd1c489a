use Rattle.std.proofs.Common.{◌+◌, sym, ap, ◌∙◌}
use Rattle.gc_worker.specs.Workers.Held.{Held, at_stage}
use Rattle.gc_worker.specs.Steps.Stepped.{uncounted}
use Rattle.gc_worker.specs.Steps.Turned.{forwards_from, turned, with_copy, with_register_word}
use Rattle.gc_worker.specs.contracts.state.State.{the_view}
use Rattle.gc_worker.specs.declared.stage.Stage.{Stage}
use Rattle.gc_worker.specs.declared.stage.Stage.TheVariants.{Forwards}
use Rattle.gc_worker.proofs.Words.Read.{forwards_on, register_turned}
use Rattle.gc_worker.proofs.state.State.forward.Goals as goal

pub returns-in-Finished : goal.returns-in-Finished
returns-in-Finished c =
    let x = the_view c.self.inside in
    let w = c.in-Forwards.field-0 in
    let to = c.in-Finished.to in
    let was : Stage = Forwards (record w { evac = c.take.new.self }) in
    let turns = register_turned x w c.args.reply to c.in-Forwards.is (sym c.take.ensures.told ∙ c.in-Finished.is) in
    ap (λ (y : Held). at_stage y c.forwarding-self-inside.result) c.self-in-Finished.view_is
    ∙ ap (at_stage c.set.new.self) c.forwarding-self-inside.ensures
    ∙ ap (λ (y : Held). at_stage y (forwards_from y w.after (w.register + 1))) (c.set.ensures ∙ ap (with_register_word (at_stage x was) w.register) c.pointer.ensures.word)
    ∙ forwards_on (with_copy x w.register to.0) was w.after (w.register + 1)
    ∙ sym (ap uncounted turns)
    ∙ ap (λ (y : Held). uncounted (turned y c.args.reply)) c.self.view_is
