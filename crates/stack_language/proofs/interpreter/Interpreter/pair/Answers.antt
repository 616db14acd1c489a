-- what is stored last is the first, and neither root has changed since
use Rattle.std.proofs.Common.{ap, ◌∙◌}
use Rattle.ael_runtime.specs.Reading.{record_word, seen_heap}
use Rattle.stack_language.proofs.Roots.{root_stays, root_stays_stored}
use Rattle.stack_language.proofs.interpreter.Interpreter.pair.Goals as goal

pub returns-clause-first : goal.returns-clause-first
returns-clause-first g c =
    ap (λ v. record_word (seen_heap c.store-2.new.self) v 0) (root_stays_stored c.store.new.self c.store-2.new.self _ _ c.args.to c.in_ok-store-2.ensures.effects)
    ∙ c.in_ok-store-2.ensures.value
    ∙ root_stays_stored c.make.new.self c.store.new.self _ _ c.args.first c.in_ok-store.ensures.effects
    ∙ root_stays c.copy.new.self c.make.new.self _ _ c.args.first c.in_ok-make.ensures.effects c.requires.others.0
    ∙ root_stays c.args.self.now.local c.copy.new.self _ _ c.args.first c.in_ok-copy.ensures.effects c.requires.others.1
