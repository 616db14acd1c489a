use Rattle.std.proofs.Common.{◌∙◌}
use Rattle.embedding.proofs.ListCalls.{tail_stored}
use Rattle.embedding.proofs.Outcomes.{on_ok_both}
use Rattle.embedding.proofs.lists.prepend.Goals as goal

pub returns-clause-rest : goal.returns-clause-rest
returns-clause-rest g c =
    on_ok_both c.store.result _ _ _ c.store.ensures.effects c.store.ensures.value (λ stores value.
    tail_stored c.link.new.local c.store.new.self _ stores _ (value ∙ (c.in_ok-link.ensures.rest ∙ c.in_ok-copy.ensures.value)))
