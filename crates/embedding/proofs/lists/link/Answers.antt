use Rattle.std.proofs.Common.{◌∙◌}
use Rattle.embedding.proofs.ListCalls.{head_stored, list_keeps_rest, number_keeps_rest, store_keeps_rest}
use Rattle.embedding.proofs.Outcomes.{on_ok_both, on_ok_map}
use Rattle.embedding.proofs.lists.link.Goals as goal

pub returns-clause-number : goal.returns-clause-number
returns-clause-number g c =
    on_ok_both c.store.result _ _ _ c.store.ensures.effects c.store.ensures.value (λ stores value. head_stored c.set_number.new.self c.store.new.self _ stores _ (value ∙ c.in_ok-set_number.ensures.value))

pub returns-clause-rest : goal.returns-clause-rest
returns-clause-rest g c =
    on_ok_map c.store.result _ _ c.store.ensures.effects (λ stores.
    store_keeps_rest c.set_number.new.self c.store.new.self _ stores
    ∙ (number_keeps_rest c.make.new.self c.set_number.new.self _ c.in_ok-set_number.ensures.effects ∙ list_keeps_rest c.args.local.now c.make.new.self _ c.in_ok-make.ensures.effects))
