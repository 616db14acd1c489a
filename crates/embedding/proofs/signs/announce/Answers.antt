use Rattle.embedding.proofs.Outcomes.{on_ok_by}
use Rattle.embedding.proofs.SignCalls.{signed_off}
use Rattle.embedding.proofs.signs.announce.Goals as goal

pub returns-clause-signed : goal.returns-clause-signed
returns-clause-signed g c =
    signed_off c.set_number.new.self c.share.new.self c.leave.result
    (on_ok_by c.set_number.result _ c.unwrap.result c.unwrap.ensures c.set_number.ensures.value)
    (on_ok_by c.share.result _ c.unwrap-2.result c.unwrap-2.ensures c.share.ensures.put)
    (on_ok_by c.share.result _ c.unwrap-2.result c.unwrap-2.ensures c.share.ensures.effects).no_end
    c.leave.ensures.halts
