use Rattle.std.proofs.Common.{◌≡◌, ◌∙◌, ◌+◌, sym, ap}
use Rattle.std.proofs.lemmas.Bool.{eq-eqb, eqb-true}
use Rattle.heap_audit.specs.Told.{dump_told}
use Rattle.heap_audit.proofs.ShownRecords.ToldWords.{turn_is}
use Rattle.heap_audit.proofs.told_heap.ToldHeap.may_have_emptied.Goals as goal

pub returns-then-is_copying : goal.returns-then-is_copying
returns-then-is_copying c =
    let turn = turn_is c.args.self.now.spaces.pages c.args.self.now.words.now c.weak_turn_place.result c.weak_turn_place.ensures.place in
    let next : c.from.result + 1 ≡ (dump_told c.args.self.now).table.gate.epoch + 1 = ap (λ e. e + 1) (c.from.ensures ∙ c.epoch.ensures) in (
      λ t. (c.is_copying.ensures.0 c.if-is_copying.true, sym turn ∙ (eqb-true _ _ t ∙ next)),
      λ both. eq-eqb _ _ (turn ∙ (both.1 ∙ sym next)),
    )
