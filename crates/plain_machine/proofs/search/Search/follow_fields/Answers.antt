use Rattle.std.proofs.Common.{sym, ◌∙◌}
use Rattle.plain_state.specs.declared.value.Value.TheVariants.{Number}
use Rattle.plain_machine.proofs.Found.Fields.{field_followed, field_passed}
use Rattle.plain_machine.proofs.search.Search.follow_fields.Goals.{then-is_field+in_ok-follow, else-is_field}
use Rattle.plain_machine.proofs.search.Search.follow_fields.Goals as goal

pub loop-x-preserved : goal.loop-x-preserved
loop-x-preserved c =
    let its = c.args.content.now in
    let within = rw c.values-value-items.ensures at c.loop-x-test.true in
    elim c.if-is_field.branch [
      | then-is_field+in_ok-follow w ↦ rw w.self-is
          (field_followed its.kind its.values c.args.self.now c.loop-x.self c.loop-x.x (Number 0) within c.loop-x.invariant _ (sym c.is_field.ensures ∙ w.if-is_field.true)
          (rw c.values-value-items.ensures at w.in_ok-follow.ensures))
      | else-is_field w ↦ rw w.self-is (field_passed its.kind its.values c.args.self.now c.loop-x.self c.loop-x.x (Number 0) within c.loop-x.invariant (sym c.is_field.ensures ∙ w.if-is_field.false))
    ]
