use Rattle.std.proofs.Common.{◌∙◌, get_or, refl, arith}
use Rattle.std.proofs.Math.ListN.{length-set}
use Rattle.heap_audit.specs.declared.walks.RecordAt.{RecordAt}
use Rattle.heap_audit.proofs.WalkedSpaces.Begins.{notes_all, notes_more}
use Rattle.heap_audit.proofs.walks.begins.Goals as goal

pub loop-found-preserved : goal.loop-found-preserved
loop-found-preserved c =
    let i = c.loop-found.found-index in
    let r : RecordAt = get_or c.args.records.now i (record { at = 0; size = 0 }) in
    let few = c.requires i r c.loop-found-test.true in (
      length-set c.loop-found.begins.items r.at _ ∙ c.loop-found.invariant.0,
      notes_more c.loop-found.begins.items c.args.records.now i (record { at = 0; size = 0 }) r c.loop-found-test.true refl (omega (arith, few, c.loop-found.invariant.0)) c.loop-found.invariant.1,
    )

pub returns : goal.returns
returns c = notes_all c.loop-found.begins.items c.args.records.now c.loop-found.found-index c.loop-found-test.false c.loop-found.invariant.1
