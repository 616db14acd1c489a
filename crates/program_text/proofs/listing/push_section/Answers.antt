use Rattle.std.proofs.Common.{arith}
use Rattle.std.proofs.lemmas.Result.{on_ok_weaker}
use Rattle.program_text.proofs.Listings.Written.{known_target, line_more, section_text}
use Rattle.program_text.proofs.listing.push_section.Goals as goal

pub loop-k-preserved : goal.loop-k-preserved
loop-k-preserved c =
    let marked = known_target c.in_ok-targets.targets.items c.args.section.now c.loop-k.k c.index.result.now c.in_ok-targets.ensures (omega arith) c.index.ensures in
    line_more c.args.section.now c.loop-k.k _ c.index.result.now _ _ _ c.loop-k-test.true marked c.in_ok-push_instr.ensures c.loop-k.invariant

pub returns : goal.returns
returns c =
    let section = c.args.section.now in
    let marked = known_target c.in_ok-targets.targets.items section _ c.index-2.result.now c.in_ok-targets.ensures (omega arith) c.index-2.ensures in
    on_ok_weaker c.push_end.result (λ wrote. section_text section c.loop-k.k c.index-2.result.now _ _ _ _ (omega arith) marked c.in_ok-push_str.ensures.bytes c.loop-k.invariant wrote) c.push_end.ensures
