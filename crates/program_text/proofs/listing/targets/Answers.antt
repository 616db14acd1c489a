use Rattle.std.proofs.Common.{◌≡◌, ◌+◌, false, length, replicate, arith, rules}
use Rattle.std.proofs.lemmas.List.{length-replicate}
use Rattle.plain_state.proofs.Elements.{slice_get-of_replicate}
use Rattle.program_text.proofs.Listings.JumpTargets.{target_kept, marked_more}
use Rattle.program_text.proofs.listing.targets.Goals as goal

pub loop-instr-init : goal.loop-instr-init
loop-instr-init c =
    let n = length c.args.section.now + 1 in
    let items : c.in_ok-targets.targets.items ≡ replicate n false = search rules in
    record {
      all = rw items (length-replicate n false);
      each = λ k le. rw items (slice_get-of_replicate n k false (omega arith));
    }

pub mark-requires : goal.mark-requires
mark-requires c = target_kept c.args.section.now c.loop-instr.instr-index _ _ c.requires.closed c.loop-instr-test.true c.loop-instr.invariant.all

pub loop-instr-preserved : goal.loop-instr-preserved
loop-instr-preserved c = record {
  all = omega (arith, c.mark.ensures.all, c.loop-instr.invariant.all);
  each = marked_more c.loop-instr.targets.items _ c.args.section.now c.loop-instr.instr-index _ c.loop-instr-test.true c.loop-instr.invariant.each c.mark.ensures.marked;
}
