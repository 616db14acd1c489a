use Rattle.std.proofs.Common.{◌+◌, rules}
use Rattle.concordance.proofs.Working.FullForOne.{TellsFull, TellsFullForOne, either_full, first_full}
use Rattle.concordance.proofs.running.+fn-read_all-join_first+arg4+read_all.Goals as goal

pub returns-then-is_empty-clause-full : goal.returns-then-is_empty-clause-full
returns-then-is_empty-clause-full g t c =
    first_full c.args.job.now c.args.from c.in-Some.part.now c.in-Some.others.now c.args.parts.now c.in-Some.ensures.cases.0 c.works.result c.works.ensures.full

pub returns-clause-full : goal.returns-clause-full
returns-clause-full g t c =
    let w = c.args.job.now in
    let first = c.in-Some.part.now in
    let others = c.in-Some.others.now in
    let both = c.join_first-one.result in
    let one : TellsFull w c.args.from first both.0 = search rules in
    let more : TellsFullForOne w (c.args.from + 1) others both.1 = search rules in
    either_full w c.args.from first others c.args.parts.now c.in-Some.ensures.cases.0 both.0 both.1 c.and.result c.and.ensures one more
