use Rattle.std.proofs.Common.{◌≡◌, ◌∙◌}
use Rattle.ael_c.specs.Handles.{behind}
use Rattle.ael_c.proofs.Openings.{cleared}
use Rattle.ael_c.proofs.opening.deal.Goals as goal

pub returns : goal.returns
returns c =
    let mutators = cleared c.args.mutators.now c.clear.new.handles c.requires.null.0 c.clear.ensures.null (c.clear.ensures.count ∙ c.deals.ensures.counts.0) in
    let scanners = cleared c.args.scanners.now c.clear-2.new.handles c.requires.null.1 c.clear-2.ensures.null (c.clear-2.ensures.count ∙ c.deals.ensures.counts.1) in
    (λ i. record { mutators = mutators i; scanners = scanners i })
