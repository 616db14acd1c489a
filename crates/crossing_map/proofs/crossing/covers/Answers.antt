use Rattle.std.proofs.Common.{◌∙◌, sym, arith}
use Rattle.crossing_map.proofs.WalkSteps.{cross-word}
use Rattle.crossing_map.proofs.crossing.covers.Goals as goal

pub overflow_cast-result : goal.overflow_cast-result
overflow_cast-result c =
    let page = c.args.page in
    let is = cross-word c.args.spaces.pages c.args.words.now page c.cross_place.result c.requires.page c.cross_place.ensures.place in
    let z = c.requires.crossings.crossing page c.requires.crossed.in_space c.requires.crossed.below_front c.requires.crossed.unreserved in
    omega (arith, is, z.2, z.4)

pub returns : goal.returns
returns c =
    let page = c.args.page in
    let is = cross-word c.args.spaces.pages c.args.words.now page c.cross_place.result c.requires.page c.cross_place.ensures.place in
    let z = c.requires.crossings.crossing page c.requires.crossed.in_space c.requires.crossed.below_front c.requires.crossed.unreserved in
    record { item = z.0; walked = z.1; is_at = sym z.4 ∙ is; holds = (z.2, z.3) }
