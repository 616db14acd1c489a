use Rattle.std.proofs.Common.{◌<◌, length, arith}
use Rattle.concordance.proofs.Joined.TakenIn.{other_left, other_of_heap, takes_all, takes_first, takes_more}
use Rattle.concordance.proofs.making.joined.Goals as goal

pub loop-other-init : goal.loop-other-init
loop-other-init c =
    let all = c.args.clerks.now in
    let some = c.requires.some in
    let held = all.ok.0 in
    let begins : 0 < length all.items = omega (arith, some, held) in
    let taken = c.remove-first.ensures in
    (c.requires.left.0, c.remove-first.result, takes_first _ all.items _ _ begins taken.value taken.by_index.2 c.requires.left.1)

pub absorb-requires-clause-of_heap : goal.absorb-requires-clause-of_heap
absorb-requires-clause-of_heap c = let i = c.loop-other.invariant in other_of_heap _ _ _ _ _ _ _ c.in-Some.ensures.items i.2

pub absorb-requires-clause-left : goal.absorb-requires-clause-left
absorb-requires-clause-left c = let i = c.loop-other.invariant in other_left _ _ _ _ _ _ _ c.in-Some.ensures.items i.2

pub loop-other-preserved : goal.loop-other-preserved
loop-other-preserved c =
    let i = c.loop-other.invariant in
    (i.0, i.1, takes_more _ _ _ _ _ _ _ c.in-Some.ensures.items i.2 c.absorb.new.self c.absorb.ensures.same.0 c.absorb.ensures.same.1 c.absorb.ensures.both)

pub returns : goal.returns
returns c =
    let left = c.loop-other.clerks in
    let none = c.in_default.ensures.cases.0 in
    let held = left.ok.0 in
    takes_all _ _ _ _ _ c.loop-other.invariant.2 (omega (arith, none, held))
