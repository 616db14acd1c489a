use Rattle.concordance.proofs.Gathered.Reads.{no_pointer, number_seen}
use Rattle.concordance.proofs.clerk.Clerk.number_in.Goals as goal

pub unreachable-requires : goal.unreachable-requires
unreachable-requires c =
    let number = rw (← c.self.view_is) at c.requires.number in
    no_pointer c.self.inside.mutator c.reg.ensures.shows c.reg.ensures.there c.args.register c.in-Pointer.field-0 number.0 c.requires.register c.in-Pointer.ensures.reg number.1

pub returns : goal.returns
returns c = rw (← c.self.view_is) (number_seen c.self.inside.mutator c.reg.ensures.shows c.reg.ensures.there c.args.register c.in-Number.n c.requires.register c.in-Number.ensures.reg)
