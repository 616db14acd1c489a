use Rattle.std.proofs.Common.{◌≡◌, ◌<◌, length, slice_get, Some, sym, subst, arith}
use Rattle.gc_core.specs.Core.{CoreState}
use Rattle.gc_core.specs.Inside.{core_in}
use Rattle.gc_core.specs.Readers.{seen_of, registers_in}
use Rattle.gc_core.proofs.Told.Readers.{registers_here}
use Rattle.gc_core.proofs.machine.Core.regs.Goals as goal

pub returns : goal.returns
returns c =
    let s = core_in c.self.inside in
    let vec = c.self.inside.slots.ok.0 in
    let some = c.self.invariant.1 in
    subst (λ (s : CoreState). slice_get (registers_in s) c.args.m ≡ Some c.regs.result) c.self.view_is
    (registers_here s c.args.m c.index.result.now c.index.ensures (omega (arith, vec, some)) (subst (λ (s : CoreState). c.args.m < length (seen_of s)) (sym c.self.view_is) c.requires) c.regs.result c.regs.ensures)
