use Rattle.std.proofs.Common.{◌≡◌, ◌<◌, length, slice_get, Some, sym, subst, arith}
use Rattle.std.specs.Option.{option_map}
use Rattle.plain_heap.specs.Print.{Seen}
use Rattle.gc_core.specs.Core.{CoreState}
use Rattle.gc_core.specs.Inside.{core_in}
use Rattle.gc_core.specs.Readers.{seen_of}
use Rattle.gc_core.proofs.Told.Readers.{outputs_there}
use Rattle.gc_core.proofs.machine.Core.outputs.Goals as goal

pub returns : goal.returns
returns c =
    let s = core_in c.self.inside in
    let vec = c.self.inside.slots.ok.0 in
    let some = c.self.invariant.1 in
    subst (λ (s : CoreState). option_map (λ (k : Seen). k.printed) (slice_get (seen_of s) c.args.m) ≡ Some c.outputs.result.now) c.self.view_is
    (outputs_there s c.args.m c.index.result.now c.index.ensures (omega (arith, vec, some)) (subst (λ (s : CoreState). c.args.m < length (seen_of s)) (sym c.self.view_is) c.requires) c.outputs.result.now c.outputs.ensures)
