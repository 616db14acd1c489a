use Rattle.std.proofs.Common.{◌≡◌, ◌<◌, slice_get, Some, sym, subst}
use Rattle.gc_core.specs.Core.{CoreState, workers_of}
use Rattle.gc_core.specs.Inside.{core_in}
use Rattle.gc_core.specs.Readers.{kept_in}
use Rattle.gc_core.proofs.Told.Readers.{kept_here}
use Rattle.gc_core.proofs.machine.Core.kept.Goals as goal

pub returns : goal.returns
returns c =
    let s = core_in c.self.inside in
    subst (λ (s : CoreState). slice_get (kept_in s) c.args.w ≡ Some (record { header = c.kept.result.0; place = c.kept.result.1 })) c.self.view_is
    (kept_here s c.args.w c.index.result.now c.index.ensures (subst (λ (s : CoreState). c.args.w < workers_of s) (sym c.self.view_is) c.requires) c.kept.result.0 c.kept.result.1 c.kept.ensures.header c.kept.ensures.place)
