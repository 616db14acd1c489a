use Rattle.space_map.specs.Spaces.{IsPageCount}
use Rattle.gc_worker.proofs.Workers.Sound.{scanners_are_sound}
use Rattle.gc_worker.proofs.worker.Worker.scanner.Goals as goal

pub invariant_of-result : goal.invariant_of-result
invariant_of-result c =
    let size : IsPageCount c.args.spaces.pages = c.known.ensures in
    scanners_are_sound c.args.prints c.args.spaces c.args.mutators c.args.number _ c.scanner-state.ensures size c.requires.number c.requires.few
