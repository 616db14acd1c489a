-- What is told of a core that stands for a plain state is so.
use Rattle.gc_worker.proofs.Between.Pages.Copied.{copied_was_live}
use Rattle.gc_worker.proofs.Between.StandingHeaps.{what_stands_is_so}
use Rattle.gc_core.specs.Told.{WhatStandsIsTold}
use Rattle.gc_core.proofs.Cycles.Kept.{keeps_what_is_live}
use Rattle.gc_core.proofs.Told.Dumps.{told_represents}
use Rattle.gc_core.proofs.Runs.Stories.{stands_seen}

pub what_stands_is_told : WhatStandsIsTold
what_stands_is_told s p o stands =
    let all = what_stands_is_so s.heap p o stands in
    record {
      enough = all.enough;
      seen = stands_seen what_stands_is_so s p o stands;
      dump = told_represents s p all.enough all.sound.represents.dump;
      live = keeps_what_is_live copied_was_live s p o stands;
    }
