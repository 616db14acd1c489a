use Rattle.std.proofs.Common.{ap, ◌∙◌}
use Rattle.gc_worker.proofs.Words.Said.{epoch_read}
use Rattle.gc_core.specs.Inside.{core_in}
use Rattle.gc_core.specs.Readers.{cycles_of}
use Rattle.gc_core.proofs.machine.Core.cycles.Goals as goal

pub returns : goal.returns
returns c =
    c.epoch_said.ensures
    ∙ (epoch_read (core_in c.self.inside).heap c.words.result.now c.words.ensures c.gate_place.result c.gate_place.ensures.place
    ∙ ap cycles_of c.self.view_is)
