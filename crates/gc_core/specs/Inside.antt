-- The core that a core's fields make up.
use Rattle.std.specs.Prelude.{length}
use Rattle.gc_core.specs.Core.{CoreState}
use Rattle.gc_core.specs.declared.machine.Core.TheInside.{Inside}

abbrev pub core_in : Inside → CoreState
core_in c = record {
  code = c.program.now.code;
  turns = c.turns;
  heap = record { pages = c.spaces.pages; checkpoints = c.spaces.checkpoints; words = c.atoms; mutators = length c.program.now.code; workers = c.slots.items };
}
