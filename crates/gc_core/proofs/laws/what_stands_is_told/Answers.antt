use Rattle.gc_core.proofs.Told.WhatStands.{what_stands_is_told}
use Rattle.gc_core.proofs.laws.what_stands_is_told.Goals as goal

pub returns : goal.returns
returns c = what_stands_is_told
