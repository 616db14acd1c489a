-- What a run has noted of its order.
use Rattle.std.specs.Prelude.{◌≡◌, List, true}
use Rattle.plain_heap.specs.declared.mark.Mark.{Mark}
use Rattle.ael_jobs.specs.declared.runs.notes.Notes.{Notes}
use Rattle.ael_jobs.specs.Runs.Orders.{AreNoted}

-- the marks are those of the order, if they are kept
abbrev pub HasNoted : Notes → List Mark → Type 0
HasNoted notes order = notes.kept ≡ true → AreNoted notes.marks.items order
