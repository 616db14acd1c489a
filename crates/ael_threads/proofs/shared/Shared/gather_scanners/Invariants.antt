-- the scanners that were taken in
use Rattle.std.proofs.Common.{◌≡◌, List, ◌++◌, map, vec_len}
use Rattle.ael_threads.specs.Readers.{SeatedScanner, seated}
use Rattle.ael_threads.specs.Seats.{Gathers, Seated}
use Rattle.ael_threads.proofs.shared.Shared.gather_scanners.Given as goal

abbrev pub invariant-loop-other : goal.invariant-loop-other
invariant-loop-other l = (done : List SeatedScanner) × (l.fn.scanners.items ≡ l.scanners.items ++ done) × (l.one.table ≡ l.self.table.shared.table_id)
    × ((all : List Seated) → Gathers l.self.table.shared.table_id all l.fn.one → Gathers l.self.table.shared.table_id (map seated done ++ all) l.one)

abbrev pub decreases-loop-other : goal.decreases-loop-other
decreases-loop-other l = vec_len l.scanners
