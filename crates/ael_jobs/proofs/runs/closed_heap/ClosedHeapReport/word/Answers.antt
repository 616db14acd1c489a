use Rattle.std.proofs.Common.{◌<◌, ap, length, slice_get, subst, sym, ◌∙◌}
use Rattle.space_map.specs.Table.{table_length}
use Rattle.ael_jobs.specs.Runs.Told.{RunReport}
use Rattle.ael_jobs.proofs.Printed.Tables.{word_taken}
use Rattle.ael_jobs.proofs.WholeRuns.Threading.{word_there}
use Rattle.ael_jobs.proofs.runs.closed_heap.ClosedHeapReport.word.Goals as goal

pub returns : goal.returns
returns c =
    let words = c.self.inside.outputs.words in
    let within = subst (λ (t : RunReport). c.args.place < length t.dump.words) (sym c.self.view_is) c.requires in
    sym (ap (λ (t : RunReport). slice_get t.dump.words c.args.place) c.self.view_is)
    ∙ word_taken (table_length c.self.inside.outputs.spaces.pages) words c.args.place c.word.result within (word_there words c.args.place c.word.result c.word.ensures)
