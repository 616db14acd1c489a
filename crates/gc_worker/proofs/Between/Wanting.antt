-- A worker wants a step exactly where it isn't gone.
use Rattle.std.proofs.Common.{◌≡◌, sym, ap, ◌∙◌, ⊎_elim}
use Rattle.gc_worker.specs.declared.stage.Stage.TheVariants.{Gone}
use Rattle.gc_worker.specs.Laws.Between.{WorkersWant}
use Rattle.gc_worker.specs.Steps.Wanted.{wanted, wanted_at}
use Rattle.gc_worker.proofs.Words.WorkerRows.{IsOnRow, rows_fit}

pub workers_want : WorkersWant
workers_want n mutators k x f = (
  λ none. ⊎_elim
      (λ (gone : x.stage ≡ Gone). gone)
      (λ (row : IsOnRow x.layout (wanted x)). absurd (let e = sym row.is ∙ none in cc))
      (rows_fit n mutators k x f x.stage f.stage),
  λ gone. ap (wanted_at x) gone,
)
