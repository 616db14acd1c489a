use Rattle.std.proofs.Common.{◌≡◌, Result, not, refl, subst, ap}
use Rattle.std.specs.Prelude.{◌↔◌, IfOk, IsErrOf, IsTrue}
use Rattle.gc_worker.specs.declared.config.Config.{Config}
use Rattle.gc_worker.specs.declared.open_error.OpenError.{OpenError}
use Rattle.gc_worker.specs.declared.open_error.OpenError.TheVariants.{BadPages}
use Rattle.gc_worker.specs.Config.{has_sizes}
use Rattle.ael_threads.specs.declared.view.Plan.{Plan}
use Rattle.ael_threads.specs.Opened.{new_scanners}
use Rattle.ael_threads.specs.Seats.{new_callers}
use Rattle.ael_threads.proofs.shared.Shared.open_with.Goals as goal

-- of sizes that a heap may have only memory may be wanting
only_memory : {T : Type 0} (config : Config) (r : Result T OpenError) → IsTrue (has_sizes config) → (IsErrOf r BadPages → ⊥) → IsErrOf r BadPages ↔ IsTrue (not (has_sizes config))
only_memory config r has none = (λ is. absurd (none is), λ refused. absurd (let never = ap not has in cc))

pub returns-clause-key : goal.returns-clause-key
returns-clause-key c = rw c.in_ok-plan.ensures.plan at c.open_by.ensures.key

pub returns-clause-words : goal.returns-clause-words
returns-clause-words c = rw c.in_ok-plan.ensures.plan at c.open_by.ensures.words

pub returns-clause-mutators : goal.returns-clause-mutators
returns-clause-mutators c = subst (λ (plan : Plan). IfOk c.open_by.result (λ o. o.1.mutators.items ≡ new_callers o.0.table.shared.table_id plan 0 plan.mutators)) c.in_ok-plan.ensures.plan c.open_by.ensures.mutators

pub returns-clause-scanners : goal.returns-clause-scanners
returns-clause-scanners c = subst (λ (plan : Plan). IfOk c.open_by.result (λ o. o.1.scanners.items ≡ new_scanners o.0.table.shared.table_id plan plan.mutators plan.scanners)) c.in_ok-plan.ensures.plan c.open_by.ensures.scanners

pub returns-clause-bad_pages : goal.returns-clause-bad_pages
returns-clause-bad_pages c = only_memory c.args.config.now c.open_by.result (c.in_ok-plan.ensures.refused_exactly_outside.0 refl) c.open_by.ensures.error
