use Rattle.std.proofs.Common.{ℕ, List, Bool, length, ap, ◌∙◌}
use Rattle.std.specs.Prelude.{take}
use Rattle.std.specs.List.{list_all}
use Rattle.std.specs.Option.{is_some}
use Rattle.gc_worker.specs.Workers.Held.{Held}
use Rattle.gc_core.specs.Inside.{core_in}
use Rattle.gc_core.specs.Run.{all_ended}
use Rattle.gc_core.proofs.Told.Readers.{ends_seen}
use Rattle.gc_core.proofs.machine.Core.all_ended.Goals as goal

abbrev ended : Held → Bool
ended x = is_some x.account.end

pub returns : goal.returns
returns c =
    c.have_ended.ensures ∙ (ap (λ (n : ℕ). list_all ended (take n c.deref.result.now)) c.len.ensures
    ∙ (ap (λ (xs : List Held). list_all ended (take (length c.self.inside.program.now.code) xs)) c.deref.ensures.value
    ∙ (ends_seen (core_in c.self.inside) ∙ ap all_ended c.self.view_is)))
