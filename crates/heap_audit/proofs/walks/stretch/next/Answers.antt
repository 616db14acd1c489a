use Rattle.std.proofs.Common.{◌∙◌, ◌≡◌, ◌-◌, sym, subst}
use Rattle.crossing_map.specs.Walking.{next_in}
use Rattle.heap_audit.specs.Told.{dump_told}
use Rattle.heap_audit.specs.Walks.{passes_on, reserved_on}
use Rattle.heap_audit.specs.declared.walks.stretch.Stretch.{Stretch}
use Rattle.heap_audit.proofs.WalkedSpaces.StretchWalks.{next_copies, next_new}
use Rattle.heap_audit.proofs.walks.stretch.next.Goals as goal

pub returns-in-Copies : goal.returns-in-Copies
returns-in-Copies c =
    let d = dump_told c.args.heap.now in
    subst (λ (s : Stretch). c.walk_next.result ≡ next_in (c.args.end - c.args.at) (passes_on d.table s) (reserved_on d.kept s) d.table.heap c.args.end c.args.at) (sym c.in-Copies.is)
    (c.walk_next.ensures ∙ next_copies d.table d.kept 0 c.args.end c.args.at c.requires.inside)

pub returns-in-New : goal.returns-in-New
returns-in-New c =
    let d = dump_told c.args.heap.now in
    subst (λ (s : Stretch). c.walk_next-in-New.result ≡ next_in (c.args.end - c.args.at) (passes_on d.table s) (reserved_on d.kept s) d.table.heap c.args.end c.args.at) (sym c.in-New.is)
    (c.walk_next-in-New.ensures ∙ next_new d.table d.kept c.in-New.epoch c.args.end c.args.at)
