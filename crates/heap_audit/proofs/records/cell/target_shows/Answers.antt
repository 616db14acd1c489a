use Rattle.std.proofs.Common.{◌≡◌, ◌∙◌, true, false, sym, subst}
use Rattle.plain_state.specs.declared.kind.Kind.TheVariants.{Weak}
use Rattle.heap_state.specs.Meaning.Represents.{LeadsToRecord}
use Rattle.heap_audit.specs.Told.{dump_told}
use Rattle.heap_audit.proofs.ShownRecords.EmptiedCells.{is_weak}
use Rattle.heap_audit.proofs.records.cell.target_shows.Goals as goal

pub returns-then-not-leads : goal.returns-then-not-leads
returns-then-not-leads c =
    let d = dump_told c.args.heap.now in
    let weak : c.args.wanted.now.kind ≡ Weak = is_weak c.args.wanted.now.kind (sym c.is_cell.ensures ∙ c.if-not-is_cell.false) in (
      λ t. cc,
      λ shows. absurd (let q : true ≡ false = sym (c.leads.ensures.1 (subst (LeadsToRecord d) (sym c.word-word.ensures) (shows.leads weak))) ∙ c.if-not-leads.true in cc),
    )
