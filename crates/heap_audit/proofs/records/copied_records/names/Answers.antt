use Rattle.std.proofs.Common.{◌≡◌, ◌∙◌, get_or, refl, sym, ap}
use Rattle.std.specs.Prelude.{nat_eq}
use Rattle.std.specs.HashSet.{contains}
use Rattle.heap_audit.specs.Records.{key_of}
use Rattle.heap_audit.specs.Told.{dump_told}
use Rattle.heap_audit.specs.declared.walks.RecordAt.{RecordAt}
use Rattle.heap_audit.proofs.ShownRecords.CopiedNames.{among_all, name_added, none_added}
use Rattle.heap_audit.proofs.records.copied_records.names.Goals as goal
use Rattle.heap_audit.proofs.records.copied_records.names.Goals.{in-Some+in_ok-insert, in_default}

pub loop-found-preserved : goal.loop-found-preserved
loop-found-preserved c =
    let d = dump_told c.args.heap.now in
    let rs = c.args.records.now in
    let x = c.loop-found.found-index in
    let z : RecordAt = record { at = 0; size = 0 } in
    let r : RecordAt = get_or rs x z in
    λ i short. elim c.match-copied_header.branch [
      | in-Some+in_ok-insert w ↦
          name_added d c.args.copies rs x z r c.loop-found-test.true refl i w.in-Some.header (sym c.copied_header.ensures ∙ w.in-Some.is) short
          (contains nat_eq c.loop-found.named (key_of i)) (contains nat_eq c.match-copied_header.named (key_of i)) w.key.result w.key.ensures
          (ap (λ m. contains nat_eq m (key_of i)) w.named-is ∙ w.in_ok-insert.ensures.updates.0 (key_of i)) (c.loop-found.invariant i short)
      | in_default w ↦
          (let so = none_added d c.args.copies rs x z r c.loop-found-test.true refl i (sym c.copied_header.ensures ∙ w.in_default.is)
          (contains nat_eq c.loop-found.named (key_of i)) (c.loop-found.invariant i short) in
          let same : contains nat_eq c.match-copied_header.named (key_of i) ≡ contains nat_eq c.loop-found.named (key_of i) = ap (λ m. contains nat_eq m (key_of i)) w.named-is in
          (λ t. so.0 (sym same ∙ t), λ y. same ∙ so.1 y))
    ]

pub returns : goal.returns
returns c = λ i short.
    let all = among_all (dump_told c.args.heap.now) c.args.copies c.args.records.now c.loop-found.found-index i c.loop-found-test.false in
    let so = c.loop-found.invariant i short in
    (λ t. all.0 (so.0 t), λ y. so.1 (all.1 y))
