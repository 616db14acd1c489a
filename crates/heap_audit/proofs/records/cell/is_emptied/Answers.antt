use Rattle.std.proofs.Common.{◌≡◌, ◌<◌, ◌≤◌, ◌+◌, ◌∙◌, Some, true, false, sym, ap}
use Rattle.heap_words.specs.Decoded.{decode, number_in}
use Rattle.heap_audit.specs.Told.{MayHaveEmptied, dump_told}
use Rattle.heap_audit.specs.Walks.{walked}
use Rattle.heap_audit.proofs.ShownRecords.EmptiedCells.{emptied, emptied_lies, emptied_lost, emptied_zero, failed, fails, tests_zero, zero_tested}
use Rattle.heap_audit.proofs.records.cell.is_emptied.Goals as goal
use Rattle.heap_audit.proofs.records.cell.is_emptied.Goals.{then-is_empty, else-is_empty, then-may_have_emptied, else-may_have_emptied}

pub returns-then-lie_over : goal.returns-then-lie_over
returns-then-lie_over c =
    let d = dump_told c.args.heap.now in
    let w = walked c.args.found in
    let copied = c.args.copied.now in
    let lies : (c.if-is_empty.value ≡ true) × ((copied.start ≤ w.at) × (w.at < copied.front)) = elim c.if-may_have_emptied.branch [
      | then-may_have_emptied x ↦ (x.if-may_have_emptied.true, x.lie_over.ensures.0 (sym x.value-is ∙ c.if-lie_over.true))
      | else-may_have_emptied x ↦ absurd (let q : true ≡ false = sym c.if-lie_over.true ∙ (x.value-is ∙ x.if-may_have_emptied.false) in cc)
    ] in
    let empty : (c.eq-is_empty.result ≡ true) × MayHaveEmptied d.table = elim c.if-is_empty.branch [
      | then-is_empty x ↦ (x.if-is_empty.true, x.may_have_emptied.ensures.0 (sym x.value-is ∙ lies.0))
      | else-is_empty x ↦ absurd (let q : true ≡ false = sym lies.0 ∙ (x.value-is ∙ x.if-is_empty.false) in cc)
    ] in
    let zero : number_in (decode (d.table.heap (w.at + 1))) ≡ Some 0 =
    ap (λ x. number_in (decode x)) (sym c.word.ensures) ∙ (sym c.as_number.ensures.decoded ∙ tests_zero c.as_number.result (sym c.eq-is_empty.ensures ∙ empty.0)) in (
      λ t. emptied d copied c.requires.copied w c.requires.walked c.in-Reference.identity c.args.value c.in-Reference.is zero empty.1 lies.1 (λ has. failed c.have.result t (c.have.ensures.1 has)),
      λ y. fails c.have.result (λ t. emptied_lost d copied c.requires.copied w c.requires.walked c.in-Reference.identity c.args.value c.in-Reference.is y (c.have.ensures.0 t)),
    )

pub returns-else-lie_over : goal.returns-else-lie_over
returns-else-lie_over c = (
  λ t. absurd (let q : true ≡ false = sym t ∙ c.if-lie_over.false in cc),
  λ y.
      let d = dump_told c.args.heap.now in
      let w = walked c.args.found in
      let copied = c.args.copied.now in
      let zero : c.eq-is_empty.result ≡ true =
      c.eq-is_empty.ensures
      ∙ zero_tested c.as_number.result (c.as_number.ensures.decoded ∙ (ap (λ x. number_in (decode x)) c.word.ensures ∙ emptied_zero d copied c.requires.copied w c.requires.walked c.args.value y)) in
      let empty : c.if-is_empty.value ≡ true = elim c.if-is_empty.branch [
        | then-is_empty x ↦ x.value-is ∙ x.may_have_emptied.ensures.1 y.walked
        | else-is_empty x ↦ absurd (let q : true ≡ false = sym zero ∙ x.if-is_empty.false in cc)
      ] in
      elim c.if-may_have_emptied.branch [
        | then-may_have_emptied x ↦ x.value-is ∙ x.lie_over.ensures.1 (emptied_lies d copied c.requires.copied w c.requires.walked c.args.value y)
        | else-may_have_emptied x ↦ absurd (let q : true ≡ false = sym empty ∙ x.if-may_have_emptied.false in cc)
      ],
)
