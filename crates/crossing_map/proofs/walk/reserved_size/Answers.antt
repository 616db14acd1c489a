use Rattle.std.proofs.Common.{◌∙◌, ◌+◌, ap, sym, arith}
use Rattle.crossing_map.proofs.FirstWords.{size_said-header, size_said-none}
use Rattle.crossing_map.proofs.Reserving.{another, without_header, with_header}
use Rattle.crossing_map.proofs.walk.reserved_size.Goals as goal
use Rattle.crossing_map.proofs.walk.reserved_size.Goals.{then-place-from+in_default, else-place-from}

pub returns-in-Some-clause-size : goal.returns-in-Some-clause-size
returns-in-Some-clause-size c =
    let kept = c.args.kept.now in
    let i = c.loop-header.header-index in
    let h = c.in-Some.header in
    ap (λ n. n + 1) c.from-in-Some.ensures
    ∙ sym (with_header kept i c.args.at c.loop-header-test.true (h.len + 1) (omega arith)
    (size_said-header _ h c.in-Some.ensures.one_spelling) (omega arith))
    ∙ sym c.loop-header.invariant

pub loop-header-preserved : goal.loop-header-preserved
loop-header-preserved c =
    let kept = c.args.kept.now in
    let i = c.loop-header.header-index in
    let inside = c.loop-header-test.true in
    elim c.if-place-from.branch [
      | then-place-from+in_default w ↦
          c.loop-header.invariant ∙ without_header kept i c.args.at inside (omega arith) (size_said-none _ w.in_default.ensures.decoded)
      | else-place-from w ↦ c.loop-header.invariant ∙ another kept i c.args.at inside (λ e. w.if-place-from.false (omega arith))
    ]
