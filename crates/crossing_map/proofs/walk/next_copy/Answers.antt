use Rattle.std.proofs.Common.{◌∙◌, ◌-◌, refl, sym, ap, arith}
use Rattle.heap_state.specs.Kept.{reserved_in}
use Rattle.heap_state.specs.Memory.Table.{table_of}
use Rattle.crossing_map.specs.Crossing.{pairs_kept}
use Rattle.crossing_map.specs.Walking.{next_in, passes_none}
use Rattle.crossing_map.proofs.WalkedParts.{next_in-end}
use Rattle.crossing_map.proofs.WalkSteps.{at_word, heap-word, over_blank, over_reserved}
use Rattle.crossing_map.proofs.walk.next_copy.Goals as goal

pub loop-next-preserved-then-reserved-ne0 : goal.loop-next-preserved-then-reserved-ne0
loop-next-preserved-then-reserved-ne0 c =
    let kept = pairs_kept c.args.kept.now in
    let heap = (table_of c.args.spaces.pages c.args.words.now).heap in (
      c.loop-next.invariant.0
          ∙ over_reserved passes_none (reserved_in kept) heap c.args.front c.loop-next.next c.loop-next-test.true
          c.reserved_size-reserved.result refl (sym c.reserved_size-reserved.ensures.size) c.if-reserved-ne0.true,
      omega arith,
    )

pub returns-then-word-ne0 : goal.returns-then-word-ne0
returns-then-word-ne0 c =
    let n = c.args.spaces.pages in
    let words = c.args.words.now in
    let kept = pairs_kept c.args.kept.now in
    let is = heap-word n words c.loop-next.next c.word_place.result (omega arith) c.word_place.ensures.place in
    c.item.ensures
    ∙ sym (at_word passes_none (reserved_in kept) (table_of n words).heap c.args.front c.loop-next.next c.loop-next-test.true _ refl
    (sym c.reserved_size-reserved.ensures.size ∙ c.if-reserved-ne0.false) is c.if-word-ne0.true)
    ∙ sym c.loop-next.invariant.0

pub loop-next-preserved : goal.loop-next-preserved
loop-next-preserved c =
    let n = c.args.spaces.pages in
    let words = c.args.words.now in
    let kept = pairs_kept c.args.kept.now in
    let is = heap-word n words c.loop-next.next c.word_place.result (omega arith) c.word_place.ensures.place in (
      c.loop-next.invariant.0
          ∙ over_blank passes_none (reserved_in kept) (table_of n words).heap c.args.front c.loop-next.next c.loop-next-test.true refl
          (sym c.reserved_size-reserved.ensures.size ∙ c.if-reserved-ne0.false) (is ∙ c.if-word-ne0.false)
          ∙ ap (λ x. next_in (c.args.front - x) passes_none (reserved_in kept) (table_of n words).heap c.args.front x) (sym c.next_page-next.ensures),
      omega arith,
    )

pub returns : goal.returns
returns c =
    let kept = pairs_kept c.args.kept.now in
    let heap = (table_of c.args.spaces.pages c.args.words.now).heap in
    sym (c.loop-next.invariant.0 ∙ next_in-end passes_none (reserved_in kept) heap c.args.front c.loop-next.next c.loop-next-test.false)
