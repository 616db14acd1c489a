use Rattle.std.proofs.Common.{◌∙◌, ◌≡◌, ◌-◌, ◌/◌, true, false, refl, sym, ap, arith}
use Rattle.space_map.specs.Table.{Page, place_of}
use Rattle.heap_state.specs.Memory.Table.{table_of}
use Rattle.heap_state.specs.Memory.Walk.{is_protected}
use Rattle.crossing_map.specs.Walking.{next_in, nothing_reserved, passes_closed}
use Rattle.crossing_map.proofs.WalkedParts.{next_in-end}
use Rattle.crossing_map.proofs.WalkSteps.{at_word, heap-word, over_page, page-word}
use Rattle.crossing_map.proofs.walk.next_new.Goals as goal
use Rattle.crossing_map.proofs.walk.next_new.Goals.{else-word-ne0-via-then-word-ne0+else-is_open, else-word-ne0-via-else-word-ne0}

pub returns-then-is_open : goal.returns-then-is_open
returns-then-is_open c =
    let n = c.args.spaces.pages in
    let words = c.args.words.now in
    let x = c.loop-next.next in
    let is = heap-word n words x c.word_place.result (omega arith) c.word_place.ensures.place in
    let page = page-word n words (x / 64) c.page_place.result (omega arith) (c.page_place.ensures.place ∙ ap (λ p. place_of n (Page p)) c.page_of.ensures) in
    c.item.ensures
    ∙ sym (at_word (passes_closed (table_of n words) c.args.epoch) nothing_reserved (table_of n words).heap c.args.end x c.loop-next-test.true _
    (ap (is_protected c.args.epoch) page ∙ c.is_open.ensures.0 c.if-is_open.true) refl is c.if-word-ne0.true)
    ∙ sym c.loop-next.invariant.0

pub loop-next-preserved : goal.loop-next-preserved
loop-next-preserved c =
    let n = c.args.spaces.pages in
    let words = c.args.words.now in
    let x = c.loop-next.next in
    let heap = (table_of n words).heap in
    let passes = passes_closed (table_of n words) c.args.epoch in
    let is = heap-word n words x c.word_place.result (omega arith) c.word_place.ensures.place in
    let on = ap (λ z. next_in (c.args.end - z) passes nothing_reserved heap c.args.end z) (sym c.next_page-next.ensures) in
    elim c.else-word-ne0.branch [
      | else-word-ne0-via-then-word-ne0+else-is_open w ↦
          (let page = page-word n words (x / 64) w.page_place.result (omega arith) (w.page_place.ensures.place ∙ ap (λ p. place_of n (Page p)) w.page_of.ensures) in (
            c.loop-next.invariant.0
                ∙ over_page passes nothing_reserved heap c.args.end x c.loop-next-test.true (λ open_page. absurd
                (let opened = w.is_open.ensures.1 (sym (ap (is_protected c.args.epoch) page) ∙ open_page) in
                let z : true ≡ false = sym opened ∙ w.if-is_open.false in cc)) ∙ on,
            omega arith,
          ))
      | else-word-ne0-via-else-word-ne0 w ↦ (
        c.loop-next.invariant.0
            ∙ over_page passes nothing_reserved heap c.args.end x c.loop-next-test.true (λ open_page. (refl, is ∙ w.if-word-ne0.false)) ∙ on,
        omega arith,
      )
    ]

pub returns : goal.returns
returns c =
    let heap = (table_of c.args.spaces.pages c.args.words.now).heap in
    sym (c.loop-next.invariant.0
    ∙ next_in-end (passes_closed (table_of c.args.spaces.pages c.args.words.now) c.args.epoch) nothing_reserved heap c.args.end c.loop-next.next c.loop-next-test.false)
