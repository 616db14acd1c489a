use Rattle.std.proofs.Common.{arith, ◌++◌, [], ◌∷◌, flat_map, length, length-append, ap, ◌∙◌}
use Rattle.concordance_text.specs.Parts.{IsNumbered, bytes_of, mentions_of_part}
use Rattle.concordance_text.proofs.LineOrder.{in_order_once_more, in_order_without_rest}
use Rattle.concordance_text.proofs.Rests.{all_push, cut_once_more, flat_map_last, without_rest}
use Rattle.concordance_text.proofs.part.parts.Goals as goal

pub loop-done-preserved : goal.loop-done-preserved
loop-done-preserved c =
    let ps = c.loop-done.parts.items in
    let p = c.cut.result.0 in
    let q = c.cut.result.1 in
    record {
      count = omega (arith, ap length c.push.ensures.items, length-append ps (p ∷ []));
      bytes = rw c.push.ensures.items (flat_map_last bytes_of ps p (bytes_of q) ∙ ap (λ bs. flat_map bytes_of ps ++ bs) c.cut.ensures.cut.bytes ∙ c.loop-done.invariant.bytes);
      at_line_ends = rw c.push.ensures.items (cut_once_more ps c.loop-done.rest p q c.cut.ensures.cut.bytes c.cut.ensures.cut.at_line_end c.loop-done.invariant.at_line_ends);
      mentions = rw c.push.ensures.items (flat_map_last mentions_of_part ps p (mentions_of_part q) ∙ ap (λ ms. flat_map mentions_of_part ps ++ ms) c.cut.ensures.cut.mentions ∙ c.loop-done.invariant.mentions);
      numbered = rw c.push.ensures.items (all_push IsNumbered ps p c.loop-done.invariant.numbered c.cut.ensures.first_numbered);
      in_order = rw c.push.ensures.items (in_order_once_more ps c.loop-done.rest p q c.cut.ensures.cut.mentions c.cut.ensures.cut.in_order c.loop-done.invariant.in_order);
      rest_numbered = c.cut.ensures.rest_numbered;
      last = λ e. c.cut.ensures.last (omega arith);
    }

pub returns-clause-at_line_ends : goal.returns-clause-at_line_ends
returns-clause-at_line_ends c = without_rest c.loop-done.parts.items c.loop-done.rest c.loop-done.invariant.at_line_ends

pub returns-clause-in_order : goal.returns-clause-in_order
returns-clause-in_order c = in_order_without_rest c.loop-done.parts.items c.loop-done.rest c.loop-done.invariant.in_order
