use Rattle.std.proofs.Common.{◌+◌, ◌≤◌, ℕ, [], refl, sym, ◌∙◌, ap, subst, length, map}
use Rattle.std.proofs.lemmas.List.{map_push}
use Rattle.ael_threads.specs.Runs.Outputs.{printed_by, seat_seen}
use Rattle.ael_threads.proofs.Lists.Elements.{has_room, made_all, made_more}
use Rattle.ael_threads.proofs.programs.outputs.all_printed.Goals as goal

pub push_reserved-requires : goal.push_reserved-requires
push_reserved-requires c = has_room _ _ _ _ c.loop-mutator.invariant.count c.loop-mutator-test.true c.loop-mutator.invariant.room

pub loop-mutator-preserved : goal.loop-mutator-preserved
loop-mutator-preserved c =
    let ms = c.args.mutators.now in
    let numbers = c.in_ok-numbers.ensures.items ∙ c.outputs.ensures.outputs in
    let end = sym c.in-Some.is ∙ c.ended.ensures.ended in record {
      made = made_more seat_seen [] ms ms refl c.loop-mutator.mutator-index c.mutator-item.result _ _ _ c.loop-mutator-test.true c.mutator-item.is
          (λ i. record { printed = numbers i; end = end i }) c.loop-mutator.invariant.made (ap (λ (z : _). map printed_by z) c.push_reserved.ensures.items ∙ map_push printed_by _ _);
      count = c.push_reserved.ensures.len ∙ ap (λ (n : ℕ). n + 1) c.loop-mutator.invariant.count;
      room = subst (λ (n : ℕ). length ms ≤ n) (sym c.push_reserved.ensures.capacity) c.loop-mutator.invariant.room;
    }

pub returns : goal.returns
returns c = let ms = c.args.mutators.now in made_all seat_seen [] ms ms refl c.loop-mutator.mutator-index _ c.loop-mutator-test.false c.loop-mutator.invariant.made
