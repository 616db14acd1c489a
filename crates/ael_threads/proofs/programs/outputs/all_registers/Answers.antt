use Rattle.std.proofs.Common.{◌+◌, ◌≤◌, ℕ, [], refl, sym, ◌∙◌, ap, subst, length}
use Rattle.gc_worker.specs.Workers.Held.{Held}
use Rattle.ael_threads.specs.Runs.Outputs.{seat_registers}
use Rattle.ael_threads.specs.Seats.{Seated}
use Rattle.ael_threads.specs.declared.mutator.Mutator.TheInside.{Inside}
use Rattle.ael_threads.proofs.Lists.Elements.{has_room, made_all, made_more}
use Rattle.ael_threads.proofs.programs.outputs.all_registers.Goals as goal

pub push_reserved-requires : goal.push_reserved-requires
push_reserved-requires c = has_room _ _ _ _ c.loop-mutator.invariant.count c.loop-mutator-test.true c.loop-mutator.invariant.room

pub loop-mutator-preserved : goal.loop-mutator-preserved
loop-mutator-preserved c = let ms = c.args.mutators.now in record {
  made = made_more seat_registers [] ms ms refl c.loop-mutator.mutator-index c.mutator-item.result c.regs.result _ _ c.loop-mutator-test.true c.mutator-item.is
      (c.regs.ensures ∙ (ap (λ (z : Held). z.registers) c.deref.ensures ∙ (ap (λ (z : Inside). z.caller.worker.registers) c.mutator-inside.view_is ∙ ap (λ (z : Seated). z.worker.registers) c.mutator.view_is))) c.loop-mutator.invariant.made c.push_reserved.ensures.items;
  count = c.push_reserved.ensures.len ∙ ap (λ (n : ℕ). n + 1) c.loop-mutator.invariant.count;
  room = subst (λ (n : ℕ). length ms ≤ n) (sym c.push_reserved.ensures.capacity) c.loop-mutator.invariant.room;
}

pub returns : goal.returns
returns c = let ms = c.args.mutators.now in made_all seat_registers [] ms ms refl c.loop-mutator.mutator-index _ c.loop-mutator-test.false c.loop-mutator.invariant.made
