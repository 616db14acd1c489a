use Rattle.std.proofs.Common.{sym, ap, ◌∙◌}
use Rattle.mutator_asm.specs.Item.{is_star, item_of, times_of}
use Rattle.mutator_asm.proofs.Lists.Firsts.{found_before, found_after, found_one, found_none}
use Rattle.program_text.proofs.items.read_item.Goals as goal

pub returns-in-Some : goal.returns-in-Some
unfolding item_of
returns-in-Some c =
    let token = c.args.token.now in
    let found = sym c.in-Some.ensures in
    rw (found_one is_star token c.in-Some.at found, ← found_before is_star token c.in-Some.at found, ← found_after is_star token c.in-Some.at found) (c.item_from.ensures ∙ cc (c.worker.ensures, c.times.ensures, ap times_of c.split_at.ensures.back))

pub returns-in-None : goal.returns-in-None
unfolding item_of
returns-in-None c = rw (found_none is_star c.args.token.now (sym c.in-None.ensures)) (c.item_from-in-None.ensures ∙ cc c.worker-in-None.ensures)
