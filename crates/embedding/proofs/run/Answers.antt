use Rattle.embedding.proofs.NewSeats.{taken_may_act}
use Rattle.embedding.proofs.run.Goals as goal

pub join-sender-requires-after_bounds : goal.join-sender-requires-after_bounds
join-sender-requires-after_bounds g c κs within =
    let t = c.args.heap.now.table.shared.table_id in
    let plan = c.args.heap.now.table.shared.key in
    let spare = c.take_mutator.ensures.new t plan 0 3 c.requires.new in
    let other_spare = c.take_mutator-2.ensures.new t plan 0 2 spare.1 in
    let receiver = c.take_mutator-3.ensures.new t plan 0 1 other_spare.1 in
    let sender = c.take_mutator-4.ensures.new t plan 0 0 receiver.1 in (
      λ _ _ _ _ _. (taken_may_act t plan 0 _ _ sender.0 c.unwrap-sender.ensures, taken_may_act t plan 3 _ _ spare.0 c.unwrap-spare.ensures),
      λ _ _ _ _ _. (taken_may_act t plan 1 _ _ receiver.0 c.unwrap-receiver.ensures, taken_may_act t plan 2 _ _ other_spare.0 c.unwrap-other_spare.ensures),
    )
