use Rattle.plain_heap.proofs.Orders.CheckpointsOfOrders.{orders_count_checkpoints, orders_keep_the_last_checkpoint}
use Rattle.plain_heap.proofs.laws.orders_keep_the_last_checkpoint.Goals as goal

pub returns : goal.returns
returns c = record { last = orders_keep_the_last_checkpoint; counted = orders_count_checkpoints }
