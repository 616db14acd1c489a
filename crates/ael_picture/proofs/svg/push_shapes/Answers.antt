use Rattle.std.proofs.Common.{string_bytes}
use Rattle.ael_picture.proofs.Markups.{shapes_more}
use Rattle.ael_picture.proofs.svg.push_shapes.Goals as goal

pub loop-shape-preserved : goal.loop-shape-preserved
loop-shape-preserved c =
    shapes_more (string_bytes c.args.out.now) (string_bytes c.loop-shape.out) (string_bytes c.push_shape.new.out) c.args.shapes.now c.loop-shape.shape-index c.shape-item.result c.loop-shape-test.true c.shape-item.is c.loop-shape.invariant c.in_ok-push_shape.ensures
