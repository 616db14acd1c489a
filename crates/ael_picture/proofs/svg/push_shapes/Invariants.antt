use Rattle.std.proofs.Common.{◌≡◌, ◌++◌, string_bytes, take}
use Rattle.ael_picture.specs.Markup.{markup}
use Rattle.ael_picture.specs.Shapes.{all_drawn}
use Rattle.ael_picture.proofs.svg.push_shapes.Given as goal

abbrev pub invariant-loop-shape : goal.invariant-loop-shape
invariant-loop-shape l = string_bytes l.out ≡ string_bytes l.fn.out ++ markup (all_drawn (take l.shape-index l.shapes))
