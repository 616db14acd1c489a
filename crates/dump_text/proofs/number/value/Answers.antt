use Rattle.std.proofs.Common.{arith}
use Rattle.plain_state.proofs.Numerals.{digit_at, value_more}
use Rattle.dump_text.proofs.Numerals.{value_room}
use Rattle.dump_text.proofs.number.value.Goals as goal

pub overflow_mul-number : goal.overflow_mul-number
overflow_mul-number c = omega (arith, value_room c.args.digits.now c.loop-b.b-index c.requires.digits c.requires.few c.loop-b-test.true, c.loop-b.invariant)

pub overflow_add-number : goal.overflow_add-number
overflow_add-number c =
    let range = digit_at c.args.digits.now c.loop-b.b-index c.requires.digits c.loop-b-test.true in
    omega (arith, value_room c.args.digits.now c.loop-b.b-index c.requires.digits c.requires.few c.loop-b-test.true, c.loop-b.invariant, c.from.ensures, range.0, range.1)

pub loop-b-preserved : goal.loop-b-preserved
loop-b-preserved c = omega (arith, value_more c.args.digits.now c.loop-b.b-index c.requires.digits c.loop-b-test.true, c.loop-b.invariant, c.from.ensures)
