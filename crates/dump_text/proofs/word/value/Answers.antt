use Rattle.std.proofs.Common.{get_or, arith}
use Rattle.std.proofs.lemmas.Int.Digits.{digits_value_more}
use Rattle.dump_text.proofs.Hex.{digit_at, hex_below, value_room}
use Rattle.dump_text.proofs.word.value.Goals as goal

pub overflow_mul-number : goal.overflow_mul-number
overflow_mul-number c = omega (arith, value_room c.args.digits.now c.loop-b.b-index c.requires.hex c.requires.sixteen (omega (arith, c.requires.sixteen)), c.loop-b.invariant)

pub overflow_add-number : goal.overflow_add-number
overflow_add-number c = omega (arith, value_room c.args.digits.now c.loop-b.b-index c.requires.hex c.requires.sixteen (omega (arith, c.requires.sixteen)), c.loop-b.invariant, c.digit.ensures, c.from.ensures, hex_below (get_or c.args.digits.now c.loop-b.b-index 0) (digit_at c.args.digits.now c.loop-b.b-index c.requires.hex c.loop-b-test.true))

pub loop-b-preserved : goal.loop-b-preserved
loop-b-preserved c = omega (arith, digits_value_more 16 c.args.digits.now c.loop-b.b-index c.loop-b-test.true, c.loop-b.invariant, c.digit.ensures, c.from.ensures)
