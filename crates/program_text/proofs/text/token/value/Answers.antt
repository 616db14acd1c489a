use Rattle.std.proofs.Common.{◌+◌, arith, sym}
use Rattle.plain_state.proofs.Numerals.{value_more}
use Rattle.mutator_asm.proofs.Tokens.Numerals.{number_or-err}
use Rattle.program_text.proofs.text.token.value.Goals as goal

pub returns-then-longer-ge-NUMBERS_END : goal.returns-then-longer-ge-NUMBERS_END
returns-then-longer-ge-NUMBERS_END c =
    let more = value_more c.args.digits.now c.loop-digit.digit-index c.requires c.loop-digit-test.true in
    sym (number_or-err c.args.digits.now (c.loop-digit.digit-index + 1) (omega (arith, more)))

pub loop-digit-preserved : goal.loop-digit-preserved
loop-digit-preserved c =
    let more = value_more c.args.digits.now c.loop-digit.digit-index c.requires c.loop-digit-test.true in
    record { small = omega arith; so_far = omega (arith, more) }
