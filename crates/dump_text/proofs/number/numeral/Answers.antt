use Rattle.std.proofs.Common.{ℕ, ◌<◌, ◌≤◌, ◌^◌, length, sym, subst, arith}
use Rattle.std.proofs.lemmas.Str.Parse.{digits_value_short}
use Rattle.plain_state.proofs.Numerals.{AreDigits, numerals}
use Rattle.dump_text.proofs.Digits.{count_fits}
use Rattle.dump_text.proofs.Numerals.{front_digits}
use Rattle.dump_text.proofs.number.numeral.Goals as goal

pub split_at-requires : goal.split_at-requires
split_at-requires c = rw c.digit_count-count.ensures (count_fits c.args.bytes.now)

pub value-requires-clause-digits : goal.value-requires-clause-digits
value-requires-clause-digits c = rw (c.split_at.ensures.front, c.digit_count-count.ensures) (front_digits c.args.bytes.now)

pub returns-clause-below : goal.returns-clause-below
returns-clause-below c =
    let digits : AreDigits c.split_at.result.0.now = rw (c.split_at.ensures.front, c.digit_count-count.ensures) (front_digits c.args.bytes.now) in
    let few : length c.split_at.result.0.now ≤ c.args.most = omega (arith, c.split_at.ensures.front_len, c.if-count-most.false) in
    subst (λ (n : ℕ). n < 10 ^ c.args.most) (sym c.value.ensures) (digits_value_short numerals c.split_at.result.0.now c.args.most digits few)
