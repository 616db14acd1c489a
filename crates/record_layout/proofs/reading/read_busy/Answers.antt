use Rattle.std.proofs.Common.{◌/◌, ◌^◌, ◌∙◌, sym, refl, arith}
use Rattle.record_layout.proofs.Rereading.{busy_in-decode, busy_in-none}
use Rattle.record_layout.proofs.WordParts.{narrowed, too_wide, form_bits, form_from_bits, busy_word-parts, busy_word-form, busy_word-rest}
use Rattle.record_layout.proofs.reading.read_busy.Goals as goal

pub returns-then-w-ne-BUSY-clause-decoded : goal.returns-then-w-ne-BUSY-clause-decoded
returns-then-w-ne-BUSY-clause-decoded c =
    sym (busy_in-none c.args.w (λ len worker short in_range is. c.if-w-ne-BUSY.true (busy_word-form c.args.w len worker is)))

pub returns-then-w-ne-BUSY-clause-only_busy : goal.returns-then-w-ne-BUSY-clause-only_busy
returns-then-w-ne-BUSY-clause-only_busy c =
    (λ e. cc, λ is. absurd (c.if-w-ne-BUSY.true (form_from_bits c.args.w 1 is.0 is.1 is.2)))

pub returns-in_err-ok-clause-decoded : goal.returns-in_err-ok-clause-decoded
returns-in_err-ok-clause-decoded c =
    let wide = too_wide c.try_from.result (2 ^ 8) (c.args.w / 65536) c.try_from.ensures c.in_err-ok.ensures.value in
    c.from_residual.ensures ∙ sym (busy_in-none c.args.w (λ len worker short in_range is.
    let rest = busy_word-rest c.args.w len worker short is in omega arith))

pub returns-clause-only_busy : goal.returns-clause-only_busy
returns-clause-only_busy c =
    let bits = form_bits c.args.w 1 (omega arith) c.if-w-ne-BUSY.false in
    let worker = narrowed c.try_from.result (2 ^ 8) (c.args.w / 65536) c.in_ok-ok.field-0 c.try_from.ensures c.in_ok-ok.ensures.value in
    (λ e. (bits.0, bits.1, bits.2, omega arith), λ is. refl)

pub returns-clause-one_spelling : goal.returns-clause-one_spelling
returns-clause-one_spelling c =
    let worker = narrowed c.try_from.result (2 ^ 8) (c.args.w / 65536) c.in_ok-ok.field-0 c.try_from.ensures c.in_ok-ok.ensures.value in
    busy_word-parts c.args.w c.in_ok-ok.field-0 c.if-w-ne-BUSY.false worker.0

pub returns-clause-decoded : goal.returns-clause-decoded
returns-clause-decoded c =
    let worker = narrowed c.try_from.result (2 ^ 8) (c.args.w / 65536) c.in_ok-ok.field-0 c.try_from.ensures c.in_ok-ok.ensures.value in
    sym (busy_in-decode c.args.w _ (omega arith) (returns-clause-one_spelling c))
