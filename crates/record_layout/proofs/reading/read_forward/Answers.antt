use Rattle.std.proofs.Common.{◌∙◌, sym, subst, refl, arith}
use Rattle.std.specs.Prelude.{IsSome}
use Rattle.heap_words.proofs.Forwards.{copy_in-short, copy_in-some}
use Rattle.record_layout.proofs.Rereading.{forward_in-decode, forward_in-no_copy}
use Rattle.record_layout.proofs.WordParts.{form_bits, form_from_bits, forward_word-parts}
use Rattle.record_layout.proofs.reading.read_forward.Goals as goal

pub returns-in_err-addr-clause-decoded : goal.returns-in_err-addr-clause-decoded
returns-in_err-addr-clause-decoded c = c.from_residual.ensures ∙ sym (forward_in-no_copy c.args.w c.in_err-addr.ensures)

pub returns-in_err-addr-clause-only_forwards : goal.returns-in_err-addr-clause-only_forwards
returns-in_err-addr-clause-only_forwards c =
    (λ e. absurd (let f = subst IsSome c.from_residual.ensures e in cc), λ is. absurd (let some = copy_in-short c.args.w (form_from_bits c.args.w 0 is.0 is.1 is.2) is.3 in let none = c.in_err-addr.ensures in cc))

pub returns-clause-only_forwards : goal.returns-clause-only_forwards
returns-clause-only_forwards c =
    let read = copy_in-some c.args.w c.in_ok-addr.addr c.in_ok-addr.ensures in
    let bits = form_bits c.args.w 0 (omega arith) read.0 in
    (λ e. (bits.0, bits.1, bits.2, omega (arith, read.1, read.2)), λ is. refl)

pub returns-clause-one_spelling : goal.returns-clause-one_spelling
returns-clause-one_spelling c =
    let read = copy_in-some c.args.w c.in_ok-addr.addr c.in_ok-addr.ensures in
    forward_word-parts c.args.w c.in_ok-addr.addr read.0 read.1

pub returns-clause-decoded : goal.returns-clause-decoded
returns-clause-decoded c =
    let read = copy_in-some c.args.w c.in_ok-addr.addr c.in_ok-addr.ensures in
    sym (forward_in-decode c.args.w _ read.2 (returns-clause-one_spelling c))
