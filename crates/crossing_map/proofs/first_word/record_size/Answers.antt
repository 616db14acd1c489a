use Rattle.std.proofs.Common.{◌∙◌, ◌+◌, ap, arith, Some}
use Rattle.crossing_map.proofs.FirstWords.{met-header, met-forward, met-busy, met-none}
use Rattle.crossing_map.proofs.first_word.record_size.Goals as goal

pub returns-in-Some-clause-met : goal.returns-in-Some-clause-met
returns-in-Some-clause-met c =
    ap (λ n. Some (n + 1)) c.from.ensures ∙ met-header c.args.word c.in-Some.header c.in-Some.ensures.one_spelling

pub returns-in-Some-read_forward-clause-met : goal.returns-in-Some-read_forward-clause-met
returns-in-Some-read_forward-clause-met c =
    ap (λ n. Some (n + 1)) c.from-in-Some-read_forward.ensures
    ∙ met-forward c.args.word c.in-Some-read_forward.forward (omega arith) c.in-Some-read_forward.ensures.one_spelling

pub returns-in_err-read_busy-clause-met : goal.returns-in_err-read_busy-clause-met
returns-in_err-read_busy-clause-met c =
    c.from_residual.ensures ∙ met-none c.args.word c.in_default.ensures.decoded c.in_default-read_forward.ensures.decoded c.in_err-read_busy.ensures.decoded

pub returns-clause-met : goal.returns-clause-met
returns-clause-met c =
    ap (λ n. Some (n + 1)) c.from-2.ensures ∙ met-busy c.args.word c.in_ok-read_busy.field-0 (omega arith) c.in_ok-read_busy.ensures.one_spelling
