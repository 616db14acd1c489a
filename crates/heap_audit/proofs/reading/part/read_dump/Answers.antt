use Rattle.std.proofs.Common.{sym, ◌∙◌}
use Rattle.dump_text.specs.Pieces.{head_view}
use Rattle.dump_text.specs.Reading.{dump_view}
use Rattle.heap_audit.proofs.Texts.Dumps.{fails_wrong, found_so, head_is_wrong, head_tells, no_head, number_is_wrong}
use Rattle.heap_audit.proofs.reading.part.read_dump.Goals as goal

pub returns-in_default-clause-only : goal.returns-in_default-clause-only
returns-in_default-clause-only c = λ d is e. absurd (no_head c.args.mutators c.args.bytes.now c.in_default.ensures.only d is e)

pub returns-in_default-clause-first_wrong : goal.returns-in_default-clause-first_wrong
returns-in_default-clause-first_wrong c = λ some few. head_is_wrong c.args.mutators some few c.args.bytes.now c.in_default.ensures.only

pub returns-then-head-from-clause-only : goal.returns-then-head-from-clause-only
returns-then-head-from-clause-only c =
    λ d is e. absurd (c.if-head-from.true (head_tells c.args.bytes.now (head_view c.in-Some.head) c.in-Some.ensures.only d is.is_dump e ∙ is.as_many ∙ sym c.from.ensures))

pub returns-then-head-from-clause-first_wrong : goal.returns-then-head-from-clause-first_wrong
returns-then-head-from-clause-first_wrong c =
    λ some few.
    number_is_wrong c.args.mutators some few c.args.bytes.now (head_view c.in-Some.head) c.in-Some.ensures.only (λ same. c.if-head-from.true (same ∙ sym c.from.ensures))

pub returns-clause-found : goal.returns-clause-found
returns-clause-found c =
    found_so c.args.mutators c.args.bytes.now (head_view c.in-Some.head) c.in-Some.ensures.only (c.if-head-from.false ∙ c.from.ensures) dump_view c.read.result c.read.ensures.found

pub returns-clause-only : goal.returns-clause-only
returns-clause-only c = λ d is e. c.read.ensures.only d is.is_dump e

pub returns-clause-first_wrong : goal.returns-clause-first_wrong
returns-clause-first_wrong c =
    λ some few.
    fails_wrong c.args.mutators some few c.args.bytes.now (head_view c.in-Some.head) c.in-Some.ensures.only (c.if-head-from.false ∙ c.from.ensures) c.read.result c.read.ensures.first_wrong
