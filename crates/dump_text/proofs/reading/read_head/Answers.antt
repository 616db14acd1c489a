use Rattle.std.proofs.Common.{Some, None, sym}
use Rattle.dump_text.specs.Pieces.{head_view}
use Rattle.dump_text.proofs.Answering.{head_begins, only_begun}
use Rattle.dump_text.proofs.reading.read_head.Goals as goal

pub returns-in-Some-clause-found : goal.returns-in-Some-clause-found
returns-in-Some-clause-found c = head_begins c.args.bytes.now (head_view c.in-Some.head) c.in-Some.field-0-1.now (sym c.in-Some.ensures.read)

pub returns-in-Some-clause-only : goal.returns-in-Some-clause-only
returns-in-Some-clause-only c = only_begun c.args.bytes.now (Some (head_view c.in-Some.head, c.in-Some.field-0-1.now)) c.in-Some.ensures.read

pub returns-in-None-clause-only : goal.returns-in-None-clause-only
returns-in-None-clause-only c = only_begun c.args.bytes.now None c.in-None.ensures.read
