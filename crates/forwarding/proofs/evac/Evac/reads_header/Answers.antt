use Rattle.std.proofs.Common.{arith}
use Rattle.forwarding.proofs.FirstWords.{by_first_word-forward, by_first_word-header, by_first_word-neither}
use Rattle.forwarding.proofs.evac.Evac.reads_header.Goals as goal

pub returns-in-Some-clause-state : goal.returns-in-Some-clause-state
returns-in-Some-clause-state c = rw (by_first_word-forward c.args.word c.in-Some.forward (omega arith) c.in-Some.ensures.one_spelling) c.ends.ensures.state

pub returns-in-Some-clause-told : goal.returns-in-Some-clause-told
returns-in-Some-clause-told c = rw (by_first_word-forward c.args.word c.in-Some.forward (omega arith) c.in-Some.ensures.one_spelling) c.ends.ensures.told

pub goes_to-requires-clause-sound : goal.goes_to-requires-clause-sound
goes_to-requires-clause-sound c = rw (by_first_word-header c.args.word c.in-Some-read.header c.in-Some-read.ensures.one_spelling) at c.requires

pub returns-in-Some-read-clause-state : goal.returns-in-Some-read-clause-state
returns-in-Some-read-clause-state c = rw (by_first_word-header c.args.word c.in-Some-read.header c.in-Some-read.ensures.one_spelling) c.goes_to.ensures.state

pub returns-in-Some-read-clause-told : goal.returns-in-Some-read-clause-told
returns-in-Some-read-clause-told c = rw (by_first_word-header c.args.word c.in-Some-read.header c.in-Some-read.ensures.one_spelling) c.goes_to.ensures.told

pub returns-in-None-clause-state : goal.returns-in-None-clause-state
returns-in-None-clause-state c = rw (by_first_word-neither c.args.word c.in-None.ensures.decoded c.in_default.ensures.decoded) c.goes_to-in-None.ensures.state

pub returns-in-None-clause-told : goal.returns-in-None-clause-told
returns-in-None-clause-told c = rw (by_first_word-neither c.args.word c.in-None.ensures.decoded c.in_default.ensures.decoded) c.goes_to-in-None.ensures.told
