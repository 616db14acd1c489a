use Rattle.std.proofs.Common.{sym, ◌∙◌}
use Rattle.page_scan.proofs.ReadHeaders.{by_header-header, by_header-none, told-HasStep}
use Rattle.page_scan.proofs.scan.Scan.reads_header.Goals as goal

pub goes_by_kind-requires-clause-sound : goal.goes_by_kind-requires-clause-sound
goes_by_kind-requires-clause-sound c =
    let s = c.args.self.now in
    (rw (by_header-header s.page s.in_place c.args.at c.args.stage c.args.word c.in-Some.header c.in-Some.ensures.one_spelling) at c.requires.sound)

pub goes_to-requires-clause-sound : goal.goes_to-requires-clause-sound
goes_to-requires-clause-sound c =
    let s = c.args.self.now in
    rw (by_header-none s.page s.in_place c.args.at c.args.stage c.args.word c.in-None.ensures.decoded) at c.requires.sound

pub returns-in-Some-clause-state : goal.returns-in-Some-clause-state
returns-in-Some-clause-state c =
    let s = c.args.self.now in
    rw (by_header-header s.page s.in_place c.args.at c.args.stage c.args.word c.in-Some.header c.in-Some.ensures.one_spelling) c.goes_by_kind.ensures.state

pub returns-in-Some-clause-told : goal.returns-in-Some-clause-told
returns-in-Some-clause-told c =
    let s = c.args.self.now in
    rw (by_header-header s.page s.in_place c.args.at c.args.stage c.args.word c.in-Some.header c.in-Some.ensures.one_spelling) c.goes_by_kind.ensures.told

pub returns-in-None-clause-state : goal.returns-in-None-clause-state
returns-in-None-clause-state c =
    let s = c.args.self.now in
    rw (by_header-none s.page s.in_place c.args.at c.args.stage c.args.word c.in-None.ensures.decoded) c.goes_to.ensures.state

pub returns-in-None-clause-told : goal.returns-in-None-clause-told
returns-in-None-clause-told c =
    let s = c.args.self.now in
    rw (by_header-none s.page s.in_place c.args.at c.args.stage c.args.word c.in-None.ensures.decoded) (c.goes_to.ensures.told ∙ sym (told-HasStep c.args.stage c.requires.going))
