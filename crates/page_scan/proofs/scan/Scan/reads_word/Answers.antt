use Rattle.heap_words.specs.Decoded.{decode}
use Rattle.page_scan.proofs.ReadWords.{by_word-none, pointer-is}
use Rattle.page_scan.proofs.scan.Scan.reads_word.Goals as goal

pub reads_pointer-requires-clause-sound : goal.reads_pointer-requires-clause-sound
reads_pointer-requires-clause-sound c = rw (pointer-is c.in-Some.address (decode c.args.word) c.in-Some.ensures.decoded) at c.requires.sound

pub passes-requires-clause-sound : goal.passes-requires-clause-sound
passes-requires-clause-sound c =
    let s = c.args.self.now in
    rw (by_word-none s.layout s.page s.epoch s.in_place c.args.spot (decode c.args.word) c.in-None.ensures.decoded) at c.requires.sound

pub returns-in-Some-clause-state : goal.returns-in-Some-clause-state
returns-in-Some-clause-state c = rw (pointer-is c.in-Some.address (decode c.args.word) c.in-Some.ensures.decoded) c.reads_pointer.ensures.state

pub returns-in-Some-clause-told : goal.returns-in-Some-clause-told
returns-in-Some-clause-told c = rw (pointer-is c.in-Some.address (decode c.args.word) c.in-Some.ensures.decoded) c.reads_pointer.ensures.told

pub returns-in-None-clause-state : goal.returns-in-None-clause-state
returns-in-None-clause-state c =
    let s = c.args.self.now in
    rw (by_word-none s.layout s.page s.epoch s.in_place c.args.spot (decode c.args.word) c.in-None.ensures.decoded) c.passes.ensures.state

pub returns-in-None-clause-told : goal.returns-in-None-clause-told
returns-in-None-clause-told c =
    let s = c.args.self.now in
    rw (by_word-none s.layout s.page s.epoch s.in_place c.args.spot (decode c.args.word) c.in-None.ensures.decoded) c.passes.ensures.told
