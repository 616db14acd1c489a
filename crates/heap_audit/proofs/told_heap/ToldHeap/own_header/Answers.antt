use Rattle.std.proofs.Common.{◌∙◌, ap, sym, arith}
use Rattle.heap_words.specs.Decoded.{decode}
use Rattle.record_layout.specs.Layout.{header_in}
use Rattle.heap_state.specs.Kept.{kept_at}
use Rattle.heap_audit.specs.Told.{dump_told}
use Rattle.heap_audit.proofs.ShownRecords.OwnHeaders.{decode-busy, kept_nowhere, kept_there, no_header, own-kept, own-placed}
use Rattle.heap_audit.proofs.told_heap.ToldHeap.own_header.Goals as goal

pub returns-in_default : goal.returns-in_default
returns-in_default c = c.read.ensures.decoded ∙ own-placed (dump_told c.args.self.now).kept c.args.word (sym c.in_default.is ∙ c.read_busy.ensures.decoded)

pub returns-then-worker-self : goal.returns-then-worker-self
returns-then-worker-self c =
    let d = dump_told c.args.self.now in
    let b = c.in-Some.busy in
    let own = own-kept d.kept c.args.word b (decode-busy c.args.word b (omega arith) c.in-Some.ensures.one_spelling) in
    let none = kept_nowhere c.args.self.now.kept.now b.worker (omega (arith, c.if-worker-self.true, c.from-worker.ensures)) in
    sym (ap header_in own ∙ (ap (λ w. header_in (decode w)) none ∙ no_header))

pub returns : goal.returns
returns c =
    let d = dump_told c.args.self.now in
    let b = c.in-Some.busy in
    let own = own-kept d.kept c.args.word b (decode-busy c.args.word b (omega arith) c.in-Some.ensures.one_spelling) in
    let there = kept_there c.args.self.now.kept.now c.from-worker.result (0, 0) c.if-worker-self.false in
    c.read-2.ensures.decoded
    ∙ sym (ap header_in own ∙ (ap (λ k. header_in (decode (kept_at d.kept k).header)) (sym c.from-worker.ensures) ∙ ap (λ w. header_in (decode w)) there))
