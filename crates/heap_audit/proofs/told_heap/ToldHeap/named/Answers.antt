use Rattle.std.proofs.Common.{◌≡◌, ◌∙◌, Some, ap, sym, arith}
use Rattle.std.specs.Prelude.{option_map}
use Rattle.heap_words.specs.Decoded.{decode}
use Rattle.plain_state.specs.declared.value.Identity.{Identity}
use Rattle.record_layout.specs.Layout.{header_in}
use Rattle.heap_state.specs.Meaning.Denotes.{own_header_in}
use Rattle.heap_audit.specs.Told.{dump_told}
use Rattle.heap_audit.proofs.ShownRecords.OwnHeaders.{decode-forward, identity_by, named-forwarded, named-in_place, named_header, named_own}
use Rattle.heap_audit.proofs.told_heap.ToldHeap.named.Goals as goal
use Rattle.heap_audit.proofs.told_heap.ToldHeap.named.Goals.{in-Some+in_ok-header-in-Some, in-None+in_ok-header-in-None}

pub returns-in_err-header-in-Some : goal.returns-in_err-header-in-Some
returns-in_err-header-in-Some c =
    let d = dump_told c.args.self.now in
    let f = c.in-Some.forward in
    let is = named-forwarded d.table.heap d.kept c.args.word f (decode-forward c.args.word f (omega arith) c.in-Some.ensures.one_spelling) in
    let none = sym c.in_err-header-in-Some.was ∙ (c.read.ensures.decoded ∙ ap (λ w. header_in (decode w)) c.word.ensures) in
    c.from_residual.ensures ∙ (ap (option_map identity_by) none ∙ (sym (named_header (d.table.heap f.addr)) ∙ sym is))

pub returns-in_err-header-in-None : goal.returns-in_err-header-in-None
returns-in_err-header-in-None c =
    let d = dump_told c.args.self.now in
    let is = named-in_place d.table.heap d.kept c.args.word (sym c.in-None.is ∙ c.read_forward.ensures.decoded) in
    let none = sym c.in_err-header-in-None.was ∙ c.own_header.ensures in
    c.from_residual-in_err-header-in-None.ensures ∙ (ap (option_map identity_by) none ∙ (sym (named_own d.kept c.args.word) ∙ sym is))

pub returns : goal.returns
returns c =
    let d = dump_told c.args.self.now in
    elim c.match-read_forward.branch [
      | in-Some+in_ok-header-in-Some w ↦
          (let f = w.in-Some.forward in
          let is = named-forwarded d.table.heap d.kept c.args.word f (decode-forward c.args.word f (omega arith) w.in-Some.ensures.one_spelling) in
          let read : Some w.in_ok-header-in-Some.header ≡ header_in (decode (d.table.heap f.addr)) =
          sym w.in_ok-header-in-Some.was ∙ (w.read.ensures.decoded ∙ ap (λ x. header_in (decode x)) w.word.ensures) in
          let same : Some c.match-read_forward.header ≡ header_in (decode (d.table.heap f.addr)) = cc in
          ap (λ (i : Identity). Some i) c.identity_of.ensures ∙ (ap (option_map identity_by) same ∙ (sym (named_header (d.table.heap f.addr)) ∙ sym is)))
      | in-None+in_ok-header-in-None w ↦
          (let is = named-in_place d.table.heap d.kept c.args.word (sym w.in-None.is ∙ c.read_forward.ensures.decoded) in
          let read : Some w.in_ok-header-in-None.header ≡ header_in (own_header_in d.kept (decode c.args.word)) = sym w.in_ok-header-in-None.was ∙ w.own_header.ensures in
          let same : Some c.match-read_forward.header ≡ header_in (own_header_in d.kept (decode c.args.word)) = cc in
          ap (λ (i : Identity). Some i) c.identity_of.ensures ∙ (ap (option_map identity_by) same ∙ (sym (named_own d.kept c.args.word) ∙ sym is)))
    ]
