use Rattle.std.proofs.Common.{ap, refl, sym, ◌∙◌, subst}
use Rattle.std.specs.Prelude.{IsTrue, ◌↔◌, Bool, is_some}
use Rattle.heap_words.specs.Decoded.{decode}
use Rattle.heap_state.specs.Meaning.Represents.{IsBusy}
use Rattle.heap_audit.proofs.ShownRecords.OwnHeaders.{busy_reads}
use Rattle.heap_audit.proofs.told_heap.ToldHeap.is_busy.Goals as goal

pub returns : goal.returns
returns c = subst (λ (b : Bool). IsTrue b ↔ IsBusy (decode c.args.word)) (sym (c.is_some.ensures ∙ ap is_some c.read_busy.ensures.decoded)) (busy_reads c.args.word (decode c.args.word) refl)
