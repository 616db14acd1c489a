use Rattle.std.proofs.Common.{◌<◌, IsTrue, subst}
use Rattle.atom_store.specs.declared.reply.Reply.TheVariants.{Value}
use Rattle.heap_words.specs.Decoded.{decode}
use Rattle.page_scan.specs.Left.{advances, left, left_at}
use Rattle.page_scan.specs.Scanning.{Scanning}
use Rattle.page_scan.specs.Soundness.{FitsStage}
use Rattle.page_scan.specs.Taken.{by_word, scan_end}
use Rattle.page_scan.specs.declared.scan_stage.ScanStage.{ScanStage}
use Rattle.page_scan.proofs.ScanMeasure.{by_word-lt}
use Rattle.page_scan.proofs.scan.Scan.has_loaded.Goals as goal

pub returns-in-LoadsWord-clause-lowers : goal.returns-in-LoadsWord-clause-lowers
returns-in-LoadsWord-clause-lowers c =
    let v = c.self.inside in
    let spot = c.in-LoadsWord.spot in
    let d = decode c.args.word in
    let on_page = subst (λ (x : ScanStage). FitsStage v.spaces.pages v.page x) c.in-LoadsWord.is c.self.invariant.fits in
    rw c.reads_word.ensures.state
    (subst (λ (z : Scanning). IsTrue (advances z.stage (Value c.args.word)) → left_at (scan_end z.layout z.page) (by_word z.layout z.page z.epoch z.in_place spot d) < left z) c.self.view_is
    (λ t. rw c.in-LoadsWord.is (by_word-lt v.spaces v.page v.epoch v.in_place spot d on_page)))
