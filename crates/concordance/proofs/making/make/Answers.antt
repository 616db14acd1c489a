use Rattle.std.proofs.Common.{◌≡◌, ℕ, List, Err, refl, sym, ap, ◌∙◌, subst, arith}
use Rattle.ael_threads.specs.Histories.{Each}
use Rattle.ael_threads.specs.Readers.{SeatedScanner}
use Rattle.ael_threads.specs.declared.view.Plan.{Plan}
use Rattle.concordance_text.specs.declared.part.Part.{Part}
use Rattle.concordance_text.specs.MayBeFull.{MayBeFull}
use Rattle.concordance.specs.Making.{AreDealt}
use Rattle.concordance.specs.OneMutator.{IsWhole}
use Rattle.concordance.specs.Working.{WasFullForOne, SharedHeap, shared_heap}
use Rattle.concordance.proofs.Working.ShortParts.{parts_short}
use Rattle.concordance.proofs.LoneHeaps.FullSpaces.{handed_on, may_be_full_alone}
use Rattle.concordance.proofs.making.make.Goals as goal

pub words_of-requires-clause-dealt : goal.words_of-requires-clause-dealt
words_of-requires-clause-dealt g c κs within =
    let heap = c.in_ok-heap.heap.table.shared in
    let w : SharedHeap = shared_heap heap.table_id heap.key in
    let clerks = c.in_ok-all.all.items in
    let parts = c.parts-parts.result.items in
    let text = c.args.text.now in
    let cut = c.parts-parts.ensures in
    let mutators = ap (λ (p : Plan). p.mutators) c.in_ok-heap.ensures.plan in
    let many = c.in_ok-all.ensures.many in
    let count = cut.count in
    let from = c.from-2.ensures in
    let few = c.requires.few in
    let some = c.requires.some in
    subst (λ (ps : List Part). AreDealt w ps clerks) (sym c.as_slice.ensures.value) (record {
      some = omega (arith, mutators, many, some);
      few = omega (arith, mutators, many, few);
      all = many;
      each = omega (arith, mutators, many, count, from);
      numbered = cut.numbered;
      short = parts_short text parts cut.bytes cut.at_line_ends c.requires.words;
      in_order = cut.in_order;
      ready = c.in_ok-all.ensures.ready;
    })

pub words_of-requires-clause-scanners : goal.words_of-requires-clause-scanners
words_of-requires-clause-scanners g c κs within =
    let t = c.in_ok-heap.heap.table.shared.table_id in
    subst (Each (λ (s : SeatedScanner). s.seated.table ≡ t)) (sym c.as_mut_slice.ensures.value) c.in_ok-heap.ensures.scanners

pub returns-in_err-words-clause-full : goal.returns-in_err-words-clause-full
returns-in_err-words-clause-full g c = λ single asked room is.
    let heap = c.in_ok-heap.heap.table.shared in
    let w : SharedHeap = shared_heap heap.table_id heap.key in
    let cut = c.parts-parts.ensures in
    let count = cut.count in
    let from = c.from-2.ensures in
    let mutators = ap (λ (p : Plan). p.mutators) c.in_ok-heap.ensures.plan in
    let was = handed_on (WasFullForOne w 0 c.as_slice.result.now) (Err c.in_err-words.field-0.0) c.from_residual-in_err-words.result c.in_err-words.field-0.0 refl c.from_residual-in_err-words.ensures.1 c.in_err-words.ensures.full asked room is in
    subst (λ (pages : ℕ). MayBeFull pages c.args.text.now asked room) (ap (λ (p : Plan). p.spaces.pages) c.in_ok-heap.ensures.plan ∙ c.requires.limit)
    (may_be_full_alone w c.args.text.now c.parts-parts.result.items asked room c.requires.short (mutators ∙ single) (subst IsWhole (sym c.in_ok-heap.ensures.plan) (sym c.requires.limit)) (omega (arith, count, from, single)) cut.mentions
    (subst (λ (ps : List Part). WasFullForOne w 0 ps asked room) c.as_slice.ensures.value was))
