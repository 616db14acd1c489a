use Rattle.std.proofs.Common.{◌≡◌, ◌*◌, refl, ap, ◌∙◌, arith}
use Rattle.space_map.specs.declared.spaces.TheConstants.{PAGE_WORDS}
use Rattle.heap_audit.specs.Told.{dump_told}
use Rattle.heap_audit.proofs.ShownRecords.ToldWords.{pages_is}
use Rattle.heap_audit.proofs.places.first_place.wrong_in_space.Goals as goal
use Rattle.heap_audit.proofs.places.first_place.wrong_in_space.Goals.{then-front-low-via-then-front-low, then-front-low-via-else-front-low+then-from-size}

pub returns-then-size-from : goal.returns-then-size-from
returns-then-size-from c = (
  refl,
  λ fits.
      let few = fits (c.is_walked.ensures.0 c.if-not-is_walked.false) in
      omega (arith, few, c.size-size.ensures, c.from.ensures, c.pages.ensures.pages, pages_is c.args.heap.now.spaces.pages c.args.heap.now.words.now, c.if-size-from.true),
)

pub returns-then-front-low : goal.returns-then-front-low
returns-then-front-low c = (
  refl,
  λ walked. omega (arith, c.size-size.ensures, c.from.ensures, c.pages.ensures.pages, pages_is c.args.heap.now.spaces.pages c.args.heap.now.words.now, c.if-size-from.false),
  λ area.
      let t = (dump_told c.args.heap.now).table in
      let ordered = area (c.is_walked.ensures.0 c.if-not-is_walked.false) in
      elim c.then-front-low.branch [
        | then-front-low-via-then-front-low w ↦ omega (arith, ordered.0, c.front-front.ensures, c.low-low.ensures, w.if-front-low.true)
        | then-front-low-via-else-front-low+then-from-size w ↦
            (let used : w.from-else-front-low-2.result * c.size-size.result ≡ PAGE_WORDS * t.in_use c.args.space =
            ap (λ z. z * c.size-size.result) w.from-else-front-low-2.ensures ∙ ap (λ z. PAGE_WORDS * z) c.size-size.ensures in
            omega (arith, ordered.1, c.low-low.ensures, w.from-else-front-low.ensures, used, w.if-from-size.true))
      ],
)

pub returns : goal.returns
returns c = λ walked.
    let t = (dump_told c.args.heap.now).table in
    let used : c.from-else-front-low-2.result * c.size-size.result ≡ PAGE_WORDS * t.in_use c.args.space =
    ap (λ z. z * c.size-size.result) c.from-else-front-low-2.ensures ∙ ap (λ z. PAGE_WORDS * z) c.size-size.ensures in
    record {
      size = omega (arith, c.size-size.ensures, c.from.ensures, c.pages.ensures.pages, pages_is c.args.heap.now.spaces.pages c.args.heap.now.words.now, c.if-size-from.false);
      area = (
        omega (arith, c.front-front.ensures, c.low-low.ensures, c.if-front-low.false),
        omega (arith, c.low-low.ensures, c.from-else-front-low.ensures, used, c.if-from-size.false),
      );
    }
