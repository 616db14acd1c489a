use Rattle.std.proofs.Common.{◌∙◌, ◌+◌, ◌*◌, ap, sym, arith}
use Rattle.space_map.specs.Spaces.{space_start}
use Rattle.heap_audit.specs.Told.{dump_told}
use Rattle.heap_audit.proofs.WalkedSpaces.SpaceWalks.{extent_fits, starts}
use Rattle.heap_audit.proofs.ShownRecords.ToldWords.{pages_is}
use Rattle.heap_audit.proofs.told_heap.ToldHeap.extent.Goals as goal

pub overflow_add-result : goal.overflow_add-result
overflow_add-result c =
    let d = dump_told c.args.self.now in
    let n = c.args.self.now.spaces.pages in
    let fits = extent_fits d.table n c.args.space (pages_is n c.args.self.now.words.now) (omega (arith, c.known.ensures)) c.requires.one_of_two c.requires.ordered in
    let start = starts n c.args.space c.requires.one_of_two in
    omega (arith, fits, start, c.space_start-start.ensures, c.front.ensures)

pub overflow_add-result-2 : goal.overflow_add-result-2
overflow_add-result-2 c =
    let d = dump_told c.args.self.now in
    let n = c.args.self.now.spaces.pages in
    let fits = extent_fits d.table n c.args.space (pages_is n c.args.self.now.words.now) (omega (arith, c.known.ensures)) c.requires.one_of_two c.requires.ordered in
    let start = starts n c.args.space c.requires.one_of_two in
    omega (arith, fits, start, c.space_start-start.ensures, c.low.ensures)

pub overflow_cast-result : goal.overflow_cast-result
overflow_cast-result c =
    let d = dump_told c.args.self.now in
    let n = c.args.self.now.spaces.pages in
    let fits = extent_fits d.table n c.args.space (pages_is n c.args.self.now.words.now) (omega (arith, c.known.ensures)) c.requires.one_of_two c.requires.ordered in
    let start = starts n c.args.space c.requires.one_of_two in
    omega (arith, fits, start, c.size.ensures)

pub overflow_mul-result : goal.overflow_mul-result
overflow_mul-result c =
    let d = dump_told c.args.self.now in
    let n = c.args.self.now.spaces.pages in
    let fits = extent_fits d.table n c.args.space (pages_is n c.args.self.now.words.now) (omega (arith, c.known.ensures)) c.requires.one_of_two c.requires.ordered in
    let start = starts n c.args.space c.requires.one_of_two in
    omega (arith, fits, start, c.size.ensures)

pub overflow_add-result-3 : goal.overflow_add-result-3
overflow_add-result-3 c =
    let d = dump_told c.args.self.now in
    let n = c.args.self.now.spaces.pages in
    let fits = extent_fits d.table n c.args.space (pages_is n c.args.self.now.words.now) (omega (arith, c.known.ensures)) c.requires.one_of_two c.requires.ordered in
    let start = starts n c.args.space c.requires.one_of_two in
    omega (arith, fits, start, c.space_start-start.ensures, c.size.ensures)

pub returns-clause-extent : goal.returns-clause-extent
returns-clause-extent c =
    let n = c.args.self.now.spaces.pages in
    let s = c.space_start-start.ensures ∙ ap (λ m. space_start m c.args.space) (sym (pages_is n c.args.self.now.words.now)) in
    λ i. record { start = s i; front = s i + c.front.ensures i; low = s i + c.low.ensures i; end = s i + 64 * c.size.ensures i }

pub returns-clause-ends : goal.returns-clause-ends
returns-clause-ends c =
    let d = dump_told c.args.self.now in
    let n = c.args.self.now.spaces.pages in
    let fits = extent_fits d.table n c.args.space (pages_is n c.args.self.now.words.now) (omega (arith, c.known.ensures)) c.requires.one_of_two c.requires.ordered in
    let start = starts n c.args.space c.requires.one_of_two in
    omega (arith, fits, start, c.space_start-start.ensures, c.size.ensures)

pub returns-clause-front_ends : goal.returns-clause-front_ends
returns-clause-front_ends c =
    let d = dump_told c.args.self.now in
    let n = c.args.self.now.spaces.pages in
    let fits = extent_fits d.table n c.args.space (pages_is n c.args.self.now.words.now) (omega (arith, c.known.ensures)) c.requires.one_of_two c.requires.ordered in
    let start = starts n c.args.space c.requires.one_of_two in
    omega (arith, fits, start, c.space_start-start.ensures, c.front.ensures)

pub returns-clause-new : goal.returns-clause-new
returns-clause-new c =
    let d = dump_told c.args.self.now in
    let n = c.args.self.now.spaces.pages in
    let fits = extent_fits d.table n c.args.space (pages_is n c.args.self.now.words.now) (omega (arith, c.known.ensures)) c.requires.one_of_two c.requires.ordered in
    let start = starts n c.args.space c.requires.one_of_two in
    omega (arith, fits, start, c.low.ensures, c.size.ensures)
