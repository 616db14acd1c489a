use Rattle.std.proofs.Common.{◌*◌, ◌≡◌, ◌<◌, ◌≤◌, ◌+◌, ◌∙◌, ℕ, List, Option, Some, get_or, length, map, take, sym, ap, subst, arith}
use Rattle.std.specs.Prelude.{IfSome}
use Rattle.space_map.specs.Spaces.{past_heaps}
use Rattle.space_map.specs.declared.spaces.TheConstants.{MOST_PAGES}
use Rattle.heap_audit.specs.Firsts.{TellsFirst, least}
use Rattle.heap_audit.specs.Told.{dump_told}
use Rattle.heap_audit.specs.Walks.{walked}
use Rattle.heap_audit.specs.declared.walks.RecordAt.{RecordAt}
use Rattle.heap_audit.proofs.ShownRecords.FoundWords.{SeenBy, all_seen_by, break_short, inside, least_below, met_here, met_in_heap, met_item, met_low, met_now, none_yet, right_record, wrong_record}
use Rattle.heap_audit.proofs.ShownRecords.ToldWords.{pages_is}
use Rattle.heap_audit.proofs.places.first_place.wrong_heap_word.Goals as goal
use Rattle.heap_audit.proofs.places.first_place.wrong_heap_word.Goals.{in-Some, in_default}

pub loop-i-init : goal.loop-i-init
loop-i-init c =
    let d = dump_told c.args.heap.now in
    let few : d.table.pages ≤ MOST_PAGES = omega (arith, c.args.heap.now.counted, pages_is c.args.heap.now.spaces.pages c.args.heap.now.words.now) in
    record {
      first = none_yet d c.args.plain.now c.args.walks.now.first_break c.requires.walks.breaks;
      short = break_short d c.requires.ordered c.args.walks.now.first_break few c.requires.walks.breaks;
    }

pub loop-i-preserved : goal.loop-i-preserved
loop-i-preserved c =
    let d = dump_told c.args.heap.now in
    let p = c.args.plain.now in
    let ws = c.args.walks.now in
    let z : RecordAt = record { at = 0; size = 0 } in
    let i = c.loop-i.i in
    let xs : List RecordAt = c.deref-found-items.result.now in
    let r : RecordAt = get_or xs i z in
    let within = inside d c.requires.ordered ws c.requires.walks xs c.deref-found-items.ensures.value i z c.loop-i-test.true in
    let here = met_item d c.requires.ordered ws c.requires.walks xs c.deref-found-items.ensures.value i z c.loop-i-test.true in
    let low = met_low d c.requires.ordered ws c.requires.walks xs c.deref-found-items.ensures.value i z c.loop-i-test.true c.args.heap.now.spaces.pages (pages_is c.args.heap.now.spaces.pages c.args.heap.now.words.now) in
    elim c.match-wrong_word.branch [
      | in-Some w ↦
          (let x = w.in-Some.x in
          let told : c.match-wrong_word.first ≡ least c.loop-i.first (Some (r.at + x)) = w.first-is ∙ w.least-first.ensures in
          let below : r.at + x < 2 * past_heaps = omega (arith, low, w.in-Some.ensures.short, c.args.heap.now.counted) in
          record {
            first = subst (TellsFirst (SeenBy d p (map walked (take (i + 1) ws.records.items)))) (sym told)
                (wrong_record d p ws.records.items i z r within here c.loop-i.first x w.in-Some.ensures.first c.loop-i.invariant.first);
            short = subst (λ (o : Option ℕ). IfSome o (λ a. a < 2 * past_heaps)) (sym told) (least_below c.loop-i.first (r.at + x) (2 * past_heaps) c.loop-i.invariant.short below);
          })
      | in_default w ↦
          record {
            first = subst (TellsFirst (SeenBy d p (map walked (take (i + 1) ws.records.items)))) (sym w.first-is)
                (right_record d p ws.records.items i z r within here c.loop-i.first w.in_default.ensures.first c.loop-i.invariant.first);
            short = subst (λ (o : Option ℕ). IfSome o (λ a. a < 2 * past_heaps)) (sym w.first-is) c.loop-i.invariant.short;
          }
    ]

pub wrong_word-requires-clause-walked : goal.wrong_word-requires-clause-walked
wrong_word-requires-clause-walked c =
    met_here (dump_told c.args.heap.now) c.requires.ordered c.args.walks.now c.requires.walks c.deref-found-items.result.now c.deref-found-items.ensures.value c.loop-i.i _ c.loop-i-test.true

pub wrong_word-requires-clause-now : goal.wrong_word-requires-clause-now
wrong_word-requires-clause-now c =
    met_now (dump_told c.args.heap.now) c.requires.ordered c.args.walks.now c.requires.walks c.deref-found-items.result.now c.deref-found-items.ensures.value c.loop-i.i
    (record { at = 0; size = 0 }) c.loop-i-test.true

pub wrong_word-requires-clause-low : goal.wrong_word-requires-clause-low
wrong_word-requires-clause-low c =
    let low = met_low (dump_told c.args.heap.now) c.requires.ordered c.args.walks.now c.requires.walks c.deref-found-items.result.now c.deref-found-items.ensures.value c.loop-i.i
    (record { at = 0; size = 0 }) c.loop-i-test.true c.args.heap.now.spaces.pages (pages_is c.args.heap.now.spaces.pages c.args.heap.now.words.now) in
    omega (arith, low, c.args.heap.now.counted)

pub overflow_add-found : goal.overflow_add-found
overflow_add-found c =
    let low = met_low (dump_told c.args.heap.now) c.requires.ordered c.args.walks.now c.requires.walks c.deref-found-items.result.now c.deref-found-items.ensures.value c.loop-i.i
    (record { at = 0; size = 0 }) c.loop-i-test.true c.args.heap.now.spaces.pages (pages_is c.args.heap.now.spaces.pages c.args.heap.now.words.now) in
    omega (arith, low, c.in-Some.ensures.short, c.args.heap.now.counted)

pub returns-clause-first : goal.returns-clause-first
returns-clause-first c =
    let d = dump_told c.args.heap.now in
    let ws = c.args.walks.now in
    let all : length ws.records.items ≤ c.loop-i.i = omega (arith, c.loop-i-test.false, ap length c.deref-found-items.ensures.value) in
    all_seen_by d c.args.plain.now ws.records.items c.loop-i.i c.loop-i.first all (met_in_heap d c.requires.ordered ws c.requires.walks) c.loop-i.invariant.first
