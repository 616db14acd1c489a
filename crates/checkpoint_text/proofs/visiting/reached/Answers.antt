use Rattle.std.proofs.Common.{◌≡◌, ℕ, ◌+◌, ◌*◌, Some, slice_get, sym, ap, ◌∙◌, subst}
use Rattle.space_map.specs.Spaces.{board_page, first_word}
use Rattle.checkpoint_text.specs.Visits.{Visited, met_from, unvisited}
use Rattle.checkpoint_text.specs.Reached.{AreReached}
use Rattle.checkpoint_text.specs.Records.{first_value}
use Rattle.checkpoint_text.specs.Words.{saved_heap}
use Rattle.checkpoint_text.proofs.Finds.{found_within}
use Rattle.checkpoint_text.proofs.Scans.{IsScanned, begins, comes_nearer, ends, goes_on}
use Rattle.checkpoint_text.proofs.visiting.reached.Goals as goal

pub loop-record-init : goal.loop-record-init
loop-record-init c =
    let saved = c.args.words.now in
    let n = saved.spaces.pages in
    let board = first_word (board_page n) in
    let at_first : c.meet_from.new.self ≡ met_from (saved_heap saved) c.board.result 16 c.in_ok-visiting.visiting = c.in_ok-meet_from.ensures in
    let none : c.in_ok-visiting.visiting ≡ unvisited (128 * n + 64) = c.in_ok-visiting.ensures ∙ ap unvisited c.heap_len.ensures in
    let is : c.meet_from.new.self ≡ met_from (saved_heap saved) board 16 (unvisited (128 * n + 64)) = at_first ∙ ap (λ (b : ℕ). met_from (saved_heap saved) b 16 c.in_ok-visiting.visiting) c.board.ensures ∙ ap (met_from (saved_heap saved) board 16) none in
    subst (λ (m : Visited). IsScanned (saved_heap saved) board (128 * n + 64) m 0) (sym is) (begins (saved_heap saved) board (128 * n + 64) (found_within n saved.words.now))

pub loop-record-preserved : goal.loop-record-preserved
loop-record-preserved c =
    let saved = c.args.words.now in
    let n = saved.spaces.pages in
    let board = first_word (board_page n) in
    let m = c.loop-record.visiting in
    let s = c.in-Some.record in
    let there : slice_get m.records c.loop-record.next ≡ Some s = sym c.record.ensures ∙ c.in-Some.is in
    let met : c.meet_from-in-Some.new.self ≡ met_from (saved_heap saved) c.first_value.result c.field_count.result m = c.in_ok-meet_from-2.ensures in
    let is = met ∙ ap (λ (f : ℕ). met_from (saved_heap saved) f c.field_count.result m) c.first_value.ensures ∙ ap (λ (k : ℕ). met_from (saved_heap saved) (first_value s) k m) c.field_count.ensures in
    subst (λ (later : Visited). IsScanned (saved_heap saved) board (128 * n + 64) later (c.loop-record.next + 1)) (sym is)
    (goes_on (saved_heap saved) board (128 * n + 64) (found_within n saved.words.now) m c.loop-record.next s c.loop-record.invariant there)

pub loop-record-smaller : goal.loop-record-smaller
loop-record-smaller c =
    let saved = c.args.words.now in
    let n = saved.spaces.pages in
    comes_nearer (saved_heap saved) (first_word (board_page n)) (128 * n + 64) (found_within n saved.words.now) c.loop-record.visiting c.loop-record.next c.in-Some.record c.loop-record.invariant
    (sym c.record.ensures ∙ c.in-Some.is)

pub returns : goal.returns
returns c =
    let saved = c.args.words.now in
    let n = saved.spaces.pages in
    let board = first_word (board_page n) in
    subst (λ (m : Visited). AreReached (saved_heap saved) board m.records) (sym c.visiting-in-loop-record.view_is)
    (ends (saved_heap saved) board (128 * n + 64) (found_within n saved.words.now) c.loop-record.visiting c.loop-record.next c.loop-record.invariant (sym c.record.ensures ∙ c.in_default.is))
