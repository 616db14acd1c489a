use Rattle.std.proofs.Common.{◌≡◌, ◌+◌, ◌<◌, ◌≤◌, ℕ, List, Some, get_or, length, sym, ap, ◌∙◌, subst, ⊎_elim, arith}
use Rattle.std.specs.Prelude.{slice_get}
use Rattle.std.proofs.lemmas.Bool.{cases_lt}
use Rattle.plain_state.specs.declared.value.Value.{Value}
use Rattle.plain_state.specs.declared.value.Value.TheVariants.{Number}
use Rattle.space_map.specs.Spaces.{board_page, first_word}
use Rattle.heap_state.specs.Memory.Era.{era_of}
use Rattle.heap_state.specs.Meaning.Represents.{BoardWordShows}
use Rattle.heap_audit.specs.Told.{dump_told}
use Rattle.heap_audit.proofs.WrongPlaces.PlainShows.{Shown, board_is, board_shows, not_shown, value_there}
use Rattle.heap_audit.proofs.ShownRecords.ToldWords.{pages_is}
use Rattle.heap_audit.proofs.places.showing.wrong_board_word.Goals as goal

pub returns-then-not-shows-clause-first : goal.returns-then-not-shows-clause-first
returns-then-not-shows-clause-first c =
    let d = dump_told c.args.heap.now in
    let p = c.args.plain.now in
    let x = c.loop-x.x in
    let v : Value = get_or c.board-value-items.result.now x (Number 0) in
    let is : slice_get p.heap.board x ≡ Some v =
    ap (λ (vs : List Value). slice_get vs x) (sym c.board-value-items.ensures) ∙ value_there c.board-value-items.result.now x (Number 0) c.loop-x-test.true in
    let at : c.word.result ≡ d.table.heap ((era_of d.table).board + x) =
    c.word.ensures ∙ ap (λ (b : ℕ). d.table.heap (b + x)) (c.first_word-board.ensures ∙ ap first_word (c.board_page.ensures ∙ ap board_page (sym (pages_is c.args.heap.now.spaces.pages c.args.heap.now.words.now)))) in
    let few = ap length c.board-value-items.ensures ∙ c.requires.form.sixteen in (
      λ shows. not_shown d c.word.result v c.shows.result c.shows.ensures c.if-not-shows.true
          (subst (λ (w : ℕ). Shown d w v) (sym at) (board_is d p x v is (shows (omega (arith, few, c.loop-x-test.true))))),
      λ a l short. c.loop-x.invariant a l,
    )

pub loop-x-preserved : goal.loop-x-preserved
loop-x-preserved c = λ k l.
    let d = dump_told c.args.heap.now in
    let p = c.args.plain.now in
    let x = c.loop-x.x in
    let v : Value = get_or c.board-value-items.result.now x (Number 0) in
    let is : slice_get p.heap.board x ≡ Some v =
    ap (λ (vs : List Value). slice_get vs x) (sym c.board-value-items.ensures) ∙ value_there c.board-value-items.result.now x (Number 0) c.loop-x-test.true in
    let at : c.word.result ≡ d.table.heap ((era_of d.table).board + x) =
    c.word.ensures ∙ ap (λ (b : ℕ). d.table.heap (b + x)) (c.first_word-board.ensures ∙ ap first_word (c.board_page.ensures ∙ ap board_page (sym (pages_is c.args.heap.now.spaces.pages c.args.heap.now.words.now)))) in
    ⊎_elim
    (λ (before : k < x). c.loop-x.invariant k before)
    (λ (from : x ≤ k).
    let same : x ≡ k = omega (arith, from, l) in
    subst (BoardWordShows d p) same (board_shows d p x v is (subst (λ (w : ℕ). Shown d w v) at (c.shows.ensures.0 c.if-not-shows.false))))
    (cases_lt k x)

pub returns-clause-first : goal.returns-clause-first
returns-clause-first c = λ a few.
    let sixteen = ap length c.board-value-items.ensures ∙ c.requires.form.sixteen in
    c.loop-x.invariant a (omega (arith, few, sixteen, c.loop-x-test.false))
