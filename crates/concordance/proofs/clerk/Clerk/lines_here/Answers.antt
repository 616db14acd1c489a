use Rattle.std.proofs.Common.{◌≡◌, ◌≢◌, ℕ, ◌∙◌, ap, arith, reverse, sym}
use Rattle.std.proofs.lemmas.Bool.{false≢true}
use Rattle.plain_state.specs.declared.value.Value.TheVariants.{Number}
use Rattle.concordance.specs.Gathering.{whole_desk_of, whole_register}
use Rattle.concordance.proofs.Gathered.NotedPlaces.{read_on}
use Rattle.concordance.proofs.Gathered.Walks.{all_lines, line_may_get, lines_more, next_kept, next_line, number_read, number_taken}
use Rattle.concordance.proofs.clerk.Clerk.lines_here.Goals as goal

other_than_line : ◌≢◌ {A = ℕ} 5 7
other_than_line e = omega (arith, e)

here_not_number : ◌≢◌ {A = ℕ} 2 7
here_not_number e = omega (arith, e)

here_not_line : ◌≢◌ {A = ℕ} 2 5
here_not_line e = omega (arith, e)

pub gets-requires-in-loop-clause-can : goal.gets-requires-in-loop-clause-can
gets-requires-in-loop-clause-can g c =
    let led = c.requires.leads in
    let s = c.loop.self in
    let next = next_line s 5 led.clerk led.note.lines c.loop.lines.items (λ e. false≢true (sym c.if-leads_nowhere.false ∙ c.leads_nowhere.ensures.1 e)) (c.loop.invariant.left led) in
    line_may_get s 5 led.clerk 0 led.note.lines c.loop.lines.items next (omega arith)

pub number_in-requires-clause-number : goal.number_in-requires-clause-number
number_in-requires-clause-number g c =
    let led = c.requires.leads in
    let s = c.loop.self in
    let next = next_line s 5 led.clerk led.note.lines c.loop.lines.items (λ e. false≢true (sym c.if-leads_nowhere.false ∙ c.leads_nowhere.ensures.1 e)) (c.loop.invariant.left led) in
    (next.number, number_taken s c.gets-in-loop.new.self 5 7 led.clerk led.note.lines c.loop.lines.items next c.gets-in-loop.ensures)

pub overflow_cast-number_in : goal.overflow_cast-number_in
overflow_cast-number_in g c =
    let led = c.requires.leads in
    let s = c.loop.self in
    let next = next_line s 5 led.clerk led.note.lines c.loop.lines.items (λ e. false≢true (sym c.if-leads_nowhere.false ∙ c.leads_nowhere.ensures.1 e)) (c.loop.invariant.left led) in
    let read = number_read s c.gets-in-loop.new.self 5 7 led.clerk c.number_in.result led.note.lines c.loop.lines.items next c.gets-in-loop.ensures c.number_in.ensures in
    omega (arith, read, next.fits)

pub gets-requires-in-loop-2-clause-can : goal.gets-requires-in-loop-2-clause-can
gets-requires-in-loop-2-clause-can g c =
    let led = c.requires.leads in
    let s = c.loop.self in
    let after = c.gets-in-loop.new.self in
    let next = next_line s 5 led.clerk led.note.lines c.loop.lines.items (λ e. false≢true (sym c.if-leads_nowhere.false ∙ c.leads_nowhere.ensures.1 e)) (c.loop.invariant.left led) in
    let kept = next_kept s after 5 7 led.clerk led.note.lines c.loop.lines.items _ c.gets-in-loop.ensures other_than_line next in
    line_may_get after 5 led.clerk 1 led.note.lines c.loop.lines.items kept (omega arith)

pub loop-preserved : goal.loop-preserved
loop-preserved g c =
    let s = c.loop.self in
    let after = c.gets-in-loop.new.self in
    let then = c.gets-in-loop-2.new.self in
    let items = c.loop.lines.items in
    let leads : whole_register (whole_desk_of s) 5 ≡ Number 0 → ⊥ = λ e. false≢true (sym c.if-leads_nowhere.false ∙ c.leads_nowhere.ensures.1 e) in
    record {
      read = read_on c.args.self.now s then c.loop.invariant.read (read_on s after then c.gets-in-loop.ensures.read c.gets-in-loop-2.ensures.read);
      here = c.gets-in-loop-2.ensures.others 2 here_not_line ∙ c.gets-in-loop.ensures.others 2 here_not_number ∙ c.loop.invariant.here;
      left = λ led.
          let next = next_line s 5 led.clerk led.note.lines items leads (c.loop.invariant.left led) in
          let read = number_read s after 5 7 led.clerk c.number_in.result led.note.lines items next c.gets-in-loop.ensures c.number_in.ensures in
          let kept = next_kept s after 5 7 led.clerk led.note.lines items _ c.gets-in-loop.ensures other_than_line next in
          lines_more after then 5 led.clerk c.number_in.result led.note.lines items c.push.new.self.items kept c.gets-in-loop-2.ensures read c.in_ok-push.ensures.items;
    }

pub returns-then-leads_nowhere-clause-lines : goal.returns-then-leads_nowhere-clause-lines
returns-then-leads_nowhere-clause-lines g c led =
    c.reverse.ensures.items ∙ ap reverse (all_lines c.loop.self 5 led.clerk led.note.lines c.loop.lines.items (c.leads_nowhere.ensures.0 c.if-leads_nowhere.true) (c.loop.invariant.left led))
