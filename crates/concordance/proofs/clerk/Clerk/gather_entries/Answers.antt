use Rattle.std.proofs.Common.{◌≡◌, ◌∙◌, List, ℕ, ap₂, arith, refl, sym}
use Rattle.std.proofs.lemmas.Bool.{false≢true}
use Rattle.plain_state.specs.declared.value.Value.TheVariants.{Number}
use Rattle.concordance_text.specs.Rows.{rows_of, with_lines}
use Rattle.concordance.specs.Gathering.{LeadsToEntry, whole_desk_of, whole_register, with_notes}
use Rattle.concordance.proofs.Gathered.NotedPlaces.{read_nothing, read_on}
use Rattle.concordance.proofs.Gathered.Walks.{all_entries, entries_on, entry_kept, entry_may_get, next_entry}
use Rattle.concordance.proofs.clerk.Clerk.gather_entries.Goals as goal

pub loop-init : goal.loop-init
loop-init g c = record { read = read_nothing c.args.self.now c.requires.all; left = λ led. record { led = led; becomes = refl } }

pub word_here-requires-clause-leads : goal.word_here-requires-clause-leads
word_here-requires-clause-leads g c =
    let leads : whole_register (whole_desk_of c.loop.self) 2 ≡ Number 0 → ⊥ = λ e. false≢true (sym c.if-leads_nowhere.false ∙ c.leads_nowhere.ensures.1 e) in
    (next_entry c.loop.self 2 (rows_of c.loop.words) _ leads (c.loop.invariant.left c.requires.leads)).first

pub lines_here-requires-clause-leads : goal.lines_here-requires-clause-leads
lines_here-requires-clause-leads g c =
    let leads : whole_register (whole_desk_of c.loop.self) 2 ≡ Number 0 → ⊥ = λ e. false≢true (sym c.if-leads_nowhere.false ∙ c.leads_nowhere.ensures.1 e) in
    entry_kept c.loop.self c.word_here.new.self 2 c.word_here.ensures.read c.word_here.ensures.here (next_entry c.loop.self 2 (rows_of c.loop.words) _ leads (c.loop.invariant.left c.requires.leads)).first

pub gets-requires-clause-can : goal.gets-requires-clause-can
gets-requires-clause-can g c =
    let leads : whole_register (whole_desk_of c.loop.self) 2 ≡ Number 0 → ⊥ = λ e. false≢true (sym c.if-leads_nowhere.false ∙ c.leads_nowhere.ensures.1 e) in
    let read = read_on c.loop.self c.word_here.new.self c.lines_here.new.self c.word_here.ensures.read c.lines_here.ensures.read in
    let here = c.lines_here.ensures.here ∙ c.word_here.ensures.here in
    let first = (next_entry c.loop.self 2 (rows_of c.loop.words) _ leads (c.loop.invariant.left c.requires.leads)).first in
    entry_may_get c.lines_here.new.self 2 4 (entry_kept c.loop.self c.lines_here.new.self 2 read here first) (omega arith)

pub loop-preserved : goal.loop-preserved
loop-preserved g c =
    let s = c.loop.self in
    let worded = c.word_here.new.self in
    let lined = c.lines_here.new.self in
    let leads : whole_register (whole_desk_of s) 2 ≡ Number 0 → ⊥ = λ e. false≢true (sym c.if-leads_nowhere.false ∙ c.leads_nowhere.ensures.1 e) in
    let read = read_on s worded lined c.word_here.ensures.read c.lines_here.ensures.read in
    let here = c.lines_here.ensures.here ∙ c.word_here.ensures.here in
    record {
      read = read_on c.args.self.now s c.gets.new.self c.loop.invariant.read (read_on s lined c.gets.new.self read c.gets.ensures.read);
      left = λ led.
          let next = next_entry s 2 (rows_of c.loop.words) (with_notes led.notes (rows_of c.args.words.now)) leads (c.loop.invariant.left led) in
          let there : LeadsToEntry (whole_desk_of worded) 2 = entry_kept s worded 2 c.word_here.ensures.read c.word_here.ensures.here next.first in
          let added = c.in_ok-add_lines.ensures ∙ ap₂ (λ (w ns : List ℕ). with_lines w ns (rows_of c.loop.words)) (c.in_ok-word.ensures.word next.first) (c.in_ok-lines.ensures.lines there) in
          entries_on s lined c.gets.new.self 2 (rows_of c.loop.words) (rows_of c.add_lines.new.words) (with_notes led.notes (rows_of c.args.words.now)) next read here c.gets.ensures added;
    }

pub returns-then-leads_nowhere-clause-rows : goal.returns-then-leads_nowhere-clause-rows
returns-then-leads_nowhere-clause-rows g c led =
    all_entries c.loop.self 2 (rows_of c.loop.words) (with_notes led.notes (rows_of c.args.words.now)) (c.leads_nowhere.ensures.0 c.if-leads_nowhere.true) (c.loop.invariant.left led)
