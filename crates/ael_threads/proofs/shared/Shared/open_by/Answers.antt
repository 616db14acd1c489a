use Rattle.std.proofs.Common.{◌≡◌, ◌+◌, ◌≤◌, ℕ, List, [], length, sym, subst, ap, ◌∙◌, arith}
use Rattle.atomic_table.specs.Table as table
use Rattle.space_map.specs.declared.spaces.TheConstants.{MOST_MUTATORS, MOST_SCANNERS}
use Rattle.gc_worker.proofs.Between.OpenedHeap.{opening_words-length}
use Rattle.ael_threads.specs.declared.view.Plan.{Plan}
use Rattle.ael_threads.specs.Rule.{RuleHolds, crew, first_view}
use Rattle.ael_threads.proofs.TableRule.OpenedRule.{opens_kept}
use Rattle.ael_threads.proofs.shared.Shared.open_by.Goals as goal

pub of_words-requires : goal.of_words-requires
of_words-requires c =
    let plan : Plan = c.args.plan.now in
    let all : crew plan ≤ MOST_MUTATORS + MOST_SCANNERS = (let a = c.requires.mutators in let b = c.requires.scanners in omega (arith, a, b)) in
    subst (λ (words : List ℕ). RuleHolds plan (table.opening {S = ℕ} words [] (first_view plan))) (sym (c.words.ensures ∙ c.in_ok-atoms.ensures))
    (opens_kept plan c.known.ensures c.requires.sizes.0 c.requires.sizes.1 c.requires.mutators all)

pub deal-requires-clause-few : goal.deal-requires-clause-few
deal-requires-clause-few c = (c.requires.mutators, (let a = c.requires.mutators in let b = c.requires.scanners in omega (arith, a, b)))

pub deal-requires-clause-table : goal.deal-requires-clause-table
deal-requires-clause-table c = c.in_ok-table.ensures.2

pub deal-requires-clause-seat : goal.deal-requires-clause-seat
deal-requires-clause-seat c = c.in_ok-table.ensures.4

pub deal-requires-clause-live : goal.deal-requires-clause-live
deal-requires-clause-live c = c.in_ok-table.ensures.0 ∙ (ap length (c.words.ensures ∙ c.in_ok-atoms.ensures) ∙ opening_words-length c.args.plan.now.spaces c.args.plan.now.least)

pub returns-clause-key : goal.returns-clause-key
returns-clause-key c = c.in_ok-table.ensures.5

pub returns-clause-words : goal.returns-clause-words
returns-clause-words c = c.in_ok-table.ensures.0 ∙ (ap length (c.words.ensures ∙ c.in_ok-atoms.ensures) ∙ opening_words-length c.args.plan.now.spaces c.args.plan.now.least)
