use Rattle.std.proofs.Common.{◌≡◌, ◌+◌, length, true, refl, ap, ◌∙◌, arith}
use Rattle.gc_worker.proofs.Between.OpenedHeap.{many}
use Rattle.gc_core.proofs.Events.Lawful.{lawful_opening}
use Rattle.gc_core.proofs.machine.Core.open.Goals as goal

all_there : (c : goal.In_ok-slots) → length c.in_ok-slots.slots.items ≡ length c.args.program.now.code + c.args.config.now.scanners
all_there c =
    ap length c.in_ok-slots.ensures
    ∙ many true c.in_ok-spaces.spaces c.len-mutators.result 0 (c.len-mutators.result + c.args.config.now.scanners)
    ∙ ap (λ n. n + c.args.config.now.scanners) c.len-mutators.ensures

pub opening_words-requires : goal.opening_words-requires
opening_words-requires c = c.in_ok-spaces.ensures.at_first.1

pub returns-clause-workers : goal.returns-clause-workers
returns-clause-workers c = all_there c

pub invariant_of-result : goal.invariant_of-result
invariant_of-result c =
    let layout = c.in_ok-spaces.ensures.layout in
    let words = c.in_ok-atoms.ensures in
    let slots = c.in_ok-slots.ensures in
    let len = c.len-mutators.ensures in
    let all = all_there c in
    let vec = c.in_ok-slots.slots.ok.0 in
    let program = c.args.program.now.well_formed in
    let few = program.few_sections in
    let lawful = lawful_opening c.args.program.now.code c.args.program.now.schedule c.args.turns c.args.config.now program (c.in_ok-spaces.ensures.refused_exactly_outside.0 refl) c.requires.turns.1 c.requires.scanners in (
      omega (arith, vec, all, few, c.requires.scanners),
      omega (arith, vec, all),
      rw (words, slots, len, layout) lawful,
    )
