use Rattle.std.proofs.Common.{◌≤◌, length, sym, rules, arith}
use Rattle.std.proofs.lemmas.Grind.{common_steps}
use Rattle.std.proofs.lemmas.Option.{slice_get_past}
use Rattle.std.proofs.lemmas.List.{get_or_read}
use Rattle.plain_heap.proofs.States.MutatorSteps.{stepped-past, stepped-none, stepped-ended, stepped-executed, stepped-stopped, written_back, step-takes_memory}
use Rattle.plain_machine.proofs.state.plain_step.Goals.{in-Ok, in-Err-Ended, in-Err-OutOfMemory}
use Rattle.plain_machine.proofs.state.plain_step.Goals as goal

pub returns-in_default-clause-ok : goal.returns-in_default-clause-ok
returns-in_default-clause-ok c = grind (arith, common_steps, slice_get_past, stepped-none)

pub returns-then-is_some-clause-ok : goal.returns-then-is_some-clause-ok
returns-then-is_some-clause-ok c = rw (← c.s.view_is) (search (rules, stepped-ended))

pub returns-clause-ok : goal.returns-clause-ok
returns-clause-ok c = elim c.match-take_turn.branch [
  | in-Ok w ↦ rw (w.result-is, w.s-inside-is, ← c.s.view_is) (search (rules, stepped-executed))
  | in-Err-Ended w ↦ rw (w.result-is, w.s-inside-is, w.set_end.ensures) (rw (w.in-Err-Ended.ensures.heap_unchanged, w.in-Err-Ended.ensures.mutator_unchanged, ← c.s.view_is) (search (rules, stepped-stopped)))
  | in-Err-OutOfMemory w ↦ rw w.result-is tt
]

pub returns-then-m-len-clause-ok : goal.returns-then-m-len-clause-ok
returns-then-m-len-clause-ok c =
    let past : length c.args.p.now.code ≤ c.args.m = omega arith in
    sym (stepped-past _ _ _ _ past)

pub returns-clause-err : goal.returns-clause-err
returns-clause-err c = elim c.match-take_turn.branch [
  | in-Ok w ↦ rw w.result-is tt
  | in-Err-Ended w ↦ rw w.result-is tt
  | in-Err-OutOfMemory w ↦ rw (w.result-is, w.s-inside-is, w.in-Err-OutOfMemory.ensures.heap_unchanged, w.in-Err-OutOfMemory.ensures.mutator_unchanged, ← c.s.view_is) (search (rules, written_back, get_or_read, c.in-Some.ensures.item))
]

pub returns-clause-no_memory : goal.returns-clause-no_memory
returns-clause-no_memory c = elim c.match-take_turn.branch [
  | in-Ok w ↦ rw w.result-is tt
  | in-Err-Ended w ↦ rw w.result-is tt
  | in-Err-OutOfMemory w ↦ rw (w.result-is, ← c.s.view_is) (search (rules, step-takes_memory, w.in-Err-OutOfMemory.ensures.takes_memory))
]
