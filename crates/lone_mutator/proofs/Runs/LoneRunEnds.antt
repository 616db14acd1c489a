-- A run of one mutator comes to its end: it executes no more instructions than it has turns.
use Rattle.std.proofs.Common.{◌≡◌, ℕ, zero, suc, ◌+◌, ◌*◌, ◌/◌, ◌<◌, ◌≤◌, inl, inr, Bool, true, false, cond, List, [], ◌∷◌, length, refl, ap, arith}
use Rattle.std.proofs.Math.Nat.{div-lt_iff_lt-mul}
use Rattle.mutator_asm.specs.declared.instr.Instr.{Instr}
use Rattle.gc_worker.specs.Plain.Marks.{mark_of}
use Rattle.space_map.specs.Spaces.{Layout}
use Rattle.gc_core.specs.Core.{CoreState, layout_by, opening_core}
use Rattle.gc_core.specs.Event.{core_after, event_of}
use Rattle.gc_core.specs.Law.{IsLawful}
use Rattle.gc_core.specs.Run.{Ran, after_event, all_ended, run_from}
use Rattle.gc_core.proofs.Events.OpenedCore.{limit_fits}
use Rattle.gc_core.proofs.Events.Lawful.{lawful_after, lawful_opening}
use Rattle.lone_mutator.specs.Bound.{most_steps_of}
use Rattle.lone_mutator.specs.Runs.{KeepsPace, LoneMutatorsGoOn, LoneRunsEnd, executed_by, has_end}
use Rattle.lone_mutator.proofs.Runs.MostSteps.{costs_lt_most, most_le_most_of}

-- ---- the last core

-- it is of the same program, with the same turns
record Lasts (s last : CoreState) : Type 0 where
  lawful : IsLawful last
  turns : last.turns ≡ s.turns
  code : last.code ≡ s.code

lasts_by : (s : CoreState) (r : Ran) (ended : Bool) → IsLawful s → Lasts s r.last → Lasts s (cond ended (record { last = s; order = [] }) r).last
lasts_by s r true l rest = record { lawful = l; turns = refl; code = refl }
lasts_by s r false l rest = rest

module _ (schedule : ℕ → ℕ) where
  lasts : (n at : ℕ) (s : CoreState) → IsLawful s → Lasts s (run_from schedule at n s).last
  unfolding run_from
  lasts zero at s l = record { lawful = l; turns = refl; code = refl }
  lasts (suc n) at s l =
      let w = schedule at in
      let rest = lasts n (at + 1) (core_after s w) (lawful_after s w l) in
      lasts_by s (after_event (mark_of (event_of s w).told) (run_from schedule (at + 1) n (core_after s w))) (all_ended s) l (record { lawful = rest.lawful; turns = rest.turns; code = rest.code })

-- ---- its end

too_few : (most turns steps executed : ℕ) → 0 < most → (turns + 1) * most ≤ steps → executed ≤ turns → steps / most ≤ executed → ⊥
too_few most turns steps executed some many within few =
    let below : steps < (turns + 1) * most = (div-lt_iff_lt-mul some).0 (omega (arith, within, few)) in
    omega (arith, below, many)

by_pace : (l : Layout) (turns steps : ℕ) (last : CoreState) → 0 < most_steps_of l → (turns + 1) * most_steps_of l ≤ steps → executed_by last 0 ≤ turns → KeepsPace l steps last → has_end last 0 ≡ true
by_pace l turns steps last some many within (inl ended) = ended
by_pace l turns steps last some many within (inr few) = absurd (too_few (most_steps_of l) turns steps (executed_by last 0) some many within few)

pub lone_runs_end : LoneMutatorsGoOn → LoneRunsEnd
lone_runs_end go_on section items turns config schedule steps program size turns_fit none alone many =
    let first = opening_core (section ∷ []) turns config in
    let last = (run_from schedule 0 steps first).last in
    let kept = lasts schedule steps 0 first (lawful_opening (section ∷ []) items turns config program size turns_fit (omega (arith, none))) in
    let steady = kept.lawful.steady in
    let one = ap (λ (code : List (List Instr)). length code) kept.code in
    let is = steady.sections in
    let own = steady.on_task 0 (omega (arith, one, is)) in
    let bound = costs_lt_most config.limit (limit_fits config size).0 in
    let most = most_le_most_of (layout_by config) in
    let within = own.within in
    let same = kept.turns in
    by_pace (layout_by config) turns steps last (omega (arith, bound, most)) many (omega (arith, within, same)) (go_on section items turns config schedule steps program size turns_fit none alone)
