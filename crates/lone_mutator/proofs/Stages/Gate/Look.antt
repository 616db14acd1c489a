-- The look that begins an instruction of a lone mutator: nobody requests anything, and its task begins.
use Rattle.std.proofs.Common.{◌≡◌, ℕ, ◌*◌, ◌≤◌, Bool, true, false, cond, Option, Some, None, Result, Ok, Err, nat_lt, refl, sym, ap, subst, arith, ⊎_elim}
use Rattle.std.proofs.lemmas.Bool.{cases_Bool}
use Rattle.plain_state.specs.declared.end.End.{End}
use Rattle.plain_state.specs.declared.kind.Kind.{Kind}
use Rattle.plain_state.specs.State.{Plain}
use Rattle.plain_state.specs.declared.value.Value.{Value}
use Rattle.mutator_asm.specs.declared.instr.Instr.{Instr}
use Rattle.plain_heap.specs.declared.action.Action.{Action}
use Rattle.plain_heap.specs.declared.action.Action.TheVariants.{Sets, Jumps, Links, Prints, Makes, Snaps}
use Rattle.plain_heap.specs.Action.{action}
use Rattle.atom_store.specs.declared.step.Step.TheVariants.{Load}
use Rattle.space_map.specs.declared.gate_word.GateWord.{GateWord}
use Rattle.space_map.specs.Table.{Gate, place_of}
use Rattle.heap_state.specs.Configuration.{Configuration, Stands, table}
use Rattle.gc_worker.specs.declared.stage.after.After.TheVariants as afters
use Rattle.gc_worker.specs.declared.stage.back.Back.TheVariants.{ToSnap}
use Rattle.gate_core.specs.declared.passage.Passage.TheVariants.{Park}
use Rattle.gc_worker.specs.declared.stage.Stage.TheVariants.{Looks}
use Rattle.gc_worker.specs.declared.task.Task.{Task}
use Rattle.gc_worker.specs.declared.task.Task.TheVariants.{Calls, Stops}
use Rattle.gc_worker.specs.Workers.Fits.{FitsCall, IsMaking, MayBegin}
use Rattle.gc_worker.specs.Workers.Held.{Held, at_stage, may_snap}
use Rattle.gc_worker.specs.Plain.Seen.{seen}
use Rattle.gc_worker.specs.declared.calls.did.Did.TheVariants.{Done}
use Rattle.gc_worker.specs.Steps.Stepped.{awaits_at}
use Rattle.gc_worker.specs.Steps.Turned.{Answers, Silent, acted, acts, begins, looked_by, passes, serves_snap, started, told_acted, told_action, told_gate, told_start, went_on}
use Rattle.gc_worker.proofs.Stages.Gate.GateWords.{gate_says}
use Rattle.lone_mutator.specs.Bound.{flip_cost, most_flips}
use Rattle.lone_mutator.specs.Law.{IsAlone, LowersWhereTold, StepsLower, saves}
use Rattle.lone_mutator.specs.Potential.{flip_left, flips_left, size_in}
use Rattle.lone_mutator.proofs.Stages.Gate.LoneGateCounts.{no_request}
use Rattle.lone_mutator.proofs.Epochs.Growths.{flips_cost-le, flips_cost-most, growths-few}
use Rattle.lone_mutator.proofs.Steps.ResumedCosts.{goes_back, goes_placing}
use Rattle.lone_mutator.proofs.Steps.Owed.{loads, wants}

flips_left-le : (n size : ℕ) (x : Held) → flips_left n size x ≤ most_flips
flips_left-le n size x =
    let few = growths-few n size in ⊎_elim
    (λ (e : nat_lt x.begun x.epoch ≡ true). rw e (omega (arith, few)))
    (λ (e : nat_lt x.begun x.epoch ≡ false). rw e (omega (arith, few)))
    (cases_Bool (nat_lt x.begun x.epoch))

flip_left-le : (n size : ℕ) (x : Held) → flip_left n size x ≤ most_flips * flip_cost n
flip_left-le n size x =
    let within = flips_cost-le n (flips_left n size x) most_flips (flips_left-le n size x) in
    let all = flips_cost-most n in
    omega (arith, within, all)

module _ (c : Configuration) (p : Plain) (s : Stands c p) (y : Held) where
  abbrev x : Held
  x = at_stage y Looks

  module _ (a : IsAlone c x) where
    -- ---- an action

    module _ (instr : Instr) (task_is : y.task ≡ Some (Calls instr)) (call : FitsCall y.account y.registers instr) where
      abbrev Acts : Action → Type 0
      Acts act = LowersWhereTold c.pages (saves c) (table c) (table c) x (acts (begins x) act) (told_action x (Calls instr) act)

      makes : (kind : Kind) (d n : ℕ) (v : Value) → action (seen y.account y.registers) instr ≡ Ok (Makes kind d n v) → Acts (Makes kind d n v)
      makes kind d n v is =
          let making : IsMaking y.account y.registers y.task = record { making = record { kind = kind; into = d; len = n }; value = v; executes = record { instr = instr; task_is = task_is; call = call; acts = is } } in
          let goes = goes_placing c.pages (saves c) (table c) (begins x) a.is.fits.pages (omega arith) a.remembers.quiet making in
          let flip = flip_left-le c.pages (size_in (table c)) (begins x) in
          let within = goes.within in
          record { remembers = goes.remembers; falls = omega (arith, within, flip) }

      -- a checkpoint begins by rounds of the duty, or the instruction has no effect
      snaps : action (seen y.account y.registers) instr ≡ Ok Snaps → Acts Snaps
      snaps is = by_room (may_snap x) refl
        where
          by_room : (b : Bool) → may_snap x ≡ b → LowersWhereTold c.pages (saves c) (table c) (table c) x (cond b (at_stage (begins x) (serves_snap (begins x))) (went_on (begins x))) (cond b Silent (Answers (Calls instr) Done))
          by_room true room =
              let goes = goes_back c.pages (saves c) (table c) (begins x) a.is.fits.pages (omega arith) a.remembers.quiet ToSnap tt (record { instr = instr; task_is = task_is; call = call; acts = is }, room) in
              let within = goes.within in
              record { remembers = goes.remembers; falls = omega (arith, within) }
          by_room false room = a.remembers.quiet

      act_by : (act : Action) → action (seen y.account y.registers) instr ≡ Ok act → Acts act
      act_by (Sets d v) is = a.remembers.quiet
      act_by (Jumps target) is = a.remembers.quiet
      act_by (Links d target) is = a.remembers.quiet
      act_by (Prints n) is = a.remembers.quiet
      act_by Snaps is = snaps is
      act_by (Makes kind d n v) is = makes kind d n v is
      act_by _ is = record { remembers = record { began = λ past. omega arith; quiet = a.remembers.quiet; stands = tt }; falls = omega arith }

      acted_by : (r : Result Action End) → action (seen y.account y.registers) instr ≡ r → LowersWhereTold c.pages (saves c) (table c) (table c) x (acted (begins x) r) (told_acted x (Calls instr) r)
      acted_by (Ok act) is = act_by act is
      acted_by (Err why) is = tt

    -- ---- a task

    start_by : (task : Option Task) → y.task ≡ task → awaits_at Looks task ≡ false → MayBegin y.account y.registers task → LowersWhereTold c.pages (saves c) (table c) (table c) x (started x task) (told_start x task)
    start_by None is busy may = absurd (cc)
    start_by (Some (Calls instr)) is busy may = acted_by instr is may (action (seen y.account y.registers) instr) refl
    start_by (Some (Stops end)) is busy may = tt

    -- nobody requests anything
    request_by : (b : Bool) → b ≡ false → LowersWhereTold c.pages (saves c) (table c) (table c) x (started x y.task) (told_start x y.task)
        → LowersWhereTold c.pages (saves c) (table c) (table c) x (cond b (at_stage x (passes x Park afters.Looks)) (started x y.task)) (cond b Silent (told_start x y.task))
    request_by true is starts = absurd (cc)
    request_by false is starts = starts

    pub looks : awaits_at Looks y.task ≡ false → StepsLower c x
    looks busy =
        let Reads : Option GateWord → Type 0 = (λ o. LowersWhereTold c.pages (saves c) (table c) (table c) x (looked_by x o) (told_gate x o)) in
        let starts : Reads (Some (table c).gate) = request_by (table c).gate.request (no_request c p s x a refl) (start_by y.task refl busy a.is.fits.task) in
        wants c p s x (Load (place_of c.pages Gate)) (ap (λ n. Some (Load (place_of n Gate))) a.is.fits.pages)
        (loads c p s x Gate tt (subst Reads (sym (gate_says c p s)) starts))
