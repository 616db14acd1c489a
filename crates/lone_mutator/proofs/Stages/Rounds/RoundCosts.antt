-- A round of a lone mutator, at each stage of which what is still to be paid falls.
use Rattle.std.proofs.Common.{◌≡◌, ℕ, ◌+◌, ◌≤◌, Some, refl, sym, ap, ◌∙◌, arith}
use Rattle.plain_state.specs.State.{Plain}
use Rattle.atom_store.specs.declared.step.Step.TheVariants.{Exchange}
use Rattle.space_map.specs.Spaces.{to_space}
use Rattle.space_map.specs.Table.{Traced, place_of}
use Rattle.page_slots.specs.declared.claim_stage.ClaimStage.{ClaimStage}
use Rattle.page_slots.specs.declared.claim_stage.ClaimStage.TheVariants as claim_stage
use Rattle.page_slots.specs.Claim.{Claiming}
use Rattle.fault_duty.specs.declared.duty_stage.DutyStage.{DutyStage}
use Rattle.fault_duty.specs.declared.duty_stage.DutyStage.TheVariants.{LoadsGate, LoadsTraced, LoadsWanted, LoadsFrontFor, LoadsFront, LoadsPage, Claims, EndGate, EndArea, EndPage, EndFilling, EndAreaAgain, Walks, Traces, Ended}
use Rattle.fault_duty.specs.Duty.{Round}
use Rattle.heap_state.specs.Configuration.{Configuration, Stands, table}
use Rattle.heap_state.specs.Memory.Entries.{Entry, TracedIs, with_entry}
use Rattle.heap_state.specs.Memory.Table.{Table}
use Rattle.gc_worker.specs.declared.stage.back.Back.{Back}
use Rattle.gc_worker.specs.declared.stage.Stage.TheVariants.{Serves}
use Rattle.gc_worker.specs.Workers.Held.{Held, at_stage}
use Rattle.gc_worker.specs.Steps.Turned.{back_from}
use Rattle.gc_worker.proofs.Stages.Rounds.NextRoundStage.{at, done, same_pages}
use Rattle.gc_worker.proofs.Stages.Rounds.RoundWords.{traced_now, traced_word}
use Rattle.lone_mutator.specs.Law.{Lowers, IsAlone, StepsLower, saves}
use Rattle.lone_mutator.specs.Potential.{again_left, back_left, due_in, left_in, round_left, size_in}
use Rattle.lone_mutator.proofs.Steps.GoingBack.{past_look, same_back}
use Rattle.lone_mutator.proofs.Steps.ResumedCosts.{GoesAt, goes_back}
use Rattle.lone_mutator.proofs.Stages.Rounds.NextRoundCost.{of_epoch, era_epoch}
use Rattle.lone_mutator.proofs.Stages.Rounds.Loads as loads
use Rattle.lone_mutator.proofs.Stages.Rounds.LoneRounds.{left_again}
use Rattle.lone_mutator.proofs.Stages.Rounds.Walks.{walks}
use Rattle.lone_mutator.proofs.Stages.Rounds.Winning.{exchanges_page}
use Rattle.lone_mutator.proofs.Steps.Owed.{wants, exchanges}
use Rattle.lone_mutator.proofs.Epochs.Cost.{due_traced, due_untraced}

module _ (c : Configuration) (p : Plain) (s : Stands c p) (y : Held) (d : Round) (back : Back) where
  abbrev Owes : DutyStage → Type 0
  Owes z = IsAlone c (at c p s 0 y d back z) → StepsLower c (at c p s 0 y d back z)

  -- ---- TRACED is exchanged, and nothing of the epoch's tracing is to be paid any more

  module _ (traced : ℕ) (a : IsAlone c (at c p s 0 y d back (Traces traced))) where
    abbrev x : Held
    x = at c p s 0 y d back (Traces traced)

    abbrev t : Table
    t = table c

    abbrev entry : Entry
    entry = TracedIs (d.epoch + 1)

    abbrev ended : Held
    ended = done c p s 0 y d back

    same_epoch : d.epoch ≡ y.epoch
    same_epoch = of_epoch c p s y d back (Traces traced) a

    began : y.begun ≤ d.epoch
    began = let b = a.remembers.began (past_look back a.remembers.stands.1) in let e = same_epoch in omega (arith, b, e)

    goes : GoesAt c.pages (saves c) (with_entry entry t) (back_from ended back) (back_left c.pages (size_in t) ended back + again_left c.pages back + due_in c.pages (with_entry entry t))
    goes = goes_back c.pages (saves c) (with_entry entry t) ended a.is.fits.pages began a.remembers.quiet back a.remembers.stands.1 a.is.fits.task

    marked : due_in c.pages (with_entry entry t) ≡ 0
    marked = due_traced c.pages t.gate.epoch (d.epoch + 1) t.weak_turn (t.area (to_space t.gate.epoch)).owed t.page (ap (λ e. e + 1) (sym (era_epoch c p s y d back (Traces traced) a)))

    -- who begins a checkpoint or loads a target makes one more round, which is paid
    paid_again : round_left (left_in c.pages t) (due_in c.pages t) back ≡ left_in c.pages t + again_left c.pages back
    paid_again = left_again c.pages (left_in c.pages t) (due_in c.pages t)
        (due_untraced c.pages t.gate.epoch t.traced t.weak_turn (t.area (to_space t.gate.epoch)).owed t.page a.remembers.stands.0.untraced) back

    lower : Lowers c.pages (saves c) t (with_entry entry t) x (back_from ended back)
    lower = record {
      remembers = goes.remembers;
      falls = (let within = goes.within in let same = same_back c.pages (size_in t) ended x back refl same_epoch in let none = marked in let again = paid_again in omega (arith, within, same, none, again));
    }

    stands : traced_now c ≡ traced
    stands = sym (traced_word c) ∙ sym a.remembers.stands.0.found

    pub marks : StepsLower c x
    marks =
        wants c p s x (Exchange (place_of c.pages Traced) traced (d.epoch + 1))
        (ap (λ n. Some (Exchange (place_of n Traced) traced (d.epoch + 1))) (same_pages c p s 0 y d back (Traces traced) a.is))
        (exchanges c p s x entry traced tt tt stands lower)

  -- ---- all

  claims : (q : Claiming) (stage : ClaimStage) → Owes (Claims (record q { stage = stage }))
  claims q (claim_stage.LooksAtPlace k) a = loads.looks_at_place c p s y d back q k a
  claims q claim_stage.LooksAtGate a = loads.looks_at_gate c p s y d back q a
  claims q claim_stage.Exchanges a = exchanges_page c p s y d back q a
  claims q (claim_stage.Ended result) a = λ r asked. absurd (let none = asked in cc)

  by_stage : (z : DutyStage) → Owes z
  by_stage LoadsGate a = loads.loads_gate c p s y d back a
  by_stage (LoadsTraced hindrance) a = loads.loads_traced c p s y d back hindrance a
  by_stage (LoadsWanted found page) a = loads.loads_wanted c p s y d back found page a
  by_stage (LoadsFrontFor found w) a = loads.loads_front_for c p s y d back found w a
  by_stage (LoadsFront found) a = loads.loads_front c p s y d back found a
  by_stage (LoadsPage choice page) a = loads.loads_page c p s y d back choice page a
  by_stage (Claims claim) a = claims claim claim.stage a
  by_stage (EndGate traced) a = loads.loads_gate_again c p s y d back traced a
  by_stage (EndArea traced) a = loads.loads_area c p s y d back traced a
  by_stage (EndPage look page) a = loads.loads_page_again c p s y d back look page a
  by_stage (EndFilling look) a = loads.loads_filling c p s y d back look a
  by_stage (EndAreaAgain look filling) a = loads.loads_area_again c p s y d back look filling a
  by_stage (Walks traced v) a = walks c p s y d back traced v a
  by_stage (Traces traced) a = marks traced a
  by_stage (Ended result) a = λ q asked. absurd (let none = asked in cc)

  pub serves : IsAlone c (at_stage y (Serves d back)) → StepsLower c (at_stage y (Serves d back))
  serves a = by_stage d.stage a
