-- A round, at each stage of which the law is shown.
use Rattle.std.proofs.Common.{ℕ}
use Rattle.plain_state.specs.State.{Plain}
use Rattle.page_slots.specs.declared.claim_stage.ClaimStage.{ClaimStage}
use Rattle.page_slots.specs.declared.claim_stage.ClaimStage.TheVariants as claim_stage
use Rattle.page_slots.specs.Claim.{Claiming}
use Rattle.fault_duty.specs.declared.duty_stage.DutyStage.{DutyStage}
use Rattle.fault_duty.specs.declared.duty_stage.DutyStage.TheVariants.{LoadsGate, LoadsTraced, LoadsWanted, LoadsFrontFor, LoadsFront, LoadsPage, Claims, EndGate, EndArea, EndPage, EndFilling, EndAreaAgain, Walks, Traces, Ended}
use Rattle.fault_duty.specs.Duty.{Round}
use Rattle.heap_state.specs.Configuration.{Configuration, Stands}
use Rattle.gc_worker.specs.declared.stage.back.Back.{Back}
use Rattle.gc_worker.specs.declared.stage.Stage.TheVariants.{Serves}
use Rattle.gc_worker.specs.Steps.Goes.{Is, StepsSo}
use Rattle.gc_worker.specs.Workers.Held.{Held, at_stage}
use Rattle.gc_worker.proofs.Stages.Rounds.NextRoundStage.{at}
use Rattle.gc_worker.proofs.Stages.Rounds.Beginning.{loads_gate, loads_traced}
use Rattle.gc_worker.proofs.Stages.Rounds.Wanting.{loads_wanted, loads_front_for}
use Rattle.gc_worker.proofs.Stages.Rounds.Choosing.{loads_front, loads_page}
use Rattle.gc_worker.proofs.Stages.Rounds.Ending.{loads_gate_again, loads_area, loads_filling, exchanges_traced}
use Rattle.gc_worker.proofs.Stages.Rounds.ClaimLooks.{looks_at_announced, looks_at_gate_again}
use Rattle.gc_worker.proofs.Stages.Rounds.Winning.{exchanges_page}
use Rattle.gc_worker.proofs.Stages.Rounds.EndAgain.{loads_area_again}
use Rattle.gc_worker.proofs.Stages.Rounds.EndPages.{loads_page_again}
use Rattle.gc_worker.proofs.Stages.Rounds.Walking.{walks}

module _ (c : Configuration) (p : Plain) (s : Stands c p) (k : ℕ) (y : Held) (d : Round) (back : Back) where
  claims : (q : Claiming) (stage : ClaimStage) → Is c k (at c p s k y d back (Claims (record q { stage = stage })))
      → StepsSo c p s k (at c p s k y d back (Claims (record q { stage = stage })))
  claims q (claim_stage.LooksAtPlace n) is = looks_at_announced c p s k y d back q n is
  claims q claim_stage.LooksAtGate is = looks_at_gate_again c p s k y d back q is
  claims q claim_stage.Exchanges is = exchanges_page c p s k y d back q is
  claims q (claim_stage.Ended result) is = λ r asked. absurd (let none = asked in cc)

  by_stage : (stage : DutyStage) → Is c k (at c p s k y d back stage) → StepsSo c p s k (at c p s k y d back stage)
  by_stage LoadsGate is = loads_gate c p s k y d back is
  by_stage (LoadsTraced hindrance) is = loads_traced c p s k y d back hindrance is
  by_stage (LoadsWanted found page) is = loads_wanted c p s k y d back found page is
  by_stage (LoadsFrontFor found w) is = loads_front_for c p s k y d back found w is
  by_stage (LoadsFront found) is = loads_front c p s k y d back found is
  by_stage (LoadsPage choice page) is = loads_page c p s k y d back choice page is
  by_stage (Claims claim) is = claims claim claim.stage is
  by_stage (EndGate traced) is = loads_gate_again c p s k y d back traced is
  by_stage (EndArea traced) is = loads_area c p s k y d back traced is
  by_stage (EndPage look page) is = loads_page_again c p s k y d back look page is
  by_stage (EndFilling look) is = loads_filling c p s k y d back look is
  by_stage (EndAreaAgain look filling) is = loads_area_again c p s k y d back look filling is
  by_stage (Walks traced walk) is = walks c p s k y d back traced walk is
  by_stage (Traces traced) is = exchanges_traced c p s k y d back traced is
  by_stage (Ended result) is = λ q asked. absurd (let none = asked in cc)

  pub serves : Is c k (at_stage y (Serves d back)) → StepsSo c p s k (at_stage y (Serves d back))
  serves is = by_stage d.stage is
