-- What a mutator without company finds in a round, and what a round owes that goes on.
use Rattle.std.proofs.Common.{◌≡◌, ◌≢◌, ℕ, ◌+◌, ◌*◌, ◌<◌, ◌≤◌, true, arith}
use Rattle.atom_store.specs.declared.reply.Reply.{Reply}
use Rattle.atom_store.specs.declared.turn.Turn.TheVariants.{More}
use Rattle.space_map.specs.declared.spaces.TheConstants.{LAST_WORKER}
use Rattle.space_map.specs.declared.page_word.PageWord.TheVariants.{Open}
use Rattle.space_map.specs.PageWord.{age_of}
use Rattle.fault_duty.specs.declared.caller.Caller.TheVariants.{Scans}
use Rattle.fault_duty.specs.declared.duty_stage.DutyStage.{DutyStage}
use Rattle.fault_duty.specs.Duty.{Round, at_stage, taken_at, told_at, left_at, advances_at, to_start}
use Rattle.heap_state.specs.Memory.Era.{Era, Memory}
use Rattle.gc_worker.specs.declared.stage.back.Back.{Back}
use Rattle.gc_worker.specs.declared.stage.back.Back.TheVariants.{ToTarget, ToSnap}
use Rattle.lone_mutator.specs.Bound.{round_cost}
use Rattle.lone_mutator.specs.Potential.{again_left, round_left, round_steps}
use Rattle.lone_mutator.specs.Rounds.{FoundAt, IsUntraced}

-- The round is one of the gate's epoch by a mutator; nobody is behind, scans a page, or announces a place.
pub record RoundIsAlone (E : Era) (m : Memory) (d : Round) : Type 0 where
  pub mutator : (mutators : ℕ) → d.caller ≢ Scans mutators
  pub gate : m.gate.epoch ≡ d.epoch
  pub epoch : E.epoch ≡ d.epoch
  pub behind : m.gate.behind ≡ 0
  pub young : (p : ℕ) → age_of (m.page p) ≤ E.epoch + 1
  pub opened : (p : ℕ) → age_of (m.page p) ≡ E.epoch + 1 → m.page p ≡ Open E.epoch
  pub silent : (k : ℕ) → k ≤ LAST_WORKER → m.announced k ≡ 0
  pub board : E.board ≡ 64 * (2 * d.layout.pages)
  pub start : E.start ≡ to_start d

-- The reply takes the round on to another stage, and what was found is so. As what is left falls, so do the steps that the round pays.
pub record RoundGoes (E : Era) (m : Memory) (d : Round) (stage : DutyStage) (reply : Reply) : Type 0 where
  pub next : DutyStage
  pub same : taken_at d stage reply ≡ at_stage d next
  pub more : told_at next ≡ More
  pub found : FoundAt E m (at_stage d next) next
  pub untraced : (back : Back) → IsUntraced m.traced E.epoch back stage → IsUntraced m.traced E.epoch back next
  pub advances : advances_at stage reply ≡ true
  pub steps : left_at (at_stage d next) next < left_at d stage → round_steps (at_stage d next) next < round_steps d stage

-- in the midst of a round of an epoch that isn't traced, what the tracing costs, and the round after it
pub left_again : (n left due : ℕ) → due ≡ left + round_cost n → (back : Back) → round_left left due back ≡ left + again_left n back
left_again n left due is (ToTarget a) = omega (arith, is)
left_again n left due is ToSnap = omega (arith, is)
left_again n left due is _ = omega arith
