-- A claim of a lone mutator finds no place announced, and no other epoch.
use Rattle.std.proofs.Common.{◌≡◌, ℕ, ◌+◌, Bool, true, false, nat_eq, Some, refl, sym, ap, ◌∙◌, arith}
use Rattle.std.specs.Prelude.{is_some}
use Rattle.std.proofs.lemmas.Bool.{eq-eqb}
use Rattle.atom_store.specs.declared.reply.Reply.TheVariants.{Value}
use Rattle.space_map.specs.declared.spaces.TheConstants.{LAST_WORKER}
use Rattle.space_map.specs.GateWord.{decode_gate}
use Rattle.page_slots.specs.declared.claim_stage.ClaimStage.{ClaimStage}
use Rattle.page_slots.specs.declared.claim_stage.ClaimStage.TheVariants.{LooksAtPlace, LooksAtGate, Exchanges}
use Rattle.page_slots.specs.Claim.{Claiming}
use Rattle.page_slots.specs.Claim as claim
use Rattle.fault_duty.specs.declared.duty_stage.DutyStage.TheVariants.{Claims}
use Rattle.fault_duty.specs.Duty
use Rattle.fault_duty.specs.Duty.{Round, at_stage}
use Rattle.heap_state.specs.Memory.Era.{Era, Memory}
use Rattle.lone_mutator.proofs.Stages.Rounds.LoneRounds.{RoundIsAlone, RoundGoes}

module _ (E : Era) (m : Memory) (d : Round) (a : RoundIsAlone E m d) (q : Claiming) (same : q.found ≡ m.page q.page) (own : q.epoch ≡ d.epoch) where
  -- the claim at a stage
  abbrev pub at : ClaimStage → Claiming
  at stage = record q { stage = stage }

  by_last : (k : ℕ) (b : Bool) → nat_eq k LAST_WORKER ≡ b → RoundGoes E m d (Claims (at (LooksAtPlace k))) (Value 0)
  by_last k true test = record { next = Claims (at LooksAtGate); same = rw test refl; more = refl; found = same; untraced = λ back is. is; advances = refl; steps = λ less. omega (arith, less) }
  by_last k false test = record { next = Claims (at (LooksAtPlace (k + 1))); same = rw test refl; more = refl; found = same; untraced = λ back is. is; advances = refl; steps = λ less. omega (arith, less) }

  pub at_place : (k word : ℕ) → word ≡ 0 → RoundGoes E m d (Claims (at (LooksAtPlace k))) (Value word)
  at_place k word none = rw none (by_last k (nat_eq k LAST_WORKER) refl)

  pub at_gate : (word : ℕ) → decode_gate word ≡ Some m.gate → RoundGoes E m d (Claims (at LooksAtGate)) (Value word)
  at_gate word read =
      let test : nat_eq m.gate.epoch q.epoch ≡ true = eq-eqb m.gate.epoch q.epoch (a.gate ∙ sym own) in
      record {
        next = Claims (at Exchanges);
        same = ap (λ o. at_stage d (Duty.claim_went (at (claim.looked_at_gate q.epoch word o)) (claim.told_at (claim.looked_at_gate q.epoch word o)))) read ∙ rw test refl;
        more = refl;
        found = same;
        untraced = λ back is. is;
        advances = ap is_some read;
        steps = λ less. omega (arith, less);
      }
