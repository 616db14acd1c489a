-- A step that is a load wins no page.
use Rattle.std.proofs.Common.{◌≡◌, ℕ, true, false, Some, None, refl, sym, ◌∙◌, ap}
use Rattle.atom_store.specs.declared.reply.Reply.{Reply}
use Rattle.atom_store.specs.declared.reply.Reply.TheVariants as replies
use Rattle.atom_store.specs.declared.step.Step.{Step}
use Rattle.atom_store.specs.declared.step.Step.TheVariants.{Exchange, Load, Store}
use Rattle.atom_store.specs.Step.{reply_of}
use Rattle.fault_duty.specs.declared.duty_stage.DutyStage.{DutyStage}
use Rattle.fault_duty.specs.declared.duty_stage.DutyStage.TheVariants as duty_stage
use Rattle.page_slots.specs.declared.claim_stage.ClaimStage.{ClaimStage}
use Rattle.page_slots.specs.declared.claim_stage.ClaimStage.TheVariants as claim_stage
use Rattle.page_slots.specs.Claim.{Claiming}
use Rattle.gc_worker.specs.declared.stage.Stage.{Stage}
use Rattle.gc_worker.specs.declared.stage.Stage.TheVariants.{Serves}
use Rattle.gc_worker.specs.declared.steps.stepped.Stepped.{Stepped}
use Rattle.gc_worker.specs.declared.steps.stepped.Stepped.TheVariants as stepped
use Rattle.gc_worker.specs.Steps.Turned.{won, won_at, won_by, won_in}
use Rattle.gc_worker.specs.Steps.Wanted.{wanted}
use Rattle.ael_threads.specs.Rounds.{is_write}
use Rattle.ael_threads.specs.Seats.{Acts, ActsBy, Seated, with_claim}

won_by_word : (c : Claiming) (stage : ClaimStage) (word : ℕ) → won_by c stage (replies.Value word) ≡ None
won_by_word c claim_stage.Exchanges word = refl
won_by_word c _ word = refl

won_in_word : (stage : DutyStage) (word : ℕ) → won_in stage (replies.Value word) ≡ None
won_in_word (duty_stage.Claims c) word = won_by_word c c.stage word
won_in_word _ word = refl

won_at_word : (stage : Stage) (word : ℕ) → won_at stage (replies.Value word) ≡ None
won_at_word (Serves d back) word = won_in_word d.stage word
won_at_word _ word = refl

-- the pages won stay as they are
kept_by : (b c : Seated) (r : Reply) (s : Stepped) → ActsBy b r s c → is_write (wanted b.worker) ≡ false → c.knows.claims ≡ b.knows.claims
kept_by b c r s h load = let k = h.knows in k.claims ∙ ap (with_claim b.knows.claims) (by_step k.step k.wants k.reply)
  where
    by_step : (step : Step) → wanted b.worker ≡ Some step → r ≡ reply_of step h.knows.before → won b.worker r ≡ None
    by_step (Load place) wants is = ap (won b.worker) is ∙ won_at_word b.worker.stage _
    by_step (Store place value) wants is = absurd (let e : true ≡ false = ap is_write (sym wants) ∙ load in cc)
    by_step (Exchange place old new) wants is = absurd (let e : true ≡ false = ap is_write (sym wants) ∙ load in cc)

pub claims_kept : (b c : Seated) (s : Stepped) → Acts b s c → is_write (wanted b.worker) ≡ false → c.knows.claims ≡ b.knows.claims
claims_kept b c stepped.Idle h load = ap (λ (z : Seated). z.knows.claims) h.0
claims_kept b c stepped.Moved h load = kept_by b c h.0 stepped.Moved h.1 load
claims_kept b c stepped.Traced h load = kept_by b c h.0 stepped.Traced h.1 load
claims_kept b c (stepped.Effect m) h load = kept_by b c h.0 (stepped.Effect m) h.1 load
claims_kept b c (stepped.Flipped n) h load = kept_by b c h.0 (stepped.Flipped n) h.1 load
claims_kept b c (stepped.Ended m end) h load = kept_by b c h.0 (stepped.Ended m end) h.1 load
