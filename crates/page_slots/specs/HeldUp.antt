-- What alone holds a claim up, and that nothing holds an opening up.
use Rattle.std.specs.Prelude.{◌≡◌, ℕ, true, false, List, Some, None}
use Rattle.atom_store.specs.declared.reply.Reply.{Reply}
use Rattle.atom_store.specs.declared.reply.Reply.TheVariants.{Value}
use Rattle.atom_store.specs.declared.step.Step.{Step}
use Rattle.atom_store.specs.Step.{reply_of}
use Rattle.space_map.specs.GateWord.{decode_gate}
use Rattle.page_slots.specs.declared.claim_stage.ClaimStage.{ClaimStage}
use Rattle.page_slots.specs.declared.claim_stage.ClaimStage.TheVariants.{LooksAtGate}
use Rattle.page_slots.specs.Claim.{Claiming}
use Rattle.page_slots.specs.Claim as claim
use Rattle.page_slots.specs.Open.{Opening}
use Rattle.page_slots.specs.Open as open_page

-- a gate's word that can't be there; a lost exchange ends the claim
abbrev pub IsClaimHeldUp : ClaimStage → Reply → Type 0
IsClaimHeldUp LooksAtGate (Value word) = decode_gate word ≡ None
IsClaimHeldUp stage reply = ⊥

-- whatever words a step meets, its reply takes the claim on, where what is left falls, or the word is one that can't be there
abbrev pub ClaimsGoOn : Type 0
ClaimsGoOn = (c : Claiming) (step : Step) (met : List ℕ) → claim.wanted c ≡ Some step
    → claim.advances c (reply_of step met) ≡ false → IsClaimHeldUp c.stage (reply_of step met)

-- an opening is always taken on
abbrev pub OpeningsGoOn : Type 0
OpeningsGoOn = (o : Opening) (step : Step) (met : List ℕ) → open_page.wanted o ≡ Some step → open_page.advances o (reply_of step met) ≡ true
