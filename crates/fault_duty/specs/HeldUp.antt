-- What alone holds a round of the duty up: a word that can't be there. Nothing holds its walk up, and a lost exchange ends it.
use Rattle.std.specs.Prelude.{◌≡◌, ℕ, false, List, Some, None}
use Rattle.atom_store.specs.declared.reply.Reply.{Reply}
use Rattle.atom_store.specs.declared.reply.Reply.TheVariants.{Value}
use Rattle.atom_store.specs.declared.step.Step.{Step}
use Rattle.atom_store.specs.Step.{reply_of}
use Rattle.space_map.specs.AreaWord.{decode_area}
use Rattle.space_map.specs.GateWord.{decode_gate}
use Rattle.space_map.specs.PageWord.{decode_page}
use Rattle.page_slots.specs.HeldUp.{IsClaimHeldUp}
use Rattle.fault_duty.specs.declared.duty_stage.DutyStage.{DutyStage}
use Rattle.fault_duty.specs.declared.duty_stage.DutyStage.TheVariants.{LoadsGate, LoadsWanted, LoadsFrontFor, LoadsFront, LoadsPage, Claims, EndGate, EndArea, EndFilling, EndAreaAgain}
use Rattle.fault_duty.specs.Duty.{Round, wanted, advances}

abbrev pub IsHeldUp : DutyStage → Reply → Type 0
IsHeldUp LoadsGate (Value word) = decode_gate word ≡ None
IsHeldUp (LoadsWanted seen page) (Value word) = decode_page word ≡ None
IsHeldUp (LoadsFrontFor seen w) (Value word) = decode_area word ≡ None
IsHeldUp (LoadsFront seen) (Value word) = decode_area word ≡ None
IsHeldUp (LoadsPage choice page) (Value word) = decode_page word ≡ None
IsHeldUp (Claims c) reply = IsClaimHeldUp c.stage reply
IsHeldUp (EndGate traced) (Value word) = decode_gate word ≡ None
IsHeldUp (EndArea traced) (Value word) = decode_area word ≡ None
IsHeldUp (EndFilling look) (Value word) = decode_page word ≡ None
IsHeldUp (EndAreaAgain look filling) (Value word) = decode_area word ≡ None
IsHeldUp stage reply = ⊥

-- whatever words a step meets, its reply takes the round on, where what is left falls, or the word is one that can't be there
abbrev pub GoesOn : Type 0
GoesOn = (d : Round) (step : Step) (met : List ℕ) → wanted d ≡ Some step
    → advances d (reply_of step met) ≡ false → IsHeldUp d.stage (reply_of step met)
