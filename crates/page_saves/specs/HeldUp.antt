-- What alone holds the machines up: nothing does a save, another worker's save a look before a write, and a round a word that can't
-- be there.
use Rattle.std.specs.Prelude.{◌≡◌, ◌≢◌, ℕ, ◌^◌, ◌<◌, ◌≤◌, true, false, List, Some, None}
use Rattle.atom_store.specs.declared.reply.Reply.{Reply}
use Rattle.atom_store.specs.declared.reply.Reply.TheVariants.{Value, Lost}
use Rattle.atom_store.specs.declared.step.Step.{Step}
use Rattle.atom_store.specs.Step.{reply_of}
use Rattle.space_map.specs.declared.save_word.SaveWord.{SaveWord}
use Rattle.space_map.specs.declared.save_word.SaveWord.TheVariants.{Saving}
use Rattle.space_map.specs.GateWord.{decode_gate}
use Rattle.space_map.specs.SaveWord.{decode_save, number_of}
use Rattle.page_saves.specs.declared.guard_stage.GuardStage.{GuardStage}
use Rattle.page_saves.specs.declared.guard_stage.GuardStage.TheVariants as guard_stage
use Rattle.page_saves.specs.declared.save_round_stage.SaveRoundStage.{SaveRoundStage}
use Rattle.page_saves.specs.declared.save_round_stage.SaveRoundStage.TheVariants.{LoadsGate, LoadsSnap, LoadsDone, LoadsGateAgain, LoadsSave}
use Rattle.page_saves.specs.declared.save_stage.SaveStage.TheVariants.{Exchanges}
use Rattle.page_saves.specs.Guard.{Guarding}
use Rattle.page_saves.specs.Guard as guard
use Rattle.page_saves.specs.Save.{PageSaving}
use Rattle.page_saves.specs.Save as save
use Rattle.page_saves.specs.SaveRound.{SavingRound}
use Rattle.page_saves.specs.SaveRound as round

-- a save is always taken on
abbrev pub SavesGoOn : Type 0
SavesGoOn = (s : PageSaving) (step : Step) (met : List ℕ) → save.wanted s ≡ Some step → save.advances s (reply_of step met) ≡ true

-- the word makes a worker's look before a write look again: another worker saves the page for this checkpoint, or the word can't be
-- there, since it says nothing, is of a later checkpoint, or says that this worker saves the page, which only looks at it
pub data MakesLookAgain (number worker word : ℕ) : Type 0 where
  AnotherSaves : (other : ℕ) → other ≢ worker → decode_save word ≡ Some (Saving number other) → MakesLookAgain number worker word
  SaysNothing : decode_save word ≡ None → MakesLookAgain number worker word
  IsOfLater : (says : SaveWord) → decode_save word ≡ Some says → number < number_of says → MakesLookAgain number worker word
  IsOwn : decode_save word ≡ Some (Saving number worker) → MakesLookAgain number worker word

-- such a word, or a lost exchange: another worker saves the page then
abbrev pub IsGuardHeldUp : Guarding → GuardStage → Reply → Type 0
IsGuardHeldUp g guard_stage.Looks (Value word) = MakesLookAgain g.number g.worker word
IsGuardHeldUp g (guard_stage.Saves s) (Lost word) = s.stage ≡ Exchanges
IsGuardHeldUp g stage reply = ⊥

abbrev pub GuardsGoOn : Type 0
GuardsGoOn = (g : Guarding) (step : Step) (met : List ℕ) → guard.wanted g ≡ Some step
    → guard.advances g (reply_of step met) ≡ false → IsGuardHeldUp g g.stage (reply_of step met)

-- a word that can't be there
abbrev pub IsSaveRoundHeldUp : SaveRoundStage → Reply → Type 0
IsSaveRoundHeldUp LoadsGate (Value word) = decode_gate word ≡ None
IsSaveRoundHeldUp LoadsSnap (Value word) = 2 ^ 32 ≤ word
IsSaveRoundHeldUp LoadsDone (Value word) = 2 ^ 32 ≤ word
IsSaveRoundHeldUp LoadsGateAgain (Value word) = decode_gate word ≡ None
IsSaveRoundHeldUp (LoadsSave page busy) (Value word) = decode_save word ≡ None
IsSaveRoundHeldUp stage reply = ⊥

abbrev pub SaveRoundsGoOn : Type 0
SaveRoundsGoOn = (r : SavingRound) (step : Step) (met : List ℕ) → round.wanted r ≡ Some step
    → round.advances r (reply_of step met) ≡ false → IsSaveRoundHeldUp r.stage (reply_of step met)
