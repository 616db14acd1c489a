-- What alone holds an allocation up: a lost exchange, or a word that can't be there.
use Rattle.std.specs.Prelude.{◌≡◌, ℕ, ⊤, false, List, Some, None}
use Rattle.atom_store.specs.declared.reply.Reply.{Reply}
use Rattle.atom_store.specs.declared.reply.Reply.TheVariants.{Value, Lost}
use Rattle.atom_store.specs.declared.step.Step.{Step}
use Rattle.atom_store.specs.Step.{reply_of}
use Rattle.space_map.specs.AreaWord.{decode_area}
use Rattle.alloc_end.specs.declared.place_stage.PlaceStage.{PlaceStage}
use Rattle.alloc_end.specs.declared.place_stage.PlaceStage.TheVariants.{LoadsArea, ExchangesArea}
use Rattle.alloc_end.specs.Place.{Placing, wanted, advances}

abbrev pub IsHeldUp : PlaceStage → Reply → Type 0
IsHeldUp (LoadsArea traced size) (Value word) = decode_area word ≡ None
IsHeldUp (ExchangesArea f) (Lost word) = ⊤
IsHeldUp stage reply = ⊥

-- whatever words a step meets, its reply takes the allocation on, where what is left falls, or is one of those that hold it up
abbrev pub GoesOn : Type 0
GoesOn = (p : Placing) (step : Step) (met : List ℕ) → wanted p ≡ Some step
    → advances p (reply_of step met) ≡ false → IsHeldUp p.stage (reply_of step met)
