-- An allocation that finds no room tells as many pages in use as it has read.
use Rattle.std.proofs.Common.{◌≡◌, ℕ, Bool, true, false, cond, Option, Some, None, refl}
use Rattle.std.specs.Prelude.{⊤}
use Rattle.space_map.specs.declared.area_word.AreaWord.{AreaWord}
use Rattle.space_map.specs.AreaWord.{decode_area}
use Rattle.alloc_end.specs.declared.place_stage.PlaceStage.{PlaceStage}
use Rattle.alloc_end.specs.declared.place_stage.PlaceStage.TheVariants.{LoadsArea, ExchangesArea, StoresHeader, Ended}
use Rattle.alloc_end.specs.Soundness.{IsPlacingGoing}
use Rattle.atom_store.specs.declared.reply.Reply.{Reply}
use Rattle.atom_store.specs.declared.reply.Reply.TheVariants as replies
use Rattle.atom_store.specs.declared.turn.Turn.{Turn}
use Rattle.atom_store.specs.declared.turn.Turn.TheVariants.{More, Finished}
use Rattle.alloc_end.specs.declared.allocated.Allocated.{Allocated}
use Rattle.alloc_end.specs.declared.allocated.Allocated.TheVariants.{Placed, Full}
use Rattle.alloc_end.specs.declared.shortage.Shortage.{Shortage}
use Rattle.alloc_end.specs.Place as place
use Rattle.alloc_end.proofs.NextStages.{may_end}
use Rattle.gc_worker.specs.Laws.Step.{read}
use Rattle.gc_worker.specs.Workers.Knows.{size_at}

-- where it tells that there is no room, in a space of so many pages in use
abbrev pub IsSized : (size : ℕ) → Turn Allocated → Type 0
IsSized size More = ⊤
IsSized size (Finished (Placed at)) = ⊤
IsSized size (Finished (Full s)) = s.size ≡ size

module _ (size : ℕ) (p : place.Placing) where
  abbrev at : PlaceStage → place.Placing
  at stage = record p { stage = stage }

  by_fit : (traced : Bool) (found : ℕ) (area : AreaWord) → found ≡ size → (b : Bool)
      → IsSized size (place.told_at (cond b (ExchangesArea (record { traced = traced; area = area })) (Ended (Full (place.shortage traced found p.header area)))))
  by_fit traced found area is true = tt
  by_fit traced found area is false = is

  by_area : (traced : Bool) (found : ℕ) (o : Option AreaWord) → found ≡ size → IsSized size (place.told_at (place.looked_at_area (at (LoadsArea traced found)) traced found o))
  by_area traced found (Some area) is = by_fit traced found area is (place.fits traced (place.words_for p.header) area)
  by_area traced found None is = tt

  -- a turn that tells none, or one with this size
  by_turn : (turn : Turn Allocated) → ((s : Shortage) → turn ≡ Finished (Full s) → s.size ≡ size) → IsSized size turn
  by_turn (Finished (Full s)) full = full s refl
  by_turn (Finished (Placed at)) full = tt
  by_turn More full = tt

  -- it has read the size before
  pub sized : (stage : PlaceStage) (reply : Reply) → IsPlacingGoing stage → ((found : ℕ) → size_at stage ≡ Some found → found ≡ size) → IsSized size (place.told (place.taken_at (at stage) stage reply))
  sized (LoadsArea traced found) (replies.Value word) going read = by_area traced found (decode_area word) (read found refl)
  sized (LoadsArea traced found) _ going read = tt
  sized StoresHeader replies.Done going read = tt
  sized StoresHeader _ going read = tt
  sized stage reply going read = by_turn (place.told (place.taken_at (at stage) stage reply)) (λ s full. absurd (may_end p stage reply (Full s) going full))
