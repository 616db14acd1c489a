-- How many steps the copy of a record has left.
use Rattle.std.specs.Prelude.{ℕ, ◌+◌, ◌-◌, ◌*◌, ◌≡◌, ⊤, Bool, true, false, ◌||◌, None, is_some, if◌then◌else◌}
use Rattle.atom_store.specs.declared.reply.Reply.{Reply}
use Rattle.atom_store.specs.declared.reply.Reply.TheVariants.{Value, Done, Won, Lost}
use Rattle.heap_words.specs.Decoded.{decode}
use Rattle.heap_words.specs.FirstWords.{is_header, is_forward}
use Rattle.space_map.specs.AreaWord.{decode_area}
use Rattle.space_map.specs.Spaces.{first_word}
use Rattle.forwarding.specs.declared.evac_stage.EvacStage.{EvacStage}
use Rattle.forwarding.specs.declared.evac_stage.EvacStage.TheVariants.{LoadsHeader, TakesHeader, LoadsArea, Announces, Reserves, StoresHeader, LoadsWord, StoresWord, StoresCross, StoresForward, LoadsWeak, StoresLink, TakesWeak, Clears, Ended}
use Rattle.forwarding.specs.declared.kept_header.KeptHeader.{KeptHeader}
use Rattle.forwarding.specs.Evacuation.{Evacuation, is_cell, size_of}

-- a longest record has 4096 words, and each takes at most three steps: two to be copied, one for a page that begins there
abbrev pub steps_of_longest : ℕ
steps_of_longest = 3 * 4096 + 1

-- the copy of a cell, which has three words alone, is linked in three steps more
abbrev pub steps_to_link : KeptHeader → ℕ
steps_to_link kept = if is_cell kept then 3 else 0

-- at most so many steps are left, where no exchange is lost and nobody else copies the record
abbrev pub left_at : EvacStage → ℕ
left_at LoadsHeader = steps_of_longest + 5
left_at (TakesHeader kept) = steps_of_longest + 4
left_at (LoadsArea kept) = steps_of_longest + 3
left_at (Announces kept area) = steps_of_longest + 2
left_at (Reserves kept area) = steps_of_longest + 1
left_at (StoresHeader r) = 3 * size_of r.kept + steps_to_link r.kept + 1
left_at (LoadsWord r i) = 2 * (size_of r.kept - i) + size_of r.kept + steps_to_link r.kept + 2
left_at (StoresWord r w) = 2 * (size_of r.kept - w.number) + size_of r.kept + steps_to_link r.kept + 1
left_at (StoresCross r page) = (r.to + size_of r.kept - first_word page) + steps_to_link r.kept + 2
left_at (StoresForward r) = steps_to_link r.kept + 2
left_at (LoadsWeak to) = 4
left_at (StoresLink to head) = 3
left_at (TakesWeak to head) = 2
left_at (Clears to) = 1
left_at (Ended to) = 0

abbrev pub left : Evacuation → ℕ
left v = left_at v.stage

-- The reply takes the machine on, or to its end. Else an exchange was lost, another worker has taken the record, or the word is one
-- that can't be there.
abbrev pub advances : EvacStage → Reply → Bool
advances LoadsHeader (Value w) = is_header (decode w) || is_forward (decode w)
advances (TakesHeader kept) Won = true
advances (LoadsArea kept) (Value w) = is_some (decode_area w)
advances (Announces kept area) Done = true
advances (Reserves kept area) Won = true
advances (StoresHeader r) Done = true
advances (LoadsWord r i) (Value w) = true
advances (StoresWord r w) Done = true
advances (StoresCross r page) Done = true
advances (StoresForward r) Done = true
advances (LoadsWeak to) (Value w) = true
advances (StoresLink to head) Done = true
advances (TakesWeak to head) Won = true
advances (Clears to) Done = true
advances _ _ = false

-- What alone holds the machine up: a lost exchange, the word of another worker that copies the record, or a word that can't be
-- there.
abbrev pub IsHeldUp : EvacStage → Reply → Type 0
IsHeldUp LoadsHeader (Value w) = (is_header (decode w) ≡ false) × (is_forward (decode w) ≡ false)
IsHeldUp (TakesHeader kept) (Lost w) = ⊤
IsHeldUp (LoadsArea kept) (Value w) = decode_area w ≡ None
IsHeldUp (Reserves kept area) (Lost w) = ⊤
IsHeldUp (TakesWeak to head) (Lost w) = ⊤
IsHeldUp _ _ = ⊥
