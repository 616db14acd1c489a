-- The format of the word that says whether a page was saved for a checkpoint.
use Rattle.std.specs.Prelude.{ℕ, ◌+◌, ◌*◌, ◌/◌, ◌%◌, ◌^◌, ◌<◌, ⊤, Option, Some, None, ◌&&◌, nat_lt, if◌then◌else◌}
use Rattle.std.proofs.Common.{zero, suc}
use Rattle.space_map.specs.declared.save_word.SaveWord.{SaveWord}
use Rattle.space_map.specs.declared.save_word.SaveWord.TheVariants.{Unsaved, Saving, Saved, New}

-- each part is in the range that its bits can say
abbrev pub SaveFits : SaveWord → Type 0
SaveFits Unsaved = ⊤
SaveFits (Saving number worker) = (number < 2 ^ 32) × (worker < 2 ^ 8)
SaveFits (Saved number) = number < 2 ^ 32
SaveFits (New number) = number < 2 ^ 32

-- the word that says this: 2 bits of state, 8 of worker, 6 bits 0, then 32 of the checkpoint's number
unfoldable pub encode_save : SaveWord → ℕ
encode_save Unsaved = 0
encode_save (Saving number worker) = 1 + 4 * worker + 2 ^ 16 * number
encode_save (Saved number) = 2 + 2 ^ 16 * number
encode_save (New number) = 3 + 2 ^ 16 * number

-- what a state, a worker and a number say together: only a page that is being saved has a worker
abbrev pub save_said : (state worker number : ℕ) → Option SaveWord
save_said zero zero zero = Some Unsaved
save_said (suc zero) worker number = Some (Saving number worker)
save_said (suc (suc zero)) zero number = Some (Saved number)
save_said (suc (suc (suc zero))) zero number = Some (New number)
save_said _ _ _ = None

-- what a word says, if it is such a word
unfoldable pub decode_save : ℕ → Option SaveWord
decode_save w =
    if nat_lt (w / 4 % 2 ^ 14) (2 ^ 8) && nat_lt w (2 ^ 48) then save_said (w % 4) (w / 4 % 2 ^ 14) (w / 2 ^ 16) else None

-- the number of the checkpoint that it speaks of, 0 if of none
abbrev pub number_of : SaveWord → ℕ
number_of Unsaved = 0
number_of (Saving number worker) = number
number_of (Saved number) = number
number_of (New number) = number
