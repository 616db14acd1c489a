-- What is said of a page, as one checkpoint sees it.
use Rattle.std.specs.Prelude.{◌≡◌, ◌⊎◌, ℕ, ◌==◌, nat_lt, if◌then◌else◌}
use Rattle.space_map.specs.declared.save_word.SaveWord.{SaveWord}
use Rattle.space_map.specs.declared.save_word.SaveWord.TheVariants.{Saving, Saved, New}
use Rattle.space_map.specs.SaveWord.{number_of}
use Rattle.page_saves.specs.declared.save_state.SaveState.{SaveState}
use Rattle.page_saves.specs.declared.save_state.SaveState.TheVariants.{Waits, Copying, Kept, Past}

-- what it is if it speaks of this very checkpoint
abbrev pub state_within : SaveWord → SaveState
state_within (Saving number worker) = Copying
state_within says = Kept

-- which of these it is to the checkpoint of this number: an earlier one's waits, a later one's is past
abbrev pub state_of : SaveWord → (number : ℕ) → SaveState
state_of says number =
    if nat_lt (number_of says) number then Waits else (if number_of says == number then state_within says else Past)

-- it says that the page is saved for this checkpoint, or new since it began
abbrev pub IsKept : SaveWord → (number : ℕ) → Type 0
IsKept says number = (says ≡ Saved number) ⊎ (says ≡ New number)
