-- What is still to be paid for a checkpoint in progress, by what the words say of checkpoints.
use Rattle.std.specs.Prelude.{ℕ, ◌+◌, ◌*◌, ◌==◌, Bool, true, false, nat_lt, if◌then◌else◌}
use Rattle.space_map.specs.declared.save_word.SaveWord.{SaveWord}
use Rattle.space_map.specs.SaveWord.{number_of}
use Rattle.heap_state.specs.Functions.{sum_below}
use Rattle.heap_state.specs.Saving.Words.{Saves}
use Rattle.lone_mutator.specs.Bound.{save_round_cost}

-- 1 where a page's SAVE is of no checkpoint, or of one before this
abbrev pub is_unsaved : (snap : ℕ) → SaveWord → ℕ
is_unsaved snap word = if nat_lt (number_of word) snap then 1 else 0

-- how many of all pages are not saved, nor new, for the last checkpoint begun
unfoldable pub unsaved : ℕ → Saves → ℕ
unsaved n s = sum_below (2 * n + 1) (λ page. is_unsaved s.snap (s.save page))

-- a save round for each of them, and one more; nothing if no checkpoint is in progress
unfoldable pub saving_left : ℕ → Saves → ℕ
saving_left n s = if s.done == s.snap then 0 else save_round_cost n * (unsaved n s + 1)

-- if checkpoints can be begun
abbrev pub saving_in : (checkpoints : Bool) → ℕ → Saves → ℕ
saving_in true n s = saving_left n s
saving_in false n s = 0
