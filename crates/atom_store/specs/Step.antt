-- What one atomic step does to a list of words, and what it replies.
use Rattle.std.specs.Prelude.{ℕ, ◌<◌, ◌==◌, ⊤, List, length, slice_index, slice_set, Option, Some, None, if◌then◌else◌}
use Rattle.atom_store.specs.declared.step.Step.{Step}
use Rattle.atom_store.specs.declared.step.Step.TheVariants.{Load, Store, Exchange}
use Rattle.atom_store.specs.declared.reply.Reply.{Reply}
use Rattle.atom_store.specs.declared.reply.Reply.TheVariants.{Value, Done, Won, Lost}

-- the place of the word that the step touches
abbrev pub place_in : Step → ℕ
place_in (Load place) = place
place_in (Store place value) = place
place_in (Exchange place old new) = place

-- the words after the step
abbrev pub words_after : Step → List ℕ → List ℕ
words_after (Load place) words = words
words_after (Store place value) words = slice_set words place value
words_after (Exchange place old new) words = if slice_index words place == old then slice_set words place new else words

-- what the step replies
abbrev pub reply_of : Step → List ℕ → Reply
reply_of (Load place) words = Value (slice_index words place)
reply_of (Store place value) words = Done
reply_of (Exchange place old new) words = if slice_index words place == old then Won else Lost (slice_index words place)

-- the word of a step is among these, if there is a step
abbrev pub HasItsWord : List ℕ → Option Step → Type 0
HasItsWord words None = ⊤
HasItsWord words (Some step) = place_in step < length words
