-- What a table says to a reader of its last checkpoint.
use Rattle.std.specs.Prelude.{ℕ}
use Rattle.heap_state.specs.Saving.Words.{saves_of}
use Rattle.checkpoint_text.specs.declared.saved_words.SavedWords.{SavedWords}
use Rattle.checkpoint_text.specs.Heap.{saved_word}

-- the heap of the last checkpoint
abbrev pub saved_heap : SavedWords → ℕ → ℕ
saved_heap saved address = saved_word saved.spaces.pages saved.words.now address

-- its number
abbrev pub snap_of : SavedWords → ℕ
snap_of saved = (saves_of saved.spaces.pages saved.words.now).snap
