-- What a machine does over words: alone, and among others.
use Rattle.std.specs.Prelude.{ℕ, zero, suc, List, [], ◌∷◌, Option, Some, None, slice_set}
use Rattle.atom_store.specs.declared.step.Step.{Step}
use Rattle.atom_store.specs.Machine.{Machine}
use Rattle.atom_store.specs.Step.{reply_of, words_after}

-- the machine after a step, if it wants one, that met these words
abbrev pub after_step : {M R : Type 0} → Machine M R → M → Option Step → List ℕ → M
after_step k m None words = m
after_step k m (Some step) words = k.taken m (reply_of step words)

-- the words after a step, if one is wanted
abbrev pub words_then : Option Step → List ℕ → List ℕ
words_then None words = words
words_then (Some step) words = words_after step words

-- ---- alone

-- a machine, and the words over which it works
pub record Working (M : Type 0) : Type 0 where
  pub machine : M
  pub words : List ℕ

-- after so many steps that nobody else's came between
unfoldable pub alone : {M R : Type 0} → Machine M R → ℕ → Working M → Working M
alone k zero w = w
alone k (suc n) w = alone k n (record {
  machine = after_step k w.machine (k.wanted w.machine) w.words;
  words = words_then (k.wanted w.machine) w.words;
})

-- ---- among others

-- the machine after so many steps, where each meets the words that are `met` then, whoever wrote them
unfoldable pub among : {M R : Type 0} → Machine M R → M → (met : ℕ → List ℕ) → ℕ → M
among k m met zero = m
among k m met (suc n) = after_step k (among k m met n) (k.wanted (among k m met n)) (met n)

-- ---- words

-- the words with these values in these places
abbrev pub with_words : List (ℕ × ℕ) → List ℕ → List ℕ
with_words [] words = words
with_words (entry ∷ entries) words = with_words entries (slice_set words entry.0 entry.1)
