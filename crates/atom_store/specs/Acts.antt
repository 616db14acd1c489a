-- One step of a machine on words, and what it then tells.
use Rattle.std.specs.Prelude.{◌≡◌, ℕ, List, IsSome}
use Rattle.atom_store.specs.declared.turn.Turn.{Turn}
use Rattle.atom_store.specs.Machine.{Machine}
use Rattle.atom_store.specs.Runs.{after_step, words_then}

-- the machine after its next step, if it wants one, on these words
abbrev pub after_next_step : {M R : Type 0} → Machine M R → M → List ℕ → M
after_next_step k m words = after_step k m (k.wanted m) words

-- the machine makes its next step on these words, which are those then, and tells this
pub record MakesStep {M R : Type 0} (k : Machine M R) (m : M) (words after : List ℕ) (turn : Turn R) : Type 0 where
  pub has_step : IsSome (k.wanted m)
  pub makes : after ≡ words_then (k.wanted m) words
  pub tells : k.told (after_next_step k m words) ≡ turn
