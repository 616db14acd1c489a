-- The schedulers as their proofs see them, and the workers that each has still to name.
use Rattle.std.specs.Prelude.{ℕ, ◌+◌, ◌%◌, List, [], ◌∷◌, zero, suc}
use Rattle.ael_jobs.specs.Runs.Schedule.{drawn, repeated}

-- workers in turn: the next of them, and how many there are
pub record Turn : Type 0 where
  pub next : ℕ
  pub workers : ℕ

-- the next of them comes first
abbrev pub in_turn_from : Turn → ℕ → ℕ
in_turn_from turn at = (turn.next + at) % turn.workers

-- listed workers: those still to come of this round, and those of every later one
pub record ListedRound : Type 0 where
  pub rest : List ℕ
  pub steps : List ℕ

-- the workers of a list, and then those of a list that is repeated for ever
abbrev pub then_repeated : List ℕ → List ℕ → ℕ → ℕ
then_repeated [] steps at = repeated steps at
then_repeated (worker ∷ rest) steps zero = worker
then_repeated (worker ∷ rest) steps (suc at) = then_repeated rest steps at

-- the rest of the round comes first
abbrev pub listed_from : ListedRound → ℕ → ℕ
listed_from round at = then_repeated round.rest round.steps at

-- workers by a seed: the generator's state, and how many there are
pub record Draw : Type 0 where
  pub state : ℕ
  pub workers : ℕ

-- the word that the state gives comes first
abbrev pub drawn_from : Draw → ℕ → ℕ
drawn_from draw at = drawn draw.state draw.workers at
