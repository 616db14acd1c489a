-- A machine that names its next step and takes the reply, by what it wants, what a reply makes of it and what it then tells.
use Rattle.std.specs.Prelude.{◌≡◌, ℕ, List, [], ◌∷◌, Option, Some, map}
use Rattle.atom_store.specs.declared.step.Step.{Step}
use Rattle.atom_store.specs.declared.reply.Reply.{Reply}
use Rattle.atom_store.specs.declared.turn.Turn.{Turn}
use Rattle.atom_store.specs.declared.turn.Turn.TheVariants.{Finished}

-- a machine of a kind: M is what it is, and R what it comes to
pub record Machine (M R : Type 0) : Type 0 where
  pub wanted : M → Option Step
  pub taken : M → Reply → M
  pub told : M → Turn R

-- the machine after these replies
abbrev pub after_replies : {M R : Type 0} → Machine M R → M → List Reply → M
after_replies k m [] = m
after_replies k m (reply ∷ replies) = after_replies k (k.taken m reply) replies

-- what it wants before each of these replies
abbrev pub wanted_along : {M R : Type 0} → Machine M R → M → List Reply → List (Option Step)
wanted_along k m [] = []
wanted_along k m (reply ∷ replies) = k.wanted m ∷ wanted_along k (k.taken m reply) replies

abbrev pub replies_in : List (Step × Reply) → List Reply
replies_in [] = []
replies_in (row ∷ rows) = row.1 ∷ replies_in rows

abbrev pub steps_in : List (Step × Reply) → List (Option Step)
steps_in [] = []
steps_in (row ∷ rows) = Some row.0 ∷ steps_in rows

-- where its steps are replied to so, they are these, and it then comes to this result
pub record RunsTo {M R : Type 0} (k : Machine M R) (m : M) (rows : List (Step × Reply)) (result : R) : Type 0 where
  pub steps : wanted_along k m (replies_in rows) ≡ steps_in rows
  pub ends : k.told (after_replies k m (replies_in rows)) ≡ Finished result
