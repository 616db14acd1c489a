-- Checkpoints worked out by hand, with what is printed of them.
use Rattle.std.specs.Prelude.{ℕ, List, [], ◌∷◌, codes, replicate}
use Rattle.plain_state.specs.declared.kind.Kind.{Kind}
use Rattle.plain_state.specs.declared.kind.Kind.TheVariants.{Fields, Raw, Mixed, Weak}
use Rattle.plain_state.specs.declared.value.Value.{Value}
use Rattle.plain_state.specs.declared.value.Value.TheVariants.{Number, Reference}
use Rattle.plain_state.specs.State.{Record, Snapped, none_snapped}
use Rattle.plain_heap.specs.Checkpoints.Checkpoint.{checkpoint_lines}

abbrev to : (mutator serial : ℕ) → Value
to mutator serial = Reference (record { mutator = mutator; serial = serial })

abbrev of_kind : Kind → List Value → Record
of_kind kind values = record { kind = kind; values = values }

-- a record with the number 5, to which the board refers
abbrev pub one_record : Snapped
one_record = record { board = to 0 1 ∷ replicate 15 (Number 0); records = (of_kind Fields (Number 5 ∷ []) ∷ []) ∷ [] }

-- Two mutators, the first with two records, of which the board leads to the second alone. That is a mixed one with one field, and
-- refers to a raw record of the second mutator, to which the board refers too, as it does to a record of no values.
abbrev pub three_of_four : Snapped
three_of_four = record {
  board = to 1 2 ∷ to 0 2 ∷ Number 12 ∷ to 1 1 ∷ replicate 12 (Number 0);
  records =
      (of_kind Fields (to 0 2 ∷ []) ∷ of_kind (Mixed 1) (to 1 2 ∷ Number 7 ∷ Number 8 ∷ []) ∷ [])
      ∷ (of_kind Fields [] ∷ of_kind Raw (Number 9 ∷ Number 10 ∷ []) ∷ [])
      ∷ [];
}

-- a cell, to which the board refers, and the record to which the cell alone refers
abbrev pub one_cell : Snapped
one_cell = record {
  board = to 0 2 ∷ replicate 15 (Number 0);
  records = (of_kind Fields (Number 5 ∷ []) ∷ of_kind Weak (to 0 1 ∷ []) ∷ []) ∷ [];
}

-- what is printed of these, and before the first checkpoint
pub record ArePrinted : Type 0 where
  pub none : checkpoint_lines 0 none_snapped (codes "checkpoint 0\n")
  pub one : checkpoint_lines 1 one_record (codes "checkpoint 1\nboard 0.1 0 0 0 0 0 0 0 0 0 0 0 0 0 0 0\n0.1 fields 1: 5\n")
  pub three : checkpoint_lines 12 three_of_four
      (codes "checkpoint 12\nboard 1.2 0.2 12 1.1 0 0 0 0 0 0 0 0 0 0 0 0\n0.2 mixed 1 3: 1.2 7 8\n1.1 fields 0:\n1.2 raw 2: 9 10\n")
  pub cell : checkpoint_lines 2 one_cell (codes "checkpoint 2\nboard 0.2 0 0 0 0 0 0 0 0 0 0 0 0 0 0 0\n0.2 weak 1: 0.1\n")
