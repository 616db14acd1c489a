-- What can be wrong with a text.
use Rattle.std.specs.Prelude.{ℕ}
use Rattle.mutator_asm.specs.declared.mistake.Mistake.{Mistake}
use Rattle.mutator_asm.specs.declared.mistake.Mistake.TheVariants.{UnknownInstr, BadOperand, UnknownLabel, LabelTwice, NoMutator, TooManyMutators, CodeTooLong, BadSchedule, NumberTooBig}

-- the number by which an error is reported; of several on a line the lowest counts
abbrev pub number_of_mistake : Mistake → ℕ
number_of_mistake UnknownInstr = 1
number_of_mistake BadOperand = 2
number_of_mistake UnknownLabel = 3
number_of_mistake LabelTwice = 4
number_of_mistake NoMutator = 5
number_of_mistake TooManyMutators = 6
number_of_mistake CodeTooLong = 7
number_of_mistake BadSchedule = 8
number_of_mistake NumberTooBig = 9
