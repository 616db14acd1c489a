-- Whether a step writes.
use Rattle.std.specs.Prelude.{Bool, true, false, Option, Some}
use Rattle.atom_store.specs.declared.step.Step.{Step}
use Rattle.atom_store.specs.declared.step.Step.TheVariants.{Store, Exchange}

-- a step that may change a word
abbrev pub is_write : Option Step → Bool
is_write (Some (Store place value)) = true
is_write (Some (Exchange place old new)) = true
is_write step = false
