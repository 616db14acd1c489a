-- What a caller shows.
use Rattle.std.specs.Prelude.{◌≡◌, ℕ, ◌+◌, ◌-◌, ◌^◌, ◌<◌, length, min}
use Rattle.heap_words.specs.Decoded.{NumberWord, PointerWord, decode}
use Rattle.gc_worker.specs.declared.steps.stepped.Stepped.{Stepped}
use Rattle.gc_worker.specs.declared.steps.stepped.Stepped.TheVariants.{Idle}
use Rattle.ael_threads.specs.Seats.{Seated, first_number, plain_after_seen}
use Rattle.ael_threads.specs.declared.mutator.Reg.{Reg}
use Rattle.ael_threads.specs.declared.mutator.Reg.TheVariants.{Number, Pointer}

-- the word is of this number, or of a pointer to this address
abbrev pub IsReg : ℕ → Reg → Type 0
IsReg word (Number n) = decode word ≡ NumberWord n
IsReg word (Pointer address) = decode word ≡ PointerWord address

-- the mutator of the seat's own number is in the plain state after what was seen
abbrev pub IsThere : Seated → Type 0
IsThere s = (first_number s.knows.hands ≡ s.worker.number) × (s.worker.number < length (plain_after_seen s.knows).mutators)

-- a scanner: its seat, and how many steps it has made
pub record SeatedScanner : Type 0 where
  pub seated : Seated
  pub steps : ℕ

abbrev pub seated : SeatedScanner → Seated
seated s = s.seated

-- one more, but for an idle act; at the last value of a u64 it stays
abbrev pub steps_after : ℕ → Stepped → ℕ
steps_after steps Idle = steps
steps_after steps other = min (steps + 1) (2 ^ 64 - 1)
