-- Steps that neither answer a task nor flip.
use Rattle.std.specs.Prelude.{◌≡◌, ℕ, ⊤}
use Rattle.std.proofs.Common.{refl}
use Rattle.atom_store.specs.declared.turn.Turn.{Turn}
use Rattle.atom_store.specs.declared.turn.Turn.TheVariants.{Finished}
use Rattle.fault_duty.specs.declared.round_end.RoundEnd.{RoundEnd}
use Rattle.fault_duty.specs.declared.round_end.RoundEnd.TheVariants.{ScanPage}
use Rattle.gc_worker.specs.Steps.Turned.{Told, Silent, Empties, Answers, Marks, told_round}
use Rattle.gc_worker.specs.Workers.Counted.{count_after}

abbrev pub IsQuiet : Told → Type 0
IsQuiet Silent = ⊤
IsQuiet Empties = ⊤
IsQuiet (Answers task outcome) = ⊥
IsQuiet (Marks asked) = ⊥

-- so are those of a round
pub rounds_are_quiet : (t : Turn RoundEnd) → IsQuiet (told_round t)
rounds_are_quiet (Finished (ScanPage _)) = tt
rounds_are_quiet _ = tt

-- nor is an instruction executed
pub quiet_counts : (count : ℕ) (t : Told) → IsQuiet t → count_after count t ≡ count
quiet_counts count Silent quiet = refl
quiet_counts count Empties quiet = refl
quiet_counts count (Answers task outcome) quiet = absurd quiet
quiet_counts count (Marks asked) quiet = absurd quiet
