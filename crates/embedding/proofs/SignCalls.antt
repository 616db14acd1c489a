-- The calls by which a sign is put up.
use Rattle.std.proofs.Common.{◌≡◌, None, ◌∙◌, ap}
use Rattle.plain_state.specs.declared.value.Value.{Value}
use Rattle.plain_state.specs.declared.value.Value.TheVariants.{Number}
use Rattle.plain_state.specs.Writing.{with_board}
use Rattle.ael_threads.specs.Calls.{Halts}
use Rattle.ael_threads.specs.Seats.{Seated}
use Rattle.ael_runtime.specs.Reading.{heap_before, held, root_register, seen_heap}
use Rattle.embedding.specs.declared.signs.TheConstants.{FOUND, SIGN, STOPPED}
use Rattle.embedding.specs.Signs.{HasSignedOff}

-- the number for the sign was set, and shared, and then the mutator has left
pub signed_off : (set shared left : Seated) → held set (root_register FOUND) ≡ Number STOPPED → seen_heap shared ≡ with_board (heap_before shared) SIGN (held set (root_register FOUND))
    → shared.worker.account.end ≡ None → (shared.worker.account.end ≡ None → Halts shared left) → HasSignedOff left
signed_off set shared left value put no_end halts =
    (shared, (record { sign = put ∙ ap (λ (v : Value). with_board (heap_before shared) SIGN v) value; no_end = no_end }, halts no_end))
