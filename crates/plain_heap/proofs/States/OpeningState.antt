-- The opening state, by the number of mutators.
use Rattle.std.proofs.Common.{◌≡◌, List, [], length, replicate, refl}
use Rattle.std.proofs.lemmas.Simd.{splat_is_map}
use Rattle.plain_state.specs.declared.sizes.TheConstants.{BOARD_WORDS}
use Rattle.plain_state.specs.declared.value.Value.TheVariants.{Number}
use Rattle.plain_state.specs.State.{Record, none_snapped}
use Rattle.mutator_asm.specs.declared.instr.Instr.{Instr}
use Rattle.plain_heap.specs.Order.{opening, fresh}

-- so many mutators before their first instruction, and as many empty lists of records
pub opening-replicate : (code : List (List Instr)) → opening code ≡ record {
  heap = record { records = replicate (length code) []; board = replicate BOARD_WORDS (Number 0); snaps = 0; snapped = none_snapped };
  mutators = replicate (length code) fresh;
}
opening-replicate code =
    rw (← splat_is_map code (length code) fresh refl, ← splat_is_map {Y = List Record} code (length code) [] refl) refl
