-- An instruction whose action it is to begin a checkpoint is `snap`.
use Rattle.std.proofs.Common.{◌≡◌, ◌∙◌, ℕ, Bool, true, false, Result, Ok, refl, sym, subst}
use Rattle.std.specs.Result.{IfOk}
use Rattle.std.proofs.lemmas.Result.{IfOk-weaker}
use Rattle.mutator_asm.specs.declared.instr.Instr.{Instr}
use Rattle.mutator_asm.specs.declared.instr.Instr.TheVariants as instrs
use Rattle.plain_state.specs.declared.end.End.{End}
use Rattle.plain_state.specs.State.{Heap, Mutator}
use Rattle.plain_state.specs.Writing.{took}
use Rattle.plain_heap.specs.declared.action.Action.{Action}
use Rattle.plain_heap.specs.declared.action.Action.TheVariants.{Snaps}
use Rattle.plain_heap.specs.Action.{action}
use Rattle.plain_heap.specs.Call.{call, went_on}
pub use Rattle.plain_heap.specs.Checkpoints.LastCheckpoint.{is_snap}
use Rattle.plain_heap.proofs.Calls.ActionsOf.{IsActionOf, is_action_of}

abbrev pub is_snaps : Action → Bool
is_snaps Snaps = true
is_snaps _ = false

-- ---- no other instruction has that action

other_by : (i : Instr) (act : Action) → is_snap i ≡ false → IsActionOf i act → is_snaps act ≡ false
other_by i Snaps other is = absurd (let both : true ≡ false = sym is ∙ other in cc)
other_by i _ other is = refl

pub acts : (m : Mutator) (i : Instr) → is_snap i ≡ false → IfOk (action m i) (λ act. is_snaps act ≡ false)
acts m i other = IfOk-weaker (action m i) (IsActionOf i) (λ act. is_snaps act ≡ false) (λ act is. other_by i act other is) (is_action_of m i)

-- an instruction with another action is another
pub not_snap : (m : Mutator) (i : Instr) (act : Action) → action m i ≡ Ok act → is_snaps act ≡ false → is_snap i ≡ false
unfolding action
not_snap m instrs.Snap act has other = absurd (cc)
not_snap m _ act has other = refl

-- ---- who begins one calls `snap`

pub is_snap_alone : (i : Instr) → is_snap i ≡ true → i ≡ instrs.Snap
is_snap_alone instrs.Snap is = refl
is_snap_alone _ is = absurd (cc)

pub snaps_alone : (m : Mutator) (i : Instr) → action m i ≡ Ok Snaps → i ≡ instrs.Snap
snaps_alone m i snaps = by_test (is_snap i) refl
  where
    by_test : (b : Bool) → is_snap i ≡ b → i ≡ instrs.Snap
    by_test true is = is_snap_alone i is
    by_test false other =
        let never : true ≡ false = subst (λ (o : Result Action End). IfOk o (λ act. is_snaps act ≡ false)) snaps (acts m i other) in
        absurd (cc)

-- its call keeps the board and the records
pub snap_takes : (k : ℕ) (heap : Heap) (q : Mutator) → call k heap q instrs.Snap ≡ Ok (record { heap = took heap; mutator = went_on q })
unfolding call action
snap_takes k heap q = refl

-- whatever its registers hold
pub snap_acts : (m : Mutator) (i : Instr) → i ≡ instrs.Snap → action m i ≡ Ok Snaps
unfolding action
snap_acts m i is = subst (λ (j : Instr). action m j ≡ Ok Snaps) (sym is) refl
