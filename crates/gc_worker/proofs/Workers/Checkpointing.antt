-- A worker begins a round for the checkpoint in progress.
use Rattle.std.proofs.Common.{◌≡◌, ℕ, ◌+◌, ◌^◌, ◌<◌, ◌≤◌, Bool, true, false, None, is_some, nat_lt, refl, arith}
use Rattle.std.specs.Prelude.{◌&&◌}
use Rattle.space_map.specs.declared.spaces.TheConstants.{LAST_WORKER}
use Rattle.page_saves.specs.SaveRound as save_round
use Rattle.page_saves.specs.SoundRound.{IsSoundSaveRound}
use Rattle.gc_worker.specs.declared.stage.goal.Goal.TheVariants.{ForFlip, ForSnap, ForScanner}
use Rattle.gc_worker.specs.Workers.Fits.{Fits, IsMaking, IsSnapping}
use Rattle.gc_worker.specs.Workers.Held.{Held, at_stage, may_snap}
use Rattle.gc_worker.specs.Steps.Turned.{checkpoints}
use Rattle.gc_worker.proofs.Workers.KeptParts.{refit, page_count}

first_by : (a b : Bool) → (a && b) ≡ true → a ≡ true
first_by true b both = refl
first_by false b both = absurd (cc)

-- a checkpoint can be begun only where checkpoints are
pub has_room : (x : Held) → may_snap x ≡ true → x.layout.checkpoints ≡ true
has_room x may = first_by x.layout.checkpoints (nat_lt (x.snap + 1) (2 ^ 32)) may

module _ (n mutators k : ℕ) (x : Held) (f : Fits n mutators k x) (unended : is_some x.account.end ≡ false) (room : x.layout.checkpoints ≡ true) where
  few : x.number ≤ LAST_WORKER
  few = let a = f.few in let b = f.number in omega (arith, a, b)

  by_mutator : IsSoundSaveRound (save_round.begun_by_mutator x.layout x.epoch x.number)
  by_mutator = record { pages = page_count n mutators k x f; room = room; epoch = f.epoch; number = omega arith; worker = few; stage = tt }

  by_scanner : IsSoundSaveRound (save_round.begun_by_scanner x.layout x.mutators x.number)
  by_scanner = record { pages = page_count n mutators k x f; room = room; epoch = omega arith; number = omega arith; worker = few; stage = tt }

  -- that of a mutator before it asks for a flip
  pub round_for_flip : nat_lt x.number x.mutators ≡ true → IsMaking x.account x.registers x.task → x.epoch + 1 < 2 ^ 32 → Fits n mutators k (at_stage x (checkpoints x ForFlip))
  round_for_flip mutator making short = refit n mutators k x f (checkpoints x ForFlip) unended mutator making
      (record { room = room; layout = refl; worker = refl; caller = (record { caller = refl; epoch = refl; number = tt }, short); going = tt; sound = by_mutator })

  -- or for a checkpoint
  pub round_for_snap : nat_lt x.number x.mutators ≡ true → IsSnapping x.account x.registers x.task → may_snap x ≡ true → Fits n mutators k (at_stage x (checkpoints x ForSnap))
  round_for_snap mutator snapping may = refit n mutators k x f (checkpoints x ForSnap) unended mutator snapping
      (record { room = room; layout = refl; worker = refl; caller = (record { caller = refl; epoch = refl; number = tt }, may); going = tt; sound = by_mutator })

  -- and that of a scanner
  pub round_of_scanner : nat_lt x.number x.mutators ≡ false → x.task ≡ None → x.run ≡ None → Fits n mutators k (at_stage x (checkpoints x ForScanner))
  round_of_scanner scanner none no_run = refit n mutators k x f (checkpoints x ForScanner) unended scanner none
      (record { room = room; layout = refl; worker = refl; caller = record { caller = refl; no_run = no_run }; going = tt; sound = by_scanner })
