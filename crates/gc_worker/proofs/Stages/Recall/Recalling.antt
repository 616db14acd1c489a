-- A mutator that begins to run reads which checkpoint is in progress: this teaches it nothing of the epoch, and then it goes on.
use Rattle.std.proofs.Common.{◌≡◌, ℕ, ◌≤◌, ◌==◌, Bool, true, false, cond, Option, Some, None, refl, sym, ap, ◌∙◌, arith}
use Rattle.std.specs.Prelude.{⊤}
use Rattle.plain_state.specs.State.{Plain}
use Rattle.atom_store.specs.declared.reply.Reply.{Reply}
use Rattle.atom_store.specs.declared.reply.Reply.TheVariants.{Value}
use Rattle.atom_store.specs.declared.step.Step.TheVariants.{Load}
use Rattle.gate_core.specs.declared.recall.recalled.Recalled.{Recalled}
use Rattle.gate_core.specs.declared.recall.recall_stage.RecallStage.{RecallStage}
use Rattle.gate_core.specs.declared.recall.recall_stage.RecallStage.TheVariants as recall_stage
use Rattle.gate_core.specs.Recall.{Recalling, next_stage, number_in, read_done, read_snap, running_of, told_at, taken}
use Rattle.gate_core.specs.Soundness.{IsRecallGoing, IsSoundRecalling}
use Rattle.gate_core.proofs.Recalling.{recall_stays_sound}
use Rattle.space_map.specs.Spaces.{Layout}
use Rattle.space_map.specs.Table.{Row, SnapNumber, LastSaved, IsRow, place_of}
use Rattle.heap_state.specs.Configuration.{Configuration, Stands}
use Rattle.gc_worker.specs.declared.stage.after.After.{After}
use Rattle.gc_worker.specs.declared.stage.Stage.TheVariants.{Recalls}
use Rattle.gc_worker.specs.Steps.Goes.{Is, StepsSo}
use Rattle.gc_worker.specs.Steps.Turned.{recalled, turned_recall}
use Rattle.gc_worker.specs.Workers.Fits.{AreNumbers, Fits, FitsRecall}
use Rattle.gc_worker.specs.Steps.Wanted.{wanted}
use Rattle.gc_worker.specs.Workers.Held.{Held, at_stage}
use Rattle.gc_worker.specs.Workers.Knows.{knows}
use Rattle.gc_worker.proofs.Stages.Gate.GateWords.{wants}
use Rattle.gc_worker.proofs.Words.RowSteps.{TeachesNothing, loads, untaught}
use Rattle.gc_worker.proofs.Workers.ResumedMutators.{goes_on_fits, goes_on_known}

-- the checkpoint in progress is the last one begun, or none
abbrev IsRecalled : RecallStage → Type 0
IsRecalled (recall_stage.Ended result) = result.running ≤ result.number
IsRecalled stage = ⊤

is_running : (number done : ℕ) → running_of number done ≤ number
is_running number done = by_test (done == number)
  where
    by_test : (b : Bool) → cond b 0 number ≤ number
    by_test true = omega arith
    by_test false = omega arith

recalled_by_snap : (o : Option ℕ) → IsRecalled (read_snap o)
recalled_by_snap (Some number) = tt
recalled_by_snap None = tt

recalled_by_done : (number : ℕ) (o : Option ℕ) → IsRecalled (read_done number o)
recalled_by_done number (Some done) = is_running number done
recalled_by_done number None = tt

recalled_next : (stage : RecallStage) (reply : Reply) → IsRecallGoing stage → IsRecalled (next_stage stage reply)
recalled_next recall_stage.LoadsSnap (Value word) going = recalled_by_snap (number_in word)
recalled_next (recall_stage.LoadsDone number) (Value word) going = recalled_by_done number (number_in word)
recalled_next (recall_stage.Ended result) reply going = absurd going
recalled_next _ _ going = tt

module _ (c : Configuration) (p : Plain) (s : Stands c p) (k : ℕ) (y : Held) (after : After) where
  abbrev at : Recalling → Held
  at r = at_stage y (Recalls r after)

  module _ (r : Recalling) (is : Is c k (at r)) where
    abbrev own : FitsRecall (at r) r
    own = is.fits.stage

    abbrev next : RecallStage → Held
    next stage = turned_recall (at r) (record r { stage = stage }) after (told_at stage)

    abbrev Sound : RecallStage → Type 0
    Sound stage = IsSoundRecalling (record r { stage = stage })

    known_next : (stage : RecallStage) → knows (at r) ≡ knows (next stage)
    known_next recall_stage.LoadsSnap = refl
    known_next (recall_stage.LoadsDone number) = refl
    known_next (recall_stage.Ended result) = sym (goes_on_known (recalled (at r) result) after)

    -- it is a worker with these numbers
    with_numbers : (result : Recalled) → AreNumbers y.layout.checkpoints result.number result.running → Fits c.pages c.mutators k (recalled (at r) result)
    with_numbers result numbers = record {
      worker = record {
        number = is.fits.number;
        few = is.fits.few;
        pages = is.fits.pages;
        counted = is.fits.counted;
        beside = is.fits.beside;
        epoch = is.fits.epoch;
        numbers = numbers;
        eight = is.fits.eight;
        registers = is.fits.registers;
        few_printed = is.fits.few_printed;
        run = is.fits.run;
      };
      end = is.fits.end;
      side = is.fits.side;
      task = is.fits.task;
      stage = record { room = own.room; layout = own.layout; going = own.going; sound = own.sound };
    }

    fits_next : (stage : RecallStage) → Sound stage → IsRecalled stage → Fits c.pages c.mutators k (next stage)
    fits_next recall_stage.LoadsSnap sound runs = record {
      worker = is.fits.worker;
      end = is.fits.end;
      side = is.fits.side;
      task = is.fits.task;
      stage = record { room = own.room; layout = own.layout; going = tt; sound = sound };
    }
    fits_next (recall_stage.LoadsDone number) sound runs = record {
      worker = is.fits.worker;
      end = is.fits.end;
      side = is.fits.side;
      task = is.fits.task;
      stage = record { room = own.room; layout = own.layout; going = tt; sound = sound };
    }
    fits_next (recall_stage.Ended result) sound runs =
        let number = sound.stage in
        let numbers : AreNumbers y.layout.checkpoints result.number result.running =
        record { snap_fits = number; running_fits = omega (arith, number, runs); none = λ none. absurd (let e = sym own.room ∙ none in cc) } in
        goes_on_fits c.pages c.mutators k (recalled (at r) result) (with_numbers result numbers) is.fits.end is.fits.side after is.fits.task

    untaught_by : (reply : Reply) → TeachesNothing c p s k (at r) reply
    untaught_by reply = record {
      same = known_next (taken r reply).stage;
      silent = refl;
      none = refl;
      takes = tt;
      fits = fits_next (taken r reply).stage (recall_stays_sound r reply own.sound) (recalled_next r.stage reply own.going);
    }

    pages : r.layout.pages ≡ c.pages
    pages = ap (λ (l : Layout). l.pages) own.layout ∙ is.fits.pages

    reads : (row : Row) → IsRow c.pages row → wanted (at r) ≡ Some (Load (place_of r.layout.pages row)) → StepsSo c p s k (at r)
    reads row fits asked =
        wants c p s k (at r) (Load (place_of c.pages row)) (asked ∙ ap (λ (n : ℕ). Some (Load (place_of n row))) pages)
        (loads c p s k (at r) row fits (untaught c p s k (at r) is _ (untaught_by _)))

  by_stage : (r : Recalling) (stage : RecallStage) → Is c k (at (record r { stage = stage })) → StepsSo c p s k (at (record r { stage = stage }))
  by_stage r recall_stage.LoadsSnap is = reads (record r { stage = recall_stage.LoadsSnap }) is SnapNumber tt refl
  by_stage r (recall_stage.LoadsDone number) is = reads (record r { stage = recall_stage.LoadsDone number }) is LastSaved tt refl
  by_stage r (recall_stage.Ended result) is = absurd is.fits.stage.going

  pub recalls : (r : Recalling) → Is c k (at r) → StepsSo c p s k (at r)
  recalls r is = by_stage r r.stage is
