-- The look before a write, and the save of its page: they teach a mutator nothing, and then it writes.
use Rattle.std.proofs.Common.{◌≡◌, ℕ, Some, refl, sym, ap, ◌∙◌, arith}
use Rattle.plain_state.specs.State.{Plain}
use Rattle.atom_store.specs.declared.reply.Reply.{Reply}
use Rattle.atom_store.specs.declared.step.Step.TheVariants.{Load}
use Rattle.space_map.specs.Spaces.{Layout}
use Rattle.space_map.specs.Table.{SaveOf}
use Rattle.space_map.specs.WholeTable.{Behind, whole_place_of}
use Rattle.heap_state.specs.Configuration.{Configuration, Stands}
use Rattle.page_saves.specs.declared.guard_stage.GuardStage.{GuardStage}
use Rattle.page_saves.specs.declared.guard_stage.GuardStage.TheVariants as guard_stage
use Rattle.page_saves.specs.Guard.{Guarding, told_at, taken}
use Rattle.page_saves.specs.SoundGuard.{IsGuardGoing, IsSoundGuard}
use Rattle.page_saves.proofs.Staying.{guard_stays}
use Rattle.gc_worker.specs.declared.stage.write.Write.{Write}
use Rattle.gc_worker.specs.declared.stage.write.Write.TheVariants.{OfAccess, OfPlace}
use Rattle.gc_worker.specs.declared.stage.Stage.TheVariants.{Guards, Places}
use Rattle.gc_worker.specs.Steps.Goes.{Is, StepsSo}
use Rattle.gc_worker.specs.Steps.Turned.{turned_guard, writes}
use Rattle.gc_worker.specs.Workers.Fits.{Fits, FitsGuard, FitsWrite}
use Rattle.gc_worker.specs.Workers.Held.{Held, at_stage}
use Rattle.gc_worker.specs.Workers.Knows.{knows}
use Rattle.gc_worker.proofs.Stages.Gate.GateWords.{wants}
use Rattle.gc_worker.proofs.Workers.Guarded.{guard_known, page_written, place_at, write_at}
use Rattle.gc_worker.proofs.Stages.Saves.SaveStages.{saves}
use Rattle.gc_worker.proofs.Words.RowSteps.{TeachesNothing, untaught, loads_whole}

module _ (c : Configuration) (p : Plain) (s : Stands c p) (k : ℕ) (y : Held) (write : Write) where
  abbrev at : Guarding → Held
  at g = at_stage y (Guards g write)

  -- the page is that of the write
  on_page : (x : Held) (write : Write) (page : ℕ) → FitsWrite x write page → page_written write ≡ Some page
  on_page x (OfAccess a) page fits = fits.1
  on_page x (OfPlace z) page fits = fits.1

  -- then it writes
  writes_fit : (write : Write) (g : Guarding) → Fits c.pages c.mutators k (at_stage y (Guards g write)) → Fits c.pages c.mutators k (at_stage y (writes write))
  writes_fit (OfAccess a) g f = record { worker = f.worker; end = f.end; side = f.side; task = f.task; stage = f.stage.write.0 }
  writes_fit (OfPlace z) g f = record { worker = f.worker; end = f.end; side = f.side; task = f.task; stage = place_at y (Guards g (OfPlace z)) (Places z) z f.stage.write.0 }

  module _ (g : Guarding) (is : Is c k (at g)) where
    abbrev own : FitsGuard (at g) g write
    own = is.fits.stage

    on : page_written write ≡ Some g.page
    on = on_page (at g) write g.page own.write

    known : knows (at g) ≡ knows (at_stage y (writes write))
    known = guard_known y write g.page on g

    abbrev next : GuardStage → Held
    next stage = turned_guard (at g) (record g { stage = stage }) write (told_at stage)

    abbrev Sound : GuardStage → Type 0
    Sound stage = IsSoundGuard (record g { stage = stage })

    -- at each stage
    known_next : (stage : GuardStage) → knows (at g) ≡ knows (next stage)
    known_next guard_stage.Looks = known ∙ sym (guard_known y write g.page on (record g { stage = guard_stage.Looks }))
    known_next (guard_stage.Saves z) = known ∙ sym (guard_known y write g.page on (record g { stage = guard_stage.Saves z }))
    known_next (guard_stage.Ended result) = known

    guards_fit : (stage : GuardStage) → IsGuardGoing stage → Sound stage → Fits c.pages c.mutators k (at (record g { stage = stage }))
    guards_fit stage going sound = record {
      worker = is.fits.worker;
      end = is.fits.end;
      side = is.fits.side;
      task = is.fits.task;
      stage = record {
        room = own.room;
        layout = own.layout;
        worker = own.worker;
        number = own.number;
        runs = own.runs;
        going = going;
        sound = sound;
        write = write_at y (Guards g write) (Guards (record g { stage = stage }) write) write g.page own.write;
      };
    }

    fits_next : (stage : GuardStage) → Sound stage → Fits c.pages c.mutators k (next stage)
    fits_next guard_stage.Looks sound = guards_fit guard_stage.Looks tt sound
    fits_next (guard_stage.Saves z) sound = guards_fit (guard_stage.Saves z) tt sound
    fits_next (guard_stage.Ended result) sound = writes_fit write g is.fits

    untaught_by : (reply : Reply) → TeachesNothing c p s k (at g) reply
    untaught_by reply = record {
      same = known_next (taken g reply).stage;
      silent = refl;
      none = refl;
      takes = tt;
      fits = fits_next (taken g reply).stage (guard_stays g reply own.sound);
    }

    pages : g.layout.pages ≡ c.pages
    pages = ap (λ (l : Layout). l.pages) own.layout ∙ is.fits.pages

  by_stage : (g : Guarding) (stage : GuardStage) → Is c k (at (record g { stage = stage })) → StepsSo c p s k (at (record g { stage = stage }))
  by_stage g guard_stage.Looks is =
      let z = record g { stage = guard_stage.Looks } in
      let low = is.fits.stage.sound.page in
      let same = pages z is in
      wants c p s k (at z) (Load (whole_place_of c.pages (Behind (SaveOf g.page)))) (ap (λ (n : ℕ). Some (Load (whole_place_of n (Behind (SaveOf g.page))))) same)
      (loads_whole c p s k (at z) is is.fits.stage.room (Behind (SaveOf g.page)) (omega (arith, low, same)) (untaught c p s k (at z) is _ (untaught_by z is _)))
  by_stage g (guard_stage.Saves z) is =
      let at_save = record g { stage = guard_stage.Saves z } in
      let saving = is.fits.stage.sound.stage in
      saves c p s k (at at_save) is is.fits.stage.room z (saving.in_layout ∙ is.fits.stage.layout) (untaught_by at_save is) saving.sound saving.going refl
  by_stage g (guard_stage.Ended result) is = absurd is.fits.stage.going

  pub guards : (g : Guarding) → Is c k (at g) → StepsSo c p s k (at g)
  guards g is = by_stage g g.stage is
