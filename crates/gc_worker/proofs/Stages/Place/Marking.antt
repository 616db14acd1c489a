-- If a checkpoint was begun, a page that was claimed and cleared is marked as new before it is opened. To the proofs of the heap it is one
-- that is to be opened.
use Rattle.std.proofs.Common.{◌≡◌, ℕ, ◌*◌, ◌≤◌, true, Some, refl, ap, arith}
use Rattle.plain_state.specs.State.{Plain}
use Rattle.atom_store.specs.declared.step.Step.TheVariants.{Store}
use Rattle.atom_store.specs.declared.reply.Reply.TheVariants.{Done}
use Rattle.record_layout.specs.declared.header.Header.{Header}
use Rattle.space_map.specs.declared.save_word.SaveWord.TheVariants.{New}
use Rattle.space_map.specs.SaveWord.{encode_save}
use Rattle.space_map.specs.Table.{SaveOf}
use Rattle.space_map.specs.WholeTable.{Behind, whole_place_of}
use Rattle.alloc_end.specs.declared.new_pages.NewPages.{NewPages}
use Rattle.alloc_end.specs.declared.place_stage.PlaceStage.{PlaceStage}
use Rattle.alloc_end.specs.declared.place_stage.PlaceStage.TheVariants.{StoresNew}
use Rattle.alloc_end.specs.declared.run.Run.{Run}
use Rattle.alloc_end.specs.Place.{size_of, pages_for, readies, taken, told}
use Rattle.alloc_end.specs.Soundness.{FitsPlaceStage, IsAtPage, IsPlacingGoing}
use Rattle.alloc_end.proofs.NextStages.{readied}
use Rattle.heap_state.specs.Configuration.{Configuration, Stands}
use Rattle.heap_state.specs.Memory.Entries.{SaveIs}
use Rattle.gc_worker.specs.Steps.Goes.{Is, StepsSo}
use Rattle.gc_worker.specs.Workers.Fits.{LeavesShortRun}
use Rattle.gc_worker.specs.Workers.Held.{Held}
use Rattle.gc_worker.specs.Workers.Knows.{knows}
use Rattle.gc_worker.specs.Steps.Turned.{Told, Silent, turned_place, told_place}
use Rattle.gc_worker.proofs.Stages.Gate.GateWords.{wants}
use Rattle.gc_worker.proofs.Stages.Place.Claiming.{placing, at, replace}
use Rattle.gc_worker.proofs.Words.TableRows.{marks_with_room}
use Rattle.gc_worker.proofs.Words.RowSteps.{TeachesNothing, untaught_beside, stores_whole, page_in_era}

module _ (c : Configuration) (p : Plain) (s : Stands c p) (k : ℕ) (y : Held) (run : Run) (header : Header) where
  abbrev here : PlaceStage → Held
  here stage = at c p s k y run header stage

  module _ (new : NewPages) where
    -- ---- the next page is marked, or opened

    module _ (before : PlaceStage) where
      abbrev by : PlaceStage → Held
      by stage = turned_place (here before) (placing c p s k y run header stage) (told (placing c p s k y run header stage))

      abbrev tells : PlaceStage → Told
      tells stage = told_place (here before) (told (placing c p s k y run header stage))

      pub readied_comes : by (readies y.snap new) ≡ here (readies y.snap new)
      readied_comes = readied (λ stage. by stage ≡ here stage) y.snap new (λ none. refl) (λ some. refl)

      pub readied_silent : tells (readies y.snap new) ≡ Silent
      readied_silent = readied (λ stage. tells stage ≡ Silent) y.snap new (λ none. refl) (λ some. refl)

    pub readied_going : IsPlacingGoing (readies y.snap new)
    readied_going = readied IsPlacingGoing y.snap new (λ none. tt) (λ some. tt)

    pub readied_rest : LeavesShortRun run header (readies y.snap new)
    readied_rest = readied (LeavesShortRun run header) y.snap new (λ none. tt) (λ some. tt)

    pub readied_known : knows (here (readies y.snap new)) ≡ knows (here (StoresNew new))
    readied_known = readied (λ stage. knows (here stage) ≡ knows (here (StoresNew new))) y.snap new (λ none. refl) (λ some. refl)

    pub readied_fits : IsAtPage y.layout.pages (pages_for (size_of header)) new → FitsPlaceStage y.layout.pages (pages_for (size_of header)) y.snap run header (readies y.snap new)
    readied_fits at_page = readied (FitsPlaceStage y.layout.pages (pages_for (size_of header)) y.snap run header) y.snap new (λ none. at_page) (λ some. (at_page, some))

    -- ---- the mark

    module _ (is : Is c k (here (StoresNew new))) where
      abbrev x : Held
      x = here (StoresNew new)

      page : new.next ≤ 2 * c.pages
      page = let f = is.fits.stage.sound.stage in let n = is.fits.pages in omega (arith, f, n)

      room : y.layout.checkpoints ≡ true
      room = marks_with_room y.layout y.snap is.fits.stage.sound.room is.fits.stage.sound.stage.1

      abbrev next : PlaceStage
      next = (taken (placing c p s k y run header (StoresNew new)) Done).stage

      opens_next : TeachesNothing c p s k x Done
      opens_next = record {
        same = refl;
        silent = refl;
        none = refl;
        takes = record { pages = is.fits.stage.sound.pages; run = is.fits.stage.sound.run; fields = is.fits.stage.sound.fields; cell = is.fits.stage.sound.cell; epoch = is.fits.stage.sound.epoch; snap = is.fits.stage.sound.snap; room = is.fits.stage.sound.room; stage = is.fits.stage.sound.stage.0 };
        fits = replace c p s k y run header (StoresNew new) next is tt tt is.fits.stage.sound.stage.0;
      }

      pub stores_new : StepsSo c p s k x
      stores_new =
          wants c p s k x (Store (whole_place_of c.pages (Behind (SaveOf new.next))) (encode_save (New y.snap)))
          (ap (λ n. Some (Store (whole_place_of n (Behind (SaveOf new.next))) (encode_save (New y.snap)))) is.fits.pages)
          (stores_whole c p s k x is room (SaveIs new.next (New y.snap)) page
          (untaught_beside c p s k x is (SaveIs new.next (New y.snap)) Done (page_in_era c new.next page, is.fits.stage.sound.snap) opens_next))
