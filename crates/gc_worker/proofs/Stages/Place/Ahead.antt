-- Words are stored behind the run's place, ahead of a record's header: the count of a mixed record's fields; a cell's target, and its link.
use Rattle.std.proofs.Common.{◌≡◌, ℕ, ◌+◌, ◌<◌, ◌≤◌, true, List, [], ◌∷◌, length, Some, refl, ap, sym, subst, ◌∙◌, arith}
use Rattle.heap_words.specs.declared.kind.Kind.{Kind as HeaderKind}
use Rattle.heap_words.specs.declared.kind.Kind.TheVariants.{Mixed, Weak}
use Rattle.heap_words.specs.Word.{number_word}
use Rattle.plain_state.specs.State.{Plain}
use Rattle.atom_store.specs.declared.step.Step.TheVariants.{Store}
use Rattle.atom_store.specs.declared.reply.Reply.TheVariants.{Done}
use Rattle.record_layout.specs.declared.header.Header.{Header}
use Rattle.space_map.specs.Table.{HeapWord, place_of}
use Rattle.alloc_end.specs.declared.place_stage.PlaceStage.{PlaceStage}
use Rattle.alloc_end.specs.declared.place_stage.PlaceStage.TheVariants.{StoresCount, StoresTarget, StoresLink, StoresHeader}
use Rattle.alloc_end.specs.declared.run.Run.{Run}
use Rattle.alloc_end.specs.Place.{size_of}
use Rattle.heap_state.specs.Configuration.{Configuration, Stands, era, memory, team}
use Rattle.heap_state.specs.Memory.Entries.{Entry, WordIs}
use Rattle.heap_state.specs.Known.{Stock, Known, is_running}
use Rattle.heap_laws.specs.Allocation.Records.{stored_ahead}
use Rattle.heap_laws.specs.Allocation.Stocks.{stocked, with_ahead}
use Rattle.heap_laws.proofs.Allocation.Ahead.{stores_ahead}
use Rattle.gc_worker.specs.Steps.Goes.{Is, StepsSo}
use Rattle.gc_worker.specs.Workers.Fits.{Fits, Takes}
use Rattle.gc_worker.specs.Workers.Held.{Held, at_stage, fields_for, target_for}
use Rattle.gc_worker.specs.Workers.Knows.{knows, kind_with, stock_of}
use Rattle.gc_worker.specs.Steps.Turned.{Silent, guards_place, told, turned}
use Rattle.gc_worker.specs.Steps.Wanted.{wanted}
use Rattle.gc_worker.proofs.Stages.Gate.GateWords.{wants}
use Rattle.gc_worker.proofs.Stages.Place.Claiming.{placing, at, replace}
use Rattle.gc_worker.proofs.Workers.Guarded.{guards_place_fits, guards_place_known}
use Rattle.gc_worker.proofs.Words.RowSteps.{Law, becomes, stores, row_fits, prepared}

module _ (c : Configuration) (p : Plain) (s : Stands c p) (k : ℕ) (y : Held) (run : Run) (header : Header) where
  abbrev here : PlaceStage → Held
  here stage = at c p s k y run header stage

  -- the run with these words ahead
  abbrev stock : List ℕ → Stock
  stock ahead = record (stock_of y.epoch run) { ahead = ahead }

  -- ---- a word more is stored behind them

  module _ (before after : PlaceStage) (ahead : List ℕ) (word place : ℕ) (is : Is c k (here before)) where
    abbrev x : Held
    x = here before

    abbrev entry : Entry
    entry = WordIs place word

    -- the worker that it becomes
    abbrev next : Held
    next = at_stage y (guards_place y (placing c p s k y run header after))

    -- the stage has these words ahead, and the next one has that word too; and the run has room for it
    record StoresNext : Type 0 where
      has : (knows x).stock ≡ Some (stock ahead)
      then : stocked (knows x) (with_ahead (stock ahead) word) ≡ knows (here after)
      is_place : run.at + 1 + length ahead ≡ place
      room : place < run.end
      near : length ahead + 1 < 64
      runs : is_running (knows x).post ≡ true
      wants_it : wanted x ≡ Some (Store (place_of y.layout.pages (HeapWord place)) word)
      turns : turned x Done ≡ next
      silent : told x Done ≡ Silent

    module _ (n : StoresNext) where
      law : Law c p s k x (Some entry) (knows (here after)) s.ghost
      law =
          let fits : run.at + 1 + length ahead < run.end = (let e = n.is_place in let r = n.room in omega (arith, e, r)) in
          let stored = stores_ahead (era c) (memory c) (team c) s.ghost k word (stock ahead) (prepared c p s k x is)
          (record { own = record { runs = rw is.as_known n.runs; has = rw is.as_known n.has }; run = (refl, refl); fits = fits; near = n.near }) in
          subst (λ (v : Known). Law c p s k x (Some entry) v s.ghost) n.then
          (subst (λ (a : ℕ). Law c p s k x (Some (WordIs a word)) (stocked (knows x) (with_ahead (stock ahead) word)) s.ghost) n.is_place
          (subst (λ (v : Known). Law c p s k x (Some (WordIs (run.at + 1 + length ahead) word)) (stocked v (with_ahead (stock ahead) word)) s.ghost) is.as_known stored))

      stores_next : Takes x Done → Fits c.pages c.mutators k next → StepsSo c p s k x
      stores_next takes fits =
          wants c p s k x (Store (place_of c.pages (HeapWord place)) word) (n.wants_it ∙ ap (λ (m : ℕ). Some (Store (place_of m (HeapWord place)) word)) is.fits.pages)
          (stores c p s k x entry (row_fits c p s k x entry (knows (here after)) s.ghost is.below law)
          (becomes c p s k x (Some entry) Done next s.ghost n.turns is.below
          (subst (λ (v : Known). Law c p s k x (Some entry) v s.ghost) (sym (guards_place_known y (placing c p s k y run header after))) law) n.silent refl takes fits))

  -- ---- the count of a mixed record's fields

  module _ (is : Is c k (here StoresCount)) where
    pub stores_count : StepsSo c p s k (here StoresCount)
    stores_count =
        let mixed : header.kind ≡ Mixed = is.fits.stage.sound.stage.0 in
        let long : 1 < size_of header = is.fits.stage.sound.stage.1 in
        let room : run.at + size_of header ≤ run.end = is.fits.stage.sound.stage.2 in
        stores_next StoresCount StoresHeader [] (number_word (fields_for y)) (run.at + 1) is
        (record {
          has = refl;
          then = ap (λ (kind : HeaderKind). stocked (knows (here StoresCount)) (stock (stored_ahead (kind_with kind (fields_for y)) (target_for y)))) (sym mixed);
          is_place = omega arith;
          room = omega (arith, long, room);
          near = omega arith;
          runs = refl;
          wants_it = refl;
          turns = refl;
          silent = refl;
        })
        (assumption (is.fits.stage.sound, room))
        (guards_place_fits c.pages c.mutators k y (placing c p s k y run header StoresHeader) (replace c p s k y run header StoresCount StoresHeader is tt is.fits.stage.rest room))

  -- ---- a cell's target, and its link

  module _ (is : Is c k (here StoresTarget)) where
    pub stores_target : StepsSo c p s k (here StoresTarget)
    stores_target =
        let fits = is.fits.stage.sound.stage in
        let long : 2 < size_of header = fits.1 in
        let room : run.at + size_of header ≤ run.end = fits.2 in
        stores_next StoresTarget StoresLink [] (target_for y) (run.at + 1) is
        (record {
          has = refl;
          then = refl;
          is_place = omega arith;
          room = omega (arith, long, room);
          near = omega arith;
          runs = refl;
          wants_it = refl;
          turns = refl;
          silent = refl;
        })
        (assumption (is.fits.stage.sound, fits))
        (guards_place_fits c.pages c.mutators k y (placing c p s k y run header StoresLink) (replace c p s k y run header StoresTarget StoresLink is tt is.fits.stage.rest fits))

  module _ (is : Is c k (here StoresLink)) where
    pub stores_link : StepsSo c p s k (here StoresLink)
    stores_link =
        let weak : header.kind ≡ Weak = is.fits.stage.sound.stage.0 in
        let long : 2 < size_of header = is.fits.stage.sound.stage.1 in
        let room : run.at + size_of header ≤ run.end = is.fits.stage.sound.stage.2 in
        stores_next StoresLink StoresHeader (target_for y ∷ []) 0 (run.at + 2) is
        (record {
          has = refl;
          then = ap (λ (kind : HeaderKind). stocked (knows (here StoresLink)) (stock (stored_ahead (kind_with kind (fields_for y)) (target_for y)))) (sym weak);
          is_place = omega arith;
          room = omega (arith, long, room);
          near = omega arith;
          runs = refl;
          wants_it = refl;
          turns = refl;
          silent = refl;
        })
        (assumption (is.fits.stage.sound, room))
        (guards_place_fits c.pages c.mutators k y (placing c p s k y run header StoresHeader) (replace c p s k y run header StoresLink StoresHeader is tt is.fits.stage.rest room))
