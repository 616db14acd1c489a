-- A mutator claims pages for a record: TRACED and the size are read, and the area is exchanged.
use Rattle.std.proofs.Common.{◌≡◌, ℕ, ◌+◌, ◌-◌, ◌*◌, ◌<◌, ◌≤◌, ◌==◌, Bool, true, false, Some, None, [], refl, ap, sym, subst, ◌∙◌, arith}
use Rattle.std.proofs.lemmas.Bool.{eqb-true}
use Rattle.plain_state.specs.State.{Plain}
use Rattle.atom_store.specs.declared.step.Step.TheVariants.{Load, Exchange}
use Rattle.atom_store.specs.declared.reply.Reply.TheVariants.{Value, Won, Lost}
use Rattle.record_layout.specs.declared.header.Header.{Header}
use Rattle.space_map.specs.declared.area_word.AreaWord.{AreaWord}
use Rattle.space_map.specs.AreaWord.{AreaFits, encode_area}
use Rattle.space_map.specs.Spaces.{to_space, space_start}
use Rattle.space_map.specs.Table.{Traced, Area, Size, place_of}
use Rattle.alloc_end.specs.declared.fitting.Fitting.{Fitting}
use Rattle.alloc_end.specs.declared.new_pages.NewPages.{NewPages}
use Rattle.alloc_end.specs.declared.place_stage.PlaceStage.{PlaceStage}
use Rattle.alloc_end.specs.declared.place_stage.PlaceStage.TheVariants.{LoadsTraced, LoadsSize, LoadsArea, ExchangesArea, StoresZero}
use Rattle.alloc_end.specs.declared.run.Run.{Run}
use Rattle.alloc_end.specs.Place.{Placing, size_of, pages_for, words_for, kept_room, area_after, first_claimed}
use Rattle.alloc_end.specs.Soundness.{FitsPlaceStage, AreaHoldsClaim, IsPlacingGoing}
use Rattle.heap_state.specs.Configuration.{Configuration, Stands, table, era, memory, team}
use Rattle.heap_state.specs.Memory.Entries.{AreaIs}
use Rattle.heap_state.specs.Memory.Table.{word_in}
use Rattle.heap_state.specs.Known.{Known, Stock}
use Rattle.heap_laws.specs.Allocation.Stocks.{SeesRoom, owed_beside, lowered, claimed, stocked}
use Rattle.heap_laws.specs.Allocation.Stocks as room_laws
use Rattle.heap_laws.specs.Composing.{unaware}
use Rattle.heap_laws.specs.Steps.{IsAreaNow}
use Rattle.heap_laws.proofs.Allocation.Laws.{room_is_seen, claims_pages}
use Rattle.heap_laws.proofs.Gate.GateReads.{sees_size, sees_traced}
use Rattle.heap_laws.proofs.Steps.Answers.{areas_are_read}
use Rattle.heap_laws.proofs.Steps.Composing.{steps_forget}
use Rattle.heap_laws.proofs.Steps.Forgotten.{traced_is_forgotten}
use Rattle.gc_worker.specs.declared.stage.Stage.TheVariants.{Places}
use Rattle.gc_worker.specs.Workers.Fits.{Fits, LeavesShortRun}
use Rattle.gc_worker.specs.Steps.Goes.{Is, Goes, StepsSo}
use Rattle.gc_worker.specs.Workers.Held.{Held, at_stage, fields_for, target_for}
use Rattle.gc_worker.specs.Workers.Knows.{knows, zeroed_to}
use Rattle.gc_worker.proofs.Words.Areas.{area_now, area_is, is_space}
use Rattle.gc_worker.proofs.Words.Eras.{ends_below, start_is, span_is}
use Rattle.gc_worker.proofs.Workers.KeptParts.{refit}
use Rattle.gc_worker.proofs.Stages.Gate.GateWords.{wants}
use Rattle.gc_worker.proofs.Stages.Rounds.RoundWords.{traced_now, traced_word}
use Rattle.gc_worker.proofs.Words.RowSteps.{Law, becomes, loads, exchanges, nothing, less, prepared}

module _ (c : Configuration) (p : Plain) (s : Stands c p) (k : ℕ) (y : Held) (run : Run) (header : Header) where
  abbrev pub placing : PlaceStage → Placing
  placing stage = record { layout = y.layout; run = run; header = header; fields = fields_for y; epoch = y.epoch; snap = y.snap; target = target_for y; stage = stage }

  abbrev pub at : PlaceStage → Held
  at stage = at_stage y (Places (placing stage))

  -- a mutator that allocates at another stage
  pub replace : (before stage : PlaceStage) → Is c k (at before) → IsPlacingGoing stage → LeavesShortRun run header stage → FitsPlaceStage y.layout.pages (pages_for (size_of header)) y.snap run header stage → Fits c.pages c.mutators k (at stage)
  replace before stage is going rest fits =
      refit c.pages c.mutators k (at before) is.fits (Places (placing stage)) is.fits.end is.fits.side is.fits.task
      (record { layout = refl; epoch = refl; fields = refl; snap = refl; target = refl; going = going; rest = rest; sound = record { pages = is.fits.stage.sound.pages; run = is.fits.stage.sound.run; fields = is.fits.stage.sound.fields; cell = is.fits.stage.sound.cell; epoch = is.fits.stage.sound.epoch; snap = is.fits.stage.sound.snap; room = is.fits.stage.sound.room; stage = fits } })

  -- its epoch is the current one
  pub now : (before : PlaceStage) → Is c k (at before) → y.epoch ≡ (era c).epoch
  now before is =
      let t = (s.invariant.workers k is.below).timely in
      sym (ap (λ (w : Known). w.epoch) is.as_known) ∙ t.running (rw is.as_known refl)

  -- ---- TRACED

  module _ (is : Is c k (at LoadsTraced)) where
    goes : (b : Bool) → (traced_now c == y.epoch + 1) ≡ b → Goes c p s k None (at LoadsTraced) (Value (traced_now c))
    goes b test =
        becomes c p s k (at LoadsTraced) None (Value (traced_now c)) (at (LoadsSize b)) s.ghost (ap (λ (t : Bool). at (LoadsSize t)) test) is.below (learnt b test) refl refl
        (record { pages = is.fits.stage.sound.pages; run = is.fits.stage.sound.run; fields = is.fits.stage.sound.fields; cell = is.fits.stage.sound.cell; epoch = is.fits.stage.sound.epoch; snap = is.fits.stage.sound.snap; room = is.fits.stage.sound.room; stage = tt })
        (replace LoadsTraced (LoadsSize b) is tt tt tt)
      where
        learnt : (b : Bool) → (traced_now c == y.epoch + 1) ≡ b → Law c p s k (at LoadsTraced) None (knows (at (LoadsSize b))) s.ghost
        learnt false test = nothing c p s k (at LoadsTraced) is (knows (at (LoadsSize false))) refl
        learnt true test =
            subst (λ (w : Known). Law c p s k (at LoadsTraced) None (record w { traced_seen = true }) s.ghost) is.as_known
            (sees_traced (era c) (memory c) (team c) s.ghost k (prepared c p s k (at LoadsTraced) is) (rw is.as_known refl)
            (rw is.as_known (traced_word c ∙ eqb-true (traced_now c) (y.epoch + 1) test)))

    pub loads_traced : StepsSo c p s k (at LoadsTraced)
    loads_traced =
        wants c p s k (at LoadsTraced) (Load (place_of c.pages Traced)) (ap (λ n. Some (Load (place_of n Traced))) is.fits.pages)
        (loads c p s k (at LoadsTraced) Traced tt (goes (traced_now c == y.epoch + 1) refl))

  -- ---- the size

  module _ (traced : Bool) (is : Is c k (at (LoadsSize traced))) where
    abbrev size_now : ℕ
    size_now = word_in c.pages c.words (Size (to_space y.epoch))

    few : size_now ≤ y.layout.pages
    few = let n = is.fits.pages in let z = s.formed.sizes (to_space y.epoch) (is_space y.epoch) in omega (arith, n, z)

    -- the epoch's space has so many pages in use
    is_size : (era c).span ≡ 64 * size_now
    is_size = span_is c ∙ ap (λ (e : ℕ). 64 * word_in c.pages c.words (Size (to_space e))) (sym (now (LoadsSize traced) is))

    size_learnt : Law c p s k (at (LoadsSize traced)) None (knows (at (LoadsArea traced size_now))) s.ghost
    size_learnt =
        subst (λ (w : Known). Law c p s k (at (LoadsSize traced)) None (record w { size_seen = Some size_now }) s.ghost) is.as_known
        (sees_size (era c) (memory c) (team c) s.ghost k size_now (prepared c p s k (at (LoadsSize traced)) is) (rw is.as_known refl) is_size)

    found : Goes c p s k None (at (LoadsSize traced)) (Value size_now)
    found =
        becomes c p s k (at (LoadsSize traced)) None (Value size_now) (at (LoadsArea traced size_now)) s.ghost refl is.below
        size_learnt refl refl
        (record { pages = is.fits.stage.sound.pages; run = is.fits.stage.sound.run; fields = is.fits.stage.sound.fields; cell = is.fits.stage.sound.cell; epoch = is.fits.stage.sound.epoch; snap = is.fits.stage.sound.snap; room = is.fits.stage.sound.room; stage = few })
        (replace (LoadsSize traced) (LoadsArea traced size_now) is tt tt few)

    pub loads_size : StepsSo c p s k (at (LoadsSize traced))
    loads_size =
        wants c p s k (at (LoadsSize traced)) (Load (place_of c.pages (Size (to_space y.epoch)))) (ap (λ n. Some (Load (place_of n (Size (to_space y.epoch))))) is.fits.pages)
        (loads c p s k (at (LoadsSize traced)) (Size (to_space y.epoch)) (is_space y.epoch) found)

  -- ---- the area

  module _ (f : Fitting) (is : Is c k (at (ExchangesArea f))) where
    abbrev x : Held
    x = at (ExchangesArea f)

    abbrev room : AreaHoldsClaim y.layout.pages (words_for header) f
    room = is.fits.stage.sound.stage

    abbrev space : ℕ
    space = to_space y.epoch

    abbrev asked : ℕ
    asked = pages_for (size_of header)

    area_fits : AreaFits f.area
    area_fits =
        let n = is.fits.pages in let few = is.fits.counted in
        record { front_fits = omega (arith, room.kept, room.in_space, n, few); low_fits = omega (arith, room.in_space, n, few); owed_fits = room.owed }

    same_space : to_space (era c).epoch ≡ space
    same_space = ap to_space (sym (now (ExchangesArea f) is))

    -- who sees the epoch traced keeps no room
    beside : (traced : Bool) → owed_beside traced f.area ≡ kept_room traced f.area
    beside true = refl
    beside false = refl

    sees : SeesRoom f.traced f.area asked
    sees = let b = beside f.traced in omega (arith, room.kept, b)

    module _ (same : area_now c space ≡ encode_area f.area) where
      is_now : IsAreaNow (era c) (memory c) f.area
      is_now =
          let all = (areas_are_read c p s).now in
          let e : (table c).area (to_space (era c).epoch) ≡ f.area = ap (table c).area same_space ∙ area_is c space f.area area_fits same in
          subst (IsAreaNow (era c) (memory c)) e all

      stock_is : claimed y.epoch (era c).start f.area asked ≡ zeroed_to (placing (ExchangesArea f)) (record { first = first_claimed (placing (ExchangesArea f)) f; next = first_claimed (placing (ExchangesArea f)) f })
      stock_is =
          let start : (era c).start ≡ space_start y.layout.pages space =
          start_is c ∙ (ap (λ (n : ℕ). space_start n (to_space (era c).epoch)) (sym is.fits.pages) ∙ ap (space_start y.layout.pages) same_space) in
          let first : (era c).start + (f.area.low - 64 * asked) ≡ first_claimed (placing (ExchangesArea f)) f = ap (λ (n : ℕ). n + (f.area.low - 64 * asked)) start in
          let end : (era c).start + f.area.low ≡ first_claimed (placing (ExchangesArea f)) f + words_for header = omega (arith, start, room.kept) in
          λ i. record { epoch = y.epoch; at = first i; end = end i; zeroed = first i; opened = first i; ahead = [] }

      area_is_so : lowered f.area asked (owed_beside f.traced f.area) ≡ area_after (words_for header) f
      area_is_so = let b = beside f.traced in λ i. record { front = f.area.front; low = f.area.low - words_for header; owed = b i }

      abbrev new_pages : NewPages
      new_pages = record { first = first_claimed (placing (ExchangesArea f)) f; next = first_claimed (placing (ExchangesArea f)) f }

      abbrev stock : Stock
      stock = claimed y.epoch (era c).start f.area asked

      abbrev word : AreaWord
      word = lowered f.area asked (owed_beside f.traced f.area)

      claims : Law c p s k x (Some (AreaIs (to_space (era c).epoch) word)) (stocked (knows x) stock) s.ghost
      claims =
          let seen : ((team c).worker k).traced_seen ≡ f.traced = ap (λ (v : Known). v.traced_seen) is.as_known in
          let ready = prepared c p s k x is in
          let has = subst (λ (b : Bool). room_laws.HasRoomForPages (era c) (memory c) f.area asked (owed_beside b f.area)) seen
          (room_is_seen (era c) (memory c) (team c) s.ghost k asked f.area ready (subst (λ (b : Bool). SeesRoom b f.area asked) (sym seen) sees)) in
          subst (λ (v : Known). Law c p s k x (Some (AreaIs (to_space (era c).epoch) word)) (stocked v (claimed v.epoch (era c).start f.area asked)) s.ghost) is.as_known
          (claims_pages (era c) (memory c) (team c) s.ghost k asked (owed_beside f.traced f.area) f.area ready (rw is.as_known refl) is_now has)

      stocks : Law c p s k x (Some (AreaIs space (area_after (words_for header) f))) (knows (at (StoresZero new_pages))) s.ghost
      stocks =
          subst (λ (n : ℕ). Law c p s k x (Some (AreaIs n (area_after (words_for header) f))) (knows (at (StoresZero new_pages))) s.ghost) same_space
          (subst (λ (a : AreaWord). Law c p s k x (Some (AreaIs (to_space (era c).epoch) a)) (knows (at (StoresZero new_pages))) s.ghost) area_is_so
          (subst (λ (q : Stock). Law c p s k x (Some (AreaIs (to_space (era c).epoch) word)) (record (knows (at (StoresZero new_pages))) { stock = Some q }) s.ghost) stock_is
          (steps_forget (era c) (memory c) (team c) s.ghost k (Some (AreaIs (to_space (era c).epoch) word)) (stocked (knows x) stock) (unaware (stocked (knows x) stock)) s.ghost claims
          (traced_is_forgotten (stocked (knows x) stock) refl refl))))

      lies : first_claimed (placing (ExchangesArea f)) f + words_for header ≤ 128 * y.layout.pages
      lies =
          let e = ap (λ (q : Stock). q.end) stock_is in
          let b = start_is c in let l = ends_below c.pages (era c).epoch in let n = is.fits.pages in
          omega (arith, e, b, l, n, room.in_space)

      wins : Goes c p s k (Some (AreaIs space (area_after (words_for header) f))) x Won
      wins =
          let some : 0 < words_for header = omega arith in
          let fits : FitsPlaceStage y.layout.pages asked y.snap run header (StoresZero new_pages) = (lies, omega arith, omega (arith, some)) in
          becomes c p s k x (Some (AreaIs space (area_after (words_for header) f))) Won (at (StoresZero new_pages)) s.ghost refl is.below stocks refl refl
          (record { pages = is.fits.stage.sound.pages; run = is.fits.stage.sound.run; fields = is.fits.stage.sound.fields; cell = is.fits.stage.sound.cell; epoch = is.fits.stage.sound.epoch; snap = is.fits.stage.sound.snap; room = is.fits.stage.sound.room; stage = fits })
          (replace (ExchangesArea f) (StoresZero new_pages) is tt tt fits)

    loses : Goes c p s k None x (Lost (area_now c space))
    loses =
        becomes c p s k x None (Lost (area_now c space)) (at LoadsTraced) s.ghost refl is.below
        (less c p s k x is (knows (at LoadsTraced)) (traced_is_forgotten (knows x) refl refl)) refl refl
        (record { pages = is.fits.stage.sound.pages; run = is.fits.stage.sound.run; fields = is.fits.stage.sound.fields; cell = is.fits.stage.sound.cell; epoch = is.fits.stage.sound.epoch; snap = is.fits.stage.sound.snap; room = is.fits.stage.sound.room; stage = tt })
        (replace (ExchangesArea f) LoadsTraced is tt tt tt)

    pub exchanges_area : StepsSo c p s k x
    exchanges_area =
        wants c p s k x (Exchange (place_of c.pages (Area space)) (encode_area f.area) (encode_area (area_after (words_for header) f)))
        (ap (λ n. Some (Exchange (place_of n (Area space)) (encode_area f.area) (encode_area (area_after (words_for header) f)))) is.fits.pages)
        (exchanges c p s k x (AreaIs space (area_after (words_for header) f)) (encode_area f.area) (is_space y.epoch) wins (λ other. loses))
