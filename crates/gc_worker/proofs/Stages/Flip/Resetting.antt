-- Before a flip: the gate must be still, the size and the words in use are read, and the other space's size and area are stored, and
-- the word that tells which cell was linked last.
use Rattle.std.proofs.Common.{◌≡◌, ℕ, ◌+◌, ◌*◌, ◌^◌, ◌<◌, ◌≤◌, ◌&&◌, Bool, true, false, cond, nat_eq, Option, Some, None, refl, ap, sym, subst, ◌∙◌, arith}
use Rattle.std.proofs.lemmas.Bool.Decides.{nat_tests}
use Rattle.plain_state.specs.State.{Plain}
use Rattle.atom_store.specs.declared.step.Step.TheVariants.{Load, Store}
use Rattle.atom_store.specs.declared.reply.Reply.TheVariants.{Value, Done}
use Rattle.space_map.specs.declared.area_word.AreaWord.{AreaWord}
use Rattle.space_map.specs.declared.gate_word.GateWord.{GateWord}
use Rattle.space_map.specs.AreaWord.{AreaFits, decode_area, encode_area}
use Rattle.space_map.specs.GateWord.{decode_gate}
use Rattle.space_map.specs.Spaces.{to_space}
use Rattle.space_map.specs.Table.{Gate, Area, Size, WeakHead, place_of}
use Rattle.gate_core.specs.declared.flip_stage.FlipStage.{FlipStage}
use Rattle.gate_core.specs.declared.flip_stage.FlipStage.TheVariants.{LoadsGate, LoadsSize, LoadsArea, StoresSize, StoresArea, ResetsWeak, Exchanges, Ended}
use Rattle.gate_core.specs.declared.flipped.Flipped.TheVariants.{NotYet}
use Rattle.gate_core.specs.declared.reset.Reset as resets
use Rattle.gate_core.specs.Flip.{Flipping, is_still, looked, next_size, read_area, used_in, area_reset, told_at}
use Rattle.gate_core.specs.Soundness.{IsFlippingGoing, IsSizeWithin, FitsFlipStage, FitsReset, MayFlip}
use Rattle.heap_state.specs.Configuration.{Configuration, Stands, table, era, memory, team}
use Rattle.heap_state.specs.Memory.Entries.{AreaIs, SizeIs, WeakIs}
use Rattle.heap_state.specs.Memory.Era.{from_space}
use Rattle.heap_state.specs.Known.{Reset, Known}
use Rattle.heap_state.proofs.Puts.{some_same}
use Rattle.heap_laws.specs.Flipping.Reset.{found_still, resetting, whole_area}
use Rattle.heap_laws.specs.Flipping.Sizes.{after_size}
use Rattle.heap_laws.specs.Lifting.{LeavesConfiguration}
use Rattle.heap_laws.proofs.Flipping.Reset as reset_laws
use Rattle.heap_laws.proofs.Gate.GateCounts.{fits}
use Rattle.heap_laws.proofs.Lifting.Laws.{sizes_are_lifted}
use Rattle.heap_laws.proofs.Steps.Answers.{areas_are_read}
use Rattle.gc_worker.specs.declared.stage.Stage.TheVariants.{Flips}
use Rattle.gc_worker.specs.Laws.Growth.{Grows}
use Rattle.gc_worker.specs.Workers.Fits.{Fits}
use Rattle.gc_worker.specs.Steps.Goes.{Is, Goes, StepsSo}
use Rattle.gc_worker.specs.Workers.Held.{Held, at_stage, has_seen_flip}
use Rattle.gc_worker.specs.Workers.Knows.{knows}
use Rattle.gc_worker.specs.Steps.Turned.{Silent, turned_flip, told_flip}
use Rattle.gc_worker.proofs.Words.Areas.{area_now, area_says, is_space}
use Rattle.gc_worker.proofs.Words.Eras.{span_is}
use Rattle.gc_worker.proofs.Words.GrownSizes.{grown_within, next_grows, size_now, size_within}
use Rattle.gc_worker.proofs.Workers.KeptParts.{refit}
use Rattle.gc_worker.proofs.Stages.Gate.GateWords.{wants, gate_now, gate_says}
use Rattle.gc_worker.proofs.Words.RowSteps.{Law, becomes, loads, stores, nothing, prepared}

still_says : (g : GateWord) → is_still g ≡ true → (g.running ≡ 0) × (g.behind ≡ 0)
still_says g is = by_running (nat_eq g.running 0) refl is
  where
    by_running : (b : Bool) → nat_eq g.running 0 ≡ b → b && nat_eq g.behind 0 ≡ true → (g.running ≡ 0) × (g.behind ≡ 0)
    by_running true same e = (grind (arith, nat_tests), grind (arith, nat_tests))
    by_running false same e = cc

-- a heap with c.pages pages, in which a mutator flips
module _ (c : Configuration) (p : Plain) (s : Stands c p) (k : ℕ) (y : Held) (asked : ℕ) where
  abbrev flipping : FlipStage → Flipping
  flipping stage = record { layout = y.layout; epoch = y.epoch; asked = asked; seen = has_seen_flip y; stage = stage }

  abbrev pub at : FlipStage → Held
  at stage = at_stage y (Flips (flipping stage))

  abbrev next : FlipStage → FlipStage → Held
  next before stage = turned_flip (at before) (flipping stage) (told_at stage)

  abbrev FitsAt : FlipStage → Type 0
  FitsAt stage = FitsFlipStage y.layout.pages (has_seen_flip y) stage

  -- a flipper at another stage
  reflip : (before stage : FlipStage) → Is c k (at before) → IsFlippingGoing stage → FitsAt stage → Fits c.pages c.mutators k (at stage)
  reflip before stage is going fits =
      refit c.pages c.mutators k (at before) is.fits (Flips (flipping stage)) is.fits.end is.fits.side is.fits.task
      (record { layout = refl; epoch = refl; seen = refl; going = going; sound = record { pages = is.fits.stage.sound.pages; epoch = is.fits.stage.sound.epoch; stage = fits } })

  -- its epoch is the current one
  pub now : (before : FlipStage) → Is c k (at before) → y.epoch ≡ (era c).epoch
  now before is =
      let t = (s.invariant.workers k is.below).timely in
      sym (ap (λ (w : Known). w.epoch) is.as_known) ∙ t.asking (rw is.as_known refl)

  -- ---- the gate

  module _ (is : Is c k (at LoadsGate)) where
    abbrev gate : GateWord
    gate = (table c).gate

    abbrev by_test : Bool → FlipStage
    by_test b = cond b (LoadsSize gate) (Ended (NotYet (gate_now c)))

    reads : (b : Bool) → is_still gate ≡ b → looked (gate_now c) (decode_gate (gate_now c)) ≡ by_test b
    reads b test = ap (looked (gate_now c)) (gate_says c p s) ∙ ap by_test test

    silent : (b : Bool) → told_flip (told_at (by_test b)) ≡ Silent
    silent true = refl
    silent false = refl

    goes : (b : Bool) → is_still gate ≡ b → (z : Held) → next LoadsGate (by_test b) ≡ z → FitsAt (by_test b)
        → Law c p s k (at LoadsGate) None (knows z) s.ghost → Fits c.pages c.mutators k z → Goes c p s k None (at LoadsGate) (Value (gate_now c))
    goes b test z same stage law fit =
        becomes c p s k (at LoadsGate) None (Value (gate_now c)) z s.ghost (ap (next LoadsGate) (reads b test) ∙ same) is.below law (ap (λ (t : FlipStage). told_flip (told_at t)) (reads b test) ∙ silent b) refl
        (record { pages = is.fits.stage.sound.pages; epoch = is.fits.stage.sound.epoch; stage = subst FitsAt (sym (reads b test)) stage }) fit

    by_gate : (b : Bool) → is_still gate ≡ b → Goes c p s k None (at LoadsGate) (Value (gate_now c))
    by_gate true test =
        let still = still_says gate test in
        let may : MayFlip gate = record { fits = fits (era c) (memory c) (team c) s.ghost s.invariant; still = test; next_fits = subst (λ (n : ℕ). n + 1 < 2 ^ 32) (now LoadsGate is) is.fits.stage.sound.epoch } in
        goes true test (at (LoadsSize gate)) refl may
        (subst (λ (w : Known). Law c p s k (at LoadsGate) None (resetting w (found_still gate)) s.ghost) is.as_known
        (reset_laws.finds_still (era c) (memory c) (team c) s.ghost k (prepared c p s k (at LoadsGate) is) (rw is.as_known refl) (rw is.as_known refl) still.0 still.1))
        (reflip LoadsGate (LoadsSize gate) is tt may)
    by_gate false test =
        goes false test (at LoadsGate) refl tt (nothing c p s k (at LoadsGate) is (knows (at LoadsGate)) refl) is.fits

    pub loads_gate : StepsSo c p s k (at LoadsGate)
    loads_gate =
        wants c p s k (at LoadsGate) (Load (place_of c.pages Gate)) (ap (λ n. Some (Load (place_of n Gate))) is.fits.pages)
        (loads c p s k (at LoadsGate) Gate tt (by_gate (is_still gate) refl))

  -- ---- the size of the space in use

  abbrev space : ℕ
  space = to_space y.epoch

  module _ (gate : GateWord) (is : Is c k (at (LoadsSize gate))) where
    abbrev found_size : ℕ
    found_size = size_now c space

    within : IsSizeWithin y.layout.pages found_size
    within = let z = size_within c p s space (is_space y.epoch) in let n = is.fits.pages in (omega (arith, z), omega (arith, z, n))

    -- the epoch's space has so many pages in use
    is_size : (era c).span ≡ 64 * found_size
    is_size = span_is c ∙ ap (λ (e : ℕ). 64 * size_now c (to_space e)) (sym (now (LoadsSize gate) is))

    size_found : Law c p s k (at (LoadsSize gate)) None (knows (at (LoadsArea gate found_size))) s.ghost
    size_found =
        subst (λ (w : Known). Law c p s k (at (LoadsSize gate)) None (resetting w (record (found_still gate) { size = Some found_size })) s.ghost) is.as_known
        (reset_laws.reads_size (era c) (memory c) (team c) s.ghost k (found_still gate) found_size (prepared c p s k (at (LoadsSize gate)) is) (rw is.as_known refl) is_size)

    by_size : Goes c p s k None (at (LoadsSize gate)) (Value found_size)
    by_size =
        becomes c p s k (at (LoadsSize gate)) None (Value found_size) (at (LoadsArea gate found_size)) s.ghost refl is.below
        size_found refl refl
        (record { pages = is.fits.stage.sound.pages; epoch = is.fits.stage.sound.epoch; stage = (is.fits.stage.sound.stage, within) })
        (reflip (LoadsSize gate) (LoadsArea gate found_size) is tt (is.fits.stage.sound.stage, within))

    pub loads_size : StepsSo c p s k (at (LoadsSize gate))
    loads_size =
        wants c p s k (at (LoadsSize gate)) (Load (place_of c.pages (Size space))) (ap (λ n. Some (Load (place_of n (Size space)))) is.fits.pages)
        (loads c p s k (at (LoadsSize gate)) (Size space) (is_space y.epoch) by_size)

  -- ---- the area in use

  module _ (gate : GateWord) (size : ℕ) (is : Is c k (at (LoadsArea gate size))) where
    abbrev area : AreaWord
    area = (table c).area space

    abbrev used : ℕ
    used = used_in size area

    abbrev found : resets.Reset
    found = record { gate = gate; size = size; next = next_size y.layout.pages (has_seen_flip y) size area.front; used = used }

    abbrev reading : Option AreaWord → FlipStage
    reading o = read_area y.layout.pages (has_seen_flip y) gate size o

    reads_area : reading (decode_area (area_now c space)) ≡ StoresSize found
    reads_area = ap reading (area_says c p s space (is_space y.epoch))

    -- what the flip has read so far
    abbrev so_far : Reset
    so_far = record (found_still gate) { size = Some size }

    has_size : (era c).span ≡ 64 * size
    has_size = ((s.invariant.workers k is.below).reset so_far (ap (λ (w : Known). w.reset) is.as_known)).size size refl

    counted : used + (memory c).low ≡ (era c).span + (memory c).front
    counted =
        let all = areas_are_read c p s in
        let order = s.invariant.laid.order in
        let same : area ≡ (table c).area (to_space (era c).epoch) = ap (λ (e : ℕ). (table c).area (to_space e)) (now (LoadsArea gate size) is) in
        let front = all.now.front in
        let low = all.now.low in
        let f = ap (λ (a : AreaWord). a.front) same in
        let l = ap (λ (a : AreaWord). a.low) same in
        omega (arith, order, front, low, f, l, has_size)

    grows : (era c).span ≤ 64 * found.next
    grows =
        let z = is.fits.stage.sound.stage.1 in
        let next = grown_within y.layout.pages size found.next z.1 (next_grows y.layout.pages (has_seen_flip y) size area.front) in
        omega (arith, has_size, next)

    found_fits : FitsReset y.layout.pages (has_seen_flip y) found
    found_fits = record { gate = is.fits.stage.sound.stage.0; size = is.fits.stage.sound.stage.1; used = omega arith; copied = area.front; next = refl }

    by_area : Goes c p s k None (at (LoadsArea gate size)) (Value (area_now c space))
    by_area =
        becomes c p s k (at (LoadsArea gate size)) None (Value (area_now c space)) (at (StoresSize found)) s.ghost (ap (next (LoadsArea gate size)) reads_area) is.below
        (subst (λ (w : Known). Law c p s k (at (LoadsArea gate size)) None (resetting w (record so_far { grown = Some found.next; used = Some used })) s.ghost) is.as_known
        (reset_laws.reads_used (era c) (memory c) (team c) s.ghost k so_far used found.next (prepared c p s k (at (LoadsArea gate size)) is) (rw is.as_known refl) refl counted grows))
        (ap (λ (t : FlipStage). told_flip (told_at t)) reads_area) refl
        (record { pages = is.fits.stage.sound.pages; epoch = is.fits.stage.sound.epoch; stage = subst FitsAt (sym reads_area) found_fits })
        (reflip (LoadsArea gate size) (StoresSize found) is tt found_fits)

    pub loads_area : StepsSo c p s k (at (LoadsArea gate size))
    loads_area =
        wants c p s k (at (LoadsArea gate size)) (Load (place_of c.pages (Area space))) (ap (λ n. Some (Load (place_of n (Area space)))) is.fits.pages)
        (loads c p s k (at (LoadsArea gate size)) (Area space) (is_space y.epoch) by_area)

  -- ---- the size of the other space

  -- it is no smaller than that of the space in use, and has so many pages
  pub next_within : (r : resets.Reset) → FitsReset y.layout.pages (has_seen_flip y) r → (r.size ≤ r.next) × (r.next ≤ y.layout.pages)
  next_within r fits =
      grown_within y.layout.pages r.size r.next fits.size.1
      (subst (Grows y.layout.pages r.size) (sym fits.next) (next_grows y.layout.pages (has_seen_flip y) r.size fits.copied))

  abbrev other : ℕ
  other = to_space (y.epoch + 1)

  module _ (r : resets.Reset) (is : Is c k (at (StoresSize r))) where
    abbrev unsized : Reset
    unsized = record { read = r.gate; size = Some r.size; grown = Some r.next; used = Some r.used; sized = false; stored = false; cleared = false }

    abbrev Leads : ℕ → Known → Type 0
    Leads space w = LeavesConfiguration c (Some (SizeIs space r.next)) k (after_size w unsized) p s.ghost s.ghost

    is_other_space : from_space (era c).epoch ≡ other
    is_other_space = ap (λ (e : ℕ). to_space (e + 1)) (sym (now (StoresSize r) is))

    pub sized : Leads other (knows (at (StoresSize r)))
    sized =
        let next = next_within r is.fits.stage.sound.stage in let n = is.fits.pages in
        subst (λ (space : ℕ). Leads space (knows (at (StoresSize r)))) is_other_space
        (subst (Leads (from_space (era c).epoch)) is.as_known
        (sizes_are_lifted c p s k unsized r.next is.below (ap (λ (w : Known). w.reset) is.as_known) refl refl (omega (arith, next, n))))

    size_goes : Goes c p s k (Some (SizeIs other r.next)) (at (StoresSize r)) Done
    size_goes = record {
      takes = record { pages = is.fits.stage.sound.pages; epoch = is.fits.stage.sound.epoch; stage = is.fits.stage.sound.stage };
      fits = reflip (StoresSize r) (StoresArea r) is tt is.fits.stage.sound.stage;
      ghost_after = s.ghost;
      leads = sized;
      wins = tt;
      answered = tt;
      full = tt;
      flip = tt;
    }

    pub stores_size : StepsSo c p s k (at (StoresSize r))
    stores_size =
        wants c p s k (at (StoresSize r)) (Store (place_of c.pages (Size other)) r.next) (ap (λ n. Some (Store (place_of n (Size other)) r.next)) is.fits.pages)
        (stores c p s k (at (StoresSize r)) (SizeIs other r.next) (is_space (y.epoch + 1)) size_goes)

  -- ---- the area of the other space

  module _ (r : resets.Reset) (is : Is c k (at (StoresArea r))) where
    abbrev fresh_area : AreaWord
    fresh_area = area_reset r.next r.used

    abbrev unstored : Reset
    unstored = record { read = r.gate; size = Some r.size; grown = Some r.next; used = Some r.used; sized = true; stored = false; cleared = false }

    pub fresh_fits : AreaFits fresh_area
    fresh_fits =
        let u = is.fits.stage.sound.stage.used in let z = is.fits.stage.sound.stage.size in let n = is.fits.pages in let few = is.fits.counted in
        let next = next_within r is.fits.stage.sound.stage in
        record { front_fits = omega arith; low_fits = omega (arith, few, next, n); owed_fits = omega (arith, u, z, n, few) }

    -- the other space has the pages that were stored
    is_stored : (era c).old_span ≡ 64 * r.next
    is_stored =
        let sized = ((s.invariant.workers k is.below).reset unstored (ap (λ (w : Known). w.reset) is.as_known)).sized refl in
        sized.2 ∙ ap (λ (n : ℕ). 64 * n) (sym (some_same sized.1))

    is_whole : whole_area (era c).old_span r.used ≡ fresh_area
    is_whole = ap (λ (span : ℕ). whole_area span r.used) is_stored

    is_other : from_space (era c).epoch ≡ to_space (y.epoch + 1)
    is_other = ap (λ (e : ℕ). to_space (e + 1)) (sym (now (StoresArea r) is))

    stored : Law c p s k (at (StoresArea r)) (Some (AreaIs (to_space (y.epoch + 1)) fresh_area)) (knows (at (ResetsWeak r))) s.ghost
    stored =
        subst (λ (n : ℕ). Law c p s k (at (StoresArea r)) (Some (AreaIs n fresh_area)) (knows (at (ResetsWeak r))) s.ghost) is_other
        (subst (λ (a : AreaWord). Law c p s k (at (StoresArea r)) (Some (AreaIs (from_space (era c).epoch) a)) (knows (at (ResetsWeak r))) s.ghost) is_whole
        (subst (λ (w : Known). Law c p s k (at (StoresArea r)) (Some (AreaIs (from_space (era c).epoch) (whole_area (era c).old_span r.used))) (resetting w (record unstored { stored = true })) s.ghost) is.as_known
        (reset_laws.stores_area_word (era c) (memory c) (team c) s.ghost k unstored r.used (prepared c p s k (at (StoresArea r)) is) (rw is.as_known refl) refl refl
        (subst AreaFits (sym is_whole) fresh_fits))))

    pub stores_area : StepsSo c p s k (at (StoresArea r))
    stores_area =
        wants c p s k (at (StoresArea r)) (Store (place_of c.pages (Area (to_space (y.epoch + 1)))) (encode_area fresh_area))
        (ap (λ n. Some (Store (place_of n (Area (to_space (y.epoch + 1)))) (encode_area fresh_area))) is.fits.pages)
        (stores c p s k (at (StoresArea r)) (AreaIs (to_space (y.epoch + 1)) fresh_area) (is_space (y.epoch + 1))
        (becomes c p s k (at (StoresArea r)) (Some (AreaIs (to_space (y.epoch + 1)) fresh_area)) Done (at (ResetsWeak r)) s.ghost refl is.below stored refl refl
        (record { pages = is.fits.stage.sound.pages; epoch = is.fits.stage.sound.epoch; stage = is.fits.stage.sound.stage })
        (reflip (StoresArea r) (ResetsWeak r) is tt is.fits.stage.sound.stage)))

  -- ---- the chain of cells

  module _ (r : resets.Reset) (is : Is c k (at (ResetsWeak r))) where
    abbrev unlinked : Reset
    unlinked = record { read = r.gate; size = Some r.size; grown = Some r.next; used = Some r.used; sized = true; stored = true; cleared = false }

    weak_law : Law c p s k (at (ResetsWeak r)) (Some (WeakIs 0)) (knows (at (Exchanges r))) s.ghost
    weak_law =
        subst (λ (w : Known). Law c p s k (at (ResetsWeak r)) (Some (WeakIs 0)) (resetting w (record unlinked { cleared = true })) s.ghost) is.as_known
        (reset_laws.clears_weak (era c) (memory c) (team c) s.ghost k unlinked (prepared c p s k (at (ResetsWeak r)) is) (ap (λ (w : Known). w.reset) is.as_known))

    pub resets_weak : StepsSo c p s k (at (ResetsWeak r))
    resets_weak =
        wants c p s k (at (ResetsWeak r)) (Store (place_of c.pages WeakHead) 0) (ap (λ n. Some (Store (place_of n WeakHead) 0)) is.fits.pages)
        (stores c p s k (at (ResetsWeak r)) (WeakIs 0) (omega arith)
        (becomes c p s k (at (ResetsWeak r)) (Some (WeakIs 0)) Done (at (Exchanges r)) s.ghost refl is.below weak_law refl refl
        (record { pages = is.fits.stage.sound.pages; epoch = is.fits.stage.sound.epoch; stage = is.fits.stage.sound.stage })
        (reflip (ResetsWeak r) (Exchanges r) is tt is.fits.stage.sound.stage)))
