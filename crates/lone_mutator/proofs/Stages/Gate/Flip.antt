-- The flip by a lone mutator: the gate is still, and the exchange is won.
use Rattle.std.proofs.Common.{◌≡◌, ℕ, ◌+◌, ◌-◌, ◌*◌, ◌≤◌, inl, Bool, true, false, cond, min, Option, Some, nat_lt, refl, sym, ap, subst, ◌∙◌, arith}
use Rattle.std.proofs.lemmas.Bool.{eq-eqb, lt-ltb}
use Rattle.std.proofs.lemmas.Option.{same_Some}
use Rattle.plain_state.specs.State.{Plain}
use Rattle.atom_store.specs.declared.reply.Reply.TheVariants.{Won}
use Rattle.atom_store.specs.declared.step.Step.TheVariants.{Load, Store, Exchange}
use Rattle.space_map.specs.declared.area_word.AreaWord.{AreaWord}
use Rattle.space_map.specs.declared.gate_word.GateWord.{GateWord}
use Rattle.space_map.specs.AreaWord.{encode_area}
use Rattle.space_map.specs.GateWord.{encode_gate}
use Rattle.space_map.specs.Spaces.{to_space}
use Rattle.space_map.specs.Table.{Gate, Size, Area, WeakHead, place_of}
use Rattle.gate_core.specs.declared.flip_stage.FlipStage.{FlipStage}
use Rattle.gate_core.specs.declared.flip_stage.FlipStage.TheVariants.{LoadsGate, LoadsSize, LoadsArea, StoresSize, StoresArea, ResetsWeak, Exchanges, Ended}
use Rattle.gate_core.specs.declared.flipped.Flipped.TheVariants.{NotYet}
use Rattle.gate_core.specs.declared.reset.Reset as resets
use Rattle.gate_core.specs.Flip.{Flipping, area_reset, gate_flipped, is_still, looked, next_size, read_area, told_at}
use Rattle.gate_core.specs.Soundness.{FitsReset}
use Rattle.heap_state.specs.Configuration.{Configuration, Stands, era, memory, table}
use Rattle.heap_state.specs.Memory.Entries.{AreaIs, GateIs, SizeIs, WeakIs}
use Rattle.heap_state.specs.Memory.Table.{Table}
use Rattle.heap_state.specs.Functions.{put}
use Rattle.heap_state.specs.Invariant.Parts.Knowledge.{Resets}
use Rattle.heap_state.specs.Known.{Reset}
use Rattle.heap_state.proofs.Puts.{put_other}
use Rattle.gc_worker.specs.declared.stage.Stage.TheVariants.{Flips}
use Rattle.gc_worker.specs.Laws.Growth.{Grows}
use Rattle.gc_worker.specs.Workers.Held.{Held, at_stage, has_seen_flip}
use Rattle.gc_worker.specs.Steps.Turned.{told_flip, turned, turned_flip}
use Rattle.gc_worker.proofs.Words.Areas.{area_says, is_space}
use Rattle.gc_worker.proofs.Words.GrownSizes.{grown_within, next_grows}
use Rattle.gc_worker.proofs.Stages.Flip.Flipping.{unmoved}
use Rattle.gc_worker.proofs.Stages.Gate.GateWords.{gate_now, gate_says}
use Rattle.lone_mutator.specs.Bound.{growths, longest_tracing}
use Rattle.lone_mutator.specs.Law.{IsAlone, Lowers, LowersWhereTold, StepsLower, saves}
use Rattle.lone_mutator.specs.Potential.{due_in, flips_left, growing_left, later_left, size_in}
use Rattle.lone_mutator.proofs.Stages.Gate.LoneGateCounts.{knowing, none_behind, running_is}
use Rattle.lone_mutator.proofs.Steps.Owed.{exchanges, loads, stores, wants}
use Rattle.lone_mutator.proofs.Epochs.Cost.{due_le_longest}
use Rattle.lone_mutator.proofs.Epochs.Growths.{flips_cost-le, growths-le, growths-once}

module _ (c : Configuration) (p : Plain) (s : Stands c p) (y : Held) (asked : ℕ) where
  abbrev flipping : FlipStage → Flipping
  flipping stage = record { layout = y.layout; epoch = y.epoch; asked = asked; seen = has_seen_flip y; stage = stage }

  abbrev at : FlipStage → Held
  at stage = at_stage y (Flips (flipping stage))

  abbrev g : GateWord
  g = (table c).gate

  module _ (stage : FlipStage) (a : IsAlone c (at stage)) where
    -- a flipper is of the gate's epoch
    present : y.epoch ≡ g.epoch
    present = (knowing c p s (at stage) a).timely.asking refl

  -- ---- what it reads and stores

  module _ (a : IsAlone c (at LoadsGate)) where
    abbrev Gates : FlipStage → Type 0
    Gates stage = LowersWhereTold c.pages (saves c) (table c) (table c) (at LoadsGate) (turned_flip (at LoadsGate) (flipping stage) (told_at stage)) (told_flip (told_at stage))

    still : is_still g ≡ true
    still = rw (eq-eqb g.running 0 (running_is c p s (at LoadsGate) a), eq-eqb g.behind 0 (none_behind c p s (at LoadsGate) a (present LoadsGate a))) refl

    read_gate : Gates (cond (is_still g) (LoadsSize g) (Ended (NotYet (gate_now c))))
    read_gate = rw still (record { remembers = record { began = a.remembers.began; quiet = a.remembers.quiet; stands = tt }; falls = omega arith })

    loads_gate : StepsLower c (at LoadsGate)
    loads_gate =
        wants c p s (at LoadsGate) (Load (place_of c.pages Gate)) (ap (λ n. Some (Load (place_of n Gate))) a.is.fits.pages)
        (loads c p s (at LoadsGate) Gate tt (subst (λ (o : Option GateWord). Gates (looked (gate_now c) o)) (sym (gate_says c p s)) read_gate))

  module _ (gate : GateWord) (a : IsAlone c (at (LoadsSize gate))) where
    loads_size : StepsLower c (at (LoadsSize gate))
    loads_size =
        wants c p s (at (LoadsSize gate)) (Load (place_of c.pages (Size (to_space y.epoch)))) (ap (λ n. Some (Load (place_of n (Size (to_space y.epoch))))) a.is.fits.pages)
        (loads c p s (at (LoadsSize gate)) (Size (to_space y.epoch)) (is_space y.epoch)
        (record { remembers = record { began = a.remembers.began; quiet = a.remembers.quiet; stands = tt }; falls = omega arith }))

  module _ (gate : GateWord) (size : ℕ) (a : IsAlone c (at (LoadsArea gate size))) where
    abbrev Areas : FlipStage → Type 0
    Areas stage = LowersWhereTold c.pages (saves c) (table c) (table c) (at (LoadsArea gate size)) (turned_flip (at (LoadsArea gate size)) (flipping stage) (told_at stage)) (told_flip (told_at stage))

    read : Areas (read_area y.layout.pages (has_seen_flip y) gate size (Some ((table c).area (to_space y.epoch))))
    read = record { remembers = record { began = a.remembers.began; quiet = a.remembers.quiet; stands = tt }; falls = omega arith }

    loads_area : StepsLower c (at (LoadsArea gate size))
    loads_area =
        wants c p s (at (LoadsArea gate size)) (Load (place_of c.pages (Area (to_space y.epoch)))) (ap (λ n. Some (Load (place_of n (Area (to_space y.epoch))))) a.is.fits.pages)
        (loads c p s (at (LoadsArea gate size)) (Area (to_space y.epoch)) (is_space y.epoch)
        (subst (λ (o : Option AreaWord). Areas (read_area y.layout.pages (has_seen_flip y) gate size o)) (sym (area_says c p s (to_space y.epoch) (is_space y.epoch))) read))

  -- the other space gets no fewer pages, and no more than there are
  next_within : (r : resets.Reset) → FitsReset y.layout.pages (has_seen_flip y) r → (r.size ≤ r.next) × (r.next ≤ y.layout.pages)
  next_within r fits =
      grown_within y.layout.pages r.size r.next fits.size.1
      (subst (Grows y.layout.pages r.size) (sym fits.next) (next_grows y.layout.pages (has_seen_flip y) r.size fits.copied))

  module _ (r : resets.Reset) (a : IsAlone c (at (StoresSize r))) where
    abbrev other : ℕ
    other = to_space (y.epoch + 1)

    -- the size of the epoch's space stays
    same_size : put (table c).in_use other r.next (to_space g.epoch) ≡ size_in (table c)
    same_size = put_other (table c).in_use other r.next (to_space g.epoch) (λ same. let now = present (StoresSize r) a in omega (arith, same, now))

    stores_size : StepsLower c (at (StoresSize r))
    stores_size =
        let fits = a.is.fits.stage.sound.stage in
        let next = next_within r fits in let size = fits.size.0 in let n = a.is.fits.pages in
        let later = ap (λ (pages : ℕ). later_left c.pages pages y) same_size in
        wants c p s (at (StoresSize r)) (Store (place_of c.pages (Size other)) r.next) (ap (λ n. Some (Store (place_of n (Size other)) r.next)) a.is.fits.pages)
        (stores c p s (at (StoresSize r)) (SizeIs other r.next) (is_space (y.epoch + 1), omega (arith, size, next), omega (arith, next, n)) tt
        (record { remembers = record { began = a.remembers.began; quiet = a.remembers.quiet; stands = tt }; falls = omega (arith, later) }))

  module _ (r : resets.Reset) (a : IsAlone c (at (StoresArea r))) where
    stores_area : StepsLower c (at (StoresArea r))
    stores_area =
        let fits = a.is.fits.stage.sound.stage in
        let used = fits.used in let size = fits.size.1 in
        let few = a.is.fits.stage.sound.pages in
        let next = (next_within r fits).1 in
        let area = area_reset r.next r.used in
        let space = to_space (y.epoch + 1) in
        wants c p s (at (StoresArea r)) (Store (place_of c.pages (Area space)) (encode_area area)) (ap (λ n. Some (Store (place_of n (Area space)) (encode_area area))) a.is.fits.pages)
        (stores c p s (at (StoresArea r)) (AreaIs space area) (is_space (y.epoch + 1), record { front_fits = omega arith; low_fits = omega (arith, next, few); owed_fits = omega (arith, used, size, few) }) tt
        (record { remembers = record { began = a.remembers.began; quiet = a.remembers.quiet; stands = tt }; falls = omega arith }))

  module _ (r : resets.Reset) (a : IsAlone c (at (ResetsWeak r))) where
    resets_weak : StepsLower c (at (ResetsWeak r))
    resets_weak =
        wants c p s (at (ResetsWeak r)) (Store (place_of c.pages WeakHead) 0) (ap (λ n. Some (Store (place_of n WeakHead) 0)) a.is.fits.pages)
        (stores c p s (at (ResetsWeak r)) (WeakIs 0) (omega arith) tt
        (record { remembers = record { began = a.remembers.began; quiet = a.remembers.quiet; stands = tt }; falls = omega arith }))

  -- ---- the exchange

  module _ (r : resets.Reset) (a : IsAlone c (at (Exchanges r))) where
    abbrev x : Held
    x = at (Exchanges r)

    abbrev flipped : Table
    flipped = record (table c) { gate = gate_flipped r.gate }

    -- what it knows of its flip
    abbrev q : Reset
    q = record { read = r.gate; size = Some r.size; grown = Some r.next; used = Some r.used; sized = true; stored = true; cleared = true }

    known : Resets (era c) (memory c).gate (memory c).front (memory c).low (memory c).old_front (memory c).old_low (memory c).old_owed q
    known = (knowing c p s x a).reset q refl

    gate_is : g ≡ r.gate
    gate_is = known.unmoved

    -- the words that the new epoch owes are those that were in use
    owed_is : ((table c).area (to_space (g.epoch + 1))).owed ≡ r.used
    owed_is = sym (same_Some r.used _ (known.stored refl).3)

    -- the pages in use are those that it has read, and after the flip those that it has stored
    size_is : size_in (table c) ≡ r.size
    size_is = let span : (era c).span ≡ 64 * size_in (table c) = refl in let read = known.size r.size refl in omega (arith, span, read)

    next_is : (table c).in_use (to_space (g.epoch + 1)) ≡ r.next
    next_is =
        let sized = known.sized refl in
        let span : (era c).old_span ≡ 64 * (table c).in_use (to_space (g.epoch + 1)) = refl in
        let stored = same_Some r.next sized.0 sized.1 in
        let pages = sized.2 in
        omega (arith, span, stored, pages)

    size_flipped : size_in flipped ≡ r.next
    size_flipped = ap (λ (z : GateWord). (table c).in_use (to_space (z.epoch + 1))) (sym gate_is) ∙ next_is

    -- it may request one flip less after this one: the space has grown, or it had seen none
    fewer_by : (seen : Bool) → has_seen_flip y ≡ seen → growths c.pages r.next ≤ flips_left c.pages r.size x - 1
    fewer_by false unseen =
        let next = (next_within r a.is.fits.stage.sound.stage).0 in
        let fewer = growths-le c.pages r.size r.next next in
        rw unseen (omega (arith, fewer))
    fewer_by true seen =
        let fits = a.is.fits.stage.sound.stage in
        let n = a.is.fits.pages in
        let is : r.next ≡ min c.pages (2 * r.size) = fits.next ∙ (ap (λ (b : Bool). next_size y.layout.pages b r.size fits.copied) seen ∙ ap (λ (pages : ℕ). min pages (2 * r.size)) n) in
        let most = a.is.fits.stage.sound.pages in
        let size = fits.size in
        let once = growths-once c.pages r.size size.0 (omega (arith, most, n)) in
        rw (seen, is) (omega (arith, once))

    later_within : growing_left c.pages (size_in flipped) ≤ later_left c.pages (size_in (table c)) x
    later_within =
        let fewer = fewer_by (has_seen_flip y) refl in
        let is = ap (growths c.pages) size_flipped in
        let before = ap (λ (pages : ℕ). flips_left c.pages pages x) size_is in
        flips_cost-le c.pages (growths c.pages (size_in flipped)) (flips_left c.pages (size_in (table c)) x - 1) (omega (arith, fewer, is, before))

    due_within : due_in c.pages flipped ≤ longest_tracing c.pages
    due_within =
        let fits = a.is.fits.stage.sound.stage in
        let used = fits.used in let size = fits.size.1 in
        let n = a.is.fits.pages in
        let e = ap (λ (z : GateWord). ((table c).area (to_space (z.epoch + 1))).owed) (sym gate_is) in
        due_le_longest c.pages (r.gate.epoch + 1) (table c).traced (table c).weak_turn ((table c).area (to_space (r.gate.epoch + 1))).owed (table c).page (omega (arith, used, size, n, e, owed_is))

    falls : Lowers c.pages (saves c) (table c) flipped x (turned x Won)
    falls =
        let now : y.epoch ≡ r.gate.epoch = present (Exchanges r) a ∙ ap (λ (z : GateWord). z.epoch) gate_is in
        let late : nat_lt y.epoch (r.gate.epoch + 1) ≡ true = lt-ltb y.epoch (r.gate.epoch + 1) (omega (arith, now)) in
        let began : y.begun ≤ y.epoch = a.remembers.began tt in
        record {
          remembers = record { began = λ past. began; quiet = a.remembers.quiet; stands = (inl (record { places = refl; earlier = omega (arith, began, now) }), tt) };
          falls = rw late (let d = due_within in let l = later_within in omega (arith, d, l));
        }

    flips : StepsLower c x
    flips =
        let may = a.is.fits.stage.sound.stage.gate in
        wants c p s x (Exchange (place_of c.pages Gate) (encode_gate r.gate) (encode_gate (gate_flipped r.gate)))
        (ap (λ n. Some (Exchange (place_of n Gate) (encode_gate r.gate) (encode_gate (gate_flipped r.gate)))) a.is.fits.pages)
        (exchanges c p s x (GateIs (gate_flipped r.gate)) (encode_gate r.gate)
        (record { epoch_fits = may.next_fits; live_fits = may.fits.live_fits; running_fits = may.fits.running_fits; behind_fits = may.fits.live_fits; left_fits = may.fits.left_fits }) tt
        (unmoved c p s 0 y asked r a.is) falls)

  -- ---- each stage

  pub flips_by : (stage : FlipStage) → IsAlone c (at stage) → StepsLower c (at stage)
  flips_by LoadsGate a = loads_gate a
  flips_by (LoadsSize gate) a = loads_size gate a
  flips_by (LoadsArea gate size) a = loads_area gate size a
  flips_by (StoresSize r) a = stores_size r a
  flips_by (StoresArea r) a = stores_area r a
  flips_by (ResetsWeak r) a = resets_weak r a
  flips_by (Exchanges r) a = flips r a
  flips_by (Ended result) a = λ q next. absurd (cc)
