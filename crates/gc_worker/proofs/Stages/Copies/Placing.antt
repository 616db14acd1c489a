-- The copy's place: FRONT is loaded, announced, and moved past the copy.
use Rattle.std.proofs.Common.{None, Some, ap, arith, false, refl, subst, sym, true, ℕ, ⊎_elim, ◌*◌, ◌+◌, ◌/◌, ◌∙◌, ◌≡◌, ◌≢◌, ◌≤◌}
use Rattle.std.proofs.lemmas.Bool.{cases_eq, eq-eqb, eqb-true, ne_eqb}
use Rattle.plain_state.specs.State.{Plain}
use Rattle.atom_store.specs.declared.reply.Reply.{Reply}
use Rattle.atom_store.specs.declared.reply.Reply.TheVariants.{Value, Done, Won, Lost}
use Rattle.atom_store.specs.declared.step.Step.TheVariants.{Load, Store, Exchange}
use Rattle.space_map.specs.declared.area_word.AreaWord.{AreaWord}
use Rattle.space_map.specs.AreaWord.{AreaFits, area_in, decode_area, encode_area}
use Rattle.space_map.specs.Spaces.{to_space, space_start}
use Rattle.space_map.specs.Table.{Area, Announce, IsRow, place_of}
use Rattle.space_map.proofs.AreaWords.{decode_area-short, area_in-encode_area}
use Rattle.forwarding.specs.declared.evac_stage.EvacStage.{EvacStage}
use Rattle.forwarding.specs.declared.evac_stage.EvacStage.TheVariants.{LoadsArea, Announces, Reserves, StoresHeader}
use Rattle.forwarding.specs.declared.kept_header.KeptHeader.{KeptHeader}
use Rattle.forwarding.specs.Evacuation.{Evacuation, area_past, front_of, size_of}
use Rattle.heap_laws.specs.Steps.{IsAreaNow}
use Rattle.forwarding.specs.Soundness.{IsSound, IsKeptHeader, AreaHoldsCopy}
use Rattle.forwarding.specs.Taken.{by_area, by_other_area, reserved_at, stage_after}
use Rattle.heap_state.specs.Configuration.{Configuration, Stands, era, memory, team}
use Rattle.heap_state.specs.Memory.Entries.{AnnounceIs, AreaIs}
use Rattle.heap_state.specs.Memory.Table.{table_of, word_in}
use Rattle.heap_state.specs.Known.{Known, Copy, is_late}
use Rattle.heap_state.proofs.Table.Spelled.{spelled}
use Rattle.heap_laws.proofs.Copying.Room.{copies_have_room}
use Rattle.heap_laws.specs.Copying as law
use Rattle.heap_laws.proofs.Copying.Laws.{places_are_aimed, places_are_announced, places_are_reserved}
use Rattle.gc_worker.specs.Steps.Goes.{Is, Goes, StepsSo}
use Rattle.gc_worker.specs.Workers.Held.{Held}
use Rattle.gc_worker.specs.Workers.Knows.{placing, copy_at, found_in, scan_of}
use Rattle.gc_worker.proofs.Words.Eras.{ends_below, span_within}
use Rattle.gc_worker.proofs.Stages.Copies.Hosts.{Host, ForScan, ForRegister, at, machine_at, wants_its, is_sound, has_pages, is_worker, copy_is, quest_with, quest_is, linking_is, nothing_to_link}
use Rattle.gc_worker.proofs.Stages.Copies.Publishing.{goes, stays}
use Rattle.gc_worker.proofs.Stages.Gate.GateWords.{wants}
use Rattle.gc_worker.proofs.Words.RowSteps.{Law, exchanges, loads, stores, row_fits, prepared}

module _ (c : Configuration) (p : Plain) (s : Stands c p) (k : ℕ) (y : Held) (o : Host) (v : Evacuation) (kept : KeptHeader) where
  abbrev here : EvacStage → Held
  here z = at y o v z

  -- the worker with this copy, which is not found
  abbrev with_copy : Copy → Known
  with_copy copy = record ((team c).worker k) { copy = Some copy; quest = Some (quest_with y v o None); linking = None }

  -- what a law says of a worker that seeks the copy
  still_seeks : (z : EvacStage) (copy : Copy) → Is c k (here z) → found_in z ≡ None → law.copying ((team c).worker k) copy ≡ with_copy copy
  still_seeks z copy is not_yet =
      λ i. record ((team c).worker k) {
        copy = Some copy;
        quest = (ap (λ (u : Known). u.quest) is.as_known ∙ quest_is y v o z ∙ ap (λ f. Some (quest_with y v o f)) not_yet) i;
        linking = (ap (λ (u : Known). u.linking) is.as_known ∙ linking_is y v o z ∙ nothing_to_link z not_yet) i;
      }

  module _ (area : AreaWord) (is : Is c k (here (Announces kept area))) where
    abbrev named : Copy
    named = placing v.addr (front_of v.layout v.epoch area) kept true

    announce_law : Law c p s k (here (Announces kept area)) (Some (AnnounceIs k (front_of v.layout v.epoch area + 1))) (with_copy named) s.ghost
    announce_law =
        subst (λ (u : Known). Law c p s k (here (Announces kept area)) (Some (AnnounceIs k (front_of v.layout v.epoch area + 1))) u s.ghost)
        (still_seeks (Announces kept area) named is refl)
        (places_are_announced (era c) (memory c) (team c) s.ghost k (placing v.addr (front_of v.layout v.epoch area) kept false)
        (prepared c p s k (here (Announces kept area)) is)
        (ap (λ (u : Known). u.copy) is.as_known ∙ copy_is y v o (Announces kept area)) refl refl)

    pub announces : StepsSo c p s k (here (Announces kept area))
    announces =
        let sound = is_sound y v c.pages c.mutators k o (Announces kept area) is.fits in
        let pages = has_pages y v c.pages c.mutators k o (Announces kept area) is.fits in
        let worker = is_worker y v c.pages c.mutators k o (Announces kept area) is.fits in
        let place = front_of v.layout v.epoch area + 1 in
        let row = row_fits c p s k (here (Announces kept area)) (AnnounceIs k place) (with_copy named) s.ghost is.below announce_law in
        wants c p s k (here (Announces kept area)) (Store (place_of c.pages (Announce k)) place)
        (wants_its y v o (Announces kept area) ∙ ap (λ n. Some (Store (place_of n (Announce v.worker)) place)) pages
        ∙ ap (λ n. Some (Store (place_of c.pages (Announce n)) place)) worker)
        (stores c p s k (here (Announces kept area)) (AnnounceIs k place) row
        (goes c p s k y o v (Some (AnnounceIs k place)) (Announces kept area) (Reserves kept area) Done (Some named) None s.ghost is refl refl announce_law refl refl sound.fits))

-- ---- the area of the epoch's space

abbrev area_now : Configuration → ℕ
area_now c = word_in c.pages c.words (Area (to_space (era c).epoch))

-- as its word says it
abbrev pub area_read : Configuration → AreaWord
area_read c = area_in (area_now c)

front_word : (c : Configuration) → (memory c).front ≡ space_start c.pages (to_space (era c).epoch) + (area_read c).front
unfolding table_of
front_word c = refl

start_is : (c : Configuration) → space_start c.pages (to_space (era c).epoch) ≡ (era c).start
unfolding table_of
start_is c = refl

low_word : (c : Configuration) → (memory c).low ≡ space_start c.pages (to_space (era c).epoch) + (area_read c).low
unfolding table_of
low_word c = refl

owed_word : (c : Configuration) → (memory c).owed ≡ (area_read c).owed
unfolding table_of
owed_word c = refl

-- LOW is at most the space's end
low_in : (c : Configuration) (p : Plain) → Stands c p → (area_read c).low ≤ 64 * c.pages
low_in c p s =
    let o = s.invariant.laid.order in let l = low_word c in let b = start_is c in let w = span_within c p s in
    omega (arith, o, l, b, w)

area_fits : (c : Configuration) (p : Plain) → Stands c p → AreaFits (area_read c)
unfolding table_of
area_fits c p s = (spelled c.pages c.words s.formed).areas_fit (to_space (era c).epoch) (omega arith)

-- a copy whose place is not reserved has room
room : (c : Configuration) (p : Plain) (s : Stands c p) (d : Copy) → law.HasRoomForCopy (memory c) d → AreaHoldsCopy c.pages d.size (area_read c)
room c p s d r = record {
  fits = area_fits c p s;
  owed = (let o = r.owed in let w = owed_word c in omega (arith, o, w));
  below_low = (let l = r.below_low in let f = front_word c in let w = low_word c in omega (arith, l, f, w));
  in_space = low_in c p s;
}

module _ (c : Configuration) (p : Plain) (s : Stands c p) (k : ℕ) (y : Held) (v : Evacuation) where
  -- a copy is made in the epoch
  epoch_is : (o : Host) (z : EvacStage) → Is c k (at y o v z) → v.epoch ≡ (era c).epoch
  epoch_is (ForScan scan back) z is =
      is.fits.stage.0.of_epoch ∙ sym (ap (λ (u : Known). u.epoch) is.as_known)
      ∙ (s.invariant.workers k is.below).present (scan_of scan scan.stage) (ap (λ (u : Known). u.scan) is.as_known)
  epoch_is (ForRegister r after) z is =
      let from = (s.invariant.workers k is.below).origin (quest_with y v (ForRegister r after) (found_in z)) (ap (λ (u : Known). u.quest) is.as_known) in
      is.fits.stage.copy.of_epoch ∙ eqb-true (y.epoch + 1) (era c).epoch (subst (λ (u : Known). is_late (era c).epoch u ≡ true) is.as_known from.0)

module _ (c : Configuration) (p : Plain) (s : Stands c p) (k : ℕ) (y : Held) (o : Host) (v : Evacuation) (kept : KeptHeader) where
  abbrev here_too : EvacStage → Held
  here_too z = at y o v z

  row_of_area : IsRow c.pages (Area (to_space (era c).epoch))
  row_of_area = omega arith

  read : decode_area (area_now c) ≡ Some (area_read c)
  read = decode_area-short (area_now c) (s.formed.rows (Area (to_space (era c).epoch)) row_of_area)

  -- FRONT as the machine reckons it
  front_is : (z : EvacStage) → Is c k (here_too z) → front_of v.layout v.epoch (area_read c) ≡ (memory c).front
  front_is z is =
      ap (λ n. space_start n (to_space v.epoch) + (area_read c).front) (has_pages y v c.pages c.mutators k o z is.fits)
      ∙ ap (λ e. space_start c.pages (to_space e) + (area_read c).front) (epoch_is c p s k y v o z is) ∙ sym (front_word c)

  -- whose copy has no place yet
  has_room : (z : EvacStage) (d : Copy) → Is c k (here_too z) → copy_at v.layout v.addr v.epoch z ≡ Some d → d.reserved ≡ false → d.size ≡ size_of kept
      → AreaHoldsCopy v.layout.pages (size_of kept) (area_read c)
  has_room z d is at_z loose size =
      subst (λ n. AreaHoldsCopy n (size_of kept) (area_read c)) (sym (has_pages y v c.pages c.mutators k o z is.fits))
      (subst (λ m. AreaHoldsCopy c.pages m (area_read c)) size
      (room c p s d (copies_have_room (era c) (memory c) (team c) s.ghost k d (prepared c p s k (here_too z) is)
      (ap (λ (u : Known). u.copy) is.as_known ∙ copy_is y v o z ∙ at_z) loose)))

  -- FRONT is the copy's place, which is to be announced
  aims : (z : EvacStage) (d : Copy) (reply : Reply) → Is c k (here_too z) → copy_at v.layout v.addr v.epoch z ≡ Some d → found_in z ≡ None → d.reserved ≡ false → d.size ≡ size_of kept
      → record d { to = front_of v.layout v.epoch (area_read c); aimed = true; announced = false } ≡ placing v.addr (front_of v.layout v.epoch (area_read c)) kept false
      → IsKeptHeader v.layout.pages v.addr kept → stage_after v.layout v.epoch z reply ≡ Announces kept (area_read c) → Goes c p s k None (here_too z) reply
  aims z d reply is at_z not_yet loose size same keeps next =
      goes c p s k y o v None z (Announces kept (area_read c)) reply (Some (placing v.addr (front_of v.layout v.epoch (area_read c)) kept false)) None s.ghost is next refl
      (subst (λ (u : Known). Law c p s k (here_too z) None u s.ghost)
      (ap (law.copying ((team c).worker k)) same ∙ still_seeks c p s k y o v kept z (placing v.addr (front_of v.layout v.epoch (area_read c)) kept false) is not_yet)
      (places_are_aimed (era c) (memory c) (team c) s.ghost k d (front_of v.layout v.epoch (area_read c)) (prepared c p s k (here_too z) is)
      (ap (λ (u : Known). u.copy) is.as_known ∙ copy_is y v o z ∙ at_z) loose (front_is z is)))
      refl refl (keeps, has_room z d is at_z loose size)

  module _ (is : Is c k (here_too (LoadsArea kept))) where
    pub loads_area : StepsSo c p s k (here_too (LoadsArea kept))
    loads_area =
        let sound = is_sound y v c.pages c.mutators k o (LoadsArea kept) is.fits in
        let pages = has_pages y v c.pages c.mutators k o (LoadsArea kept) is.fits in
        wants c p s k (here_too (LoadsArea kept)) (Load (place_of c.pages (Area (to_space (era c).epoch))))
        (wants_its y v o (LoadsArea kept) ∙ ap (λ n. Some (Load (place_of n (Area (to_space v.epoch))))) pages
        ∙ ap (λ e. Some (Load (place_of c.pages (Area (to_space e))))) (epoch_is c p s k y v o (LoadsArea kept) is))
        (loads c p s k (here_too (LoadsArea kept)) (Area (to_space (era c).epoch)) row_of_area
        (aims (LoadsArea kept) (law.begun kept.word v.addr (size_of kept)) (Value (area_now c)) is refl refl refl refl refl sound.fits (ap (by_area kept) read)))

  module _ (area : AreaWord) (is : Is c k (here_too (Reserves kept area))) where
    abbrev sound_reserve : IsSound (machine_at y o v (Reserves kept area))
    sound_reserve = is_sound y v c.pages c.mutators k o (Reserves kept area) is.fits

    abbrev announced : Copy
    announced = placing v.addr (front_of v.layout v.epoch area) kept true

    -- FRONT is moved from the announced place
    module _ (same : area_now c ≡ encode_area area) where
      says : area_read c ≡ area
      says = ap area_in same ∙ area_in-encode_area area sound_reserve.fits.1.fits

      at_front : front_of v.layout v.epoch area ≡ (memory c).front
      at_front = sym (ap (front_of v.layout v.epoch) says) ∙ front_is (Reserves kept area) is

      now : IsAreaNow (era c) (memory c) area
      now = record {
        front = front_word c ∙ ap (λ (a : AreaWord). space_start c.pages (to_space (era c).epoch) + a.front) says ∙ ap (λ n. n + area.front) (start_is c);
        low = low_word c ∙ ap (λ (a : AreaWord). space_start c.pages (to_space (era c).epoch) + a.low) says ∙ ap (λ n. n + area.low) (start_is c);
        owed = owed_word c ∙ ap (λ (a : AreaWord). a.owed) says;
        fits = sound_reserve.fits.1.fits;
      }

      inside : front_of v.layout v.epoch area + size_of kept ≤ 128 * v.layout.pages
      inside =
          let b = sound_reserve.fits.1.below_low in
          let l = sound_reserve.fits.1.in_space in
          let e = ends_below v.layout.pages v.epoch in
          omega (arith, b, l, e)

      moved : Goes c p s k (Some (AreaIs (to_space (era c).epoch) (area_past (size_of kept) area))) (here_too (Reserves kept area)) Won
      moved =
          let copy : Copy = record announced { reserved = true; crossed = (front_of v.layout v.epoch area + 63) / 64 } in
          goes c p s k y o v (Some (AreaIs (to_space (era c).epoch) (area_past (size_of kept) area))) (Reserves kept area) (StoresHeader (reserved_at v.layout v.epoch kept area)) Won
          (Some copy) None (law.reserved s.ghost k v.addr (front_of v.layout v.epoch area) (size_of kept)) is refl refl
          (subst (λ (u : Known). Law c p s k (here_too (Reserves kept area)) (Some (AreaIs (to_space (era c).epoch) (area_past (size_of kept) area))) u
          (law.reserved s.ghost k v.addr (front_of v.layout v.epoch area) (size_of kept)))
          (still_seeks c p s k y o v kept (Reserves kept area) copy is refl)
          (places_are_reserved (era c) (memory c) (team c) s.ghost k announced area (prepared c p s k (here_too (Reserves kept area)) is)
          (ap (λ (u : Known). u.copy) is.as_known ∙ copy_is y v o (Reserves kept area)) refl refl at_front now))
          refl refl (record { keeps = sound_reserve.fits.0; inside = inside })

    -- the exchange is lost to an area with the same FRONT, which is announced already
    same_front : (area_read c).front ≡ area.front → stage_after v.layout v.epoch (Reserves kept area) (Lost (area_now c)) ≡ Reserves kept (area_read c)
        → Goes c p s k None (here_too (Reserves kept area)) (Lost (area_now c))
    same_front same next =
        stays c p s k y o v (Reserves kept area) (Reserves kept (area_read c)) (Lost (area_now c)) is next refl
        (ap (λ f. Some (placing v.addr (space_start v.layout.pages (to_space v.epoch) + f) kept true)) same) refl refl
        (sound_reserve.fits.0, has_room (Reserves kept area) announced is refl refl refl)

    lost : area_now c ≢ encode_area area → Goes c p s k None (here_too (Reserves kept area)) (Lost (area_now c))
    lost other = ⊎_elim
        (λ (e : (area_read c).front ≡ area.front).
        same_front e (ap (by_other_area kept area) read ∙ rw (eq-eqb (area_read c).front area.front e) refl))
        (λ (d : (area_read c).front ≢ area.front).
        aims (Reserves kept area) announced (Lost (area_now c)) is refl refl refl refl refl sound_reserve.fits.0
        (ap (by_other_area kept area) read ∙ rw (ne_eqb (area_read c).front area.front d) refl))
        (cases_eq (area_read c).front area.front)

    pub reserves : StepsSo c p s k (here_too (Reserves kept area))
    reserves =
        let pages = has_pages y v c.pages c.mutators k o (Reserves kept area) is.fits in
        let old = encode_area area in
        let new = encode_area (area_past (size_of kept) area) in
        wants c p s k (here_too (Reserves kept area)) (Exchange (place_of c.pages (Area (to_space (era c).epoch))) old new)
        (wants_its y v o (Reserves kept area) ∙ ap (λ n. Some (Exchange (place_of n (Area (to_space v.epoch))) old new)) pages
        ∙ ap (λ e. Some (Exchange (place_of c.pages (Area (to_space e))) old new)) (epoch_is c p s k y v o (Reserves kept area) is))
        (exchanges c p s k (here_too (Reserves kept area)) (AreaIs (to_space (era c).epoch) (area_past (size_of kept) area)) old row_of_area moved lost)
