-- What the step of each stage makes of page words and of LOW.
use Rattle.std.proofs.Common.{◌≡◌, ℕ, ◌+◌, ◌*◌, ◌^◌, ◌<◌, ◌≤◌, ◌==◌, Bool, true, false, cond, slice_index, Option, Some, None, refl, sym, ap, subst, ◌∙◌, arith}
use Rattle.plain_state.specs.State.{Plain}
use Rattle.atom_store.specs.declared.reply.Reply.{Reply}
use Rattle.atom_store.specs.declared.reply.Reply.TheVariants as replies
use Rattle.atom_store.specs.declared.step.Step.{Step}
use Rattle.atom_store.specs.declared.step.Step.TheVariants.{Store, Exchange}
use Rattle.atom_store.specs.StepOn as on
use Rattle.space_map.specs.declared.page_word.PageWord.TheVariants.{Open, Scanning}
use Rattle.space_map.specs.PageWord.{age_of, encode_page}
use Rattle.space_map.specs.AreaWord.{encode_area, part_end}
use Rattle.space_map.specs.Spaces.{Layout, to_space}
use Rattle.space_map.specs.Table.{Area, Page, place_of}
use Rattle.heap_state.specs.Configuration.{Configuration, Stands, table, era, team}
use Rattle.heap_state.specs.Known.{Known, Stock}
use Rattle.heap_laws.proofs.Lifting.Configurations.{ready}
use Rattle.alloc_end.specs.declared.fitting.Fitting.{Fitting}
use Rattle.alloc_end.specs.declared.place_stage.PlaceStage.{PlaceStage}
use Rattle.alloc_end.specs.declared.place_stage.PlaceStage.TheVariants as place_stage
use Rattle.alloc_end.specs.Place as place
use Rattle.fault_duty.specs.declared.duty_stage.DutyStage.{DutyStage}
use Rattle.fault_duty.specs.declared.duty_stage.DutyStage.TheVariants as duty_stage
use Rattle.fault_duty.specs.Duty as duty
use Rattle.cell_walk.specs.Walking as walk
use Rattle.cell_walk.proofs.WalkRows as walk_rows
use Rattle.forwarding.specs.declared.evac_stage.EvacStage.{EvacStage}
use Rattle.forwarding.specs.declared.evac_stage.EvacStage.TheVariants as evac_stage
use Rattle.forwarding.specs.Evacuation as evac
use Rattle.forwarding.specs.Soundness as evac_sound
use Rattle.gate_core.specs.declared.flip_stage.FlipStage.{FlipStage}
use Rattle.gate_core.specs.declared.flip_stage.FlipStage.TheVariants as flip_stage
use Rattle.gate_core.specs.Flip as flip
use Rattle.page_scan.specs.Scanning as scan
use Rattle.page_slots.specs.declared.claim_stage.ClaimStage.{ClaimStage}
use Rattle.page_slots.specs.declared.claim_stage.ClaimStage.TheVariants as claim_stage
use Rattle.page_slots.specs.declared.open_stage.OpenStage.{OpenStage}
use Rattle.page_slots.specs.declared.open_stage.OpenStage.TheVariants as open_stage
use Rattle.page_slots.specs.Claim as claim
use Rattle.page_slots.specs.Open as open_page
use Rattle.gc_worker.specs.declared.stage.back.Back.{Back}
use Rattle.gc_worker.specs.declared.stage.Stage.{Stage}
use Rattle.gc_worker.specs.declared.stage.Stage.TheVariants.{Flips, Places, Serves, Opens}
use Rattle.gc_worker.specs.Steps.Goes.{Is}
use Rattle.gc_worker.specs.Workers.Held.{Held, at_stage}
use Rattle.gc_worker.specs.Workers.Knows.{opened_to, scan_of}
use Rattle.gc_worker.specs.Steps.Turned.{PageWon, won, won_at, won_by, won_in}
use Rattle.gc_worker.specs.Steps.Wanted.{wanted, wanted_at}
use Rattle.gc_worker.proofs.Words.Areas.{is_space}
use Rattle.gc_worker.proofs.Words.Eras.{board_is}
use Rattle.gc_worker.proofs.Words.WorkerRows.{OfCopy, OnRow, WritesSuch, writes_such}
use Rattle.gc_worker.proofs.Stages.OpenedPage.{of_page}
use Rattle.gc_worker.proofs.Stages.Rounds.RoundWords.{page_age}
use Rattle.gc_worker.proofs.Between.Pages.Written.{IsOther}
use Rattle.gc_worker.proofs.Between.Pages.Leaving.{Same, New, Wins, LeavesPages, LeavesBy, nothing_left, this, spares, spares_whole, stores_other, exchanges_area, written, age_now, writes_page, stores_page}

module _ (c : Configuration) (p : Plain) (s : Stands c p) (k : ℕ) (x : Held) where
  abbrev none : Reply → Option PageWon
  none reply = None

  -- the worker at this stage
  abbrev Kind : Stage → Type 0
  Kind stage = Is c k (at_stage x stage) → LeavesBy c (wanted_at x stage) (won_at stage)

  own : (l : Layout) → l ≡ x.layout → x.layout.pages ≡ c.pages → l.pages ≡ c.pages
  own l same pages = ap (λ (m : Layout). m.pages) same ∙ pages

  -- ---- areas

  copies : (l : Layout) (a e j : ℕ) → l.pages ≡ c.pages → (stage : EvacStage) → evac_sound.FitsStage l.pages a stage → LeavesBy c (evac.wanted_at l a e j stage) none
  copies l a e j same (evac_stage.Reserves kept area) fits =
      let room = fits.1 in
      exchanges_area c p s area (evac.area_past (evac.size_of kept) area) room.fits
      (record { front_fits = omega (arith, room.below_low, room.fits.low_fits); low_fits = room.fits.low_fits; owed_fits = omega (arith, room.fits.owed_fits) })
      (omega arith) (to_space e) (is_space e) l.pages same none
  copies l a e j same stage fits = spares c p s l.pages same (evac.wants_at l a e j stage) none tt

  -- the flipper is of the epoch, and resets the other space
  flips : (f : flip.Flipping) (stage : FlipStage) → Is c k (at_stage x (Flips (record f { stage = stage }))) → LeavesBy c (flip.wanted_at f stage) none
  flips f (flip_stage.StoresArea r) is =
      let pages = own f.layout is.fits.stage.layout is.fits.pages in
      let known : ((team c).worker k).epoch ≡ x.epoch = ap (λ (w : Known). w.epoch) is.as_known in
      let timely = (s.invariant.workers k is.below).timely in
      let now : x.epoch ≡ (era c).epoch = sym known ∙ timely.asking (rw is.as_known refl) in
      let e : f.epoch ≡ (era c).epoch = is.fits.stage.epoch ∙ now in
      subst (λ (n : ℕ). LeavesBy c (Some (Store (place_of n (Area (to_space (f.epoch + 1)))) (encode_area (flip.area_reset r.next r.used)))) none) (sym pages)
      (stores_other c p s (to_space (f.epoch + 1)) (encode_area (flip.area_reset r.next r.used)) none (is_space (f.epoch + 1)) (λ same. omega (arith, same, e)))
  flips f (flip_stage.StoresSize r) is =
      spares c p s f.layout.pages (own f.layout is.fits.stage.layout is.fits.pages) (flip.wants_at f (flip_stage.StoresSize r)) none (is_space (f.epoch + 1))
  flips f stage is = spares c p s f.layout.pages (own f.layout is.fits.stage.layout is.fits.pages) (flip.wants_at f stage) none tt

  -- ---- new pages

  room_kept : (traced : Bool) (f : Fitting) → f.area.owed < part_end → place.kept_room traced f.area < part_end
  room_kept true f few = omega arith
  room_kept false f few = few

  places : (z : place.Placing) (stage : PlaceStage) → Is c k (at_stage x (Places (record z { stage = stage }))) → LeavesBy c (place.wanted_at z stage) none
  places z (place_stage.ExchangesArea f) is =
      let room = is.fits.stage.sound.stage in
      let few = is.fits.stage.sound.pages in
      exchanges_area c p s f.area (place.area_after (place.words_for z.header) f)
      (record { front_fits = omega (arith, room.kept, room.in_space, few); low_fits = omega (arith, room.in_space, few); owed_fits = room.owed })
      (record { front_fits = omega (arith, room.kept, room.in_space, few); low_fits = omega (arith, room.in_space, few); owed_fits = room_kept f.traced f room.owed })
      (omega arith) (to_space z.epoch) (is_space z.epoch) z.layout.pages (own z.layout is.fits.stage.layout is.fits.pages) none
  places z (place_stage.OpensPage new) is =
      let fits = is.fits.stage.sound.stage in
      let few = is.fits.stage.sound.pages in
      let stock : Stock = opened_to (record z { stage = place_stage.OpensPage new }) new in
      let known : ((team c).worker k).epoch ≡ x.epoch = ap (λ (w : Known). w.epoch) is.as_known in
      let timely = (s.invariant.workers k is.below).timely in
      let e : z.epoch ≡ (era c).epoch = is.fits.stage.epoch ∙ (sym known ∙ timely.running (rw is.as_known refl)) in
      let q = s.invariant.stocks.stocked k is.below stock (ap (λ (w : Known). w.stock) is.as_known) e in
      let below = (ready c p s k is.below).laid_out.below in
      let b = board_is c in
      let n = own z.layout is.fits.stage.layout is.fits.pages in
      let within : new.next ≤ 2 * c.pages = omega (arith, fits, n) in
      stores_page c p s new.next within (Open z.epoch) is.fits.stage.sound.epoch z.layout.pages n none
      (New (age_now c p s new.next within (Open z.epoch) is.fits.stage.sound.epoch ∙ ap (λ (d : ℕ). d + 1) e)
      (omega (arith, q.lies, q.aligned, fits))
      (omega (arith, q.lies, q.aligned, fits, below)))
  places z stage is = spares_whole c p s z.layout.pages (own z.layout is.fits.stage.layout is.fits.pages) (place.wants_at z stage) none tt

  -- ---- scanned pages

  -- the page was being scanned in this epoch
  opens : (o : open_page.Opening) (z : scan.Scanning) (back : Back) (stage : OpenStage) → Is c k (at_stage x (Opens (record o { stage = stage }) z back)) → LeavesBy c (open_page.wanted_at o stage) none
  opens o z back open_stage.StoresOpen is =
      let f = is.fits.stage.0 in
      let n = own o.layout f.layout is.fits.pages in
      let within : o.page ≤ 2 * c.pages = (let a = f.sound.page in omega (arith, a, n)) in
      let scans : ((team c).worker k).scan ≡ Some (scan_of z z.stage) = ap (λ (w : Known). w.scan) is.as_known in
      let known : ((team c).worker k).epoch ≡ x.epoch = ap (λ (w : Known). w.epoch) is.as_known in
      let knows = s.invariant.workers k is.below in
      let e : o.epoch ≡ (era c).epoch = f.epoch ∙ (sym known ∙ knows.present (scan_of z z.stage) scans) in
      let at : (scan_of z z.stage).page ≡ o.page = of_page z z.stage ∙ sym f.page in
      let claimed = (knows.scan (scan_of z z.stage) scans).claimed in
      let before : age_of ((table c).page o.page) ≡ (era c).epoch + 1 = ap (λ (q : ℕ). age_of ((table c).page q)) (sym at) ∙ ap age_of claimed in
      stores_page c p s o.page within (Open o.epoch) f.sound.epoch o.layout.pages n none
      (Same (age_now c p s o.page within (Open o.epoch) f.sound.epoch ∙ (ap (λ (d : ℕ). d + 1) e ∙ (sym before ∙ page_age c o.page))))
  opens o z back stage is = spares c p s o.layout.pages (own o.layout is.fits.stage.0.layout is.fits.pages) (open_page.wants_at o stage) none tt

  -- ---- claims

  claims : (d : duty.Round) (back : Back) (q : claim.Claiming) (stage : ClaimStage) → Is c k (at_stage x (Serves (record d { stage = duty_stage.Claims (record q { stage = stage }) }) back))
      → LeavesBy c (claim.wanted_at q stage) (won_by q stage)
  claims d back q claim_stage.Exchanges is =
      let sound = is.fits.stage.0.sound.stage in
      let n = own q.layout (sound.layout ∙ is.fits.stage.0.layout) is.fits.pages in
      let within : q.page ≤ 2 * c.pages = (let a = sound.sound.page in omega (arith, a, n)) in
      let w = sound.sound.worker in
      let fits : (q.epoch < 2 ^ 32) × (q.worker < 2 ^ 8) = (sound.sound.epoch, omega (arith, w)) in
      subst (λ (m : ℕ). LeavesBy c (Some (Exchange (place_of m (Page q.page)) (encode_page q.found) (encode_page (Scanning q.epoch q.worker)))) (won_by q claim_stage.Exchanges)) (sym n)
      (this c p s (Exchange (place_of c.pages (Page q.page)) (encode_page q.found) (encode_page (Scanning q.epoch q.worker))) (won_by q claim_stage.Exchanges)
      (by_test within fits (slice_index c.words (place_of c.pages (Page q.page)) == encode_page q.found)))
    where
      by_test : (within : q.page ≤ 2 * c.pages) (fits : (q.epoch < 2 ^ 32) × (q.worker < 2 ^ 8)) (b : Bool)
          → LeavesPages c (cond b (written c p s q.page within (Scanning q.epoch q.worker) fits) c.words) (won_by q claim_stage.Exchanges (cond b replies.Won (replies.Lost (slice_index c.words (place_of c.pages (Page q.page))))))
      by_test within fits true =
          writes_page c p s q.page within (Scanning q.epoch q.worker) fits (Some (record { page = q.page; epoch = q.epoch }))
          (Wins q.epoch refl (age_now c p s q.page within (Scanning q.epoch q.worker) fits))
      by_test within fits false = nothing_left c p s None
  claims d back q stage is =
      let sound = is.fits.stage.0.sound.stage in
      spares c p s q.layout.pages (own q.layout (sound.layout ∙ is.fits.stage.0.layout) is.fits.pages) (claim.wants_at q stage) (won_by q stage) tt

  rounds : (d : duty.Round) (back : Back) (stage : DutyStage) → Is c k (at_stage x (Serves (record d { stage = stage }) back)) → LeavesBy c (duty.wanted_at d stage) (won_in stage)
  rounds d back (duty_stage.Claims q) is = claims d back q q.stage is
  rounds d back (duty_stage.Walks word v) is =
      spares c p s v.layout.pages (own v.layout (is.fits.stage.0.sound.stage.1.layout ∙ is.fits.stage.0.layout) is.fits.pages) (walk.wants_at v.epoch v.stage) none
      (walk_rows.writes IsOther tt (λ addr. tt) v.epoch v.stage)
  rounds d back stage is = spares c p s d.layout.pages (own d.layout is.fits.stage.0.layout is.fits.pages) (duty.wants_at d stage) (won_in stage) tt

  -- ---- the other machines

  beside : (stage : Stage) → x.layout.pages ≡ c.pages → WritesSuch IsOther (at_stage x stage) (wanted_at x stage) → LeavesBy c (wanted_at x stage) none
  beside stage pages (OnRow on writes same) = subst (λ (o : Option Step). LeavesBy c o none) (sym same) (spares_whole c p s x.layout.pages pages on none writes)
  beside stage pages (OfCopy e v f same) =
      subst (λ (o : Option Step). LeavesBy c o none) (sym same) (copies v.layout v.addr v.epoch v.worker (own v.layout f.layout pages) v.stage f.sound.fits)

  -- ---- the whole

  by_stage : (stage : Stage) → Kind stage
  by_stage (Flips f) is = flips f f.stage is
  by_stage (Places z) is = places z z.stage is
  by_stage (Serves d back) is = rounds d back d.stage is
  by_stage (Opens o z back) is = opens o z back o.stage is
  by_stage stage is = beside stage is.fits.pages (writes_such IsOther tt tt tt (λ addr. tt) (at_stage x stage) stage tt is.fits.stage)

  pub leaves : Is c k x → LeavesBy c (wanted x) (won x)
  leaves is = by_stage x.stage is
