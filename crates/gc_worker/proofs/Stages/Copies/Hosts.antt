-- A worker that copies a record: for a word that it scans, or for a register that it forwards.
use Rattle.std.proofs.Common.{◌≡◌, ℕ, Option, Some, None, refl, sym, ap, ◌∙◌}
use Rattle.atom_store.specs.declared.reply.Reply.{Reply}
use Rattle.atom_store.specs.declared.turn.Turn.TheVariants.{More}
use Rattle.forwarding.specs.declared.evac_stage.EvacStage.{EvacStage}
use Rattle.forwarding.specs.declared.evac_stage.EvacStage.TheVariants.{LoadsWeak, StoresLink, TakesWeak, Ended}
use Rattle.forwarding.specs.Evacuation as evac
use Rattle.forwarding.specs.Soundness as sound
use Rattle.forwarding.specs.Taken as taken
use Rattle.page_scan.specs.Scanning.{Scanning}
use Rattle.heap_state.specs.Known.{Copy, Quest, Origin, Register, Scanned}
use Rattle.gc_worker.specs.declared.stage.after.After.{After}
use Rattle.gc_worker.specs.declared.stage.back.Back.{Back}
use Rattle.gc_worker.specs.declared.stage.back.Back.TheVariants.{ToAccess}
use Rattle.gc_worker.specs.declared.stage.Stage.{Stage}
use Rattle.gc_worker.specs.declared.stage.Stage.TheVariants.{Forwards, Evacuates}
use Rattle.gc_worker.specs.Workers.Fits.{Fits, FitsBack, Takes}
use Rattle.gc_worker.specs.Workers.Held.{Held}
use Rattle.gc_worker.specs.Workers.Knows.{knows, copy_at, found_in, linking_at, cursor_asked}
use Rattle.gc_worker.specs.Steps.Turned.{Silent, turned, turned_copy, turned_register, told, won}
use Rattle.gc_worker.specs.Steps.Wanted.{wanted}
use Rattle.gc_worker.proofs.Workers.KeptParts.{refit}

-- what the copy is for
pub data Host : Type 0 where
  ForScan : Scanning → Back → Host
  ForRegister : (register : ℕ) → After → Host

abbrev pub stage_of : Host → evac.Evacuation → Stage
stage_of (ForScan s back) v = Evacuates v s back
stage_of (ForRegister r after) v = Forwards (record { register = r; evac = v; after = after })

abbrev pub origin_of : Host → Origin
origin_of (ForScan s back) = Scanned (cursor_asked s.stage)
origin_of (ForRegister r after) = Register r

-- who has found nothing yet has nothing to link
pub nothing_to_link : (z : EvacStage) → found_in z ≡ None → linking_at z ≡ None
nothing_to_link (LoadsWeak to) e = absurd (cc)
nothing_to_link (StoresLink to word) e = absurd (cc)
nothing_to_link (TakesWeak to word) e = absurd (cc)
nothing_to_link _ e = refl

module _ (y : Held) (o : Host) (w : evac.Evacuation) where
  abbrev pub machine_at : EvacStage → evac.Evacuation
  machine_at z = record w { stage = z }

  abbrev pub at : EvacStage → Held
  at z = record y { stage = stage_of o (machine_at z) }

-- ---- what holds whatever the copy is for

-- a copy that has more to do goes on
going_on : (z : EvacStage) → taken.told z ≡ More → evac.IsGoing z
going_on (Ended to) more = absurd (cc)
going_on _ more = tt

module _ (y : Held) (w : evac.Evacuation) where
  pub wants_its : (o : Host) (z : EvacStage) → wanted (at y o w z) ≡ evac.wanted (machine_at y o w z)
  wants_its (ForScan s back) z = refl
  wants_its (ForRegister r after) z = refl

  pub tells_nothing : (o : Host) (z : EvacStage) (reply : Reply) → told (at y o w z) reply ≡ Silent
  tells_nothing (ForScan s back) z reply = refl
  tells_nothing (ForRegister r after) z reply = refl

  pub wins_nothing : (o : Host) (z : EvacStage) (reply : Reply) → won (at y o w z) reply ≡ None
  wins_nothing (ForScan s back) z reply = refl
  wins_nothing (ForRegister r after) z reply = refl

  -- while the copy goes on, the worker is at its next stage
  pub turns : (o : Host) (z q : EvacStage) (reply : Reply) → taken.stage_after w.layout w.epoch z reply ≡ q → taken.told q ≡ More
      → turned (at y o w z) reply ≡ at y o w q
  turns (ForScan s back) z q reply is more =
      ap (λ n. turned_copy (at y (ForScan s back) w z) (machine_at y (ForScan s back) w n) s back (taken.told n)) is
      ∙ ap (λ t. turned_copy (at y (ForScan s back) w z) (machine_at y (ForScan s back) w q) s back t) more
  turns (ForRegister r after) z q reply is more =
      ap (λ n. turned_register (at y (ForRegister r after) w z) (record { register = r; evac = machine_at y (ForRegister r after) w n; after = after }) (taken.told n)) is
      ∙ ap (λ t. turned_register (at y (ForRegister r after) w z) (record { register = r; evac = machine_at y (ForRegister r after) w q; after = after }) t) more

  pub takes : (o : Host) (z : EvacStage) (reply : Reply) → sound.IsSound (taken.taken (machine_at y o w z) reply) → Takes (at y o w z) reply
  takes (ForScan s back) z reply is = is
  takes (ForRegister r after) z reply is = is

  -- ---- what the worker keeps of itself

  module _ (n mutators k : ℕ) where
    pub is_sound : (o : Host) (z : EvacStage) → Fits n mutators k (at y o w z) → sound.IsSound (machine_at y o w z)
    is_sound (ForScan s back) z f = f.stage.0.sound
    is_sound (ForRegister r after) z f = f.stage.copy.sound

    pub has_pages : (o : Host) (z : EvacStage) → Fits n mutators k (at y o w z) → w.layout.pages ≡ n
    has_pages (ForScan s back) z f = ap (λ l. l.pages) f.stage.0.layout ∙ f.pages
    has_pages (ForRegister r after) z f = ap (λ l. l.pages) f.stage.copy.layout ∙ f.pages

    pub is_worker : (o : Host) (z : EvacStage) → Fits n mutators k (at y o w z) → w.worker ≡ k
    is_worker (ForScan s back) z f = f.stage.0.worker ∙ f.number
    is_worker (ForRegister r after) z f = f.stage.copy.worker ∙ f.number

    pub with_sound : (z q : EvacStage) → sound.IsSound (record w { stage = z }) → sound.FitsStage w.layout.pages w.addr q → sound.IsSound (record w { stage = q })
    with_sound z q s fits = record { pages = s.pages; worker = s.worker; addr = s.addr; fits = fits }

    same_back : (o : Host) (z q : EvacStage) (b : Back) → FitsBack (at y o w z) b → FitsBack (at y o w q) b
    same_back o z q (ToAccess _) f = f
    same_back o z q _ f = f

    pub refits : (o : Host) (z q : EvacStage) → Fits n mutators k (at y o w z) → taken.told q ≡ More → sound.FitsStage w.layout.pages w.addr q → Fits n mutators k (at y o w q)
    refits (ForScan s back) z q f more fits =
        let a = f.stage.0 in
        refit n mutators k (at y (ForScan s back) w z) f (Evacuates (machine_at y (ForScan s back) w q) s back) f.end f.side f.task (
          record { layout = a.layout; of_epoch = a.of_epoch; worker = a.worker; going = going_on q more; sound = with_sound z q a.sound fits },
          record { layout = f.stage.1.layout; epoch = f.stage.1.epoch; sound = f.stage.1.sound },
          f.stage.2,
          same_back (ForScan s back) z q back f.stage.3,
        )
    refits (ForRegister r after) z q f more fits =
        let a = f.stage.copy in
        refit n mutators k (at y (ForRegister r after) w z) f
        (Forwards (record { register = r; evac = machine_at y (ForRegister r after) w q; after = after })) f.end f.side f.task
        (record { register = f.stage.register; copy = record { layout = a.layout; of_epoch = a.of_epoch; worker = a.worker; going = going_on q more; sound = with_sound z q a.sound fits } })

  -- ---- what the proofs of the heap know of it

  pub copy_is : (o : Host) (z : EvacStage) → (knows (at y o w z)).copy ≡ copy_at w.layout w.addr w.epoch z
  copy_is (ForScan s back) z = refl
  copy_is (ForRegister r after) z = refl

  abbrev pub quest_with : Host → Option ℕ → Quest
  quest_with o finding = record { old = w.addr; origin = origin_of o; found = finding }

  pub quest_is : (o : Host) (z : EvacStage) → (knows (at y o w z)).quest ≡ Some (quest_with o (found_in z))
  quest_is (ForScan s back) z = refl
  quest_is (ForRegister r after) z = refl

  pub linking_is : (o : Host) (z : EvacStage) → (knows (at y o w z)).linking ≡ linking_at z
  linking_is (ForScan s back) z = refl
  linking_is (ForRegister r after) z = refl

  -- from one stage to the next it is the same but for the copy, what is found, and the cell to link
  pub becomes_known : (o : Host) (z q : EvacStage) (copy : Option Copy) (found : Option ℕ) → copy_at w.layout w.addr w.epoch q ≡ copy → found_in q ≡ found
      → record (knows (at y o w z)) { copy = copy; quest = Some (quest_with o found); linking = linking_at q } ≡ knows (at y o w q)
  becomes_known (ForScan s back) z q copy found c f = λ i. record (knows (at y (ForScan s back) w q)) { copy = sym c i; quest = Some (quest_with (ForScan s back) (sym f i)) }
  becomes_known (ForRegister r after) z q copy found c f = λ i. record (knows (at y (ForRegister r after) w q)) { copy = sym c i; quest = Some (quest_with (ForRegister r after) (sym f i)) }
