-- Before a word is written on an open page a mutator looks whether the page is saved, if a checkpoint is in progress. To the proofs of the
-- heap it is one that writes already.
use Rattle.std.proofs.Common.{◌≡◌, ℕ, ◌<◌, ◌≤◌, ◌==◌, Bool, true, false, cond, Option, Some, None, is_some, nat_lt, refl, subst, arith}
use Rattle.std.proofs.lemmas.Bool.{eqb-false}
use Rattle.std.proofs.lemmas.Option.{same_Some}
use Rattle.space_map.specs.Spaces.{Layout, board_page}
use Rattle.alloc_end.specs.declared.place_stage.PlaceStage.{PlaceStage}
use Rattle.alloc_end.specs.declared.place_stage.PlaceStage.TheVariants as place_stage
use Rattle.alloc_end.specs.Place as place
use Rattle.alloc_end.specs.Soundness.{IsSoundPlacing}
use Rattle.page_saves.specs.Guard as guard
use Rattle.record_access.specs.declared.access.Access.{Access}
use Rattle.record_access.specs.declared.access_stage.AccessStage.{AccessStage}
use Rattle.record_access.specs.declared.access_stage.AccessStage.TheVariants.{LooksAtField, LoadsField, StoresField, ExchangesField, StoresBoard, SwapsBoard}
use Rattle.gc_worker.specs.declared.stage.write.Write.{Write}
use Rattle.gc_worker.specs.declared.stage.write.Write.TheVariants.{OfAccess, OfPlace}
use Rattle.gc_worker.specs.declared.stage.Stage.{Stage}
use Rattle.gc_worker.specs.declared.stage.Stage.TheVariants.{Accesses, Places, Guards}
use Rattle.record_access.specs.Access.{FitsStage}
use Rattle.record_access.specs.Access as access
use Rattle.gc_worker.specs.Steps.Turned.{guards, guards_access, guards_place, writes}
use Rattle.gc_worker.specs.Workers.Fits.{Fits, FitsEnd, FitsPlace, FitsTask, FitsWrite, IsOnSide}
use Rattle.gc_worker.specs.Workers.Held.{Held, at_stage}
use Rattle.gc_worker.specs.Workers.Knows.{knows, known_at}
use Rattle.gc_worker.proofs.Workers.KeptParts.{page_count}

-- ---- the page

-- the page on which it writes next
abbrev pub page_written : Write → Option ℕ
page_written (OfAccess a) = access.writes_on a.spaces a.stage
page_written (OfPlace p) = place.writes_on p p.stage

access_within : (l : Layout) (stage : AccessStage) (page : ℕ) → FitsStage l.pages stage → access.writes_on l stage ≡ Some page → page ≤ board_page l.pages
access_within l (StoresField f new) page fits on = let e = same_Some _ page on in omega (arith, fits, e)
access_within l (ExchangesField f e old) page fits on = let e = same_Some _ page on in omega (arith, fits, e)
access_within l (StoresBoard word new) page fits on = let e = same_Some _ page on in omega (arith, e)
access_within l (SwapsBoard s old) page fits on = let e = same_Some _ page on in omega (arith, e)
access_within l _ page fits on = absurd (cc)

place_within : (p : place.Placing) (stage : PlaceStage) (page : ℕ) → IsSoundPlacing (record p { stage = stage }) → place.writes_on p stage ≡ Some page
    → page ≤ board_page p.layout.pages
place_within p place_stage.StoresCount page sound on = let e = same_Some _ page on in let run = sound.run in let room = sound.stage in omega (arith, e, run, room)
place_within p place_stage.StoresTarget page sound on = let e = same_Some _ page on in let run = sound.run in let room = sound.stage in omega (arith, e, run, room)
place_within p place_stage.StoresLink page sound on = let e = same_Some _ page on in let run = sound.run in let room = sound.stage in omega (arith, e, run, room)
place_within p place_stage.StoresHeader page sound on = let e = same_Some _ page on in let run = sound.run in let room = sound.stage in omega (arith, e, run, room)
place_within p _ page sound on = absurd (cc)

pub written_within : (x : Held) (write : Write) (page : ℕ) → FitsWrite x write page → page ≤ board_page x.layout.pages
written_within x (OfAccess a) page fits =
    subst (λ (l : Layout). page ≤ board_page l.pages) fits.0.layout (access_within a.spaces a.stage page fits.0.sound.stage fits.1)
written_within x (OfPlace p) page fits =
    subst (λ (l : Layout). page ≤ board_page l.pages) fits.0.layout (place_within p p.stage page fits.0.sound fits.1)

-- who is to load the target of a cell writes on none
pub writes_nothing : (l : Layout) (stage : AccessStage) → access.is_at_target stage ≡ true → access.writes_on l stage ≡ None
writes_nothing l (LooksAtField f usage) target = refl
writes_nothing l (LoadsField f into) target = refl
writes_nothing l _ target = absurd (cc)

-- what is to be written fits a worker at each stage
pub place_at : (x : Held) (was now : Stage) (p : place.Placing) → FitsPlace (at_stage x was) p → FitsPlace (at_stage x now) p
place_at x was now p fits =
    record { layout = fits.layout; epoch = fits.epoch; fields = fits.fields; snap = fits.snap; target = fits.target; going = fits.going; rest = fits.rest; sound = fits.sound }

pub write_at : (x : Held) (was now : Stage) (write : Write) (page : ℕ) → FitsWrite (at_stage x was) write page → FitsWrite (at_stage x now) write page
write_at x was now (OfAccess a) page fits = fits
write_at x was now (OfPlace p) page fits = (place_at x was now p fits.0, fits.1)

-- ---- what is known of it

module _ (x : Held) where
  place_known : (p : place.Placing) (stage : PlaceStage) (page : ℕ) → place.writes_on p stage ≡ Some page → (g : guard.Guarding)
      → known_at x (Guards g (OfPlace (record p { stage = stage }))) ≡ known_at x (Places (record p { stage = stage }))
  place_known p place_stage.StoresCount page on g = refl
  place_known p place_stage.StoresTarget page on g = refl
  place_known p place_stage.StoresLink page on g = refl
  place_known p place_stage.StoresHeader page on g = refl
  place_known p _ page on g = absurd (cc)

  access_known : (a : Access) (stage : AccessStage) (page : ℕ) → access.writes_on a.spaces stage ≡ Some page → (g : guard.Guarding)
      → known_at x (Guards g (OfAccess (record a { stage = stage }))) ≡ known_at x (Accesses (record a { stage = stage }))
  access_known a (StoresField f new) page on g = refl
  access_known a (ExchangesField f e old) page on g = refl
  access_known a (StoresBoard word new) page on g = refl
  access_known a (SwapsBoard s old) page on g = refl
  access_known a _ page on g = absurd (cc)

  -- as long as it looks
  pub guard_known : (write : Write) (page : ℕ) → page_written write ≡ Some page → (g : guard.Guarding) → known_at x (Guards g write) ≡ known_at x (writes write)
  guard_known (OfAccess a) page on g = access_known a a.stage page on g
  guard_known (OfPlace p) page on g = place_known p p.stage page on g

  by_page : (write : Write) (page : Option ℕ) → page_written write ≡ page → known_at x (guards x write page (writes write)) ≡ known_at x (writes write)
  by_page write None on = refl
  by_page write (Some page) on = by_running (x.running == 0)
    where
      by_running : (none : Bool) → known_at x (cond none (writes write) (Guards (guard.begun x.layout page x.running x.number) write)) ≡ known_at x (writes write)
      by_running true = refl
      by_running false = guard_known write page on (guard.begun x.layout page x.running x.number)

  pub guards_access_known : (a : Access) → knows (at_stage x (guards_access x a)) ≡ knows (at_stage x (Accesses a))
  guards_access_known a = by_page (OfAccess a) (access.writes_on a.spaces a.stage) refl

  pub guards_place_known : (p : place.Placing) → knows (at_stage x (guards_place x p)) ≡ knows (at_stage x (Places p))
  guards_place_known p = by_page (OfPlace p) (place.writes_on p p.stage) refl

-- ---- what it keeps of itself

module _ (n mutators k : ℕ) (x : Held) where
  abbrev At : Stage → Type 0
  At stage = Fits n mutators k (at_stage x stage)

  -- a checkpoint in progress is one for which there is room
  room_to_run : (b : Bool) → x.layout.checkpoints ≡ b → (stage : Stage) → At stage → 0 < x.running → x.layout.checkpoints ≡ true
  room_to_run true is stage f runs = is
  room_to_run false is stage f runs = let none = f.numbers.none is in absurd (omega (arith, none, runs))

  module _ (page : ℕ) (runs : 0 < x.running) where
    abbrev looks : guard.Guarding
    looks = guard.begun x.layout page x.running x.number

    looks_by : (write : Write) (f : At (writes write)) → FitsWrite (at_stage x (Guards looks write)) write page → IsOnSide (Guards looks write) (nat_lt x.number x.mutators) (is_some x.account.end)
        → FitsEnd (Guards looks write) (is_some x.account.end) → FitsTask (at_stage x (Guards looks write)) (Guards looks write) → At (Guards looks write)
    looks_by write f fits side end task =
        let room = room_to_run x.layout.checkpoints refl (writes write) f runs in
        let few = f.few in
        let number = f.number in
        record {
          worker = f.worker;
          end = end;
          side = side;
          task = task;
          stage = record {
            room = room;
            layout = refl;
            worker = refl;
            number = refl;
            runs = runs;
            going = tt;
            sound = record {
              pages = page_count n mutators k (at_stage x (writes write)) f;
              room = room;
              page = written_within (at_stage x (Guards looks write)) write page fits;
              number = f.numbers.running_fits;
              worker = omega (arith, few, number);
              stage = tt;
            };
            write = fits;
          };
        }

    looks_first : (write : Write) → At (writes write) → page_written write ≡ Some page → At (Guards looks write)
    looks_first (OfAccess a) f on = looks_by (OfAccess a) f (f.stage, on) f.side f.end f.task
    looks_first (OfPlace p) f on = looks_by (OfPlace p) f (place_at x (Places p) (Guards looks (OfPlace p)) p f.stage, on) f.side f.end f.task

  fits_by : (write : Write) → At (writes write) → (page : Option ℕ) → page_written write ≡ page → At (guards x write page (writes write))
  fits_by write f None on = f
  fits_by write f (Some page) on = by_running (x.running == 0) refl
    where
      by_running : (none : Bool) → (x.running == 0) ≡ none → At (cond none (writes write) (Guards (guard.begun x.layout page x.running x.number) write))
      by_running true test = f
      by_running false test = let other = eqb-false x.running 0 test in looks_first page (omega (arith, other)) write f on

  pub guards_access_fits : (a : Access) → At (Accesses a) → At (guards_access x a)
  guards_access_fits a f = fits_by (OfAccess a) f (access.writes_on a.spaces a.stage) refl

  pub guards_place_fits : (p : place.Placing) → At (Places p) → At (guards_place x p)
  guards_place_fits p f = fits_by (OfPlace p) f (place.writes_on p p.stage) refl
