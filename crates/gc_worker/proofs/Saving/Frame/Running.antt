-- A mutator that runs, and knows nothing of checkpoints but what it read when it began to.
use Rattle.std.proofs.Common.{◌≡◌, ℕ, ◌==◌, Bool, true, false, cond, Option, None, Some, refl, sym, ap, ◌∙◌}
use Rattle.std.proofs.lemmas.Bool.{eqb-true}
use Rattle.heap_words.specs.declared.kind.Kind.{Kind}
use Rattle.heap_words.specs.declared.kind.Kind.TheVariants.{Fields}
use Rattle.record_layout.specs.declared.header.Header.{Header}
use Rattle.alloc_end.specs.declared.place_stage.PlaceStage.TheVariants.{LoadsTraced}
use Rattle.alloc_end.specs.Place as place
use Rattle.fault_duty.specs.Duty as duty
use Rattle.gate_core.specs.declared.passage.Passage.TheVariants.{Park, Leave}
use Rattle.page_saves.specs.Guard as guard
use Rattle.heap_state.specs.Saving.Savers.{Saver, NoReads}
use Rattle.heap_laws.specs.Saving.Rounds.{KnowsNoMore}
use Rattle.heap_laws.specs.Saving.Sparing.{MayStoreOn, StoresAtRest, StoresGuarded}
use Rattle.record_access.specs.declared.access.Access.{Access}
use Rattle.gc_worker.specs.declared.stage.after.After.{After}
use Rattle.gc_worker.specs.declared.stage.after.After.TheVariants as afters
use Rattle.gc_worker.specs.declared.stage.back.Back.TheVariants.{ToPlace}
use Rattle.gc_worker.specs.declared.stage.goal.Goal.TheVariants.{ForFlip}
use Rattle.gc_worker.specs.declared.stage.write.Write.{Write}
use Rattle.gc_worker.specs.declared.stage.write.Write.TheVariants.{OfAccess, OfPlace}
use Rattle.gc_worker.specs.declared.stage.Stage.{Stage}
use Rattle.gc_worker.specs.declared.stage.Stage.TheVariants.{Looks, Guards, Serves}
use Rattle.gc_worker.specs.Steps.Turned.{checkpoints, goes_on, guards, guards_access, guards_place, passes, places, serves_snap, writes}
use Rattle.gc_worker.specs.Workers.Held.{Held, fields_for, header_for, may_snap, run_held, target_for}
use Rattle.gc_worker.specs.Workers.Saves.{guarded_by, guarded_in, marked_at, marked_in, saver_at}
use Rattle.gc_worker.proofs.Saving.Frame.Step.{bare_knows_no_more}
use Rattle.gc_worker.proofs.Workers.Guarded.{page_written}

-- what it holds of checkpoints then
abbrev pub running_saver : (snap running : ℕ) → Saver
running_saver snap running = record {
  runs = true;
  asks = false;
  recalled = true;
  reads_done = false;
  snap = snap;
  running = running;
  settled = false;
  still = None;
  guarded = None;
  marked = None;
  save = None;
  reads = NoReads;
  round = None;
}

-- one that has read the same, and saves no page, knows all of it
pub runs_forgetting : (v : Saver) (snap running : ℕ) → v.recalled ≡ true → v.reads_done ≡ false → v.snap ≡ snap → v.running ≡ running → v.save ≡ None
    → KnowsNoMore (running_saver snap running) v
runs_forgetting v snap running recalled done same_snap same_running none =
    bare_knows_no_more (running_saver snap running) v (record { settled = refl; still = refl; guarded = refl; marked = refl; save = refl; reads = refl; round = refl })
    (λ is. (recalled, refl, sym done, sym same_snap, sym same_running)) none

-- ---- pages that are written or opened next

pub none_either : (b : Bool) (o : Option ℕ) → o ≡ None → cond b None o ≡ None
none_either true o none = refl
none_either false o none = none

pub guarded_none : (running : ℕ) → guarded_by running None ≡ None
guarded_none running = none_either (running == 0) None refl

pub guarded_at_rest : (running : ℕ) (page : Option ℕ) → (running == 0) ≡ true → guarded_by running page ≡ None
guarded_at_rest running page test = ap (λ (b : Bool). cond b None page) test

pub guarded_is : (running : ℕ) (write : Write) → guarded_in running (writes write) ≡ guarded_by running (page_written write)
guarded_is running (OfAccess a) = refl
guarded_is running (OfPlace p) = refl

-- with the first store of a record no page is marked
pub first_unmarked : (p : place.Placing) (kind : Kind) → marked_at p (place.stores_first kind) ≡ None
first_unmarked p Fields = refl
first_unmarked p _ = refl

first_by : (p : place.Placing) (kind : Kind) (b : Bool) → marked_at p (cond b (place.stores_first kind) LoadsTraced) ≡ None
first_by p kind true = first_unmarked p kind
first_by p kind false = refl

-- The page on which it writes next is saved or new, or no checkpoint was in progress: so it may store there.
pub may_store_on : (v : Saver) (running page : ℕ) (written : Option ℕ) → v.recalled ≡ true → v.reads_done ≡ false → v.running ≡ running → v.guarded ≡ guarded_by running written
    → written ≡ Some page → MayStoreOn v page
may_store_on v running page written recalled done same guarded on = by_test (running == 0) refl
  where
    by_test : (none : Bool) → (running == 0) ≡ none → MayStoreOn v page
    by_test true test = StoresAtRest recalled done (same ∙ eqb-true running 0 test)
    by_test false test = StoresGuarded (guarded ∙ ap (λ (t : Bool). cond t None written) test ∙ on)

-- ---- where it goes on

module _ (x : Held) (room : x.layout.checkpoints ≡ true) where
  -- at this stage it is such a mutator
  abbrev pub Runs : Stage → Type 0
  Runs stage = saver_at x stage ≡ running_saver x.snap x.running

  pub looks_run : Runs Looks
  looks_run = rw room refl

  pub parks_run : (after : After) → Runs (passes x Park after)
  parks_run after = rw room refl

  pub leaves_run : (after : After) → Runs (passes x Leave after)
  leaves_run after = rw room refl

  pub allocates_run : (d : duty.Round) → Runs (Serves d ToPlace)
  allocates_run d = rw room refl

  pub snaps_run : Runs (serves_snap x)
  snaps_run = rw room refl

  pub checkpoints_run : Runs (checkpoints x ForFlip)
  checkpoints_run = rw room refl

  -- where it writes, with no page found saved or new, nor marked
  writes_run : (write : Write) → guarded_in x.running (writes write) ≡ None → marked_in (writes write) ≡ None → Runs (writes write)
  writes_run (OfAccess a) none unmarked = rw (room, none) refl
  writes_run (OfPlace p) none unmarked = rw (room, none, unmarked) refl

  module _ (write : Write) (unmarked : marked_in (writes write) ≡ None) where
    by_running : (page : ℕ) → page_written write ≡ Some page → (none : Bool) → (x.running == 0) ≡ none
        → Runs (cond none (writes write) (Guards (guard.begun x.layout page x.running x.number) write))
    by_running page on true test = writes_run write (guarded_is x.running write ∙ guarded_at_rest x.running (page_written write) test) unmarked
    by_running page on false test = rw room refl

    by_page : (page : Option ℕ) → page_written write ≡ page → Runs (guards x write page (writes write))
    by_page None on = writes_run write (guarded_is x.running write ∙ ap (guarded_by x.running) on ∙ guarded_none x.running) unmarked
    by_page (Some page) on = by_running page on (x.running == 0) refl

  pub accesses_run : (a : Access) → Runs (guards_access x a)
  accesses_run a = by_page (OfAccess a) refl (page_written (OfAccess a)) refl

  pub places_run_at : (p : place.Placing) → marked_at p p.stage ≡ None → Runs (guards_place x p)
  places_run_at p unmarked = by_page (OfPlace p) unmarked (page_written (OfPlace p)) refl

  pub places_run : (header : Option Header) → Runs (places x header)
  places_run None = looks_run
  places_run (Some header) =
      let p : place.Placing = place.begun x.layout (run_held x) header x.epoch (fields_for x) x.snap (target_for x) in
      places_run_at p (first_by p header.kind _)

  snaps_by : (b : Bool) → Runs (cond b (serves_snap x) Looks)
  snaps_by true = snaps_run
  snaps_by false = looks_run

  pub goes_on_runs : (after : After) → Runs (goes_on x after)
  goes_on_runs afters.Looks = looks_run
  goes_on_runs afters.Places = places_run (header_for x)
  goes_on_runs afters.Snaps = snaps_by (may_snap x)
