-- Where a mutator goes on that stopped, or that made a round: to the proofs of the heap it is one that looks at the gate.
use Rattle.std.proofs.Common.{◌≡◌, ℕ, ◌+◌, ◌<◌, Bool, true, false, cond, List, [], Option, Some, None, is_some, refl, ap, sym, subst, arith, nat_lt, nat_le, ◌≤◌, ◌∙◌}
use Rattle.std.proofs.lemmas.Bool.{leb-true}
use Rattle.std.proofs.lemmas.Option.{same_Some}
use Rattle.heap_words.specs.declared.kind.Kind.{Kind}
use Rattle.heap_words.specs.declared.kind.Kind.TheVariants.{Fields, Raw, Mixed, Weak}
use Rattle.alloc_end.specs.declared.place_stage.PlaceStage.{PlaceStage}
use Rattle.alloc_end.specs.declared.place_stage.PlaceStage.TheVariants.{LoadsTraced, StoresHeader}
use Rattle.alloc_end.specs.declared.run.Run.{Run}
use Rattle.alloc_end.specs.Place as place
use Rattle.alloc_end.specs.Soundness.{RunLiesInSpaces, HoldsFields, HoldsTargetAndLink, IsPlacingGoing, FitsPlaceStage}
use Rattle.gate_core.specs.Recall as recall
use Rattle.record_layout.specs.declared.header.Header.{Header}
use Rattle.record_access.specs.declared.access.Access.{Access}
use Rattle.gc_worker.specs.declared.stage.after.After.{After}
use Rattle.gc_worker.specs.declared.stage.after.After.TheVariants as afters
use Rattle.gc_worker.specs.declared.stage.back.Back.TheVariants.{ToTarget}
use Rattle.gc_worker.specs.declared.stage.Stage.TheVariants.{Looks, Places, Recalls}
use Rattle.gc_worker.specs.Workers.Fits.{Fits, FitsBack, FitsRun, FitsTaskAfter, IsAccessing, IsMaking, IsSnapping, LeavesShortRun, MayBegin}
use Rattle.gc_worker.specs.Workers.Held.{Held, at_stage, header_for, run_held, run_in, fields_for, may_snap, target_for}
use Rattle.gc_worker.specs.Workers.Knows.{knows, known_at, counted_in, kind_with, own_stock, stock_of}
use Rattle.gc_worker.specs.Steps.Turned.{places, goes_on, runs_on, serves_snap, serves_target}
use Rattle.gc_worker.proofs.Workers.KeptParts.{refit, page_count}
use Rattle.gc_worker.proofs.Workers.Guarded.{guards_place_fits, guards_place_known}
use Rattle.gc_worker.proofs.Plain.NewRecords.{header_is, header_made, holds_fields, holds_target, makes_header}
use Rattle.heap_laws.specs.Allocation.Records.{stored_ahead}

-- ---- an allocation begins

-- the first store of a record fits a run that has room for it
pub first_fits : (n asked snap fields : ℕ) (run : Run) (header : Header) (kind : Kind) → header.kind ≡ kind → HoldsFields header fields → HoldsTargetAndLink header → run.at + place.size_of header ≤ run.end
    → FitsPlaceStage n asked snap run header (place.stores_first kind)
first_fits n asked snap fields run header Fields is holds cell room = room
first_fits n asked snap fields run header Raw is holds cell room = room
first_fits n asked snap fields run header Mixed is holds cell room = let some = holds is in (is, omega (arith, some), room)
first_fits n asked snap fields run header Weak is holds cell room = (is, cell is, room)

-- and leaves less than a page of a short one
pub first_rest : (run : Run) (header : Header) (kind : Kind) → run.end < run.at + place.size_of header + 64 → LeavesShortRun run header (place.stores_first kind)
first_rest run header Fields rest = rest
first_rest run header _ rest = rest

pub first_going : (kind : Kind) → IsPlacingGoing (place.stores_first kind)
first_going Fields = tt
first_going _ = tt

abbrev first_at : Kind → Bool → PlaceStage
first_at kind b = cond b (place.stores_first kind) LoadsTraced

module _ (x : Held) (header : Header) where
  abbrev begun_at : PlaceStage → place.Placing
  begun_at stage = record { layout = x.layout; run = run_held x; header = header; fields = fields_for x; epoch = x.epoch; snap = x.snap; target = target_for x; stage = stage }

  -- a run that isn't there has no room
  held : (run : Option Run) → nat_le ((run_in run).at + place.size_of header) (run_in run).end ≡ true → Some (stock_of x.epoch (run_in run)) ≡ own_stock x.epoch run
  held (Some run) is = refl
  held None is = let l = leb-true (0 + place.size_of header) 0 is in absurd (omega (arith, l))

  -- nothing stands ahead of a header that is stored first
  held_first : (kind : Kind) → header.kind ≡ kind → stored_ahead (kind_with kind (fields_for x)) (target_for x) ≡ [] → nat_le ((run_held x).at + place.size_of header) (run_held x).end ≡ true
      → Some (counted_in (begun_at StoresHeader)) ≡ own_stock x.epoch x.run
  held_first kind is none room =
      ap (λ (ahead : List ℕ). Some (record (stock_of x.epoch (run_held x)) { ahead = ahead })) (ap (λ (k : Kind). stored_ahead (kind_with k (fields_for x)) (target_for x)) is ∙ none) ∙ held x.run room

  known_by : (kind : Kind) → header.kind ≡ kind → (b : Bool) → nat_le ((run_held x).at + place.size_of header) (run_held x).end ≡ b
      → known_at x (Places (begun_at (first_at kind b))) ≡ known_at x Looks
  known_by Fields is true room = λ i. record (known_at x Looks) { stock = held_first Fields is refl room i }
  known_by Raw is true room = λ i. record (known_at x Looks) { stock = held_first Raw is refl room i }
  known_by Mixed is true room = λ i. record (known_at x Looks) { stock = held x.run room i }
  known_by Weak is true room = λ i. record (known_at x Looks) { stock = held x.run room i }
  known_by kind is false room = refl

  stage_by : HoldsFields header (fields_for x) → HoldsTargetAndLink header → (b : Bool) → nat_le ((run_held x).at + place.size_of header) (run_held x).end ≡ b
      → FitsPlaceStage x.layout.pages (place.pages_for (place.size_of header)) x.snap (run_held x) header (first_at header.kind b)
  stage_by holds cell true is =
      first_fits x.layout.pages (place.pages_for (place.size_of header)) x.snap (fields_for x) (run_held x) header header.kind refl holds cell
      (leb-true ((run_held x).at + place.size_of header) (run_held x).end is)
  stage_by holds cell false is = tt

is_run : (n : ℕ) (run : Option Run) → FitsRun n run → RunLiesInSpaces n (run_in run)
is_run n (Some run) fits = fits.0
is_run n None fits = (omega arith, omega arith)

is_short : (n : ℕ) (run : Option Run) → FitsRun n run → (run_in run).end < (run_in run).at + 64
is_short n (Some run) fits = fits.1
is_short n None fits = omega arith

-- ---- wherever it goes on

pub places_known : (x : Held) (header : Option Header) → knows (at_stage x (places x header)) ≡ known_at x Looks
places_known x None = refl
places_known x (Some header) =
    guards_place_known x (place.begun x.layout (run_held x) header x.epoch (fields_for x) x.snap (target_for x))
    ∙ known_by x header header.kind refl (nat_le ((run_held x).at + place.size_of header) (run_held x).end) refl

-- who begins a checkpoint makes rounds first, if it can begin one
snaps_known : (x : Held) (b : Bool) → known_at x (cond b (serves_snap x) Looks) ≡ known_at x Looks
snaps_known x true = refl
snaps_known x false = refl

pub goes_on_known : (x : Held) (after : After) → knows (at_stage x (goes_on x after)) ≡ known_at x Looks
goes_on_known x afters.Looks = refl
goes_on_known x afters.Places = places_known x (header_for x)
goes_on_known x afters.Snaps = snaps_known x (may_snap x)

-- one that begins to run reads first which checkpoint is in progress
runs_on_known_by : (x : Held) (after : After) (b : Bool) → known_at x (cond b (Recalls (recall.begun x.layout) after) (goes_on x after)) ≡ known_at x Looks
runs_on_known_by x after true = refl
runs_on_known_by x after false = goes_on_known x after

pub runs_on_known : (x : Held) (after : After) → knows (at_stage x (runs_on x after)) ≡ known_at x Looks
runs_on_known x after = runs_on_known_by x after x.layout.checkpoints

module _ (n mutators k : ℕ) (x : Held) (f : Fits n mutators k x) (unended : is_some x.account.end ≡ false) (mutator : nat_lt x.number x.mutators ≡ true) where
  going_by : (header : Header) (b : Bool) → IsPlacingGoing (first_at header.kind b)
  going_by header true = first_going header.kind
  going_by header false = tt

  leaves_by : (header : Header) (b : Bool) → LeavesShortRun (run_held x) header (first_at header.kind b)
  leaves_by header true = first_rest (run_held x) header header.kind (let s = is_short n x.run f.run in omega arith)
  leaves_by header false = tt

  -- a mixed record holds its fields
  holds : (making : IsMaking x.account x.registers x.task) (header : Header) → header_for x ≡ Some header → HoldsFields header (fields_for x)
  holds making header is =
      subst (λ (h : Header). HoldsFields h (fields_for x)) (same_Some (header_made x making) header (sym (header_is x making) ∙ is)) (holds_fields x making)

  -- and a cell its target and its link
  cell : (making : IsMaking x.account x.registers x.task) (header : Header) → header_for x ≡ Some header → HoldsTargetAndLink header
  cell making header is = subst HoldsTargetAndLink (same_Some (header_made x making) header (sym (header_is x making) ∙ is)) (holds_target x making)

  -- a record is allocated in the run, or in pages that are claimed
  allocates_fit : (making : IsMaking x.account x.registers x.task) (header : Header) → header_for x ≡ Some header
      → Fits n mutators k (at_stage x (Places (place.begun x.layout (run_held x) header x.epoch (fields_for x) x.snap (target_for x))))
  allocates_fit making header is = refit n mutators k x f (Places (place.begun x.layout (run_held x) header x.epoch (fields_for x) x.snap (target_for x))) unended mutator (making, is) (record {
    layout = refl;
    epoch = refl;
    fields = refl;
    snap = refl;
    target = refl;
    going = going_by header (nat_le ((run_held x).at + place.size_of header) (run_held x).end);
    rest = leaves_by header (nat_le ((run_held x).at + place.size_of header) (run_held x).end);
    sound = record {
      pages = page_count n mutators k x f;
      run = subst (λ (m : ℕ). RunLiesInSpaces m (run_held x)) (sym f.pages) (is_run n x.run f.run);
      fields = holds making header is;
      cell = cell making header is;
      epoch = f.epoch;
      snap = f.numbers.snap_fits;
      room = λ none. (f.numbers.none none).0;
      stage = stage_by x header (holds making header is) (cell making header is) (nat_le ((run_held x).at + place.size_of header) (run_held x).end) refl;
    };
  })

  places_by : (making : IsMaking x.account x.registers x.task) (header : Option Header) → header_for x ≡ header → Fits n mutators k (at_stage x (places x header))
  places_by making (Some header) is =
      guards_place_fits n mutators k x (place.begun x.layout (run_held x) header x.epoch (fields_for x) x.snap (target_for x)) (allocates_fit making header is)
  places_by making None is = absurd (makes_header n mutators k x f making is)

  pub places_fit : IsMaking x.account x.registers x.task → Fits n mutators k (at_stage x (places x (header_for x)))
  places_fit making = places_by making (header_for x) refl

  -- the rounds of who begins a checkpoint
  pub snaps_fit : IsSnapping x.account x.registers x.task → may_snap x ≡ true → Fits n mutators k (at_stage x (serves_snap x))
  snaps_fit task may = refit n mutators k x f (serves_snap x) unended mutator (task, may) (
    record {
      layout = refl;
      worker = refl;
      caller = tt;
      epoch = refl;
      going = tt;
      sound = record { pages = page_count n mutators k x f; caller = tt; epoch = f.epoch; worker = let a = f.few in let b = f.number in omega (arith, a, b); stage = tt };
    },
    tt,
  )

  -- the rounds of who loads the target of a cell
  pub targets_fit : (a : Access) → FitsBack x (ToTarget a) → IsAccessing x.account x.registers x.task a.stage → Fits n mutators k (at_stage x (serves_target x a))
  targets_fit a own task = refit n mutators k x f (serves_target x a) unended mutator task (
    record {
      layout = refl;
      worker = refl;
      caller = tt;
      epoch = refl;
      going = tt;
      sound = record { pages = page_count n mutators k x f; caller = tt; epoch = f.epoch; worker = let a = f.few in let b = f.number in omega (arith, a, b); stage = tt };
    },
    own,
  )

  -- if there is no number for one more, it looks at the gate with its task
  snaps_by : (b : Bool) → may_snap x ≡ b → IsSnapping x.account x.registers x.task → Fits n mutators k (at_stage x (cond b (serves_snap x) Looks))
  snaps_by true may task = snaps_fit task may
  snaps_by false may task = refit n mutators k x f Looks unended mutator (subst (MayBegin x.account x.registers) (sym task.task_is) task.call) tt

  pub goes_on_fits : (after : After) → FitsTaskAfter x after → Fits n mutators k (at_stage x (goes_on x after))
  goes_on_fits afters.Looks task = refit n mutators k x f Looks unended mutator task tt
  goes_on_fits afters.Places making = places_fit making
  goes_on_fits afters.Snaps task = snaps_by (may_snap x) refl task

  recalls_by : (after : After) (b : Bool) → x.layout.checkpoints ≡ b → FitsTaskAfter x after → Fits n mutators k (at_stage x (cond b (Recalls (recall.begun x.layout) after) (goes_on x after)))
  recalls_by after true room task = refit n mutators k x f (Recalls (recall.begun x.layout) after) unended mutator task
      (record { room = room; layout = refl; going = tt; sound = record { pages = page_count n mutators k x f; stage = tt } })
  recalls_by after false room task = goes_on_fits after task

  pub runs_on_fits : (after : After) → FitsTaskAfter x after → Fits n mutators k (at_stage x (runs_on x after))
  runs_on_fits after task = recalls_by after x.layout.checkpoints refl task
