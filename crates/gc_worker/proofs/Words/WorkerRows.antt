-- The step of a worker is on a row of its layout's table, by its own soundness alone; and which rows it may write there.
use Rattle.std.proofs.Common.{◌≡◌, ℕ, ◌+◌, ◌<◌, ◌≤◌, ◌⊎◌, inl, inr, true, Option, Some, None, refl, sym, ap, subst, ◌∙◌, arith, ⊎_elim}
use Rattle.std.specs.Prelude.{⊤, option_map}
use Rattle.std.proofs.lemmas.Option.{same_Some}
use Rattle.atom_store.specs.declared.step.Step.{Step}
use Rattle.atom_store.specs.Step.{place_in}
use Rattle.atom_store.specs.StepOn.{StepOn, Load, Store, Exchange, IsOn, WritesOnly, step_at, touched}
use Rattle.atom_store.proofs.StepWords.{place_in-step_at}
use Rattle.space_map.specs.declared.spaces.TheConstants.{LAST_WORKER}
use Rattle.space_map.specs.Spaces.{Layout}
use Rattle.space_map.specs.Table.{Row, Gate, HeapWord, LastSaved, SnapNumber, IsRow, place_of, whole_length}
use Rattle.space_map.specs.WholeTable.{WholeRow, Within, Behind, IsWholeRow, whole_place_of}
use Rattle.space_map.proofs.WholeRows.{place_of-lt-whole, whole_place_of-lt}
use Rattle.alloc_end.specs.declared.place_stage.PlaceStage.{PlaceStage}
use Rattle.alloc_end.specs.declared.place_stage.PlaceStage.TheVariants.{StoresNew}
use Rattle.alloc_end.specs.Place.{Placing}
use Rattle.alloc_end.specs.Soundness.{FitsPlaceStage, HasRoomToMark}
use Rattle.alloc_end.specs.Place as place
use Rattle.alloc_end.proofs.AllocationRows as place_rows
use Rattle.fault_duty.proofs.RoundRows as duty_rows
use Rattle.forwarding.specs.Evacuation.{Evacuation, wanted}
use Rattle.forwarding.proofs.CopyRows as copy_rows
use Rattle.gate_core.specs.Gate as gate
use Rattle.gate_core.specs.Recall as recall
use Rattle.gate_core.specs.Snap as snap
use Rattle.gate_core.proofs.GateRows.{flip_rows_fit, passage_rows_fit, passage_writes, recall_rows_fit, recall_writes, snap_rows_fit, snap_writes}
use Rattle.page_saves.specs.Guard as guard
use Rattle.page_saves.specs.SaveRound as save_round
use Rattle.page_saves.proofs.SaveRows as save_rows
use Rattle.page_scan.specs.Scanning as scan
use Rattle.page_scan.proofs.ScanRows as scan_rows
use Rattle.page_slots.proofs.ClaimRows.{opening_rows_fit}
use Rattle.record_access.specs.Access as access
use Rattle.gc_worker.specs.declared.stage.Stage.{Stage}
use Rattle.gc_worker.specs.declared.stage.Stage.TheVariants.{Looks, Passes, Flips, Forwards, Accesses, Places, Serves, Scans, Evacuates, Opens, Recalls, Guards, Checkpoints, BeginsCheckpoint, Gone}
use Rattle.gc_worker.specs.Workers.Fits.{Fits, FitsCopy, FitsStage}
use Rattle.gc_worker.specs.Workers.Held.{Held}
use Rattle.gc_worker.specs.Laws.Step.{PlacesFit}
use Rattle.gc_worker.specs.Steps.Wanted.{wanted_at}
use Rattle.record_access.proofs.AccessRows as access_rows
use Rattle.gc_worker.proofs.Between.Pages.Written.{Elsewhere}
use Rattle.gc_worker.proofs.Words.TableRows.{marks_with_room}

-- there is a step, and its place is in the layout's table
pub record IsOnRow (l : Layout) (o : Option Step) : Type 0 where
  pub step : Step
  pub is : o ≡ Some step
  pub inside : place_in step < whole_length l

-- on a row that each table has
on_row : (l : Layout) (o : Option (StepOn Row)) → IsOn (IsRow l.pages) o → IsOnRow l (option_map (step_at (place_of l.pages)) o)
on_row l None fits = absurd fits
on_row l (Some step) fits =
    record { step = step_at (place_of l.pages) step; is = refl; inside = rw (place_in-step_at (place_of l.pages) step) (place_of-lt-whole l (touched step) fits) }

-- the table has the row, which is not one of those behind, or there is room for checkpoints
abbrev IsRowOf : Layout → WholeRow → Type 0
IsRowOf l (Within row) = IsRow l.pages row
IsRowOf l (Behind row) = (l.checkpoints ≡ true) × IsWholeRow l.pages (Behind row)

row_inside : (l : Layout) (row : WholeRow) → IsRowOf l row → whole_place_of l.pages row < whole_length l
row_inside l (Within row) is = place_of-lt-whole l row is
row_inside l (Behind row) is = whole_place_of-lt l (Behind row) is.0 is.1

on_whole_row : (l : Layout) (o : Option (StepOn WholeRow)) → IsOn (IsRowOf l) o → IsOnRow l (option_map (step_at (whole_place_of l.pages)) o)
on_whole_row l None fits = absurd fits
on_whole_row l (Some step) fits =
    record { step = step_at (whole_place_of l.pages) step; is = refl; inside = rw (place_in-step_at (whole_place_of l.pages) step) (row_inside l (touched step) fits) }

with_room : (l : Layout) (row : WholeRow) → l.checkpoints ≡ true → IsWholeRow l.pages row → IsRowOf l row
with_room l (Within row) room is = is
with_room l (Behind row) room is = (room, is)

all_with_room : (l : Layout) (o : Option (StepOn WholeRow)) → l.checkpoints ≡ true → IsOn (IsWholeRow l.pages) o → IsOn (IsRowOf l) o
all_with_room l None room fits = fits
all_with_room l (Some step) room fits = with_room l (touched step) room fits

-- an allocation is on a row behind where it marks a page as new
place_rows_fit : (z : Placing) (stage : PlaceStage) → HasRoomToMark z.layout z.snap → FitsPlaceStage z.layout.pages (place.pages_for (place.size_of z.header)) z.snap z.run z.header stage
    → IsOn (IsWholeRow z.layout.pages) (place.wants_at z stage) → IsOn (IsRowOf z.layout) (place.wants_at z stage)
place_rows_fit z (StoresNew new) room fits on = (marks_with_room z.layout z.snap room fits.1, on)
place_rows_fit z stage room fits on = on

module _ (n mutators k : ℕ) (x : Held) (f : Fits n mutators k x) where
  -- in the worker's own layout
  own : (l : Layout) → l ≡ x.layout → (o : Option (StepOn Row)) → IsOn (IsRow l.pages) o → IsOnRow x.layout (option_map (step_at (place_of l.pages)) o)
  own l same o fits = subst (λ (m : Layout). IsOnRow m (option_map (step_at (place_of l.pages)) o)) same (on_row l o fits)

  own_whole : (l : Layout) → l ≡ x.layout → (o : Option (StepOn WholeRow)) → IsOn (IsRowOf l) o → IsOnRow x.layout (option_map (step_at (whole_place_of l.pages)) o)
  own_whole l same o fits = subst (λ (m : Layout). IsOnRow m (option_map (step_at (whole_place_of l.pages)) o)) same (on_whole_row l o fits)

  copy : (e : ℕ) (v : Evacuation) → FitsCopy x e v → IsOnRow x.layout (wanted v)
  copy e v fits =
      let few : v.worker ≤ LAST_WORKER = let a = f.number in let b = f.few in let same = fits.worker in omega (arith, same, a, b) in
      own v.layout fits.layout _ (copy_rows.rows_fit v.layout v.addr v.epoch v.worker few fits.sound.addr v.stage fits.sound.fits fits.going)

  pub rows_fit : (stage : Stage) → FitsStage x stage → (stage ≡ Gone) ⊎ IsOnRow x.layout (wanted_at x stage)
  rows_fit Looks fits = inr (own x.layout refl (Some (Load Gate)) tt)
  rows_fit (Passes g after) fits = inr (own g.layout fits.layout _ (passage_rows_fit g g.stage fits.going))
  rows_fit (Flips z) fits = inr (own z.layout fits.layout _ (flip_rows_fit z z.stage fits.going))
  rows_fit (Forwards w) fits = inr (copy (x.epoch + 1) w.evac fits.copy)
  rows_fit (Accesses a) fits = inr (own a.spaces fits.layout (Some (access.wants_at a.spaces a.stage)) (access_rows.rows_fit a.spaces a.stage fits.sound.stage))
  rows_fit (Places z) fits =
      inr (own_whole z.layout fits.layout (place.wants_at z z.stage) (place_rows_fit z z.stage fits.sound.room fits.sound.stage (place_rows.rows_fit z z.stage fits.sound.stage fits.sound.run fits.going)))
  rows_fit (Serves d back) fits =
      let fits = fits.0 in
      inr (subst (IsOnRow x.layout) (sym (duty_rows.by_rows d d.stage fits.sound.stage))
      (own d.layout fits.layout _ (duty_rows.rows_fit d d.stage fits.sound.stage fits.sound.caller fits.going)))
  rows_fit (Scans z back) fits = inr (own z.layout fits.0.layout _ (scan_rows.rows_fit z.layout.pages z.page z.epoch z.stage fits.0.sound.fits fits.1))
  rows_fit (Evacuates v z back) fits = inr (copy x.epoch v fits.0)
  rows_fit (Opens o z back) fits = inr (own o.layout fits.0.layout _ (opening_rows_fit o o.stage fits.0.sound.page fits.0.going))
  rows_fit (Recalls r after) fits = inr (own r.layout fits.layout _ (recall_rows_fit r.layout.pages r.stage fits.going))
  rows_fit (Guards g write) fits =
      inr (subst (IsOnRow x.layout) (sym (save_rows.guard_by_rows g g.stage fits.sound.stage))
      (own_whole g.layout fits.layout _ (all_with_room g.layout _ fits.sound.room (save_rows.guard_rows_fit g g.stage fits.sound.stage fits.sound.page fits.going))))
  rows_fit (Checkpoints r goal) fits =
      inr (subst (IsOnRow x.layout) (sym (save_rows.round_by_rows r r.stage fits.sound.stage))
      (own_whole r.layout fits.layout _ (all_with_room r.layout _ fits.sound.room (save_rows.round_rows_fit r r.stage fits.sound.stage fits.going))))
  rows_fit (BeginsCheckpoint z) fits = inr (own z.layout fits.layout _ (snap_rows_fit z z.stage fits.going))
  rows_fit Gone fits = inl refl

pub places_fit : PlacesFit
places_fit n mutators k x q f asked = ⊎_elim
    (λ (gone : x.stage ≡ Gone). absurd (let e : None ≡ Some q = sym (ap (wanted_at x) gone) ∙ asked in cc))
    (λ (row : IsOnRow x.layout (wanted_at x x.stage)). subst (λ (z : Step). place_in z < whole_length x.layout) (same_Some row.step q (sym row.is ∙ asked)) row.inside)
    (rows_fit n mutators k x f x.stage f.stage)

-- ---- which rows are written

-- a stage of a machine that writes no word of areas, sizes, pages or TRACED, unless it copies a record
abbrev pub IsNoTableStage : Stage → Type 0
IsNoTableStage (Flips f) = ⊥
IsNoTableStage (Places p) = ⊥
IsNoTableStage (Serves d back) = ⊥
IsNoTableStage (Opens o s back) = ⊥
IsNoTableStage stage = ⊤

-- a step, if there is one, that writes such rows at most, or one of a copy
pub data WritesSuch (Q : Row → Type 0) (x : Held) (o : Option Step) : Type 0 where
  OnRow : (on : Option (StepOn WholeRow)) → WritesOnly (Elsewhere Q) on → o ≡ option_map (step_at (whole_place_of x.layout.pages)) on → WritesSuch Q x o
  OfCopy : (e : ℕ) (v : Evacuation) → FitsCopy x e v → o ≡ wanted v → WritesSuch Q x o

module _ (Q : Row → Type 0) (of_gate : Q Gate) (of_snap : Q SnapNumber) (of_saved : Q LastSaved) (of_heap : (addr : ℕ) → Q (HeapWord addr)) (x : Held) where
  in_table : (l : Layout) → l ≡ x.layout → (o : Option (StepOn Row)) → WritesOnly Q o → WritesSuch Q x (option_map (step_at (place_of l.pages)) o)
  in_table l same o writes = subst (λ (m : Layout). WritesSuch Q x (option_map (step_at (place_of m.pages)) o)) (sym same) (by_step o writes)
    where
      by_step : (o : Option (StepOn Row)) → WritesOnly Q o → WritesSuch Q x (option_map (step_at (place_of x.layout.pages)) o)
      by_step None writes = OnRow None tt refl
      by_step (Some (Load row)) writes = OnRow (Some (Load (Within row))) tt refl
      by_step (Some (Store row word)) writes = OnRow (Some (Store (Within row) word)) writes refl
      by_step (Some (Exchange row old new)) writes = OnRow (Some (Exchange (Within row) old new)) writes refl

  in_whole_table : (l : Layout) → l ≡ x.layout → (o : Option (StepOn WholeRow)) → WritesOnly (Elsewhere Q) o → WritesSuch Q x (option_map (step_at (whole_place_of l.pages)) o)
  in_whole_table l same o writes = subst (λ (m : Layout). WritesSuch Q x (option_map (step_at (whole_place_of m.pages)) o)) (sym same) (OnRow o writes refl)

  pub writes_such : (stage : Stage) → IsNoTableStage stage → FitsStage x stage → WritesSuch Q x (wanted_at x stage)
  writes_such Looks is fits = in_table x.layout refl (Some (Load Gate)) tt
  writes_such (Passes g after) is fits = in_table g.layout fits.layout (gate.wants_at g g.stage) (passage_writes Q of_gate g g.stage)
  writes_such (Forwards w) is fits = OfCopy (x.epoch + 1) w.evac fits.copy refl
  writes_such (Accesses a) is fits = in_table a.spaces fits.layout (Some (access.wants_at a.spaces a.stage)) (access_rows.writes Q of_heap a.spaces a.stage)
  writes_such (Scans s back) is fits = in_table s.layout fits.0.layout (scan.wants_at s.page s.epoch s.stage) (scan_rows.writes Q of_heap s.page s.epoch s.stage)
  writes_such (Evacuates v s back) is fits = OfCopy x.epoch v fits.0 refl
  writes_such (Recalls r after) is fits = in_table r.layout fits.layout (recall.wants_at r.stage) (recall_writes Q r.stage)
  writes_such (Guards g write) is fits =
      subst (WritesSuch Q x) (sym (save_rows.guard_by_rows g g.stage fits.sound.stage))
      (in_whole_table g.layout fits.layout (guard.wants_at g g.stage) (save_rows.guard_writes (Elsewhere Q) of_saved (λ page. tt) (λ addr. tt) g g.stage))
  writes_such (Checkpoints r goal) is fits =
      subst (WritesSuch Q x) (sym (save_rows.round_by_rows r r.stage fits.sound.stage))
      (in_whole_table r.layout fits.layout (save_round.wants_at r r.stage) (save_rows.round_writes (Elsewhere Q) of_saved (λ page. tt) (λ addr. tt) r r.stage))
  writes_such (BeginsCheckpoint s) is fits = in_table s.layout fits.layout (snap.wants_at s s.stage) (snap_writes Q of_snap s s.stage)
  writes_such Gone is fits = OnRow None tt refl
  writes_such _ is fits = absurd is
