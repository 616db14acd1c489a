-- A worker in a round of the duty, and in the scan of a page: what it holds of checkpoints is the same at each stage, and as the round ends.
use Rattle.std.proofs.Common.{◌≡◌, ℕ, ◌==◌, ◌&&◌, inl, Bool, true, false, cond, nat_lt, None, Some, refl, sym, subst, ◌∙◌}
use Rattle.atom_store.specs.declared.turn.Turn.{Turn}
use Rattle.atom_store.specs.declared.turn.Turn.TheVariants.{More, Finished}
use Rattle.fault_duty.specs.declared.round_end.RoundEnd.{RoundEnd}
use Rattle.fault_duty.specs.declared.round_end.RoundEnd.TheVariants.{ScanPage, ScanInPlace, Marked, Traced, AllLeft, NothingNow}
use Rattle.fault_duty.specs.Duty as duty
use Rattle.forwarding.specs.declared.to.To.{To}
use Rattle.forwarding.specs.Evacuation as evac
use Rattle.page_scan.specs.declared.scanned.Scanned.{Scanned}
use Rattle.page_scan.specs.declared.scanned.Scanned.TheVariants as scanned
use Rattle.page_scan.specs.Scanning as scan
use Rattle.page_slots.specs.declared.opened.Opened.{Opened}
use Rattle.page_slots.specs.Open as open_page
use Rattle.heap_state.specs.Saving.Savers.{Saver, NoReads}
use Rattle.heap_state.specs.Known.{is_running, is_asking}
use Rattle.heap_laws.specs.Saving.Rounds.{KnowsNoMore}
use Rattle.record_access.specs.declared.access.Access.{Access}
use Rattle.gc_worker.specs.declared.stage.back.Back.{Back}
use Rattle.gc_worker.specs.declared.stage.back.Back.TheVariants.{ToAccess, ToTarget, ToPlace, ToSnap, ToScanner}
use Rattle.gc_worker.specs.declared.stage.goal.Goal.TheVariants.{ForScanner}
use Rattle.gc_worker.specs.declared.stage.Stage.TheVariants.{Accesses, Gone}
use Rattle.record_access.specs.Access.{is_at_target, writes_on}
use Rattle.gc_worker.specs.Steps.Turned.{back_from, checkpoints, goes_back, of_round, served_by, traced_by, turned_copy, turned_opening, turned_round, turned_scan}
use Rattle.gc_worker.specs.Workers.Fits.{FitsBack}
use Rattle.gc_worker.specs.Workers.Held.{Held, header_for}
use Rattle.gc_worker.specs.Workers.Knows.{post_back}
use Rattle.gc_worker.specs.Workers.Saves.{guarded_back, saver_at, saver_of}
use Rattle.gc_worker.proofs.Saving.Frame.Running.{none_either, places_run, running_saver}
use Rattle.gc_worker.proofs.Saving.Frame.Step.{bare_knows_no_more}
use Rattle.gc_worker.proofs.Workers.Guarded.{writes_nothing}

-- what it holds then
abbrev pub round_saver : Held → Back → Saver
round_saver x back = record {
  runs = is_running (post_back back);
  asks = is_asking (post_back back);
  recalled = x.layout.checkpoints && is_running (post_back back) && true;
  reads_done = false;
  snap = x.snap;
  running = x.running;
  settled = false;
  still = None;
  guarded = guarded_back x.running back;
  marked = None;
  save = None;
  reads = NoReads;
  round = None;
}

module _ (x : Held) (room : x.layout.checkpoints ≡ true) where
  kept_by : (back : Back) → (page : ℕ) → (round_saver x back).guarded ≡ Some page → (round_saver x back).recalled ≡ true
  kept_by ToScanner page is = absurd (cc)
  kept_by _ page is = rw room refl

  runs_by : (back : Back) → (round_saver x back).recalled ≡ true → (round_saver x back).runs ≡ true
  runs_by ToScanner is = absurd (let none = (rw room at is) in cc)
  runs_by _ is = refl

  -- it goes on with that
  pub same_still : (back : Back) → KnowsNoMore (round_saver x back) (round_saver x back)
  same_still back = record {
    recalled = λ is. (is, runs_by back is, refl, refl, refl);
    settled = λ is. absurd (cc);
    still = λ gate is. absurd (cc);
    guarded = λ page is. (is, kept_by back page is);
    marked = λ page is. absurd (cc);
    save = refl;
    reads = inl refl;
    round = λ r is. absurd (cc);
  }

  -- where a round ends it goes on with no more
  pub goes_on_as : (back : Back) (w : Saver) → w ≡ round_saver x back → KnowsNoMore w (round_saver x back)
  goes_on_as back w same = subst (λ (v : Saver). KnowsNoMore v (round_saver x back)) (sym same) (same_still back)

  runs_back : running_saver x.snap x.running ≡ round_saver x ToPlace
  runs_back = rw room refl

  back_same : (back : Back) → saver_at x (goes_back x back) ≡ round_saver x back
  back_same ToPlace = places_run x room (header_for x) ∙ runs_back
  back_same _ = refl

  helps_same : (b : Bool) → saver_at x (cond b (checkpoints x ForScanner) (goes_back x ToScanner)) ≡ round_saver x ToScanner
  helps_same true = refl
  helps_same false = refl

  -- who loads the target of a cell writes on no page
  loads_target : (a : Access) → is_at_target a.stage ≡ true → saver_at x (Accesses a) ≡ round_saver x (ToTarget a)
  loads_target a target = λ i. record (round_saver x (ToTarget a)) { guarded = none_either (x.running == 0) (writes_on a.spaces a.stage) (writes_nothing a.spaces a.stage target) i }

  traced_same : (z : Held) (back : Back) → FitsBack z back → saver_of (traced_by x back) ≡ round_saver x back
  traced_same z (ToAccess a) own = back_same (ToAccess a)
  traced_same z (ToTarget a) own = loads_target a own.1
  traced_same z ToPlace own = back_same ToPlace
  traced_same z ToSnap own = refl
  traced_same z ToScanner own = helps_same x.layout.checkpoints

  -- a worker that is gone knows nothing
  gone_by : (back : Back) (is_mutator : Bool) → nat_lt x.number x.mutators ≡ is_mutator → KnowsNoMore (saver_at x Gone) (round_saver x back)
  gone_by back true test = bare_knows_no_more (saver_at x Gone) (round_saver x back) (record { settled = refl; still = refl; guarded = refl; marked = refl; save = refl; reads = refl; round = refl })
      (λ is. absurd (let none = (rw (room, test) at is) in cc)) refl
  gone_by back false test = bare_knows_no_more (saver_at x Gone) (round_saver x back) (record { settled = refl; still = refl; guarded = refl; marked = refl; save = refl; reads = refl; round = refl })
      (λ is. absurd (let none = (rw (room, test) at is) in cc)) refl

module _ (x : Held) (room : x.layout.checkpoints ≡ true) (back : Back) where
  -- ---- after a reply

  served_less : FitsBack x back → (d : duty.Round) (result : RoundEnd) → KnowsNoMore (saver_of (served_by x d back result)) (round_saver x back)
  served_less own d (ScanPage page) = same_still x room back
  served_less own d (ScanInPlace page) = same_still x room back
  served_less own d Marked = goes_on_as x room back (saver_of (back_from (of_round x d) back)) (back_same (of_round x d) room back)
  served_less own d Traced = goes_on_as x room back (saver_of (traced_by (of_round x d) back)) (traced_same (of_round x d) room x back own)
  served_less own d (NothingNow word) = goes_on_as x room back (saver_of (back_from (of_round x d) back)) (back_same (of_round x d) room back)
  served_less own d (AllLeft word) = gone_by x room back (nat_lt x.number x.mutators) refl

  pub round_less : FitsBack x back → (d : duty.Round) (t : Turn RoundEnd) → KnowsNoMore (saver_of (turned_round x d back t)) (round_saver x back)
  round_less own d More = same_still x room back
  round_less own d (Finished result) = served_less own d result

  pub scan_less : (s : scan.Scanning) (t : Turn Scanned) → KnowsNoMore (saver_of (turned_scan x s back t)) (round_saver x back)
  scan_less s More = same_still x room back
  scan_less s (Finished (scanned.Ask old)) = same_still x room back
  scan_less s (Finished (scanned.Ended at_front)) = same_still x room back

  pub copy_less : (v : evac.Evacuation) (s : scan.Scanning) (t : Turn To) → KnowsNoMore (saver_of (turned_copy x v s back t)) (round_saver x back)
  copy_less v s More = same_still x room back
  copy_less v s (Finished to) = same_still x room back

  pub opening_less : (o : open_page.Opening) (s : scan.Scanning) (t : Turn Opened) → KnowsNoMore (saver_of (turned_opening x o s back t)) (round_saver x back)
  opening_less o s More = same_still x room back
  opening_less o s (Finished opened) = goes_on_as x room back (saver_of (back_from x back)) (back_same x room back)
