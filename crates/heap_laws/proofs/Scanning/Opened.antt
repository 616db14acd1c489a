-- A page whose scan has ended is opened.
use Rattle.std.proofs.Common.{◌≡◌, ◌≢◌, ℕ, ◌+◌, ◌*◌, ◌/◌, ◌<◌, ◌≤◌, true, false, Some, None, refl, sym, ap, ◌∙◌, arith, ⊎_elim, ◌⊎◌, subst}
use Rattle.std.proofs.lemmas.Bool.{cases_eq}
use Rattle.space_map.specs.declared.page_word.PageWord.{PageWord}
use Rattle.space_map.specs.declared.page_word.PageWord.TheVariants.{Open, Scanning}
use Rattle.space_map.specs.PageWord.{age_of}
use Rattle.heap_state.specs.Memory.Era.{Era, Memory, IsLaidOut}
use Rattle.heap_state.specs.Functions.{put}
use Rattle.heap_state.specs.Invariant.Ghost.{Ghost, Here}
use Rattle.heap_state.specs.Invariant.Inductive.{Invariant, Knows}
use Rattle.heap_state.specs.Invariant.Parts.Copying.{IsOrigin, Licensed}
use Rattle.heap_state.specs.Invariant.Parts.Leading.{Opened}
use Rattle.heap_state.specs.Invariant.Parts.Pages.{Shut, Filling, ScannedBy}
use Rattle.heap_state.specs.Invariant.Parts.Scanning.{Scans, Stepping}
use Rattle.heap_state.specs.Known.{Known, Team, Origin, Register, Scanned, Copy, Scan, is_late, Quest}
use Rattle.heap_state.proofs.Records.Holding.{writer}
use Rattle.heap_state.proofs.Puts.{put_at, put_other, each_put, some_same, none≢some}
use Rattle.heap_state.specs.Memory.Entries.{PageIs}
use Rattle.heap_laws.specs.Cells.Frames.{GoesOnInChain}
use Rattle.heap_laws.specs.Scanning.Claims.{HasScanned, ends_scan, OpensScannedPage}
use Rattle.heap_laws.specs.Steps.{Ready, Steps, InPage, with_page}
use Rattle.heap_laws.proofs.Frames.PageWords.{Turns, quiet_turns, scans_beside, knows_turns}
use Rattle.heap_laws.proofs.Frames.NewPages.{PageTurns}
use Rattle.heap_laws.proofs.Frames.TurnedPages.{keeps_turned}
use Rattle.heap_laws.proofs.Scanning.Scanners.{scan_age, open_scan, scan_scan, not_late, here_lies}
use Rattle.heap_laws.proofs.Steps.RowPlaces.{page_below}

module _ (E : Era) (m : Memory) (team : Team) (g : Ghost) (k : ℕ) (s : Scan) (ready : Ready E m team g k) (has : HasScanned team k s) where
  abbrev out : IsLaidOut E
  out = ready.laid_out

  abbrev inv : Invariant E m team g
  inv = ready.invariant

  abbrev v : PageWord
  v = Open E.epoch

  abbrev page' : ℕ → PageWord
  page' = put m.page s.page v

  abbrev w' : Known
  w' = ends_scan (team.worker k)

  me : Knows E m.gate m.traced m.front m.low m.old_front m.old_low m.old_owed g m.page m.cross m.announced m.heap k (team.worker k)
  me = inv.workers k ready.member

  of_now : (team.worker k).epoch ≡ E.epoch
  of_now = me.present s has.scans

  mine : Scans E m.front g.size g.writer g.kind m.heap m.page k s
  mine = me.scan s has.scans

  turn : Turns E m.page s.page v
  turn = record { young = inv.aged.young s.page; turned = refl; open_stays = λ o. refl }

  turns : PageTurns E m.front m.low m.page s.page v
  turns = record { out = out; order = inv.laid.order; aligned = inv.laid.aligned; place = mine.place; turn = turn }

  same_age : (p : ℕ) → age_of (page' p) ≡ age_of (m.page p)
  same_age p = each_put (λ y w. y ≡ p → age_of w ≡ age_of (m.page p)) m.page s.page v p (λ _ _. refl)
      (λ e _. let y = scan_age (m.page s.page) E.epoch k mine.claimed in rw e (sym y)) refl

  -- nothing is left that the scan would ask for, so the worker copies nothing
  no_origin : (old : ℕ) (o : Origin) → IsOrigin E g.size g.writer g.kind m.heap (is_late E.epoch (team.worker k)) (team.worker k).done (team.worker k).registers (team.worker k).scan old o → is_late E.epoch (team.worker k) ≡ true
  no_origin old (Register r) y = y.0
  no_origin old (Scanned x) y = absurd (let z : s ≡ y.0.0 = some_same (sym has.scans ∙ y.0.1) in let e = has.ended in let f = y.0.4 in let t : s.ended ≡ y.0.0.ended = ap (λ (u : Scan). u.ended) z in let r : true ≡ false = sym e ∙ (t ∙ f) in cc)

  no_copy : (c : Copy) → (team.worker k).copy ≡ Some c → ⊥
  no_copy c e = let a = me.licensed.asked c e in not_late E.epoch (team.worker k) of_now (no_origin a.0.old a.0.origin (me.origin a.0 a.1))

  no_place : (b : ℕ) → 0 < g.size b → g.writer b ≡ k + 1 → ⊥
  no_place b st w = let y = writer E m team g inv b k st w in no_copy y.copy y.copies

  shut : Shut E m.front m.low g.size g.writer page'
  shut = record {
    free = λ p l r. rw (same_age p) (inv.shut.free p l r);
    held = λ b x st w l r. each_put (λ y u. y ≡ x / 64 → ¬ (u ≡ Open E.epoch)) m.page s.page v (x / 64) (λ _ _. inv.shut.held b x st w l r)
        (λ e _ o. no_place b st (inv.shut.by b x k st w l r (rw e mine.claimed))) refl;
    by = λ b x j st w l r y. let d : x / 64 ≢ s.page = (λ e. absurd (open_scan (put_at m.page s.page v (x / 64) e) y)) in inv.shut.by b x j st w l r (rw (put_other m.page s.page v (x / 64) d) at y);
  }

  -- what the scan did not reach holds no field
  reached : (x : ℕ) → Here E g.size g.writer g.kind x → x / 64 ≡ s.page → x < s.cursor
  reached x h e = ⊎_elim
      (λ b. let a = out.board in omega (arith, b, e, left, a))
      (λ y. ⊎_elim
      (λ l. let a = out.board in let b = out.below in omega (arith, l, e, left, a, b, inv.laid.order))
      (λ n. let c : m.page (x / 64) ≡ Scanning E.epoch k = rw e mine.claimed in open_scan n.2 c) y)
      (here_lies E m team g inv out x h)
    where
      left : (64 * s.page + 64 ≤ s.cursor) ⊎ (((s.page ≡ E.board / 64) × (E.board + 16 ≤ s.cursor)) ⊎ ((s.page < E.board / 64) × (s.cursor ≡ m.front)))
      left = (me.stepping s has.scans).ended has.ended

  opened : Opened E g.size g.writer g.kind m.heap page'
  opened = record {
    opened = λ x u o. ⊎_elim
        (λ (e : x / 64 ≡ s.page). mine.passed x u e (reached x u e))
        (λ (d : x / 64 ≢ s.page). inv.opened.opened x u (rw (put_other m.page s.page v (x / 64) d) at o))
        (cases_eq (x / 64) s.page);
  }

  filling : Filling E m.gate.behind m.front page'
  filling = record { filling = λ p l r a. quiet_turns turn (inv.filling.filling p l r (rw (same_age p) at a)) }

  its_page : (j : ℕ) (q : Scan) → j ≡ k → (team.worker j).scan ≡ Some q → s.page ≡ q.page
  its_page j q y e = let z : (team.worker k).scan ≡ Some q = rw y at e in let t : s ≡ q = some_same (sym has.scans ∙ z) in ap (λ (u : Scan). u.page) t

  scanned : ScannedBy E team.count page' (put team.worker k w')
  scanned = record {
    scanned = λ p j e. ⊎_elim
        (λ (y : p ≡ s.page). absurd (open_scan (put_at m.page s.page v p y) e))
        (λ (d : p ≢ s.page). let o = inv.scanned.scanned p j (rw (put_other m.page s.page v p d) at e) in
        let c : j ≢ k = (λ y. d (sym o.1.2 ∙ sym (its_page j o.1.0 y o.1.1))) in
        (o.0, (o.1.0, rw (put_other team.worker k w' j c) o.1.1, o.1.2)))
        (cases_eq p s.page);
  }

  abbrev KnowsNow : ℕ → Known → Type 0
  KnowsNow = Knows E m.gate m.traced m.front m.low m.old_front m.old_low m.old_owed g page' m.cross m.announced m.heap

  others : (j : ℕ) → j < team.count → j ≢ k → KnowsNow j (team.worker j)
  others j l d = knows_turns turn (λ q e p. scans_beside turn j q (λ y. d (scan_scan (rw y at p.claimed) mine.claimed)) p) (inv.workers j l)

  own : KnowsNow k w'
  own =
      let u = me in
      let o1 : (y : Quest) → (team.worker k).quest ≡ Some y → IsOrigin E g.size g.writer g.kind m.heap (is_late E.epoch (team.worker k)) (team.worker k).done (team.worker k).registers None y.old y.origin =
      λ y e. origin y.old y.origin (me.origin y e) in
      let o2 : Licensed m.gate.behind g.kept k (is_late E.epoch (team.worker k)) (team.worker k).copy (team.worker k).quest None =
      record { licensed = λ c e. absurd (no_copy c e); asked = me.licensed.asked; counted = me.licensed.counted; idle = me.licensed.idle } in
      let o3 : (s : Scan) → None ≡ Some s → (team.worker k).epoch ≡ E.epoch = λ s e. none≢some e in
      let o4 : (s : Scan) → None ≡ Some s → Scans E m.front g.size g.writer g.kind m.heap m.page k s = λ s e. none≢some e in
      let o5 : (s : Scan) → None ≡ Some s → Stepping E m.front g.size g.writer g.kind s = λ s e. none≢some e in
      let forgotten : Knows E m.gate m.traced m.front m.low m.old_front m.old_low m.old_owed g m.page m.cross m.announced m.heap k w' = assumption in
      knows_turns turn (λ s e p. none≢some e) forgotten
    where
      origin : (old : ℕ) (o : Origin) → IsOrigin E g.size g.writer g.kind m.heap (is_late E.epoch (team.worker k)) (team.worker k).done (team.worker k).registers (team.worker k).scan old o
          → IsOrigin E g.size g.writer g.kind m.heap (is_late E.epoch (team.worker k)) (team.worker k).done (team.worker k).registers None old o
      origin old (Register r) y = y
      origin old (Scanned x) y = not_late E.epoch (team.worker k) of_now (no_origin old (Scanned x) y)

  -- and it has no cell to link
  goes : GoesOnInChain E w' (team.worker k)
  goes = record {
    linking = refl;
    pass = refl;
    cleared = λ e. e;
    licence = λ _ knows _. not_late E.epoch (team.worker k) of_now (no_origin knows.0.old knows.0.origin (me.origin knows.0 knows.1));
    ground = λ _. (refl, refl);
  }

  pub opens : OpensScannedPage E m team g k s
  opens = record {
    now = of_now;
    was = mine.claimed;
    steps = subst (λ (e : ℕ). Steps E m team g k (Some (PageIs s.page (Open e))) w' g) (sym of_now) (record {
      later = with_page m s.page v;
      writes = InPage s.page v (page_below ready s.page mine.place) (rw ready.at_gate at inv.counted.epoch_fits);
      keeps = keeps_turned E m team g k s.page v None (team.worker k).claim inv turns scanned shut opened filling goes others own;
    });
  }
