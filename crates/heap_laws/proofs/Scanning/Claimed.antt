-- A page is claimed: its word becomes that of the worker that scans it.
use Rattle.std.proofs.Common.{◌≡◌, ◌≢◌, ℕ, ◌+◌, ◌-◌, ◌*◌, ◌/◌, ◌<◌, ◌≤◌, true, false, Some, refl, sym, ap, ◌∙◌, arith, ⊎_elim, ◌⊎◌, inl, inr, None, subst}
use Rattle.std.proofs.lemmas.Bool.{cases_eq, cases_lt, cases_Bool}
use Rattle.space_map.specs.declared.page_word.PageWord.{PageWord}
use Rattle.space_map.specs.declared.page_word.PageWord.TheVariants.{Open, Scanning}
use Rattle.space_map.specs.PageWord.{age_of}
use Rattle.heap_state.specs.Memory.Era.{Era, Memory, IsLaidOut}
use Rattle.heap_state.specs.Functions.{put}
use Rattle.heap_state.specs.Invariant.Ghost.{Ghost}
use Rattle.heap_state.specs.Invariant.Inductive.{Invariant, Knows}
use Rattle.heap_state.specs.Invariant.Parts.Copying.{IsOrigin, Licensed}
use Rattle.heap_state.specs.Invariant.Parts.Leading.{Opened}
use Rattle.heap_state.specs.Invariant.Parts.Pages.{Shut, Quiet, Filling, ScannedBy}
use Rattle.heap_state.specs.Invariant.Parts.Scanning.{Scans, Stepping, Claims}
use Rattle.heap_state.specs.Known.{Known, Team, Origin, Register, Scanned, Scan, Claim, is_late, Quest}
use Rattle.heap_state.proofs.Records.Holding.{writer}
use Rattle.heap_state.proofs.Puts.{put_at, put_other, put_same, some_same, none≢some}
use Rattle.heap_state.specs.Memory.Entries.{PageIs}
use Rattle.heap_laws.specs.Cells.Frames.{GoesOnInChain}
use Rattle.heap_laws.specs.Scanning.Claims.{WinsPage, scan_from, begins_scan, ClaimsPage, SleeperLosesPage}
use Rattle.heap_laws.specs.Steps.{Ready, Steps, InPage, with_page}
use Rattle.heap_laws.proofs.Frames.PageWords.{Turns, quiet_turns, scans_beside, knows_turns}
use Rattle.heap_laws.proofs.Frames.NewPages.{PageTurns}
use Rattle.heap_laws.proofs.Frames.TurnedPages.{keeps_turned}
use Rattle.heap_laws.proofs.Scanning.Scanners.{open_age, scan_age, open_scan, scan_scan, none_writes}
use Rattle.heap_laws.proofs.Steps.RowPlaces.{page_below, few}

pub sleeper_loses : SleeperLosesPage
sleeper_loses E m team g k q ready cl sure past won =
    let c = (ready.invariant.workers k ready.member).pages.claim q cl in
    let z = c.late sure past in
    let a : age_of (m.page q.page) ≡ age_of q.old = ap age_of won in
    omega (arith, z, a, c.earlier)

module _ (E : Era) (m : Memory) (team : Team) (g : Ghost) (k : ℕ) (q : Claim) (ready : Ready E m team g k) (wins : WinsPage E m team k q) where
  abbrev out : IsLaidOut E
  out = ready.laid_out

  abbrev inv : Invariant E m team g
  inv = ready.invariant

  abbrev v : PageWord
  v = Scanning E.epoch k

  abbrev page' : ℕ → PageWord
  page' = put m.page q.page v

  abbrev w' : Known
  w' = begins_scan (team.worker k) q

  me : Knows E m.gate m.traced m.front m.low m.old_front m.old_low m.old_owed g m.page m.cross m.announced m.heap k (team.worker k)
  me = inv.workers k ready.member

  mine : Claims E m.front m.gate.behind g.size g.writer m.page (team.worker k).epoch q
  mine = me.pages.claim q wins.claims

  of_now : (team.worker k).epoch ≡ E.epoch
  of_now = ⊎_elim
      (λ (y : (team.worker k).epoch < E.epoch). absurd (sleeper_loses E m team g k q ready wins.claims wins.sure y wins.unchanged))
      (λ (y : E.epoch ≤ (team.worker k).epoch). let z = me.timely.past in omega (arith, y, z))
      (cases_lt (team.worker k).epoch E.epoch)

  young : age_of (m.page q.page) ≤ E.epoch
  young = let a : age_of (m.page q.page) ≡ age_of q.old = ap age_of wins.unchanged in omega (arith, a, mine.earlier, of_now)

  not_open : ¬ (m.page q.page ≡ Open E.epoch)
  not_open o = let y = open_age (m.page q.page) E.epoch o in omega (arith, y, young)

  not_scan : (j : ℕ) → ¬ (m.page q.page ≡ Scanning E.epoch j)
  not_scan j o = let y = scan_age (m.page q.page) E.epoch j o in omega (arith, y, young)

  -- the page is full or the board; or it holds FRONT, and all is quiet
  kinds : ((((E.start ≤ 64 * q.page) × (64 * q.page + 64 ≤ m.front)) ⊎ (q.page ≡ E.board / 64)) × (q.in_place ≡ false))
      ⊎ ((64 * q.page < m.front) × (m.front < 64 * q.page + 64) × Quiet E m.gate.behind m.front m.page)
  kinds = ⊎_elim
      (λ (i : q.in_place ≡ true). let v = mine.last of_now i in inr (⊎_elim (λ (y : age_of (m.page q.page) ≡ E.epoch + 1). absurd (omega (arith, y, young))) (λ y. (v.1, y.0, y.1)) v.2))
      (λ (i : q.in_place ≡ false). inl (mine.full of_now i, i))
      (cases_Bool q.in_place)

  pub place : (q.page ≡ E.board / 64) ⊎ ((E.start ≤ 64 * q.page) × (64 * q.page < m.front))
  place = ⊎_elim
      (λ y. ⊎_elim (λ z. inr (z.0, omega (arith, z.1))) (λ z. inl z) y.0)
      (λ y. inr (let s = out.start in omega (arith, y.0, y.1, inv.laid.order, s), y.0))
      kinds

  turn : Turns E m.page q.page v
  turn = record { young = omega (arith, young); turned = refl; open_stays = λ o. absurd (not_open o) }

  turns : PageTurns E m.front m.low m.page q.page v
  turns = record { out = out; order = inv.laid.order; aligned = inv.laid.aligned; place = place; turn = turn }

  -- no reserved place has a word on the page
  no_word : (b x : ℕ) → 0 < g.size b → 0 < g.writer b → b ≤ x → x < b + g.size b → x / 64 ≡ q.page → ⊥
  no_word b x st w l r e = ⊎_elim
      (λ y. by_look y.1 (writer E m team g inv b (g.writer b - 1) st (omega arith)).below)
      (λ y. let z = none_writes E m team g inv y.2 (λ p j f o s. let d : p ≡ q.page = omega (arith, f, o, y.0, y.1) in not_scan j (rw d at s)) b st in omega (arith, z, w))
      kinds
    where
      on_board : q.page ≡ E.board / 64 → ⊥
      on_board z = let t = inv.laid.lies b st in let p = out.below in let o = out.old_below in let a = out.board in omega (arith, z, e, r, t, p, o, a, inv.laid.order)

      by_look : q.in_place ≡ false → g.writer b - 1 < team.count → ⊥
      by_look i lt = ⊎_elim
          (λ (f : team.count ≤ q.looked). ⊎_elim
          (λ (z : 64 * q.page + 64 ≤ b). omega (arith, z, l, e))
          (λ (z : q.page ≡ E.board / 64). on_board z)
          (mine.clear of_now i b (g.writer b - 1) st (omega arith) (omega arith)))
          (λ z. ⊎_elim (λ (z : q.in_place ≡ true). absurd (let t = sym z ∙ i in cc)) (λ (z : q.page ≡ E.board / 64). on_board z) z)
          wins.looked

  shut : Shut E m.front m.low g.size g.writer page'
  shut = record {
    free = λ p l r. let d : p ≢ q.page = (λ e. let b = out.below in let a = out.board in omega (arith, place, e, l, r, inv.laid.order, b, a)) in rw (put_other m.page q.page v p d) (inv.shut.free p l r);
    held = λ b x st w l r. let d : x / 64 ≢ q.page = (λ e. no_word b x st w l r e) in rw (put_other m.page q.page v (x / 64) d) (inv.shut.held b x st w l r);
    by = λ b x j st w l r y. let d : x / 64 ≢ q.page = (λ e. no_word b x st w l r e) in inv.shut.by b x j st w l r (rw (put_other m.page q.page v (x / 64) d) at y);
  }

  back : (p : ℕ) → page' p ≡ Open E.epoch → m.page p ≡ Open E.epoch
  back p o = let d : p ≢ q.page = (λ e. absurd (open_scan o (put_at m.page q.page v p e))) in rw (put_other m.page q.page v p d) at o

  filling : Filling E m.gate.behind m.front page'
  filling = record {
    filling = λ p l r a. quiet_turns turn (⊎_elim
        (λ (e : p ≡ q.page). ⊎_elim
        (λ y. absurd (⊎_elim (λ z. omega (arith, z, e, l, r)) (λ z. let b = out.below in let c = out.board in omega (arith, z, e, l, inv.laid.order, b, c)) y.0))
        (λ y. y.2) kinds)
        (λ (d : p ≢ q.page). inv.filling.filling p l r (rw (put_other m.page q.page v p d) at a))
        (cases_eq p q.page));
  }

  opened : Opened E g.size g.writer g.kind m.heap page'
  opened = record { opened = λ x u o. inv.opened.opened x u (back (x / 64) o) }

  own_scan : Scans E m.front g.size g.writer g.kind m.heap page' k (scan_from q)
  own_scan = record {
    claimed = put_same m.page q.page v;
    place = place;
    passed = λ x u e l. absurd (omega (arith, e, l));
    cursor = ⊎_elim (λ y. inl y) (λ y. inr (omega (arith, y.1))) place;
    above = λ b x st w l r e. absurd (no_word b x st (omega (arith, w)) l r e);
  }

  own_stepping : Stepping E m.front g.size g.writer g.kind (scan_from q)
  own_stepping = record { over = λ a e. none≢some e; headed = λ h e. none≢some e; current = λ r e. none≢some e; inner = λ e. absurd (cc); begun = omega arith; ended = λ e. absurd (cc); full = full }
    where
      full : q.in_place ≡ false → (q.page ≡ E.board / 64) ⊎ (64 * q.page + 64 ≤ m.front)
      full i = ⊎_elim (λ y. inr y.1) (λ y. inl y) (mine.full of_now i)

  not_me : (j : ℕ) (s : Scan) → j ≡ k → (team.worker j).scan ≡ Some s → ⊥
  not_me j s y e = let z : (team.worker k).scan ≡ Some s = rw y at e in none≢some (sym wins.idle ∙ z)

  scanned : ScannedBy E team.count page' (put team.worker k w')
  scanned = record {
    scanned = λ p j e. ⊎_elim
        (λ (y : p ≡ q.page). let z : k ≡ j = scan_scan (put_at m.page q.page v p y) e in
        (let l = ready.member in omega (arith, z, l), (scan_from q, ap (λ u. u.scan) (put_at team.worker k w' j (sym z)), sym y)))
        (λ (d : p ≢ q.page). let o = inv.scanned.scanned p j (rw (put_other m.page q.page v p d) at e) in
        let c : j ≢ k = (λ y. not_me j o.1.0 y o.1.1) in
        (o.0, (o.1.0, rw (put_other team.worker k w' j c) o.1.1, o.1.2)))
        (cases_eq p q.page);
  }

  abbrev KnowsNow : ℕ → Known → Type 0
  KnowsNow = Knows E m.gate m.traced m.front m.low m.old_front m.old_low m.old_owed g page' m.cross m.announced m.heap

  others : (j : ℕ) → j < team.count → j ≢ k → KnowsNow j (team.worker j)
  others j l d = knows_turns turn (λ s e p. scans_beside turn j s (λ y. not_scan j (rw y at p.claimed)) p) (inv.workers j l)

  own : KnowsNow k w'
  own =
      let u = knows_turns turn (λ s e p. none≢some (sym wins.idle ∙ e)) me in
      let o1 : (y : Quest) → (team.worker k).quest ≡ Some y → IsOrigin E g.size g.writer g.kind m.heap (is_late E.epoch (team.worker k)) (team.worker k).done (team.worker k).registers (Some (scan_from q)) y.old y.origin =
      λ y e. origin y.old y.origin (me.origin y e) in
      let o2 : Licensed m.gate.behind g.kept k (is_late E.epoch (team.worker k)) (team.worker k).copy (team.worker k).quest (Some (scan_from q)) =
      record { licensed = λ c e. inl (scan_from q, refl); asked = me.licensed.asked; counted = me.licensed.counted; idle = me.licensed.idle } in
      let o3 : (s : Scan) → Some (scan_from q) ≡ Some s → (team.worker k).epoch ≡ E.epoch = λ s e. of_now in
      let o4 : (s : Scan) → Some (scan_from q) ≡ Some s → Scans E m.front g.size g.writer g.kind m.heap page' k s = λ s e. rw (← some_same e) own_scan in
      let o5 : (s : Scan) → Some (scan_from q) ≡ Some s → Stepping E m.front g.size g.writer g.kind s = λ s e. rw (← some_same e) own_stepping in
      let o6 : (c : Claim) → None ≡ Some c → Claims E m.front m.gate.behind g.size g.writer page' (team.worker k).epoch c = λ c e. none≢some e in
      assumption
    where
      origin : (old : ℕ) (o : Origin) → IsOrigin E g.size g.writer g.kind m.heap (is_late E.epoch (team.worker k)) (team.worker k).done (team.worker k).registers (team.worker k).scan old o
          → IsOrigin E g.size g.writer g.kind m.heap (is_late E.epoch (team.worker k)) (team.worker k).done (team.worker k).registers (Some (scan_from q)) old o
      origin old (Register r) y = y
      origin old (Scanned x) y = none≢some (sym wins.idle ∙ y.0.1)

  -- who had a cell to link still may copy
  goes : GoesOnInChain E w' (team.worker k)
  goes = record { linking = refl; pass = refl; cleared = λ e. e; licence = λ _ knows _. (inl (scan_from q, refl), knows); ground = λ _. (refl, refl) }

  pub claims : ClaimsPage E m team g k q
  claims = record {
    now = of_now;
    steps = subst (λ (e : ℕ). Steps E m team g k (Some (PageIs q.page (Scanning e k))) w' g) (sym of_now) (record {
      later = with_page m q.page v;
      writes = InPage q.page v (page_below ready q.page place) (rw ready.at_gate at inv.counted.epoch_fits, let f = few ready in omega (arith, f));
      keeps = keeps_turned E m team g k q.page v (Some (scan_from q)) None inv turns scanned shut opened filling goes others own;
    });
  }
