-- FRONT moves by the size of a copy, which gets the place there.
use Rattle.std.proofs.Common.{◌≡◌, ◌≢◌, ℕ, ◌+◌, ◌-◌, ◌*◌, ◌/◌, ◌<◌, ◌≤◌, Bool, true, false, refl, sym, ap, ◌∙◌, arith, Option, Some, ⊎_elim, ◌⊎◌, inl, inr, None}
use Rattle.std.proofs.lemmas.Bool.{cases_eq, cases_lt, ne_eqb}
use Rattle.space_map.specs.declared.page_word.PageWord.TheVariants.{Open, Scanning}
use Rattle.space_map.specs.PageWord.{age_of}
use Rattle.space_map.specs.declared.area_word.AreaWord.{AreaWord}
use Rattle.heap_state.specs.Invariant.Parts.Cells.{Cells}
use Rattle.heap_state.specs.Memory.Era.{Era, Memory}
use Rattle.heap_state.specs.Functions.{sum_below}
use Rattle.heap_state.specs.Invariant.Ghost.{Ghost}
use Rattle.heap_state.specs.Invariant.Inductive.{Invariant, Knows}
use Rattle.heap_state.specs.Invariant.Parts.Copies.{Keepers, Room, owing}
use Rattle.heap_state.specs.Invariant.Parts.Copying.{IsOrigin, Seeks, Copies, Keeps, Licensed}
use Rattle.heap_state.specs.Invariant.Parts.Knowledge.{Clean, Accesses, Resets}
use Rattle.heap_state.specs.Invariant.Parts.Pages.{Shut, Quiet, Filling, Tracing}
use Rattle.heap_state.specs.Invariant.Parts.Scanning.{Scans, Stepping, Rounds, Claims, Looks, LastLooks}
use Rattle.heap_state.specs.Known.{Known, Team, Quest, Copy, Scan, Claim, Look, LastLook, Round, Reset, Access, Origin, Register, Scanned, is_late, is_mutator}
use Rattle.heap_state.proofs.Workers.Frames.{counted_put, staffed_put, scanned_put, stocks_put, numbered_put}
use Rattle.heap_state.proofs.Puts.{put_at, put_other, put_same, team_put, some_same, none≢some, sum_below-change}
use Rattle.heap_state.proofs.Holds.Still.{open_scanning, still}
use Rattle.heap_laws.specs.Copying.{copying, moved_by, reserved}
use Rattle.heap_laws.specs.Steps.{Ready, IsAreaNow, with_worker, with_area}
use Rattle.heap_laws.proofs.Cells.Kept.{of_chain}
use Rattle.heap_laws.proofs.Cells.Reserved.{reserves}
use Rattle.heap_laws.proofs.Cells.ChainRows.{StoresArea}
use Rattle.heap_laws.proofs.Copying.InProgress.{copies_in_chain}
use Rattle.heap_laws.proofs.Copying.Reservation.{Reservation, empty, not_new, was, is, source_other, old_side, laid_reserved, headed_reserved, copied_reserved, once_reserved, written_on, here_back, here_on, lands_reserved, opened_reserved, landing_reserved, older_reserved, raw_reserved, counts_reserved, new_reserved, written_reserved, space_reserved, crossing_reserved, stocks_reserved, numbered_reserved}
use Rattle.heap_laws.proofs.Copying.Room.{untraced, alone, goes_on, at_source, has_room}
use Rattle.heap_laws.proofs.Scanning.Scanners.{open_age, scan_age, scan_scan}
use Rattle.heap_laws.proofs.Targets.Reserved.{reserves as reserves_targets}
use Rattle.heap_state.proofs.Workers.Posts.{flips_ask}

pub record Reserving (E : Era) (m : Memory) (team : Team) (g : Ghost) (k : ℕ) (c : Copy) : Type 0 where
  pub ready : Ready E m team g k
  pub has : (team.worker k).copy ≡ Some c
  pub ann : c.announced ≡ true
  pub loose : c.reserved ≡ false
  pub at_front : c.to ≡ m.front
  pub area : AreaWord
  pub now : IsAreaNow E m area

module _ {E : Era} {m : Memory} {team : Team} {g : Ghost} {k : ℕ} {c : Copy} (reserving : Reserving E m team g k c) where
  open reserving use {ready, has, ann, loose, at_front, area, now}

  abbrev inv : Invariant E m team g
  inv = ready.invariant

  abbrev got : Copy
  got = record c { reserved = true; crossed = (c.to + 63) / 64 }

  abbrev pub w' : Known
  w' = copying (team.worker k) got

  abbrev pub g' : Ghost
  g' = reserved g k c.from c.to c.size

  me : Knows E m.gate m.traced m.front m.low m.old_front m.old_low m.old_owed g m.page m.cross m.announced m.heap k (team.worker k)
  me = inv.workers k ready.member

  pub mine : Copies E m.front g.size g.writer g.copy g.keeper g.kept m.announced m.cross m.heap k c
  mine = me.copy c has

  no_copy : g.copy c.from ≡ 0
  no_copy = (mine.loose loose).0

  enough : c.size ≤ m.owed
  enough = (has_room E m team g k c ready has loose).owed

  pub reservation : Reservation E m.front m.low g k c.from c.to c.size
  reservation = record {
    laid_out = ready.laid_out;
    laid = inv.laid;
    copied = inv.copied;
    here = at_front;
    room = let h = (has_room E m team g k c ready has loose).below_low in omega (arith, h, at_front);
    some = mine.old.0;
    old = mine.old.1;
    below = (mine.old.4, mine.old.5);
    uncopied = no_copy;
    taken = mine.old.2;
  }

  room : Room E m.traced (c.to + c.size) m.low (m.owed - c.size) g'.size g'.copy
  room = record {
    needs = λ t. let r = inv.room.needs t in let s = at_source E m team g k c ready has loose in omega (arith, r, s, new_source, change);
    fits = λ t. let f = inv.room.fits t in omega (arith, f, enough, at_front);
    small = let s = inv.room.small in omega (arith, s);
  }
    where
      new_source : owing g'.size g'.copy (E.old_start + (c.from - E.old_start)) ≡ 0
      new_source = let q : E.old_start + (c.from - E.old_start) ≡ c.from = omega (arith, mine.old) in rw (q, put_same g.copy c.from (c.to + 1), ne_eqb (c.to + 1) 0 (omega arith)) refl

      other_term : (b : ℕ) → E.old_start ≤ b → b < E.old_start + E.old_span → b ≢ c.from → owing g.size g.copy b ≡ owing g'.size g'.copy b
      other_term b l n d = rw (put_other g.size c.to c.size b (old_side reservation b l n), put_other g.copy c.from (c.to + 1) b d) refl

      change : sum_below E.old_span (λ x. owing g'.size g'.copy (E.old_start + x)) + owing g.size g.copy (E.old_start + (c.from - E.old_start))
          ≡ sum_below E.old_span (λ x. owing g.size g.copy (E.old_start + x)) + owing g'.size g'.copy (E.old_start + (c.from - E.old_start))
      change = sum_below-change E.old_span (λ x. owing g.size g.copy (E.old_start + x)) (λ x. owing g'.size g'.copy (E.old_start + x)) (c.from - E.old_start) (omega (arith, mine.old)) (λ x l d. other_term (E.old_start + x) (omega arith) (omega arith) (omega (arith, mine.old, d)))

  -- ---- pages

  -- a page of the new place is free, or holds FRONT and is not of this epoch but where k scans it
  page_of : (x : ℕ) → c.to ≤ x → x < c.to + c.size → (age_of (m.page (x / 64)) ≤ E.epoch) ⊎ (m.page (x / 64) ≡ Scanning E.epoch k)
  page_of x l n = ⊎_elim
      (λ (y : 64 * (x / 64) < m.front). ⊎_elim
      (λ (e : age_of (m.page (x / 64)) ≡ E.epoch + 1).
      let q = inv.filling.filling (x / 64) y (omega (arith, at_front, l)) e in
      let r = still E m team g inv k c ready.member has q in
      let z : x / 64 ≡ r.page_number = omega (arith, r.begun, r.filling, y, l, at_front) in inr (ap m.page z ∙ r.scanned))
      (λ (d : age_of (m.page (x / 64)) ≢ E.epoch + 1). inl (let y = inv.aged.young (x / 64) in omega (arith, d, y)))
      (cases_eq (age_of (m.page (x / 64))) (E.epoch + 1)))
      (λ (y : m.front ≤ 64 * (x / 64)). inl (inv.shut.free (x / 64) y (omega (arith, inv.laid.aligned, reservation.room, n))))
      (cases_lt (64 * (x / 64)) m.front)

  shut : Shut E (c.to + c.size) m.low g'.size g'.writer m.page
  shut = record {
    free = λ p l n. inv.shut.free p (omega (arith, at_front, l)) n;
    held = λ b x st w l n. ⊎_elim
        (λ (e : b ≡ c.to). let sz = put_at g.size c.to c.size b e in not_open x (page_of x (omega (arith, e, l)) (omega (arith, e, n, sz))))
        (λ (d : b ≢ c.to). inv.shut.held b x (was reservation b d st) (rw (put_other g.writer c.to (k + 1) b d) at w) l (rw (put_other g.size c.to c.size b d) at n))
        (cases_eq b c.to);
    by = λ b x j st w l n y. ⊎_elim
        (λ (e : b ≡ c.to). let sz = put_at g.size c.to c.size b e in rw (put_at g.writer c.to (k + 1) b e) (by_me x j y (page_of x (omega (arith, e, l)) (omega (arith, e, n, sz)))))
        (λ (d : b ≢ c.to). rw (put_other g.writer c.to (k + 1) b d) (inv.shut.by b x j (was reservation b d st) (rw (put_other g.writer c.to (k + 1) b d) at w) l (rw (put_other g.size c.to c.size b d) at n) y))
        (cases_eq b c.to);
  }
    where
      not_open : (x : ℕ) → (age_of (m.page (x / 64)) ≤ E.epoch) ⊎ (m.page (x / 64) ≡ Scanning E.epoch k) → ¬ (m.page (x / 64) ≡ Open E.epoch)
      not_open x (inl q) o = let y = open_age (m.page (x / 64)) E.epoch o in omega (arith, y, q)
      not_open x (inr q) o = open_scanning o q

      by_me : (x j : ℕ) → m.page (x / 64) ≡ Scanning E.epoch j → (age_of (m.page (x / 64)) ≤ E.epoch) ⊎ (m.page (x / 64) ≡ Scanning E.epoch k) → k + 1 ≡ j + 1
      by_me x j y (inl q) = absurd (let z = scan_age (m.page (x / 64)) E.epoch j y in omega (arith, z, q))
      by_me x j y (inr q) = let z : k ≡ j = scan_scan q y in omega (arith, z)

  filling : Filling E m.gate.behind (c.to + c.size) m.page
  filling = record {
    filling = λ p l n e. ⊎_elim
        (λ (y : 64 * p < m.front). let q = inv.filling.filling p y (omega (arith, at_front, n)) e in record { none = q.none; board = q.board; full = λ r u v. q.full r u (omega (arith, y, v, n)) })
        (λ (y : m.front ≤ 64 * p). absurd (let q = inv.shut.free p y (omega (arith, inv.laid.aligned, reservation.room, l)) in omega (arith, q, e)))
        (cases_lt (64 * p) m.front);
  }

  tracing : Tracing E m.traced m.gate.behind (c.to + c.size) m.page
  tracing = let u = untraced E m team g k c ready has in
      record { begun = inv.tracing.begun; bottom = inv.tracing.bottom; top = inv.tracing.top; quiet = λ e. absurd (omega (arith, u, e)); last = λ e. absurd (omega (arith, u, e)) }

  -- ---- what each worker knows

  claims : (d : ℕ) (q : Claim) → Claims E m.front m.gate.behind g.size g.writer m.page d q → Claims E (c.to + c.size) m.gate.behind g'.size g'.writer m.page d q
  claims d q p = record {
    earlier = p.earlier;
    full = λ e i. ⊎_elim (λ y. inl (y.0, omega (arith, at_front, y.1))) (λ y. inr y) (p.full e i);
    clear = λ e i b j st w l. ⊎_elim
        (λ (y : b ≡ c.to). ⊎_elim (λ z. inl (omega (arith, z.1, y, at_front))) (λ z. inr z) (p.full e i))
        (λ (y : b ≢ c.to). p.clear e i b j (was reservation b y st) (rw (put_other g.writer c.to (k + 1) b y) at w) l)
        (cases_eq b c.to);
    last = λ e i. let v = p.last e i in (v.0, omega (arith, at_front, v.1), inl (⊎_elim (λ y. y) (λ y. in_place q v.1 y.0 y.1) v.2));
    late = p.late;
    in_place = p.in_place;
  }
    where
      in_place : (q : Claim) → 64 * q.page < m.front → m.front < 64 * q.page + 64 → Quiet E m.gate.behind m.front m.page → age_of (m.page q.page) ≡ E.epoch + 1
      in_place q l n quiet =
          let r = still E m team g inv k c ready.member has quiet in
          let e : q.page ≡ r.page_number = omega (arith, r.begun, r.filling, l, n) in
          scan_age (m.page q.page) E.epoch k (ap m.page e ∙ r.scanned)

  looks : (d : ℕ) (l : Look) → Looks E m.gate.behind m.front m.page d l → Looks E m.gate.behind (c.to + c.size) m.page d l
  looks d l p = record { earlier = p.earlier; none = λ e. ((p.none e).0, let q = (p.none e).1 in omega (arith, q, at_front)); board = p.board; full = p.full; last = p.last; start = p.start; late = p.late }

  last_looks : (d : ℕ) (l : LastLook) → LastLooks E m.traced m.gate.behind m.front m.page d l → LastLooks E m.traced m.gate.behind (c.to + c.size) m.page d l
  last_looks d l p = record {
    earlier = p.earlier;
    now = λ e t. absurd (let y = p.now e t in let r = still E m team g inv k c ready.member has y.0 in open_scanning (y.1 r.page_number r.begun r.filling) r.scanned);
    late = p.late;
  }

  rounds : (d : ℕ) (r : Round) → Rounds E m.traced m.front d r → Rounds E m.traced (c.to + c.size) d r
  rounds d r p = record { traced_then = p.traced_then; front_then = λ f e n. let y = p.front_then f e n in omega (arith, y, at_front) }

  accesses : (f : Access) → Accesses E g.size g.writer g.kind f → Accesses E g'.size g'.writer g'.kind f
  accesses f p = let n = not_new reservation f.at p.stands in record {
    stands = is reservation f.at p.stands;
    written = written_on reservation f.at p.stands p.written;
    inside = p.inside;
    first = rw (put_other g.kind c.to (g.kind c.from) (f.at) n) (p.first);
    word = rw (put_other g.size c.to c.size (f.at) n) (p.word);
    role = rw (put_other g.kind c.to (g.kind c.from) (f.at) n) (p.role);
  }

  registers : (late : Bool) (done : ℕ) (r : ℕ → ℕ) → Clean E g.size g.writer late done r → Clean E g'.size g'.writer late done r
  registers late done r p = record { clean = p.clean; lands = λ j l. lands_reserved reservation (r j) (p.lands j l); old = p.old }

  origin : (late : Bool) (done : ℕ) (r : ℕ → ℕ) (scan : Option Scan) (old : ℕ) (o : Origin) → IsOrigin E g.size g.writer g.kind m.heap late done r scan old o → IsOrigin E g'.size g'.writer g'.kind m.heap late done r scan old o
  origin late done r scan old (Register x) p = p
  origin late done r scan old (Scanned x) p = (p.0, here_on reservation x p.1, p.2)

  seeks : (x : Quest) → Seeks E g.size g.writer g.copy x → Seeks E g'.size g'.writer g'.copy x
  seeks x p = record {
    old = (is reservation x.old p.old.0, p.old.1, p.old.2);
    found = λ b e.
        let y = p.found b e in
        let d : x.old ≢ c.from = (λ i. let z : g.copy x.old ≡ g.copy c.from = ap g.copy i in omega (arith, z, y.0, no_copy)) in
        let t = inv.copied.target x.old b p.old.0 y.0 in
        let n : b ≢ c.to = omega (arith, t.3, at_front) in
        (rw (put_other g.copy c.from (c.to + 1) (x.old) d) (y.0), rw (put_other g.writer c.to (k + 1) b n) (y.1));
  }

  scans : (j : ℕ) (s : Scan) → Scans E m.front g.size g.writer g.kind m.heap m.page j s → Scans E (c.to + c.size) g'.size g'.writer g'.kind m.heap m.page j s
  scans j s p = record {
    claimed = p.claimed;
    place = ⊎_elim (λ y. inl y) (λ y. inr (y.0, omega (arith, y, at_front))) (p.place);
    passed = λ x u n l. p.passed x (here_back reservation x u) n l;
    cursor = ⊎_elim (λ y. inl y) (λ y. inr (omega (arith, y, at_front))) (p.cursor);
    above = λ b x st w l n q. ⊎_elim
        (λ (y : b ≡ c.to). ⊎_elim
        (λ (z : s.page ≡ E.board / 64). absurd (let u = put_at g.size c.to c.size b y in omega (arith, z, q, l, n, u, y, reservation.room, inv.laid.order, ready.laid_out.below, ready.laid_out.board)))
        (λ z. omega (arith, z, y, l, at_front)) (p.cursor))
        (λ (y : b ≢ c.to). p.above b x (was reservation b y st) (rw (put_other g.writer c.to (k + 1) b y) at w) l (rw (put_other g.size c.to c.size b y) at n) q)
        (cases_eq b c.to);
  }

  stepping : (j : ℕ) (s : Scan) → (team.worker j).scan ≡ Some s → Scans E m.front g.size g.writer g.kind m.heap m.page j s → Stepping E m.front g.size g.writer g.kind s → Stepping E (c.to + c.size) g'.size g'.writer g'.kind s
  stepping j s e sc p = record {
    over = λ a i. let y = p.over a i in let n = not_new reservation a y.0 in (is reservation a y.0, written_on reservation a y.0 y.1, y.2, rw (put_other g.size c.to c.size a n) (y.3));
    headed = λ h i.
        let y = p.headed h i in
        let n = not_new reservation h.at y.stands in
        record {
          stands = rw (put_other g.size c.to c.size h.at n) y.stands;
          written = written_on reservation h.at y.stands y.written;
          mixed = rw (put_other g.kind c.to (g.kind c.from) h.at n) y.mixed;
          whole = rw (put_other g.size c.to c.size h.at n) y.whole;
          inside = (y.inside.0, let q = y.inside.1 in omega (arith, q, at_front));
          cursor = y.cursor;
        };
    current = λ r i.
        let y = p.current r i in
        let n = not_new reservation r.at y.stands in
        record {
          stands = rw (put_other g.size c.to c.size r.at n) y.stands;
          written = written_on reservation r.at y.stands y.written;
          fields = rw (put_other g.kind c.to (g.kind c.from) r.at n, put_other g.size c.to c.size r.at n) y.fields;
          whole = rw (put_other g.size c.to c.size r.at n) y.whole;
          inside = (y.inside.0, let q = y.inside.1 in omega (arith, q, at_front));
          entered = rw (put_other g.kind c.to (g.kind c.from) r.at n) y.entered;
          cursor = y.cursor;
        };
    inner = λ i. let y = p.inner i in omega (arith, y, at_front);
    begun = p.begun;
    full = λ i. ⊎_elim (λ y. inl y) (λ y. inr (omega (arith, y, at_front))) (p.full i);
    ended = λ i. ⊎_elim (λ y. inl y) (λ z. ⊎_elim (λ y. inr (inl y)) (λ y. inl (past i y.0 y.1)) z) (p.ended i);
  }
    where
      -- a scan that ended at FRONT has come to the page's end
      past : s.ended ≡ true → s.page < E.board / 64 → s.cursor ≡ m.front → 64 * s.page + 64 ≤ s.cursor
      past i b at = ⊎_elim
          (λ (f : m.front < 64 * s.page + 64). absurd (filling_page f (⊎_elim (λ (y : s.page ≡ E.board / 64). absurd (omega (arith, y, b))) (λ y. y.1) (sc.place))))
          (λ (f : 64 * s.page + 64 ≤ m.front). omega (arith, f, at))
          (cases_lt m.front (64 * s.page + 64))
        where
          filling_page : m.front < 64 * s.page + 64 → 64 * s.page < m.front → ⊥
          filling_page f l =
              let quiet = inv.filling.filling s.page l f (scan_age (m.page s.page) E.epoch j sc.claimed) in
              let own : j ≡ k = alone E m team g k c ready has quiet j s sc.claimed l f in
              let of : (team.worker k).scan ≡ Some s = ap (λ (x : ℕ). (team.worker x).scan) (sym own) ∙ e in
              let on = goes_on E m team g k c ready has quiet s of in
              absurd (let z : true ≡ false = sym i ∙ on in cc)

  resets : (j : ℕ) (r : Reset) → j < team.count → (team.worker j).reset ≡ Some r → Resets E m.gate (c.to + c.size) m.low m.old_front m.old_low m.old_owed r
  resets j r l e =
      let u = inv.workers j l in
      let t = (u.seen_traced (u.asks (flips_ask (team.worker j).post (u.resets r e)))).1 in
      let n = untraced E m team g k c ready has in
      absurd (omega (arith, t, n))

  -- what a worker knows, but for its copy
  stays : (j : ℕ) → j < team.count → (o : Option Copy) → Licensed m.gate.behind g'.kept j (is_late E.epoch (team.worker j)) o (team.worker j).quest (team.worker j).scan
      → ((x : Copy) → o ≡ Some x → Copies E (c.to + c.size) g'.size g'.writer g'.copy g'.keeper g'.kept m.announced m.cross m.heap j x)
      → ((x : Copy) → o ≡ Some x → Keeps g'.kind g'.identity m.heap x)
      → Knows E m.gate m.traced (c.to + c.size) m.low m.old_front m.old_low m.old_owed g' m.page m.cross m.announced m.heap j (record (team.worker j) { copy = o })
  stays j l o licence copies keeps =
      let u = inv.workers j l in
      let o1 = λ (i : is_mutator (team.worker j).post ≡ true) (e : (team.worker j).account.end ≡ None). registers (is_late E.epoch (team.worker j)) (team.worker j).done (team.worker j).registers (u.registers i e) in
      let o2 = λ (f : Access) (e : (team.worker j).access ≡ Some f). accesses f (u.access f e) in
      let o3 = λ (x : Quest) (e : (team.worker j).quest ≡ Some x). origin (is_late E.epoch (team.worker j)) (team.worker j).done (team.worker j).registers (team.worker j).scan x.old x.origin (u.origin x e) in
      let o4 = λ (x : Quest) (e : (team.worker j).quest ≡ Some x). seeks x (u.quest x e) in
      let o5 = λ (s : Scan) (e : (team.worker j).scan ≡ Some s). scans j s (u.scan s e) in
      let o6 = λ (s : Scan) (e : (team.worker j).scan ≡ Some s). stepping j s e (u.scan s e) (u.stepping s e) in
      let o7 = λ (r : Round) (e : (team.worker j).round ≡ Some r). rounds (team.worker j).epoch r (u.pages.round r e) in
      let o8 = λ (x : Claim) (e : (team.worker j).claim ≡ Some x). claims (team.worker j).epoch x (u.pages.claim x e) in
      let o9 = λ (x : Look) (e : (team.worker j).look ≡ Some x). looks (team.worker j).epoch x (u.pages.look x e) in
      let o10 = λ (x : LastLook) (e : (team.worker j).last_look ≡ Some x). last_looks (team.worker j).epoch x (u.pages.last_look x e) in
      let o11 = λ (r : Reset) (e : (team.worker j).reset ≡ Some r). resets j r l e in
      assumption

  others : (j : ℕ) → j < team.count → j ≢ k → Knows E m.gate m.traced (c.to + c.size) m.low m.old_front m.old_low m.old_owed g' m.page m.cross m.announced m.heap j (team.worker j)
  others j l d = let u = inv.workers j l in stays j l (team.worker j).copy u.licensed (λ x e. copies x (u.copy x e)) (λ x e. keeps x (u.copy x e) (u.keeps x e))
    where
      not_source : (x : Copy) → Copies E m.front g.size g.writer g.copy g.keeper g.kept m.announced m.cross m.heap j x → x.from ≢ c.from
      not_source x p e = let y : g.keeper x.from ≡ g.keeper c.from = ap g.keeper e in d (omega (arith, p.old.2, mine.old.2))

      from_other : (x : Copy) → Copies E m.front g.size g.writer g.copy g.keeper g.kept m.announced m.cross m.heap j x → x.from ≢ c.to
      from_other x p = not_new reservation x.from (omega (arith, p.old))

      copies : (x : Copy) → Copies E m.front g.size g.writer g.copy g.keeper g.kept m.announced m.cross m.heap j x → Copies E (c.to + c.size) g'.size g'.writer g'.copy g'.keeper g'.kept m.announced m.cross m.heap j x
      copies x p = record {
        old = rw (put_other g.size c.to c.size x.from (from_other x p)) (p.old);
        loose = λ e. rw (put_other g.copy c.from (c.to + 1) x.from (not_source x p)) (p.loose e);
        aimed = λ e. let y = p.aimed e in (y.0, omega (arith, y.1, at_front));
        named = λ e. let y = p.named e in (y.0, y.1, omega (arith, y.2, at_front));
        place = λ e. let y = p.place e in let n : x.to ≢ c.to = omega (arith, y.5, p.old.0, at_front) in
            rw (put_other g.copy c.from (c.to + 1) x.from (not_source x p), put_other g.writer c.to (k + 1) x.to n, put_other g.size c.to c.size x.to n) (y.0, y.1, y.2, y.3, y.4, omega (arith, y.5, at_front));
        same = p.same;
        bound = p.bound;
        loaded = p.loaded;
        crossings = p.crossings;
      }

      keeps : (x : Copy) → Copies E m.front g.size g.writer g.copy g.keeper g.kept m.announced m.cross m.heap j x → Keeps g.kind g.identity m.heap x → Keeps g'.kind g'.identity m.heap x
      keeps x p y = record {
        head = rw (put_other g.kind c.to (g.kind c.from) x.from (from_other x p), put_other g.identity c.to (g.identity c.from) x.from (from_other x p)) (y.head);
        keeps = rw (put_other g.kind c.to (g.kind c.from) x.from (from_other x p), put_other g.identity c.to (g.identity c.from) x.from (from_other x p)) (y.keeps);
      }

  own_copies : Copies E (c.to + c.size) g'.size g'.writer g'.copy g'.keeper g'.kept m.announced m.cross m.heap k got
  own_copies = let n : c.from ≢ c.to = source_other reservation in let nm = mine.named ann in let dn = (mine.loose loose).1 in record {
    old = rw (put_other g.size c.to c.size c.from n) (mine.old);
    loose = λ e. absurd (cc);
    aimed = λ e. (nm.1, omega (arith, nm.2));
    named = λ e. (nm.0, nm.1, omega (arith, nm.2));
    place = λ e. (ann, put_same g.copy c.from (c.to + 1), put_same g.writer c.to (k + 1), put_same g.size c.to c.size, nm.1, omega arith);
    same = λ i p l. absurd (omega (arith, dn));
    bound = mine.bound;
    loaded = mine.loaded;
    crossings = λ e p b i l. absurd (omega arith);
  }

  own_keeps : Keeps g'.kind g'.identity m.heap got
  own_keeps = let n : c.from ≢ c.to = source_other reservation in let dn = (mine.loose loose).1 in record {
    head = λ l. absurd (omega (arith, dn, l));
    keeps = rw (put_other g.kind c.to (g.kind c.from) c.from n, put_other g.identity c.to (g.identity c.from) c.from n) ((me.keeps c has).keeps);
  }

  own : Knows E m.gate m.traced (c.to + c.size) m.low m.old_front m.old_low m.old_owed g' m.page m.cross m.announced m.heap k w'
  own = stays k ready.member (Some got)
      (record {
        licensed = λ x e. me.licensed.licensed c has;
        asked = λ x e. let a = me.licensed.asked c has in (a.0, a.1, a.2 ∙ ap (λ (y : Copy). y.from) (some_same e), a.3);
        counted = me.licensed.counted;
        idle = λ e. absurd (none≢some (sym e));
      })
      (λ x e. rw (← some_same e) own_copies)
      (λ x e. rw (← some_same e) own_keeps)

  kept : Keepers g'.size g'.keeper team.count
  kept = record { kept = λ b j st y. inv.kept.kept b j (was reservation b (λ e. let q : g.keeper b ≡ g.keeper c.to = ap g.keeper e in let z = (inv.copied.blank c.to (empty reservation)).1 in omega (arith, q, z, y)) st) y }

  cells : Cells E (with_area m (c.to + c.size) m.low (m.owed - c.size)) (with_worker team k w') g'
  cells =
      let before = inv.cells in
      let front = now.front in
      let s : StoresArea E m (with_area m (c.to + c.size) m.low (m.owed - c.size)) (moved_by c.size area) = record { traced = refl; front = omega (arith, front, at_front); low = now.low; heap = refl } in
      of_chain {m = m} (record { weak = refl; weak_turn = refl })
      (reserves E m (with_area m (c.to + c.size) m.low (m.owed - c.size)) m.weak m.weak_turn team g before.ranks k c area w' ready has loose at_front now s (copies_in_chain E (team.worker k) got) before.chain)
      (reserves_targets E m (with_area m (c.to + c.size) m.low (m.owed - c.size)) team g k c area ready has loose at_front now s before.targets)

  pub invariant : Invariant E (with_area m (c.to + c.size) m.low (m.owed - c.size)) (with_worker team k w') g'
  invariant = record {
    counted = counted_put team.worker k w' refl refl inv.counted;
    staffed = staffed_put team.worker k w' refl inv.staffed;
    laid = laid_reserved reservation;
    headed = headed_reserved reservation m.heap inv.headed;
    copied = copied_reserved reservation;
    once = once_reserved reservation inv.once;
    kept = kept;
    room = room;
    raw_words = raw_reserved reservation m.heap inv.raw_words;
    counts = counts_reserved reservation m.heap inv.counts;
    shut = shut;
    filling = filling;
    tracing = tracing;
    aged = inv.aged;
    scanned = scanned_put team.worker k w' refl inv.scanned;
    opened = opened_reserved reservation m.heap m.page inv.opened;
    landing = landing_reserved reservation m.heap inv.landing;
    older = older_reserved reservation m.heap inv.older;
    new = new_reserved reservation m.low (E.start + E.span) E.epoch m.heap m.page inv.laid.aligned (inl reservation.room) inv.new;
    new_written = written_reserved reservation inv.new_written;
    old_space = record { walks = λ t d e. space_reserved reservation m.old_front m.old_low d m.heap m.page (inv.old_space.walks t d e) };
    old_area = inv.old_area;
    old_pages = inv.old_pages;
    sizes = inv.sizes;
    crossing = crossing_reserved reservation m.cross inv.crossing;
    stocks = stocks_put team.worker k w' (λ _ e. e) (stocks_reserved reservation team.count m.heap m.page team.worker inv.stocks);
    numbered = numbered_put team.worker k w' refl (numbered_reserved reservation team.mutators team.worker inv.numbered);
    cells = cells;
    workers = team_put team.count (Knows E m.gate m.traced (c.to + c.size) m.low m.old_front m.old_low m.old_owed g' m.page m.cross m.announced m.heap) team.worker k w' others own;
  }
