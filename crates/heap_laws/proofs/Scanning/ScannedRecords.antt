-- The records on a page that is scanned: the crossing, the headers, and FRONT.
use Rattle.std.proofs.Common.{◌≡◌, ◌≢◌, ℕ, zero, suc, ◌+◌, ◌-◌, ◌*◌, ◌/◌, ◌<◌, ◌≤◌, eqb, true, false, cond, Some, refl, sym, ◌∙◌, arith, ⊎_elim, ◌⊎◌, inl, inr, ap}
use Rattle.std.proofs.lemmas.Bool.{cases_eq, cases_lt, eq-eqb, ne_eqb}
use Rattle.plain_state.specs.declared.kind.Kind.{Kind}
use Rattle.plain_state.specs.Layout.{is_field}
use Rattle.plain_state.specs.declared.kind.Kind.TheVariants.{Mixed}
use Rattle.heap_words.specs.declared.kind.Kind.{Kind as HeaderKind}
use Rattle.heap_words.specs.declared.kind.Kind.TheVariants as header_kinds
use Rattle.heap_words.specs.Decoded.{NumberWord, HeaderWord, decode}
use Rattle.heap_state.specs.Memory.Era.{Era, Memory, IsLaidOut}
use Rattle.heap_state.specs.Invariant.Ghost.{Ghost, Here, count_said, said_kind}
use Rattle.heap_state.specs.Invariant.Inductive.{Invariant, Knows}
use Rattle.heap_state.specs.Invariant.Parts.Scanning.{Scans, Stepping, IsIn}
use Rattle.heap_state.specs.Known.{Team, Copy, SeenHeader, Scan, SeenRecord}
use Rattle.heap_state.proofs.Records.Holding.{writer, uncopied_here}
use Rattle.heap_state.proofs.Puts.{some_same, none≢some}
use Rattle.heap_state.proofs.Records.KindsOfHeaders.{count_there, said_there}
use Rattle.heap_state.specs.Memory.FieldSpan.{first_field, seen_at, entry_of}
use Rattle.heap_state.proofs.Records.FieldSpans.{span-within, enters_within, enters_past_no_field}
use Rattle.heap_laws.specs.Scanning.Words.{scanning, scan_headed, scan_in_record, IsScanning, ReadingCrossingKeeps, ReadingFirstHeaderKeeps, ReadingFirstMixedKeeps, ReadingFrontKeeps, ReadingNextHeaderKeeps, ReadingNextMixedKeeps, ReadingCountKeeps}
use Rattle.heap_laws.specs.Steps.{with_worker, Preserves}
use Rattle.heap_laws.proofs.Fields.Slots.{here_field}
use Rattle.heap_laws.proofs.Scanning.ScanInProgress.{past, goes_on, no_copy}
use Rattle.heap_laws.proofs.Steps.Learning.{learnt}

-- two headers that a word decodes to are one
header_same : {k l : HeaderKind} {a b s t i j : ℕ} (w : ℕ) → decode w ≡ HeaderWord k a s i → decode w ≡ HeaderWord l b t j → (k ≡ l) × (a ≡ b)
header_same w e f = let q = sym e ∙ f in (cc, cc)

module _ (E : Era) (m : Memory) (team : Team) (g : Ghost) (k : ℕ) (s : Scan) (out : IsLaidOut E) (inv : Invariant E m team g) (below : k < team.count) (is : IsScanning team k s) (no_board : s.page ≢ E.board / 64) where
  me : Knows E m.gate m.traced m.front m.low m.old_front m.old_low m.old_owed g m.page m.cross m.announced m.heap k (team.worker k)
  me = inv.workers k below

  mine : Scans E m.front g.size g.writer g.kind m.heap m.page k s
  mine = me.scan s is.scans

  steps : Stepping E m.front g.size g.writer g.kind s
  steps = me.stepping s is.scans

  pub place : (E.start ≤ 64 * s.page) × (64 * s.page < m.front)
  place = ⊎_elim (λ b. absurd (no_board b)) (λ y. y) mine.place

  before_board : s.page < E.board / 64
  before_board = let b = out.below in let a = out.board in let o = inv.laid.order in omega (arith, place, b, a, o)

  below_front : s.cursor ≤ m.front
  below_front = ⊎_elim (λ b. absurd (no_board b)) (λ y. y) mine.cursor

  idle : (c : Copy) → (team.worker k).copy ≡ Some c → ⊥
  idle = no_copy E m team g k inv below is.asks_nothing

  -- nobody writes a record with a word on the page
  written : (b x : ℕ) → 0 < g.size b → b ≤ x → x < b + g.size b → x / 64 ≡ s.page → g.writer b ≡ 0
  written b x st l n e = ⊎_elim
      (λ (z : g.writer b ≡ 0). z)
      (λ (z : g.writer b ≢ 0). absurd (let w = inv.shut.by b x k st (omega arith) l n (rw e mine.claimed) in let y = writer E m team g inv b k st w in idle y.copy y.copies))
      (cases_eq (g.writer b) 0)

  -- a record stands over each word below FRONT
  over : (n a x : ℕ) → E.start ≤ a → 0 < g.size a → a ≤ x → x < m.front → x ≤ a + n → (b : ℕ) × (0 < g.size b) × (b ≤ x) × (x < b + g.size b)
  over zero a x t st l f n = (a, st, l, omega arith)
  over (suc n) a x t st l f y = ⊎_elim
      (λ (q : x < a + g.size a). (a, st, l, q))
      (λ (q : a + g.size a ≤ x). ⊎_elim
      (λ e. absurd (omega (arith, e, q, f)))
      (λ e. over n (a + g.size a) x (omega arith) e q f (omega (arith, y, st)))
      (inv.laid.next a t (omega arith) st))
      (cases_lt x (a + g.size a))

  -- the page's crossing
  pub crossing : (0 < g.size (m.cross s.page)) × (g.writer (m.cross s.page) ≡ 0) × (m.cross s.page ≤ 64 * s.page) × (64 * s.page < m.cross s.page + g.size (m.cross s.page))
  crossing =
      let first : 0 < g.size E.start = ⊎_elim (λ e. absurd (omega (arith, e, place))) (λ e. e) inv.laid.start in
      let o = over (64 * s.page) E.start (64 * s.page) (omega arith) first place.0 place.1 (omega arith) in
      let w = written o.0 (64 * s.page) o.1 o.2 o.3 (omega arith) in
      let c : m.cross s.page ≡ o.0 = inv.crossing.crossing s.page o.0 place.0 place.1 o.1 o.2 o.3 w in
      rw c (o.1, w, o.2, o.3)

  pub crosses : Preserves E m m team (with_worker team k (scanning (team.worker k) (record s { over = Some (m.cross s.page) }))) g g
  crosses = goes_on E m team g k s inv below is.scans idle is.asks_nothing (record s { over = Some (m.cross s.page) }) (record {
    page = refl;
    clean = λ x u e l n. absurd (omega (arith, l, n));
    top = mine.cursor;
    stepping = record {
      over = λ a e. let z : m.cross s.page ≡ a = some_same e in rw z at crossing;
      headed = steps.headed;
      current = steps.current;
      inner = steps.inner;
      begun = steps.begun;
      full = steps.full;
      ended = steps.ended;
    };
  })

  -- ---- a header

  -- the kind of a record at a whose header has this kind
  abbrev kind_at : HeaderKind → ℕ → Kind
  kind_at head a = said_kind head (m.heap (a + 1))

  -- a record below FRONT has its own header
  header : (a len serial mutator : ℕ) (head : HeaderKind) → 0 < g.size a → g.writer a ≡ 0 → E.start ≤ a → a + g.size a ≤ m.front → decode (m.heap a) ≡ HeaderWord head len serial mutator
      → (g.kind a ≡ said_kind head (m.heap (a + 1))) × (g.size a ≡ len + 1)
  header a len serial mutator head st w l n e =
      let o = inv.laid.order in
      let c = uncopied_here E m team g inv out a st l (omega (arith, n, o, st)) in
      let q = header_same (m.heap a) (inv.headed.own a st w c.0 c.1) e in
      (sym (said_there g.size g.writer g.kind m.heap inv.raw_words inv.counts a st w) ∙ ap (λ y. said_kind y (m.heap (a + 1))) q.0, omega (arith, q.1, st))

  -- the scan enters the record at a, which has this kind and size
  enters_as : (a : ℕ) (kind : Kind) (size : ℕ) → 0 < g.size a → g.writer a ≡ 0 → E.start ≤ a → a + g.size a ≤ m.front → a ≤ s.cursor → s.cursor < a + g.size a
      → (g.kind a ≡ kind) × (g.size a ≡ size) → Preserves E m m team (with_worker team k (scanning (team.worker k) (scan_in_record E s a kind size))) g g
  enters_as a kind size st w l n c d h =
      let seen : SeenRecord = seen_at a kind size in
      let span = span-within (g.kind a) (g.size a) st (λ n k. (inv.counts.counts a n st w k).1) in
      let first = ap first_field h.0 in
      let y = enters_within seen kind size refl refl (omega (arith, span, first, h.1)) s.cursor (omega (arith, h.1, d)) in
      goes_on E m team g k s inv below is.scans idle is.asks_nothing (scan_in_record E s a kind size) (record {
        page = refl;
        clean = λ x u p f o. absurd (no_field x u (omega (arith, c, f)) f (omega (arith, y.2, o)) o h.0 h.1);
        top = inr (omega (arith, y.2, h.1, n));
        stepping = record {
          over = λ b e. none≢some e;
          headed = λ b e. none≢some e;
          current = λ r i. let z : seen_at a kind size ≡ r = some_same i in
              rw (← z) (record { stands = st; written = w; fields = rw (h.0, h.1) refl; whole = omega (arith, h.1); inside = (l, omega (arith, h.1, n)); entered = rw h.0 y.1; cursor = y.2 });
          inner = λ i. absurd (cc);
          begun = let b = steps.begun in omega (arith, b, y.0);
          full = steps.full;
          ended = λ i. ⊎_elim (λ z. inl z) (λ z. inr (inl z)) (past E s.page (entry_of seen kind s.cursor) i);
        };
      })
    where
      no_field : (x : ℕ) → Here E g.size g.writer g.kind x → a ≤ x → s.cursor ≤ x → x < a + size → x < entry_of (seen_at a kind size) kind s.cursor
          → g.kind a ≡ kind → g.size a ≡ size → ⊥
      no_field x u f c b o kd sz =
          let q = here_field out inv.laid g.writer g.kind x u a (x - a) (omega (arith, sz, b, f, st)) (omega arith) in
          let e : is_field kind (x - a) ≡ true = rw kd at q.1 in
          enters_past_no_field (seen_at a kind size) kind size refl refl s.cursor x c (omega (arith, q.0)) b o e

  enters : (a len serial mutator : ℕ) (head : HeaderKind) → 0 < g.size a → g.writer a ≡ 0 → E.start ≤ a → a + g.size a ≤ m.front → a ≤ s.cursor → s.cursor < a + g.size a
      → decode (m.heap a) ≡ HeaderWord head len serial mutator → Preserves E m m team (with_worker team k (scanning (team.worker k) (scan_in_record E s a (kind_at head a) (len + 1)))) g g
  enters a len serial mutator head st w l n c d e = enters_as a (kind_at head a) (len + 1) st w l n c d (header a len serial mutator head st w l n e)

  -- ---- a mixed record

  -- its header is read
  heads : (a len serial mutator : ℕ) → 0 < g.size a → g.writer a ≡ 0 → E.start ≤ a → a + g.size a ≤ m.front → a ≤ s.cursor → s.cursor < a + g.size a
      → decode (m.heap a) ≡ HeaderWord header_kinds.Mixed len serial mutator → Preserves E m m team (with_worker team k (scanning (team.worker k) (scan_headed s a (len + 1)))) g g
  heads a len serial mutator st w l n c d e =
      let h = header a len serial mutator header_kinds.Mixed st w l n e in
      goes_on E m team g k s inv below is.scans idle is.asks_nothing (scan_headed s a (len + 1)) (record {
        page = refl;
        clean = λ x u p f o. absurd (omega (arith, f, o));
        top = mine.cursor;
        stepping = record {
          over = λ b i. none≢some i;
          headed = λ y i. let z : record { at = a; size = len + 1 } ≡ y = some_same i in
              rw (← z) (record { stands = st; written = w; mixed = (count_said (decode (m.heap (a + 1))), h.0); whole = sym h.1; inside = (l, omega (arith, h.1, n)); cursor = (c, omega (arith, h.1, d)) });
          current = λ r i. none≢some i;
          inner = λ i. absurd (cc);
          begun = steps.begun;
          full = steps.full;
          ended = steps.ended;
        };
      })

  -- its count is read
  pub enters_counted : (h : SeenHeader) (count : ℕ) → s.headed ≡ Some h → decode (m.heap (h.at + 1)) ≡ NumberWord count
      → Preserves E m m team (with_worker team k (scanning (team.worker k) (scan_in_record E s h.at (Mixed count) h.size))) g g
  enters_counted h count e d =
      let t = steps.headed h e in
      let says = sym (count_there g.size g.writer g.kind m.heap inv.raw_words inv.counts h.at t.stands t.written t.mixed.0 t.mixed.1) ∙ d in
      let same : t.mixed.0 ≡ count = ap count_said says in
      let whole = t.whole in
      let inside = t.inside.1 in
      let cursor = t.cursor.1 in
      enters_as h.at (Mixed count) h.size t.stands t.written t.inside.0 (omega (arith, whole, inside)) t.cursor.0 (omega (arith, whole, cursor)) (t.mixed.1 ∙ ap Mixed same, sym whole)

  -- ---- which record

  -- a record of the epoch's space that lies over a word of the page, or begins on it, lies below FRONT
  lies_below : (a x : ℕ) → 0 < g.size a → a ≤ x → x < a + g.size a → x < m.front → 64 * s.page ≤ x → (E.start ≤ a) × (a + g.size a ≤ m.front)
  lies_below a x st l n f b = let q = inv.laid.lies a st in let r = out.apart in let y = inv.laid.order in (omega (arith, q, r, y, l, n, f, b, place), omega (arith, q, r, y, l, n, f, b, place))

  -- the record over the page's first word
  pub first_lies : (a : ℕ) → s.over ≡ Some a → (E.start ≤ a) × (a + g.size a ≤ m.front)
  first_lies a e = let o = steps.over a e in lies_below a (64 * s.page) o.0 o.2 o.3 place.1 (omega arith)

  -- its header
  pub enters_first : (a len serial mutator : ℕ) (head : HeaderKind) → s.over ≡ Some a → s.cursor ≡ 64 * s.page → decode (m.heap a) ≡ HeaderWord head len serial mutator
      → Preserves E m m team (with_worker team k (scanning (team.worker k) (scan_in_record E s a (kind_at head a) (len + 1)))) g g
  enters_first a len serial mutator head e c d =
      let o = steps.over a e in
      let w = first_lies a e in
      enters a len serial mutator head o.0 o.1 w.0 w.1 (omega (arith, o.2, c)) (omega (arith, o.3, c)) d

  pub heads_first : (a len serial mutator : ℕ) → s.over ≡ Some a → s.cursor ≡ 64 * s.page → decode (m.heap a) ≡ HeaderWord header_kinds.Mixed len serial mutator
      → Preserves E m m team (with_worker team k (scanning (team.worker k) (scan_headed s a (len + 1)))) g g
  heads_first a len serial mutator e c d =
      let o = steps.over a e in
      let w = first_lies a e in
      heads a len serial mutator o.0 o.1 w.0 w.1 (omega (arith, o.2, c)) (omega (arith, o.3, c)) d

  -- the next record stands below FRONT, and nobody writes it
  pub next_lies : (r : SeenRecord) → s.current ≡ Some r → s.cursor ≡ r.next → s.cursor < 64 * s.page + 64 → (s.inner ≡ true) ⊎ (s.in_place ≡ false)
      → (0 < g.size s.cursor) × (g.writer s.cursor ≡ 0) × (E.start ≤ s.cursor) × (s.cursor + g.size s.cursor ≤ m.front)
  next_lies r e c p i =
      let t = steps.current r e in
      let f : s.cursor < m.front = ⊎_elim (λ y. steps.inner y) (λ y. ⊎_elim (λ b. absurd (no_board b)) (λ q. omega (arith, q, p)) (steps.full y)) i in
      let st : 0 < g.size s.cursor = follows r t c f in
      let b = steps.begun in
      let y = lies_below s.cursor s.cursor st (omega arith) (omega (arith, st)) f b in
      (st, written s.cursor s.cursor st (omega arith) (omega (arith, st)) (omega (arith, b, p)), y.0, y.1)
    where
      follows : (r : SeenRecord) → IsIn E m.front g.size g.writer g.kind s.cursor r → s.cursor ≡ r.next → s.cursor < m.front → 0 < g.size s.cursor
      follows r t c f =
          let whole = t.whole in
          let in_front = t.inside.1 in
          ⊎_elim
          (λ y. absurd (omega (arith, y, whole, c, f)))
          (λ y. let q : r.at + g.size r.at ≡ s.cursor = omega (arith, whole, c) in rw q at y)
          (inv.laid.next r.at t.inside.0 (let st = t.stands in omega (arith, whole, c, f, st)) t.stands)

  -- its header
  pub enters_next : (r : SeenRecord) (len serial mutator : ℕ) (head : HeaderKind) → s.current ≡ Some r → s.cursor ≡ r.next → s.cursor < 64 * s.page + 64 → (s.inner ≡ true) ⊎ (s.in_place ≡ false)
      → decode (m.heap s.cursor) ≡ HeaderWord head len serial mutator → Preserves E m m team (with_worker team k (scanning (team.worker k) (scan_in_record E s s.cursor (kind_at head s.cursor) (len + 1)))) g g
  enters_next r len serial mutator head e c p i d =
      let y = next_lies r e c p i in
      enters s.cursor len serial mutator head y.0 y.1 y.2 y.3 (omega arith) (let st = y.0 in omega (arith, st)) d

  pub heads_next : (r : SeenRecord) (len serial mutator : ℕ) → s.current ≡ Some r → s.cursor ≡ r.next → s.cursor < 64 * s.page + 64 → (s.inner ≡ true) ⊎ (s.in_place ≡ false)
      → decode (m.heap s.cursor) ≡ HeaderWord header_kinds.Mixed len serial mutator → Preserves E m m team (with_worker team k (scanning (team.worker k) (scan_headed s s.cursor (len + 1)))) g g
  heads_next r len serial mutator e c p i d =
      let y = next_lies r e c p i in
      heads s.cursor len serial mutator y.0 y.1 y.2 y.3 (omega arith) (let st = y.0 in omega (arith, st)) d

  -- FRONT is read at a record's end
  pub sees_front : Preserves E m m team (with_worker team k (scanning (team.worker k) (cond (eqb s.cursor m.front) (record s { ended = true }) (record s { inner = true })))) g g
  sees_front = ⊎_elim
      (λ (e : s.cursor ≡ m.front). rw (eq-eqb s.cursor m.front e) (at_front e))
      (λ (n : s.cursor ≢ m.front). rw (ne_eqb s.cursor m.front n) (before n))
      (cases_eq s.cursor m.front)
    where
      at_front : s.cursor ≡ m.front → Preserves E m m team (with_worker team k (scanning (team.worker k) (record s { ended = true }))) g g
      at_front e = goes_on E m team g k s inv below is.scans idle is.asks_nothing (record s { ended = true }) (record {
        page = refl;
        clean = λ x u p l n. absurd (omega (arith, l, n));
        top = mine.cursor;
        stepping = record { over = steps.over; headed = steps.headed; current = steps.current; inner = steps.inner; begun = steps.begun; full = steps.full; ended = λ i. inr (inr (before_board, e)) };
      })

      before : s.cursor ≢ m.front → Preserves E m m team (with_worker team k (scanning (team.worker k) (record s { inner = true }))) g g
      before n = goes_on E m team g k s inv below is.scans idle is.asks_nothing (record s { inner = true }) (record {
        page = refl;
        clean = λ x u p l o. absurd (omega (arith, l, o));
        top = mine.cursor;
        stepping = record { over = steps.over; headed = steps.headed; current = steps.current; inner = λ i. let b = below_front in omega (arith, b, n); begun = steps.begun; full = steps.full; ended = steps.ended };
      })

pub reads_crossing : ReadingCrossingKeeps
reads_crossing E m team g k s ready is n = learnt (crosses E m team g k s ready.laid_out ready.invariant ready.member is n)

pub reads_first_header : ReadingFirstHeaderKeeps
reads_first_header E m team g k s a len serial mutator head ready is n over cursor says = learnt (enters_first E m team g k s ready.laid_out ready.invariant ready.member is n a len serial mutator head over cursor says)

pub reads_front : ReadingFrontKeeps
reads_front E m team g k s ready is n = learnt (sees_front E m team g k s ready.laid_out ready.invariant ready.member is n)

pub reads_next_header : ReadingNextHeaderKeeps
reads_next_header E m team g k s r len serial mutator head ready is n current cursor page inner says =
    learnt (enters_next E m team g k s ready.laid_out ready.invariant ready.member is n r len serial mutator head current cursor page inner says)

pub reads_first_mixed : ReadingFirstMixedKeeps
reads_first_mixed E m team g k s a len serial mutator ready is n over cursor says = learnt (heads_first E m team g k s ready.laid_out ready.invariant ready.member is n a len serial mutator over cursor says)

pub reads_next_mixed : ReadingNextMixedKeeps
reads_next_mixed E m team g k s r len serial mutator ready is n current cursor page inner says =
    learnt (heads_next E m team g k s ready.laid_out ready.invariant ready.member is n r len serial mutator current cursor page inner says)

pub reads_count : ReadingCountKeeps
reads_count E m team g k s h count ready is n headed says = learnt (enters_counted E m team g k s ready.laid_out ready.invariant ready.member is n h count headed says)
