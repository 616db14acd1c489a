-- What a load may answer, and that the row which is read is one of the table.
use Rattle.std.proofs.Common.{◌≡◌, ◌≢◌, ℕ, ◌+◌, ◌-◌, ◌*◌, ◌<◌, ◌≤◌, true, is_some, refl, sym, ap, arith, ⊎_elim, eq-eqb}
use Rattle.std.proofs.lemmas.Bool.{cases_eq}
use Rattle.heap_words.specs.declared.kind.Kind.TheVariants as header
use Rattle.heap_words.specs.Decoded.{decode}
use Rattle.plain_state.specs.declared.kind.Kind.{Kind}
use Rattle.plain_state.specs.declared.kind.Kind.TheVariants.{Mixed}
use Rattle.plain_state.specs.State.{Plain}
use Rattle.space_map.specs.declared.spaces.TheConstants.{MOST_MUTATORS, MOST_SCANNERS}
use Rattle.space_map.specs.GateWord.{GateFits}
use Rattle.space_map.specs.Spaces.{to_space}
use Rattle.space_map.specs.AreaWord.{AreaFits}
use Rattle.heap_state.specs.Configuration.{Configuration, Stands, table, era, team}
use Rattle.heap_state.specs.Memory.Era.{Era, Memory, from_space}
use Rattle.heap_state.specs.Functions.{count_one}
use Rattle.heap_state.specs.Invariant.Ghost.{Ghost, header_kind}
use Rattle.heap_state.specs.Invariant.Parts.Knowledge.{Passes}
use Rattle.heap_state.specs.Known.{Team, Post, Passage, Enter, Park, Request, Forwarded, Leave, Scan, is_live, is_running, is_late, is_gone, Running, RequestSnap, Clear}
use Rattle.heap_state.proofs.Records.KindsOfHeaders.{count_there}
use Rattle.heap_state.proofs.Records.Holding.{First, OwnHeader, KeptBy as KeptByWorker, GoneTo, first, uncopied_here}
use Rattle.heap_state.proofs.Table.LaidOut.{table_pages, table_in_use, to_space-before}
use Rattle.heap_state.proofs.Table.Spelled.{spelled}
use Rattle.heap_state.specs.Invariant.Parts.Copying.{Copies}
use Rattle.heap_state.specs.Invariant.Parts.Gate.{Counted}
use Rattle.heap_laws.specs.Answers.{OldHeader, InPlace, KeptBy, Forwards, OldHeadersAreRead, CopiesAreThere, MeetsHeader, ScanAnswers, ScansAreAnswered, IsCounted, PassagesFit, AreaAnswers, AreasAnswer, AreasAreRead}
use Rattle.heap_laws.specs.Gate.{gate_after}
use Rattle.heap_laws.specs.Scanning.Words.{IsScanning}
use Rattle.heap_laws.specs.Steps.{Ready}
use Rattle.heap_laws.proofs.Flipping.Sums.{sum_below-term, one_of}
use Rattle.heap_laws.proofs.Gate.GateCounts.{fits, ones}
use Rattle.heap_laws.proofs.Steps.RowPlaces.{below_board, here_below}
use Rattle.heap_laws.proofs.Scanning.Fields.{here}
use Rattle.heap_laws.proofs.Scanning.ScannedRecords.{place, crossing, first_lies, next_lies}

-- ---- an old record

pub old_headers_are_read : OldHeadersAreRead
old_headers_are_read E m team g k q ready asks idle = record { below = below_board ready q.old seeks.0; word = by_first (first E m team g ready.invariant q.old seeks.0 (ready.invariant.older.written q.old seeks.0 seeks.1 seeks.2)) }
  where
    seeks : (0 < g.size q.old) × (E.old_start ≤ q.old) × (q.old < E.old_start + E.old_span)
    seeks = ((ready.invariant.workers k ready.member).quest q asks).old

    by_first : First E m team g ready.invariant q.old → OldHeader E m.front k (g.size q.old) (decode (m.heap q.old))
    by_first (OwnHeader n y e) = rw e (InPlace (header_kind (g.kind q.old)) (g.size q.old - 1) (g.identity q.old).serial (g.identity q.old).mutator (omega (arith, seeks)))
    by_first (KeptByWorker j y e) = rw e (KeptBy (g.size q.old - 1) j (omega (arith, seeks)) (λ x.
        let kept = (ready.invariant.copied.keeper_of q.old j seeks.0 y).0 in
        let none = (ready.invariant.workers k ready.member).licensed.idle idle in
        let same : g.kept j ≡ g.kept k = ap g.kept x in
        omega (arith, kept, none, same)))
    by_first (GoneTo b y c e) =
        let t = ready.invariant.copied.target q.old b seeks.0 c in
        let st : 0 < g.size b = omega (arith, t.4, seeks) in
        let l = ready.invariant.laid.lies b st in
        let o = ready.invariant.laid.order in
        let a = ready.laid_out.apart in
        rw e (Forwards (g.size q.old - 1) b (omega (arith, seeks)) (t.2, omega (arith, t, l, o, a)))

pub copies_are_there : CopiesAreThere
copies_are_there E m team g k c ready has = record {
  from = let o = copies.old in let b = below_board ready c.from (omega (arith, o)) in omega (arith, b, o);
  to = to;
  crossed = λ r l. let b = to r in omega (arith, b, l, ready.laid_out.board);
}
  where
    copies : Copies E m.front g.size g.writer g.copy g.keeper g.kept m.announced m.cross m.heap k c
    copies = (ready.invariant.workers k ready.member).copy c has

    to : c.reserved ≡ true → c.to + c.size ≤ E.board
    to r = let p = copies.place r in let o = copies.old in let b = below_board ready c.to (omega (arith, p.3, o)) in omega (arith, b, p.3)

-- ---- a page that is scanned

module _ (E : Era) (m : Memory) (team : Team) (g : Ghost) (k : ℕ) (s : Scan) (ready : Ready E m team g k) (is : IsScanning team k s) where
  mixed_of : (kind : Kind) → header_kind kind ≡ header.Mixed → (count : ℕ) × (kind ≡ Mixed count)
  mixed_of (Mixed count) e = (count, refl)
  mixed_of _ e = absurd (cc)

  -- a record of the epoch's space below FRONT has its header
  meets : (a : ℕ) → 0 < g.size a → g.writer a ≡ 0 → E.start ≤ a → a + g.size a ≤ m.front → (h : MeetsHeader m a) × (h.len + 1 ≡ g.size a)
  meets a st w l f =
      let o = ready.invariant.laid.order in
      let c = uncopied_here E m team g ready.invariant ready.laid_out a st l (omega (arith, f, o, st)) in (
        record {
          kind = header_kind (g.kind a);
          len = g.size a - 1;
          serial = (g.identity a).serial;
          mutator = (g.identity a).mutator;
          header = ready.invariant.headed.own a st w c.0 c.1;
          within = omega (arith, st, f);
          counted = λ e. let c = mixed_of (g.kind a) e in let r = (ready.invariant.counts.counts a c.0 st w c.1).1 in omega (arith, r);
        },
        omega (arith, st),
      )

  pub answers : ScanAnswers E m g s
  answers = record {
    crossing = λ n.
        let c = crossing E m team g k s ready.laid_out ready.invariant ready.member is n in
        let p = place E m team g k s ready.laid_out ready.invariant ready.member is n in
        let l = ready.invariant.laid.lies (m.cross s.page) c.0 in
        let o = ready.invariant.laid.order in
        let b = ready.laid_out in
        let a = b.apart in
        (omega (arith, p, o, b.below, b.board), omega (arith, c, p, l, o, a), c.2);
    first = λ a n e.
        let l = first_lies E m team g k s ready.laid_out ready.invariant ready.member is n a e in
        let o = ((ready.invariant.workers k ready.member).stepping s is.scans).over a e in
        let h = meets a o.0 o.1 l.0 l.1 in
        let z = h.1 in
        (o.2, (h.0, omega (arith, z, o.3)));
    next = λ r n e c p i. let y = next_lies E m team g k s ready.laid_out ready.invariant ready.member is n r e c p i in (meets s.cursor y.0 y.1 y.2 y.3).0;
    count = λ h e.
        let t = ((ready.invariant.workers k ready.member).stepping s is.scans).headed h e in
        let inv = ready.invariant in
        let room = (inv.counts.counts h.at t.mixed.0 t.stands t.written t.mixed.1).1 in
        let whole = t.whole in
        (t.mixed.0, count_there g.size g.writer g.kind m.heap inv.raw_words inv.counts h.at t.stands t.written t.mixed.0 t.mixed.1, omega (arith, room, whole));
    field = λ at. let h = here E m team g k s ready.laid_out ready.invariant ready.member is.scans at in (here_below ready s.cursor h, ready.invariant.landing.lands s.cursor h);
    front = let o = ready.invariant.laid.order in let b = ready.laid_out.below in omega (arith, o, b);
  }

pub scans_are_answered : ScansAreAnswered
scans_are_answered E m team g k s ready is = answers E m team g k s ready is

-- ---- the gate

module _ (E : Era) (m : Memory) (team : Team) (g : Ghost) (k : ℕ) (ready : Ready E m team g k) where
  counted : Counted m.gate team.count team.worker
  counted = ready.invariant.counted

  now : GateFits m.gate
  now = fits E m team g ready.invariant

  live_some : is_live (team.worker k).post ≡ true → 0 < m.gate.live
  live_some e = let t = sum_below-term team.count (λ j. count_one (is_live (team.worker j).post)) k ready.member in let o = one_of (is_live (team.worker k).post) e in let c = counted.live in omega (arith, t, o, c)

  running_some : is_running (team.worker k).post ≡ true → 0 < m.gate.running
  running_some e = let t = sum_below-term team.count (λ j. count_one (is_running (team.worker j).post)) k ready.member in let o = one_of (is_running (team.worker k).post) e in let c = counted.running in omega (arith, t, o, c)

  behind_some : is_late m.gate.epoch (team.worker k) ≡ true → 0 < m.gate.behind
  behind_some e = let t = sum_below-term team.count (λ j. count_one (is_late m.gate.epoch (team.worker j))) k ready.member in let o = one_of (is_late m.gate.epoch (team.worker k)) e in let c = counted.behind in omega (arith, t, o, c)

  -- no count is above 24
  few : (m.gate.live ≤ MOST_MUTATORS + MOST_SCANNERS) × (m.gate.running ≤ MOST_MUTATORS + MOST_SCANNERS) × (m.gate.left ≤ MOST_MUTATORS + MOST_SCANNERS)
  few =
      let f = ready.invariant.staffed.few in
      let a = ones team.count (λ j. is_live (team.worker j).post) in
      let b = ones team.count (λ j. is_running (team.worker j).post) in
      let c = ones team.count (λ j. is_gone (team.worker j).post) in
      (let l = counted.live in omega (arith, a, f, l), let l = counted.running in omega (arith, b, f, l), let l = counted.left in omega (arith, c, f, l))

  runs_live : (post : Post) → is_running post ≡ true → is_live post ≡ true
  runs_live Running e = refl
  runs_live _ e = absurd (cc)

  is_counted : (p : Passage) → Passes (team.worker k).post (team.worker k).epoch (team.worker k).done (is_some (team.worker k).account.end) (team.worker k).traced_seen m.gate p → IsCounted m.gate p
  is_counted Park y = running_some y.0
  is_counted (Request asked) y = running_some y.0
  is_counted RequestSnap y = running_some y.0
  is_counted Forwarded y = behind_some (rw (y.0, eq-eqb ((team.worker k).epoch + 1) m.gate.epoch (sym y.1)) refl)
  is_counted Leave y = (live_some (runs_live (team.worker k).post y.0), running_some y.0)
  is_counted _ y = tt

  after : (p : Passage) → GateFits (gate_after p m.gate)
  after Enter = record { epoch_fits = now.epoch_fits; live_fits = let f = few in omega (arith, f); running_fits = let f = few in omega (arith, f); behind_fits = now.behind_fits; left_fits = now.left_fits }
  after Clear = record { epoch_fits = now.epoch_fits; live_fits = now.live_fits; running_fits = now.running_fits; behind_fits = now.behind_fits; left_fits = now.left_fits }
  after Forwarded = record { epoch_fits = now.epoch_fits; live_fits = now.live_fits; running_fits = now.running_fits; behind_fits = let f = now.behind_fits in omega (arith, f); left_fits = now.left_fits }
  after Leave = record { epoch_fits = now.epoch_fits; live_fits = let f = few in omega (arith, f); running_fits = let f = few in omega (arith, f); behind_fits = now.behind_fits; left_fits = let f = few in omega (arith, f) }
  after _ = record { epoch_fits = now.epoch_fits; live_fits = now.live_fits; running_fits = let f = few in omega (arith, f); behind_fits = now.behind_fits; left_fits = now.left_fits }

pub passages_fit : PassagesFit
passages_fit E m team g k p ready passes = record { counted = is_counted E m team g k ready p passes; fits = now E m team g k ready; after = after E m team g k ready p }

-- ---- areas

module _ (c : Configuration) (p : Plain) (s : Stands c p) where
  pages_are : (table c).pages ≡ c.pages
  pages_are = table_pages c.pages c.words

  spans : ((era c).span ≤ 64 * c.pages) × ((era c).old_span ≤ 64 * c.pages)
  spans = rw (table_in_use c.pages c.words)
      (let a = s.formed.sizes (to_space (era c).epoch) (omega arith) in let b = s.formed.sizes (from_space (era c).epoch) (omega arith) in
      (omega (arith, a), omega (arith, b)))

  each : (space : ℕ) → space < 2 → AreaAnswers c.pages ((table c).area space)
  each space l = ⊎_elim
      (λ (e : space ≡ to_space (era c).epoch). rw e (record { order = now; fits = fits_of (to_space (era c).epoch) (omega arith) }))
      (λ (n : space ≢ to_space (era c).epoch). let e : space ≡ from_space (era c).epoch = omega arith in rw e (record { order = before; fits = fits_of (from_space (era c).epoch) (omega arith) }))
      (cases_eq space (to_space (era c).epoch))
    where
      fits_of : (space : ℕ) → space < 2 → AreaFits ((table c).area space)
      fits_of = (spelled c.pages c.words s.formed).areas_fit

      now : (((table c).area (to_space (era c).epoch)).front ≤ ((table c).area (to_space (era c).epoch)).low) × (((table c).area (to_space (era c).epoch)).low ≤ 64 * c.pages)
      now = let o = s.invariant.laid.order in let z = spans.0 in (omega (arith, o), omega (arith, o, z))

      before : (((table c).area (from_space (era c).epoch)).front ≤ ((table c).area (from_space (era c).epoch)).low) × (((table c).area (from_space (era c).epoch)).low ≤ 64 * c.pages)
      before = let o = s.invariant.old_area.order in let z = spans.1 in (omega (arith, o), omega (arith, o, z))

  pub areas_answer : AreasAnswer c
  areas_answer = record {
    each = each;
    now = record { front = refl; low = refl; owed = refl; fits = (each (to_space (era c).epoch) (omega arith)).fits };
    front = λ k l. record {
      now = λ e. rw e (rw pages_are refl);
      before = λ e. rw (to_space-before ((team c).worker k).epoch (era c).epoch e) (rw pages_are refl);
    };
  }

pub areas_are_read : AreasAreRead
areas_are_read c p s = areas_answer c p s
