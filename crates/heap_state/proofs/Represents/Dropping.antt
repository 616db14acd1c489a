-- Once the epoch is traced the records of the old space are garbage: the invariant holds without them too.
use Rattle.std.proofs.Common.{◌≡◌, ◌≢◌, ℕ, ◌+◌, ◌%◌, ◌<◌, ◌≤◌, ◌&&◌, refl, arith, ⊎_elim, ◌⊎◌, inl, inr}
use Rattle.std.specs.Prelude.{nat_le, nat_lt, if◌then◌else◌}
use Rattle.std.proofs.lemmas.Bool.{cases_eq, cases_lt, lt-ltb, le-ltb, lt-leb, le-leb}
use Rattle.heap_state.specs.Memory.Table.{IsFormed}
use Rattle.heap_state.specs.Configuration.{Configuration, era, memory, team}
use Rattle.heap_state.specs.Memory.Era.{Era, Memory, IsLaidOut}
use Rattle.heap_state.specs.Invariant.Ghost.{Ghost, Here, Leads, Lands}
use Rattle.heap_state.specs.Invariant.Inductive.{Invariant}
use Rattle.heap_state.specs.Invariant.Parts.Copies.{Copied, Once, Keepers, Room}
use Rattle.heap_state.specs.Invariant.Parts.Crossing.{Crossing}
use Rattle.heap_state.specs.Invariant.Parts.Leading.{Opened, Landing, Older}
use Rattle.heap_state.specs.Invariant.Parts.OldSpace.{OldSpace}
use Rattle.heap_state.specs.Invariant.Parts.Pages.{Shut}
use Rattle.heap_state.specs.Invariant.Parts.Records.{Laid, Headed, NewArea, NewWritten, RawWords, Counts}
use Rattle.heap_state.specs.Invariant.Parts.Stocks.{Stocks, Stocked, Numbered}
use Rattle.heap_state.specs.Known.{Stock}
use Rattle.heap_state.proofs.Holds.Still.{nobody_writes}
use Rattle.heap_state.proofs.Records.Holding.{uncopied_here}
use Rattle.heap_state.proofs.Represents.Denoting.{none_leads}
use Rattle.heap_state.proofs.Walks.InHeap.{lay}
use Rattle.heap_state.proofs.Walks.WalkPlaces.{comes_to_fewer}

-- the sizes of the records of the epoch's space alone
abbrev pub only_now : Era → (ℕ → ℕ) → ℕ → ℕ
only_now E size a = if nat_le E.start a && nat_lt a (E.start + E.span) then size a else 0

-- what the proofs know without the records of the old space, of which none is copied or kept any more
abbrev pub without_old : Era → Ghost → Ghost
without_old E g = record g { size = only_now E g.size; copy = λ a. 0; keeper = λ a. 0 }

pub only_cases : (E : Era) (size : ℕ → ℕ) (a : ℕ)
    → ((E.start ≤ a) × (a < E.start + E.span) × (only_now E size a ≡ size a)) ⊎ ((only_now E size a ≡ 0) × (E.start ≤ a → a < E.start + E.span → ⊥))
only_cases E size a = ⊎_elim
    (λ (l : a < E.start). inr (rw (lt-leb E.start a l), λ p q. omega arith))
    (λ (l : E.start ≤ a). ⊎_elim
    (λ (b : a < E.start + E.span). inl (l, b, rw (le-leb E.start a l, lt-ltb a (E.start + E.span) b)))
    (λ (b : E.start + E.span ≤ a). inr (rw (le-leb E.start a l, le-ltb a (E.start + E.span) b), λ p q. omega arith))
    (cases_lt a (E.start + E.span)))
    (cases_lt a E.start)

module _ (c : Configuration) (g : Ghost) (formed : IsFormed c.pages c.words) (inv : Invariant (era c) (memory c) (team c) g) (traced : (memory c).traced ≡ (era c).epoch + 1) where
  abbrev E : Era
  E = era c

  abbrev m : Memory
  m = memory c

  abbrev h : Ghost
  h = without_old E g

  pub out : IsLaidOut E
  out = lay c g formed inv

  -- what stands still stood before, in the epoch's space
  pub was : (a : ℕ) → 0 < h.size a → (0 < g.size a) × (E.start ≤ a) × (a < E.start + E.span) × (h.size a ≡ g.size a)
  was a st = ⊎_elim (λ c. (omega (arith, c.2, st), c.0, c.1, c.2)) (λ n. absurd (omega (arith, n.0, st))) (only_cases E g.size a)

  pub still : (a : ℕ) → E.start ≤ a → a < E.start + E.span → h.size a ≡ g.size a
  still a l n = ⊎_elim (λ c. c.2) (λ z. absurd (z.1 l n)) (only_cases E g.size a)

  stands : (a : ℕ) → 0 < g.size a → E.start ≤ a → a < E.start + E.span → 0 < h.size a
  stands a st l n = let q = still a l n in omega (arith, q, st)

  -- a record of the epoch's space lies below FRONT or from LOW up
  lies : (a : ℕ) → 0 < g.size a → E.start ≤ a → a < E.start + E.span → (a + g.size a ≤ m.front) ⊎ ((m.low ≤ a) × (a + g.size a ≤ E.start + E.span))
  lies a st l n = ⊎_elim (λ p. inl p.1) (λ y. ⊎_elim (λ p. inr p) (λ p. absurd (let o = out.apart in omega (arith, p, l, n, o, st))) y) (inv.laid.lies a st)

  -- one that ends at a place from LOW up, which doesn't begin a page, is of the epoch's space
  ends_here : (a x : ℕ) → 0 < g.size a → a + g.size a ≡ x → m.low ≤ x → x ≤ E.start + E.span → x % 64 ≢ 0 → (0 < h.size a) × (a + h.size a ≡ x)
  ends_here a x st e l n d =
      let q = inv.laid.lies a st in
      let o = inv.laid.order in
      let u = out.apart in
      let s = out.start in
      let place : (E.start ≤ a) × (a < E.start + E.span) = (omega (arith, q, u, o, st, e, l, n, d, s), omega (arith, st, e, n)) in
      let z = still a place.0 place.1 in
      (omega (arith, z, st), omega (arith, z, e))

  -- ---- where records stand

  pub laid : Laid E m.front m.low h.size
  laid = let o = inv.laid.order in record {
    apart = λ a b sa sb l. let u = was a sa in let v = was b sb in let r = inv.laid.apart a b u.0 v.0 l in omega (arith, u.3, r);
    lies = λ a sa. let u = was a sa in rw u.3 (inv.laid.lies a u.0);
    order = o;
    aligned = inv.laid.aligned;
    start = ⊎_elim
        (λ e. inl e)
        (λ st. ⊎_elim (λ (e : E.start ≡ m.front). inl e) (λ (d : E.start ≢ m.front). inr (stands E.start st (omega arith) (omega (arith, d, o)))) (cases_eq E.start m.front))
        inv.laid.start;
    next = λ a l n st. let u = was a st in ⊎_elim
        (λ e. inl (omega (arith, u.3, e)))
        (λ s. let y = lies a u.0 u.1 u.2 in ⊎_elim
        (λ (e : a + g.size a ≡ m.front). inl (omega (arith, u.3, e)))
        (λ (d : a + g.size a ≢ m.front). inr (rw u.3 (stands (a + g.size a) s (omega (arith, l)) (omega (arith, y, d, n, o)))))
        (cases_eq (a + g.size a) m.front))
        (inv.laid.next a l n u.0);
  }

  pub headed : Headed h.size h.writer h.copy h.keeper h.kind h.identity m.heap
  headed = record {
    own = λ a st w y z. let u = was a st in let n = uncopied_here E m (team c) g inv out a u.0 u.1 u.2 in rw u.3 (inv.headed.own a u.0 w n.0 n.1);
    kept = λ a k st y. absurd (omega (arith, y));
    gone = λ a b st y z. absurd (omega (arith, y));
  }

  pub copied : Copied E m.front h.size h.writer h.copy h.keeper h.kind h.identity h.kept
  copied = record {
    target = λ a b st y. absurd (omega (arith, y));
    blank = λ a y. (refl, refl);
    origin = λ b st w. absurd (let u = was b st in let n = nobody_writes E m (team c) g inv traced b u.0 in omega (arith, n, w));
    keeper_of = λ a k st y. absurd (omega (arith, y));
  }

  pub once : Once h.size h.copy h.identity
  once = record {
    once = λ a b sa sb e.
        let u = was a sa in
        let v = was b sb in
        let p = uncopied_here E m (team c) g inv out a u.0 u.1 u.2 in
        let q = uncopied_here E m (team c) g inv out b v.0 v.1 v.2 in
        ⊎_elim (λ y. inl y) (λ y. absurd (⊎_elim (λ y. omega (arith, y, p.0)) (λ y. omega (arith, y, q.0)) y)) (inv.once.once a b u.0 v.0 e);
  }

  pub keepers : Keepers h.size h.keeper (team c).count
  keepers = record { kept = λ a k st y. absurd (omega (arith, y)) }

  pub room : Room E m.traced m.front m.low m.owed h.size h.copy
  room = record { needs = λ t. absurd (omega (arith, t, traced)); fits = inv.room.fits; small = inv.room.small }

  pub raw_words : RawWords h.size h.writer h.kind m.heap
  raw_words = record { raw = λ a i st w l n f. let u = was a st in inv.raw_words.raw a i u.0 w l (omega (arith, n, u.3)) f }

  pub counts : Counts h.size h.writer h.kind m.heap
  counts = record { counts = λ a count st w e. let u = was a st in let n = inv.counts.counts a count u.0 w e in (n.0, omega (arith, n.1, u.3)) }

  -- ---- pages and spaces

  pub shut : Shut E m.front m.low h.size h.writer m.page
  shut = record {
    free = inv.shut.free;
    held = λ b x st w l n. let u = was b st in inv.shut.held b x u.0 w l (omega (arith, n, u.3));
    by = λ b x k st w l n. let u = was b st in inv.shut.by b x k u.0 w l (omega (arith, n, u.3));
  }

  -- a place from LOW up that is in none of the records that still stand was in none
  free_before : (x : ℕ) → m.low ≤ x → x < E.start + E.span → ((a : ℕ) → 0 < h.size a → (x < a) ⊎ (a + h.size a ≤ x)) → (a : ℕ) → 0 < g.size a → (x < a) ⊎ (a + g.size a ≤ x)
  free_before x l n free a st = ⊎_elim
      (λ c. let f = free a (omega (arith, c.2, st)) in rw c.2 at f)
      (λ z. let o = inv.laid.order in ⊎_elim
      (λ p. absurd (z.1 p.0 (omega (arith, p, o, st))))
      (λ y. ⊎_elim
      (λ p. absurd (z.1 (omega (arith, p, o)) (omega (arith, p, st))))
      (λ p. ⊎_elim (λ (u : E.start + E.span ≤ E.old_start). inl (omega (arith, u, p, n))) (λ (u : E.old_start + E.old_span ≤ E.start). inr (omega (arith, u, p, l, o))) out.apart)
      y)
      (inv.laid.lies a st))
      (only_cases E g.size a)

  pub new : NewArea m.low (E.start + E.span) E.epoch h.size m.heap m.page
  new = record {
    opened = λ a x st l n b p. let u = was a st in inv.new.opened a x u.0 l n b (omega (arith, p, u.3));
    prior = λ b st l n d. let u = was b st in let p = inv.new.prior b u.0 l n d in let e = ends_here p.0 b p.1 p.2 l (omega (arith, n)) d in (p.0, e.0, e.1);
    blank = λ x l n w q free. inv.new.blank x l n (comes_to_fewer (λ a st. let u = was a st in (u.0, u.3)) x w) q (free_before x l n free);
  }

  pub new_written : NewWritten E m.low h.size h.writer
  new_written = record { written = λ a st l n. let u = was a st in inv.new_written.written a u.0 l n }

  pub old_space : OldSpace E m.traced m.old_front m.old_low h.size m.heap m.page
  old_space = record { walks = λ t. absurd (omega (arith, t, traced)) }

  pub crossing : Crossing E m.front h.size h.writer m.cross
  crossing = record { crossing = λ p a l n st b e w. let u = was a st in inv.crossing.crossing p a l n u.0 b (omega (arith, e, u.3)) w }

  -- ---- where words lead

  pub here_was : (x : ℕ) → Here E h.size h.writer h.kind x → Here E g.size g.writer g.kind x
  unfolding Here
  here_was x (inr b) = inr b
  here_was x (inl f) =
      let u = was f.a f.field.stands in
      inl (record { a = f.a; i = f.i; at = f.at; inside = f.inside; field = record { stands = u.0; written = f.field.written; field = f.field.field; first = f.field.first; last = omega (arith, u.3, f.field.last) } })

  -- what lands, and not in the old space, lands on a record that still stands
  pub lands_on : (w : ℕ) → Lands g.size g.writer w → ¬ (Leads E w) → Lands h.size h.writer w
  unfolding Lands Leads
  lands_on w q n b e = let u = q b e in let o = inv.laid.order in ⊎_elim
      (λ y. (stands b u.0 y.0 (omega (arith, y, o, u.0)), u.1))
      (λ z. ⊎_elim (λ y. (stands b u.0 (omega (arith, y, o)) (omega (arith, y, u.0)), u.1)) (λ y. absurd (n (b, e, y.0, omega (arith, y, u.0)))) z)
      (inv.laid.lies b u.0)

  pub opened : Opened E h.size h.writer h.kind m.heap m.page
  opened = record { opened = λ x u o. inv.opened.opened x (here_was x u) o }

  pub landing : Landing E h.size h.writer h.kind m.heap
  landing = record { lands = λ x u. let b = here_was x u in lands_on (m.heap x) (inv.landing.lands x b) (none_leads c g formed inv traced x b) }

  pub older : Older E h.size h.writer h.kind m.heap
  older = record {
    older = λ a i b f l n e. absurd (let u = was a f.stands in let o = out.apart in omega (arith, u.1, u.2, l, n, o));
    written = λ a st l n. absurd (let u = was a st in let o = out.apart in omega (arith, u.1, u.2, l, n, o));
  }

  -- ---- words claimed for new records

  stocked : (q : Stock) → Stocked E m.low g.size m.heap m.page q → Stocked E m.low h.size m.heap m.page q
  stocked q s = record {
    lies = s.lies;
    so_far = s.so_far;
    aligned = s.aligned;
    empty = λ a st. let u = was a st in rw u.3 (s.empty a u.0);
    zeros = s.zeros;
    ahead = s.ahead;
    fits = s.fits;
    on_page = s.on_page;
    shut = s.shut;
    opens = s.opens;
    order = s.order;
    whole = s.whole;
    after = ⊎_elim
        (λ (z : q.at % 64 ≡ 0). inl z)
        (λ (d : q.at % 64 ≢ 0). ⊎_elim
        (λ z. inl z)
        (λ r. let l = s.lies in let e = ends_here r.0 q.at r.1 r.2 l.0 (omega (arith, l)) d in inr (r.0, e.0, e.1))
        s.after)
        (cases_eq (q.at % 64) 0);
  }

  pub stocks : Stocks E m.low (team c).count h.size m.heap m.page (team c).worker
  stocks = record { stocked = λ k l q e n. stocked q (inv.stocks.stocked k l q e n); apart = inv.stocks.apart }

  pub numbered : Numbered c.mutators h.size h.identity (team c).worker
  numbered = record {
    maker = λ a st. inv.numbered.maker a (was a st).0;
    last = λ a st. inv.numbered.last a (was a st).0;
  }
