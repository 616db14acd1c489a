-- What holds of the words and records at a flip.
use Rattle.std.proofs.Common.{◌≡◌, ◌≢◌, ℕ, ◌+◌, ◌*◌, ◌/◌, ◌%◌, ◌<◌, ◌≤◌, refl, sym, arith, ⊎_elim, ◌⊎◌, inl, inr}
use Rattle.std.proofs.lemmas.Bool.{cases_eq, cases_lt}
use Rattle.heap_words.specs.Decoded.{PointerWord, decode}
use Rattle.space_map.specs.PageWord.{age_of}
use Rattle.heap_state.specs.Memory.Era.{Era, Memory, IsLaidOut}
use Rattle.heap_state.specs.Invariant.Ghost.{Ghost, IsField, OnBoard, Here, Leads, Lands}
use Rattle.heap_state.specs.Invariant.Inductive.{Invariant}
use Rattle.heap_state.specs.Invariant.Parts.Copies.{Copied, Once, Keepers, Room}
use Rattle.heap_state.specs.Invariant.Parts.Crossing.{Crossing}
use Rattle.heap_state.specs.Invariant.Parts.Leading.{Opened, Landing, Older}
use Rattle.heap_state.specs.Invariant.Parts.OldSpace.{OldSpace, OldArea}
use Rattle.heap_state.specs.Invariant.Parts.Pages.{Shut, Filling, Tracing, Aged, OldPages, ScannedBy}
use Rattle.heap_state.specs.Invariant.Parts.Records.{Laid, Headed, NewArea, NewWritten, RawWords, Counts, SpaceOf}
use Rattle.heap_state.specs.Known.{Team, Known}
use Rattle.heap_state.proofs.Records.Holding.{uncopied_here}
use Rattle.heap_state.proofs.Walks.WalkPlaces.{comes_to_fewer}
use Rattle.heap_laws.specs.Flipping.Flip.{next_era, only_in}
use Rattle.heap_laws.specs.Tracing.{NothingLeads}
use Rattle.heap_laws.proofs.Flipping.Sums.{stood, inside, only_cases, space_total, owing_only}
use Rattle.heap_laws.proofs.Scanning.Scanners.{open_age, scan_age}
use Rattle.heap_laws.proofs.Tracing.TracedExchange.{leads_nowhere}
use Rattle.heap_laws.proofs.Frames.Values.{pointer_lands}

-- the heap is ready for a flip: the epoch is traced, nobody runs or is behind, and the other space's area is that of an empty one
pub record ReadyToFlip (E : Era) (m : Memory) (team : Team) (g : Ghost) : Type 0 where
  pub out : IsLaidOut E
  pub inv : Invariant E m team g
  pub traced : m.traced ≡ E.epoch + 1
  pub still : m.gate.running ≡ 0
  pub none : m.gate.behind ≡ 0
  pub front : m.old_front ≡ E.old_start
  pub low : m.old_low ≡ E.old_start + E.old_span
  pub used : m.old_owed + m.low ≡ E.span + m.front
  pub large : E.span ≤ E.old_span

-- where a pointer lands a record stands
module _ {E : Era} {m : Memory} {team : Team} {g : Ghost} (ready : ReadyToFlip E m team g) where
  abbrev E1 : Era
  E1 = next_era E

  abbrev size' : ℕ → ℕ
  size' = only_in E.start E.span g.size

  abbrev zeros : ℕ → ℕ
  zeros = λ a. 0

  pub nothing : NothingLeads E m team g
  nothing = leads_nowhere E m team g ready.out ready.inv ready.traced

  pub was : (a : ℕ) → 0 < size' a → (0 < g.size a) × (E.start ≤ a) × (a < E.start + E.span) × (size' a ≡ g.size a)
  was a st = stood E.start E.span g.size a st

  -- a record of the epoch's space still stands
  pub stands : (a : ℕ) → 0 < g.size a → E.start ≤ a → a < E.start + E.span → 0 < size' a
  stands a st l n = let q = inside E.start E.span g.size a l n in omega (arith, q, st)

  lies : (a : ℕ) → 0 < g.size a → E.start ≤ a → a < E.start + E.span → (a + g.size a ≤ m.front) ⊎ ((m.low ≤ a) × (a + g.size a ≤ E.start + E.span))
  lies a st l n = ⊎_elim (λ p. inl p.1) (λ y. ⊎_elim (λ p. inr p) (λ p. absurd (let a = ready.out.apart in omega (arith, p, l, n, a, st))) y) (ready.inv.laid.lies a st)

  -- ---- records

  pub laid : Laid E1 m.old_front m.old_low size'
  laid = let f = ready.front in let w = ready.low in let o = ready.inv.laid.order in record {
    apart = λ a b sa sb l. let u = was a sa in let v = was b sb in let r = ready.inv.laid.apart a b u.0 v.0 l in omega (arith, u.3, r);
    lies = λ a sa. let u = was a sa in let l = lies a u.0 u.1 u.2 in inr (inr (u.1, omega (arith, u.3, l, o)));
    order = record { 0 = omega (arith, f); 1 = omega (arith, f, w); 2 = omega (arith, w) };
    aligned = let s = ready.out.old_start in let p = ready.out.old_span in omega (arith, w, s, p);
    start = inl (sym f);
    next = λ a p q sa. absurd (omega (arith, f, p, q));
  }

  pub headed : Headed size' zeros zeros zeros g.kind g.identity m.heap
  headed = record {
    own = λ a st w y z. let u = was a st in let c = uncopied_here E m team g ready.inv ready.out a u.0 u.1 u.2 in rw u.3 (ready.inv.headed.own a u.0 (nothing.none_writes a u.0) c.0 c.1);
    kept = λ a k st y. absurd (omega (arith, y));
    gone = λ a b st y z. absurd (omega (arith, y));
  }

  pub copied : Copied E1 m.old_front size' zeros zeros zeros g.kind g.identity zeros
  copied = record { target = λ a b st y. absurd (omega (arith, y)); blank = λ a y. (refl, refl); origin = λ b st w. absurd (omega (arith, w)); keeper_of = λ a k st y. absurd (omega (arith, y)) }

  pub once : Once size' zeros g.identity
  once = record {
    once = λ a b sa sb e. let u = was a sa in let v = was b sb in let ca = uncopied_here E m team g ready.inv ready.out a u.0 u.1 u.2 in let cb = uncopied_here E m team g ready.inv ready.out b v.0 v.1 v.2 in
        ⊎_elim (λ y. inl y) (λ y. absurd (⊎_elim (λ y. omega (arith, y, ca.0)) (λ y. omega (arith, y, cb.0)) y)) (ready.inv.once.once a b u.0 v.0 e);
  }

  pub kept : Keepers size' zeros team.count
  kept = record { kept = λ a k st y. absurd (omega (arith, y)) }

  pub room : Room E1 m.traced m.old_front m.old_low m.old_owed size' zeros
  room = let o = ready.inv.laid.order in let u = ready.used in let s = ready.large in let f = ready.front in let w = ready.low in record {
    needs = λ t. let total = space_total g.size E.start E.span m.front m.low ready.inv.laid.apart o.0 o.1 o.2 lies in let same = owing_only E.start E.span g.size in omega (arith, total, same, u, o);
    fits = λ t. omega (arith, u, s, o, f, w);
    small = omega (arith, u, s, o);
  }

  pub raw_words : RawWords size' zeros g.kind m.heap
  raw_words = record { raw = λ a i st w l n f. let u = was a st in ready.inv.raw_words.raw a i u.0 (nothing.none_writes a u.0) l (omega (arith, n, u.3)) f }

  pub counts : Counts size' zeros g.kind m.heap
  counts = record { counts = λ a count st w e. let u = was a st in let n = ready.inv.counts.counts a count u.0 (nothing.none_writes a u.0) e in (n.0, omega (arith, n.1, u.3)) }

  -- ---- pages

  pub shut : Shut E1 m.old_front m.old_low size' zeros m.page
  shut = record { free = λ p l n. ready.inv.aged.young p; held = λ b x st w. absurd (omega (arith, w)); by = λ b x k st w. absurd (omega (arith, w)) }

  pub filling : (behind : ℕ) → Filling E1 behind m.old_front m.page
  filling behind = record { filling = λ p l n a. absurd (let f = ready.front in let s = ready.out.old_start in omega (arith, l, n, f, s)) }

  pub tracing : (behind : ℕ) → Tracing E1 m.traced behind m.old_front m.page
  tracing behind = let t = ready.traced in record { begun = ready.inv.tracing.begun; bottom = omega (arith, t); top = omega (arith, t); quiet = λ e. absurd (omega (arith, t, e)); last = λ e. absurd (omega (arith, t, e)) }

  -- a page of the epoch's copies, and the board, is open
  pub page_age : (p : ℕ) → E.start ≤ 64 * p → 64 * p < m.front → age_of (m.page p) ≡ E.epoch + 1
  page_age p l n = ⊎_elim
      (λ (f : m.front < 64 * p + 64). open_age (m.page p) E.epoch (ready.inv.tracing.last ready.traced p n f))
      (λ (f : 64 * p + 64 ≤ m.front). open_age (m.page p) E.epoch ((ready.inv.tracing.quiet ready.traced).full p l f))
      (cases_lt m.front (64 * p + 64))

  pub board_age : age_of (m.page (E.board / 64)) ≡ E.epoch + 1
  board_age = open_age (m.page (E.board / 64)) E.epoch (ready.inv.tracing.quiet ready.traced).board

  pub aged : Aged E1 m.page
  aged = record { young = λ p. let z = ready.inv.aged.young p in omega (arith, z); board = let b = board_age in omega (arith, b) }

  pub scanned : {count : ℕ} (worker : ℕ → Known) → ScannedBy E1 count m.page worker
  scanned worker = record { scanned = λ p k o. absurd (let y = scan_age (m.page p) (E.epoch + 1) k o in let z = ready.inv.aged.young p in omega (arith, y, z)) }

  pub old_area : OldArea E1 m.front m.low
  old_area = record { order = ready.inv.laid.order }

  pub old_pages : OldPages E1 m.front m.page
  old_pages = record { old = λ p l n. let a = page_age p l n in omega (arith, a) }

  -- ---- where words lead

  -- what does not lead into the old space leads to a record that still stands
  pub lands_on : (w : ℕ) → Lands g.size g.writer w → ¬ (Leads E w) → Lands size' zeros w
  unfolding Lands Leads
  lands_on w q c b e = let u = q b e in let o = ready.inv.laid.order in ⊎_elim
      (λ y. (stands b u.0 y.0 (omega (arith, y, o, u.0)), refl))
      (λ z. ⊎_elim (λ y. (stands b u.0 (omega (arith, y, o)) (omega (arith, y, u.0)), refl)) (λ y. absurd (c (b, e, y.0, omega (arith, y, u.0)))) z)
      (ready.inv.laid.lies b u.0)

  field_here : (a i : ℕ) → IsField size' zeros g.kind a i → Here E g.size g.writer g.kind (a + i)
  unfolding Here
  field_here a i f = let u = was a f.stands in inl (record { a = a; i = i; at = refl; inside = (u.1, u.2); field = record { stands = u.0; written = nothing.none_writes a u.0; field = f.field; first = f.first; last = omega (arith, u.3, f.last) } })

  -- only board words are the next epoch's
  pub here_board : (x : ℕ) → Here E1 size' zeros g.kind x → OnBoard E x
  unfolding Here
  here_board x (inr b) = b
  here_board x (inl u) = let f : IsField size' zeros g.kind u.a u.i = u.field in absurd (let q = was u.a f.stands in let a = ready.out.apart in omega (arith, q, u.inside, a))

  pub board_here : (x : ℕ) → OnBoard E x → Here E g.size g.writer g.kind x
  unfolding Here
  board_here x b = inr b

  pub opened : Opened E1 size' zeros g.kind m.heap m.page
  opened = record { opened = λ x u o. absurd (let y = open_age (m.page (x / 64)) (E.epoch + 1) o in let z = ready.inv.aged.young (x / 64) in omega (arith, y, z)) }

  pub landing : Landing E1 size' zeros g.kind m.heap
  landing = record { lands = λ x u. let h = board_here x (here_board x u) in lands_on (m.heap x) (ready.inv.landing.lands x h) (nothing.clean x h) }

  pub older : Older E1 size' zeros g.kind m.heap
  older = record { written = λ a st l n. refl; older = λ a i b f l n d. leads_back (m.heap (a + i)) b d (let h = field_here a i f in lands_on (m.heap (a + i)) (ready.inv.landing.lands (a + i) h) (nothing.clean (a + i) h)) }
    where
      leads_back : (w b : ℕ) → decode w ≡ PointerWord b → Lands size' zeros w → (0 < size' b) × (E.start ≤ b) × (b < E.start + E.span)
      leads_back w b d y = let s = pointer_lands size' zeros w b y d in let q = was b s in (s, q.1, q.2)

  -- what leads somewhere, and not into the old space, leads into the space that becomes the old one
  pub leads_inside : (w b : ℕ) → Lands g.size g.writer w → ¬ (Leads E w) → decode w ≡ PointerWord b → (E.start ≤ b) × (b < E.start + E.span)
  leads_inside w b q c d = let s = was b (pointer_lands size' zeros w b (lands_on w q c) d) in (s.1, s.2)

  -- ---- spaces

  pub new : NewArea m.old_low (E.old_start + E.old_span) (E.epoch + 1) size' m.heap m.page
  new = let w = ready.low in record {
    opened = λ a x st l n. absurd (omega (arith, w, l, n));
    prior = λ b st l n. absurd (omega (arith, w, l, n));
    blank = λ x l n. absurd (omega (arith, w, l, n));
  }

  pub new_written : NewWritten E1 m.old_low size' zeros
  new_written = record { written = λ a st l n. refl }

  pub crossing : Crossing E1 m.old_front size' zeros m.cross
  crossing = let f = ready.front in record { crossing = λ p a l n. absurd (omega (arith, f, l, n)) }

  pub old_space : OldSpace E1 m.traced m.front m.low size' m.heap m.page
  old_space = record { walks = λ t d e. let same : d ≡ E.epoch = omega (arith, e) in rw same of_space }
    where
      in_record : (x : ℕ) → m.low ≤ x → x < E.start + E.span → ((a : ℕ) → 0 < size' a → (x < a) ⊎ (a + size' a ≤ x)) → (a : ℕ) → 0 < g.size a → (x < a) ⊎ (a + g.size a ≤ x)
      in_record x l n free a st = ⊎_elim
          (λ c. let f = free a (omega (arith, c.2, st)) in rw c.2 at f)
          (λ y. let o = ready.inv.laid.order in let r = ready.out.apart in ⊎_elim
          (λ p. absurd (y.1 p.0 (omega (arith, p, o, st))))
          (λ z. ⊎_elim
          (λ p. absurd (y.1 (omega (arith, p, o)) (omega (arith, p, st))))
          (λ p. ⊎_elim (λ (u : E.start + E.span ≤ E.old_start). inl (omega (arith, u, p, n))) (λ (u : E.old_start + E.old_span ≤ E.start). inr (omega (arith, u, p, l, o))) r) z)
          (ready.inv.laid.lies a st))
          (only_cases E.start E.span g.size a)

      prior : (b : ℕ) → 0 < size' b → m.low ≤ b → b < E.start + E.span → b % 64 ≢ 0 → (a : ℕ) × (0 < size' a) × (a + size' a ≡ b)
      prior b st l n d = let u = was b st in let p = ready.inv.new.prior b u.0 l n d in let o = ready.inv.laid.order in let al = ready.inv.laid.aligned in
          let place : (E.start ≤ p.0) × (p.0 < E.start + E.span) = (let q = ready.inv.laid.lies p.0 p.1 in let r = ready.out.apart in (omega (arith, q, r, o, p.1, p.2, l, n, d, al), omega (arith, p.1, p.2, n))) in
          let same = inside E.start E.span g.size p.0 place.0 place.1 in
          (p.0, omega (arith, same, p.1), omega (arith, same, p.2))

      of_space : SpaceOf E.start m.front m.low (E.start + E.span) E.epoch size' m.heap m.page
      of_space = let o = ready.inv.laid.order in record {
        lies = λ a st l n. let u = was a st in rw u.3 (lies a u.0 u.1 u.2);
        order = o;
        aligned = ready.inv.laid.aligned;
        first = ⊎_elim (λ e. inl e) (λ st. ⊎_elim (λ (e : E.start ≡ m.front). inl e) (λ (e : E.start ≢ m.front). inr (stands E.start st (omega arith) (omega (arith, e, o)))) (cases_eq E.start m.front)) ready.inv.laid.start;
        next = λ a l n st. let u = was a st in ⊎_elim
            (λ e. inl (omega (arith, u.3, e)))
            (λ s. let y = lies a u.0 u.1 u.2 in ⊎_elim
            (λ (e : a + g.size a ≡ m.front). inl (omega (arith, u.3, e)))
            (λ (e : a + g.size a ≢ m.front). inr (rw u.3 (stands (a + g.size a) s (omega (arith, l)) (omega (arith, y, e, n, o)))))
            (cases_eq (a + g.size a) m.front))
            (ready.inv.laid.next a l n u.0);
        new = record {
          opened = λ a x st l n b c. let u = was a st in ready.inv.new.opened a x u.0 l n b (omega (arith, c, u.3));
          prior = prior;
          blank = λ x l n w q free. ready.inv.new.blank x l n (comes_to_fewer (λ a st. let u = was a st in (u.0, u.3)) x w) q (in_record x l n free);
        };
      }
