-- A configuration that keeps the invariant of its proofs keeps the one by words and workers.
use Rattle.std.proofs.Common.{◌≡◌, ◌≢◌, ℕ, zero, suc, ◌+◌, ◌-◌, ◌*◌, ◌/◌, ◌<◌, ◌≤◌, true, false, Some, refl, sym, ap, ◌∙◌, arith, ⊎_elim, ◌⊎◌, inl, inr}
use Rattle.std.proofs.lemmas.Bool.{cases_eq, cases_lt, cases_Bool, eq-eqb, ne_eqb}
use Rattle.heap_words.specs.Decoded.{BusyWord, ForwardWord, decode}
use Rattle.space_map.specs.declared.page_word.PageWord.TheVariants.{Open}
use Rattle.heap_state.specs.Memory.Table.{IsFormed}
use Rattle.heap_state.specs.Configuration.{Configuration, era, memory, team}
use Rattle.heap_state.specs.Memory.Era.{Era, Memory}
use Rattle.heap_state.specs.Functions.{count_one}
use Rattle.heap_state.specs.Invariant.Ghost.{Ghost, Here, OnBoard, header_kind}
use Rattle.heap_state.specs.Invariant.Holds.{worker_of, IsWalkedField, GateHolds, HeadersHold, AccessHolds, RoomHolds, SizesHold, CrossingHolds, ClaimsHold, FreeHolds, Holds}
use Rattle.heap_state.specs.Invariant.Inductive.{Invariant, Knows}
use Rattle.heap_state.specs.Invariant.Parts.Copies.{owing}
use Rattle.heap_state.specs.Invariant.Parts.Stocks.{Stocked}
use Rattle.heap_state.specs.Meaning.Dump.{dump_of}
use Rattle.heap_state.specs.Kept.{kept_of, size_said, IsReservedIn}
use Rattle.heap_state.specs.Meaning.Represents.{IsInHeap}
use Rattle.heap_state.proofs.Walks.Reserving.{kept_there}
use Rattle.heap_state.specs.Sums.{is_uncopied}
use Rattle.heap_state.specs.Memory.Walk.{Walked}
use Rattle.heap_state.specs.Known.{Post, Running, Stopped, Flipping, Snapping, Claim, Stock, is_live, is_running, is_asking, is_late}
use Rattle.heap_state.proofs.Puts.{sum_below-none}
use Rattle.heap_state.proofs.Holds.CellsHold.{cells_hold}
use Rattle.heap_state.proofs.Table.LaidOut.{table_in_use}
use Rattle.heap_state.proofs.Represents.Denoting.{none_leads}
use Rattle.heap_state.proofs.Records.Holding.{First, OwnHeader, KeptBy, GoneTo, first, keeper, writer, reserves}
use Rattle.heap_state.proofs.Walks.InHeap.{in_heap_sound, lay, now_sound, now_complete, old_sum, still_copying}
use Rattle.heap_state.proofs.Represents.Owning.{walked_here}
use Rattle.heap_state.proofs.Walks.Spaces.{IsOf}
use Rattle.heap_state.proofs.Walks.Walking.{item}

module _ (c : Configuration) (g : Ghost) (formed : IsFormed c.pages c.words) (inv : Invariant (era c) (memory c) (team c) g) where
  abbrev E : Era
  E = era c

  abbrev m : Memory
  m = memory c

  knows : (k : ℕ) → k < (team c).count → Knows E m.gate m.traced m.front m.low m.old_front m.old_low m.old_owed g m.page m.cross m.announced m.heap k (worker_of c k)
  knows = inv.workers

  -- ---- the gate

  -- who is live but neither runs nor asks is stopped
  is_stopped : (post : Post) → is_live post ≡ true → (is_running post ≡ true → ⊥) → (is_asking post ≡ true → ⊥) → post ≡ Stopped
  is_stopped Running live runs asks = absurd (runs refl)
  is_stopped Stopped live runs asks = refl
  is_stopped (Flipping asked) live runs asks = absurd (asks refl)
  is_stopped Snapping live runs asks = absurd (asks refl)
  is_stopped _ live runs asks = absurd (cc)

  gate : GateHolds c
  gate = record {
    counted = inv.counted;
    past = λ k l. (knows k l).timely.past;
    live = λ k l live. (knows k l).timely.live live;
    late = λ k l live e.
        let t = (knows k l).timely in
        let late : is_late E.epoch (worker_of c k) ≡ true = rw (live, eq-eqb ((worker_of c k).epoch + 1) E.epoch e) refl in
        (is_stopped (worker_of c k).post live (λ r. let s = t.running r in omega (arith, s, e)) (λ f. let s = t.asking f in omega (arith, s, e)), (knows k l).licensed.counted late);
  }

  -- ---- headers

  kept_here : (w : Walked) (len k : ℕ) → IsInHeap (dump_of c) w → decode (m.heap w.at) ≡ BusyWord len k → (0 < g.size w.at) × (g.keeper w.at ≡ k + 1) × (g.size w.at - 1 ≡ len)
  kept_here w len k h e =
      let known = in_heap_sound c g formed inv w h in
      let st : 0 < g.size w.at = omega (arith, known.sized) in
      let q = by_first (first E m (team c) g inv w.at st known.written) in
      (st, q.0, q.1)
    where
      by_first : First E m (team c) g inv w.at → (g.keeper w.at ≡ k + 1) × (g.size w.at - 1 ≡ len)
      by_first (OwnHeader n y d) = absurd (let q = sym d ∙ e in cc)
      by_first (KeptBy j y d) = let q = sym d ∙ e in let s : j ≡ k = cc in let l : g.size w.at - 1 ≡ len = cc in (rw (← s) y, l)
      by_first (GoneTo b y n d) = absurd (let q = sym d ∙ e in cc)

  headers : HeadersHold c
  headers = record {
    kept = λ w len k h e.
        let q = kept_here w len k h e in
        let kp = keeper E m (team c) g inv w.at k q.0 q.1 in
        record { below = kp.below; copy = kp.copy; copies = kp.copies; from = kp.from; size = omega (arith, kp.sized, q); head = header_kind (g.kind w.at); serial = (g.identity w.at).serial; mutator = (g.identity w.at).mutator; header = rw q.2 at kp.keeps };
    alone = λ w len k other copy h e l cp from.
        let q = kept_here w len k h e in
        let o = ((knows other l).copy copy cp).old.2 in
        let same : g.keeper copy.from ≡ g.keeper w.at = ap g.keeper from in
        omega (arith, q.1, o, same);
    announced = λ k copy l cp r. let cs = (knows k l).copy copy cp in let n = (cs.named (cs.place r).0).0 in omega arith;
  }

  -- ---- access

  here : (x : ℕ) → IsWalkedField c x ⊎ OnBoard E x → Here E g.size g.writer g.kind x
  unfolding Here
  here x (inl f) = walked_here c g formed inv x f
  here x (inr b) = inr b

  access : AccessHolds c
  access = record {
    opened = λ x h o. inv.opened.opened x (here x h) o;
    registers = λ k j l mu n late s. ((knows k l).registers mu n).clean j s (λ t. absurd (let q : true ≡ false = sym t ∙ late in cc));
    top = inv.tracing.top;
    traced = λ t x h. none_leads c g formed inv t x (here x h);
    none = λ t. (inv.tracing.quiet t).none;
  }

  -- ---- room

  -- a record of the old space that is counted as uncopied has no copy
  owes : m.traced ≤ E.epoch → (w : Walked) → IsOf E.old_start m.old_front m.old_low (E.old_start + E.old_span) g.size g.writer w → is_uncopied (kept_of c.workers) (decode (m.heap w.at)) ≡ true
      → owing g.size g.copy w.at ≡ w.size
  owes t w i u = let st : 0 < g.size w.at = omega (arith, i.sized) in by_first st (first E m (team c) g inv w.at st i.written)
    where
      by_first : 0 < g.size w.at → First E m (team c) g inv w.at → owing g.size g.copy w.at ≡ w.size
      by_first st (OwnHeader n y d) = rw n i.sized.1
      by_first st (KeptBy k y d) =
          let kp = keeper E m (team c) g inv w.at k st y in
          let q : is_uncopied (kept_of c.workers) (BusyWord (g.size w.at - 1) k) ≡ true = rw d at u in
          ⊎_elim
          (λ (r : kp.copy.reserved ≡ true). absurd (let z : false ≡ true = rw (kept_there c.workers k, kp.copies, r, ne_eqb (kp.copy.to + 1) 0 (λ e. omega arith)) at q in cc))
          (λ (r : kp.copy.reserved ≡ false).
          let l = ((knows k kp.below).copy kp.copy kp.copies).loose r in
          let n : g.copy w.at ≡ 0 = sym (ap g.copy kp.from) ∙ l.0 in
          rw n i.sized.1)
          (cases_Bool kp.copy.reserved)
      by_first st (GoneTo b y n d) = absurd (let q : is_uncopied (kept_of c.workers) (ForwardWord (g.size w.at - 1) b) ≡ true = rw d at u in let z : false ≡ true = q in cc)

  room : RoomHolds c
  room = record {
    order = inv.laid.order.1;
    fits = λ n. inv.room.fits (still_copying c g formed inv n).0;
    enough = λ n.
        let t = still_copying c g formed inv n in
        let s = old_sum c g formed inv t.0 (E.epoch - 1) t.1 (λ w. is_uncopied (kept_of c.workers) (decode (m.heap w.at))) (owing g.size g.copy) (owes t.0) in
        omega (arith, s, inv.room.needs t.0);
  }

  -- ---- crossing

  -- a record stands over each word below FRONT
  over : (n a x : ℕ) → E.start ≤ a → 0 < g.size a → a ≤ x → x < m.front → x ≤ a + n → (b : ℕ) × (0 < g.size b) × (E.start ≤ b) × (b ≤ x) × (x < b + g.size b)
  over zero a x s st l f n = (a, st, s, l, omega arith)
  over (suc n) a x s st l f t = ⊎_elim
      (λ (q : x < a + g.size a). (a, st, s, l, q))
      (λ (q : a + g.size a ≤ x). ⊎_elim
      (λ e. absurd (omega arith))
      (λ e. over n (a + g.size a) x (omega arith) e q f (omega arith))
      (inv.laid.next a s (omega arith) st))
      (cases_lt x (a + g.size a))

  crossing : CrossingHolds c
  crossing = record {
    crossing = λ p s f free.
        let o = over (64 * p) E.start (64 * p) (omega arith) (begun p s f) s f (omega arith) in
        let w = nobody (64 * p) o.0 o.1 o.3 o.4 free in
        (item o.0 (g.size o.0), now_complete c g formed inv o.0 o.2 (omega (arith, o.3, f, inv.laid.order)) o.1 w, o.3, omega (arith, o.4), inv.crossing.crossing p o.0 s f o.1 o.3 o.4 w);
  }
    where
      begun : (p : ℕ) → E.start ≤ 64 * p → 64 * p < m.front → 0 < g.size E.start
      begun p s f = ⊎_elim (λ e. absurd (omega arith)) (λ e. e) inv.laid.start

      nobody : (x b : ℕ) → 0 < g.size b → b ≤ x → x < b + g.size b → ¬ (IsReservedIn (kept_of c.workers) x) → g.writer b ≡ 0
      nobody x b st l r free = ⊎_elim
          (λ (z : g.writer b ≡ 0). z)
          (λ (z : g.writer b ≢ 0).
          let p = writer E m (team c) g inv b (g.writer b - 1) st (omega arith) in
          let said : size_said (decode p.copy.header) ≡ p.copy.size - 1 + 1 = rw ((knows (g.writer b - 1) p.below).keeps p.copy p.copies).keeps refl in
          absurd (free (record {
            worker = g.writer b - 1;
            place = b;
            reserved = rw (kept_there c.workers (g.writer b - 1), p.copies, p.reserved, p.to) (refl {a = b + 1});
            inside = (l, rw (kept_there c.workers (g.writer b - 1), p.copies) (omega (arith, said, p.sized, r, st)));
          })))
          (cases_eq (g.writer b) 0)

  -- ---- sizes

  -- who asks has seen that the epoch is traced
  no_request : m.traced ≤ E.epoch → m.gate.request ≡ false
  no_request t =
      let none = sum_below-none (team c).count (λ k. count_one (is_asking (worker_of c k).post))
      (λ k l. ⊎_elim
      (λ (f : is_asking (worker_of c k).post ≡ true). absurd (let y = ((knows k l).seen_traced ((knows k l).asks f)).1 in omega (arith, t, y)))
      (λ (f : is_asking (worker_of c k).post ≡ false). rw f refl)
      (cases_Bool (is_asking (worker_of c k).post))) in
      ⊎_elim
      (λ (r : m.gate.request ≡ true). absurd (let one : count_one m.gate.request ≡ 1 = rw r refl in omega (arith, one, inv.counted.request, none)))
      (λ (r : m.gate.request ≡ false). r)
      (cases_Bool m.gate.request)

  sizes : SizesHold c
  sizes = record {
    least = λ space is. rw (table_in_use c.pages c.words) (formed.sizes space is).0;
    most = λ space is. rw (table_in_use c.pages c.words) (formed.sizes space is).1;
    below = λ n. inv.sizes.below (no_request (still_copying c g formed inv n).0);
  }

  -- ---- claims

  claims : ClaimsHold c
  claims = record {
    scanned = inv.scanned.scanned;
    scans = λ k s l e. ((knows k l).scan s e).claimed;
    passed = λ k s x l e h. ((knows k l).scan s e).passed x (here x h);
    young = inv.aged.young;
    board = λ t. (inv.tracing.quiet t).board;
    first = λ z. let t : m.traced ≡ E.epoch + 1 = omega (arith, z, inv.tracing.begun, inv.tracing.top) in (inv.tracing.quiet t).board ∙ ap Open z;
    copied = λ t p s f. ⊎_elim
        (λ (n : m.front < 64 * p + 64). inv.tracing.last t p f n)
        (λ (n : 64 * p + 64 ≤ m.front). (inv.tracing.quiet t).full p s n)
        (cases_lt m.front (64 * p + 64));
    knows = λ k q l e d. claim k q l e d (cases_Bool q.in_place);
    late = λ k q l e s d. ((knows k l).pages.claim q e).late s d;
    alone = λ p j k x l s r e.
        let v = reserves E m (team c) g inv k r.copy l r.copies r.reserved in
        let y = inv.shut.by r.copy.to x j (omega (arith, v)) (omega (arith, v)) r.inside.0 (omega (arith, v, r.inside)) (ap m.page e ∙ s) in
        omega (arith, y, v);
  }
    where
      claim : (k : ℕ) (q : Claim) → k < (team c).count → (worker_of c k).claim ≡ Some q → (worker_of c k).epoch ≡ E.epoch → (q.in_place ≡ true) ⊎ (q.in_place ≡ false)
          → (q.page ≡ E.board / 64) ⊎ ((E.start ≤ 64 * q.page) × (64 * q.page < m.front) × ((q.in_place ≡ true) ⊎ (64 * q.page + 64 ≤ m.front)))
      claim k q l e d (inl i) = let f = ((knows k l).pages.claim q e).last d i in inr (f.0, f.1, inl i)
      claim k q l e d (inr i) = ⊎_elim
          (λ f. inr (f.0, omega (arith, f.1), inr f.1))
          (λ b. inl b)
          (((knows k l).pages.claim q e).full d i)

  -- ---- free words

  free : FreeHolds c
  free = record {
    walked = λ w h. let i = now_sound c g formed inv w h in let l = inv.laid.lies w.at (omega (arith, i.sized)) in ⊎_elim (λ a. inl (omega (arith, a))) (λ a. inr a) (apart w i l);
    above = λ k q l e n. (inv.stocks.stocked k l q e n).lies.0;
    apart = λ j k p q l n d e f a b. inv.stocks.apart j k l n d p q e f a b;
    zeros = λ k q x l e n a b u. let s = inv.stocks.stocked k l q e n in s.zeros x a (below q x s a b) u;
    ahead = λ k q i w l e n. (inv.stocks.stocked k l q e n).ahead i w;
  }
    where
      -- pages are opened when all words are 0
      below : (q : Stock) (x : ℕ) → Stocked E m.low g.size m.heap m.page q → q.at ≤ x → (x < q.zeroed) ⊎ (x < q.opened) → x < q.zeroed
      below q x s a (inl z) = z
      below q x s a (inr o) = omega (arith, s.order, s.so_far, a, o)

      apart : (w : Walked) → IsOf E.start m.front m.low (E.start + E.span) g.size g.writer w
          → ((E.start ≤ w.at) × (w.at + g.size w.at ≤ m.front)) ⊎ (((m.low ≤ w.at) × (w.at + g.size w.at ≤ E.start + E.span)) ⊎ ((E.old_start ≤ w.at) × (w.at + g.size w.at ≤ E.old_start + E.old_span)))
          → (w.at + w.size ≤ m.front) ⊎ (m.low ≤ w.at)
      apart w i (inl p) = inl (omega (arith, p.1, i.sized))
      apart w i (inr (inl p)) = inr p.0
      apart w i (inr (inr p)) = absurd (omega (arith, p, i.sized, i.inside, (lay c g formed inv).apart))

  pub holds : Holds c
  holds = record { gate = gate; headers = headers; access = access; room = room; sizes = sizes; crossing = crossing; claims = claims; free = free; cells = cells_hold c g formed inv }
