-- A place at FRONT is given to a copy: what reads where records stand stays as it is.
use Rattle.std.proofs.Common.{◌≡◌, ◌≢◌, ℕ, ◌+◌, ◌*◌, ◌%◌, ◌<◌, ◌≤◌, refl, sym, ap, ◌∙◌, arith, ⊎_elim, ◌⊎◌, inl, inr}
use Rattle.std.proofs.lemmas.Bool.{cases_eq, cases_lt}
use Rattle.space_map.specs.declared.page_word.PageWord.{PageWord}
use Rattle.heap_state.specs.Memory.Era.{Era, IsLaidOut}
use Rattle.heap_state.specs.Functions.{put}
use Rattle.heap_state.specs.Invariant.Ghost.{Ghost, IsField, Here, Lands}
use Rattle.heap_state.specs.Invariant.Parts.Copies.{Copied, Once}
use Rattle.heap_state.specs.Invariant.Parts.Crossing.{Crossing}
use Rattle.heap_state.specs.Invariant.Parts.Leading.{Opened, Landing, Older}
use Rattle.heap_state.specs.Invariant.Parts.Records.{Laid, Headed, NewArea, NewWritten, SpaceOf, RawWords, WalkComesTo, Counts}
use Rattle.heap_state.specs.Invariant.Parts.Stocks.{Stocked, Stocks, Numbered}
use Rattle.heap_state.specs.Meaning.Values.{value_of}
use Rattle.heap_state.specs.Known.{Known, Stock}
use Rattle.heap_state.proofs.Puts.{put_at, put_other, put_same, put_cases}
use Rattle.heap_state.proofs.Walks.WalkPlaces.{comes_to_more}
use Rattle.heap_laws.specs.Copying.{reserved}
use Rattle.heap_laws.proofs.Frames.Values.{value_agrees}

-- worker k keeps the header of the record at a, of size z, which has no copy, and is given the place f, at FRONT
pub record Reservation (E : Era) (front low : ℕ) (g : Ghost) (k a f z : ℕ) : Type 0 where
  pub laid_out : IsLaidOut E
  pub laid : Laid E front low g.size
  pub copied : Copied E front g.size g.writer g.copy g.keeper g.kind g.identity g.kept
  pub here : f ≡ front
  pub room : f + z ≤ low
  pub some : 0 < z
  pub old : g.size a ≡ z
  pub below : (E.old_start ≤ a) × (a + z ≤ E.old_start + E.old_span)
  pub uncopied : g.copy a ≡ 0
  pub taken : g.keeper a ≡ k + 1

module _ {E : Era} {front low : ℕ} {g : Ghost} {k a f z : ℕ} (reservation : Reservation E front low g k a f z) where
  open reservation use {laid_out, laid, copied, here, room, some, old, below, uncopied, taken}

  abbrev g' : Ghost
  g' = reserved g k a f z

  pub empty : g.size f ≡ 0
  empty = ⊎_elim (λ (y : 0 < g.size f). absurd (omega (arith, laid.lies f y, laid_out.apart, laid.order, here, room, some))) (λ (y : g.size f ≤ 0). let q : g.size f ≡ 0 = omega arith in q) (cases_lt 0 (g.size f))

  pub not_new : (b : ℕ) → 0 < g.size b → b ≢ f
  not_new b st e = let q : g.size b ≡ g.size f = ap g.size e in omega (arith, empty)

  pub source_other : a ≢ f
  source_other = not_new a (omega (arith, old, some))

  pub was : (b : ℕ) → b ≢ f → 0 < g'.size b → 0 < g.size b
  was b n st = rw (put_other g.size f z b n) at st

  pub is : (b : ℕ) → 0 < g.size b → 0 < g'.size b
  is b st = rw (put_other g.size f z b (not_new b st)) st

  pub beside : (b : ℕ) → 0 < g.size b → b < f + z → b + g.size b ≤ f
  beside b st l = omega (arith, laid.lies b st, laid_out.apart, laid.order, here, room)

  pub laid_reserved : Laid E (f + z) low g'.size
  laid_reserved = record {
    aligned = laid.aligned;
    apart = λ x y sx sy l. grind (arith, put_cases g.size f z x, put_cases g.size f z y, laid.apart x y, beside x, beside y);
    lies = λ x sx. ⊎_elim
        (λ (y : x ≡ f). inl (omega (arith, laid.order, here), omega (arith, put_cases g.size f z x)))
        (λ (n : x ≢ f). rw (put_other g.size f z x n) (before x (was x n sx)))
        (cases_eq x f);
    order = record { 0 = omega (arith, laid.order, here); 1 = room; 2 = laid.order.2 };
    start = inr start_reserved;
    next = λ x p q sx. next_reserved x p q sx;
  }
    where
      start_reserved : 0 < put g.size f z (E.start)
      start_reserved = grind (arith, put_cases g.size f z (E.start), laid.start, here, some)

      next_reserved : (x : ℕ) → E.start ≤ x → x < f + z → 0 < put g.size f z x → (x + put g.size f z x ≡ f + z) ⊎ (0 < put g.size f z (x + put g.size f z x))
      next_reserved x p q sx = grind (arith, put_cases g.size f z x, put_cases g.size f z (x + put g.size f z x), laid.next x, here, beside x)

      before : (x : ℕ) → 0 < g.size x → ((E.start ≤ x) × (x + g.size x ≤ f + z)) ⊎ (((low ≤ x) × (x + g.size x ≤ E.start + E.span)) ⊎ ((E.old_start ≤ x) × (x + g.size x ≤ E.old_start + E.old_span)))
      before x st = ⊎_elim (λ y. inl (y.0, omega (arith, y, here))) (λ y. inr y) (laid.lies x st)

  pub written_new : (b : ℕ) → g'.writer b ≡ 0 → b ≢ f
  written_new b w e = let q = put_at g.writer f (k + 1) b e in omega arith

  pub was_written : (b : ℕ) → g'.writer b ≡ 0 → g.writer b ≡ 0
  was_written b w = rw (put_other g.writer f (k + 1) b (written_new b w)) at w

  pub written_on : (b : ℕ) → 0 < g.size b → g.writer b ≡ 0 → g'.writer b ≡ 0
  written_on b st w = rw (put_other g.writer f (k + 1) b (not_new b st)) w

  copied_new : (b : ℕ) → g'.copy b ≡ 0 → b ≢ a
  copied_new b w e = let q = put_at g.copy a (f + 1) b e in omega arith

  pub headed_reserved : (heap : ℕ → ℕ) → Headed g.size g.writer g.copy g.keeper g.kind g.identity heap → Headed g'.size g'.writer g'.copy g'.keeper g'.kind g'.identity heap
  headed_reserved heap p = record {
    own = λ b st w y u. let n = written_new b w in let x = copied_new b y in
        rw (put_other g.size f z b n, put_other g.kind f (g.kind a) b n, put_other g.identity f (g.identity a) b n) (p.own b (was b n st) (was_written b w) (rw (put_other g.copy a (f + 1) b x) at y) u);
    kept = λ b j st y. let n : b ≢ f = kept_old b j y in rw (put_other g.size f z b n) (p.kept b j (was b n st) y);
    gone = λ b x st y u. let d : b ≢ a = (λ e. let q : g.keeper b ≡ g.keeper a = ap g.keeper e in omega (arith, taken)) in let y' : g.copy b ≡ x + 1 = rw (put_other g.copy a (f + 1) b d) at y in
        let n : b ≢ f = (λ e. let q : g.copy b ≡ g.copy f = ap g.copy e in omega (arith, (copied.blank f empty).0)) in rw (put_other g.size f z b n) (p.gone b x (was b n st) y' u);
  }
    where
      kept_old : (b j : ℕ) → g.keeper b ≡ j + 1 → b ≢ f
      kept_old b j y e = let q : g.keeper b ≡ g.keeper f = ap g.keeper e in omega (arith, (copied.blank f empty).1)

  pub copied_reserved : Copied E (f + z) g'.size g'.writer g'.copy g'.keeper g'.kind g'.identity g'.kept
  copied_reserved = record {
    target = λ b x st y. ⊎_elim (λ (e : b ≡ a). of_a b x e y) (λ (d : b ≢ a). of_other b x d st y) (cases_eq b a);
    blank = λ b y. let n : b ≢ f = (λ e. let q = put_at g.size f z b e in omega (arith, some)) in let l : g.size b ≡ 0 = rw (put_other g.size f z b n) at y in
        let d : b ≢ a = (λ e. let q : g.size b ≡ g.size a = ap g.size e in omega (arith, old, some)) in rw (put_other g.copy a (f + 1) b d) (copied.blank b l);
    origin = λ b st w. ⊎_elim
        (λ (e : b ≡ f). (a, is a (omega (arith, old, some)), (let q : g'.copy a ≡ f + 1 = put_same g.copy a (f + 1) in let r : f + 1 ≡ b + 1 = omega arith in q ∙ r)))
        (λ (n : b ≢ f). let o = copied.origin b (was b n st) (rw (put_other g.writer f (k + 1) b n) at w) in let d : o.0 ≢ a = (λ e. let q : g.copy (o.0) ≡ g.copy a = ap g.copy e in omega (arith, o.2, uncopied)) in (o.0, is (o.0) (o.1), rw (put_other g.copy a (f + 1) (o.0) d) (o.2)))
        (cases_eq b f);
    keeper_of = λ b j st y. let n : b ≢ f = (λ e. let q : g.keeper b ≡ g.keeper f = ap g.keeper e in omega (arith, (copied.blank f empty).1)) in copied.keeper_of b j (was b n st) y;
  }
    where
      of_a : (b x : ℕ) → b ≡ a → g'.copy b ≡ x + 1
          → (E.old_start ≤ b) × (b < E.old_start + E.old_span) × (E.start ≤ x) × (x < f + z) × (g'.size x ≡ g'.size b) × (g'.identity x ≡ g'.identity b) × (g'.kind x ≡ g'.kind b) × (g'.writer x ≡ g.keeper b)
      of_a b x e y =
          let q = put_at g.copy a (f + 1) b e in let xf : x ≡ f = omega arith in let n : b ≢ f = λ u. source_other (sym e ∙ u) in
          rw (put_other g.size f z b n, put_other g.identity f (g.identity a) b n, put_other g.kind f (g.kind a) b n, put_at g.size f z x xf, put_at g.identity f (g.identity a) x xf, put_at g.kind f (g.kind a) x xf, put_at g.writer f (k + 1) x xf, e)
          (below.0, omega (arith, below.1, some), omega (arith, laid.order, here), omega (arith, some), sym old, refl, refl, sym taken)

      of_other : (b x : ℕ) → b ≢ a → 0 < g'.size b → g'.copy b ≡ x + 1
          → (E.old_start ≤ b) × (b < E.old_start + E.old_span) × (E.start ≤ x) × (x < f + z) × (g'.size x ≡ g'.size b) × (g'.identity x ≡ g'.identity b) × (g'.kind x ≡ g'.kind b) × (g'.writer x ≡ g.keeper b)
      of_other b x d st y =
          let y' : g.copy b ≡ x + 1 = rw (put_other g.copy a (f + 1) b d) at y in
          let n : b ≢ f = λ e. let q : g.copy b ≡ g.copy f = ap g.copy e in omega (arith, (copied.blank f empty).0) in
          let t = copied.target b x (was b n st) y' in let u : x ≢ f = omega (arith, t.3, here) in
          rw (put_other g.size f z b n, put_other g.identity f (g.identity a) b n, put_other g.kind f (g.kind a) b n, put_other g.size f z x u, put_other g.identity f (g.identity a) x u, put_other g.kind f (g.kind a) x u, put_other g.writer f (k + 1) x u)
          (t.0, t.1, t.2, omega (arith, t.3, here), t.4, t.5, t.6, t.7)

  pub once_reserved : Once g.size g.copy g.identity → Once g'.size g'.copy g'.identity
  once_reserved p = record {
    once = λ b d sb sd e. ⊎_elim
        (λ (x : b ≡ f). ⊎_elim (λ (y : d ≡ f). inl (x ∙ sym y)) (λ (y : d ≢ f). inr (inr (new b d x y sd e))) (cases_eq d f))
        (λ (x : b ≢ f). ⊎_elim (λ (y : d ≡ f). inr (inl (new d b y x sb (sym e)))) (λ (y : d ≢ f). both b d x y (was b x sb) (was d y sd) (rw (put_other g.identity f (g.identity a) b x, put_other g.identity f (g.identity a) d y) at e)) (cases_eq d f))
        (cases_eq b f);
  }
    where
      new : (b d : ℕ) → b ≡ f → d ≢ f → 0 < g'.size d → g'.identity b ≡ g'.identity d → g'.copy d ≡ b + 1
      new b d x y sd e =
          let w : g.identity a ≡ g.identity d = rw (put_at g.identity f (g.identity a) b x, put_other g.identity f (g.identity a) d y) at e in
          let q = p.once a d (omega (arith, old, some)) (was d y sd) w in
          ⊎_elim (λ (i : a ≡ d). rw (put_at g.copy a (f + 1) d (sym i)) (let j : f + 1 ≡ b + 1 = omega arith in j))
          (λ i. absurd (⊎_elim (λ (i : g.copy a ≡ d + 1). omega (arith, uncopied)) (λ (i : g.copy d ≡ a + 1). let t = copied.target d a (was d y sd) i in omega (arith, t.2, t.3, laid_out.apart, below, laid.order)) i)) q

      both : (b d : ℕ) → b ≢ f → d ≢ f → 0 < g.size b → 0 < g.size d → g.identity b ≡ g.identity d → (b ≡ d) ⊎ ((g'.copy b ≡ d + 1) ⊎ (g'.copy d ≡ b + 1))
      both b d x y sb sd e = ⊎_elim (λ i. inl i)
          (λ j. inr (⊎_elim
          (λ (i : g.copy b ≡ d + 1). inl (let n : b ≢ a = (λ u. let q : g.copy b ≡ g.copy a = ap g.copy u in omega (arith, uncopied)) in rw (put_other g.copy a (f + 1) b n) i))
          (λ (i : g.copy d ≡ b + 1). inr (let n : d ≢ a = (λ u. let q : g.copy d ≡ g.copy a = ap g.copy u in omega (arith, uncopied)) in rw (put_other g.copy a (f + 1) d n) i)) j))
          (p.once b d sb sd e)

  -- ---- fields

  pub field_back : (b i : ℕ) → IsField g'.size g'.writer g'.kind b i → IsField g.size g.writer g.kind b i
  field_back b i y = let n = written_new b y.written in record { stands = was b n y.stands; written = was_written b y.written; field = rw (put_other g.kind f (g.kind a) b n) at (y.field); first = y.first; last = rw (put_other g.size f z b n) at (y.last) }

  pub field_on : (b i : ℕ) → IsField g.size g.writer g.kind b i → IsField g'.size g'.writer g'.kind b i
  field_on b i y = let n = not_new b y.stands in record { stands = is b y.stands; written = written_on b y.stands y.written; field = rw (put_other g.kind f (g.kind a) b n) (y.field); first = y.first; last = rw (put_other g.size f z b n) (y.last) }

  -- a field or a board word after is one before
  pub here_back : (x : ℕ) → Here E g'.size g'.writer g'.kind x → Here E g.size g.writer g.kind x
  unfolding Here
  here_back x (inr b) = inr b
  here_back x (inl u) = inl (record { a = u.a; i = u.i; inside = u.inside; at = u.at; field = field_back u.a u.i u.field })

  pub here_on : (x : ℕ) → Here E g.size g.writer g.kind x → Here E g'.size g'.writer g'.kind x
  unfolding Here
  here_on x (inr b) = inr b
  here_on x (inl u) = inl (record { a = u.a; i = u.i; inside = u.inside; at = u.at; field = field_on u.a u.i u.field })

  pub lands_reserved : (w : ℕ) → Lands g.size g.writer w → Lands g'.size g'.writer w
  unfolding Lands
  lands_reserved w q b e = let u = q b e in (is b u.0, written_on b u.0 u.1)

  pub opened_reserved : (heap : ℕ → ℕ) (page : ℕ → PageWord) → Opened E g.size g.writer g.kind heap page → Opened E g'.size g'.writer g'.kind heap page
  opened_reserved heap page p = record { opened = λ x u o. p.opened x (here_back x u) o }

  pub landing_reserved : (heap : ℕ → ℕ) → Landing E g.size g.writer g.kind heap → Landing E g'.size g'.writer g'.kind heap
  landing_reserved heap p = record { lands = λ x u. lands_reserved (heap x) (p.lands x (here_back x u)) }

  -- no old place is the new one
  pub old_side : (b : ℕ) → E.old_start ≤ b → b < E.old_start + E.old_span → b ≢ f
  old_side b l n e = omega (arith, laid_out.apart, laid.order, room, some, here, l, n, e)

  pub older_reserved : (heap : ℕ → ℕ) → Older E g.size g.writer g.kind heap → Older E g'.size g'.writer g'.kind heap
  older_reserved heap p = record {
    older = λ b i x y l n e. let q = p.older b i x (field_back b i y) l n e in (is x q.0, q.1, q.2);
    written = λ b st l n. let d = old_side b l n in rw (put_other g.writer f (k + 1) b d) (p.written b (was b d st) l n);
  }

  pub raw_reserved : (heap : ℕ → ℕ) → RawWords g.size g.writer g.kind heap → RawWords g'.size g'.writer g'.kind heap
  raw_reserved heap p = record { raw = λ b i st w l n y. let d = written_new b w in p.raw b i (was b d st) (was_written b w) l (rw (put_other g.size f z b d) at n) (rw (put_other g.kind f (g.kind a) b d) at y) }

  pub counts_reserved : (heap : ℕ → ℕ) → Counts g.size g.writer g.kind heap → Counts g'.size g'.writer g'.kind heap
  counts_reserved heap p = record { counts = λ b count st w e. let d = written_new b w in rw (put_other g.size f z b d) (p.counts b count (was b d st) (was_written b w) (rw (put_other g.kind f (g.kind a) b d) at e)) }

  -- ---- areas

  pub new_reserved : (start end epoch : ℕ) (heap : ℕ → ℕ) (page : ℕ → PageWord) → start % 64 ≡ 0 → (f + z ≤ start) ⊎ (end ≤ f) → NewArea start end epoch g.size heap page → NewArea start end epoch g'.size heap page
  new_reserved start end epoch heap page aligned beyond p = record {
    opened = λ b x st l n i j. let d = off b l n in p.opened b x (was b d st) l n i (rw (put_other g.size f z b d) at j);
    prior = λ b st l n al. let d = off b l n in let y = p.prior b (was b d st) l n al in (y.0, is y.0 y.1, rw (put_other g.size f z (y.0) (not_new y.0 y.1)) (y.2));
    blank = λ x l n w o free. p.blank x l n (comes x l n w) o (λ b st. rw (put_other g.size f z b (not_new b st)) at (free b (is b st)));
  }
    where
      off : (b : ℕ) → start ≤ b → b < end → b ≢ f
      off b l n e = omega (arith, e, l, n, beyond, some)

      comes : (x : ℕ) → start ≤ x → x < end → WalkComesTo g'.size x → WalkComesTo g.size x
      comes x l n w = ⊎_elim (λ y. y) (λ (e : x ≡ f + z). inl (omega (arith, e, l, n, beyond, aligned))) (comes_to_more g.size f z x w)

  pub written_reserved : NewWritten E low g.size g.writer → NewWritten E low g'.size g'.writer
  written_reserved p = record { written = λ b st l n. let d : b ≢ f = omega (arith, room, some) in rw (put_other g.writer f (k + 1) b d) (p.written b (was b d st) l n) }

  pub space_reserved : (begun free epoch : ℕ) (heap : ℕ → ℕ) (page : ℕ → PageWord) → SpaceOf E.old_start begun free (E.old_start + E.old_span) epoch g.size heap page
      → SpaceOf E.old_start begun free (E.old_start + E.old_span) epoch g'.size heap page
  space_reserved begun free epoch heap page p = record {
    lies = λ b st l n. let d = old_side b l n in rw (put_other g.size f z b d) (p.lies b (was b d st) l n);
    order = p.order;
    aligned = p.aligned;
    first = ⊎_elim (λ e. inl e) (λ y. inr (is E.old_start y)) p.first;
    next = λ b l n st. let d = old_side b l (omega (arith, n, p.order)) in rw (put_other g.size f z b d) (⊎_elim (λ e. inl e) (λ y. inr (is (b + g.size b) y)) (p.next b l n (was b d st)));
    new = new_reserved free (E.old_start + E.old_span) epoch heap page p.aligned (⊎_elim (λ y. inl (omega (arith, y, laid.order, room, p.order))) (λ y. inr (omega (arith, y, laid.order, here))) laid_out.apart) p.new;
  }

  pub crossing_reserved : (cross : ℕ → ℕ) → Crossing E front g.size g.writer cross → Crossing E (f + z) g'.size g'.writer cross
  crossing_reserved cross p = record {
    crossing = λ q b s l st n i w. let d = written_new b w in let st' = was b d st in let i' : 64 * q < b + g.size b = rw (put_other g.size f z b d) at i in
        p.crossing q b s (let y = beside b st' (omega arith) in omega (arith, y, here, i')) st' n i' (was_written b w);
  }

  -- ---- stocks

  pub stocked_reserved : (heap : ℕ → ℕ) (page : ℕ → PageWord) (q : Stock) → Stocked E low g.size heap page q → Stocked E low g'.size heap page q
  stocked_reserved heap page q p = record {
    lies = p.lies;
    so_far = p.so_far;
    aligned = p.aligned;
    zeros = p.zeros;
    ahead = p.ahead;
    fits = p.fits;
    on_page = p.on_page;
    shut = p.shut;
    opens = p.opens;
    order = p.order;
    whole = p.whole;
    empty = λ b st. ⊎_elim
        (λ (e : b ≡ f). inl (let y = put_at g.size f z b e in omega (arith, y, e, room, p.lies)))
        (λ (d : b ≢ f). rw (put_other g.size f z b d) (p.empty b (was b d st)))
        (cases_eq b f);
    after = ⊎_elim (λ e. inl e) (λ (y : (b : ℕ) × (0 < g.size b) × (b + g.size b ≡ q.at)). inr (y.0, is y.0 y.1, rw (put_other g.size f z (y.0) (not_new y.0 y.1)) (y.2))) p.after;
  }

  pub stocks_reserved : (count : ℕ) (heap : ℕ → ℕ) (page : ℕ → PageWord) (worker : ℕ → Known) → Stocks E low count g.size heap page worker → Stocks E low count g'.size heap page worker
  stocks_reserved count heap page worker p = record { stocked = λ j l q e n. stocked_reserved heap page q (p.stocked j l q e n); apart = p.apart }

  pub numbered_reserved : (mutators : ℕ) (worker : ℕ → Known) → Numbered mutators g.size g.identity worker → Numbered mutators g'.size g'.identity worker
  numbered_reserved mutators worker p = record {
    maker = λ b st. ⊎_elim
        (λ (e : b ≡ f). rw (put_at g.identity f (g.identity a) b e) (p.maker a source))
        (λ (d : b ≢ f). rw (put_other g.identity f (g.identity a) b d) (p.maker b (was b d st)))
        (cases_eq b f);
    last = λ b st. ⊎_elim
        (λ (e : b ≡ f). rw (put_at g.identity f (g.identity a) b e) (p.last a source))
        (λ (d : b ≢ f). rw (put_other g.identity f (g.identity a) b d) (p.last b (was b d st)))
        (cases_eq b f);
  }
    where
      source : 0 < g.size a
      source = omega (arith, old, some)

  -- ---- what words denote

  pub value_reserved : (w : ℕ) → Lands g.size g.writer w → value_of g'.identity w ≡ value_of g.identity w
  unfolding Lands
  value_reserved w q = value_agrees g.identity g'.identity w (λ b e. put_other g.identity f (g.identity a) b (not_new b (q b e).0))
