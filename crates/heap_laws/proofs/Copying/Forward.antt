-- The copy is whole, and the forward to it is stored at the old place.
use Rattle.std.proofs.Common.{◌≡◌, ◌≢◌, ℕ, ◌+◌, ◌-◌, ◌*◌, ◌/◌, ◌^◌, ◌<◌, ◌≤◌, Bool, true, false, refl, sym, ap, ◌∙◌, arith, Option, Some, None, ⊎_elim, ◌⊎◌, inl, inr, add-zero}
use Rattle.std.proofs.lemmas.Bool.{cases_eq}
use Rattle.plain_state.specs.declared.kind.Kind.TheVariants.{Mixed}
use Rattle.heap_words.specs.Word.{number_word}
use Rattle.heap_words.specs.Decoded.{HeaderWord, ForwardWord, PointerWord, decode}
use Rattle.plain_state.specs.Layout.{is_field}
use Rattle.space_map.specs.declared.page_word.PageWord.TheVariants.{Scanning}
use Rattle.heap_state.specs.Invariant.Parts.Cells.{Cells}
use Rattle.heap_state.specs.Memory.Era.{Era, Memory}
use Rattle.heap_state.specs.Functions.{put}
use Rattle.heap_state.specs.Invariant.Ghost.{Ghost, IsField, Here, Lands, header_kind}
use Rattle.heap_state.specs.Invariant.Inductive.{Invariant, Knows}
use Rattle.heap_state.specs.Invariant.Parts.Copies.{Copied, Keepers}
use Rattle.heap_state.specs.Invariant.Parts.Copying.{IsOrigin, Seeks, Copies, Licensed, Keeps}
use Rattle.heap_state.specs.Invariant.Parts.Crossing.{Crossing}
use Rattle.heap_state.specs.Invariant.Parts.Knowledge.{Clean, Accesses}
use Rattle.heap_state.specs.Invariant.Parts.Leading.{Opened, Landing, Older}
use Rattle.heap_state.specs.Invariant.Parts.Pages.{Shut}
use Rattle.heap_state.specs.Invariant.Parts.Records.{Headed, RawWords, Counts}
use Rattle.heap_state.specs.Invariant.Parts.Scanning.{Scans, Stepping, Claims}
use Rattle.heap_state.specs.Known.{Known, Team, Quest, Copy, Scan, Claim, Access, Origin, Register, Scanned, Linking, is_late, is_mutator}
use Rattle.heap_state.proofs.Workers.Frames.{counted_put, staffed_put, scanned_put, stocks_put, numbered_put}
use Rattle.heap_state.proofs.Puts.{put_at, put_other, put_same, team_put, each_put, some_same, none≢some}
use Rattle.heap_laws.specs.Copying.{LinksCopy, has_published, published}
use Rattle.heap_laws.specs.Steps.{Ready, InWord, with_worker, with_word}
use Rattle.heap_laws.proofs.Cells.Kept.{of_chain, finds_nothing, nothing_to_link}
use Rattle.heap_laws.proofs.Cells.Published.{publishing_carries_chain}
use Rattle.heap_laws.proofs.Targets.Published.{publishing_carries_targets}
use Rattle.heap_laws.proofs.Copying.UnreadWords.{UnreadWord, opened_unread, landing_unread, older_unread, new_unread, space_unread, raw_unread, counts_unread, stocks_unread, origin_unread, scans_unread}
use Rattle.heap_laws.proofs.Copying.WordsOfCopies.{knows_unread}
use Rattle.heap_laws.proofs.Steps.RowPlaces.{below_board}

-- a whole copy, and the forward to it
pub record Publishing (E : Era) (m : Memory) (team : Team) (g : Ghost) (k : ℕ) (c : Copy) (q : Quest) (v : ℕ) (l : Option Linking) : Type 0 where
  pub ready : Ready E m team g k
  pub has : (team.worker k).copy ≡ Some c
  pub asks : (team.worker k).quest ≡ Some q
  pub res : c.reserved ≡ true
  pub full : c.done ≡ c.size
  pub crossed : c.to + c.size ≤ 64 * c.crossed
  pub word : decode v ≡ ForwardWord (c.size - 1) c.to
  pub cell : LinksCopy c l

module _ {E : Era} {m : Memory} {team : Team} {g : Ghost} {k : ℕ} {c : Copy} {q : Quest} {v : ℕ} {l : Option Linking} (publishing : Publishing E m team g k c q v l) where
  open publishing use {ready, has, asks, res, full, crossed, word, cell}

  abbrev inv : Invariant E m team g
  inv = ready.invariant

  abbrev pub heap' : ℕ → ℕ
  heap' = put m.heap (c.from + 0) v

  abbrev pub found : Quest
  found = record q { found = Some c.to }

  abbrev pub w' : Known
  w' = has_published (team.worker k) c q l

  abbrev pub g' : Ghost
  g' = published g k c.from c.to

  pub me : Knows E m.gate m.traced m.front m.low m.old_front m.old_low m.old_owed g m.page m.cross m.announced m.heap k (team.worker k)
  me = inv.workers k ready.member

  pub mine : Copies E m.front g.size g.writer g.copy g.keeper g.kept m.announced m.cross m.heap k c
  mine = me.copy c has

  pub placed : (c.announced ≡ true) × (g.copy c.from ≡ c.to + 1) × (g.writer c.to ≡ k + 1) × (g.size c.to ≡ c.size) × (E.start ≤ c.to) × (c.to + c.size ≤ m.front)
  placed = mine.place res

  pub from_written : g.writer c.from ≡ 0
  from_written = inv.older.written c.from (omega (arith, mine.old)) (omega (arith, mine.old)) (omega (arith, mine.old))

  pub unread_word : UnreadWord E m.front m.low g.size g.writer k c.from 0
  unread_word = record { laid_out = ready.laid_out; laid = inv.laid; inside = omega (arith, mine.old); hidden = inl refl; own = inl from_written }

  pub twin : (E.old_start ≤ c.from) × (c.from < E.old_start + E.old_span) × (E.start ≤ c.to) × (c.to < m.front) × (g.size c.to ≡ g.size c.from) × (g.identity c.to ≡ g.identity c.from) × (g.kind c.to ≡ g.kind c.from) × (g.writer c.to ≡ g.keeper c.from)
  twin = inv.copied.target c.from c.to (omega (arith, mine.old)) placed.1

  apart : c.from ≢ c.to
  apart e = let y : g.writer c.from ≡ g.writer c.to = ap g.writer e in omega (arith, from_written, placed.2)

  -- ---- the words of the copy

  pub copied_word : (i : ℕ) → 0 < i → i < c.size → heap' (c.to + i) ≡ m.heap (c.from + i)
  copied_word i p l = let n : c.to + i ≢ c.from + 0 = omega (arith, ready.laid_out.apart, placed.4, placed.5, mine.old, inv.laid.order, l) in rw (put_other m.heap (c.from + 0) v (c.to + i) n) (mine.same i p (omega (arith, full)))

  copied_head : decode (heap' c.to) ≡ HeaderWord (header_kind (g.kind c.to)) (g.size c.to - 1) (g.identity c.to).serial (g.identity c.to).mutator
  copied_head = rw (put_other m.heap (c.from + 0) v c.to (λ e. apart (omega arith)), twin.5, twin.6, placed.3) ((me.keeps c has).head (omega (arith, full, mine.old)))

  heap_other : (b : ℕ) → b ≢ c.from → heap' b ≡ m.heap b
  heap_other b d = put_other m.heap (c.from + 0) v b (λ e. d (omega arith))

  -- ---- what the changes mean

  pub was_written : (b : ℕ) → g'.writer b ≡ 0 → b ≢ c.to → g.writer b ≡ 0
  was_written b w d = rw (put_other g.writer c.to 0 b d) at w

  pub written_on : (b : ℕ) → g.writer b ≡ 0 → g'.writer b ≡ 0
  written_on b w = each_put (λ y u. u ≡ 0) g.writer c.to 0 b (λ _. w) (λ _. refl)

  writes : (b j : ℕ) → g'.writer b ≡ j + 1 → (b ≢ c.to) × (g.writer b ≡ j + 1)
  writes b j w = let d : b ≢ c.to = (λ e. let p = put_at g.writer c.to 0 b e in omega arith) in (d, rw (put_other g.writer c.to 0 b d) at w)

  keeps_on : (b j : ℕ) → g'.keeper b ≡ j + 1 → (b ≢ c.from) × (g.keeper b ≡ j + 1)
  keeps_on b j w = let d : b ≢ c.from = (λ e. let p = put_at g.keeper c.from 0 b e in omega arith) in (d, rw (put_other g.keeper c.from 0 b d) at w)

  -- a field after is one before, or one of the copy
  pub here_cases : (x : ℕ) → Here E g'.size g'.writer g'.kind x → Here E g.size g.writer g.kind x ⊎ ((i : ℕ) × (x ≡ c.to + i) × (0 < i) × (i < c.size) × (is_field (g.kind c.from) i ≡ true))
  unfolding Here
  here_cases x (inr b) = inl (inr b)
  here_cases x (inl u) = let y : IsField g'.size g'.writer g'.kind u.a u.i = u.field in ⊎_elim
      (λ (e : u.a ≡ c.to). let ly : g.size u.a ≡ g.size c.to = ap g.size e in
      let ky : g.kind u.a ≡ g.kind c.from = ap g.kind e ∙ twin.6 in
      inr (u.i, omega (arith, u.at, e), y.first, omega (arith, y.last, ly, placed.3), ap (λ z. is_field z u.i) (sym ky) ∙ y.field))
      (λ (d : u.a ≢ c.to). inl (inl (record { a = u.a; i = u.i; inside = u.inside; at = u.at; field = record { stands = y.stands; written = was_written u.a y.written d; field = y.field; first = y.first; last = y.last } })))
      (cases_eq u.a c.to)

  field_on : (b i : ℕ) → IsField g.size g.writer g.kind b i → IsField g'.size g'.writer g'.kind b i
  field_on b i y = record { stands = y.stands; written = written_on b y.written; field = y.field; first = y.first; last = y.last }

  here_on : (x : ℕ) → Here E g.size g.writer g.kind x → Here E g'.size g'.writer g'.kind x
  unfolding Here
  here_on x (inr b) = inr b
  here_on x (inl u) = inl (record { a = u.a; i = u.i; inside = u.inside; at = u.at; field = field_on u.a u.i u.field })

  lands_on : (w : ℕ) → Lands g.size g.writer w → Lands g'.size g'.writer w
  unfolding Lands
  lands_on w p b e = ((p b e).0, written_on b (p b e).1)

  pub old_field : (i : ℕ) → 0 < i → i < c.size → is_field (g.kind c.from) i ≡ true → IsField g.size g.writer g.kind c.from i
  old_field i p l r = record { stands = omega (arith, mine.old); written = from_written; field = r; first = p; last = omega (arith, mine.old, l) }

  -- the fields of the old record lead to records of the old space
  pub old_target : (i b : ℕ) → 0 < i → i < c.size → is_field (g.kind c.from) i ≡ true → decode (m.heap (c.from + i)) ≡ PointerWord b → (0 < g.size b) × (E.old_start ≤ b) × (b < E.old_start + E.old_span)
  old_target i b p l r e = inv.older.older c.from i b (old_field i p l r) twin.0 twin.1 e

  old_lands : (i : ℕ) → 0 < i → i < c.size → is_field (g.kind c.from) i ≡ true → Lands g'.size g'.writer (m.heap (c.from + i))
  unfolding Lands
  old_lands i p l r b e = let y = old_target i b p l r e in (y.0, written_on b (inv.older.written b y.0 y.1 y.2))

  -- ---- the parts

  headed : Headed g'.size g'.writer g'.copy g'.keeper g'.kind g'.identity heap'
  headed = record {
    own = λ b st w y z. ⊎_elim
        (λ (e : b ≡ c.to). rw e (copied_head))
        (λ (d : b ≢ c.to). let n : b ≢ c.from = (λ e. let p : g.copy b ≡ g.copy c.from = ap g.copy e in omega (arith, placed.1)) in rw (heap_other b n) (inv.headed.own b st (was_written b w d) y (rw (put_other g.keeper c.from 0 b n) at z)))
        (cases_eq b c.to);
    kept = λ b j st y. let p = keeps_on b j y in rw (heap_other b p.0) (inv.headed.kept b j st p.1);
    gone = λ b x st y z. ⊎_elim
        (λ (e : b ≡ c.from). gone b x e y)
        (λ (n : b ≢ c.from). rw (heap_other b n) (inv.headed.gone b x st y (rw (put_other g.keeper c.from 0 b n) at z)))
        (cases_eq b c.from);
  }
    where
      gone : (b x : ℕ) → b ≡ c.from → g.copy b ≡ x + 1 → decode (heap' b) ≡ ForwardWord (g.size b - 1) x
      gone b x e y = let p : g.copy b ≡ g.copy c.from = ap g.copy e in let z : x ≡ c.to = omega (arith, placed.1) in rw (put_at m.heap (c.from + 0) v b (omega arith), z, e, mine.old.1) word

  copied : Copied E m.front g'.size g'.writer g'.copy g'.keeper g'.kind g'.identity g'.kept
  copied = record {
    target = λ b x st y. let t = inv.copied.target b x st y in (t.0, t.1, t.2, t.3, t.4, t.5, t.6, both b x st y t.7);
    blank = λ b y. let p = inv.copied.blank b y in (p.0, let d : b ≢ c.from = (λ e. let z : g.size b ≡ g.size c.from = ap g.size e in omega (arith, mine.old)) in rw (put_other g.keeper c.from 0 b d) (p.1));
    origin = λ b st w. let d : b ≢ c.to = (λ e. let p = put_at g.writer c.to 0 b e in omega arith) in inv.copied.origin b st (rw (put_other g.writer c.to 0 b d) at w);
    keeper_of = λ b j st y. let p = keeps_on b j y in let r = inv.copied.keeper_of b j st p.1 in let n : j ≢ k = (λ e. let z : g.kept j ≡ g.kept k = ap g.kept e in p.0 (omega (arith, r.0, mine.old.3))) in (rw (put_other g.kept k 0 j n) (r.0), r.1, r.2);
  }
    where
      both : (b x : ℕ) → 0 < g.size b → g.copy b ≡ x + 1 → g.writer x ≡ g.keeper b → g'.writer x ≡ g'.keeper b
      both b x st y t = ⊎_elim
          (λ (e : b ≡ c.from). let p : g.copy b ≡ g.copy c.from = ap g.copy e in let z : x ≡ c.to = omega (arith, placed.1) in rw (put_at g.writer c.to 0 x z, put_at g.keeper c.from 0 b e) refl)
          (λ (d : b ≢ c.from). let n : x ≢ c.to = (λ e. let p : g.writer x ≡ g.writer c.to = ap g.writer e in let u : g.keeper b ≡ k + 1 = omega (arith, placed.2) in let r = inv.copied.keeper_of b k st u in d (omega (arith, r.0, mine.old.3))) in rw (put_other g.writer c.to 0 x n, put_other g.keeper c.from 0 b d) t)
          (cases_eq b c.from)

  kept : Keepers g'.size g'.keeper team.count
  kept = record { kept = λ b j st y. inv.kept.kept b j st (keeps_on b j y).1 }

  raw_words : RawWords g'.size g'.writer g'.kind heap'
  raw_words = let p = raw_unread unread_word m.heap v g.kind inv.raw_words in record {
    raw = λ b i st w f l n. ⊎_elim
        (λ (e : b ≡ c.to). rw e (of_copy i f (let z : i < g.size c.to = rw e at l in z) (let z : is_field (g.kind c.to) i ≡ false = rw e at n in z)))
        (λ (d : b ≢ c.to). p.raw b i st (was_written b w d) f l n)
        (cases_eq b c.to);
  }
    where
      of_copy : (i : ℕ) → 0 < i → i < g.size c.to → is_field (g.kind c.to) i ≡ false → heap' (c.to + i) < 2 ^ 62
      of_copy i f l n = rw (copied_word i f (omega (arith, l, placed.3)))
          (inv.raw_words.raw c.from i (omega (arith, mine.old)) from_written f (omega (arith, l, twin.4)) (ap (λ z. is_field z i) (sym twin.6) ∙ n))

  counts : Counts g'.size g'.writer g'.kind heap'
  counts = let p = counts_unread unread_word m.heap v g.kind inv.counts in record {
    counts = λ b count st w e. ⊎_elim
        (λ (q : b ≡ c.to). rw q (of_copy count (ap g.kind (sym q) ∙ e)))
        (λ (d : b ≢ c.to). p.counts b count st (was_written b w d) e)
        (cases_eq b c.to);
  }
    where
      of_copy : (count : ℕ) → g.kind c.to ≡ Mixed count → (heap' (c.to + 1) ≡ number_word count) × (count + 2 ≤ g.size c.to)
      of_copy count e =
          let n = inv.counts.counts c.from count (omega (arith, mine.old)) from_written (sym twin.6 ∙ e) in
          (copied_word 1 (omega arith) (omega (arith, n.1, twin.4, placed.3)) ∙ n.0, omega (arith, n.1, twin.4))

  opened : Opened E g'.size g'.writer g'.kind heap' m.page
  opened = let p = opened_unread unread_word m.heap v g.kind m.page inv.opened in record {
    opened = λ x u o. ⊎_elim (λ y. p.opened x y o)
        (λ y. absurd (inv.shut.held c.to x (omega (arith, placed.3, mine.old)) (omega (arith, placed.2)) (omega (arith, y.1)) (omega (arith, y.1, y.3, placed.3)) o))
        (here_cases x u);
  }

  landing : Landing E g'.size g'.writer g'.kind heap'
  landing = let p = landing_unread unread_word m.heap v g.kind inv.landing in record {
    lands = λ x u. ⊎_elim (λ y. lands_on (heap' x) (p.lands x y))
        (λ y. rw (y.1, copied_word y.0 y.2 y.3) (old_lands y.0 y.2 y.3 y.4))
        (here_cases x u);
  }

  older : Older E g'.size g'.writer g'.kind heap'
  older = let p = older_unread unread_word m.heap v g.kind inv.older in record {
    older = λ b i x f l n d. let y : b ≢ c.to = (λ e. omega (arith, ready.laid_out.apart, placed.4, placed.5, mine.old, l, n, e, inv.laid.order)) in p.older b i x (record { stands = f.stands; written = was_written b f.written y; field = f.field; first = f.first; last = f.last }) l n d;
    written = λ b st l n. written_on b (inv.older.written b st l n);
  }

  shut : Shut E m.front m.low g'.size g'.writer m.page
  shut = record {
    free = inv.shut.free;
    held = λ b x st w l n. let d : b ≢ c.to = (λ e. let p = put_at g.writer c.to 0 b e in omega arith) in inv.shut.held b x st (rw (put_other g.writer c.to 0 b d) at w) l n;
    by = λ b x j st w l n y. let d : b ≢ c.to = (λ e. let p = put_at g.writer c.to 0 b e in omega arith) in rw (put_other g.writer c.to 0 b d) (inv.shut.by b x j st (rw (put_other g.writer c.to 0 b d) at w) l n y);
  }

  crossing : Crossing E m.front g'.size g'.writer m.cross
  crossing = record {
    crossing = λ p a s f st l n w. ⊎_elim
        (λ (e : a ≡ c.to). let z : g.size a ≡ g.size c.to = ap g.size e in mine.crossings res p (omega (arith, e, l)) (omega (arith, n, e, z, placed.3)) (omega (arith, n, e, z, placed.3, crossed)) ∙ sym e)
        (λ (d : a ≢ c.to). inv.crossing.crossing p a s f st l n (was_written a w d))
        (cases_eq a c.to);
  }

  -- ---- what the workers know

  scans : (j : ℕ) (s : Scan) → Scans E m.front g.size g.writer g.kind heap' m.page j s → Scans E m.front g'.size g'.writer g'.kind heap' m.page j s
  scans j s p = record {
    claimed = p.claimed;
    place = p.place;
    cursor = p.cursor;
    passed = λ x u n l. ⊎_elim (λ y. p.passed x y n l)
        (λ y. absurd (let at_x : m.page (x / 64) ≡ Scanning E.epoch j = rw n (p.claimed) in
        let st : 0 < g.size c.to = omega (arith, placed.3, mine.old) in
        let b = inv.shut.by c.to x j st (omega (arith, placed.2)) (omega (arith, y.1)) (omega (arith, y.1, y.3, placed.3)) at_x in
        let ab = p.above c.to x st b (omega (arith, y.1)) (omega (arith, y.1, y.3, placed.3)) n in omega (arith, ab, l)))
        (here_cases x u);
    above = λ b x st w l n i. p.above b x st (writes b j w).1 l n i;
  }

  stepping : (s : Scan) → Stepping E m.front g.size g.writer g.kind s → Stepping E m.front g'.size g'.writer g'.kind s
  stepping s p = record {
    over = λ a e. let y = p.over a e in (y.0, written_on a y.1, y.2, y.3);
    headed = λ h e. let y = p.headed h e in
        record { stands = y.stands; written = written_on h.at y.written; mixed = y.mixed; whole = y.whole; inside = y.inside; cursor = y.cursor };
    current = λ r e. let y = p.current r e in
        record { stands = y.stands; written = written_on r.at y.written; fields = y.fields; whole = y.whole; inside = y.inside; entered = y.entered; cursor = y.cursor };
    inner = p.inner;
    begun = p.begun;
    full = p.full;
    ended = p.ended;
  }

  claims : (d : ℕ) (x : Claim) → Claims E m.front m.gate.behind g.size g.writer m.page d x → Claims E m.front m.gate.behind g'.size g'.writer m.page d x
  claims d x p = record { earlier = p.earlier; full = p.full; last = p.last; late = p.late; in_place = p.in_place; clear = λ e i b j st w l. p.clear e i b j st (writes b j w).1 l }

  accesses : (f : Access) → Accesses E g.size g.writer g.kind f → Accesses E g'.size g'.writer g'.kind f
  accesses f p = record { stands = p.stands; written = written_on f.at p.written; inside = p.inside; first = p.first; word = p.word; role = p.role }

  registers : (late : Bool) (done : ℕ) (r : ℕ → ℕ) → Clean E g.size g.writer late done r → Clean E g'.size g'.writer late done r
  registers late done r p = record { clean = p.clean; lands = λ j l. lands_on (r j) (p.lands j l); old = p.old }

  origin : (late : Bool) (done : ℕ) (r : ℕ → ℕ) (scan : Option Scan) (old : ℕ) (o : Origin) → IsOrigin E g.size g.writer g.kind heap' late done r scan old o → IsOrigin E g'.size g'.writer g'.kind heap' late done r scan old o
  origin late done r scan old (Register x) p = p
  origin late done r scan old (Scanned x) p = (p.0, here_on x p.1, p.2)

  seeks : (x : Quest) → Seeks E g.size g.writer g.copy x → Seeks E g'.size g'.writer g'.copy x
  seeks x p = record { old = p.old; found = λ b e. let y = p.found b e in (y.0, written_on b y.1) }

  -- what a worker knows, but for its quest and its copy, whatever it has to link
  stays : (j : ℕ) → j < team.count → (q : Option Quest) (o : Option Copy) (n : Option Linking)
      → ((x : Quest) → q ≡ Some x → IsOrigin E g'.size g'.writer g'.kind heap' (is_late E.epoch (team.worker j)) (team.worker j).done (team.worker j).registers (team.worker j).scan x.old x.origin)
      → ((x : Quest) → q ≡ Some x → Seeks E g'.size g'.writer g'.copy x) → Licensed m.gate.behind g'.kept j (is_late E.epoch (team.worker j)) o q (team.worker j).scan
      → ((x : Copy) → o ≡ Some x → Copies E m.front g'.size g'.writer g'.copy g'.keeper g'.kept m.announced m.cross heap' j x) → ((x : Copy) → o ≡ Some x → Keeps g'.kind g'.identity heap' x)
      → Knows E m.gate m.traced m.front m.low m.old_front m.old_low m.old_owed g' m.page m.cross m.announced heap' j (record (team.worker j) { quest = q; copy = o; linking = n })
  stays j l q o n from quest licence copies keeps =
      let u = inv.workers j l in
      let o1 = λ (i : is_mutator (team.worker j).post ≡ true) (e : (team.worker j).account.end ≡ None). registers (is_late E.epoch (team.worker j)) (team.worker j).done (team.worker j).registers (u.registers i e) in
      let o2 = λ (f : Access) (e : (team.worker j).access ≡ Some f). accesses f (u.access f e) in
      let o3 = λ (s : Scan) (e : (team.worker j).scan ≡ Some s). scans j s (scans_unread unread_word m.heap v g.kind m.page j s (u.scan s e)) in
      let o4 = λ (s : Scan) (e : (team.worker j).scan ≡ Some s). stepping s (u.stepping s e) in
      let o5 = λ (x : Claim) (e : (team.worker j).claim ≡ Some x). claims (team.worker j).epoch x (u.pages.claim x e) in
      assumption

  others : (j : ℕ) → j < team.count → j ≢ k → Knows E m.gate m.traced m.front m.low m.old_front m.old_low m.old_owed g' m.page m.cross m.announced heap' j (team.worker j)
  others j l d =
      let u = knows_unread E m.gate m.traced m.front m.low m.old_front m.old_low m.old_owed g m.page m.cross m.announced m.heap k c.from 0 v unread_word j (team.worker j) d inv.older (inv.workers j l) in
      stays j l (team.worker j).quest (team.worker j).copy (team.worker j).linking
      (λ x e. origin (is_late E.epoch (team.worker j)) (team.worker j).done (team.worker j).registers (team.worker j).scan x.old x.origin (u.origin x e))
      (λ x e. seeks x (u.quest x e))
      (record { licensed = u.licensed.licensed; asked = u.licensed.asked; counted = u.licensed.counted; idle = λ e. rw (put_other g.kept k 0 j d) (u.licensed.idle e) })
      (λ x e. copies x (u.copy x e))
      u.keeps
    where
      copies : (x : Copy) → Copies E m.front g.size g.writer g.copy g.keeper g.kept m.announced m.cross heap' j x → Copies E m.front g'.size g'.writer g'.copy g'.keeper g'.kept m.announced m.cross heap' j x
      copies x p =
          let f : x.from ≢ c.from = (λ e. let y : g.keeper x.from ≡ g.keeper c.from = ap g.keeper e in d (omega (arith, p.old.2, mine.old.2))) in
          record {
            old = rw (put_other g.keeper c.from 0 x.from f, put_other g.kept k 0 j d) (p.old);
            loose = p.loose;
            aimed = p.aimed;
            named = p.named;
            same = p.same;
            bound = p.bound;
            loaded = p.loaded;
            crossings = p.crossings;
            place = λ e. let y = p.place e in let n : x.to ≢ c.to = (λ e. let z : g.writer x.to ≡ g.writer c.to = ap g.writer e in d (omega (arith, y.2, placed.2))) in rw (put_other g.writer c.to 0 x.to n) y;
          }

  own : Knows E m.gate m.traced m.front m.low m.old_front m.old_low m.old_owed g' m.page m.cross m.announced heap' k w'
  own = stays k ready.member w'.quest w'.copy l
      (λ x e. rw (← some_same e) (origin _ (team.worker k).done (team.worker k).registers (team.worker k).scan q.old q.origin (origin_unread unread_word m.heap v g.kind _ (team.worker k).done (team.worker k).registers (team.worker k).scan q.old q.origin (me.origin q asks))))
      (λ x e. rw (← some_same e) (record { old = (me.quest q asks).old; found = λ b i. let z : c.to ≡ b = some_same i in rw (← z) at_copy }))
      (record { licensed = λ x e. none≢some e; asked = λ x e. none≢some e; counted = me.licensed.counted; idle = λ e. put_same g.kept k 0 })
      (λ x e. none≢some e)
      (λ x e. none≢some e)
    where
      from : q.old ≡ c.from
      from = let a = me.licensed.asked c has in let e : a.0 ≡ q = some_same (sym a.1 ∙ asks) in ap (λ (y : Quest). y.old) (sym e) ∙ a.2

      at_copy : (g.copy q.old ≡ c.to + 1) × (g'.writer c.to ≡ 0)
      at_copy = (ap g.copy from ∙ placed.1, put_same g.writer c.to 0)

  -- who copies has found nothing yet, so it has nothing to link
  free : (team.worker k).linking ≡ None
  free = let a = me.licensed.asked c has in nothing_to_link inv.cells ready.member (finds_nothing (team.worker k) a.0 a.1 a.3)

  cells : Cells E (with_word m c.from v) (with_worker team k w') g'
  cells =
      let before = inv.cells in
      let below = below_board ready c.from (let o = mine.old in omega (arith, o)) in
      of_chain {m = m} (record { weak = refl; weak_turn = refl })
      (publishing_carries_chain E m (with_word m c.from v) m.weak m.weak_turn team g before.ranks k c v w' ready has res free (InWord c.from v (let o = mine.old in omega (arith, below, o))) cell (found, refl, refl)
      (record { post = refl; ground = (refl, refl); scan = refl; asked = λ _. (found, refl, refl); reset = refl; pass = refl }) before.chain)
      (publishing_carries_targets E m (with_word m c.from v) m.weak m.weak_turn team g before.ranks k c v ready has res full (InWord c.from v (let o = mine.old in omega (arith, below, o))) before.chain before.targets)

  pub invariant : Invariant E (with_word m (c.from + 0) v) (with_worker team k w') g'
  invariant = record {
    counted = counted_put team.worker k w' refl refl inv.counted;
    staffed = staffed_put team.worker k w' refl inv.staffed;
    laid = inv.laid;
    headed = headed;
    copied = copied;
    once = inv.once;
    kept = kept;
    room = inv.room;
    raw_words = raw_words;
    counts = counts;
    shut = shut;
    filling = inv.filling;
    tracing = inv.tracing;
    aged = inv.aged;
    scanned = scanned_put team.worker k w' refl inv.scanned;
    opened = opened;
    landing = landing;
    older = older;
    new = new_unread unread_word m.heap v m.low (E.start + E.span) E.epoch m.page inv.new;
    new_written = record { written = λ b st l n. written_on b (inv.new_written.written b st l n) };
    old_space = record { walks = λ t d e. space_unread unread_word m.heap v E.old_start m.old_front m.old_low (E.old_start + E.old_span) d m.page (inv.old_space.walks t d e) };
    old_area = inv.old_area;
    old_pages = inv.old_pages;
    sizes = inv.sizes;
    crossing = crossing;
    stocks = stocks_put team.worker k w' (λ _ e. e) (stocks_unread unread_word m.heap v team.count m.page team.worker inv.stocks);
    numbered = numbered_put team.worker k w' refl inv.numbered;
    cells = rw (add-zero c.from) cells;
    workers = team_put team.count (Knows E m.gate m.traced m.front m.low m.old_front m.old_low m.old_owed g' m.page m.cross m.announced heap') team.worker k w' others own;
  }
