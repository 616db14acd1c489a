-- Steps one after another, and what a worker forgets.
use Rattle.std.proofs.Common.{◌≡◌, ℕ, ◌<◌, true, Option, Some, None, is_some, refl, sym, ap, ◌∙◌, inl, inr, ⊎_elim}
use Rattle.plain_state.specs.State.{Plain}
use Rattle.plain_state.specs.declared.kind.Kind.{Kind}
use Rattle.space_map.specs.declared.page_word.PageWord.{PageWord}
use Rattle.heap_state.specs.Invariant.Parts.Cells.{Cells}
use Rattle.heap_state.specs.Cycles.Cycle.{Cycle}
use Rattle.heap_state.specs.Memory.Entries.{Entry}
use Rattle.heap_state.specs.Memory.Era.{Era, Memory}
use Rattle.heap_state.specs.Functions.{put}
use Rattle.heap_state.specs.Invariant.Ghost.{Ghost}
use Rattle.heap_state.specs.Invariant.Inductive.{Invariant, Knows, KnowsAtPages}
use Rattle.heap_state.specs.Invariant.Parts.Copying.{IsOrigin, Licensed}
use Rattle.heap_state.specs.Invariant.Parts.Scanning.{Scans, Stepping, Rounds}
use Rattle.heap_state.specs.Meaning.Values.{Shown}
use Rattle.heap_state.specs.Known.{Known, Team, Account, Quest, Scan, Round, Origin, Register, Scanned, is_mutator, is_flipper, is_late, is_asking}
use Rattle.heap_state.proofs.Workers.Frames.{counted_put, staffed_put, stocks_put, numbered_put, rooted_put}
use Rattle.heap_state.proofs.Puts.{put_same, put_twice, each_put, some_same}
use Rattle.heap_laws.specs.Cells.Frames.{GoesOnInChain}
use Rattle.heap_laws.specs.Composing.{IsAtMost, IsLess, IsLessScan, IsLessRound, LessAtPages, IsScanWithin, SameScan, LessScan, StepsForget, StepsAreReady, StepsFollow, PlainStepsForget, PlainStepsAreReady, PlainStepsFollow, StepsWriteBeside, PlainStepsWriteBeside}
use Rattle.heap_laws.specs.Steps.{WritesRow, NoRow, InGate, with_worker, Preserves, Steps, Beside, Makes}
use Rattle.heap_laws.proofs.Cells.Kept.{same_keeps, still_in_chain, less_in_chain}
use Rattle.heap_laws.proofs.Steps.Learning.{shown_put, scanned_on}
use Rattle.heap_laws.proofs.Targets.Frames.{made_put}

-- ---- forgetting

-- who scans as much scans that page to that place, and has ended where that has ended
record ScansWithin (o p : Option Scan) : Type 0 where
  has : (u : Scan) → p ≡ Some u → (s : Scan) × (o ≡ Some s) × IsLessScan s u
  had : (s : Scan) → o ≡ Some s → (u : Scan) × (p ≡ Some u) × IsLessScan s u

all_of : (s u : Scan) → s ≡ u → IsLessScan s u
all_of s u e = record {
  page = ap (λ (z : Scan). z.page) e;
  cursor = ap (λ (z : Scan). z.cursor) e;
  in_place = ap (λ (z : Scan). z.in_place) e;
  over = λ x y. ap (λ (z : Scan). z.over) (sym e) ∙ y;
  headed = λ x y. ap (λ (z : Scan). z.headed) (sym e) ∙ y;
  current = λ x y. ap (λ (z : Scan). z.current) (sym e) ∙ y;
  inner = λ y. ap (λ (z : Scan). z.inner) (sym e) ∙ y;
  ended = ap (λ (z : Scan). z.ended) e;
}

within : {o p : Option Scan} → IsScanWithin o p → ScansWithin o p
within {o} {p} (SameScan e) = record { has = λ u f. (u, e ∙ f, all_of u u refl); had = λ s f. (s, sym e ∙ f, all_of s s refl) }
within {o} {p} (LessScan s u e f less) = record {
  has = λ z y. (s, e, rw (← some_same (sym f ∙ y)) less);
  had = λ z y. (u, f, rw (← some_same (sym e ∙ y)) less);
}

-- what is known of a scan is so of one that knows less
less_scans : {E : Era} {front : ℕ} {size writer : ℕ → ℕ} {kind : ℕ → Kind} {heap : ℕ → ℕ} {page : ℕ → PageWord} {k : ℕ} {s u : Scan} → IsLessScan s u
    → Scans E front size writer kind heap page k u → Scans E front size writer kind heap page k s
less_scans {s = s} {u = u} less p = record {
  claimed = rw less.page p.claimed;
  place = rw less.page p.place;
  passed = λ x h y l. p.passed x h (y ∙ less.page) (rw less.cursor at l);
  cursor = rw (less.page, less.cursor) p.cursor;
  above = λ b x st w l n y. rw less.cursor (p.above b x st w l n (y ∙ less.page));
}

less_steps : {E : Era} {front : ℕ} {size writer : ℕ → ℕ} {kind : ℕ → Kind} {s u : Scan} → IsLessScan s u → Stepping E front size writer kind u → Stepping E front size writer kind s
less_steps {s = s} {u = u} less p = record {
  over = λ a e. rw less.page (p.over a (less.over a e));
  headed = λ h e. rw less.cursor (p.headed h (less.headed h e));
  current = λ r e. rw less.cursor (p.current r (less.current r e));
  inner = λ e. rw less.cursor (p.inner (less.inner e));
  begun = rw (less.page, less.cursor) p.begun;
  full = λ e. rw less.page (p.full (sym less.in_place ∙ e));
  ended = λ e. rw (less.page, less.cursor) (p.ended (sym less.ended ∙ e));
}

less_rounds : {E : Era} {traced front d : ℕ} {r u : Round} → r.traced ≡ u.traced → IsLess r.front u.front → Rounds E traced front d u → Rounds E traced front d r
less_rounds same less p = record { traced_then = rw same p.traced_then; front_then = λ f e n. p.front_then f (less f e) n }

-- what is known of pages is so of a worker of the same epoch that has forgotten some of it
less_at_pages : {E : Era} {traced front behind : ℕ} {size writer : ℕ → ℕ} {page : ℕ → PageWord} {w v : Known} → w.epoch ≡ v.epoch → ((r : Round) → w.round ≡ Some r → IsLessRound r v.round) → LessAtPages w v
    → KnowsAtPages E traced front behind size writer page v → KnowsAtPages E traced front behind size writer page w
less_at_pages same rounds less p = record {
  round = λ r e. let z = rounds r e in rw same (less_rounds z.traced z.front (p.round z.more z.is));
  claim = λ c e. rw same (p.claim c (less.claim c e));
  look = λ l e. rw same (p.look l (less.look l e));
  last_look = λ l e. rw same (p.last_look l (less.last_look l e));
}

-- a worker that knows at most what another knows is right
module _ (E : Era) (n : Memory) (h : Ghost) (k : ℕ) (w v : Known) (most : IsAtMost w v)
    (me : Knows E n.gate n.traced n.front n.low n.old_front n.old_low n.old_owed h n.page n.cross n.announced n.heap k v) where
  late : is_late E.epoch w ≡ is_late E.epoch v
  late = rw (most.others.post, most.others.epoch) refl

  origin : (q : Quest) → w.quest ≡ Some q → IsOrigin E h.size h.writer h.kind n.heap (is_late E.epoch w) w.done w.registers w.scan q.old q.origin
  origin q e = rw (late, most.others.done, most.others.registers) (from q.origin (me.origin q (sym most.others.quest ∙ e)))
    where
      from : (o : Origin) → IsOrigin E h.size h.writer h.kind n.heap (is_late E.epoch v) v.done v.registers v.scan q.old o → IsOrigin E h.size h.writer h.kind n.heap (is_late E.epoch v) v.done v.registers w.scan q.old o
      from (Register r) p = p
      from (Scanned x) p = let z = (within most.scan).has p.0.0 p.0.1 in ((z.0, z.1, z.2.cursor ∙ p.0.2, p.0.3 ∙ sym z.2.page, z.2.ended ∙ p.0.4), p.1, p.2)

  licensed : Licensed n.gate.behind h.kept k (is_late E.epoch w) w.copy w.quest w.scan
  licensed = rw (late, most.others.copy, most.others.quest) (record {
    licensed = λ c e. ⊎_elim
        (λ (y : (s : Scan) × (v.scan ≡ Some s)). let z = (within most.scan).has y.0 y.1 in inl (z.0, z.1))
        (λ (y : is_late E.epoch v ≡ true). inr y)
        (me.licensed.licensed c e);
    asked = me.licensed.asked;
    counted = me.licensed.counted;
    idle = me.licensed.idle;
  })

  pub knows_less : Knows E n.gate n.traced n.front n.low n.old_front n.old_low n.old_owed h n.page n.cross n.announced n.heap k w
  knows_less = record {
    timely = rw (most.others.post, most.others.epoch, most.others.done) me.timely;
    ends = rw (most.others.post, most.others.account) me.ends;
    outside = λ e. rw most.others.registers (me.outside (sym most.others.post ∙ e));
    stock = λ q e. rw most.others.epoch (me.stock q (most.hand.stock q e));
    registers = λ u e. rw (late, most.others.done, most.others.registers) (me.registers (ap is_mutator (sym most.others.post) ∙ u) (ap (λ (a : Account). a.end) (sym most.others.account) ∙ e));
    active = λ f e. rw most.others.post (me.active f (most.hand.access f e));
    access = λ f e. me.access f (most.hand.access f e);
    opened = λ p e. rw most.others.post (me.opened p (most.hand.opened p e));
    origin = origin;
    quest = λ q e. me.quest q (sym most.others.quest ∙ e);
    licensed = licensed;
    copy = λ c e. me.copy c (sym most.others.copy ∙ e);
    keeps = λ c e. me.keeps c (sym most.others.copy ∙ e);
    present = λ s e. let z = (within most.scan).had s e in most.others.epoch ∙ me.present z.0 z.1;
    scan = λ s e. let z = (within most.scan).had s e in less_scans z.2 (me.scan z.0 z.1);
    stepping = λ s e. let z = (within most.scan).had s e in less_steps z.2 (me.stepping z.0 z.1);
    pages = less_at_pages most.others.epoch most.round most.pages me.pages;
    seen_traced = λ e. rw most.others.post (me.seen_traced (most.gate.traced_seen e));
    size_seen = λ p e. rw most.others.post (me.size_seen p (most.gate.size_seen p e));
    asks = λ e. most.gate.asks (inl e) ∙ me.asks (ap is_asking (sym most.others.post) ∙ e);
    passage = λ s e. rw (most.others.post, most.others.epoch, most.others.done, most.others.account, most.gate.asks (inr (ap is_some e))) (me.passage s (most.gate.gate_step s e));
    resets = λ r e. ap is_flipper most.others.post ∙ me.resets r (most.gate.reset r e);
    reset = λ r e. me.reset r (most.gate.reset r e);
    unsized = λ e loose. me.unsized (ap is_asking (sym most.others.post) ∙ e) (sym most.gate.sized ∙ loose);
  }

-- the team in which it is the other
module _ (E : Era) (n : Memory) (team : Team) (h : Ghost) (k : ℕ) (w v : Known) (most : IsAtMost w v) where
  abbrev before : Team
  before = with_worker team k v

  abbrev KnowsThen : ℕ → Known → Type 0
  KnowsThen = Knows E n.gate n.traced n.front n.low n.old_front n.old_low n.old_owed h n.page n.cross n.announced n.heap

  there : before.worker k ≡ v
  there = put_same team.worker k v

  twice : put (put team.worker k v) k w ≡ put team.worker k w
  twice = put_twice team.worker k v w

  forgets_invariant : Invariant E n before h → Invariant E n (with_worker team k w) h
  forgets_invariant inv = rw twice at kept
    where
      same : {X : Type 0} (f : Known → X) → f w ≡ f v → f w ≡ f (before.worker k)
      same f e = e ∙ ap f (sym there)

      on : (u : Scan) → (before.worker k).scan ≡ Some u → (s : Scan) × (w.scan ≡ Some s) × (s.page ≡ u.page)
      on u e = let z = (within most.scan).has u (ap (λ (x : Known). x.scan) (sym there) ∙ e) in (z.0, z.1, z.2.page)

      kept : Invariant E n (with_worker before k w) h
      kept =
          let p1 = counted_put before.worker k w (same (λ u. u.post) most.others.post) (same (λ u. u.epoch) most.others.epoch) inv.counted in
          let p2 = staffed_put before.worker k w (same (λ u. is_mutator u.post) (ap is_mutator most.others.post)) inv.staffed in
          let p3 = scanned_on before.worker k w on inv.scanned in
          let p4 = stocks_put before.worker k w (λ q e. ap (λ (u : Known). u.stock) there ∙ most.hand.stock q e) inv.stocks in
          let p5 = numbered_put before.worker k w (same (λ u. u.account.serial) (ap (λ (a : Account). a.serial) most.others.account)) inv.numbered in
          let p6 : Cells E n (with_worker before k w) h = same_keeps E n n before h h k w (assumption) (assumption) (assumption) goes inv.cells in
          let p7 : (j : ℕ) → j < before.count → KnowsThen j (put before.worker k w j) = λ j l. each_put KnowsThen before.worker k w j (λ d. inv.workers j l) (λ e. rw e (own (rw e at l))) in
          assumption
        where
          goes : GoesOnInChain E w (before.worker k)
          goes = rw there (still_in_chain E w v most.others.post most.others.epoch (λ u e. let z = (within most.scan).has u e in (z.0, z.1))
              (less_in_chain w v most.others.quest most.gate.reset most.chain))

          own : k < before.count → KnowsThen k w
          own l = knows_less E n h k w v most (rw there at (inv.workers k l))

  forgets_shown : (p : Plain) → Shown E n before h p → Shown E n (with_worker team k w) h p
  forgets_shown p s = rw twice at (shown_put E n n before h k w p
      (most.others.account ∙ ap (λ (u : Known). u.account) (sym there)) (most.others.registers ∙ ap (λ (u : Known). u.registers) (sym there))
      refl refl refl (λ e. e) s)

  forgets_cycle : (p : Plain) → Cycle E n before h p → Cycle E n (with_worker team k w) h p
  forgets_cycle p c = record {
    copying = c.copying;
    rooted = rw twice at (rooted_put before.worker k w
        (ap is_mutator most.others.post ∙ ap (λ (u : Known). is_mutator u.post) (sym there))
        (most.others.account ∙ ap (λ (u : Known). u.account) (sym there))
        (most.others.registers ∙ ap (λ (u : Known). u.registers) (sym there))
        (λ _ _ a b. let a' : is_late E.epoch v ≡ true = rw there at a in (rw (most.others.post, most.others.epoch) a', let b' = rw there at b in rw most.others.done b'))
        c.rooted);
    made = rw twice at (made_put before.worker k w (ap (λ (a : Account). a.serial) most.others.account ∙ ap (λ (u : Known). u.account.serial) (sym there)) c.made);
  }

pub steps_forget : StepsForget
steps_forget E m team g k e v w h s most = record {
  later = s.later;
  writes = s.writes;
  keeps = record {
    invariant = forgets_invariant E s.later team h k w v most s.keeps.invariant;
    shown = λ p y. forgets_shown E s.later team h k w v most p (s.keeps.shown p y);
    cycle = λ p y. forgets_cycle E s.later team h k w v most p (s.keeps.cycle p y);
    ages = s.keeps.ages;
  };
}

pub plain_steps_forget : PlainStepsForget
plain_steps_forget E m team g k e v w h q s most = record {
  later = s.later;
  writes = s.writes;
  makes = record {
    invariant = forgets_invariant E s.later team h k w v most s.makes.invariant;
    shown = forgets_shown E s.later team h k w v most q s.makes.shown;
    cycle = λ p y. forgets_cycle E s.later team h k w v most p (s.makes.cycle p y);
    ages = s.makes.ages;
  };
}

-- ---- one after another

-- a row other than the gate's leaves the gate, and the gate's is one of the same epoch
still_at_gate : {E : Era} {m : Memory} {e : Option Entry} {n : Memory} → WritesRow E m e n → m.gate.epoch ≡ E.epoch → n.gate.epoch ≡ E.epoch
still_at_gate NoRow y = y
still_at_gate (InGate gate fits same) y = same
still_at_gate _ y = y

pub steps_are_ready : StepsAreReady
steps_are_ready E m team g k e v h ready s = record { laid_out = ready.laid_out; at_gate = still_at_gate s.writes ready.at_gate; invariant = s.keeps.invariant; member = ready.member }

pub plain_steps_are_ready : PlainStepsAreReady
plain_steps_are_ready E m team g k e v h q ready s = record { laid_out = ready.laid_out; at_gate = still_at_gate s.writes ready.at_gate; invariant = s.makes.invariant; member = ready.member }

-- what a step keeps that writes no row
record KeepsOn (E : Era) (n : Memory) (team after : Team) (h i : Ghost) : Type 0 where
  keeps : Preserves E n n team after h i

keeps_on : {E : Era} {n : Memory} {team : Team} {h : Ghost} {k : ℕ} {e : Option Entry} {w : Known} {i : Ghost} → e ≡ None → (s : Steps E n team h k e w i) → KeepsOn E n team (with_worker team k w) h i
keeps_on {E} {n} {team} {h} {k} {e} {w} {i} none s = by_row e s.later s.writes none s.keeps
  where
    by_row : (e : Option Entry) (later : Memory) → WritesRow E n e later → e ≡ None → Preserves E n later team (with_worker team k w) h i → KeepsOn E n team (with_worker team k w) h i
    by_row _ _ NoRow none p = record { keeps = p }
    by_row _ _ _ none p = absurd (cc)

pub steps_follow : StepsFollow
steps_follow E m team g k e v w h i s t =
    let on : Preserves E s.later s.later (with_worker team k v) (with_worker (with_worker team k v) k w) h i = (keeps_on refl t).keeps in
    let once : Preserves E s.later s.later (with_worker team k v) (with_worker team k w) h i = rw (put_twice team.worker k v w) at on in
    record {
      later = s.later;
      writes = s.writes;
      keeps = record {
        invariant = once.invariant;
        shown = λ p y. once.shown p (s.keeps.shown p y);
        cycle = λ p y. once.cycle p (s.keeps.cycle p y);
        ages = s.keeps.ages;
      };
    }

pub plain_steps_follow : PlainStepsFollow
plain_steps_follow E m team g k e v w h i q s t =
    let on : Preserves E s.later s.later (with_worker team k v) (with_worker (with_worker team k v) k w) h i = (keeps_on refl t).keeps in
    let once : Preserves E s.later s.later (with_worker team k v) (with_worker team k w) h i = rw (put_twice team.worker k v w) at on in
    record {
      later = s.later;
      writes = s.writes;
      makes = record {
        invariant = once.invariant;
        shown = once.shown q s.makes.shown;
        cycle = λ p y. once.cycle p (s.makes.cycle p y);
        ages = s.makes.ages;
      };
    }

-- ---- rows of checkpoints

pub steps_write_beside : StepsWriteBeside
steps_write_beside E m team g k e w h beside s = record { later = m; writes = Beside e beside; keeps = (keeps_on refl s).keeps }

-- what a step of the plain machine makes that writes no row
record MakesOn (E : Era) (m : Memory) (team after : Team) (g h : Ghost) (q : Plain) : Type 0 where
  makes : Makes E m m team after g h q

makes_on : {E : Era} {m : Memory} {team after : Team} {g h : Ghost} {q : Plain} (e : Option Entry) (later : Memory) → WritesRow E m e later → e ≡ None
    → Makes E m later team after g h q → MakesOn E m team after g h q
makes_on _ _ NoRow none y = record { makes = y }
makes_on _ _ _ none y = absurd (cc)

pub plain_steps_write_beside : PlainStepsWriteBeside
plain_steps_write_beside E m team g k e w h q beside s =
    record { later = m; writes = Beside e beside; makes = (makes_on None s.later s.writes refl s.makes).makes }
