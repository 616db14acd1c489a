-- The header of an old record is taken by the worker that is to copy it.
use Rattle.std.proofs.Common.{◌≡◌, ◌≢◌, ℕ, ◌+◌, ◌-◌, ◌<◌, ◌≤◌, true, refl, sym, ap, ◌∙◌, arith, Some, None, ⊎_elim, ◌⊎◌, inl, inr, add-zero}
use Rattle.std.proofs.lemmas.Bool.{cases_eq}
use Rattle.heap_words.specs.Decoded.{HeaderWord, BusyWord, ForwardWord, decode}
use Rattle.heap_words.specs.declared.kind.Kind.{Kind as HeaderKind}
use Rattle.plain_state.specs.Reachable.{Reachable}
use Rattle.plain_state.specs.State as plain
use Rattle.heap_state.specs.Cycles.Cycle.{Copying}
use Rattle.heap_state.specs.Invariant.Parts.Cells.{Cells}
use Rattle.heap_state.specs.Memory.Era.{Era, Memory}
use Rattle.heap_state.specs.Functions.{put}
use Rattle.heap_state.specs.Invariant.Ghost.{Ghost, header_kind}
use Rattle.heap_state.specs.Invariant.Inductive.{Invariant, Knows}
use Rattle.heap_state.specs.Invariant.Parts.Copies.{Copied, Keepers}
use Rattle.heap_state.specs.Invariant.Parts.Copying.{IsOrigin, Copies, Licensed, Keeps}
use Rattle.heap_state.specs.Invariant.Parts.OldSpace.{OldSpace}
use Rattle.heap_state.specs.Invariant.Parts.Records.{Headed}
use Rattle.heap_state.specs.Known.{Known, Team, Quest, Copy, Scan, Origin, Register, Scanned, is_late}
use Rattle.heap_state.proofs.Workers.Frames.{counted_put, staffed_put, scanned_put, stocks_put, numbered_put, accounts_put, registers_put, rooted_put}
use Rattle.heap_state.proofs.Records.Holding.{First, OwnHeader, KeptBy, GoneTo, first}
use Rattle.heap_state.proofs.Puts.{put_at, put_other, put_same, team_put, some_same, none≢some}
use Rattle.heap_laws.specs.Copying.{copying, begun, taken}
use Rattle.heap_laws.specs.Steps.{Ready, InWord, with_worker, with_word, Preserves}
use Rattle.heap_laws.proofs.Cells.Kept.{word_keeps, words_no_targets, words_unread}
use Rattle.heap_laws.proofs.Copying.InProgress.{copies_in_chain}
use Rattle.heap_laws.proofs.Copying.Roots.{asked_reachable}
use Rattle.heap_laws.proofs.Copying.UnreadWords.{UnreadWord, opened_unread, landing_unread, older_unread, new_unread, space_unread, raw_unread, counts_unread, stocks_unread, origin_unread, scans_unread, objects_unread, board_unread}
use Rattle.heap_laws.proofs.Copying.WordsOfCopies.{knows_unread, copying_unread, rooted_unread}
use Rattle.heap_laws.proofs.Steps.RowPlaces.{below_board}
use Rattle.heap_laws.proofs.Targets.Frames.{made_put, shown_beside}
use Rattle.heap_laws.proofs.Targets.ShownCopies.{shown_taken}

-- a record whose own header stands in its place was not copied, and nobody keeps its header
record Untaken (g : Ghost) (a len : ℕ) : Type 0 where
  copy : g.copy a ≡ 0
  keeper : g.keeper a ≡ 0
  sized : g.size a ≡ len + 1

untaken : (E : Era) (m : Memory) (team : Team) (g : Ghost) (inv : Invariant E m team g) (a : ℕ) (kind : HeaderKind) (len serial mutator : ℕ) → 0 < g.size a → g.writer a ≡ 0
    → decode (m.heap a) ≡ HeaderWord kind len serial mutator → Untaken g a len
untaken E m team g inv a kind len serial mutator st w e = by_first (first E m team g inv a st w)
  where
    by_first : First E m team g inv a → Untaken g a len
    by_first (OwnHeader n y h) = record { copy = n; keeper = y; sized = let q : HeaderWord kind len serial mutator ≡ HeaderWord (header_kind (g.kind a)) (g.size a - 1) (g.identity a).serial (g.identity a).mutator = sym e ∙ h in let z : len ≡ g.size a - 1 = cc in omega (arith, z, st) }
    by_first (KeptBy k y h) = absurd (let q : HeaderWord kind len serial mutator ≡ BusyWord (g.size a - 1) k = sym e ∙ h in cc)
    by_first (GoneTo b y c h) = absurd (let q : HeaderWord kind len serial mutator ≡ ForwardWord (g.size a - 1) b = sym e ∙ h in cc)

module _ (E : Era) (m : Memory) (team : Team) (g : Ghost) (k : ℕ) (q : Quest) (kind : HeaderKind) (len serial mutator v : ℕ) (ready : Ready E m team g k)
    (idle : (team.worker k).copy ≡ None) (asks : (team.worker k).quest ≡ Some q) (seeks : q.found ≡ None)
    (header : decode (m.heap q.old) ≡ HeaderWord kind len serial mutator) (word : decode v ≡ BusyWord len k) where
  abbrev inv : Invariant E m team g
  inv = ready.invariant

  abbrev a : ℕ
  a = q.old

  abbrev c : Copy
  c = begun (m.heap a) a (len + 1)

  abbrev w' : Known
  w' = copying (team.worker k) c

  abbrev g' : Ghost
  g' = taken g k a

  abbrev heap' : ℕ → ℕ
  heap' = put m.heap (a + 0) v

  me : Knows E m.gate m.traced m.front m.low m.old_front m.old_low m.old_owed g m.page m.cross m.announced m.heap k (team.worker k)
  me = inv.workers k ready.member

  old : (0 < g.size a) × (E.old_start ≤ a) × (a < E.old_start + E.old_span)
  old = (me.quest q asks).old

  walked : g.writer a ≡ 0
  walked = inv.older.written a old.0 old.1 old.2

  found : Untaken g a len
  found = untaken E m team g inv a kind len serial mutator old.0 walked header

  ends : a + g.size a ≤ E.old_start + E.old_span
  ends = let y = inv.laid.lies a old.0 in omega (arith, y, ready.laid_out.apart, old, inv.laid.order)

  unread_word : UnreadWord E m.front m.low g.size g.writer k a 0
  unread_word = record { laid_out = ready.laid_out; laid = inv.laid; inside = old.0; hidden = inl refl; own = inl walked }

  unkept : g.kept k ≡ 0
  unkept = me.licensed.idle idle

  is : decode (m.heap a) ≡ HeaderWord (header_kind (g.kind a)) (g.size a - 1) (g.identity a).serial (g.identity a).mutator
  is = inv.headed.own a old.0 walked found.copy found.keeper

  headed : Headed g.size g.writer g.copy g'.keeper g.kind g.identity heap'
  headed = record {
    own = λ b st w y z. let d : b ≢ a = λ e. let p = put_at g.keeper a (k + 1) b e in omega arith in
        rw (put_other m.heap (a + 0) v b (λ e. d (omega arith))) (inv.headed.own b st w y (rw (put_other g.keeper a (k + 1) b d) at z));
    kept = λ b j st y. ⊎_elim
        (λ (e : b ≡ a). let p = put_at g.keeper a (k + 1) b e in let n : j ≡ k = omega arith in let s : len ≡ g.size a - 1 = omega (arith, found.sized) in
        rw (put_at m.heap (a + 0) v b (omega arith), n, e) (word ∙ ap (λ x. BusyWord x k) s))
        (λ (d : b ≢ a). rw (put_other m.heap (a + 0) v b (λ e. d (omega arith))) (inv.headed.kept b j st (rw (put_other g.keeper a (k + 1) b d) at y)))
        (cases_eq b a);
    gone = λ b x st y z. let d : b ≢ a = λ e. let p = put_at g.keeper a (k + 1) b e in omega arith in
        rw (put_other m.heap (a + 0) v b (λ e. d (omega arith))) (inv.headed.gone b x st y (rw (put_other g.keeper a (k + 1) b d) at z));
  }

  copied : Copied E m.front g.size g.writer g.copy g'.keeper g.kind g.identity g'.kept
  copied = record {
    target = λ b x st y. let d : b ≢ a = (λ e. let p : g.copy b ≡ g.copy a = ap g.copy e in omega (arith, found.copy)) in rw (put_other g.keeper a (k + 1) b d) (inv.copied.target b x st y);
    origin = inv.copied.origin;
    blank = λ b z. let d : b ≢ a = (λ e. let p : g.size b ≡ g.size a = ap g.size e in omega (arith, old.0)) in rw (put_other g.keeper a (k + 1) b d) (inv.copied.blank b z);
    keeper_of = λ b j st y. ⊎_elim
        (λ (e : b ≡ a). let p = put_at g.keeper a (k + 1) b e in let n : j ≡ k = omega arith in let z : put g.kept k (a + 1) j ≡ b + 1 = rw (put_at g.kept k (a + 1) j n) (omega arith) in (z, omega (arith, old, e), omega (arith, old, e)))
        (λ (d : b ≢ a). let p = inv.copied.keeper_of b j st (rw (put_other g.keeper a (k + 1) b d) at y) in let n : j ≢ k = λ e. let z : g.kept j ≡ g.kept k = ap g.kept e in omega (arith, p.0, unkept) in (rw (put_other g.kept k (a + 1) j n) (p.0), p.1, p.2))
        (cases_eq b a);
  }

  kept : Keepers g.size g'.keeper team.count
  kept = record {
    kept = λ b j st y. ⊎_elim
        (λ (e : b ≡ a). let p = put_at g.keeper a (k + 1) b e in omega (arith, ready.member))
        (λ (d : b ≢ a). inv.kept.kept b j st (rw (put_other g.keeper a (k + 1) b d) at y))
        (cases_eq b a);
  }

  -- ---- what the workers know

  others : (j : ℕ) → j < team.count → j ≢ k → Knows E m.gate m.traced m.front m.low m.old_front m.old_low m.old_owed g' m.page m.cross m.announced heap' j (team.worker j)
  others j l d =
      let u = knows_unread E m.gate m.traced m.front m.low m.old_front m.old_low m.old_owed g m.page m.cross m.announced m.heap k a 0 v unread_word j (team.worker j) d inv.older (inv.workers j l) in
      let n : put g.kept k (a + 1) j ≡ g.kept j = put_other g.kept k (a + 1) j d in
      let x = λ (c : Copy) (y : (team.worker j).copy ≡ Some c). copies c (u.copy c y) n in
      let z : Licensed m.gate.behind g'.kept j (is_late E.epoch (team.worker j)) (team.worker j).copy (team.worker j).quest (team.worker j).scan =
      record { licensed = u.licensed.licensed; asked = u.licensed.asked; counted = u.licensed.counted; idle = λ e. rw n (u.licensed.idle e) } in
      assumption
    where
      copies : (c : Copy) → Copies E m.front g.size g.writer g.copy g.keeper g.kept m.announced m.cross heap' j c → put g.kept k (a + 1) j ≡ g.kept j
          → Copies E m.front g.size g.writer g.copy g'.keeper g'.kept m.announced m.cross heap' j c
      copies c p n =
          let f : c.from ≢ a = λ e. let y : g.keeper c.from ≡ g.keeper a = ap g.keeper e in omega (arith, p.old.2, found.keeper) in
          let o : (0 < c.size) × (g.size c.from ≡ c.size) × (put g.keeper a (k + 1) c.from ≡ j + 1) × (put g.kept k (a + 1) j ≡ c.from + 1) × (E.old_start ≤ c.from) × (c.from + c.size ≤ E.old_start + E.old_span) =
          rw (n, put_other g.keeper a (k + 1) c.from f) (p.old) in
          assumption

  licence : ((s : Scan) × ((team.worker k).scan ≡ Some s)) ⊎ (is_late E.epoch (team.worker k) ≡ true)
  licence = by_origin q.origin (me.origin q asks)
    where
      by_origin : (o : Origin) → IsOrigin E g.size g.writer g.kind m.heap (is_late E.epoch (team.worker k)) (team.worker k).done (team.worker k).registers (team.worker k).scan q.old o
          → ((s : Scan) × ((team.worker k).scan ≡ Some s)) ⊎ (is_late E.epoch (team.worker k) ≡ true)
      by_origin (Register r) x = inr x.0
      by_origin (Scanned y) x = inl (x.0.0, x.0.1)

  own : Knows E m.gate m.traced m.front m.low m.old_front m.old_low m.old_owed g' m.page m.cross m.announced heap' k w'
  own =
      let u = me in
      let o1 = λ (q : Quest) (e : (team.worker k).quest ≡ Some q). origin_unread unread_word m.heap v g.kind _ (team.worker k).done (team.worker k).registers (team.worker k).scan q.old q.origin (me.origin q e) in
      let o2 : Licensed m.gate.behind g'.kept k (is_late E.epoch (team.worker k)) w'.copy (team.worker k).quest (team.worker k).scan = record {
        licensed = λ x n. licence;
        asked = λ x n. (q, asks, ap (λ (y : Copy). y.from) (some_same n), seeks);
        counted = me.licensed.counted;
        idle = λ e. absurd (none≢some (sym e));
      } in
      let o3 : (x : Copy) → w'.copy ≡ Some x → Copies E m.front g.size g.writer g.copy g'.keeper g'.kept m.announced m.cross heap' k x = λ x n. rw (← some_same n) (record {
        old = (omega arith, found.sized, put_same g.keeper a (k + 1), put_same g.kept k (a + 1), old.1, omega (arith, ends, found.sized));
        loose = λ _. (found.copy, refl);
        aimed = λ e. absurd (cc);
        named = λ e. absurd (cc);
        place = λ e. absurd (cc);
        same = λ i p l. absurd (omega arith);
        bound = omega arith;
        loaded = λ y e. none≢some e;
        crossings = λ e. absurd (cc);
      }) in
      let o4 : (x : Copy) → w'.copy ≡ Some x → Keeps g.kind g.identity heap' x = λ x n. rw (← some_same n) (record { head = λ l. absurd (omega arith); keeps = let s : len + 1 - 1 ≡ g.size a - 1 = omega (arith, found.sized) in rw s is }) in
      let o5 = λ (s : Scan) (e : (team.worker k).scan ≡ Some s). scans_unread unread_word m.heap v g.kind m.page k s (me.scan s e) in
      assumption

  cells : Cells E (with_word m (a + 0) v) (with_worker team k w') g'
  cells =
      let below = below_board ready a old.0 in
      word_keeps E m (with_word m (a + 0) v) team g g' k (a + 0) v w' (InWord (a + 0) v (omega (arith, below))) (rw (add-zero a) ((words_unread ready).first a old.0)) (rw (add-zero a) ((words_no_targets ready).first a old.0))
      (record { size = refl; writer = refl; kind = refl; copy = refl }) (copies_in_chain E (team.worker k) c) inv.cells

  invariant : Invariant E (with_word m (a + 0) v) (with_worker team k w') g'
  invariant =
      let p1 = counted_put team.worker k w' refl refl inv.counted in
      let p2 = staffed_put team.worker k w' refl inv.staffed in
      let p3 = headed in
      let p4 = copied in
      let p5 = kept in
      let p6 = raw_unread unread_word m.heap v g.kind inv.raw_words in
      let p16 = counts_unread unread_word m.heap v g.kind inv.counts in
      let p7 = scanned_put team.worker k w' refl inv.scanned in
      let p8 = opened_unread unread_word m.heap v g.kind m.page inv.opened in
      let p9 = landing_unread unread_word m.heap v g.kind inv.landing in
      let p10 = older_unread unread_word m.heap v g.kind inv.older in
      let p11 = new_unread unread_word m.heap v m.low (E.start + E.span) E.epoch m.page inv.new in
      let p12 : OldSpace E m.traced m.old_front m.old_low g.size heap' m.page = record { walks = λ t d e. space_unread unread_word m.heap v E.old_start m.old_front m.old_low (E.old_start + E.old_span) d m.page (inv.old_space.walks t d e) } in
      let p13 = stocks_put team.worker k w' (λ _ e. e) (stocks_unread unread_word m.heap v team.count m.page team.worker inv.stocks) in
      let p14 = numbered_put team.worker k w' refl inv.numbered in
      let p15 = team_put team.count (Knows E m.gate m.traced m.front m.low m.old_front m.old_low m.old_owed g' m.page m.cross m.announced heap') team.worker k w' others own in
      let p17 = cells in
      assumption

  cycle_taken : (p : plain.Plain) → Reachable p (g.identity a) → Copying E m.front g.size g.writer g.copy g.keeper g.kind g.identity heap' p
      → Copying E m.front g.size g.writer g.copy g'.keeper g.kind g.identity heap' p
  cycle_taken p re cy = record {
    old = λ b st l n y. ⊎_elim
        (λ (e : b ≡ a). cy.old b st l n (inl (rw e (found.copy))))
        (λ (d : b ≢ a). cy.old b st l n (rw (put_other g.keeper a (k + 1) b d) at y))
        (cases_eq b a);
    sound = cy.sound;
    reached = λ b st l n y. ⊎_elim
        (λ (e : b ≡ a). rw e re)
        (λ (d : b ≢ a). cy.reached b st l n (rw (put_other g.keeper a (k + 1) b d) at y))
        (cases_eq b a);
    sizes = cy.sizes;
    complete = cy.complete;
    only = cy.only;
  }

  preserves : Preserves E m (with_word m (a + 0) v) team (with_worker team k w') g g'
  preserves = record {
    invariant = invariant;
    ages = λ page. omega arith;
    shown = λ p s. record {
      objects = let o = objects_unread unread_word m.heap v g.copy g.keeper g.kind g.identity p.heap s.objects in record {
        shows = λ b st w y. ⊎_elim
            (λ (e : b ≡ a). o.shows b st w (inl (rw e (found.copy))))
            (λ (d : b ≢ a). o.shows b st w (rw (put_other g.keeper a (k + 1) b d) at y))
            (cases_eq b a);
      };
      targets = shown_taken E (with_word m (a + 0) v) g k a found.copy p.heap
          (shown_beside E m g (a + 0) v (rw (add-zero a) ((words_no_targets ready).first a old.0)) p.heap s.targets);
      board = board_unread unread_word m.heap v g.identity p.heap s.board;
      as_many = s.as_many;
      makers = s.makers;
      accounts = λ j q e. accounts_put team.worker k w' refl j q (s.accounts j q e);
      registers = λ j q e. registers_put team.worker k w' refl j q (s.registers j q e);
    };
    cycle = λ p cy. record {
      copying = cycle_taken p (asked_reachable E m team g k inv ready.member q p asks cy)
          (copying_unread E m.gate m.traced m.front m.low m.old_front m.old_low m.old_owed g m.page m.cross m.announced m.heap k a 0 v unread_word p inv.older cy.copying);
      rooted = rooted_put team.worker k w' refl refl refl (λ _ _ a b. (a, b))
          (rooted_unread E m.gate m.traced m.front m.low m.old_front m.old_low m.old_owed g m.page m.cross m.announced m.heap k a 0 v unread_word team.count team.worker p cy.rooted);
      made = made_put team.worker k w' refl cy.made;
    };
  }

  pub header_taken : Preserves E m (with_word m a v) team (with_worker team k w') g g'
  header_taken = rw (add-zero a) at preserves
