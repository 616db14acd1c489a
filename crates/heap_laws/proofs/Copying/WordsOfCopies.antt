-- A word of a record, or its header, is stored in its place in the copy.
use Rattle.std.proofs.Common.{◌≡◌, ◌≢◌, ℕ, ◌+◌, ◌-◌, ◌<◌, ◌≤◌, true, refl, sym, arith, Some, None, ⊎_elim, inl, inr}
use Rattle.std.proofs.lemmas.Bool.{cases_eq}
use Rattle.heap_words.specs.Decoded.{HeaderWord, decode}
use Rattle.plain_state.specs.State as plain
use Rattle.plain_state.specs.declared.value.Identity.{Identity}
use Rattle.plain_state.specs.declared.value.Value.TheVariants.{Reference}
use Rattle.space_map.specs.declared.gate_word.GateWord.{GateWord}
use Rattle.space_map.specs.declared.page_word.PageWord.{PageWord}
use Rattle.heap_state.specs.Cycles.Cycle.{Copying, Rooted, RootLeads, ByBoard, ByRegister}
use Rattle.heap_state.specs.Invariant.Parts.Cells.{Cells}
use Rattle.heap_state.specs.Memory.Era.{Era, Memory}
use Rattle.heap_state.specs.Functions.{put}
use Rattle.heap_state.specs.Invariant.Ghost.{Ghost, header_kind}
use Rattle.heap_state.specs.Invariant.Inductive.{Invariant, Knows}
use Rattle.heap_state.specs.Invariant.Parts.Copies.{Copied}
use Rattle.heap_state.specs.Invariant.Parts.Copying.{Copies, Keeps}
use Rattle.heap_state.specs.Invariant.Parts.Leading.{Older}
use Rattle.heap_state.specs.Invariant.Parts.OldSpace.{OldSpace}
use Rattle.heap_state.specs.Invariant.Parts.Records.{Headed}
use Rattle.heap_state.specs.Known.{Known, Team, Quest, Copy, Scan}
use Rattle.heap_state.proofs.Workers.Frames.{counted_put, staffed_put, scanned_put, stocks_put, numbered_put, accounts_put, registers_put, rooted_put}
use Rattle.heap_state.proofs.Puts.{put_at, put_other, team_put, none≢some}
use Rattle.heap_state.proofs.Records.Layouts.{values_behind_header}
use Rattle.plain_state.specs.Layout.{word_of_value}
use Rattle.heap_laws.specs.Copying.{copying, IsNextWord}
use Rattle.heap_laws.specs.Steps.{Ready, InWord, with_worker, with_word, Preserves}
use Rattle.heap_laws.specs.Targets.Frames.{IsNoTarget}
use Rattle.heap_laws.proofs.Cells.Kept.{word_keeps, words_no_targets, words_unread}
use Rattle.heap_laws.proofs.Copying.InProgress.{knows_copying, copies_in_chain}
use Rattle.heap_laws.proofs.Copying.UnreadWords.{UnreadWord, opened_unread, landing_unread, older_unread, new_unread, space_unread, raw_unread, counts_unread, stocks_unread, origin_unread, scans_unread, copies_unread, keeps_unread, shows_unread, objects_unread, board_unread, here_same, inner_same, board_same}
use Rattle.heap_laws.proofs.Frames.Values.{one_place, copied_within}
use Rattle.heap_laws.proofs.Steps.RowPlaces.{below_board}
use Rattle.heap_laws.proofs.Targets.Frames.{made_put, shown_beside}

-- ---- any write at a unread_word

module _ (E : Era) (gate : GateWord) (traced front low old_front old_low old_owed : ℕ) (g : Ghost) (page : ℕ → PageWord) (cross announced heap : ℕ → ℕ) (k a0 i0 v : ℕ) (sp : UnreadWord E front low g.size g.writer k a0 i0) where
  -- another worker knows what it knew
  pub knows_unread : (j : ℕ) (w : Known) → j ≢ k → Older E g.size g.writer g.kind heap → Knows E gate traced front low old_front old_low old_owed g page cross announced heap j w
      → Knows E gate traced front low old_front old_low old_owed g page cross announced (put heap (a0 + i0) v) j w
  knows_unread j w n older u =
      let a = λ (q : Quest) (e : w.quest ≡ Some q). origin_unread sp heap v g.kind _ w.done w.registers w.scan q.old q.origin (u.origin q e) in
      let b = λ (c : Copy) (e : w.copy ≡ Some c). copies_unread sp heap v g.copy g.keeper g.kept announced cross g.kind j c n older (u.copy c e) in
      let d = λ (c : Copy) (e : w.copy ≡ Some c). keeps_unread sp heap v g.copy g.keeper g.kept announced cross g.kind j c n older (u.copy c e) g.identity (u.keeps c e) in
      let f = λ (s : Scan) (e : w.scan ≡ Some s). scans_unread sp heap v g.kind page j s (u.scan s e) in
      assumption

  pub copying_unread : (p : plain.Plain) → Older E g.size g.writer g.kind heap → Copying E front g.size g.writer g.copy g.keeper g.kind g.identity heap p
      → Copying E front g.size g.writer g.copy g.keeper g.kind g.identity (put heap (a0 + i0) v) p
  copying_unread p older cy = record {
    old = λ a st l m y. let o = cy.old a st l m y in (o.0, o.1, shows_unread sp heap v g.identity a (g.kind a) (g.size a) o.0 (older.written a st l m) refl o.2);
    sound = λ x i u t. cy.sound x i u (rw (here_same sp heap v g.kind x u) at t);
    reached = cy.reached;
    sizes = cy.sizes;
    complete = λ b x r i st w l m e f y. ⊎_elim (λ z. inl z) (λ z. inr (rw (inner_same sp heap v b (word_of_value (g.kind b) x) w (omega (arith, values_behind_header (g.kind b))) (copied_within cy b x r (Reference i) st l m e y)) z)) (cy.complete b x r i st w l m e f y);
    only = cy.only;
  }

  pub rooted_unread : (count : ℕ) (worker : ℕ → Known) (p : plain.Plain) → Rooted E front count g.size g.writer g.identity heap worker p → Rooted E front count g.size g.writer g.identity (put heap (a0 + i0) v) worker p
  rooted_unread count worker p r = record { roots = λ i y. ⊎_elim (λ c. inl c) (λ l. inr (leads i l)) (r.roots i y); sound = r.sound }
    where
      leads : (i : Identity) → RootLeads E count g.identity heap worker i → RootLeads E count g.identity (put heap (a0 + i0) v) worker i
      leads i (ByBoard x l s) = ByBoard x l (rw (board_same sp heap v x) s)
      leads i (ByRegister j x l m n d s) = ByRegister j x l m n d s

-- ---- into a reserved place

headed_inside : (E : Era) (front low k a0 i0 : ℕ) (g : Ghost) (heap : ℕ → ℕ) (v : ℕ) → UnreadWord E front low g.size g.writer k a0 i0 → 0 < g.writer a0 → E.start ≤ a0 → a0 < E.start + E.span
    → Copied E front g.size g.writer g.copy g.keeper g.kind g.identity g.kept → Headed g.size g.writer g.copy g.keeper g.kind g.identity heap
    → Headed g.size g.writer g.copy g.keeper g.kind g.identity (put heap (a0 + i0) v)
headed_inside E front low k a0 i0 g heap v sp held t1 t2 cp p = record {
  own = λ a st w y z. rw (same a (λ e. let y : g.writer a0 ≡ 0 = rw e at w in omega arith) st) (p.own a st w y z);
  kept = λ a j st y. rw (same a (λ e. let q = cp.keeper_of a j st y in let b : a ≡ a0 = e in omega (arith, q, t1, t2, sp.laid_out.apart)) st) (p.kept a j st y);
  gone = λ a b st y z. rw (same a (λ e. let q = cp.target a b st y in let r : a ≡ a0 = e in omega (arith, q.0, q.1, t1, t2, sp.laid_out.apart)) st) (p.gone a b st y z);
}
  where
    same : (a : ℕ) → a ≢ a0 → 0 < g.size a → put heap (a0 + i0) v a ≡ heap a
    same a n st = put_other heap (a0 + i0) v a (λ e. n (let q : a ≡ a0 = one_place g.size a a0 0 i0 sp.laid.apart st sp.inside (omega arith) in q))

module _ (E : Era) (m : Memory) (team : Team) (g : Ghost) (k : ℕ) (c : Copy) (v : ℕ) (ready : Ready E m team g k) (has : (team.worker k).copy ≡ Some c) (res : c.reserved ≡ true) (next : IsNextWord c v) where
  abbrev inv : Invariant E m team g
  inv = ready.invariant

  abbrev further : Copy
  further = record c { done = c.done + 1; word = None }

  abbrev w' : Known
  w' = copying (team.worker k) further

  abbrev heap' : ℕ → ℕ
  heap' = put m.heap (c.to + c.done) v

  me : Knows E m.gate m.traced m.front m.low m.old_front m.old_low m.old_owed g m.page m.cross m.announced m.heap k (team.worker k)
  me = inv.workers k ready.member

  mine : Copies E m.front g.size g.writer g.copy g.keeper g.kept m.announced m.cross m.heap k c
  mine = me.copy c has

  placed : (c.announced ≡ true) × (g.copy c.from ≡ c.to + 1) × (g.writer c.to ≡ k + 1) × (g.size c.to ≡ c.size) × (E.start ≤ c.to) × (c.to + c.size ≤ m.front)
  placed = mine.place res

  more : c.done < c.size
  more = ⊎_elim (λ (q : (c.done ≡ 0) × (v ≡ c.header)). omega (arith, q.0, mine.old)) (λ (q : c.word ≡ Some v). (mine.loaded v q).1) next

  unread_word : UnreadWord E m.front m.low g.size g.writer k c.to c.done
  unread_word = record { laid_out = ready.laid_out; laid = inv.laid; inside = omega (arith, placed.3, more); hidden = inr (omega (arith, placed.2)); own = inr placed.2 }

  old_same : (i : ℕ) → i < c.size → heap' (c.from + i) ≡ m.heap (c.from + i)
  old_same i l = put_other m.heap (c.to + c.done) v (c.from + i) (λ e. omega (arith, e, ready.laid_out.apart, placed.4, placed.5, mine.old, inv.laid.order, more))

  own : Copies E m.front g.size g.writer g.copy g.keeper g.kept m.announced m.cross heap' k further
  own = record {
    old = mine.old;
    loose = λ e. absurd (cc);
    aimed = mine.aimed;
    named = mine.named;
    place = mine.place;
    crossings = mine.crossings;
    bound = omega (arith, more);
    loaded = λ x e. none≢some e;
    same = λ j p l. ⊎_elim
        (λ (e : j ≡ c.done). rw (old_same j (omega (arith, e, more)), put_at m.heap (c.to + c.done) v (c.to + j) (omega arith)) (by_word j p e next))
        (λ (d : j ≢ c.done). rw (old_same j (omega (arith, d, l, more)), put_other m.heap (c.to + c.done) v (c.to + j) (omega arith)) (mine.same j p (omega arith)))
        (cases_eq j c.done);
  }
    where
      by_word : (j : ℕ) → 0 < j → j ≡ c.done → IsNextWord c v → v ≡ m.heap (c.from + j)
      by_word j p e (inl q) = absurd (omega (arith, q.0))
      by_word j p e (inr q) = rw e (sym (mine.loaded v q).2)

  head : Keeps g.kind g.identity heap' further
  head = record { keeps = (me.keeps c has).keeps; head = λ _. by_word next }
    where
      by_word : IsNextWord c v → decode (heap' c.to) ≡ HeaderWord (header_kind (g.kind c.from)) (c.size - 1) (g.identity c.from).serial (g.identity c.from).mutator
      by_word (inl q) = let y : c.to ≡ c.to + c.done = omega (arith, q.0) in rw (put_at m.heap (c.to + c.done) v c.to y, q.1) ((me.keeps c has).keeps)
      by_word (inr q) = let p = (mine.loaded v q).0 in let y : c.to ≢ c.to + c.done = omega (arith, p) in rw (put_other m.heap (c.to + c.done) v c.to y) ((me.keeps c has).head p)

  -- the place is written, so it isn't a cell
  no_target : IsNoTarget g (c.to + c.done)
  no_target = (words_no_targets ready).of_others c.to c.done (omega (arith, placed.3, more)) (λ z. let w = z.written in omega (arith, w, placed.2))

  cells : Cells E (with_word m (c.to + c.done) v) (with_worker team k w') g
  cells =
      let inside : c.done < g.size c.to = omega (arith, placed.3, more) in
      let below = below_board ready c.to (omega (arith, inside)) in
      word_keeps E m (with_word m (c.to + c.done) v) team g g k (c.to + c.done) v w' (InWord (c.to + c.done) v (omega (arith, below, inside)))
      ((words_unread ready).of_others c.to c.done inside (λ z. let w = z.written in omega (arith, w, placed.2)))
      no_target (record { size = refl; writer = refl; kind = refl; copy = refl })
      (copies_in_chain E (team.worker k) further) inv.cells

  invariant : Invariant E (with_word m (c.to + c.done) v) (with_worker team k w') g
  invariant =
      let p1 = counted_put team.worker k w' refl refl inv.counted in
      let p2 = staffed_put team.worker k w' refl inv.staffed in
      let p3 = scanned_put team.worker k w' refl inv.scanned in
      let p4 = stocks_put team.worker k w' (λ _ e. e) (stocks_unread unread_word m.heap v team.count m.page team.worker inv.stocks) in
      let p5 = numbered_put team.worker k w' refl inv.numbered in
      let q1 = headed_inside E m.front m.low k c.to c.done g m.heap v unread_word (omega (arith, placed.2)) placed.4 (omega (arith, placed.5, mine.old, inv.laid.order)) inv.copied inv.headed in
      let q2 = opened_unread unread_word m.heap v g.kind m.page inv.opened in
      let q3 = landing_unread unread_word m.heap v g.kind inv.landing in
      let q4 = older_unread unread_word m.heap v g.kind inv.older in
      let q5 = raw_unread unread_word m.heap v g.kind inv.raw_words in
      let q8 = counts_unread unread_word m.heap v g.kind inv.counts in
      let q6 = new_unread unread_word m.heap v m.low (E.start + E.span) E.epoch m.page inv.new in
      let q7 : OldSpace E m.traced m.old_front m.old_low g.size heap' m.page = record { walks = λ t d e. space_unread unread_word m.heap v E.old_start m.old_front m.old_low (E.old_start + E.old_span) d m.page (inv.old_space.walks t d e) } in
      let others = λ (j : ℕ) (l : j < team.count) (d : j ≢ k). knows_unread E m.gate m.traced m.front m.low m.old_front m.old_low m.old_owed g m.page m.cross m.announced m.heap k c.to c.done v unread_word j (team.worker j) d inv.older (inv.workers j l) in
      let mine = knows_copying E m.gate m.traced m.front m.low m.old_front m.old_low m.old_owed g m.page m.cross m.announced m.heap m.cross m.announced heap' k (team.worker k) c further has refl me own head
      (λ q e. origin_unread unread_word m.heap v g.kind _ (team.worker k).done (team.worker k).registers (team.worker k).scan q.old q.origin (me.origin q e))
      (λ s e. scans_unread unread_word m.heap v g.kind m.page k s (me.scan s e)) in
      let p6 = team_put team.count (Knows E m.gate m.traced m.front m.low m.old_front m.old_low m.old_owed g m.page m.cross m.announced heap') team.worker k w' others mine in
      let p7 = cells in
      assumption

  pub word_copied : Preserves E m (with_word m (c.to + c.done) v) team (with_worker team k w') g g
  word_copied = record {
    invariant = invariant;
    ages = λ page. omega arith;
    shown = λ p s. record {
      objects = objects_unread unread_word m.heap v g.copy g.keeper g.kind g.identity p.heap s.objects;
      targets = shown_beside E m g (c.to + c.done) v no_target p.heap s.targets;
      board = board_unread unread_word m.heap v g.identity p.heap s.board;
      as_many = s.as_many;
      makers = s.makers;
      accounts = λ j q e. accounts_put team.worker k w' refl j q (s.accounts j q e);
      registers = λ j q e. registers_put team.worker k w' refl j q (s.registers j q e);
    };
    cycle = λ p cy. record {
      copying = copying_unread E m.gate m.traced m.front m.low m.old_front m.old_low m.old_owed g m.page m.cross m.announced m.heap k c.to c.done v unread_word p inv.older cy.copying;
      rooted = rooted_put team.worker k w' refl refl refl (λ _ _ a b. (a, b))
          (rooted_unread E m.gate m.traced m.front m.low m.old_front m.old_low m.old_owed g m.page m.cross m.announced m.heap k c.to c.done v unread_word team.count team.worker p cy.rooted);
      made = made_put team.worker k w' refl cy.made;
    };
  }
