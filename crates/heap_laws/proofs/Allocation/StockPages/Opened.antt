-- The next page of a stock is opened.
use Rattle.std.proofs.Common.{◌≡◌, ◌≢◌, ℕ, ◌+◌, ◌*◌, ◌/◌, ◌<◌, ◌≤◌, Some, refl, ap, arith, ⊎_elim, ◌⊎◌, inl, inr}
use Rattle.std.proofs.lemmas.Bool.{cases_eq}
use Rattle.space_map.specs.declared.page_word.PageWord.{PageWord}
use Rattle.space_map.specs.declared.page_word.PageWord.TheVariants.{Open, Scanning}
use Rattle.space_map.specs.PageWord.{age_of}
use Rattle.heap_state.specs.Memory.Era.{Era, IsLaidOut, Memory}
use Rattle.heap_state.specs.Functions.{put}
use Rattle.heap_state.specs.Invariant.Ghost.{Ghost, Here, IsField}
use Rattle.heap_state.specs.Invariant.Inductive.{Invariant, Knows}
use Rattle.heap_state.specs.Invariant.Parts.Leading.{Opened}
use Rattle.heap_state.specs.Invariant.Parts.Pages.{Shut, Filling}
use Rattle.heap_state.specs.Invariant.Parts.Records.{NewArea}
use Rattle.heap_state.specs.Invariant.Parts.Stocks.{Stocks, Stocked}
use Rattle.heap_state.specs.Known.{Known, Team, Stock}
use Rattle.heap_state.proofs.Workers.Frames.{counted_put, staffed_put, scanned_put, stocks_anew, numbered_put, rooted_put}
use Rattle.heap_state.proofs.Puts.{put_at, put_other, each_put, team_put, some_same}
use Rattle.heap_laws.specs.Allocation.Stocks.{opened_further}
use Rattle.heap_laws.specs.Steps.{Ready, Preserves, with_page}
use Rattle.heap_laws.proofs.Allocation.StockPages.Stocks.{stocked_knows, stocked_in_chain, is_not_ahead, nothing_ahead, Opens, with_stock}
use Rattle.heap_laws.proofs.Cells.Kept.{same_cells, same_keeps}
use Rattle.heap_laws.proofs.Steps.Learning.{shown_put}
use Rattle.heap_laws.proofs.Targets.Frames.{made_put}
use Rattle.heap_laws.proofs.Frames.PageWords.{Turns, stays, grows, quiet_turns, tracing_turns, aged_turns, old_pages_turn, old_space_turns, scans_beside, knows_turns}
use Rattle.heap_laws.proofs.Scanning.Scanners.{scan_age}

module _ (E : Era) (m : Memory) (team : Team) (g : Ghost) (k p : ℕ) (q : Stock) (lay : IsLaidOut E) (inv : Invariant E m team g) (opens : Opens E team k q p) where
  abbrev page : ℕ → PageWord
  page = put m.page p (Open E.epoch)

  abbrev next : Stock
  next = opened_further q

  ok : Stocked E m.low g.size m.heap m.page q
  ok = inv.stocks.stocked k opens.own.worker q opens.own.has opens.own.epoch

  ends : (q.at ≤ 64 * p) × (64 * p + 64 ≤ q.end) × (m.low ≤ 64 * p) × (64 * p + 64 ≤ E.start + E.span)
  ends =
      let a : q.at ≤ 64 * p = omega (arith, ok.whole, opens.at) in
      let b : 64 * p + 64 ≤ q.end = omega (arith, ok.aligned, opens.more, opens.at) in
      (a, b, omega (arith, a, ok.lies), omega (arith, b, ok.lies))

  young : age_of (m.page p) ≤ E.epoch
  young = ok.shut p (omega (arith, opens.at)) ends.1

  turn : Turns E m.page p (Open E.epoch)
  turn = record { young = omega (arith, young); turned = refl; open_stays = λ _. refl }

  not_scan : (r j : ℕ) → m.page r ≡ Scanning E.epoch j → r ≢ p
  not_scan r j c e = let y = scan_age (m.page r) E.epoch j c in let z : age_of (m.page r) ≡ age_of (m.page p) = ap (λ x. age_of (m.page x)) e in omega (arith, y, z, young)

  other : (r : ℕ) → r ≢ p → page r ≡ m.page r
  other r d = put_other m.page p (Open E.epoch) r d

  -- ---- the page is under no record

  no_record : (a x : ℕ) → 0 < g.size a → a ≤ x → x < a + g.size a → x / 64 ≢ p
  no_record a x st l u e = let y = ok.empty a st in omega (arith, e, y, l, u, ends)

  no_field : (x : ℕ) → Here E g.size g.writer g.kind x → x / 64 ≢ p
  unfolding Here
  no_field x (inr b) e = omega (arith, b, e, ends, lay.below, lay.board)
  no_field x (inl u) e = let f : IsField g.size g.writer g.kind u.a u.i = u.field in no_record u.a x f.stands (omega (arith, u.at)) (omega (arith, u.at, f.last)) e

  below : (r : ℕ) → 64 * r < m.front → r ≢ p
  below r l = omega (arith, l, ends, inv.laid.order)

  -- ---- parts

  shut : Shut E m.front m.low g.size g.writer page
  shut = record {
    free = λ r l u. rw (other r (omega (arith, ends, u))) (inv.shut.free r l u);
    held = λ b x st w l u. rw (other (x / 64) (no_record b x st l u)) (inv.shut.held b x st w l u);
    by = λ b x j st w l u. rw (other (x / 64) (no_record b x st l u)) (inv.shut.by b x j st w l u);
  }

  new : NewArea m.low (E.start + E.span) E.epoch g.size m.heap page
  new = record {
    opened = λ a x st l e f u. stays turn (x / 64) (inv.new.opened a x st l e f u);
    prior = inv.new.prior;
    blank = λ x l u w o none. ⊎_elim
        (λ (e : x / 64 ≡ p). let from : q.at ≤ x = omega (arith, e, ends) in ok.zeros x from (let z = opens.blank in omega (arith, e, ends, z)) (is_not_ahead q x (nothing_ahead q ok (inr opens.more)) from))
        (λ (d : x / 64 ≢ p). inv.new.blank x l u w (rw (other (x / 64) d) at o) none)
        (cases_eq (x / 64) p);
  }

  mine : Stocked E m.low g.size m.heap page next
  mine = record {
    lies = ok.lies;
    empty = ok.empty;
    zeros = ok.zeros;
    ahead = ok.ahead;
    fits = λ l. absurd (let n = nothing_ahead q ok (inr opens.more) in omega (arith, l, n));
    on_page = ok.on_page;
    after = ok.after;
    so_far = (ok.so_far.0, ok.so_far.1, omega (arith, opens.at, ends));
    aligned = (ok.aligned.0, omega (arith, ok.aligned));
    order = inr opens.blank;
    whole = (omega (arith, ok.whole), inr (let w = ok.whole.1 in omega (arith, w, opens.more)));
    shut = λ r l u. rw (other r (omega (arith, opens.at, l))) (ok.shut r (omega (arith, l)) u);
    opens = λ x l u. each_put (λ y w. y ≡ x / 64 → w ≡ Open E.epoch) m.page p (Open E.epoch) (x / 64) (λ d _. ok.opens x l (omega (arith, d, u, opens.at))) (λ _ _. refl) refl;
  }

  theirs : (s : Stock) → (s.end ≤ q.at) ⊎ (q.end ≤ s.at) → Stocked E m.low g.size m.heap m.page s → Stocked E m.low g.size m.heap page s
  theirs s beside y =
      let a : (r : ℕ) → s.opened ≤ 64 * r → 64 * r + 64 ≤ s.end → age_of (page r) ≤ E.epoch = λ r a b. let o = y.whole in rw (other r (omega (arith, beside, a, b, ends, o))) (y.shut r a b) in
      let b : (x : ℕ) → s.at ≤ x → x < s.opened → page (x / 64) ≡ Open E.epoch = λ x a b. stays turn (x / 64) (y.opens x a b) in
      assumption

  stocks : Stocks E m.low team.count g.size m.heap page (with_stock team k next).worker
  stocks = stocks_anew team.worker k (record (team.worker k) { stock = Some next })
      (λ j l d s e n. theirs s (inv.stocks.apart j k l opens.own.worker d s q e opens.own.has n opens.own.epoch) (inv.stocks.stocked j l s e n))
      (λ s e n. rw (← some_same e) mine)
      (λ i j li lj x y d. inv.stocks.apart i j li lj d)
      (λ j l d s t e f n o. let a = inv.stocks.apart j k l opens.own.worker d s q e opens.own.has n opens.own.epoch in let z : next ≡ t = some_same f in rw (← z) a)

  -- a worker knows what it knew
  known : (j : ℕ) (w : Known) → Knows E m.gate m.traced m.front m.low m.old_front m.old_low m.old_owed g m.page m.cross m.announced m.heap j w
      → Knows E m.gate m.traced m.front m.low m.old_front m.old_low m.old_owed g page m.cross m.announced m.heap j w
  known j w u = knows_turns turn (λ s e o. scans_beside turn j s (not_scan s.page j o.claimed) o) u

  keeps : Invariant E (with_page m p (Open E.epoch)) (with_stock team k next) g
  keeps =
      let w : Known = record (team.worker k) { stock = Some next } in
      let p1 = counted_put team.worker k w refl refl inv.counted in
      let p2 = staffed_put team.worker k w refl inv.staffed in
      let p3 = shut in
      let p4 : Filling E m.gate.behind m.front page = record { filling = λ r l u e. quiet_turns turn (inv.filling.filling r l u (rw (other r (below r l)) at e)) } in
      let p5 = tracing_turns turn inv.tracing in
      let p6 = aged_turns turn inv.aged in
      let p7 = scanned_put team.worker k w {E = E} {count = team.count} {page = page} refl (record {
        scanned = λ r j e. inv.scanned.scanned r j (rw (other r (λ (y : r ≡ p). absurd (let o : Open E.epoch ≡ Scanning E.epoch j = rw (put_at m.page p (Open E.epoch) r y) at e in cc))) at e);
      }) in
      let p8 : Opened E g.size g.writer g.kind m.heap page = record { opened = λ x u o. inv.opened.opened x u (rw (other (x / 64) (no_field x u)) at o) } in
      let p9 = new in
      let p10 = old_space_turns turn (λ x l u y. omega (arith, y, l, u, ends, lay.apart, lay.start, lay.span, lay.old_start, lay.old_span, inv.laid.order)) inv.old_space in
      let p11 = old_pages_turn turn inv.old_pages in
      let p12 = stocks in
      let p13 = numbered_put team.worker k w refl inv.numbered in
      let p14 = same_keeps E m (with_page m p (Open E.epoch)) team g g k w (assumption) (assumption) (same_cells g) (stocked_in_chain E (team.worker k) (Some next) (team.worker k).account) inv.cells in
      let p15 = team_put team.count (Knows E m.gate m.traced m.front m.low m.old_front m.old_low m.old_owed g page m.cross m.announced m.heap) team.worker k w
      (λ j l d. known j (team.worker j) (inv.workers j l))
      (stocked_knows E (with_page m p (Open E.epoch)) g k (team.worker k) next ((inv.workers k opens.own.worker).stock q opens.own.has) (known k (team.worker k) (inv.workers k opens.own.worker))) in
      assumption

pub stocks_are_opened : (E : Era) (m : Memory) (team : Team) (g : Ghost) (k page : ℕ) (q : Stock) → Ready E m team g k → Opens E team k q page
    → Preserves E m (with_page m page (Open E.epoch)) team (with_stock team k (opened_further q)) g g
stocks_are_opened E m team g k p q ready opens = record {
  invariant = keeps E m team g k p q ready.laid_out ready.invariant opens;
  shown = λ r s. shown_put E m (with_page m p (Open E.epoch)) team g k (record (team.worker k) { stock = Some (opened_further q) }) r refl refl refl refl refl (λ e. e) s;
  cycle = λ r cy. record { copying = cy.copying; rooted = rooted_put team.worker k (record (team.worker k) { stock = Some (opened_further q) }) refl refl refl (λ _ _ a b. (a, b)) cy.rooted; made = made_put team.worker k (record (team.worker k) { stock = Some (opened_further q) }) refl cy.made };
  ages = grows (turn E m team g k p q ready.laid_out ready.invariant opens);
}
