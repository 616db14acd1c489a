-- Pages are claimed below LOW.
use Rattle.std.proofs.Common.{◌≡◌, ℕ, ◌+◌, ◌-◌, ◌*◌, ◌/◌, ◌<◌, ◌≤◌, true, Some, [], refl, sym, ap, arith, ⊎_elim, ◌⊎◌, inl, inr}
use Rattle.std.proofs.lemmas.Bool.{cases_lt}
use Rattle.space_map.specs.declared.gate_word.GateWord.{GateWord}
use Rattle.heap_state.specs.Memory.Era.{Era, IsLaidOut, Memory}
use Rattle.heap_state.specs.Functions.{count_one}
use Rattle.heap_state.specs.Invariant.Ghost.{Ghost}
use Rattle.heap_state.specs.Invariant.Inductive.{Invariant, Knows}
use Rattle.heap_state.specs.Invariant.Parts.Copies.{Room}
use Rattle.heap_state.specs.Invariant.Parts.Gate.{Counted}
use Rattle.heap_state.specs.Invariant.Parts.Knowledge.{Resets}
use Rattle.heap_state.specs.Invariant.Parts.Pages.{Shut}
use Rattle.heap_state.specs.Invariant.Parts.Records.{Laid, NewArea, NewWritten}
use Rattle.heap_state.specs.Invariant.Parts.Stocks.{Stocks, Stocked}
use Rattle.heap_state.specs.Targets.{Targets}
use Rattle.heap_state.specs.Known.{Known, Team, Stock, is_running, Reset}
use Rattle.heap_state.proofs.Workers.Frames.{counted_put, staffed_put, scanned_put, stocks_anew, numbered_put, rooted_put}
use Rattle.heap_state.proofs.Puts.{team_put, none≢some, some_same}
use Rattle.heap_laws.specs.Steps.{Ready, Preserves}
use Rattle.heap_laws.proofs.Allocation.StockPages.Stocks.{stocked_knows, stocked_in_chain, with_stock}
use Rattle.heap_laws.proofs.Cells.Kept.{same_cells, same_words_keep}
use Rattle.heap_laws.proofs.Flipping.Sums.{sum_below-term}
use Rattle.heap_laws.proofs.Steps.Learning.{shown_put}
use Rattle.heap_laws.proofs.Targets.Frames.{made_put}
use Rattle.heap_laws.proofs.Scanning.Scanners.{open_age}

-- ---- nobody flips while one runs

pub runs_counted : (gate : GateWord) (count : ℕ) (worker : ℕ → Known) (k : ℕ) → Counted gate count worker → k < count → is_running (worker k).post ≡ true → 0 < gate.running
runs_counted gate count worker k c l r =
    let t = sum_below-term count (λ j. count_one (is_running (worker j).post)) k l in
    let e : count_one (is_running (worker k).post) ≡ 1 = rw r refl in
    let n = c.running in
    omega arith

-- ---- the claim

-- n pages below LOW
abbrev pub below_low : Era → Memory → ℕ → Stock
below_low E m n = record { epoch = E.epoch; at = m.low - 64 * n; end = m.low; zeroed = m.low - 64 * n; opened = m.low - 64 * n; ahead = [] }

-- LOW and owed of the epoch's space are stored
abbrev pub with_low : Memory → (low owed : ℕ) → Memory
with_low m low owed = record m { low = low; owed = owed }

-- There is room for n pages. While the epoch is not traced that is beside the words owed, and these stay.
pub record FitsPages (E : Era) (m : Memory) (n owed : ℕ) : Type 0 where
  pub room : m.front + 64 * n ≤ m.low
  pub beside : m.traced ≤ E.epoch → (owed ≡ m.owed) × (m.front + 64 * n + owed ≤ m.low)
  pub small : owed ≤ m.owed

module _ (E : Era) (m : Memory) (team : Team) (g : Ghost) (k n owed : ℕ) (lay : IsLaidOut E) (inv : Invariant E m team g) (l : k < team.count) (run : is_running (team.worker k).post ≡ true) (has : FitsPages E m n owed)
    (targets : Targets E (with_low m (m.low - 64 * n) owed) g) where
  abbrev low : ℕ
  low = m.low - 64 * n

  abbrev new : Stock
  new = below_low E m n

  -- no record lies between
  clear : (a : ℕ) → 0 < g.size a → (a + g.size a ≤ low) ⊎ (m.low ≤ a)
  clear a st = ⊎_elim
      (λ (y : a < m.low). inl (let q = inv.laid.lies a st in omega (arith, q, y, st, has.room, inv.laid.order, lay.apart)))
      (λ (y : m.low ≤ a). inr y)
      (cases_lt a m.low)

  above : (a : ℕ) → 0 < g.size a → low ≤ a → m.low ≤ a
  above a st u = let c = clear a st in omega (arith, c, u, st)

  laid : Laid E m.front low g.size
  laid = record {
    apart = inv.laid.apart;
    start = inv.laid.start;
    next = inv.laid.next;
    aligned = let a = inv.laid.aligned in omega (arith, a, has.room);
    order = (inv.laid.order.0, omega (arith, has.room), omega (arith, inv.laid.order));
    lies = λ a st. ⊎_elim (λ y. inl y) (λ z. ⊎_elim (λ y. inr (inl (omega (arith, y), y.1))) (λ y. inr (inr y)) z) (inv.laid.lies a st);
  }

  room : Room E m.traced m.front low owed g.size g.copy
  room = record {
    needs = λ t. rw (has.beside t).0 (inv.room.needs t);
    fits = λ t. let b = has.beside t in omega (arith, b);
    small = let s = inv.room.small in omega (arith, s, has.small);
  }

  area : NewArea low (E.start + E.span) E.epoch g.size m.heap m.page
  area = record {
    opened = λ a x st u e f z. inv.new.opened a x st (above a st u) e f z;
    prior = λ b st u e d. inv.new.prior b st (above b st u) e d;
    blank = λ x u e w o none. ⊎_elim
        (λ (y : x < m.low). absurd (
        let a = inv.shut.free (x / 64) (omega (arith, u, has.room, laid.aligned)) (omega (arith, y, inv.laid.aligned)) in
        let b = open_age (m.page (x / 64)) E.epoch o in
        omega arith))
        (λ (y : m.low ≤ x). inv.new.blank x y e w o none)
        (cases_lt x m.low);
  }

  mine : Stocked E low g.size m.heap m.page new
  mine = record {
    lies = (omega arith, omega arith, inv.laid.order.2);
    so_far = (omega arith, omega arith, omega arith);
    aligned = (inv.laid.aligned, laid.aligned);
    empty = clear;
    zeros = λ x a b. absurd (omega (arith, a, b));
    ahead = λ i w e. none≢some e;
    fits = λ l. absurd (omega arith);
    shut = λ p a b. inv.shut.free p (omega (arith, a, has.room)) b;
    opens = λ x a b. absurd (omega (arith, a, b));
    order = inl (omega arith);
    whole = (omega arith, inr laid.aligned);
    after = inl laid.aligned;
    on_page = inl laid.aligned;
  }

  theirs : (s : Stock) → Stocked E m.low g.size m.heap m.page s → Stocked E low g.size m.heap m.page s
  theirs s y = let z : (low ≤ s.at) × (s.at ≤ s.end) × (s.end ≤ E.start + E.span) = (omega (arith, y.lies), y.lies.1, y.lies.2) in assumption

  stocks : Stocks E low team.count g.size m.heap m.page (with_stock team k new).worker
  stocks = stocks_anew team.worker k (record (team.worker k) { stock = Some new })
      (λ j u d s e f. theirs s (inv.stocks.stocked j u s e f))
      (λ s e f. rw (← some_same e) mine)
      (λ i j li lj x y d. inv.stocks.apart i j li lj d)
      (λ j u d s t e f a b. let y = (inv.stocks.stocked j u s e a).lies in let z : new ≡ t = some_same f in rw (← z) (inr (let q : m.low ≤ s.at = y.0 in q)))

  -- nobody resets a space
  worker : (j : ℕ) (w : Known) → Knows E m.gate m.traced m.front m.low m.old_front m.old_low m.old_owed g m.page m.cross m.announced m.heap j w
      → Knows E m.gate m.traced m.front low m.old_front m.old_low m.old_owed g m.page m.cross m.announced m.heap j w
  worker j w p =
      let c = runs_counted m.gate team.count team.worker k inv.counted l run in
      let a : (r : Reset) → w.reset ≡ Some r → Resets E m.gate m.front low m.old_front m.old_low m.old_owed r = λ r e. absurd (
      let q = p.reset r e in
      let s = q.stopped.0 in
      let u : m.gate.running ≡ r.read.running = ap (λ (x : GateWord). x.running) q.unmoved in
      omega arith) in
      assumption

  keeps : Invariant E (with_low m low owed) (with_stock team k new) g
  keeps =
      let me = inv.workers k l in
      let w : Known = record (team.worker k) { stock = Some new } in
      let p1 = counted_put team.worker k w refl refl inv.counted in
      let p2 = staffed_put team.worker k w refl inv.staffed in
      let p3 = laid in
      let p4 = room in
      let p5 : Shut E m.front low g.size g.writer m.page = record { free = λ p a b. inv.shut.free p a (omega (arith, b)); held = inv.shut.held; by = inv.shut.by } in
      let p6 = scanned_put team.worker k w refl inv.scanned in
      let p7 = area in
      let p8 : NewWritten E low g.size g.writer = record { written = λ a st u e. inv.new_written.written a st (above a st u) e } in
      let p9 = stocks in
      let p10 = numbered_put team.worker k w refl inv.numbered in
      let p11 = same_words_keep E m (with_low m low owed) team g g k w (record { weak = refl; weak_turn = refl }) (record { traced = refl; front = refl }) refl (same_cells g) (stocked_in_chain E (team.worker k) (Some new) (team.worker k).account) targets inv.cells in
      let p12 = team_put team.count (Knows E m.gate m.traced m.front low m.old_front m.old_low m.old_owed g m.page m.cross m.announced m.heap) team.worker k (record (team.worker k) { stock = Some new })
      (λ j u d. worker j (team.worker j) (inv.workers j u))
      (stocked_knows E (with_low m low owed) g k (team.worker k) new (sym (me.timely.running run)) (worker k (team.worker k) me)) in
      assumption

pub stocks_are_claimed : (E : Era) (m : Memory) (team : Team) (g : Ghost) (k n owed : ℕ) → Ready E m team g k → is_running (team.worker k).post ≡ true → FitsPages E m n owed
    → Targets E (with_low m (m.low - 64 * n) owed) g → Preserves E m (with_low m (m.low - 64 * n) owed) team (with_stock team k (below_low E m n)) g g
stocks_are_claimed E m team g k n owed ready run has targets = record {
  invariant = keeps E m team g k n owed ready.laid_out ready.invariant ready.member run has targets;
  shown = λ p s. shown_put E m (with_low m (m.low - 64 * n) owed) team g k (record (team.worker k) { stock = Some (below_low E m n) }) p refl refl refl refl refl (λ e. e) s;
  cycle = λ p cy. record { copying = cy.copying; rooted = rooted_put team.worker k (record (team.worker k) { stock = Some (below_low E m n) }) refl refl refl (λ _ _ a b. (a, b)) cy.rooted; made = made_put team.worker k (record (team.worker k) { stock = Some (below_low E m n) }) refl (record { new = λ a st l u. cy.made.new a st (above E m team g k n owed ready.laid_out ready.invariant ready.member run has targets a st l) u; grown = cy.made.grown }) };
  ages = λ p. omega arith;
}
