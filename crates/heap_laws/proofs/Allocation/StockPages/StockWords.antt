-- A worker stores a word of its own stock.
use Rattle.std.proofs.Common.{◌≡◌, ℕ, ◌+◌, ◌<◌, ◌≤◌, Some, refl, sym, ◌∙◌, arith, ⊎_elim, ◌⊎◌, inl, inr}
use Rattle.heap_state.specs.Memory.Era.{Era, Memory}
use Rattle.heap_state.specs.Functions.{put}
use Rattle.heap_state.specs.Invariant.Ghost.{Ghost}
use Rattle.heap_state.specs.Invariant.Inductive.{Invariant, Knows}
use Rattle.heap_state.specs.Invariant.Parts.Records.{NewArea}
use Rattle.heap_state.specs.Invariant.Parts.Stocks.{Stocks, Stocked}
use Rattle.heap_state.specs.Meaning.Values.{value_of}
use Rattle.heap_state.specs.Known.{Team, Stock, Known}
use Rattle.heap_state.proofs.Workers.Frames.{counted_put, staffed_put, scanned_put, stocks_anew, numbered_put, rooted_put}
use Rattle.heap_state.proofs.Puts.{put_other, team_put, some_same}
use Rattle.heap_laws.specs.Cells.Frames.{IsNoCellWord}
use Rattle.heap_laws.specs.Steps.{Ready, Preserves, InWord, with_word}
use Rattle.heap_laws.specs.Targets.Frames.{IsNoTarget}
use Rattle.heap_laws.proofs.Allocation.FreeWords.{IsFree, headed_free, raw_free, opened_free, landing_free, older_free, old_space_free, worker_free, objects_free, board_free, copying_free, rooted_free, counts_free}
use Rattle.heap_laws.proofs.Allocation.StockPages.Stocks.{stocked_knows, stocked_in_chain, Owns, with_stock}
use Rattle.heap_laws.proofs.Cells.Kept.{same_cells, word_keeps, words_unread}
use Rattle.heap_laws.proofs.Frames.OtherWords.{stocked_same}
use Rattle.heap_laws.proofs.Steps.Learning.{shown_put}
use Rattle.heap_laws.proofs.Targets.Frames.{made_put, shown_by_words}

-- The word at x of the stock q of worker k becomes v, and the stock is then `next`, of the same place and end. What the stock
-- and the new area are after it is known.
pub record StoresInStock (E : Era) (m : Memory) (team : Team) (g : Ghost) (k x v : ℕ) (q next : Stock) : Type 0 where
  pub ready : Ready E m team g k
  pub own : Owns E team k q
  pub inside : (q.at ≤ x) × (x < q.end)
  pub alike : (next.at ≡ q.at) × (next.end ≡ q.end) × (next.epoch ≡ q.epoch)
  pub mine : Stocked E m.low g.size (put m.heap x v) m.page next
  pub area : NewArea m.low (E.start + E.span) E.epoch g.size (put m.heap x v) m.page

module _ {E : Era} {m : Memory} {team : Team} {g : Ghost} {k x v : ℕ} {q next : Stock} (stores : StoresInStock E m team g k x v q next) where
  open stores use {own, inside, alike, mine, area}

  inv : Invariant E m team g
  inv = stores.ready.invariant

  ok : Stocked E m.low g.size m.heap m.page q
  ok = inv.stocks.stocked k own.worker q own.has own.epoch

  place : (E.start ≤ x) × (x < E.start + E.span)
  place = (omega (arith, ok.lies, inside, inv.laid.order), omega (arith, ok.lies, inside))

  free : IsFree E g.size x
  free = record {
    free = λ a st. ⊎_elim (λ y. inr (omega (arith, y, inside))) (λ y. inl (omega (arith, y, inside))) (ok.empty a st);
    below = let b = stores.ready.laid_out.below in omega (arith, place, b);
  }

  -- the word lies behind FRONT, where no copied cell is
  no_cell : IsNoCellWord E m g x
  no_cell = (words_unread stores.ready).behind x (omega (arith, ok.lies, inside, inv.laid.order))

  -- and it is in no record
  no_target : IsNoTarget g x
  no_target a c e = let z = inv.cells.chain.three a c.stands c.weak in let f = free.free a c.stands in omega (arith, z, f, e)

  theirs : (s : Stock) → (s.end ≤ q.at) ⊎ (q.end ≤ s.at) → Stocked E m.low g.size m.heap m.page s → Stocked E m.low g.size (put m.heap x v) m.page s
  theirs s beside y = stocked_same s (λ a l u. put_other m.heap x v a (λ e. omega (arith, e, l, u, beside, y.so_far, inside))) y

  stocks : Stocks E m.low team.count g.size (put m.heap x v) m.page (with_stock team k next).worker
  stocks = stocks_anew team.worker k (record (team.worker k) { stock = Some next })
      (λ j l d s e n. theirs s (inv.stocks.apart j k l own.worker d s q e own.has n own.epoch) (inv.stocks.stocked j l s e n))
      (λ s e n. rw (← some_same e) mine)
      (λ i j li lj y z d. inv.stocks.apart i j li lj d)
      (λ j l d s t e f n o.
      let a = inv.stocks.apart j k l own.worker d s q e own.has n own.epoch in
      rw (← some_same f) (⊎_elim (λ y. inl (omega (arith, y, alike))) (λ y. inr (omega (arith, y, alike))) a))

  keeps : Invariant E (with_word m x v) (with_stock team k next) g
  keeps =
      let w : Known = record (team.worker k) { stock = Some next } in
      let p1 = counted_put team.worker k w refl refl inv.counted in
      let p2 = staffed_put team.worker k w refl inv.staffed in
      let p3 = headed_free free g.writer g.kind m.heap v g.copy g.keeper g.identity inv.headed in
      let p4 = raw_free free g.writer g.kind m.heap v inv.raw_words in
      let p14 = counts_free free g.writer g.kind m.heap v inv.counts in
      let p5 = scanned_put team.worker k w refl inv.scanned in
      let p6 = opened_free free g.writer g.kind m.heap v m.page inv.opened in
      let p7 = landing_free free g.writer g.kind m.heap v inv.landing in
      let p8 = older_free free g.writer g.kind m.heap v inv.older in
      let p9 = area in
      let p10 = old_space_free free g.writer g.kind m.heap v m.traced m.old_front m.old_low m.page stores.ready.laid_out place.0 place.1 inv.old_space in
      let p11 = stocks in
      let p12 = numbered_put team.worker k w refl inv.numbered in
      let p13 = word_keeps E m (with_word m x v) team g g k x v w (InWord x v (let b = free.below in omega (arith, b))) no_cell no_target (same_cells g) (stocked_in_chain E (team.worker k) (Some next) (team.worker k).account) inv.cells in
      let p15 = team_put team.count (Knows E m.gate m.traced m.front m.low m.old_front m.old_low m.old_owed g m.page m.cross m.announced (put m.heap x v)) team.worker k w
      (λ j l d. worker_free E m g x v j (team.worker j) free (inv.workers j l))
      (stocked_knows E (with_word m x v) g k (team.worker k) next (alike.2 ∙ (inv.workers k own.worker).stock q own.has) (worker_free E m g x v k (team.worker k) free (inv.workers k own.worker))) in
      assumption

  pub words_are_stored : Preserves E m (with_word m x v) team (with_stock team k next) g g
  words_are_stored = record {
    invariant = keeps;
    shown = λ p s. shown_put E (with_word m x v) (with_word m x v) team g k (record (team.worker k) { stock = Some next }) p refl refl refl refl refl (λ e. e) (record {
      objects = objects_free free g.writer g.kind m.heap v g.copy g.keeper g.identity p.heap s.objects;
      targets = shown_by_words E m (with_word m x v) g refl refl (λ e. e) p.heap (λ a c. put_other m.heap x v (a + 1) (λ e. no_target a c.cell (sym e))) s.targets;
      board = board_free free g.writer g.kind m.heap v (value_of g.identity) p.heap s.board;
      as_many = s.as_many;
      makers = s.makers;
      accounts = s.accounts;
      registers = s.registers;
    });
    cycle = λ p cy. record {
      copying = copying_free free g.writer g.kind m.heap v m.front g.copy g.keeper g.identity p cy.copying;
      rooted = rooted_put team.worker k (record (team.worker k) { stock = Some next }) refl refl refl (λ _ _ a b. (a, b)) (rooted_free free g.writer g.kind m.heap v m.front team.count g.identity team.worker p cy.rooted);
      made = made_put team.worker k (record (team.worker k) { stock = Some next }) refl cy.made;
    };
    ages = λ p. omega arith;
  }
