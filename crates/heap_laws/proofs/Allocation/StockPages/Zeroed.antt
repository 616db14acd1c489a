-- A word of a stock is made 0.
use Rattle.std.proofs.Common.{◌≡◌, ℕ, ◌+◌, ◌<◌, ◌≤◌, refl, arith, inl}
use Rattle.std.proofs.lemmas.Option.{slice_get_within}
use Rattle.heap_state.specs.Memory.Era.{Era, Memory}
use Rattle.heap_state.specs.Functions.{put}
use Rattle.heap_state.specs.Invariant.Ghost.{Ghost}
use Rattle.heap_state.specs.Invariant.Inductive.{Invariant}
use Rattle.heap_state.specs.Invariant.Parts.Records.{NewArea}
use Rattle.heap_state.specs.Invariant.Parts.Stocks.{Stocked}
use Rattle.heap_state.specs.Known.{Team, Stock}
use Rattle.heap_state.proofs.Puts.{each_put}
use Rattle.heap_laws.specs.Allocation.Stocks.{zeroed_further}
use Rattle.heap_laws.specs.Steps.{Ready, Preserves, with_word}
use Rattle.heap_laws.proofs.Allocation.StockPages.Stocks.{nothing_ahead, Owns, with_stock}
use Rattle.heap_laws.proofs.Allocation.StockPages.StockWords.{words_are_stored}

module _ (E : Era) (m : Memory) (team : Team) (g : Ghost) (k : ℕ) (q : Stock) (inv : Invariant E m team g) (own : Owns E team k q) (more : q.zeroed < q.end) where
  ok : Stocked E m.low g.size m.heap m.page q
  ok = inv.stocks.stocked k own.worker q own.has own.epoch

  inside : (q.at ≤ q.zeroed) × (q.zeroed < q.end)
  inside = (ok.so_far.0, more)

  mine : Stocked E m.low g.size (put m.heap q.zeroed 0) m.page (zeroed_further q)
  mine = record {
    lies = ok.lies;
    aligned = ok.aligned;
    empty = ok.empty;
    shut = ok.shut;
    opens = ok.opens;
    whole = ok.whole;
    after = ok.after;
    on_page = ok.on_page;
    so_far = (omega (arith, ok.so_far), omega (arith, more), ok.so_far.2);
    order = inl (let o = ok.order in omega (arith, o, more));
    zeros = λ x l u n. each_put (λ i v. i < q.zeroed + 1 → v ≡ 0) m.heap q.zeroed 0 x (λ d t. ok.zeros x l (omega (arith, d, t)) n) (λ _ _. refl) u;
    ahead = λ i w e. absurd (let n = slice_get_within q.ahead i w e in omega (arith, n, nothing_ahead q ok (inl more)));
    fits = λ l. absurd (omega (arith, l, nothing_ahead q ok (inl more)));
  }

  area : NewArea m.low (E.start + E.span) E.epoch g.size (put m.heap q.zeroed 0) m.page
  area = record {
    opened = inv.new.opened;
    prior = inv.new.prior;
    blank = λ x l u w o none. each_put (λ i v. v ≡ 0) m.heap q.zeroed 0 x (λ _. inv.new.blank x l u w o none) (λ _. refl);
  }

pub stocks_are_zeroed : (E : Era) (m : Memory) (team : Team) (g : Ghost) (k : ℕ) (q : Stock) → Ready E m team g k → Owns E team k q → q.zeroed < q.end
    → Preserves E m (with_word m q.zeroed 0) team (with_stock team k (zeroed_further q)) g g
stocks_are_zeroed E m team g k q ready own more = words_are_stored (record {
  ready = ready;
  own = own;
  inside = inside E m team g k q ready.invariant own more;
  alike = (refl, refl, refl);
  mine = mine E m team g k q ready.invariant own more;
  area = area E m team g k q ready.invariant own more;
})
