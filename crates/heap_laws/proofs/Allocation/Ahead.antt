-- A word is stored ahead of the next record's header.
use Rattle.std.proofs.Common.{◌≡◌, ◌≢◌, ℕ, ◌+◌, ◌<◌, ◌≤◌, ◌∷◌, [], length, slice_get, Some, refl, sym, subst, ◌∙◌, arith, ⊎_elim, inl, inr}
use Rattle.std.proofs.lemmas.Bool.{cases_lt}
use Rattle.std.proofs.lemmas.List.{length-append}
use Rattle.std.proofs.lemmas.Option.{slice_get_within}
use Rattle.plain_state.proofs.Elements.{slice_get-append_end, slice_get-append_front}
use Rattle.heap_state.specs.Memory.Era.{Era, Memory}
use Rattle.heap_state.specs.Functions.{put}
use Rattle.heap_state.specs.Invariant.Ghost.{Ghost}
use Rattle.heap_state.specs.Invariant.Inductive.{Invariant}
use Rattle.heap_state.specs.Invariant.Parts.Records.{NewArea, WalkComesTo}
use Rattle.heap_state.specs.Invariant.Parts.Stocks.{Stocked}
use Rattle.heap_state.specs.Known.{Team, Stock, IsNotAhead}
use Rattle.heap_state.proofs.Puts.{put_at, put_other, some_same}
use Rattle.heap_laws.specs.Allocation.Stocks.{StoresAhead, WordsAreStoredAhead, with_ahead}
use Rattle.heap_laws.specs.Steps.{InWord}
use Rattle.heap_laws.proofs.Allocation.StockPages.Stocks.{Owns, owns}
use Rattle.heap_laws.proofs.Allocation.StockPages.StockWords.{words_are_stored}

module _ (E : Era) (m : Memory) (team : Team) (g : Ghost) (k v : ℕ) (q : Stock) (inv : Invariant E m team g) (own : Owns E team k q) (stores : StoresAhead team k q) where
  abbrev x : ℕ
  x = q.at + 1 + length q.ahead

  abbrev next : Stock
  next = with_ahead q v

  ok : Stocked E m.low g.size m.heap m.page q
  ok = inv.stocks.stocked k own.worker q own.has own.epoch

  inside : (q.at ≤ x) × (x < q.end)
  inside = (omega arith, stores.fits)

  -- the word is the first of no page, and behind no record
  unwalked : ¬ (WalkComesTo g.size x)
  unwalked (inl e) = let p = ok.on_page in let f = stores.fits in let n = stores.near in omega (arith, e, p, f, n)
  unwalked (inr r) = let y = ok.empty r.0 r.1 in let f = stores.fits in omega (arith, y, r.1, r.2, f)

  longer : length next.ahead ≡ length q.ahead + 1
  longer = length-append q.ahead (v ∷ [])

  -- each word ahead was there before, or is the new one
  word_ahead : (i w : ℕ) → slice_get next.ahead i ≡ Some w → put m.heap x v (q.at + 1 + i) ≡ w
  word_ahead i w e = ⊎_elim
      (λ (l : i < length q.ahead). put_other m.heap x v (q.at + 1 + i) (λ d. omega (arith, d, l)) ∙ ok.ahead i w (sym (slice_get-append_front q.ahead i v l) ∙ e))
      (λ (l : length q.ahead ≤ i).
      let last : i ≡ length q.ahead = (let n = slice_get_within next.ahead i w e in let s = longer in omega arith) in
      let same : v ≡ w = some_same (sym (slice_get-append_end q.ahead v) ∙ subst (λ (n : ℕ). slice_get next.ahead n ≡ Some w) last e) in
      put_at m.heap x v (q.at + 1 + i) (omega arith) ∙ same)
      (cases_lt i (length q.ahead))

  was : (y : ℕ) → IsNotAhead next y → IsNotAhead q y × (y ≢ x)
  was y (inl e) = (inl e, λ d. omega arith)
  was y (inr l) = let s = longer in (inr (omega arith), λ d. omega arith)

  mine : Stocked E m.low g.size (put m.heap x v) m.page next
  mine = record {
    lies = ok.lies;
    so_far = ok.so_far;
    aligned = ok.aligned;
    empty = ok.empty;
    shut = ok.shut;
    opens = ok.opens;
    order = ok.order;
    whole = ok.whole;
    after = ok.after;
    on_page = ok.on_page;
    zeros = λ y l u n. rw (put_other m.heap x v y (was y n).1) (ok.zeros y l u (was y n).0);
    ahead = word_ahead;
    fits = λ l. let r = stores.run in let f = stores.fits in let s = longer in (r.0, r.1, omega arith);
  }

  area : NewArea m.low (E.start + E.span) E.epoch g.size (put m.heap x v) m.page
  area = record {
    opened = inv.new.opened;
    prior = inv.new.prior;
    blank = λ y l u w o none. rw (put_other m.heap x v y (λ e. unwalked (subst (WalkComesTo g.size) e w))) (inv.new.blank y l u w o none);
  }

pub stores_ahead : WordsAreStoredAhead
stores_ahead E m team g k v q ready stores =
    let o = owns q ready stores.own in
    let y = (ready.invariant.stocks.stocked k ready.member q o.has o.epoch).lies in
    record {
      later = _;
      writes = InWord (q.at + 1 + length q.ahead) v (let b = ready.laid_out.below in let f = stores.fits in omega (arith, y, b, f));
      keeps = words_are_stored (record {
        ready = ready;
        own = o;
        inside = inside E m team g k v q ready.invariant o stores;
        alike = (refl, refl, refl);
        mine = mine E m team g k v q ready.invariant o stores;
        area = area E m team g k v q ready.invariant o stores;
      });
    }
