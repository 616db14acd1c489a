-- The rows that a mutator writes where it claims pages, makes them 0 and opens them.
use Rattle.std.proofs.Common.{◌≡◌, ℕ, ◌+◌, ◌-◌, ◌*◌, true, false, Some, [], refl, sym, arith, subst, ◌⊎◌, inl, inr}
use Rattle.std.proofs.lemmas.Bool.{cases_Bool}
use Rattle.space_map.specs.AreaWord.{AreaFits}
use Rattle.space_map.specs.declared.area_word.AreaWord.{AreaWord}
use Rattle.space_map.specs.declared.page_word.PageWord.TheVariants.{Open}
use Rattle.space_map.specs.Spaces.{to_space}
use Rattle.heap_state.specs.Memory.Entries.{AreaIs, PageIs}
use Rattle.heap_state.specs.Memory.Era.{Era, Memory}
use Rattle.heap_state.specs.Invariant.Ghost.{Ghost}
use Rattle.heap_state.specs.Targets.{Targets}
use Rattle.heap_state.specs.Known.{Team, Stock, is_running}
use Rattle.heap_laws.specs.Allocation.Stocks.{HasRoomForPages, StocksAreClaimed, StocksAreZeroed, StocksAreOpened, claimed, lowered, owed_beside, stocked, opened_further, RoomIsSeen}
use Rattle.heap_laws.specs.Steps.{Ready, IsAreaNow, Steps, Preserves, WritesRow, InArea, InPage, InWord, with_area, with_page, with_worker}
use Rattle.heap_laws.proofs.Allocation.StockPages.Claimed.{FitsPages, below_low, with_low, stocks_are_claimed}
use Rattle.heap_laws.proofs.Allocation.StockPages.Opened.{stocks_are_opened}
use Rattle.heap_laws.proofs.Allocation.StockPages.Stocks.{owns, opens_of, with_stock}
use Rattle.heap_laws.proofs.Allocation.StockPages.Zeroed.{stocks_are_zeroed}
use Rattle.heap_laws.proofs.Targets.Placed.{claiming_carries_targets}

-- ---- pages claimed

pub room_is_seen : RoomIsSeen
room_is_seen E m team g k n area ready sees = by_seen (cases_Bool (team.worker k).traced_seen)
  where
    by_seen : ((team.worker k).traced_seen ≡ true) ⊎ ((team.worker k).traced_seen ≡ false) → HasRoomForPages E m area n (owed_beside (team.worker k).traced_seen area)
    by_seen (inl s) =
        let t = ((ready.invariant.workers k ready.member).seen_traced s).1 in
        let z : owed_beside (team.worker k).traced_seen area ≡ 0 = rw s refl in
        record { room = omega (arith, sees); beside = λ l. absurd (omega (arith, l, t)); small = omega (arith, z) }
    by_seen (inr s) =
        let z : owed_beside (team.worker k).traced_seen area ≡ area.owed = rw s refl in
        record { room = omega (arith, sees); beside = λ l. (z, omega (arith, sees)); small = omega (arith, z) }

module _ (E : Era) (m : Memory) (team : Team) (g : Ghost) (k n owed : ℕ) (area : AreaWord) (ready : Ready E m team g k) (runs : is_running (team.worker k).post ≡ true) (now : IsAreaNow E m area)
    (has : HasRoomForPages E m area n owed) where
  epoch : (team.worker k).epoch ≡ E.epoch
  epoch = (ready.invariant.workers k ready.member).timely.running runs

  fits : FitsPages E m n owed
  fits = record {
    room = let r = has.room in omega (arith, r, now.front, now.low);
    beside = λ l. let b = has.beside l in (omega (arith, b, now.owed), omega (arith, b, now.front, now.low));
    small = let s = has.small in omega (arith, s, now.owed);
  }

  row_fits : AreaFits (lowered area n owed)
  row_fits = let a = now.fits in let s = fits.small in record { front_fits = a.front_fits; low_fits = (let l = a.low_fits in omega (arith, l)); owed_fits = (let o = a.owed_fits in let t = now.owed in omega (arith, s, t, o)) }

  -- LOW, as an address
  low_is : E.start + (area.low - 64 * n) ≡ m.low - 64 * n
  low_is = let r = has.room in omega (arith, r, now.low)

  memory_is : with_area m (E.start + area.front) (E.start + (area.low - 64 * n)) owed ≡ with_low m (m.low - 64 * n) owed
  memory_is = λ i. with_area m (sym now.front i) (low_is i) owed

  stock_is : claimed (team.worker k).epoch E.start area n ≡ below_low E m n
  stock_is = λ i. record { epoch = epoch i; at = low_is i; end = sym now.low i; zeroed = low_is i; opened = low_is i; ahead = [] }

  writes : WritesRow E m (Some (AreaIs (to_space E.epoch) (lowered area n owed))) (with_area m (E.start + area.front) (E.start + (area.low - 64 * n)) owed)
  writes = InArea (lowered area n owed) row_fits

  targets : Targets E (with_low m (m.low - 64 * n) owed) g
  targets = subst (λ (x : Memory). Targets E x g) memory_is
      (claiming_carries_targets E m (with_area m (E.start + area.front) (E.start + (area.low - 64 * n)) owed) team g k n owed area ready now has writes ready.invariant.cells.targets)

  claims : Steps E m team g k (Some (AreaIs (to_space E.epoch) (lowered area n owed))) (stocked (team.worker k) (claimed (team.worker k).epoch E.start area n)) g
  claims = record {
    later = with_area m (E.start + area.front) (E.start + (area.low - 64 * n)) owed;
    writes = writes;
    keeps = subst (λ (x : Memory). Preserves E m x team (with_worker team k (stocked (team.worker k) (claimed (team.worker k).epoch E.start area n))) g g) (sym memory_is)
        (subst (λ (q : Stock). Preserves E m (with_low m (m.low - 64 * n) owed) team (with_stock team k q) g g) (sym stock_is) (stocks_are_claimed E m team g k n owed ready runs fits targets));
  }

pub claims_pages : StocksAreClaimed
claims_pages = claims

-- ---- words made 0

pub zeroes_words : StocksAreZeroed
zeroes_words E m team g k q ready own more =
    let o = owns q ready own in
    let y = (ready.invariant.stocks.stocked k ready.member q o.has o.epoch).lies in
    record {
      later = _;
      writes = InWord q.zeroed 0 (let b = ready.laid_out.below in omega (arith, y, b, more));
      keeps = stocks_are_zeroed E m team g k q ready o more;
    }

-- ---- pages opened

pub opens_pages : StocksAreOpened
opens_pages E m team g k page q ready next =
    let o = opens_of q page ready next in
    let y = (ready.invariant.stocks.stocked k ready.member q o.own.has o.own.epoch).lies in
    let now : (team.worker k).epoch ≡ E.epoch = (ready.invariant.workers k ready.member).timely.running next.own.runs in
    subst (λ (e : ℕ). Steps E m team g k (Some (PageIs page (Open e))) (stocked (team.worker k) (opened_further q)) g) (sym now) (record {
      later = with_page m page (Open E.epoch);
      writes = InPage page (Open E.epoch) (let b = ready.laid_out.below in let t = o.at in let n = o.more in omega (arith, y, b, t, n)) (let f = ready.invariant.counted.epoch_fits in let a = ready.at_gate in omega (arith, f, a));
      keeps = stocks_are_opened E m team g k page q ready o;
    })
