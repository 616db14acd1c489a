-- Pages are claimed for new records, and a record is placed.
use Rattle.std.proofs.Common.{◌≡◌, ◌≢◌, ℕ, ◌+◌, ◌<◌, ◌≤◌, refl, sym, ◌∙◌, arith, ⊎_elim}
use Rattle.std.proofs.lemmas.Bool.{cases_eq}
use Rattle.plain_state.specs.declared.kind.Kind.{Kind}
use Rattle.plain_state.specs.declared.kind.Kind.TheVariants.{Weak}
use Rattle.space_map.specs.declared.area_word.AreaWord.{AreaWord}
use Rattle.heap_state.specs.Cells.{Ranks, Chain}
use Rattle.heap_state.specs.Memory.Era.{Era, Memory}
use Rattle.heap_state.specs.Invariant.Ghost.{Ghost, Leads, Lands}
use Rattle.heap_state.specs.Invariant.Parts.Stocks.{Stocked}
use Rattle.heap_state.specs.Targets.{IsCell, Targets}
use Rattle.heap_state.specs.Known.{Team, Stock}
use Rattle.heap_state.proofs.Puts.{put_at, put_other, each_put}
use Rattle.heap_laws.specs.Allocation.Records.{PlacesNext, allocated, next_identity}
use Rattle.heap_laws.specs.Allocation.Stocks.{HasRoomForPages, lowered}
use Rattle.heap_laws.specs.Fields.Held.{MayHold}
use Rattle.heap_laws.specs.Steps.{Ready, IsAreaNow}
use Rattle.heap_laws.specs.Targets.Records.{ClaimingCarriesTargets, MayBeTarget, PlacingCarriesTargets, NewTargetsAreStored}
use Rattle.heap_laws.proofs.Allocation.StockPages.Stocks.{target_ahead}
use Rattle.heap_laws.proofs.Cells.Placed.{some_values}
use Rattle.heap_laws.proofs.Cells.ChainRows.{StoresWord, stores_word, StoresArea, stores_area}
use Rattle.heap_laws.proofs.Frames.Values.{zero_clean, zero_lands}
use Rattle.heap_laws.proofs.Targets.Carried.{carried, cell_of, copied_cell, lands_still}
use Rattle.heap_laws.proofs.Targets.TargetRows.{no_target_words}

-- ---- pages are claimed

module _ (E : Era) (m later : Memory) (team : Team) (g : Ghost) (k n owed : ℕ) (area : AreaWord) (ready : Ready E m team g k) (now : IsAreaNow E m area) (room : HasRoomForPages E m area n owed)
    (s : StoresArea E m later (lowered area n owed)) (t : Targets E m g) where
  front : later.front ≡ m.front
  front = s.front ∙ sym now.front

  pub claims : Targets E later g
  claims = carried E m later g g (record {
    traced = s.traced;
    front = omega (arith, front);
    fewer = λ a c. c;
    below = λ a c. rw (← front) c.inside.1;
    above = λ a c from to.
        let st = c.stands in
        let y = ready.invariant.laid.lies a st in
        let o = ready.invariant.laid.order in
        let p = ready.laid_out.apart in
        let f = now.front in
        let l = s.low in
        let x = room.room in
        omega (arith, st, y, o, p, f, l, x, from, to);
    targets = λ a c. rw s.heap refl;
    stands = λ b l. l;
    written = λ b l e. e;
  }) t

pub claiming_carries_targets : ClaimingCarriesTargets
claiming_carries_targets E m later team g k n owed area ready now room writes t = claims E m later team g k n owed area ready now room (stores_area writes refl) t

-- ---- a place in a run

module _ (E : Era) (m : Memory) (team : Team) (g : Ghost) (k : ℕ) (s : Stock) (c : Kind) (z v target : ℕ) (ready : Ready E m team g k) (places : PlacesNext team k s c z v target) where
  pub stocked : Stocked E m.low g.size m.heap m.page s
  stocked =
      let me = ready.invariant.workers k ready.member in
      ready.invariant.stocks.stocked k ready.member s places.own.has (me.stock s places.own.has ∙ me.timely.running places.own.runs)

  pub room : 0 < z
  room = let y = places.some in let x = some_values c in omega (arith, x, y)

pub new_targets_are_stored : NewTargetsAreStored
new_targets_are_stored E m team g k s z v target ready places = target_ahead s (stocked E m team g k s Weak z v target ready places) target places.ahead

-- ---- a record is placed

module _ (E : Era) (m later : Memory) (weak turn : ℕ) (team : Team) (g : Ghost) (r : Ranks) (k : ℕ) (s : Stock) (c : Kind) (z v target : ℕ) (ready : Ready E m team g k) (places : PlacesNext team k s c z v target)
    (holds : c ≡ Weak → MayBeTarget E g (m.heap (s.at + 1))) (stores : StoresWord m later s.at v) (chain : Chain E m weak turn team g r) (t : Targets E m g) where
  abbrev h : Ghost
  h = allocated g s.at z c (next_identity team k)

  lies : (m.low ≤ s.at) × (s.at ≤ s.end) × (s.end ≤ E.start + E.span)
  lies = (stocked E m team g k s c z v target ready places).lies

  some : 0 < z
  some = room E m team g k s c z v target ready places

  inside : s.at < s.end
  inside = let f = places.fits in omega (arith, f, some)

  -- ---- cells

  gone : (a : ℕ) → a ≢ s.at → IsCell h a → IsCell g a
  gone a d y = record {
    stands = rw (put_other g.size s.at z a d) at y.stands;
    written = rw (put_other g.writer s.at 0 a d) at y.written;
    weak = rw (put_other g.kind s.at c a d) at y.weak;
  }

  stands : (b : ℕ) → 0 < g.size b → 0 < h.size b
  stands b l = each_put (λ (_ y : ℕ). 0 < y) g.size s.at z b (λ _. l) (λ _. some)

  written : (b : ℕ) → g.writer b ≡ 0 → h.writer b ≡ 0
  written b e = each_put (λ (_ y : ℕ). y ≡ 0) g.writer s.at 0 b (λ _. e) (λ _. refl)

  lands_on : (w : ℕ) → Lands g.size g.writer w → Lands h.size h.writer w
  lands_on w l = lands_still g h w stands (λ b _ e. written b e) l

  -- a copied cell and an old one are others
  is_other : (a : ℕ) → a < m.front → a ≢ s.at
  is_other a l e = let o = ready.invariant.laid.order in omega (arith, l, e, lies, o)

  same : (a : ℕ) → IsCell g a → later.heap (a + 1) ≡ m.heap (a + 1)
  same a y = rw stores.heap (put_other m.heap s.at v (a + 1) (λ e. (no_target_words E m weak turn team g r k ready chain).stock s places.own s.at (omega arith) inside a y (sym e)))

  -- ---- the new cell

  word : later.heap (s.at + 1) ≡ m.heap (s.at + 1)
  word = rw stores.heap (put_other m.heap s.at v (s.at + 1) (λ e. omega (arith, e)))

  module _ (cell : IsCell h s.at) where
    may : MayBeTarget E g (m.heap (s.at + 1))
    may = holds (sym (put_at g.kind s.at c s.at refl) ∙ cell.weak)

    lands : Lands h.size h.writer (later.heap (s.at + 1))
    lands = rw word (⊎_elim (λ e. zero_lands h.size h.writer (m.heap (s.at + 1)) e) (λ (y : MayHold E g.size g.writer (m.heap (s.at + 1))). lands_on (m.heap (s.at + 1)) y.lands) may)

    clean : ¬ (Leads E (later.heap (s.at + 1)))
    clean = rw word (⊎_elim (λ e. zero_clean E (m.heap (s.at + 1)) e) (λ (y : MayHold E g.size g.writer (m.heap (s.at + 1))). y.clean) may)

  pub places_record : Targets E later h
  places_record = record {
    lands = λ a y from to. ⊎_elim
        (λ (e : a ≡ s.at). rw e (lands (rw e at y)))
        (λ (d : a ≢ s.at). let x = gone a d y in rw (same a x) (lands_on (m.heap (a + 1)) (t.lands a x from to)))
        (cases_eq a s.at);
    aims = λ a b y e.
        let f = stores.memory.front in
        let i : a < m.front = rw f at y.inside.1 in
        let x = gone a (is_other a i) (cell_of E later.front h a y) in
        rw f (t.aims a b (copied_cell E m.front g a x y.inside.0 i) (rw (same a x) at e));
    new = λ a y from to. ⊎_elim
        (λ (e : a ≡ s.at). rw e (clean (rw e at y)))
        (λ (d : a ≢ s.at). let x = gone a d y in rw (same a x) (t.new a x (rw stores.low at from) to))
        (cases_eq a s.at);
    clean = λ e a y.
        let i : a < m.front = rw stores.memory.front at y.inside.1 in
        let x = gone a (is_other a i) (cell_of E later.front h a y) in
        rw (same a x) (t.clean (sym stores.memory.traced ∙ e) a (copied_cell E m.front g a x y.inside.0 i));
    older = λ le a b y old e.
        let o = ready.invariant.laid.order in
        let p = ready.laid_out.apart in
        let d : a ≢ s.at = λ i. omega (arith, i, old, lies, inside, o, p) in
        let x = gone a d y in
        let z = t.older (rw stores.memory.traced at le) a b x old (rw (same a x) at e) in
        (stands b z.0, z.1);
  }

pub placing_carries_targets : PlacingCarriesTargets
placing_carries_targets E m later weak turn team g r k s c z v target ready places holds writes chain t =
    places_record E m later weak turn team g r k s c z v target ready places holds (stores_word writes refl) chain t
