-- The steps of a flipper before the flip.
use Rattle.std.proofs.Common.{◌≡◌, ◌≢◌, ℕ, ◌+◌, ◌<◌, true, false, Some, refl, ◌∙◌, arith, ⊎_elim, ◌≤◌, ap}
use Rattle.std.proofs.lemmas.Bool.{cases_eq}
use Rattle.heap_state.specs.Invariant.Parts.Cells.{Cells}
use Rattle.heap_state.specs.Memory.Era.{Era, Memory, IsLaidOut}
use Rattle.heap_state.specs.Functions.{count_one}
use Rattle.heap_state.specs.Invariant.Ghost.{Ghost}
use Rattle.heap_state.specs.Invariant.Inductive.{Invariant, Knows}
use Rattle.heap_state.specs.Invariant.Parts.Knowledge.{Resets}
use Rattle.heap_state.specs.Invariant.Parts.OldSpace.{OldSpace, OldArea}
use Rattle.heap_state.specs.Invariant.Parts.Pages.{OldPages}
use Rattle.heap_state.specs.Known.{Known, Team, Reset, is_flipper, is_sized, is_cleared, is_asking}
use Rattle.heap_state.proofs.Workers.Frames.{counted_put, staffed_put, scanned_put, stocks_put, numbered_put, rooted_put}
use Rattle.heap_state.proofs.Puts.{team_put, some_same, none≢some, true_false}
use Rattle.heap_laws.specs.Flipping.Reset.{resetting, found_still, FindingStillKeeps, ReadingSizeKeeps, ReadingUsedKeeps, StoringAreaKeeps, ClearingWeakKeeps, whole_area}
use Rattle.heap_laws.specs.Cells.Frames.{GoesOnInChain}
use Rattle.heap_laws.specs.Steps.{Ready, with_worker, with_old_area, with_weak, InOldArea, InWeak, Preserves}
use Rattle.heap_laws.proofs.Cells.Ended.{clearing_weak_carries_chain}
use Rattle.heap_laws.proofs.Cells.Kept.{same_keeps, targets_stay}
use Rattle.heap_laws.proofs.Flipping.Sums.{sum_below-two, one_of, at_most_one}
use Rattle.heap_laws.proofs.Steps.Learning.{shown_put, learns, learnt}
use Rattle.heap_laws.proofs.Targets.Frames.{made_put}
use Rattle.heap_state.proofs.Workers.Posts.{flips_ask}

-- the request is at most one worker's
pub one_asks : (E : Era) (m : Memory) (team : Team) (g : Ghost) → Invariant E m team g → (j k : ℕ) → j < team.count → k < team.count
    → is_asking (team.worker j).post ≡ true → is_asking (team.worker k).post ≡ true → j ≡ k
one_asks E m team g inv j k lj lk a b = ⊎_elim (λ e. e)
    (λ (d : j ≢ k). absurd (
    let t = sum_below-two team.count (λ i. count_one (is_asking (team.worker i).post)) j k lj lk d in
    let p = one_of (is_asking (team.worker j).post) a in let q = one_of (is_asking (team.worker k).post) b in
    let r = inv.counted.request in let s = at_most_one m.gate.request in omega (arith, t, p, q, r, s)))
    (cases_eq j k)

-- at most one worker flips
pub one_flipper : (E : Era) (m : Memory) (team : Team) (g : Ghost) → Invariant E m team g → (j k : ℕ) → j < team.count → k < team.count
    → is_flipper (team.worker j).post ≡ true → is_flipper (team.worker k).post ≡ true → j ≡ k
one_flipper E m team g inv j k lj lk a b =
    one_asks E m team g inv j k lj lk (flips_ask (team.worker j).post a) (flips_ask (team.worker k).post b)

-- a flipper that knows more of its flip
module _ (E : Era) (m : Memory) (team : Team) (g : Ghost) (k : ℕ) (r : Reset) (inv : Invariant E m team g) (below : k < team.count) (flips : is_flipper (team.worker k).post ≡ true)
    (new : Resets E m.gate m.front m.low m.old_front m.old_low m.old_owed r) (smaller : r.sized ≡ false → E.old_span ≤ E.span) where
  pub knows_more : Knows E m.gate m.traced m.front m.low m.old_front m.old_low m.old_owed g m.page m.cross m.announced m.heap k (resetting (team.worker k) r)
  knows_more =
      let me = inv.workers k below in
      let a : (q : Reset) → Some r ≡ Some q → is_flipper (team.worker k).post ≡ true = λ q e. flips in
      let b : (q : Reset) → Some r ≡ Some q → Resets E m.gate m.front m.low m.old_front m.old_low m.old_owed q = λ q e. rw (← some_same e) new in
      let c : is_asking (team.worker k).post ≡ true → is_sized (Some r) ≡ false → E.old_span ≤ E.span = λ _ e. smaller e in
      assumption

  -- and that has not stored WEAK since
  pub resets_more : (r.cleared ≡ true → is_cleared (team.worker k).reset ≡ true) → Preserves E m m team (with_worker team k (resetting (team.worker k) r)) g g
  resets_more cleared = learns E m team g k (resetting (team.worker k) r) inv (assumption) (λ s e. (s, e, refl)) knows_more

  -- it stores WEAK
  module _ (z : Reset) (ready : Ready E m team g k) (has : (team.worker k).reset ≡ Some z) where
    cleared_then : Invariant E (with_weak m 0) (with_worker team k (resetting (team.worker k) r)) g
    cleared_then =
        let w' = resetting (team.worker k) r in
        let p1 = counted_put team.worker k w' refl refl inv.counted in
        let p2 = staffed_put team.worker k w' refl inv.staffed in
        let p3 = scanned_put team.worker k w' refl inv.scanned in
        let p4 = stocks_put team.worker k w' (λ _ e. e) inv.stocks in
        let p5 = numbered_put team.worker k w' refl inv.numbered in
        let p6 : Cells E (with_weak m 0) (with_worker team k w') g = record {
          ranks = inv.cells.ranks;
          chain = clearing_weak_carries_chain E m (with_weak m 0) m.weak m.weak_turn team g inv.cells.ranks k z w' ready has refl refl (InWeak 0 (omega arith)) inv.cells.chain;
          targets = targets_stay (InWeak 0 (omega arith)) tt inv.cells.targets;
        } in
        let p7 = team_put team.count (Knows E m.gate m.traced m.front m.low m.old_front m.old_low m.old_owed g m.page m.cross m.announced m.heap) team.worker k w' (λ j l d. inv.workers j l) knows_more in
        assumption

    pub stores_weak : Preserves E m (with_weak m 0) team (with_worker team k (resetting (team.worker k) r)) g g
    stores_weak = record {
      invariant = cleared_then;
      shown = λ p s. shown_put E m (with_weak m 0) team g k (resetting (team.worker k) r) p refl refl refl refl refl (λ e. e) s;
      cycle = λ p c. record {
        copying = c.copying;
        rooted = rooted_put team.worker k (resetting (team.worker k) r) refl refl refl (λ _ _ a b. (a, b)) c.rooted;
        made = made_put team.worker k (resetting (team.worker k) r) refl c.made;
      };
      ages = λ p. omega arith;
    }

pub finds_still : FindingStillKeeps
finds_still E m team g k ready flips none still behind = learnt (resets_more E m team g k (found_still m.gate) ready.invariant ready.member flips
    (record {
      unmoved = refl;
      stopped = (still, behind);
      size = λ p e. none≢some e;
      grown = λ q e. none≢some e;
      used = λ u e. none≢some e;
      sized = λ e. absurd (cc);
      stored = λ e. absurd (cc);
    })
    (λ _. (ready.invariant.workers k ready.member).unsized (flips_ask (team.worker k).post flips) (ap is_sized none)) (λ e. absurd (cc)))

pub reads_size : ReadingSizeKeeps
reads_size E m team g k r p ready e size =
    let me = ready.invariant.workers k ready.member in let o = me.reset r e in
    learnt (resets_more E m team g k (record r { size = Some p }) ready.invariant ready.member (me.resets r e)
    (record { unmoved = o.unmoved; stopped = o.stopped; size = λ q f. let z : p ≡ q = some_same f in rw (← z) size; grown = o.grown; used = o.used; sized = o.sized; stored = o.stored })
    (λ loose. me.unsized (flips_ask (team.worker k).post (me.resets r e)) (ap is_sized e ∙ loose)) (λ c. rw e c))

pub reads_used : ReadingUsedKeeps
reads_used E m team g k r u q ready e loose used grown =
    let me = ready.invariant.workers k ready.member in let o = me.reset r e in
    learnt (resets_more E m team g k (record r { grown = Some q; used = Some u }) ready.invariant ready.member (me.resets r e)
    (record {
      unmoved = o.unmoved;
      stopped = o.stopped;
      size = o.size;
      grown = λ p f. let z : q ≡ p = some_same f in rw (← z) grown;
      used = λ v f. let z : u ≡ v = some_same f in rw (← z) used;
      sized = λ f. true_false loose f;
      stored = λ f. true_false loose (o.stored f).0;
    })
    (λ _. me.unsized (flips_ask (team.worker k).post (me.resets r e)) (ap is_sized e ∙ loose)) (λ c. rw e c))

pub clears_weak : ClearingWeakKeeps
clears_weak E m team g k r ready e =
    let me = ready.invariant.workers k ready.member in let o = me.reset r e in
    record {
      later = with_weak m 0;
      writes = InWeak 0 (omega arith);
      keeps = stores_weak E m team g k (record r { cleared = true }) ready.invariant ready.member (me.resets r e)
          (record { unmoved = o.unmoved; stopped = o.stopped; size = o.size; grown = o.grown; used = o.used; sized = o.sized; stored = o.stored })
          (λ loose. me.unsized (flips_ask (team.worker k).post (me.resets r e)) (ap is_sized e ∙ loose)) r ready e;
    }

module _ (E : Era) (m : Memory) (team : Team) (g : Ghost) (k : ℕ) (r : Reset) (front low u : ℕ) (out : IsLaidOut E) (inv : Invariant E m team g) (below : k < team.count)
    (has : (team.worker k).reset ≡ Some r) (sized : r.sized ≡ true) (used : r.used ≡ Some u) (at_start : front ≡ E.old_start) (at_end : low ≡ E.old_start + E.old_span) where
  abbrev w' : Known
  w' = resetting (team.worker k) (record r { stored = true })

  me : Knows E m.gate m.traced m.front m.low m.old_front m.old_low m.old_owed g m.page m.cross m.announced m.heap k (team.worker k)
  me = inv.workers k below

  flips : is_flipper (team.worker k).post ≡ true
  flips = me.resets r has

  traced : m.traced ≡ E.epoch + 1
  traced = (me.seen_traced (me.asks (flips_ask (team.worker k).post flips))).1

  abbrev KnowsNow : ℕ → Known → Type 0
  KnowsNow = Knows E m.gate m.traced m.front m.low front low u g m.page m.cross m.announced m.heap

  new : Resets E m.gate m.front m.low front low u (record r { stored = true })
  new = let o = me.reset r has in record { unmoved = o.unmoved; stopped = o.stopped; size = o.size; grown = o.grown; used = o.used; sized = o.sized; stored = λ e. (sized, at_start, at_end, used) }

  others : (j : ℕ) → j < team.count → j ≢ k → KnowsNow j (team.worker j)
  others j l d =
      let v = inv.workers j l in
      let a : (q : Reset) → (team.worker j).reset ≡ Some q → Resets E m.gate m.front m.low front low u q = λ q e. absurd (d (one_flipper E m team g inv j k l below (v.resets q e) flips)) in
      assumption

  own : KnowsNow k w'
  own =
      let v = me in
      let a : (q : Reset) → w'.reset ≡ Some q → is_flipper (team.worker k).post ≡ true = λ q e. flips in
      let b : (q : Reset) → w'.reset ≡ Some q → Resets E m.gate m.front m.low front low u q = λ q e. rw (← some_same e) new in
      let c : is_asking (team.worker k).post ≡ true → is_sized w'.reset ≡ false → E.old_span ≤ E.span = λ _ e. true_false e sized in
      assumption

  invariant : Invariant E (with_old_area m front low u) (with_worker team k w') g
  invariant =
      let p1 = counted_put team.worker k w' refl refl inv.counted in
      let p2 = staffed_put team.worker k w' refl inv.staffed in
      let p3 = scanned_put team.worker k w' refl inv.scanned in
      let p4 : OldSpace E m.traced front low g.size m.heap m.page = record { walks = λ y. absurd (omega (arith, y, traced)) } in
      let p9 : OldArea E front low = record { order = (omega (arith, at_start), omega (arith, at_start, at_end), omega (arith, at_end)) } in
      let p5 : OldPages E front m.page = record { old = λ p l n. absurd (omega (arith, at_start, l, n)) } in
      let p6 = stocks_put team.worker k w' (λ _ e. e) inv.stocks in
      let p7 = numbered_put team.worker k w' refl inv.numbered in
      let goes : GoesOnInChain E w' (team.worker k) = record { linking = refl; pass = refl; cleared = λ e. rw has e; licence = λ _ knows may. (may, knows); ground = λ _. (refl, refl) } in
      let p10 = same_keeps E m (with_old_area m front low u) team g g k w' (assumption) (assumption) (assumption) goes inv.cells in
      let p8 = team_put team.count KnowsNow team.worker k w' others own in
      assumption

  pub stores_area : Preserves E m (with_old_area m front low u) team (with_worker team k w') g g
  stores_area = record {
    invariant = invariant;
    shown = λ p s. shown_put E m (with_old_area m front low u) team g k w' p refl refl refl refl refl (λ e. e) s;
    cycle = λ p c. record {
      copying = c.copying;
      rooted = rooted_put team.worker k w' refl refl refl (λ _ _ a b. (a, b)) c.rooted;
      made = made_put team.worker k w' refl c.made;
    };
    ages = λ p. omega arith;
  }

pub stores_area_word : StoringAreaKeeps
stores_area_word E m team g k r u ready has sized used fits = record {
  later = with_old_area m (E.old_start + 0) (E.old_start + E.old_span) u;
  writes = InOldArea (whole_area E.old_span u) fits;
  keeps = stores_area E m team g k r (E.old_start + 0) (E.old_start + E.old_span) u ready.laid_out ready.invariant ready.member has sized used (omega arith) refl;
}
