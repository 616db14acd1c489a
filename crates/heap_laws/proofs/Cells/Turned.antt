-- The turn to walk over the chain of copied cells is taken, and TRACED is exchanged at the end of the walk.
use Rattle.std.proofs.Common.{◌≡◌, ℕ, ◌+◌, ◌<◌, ◌≤◌, Option, Some, None, is_some, refl, sym, ap, ◌∙◌, arith, ⊎_elim, inr}
use Rattle.std.proofs.lemmas.Bool.{cases_lt}
use Rattle.heap_state.specs.Cells.{Ranks, Passing, Chain}
use Rattle.heap_state.specs.Memory.Entries.{Entry, TracedIs, WeakTurnIs}
use Rattle.heap_state.specs.Memory.Era.{Era, Memory}
use Rattle.heap_state.specs.Invariant.Ghost.{Ghost}
use Rattle.heap_state.specs.Known.{Known, Team, LastLook, Linking, Pass, Begins, Done, cell_to_link}
use Rattle.heap_state.proofs.Puts.{put_at, proj_put, some_same, none≢some}
use Rattle.heap_laws.specs.Cells.Walks.{SameBesidePass, TakingTurnCarriesChain, IsWalked, WalkIsDone, TracingCarriesChain}
use Rattle.heap_laws.specs.Tracing.{WinsTurn}
use Rattle.heap_laws.specs.Steps.{Ready, WritesRow, InTraced, InWeakTurn, Beside, with_worker, with_traced, with_weak_turn}
use Rattle.heap_laws.proofs.Cells.Carried.{links_stay}
use Rattle.heap_laws.proofs.Cells.Ended.{ended}
use Rattle.heap_laws.proofs.Cells.Linked.{may_copy_still}
use Rattle.heap_laws.proofs.Tracing.SecondLooks.{looked_twice}
use Rattle.heap_laws.proofs.Cells.ChainParts.{chain_of, cell_in, value_in, none_copies}

-- ---- rows

pub turn_memory : {E : Era} {m : Memory} {e : Option Entry} {later : Memory} {word : ℕ} → WritesRow E m e later → e ≡ Some (WeakTurnIs word) → later ≡ with_weak_turn m word
turn_memory {m = m} {word = word} (InWeakTurn other) is = let a : other ≡ word = cc in ap (with_weak_turn m) a
turn_memory {word = word} (Beside e beside) is = absurd (let f : e ≡ WeakTurnIs word = cc in rw f at beside)
turn_memory _ is = absurd (cc)

pub traced_memory : {E : Era} {m : Memory} {e : Option Entry} {later : Memory} {word : ℕ} → WritesRow E m e later → e ≡ Some (TracedIs word) → later ≡ with_traced m word
traced_memory {m = m} {word = word} (InTraced other) is = let a : other ≡ word = cc in ap (with_traced m) a
traced_memory {word = word} (Beside e beside) is = absurd (let f : e ≡ TracedIs word = cc in rw f at beside)
traced_memory _ is = absurd (cc)

-- ---- the turn is taken

module _ (E : Era) (m : Memory) (weak turn : ℕ) (team : Team) (g : Ghost) (r : Ranks) (k : ℕ) (l : LastLook) (w : Known) (ready : Ready E m team g k) (wins : WinsTurn turn team k l)
    (gets : w.pass ≡ Some Begins) (like : SameBesidePass w (team.worker k)) (chain : Chain E m weak turn team g r) where
  past : (team.worker k).epoch ≤ E.epoch
  past = (ready.invariant.workers k ready.member).timely.past

  now : (team.worker k).epoch ≡ E.epoch
  now = let t = chain.top in omega (arith, t, wins.free, past)

  was : turn ≡ E.epoch
  was = let t = chain.top in omega (arith, t, wins.free, past)

  untraced : m.traced ≤ E.epoch
  untraced = ⊎_elim
      (λ (y : m.traced < E.epoch + 1). omega (arith, y))
      (λ (y : E.epoch + 1 ≤ m.traced). let t = ready.invariant.tracing.top in let e : m.traced ≡ E.epoch + 1 = omega (arith, y, t) in let z = chain.turned e in absurd (omega (arith, z, was)))
      (cases_lt m.traced (E.epoch + 1))

  same_traced : l.traced ≡ m.traced
  same_traced =
      let a = (looked_twice ready wins.looks).earlier in
      let b = ready.invariant.tracing.bottom in
      omega (arith, a, b, wins.of_epoch, now, untraced)

  -- nobody walks
  nobody : (j : ℕ) (q : Pass) → j < team.count → ¬ ((team.worker j).pass ≡ Some q)
  nobody j q y e = let z = (chain.pass j q y e).now.2 in omega (arith, z, was)

  abbrev turned : ℕ
  turned = (team.worker k).epoch + 1

  cell_then : (j : ℕ) → cell_to_link ((with_worker team k w).worker j).linking ≡ cell_to_link (team.worker j).linking
  cell_then j = proj_put (λ (x : Known). cell_to_link x.linking) team.worker k w j (ap cell_to_link like.linking)

  abbrev later : Memory
  later = with_weak_turn m turned

  own : Passing E later turned g r w Begins
  own = record {
    now = (like.ground.0 ∙ now, untraced, ap (λ z. z + 1) now);
    look = (l, like.ground.1 ∙ wins.looks, same_traced);
    at = λ v e. absurd (cc);
    passed = λ a p le. absurd (let z = ((chain.linked untraced).ranked a p).1 in omega (arith, z, le));
  }

  pub takes_turn : Chain E later weak turned (with_worker team k w) g r
  takes_turn = chain_of E later weak turned team g r k w (record {
    top = inr (ap (λ z. z + 1) now);
    turned = λ _. ap (λ z. z + 1) now;
    linked = λ le. let o = chain.linked le in record { ranked = o.ranked; alone = o.alone; head = o.head; link = o.link };
    all = λ le a c z. let o = chain.all le a c z in record { worker = o.worker; member = o.member; links = cell_then o.worker ∙ o.links };
    others_link = λ j x y _ e. let o = chain.linking j x y e in links_stay E m later g g r (team.worker j) (team.worker j) x refl (λ _ c. c) refl (λ q z. (z, q)) o;
    own_link = λ x y e. let o = chain.linking k x y (sym like.linking ∙ e) in links_stay E m later g g r w (team.worker k) x refl (λ _ c. c) refl (may_copy_still E w (team.worker k) like.post like.ground.0 like.scan like.asked) o;
    own_apart = λ j a y z d e f. d (chain.apart j k a y z f (sym (ap cell_to_link like.linking) ∙ e));
    others_pass = λ j q y _ e. absurd (nobody j q y e);
    own_pass = λ q _ e. rw (← some_same (sym gets ∙ e)) own;
    own_one = λ j y _ _ _ e. let q = value_in (team.worker j).pass e in nobody j q.0 y q.1;
    walker = λ _ _. record { worker = k; member = ready.member; walks = ap (λ (x : Known). is_some x.pass) (put_at team.worker k w k refl) ∙ ap is_some gets };
    others_reset = λ j y _ e. chain.reset j y e;
    own_reset = λ y e. chain.reset k y (rw like.reset at e);
    three = chain.three;
  }) chain.apart chain.one

pub taking_turn_carries_chain : TakingTurnCarriesChain
taking_turn_carries_chain E m later weak turn team g r k l w ready wins gets writes like chain =
    let s : later ≡ with_weak_turn m ((team.worker k).epoch + 1) = turn_memory writes refl in
    rw s (takes_turn E m weak turn team g r k l w ready wins gets like chain)

-- ---- the walk is done

-- who walks is alone: nobody has a cell to link
module _ (E : Era) (m : Memory) (weak turn : ℕ) (team : Team) (g : Ghost) (r : Ranks) (k : ℕ) (q : Pass) (ready : Ready E m team g k) (has : (team.worker k).pass ≡ Some q) (chain : Chain E m weak turn team g r) where
  knows : Passing E m turn g r (team.worker k) q
  knows = chain.pass k q ready.member has

  none_link : (j : ℕ) (l : Linking) → j < team.count → ¬ ((team.worker j).linking ≡ Some l)
  none_link j l y e = none_copies E m weak turn team g r ready.invariant chain k j q ready.member y has (chain.linking j l y e).licensed

  pub walked : q ≡ Done → IsWalked E m g
  walked done = record {
    clean = λ a c. ⊎_elim
        (λ (p : 0 < r.rank a). knows.passed a p (rw done (omega (arith, p))))
        (λ (z : r.rank a ≤ 0).
        let o = chain.all knows.now.1 a c (omega (arith, z)) in
        let l = cell_in (team.worker o.worker).linking a o.links in
        absurd (none_link o.worker l.0 o.member l.1))
        (cases_lt 0 (r.rank a));
  }

  pub traces : (w : Known) → w.pass ≡ None → w.linking ≡ (team.worker k).linking → w.reset ≡ (team.worker k).reset → Chain E (with_traced m ((team.worker k).epoch + 1)) weak turn (with_worker team k w) g r
  traces w pass linking reset = ended E (with_traced m ((team.worker k).epoch + 1)) weak turn team g r k w (ap (λ z. z + 1) knows.now.0) knows.now.2 chain.apart chain.one
      (λ j l y _. none_link j l y) (λ l y e. none_link k l y (sym linking ∙ e))
      (λ j q y d e. d (chain.one j k y ready.member (ap is_some e) (ap is_some has))) (λ q _ e. none≢some (sym pass ∙ e))
      (λ j y _. chain.reset j y) (λ y e. chain.reset k y (rw reset at e)) chain.three

pub walk_is_done : WalkIsDone
walk_is_done E m weak turn team g r k ready has chain = walked E m weak turn team g r k Done ready has chain refl

pub tracing_carries_chain : TracingCarriesChain
tracing_carries_chain E m later weak turn team g r k w ready walks pass linking reset writes chain =
    let s : later ≡ with_traced m ((team.worker k).epoch + 1) = traced_memory writes refl in
    let q = value_in (team.worker k).pass walks in
    rw s (traces E m weak turn team g r k q.0 ready q.1 chain w pass linking reset)
