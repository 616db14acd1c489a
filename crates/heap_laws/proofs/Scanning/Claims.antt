-- The loads before a page is claimed.
use Rattle.std.proofs.Common.{◌≡◌, ◌≢◌, ℕ, ◌+◌, ◌<◌, true, Some, refl, ap, ◌∙◌, arith, ⊎_elim, inl, inr}
use Rattle.std.proofs.lemmas.Bool.{cases_eq}
use Rattle.heap_state.specs.Memory.Era.{Era, Memory}
use Rattle.heap_state.specs.Invariant.Ghost.{Ghost}
use Rattle.heap_state.specs.Invariant.Inductive.{Invariant}
use Rattle.heap_state.specs.Invariant.Parts.Scanning.{Claims}
use Rattle.heap_state.specs.Known.{Team, Claim}
use Rattle.heap_state.proofs.Records.Holding.{writer}
use Rattle.heap_state.proofs.Puts.{some_same}
use Rattle.heap_laws.specs.Scanning.Claims.{claiming, claim_by_word, BeginningClaimKeeps, LookingAtPlaceKeeps, LookingAtGateKeeps}
use Rattle.heap_laws.specs.Steps.{with_worker, Preserves}
use Rattle.heap_laws.proofs.Steps.Learning.{learns, learnt}

-- a worker that knows what its new claim says
module _ (E : Era) (m : Memory) (team : Team) (g : Ghost) (k : ℕ) (q : Claim) (inv : Invariant E m team g) (below : k < team.count)
    (new : Claims E m.front m.gate.behind g.size g.writer m.page (team.worker k).epoch q) where
  pub claims_more : Preserves E m m team (with_worker team k (claiming (team.worker k) q)) g g
  claims_more = learns E m team g k (claiming (team.worker k) q) inv
      (assumption)
      (λ s e. (s, e, refl))
      (let me = inv.workers k below in let c : (c : Claim) → Some q ≡ Some c → Claims E m.front m.gate.behind g.size g.writer m.page (team.worker k).epoch c = λ c e. rw (← some_same e) new in
      assumption)

pub begins_claim : BeginningClaimKeeps
begins_claim E m team g k p old ready may = learnt (claims_more E m team g k (claim_by_word old p) ready.invariant ready.member (record {
  earlier = may.earlier;
  full = λ now _. ⊎_elim (λ b. inr b) (λ f. inl (f.0, ⊎_elim (λ y. y) (λ y. let z = ((ready.invariant.workers k ready.member).pages.round y.0 y.2).front_then y.1 y.3 now in omega (arith, z, y.4)) f.1)) (may.full now);
  clear = λ now i b j st w l. absurd (omega (arith, l));
  last = λ now i. absurd (cc);
  late = λ s. absurd (cc);
  in_place = λ i. absurd (cc);
}))

-- each reserved place is announced by its worker
announced : (E : Era) (m : Memory) (team : Team) (g : Ghost) (inv : Invariant E m team g) (b k : ℕ) → 0 < g.size b → g.writer b ≡ k + 1 → m.announced k ≡ b + 1
announced E m team g inv b k st w =
    let y = writer E m team g inv b k st w in
    let c = (inv.workers k y.below).copy y.copy y.copies in
    let n = c.named (c.place y.reserved).0 in
    n.0 ∙ ap (λ x. x + 1) y.to

pub looks_at_place : LookingAtPlaceKeeps
looks_at_place E m team g k q ready sees =
    let inv = ready.invariant in
    let old = (inv.workers k ready.member).pages.claim q sees.claims in
    learnt (claims_more E m team g k (record q { looked = q.looked + 1 }) inv ready.member (record {
      earlier = old.earlier;
      full = old.full;
      last = old.last;
      late = old.late;
      in_place = old.in_place;
      clear = λ now i b j st w l. ⊎_elim
          (λ (y : j ≡ q.looked). let a = announced E m team g inv b j st w in let z : m.announced j ≡ m.announced q.looked = ap m.announced y in let f = sees.free in inl (omega (arith, a, z, f)))
          (λ (y : j ≢ q.looked). old.clear now i b j st w (omega (arith, l, y)))
          (cases_eq j q.looked);
    }))

pub looks_at_gate : LookingAtGateKeeps
looks_at_gate E m team g k q ready sees =
    let old = (ready.invariant.workers k ready.member).pages.claim q sees.claims in
    learnt (claims_more E m team g k (record q { sure = true }) ready.invariant ready.member (record {
      earlier = old.earlier;
      full = old.full;
      last = old.last;
      clear = old.clear;
      late = λ s d. absurd (let a = ready.at_gate in let b = sees.same in omega (arith, a, b, d));
      in_place = λ i. refl;
    }))
