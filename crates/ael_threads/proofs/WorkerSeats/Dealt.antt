-- Each worker of the first seat gets a seat of its own.
use Rattle.std.proofs.Common.{◌≡◌, ◌≢◌, ℕ, suc, ◌+◌, ◌-◌, ◌<◌, ◌==◌, Bool, cond, List, [], ◌∷◌, ◌++◌, take, drop, length, set, slice_set, refl, sym, ◌∙◌, ap, subst, ⊎_elim, arith, eq-eqb, ne_eqb}
use mathlib.Core.Option.{some}
use lib.ListN.{get_elem?}
use Rattle.atomic_table.specs.Table as table
use Rattle.gc_worker.specs.Workers.Held.{Held}
use Rattle.ael_threads.specs.declared.view.WonClaim.{WonClaim}
use Rattle.gc_worker.specs.declared.calls.entry.Entry.{Entry}
use Rattle.ael_threads.specs.declared.view.Hand.{Hand}
use Rattle.ael_threads.specs.declared.view.Plan.{Plan}
use Rattle.ael_threads.specs.declared.view.View.{View}
use Rattle.ael_threads.specs.Histories.{Each, first_held, hand, new_hands, hand_number}
use Rattle.ael_threads.specs.Rule.{FitsView, HasHand, RuleHolds, view}
use Rattle.ael_threads.specs.Seats.{first_of, others_of}
use Rattle.ael_threads.proofs.Lists.Reads.{at_end, at_set}
use Rattle.ael_threads.proofs.Lists.Elements.{each_both, each_map, each_of_map}

-- whose a worker is once worker m went to the seat id
abbrev given : (ℕ → ℕ) → ℕ → ℕ → ℕ → ℕ
given owner m id n = cond (n == m) id (owner n)

still : (owner : ℕ → ℕ) (m id n : ℕ) → n ≢ m → given owner m id n ≡ owner n
still owner m id n other = ap (λ (b : Bool). cond b id (owner n)) (ne_eqb n m other)

now : (owner : ℕ → ℕ) (m id : ℕ) → given owner m id m ≡ id
now owner m id = ap (λ (b : Bool). cond b id (owner m)) (eq-eqb m m refl)

module _ (plan : Plan) (words : List ℕ) (workers : List Held) (log : List Entry) (owner : ℕ → ℕ) (winner : WonClaim → ℕ) where
  has_still : (m new j : ℕ) (hs : List Hand) → Each (λ (h : Hand). HasHand workers log owner j h × (h.number ≢ m)) hs → Each (HasHand workers log (given owner m new) j) hs
  has_still m new j = each_map (λ (h : Hand). HasHand workers log owner j h × (h.number ≢ m)) (HasHand workers log (given owner m new) j)
      (λ h t. record { owns = still owner m new h.number t.1 ∙ t.0.owns; state = t.0.state; calls = t.0.calls })

  -- a seat without workers
  empty_fits : (id : ℕ) (v : View) → FitsView plan words workers log owner winner id v → (j : ℕ) → FitsView plan words workers log owner winner j (view v.plan [] v.seen v.heard [])
  empty_fits id v f j = record { same = f.same; seen = f.seen; heard = f.heard; hands = tt; apart = tt; claims = tt; once = tt }

  other_fits : (m id new j : ℕ) (u : View) → owner m ≡ id → j ≢ id → FitsView plan words workers log owner winner j u → FitsView plan words workers log (given owner m new) winner j u
  other_fits m id new j u mine other f = record {
    same = f.same;
    seen = f.seen;
    heard = f.heard;
    hands = has_still m new j u.hands (each_map (HasHand workers log owner j) (λ (h : Hand). HasHand workers log owner j h × (h.number ≢ m)) (λ h t. (t, λ e. other (sym t.owns ∙ (ap owner e ∙ mine)))) u.hands f.hands);
    apart = f.apart;
    claims = f.claims;
    once = f.once;
  }

  left_fits : (id new : ℕ) (p : Plan) (d : Hand) (ds : List Hand) (seen heard : List Entry) (claims : List WonClaim) → FitsView plan words workers log owner winner id (view p (d ∷ ds) seen heard claims)
      → FitsView plan words workers log (given owner d.number new) winner id (view p ds seen heard claims)
  left_fits id new p d ds seen heard claims f = record {
    same = f.same;
    seen = f.seen;
    heard = f.heard;
    hands = has_still d.number new id ds (each_both (HasHand workers log owner id) (λ (h : Hand). h.number ≢ d.number) ds f.hands.1 (each_of_map (λ n. n ≢ d.number) hand_number ds f.apart.0));
    apart = f.apart.1;
    claims = f.claims;
    once = f.once;
  }

  right_fits : (id new : ℕ) (p : Plan) (d : Hand) (ds : List Hand) (seen heard : List Entry) (claims : List WonClaim) → FitsView plan words workers log owner winner id (view p (d ∷ ds) seen heard claims)
      → FitsView plan words workers log (given owner d.number new) winner new (view p (d ∷ []) seen heard [])
  right_fits id new p d ds seen heard claims f = record {
    same = f.same;
    seen = f.seen;
    heard = f.heard;
    hands = (record { owns = now owner d.number new; state = f.hands.0.state; calls = f.hands.0.calls }, tt);
    apart = (tt, tt);
    claims = tt;
    once = tt;
  }

-- the seat's first worker goes to a new seat
by_hands : (plan : Plan) (id : ℕ) (v : View) (hs : List Hand) → v.hands ≡ hs → (s : table.State ℕ View) → RuleHolds plan s → get_elem? s.views id ≡ some v
    → RuleHolds plan (record { words = s.words; homes = s.homes; views = slice_set s.views id (view v.plan (drop 1 hs) v.seen v.heard v.claims) ++ view v.plan (take 1 hs) v.seen v.heard [] ∷ [] })
by_hands plan id v [] e s b at =
    let f = b.seats id v at in
    let new : View = view v.plan [] v.seen v.heard v.claims in record {
      log = b.log;
      workers = b.workers;
      count = b.count;
      owner = b.owner;
      winner = b.winner;
      legal = b.legal;
      story = b.story;
      last = b.last;
      tallied = b.tallied;
      begun = b.begun;
      flipped = b.flipped;
      seats = λ j u at'. ⊎_elim
          (λ (was : get_elem? (set s.views id new) j ≡ some u).
          ⊎_elim (λ (t : (j ≡ id) × (new ≡ u)). subst (λ (z : ℕ × View). FitsView plan s.words b.workers b.log b.owner b.winner z.0 z.1) (λ i. (sym t.0 i, t.1 i))
          (subst (λ (z : List Hand). FitsView plan s.words b.workers b.log b.owner b.winner id (view v.plan z v.seen v.heard v.claims)) e f))
          (λ (t : (j ≢ id) × (get_elem? s.views j ≡ some u)). b.seats j u t.1) (at_set s.views id j new u was))
          (λ (t : (j ≡ length (set s.views id new)) × (view v.plan [] v.seen v.heard [] ≡ u)).
          subst (FitsView plan s.words b.workers b.log b.owner b.winner j) t.1 (empty_fits plan s.words b.workers b.log b.owner b.winner id v f j))
          (at_end (set s.views id new) (view v.plan [] v.seen v.heard []) u j at');
    }
by_hands plan id v (d ∷ ds) e s b at =
    let f : FitsView plan s.words b.workers b.log b.owner b.winner id (view v.plan (d ∷ ds) v.seen v.heard v.claims) =
    subst (λ (z : List Hand). FitsView plan s.words b.workers b.log b.owner b.winner id (view v.plan z v.seen v.heard v.claims)) e (b.seats id v at) in
    let left : View = view v.plan ds v.seen v.heard v.claims in
    let right : View = view v.plan (d ∷ []) v.seen v.heard [] in
    let n : ℕ = length (set s.views id left) in
    let owner' : ℕ → ℕ = given b.owner d.number n in record {
      log = b.log;
      workers = b.workers;
      count = b.count;
      owner = owner';
      winner = b.winner;
      legal = b.legal;
      story = b.story;
      last = b.last;
      tallied = b.tallied;
      begun = b.begun;
      flipped = b.flipped;
      seats = λ j u at'. ⊎_elim
          (λ (was : get_elem? (set s.views id left) j ≡ some u).
          ⊎_elim (λ (t : (j ≡ id) × (left ≡ u)). subst (λ (z : ℕ × View). FitsView plan s.words b.workers b.log owner' b.winner z.0 z.1) (λ i. (sym t.0 i, t.1 i))
          (left_fits plan s.words b.workers b.log b.owner b.winner id n v.plan d ds v.seen v.heard v.claims f))
          (λ (t : (j ≢ id) × (get_elem? s.views j ≡ some u)). other_fits plan s.words b.workers b.log b.owner b.winner d.number id n j u f.hands.0.owns t.0 (b.seats j u t.1))
          (at_set s.views id j left u was))
          (λ (t : (j ≡ n) × (right ≡ u)). subst (λ (z : ℕ × View). FitsView plan s.words b.workers b.log owner' b.winner z.0 z.1) (λ i. (sym t.0 i, t.1 i))
          (right_fits plan s.words b.workers b.log b.owner b.winner id n v.plan d ds v.seen v.heard v.claims f))
          (at_end (set s.views id left) right u j at');
    }

pub deals : (plan : Plan) (id : ℕ) (v : View) → table.Splits (RuleHolds plan) id v (others_of v) (first_of v)
deals plan id v s b at = by_hands plan id v v.hands refl s b at

next_hands : (plan : Plan) (i m : ℕ) → i < m → new_hands plan i (m - i) ≡ hand i (first_held plan i) [] ∷ new_hands plan (i + 1) (m - (i + 1))
next_hands plan i m less = let e : m - i ≡ suc (m - (i + 1)) = omega arith in ap (new_hands plan i) e

-- what the split leaves, and what it gives
pub leaves : (v : View) (plan : Plan) (i m : ℕ) → i < m → v ≡ view plan (new_hands plan i (m - i)) [] [] [] → others_of v ≡ view plan (new_hands plan (i + 1) (m - (i + 1))) [] [] []
leaves v plan i m less e = ap others_of (e ∙ (λ k. view plan (next_hands plan i m less k) [] [] []))

pub gives : (v : View) (plan : Plan) (i m : ℕ) → i < m → v ≡ view plan (new_hands plan i (m - i)) [] [] [] → first_of v ≡ view plan (hand i (first_held plan i) [] ∷ []) [] [] []
gives v plan i m less e = ap first_of (e ∙ (λ k. view plan (next_hands plan i m less k) [] [] []))
