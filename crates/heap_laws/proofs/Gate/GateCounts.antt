-- The gate's counts where one worker changes, and what else speaks of all workers.
use Rattle.std.proofs.Common.{◌≡◌, ℕ, zero, suc, ◌+◌, ◌<◌, ◌≤◌, Bool, false, sym, ap, arith}
use Rattle.space_map.specs.declared.gate_word.GateWord.{GateWord}
use Rattle.heap_state.specs.Functions.{put, sum_below, count_one}
use Rattle.heap_state.specs.Invariant.Parts.Gate.{Counted}
use Rattle.heap_state.specs.Known.{Known, Post, is_live, is_running, is_asking, is_gone, is_late}
use Rattle.heap_state.proofs.Puts.{put_other, put_same, sum_below-change}
use Rattle.heap_laws.specs.Gate.{GatesFit}
use Rattle.heap_laws.proofs.Flipping.Sums.{at_most_one}

-- the sum of ones is at most their number
pub ones : (n : ℕ) (is : ℕ → Bool) → sum_below n (λ j. count_one (is j)) ≤ n
unfolding sum_below
ones zero is = omega arith
ones (suc n) is = let a = ones n is in let b = at_most_one (is n) in omega (arith, a, b)

pub fits : GatesFit
fits E m team g inv =
    let c = inv.counted in let f = inv.staffed.few in
    let a = ones team.count (λ j. is_live (team.worker j).post) in
    let b = ones team.count (λ j. is_running (team.worker j).post) in
    let d = ones team.count (λ j. is_late m.gate.epoch (team.worker j)) in
    let e = ones team.count (λ j. is_gone (team.worker j).post) in
    record { epoch_fits = c.epoch_fits; live_fits = omega (arith, c.live, a, f); running_fits = omega (arith, c.running, b, f); behind_fits = omega (arith, c.behind, d, f); left_fits = omega (arith, c.left, e, f) }

-- what one worker's change makes of a count
count_moves : (worker : ℕ → Known) (count k : ℕ) (w : Known) (is : Known → Bool) → k < count
    → sum_below count (λ j. count_one (is (put worker k w j))) + count_one (is (worker k)) ≡ sum_below count (λ j. count_one (is (worker j))) + count_one (is w)
count_moves worker count k w is l =
    let c = sum_below-change count (λ j. count_one (is (worker j))) (λ j. count_one (is (put worker k w j))) k l (λ x n d. ap (λ u. count_one (is u)) (sym (put_other worker k w x d))) in
    let s : count_one (is (put worker k w k)) ≡ count_one (is w) = ap (λ u. count_one (is u)) (put_same worker k w) in
    omega (arith, c, s)

-- the gate counts the team in which worker k is another, of the post q instead of p
pub counted_moves : (worker : ℕ → Known) (count k : ℕ) (w : Known) (p q : Post) (gate gate' : GateWord) (late late' : Bool) → k < count → (worker k).post ≡ p → w.post ≡ q
    → is_late gate.epoch (worker k) ≡ late → is_late gate.epoch w ≡ late' → gate'.epoch ≡ gate.epoch
    → gate'.live + count_one (is_live p) ≡ gate.live + count_one (is_live q)
    → gate'.running + count_one (is_running p) ≡ gate.running + count_one (is_running q)
    → gate'.behind + count_one late ≡ gate.behind + count_one late'
    → gate'.left + count_one (is_gone p) ≡ gate.left + count_one (is_gone q)
    → count_one gate'.request + count_one (is_asking p) ≡ count_one gate.request + count_one (is_asking q)
    → (0 < gate'.behind → (gate'.running ≡ 0) × (gate'.request ≡ false))
    → Counted gate count worker → Counted gate' count (put worker k w)
counted_moves worker count k w p q gate gate' late late' l ep eq la lb same live running behind left request still c = record {
  live = let t = count_moves worker count k w (λ u. is_live u.post) l in let a = ap (λ x. count_one (is_live x)) ep in let b = ap (λ x. count_one (is_live x)) eq in omega (arith, t, a, b, live, c.live);
  running = let t = count_moves worker count k w (λ u. is_running u.post) l in let a = ap (λ x. count_one (is_running x)) ep in let b = ap (λ x. count_one (is_running x)) eq in omega (arith, t, a, b, running, c.running);
  behind = rw same (let t = count_moves worker count k w (is_late gate.epoch) l in let a = ap count_one la in let b = ap count_one lb in let z : gate'.behind ≡ sum_below count (λ j. count_one (is_late gate.epoch (put worker k w j))) = omega (arith, t, a, b, behind, c.behind) in z);
  left = let t = count_moves worker count k w (λ u. is_gone u.post) l in let a = ap (λ x. count_one (is_gone x)) ep in let b = ap (λ x. count_one (is_gone x)) eq in omega (arith, t, a, b, left, c.left);
  request = let t = count_moves worker count k w (λ u. is_asking u.post) l in let a = ap (λ x. count_one (is_asking x)) ep in let b = ap (λ x. count_one (is_asking x)) eq in omega (arith, t, a, b, request, c.request);
  still = still;
  epoch_fits = rw same c.epoch_fits;
}
