-- What the gate counts.
use Rattle.std.specs.Prelude.{◌≡◌, ℕ, ◌+◌, ◌^◌, ◌<◌, ◌≤◌, false, nat_lt}
use Rattle.space_map.specs.declared.spaces.TheConstants.{MOST_MUTATORS, MOST_SCANNERS}
use Rattle.space_map.specs.declared.gate_word.GateWord.{GateWord}
use Rattle.heap_state.specs.Functions.{sum_below, count_one}
use Rattle.heap_state.specs.Known.{Known, is_mutator, is_live, is_running, is_asking, is_gone, is_late}

-- The gate counts the mutators that are live, run, are behind and are gone; request is set where one of them flips or begins a
-- checkpoint, and no two do. While one is behind nobody runs, and nothing is requested.
pub record Counted (gate : GateWord) (count : ℕ) (worker : ℕ → Known) : Type 0 where
  pub live : gate.live ≡ sum_below count (λ k. count_one (is_live (worker k).post))
  pub running : gate.running ≡ sum_below count (λ k. count_one (is_running (worker k).post))
  pub behind : gate.behind ≡ sum_below count (λ k. count_one (is_late gate.epoch (worker k)))
  pub left : gate.left ≡ sum_below count (λ k. count_one (is_gone (worker k).post))
  pub request : count_one gate.request ≡ sum_below count (λ k. count_one (is_asking (worker k).post))
  pub still : 0 < gate.behind → (gate.running ≡ 0) × (gate.request ≡ false)
  pub epoch_fits : gate.epoch < 2 ^ 32

-- no more mutators than a heap may have, then the scanners, and no more workers in all than there may be of both
pub record Staffed (mutators count : ℕ) (worker : ℕ → Known) : Type 0 where
  pub few : (mutators ≤ MOST_MUTATORS) × (mutators ≤ count) × (count ≤ MOST_MUTATORS + MOST_SCANNERS)
  pub posts : (k : ℕ) → k < count → is_mutator (worker k).post ≡ nat_lt k mutators
