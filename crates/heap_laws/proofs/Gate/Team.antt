-- A worker passes the gate: what it brings with it, and the new gate and team, keep all.
use Rattle.std.proofs.Common.{◌≡◌, ◌≢◌, ℕ, ◌<◌, ◌≤◌, Bool, true, Some, refl, ap, arith}
use Rattle.space_map.specs.declared.gate_word.GateWord.{GateWord}
use Rattle.heap_state.specs.Memory.Era.{Era, Memory}
use Rattle.heap_state.specs.Functions.{put}
use Rattle.heap_state.specs.Invariant.Ghost.{Ghost}
use Rattle.heap_state.specs.Invariant.Inductive.{Invariant, Knows}
use Rattle.heap_state.specs.Invariant.Parts.Gate.{Counted}
use Rattle.heap_state.specs.Invariant.Parts.Knowledge.{Resets}
use Rattle.heap_state.specs.Invariant.Parts.Pages.{Filling, Tracing, Sizes}
use Rattle.heap_state.specs.Known.{Known, Team, Stock, Reset, is_mutator, is_late}
use Rattle.heap_state.proofs.Workers.Frames.{staffed_put, scanned_put, stocks_put, numbered_put, rooted_put}
use Rattle.heap_state.proofs.Puts.{team_put}
use Rattle.heap_laws.specs.Cells.Frames.{GoesOnInChain}
use Rattle.heap_laws.specs.Steps.{with_worker, with_gate, Preserves}
use Rattle.heap_laws.proofs.Cells.Kept.{same_keeps}
use Rattle.heap_laws.proofs.Gate.Worker.{NoneFlips}
use Rattle.heap_laws.proofs.Steps.Learning.{shown_put}
use Rattle.heap_laws.proofs.Targets.Frames.{made_put}

-- worker k, which had this to do at the gate, passes it
pub record GoesPastGate (E : Era) (m : Memory) (team : Team) (g : Ghost) (k : ℕ) (w' : Known) : Type 0 where
  pub inv : Invariant E m team g
  pub below : k < team.count
  pub mutator : is_mutator w'.post ≡ is_mutator (team.worker k).post
  pub account : w'.account ≡ (team.worker k).account
  pub registers : w'.registers ≡ (team.worker k).registers
  pub scan : w'.scan ≡ (team.worker k).scan
  pub stock : (q : Stock) → w'.stock ≡ Some q → (team.worker k).stock ≡ Some q
  pub goes : GoesOnInChain E w' (team.worker k)
  pub none_left : (r : ℕ) → r < 8 → is_late E.epoch (team.worker k) ≡ true → (team.worker k).done ≤ r → ⊥

module _ {E : Era} {m : Memory} {team : Team} {g : Ghost} {k : ℕ} {w' : Known} (passing : GoesPastGate E m team g k w') (gate' : GateWord) where
  inv : Invariant E m team g
  inv = passing.inv

  -- the new gate and team keep all
  pub passing_keeps : Counted gate' team.count (put team.worker k w') → Filling E gate'.behind m.front m.page → Tracing E m.traced gate'.behind m.front m.page → Sizes E gate'.request
      → ((j : ℕ) → j < team.count → j ≢ k → Knows E gate' m.traced m.front m.low m.old_front m.old_low m.old_owed g m.page m.cross m.announced m.heap j (team.worker j))
      → Knows E gate' m.traced m.front m.low m.old_front m.old_low m.old_owed g m.page m.cross m.announced m.heap k w'
      → Preserves E m (with_gate m gate') team (with_worker team k w') g g
  passing_keeps counted filling tracing sizes others own = record {
    invariant =
        let p1 = staffed_put team.worker k w' passing.mutator inv.staffed in
        let p2 = scanned_put team.worker k w' passing.scan inv.scanned in
        let p3 = stocks_put team.worker k w' passing.stock inv.stocks in
        let p4 = numbered_put team.worker k w' (ap (λ a. a.serial) passing.account) inv.numbered in
        let p6 = same_keeps E m (with_gate m gate') team g g k w' (assumption) (assumption) (assumption) passing.goes inv.cells in
        let p5 = team_put team.count (Knows E gate' m.traced m.front m.low m.old_front m.old_low m.old_owed g m.page m.cross m.announced m.heap) team.worker k w' others own in
        assumption;
    shown = λ p s. shown_put E m (with_gate m gate') team g k w' p passing.account passing.registers refl refl refl (λ e. e) s;
    cycle = λ p c. record {
      copying = c.copying;
      rooted = rooted_put team.worker k w' passing.mutator passing.account passing.registers (λ r l a b. absurd (passing.none_left r l a b)) c.rooted;
      made = made_put team.worker k w' (ap (λ a. a.serial) passing.account) c.made;
    };
    ages = λ p. omega arith;
  }

-- a passage that leaves as many behind as there were
pub usual : (E : Era) (m : Memory) (team : Team) (g : Ghost) (k : ℕ) (w' : Known) (live running left : ℕ) (request : Bool) → (passing : GoesPastGate E m team g k w') → NoneFlips E m team g passing.inv
    → Counted (record m.gate { live = live; running = running; left = left; request = request }) team.count (put team.worker k w') → Sizes E request
    → Knows E (record m.gate { live = live; running = running; left = left; request = request }) m.traced m.front m.low m.old_front m.old_low m.old_owed g m.page m.cross m.announced m.heap k w'
    → Preserves E m (with_gate m (record m.gate { live = live; running = running; left = left; request = request })) team (with_worker team k w') g g
usual E m team g k w' live running left request passing none counted sizes own = passing_keeps passing (record m.gate { live = live; running = running; left = left; request = request })
    counted passing.inv.filling passing.inv.tracing sizes (λ j l d. others j l) own
  where
    others : (j : ℕ) → j < team.count → Knows E (record m.gate { live = live; running = running; left = left; request = request }) m.traced m.front m.low m.old_front m.old_low m.old_owed g m.page m.cross m.announced m.heap j (team.worker j)
    others j l =
        let u = passing.inv.workers j l in
        let a : (r : Reset) → (team.worker j).reset ≡ Some r → Resets E (record m.gate { live = live; running = running; left = left; request = request }) m.front m.low m.old_front m.old_low m.old_owed r = λ r e. absurd (none j r l e) in
        assumption
