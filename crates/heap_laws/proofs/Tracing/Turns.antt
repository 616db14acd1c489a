-- WEAKTURN is exchanged: its winner may walk over the chain of copied cells.
use Rattle.std.proofs.Common.{◌≡◌, ℕ, ◌+◌, ◌<◌, ◌≤◌, Some, refl, ap, arith}
use Rattle.heap_state.specs.Invariant.Parts.Cells.{Cells}
use Rattle.heap_state.specs.Memory.Entries.{WeakTurnIs}
use Rattle.heap_state.specs.Memory.Era.{Era, Memory}
use Rattle.heap_state.specs.Invariant.Ghost.{Ghost}
use Rattle.heap_state.specs.Known.{Known, Team, LastLook}
use Rattle.heap_laws.specs.Steps.{Ready, Steps, InWeakTurn, with_worker, with_weak_turn}
use Rattle.heap_laws.specs.Tracing.{has_turn, WinsTurn, TurnsAreTaken}
use Rattle.heap_laws.proofs.Cells.Kept.{targets_stay}
use Rattle.heap_laws.proofs.Cells.Turned.{taking_turn_carries_chain}
use Rattle.heap_laws.proofs.Steps.Learning.{links}

module _ (E : Era) (m : Memory) (team : Team) (g : Ghost) (k : ℕ) (l : LastLook) (ready : Ready E m team g k) (wins : WinsTurn m.weak_turn team k l) where
  abbrev turn : ℕ
  turn = (team.worker k).epoch + 1

  abbrev next : Known
  next = has_turn (team.worker k)

  cells : Cells E (with_weak_turn m turn) (with_worker team k next) g
  cells = record {
    ranks = ready.invariant.cells.ranks;
    chain = taking_turn_carries_chain E m (with_weak_turn m turn) m.weak m.weak_turn team g ready.invariant.cells.ranks k l next ready wins refl (InWeakTurn turn) (assumption)
        ready.invariant.cells.chain;
    targets = targets_stay (InWeakTurn turn) tt ready.invariant.cells.targets;
  }

  -- it is of the epoch: WEAKTURN is never below that
  of_now : (team.worker k).epoch ≡ E.epoch
  of_now =
      let top = ready.invariant.cells.chain.top in
      let past = (ready.invariant.workers k ready.member).timely.past in
      omega (arith, top, wins.free, past)

  takes_turn : Steps E m team g k (Some (WeakTurnIs turn)) next g
  takes_turn = record {
    later = with_weak_turn m turn;
    writes = InWeakTurn turn;
    keeps = links E m team g k next ready.invariant (assumption) (λ s e. (s, e, refl)) m.weak turn (λ _. ap (λ e. e + 1) of_now) cells (let me = ready.invariant.workers k ready.member in assumption);
  }

pub turns_are_taken : TurnsAreTaken
turns_are_taken = takes_turn
