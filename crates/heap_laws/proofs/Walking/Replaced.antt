-- The walk over the chain of copied cells replaces a cell's target.
use Rattle.std.proofs.Common.{◌≡◌, ℕ, ◌+◌, ◌^◌, ◌<◌, Some, refl, arith}
use Rattle.heap_state.specs.Cells.{IsCopiedCell}
use Rattle.heap_state.specs.Invariant.Parts.Cells.{Cells}
use Rattle.heap_state.specs.Memory.Entries.{WordIs}
use Rattle.heap_state.specs.Memory.Era.{Era, Memory}
use Rattle.heap_state.specs.Invariant.Ghost.{Ghost}
use Rattle.heap_state.specs.Known.{Known, Team, Visit, At}
use Rattle.heap_laws.specs.Cells.Walks.{passed}
use Rattle.heap_laws.specs.Steps.{Ready, WritesRow, InWord, Steps, with_word, with_worker}
use Rattle.heap_laws.specs.Walking.{walking, IsAtTarget, TargetsAreReplaced}
use Rattle.heap_laws.proofs.Cells.Walked.{replacing_target_carries_chain}
use Rattle.heap_laws.proofs.Copying.CopiedCells.{cell_words_are_stored}
use Rattle.heap_laws.proofs.Steps.RowPlaces.{below_board}
use Rattle.heap_laws.proofs.Targets.ShownWalks.{shown_replaced}
use Rattle.heap_laws.proofs.Targets.Walked.{cell, replacing_carries_targets}
use Rattle.heap_laws.proofs.Walking.Loads.{same_beside}

module _ (E : Era) (m : Memory) (team : Team) (g : Ghost) (k : ℕ) (v : Visit) (word : ℕ) (ready : Ready E m team g k) (is : IsAtTarget team k v) (replaces : v.word ≡ Some word) (small : word < 2 ^ 62) where
  abbrev before : Cells E m team g
  before = ready.invariant.cells

  abbrev then : Known
  then = walking (team.worker k) (At (passed v))

  abbrev later : Memory
  later = with_word m (v.cell + 1) word

  here : IsCopiedCell E m.front g v.cell
  here = cell E m m.weak m.weak_turn team g before.ranks k v ready is.at before.chain

  room : g.size v.cell ≡ 3
  room = before.chain.three v.cell here.stands here.weak

  writes : WritesRow E m (Some (WordIs (v.cell + 1) word)) later
  writes = InWord (v.cell + 1) word (let below = below_board ready v.cell here.stands in omega (arith, below, room))

  after : Cells E later (with_worker team k then) g
  after = record {
    ranks = before.ranks;
    chain = replacing_target_carries_chain E m later m.weak m.weak_turn team g before.ranks k v word then ready is.at is.before replaces refl writes (same_beside (team.worker k) (At (passed v))) before.chain;
    targets = replacing_carries_targets E m later m.weak m.weak_turn team g before.ranks k v word ready is.at is.before replaces writes before.chain before.targets;
  }

  pub replaces_target : Steps E m team g k (Some (WordIs (v.cell + 1) word)) then g
  replaces_target = cell_words_are_stored E m team g k v.cell 1 word (team.worker k).linking (Some (At (passed v))) ready here (omega arith) (omega (arith, room)) small after (shown_replaced E m team g k v word ready is.at is.before replaces)

pub targets_are_replaced : TargetsAreReplaced
targets_are_replaced E m team g k v word ready is replaces small = replaces_target E m team g k v word ready is replaces small
