-- Plain states that follow the targets of cells when TRACED is exchanged.
use Rattle.std.proofs.Common.{◌≡◌, ◌⊎◌, inl, inr, ℕ, ◌+◌, ◌<◌, ◌≤◌, List, Some, refl, ap, sym, ◌∙◌, ⊎_elim}
use Rattle.heap_words.specs.Decoded.{NumberWord, decode}
use Rattle.plain_state.specs.declared.value.Identity.{Identity}
use Rattle.plain_state.specs.declared.value.Value.{Value}
use Rattle.plain_state.specs.Cells.{KeepsCells, cell_of}
use Rattle.plain_state.specs.State.{Plain}
use Rattle.plain_heap.specs.Emptied.{cells_to_empty}
use Rattle.plain_heap.proofs.Reaching.Emptying.{all-is, lost-from, lost-in}
use Rattle.plain_heap.proofs.Reaching.Members.{In}
use Rattle.plain_heap.proofs.Reaching.TargetsOfCells.{target-emptied, target-kept, target-was}
use Rattle.heap_state.specs.Configuration.{Configuration, Stands, era, memory, team}
use Rattle.heap_state.specs.Cycles.Cycle.{Cycle}
use Rattle.heap_state.specs.Invariant.Ghost.{Ghost}
use Rattle.heap_state.specs.Meaning.Values.{MayBeEmptied, value_of, value_said}
use Rattle.heap_state.specs.Memory.Era.{Era, Memory}
use Rattle.heap_state.specs.Targets.{IsCell}
use Rattle.heap_laws.specs.Tracing.{FollowsTargets, IsLostOrShown}
use Rattle.gc_worker.specs.Plain.Answer.{with_emptied}
use Rattle.gc_worker.specs.Plain.Empty.{empty_cells}
use Rattle.gc_worker.specs.Steps.Goes.{Settles}
use Rattle.gc_worker.proofs.Plain.CellTargets.Emptied.{same_board, same_makers, same_serial}
use Rattle.gc_worker.proofs.Plain.CellTargets.EmptyCells.{empty_listed, listed_empty, zero_or_not}

-- The target of the cell at a denotes the plain value, and the cell isn't one of these; or it is the number 0, and is one.
abbrev pub IsShownOrEmptied : Memory → Ghost → List Identity → (a : ℕ) → Value → Type 0
IsShownOrEmptied m g cells a v = ((value_of g.identity (m.heap (a + 1)) ≡ Some v) × ¬ (In (g.identity a) cells)) ⊎ ((decode (m.heap (a + 1)) ≡ NumberWord 0) × In (g.identity a) cells)

abbrev pub AreShownOrEmptied : Era → Memory → Ghost → Plain → List Identity → Type 0
AreShownOrEmptied E m g p cells = (a : ℕ) (v : Value) → IsCell g a → E.start ≤ a → a < E.start + E.span → cell_of p.heap (g.identity a) ≡ Some v → IsShownOrEmptied m g cells a v

-- so the state in which these are empty follows the targets
pub follows : (E : Era) (m : Memory) (g : Ghost) (p : Plain) (cells : List Identity) → AreShownOrEmptied E m g p cells → FollowsTargets E m g p (with_emptied p cells)
unfolding value_of
follows E m g p cells are = record {
  mutators = refl;
  board = same_board p cells;
  makers = same_makers p cells;
  serials = same_serial p cells;
  records = λ i. all-is i cells p.heap;
  targets = λ a v cell from to held. let was = target-was cells p.heap (g.identity a) v held in by_target a v held was.0 was.1 (are a was.0 cell from to was.1);
}
  where
    by_target : (a : ℕ) (v : Value) → cell_of (with_emptied p cells).heap (g.identity a) ≡ Some v → (w : Value) → cell_of p.heap (g.identity a) ≡ Some w
        → IsShownOrEmptied m g cells a w → value_of g.identity (m.heap (a + 1)) ≡ Some v
    by_target a v held w was (inl shown) = shown.0 ∙ (sym was ∙ (sym (target-kept cells p.heap (g.identity a) shown.1) ∙ held))
    by_target a v held w was (inr emptied) = ap (value_said g.identity) emptied.0 ∙ ap Some (sym (target-emptied cells p.heap (g.identity a) emptied.1 v held))

-- where the epoch is traced these are the cells that the words say are empty
module _ (c : Configuration) (p : Plain) (s : Stands c p) where
  said_so : AreShownOrEmptied (era c) (memory c) s.ghost p (empty_cells c)
  said_so a v cell from to held = ⊎_elim
      (λ (none : decode ((memory c).heap (a + 1)) ≡ NumberWord 0). inr (none, empty_listed c s.ghost s.formed s.invariant a cell from to none))
      (λ (other : ¬ (decode ((memory c).heap (a + 1)) ≡ NumberWord 0)). ⊎_elim
      (λ (shown : value_of s.ghost.identity ((memory c).heap (a + 1)) ≡ Some v). inl (shown, λ is. other (listed_empty c s.ghost s.formed s.invariant a cell from to is)))
      (λ (emptied : MayBeEmptied (era c) (memory c) s.ghost a v). absurd (other emptied.empty))
      (s.shown.targets.shows a v (record { cell = cell; place = inl (from, to) }) held))
      (zero_or_not (decode ((memory c).heap (a + 1))))

  pub follows_empty : FollowsTargets (era c) (memory c) s.ghost p (with_emptied p (empty_cells c))
  follows_empty = follows (era c) (memory c) s.ghost p (empty_cells c) said_so

-- and in a story those whose targets weren't reachable at the last flip, as long as cells have kept what they had then
pub follows_lost : (c : Configuration) (p o : Plain) (g : Ghost) → Settles c p g → Cycle (era c) (memory c) (team c) g o → KeepsCells o p
    → FollowsTargets (era c) (memory c) g p (with_emptied p (cells_to_empty o))
follows_lost c p o g settles cycle keeps = follows (era c) (memory c) g p (cells_to_empty o) (λ a v cell from to held. by_target a v (settles o cycle keeps a v cell from to held))
  where
    by_target : (a : ℕ) (v : Value) → IsLostOrShown (memory c) g o a v → IsShownOrEmptied (memory c) g (cells_to_empty o) a v
    by_target a v (inl shown) = inl (shown.0, λ is. shown.1 (lost-from o (g.identity a) is))
    by_target a v (inr lost) = inr (lost.0, lost-in o (g.identity a) lost.1)
