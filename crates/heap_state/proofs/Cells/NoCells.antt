-- Where no record that stands is a cell, and nobody has one to link or walks, nothing is linked.
use Rattle.std.proofs.Common.{◌≡◌, ◌≢◌, ℕ, ◌+◌, ◌<◌, ◌≤◌, None, is_some, refl, sym, ap, ◌∙◌, arith, ⊎_elim, inl, inr}
use Rattle.std.proofs.lemmas.Bool.{cases_lt}
use Rattle.plain_state.specs.declared.kind.Kind.TheVariants.{Weak}
use Rattle.plain_state.specs.State.{Heap}
use Rattle.heap_state.specs.Cells.{no_ranks, Chain}
use Rattle.heap_state.specs.Memory.Era.{Era, Memory}
use Rattle.heap_state.specs.Invariant.Ghost.{Ghost}
use Rattle.heap_state.specs.Invariant.Parts.Cells.{Cells}
use Rattle.heap_state.specs.Meaning.Values.{TargetsShow}
use Rattle.heap_state.specs.Targets.{IsCell, Targets}
use Rattle.heap_state.specs.Known.{Team, cell_to_link}
use Rattle.heap_state.proofs.Puts.{none≢some, true_false}

-- no target has to show anything
pub nothing_to_show : (E : Era) (m : Memory) (g : Ghost) (records : Heap) → ((a : ℕ) → 0 < g.size a → g.kind a ≢ Weak) → TargetsShow E m g records
nothing_to_show E m g records no_cell = record { shows = λ a v s e. absurd (no_cell a s.cell.stands s.cell.weak) }

-- WEAKTURN is TRACED: the turn is taken just if the epoch is traced
module _ (E : Era) (m : Memory) (team : Team) (g : Ghost) (now : (E.epoch ≤ m.traced) × (m.traced ≤ E.epoch + 1)) (turn : m.weak_turn ≡ m.traced) (zero : m.weak ≡ 0)
    (idle : (k : ℕ) → k < team.count → ((team.worker k).linking ≡ None) × ((team.worker k).pass ≡ None))
    (no_cell : (a : ℕ) → 0 < g.size a → g.kind a ≢ Weak) where
  pub nothing_linked : Chain E m m.weak m.weak_turn team g no_ranks
  nothing_linked = record {
    top = ⊎_elim (λ (l : m.traced < E.epoch + 1). inl (omega (arith, l, now, turn))) (λ (l : E.epoch + 1 ≤ m.traced). inr (omega (arith, l, now, turn))) (cases_lt m.traced (E.epoch + 1));
    turned = λ t. turn ∙ t;
    linked = λ _. record {
      ranked = λ a p. absurd (omega (arith, p));
      alone = λ a b p _. absurd (omega (arith, p));
      head = inl (zero, refl);
      link = λ a n e. absurd (omega (arith, e));
    };
    all = λ _ a c _. absurd (no_cell a c.stands c.weak);
    linking = λ k l y e. none≢some (sym (idle k y).0 ∙ e);
    apart = λ j k a y _ e _. none≢some (sym (ap cell_to_link (idle j y).0) ∙ e);
    pass = λ k q y e. none≢some (sym (idle k y).1 ∙ e);
    one = λ j k y _ e _. true_false (ap is_some (idle j y).1) e;
    walker = λ t e. absurd (omega (arith, t, e, turn));
    reset = λ _ _ _. zero;
    three = λ a st e. absurd (no_cell a st e);
  }

  no_target : (a : ℕ) → ¬ (IsCell g a)
  no_target a c = no_cell a c.stands c.weak

  pub no_targets : Targets E m g
  no_targets = record {
    lands = λ a c. absurd (no_target a c);
    aims = λ a b c. absurd (no_cell a c.stands c.weak);
    new = λ a c. absurd (no_target a c);
    clean = λ _ a c. absurd (no_cell a c.stands c.weak);
    older = λ _ a b c. absurd (no_target a c);
  }

  -- what the invariant says of cells
  abbrev pub no_cells : Cells E m team g
  no_cells = record { ranks = no_ranks; chain = nothing_linked; targets = no_targets }
