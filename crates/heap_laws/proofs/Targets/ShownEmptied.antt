-- What shows a plain state shows another, of which cells may be empty, if the targets follow it: no part but that of targets speaks of
-- the values of cells.
use Rattle.std.proofs.Common.{◌≡◌, ℕ, ◌+◌, inl, Bool, true, false, cond, List, Option, Some, length, slice_get, refl, ap, sym, ◌∙◌, arith, length-set, ⊎_elim}
use Rattle.std.specs.Option.{option_map}
use Rattle.plain_state.specs.declared.kind.Kind.{Kind}
use Rattle.plain_state.specs.declared.kind.Kind.TheVariants.{Fields}
use Rattle.plain_state.specs.declared.value.Value.{Value}
use Rattle.plain_state.specs.declared.value.Value.TheVariants.{Number}
use Rattle.plain_state.specs.Cells.{is_cell, without_target}
use Rattle.plain_state.specs.Layout.{is_field, is_raw, values_at, words_behind}
use Rattle.plain_state.specs.State as plain
use Rattle.plain_state.specs.Writing.{with_value}
use Rattle.heap_state.specs.Invariant.Ghost.{Ghost}
use Rattle.heap_state.specs.Meaning.Values.{Accounts, Shown, ShowsAll, Shows, TargetsShow, value_of}
use Rattle.heap_state.specs.Memory.Era.{Era, Memory}
use Rattle.heap_state.specs.Known.{Account, Team, Known}
use Rattle.heap_state.proofs.Workers.Frames.{accounts_put, registers_put}
use Rattle.heap_laws.specs.Steps.{with_traced, with_worker}
use Rattle.heap_laws.specs.Tracing.{FollowsTargets}

-- ---- a record

-- no word of a cell is a field or a number
no_field : (kind : Kind) (word : ℕ) → is_cell kind ≡ true → is_field kind word ≡ true → ⊥
no_field Fields word cell is = cc
no_field _ word cell is = cc

no_raw : (kind : Kind) (word : ℕ) → is_cell kind ≡ true → is_raw kind word ≡ true → ⊥
no_raw Fields word cell is = cc
no_raw _ word cell is = cc

-- so what shows a record shows it with the number 0 in it, if it is a cell
pub shows_emptied : (denotes : ℕ → Option Value) (heap : ℕ → ℕ) (a : ℕ) (kind : Kind) (size : ℕ) (r : plain.Record)
    → Shows denotes heap a kind size r → Shows denotes heap a kind size (without_target r)
shows_emptied denotes heap a kind size r s = by_kind (is_cell r.kind) refl
  where
    by_kind : (cell : Bool) → is_cell r.kind ≡ cell → Shows denotes heap a kind size (cond cell (with_value r 0 (Number 0)) r)
    by_kind true is =
        let cell : is_cell kind ≡ true = ap is_cell (sym s.kind) ∙ is in
        record {
          kind = s.kind;
          size = ap (λ (n : ℕ). n + (values_at r.kind + words_behind r.kind)) (length-set r.values 0 (Number 0)) ∙ s.size;
          fields = λ x below field. absurd (no_field kind _ cell field);
          numbers = λ x below raw. absurd (no_raw kind _ cell raw);
          count = s.count;
        }
    by_kind false is = s

-- ---- the whole

module _ (E : Era) (m : Memory) (team : Team) (g : Ghost) (p q : plain.Plain) (follows : FollowsTargets E m g p q) (s : Shown E m team g p) where
  objects : ShowsAll g.size g.writer g.copy g.keeper g.kind g.identity m.heap q.heap
  objects = record {
    shows = λ a st w there.
        let was = s.objects.shows a st w there in
        ⊎_elim
        (λ (same : plain.record_of q.heap (g.identity a) ≡ plain.record_of p.heap (g.identity a)). (was.0, same ∙ was.1, was.2))
        (λ (less : plain.record_of q.heap (g.identity a) ≡ option_map without_target (plain.record_of p.heap (g.identity a))).
        (without_target was.0, less ∙ ap (option_map without_target) was.1, shows_emptied (value_of g.identity) m.heap a (g.kind a) (g.size a) was.0 was.2))
        (follows.records (g.identity a));
  }

  account : (j : ℕ) (a : Account) (x : plain.Mutator) → Accounts p.heap j a x → Accounts q.heap j a x
  account j a x was = record {
    counter = was.counter;
    printed = was.printed;
    executed = was.executed;
    end = was.end;
    serial = was.serial ∙ sym (follows.serials j);
  }

  -- once the epoch is traced only cells of its space are shown
  targets : TargetsShow E (with_traced m (E.epoch + 1)) g q.heap
  targets = record {
    shows = λ a v c is. ⊎_elim
        (λ i. inl (follows.targets a v c.cell i.0 i.1 is))
        (λ o. absurd (let le = o.0 in omega (arith, le)))
        c.place;
  }

  -- TRACED is exchanged by worker k
  pub shown_traced : (k : ℕ) (w : Known) → w.account ≡ (team.worker k).account → w.registers ≡ (team.worker k).registers
      → Shown E (with_traced m (E.epoch + 1)) (with_worker team k w) g q
  shown_traced k w same registers = record {
    objects = objects;
    targets = targets;
    board = record {
      sixteen = ap length follows.board ∙ s.board.sixteen;
      board = λ x l. s.board.board x l ∙ ap (λ (words : List Value). slice_get words x) (sym follows.board);
    };
    as_many = ap length follows.mutators ∙ s.as_many;
    makers = follows.makers ∙ s.makers;
    accounts = λ j x e. accounts_put team.worker k w same j x (account j (team.worker j).account x (s.accounts j x (of_before j x e)));
    registers = λ j x e. registers_put team.worker k w registers j x (s.registers j x (of_before j x e));
  }
    where
      of_before : (j : ℕ) (x : plain.Mutator) → slice_get q.mutators j ≡ Some x → slice_get p.mutators j ≡ Some x
      of_before j x e = ap (λ (ms : List plain.Mutator). slice_get ms j) (sym follows.mutators) ∙ e
