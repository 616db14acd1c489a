-- A store that spares the checkpoints leaves what is kept of them.
use Rattle.std.proofs.Common.{◌≡◌, ◌≢◌, ℕ, ◌<◌, inl, inr, ⊎_elim, Option, Some, refl, sym, ap, ◌∙◌}
use Rattle.std.proofs.lemmas.Bool.{cases_eq}
use Rattle.heap_state.specs.Memory.Entries.{Entry}
use Rattle.heap_state.specs.Memory.Table.{Table}
use Rattle.heap_state.specs.Saving.Words.{Saves}
use Rattle.heap_state.specs.Saving.Frozen.{Frozen}
use Rattle.heap_state.specs.Saving.Savers.{Saver}
use Rattle.heap_state.proofs.Puts.{put_at, put_other, true_false, none≢some}
use Rattle.heap_laws.specs.Lifting.{table_after}
use Rattle.heap_laws.specs.Saving.Rows.{RowsAreSpared, Spares, SparesNone, SparesWord, SparesPage, SparesTraced, SparesGate}
use Rattle.heap_laws.proofs.Saving.Tables.{Leaves, words_after, knows_after}

-- a table of which no part changes that is read of checkpoints
nothing_read : (t u : Table) (s : Saves) (z : Frozen) → u.pages ≡ t.pages → u.gate ≡ t.gate → u.traced ≡ t.traced → u.page ≡ t.page → u.heap ≡ t.heap
    → Leaves t u s z
nothing_read t u s z pages gate traced page heap = record {
  pages = pages;
  epoch = ap (λ g. g.epoch) gate;
  traced = λ is. traced;
  opened = λ p v opened. inl (rw (← page) opened);
  held = λ runs p held. rw page refl;
  heap = λ runs x held loose. rw heap refl;
}

module _ (t : Table) (s : Saves) (z : Frozen) (count : ℕ) (saver : ℕ → Saver) where
  leaves : (e : Option Entry) → Spares t s z count saver e → Leaves t (table_after t e) s z
  leaves _ SparesNone = nothing_read t t s z refl refl refl refl refl
  leaves _ (SparesWord addr word saved) = record {
    pages = refl;
    epoch = refl;
    traced = λ is. refl;
    opened = λ page v opened. inl opened;
    held = λ runs page held. refl;
    heap = λ runs x held loose. put_other t.heap addr word x (λ is. loose (rw is (saved runs (rw is at held))));
  }
  leaves _ (SparesPage page word loose opens) = record {
    pages = refl;
    epoch = refl;
    traced = λ is. refl;
    opened = λ p v opened. ⊎_elim
        (λ (is : p ≡ page). inr (rw is (opens v (sym (put_at t.page page word p is) ∙ opened))))
        (λ (other : p ≢ page). inl (sym (put_other t.page page word p other) ∙ opened))
        (cases_eq p page);
    held = λ runs p held. put_other t.page page word p (λ is. true_false (loose runs) (rw is at held));
    heap = λ runs x held not. refl;
  }
  leaves _ (SparesTraced word untraced is) = record {
    pages = refl;
    epoch = refl;
    traced = λ traced. absurd (untraced traced);
    opened = λ page v opened. inl opened;
    held = λ runs page held. refl;
    heap = λ runs x held loose. refl;
  }
  leaves _ (SparesGate gate same nobody) = record {
    pages = refl;
    epoch = same;
    traced = λ is. refl;
    opened = λ page v opened. inl opened;
    held = λ runs page held. refl;
    heap = λ runs x held loose. refl;
  }
  leaves _ _ = nothing_read t _ s z refl refl refl refl refl

  -- who is still still sees its gate
  gate_after : (e : Option Entry) → Spares t s z count saver e → (k : ℕ) → k < count → (gate : _) → (saver k).still ≡ Some gate → (table_after t e).gate ≡ t.gate
  gate_after _ (SparesGate g same nobody) k in_team gate is = none≢some (sym (nobody k in_team) ∙ is)
  gate_after _ _ k in_team gate is = refl

pub rows_are_spared : RowsAreSpared
rows_are_spared t s z count saver e stands spares =
    let l = leaves t s z count saver e spares in
    record {
      words = words_after t (table_after t e) s z l stands.words;
      workers = record {
        savers = stands.workers.savers;
        each = λ k in_team. knows_after t (table_after t e) s z l k (saver k) (gate_after t s z count saver e spares k in_team) (stands.workers.each k in_team);
      };
    }
