-- What the words of the configuration say in which a checkpoint is in progress.
use Rattle.std.proofs.Common.{◌≡◌, ◌≢◌, ℕ, ◌≤◌, ◌⊎◌, inl, inr, true, refl, arith, ⊎_elim}
use Rattle.std.proofs.lemmas.Bool.{cases_eq, ne_eqb}
use Rattle.space_map.specs.declared.page_word.PageWord.TheVariants.{Unset}
use Rattle.space_map.specs.declared.save_word.SaveWord.TheVariants.{Unsaved, Saving, Saved, New}
use Rattle.heap_state.specs.Examples.Saving.{saving_entries, frozen_heap}
use Rattle.heap_state.specs.Functions.{put}
use Rattle.heap_state.specs.Memory.Entries.{table_with}
use Rattle.heap_state.specs.Memory.Table.{Table}
use Rattle.heap_state.specs.Saving.Words.{Saves}
use Rattle.heap_state.specs.Saving.Written.{saves_with_all}
use Rattle.heap_state.proofs.Puts.{true_false}

abbrev pub saving_table : Table
saving_table = table_with 4 saving_entries

abbrev pub saving_saves : Saves
saving_saves = saves_with_all saving_entries

-- ---- pages

pub save_2 : saving_saves.save 2 ≡ New 1
unfolding put
save_2 = refl

pub save_3 : saving_saves.save 3 ≡ Saved 1
unfolding put
save_3 = refl

pub save_8 : saving_saves.save 8 ≡ Saving 1 1
unfolding put
save_8 = refl

-- the three pages that are open, each with its SAVE, and all others
pub each_page : (P : ℕ → Type 0) → P 2 → P 3 → P 8 → ((p : ℕ) → saving_table.page p ≡ Unset → saving_saves.save p ≡ Unsaved → P p) → (p : ℕ) → P p
unfolding put
each_page P a b c others p = ⊎_elim (λ (x : p ≡ 2). rw x a) (λ (n2 : p ≢ 2).
    ⊎_elim (λ (x : p ≡ 3). rw x b) (λ (n3 : p ≢ 3).
    ⊎_elim (λ (x : p ≡ 8). rw x c) (λ (n8 : p ≢ 8).
    others p (rw (ne_eqb p 2 n2, ne_eqb p 3 n3, ne_eqb p 8 n8) refl) (rw (ne_eqb p 2 n2, ne_eqb p 3 n3, ne_eqb p 8 n8) refl))
    (cases_eq p 8)) (cases_eq p 3)) (cases_eq p 2)

-- the checkpoint's pages are 3 and 8
pub held_page : (p : ℕ) → frozen_heap.held p ≡ true → (p ≡ 3) ⊎ (p ≡ 8)
held_page p h = ⊎_elim (λ (x : p ≡ 3). inl x) (λ (n3 : p ≢ 3).
    ⊎_elim (λ (x : p ≡ 8). inr x) (λ (n8 : p ≢ 8). true_false (rw (ne_eqb p 3 n3, ne_eqb p 8 n8) refl) h)
    (cases_eq p 8)) (cases_eq p 3)

-- ---- words

-- each address's IMAGE is its word of then
pub image_then : (x : ℕ) → saving_saves.image x ≡ frozen_heap.heap x
unfolding put
image_then x = refl

-- and so is each word of the board
pub board_then : (x : ℕ) → 512 ≤ x → saving_table.heap x ≡ frozen_heap.heap x
unfolding put
board_then x l = rw (ne_eqb x 128 (λ e. omega arith), ne_eqb x 192 (λ e. omega arith), ne_eqb x 193 (λ e. omega arith)) refl
