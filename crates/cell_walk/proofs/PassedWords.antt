-- The words when all cells are passed, word by word.
use Rattle.std.proofs.Common.{◌≡◌, ◌≢◌, ℕ, suc, ◌+◌, ◌*◌, ◌<◌, ◌≤◌, List, [], ◌∷◌, length, map, slice_index, slice_set, refl, sym, ◌∙◌, arith, ⊎_elim}
use Rattle.std.specs.Prelude.{All, AllPairs, Contains}
use Rattle.std.proofs.lemmas.List.{get_or-set_other, get_or-set_same}
use Rattle.std.proofs.lemmas.List.Elements.{All-cons, All-contains, All-nil}
use Rattle.std.proofs.Math.ListN.{length-set}
use Rattle.atom_store.specs.Runs.{with_words}
use Rattle.space_map.specs.Spaces.{Layout}
use Rattle.space_map.specs.Table.{WeakTurn, HeapWord, place_of, table_length}
use Rattle.space_map.proofs.Rows.{place_of-lt}
use Rattle.cell_walk.specs.Chains.{AreApart, entry_passed, heap_in, target_passed, target_place}
use Rattle.cell_walk.specs.Theorems.{TargetsArePassed}
use Rattle.cell_walk.proofs.Chains.{turn_apart, word_places}

later : (c : ℕ) (cells : List ℕ) (x : ℕ) → Contains cells x → Contains (c ∷ cells) x
later c cells x has = let inside = has.1 in (suc has.0, omega arith, has.2)

module _ (l : Layout) (epoch : ℕ) (words : List ℕ) where
  -- the words with these cells' targets
  abbrev with_targets : List ℕ → List ℕ → List ℕ
  with_targets cells now = with_words (map (entry_passed l epoch words) cells) now

  -- a word that is no cell's target stays
  others : (cells : List ℕ) (now : List ℕ) (at : ℕ) → ((cell : ℕ) → Contains cells cell → at ≢ target_place l cell)
      → slice_index (with_targets cells now) at ≡ slice_index now at
  others [] now at far = refl
  others (c ∷ cells) now at far =
      others cells (slice_set now (target_place l c) (target_passed l epoch words c)) at (λ cell has. far cell (later c cells cell has))
      ∙ get_or-set_other now (target_place l c) at (target_passed l epoch words c) 0 (far c (0, omega arith, refl))

  apart_places : (a b : ℕ) → AreApart a b → target_place l a ≢ target_place l b
  apart_places a b apart same =
      let e = word_places l.pages (a + 1) (b + 1) same in
      ⊎_elim (λ (z : a + 2 < b). omega arith) (λ (z : b + 2 < a). omega arith) apart

  targets : (cells : List ℕ) (now : List ℕ) → table_length l.pages ≤ length now → All (λ cell. cell + 2 < 128 * l.pages) cells → AllPairs AreApart cells
      → All (λ cell. heap_in l (with_targets cells now) (cell + 1) ≡ target_passed l epoch words cell) cells
  targets [] now whole inside apart = All-nil (λ cell. heap_in l now (cell + 1) ≡ target_passed l epoch words cell)
  targets (c ∷ cells) now whole inside apart =
      let place : ℕ = target_place l c in
      let target : ℕ = target_passed l epoch words c in
      let next : List ℕ = slice_set now place target in
      let within : c + 2 < 128 * l.pages = inside 0 0 (omega arith) in
      let below = place_of-lt l.pages (HeapWord (c + 1)) (omega arith) in
      let as_long : length next ≡ length now = length-set now place target in
      let rest = targets cells next (omega arith) (λ k d z. inside (suc k) d (omega arith)) (λ i j d before z. apart (suc i) (suc j) d (omega arith) (omega arith)) in
      let head_apart : All (λ other. place ≢ target_place l other) cells = λ k d z. apart_places c _ (apart 0 (suc k) d (omega arith) (omega arith)) in
      let here : heap_in l (with_targets cells next) (c + 1) ≡ target =
      others cells next place (λ other has. All-contains (λ other. place ≢ target_place l other) cells other head_apart has)
      ∙ get_or-set_same now place target 0 (omega arith) in
      All-cons (λ cell. heap_in l (with_targets cells next) (cell + 1) ≡ target_passed l epoch words cell) c cells here rest

pub targets_are_passed : TargetsArePassed
targets_are_passed l epoch words cells chain =
    let turn_place : ℕ = place_of l.pages WeakTurn in
    let with_turn : List ℕ = slice_set words turn_place (epoch + 1) in
    let whole = chain.whole in
    let as_long : length with_turn ≡ length words = length-set words turn_place (epoch + 1) in
    let below = place_of-lt l.pages WeakTurn tt in
    record {
      turn = others l epoch words cells with_turn turn_place (λ cell has same. turn_apart l.pages (cell + 1) (sym same))
          ∙ get_or-set_same words turn_place (epoch + 1) 0 (omega arith);
      targets = targets l epoch words cells with_turn (omega arith) chain.inside chain.apart;
      others = λ at no_turn far. others l epoch words cells with_turn at far ∙ get_or-set_other words turn_place at (epoch + 1) 0 no_turn;
    }
