-- The words of a told heap.
use Rattle.std.proofs.Common.{◌≡◌, ℕ, ◌+◌, ◌*◌, ◌/◌, ◌%◌, ◌^◌, ◌<◌, ◌≤◌, List, true, false, get_or, refl, eqb, sym, ap, ◌∙◌}
use Rattle.std.specs.Prelude.{IsTrue, not}
use Rattle.std.proofs.lemmas.Bool.{eq-eqb, lt-leb, ne_eqb}
use Rattle.space_map.specs.AreaWord.{area_in}
use Rattle.space_map.specs.GateWord.{gate_in}
use Rattle.space_map.specs.Table.{Area, Gate, HeapWord, Size, Traced, WeakTurn, place_of}
use Rattle.heap_state.specs.Memory.Table.{table_of, word_in}
use Rattle.heap_state.proofs.Table.StoredRows.{word_in-row}

module _ (n : ℕ) (words : List ℕ) (place : ℕ) where
  abbrev word : ℕ
  word = get_or words place 0

  pub epoch_is : place ≡ place_of n Gate → word % 2 ^ 32 ≡ (table_of n words).gate.epoch
  unfolding table_of gate_in
  epoch_is is = ap (λ w. w % 2 ^ 32) (ap (λ x. get_or words x 0) is ∙ sym (word_in-row n words Gate tt))

  pub traced_is : place ≡ place_of n Traced → word ≡ (table_of n words).traced
  unfolding table_of
  traced_is is = ap (λ x. get_or words x 0) is ∙ sym (word_in-row n words Traced tt)

  pub turn_is : place ≡ place_of n WeakTurn → word ≡ (table_of n words).weak_turn
  unfolding table_of
  turn_is is = ap (λ x. get_or words x 0) is ∙ sym (word_in-row n words WeakTurn tt)

  pub size_is : (space : ℕ) → space < 2 → place ≡ place_of n (Size space) → word ≡ (table_of n words).in_use space
  unfolding table_of
  size_is space few is = ap (λ x. get_or words x 0) is ∙ sym (word_in-row n words (Size space) few)

  pub front_is : (space : ℕ) → space < 2 → place ≡ place_of n (Area space) → word % 2 ^ 18 ≡ ((table_of n words).area space).front
  unfolding table_of area_in
  front_is space few is = ap (λ w. w % 2 ^ 18) (ap (λ x. get_or words x 0) is ∙ sym (word_in-row n words (Area space) few))

  pub low_is : (space : ℕ) → space < 2 → place ≡ place_of n (Area space) → word / 2 ^ 18 % 2 ^ 18 ≡ ((table_of n words).area space).low
  unfolding table_of area_in
  low_is space few is = ap (λ w. w / 2 ^ 18 % 2 ^ 18) (ap (λ x. get_or words x 0) is ∙ sym (word_in-row n words (Area space) few))

  pub word_is : (x : ℕ) → x ≤ 128 * n + 63 → place ≡ place_of n (HeapWord x) → word ≡ (table_of n words).heap x
  unfolding table_of
  word_is x inside is = ap (λ y. get_or words y 0) is ∙ sym (word_in-row n words (HeapWord x) inside)

pub none_is : (n : ℕ) (words : List ℕ) (x : ℕ) → 128 * n + 63 < x → 0 ≡ (table_of n words).heap x
unfolding table_of word_in
none_is n words x behind = rw (lt-leb x (128 * n + 63) behind) (λ i. 0)

pub pages_is : (n : ℕ) (words : List ℕ) → (table_of n words).pages ≡ n
unfolding table_of
pages_is n words = λ i. n

-- two words differ exactly where what they are differs
pub differs : (a b x y : ℕ) → a ≡ x → b ≡ y → (IsTrue (not (eqb a b)) → x ≡ y → ⊥) × ((x ≡ y → ⊥) → IsTrue (not (eqb a b)))
differs a b x y p q = (
  λ t e. let s : eqb a b ≡ true = eq-eqb a b (p ∙ (e ∙ sym q)) in let f : not true ≡ true = rw s at t in absurd (cc),
  λ apart. let s : eqb a b ≡ false = ne_eqb a b (λ e. apart (sym p ∙ (e ∙ q))) in rw s refl,
)
