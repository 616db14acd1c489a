-- Emptying cells changes nothing of what is live: no field is among their values, and they stay as long as they were.
use Rattle.std.proofs.Common.{◌≡◌, ℕ, ◌⊎◌, inl, inr, Bool, true, false, cond, List, [], ◌∷◌, Option, Some, None, slice_get, slice_set, refl, ap, sym, ◌∙◌, length-set}
use Rattle.std.specs.Option.{option_map}
use Rattle.std.proofs.lemmas.List.Elements.{All-weaker}
use Rattle.std.proofs.lemmas.Option.{same_Some}
use Rattle.plain_state.specs.declared.kind.Kind.{Kind}
use Rattle.plain_state.specs.declared.kind.Kind.TheVariants.{Weak}
use Rattle.plain_state.specs.declared.value.Identity.{Identity}
use Rattle.plain_state.specs.declared.value.Value.{Value}
use Rattle.plain_state.specs.declared.value.Value.TheVariants.{Number}
use Rattle.plain_state.specs.Cells.{is_cell, without_target}
use Rattle.plain_state.specs.Layout.{is_field, size_of, word_of_value}
use Rattle.plain_state.specs.Reachable.{Reachable, FromRegister, FromBoard, FromRecord, IsLive, sum_of_records, words_of}
use Rattle.plain_state.specs.State.{Mutator, Plain, Record, record_of}
use Rattle.plain_heap.specs.Emptied.{cells_to_empty, emptied}
use Rattle.plain_heap.proofs.Reaching.Emptying.{all-is, emptied_of_lost_cells}

-- it is no cell
no_cell : (k : Kind) (x : ℕ) → is_field k x ≡ true → is_cell k ≡ false
no_cell Weak x field = absurd (cc)
no_cell _ x field = refl

-- and stays what it is
as_it_was : (r : Record) → is_cell r.kind ≡ false → without_target r ≡ r
as_it_was r none = rw none refl

same_size : (r : Record) → size_of (without_target r) ≡ size_of r
same_size r = by_kind (is_cell r.kind)
  where
    by_kind : (cell : Bool) → size_of (cond cell (record r { values = slice_set r.values 0 (Number 0) }) r) ≡ size_of r
    by_kind true = let same = length-set r.values 0 (Number 0) in rw same refl
    by_kind false = refl

module _ (o p : Plain) where
  abbrev q : Plain
  q = emptied o p

  abbrev Is : Identity → Type 0
  Is j = (record_of q.heap j ≡ record_of p.heap j) ⊎ (record_of q.heap j ≡ option_map without_target (record_of p.heap j))

  is : (j : Identity) → Is j
  unfolding emptied
  is j = all-is j (cells_to_empty o) p.heap

  same_mutators : q.mutators ≡ p.mutators
  same_mutators = (emptied_of_lost_cells o p).mutators

  same_board : q.heap.board ≡ p.heap.board
  same_board = (emptied_of_lost_cells o p).board

  -- ---- there and back

  later : (i : Identity) (r : Record) (x : ℕ) → record_of p.heap i ≡ Some r → is_field r.kind x ≡ true → record_of q.heap i ≡ Some r
  later i r x found field = by_is (is i)
    where
      by_is : Is i → record_of q.heap i ≡ Some r
      by_is (inl same) = same ∙ found
      by_is (inr less) = less ∙ ap (option_map without_target) found ∙ ap Some (as_it_was r (no_cell r.kind x field))

  before : (i : Identity) (r : Record) (x : ℕ) → record_of q.heap i ≡ Some r → is_field r.kind x ≡ true → record_of p.heap i ≡ Some r
  before i r x found field = by_is (is i)
    where
      by_record : (w : Option Record) → record_of p.heap i ≡ w → option_map without_target w ≡ Some r → w ≡ Some r
      by_record None was less = absurd (cc)
      by_record (Some u) was less =
          let same : without_target u ≡ r = same_Some (without_target u) r less in
          ap Some (sym (as_it_was u (by_kind u same (is_cell u.kind) refl)) ∙ same)
        where
          by_kind : (u : Record) → without_target u ≡ r → (cell : Bool) → is_cell u.kind ≡ cell → is_cell u.kind ≡ false
          by_kind u same true cell =
              let kind : r.kind ≡ u.kind = ap (λ (z : Record). z.kind) (sym same) ∙ ap (λ (b : Bool). (cond b (record u { values = slice_set u.values 0 (Number 0) }) u).kind) cell in
              absurd (let none = no_cell r.kind x field in let e : is_cell r.kind ≡ true = ap is_cell kind ∙ cell in cc)
          by_kind u same false cell = cell

      by_is : Is i → record_of p.heap i ≡ Some r
      by_is (inl same) = sym same ∙ found
      by_is (inr less) = by_record (record_of p.heap i) refl (sym less ∙ found)

  reached_later : (i : Identity) → Reachable p i → Reachable q i
  reached_later _ (FromRegister m k j i its none holds) = FromRegister m k j i (ap (λ (ms : List Mutator). slice_get ms m) same_mutators ∙ its) none holds
  reached_later _ (FromBoard x i holds) = FromBoard x i (ap (λ (b : List Value). slice_get b x) same_board ∙ holds)
  reached_later _ (FromRecord i r n j reached found field holds) = FromRecord i r n j (reached_later i reached) (later i r (word_of_value r.kind n) found field) field holds

  reached_before : (i : Identity) → Reachable q i → Reachable p i
  reached_before _ (FromRegister m k j i its none holds) = FromRegister m k j i (sym (ap (λ (ms : List Mutator). slice_get ms m) same_mutators) ∙ its) none holds
  reached_before _ (FromBoard x i holds) = FromBoard x i (sym (ap (λ (b : List Value). slice_get b x) same_board) ∙ holds)
  reached_before _ (FromRecord i r n j reached found field holds) = FromRecord i r n j (reached_before i reached) (before i r (word_of_value r.kind n) found field) field holds

  same_words : (i : Identity) → words_of (record_of q.heap i) ≡ words_of (record_of p.heap i)
  same_words i = by_is (is i)
    where
      by_record : (w : Option Record) → words_of (option_map without_target w) ≡ words_of w
      by_record None = refl
      by_record (Some r) = same_size r

      by_is : Is i → words_of (record_of q.heap i) ≡ words_of (record_of p.heap i)
      by_is (inl same) = ap words_of same
      by_is (inr less) = ap words_of less ∙ by_record (record_of p.heap i)

  same_sum : (identities : List Identity) → sum_of_records q.heap identities ≡ sum_of_records p.heap identities
  same_sum [] = refl
  same_sum (i ∷ identities) = let here = same_words i in let rest = same_sum identities in rw (here, rest) refl

  pub live_emptied : (words : ℕ) → IsLive p words → IsLive q words
  live_emptied words live = record {
    identities = live.identities;
    reachable = All-weaker (Reachable p) (Reachable q) reached_later live.identities live.reachable;
    all = λ i reached. live.all i (reached_before i reached);
    once = live.once;
    sum = same_sum live.identities ∙ live.sum;
  }
