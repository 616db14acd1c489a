-- The records to which the board of a picture leads are those that belong to its checkpoint.
use Rattle.std.proofs.Common.{◌≡◌, ⊎_elim, ℕ, ◌+◌, ◌<◌, ◌≤◌, true, List, map, length, slice_get, Some, sym, ap, ◌∙◌, subst, arith}
use Rattle.std.specs.List.{Contains}
use Rattle.std.proofs.Math.ListN.{get_or-map}
use Rattle.std.proofs.lemmas.Bool.{cases_lt}
use Rattle.std.proofs.lemmas.List.{length-map}
use Rattle.std.proofs.lemmas.List.Elements.{All-contains}
use Rattle.std.proofs.lemmas.Option.{same_Some, slice_get_within}
use Rattle.heap_words.specs.Decoded.{PointerWord, decode}
use Rattle.plain_state.specs.declared.value.Identity.{Identity}
use Rattle.plain_state.specs.declared.value.Value.TheVariants.{Number, Reference}
use Rattle.plain_state.specs.Layout.{is_field, word_of_value}
use Rattle.plain_state.specs.State.{Record, Snapped}
use Rattle.plain_heap.specs.Checkpoints.Checkpoint.{BoardRefers, FieldRefers, ReachedFrom, kept_record}
use Rattle.heap_state.specs.Meaning.Values.{value_of, value_said}
use Rattle.checkpoint_text.specs.declared.saved_record.SavedRecord.{SavedRecord}
use Rattle.checkpoint_text.specs.Records.{denoted_count, first_value, record_there}
use Rattle.checkpoint_text.specs.Reached.{AreReached, FromBoard, FromField, Reaches}
use Rattle.checkpoint_text.proofs.Pictures.{IsSaved, Pictured, board_of, board_word_is, place_within, reference_is, saved_at, saved_there, value_word_is}
use Rattle.checkpoint_text.proofs.RecordKinds.{some_before}

pub contains_map : {X Y : Type 0} (f : X → Y) (xs : List X) (x : X) → Contains xs x → Contains (map f xs) (f x)
contains_map f xs x has = let within = has.1 in (has.0, omega (arith, within, length-map xs f), get_or-map f xs has.0 x ∙ ap f has.2)

-- the same word is the same pointer
same_pointer : (v w b : ℕ) → v ≡ w → decode w ≡ PointerWord b → decode v ≡ PointerWord b
same_pointer v w b same is = ap decode same ∙ is

-- a number is no reference
no_number : (m : ℕ) (i : Identity) → Some (Number m) ≡ Some (Reference i) → ⊥
no_number m i is = cc

module _ (kept : Snapped) (p : Pictured kept) where
  denoted : (w b : ℕ) → decode w ≡ PointerWord b → value_of p.frozen.identity w ≡ Some (Reference (p.frozen.identity b))
  unfolding value_of
  denoted w b is = ap (value_said p.frozen.identity) is

  pointed : (w : ℕ) (i : Identity) → value_of p.frozen.identity w ≡ Some (Reference i) → (b : ℕ) × (decode w ≡ PointerWord b) × (p.frozen.identity b ≡ i)
  unfolding value_of
  pointed w i is = reference_is p.frozen.identity (decode w) i is

  -- a reached record stands in the frozen heap, and belongs to the checkpoint
  pub record Belongs (r : SavedRecord) : Type 0 where
    pub saved : IsSaved p.heap p.frozen kept r.address r
    pub reached : ReachedFrom kept r.identity

  belongs_at : (b : ℕ) (r : SavedRecord) → 0 < p.frozen.size b → record_there p.heap b ≡ Some r → ReachedFrom kept (p.frozen.identity b) → Belongs r
  belongs_at b r some found reached =
      let s = saved_there kept p b r some found in
      record {
        saved = subst (λ (a : ℕ). IsSaved p.heap p.frozen kept a r) (sym s.address) s;
        reached = subst (ReachedFrom kept) (sym s.identity) reached;
      }

  pub belongs : (r : SavedRecord) → Reaches p.heap (board_of p) r → Belongs r
  belongs _ (FromBoard r on) =
      let b = on.refers.0 in
      let is = same_pointer (p.frozen.heap (board_of p + on.x)) (p.heap (board_of p + on.x)) b (sym (board_word_is kept p on.x on.within)) on.refers.1 in
      belongs_at b r (p.picture.board_lands on.x b on.within is) on.refers.2
      (BoardRefers on.x (p.frozen.identity b) (sym (p.picture.board on.x on.within) ∙ denoted (p.frozen.heap (board_of p + on.x)) b is))
  belongs _ (FromField from r reaches field) =
      let before = belongs from reaches in
      let s = before.saved in
      let a = from.address in
      let x = field.x in
      let b = field.refers.0 in
      let within : x < from.len = omega (arith, field.within) in
      let low : x < from.fields = omega (arith, field.within) in
      let i = word_of_value (p.frozen.kind a) x in
      let front : is_field (p.frozen.kind a) i ≡ true = s.front x within low in
      let is = same_pointer (p.frozen.heap (a + i)) (p.heap (first_value from + x)) b (sym (value_word_is kept p a from s x within)) field.refers.1 in
      let there : slice_get s.shown.values x ≡ Some (Reference (p.frozen.identity b)) = sym (s.shows.fields x (omega (arith, within, s.len)) front) ∙ denoted (p.frozen.heap (a + i)) b is in
      let its : is_field s.shown.kind (word_of_value s.shown.kind x) ≡ true = ap (λ k. is_field k (word_of_value k x)) s.shows.kind ∙ front in
      let kept_so : kept_record kept from.identity ≡ Some s.shown = ap (kept_record kept) s.identity ∙ s.is in
      belongs_at b r (p.picture.field_lands a i b (omega (arith, some_before (p.frozen.kind a))) (place_within kept p a from s x within) front is) field.refers.2
      (FieldRefers from.identity s.shown x (p.frozen.identity b) before.reached kept_so its there)

  module _ (records : List SavedRecord) (are : AreReached p.heap (board_of p) records) (board_words : length kept.board ≡ 16) where
    -- a record of the identity is in the list
    pub record Has (i : Identity) : Type 0 where
      pub found : SavedRecord
      pub has : Contains records found
      pub its : found.identity ≡ i

    has_at : (b : ℕ) (i : Identity) → 0 < p.frozen.size b → p.frozen.identity b ≡ i → ((r : SavedRecord) → record_there p.heap b ≡ Some r → Contains records r) → Has i
    has_at b i some is listed =
        let s = saved_at kept p b some in
        record { found = s.0; has = listed s.0 s.1.found; its = s.1.identity ∙ is }

    pub has_each : (i : Identity) → ReachedFrom kept i → Has i
    has_each _ (BoardRefers x i there) =
        let below : x < 16 = omega (arith, slice_get_within kept.board x (Reference i) there, board_words) in
        let to = pointed (p.frozen.heap (board_of p + x)) i (p.picture.board x below ∙ there) in
        let word = same_pointer (p.heap (board_of p + x)) (p.frozen.heap (board_of p + x)) to.0 (board_word_is kept p x below) to.1 in
        has_at to.0 i (p.picture.board_lands x to.0 below to.1) to.2
        (λ r found. are.from_board r (record { x = x; within = below; refers = (to.0, word, found) }))
    has_each _ (FieldRefers i r x j reached kept_so field there) =
        let before = has_each i reached in
        let from = before.found in
        let s = (belongs from (All-contains (Reaches p.heap (board_of p)) records from are.reached before.has)).saved in
        let a = from.address in
        let same : r ≡ s.shown = same_Some r s.shown (sym kept_so ∙ ap (kept_record kept) (sym (sym s.identity ∙ before.its)) ∙ s.is) in
        let its : slice_get s.shown.values x ≡ Some (Reference j) = ap (λ (q : Record). slice_get q.values x) (sym same) ∙ there in
        let within : x < from.len = omega (arith, slice_get_within s.shown.values x (Reference j) its, s.len) in
        let i = word_of_value (p.frozen.kind a) x in
        let low : x < from.fields = ⊎_elim
        (λ (low : x < from.fields). low)
        (λ (high : from.fields ≤ x).
        let denoted : denoted_count from ≡ from.fields = s.denoted i (ap (λ k. is_field k (word_of_value k x)) (sym (ap (λ (q : Record). q.kind) same ∙ s.shows.kind)) ∙ field) in
        absurd (no_number (p.frozen.heap (a + i)) j (s.shows.numbers x (omega (arith, within, s.len)) (s.behind x within (omega (arith, high, denoted))) ∙ its)))
        (cases_lt x from.fields) in
        let front = s.front x within low in
        let to = pointed (p.frozen.heap (a + i)) j (s.shows.fields x (omega (arith, within, s.len)) front ∙ its) in
        let word = same_pointer (p.heap (first_value from + x)) (p.frozen.heap (a + i)) to.0 (value_word_is kept p a from s x within) to.1 in
        has_at to.0 j (p.picture.field_lands a i to.0 (omega (arith, some_before (p.frozen.kind a))) (place_within kept p a from s x within) front to.1) to.2
        (λ q found. are.from_fields from q before.has (record { x = x; within = omega (arith, within, low); refers = (to.0, word, found) }))
