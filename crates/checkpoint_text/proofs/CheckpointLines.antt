-- The lines of what is read are those of the checkpoint that is kept.
use Rattle.std.proofs.Common.{◌≡◌, ◌≢◌, ℕ, zero, suc, ◌^◌, ◌<◌, List, [], ◌∷◌, ◌++◌, map, length, slice_index, slice_index_or, unwrap_or, Some, refl, sym, ap, ◌∙◌, subst, arith}
use Rattle.std.specs.List.{All, Contains, flat_map}
use Rattle.std.proofs.Math.ListN.{get_or-map}
use Rattle.std.proofs.lemmas.List.{append_assoc, length-map}
use Rattle.std.proofs.lemmas.List.Elements.{All-head, All-map, All-tail}
use Rattle.std.proofs.lemmas.List.Folds.{flat_map-map}
use Rattle.heap_words.specs.declared.kind.Kind.TheVariants.{Fields}
use Rattle.plain_state.specs.declared.value.Identity.{Identity}
use Rattle.plain_state.specs.State.{Snapped}
use Rattle.space_map.specs.Table.{saving_length}
use Rattle.space_map.specs.Spaces.{IsPageCount, board_page, first_word}
use Rattle.plain_heap.specs.Checkpoints.Checkpoint.{Checkpoint, IsCheckpoint, IsListedBefore, KeptRecord, ReachedFrom, board_line, checkpoint_lines, identities_of, kept_record, number_line, record_line}
use Rattle.heap_state.specs.Saving.Words.{saves_of}
use Rattle.heap_state.specs.Saving.Said.{SaysCheckpoint}
use Rattle.checkpoint_text.specs.declared.saved_record.SavedRecord.{SavedRecord}
use Rattle.checkpoint_text.specs.Heap.{saved_word}
use Rattle.checkpoint_text.specs.Records.{content_of, values_read}
use Rattle.checkpoint_text.specs.Reached.{AreListed, Reaches}
use Rattle.checkpoint_text.specs.Text.{AreLinesOf, HaveNoRoom, TellsCheckpoint}
use Rattle.checkpoint_text.proofs.Leads.{belongs, contains_map, has_each}
use Rattle.checkpoint_text.proofs.Pictures.{IsSaved, Pictured, board_is, board_of, line_is, pictured}
use Rattle.checkpoint_text.proofs.Sorts.{addresses_apart, rises}

abbrev identity_of : KeptRecord → Identity
identity_of r = r.identity

-- lists that are made of each element in two ways alike are the same
flat_map_same : {X Y : Type 0} (f g : X → List Y) (xs : List X) → All (λ x. f x ≡ g x) xs → flat_map f xs ≡ flat_map g xs
flat_map_same f g [] same = refl
flat_map_same f g (x ∷ xs) same =
    ap (λ ys. ys ++ flat_map f xs) (All-head (λ y. f y ≡ g y) x xs same) ∙ ap (λ ys. g x ++ ys) (flat_map_same f g xs (All-tail (λ y. f y ≡ g y) x xs same))

module _ (kept : Snapped) (p : Pictured kept) (records : List SavedRecord) (are : AreListed p.heap (board_of p) records) (board_words : length kept.board ≡ 16) where
  -- a record with what is kept of it
  abbrev kept_of : SavedRecord → KeptRecord
  kept_of r = record { identity = r.identity; content = unwrap_or (kept_record kept r.identity) (content_of p.heap r).content }

  abbrev contents : List KeptRecord
  contents = map kept_of records

  -- that is what the frozen heap shows
  kept_is : (r : SavedRecord) (s : IsSaved p.heap p.frozen kept r.address r) → kept_record kept r.identity ≡ Some s.shown
  kept_is r s = ap (kept_record kept) s.identity ∙ s.is

  content_is : (r : SavedRecord) (s : IsSaved p.heap p.frozen kept r.address r) → (kept_of r).content ≡ s.shown
  content_is r s = ap (λ o. unwrap_or o (content_of p.heap r).content) (kept_is r s)

  line_there : (r : SavedRecord) → Reaches p.heap (board_of p) r → record_line (content_of p.heap r) ≡ record_line (kept_of r)
  line_there r reaches =
      let s = (belongs kept p r reaches).saved in
      line_is kept p r.address r s ∙ sym (ap (λ c. record_line (record { identity = r.identity; content = c })) (content_is r s))

  abbrev made : Checkpoint
  made = record { board = values_read p.heap (board_of p) 16 16; records = contents }

  identities_apart : (i j : ℕ) (d : SavedRecord) → i < j → j < length records → (slice_index_or records i d).identity ≢ (slice_index_or records j d).identity
  identities_apart i j d later within e =
      let first = (belongs kept p (slice_index_or records i d) (are.reached.reached i d (omega (arith, later, within)))).saved in
      let second = (belongs kept p (slice_index_or records j d) (are.reached.reached j d within)).saved in
      addresses_apart p.heap (board_of p) records are.reached i j d later within
      (p.picture.once (slice_index_or records i d).address (slice_index_or records j d).address first.some second.some (sym first.identity ∙ e ∙ second.identity))

  -- a record with an identity, to stand for none
  abbrev with_identity : Identity → SavedRecord
  with_identity i = record { address = 0; identity = i; kind = Fields; fields = 0; len = 0 }

  identity_at_place : (k : ℕ) (d : Identity) → slice_index_or (identities_of contents) k d ≡ (slice_index_or records k (with_identity d)).identity
  identity_at_place k d = get_or-map identity_of contents k (kept_of (with_identity d)) ∙ ap identity_of (get_or-map kept_of records k (with_identity d))

  all_rise : (i j : ℕ) (d : Identity) → i < j → j < length (identities_of contents) → IsListedBefore (slice_index_or (identities_of contents) i d) (slice_index_or (identities_of contents) j d)
  all_rise i j d later within =
      let inside : j < length records = omega (arith, within, length-map contents identity_of, length-map records kept_of) in
      let e = with_identity d in
      let first : IsListedBefore (slice_index_or records i e).identity (slice_index_or records j e).identity = rises p.heap (board_of p) records are i j e later inside (identities_apart i j e later inside) in
      subst (λ (a : Identity). IsListedBefore a (slice_index_or (identities_of contents) j d)) (sym (identity_at_place i d))
      (subst (IsListedBefore (slice_index_or records i e).identity) (sym (identity_at_place j d)) first)

  pub is_checkpoint : IsCheckpoint kept made
  is_checkpoint = record {
    board = board_is kept p board_words;
    rising = all_rise;
    reached = All-map (ReachedFrom kept) identity_of contents (All-map (λ (r : KeptRecord). ReachedFrom kept r.identity) kept_of records (λ k d within. (belongs kept p (slice_index_or records k d) (are.reached.reached k d within)).reached));
    complete = λ i reached.
        let here = has_each kept p records are.reached board_words i reached in
        subst (Contains (identities_of contents)) here.its (contains_map identity_of contents (kept_of here.found) (contains_map kept_of records here.found here.has));
    as_kept = All-map (λ (r : KeptRecord). kept_record kept r.identity ≡ Some r.content) kept_of records
        (λ k d within.
        let r = slice_index_or records k d in
        let s = (belongs kept p r (are.reached.reached k d within)).saved in
        kept_is r s ∙ ap Some (sym (content_is r s)));
  }

  pub lines_are : (number : ℕ) (bytes : List ℕ) → 0 < number
      → bytes ≡ (number_line number ++ board_line (values_read p.heap (board_of p) 16 16)) ++ flat_map (λ r. record_line (content_of p.heap r)) records → checkpoint_lines number kept bytes
  lines_are zero bytes begun is = absurd (omega (arith, begun))
  lines_are (suc n) bytes begun is =
      let board = board_line (values_read p.heap (board_of p) 16 16) in (
        made,
        is_checkpoint,
        is ∙ append_assoc (number_line (suc n)) board (flat_map (λ r. record_line (content_of p.heap r)) records)
            ∙ ap (λ (t : List ℕ). number_line (suc n) ++ (board ++ t))
            (flat_map_same (λ r. record_line (content_of p.heap r)) (λ r. record_line (kept_of r)) records (λ k d within. line_there (slice_index_or records k d) (are.reached.reached k d within)) ∙ sym (flat_map-map record_line kept_of records)),
      )

some_begun : (snap number : ℕ) → snap ≡ number → (snap ≡ 0 → ⊥) → 0 < number
some_begun snap number is some = omega (arith, is, some)

module _ (n : ℕ) (words : List ℕ) (count : IsPageCount n) (whole : length words ≡ saving_length n) where
  said_here : (number : ℕ) (kept : Snapped) → TellsCheckpoint words number kept → SaysCheckpoint n words number kept
  said_here number kept tells =
      let same : tells.pages ≡ n = omega (arith, whole, tells.table.length) in
      subst (λ (m : ℕ). SaysCheckpoint m words number kept) same tells.says

  -- there is room for checkpoints
  none_here : (bytes : List ℕ) → HaveNoRoom words → bytes ≡ []
  none_here bytes no_room = absurd (no_room n (record { count = count; length = whole }))

  -- before the first checkpoint
  pub none_told : (bytes : List ℕ) → (saves_of n words).snap ≡ 0 → bytes ≡ number_line 0 → AreLinesOf words bytes
  none_told bytes none is = record {
    told = λ number kept tells.
        let zero_is : 0 ≡ number = sym none ∙ (said_here number kept tells).number_is in
        subst (λ (m : ℕ). checkpoint_lines m kept bytes) zero_is is;
    none = none_here bytes;
  }

  -- and after it
  pub some_told : ((place : ℕ) → slice_index words place < 2 ^ 64) → (snap : ℕ) (bytes : List ℕ) (records : List SavedRecord) → snap ≡ (saves_of n words).snap → (snap ≡ 0 → ⊥) → AreListed (saved_word n words) (first_word (board_page n)) records
      → bytes ≡ (number_line snap ++ board_line (values_read (saved_word n words) (first_word (board_page n)) 16 16)) ++ flat_map (λ r. record_line (content_of (saved_word n words) r)) records → AreLinesOf words bytes
  some_told fit snap bytes records snap_is some are is = record {
    told = λ number kept tells.
        let says = said_here number kept tells in
        let number_is : snap ≡ number = snap_is ∙ says.number_is in
        let begun = some_begun snap number number_is some in
        let board = board_line (values_read (saved_word n words) (first_word (board_page n)) 16 16) in
        lines_are kept (pictured n words fit number kept says begun) records are (says.picture begun).sixteen number bytes begun
        (is ∙ ap (λ (m : ℕ). (number_line m ++ board) ++ flat_map (λ r. record_line (content_of (saved_word n words) r)) records) number_is);
    none = none_here bytes;
  }
