-- What is read of a table that says a checkpoint: the records and the values that are kept of it.
use Rattle.std.proofs.Common.{◌≡◌, ⊎_elim, ℕ, zero, suc, ◌+◌, ◌-◌, ◌*◌, ◌/◌, ◌^◌, ◌<◌, ◌≤◌, Bool, true, false, cond, List, [], ◌∷◌, ◌++◌, length, slice_get, slice_index, slice_index_or, take, codes, decimal, Some, None, refl, sym, ap, ◌∙◌, subst, arith, add-zero, add-one}
use Rattle.std.proofs.lemmas.Bool.{cases_lt, le-ltb, lt-ltb}
use Rattle.std.proofs.lemmas.List.{take_all, take_more}
use Rattle.std.proofs.lemmas.Option.{get_or_from_slice_get, same_Some, slice_get-get_or}
use Rattle.heap_words.specs.declared.word.TheConstants.{NUMBERS}
use Rattle.heap_words.specs.Word.{number_word}
use Rattle.heap_words.specs.Decoded.{Decoded, NumberWord, PointerWord, HeaderWord, decode, number_in, pointer_in}
use Rattle.heap_words.proofs.Decoding.{decode-number_word}
use Rattle.record_layout.specs.declared.header.Header.{Header}
use Rattle.record_layout.specs.Layout.{header_in}
use Rattle.record_layout.proofs.Rereading.{header_in-said}
use Rattle.plain_state.specs.declared.kind.Kind.{Kind}
use Rattle.plain_state.specs.declared.kind.Kind.TheVariants.{Mixed, Weak}
use Rattle.plain_state.specs.declared.value.Identity.{Identity}
use Rattle.plain_state.specs.declared.value.Value.{Value}
use Rattle.plain_state.specs.declared.value.Value.TheVariants.{Number, Reference}
use Rattle.plain_state.specs.Layout.{is_field, is_raw, word_of_value, values_at as words_ahead, words_behind}
use Rattle.plain_state.specs.State.{Record, Snapped}
use Rattle.space_map.specs.Spaces.{board_page, first_word, page_of}
use Rattle.space_map.specs.Table.{HeapWord, ImageOf, is_save_row, place_of, save_place_of}
use Rattle.plain_heap.specs.Checkpoints.Checkpoint.{identity_text, kept_record, kind_text, record_line, values_text}
use Rattle.heap_state.specs.Memory.Table.{is_row, table_of, word_in}
use Rattle.heap_state.specs.Invariant.Ghost.{header_kind}
use Rattle.heap_state.specs.Meaning.Values.{CountShows, Shows, value_of, value_said}
use Rattle.heap_state.specs.Saving.Words.{reads_saved, save_word_in, saves_of}
use Rattle.heap_state.specs.Saving.Frozen.{Frozen}
use Rattle.heap_state.specs.Saving.Kept.{KeepsPicture}
use Rattle.heap_state.specs.Saving.Said.{SaysCheckpoint}
use Rattle.checkpoint_text.specs.declared.saved_record.SavedRecord.{SavedRecord}
use Rattle.checkpoint_text.specs.Heap.{field_value, identity_there, identity_by, saved_word, value_by}
use Rattle.checkpoint_text.specs.Records.{content_of, denoted_by, denoted_count, fields_by, first_value, kind_with, record_there, record_by, record_with, value_read, values_read, words_after, words_before}
use Rattle.checkpoint_text.proofs.RecordKinds.{SaysCount, after_is, before_is, field_is, kind_is, no_target, raw_is, some_before, target_is}

-- ---- a heap that is read so

-- A heap that is read shows what is kept of a checkpoint: on the frozen heap's pages it is that heap.
pub record Pictured (kept : Snapped) : Type 0 where
  pub pages : ℕ
  pub frozen : Frozen
  pub heap : ℕ → ℕ
  pub picture : KeepsPicture pages frozen kept.board kept.records
  pub read : (x : ℕ) → frozen.held (page_of x) ≡ true → heap x ≡ frozen.heap x
  pub fits : (x : ℕ) → heap x < 2 ^ 64

abbrev pub board_of : {kept : Snapped} → Pictured kept → ℕ
board_of p = first_word (board_page p.pages)

below_if : (b : Bool) (x y : ℕ) → x < 2 ^ 64 → y < 2 ^ 64 → cond b x y < 2 ^ 64
below_if true x y first second = first
below_if false x y first second = second

module _ (n : ℕ) (words : List ℕ) (fit : (place : ℕ) → slice_index words place < 2 ^ 64) where
  image_fits : (x : ℕ) → (saves_of n words).image x < 2 ^ 64
  unfolding saves_of save_word_in
  image_fits x = below_if (is_save_row n (ImageOf x)) (slice_index words (save_place_of n (ImageOf x))) 0 (fit (save_place_of n (ImageOf x))) (omega arith)

  heap_fits : (x : ℕ) → (table_of n words).heap x < 2 ^ 64
  unfolding table_of word_in
  heap_fits x = below_if (is_row n (HeapWord x)) (slice_index words (place_of n (HeapWord x))) 0 (fit (place_of n (HeapWord x))) (omega arith)

  pub word_fits : (x : ℕ) → saved_word n words x < 2 ^ 64
  unfolding saved_word
  word_fits x = below_if (reads_saved (saves_of n words) (page_of x)) ((saves_of n words).image x) ((table_of n words).heap x) (image_fits x) (heap_fits x)

  pub read_so : (number : ℕ) (kept : Snapped) (says : SaysCheckpoint n words number kept) → 0 < number → (x : ℕ) → says.frozen.held (page_of x) ≡ true → saved_word n words x ≡ says.frozen.heap x
  unfolding saved_word
  read_so number kept says begun = says.read begun

  -- so is that of a table which says a checkpoint
  abbrev pub pictured : (number : ℕ) (kept : Snapped) → SaysCheckpoint n words number kept → 0 < number → Pictured kept
  pictured number kept says begun = record {
    pages = n;
    frozen = says.frozen;
    heap = saved_word n words;
    picture = says.picture begun;
    read = read_so number kept says begun;
    fits = word_fits;
  }

-- ---- values

-- the values that are read one by one are those of a list
pub values_are : (heap : ℕ → ℕ) (first fields : ℕ) (vs : List Value) (count : ℕ) → ((x : ℕ) → x < count → Some (value_read heap (first + x) x fields) ≡ slice_get vs x) → count ≤ length vs → values_read heap first fields count ≡ take count vs
values_are heap first fields vs zero each within = refl
values_are heap first fields vs (suc x) each within =
    let v = value_read heap (first + x) x fields in
    let is : slice_index_or vs x v ≡ v = get_or_from_slice_get vs x v v (sym (each x (omega arith))) in
    let more : take (x + 1) vs ≡ take x vs ++ slice_index_or vs x v ∷ [] = take_more vs x v (omega (arith, within)) in
    ap (λ (xs : List Value). xs ++ v ∷ []) (values_are heap first fields vs x (λ y before. each y (omega (arith, before))) (omega (arith, within)))
    ∙ ap (λ (w : Value). take x vs ++ w ∷ []) (sym is) ∙ sym more ∙ ap (λ (k : ℕ). take k vs) (add-one x)

pub all_values : (heap : ℕ → ℕ) (first fields : ℕ) (vs : List Value) → ((x : ℕ) → x < length vs → Some (value_read heap (first + x) x fields) ≡ slice_get vs x) → (count : ℕ) → count ≡ length vs → values_read heap first fields count ≡ vs
all_values heap first fields vs each count e = values_are heap first fields vs count (λ x within. each x (omega (arith, within, e))) (omega (arith, e)) ∙ take_all count vs (omega (arith, e))

-- a reference is said by a pointer alone
pub reference_is : (identity : ℕ → Identity) (d : Decoded) (i : Identity) → value_said identity d ≡ Some (Reference i) → (b : ℕ) × (d ≡ PointerWord b) × (identity b ≡ i)
reference_is identity (NumberWord m) i is = absurd (let differ : Some (Number m) ≡ Some (Reference i) = is in cc)
reference_is identity (PointerWord b) i is = (b, refl, let same : Some (Reference (identity b)) ≡ Some (Reference i) = is in cc)
reference_is identity _ i is = absurd (let differ : None ≡ Some (Reference i) = is in cc)

-- ---- a record

-- the record at a is read so, and is kept so
pub record IsSaved (heap : ℕ → ℕ) (z : Frozen) (kept : Snapped) (a : ℕ) (r : SavedRecord) : Type 0 where
  pub some : 0 < z.size a
  pub found : record_there heap a ≡ Some r
  pub address : r.address ≡ a
  pub identity : r.identity ≡ z.identity a
  pub kind : kind_with r.kind r.fields ≡ z.kind a
  pub before : words_before r.kind ≡ words_ahead (z.kind a)
  pub front : (x : ℕ) → x < r.len → x < r.fields → is_field (z.kind a) (word_of_value (z.kind a) x) ≡ true
  pub behind : (x : ℕ) → x < r.len → denoted_count r ≤ x → is_raw (z.kind a) (word_of_value (z.kind a) x) ≡ true
  pub target : (x : ℕ) → x < denoted_count r → r.fields ≤ x → (x ≡ 0) × (z.kind a ≡ Weak)
  pub denoted : (i : ℕ) → is_field (z.kind a) i ≡ true → denoted_count r ≡ r.fields
  pub shown : Record
  pub is : kept_record kept (z.identity a) ≡ Some shown
  pub shows : Shows (value_of z.identity) z.heap a (z.kind a) (z.size a) shown
  pub len : r.len ≡ length shown.values

module _ (kept : Snapped) (p : Pictured kept) where
  -- a word of a record, its header, and a word of the board
  pub word_is : (a i : ℕ) → 0 < p.frozen.size a → i < p.frozen.size a → p.heap (a + i) ≡ p.frozen.heap (a + i)
  word_is a i some within = p.read (a + i) ((p.picture.records a some).held i within)

  header_word_is : (a : ℕ) → 0 < p.frozen.size a → p.heap a ≡ p.frozen.heap a
  header_word_is a some = subst (λ (x : ℕ). p.heap x ≡ p.frozen.heap x) (add-zero a) (word_is a 0 some some)

  pub board_word_is : (x : ℕ) → x < 16 → p.heap (board_of p + x) ≡ p.frozen.heap (board_of p + x)
  board_word_is x below =
      let on_page : 2 * p.pages ≡ (64 * (2 * p.pages) + x) / 64 = omega arith in
      p.read (board_of p + x) (subst (λ (page : ℕ). p.frozen.held page ≡ true) on_page p.picture.held)

  count_below : (a count : ℕ) → p.heap (a + 1) ≡ number_word count → count < NUMBERS
  unfolding number_word
  count_below a count is = omega (arith, p.fits (a + 1), is)

  -- word 1 says the count of fields, if the record is mixed
  count_is : (a : ℕ) (k : Kind) → 0 < p.frozen.size a → words_ahead k ≤ p.frozen.size a → CountShows k p.frozen.heap a → SaysCount k (p.heap (a + 1))
  count_is a (Mixed count) some long shows =
      let is : p.heap (a + 1) ≡ number_word count = word_is a 1 some (omega (arith, long)) ∙ shows in
      ap decode is ∙ decode-number_word count (count_below a count is)
  count_is a _ some long shows = tt

  same_identity : (h : Header) (i : Identity) → h.serial ≡ i.serial → h.mutator ≡ i.mutator → identity_by (Some h) ≡ i
  same_identity h i serial mutator = λ k. record { mutator = mutator k; serial = serial k }

  said : (a : ℕ) (some : 0 < p.frozen.size a) → decode (p.heap a) ≡ HeaderWord (header_kind (p.frozen.kind a)) (p.frozen.size a - 1) (p.frozen.identity a).serial (p.frozen.identity a).mutator
  said a some = ap decode (header_word_is a some) ∙ (p.picture.records a some).header

  -- the identity of a record is read from its header
  pub identity_is : (b : ℕ) → 0 < p.frozen.size b → identity_there p.heap b ≡ p.frozen.identity b
  identity_is b some =
      let h = header_in-said (p.heap b) (header_kind (p.frozen.kind b)) (p.frozen.size b - 1) (p.frozen.identity b).serial (p.frozen.identity b).mutator (said b some) in
      ap identity_by h.1 ∙ same_identity h.0 (p.frozen.identity b) h.4 h.5

  -- the record at a place, as it is read
  saved_with : (a : ℕ) (some : 0 < p.frozen.size a) (h : Header) → header_in (decode (p.heap a)) ≡ Some h → h.kind ≡ header_kind (p.frozen.kind a) → h.len ≡ p.frozen.size a - 1
      → h.serial ≡ (p.frozen.identity a).serial → h.mutator ≡ (p.frozen.identity a).mutator → IsSaved p.heap p.frozen kept a (record_with a (p.heap (a + 1)) h)
  saved_with a some h found kind len serial mutator =
      let s = p.picture.records a some in
      let k = p.frozen.kind a in
      let next = p.heap (a + 1) in
      let before : words_before h.kind ≡ words_ahead k = ap words_before kind ∙ before_is k in
      let after : words_after h.kind ≡ words_behind k = ap words_after kind ∙ after_is k in
      let count = h.len + 1 - (words_before h.kind + words_after h.kind) in
      let ahead : words_ahead s.shown.kind ≡ words_ahead k = ap words_ahead s.shows.kind in
      let behind : words_behind s.shown.kind ≡ words_behind k = ap words_behind s.shows.kind in
      let long : words_ahead k ≤ p.frozen.size a = omega (arith, s.shows.size, ahead) in
      let counts : SaysCount k next = count_is a k some long s.shows.count in
      let fields : fields_by h.kind count next ≡ fields_by (header_kind k) count next = ap (λ q. fields_by q count next) kind in
      let denoted : denoted_by h.kind (fields_by h.kind count next) ≡ denoted_by (header_kind k) (fields_by (header_kind k) count next) = ap (λ q. denoted_by q (fields_by q count next)) kind in
      let one : k ≡ Weak → count ≡ 1 = λ weak.
      let three = p.picture.three a some weak in
      omega (arith, len, before, after, three, ap words_ahead weak, ap words_behind weak) in
      record {
        some = some;
        found = ap (record_by a next) found;
        address = refl;
        identity = same_identity h (p.frozen.identity a) serial mutator;
        kind = ap (λ q. kind_with q (fields_by q count next)) kind ∙ kind_is k count next counts;
        before = before;
        front = λ x within low. field_is k count next x counts within (subst (λ (f : ℕ). x < f) fields low);
        behind = λ x within high. raw_is k count next x counts one within (subst (λ (f : ℕ). f ≤ x) denoted high);
        target = λ x within high. target_is k (fields_by (header_kind k) count next) x (subst (λ (f : ℕ). x < f) denoted within) (subst (λ (f : ℕ). f ≤ x) fields high);
        denoted = λ i field. denoted ∙ no_target k (fields_by (header_kind k) count next) i field ∙ sym fields;
        shown = s.shown;
        is = s.is;
        shows = s.shows;
        len = omega (arith, len, before, after, ahead, behind, s.shows.size, some_before k);
      }

  pub saved_at : (a : ℕ) → 0 < p.frozen.size a → (r : SavedRecord) × IsSaved p.heap p.frozen kept a r
  saved_at a some =
      let h = header_in-said (p.heap a) (header_kind (p.frozen.kind a)) (p.frozen.size a - 1) (p.frozen.identity a).serial (p.frozen.identity a).mutator (said a some) in
      (record_with a (p.heap (a + 1)) h.0, saved_with a some h.0 h.1 h.2 h.3 h.4 h.5)

  -- and whatever is found there is it
  pub saved_there : (a : ℕ) (r : SavedRecord) → 0 < p.frozen.size a → record_there p.heap a ≡ Some r → IsSaved p.heap p.frozen kept a r
  saved_there a r some found =
      let there = saved_at a some in
      subst (IsSaved p.heap p.frozen kept a) (same_Some there.0 r (sym there.1.found ∙ found)) there.1

  -- ---- values

  value_said_is : (d : Decoded) (v : Value) → value_said p.frozen.identity d ≡ Some v → ((b : ℕ) → d ≡ PointerWord b → 0 < p.frozen.size b) → value_by p.heap (pointer_in d) (number_in d) ≡ v
  value_said_is (NumberWord m) v is lands = same_Some (Number m) v is
  value_said_is (PointerWord b) v is lands = ap Reference (identity_is b (lands b refl)) ∙ same_Some (Reference (p.frozen.identity b)) v is
  value_said_is _ v is lands = absurd (let differ : None ≡ Some v = is in cc)

  -- a field whose word denotes a value is read as that
  field_value_is : (y : ℕ) (v : Value) → p.heap y ≡ p.frozen.heap y → value_of p.frozen.identity (p.frozen.heap y) ≡ Some v → ((b : ℕ) → decode (p.frozen.heap y) ≡ PointerWord b → 0 < p.frozen.size b) → field_value p.heap y ≡ v
  unfolding value_of
  field_value_is y v same denotes lands =
      ap (λ (w : ℕ). value_by p.heap (pointer_in (decode w)) (number_in (decode w))) same ∙ value_said_is (decode (p.frozen.heap y)) v denotes lands

  -- the board is read as it is kept
  pub board_is : length kept.board ≡ 16 → values_read p.heap (board_of p) 16 16 ≡ kept.board
  board_is sixteen =
      all_values p.heap (board_of p) 16 kept.board
      (λ x within.
      let below : x < 16 = omega (arith, within, sixteen) in
      let v = slice_index_or kept.board x (Number 0) in
      let there : slice_get kept.board x ≡ Some v = slice_get-get_or kept.board x (Number 0) within in
      let value : field_value p.heap (board_of p + x) ≡ v = field_value_is (board_of p + x) v (board_word_is x below) (p.picture.board x below ∙ there) (λ b. p.picture.board_lands x b below) in
      ap (λ (t : Bool). Some (cond t (field_value p.heap (board_of p + x)) (Number (p.heap (board_of p + x))))) (lt-ltb x 16 below) ∙ ap Some value ∙ sym there)
      16 (sym sixteen)

  -- so is a record
  module _ (a : ℕ) (r : SavedRecord) (s : IsSaved p.heap p.frozen kept a r) where
    -- where value x stands
    pub place_is : (x : ℕ) → first_value r + x ≡ a + word_of_value (p.frozen.kind a) x
    place_is x = omega (arith, s.address, s.before)

    pub place_within : (x : ℕ) → x < r.len → word_of_value (p.frozen.kind a) x < p.frozen.size a
    place_within x within = omega (arith, s.len, s.shows.size, ap words_ahead s.shows.kind)

    pub value_word_is : (x : ℕ) → x < r.len → p.heap (first_value r + x) ≡ p.frozen.heap (a + word_of_value (p.frozen.kind a) x)
    value_word_is x within = ap p.heap (place_is x) ∙ word_is a (word_of_value (p.frozen.kind a) x) s.some (place_within x within)

    front_value : (x : ℕ) (v : Value) → x < r.len → x < r.fields → slice_get s.shown.values x ≡ Some v → field_value p.heap (first_value r + x) ≡ v
    front_value x v within low there =
        let i = word_of_value (p.frozen.kind a) x in
        let field = s.front x within low in
        ap (field_value p.heap) (place_is x)
        ∙ field_value_is (a + i) v (word_is a i s.some (place_within x within)) (s.shows.fields x (omega (arith, within, s.len)) field ∙ there)
        (λ b. p.picture.field_lands a i b (omega (arith, some_before (p.frozen.kind a))) (place_within x within) field)

    -- the target of a cell is read as it is kept
    target_value : (v : Value) → p.frozen.kind a ≡ Weak → slice_get s.shown.values 0 ≡ Some v → field_value p.heap (first_value r + 0) ≡ v
    target_value v weak there =
        let three = p.picture.three a s.some weak in
        let place : first_value r + 0 ≡ a + 1 = omega (arith, place_is 0, ap words_ahead weak) in
        ap (field_value p.heap) place
        ∙ field_value_is (a + 1) v (word_is a 1 s.some (omega (arith, three))) (p.picture.targets a s.shown s.some weak s.is ∙ there) (λ b. p.picture.target_lands a b s.some weak)

    denoted_value : (x : ℕ) (v : Value) → x < r.len → x < denoted_count r → slice_get s.shown.values x ≡ Some v → field_value p.heap (first_value r + x) ≡ v
    denoted_value x v within low there = ⊎_elim
        (λ (front : x < r.fields). front_value x v within front there)
        (λ (behind : r.fields ≤ x).
        let is = s.target x low behind in
        ap (λ (y : ℕ). field_value p.heap (first_value r + y)) is.0 ∙ target_value v is.1 (ap (slice_get s.shown.values) (sym is.0) ∙ there))
        (cases_lt x r.fields)

    value_here : (x : ℕ) → x < r.len → Some (value_read p.heap (first_value r + x) x (denoted_count r)) ≡ slice_get s.shown.values x
    value_here x within =
        let v = slice_index_or s.shown.values x (Number 0) in
        let y = first_value r + x in
        let there : slice_get s.shown.values x ≡ Some v = slice_get-get_or s.shown.values x (Number 0) (omega (arith, within, s.len)) in
        ⊎_elim
        (λ (low : x < denoted_count r).
        ap (λ (t : Bool). Some (cond t (field_value p.heap y) (Number (p.heap y)))) (lt-ltb x (denoted_count r) low) ∙ ap Some (denoted_value x v within low there) ∙ sym there)
        (λ (high : denoted_count r ≤ x).
        ap (λ (t : Bool). Some (cond t (field_value p.heap y) (Number (p.heap y)))) (le-ltb x (denoted_count r) high) ∙ ap (λ (w : ℕ). Some (Number w)) (value_word_is x within)
        ∙ s.shows.numbers x (omega (arith, within, s.len)) (s.behind x within high))
        (cases_lt x (denoted_count r))

    -- its values are read as they are kept
    values_here : values_read p.heap (first_value r) (denoted_count r) r.len ≡ s.shown.values
    values_here = all_values p.heap (first_value r) (denoted_count r) s.shown.values (λ x within. value_here x (omega (arith, within, s.len))) r.len s.len

    -- its line is that of what is kept
    pub line_is : record_line (content_of p.heap r) ≡ record_line (record { identity = r.identity; content = s.shown })
    line_is =
        let kind : kind_with r.kind r.fields ≡ s.shown.kind = s.kind ∙ sym s.shows.kind in
        (λ k. identity_text r.identity ++ codes " " ++ kind_text (kind k) ++ codes " " ++ decimal (length (values_here k)) ++ codes ":" ++ values_text (values_here k) ++ codes "\n")
