-- Three configurations in which a checkpoint is in progress and a rule is broken are told.
use Rattle.std.proofs.Common.{◌≡◌, ℕ, ◌+◌, ◌≤◌, ◌<◌, true, [], ◌∷◌, suc, Some, refl, sym, ap, ◌∙◌, arith}
use Rattle.std.specs.Prelude.{Contains, Option}
use Rattle.plain_state.specs.declared.kind.Kind.{Kind}
use Rattle.plain_state.specs.declared.kind.Kind.TheVariants.{Fields}
use Rattle.plain_state.specs.declared.value.Identity.{Identity}
use Rattle.plain_state.specs.declared.value.Value.{Value}
use Rattle.plain_state.specs.declared.value.Value.TheVariants.{Number, Reference}
use Rattle.plain_state.specs.State.{Record}
use Rattle.heap_words.specs.Decoded.{PointerWord, decode}
use Rattle.heap_words.specs.Word.{number_word, pointer_word}
use Rattle.heap_words.proofs.Decoding.{decode-number_word, decode-pointer_word}
use Rattle.space_map.specs.declared.save_word.SaveWord.TheVariants.{Saving, Saved, New}
use Rattle.space_map.specs.Spaces.{page_of}
use Rattle.heap_state.specs.Examples.Saving.{saving_entries, kept_board, kept_records, StandsFrom, marked_ahead, saved_by_nobody, saved_too_late}
use Rattle.heap_state.specs.Examples.Worked.{made}
use Rattle.heap_state.specs.Functions.{put}
use Rattle.heap_state.specs.Memory.Entries.{Entry, SizeIs, SaveIs, ImageIs, EntryFits, HasSizes, table_with}
use Rattle.heap_state.specs.Memory.Table.{Table}
use Rattle.heap_state.specs.Meaning.Values.{value_of, Shows}
use Rattle.heap_state.specs.Saving.Words.{Saves}
use Rattle.heap_state.specs.Saving.Written.{saves_with_all}
use Rattle.heap_state.specs.Saving.Frozen.{Frozen}
use Rattle.heap_state.specs.Saving.Savers.{Saver}
use Rattle.heap_state.specs.Saving.Kept.{KeepsPicture, ShowsKept, kept_record}
use Rattle.heap_state.specs.Saving.Parts.{SavingWords, SavingStands}
use Rattle.heap_state.specs.Theorems.Examples.{TellsBrokenSaves}
use Rattle.heap_state.specs.Theorems.Saves.{WrittenWhole}
use Rattle.heap_state.proofs.Puts.{some_same}
use Rattle.heap_state.proofs.Saving.Out.{entries_fit, has_sizes}
use Rattle.heap_state.proofs.Table.Writing.{writes_whole_tables}
use Rattle.heap_state.proofs.Worked.WorkedStands.{pointer_value, number_value}

-- the sizes are also among these entries with one more before them
further : {e : Entry} {space : ℕ} → (pages : ℕ) × Contains saving_entries (SizeIs space pages)
    → (pages : ℕ) × Contains (e ∷ saving_entries) (SizeIs space pages)
further (pages, (k, below, same)) = (pages, (suc k, omega (arith, below), same))

-- with one row more, the words say what the entries say
with_one : (e : Entry) → EntryFits 4 e → WrittenWhole 4 (e ∷ saving_entries)
with_one e fits =
    let sizes : HasSizes (e ∷ saving_entries) = record { first = further has_sizes.first; second = further has_sizes.second } in
    writes_whole_tables 4 (e ∷ saving_entries) (fits, entries_fit) sizes

-- so what stands in these words stands in what they say
said : (e : Entry) → EntryFits 4 e → (z : Frozen) (count : ℕ) (saver : ℕ → Saver) → StandsFrom (e ∷ saving_entries) z count saver
    → SavingStands (table_with 4 (e ∷ saving_entries)) (saves_with_all (e ∷ saving_entries)) z count saver
said e fits z count saver stands = let w = with_one e fits in rw (w.says, w.saves) at stands

-- ---- a page that is new for a checkpoint to come

ahead : (z : Frozen) (count : ℕ) (saver : ℕ → Saver) → ¬ (StandsFrom marked_ahead z count saver)
unfolding put
ahead z count saver stands =
    let all = said (SaveIs 2 (New 2)) (omega arith, omega arith) z count saver stands in
    let broken : 2 ≤ 1 = all.words.young 2 in omega (arith, broken)

-- ---- a save by nobody

nobody : (z : Frozen) (saver : ℕ → Saver) → ¬ (StandsFrom saved_by_nobody z 2 saver)
unfolding put
nobody z saver stands =
    let all = said (SaveIs 8 (Saving 1 2)) (omega arith, (omega arith, omega arith)) z 2 saver stands in
    let broken : 2 < 2 = (all.workers.savers 8 1 2 refl).0 in omega (arith, broken)

-- ---- a page that was saved too late

abbrev late_table : Table
late_table = table_with 4 saved_too_late

abbrev late_saves : Saves
late_saves = saves_with_all saved_too_late

-- the reference on the board's first word is to the record at 192
reference_on_board : (named : ℕ → Identity) (i : Identity) → value_of named (late_table.heap 512) ≡ Some (Reference i)
    → (decode (late_table.heap 512) ≡ PointerWord 192) × (named 192 ≡ i)
unfolding put
reference_on_board named i e =
    let leads = decode-pointer_word 192 (omega arith) in
    let q : Some (Reference (named 192)) ≡ Some (Reference i) = sym (pointer_value named (pointer_word 192) 192 leads) ∙ e in
    (leads, cc)

-- a heap of then whose checkpoint is in progress
module _ (z : Frozen) (words : SavingWords late_table late_saves z) where
  running : late_saves.done < late_saves.snap
  running = omega arith

  -- on page 3 its words are those of the images, and the board's first one is that of the heap
  on_page_3 : (x : ℕ) → z.held (page_of x) ≡ true → page_of x ≡ 3 → late_saves.image x ≡ z.heap x
  unfolding put
  on_page_3 x h on = words.saved running x h (rw on refl)

  on_board : z.held 8 ≡ true → late_table.heap 512 ≡ z.heap 512
  unfolding put
  on_board h = words.unsaved running 512 h (λ e. absurd (let q : Saving 1 1 ≡ Saved 1 = e in cc))

-- the record that is kept; where it is shown, 5 is its field
abbrev kept_one : Record
kept_one = record { kind = Fields; values = Number 5 ∷ [] }

first_field : (named : ℕ → Option Value) (heap : ℕ → ℕ) (a size : ℕ) (k : Kind) (r : Record) → Shows named heap a k size r → kept_one ≡ r
    → named (heap (a + 1)) ≡ Some (Number 5)
first_field named heap a size k r shows same =
    let kind : Fields ≡ k = ap (λ (x : Record). x.kind) same ∙ shows.kind in
    let s : Shows named heap a Fields size kept_one = rw (← kind, ← same) at shows in
    s.fields 0 (omega arith) refl

image_193 : late_saves.image 193 ≡ number_word 6
unfolding put
image_193 = refl

module _ (z : Frozen) (words : SavingWords late_table late_saves z) where
  -- the record there would show another number
  field_differs : (shown : ShowsKept z kept_records 192) → 0 < z.size 192 → z.identity 192 ≡ made 1 → ⊥
  field_differs shown stood named =
      let kept : Some kept_one ≡ Some shown.shown = sym (ap (kept_record kept_records) named) ∙ shown.is in
      let field : value_of z.identity (z.heap 193) ≡ Some (Number 5) =
      first_field (value_of z.identity) z.heap 192 (z.size 192) (z.kind 192) shown.shown shown.shows (some_same kept)
      in
      let saved : late_saves.image 193 ≡ z.heap 193 = on_page_3 z words 193 (shown.held 0 stood) refl in
      let six : value_of z.identity (z.heap 193) ≡ Some (Number 6) =
      ap (value_of z.identity) (sym saved ∙ image_193) ∙ number_value z.identity (number_word 6) 6 (decode-number_word 6 (omega arith))
      in
      absurd (let broken : Some (Number 6) ≡ Some (Number 5) = sym six ∙ field in cc)

  -- the board's first word leads to the record
  board_leads : z.held 8 ≡ true → value_of z.identity (z.heap 512) ≡ Some (Reference (made 1))
      → (decode (z.heap 512) ≡ PointerWord 192) × (z.identity 192 ≡ made 1)
  board_leads held first =
      let same = on_board z words held in
      let leads = reference_on_board z.identity (made 1) (ap (value_of z.identity) same ∙ first) in
      (sym (ap decode same) ∙ leads.0, leads.1)

  differs : KeepsPicture 4 z kept_board kept_records → ⊥
  differs picture =
      let leads = board_leads picture.held (picture.board 0 (omega arith)) in
      let stood = picture.board_lands 0 192 (omega arith) leads.0 in
      field_differs (picture.records 192 stood) stood leads.1

too_late : (z : Frozen) (count : ℕ) (saver : ℕ → Saver) → KeepsPicture 4 z kept_board kept_records → ¬ (StandsFrom saved_too_late z count saver)
too_late z count saver picture stands = differs z (said (ImageIs 193 (number_word 6)) (omega arith) z count saver stands).words picture

pub tells_broken : TellsBrokenSaves
tells_broken = record { ahead = ahead; nobody = nobody; too_late = too_late }
