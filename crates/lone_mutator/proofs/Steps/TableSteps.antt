-- From rows of the table to the words of a step, once for each sort of step, whatever is to be shown of it.
use Rattle.std.proofs.Common.{◌≡◌, ℕ, List, Some, refl, sym, subst, slice_index, ◌∙◌}
use Rattle.std.specs.Prelude.{⊤, slice_set}
use Rattle.std.proofs.lemmas.Bool.{eq-eqb}
use Rattle.plain_state.specs.State.{Plain}
use Rattle.atom_store.specs.declared.reply.Reply.{Reply}
use Rattle.atom_store.specs.declared.reply.Reply.TheVariants.{Value, Done, Won}
use Rattle.atom_store.specs.declared.step.Step.{Step}
use Rattle.atom_store.specs.declared.step.Step.TheVariants.{Load, Store, Exchange}
use Rattle.atom_store.specs.Step.{words_after, reply_of}
use Rattle.space_map.specs.Table.{Row, Gate, Traced, Area, WeakHead, WeakTurn, Size, Page, Cross, HeapWord, Announce, IsRow, place_of}
use Rattle.heap_state.specs.Configuration.{Configuration, Stands, table}
use Rattle.heap_state.specs.Memory.Entries.{WholeRow, Within, Behind, whole_place_of, IsWholeRow, word_in_whole, Entry, GateIs, TracedIs, AreaIs, WeakIs, WeakTurnIs, SizeIs, PageIs, CrossIs, WordIs, AnnounceIs, SnapIs, LastSavedIs, SaveIs, ImageIs, EntryFits, with_entry, row_of, word_of}
use Rattle.heap_state.specs.Memory.Table.{Table, table_of, word_in}
use Rattle.heap_state.specs.Saving.Words.{AreFormedSaves, Saves, saves_of}
use Rattle.heap_state.specs.Saving.Written.{saves_with}
use Rattle.heap_state.proofs.Table.StoredRows.{word_in-row}
use Rattle.heap_state.proofs.Table.CheckpointRows.{saves_stay}
use Rattle.heap_state.proofs.Table.Stores.{entry_has_row, stores_entry}
use Rattle.heap_laws.proofs.Saving.Stores.{saves_follow}
use Rattle.lone_mutator.specs.Law.{saves}

-- ---- rows that say nothing of checkpoints

abbrev pub SaysNoSaves : Entry → Type 0
SaysNoSaves (SnapIs number) = ⊥
SaysNoSaves (LastSavedIs number) = ⊥
SaysNoSaves (SaveIs page word) = ⊥
SaysNoSaves (ImageIs addr word) = ⊥
SaysNoSaves entry = ⊤

-- a store in one of them changes nothing that is said of checkpoints
leaves_saves : (n : ℕ) (words : List ℕ) (e : Entry) → EntryFits n e → SaysNoSaves e → saves_of n (slice_set words (whole_place_of n (row_of e)) (word_of e)) ≡ saves_of n words
leaves_saves n words (GateIs gate) fits says = (saves_stay n words Gate (word_of (GateIs gate)) (entry_has_row n (GateIs gate) fits) (λ e. cc) (λ e. cc)).says
leaves_saves n words (TracedIs word) fits says = (saves_stay n words Traced (word_of (TracedIs word)) (entry_has_row n (TracedIs word) fits) (λ e. cc) (λ e. cc)).says
leaves_saves n words (AreaIs space area) fits says = (saves_stay n words (Area space) (word_of (AreaIs space area)) (entry_has_row n (AreaIs space area) fits) (λ e. cc) (λ e. cc)).says
leaves_saves n words (WeakIs word) fits says = (saves_stay n words WeakHead (word_of (WeakIs word)) (entry_has_row n (WeakIs word) fits) (λ e. cc) (λ e. cc)).says
leaves_saves n words (WeakTurnIs word) fits says = (saves_stay n words WeakTurn (word_of (WeakTurnIs word)) (entry_has_row n (WeakTurnIs word) fits) (λ e. cc) (λ e. cc)).says
leaves_saves n words (SizeIs space pages) fits says = (saves_stay n words (Size space) (word_of (SizeIs space pages)) (entry_has_row n (SizeIs space pages) fits) (λ e. cc) (λ e. cc)).says
leaves_saves n words (PageIs page word) fits says = (saves_stay n words (Page page) (word_of (PageIs page word)) (entry_has_row n (PageIs page word) fits) (λ e. cc) (λ e. cc)).says
leaves_saves n words (CrossIs page place) fits says = (saves_stay n words (Cross page) (word_of (CrossIs page place)) (entry_has_row n (CrossIs page place) fits) (λ e. cc) (λ e. cc)).says
leaves_saves n words (WordIs addr word) fits says = (saves_stay n words (HeapWord addr) (word_of (WordIs addr word)) (entry_has_row n (WordIs addr word) fits) (λ e. cc) (λ e. cc)).says
leaves_saves n words (AnnounceIs worker place) fits says = (saves_stay n words (Announce worker) (word_of (AnnounceIs worker place)) (entry_has_row n (AnnounceIs worker place) fits) (λ e. cc) (λ e. cc)).says
leaves_saves n words _ fits says = absurd says

module _ (c : Configuration) (p : Plain) (s : Stands c p) (P : Table → Saves → Reply → Type 0) where
  -- it holds of what the step makes of the table and of what is said of checkpoints, and of its reply
  abbrev pub HoldsBy : Step → Type 0
  HoldsBy q = P (table_of c.pages (words_after q c.words)) (saves_of c.pages (words_after q c.words)) (reply_of q c.words)

  reads : (row : Row) → IsRow c.pages row → slice_index c.words (place_of c.pages row) ≡ word_in c.pages c.words row
  reads row is = sym (word_in-row c.pages c.words row is)

  reads_any : (row : WholeRow) → IsWholeRow c.pages row → slice_index c.words (whole_place_of c.pages row) ≡ word_in_whole c.pages c.words row
  reads_any (Within row) is = reads row is
  reads_any (Behind row) is = refl

  -- the words after a store in a row
  abbrev stored : Entry → List ℕ
  stored e = slice_set c.words (whole_place_of c.pages (row_of e)) (word_of e)

  pub loads : (row : Row) → IsRow c.pages row → P (table c) (saves c) (Value (word_in c.pages c.words row)) → HoldsBy (Load (place_of c.pages row))
  loads row is holds = subst (λ (word : ℕ). P (table c) (saves c) (Value word)) (sym (reads row is)) holds

  -- a load of a row of checkpoints too
  pub loads_any : (row : WholeRow) → IsWholeRow c.pages row → P (table c) (saves c) (Value (word_in_whole c.pages c.words row)) → HoldsBy (Load (whole_place_of c.pages row))
  loads_any row is holds = subst (λ (word : ℕ). P (table c) (saves c) (Value word)) (sym (reads_any row is)) holds

  module _ (e : Entry) (fits : EntryFits c.pages e) (then : Saves) (says : saves_of c.pages (stored e) ≡ then) where
    stores_so : P (with_entry e (table c)) then Done → HoldsBy (Store (whole_place_of c.pages (row_of e)) (word_of e))
    stores_so holds = subst (λ (t : Table). P t (saves_of c.pages (stored e)) Done) (sym (stores_entry c.pages c.words e s.formed fits).says)
        (subst (λ (v : Saves). P (with_entry e (table c)) v Done) (sym says) holds)

    exchanges_so : (old : ℕ) → word_in_whole c.pages c.words (row_of e) ≡ old → P (with_entry e (table c)) then Won → HoldsBy (Exchange (whole_place_of c.pages (row_of e)) old (word_of e))
    exchanges_so old same holds =
        let test = eq-eqb (slice_index c.words (whole_place_of c.pages (row_of e))) old (reads_any (row_of e) (entry_has_row c.pages e fits) ∙ same) in
        rw test (subst (λ (t : Table). P t (saves_of c.pages (stored e)) Won) (sym (stores_entry c.pages c.words e s.formed fits).says)
        (subst (λ (v : Saves). P (with_entry e (table c)) v Won) (sym says) holds))

  pub stores : (e : Entry) → EntryFits c.pages e → SaysNoSaves e → P (with_entry e (table c)) (saves c) Done → HoldsBy (Store (whole_place_of c.pages (row_of e)) (word_of e))
  stores e fits none holds = stores_so e fits (saves c) (leaves_saves c.pages c.words e fits none) holds

  -- an exchange from the word that stands there is won
  pub exchanges : (e : Entry) (old : ℕ) → EntryFits c.pages e → SaysNoSaves e → word_in_whole c.pages c.words (row_of e) ≡ old → P (with_entry e (table c)) (saves c) Won
      → HoldsBy (Exchange (whole_place_of c.pages (row_of e)) old (word_of e))
  exchanges e old fits none same holds = exchanges_so e fits (saves c) (leaves_saves c.pages c.words e fits none) old same holds

  -- ---- any row, where there is room for checkpoints

  module _ (formed : AreFormedSaves c.pages c.words) where
    pub stores_any : (e : Entry) → EntryFits c.pages e → P (with_entry e (table c)) (saves_with e (saves c)) Done → HoldsBy (Store (whole_place_of c.pages (row_of e)) (word_of e))
    stores_any e fits holds = stores_so e fits (saves_with e (saves c)) (saves_follow c.pages c.words (Some e) formed fits).says holds

    pub exchanges_any : (e : Entry) (old : ℕ) → EntryFits c.pages e → word_in_whole c.pages c.words (row_of e) ≡ old → P (with_entry e (table c)) (saves_with e (saves c)) Won
        → HoldsBy (Exchange (whole_place_of c.pages (row_of e)) old (word_of e))
    exchanges_any e old fits same holds = exchanges_so e fits (saves_with e (saves c)) (saves_follow c.pages c.words (Some e) formed fits).says old same holds
