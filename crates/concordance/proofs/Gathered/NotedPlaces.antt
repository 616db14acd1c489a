-- What is read at the entries, letters and lines of a clerk's notes.
use Rattle.std.proofs.Common.{◌≡◌, ℕ, ◌<◌, List, [], ◌∷◌, length, Option, Some, slice_index_or, refl, ap, sym, ◌∙◌, subst}
use Rattle.std.specs.Option.{option_map_or}
use Rattle.std.proofs.lemmas.List.{get_or-map}
use Rattle.plain_state.specs.declared.value.Value.{Value}
use Rattle.plain_state.specs.declared.value.Value.TheVariants.{Number}
use Rattle.plain_state.specs.State.{Heap, Record, made_by}
use Rattle.ael_threads.specs.Seats.{Seated}
use Rattle.concordance.specs.Gathering.{HasAll, HasRead, HasValueAt, record_at, values_at, whole_desk_of}
use Rattle.concordance.specs.Lone.{KeepsSeat}
use Rattle.concordance.specs.Notes.Records.{AreEntries, AreLines, IsEntry, IsLetters, IsLine, Note, entry_record, letters_record, line_record}

-- ---- records of notes

module _ (heap : Heap) where
  values_of_record : (v : Value) (r : Record) → record_at heap v ≡ Some r → values_at heap v ≡ r.values
  values_of_record v r is = ap (λ (o : Option Record). option_map_or (λ (q : Record). q.values) o []) is

  value_of_record : (v : Value) (r : Record) (x : ℕ) → record_at heap v ≡ Some r → slice_index_or (values_at heap v) x (Number 0) ≡ slice_index_or r.values x (Number 0)
  value_of_record v r x is = ap (λ (vs : List Value). slice_index_or vs x (Number 0)) (values_of_record v r is)

  module _ (k : ℕ) where
    abbrev records : List Record
    records = made_by heap k

    -- ---- an entry

    module _ (v : Value) (note : Note) (before : Value) (e : IsEntry k records v note before) where
      entry_at : record_at heap v ≡ Some (entry_record e.letters e.line e.left e.right before)
      entry_at = ap (record_at heap) e.is ∙ e.entry

      pub entry_has : (x : ℕ) → x < 5 → HasValueAt heap v x
      entry_has x within = record { found = entry_record e.letters e.line e.left e.right before; is = entry_at; within = within; no_cell = refl }

      pub before_got : slice_index_or (values_at heap v) 4 (Number 0) ≡ before
      before_got = value_of_record v _ 4 entry_at

    -- ---- letters

    module _ (v : Value) (word : List ℕ) (l : IsLetters k records v word) where
      pub letters_at : record_at heap v ≡ Some (letters_record word)
      letters_at = ap (record_at heap) l.is ∙ l.letters

      pub letter_got : (x : ℕ) → x < length word → slice_index_or (values_at heap v) x (Number 0) ≡ Number (slice_index_or word x 0)
      letter_got x within = value_of_record v (letters_record word) x letters_at ∙ get_or-map Number word x 0 (Number 0) within

    -- ---- a line

    module _ (v : Value) (n : ℕ) (before : Value) (l : IsLine k records v n before) where
      line_at : record_at heap v ≡ Some (line_record (Number n) before)
      line_at = ap (record_at heap) l.is ∙ l.line

      pub line_has : (x : ℕ) → x < 2 → HasValueAt heap v x
      line_has x within = record { found = line_record (Number n) before; is = line_at; within = within; no_cell = refl }

      pub line_number_got : slice_index_or (values_at heap v) 0 (Number 0) ≡ Number n
      line_number_got = value_of_record v _ 0 line_at

      pub line_before_got : slice_index_or (values_at heap v) 1 (Number 0) ≡ before
      line_before_got = value_of_record v _ 1 line_at

-- ---- what a value that leads somewhere leads to

module _ (k : ℕ) (records : List Record) where
  -- the first of some lines, and the lines before it
  pub record FirstLine (v : Value) (lines : List ℕ) : Type 0 where
    pub number : ℕ
    pub rest : List ℕ
    pub before : Value
    pub line : IsLine k records v number before
    pub are : AreLines k records before rest
    pub lines_are : lines ≡ number ∷ rest

  pub first_line : (v : Value) (lines : List ℕ) → (v ≡ Number 0 → ⊥) → AreLines k records v lines → FirstLine v lines
  first_line v [] leads are = absurd (leads are)
  first_line v (n ∷ ns) leads are = record { number = n; rest = ns; before = are.0; line = are.1; are = are.2; lines_are = refl }

  pub no_line : (v : Value) (lines : List ℕ) → v ≡ Number 0 → AreLines k records v lines → lines ≡ []
  no_line v [] nowhere are = refl
  no_line v (n ∷ ns) nowhere are = absurd (let e : Number 0 ≡ v = sym nowhere in let l = are.1 in let f = e ∙ l.is in cc)

  -- the first of some entries, and those before it
  pub record FirstEntry (v : Value) (notes : List Note) : Type 0 where
    pub note : Note
    pub rest : List Note
    pub before : Value
    pub entry : IsEntry k records v note before
    pub are : AreEntries k records before rest
    pub notes_are : notes ≡ note ∷ rest

  pub first_entry : (v : Value) (notes : List Note) → (v ≡ Number 0 → ⊥) → AreEntries k records v notes → FirstEntry v notes
  first_entry v [] leads are = absurd (leads are)
  first_entry v (e ∷ es) leads are = record { note = e; rest = es; before = are.0; entry = are.1; are = are.2; notes_are = refl }

  pub no_entry : (v : Value) (notes : List Note) → v ≡ Number 0 → AreEntries k records v notes → notes ≡ []
  no_entry v [] nowhere are = refl
  no_entry v (e ∷ es) nowhere are = absurd (let f : Number 0 ≡ v = sym nowhere in let i = are.1 in let g = f ∙ i.is in cc)

-- ---- reading, step by step

pub seat_on : (a b c : Seated) → KeepsSeat a b → KeepsSeat b c → KeepsSeat a c
seat_on a b c ab bc = record { table = bc.table ∙ ab.table; plan = bc.plan ∙ ab.plan; number = bc.number ∙ ab.number }

pub read_on : (a b c : Seated) → HasRead a b → HasRead b c → HasRead a c
read_on a b c ab bc = record { seat = seat_on a b c ab.seat bc.seat; all = bc.all; heap = bc.heap ∙ ab.heap }

pub read_nothing : (a : Seated) → HasAll a → HasRead a a
read_nothing a all = record { seat = record { table = refl; plan = refl; number = refl }; all = all; heap = refl }

-- a fact of a value on the heap is one still, of an equal value on the same heap
pub carried : (P : Heap → Value → Type 0) (a b : Seated) (v w : Value) → HasRead a b → w ≡ v → P (whole_desk_of a).heap v → P (whole_desk_of b).heap w
carried P a b v w read same h = subst (λ (heap : Heap). P heap w) (sym read.heap) (subst (P (whole_desk_of a).heap) (sym same) h)
