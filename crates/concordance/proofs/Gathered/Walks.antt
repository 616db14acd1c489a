-- How the walk gets on: what holds of the clerk that reads, before and after each step.
use Rattle.std.proofs.Common.{◌≡◌, ◌≢◌, ℕ, zero, suc, ◌+◌, ◌^◌, ◌<◌, ◌≤◌, List, [], ◌∷◌, ◌++◌, length, reverse, slice_index_or, take, refl, ap, ap₂, sym, ◌∙◌, subst, arith, append_assoc, append-nil, add-one}
use Rattle.std.specs.List.{AllByRecursion}
use Rattle.std.proofs.Math.Seq.{take-suc}
use Rattle.std.proofs.lemmas.List.{take_all}
use Rattle.plain_state.specs.declared.value.Value.{Value}
use Rattle.plain_state.specs.declared.value.Value.TheVariants.{Number}
use Rattle.plain_state.specs.State.{Heap, made_by}
use Rattle.ael_threads.specs.Seats.{Seated}
use Rattle.concordance_text.specs.Rows.{WordRow, with_lines}
use Rattle.concordance.specs.Gathering.{HasGot, HasRead, HasSmallNumbers, HasValueAt, LeadsToEntries, LeadsToEntry, values_at, whole_desk_of, whole_register, with_notes}
use Rattle.concordance.specs.Notes.Records.{AreEntries, AreLines, IsEntry, IsLetters, IsLine, Note}
use Rattle.concordance.proofs.Gathered.NotedPlaces.{FirstEntry, FirstLine, before_got, carried, entry_has, first_entry, first_line, letter_got, line_before_got, line_has, line_number_got, no_entry, no_line}

abbrev reg : Seated → ℕ → Value
reg s r = whole_register (whole_desk_of s) r

abbrev heap_of : Seated → Heap
heap_of s = (whole_desk_of s).heap

-- value x of the record to which a register leads
abbrev value_in : Seated → (r x : ℕ) → Value
value_in s r x = slice_index_or (values_at (heap_of s) (reg s r)) x (Number 0)

same_number : (n k : ℕ) → Number n ≡ Number k → n ≡ k
same_number n k e = cc

-- ---- letters

-- a register leads to these letters of clerk k
abbrev pub SeesLetters : Seated → (r k : ℕ) → List ℕ → Type 0
SeesLetters s r k word = IsLetters k (made_by (heap_of s) k) (reg s r) word

-- and has them still if another one gets something
pub letters_kept : (a b : Seated) (r d k : ℕ) (word : List ℕ) (v : Value) → HasGot a d v b → r ≢ d → SeesLetters a r k word → SeesLetters b r k word
letters_kept a b r d k word v got other sees = carried (λ (heap : Heap) (u : Value). IsLetters k (made_by heap k) u word) a b (reg a r) (reg b r) got.read (got.others r other) sees

pub letter_taken : (a b : Seated) (r d k x : ℕ) (word : List ℕ) → SeesLetters a r k word → x < length word → HasGot a d (value_in a r x) b → reg b d ≡ Number (slice_index_or word x 0)
letter_taken a b r d k x word sees within got = got.taken ∙ letter_got (heap_of a) k (reg a r) word sees x within

pub letter_read : (a b : Seated) (r d k x n : ℕ) (word : List ℕ) → SeesLetters a r k word → x < length word → HasGot a d (value_in a r x) b → reg b d ≡ Number n → n ≡ slice_index_or word x 0
letter_read a b r d k x n word sees within got is = same_number n (slice_index_or word x 0) (sym is ∙ letter_taken a b r d k x word sees within got)

all_letters : (word : List ℕ) (x : ℕ) → AllByRecursion (λ b. b < 2 ^ 8) word → slice_index_or word x 0 < 2 ^ 8
all_letters [] x all = omega arith
all_letters (b ∷ bs) zero all = all.0
all_letters (b ∷ bs) (suc x) all = all_letters bs x all.1

-- a letter is a byte
pub letter_fits : (word : List ℕ) (x n : ℕ) → AllByRecursion (λ b. b < 2 ^ 8) word → n ≡ slice_index_or word x 0 → n < 2 ^ 8
letter_fits word x n all is = subst (λ (k : ℕ). k < 2 ^ 8) (sym is) (all_letters word x all)

pub letters_more : (word items more : List ℕ) (x n : ℕ) → x < length word → items ≡ take x word → n ≡ slice_index_or word x 0 → more ≡ items ++ n ∷ [] → more ≡ take (x + 1) word
letters_more word items more x n within so_far is pushed = pushed ∙ ap₂ (λ (xs : List ℕ) (k : ℕ). xs ++ k ∷ []) so_far is ∙ sym (ap (λ (k : ℕ). take k word) (add-one x) ∙ take-suc word x 0 within)

pub all_letters_taken : (word items : List ℕ) (x : ℕ) → length word ≤ x → items ≡ take x word → items ≡ word
all_letters_taken word items x past so_far = so_far ∙ take_all x word past

-- ---- lines

-- A register leads to the lines of clerk k that are left of all, when some are taken.
pub record LinesLeft (s : Seated) (r k : ℕ) (all taken : List ℕ) : Type 0 where
  pub left : List ℕ
  pub are : AreLines k (made_by (heap_of s) k) (reg s r) left
  pub is : all ≡ taken ++ left
  pub small : AllByRecursion (λ n. n < 2 ^ 32) left

-- the first of those that are left
pub record NextLine (s : Seated) (r k : ℕ) (all taken : List ℕ) : Type 0 where
  pub number : ℕ
  pub rest : List ℕ
  pub before : Value
  pub line : IsLine k (made_by (heap_of s) k) (reg s r) number before
  pub are : AreLines k (made_by (heap_of s) k) before rest
  pub is : all ≡ (taken ++ number ∷ []) ++ rest
  pub fits : number < 2 ^ 32
  pub small : AllByRecursion (λ n. n < 2 ^ 32) rest

next_by : (s : Seated) (r k : ℕ) (all taken left : List ℕ) → FirstLine k (made_by (heap_of s) k) (reg s r) left → all ≡ taken ++ left → AllByRecursion (λ n. n < 2 ^ 32) left → NextLine s r k all taken
next_by s r k all taken left first is small =
    let fits : AllByRecursion (λ n. n < 2 ^ 32) (first.number ∷ first.rest) = subst (AllByRecursion (λ n. n < 2 ^ 32)) first.lines_are small in
    record {
      number = first.number;
      rest = first.rest;
      before = first.before;
      line = first.line;
      are = first.are;
      is = is ∙ ap (λ (ns : List ℕ). taken ++ ns) first.lines_are ∙ sym (append_assoc taken (first.number ∷ []) first.rest);
      fits = fits.0;
      small = fits.1;
    }

pub next_line : (s : Seated) (r k : ℕ) (all taken : List ℕ) → (reg s r ≡ Number 0 → ⊥) → LinesLeft s r k all taken → NextLine s r k all taken
next_line s r k all taken leads l = next_by s r k all taken l.left (first_line k (made_by (heap_of s) k) (reg s r) l.left leads l.are) l.is l.small

pub line_may_get : (s : Seated) (r k x : ℕ) (all taken : List ℕ) → NextLine s r k all taken → x < 2 → HasValueAt (heap_of s) (reg s r) x
line_may_get s r k x all taken n within = line_has (heap_of s) k (reg s r) n.number n.before n.line x within

-- its number is read
pub number_taken : (a b : Seated) (r d k : ℕ) (all taken : List ℕ) (next : NextLine a r k all taken) → HasGot a d (value_in a r 0) b → reg b d ≡ Number next.number
number_taken a b r d k all taken next got = got.taken ∙ line_number_got (heap_of a) k (reg a r) next.number next.before next.line

pub number_read : (a b : Seated) (r d k n : ℕ) (all taken : List ℕ) (next : NextLine a r k all taken) → HasGot a d (value_in a r 0) b → reg b d ≡ Number n → n ≡ next.number
number_read a b r d k n all taken next got is = same_number n next.number (sym is ∙ number_taken a b r d k all taken next got)

-- it is the next one still if another register gets something
abbrev pub next_kept : (a b : Seated) (r d k : ℕ) (all taken : List ℕ) (v : Value) → HasGot a d v b → r ≢ d → (next : NextLine a r k all taken) → NextLine b r k all taken
next_kept a b r d k all taken v got other next = record {
  number = next.number;
  rest = next.rest;
  before = next.before;
  line = carried (λ (heap : Heap) (u : Value). IsLine k (made_by heap k) u next.number next.before) a b (reg a r) (reg b r) got.read (got.others r other) next.line;
  are = carried (λ (heap : Heap) (u : Value). AreLines k (made_by heap k) u next.rest) a b next.before next.before got.read refl next.are;
  is = next.is;
  fits = next.fits;
  small = next.small;
}

-- and the register goes on to the line before it
pub lines_on : (a b : Seated) (r k : ℕ) (all taken : List ℕ) (next : NextLine a r k all taken) → HasGot a r (value_in a r 1) b → LinesLeft b r k all (taken ++ next.number ∷ [])
lines_on a b r k all taken next got = record {
  left = next.rest;
  are = carried (λ (heap : Heap) (v : Value). AreLines k (made_by heap k) v next.rest) a b next.before (reg b r) got.read
      (got.taken ∙ line_before_got (heap_of a) k (reg a r) next.number next.before next.line) next.are;
  is = next.is;
  small = next.small;
}

-- so one line more is taken
pub lines_more : (a b : Seated) (r k n : ℕ) (all taken more : List ℕ) (next : NextLine a r k all taken) → HasGot a r (value_in a r 1) b → n ≡ next.number → more ≡ taken ++ n ∷ [] → LinesLeft b r k all more
lines_more a b r k n all taken more next got read pushed = subst (LinesLeft b r k all) (sym (pushed ∙ ap (λ (j : ℕ). taken ++ j ∷ []) read)) (lines_on a b r k all taken next got)

pub all_lines : (s : Seated) (r k : ℕ) (all taken : List ℕ) → reg s r ≡ Number 0 → LinesLeft s r k all taken → taken ≡ all
all_lines s r k all taken nowhere l = sym (l.is ∙ ap (λ (ns : List ℕ). taken ++ ns) (no_line k (made_by (heap_of s) k) (reg s r) l.left nowhere l.are) ∙ append-nil taken)

-- ---- entries

pub entry_may_get : (s : Seated) (r x : ℕ) → LeadsToEntry (whole_desk_of s) r → x < 5 → HasValueAt (heap_of s) (reg s r) x
entry_may_get s r x led within = entry_has (heap_of s) led.clerk (reg s r) led.note led.before led.entry x within

abbrev pub entry_kept : (a b : Seated) (r : ℕ) → HasRead a b → reg b r ≡ reg a r → LeadsToEntry (whole_desk_of a) r → LeadsToEntry (whole_desk_of b) r
entry_kept a b r read same led = record {
  clerk = led.clerk;
  note = led.note;
  before = led.before;
  entry = carried (λ (heap : Heap) (v : Value). IsEntry led.clerk (made_by heap led.clerk) v led.note led.before) a b (reg a r) (reg b r) read same led.entry;
  small = led.small;
}

-- a register leads to the entries that are left, by which the rows become these
pub record EntriesLeft (s : Seated) (r : ℕ) (rows then : List WordRow) : Type 0 where
  pub led : LeadsToEntries (whole_desk_of s) r
  pub becomes : with_notes led.notes rows ≡ then

-- the first of those that are left, and those after it
pub record NextEntry (s : Seated) (r : ℕ) (rows then : List WordRow) : Type 0 where
  pub first : LeadsToEntry (whole_desk_of s) r
  pub rest : List Note
  pub are : AreEntries first.clerk (made_by (heap_of s) first.clerk) first.before rest
  pub small : AllByRecursion HasSmallNumbers rest
  pub becomes : with_notes rest (with_lines first.note.word (reverse first.note.lines) rows) ≡ then

next_entry_by : (s : Seated) (r k : ℕ) (notes : List Note) (rows then : List WordRow) → FirstEntry k (made_by (heap_of s) k) (reg s r) notes → AllByRecursion HasSmallNumbers notes → with_notes notes rows ≡ then → NextEntry s r rows then
next_entry_by s r k notes rows then f small becomes =
    let fit : AllByRecursion HasSmallNumbers (f.note ∷ f.rest) = subst (AllByRecursion HasSmallNumbers) f.notes_are small in
    record {
      first = record { clerk = k; note = f.note; before = f.before; entry = f.entry; small = fit.0 };
      rest = f.rest;
      are = f.are;
      small = fit.1;
      becomes = sym (ap (λ (ns : List Note). with_notes ns rows) f.notes_are) ∙ becomes;
    }

pub next_entry : (s : Seated) (r : ℕ) (rows then : List WordRow) → (reg s r ≡ Number 0 → ⊥) → EntriesLeft s r rows then → NextEntry s r rows then
next_entry s r rows then leads l =
    let k = l.led.clerk in
    next_entry_by s r k l.led.notes rows then (first_entry k (made_by (heap_of s) k) (reg s r) l.led.notes leads l.led.entries) l.led.small l.becomes

-- the register goes on to the entry before it
pub entries_on : (a b c : Seated) (r : ℕ) (rows more then : List WordRow) (next : NextEntry a r rows then) → HasRead a b → reg b r ≡ reg a r → HasGot b r (value_in b r 4) c
    → more ≡ with_lines next.first.note.word (reverse next.first.note.lines) rows → EntriesLeft c r more then
entries_on a b c r rows more then next read same got added =
    let k = next.first.clerk in
    let here : LeadsToEntry (whole_desk_of b) r = entry_kept a b r read same next.first in
    record {
      led = record {
        clerk = k;
        notes = next.rest;
        entries = carried (λ (heap : Heap) (v : Value). AreEntries k (made_by heap k) v next.rest) b c here.before (reg c r) got.read
            (got.taken ∙ before_got (heap_of b) k (reg b r) here.note here.before here.entry)
            (carried (λ (heap : Heap) (v : Value). AreEntries k (made_by heap k) v next.rest) a b next.first.before next.first.before read refl next.are);
        small = next.small;
      };
      becomes = ap (with_notes next.rest) added ∙ next.becomes;
    }

pub all_entries : (s : Seated) (r : ℕ) (rows then : List WordRow) → reg s r ≡ Number 0 → EntriesLeft s r rows then → rows ≡ then
all_entries s r rows then nowhere l =
    let k = l.led.clerk in
    sym (ap (λ (ns : List Note). with_notes ns rows) (no_entry k (made_by (heap_of s) k) (reg s r) l.led.notes nowhere l.led.entries)) ∙ l.becomes
