-- Copying a record, step by step: the header is taken, a place announced and reserved, the words copied, the crossings stored,
-- and the copy published by a forward.
use Rattle.std.specs.Prelude.{◌≡◌, ℕ, ◌+◌, ◌-◌, ◌^◌, ◌<◌, ◌≤◌, ◌⊎◌, true, false, Option, Some, None}
use Rattle.heap_words.specs.declared.kind.Kind.{Kind}
use Rattle.heap_words.specs.declared.kind.Kind.TheVariants as HeaderKind
use Rattle.heap_words.specs.Decoded.{HeaderWord, BusyWord, ForwardWord, decode}
use Rattle.space_map.specs.declared.area_word.AreaWord.{AreaWord}
use Rattle.space_map.specs.Spaces.{to_space, page_of, first_word}
use Rattle.heap_state.specs.Memory.Era.{Era, Memory}
use Rattle.heap_state.specs.Functions.{put}
use Rattle.heap_state.specs.Invariant.Ghost.{Ghost}
use Rattle.heap_state.specs.Known.{Known, Team, Linking, Quest, Copy}
use Rattle.heap_state.specs.Memory.Entries.{WordIs, AreaIs, WeakIs, CrossIs, AnnounceIs}
use Rattle.heap_laws.specs.Steps.{Ready, Steps, IsAreaNow}

-- the worker with this copy in progress
abbrev pub copying : Known → Copy → Known
copying w c = record w { copy = Some c }

-- ---- the header

-- the copy of a record of this size, of which nothing but the header is taken yet
abbrev pub begun : (header from size : ℕ) → Copy
begun header from size =
    record { header = header; from = from; to = 0; size = size; done = 0; word = None; aimed = false; announced = false; reserved = false; crossed = 0 }

-- worker k keeps the header of the record at a from now on
abbrev pub taken : Ghost → (k a : ℕ) → Ghost
taken g k a = record g { keeper = put g.keeper a (k + 1); kept = put g.kept k (a + 1) }

-- The exchange of an old record's header for the worker's own word is won. The worker copied nothing, and asked for that
-- record's copy.
abbrev pub HeadersAreTaken : Type 0
HeadersAreTaken = (E : Era) (m : Memory) (team : Team) (g : Ghost) (k : ℕ) (q : Quest) (kind : Kind) (len serial mutator v : ℕ) → Ready E m team g k
    → (team.worker k).copy ≡ None → (team.worker k).quest ≡ Some q → q.found ≡ None
    → decode (m.heap q.old) ≡ HeaderWord kind len serial mutator → decode v ≡ BusyWord len k
    → Steps E m team g k (Some (WordIs q.old v)) (copying (team.worker k) (begun (m.heap q.old) q.old (len + 1))) (taken g k q.old)

-- The worker loads a forward in place of the old record's header: the copy is where it says.
abbrev pub ForwardsAreFound : Type 0
ForwardsAreFound = (E : Era) (m : Memory) (team : Team) (g : Ghost) (k : ℕ) (q : Quest) (len b : ℕ) → Ready E m team g k
    → (team.worker k).copy ≡ None → (team.worker k).quest ≡ Some q → decode (m.heap q.old) ≡ ForwardWord len b
    → Steps E m team g k None (record (team.worker k) { quest = Some (record q { found = Some b }) }) g

-- ---- the place

-- FRONT is loaded as the place of the copy
abbrev pub PlacesAreAimed : Type 0
PlacesAreAimed = (E : Era) (m : Memory) (team : Team) (g : Ghost) (k : ℕ) (c : Copy) (place : ℕ) → Ready E m team g k
    → (team.worker k).copy ≡ Some c → c.reserved ≡ false → place ≡ m.front
    → Steps E m team g k None (copying (team.worker k) (record c { to = place; aimed = true; announced = false })) g

-- the place is announced
abbrev pub PlacesAreAnnounced : Type 0
PlacesAreAnnounced = (E : Era) (m : Memory) (team : Team) (g : Ghost) (k : ℕ) (c : Copy) → Ready E m team g k
    → (team.worker k).copy ≡ Some c → c.aimed ≡ true → c.reserved ≡ false
    → Steps E m team g k (Some (AnnounceIs k (c.to + 1))) (copying (team.worker k) (record c { announced = true })) g

-- The place at b, of this size, is worker k's, for the copy of the record at a.
abbrev pub reserved : Ghost → (k a b size : ℕ) → Ghost
reserved g k a b size = record g {
  size = put g.size b size;
  writer = put g.writer b (k + 1);
  copy = put g.copy a (b + 1);
  kind = put g.kind b (g.kind a);
  identity = put g.identity b (g.identity a);
}

-- there is room for a copy that has no place yet
pub record HasRoomForCopy (m : Memory) (c : Copy) : Type 0 where
  pub owed : c.size ≤ m.owed
  pub below_low : m.front + c.size ≤ m.low

abbrev pub CopiesHaveRoom : Type 0
CopiesHaveRoom = (E : Era) (m : Memory) (team : Team) (g : Ghost) (k : ℕ) (c : Copy) → Ready E m team g k
    → (team.worker k).copy ≡ Some c → c.reserved ≡ false → HasRoomForCopy m c

-- FRONT moved by so many words, of those owed
abbrev pub moved_by : ℕ → AreaWord → AreaWord
moved_by size area = record { front = area.front + size; low = area.low; owed = area.owed - size }

-- The exchange of the area is won that moves FRONT from the announced place by the copy's size. The first crossing to be stored
-- is that of the first page that begins at the place or after.
abbrev pub PlacesAreReserved : Type 0
PlacesAreReserved = (E : Era) (m : Memory) (team : Team) (g : Ghost) (k : ℕ) (c : Copy) (area : AreaWord) → Ready E m team g k
    → (team.worker k).copy ≡ Some c → c.announced ≡ true → c.reserved ≡ false → c.to ≡ m.front → IsAreaNow E m area
    → Steps E m team g k (Some (AreaIs (to_space E.epoch) (moved_by c.size area))) (copying (team.worker k) (record c { reserved = true; crossed = page_of (c.to + 63) }))
    (reserved g k c.from c.to c.size)

-- who copies nothing announces no place any more
abbrev pub AnnouncesAreCleared : Type 0
AnnouncesAreCleared = (E : Era) (m : Memory) (team : Team) (g : Ghost) (k : ℕ) → Ready E m team g k → (team.worker k).copy ≡ None
    → Steps E m team g k (Some (AnnounceIs k 0)) (team.worker k) g

-- ---- the words

-- the old record's next word is loaded
abbrev pub OldWordsAreLoaded : Type 0
OldWordsAreLoaded = (E : Era) (m : Memory) (team : Team) (g : Ghost) (k : ℕ) (c : Copy) → Ready E m team g k
    → (team.worker k).copy ≡ Some c → c.reserved ≡ true → 0 < c.done → c.done < c.size
    → Steps E m team g k None (copying (team.worker k) (record c { word = Some (m.heap (c.from + c.done)) })) g

-- the word is the next one to be stored in the copy: the header that was kept, or the word that was loaded
abbrev pub IsNextWord : Copy → ℕ → Type 0
IsNextWord c v = ((c.done ≡ 0) × (v ≡ c.header)) ⊎ (c.word ≡ Some v)

-- the next word is stored in its place in the copy
abbrev pub WordsAreCopied : Type 0
WordsAreCopied = (E : Era) (m : Memory) (team : Team) (g : Ghost) (k : ℕ) (c : Copy) (v : ℕ) → Ready E m team g k
    → (team.worker k).copy ≡ Some c → c.reserved ≡ true → IsNextWord c v
    → Steps E m team g k (Some (WordIs (c.to + c.done) v)) (copying (team.worker k) (record c { done = c.done + 1; word = None })) g

-- ---- the crossings

-- the copy's place is stored as the crossing of the next page that begins in it
abbrev pub CrossingsAreStored : Type 0
CrossingsAreStored = (E : Era) (m : Memory) (team : Team) (g : Ghost) (k : ℕ) (c : Copy) → Ready E m team g k
    → (team.worker k).copy ≡ Some c → c.reserved ≡ true → c.to ≤ first_word c.crossed → first_word c.crossed < c.to + c.size
    → Steps E m team g k (Some (CrossIs c.crossed c.to)) (copying (team.worker k) (record c { crossed = c.crossed + 1 })) g

-- ---- the forward

-- worker k no longer writes the copy at b, nor keeps the header of the record at a
abbrev pub published : Ghost → (k a b : ℕ) → Ghost
published g k a b = record g { writer = put g.writer b 0; keeper = put g.keeper a 0; kept = put g.kept k 0 }

-- the header that the worker keeps is a cell's
abbrev pub KeepsCell : Copy → Type 0
KeepsCell c = (serial : ℕ) × (mutator : ℕ) × (decode c.header ≡ HeaderWord HeaderKind.Weak 2 serial mutator)

-- what the copier has to link then: the copy, if it is a cell
abbrev pub LinksCopy : Copy → Option Linking → Type 0
LinksCopy c l = (KeepsCell c × (l ≡ Some (record { cell = c.to; read = None; stored = false }))) ⊎ (¬ (KeepsCell c) × (l ≡ None))

-- the worker that has published a copy, and found with it what it was asked for
abbrev pub has_published : Known → Copy → Quest → Option Linking → Known
has_published w c q l = record w { copy = None; quest = Some (record q { found = Some c.to }); linking = l }

-- Of a whole copy, with the crossings of all pages that begin in it, the forward is stored at the old place. The worker has
-- found the copy that it was asked for, and has it to link if it is a cell.
abbrev pub CopiesArePublished : Type 0
CopiesArePublished = (E : Era) (m : Memory) (team : Team) (g : Ghost) (k : ℕ) (c : Copy) (q : Quest) (v : ℕ) (l : Option Linking) → Ready E m team g k
    → (team.worker k).copy ≡ Some c → (team.worker k).quest ≡ Some q → c.reserved ≡ true → c.done ≡ c.size → c.to + c.size ≤ first_word c.crossed
    → decode v ≡ ForwardWord (c.size - 1) c.to → LinksCopy c l
    → Steps E m team g k (Some (WordIs c.from v)) (has_published (team.worker k) c q l) (published g k c.from c.to)

-- ---- the chain of copied cells

-- the worker with this cell to link, or with none
abbrev pub with_linking : Known → Option Linking → Known
with_linking w l = record w { linking = l }

-- WEAK is loaded, by a worker that has a cell to link
abbrev pub WeakIsLoaded : Type 0
WeakIsLoaded = (E : Era) (m : Memory) (team : Team) (g : Ghost) (k : ℕ) (l : Linking) → Ready E m team g k → (team.worker k).linking ≡ Some l
    → Steps E m team g k None (with_linking (team.worker k) (Some (record { cell = l.cell; read = Some m.weak; stored = false }))) g

-- a worker forgets what it has read of WEAK: another cell was linked
abbrev pub WeakIsForgotten : Type 0
WeakIsForgotten = (E : Era) (m : Memory) (team : Team) (g : Ghost) (k : ℕ) (l : Linking) → Ready E m team g k → (team.worker k).linking ≡ Some l
    → Steps E m team g k None (with_linking (team.worker k) (Some (record { cell = l.cell; read = None; stored = false }))) g

-- the word that was read, which is below 2^62, is stored as the cell's link
abbrev pub LinksAreStored : Type 0
LinksAreStored = (E : Era) (m : Memory) (team : Team) (g : Ghost) (k : ℕ) (l : Linking) (v : ℕ) → Ready E m team g k → (team.worker k).linking ≡ Some l → v < 2 ^ 62
    → Steps E m team g k (Some (WordIs (l.cell + 2) v)) (with_linking (team.worker k) (Some (record { cell = l.cell; read = Some v; stored = true }))) g

-- the exchange of WEAK is won: the cell, whose place fits a word below 2^62, is the first of the chain
abbrev pub CellsAreLinked : Type 0
CellsAreLinked = (E : Era) (m : Memory) (team : Team) (g : Ghost) (k : ℕ) (l : Linking) → Ready E m team g k
    → (team.worker k).linking ≡ Some l → l.read ≡ Some m.weak → l.stored ≡ true → l.cell + 1 < 2 ^ 62
    → Steps E m team g k (Some (WeakIs (l.cell + 1))) (with_linking (team.worker k) None) g
