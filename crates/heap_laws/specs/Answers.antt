-- What a load may answer, by what the worker is about; and that the row which is read is one of the table.
use Rattle.std.specs.Prelude.{◌≡◌, ◌≢◌, ℕ, ◌+◌, ◌-◌, ◌*◌, ◌<◌, ◌≤◌, ◌⊎◌, ⊤, true, false, Some, None, is_some, length}
use Rattle.heap_words.specs.declared.kind.Kind.{Kind as HeaderKind}
use Rattle.heap_words.specs.declared.kind.Kind.TheVariants as header_kinds
use Rattle.heap_words.specs.Decoded.{Decoded, NumberWord, HeaderWord, BusyWord, ForwardWord, decode}
use Rattle.plain_state.specs.State.{Plain}
use Rattle.space_map.specs.declared.area_word.AreaWord.{AreaWord}
use Rattle.space_map.specs.declared.gate_word.GateWord.{GateWord}
use Rattle.space_map.specs.AreaWord.{AreaFits}
use Rattle.space_map.specs.GateWord.{GateFits}
use Rattle.space_map.specs.Spaces.{to_space, space_start, page_of, first_word}
use Rattle.heap_state.specs.Configuration.{Configuration, Stands, table, era, memory, team}
use Rattle.heap_state.specs.Memory.Era.{Era, Memory}
use Rattle.heap_state.specs.Invariant.Ghost.{Ghost, Lands}
use Rattle.heap_state.specs.Invariant.Parts.Knowledge.{Passes}
use Rattle.heap_state.specs.Known.{Team, Passage, Enter, Park, Request, RequestSnap, Clear, Forwarded, Resume, Leave, Quest, Copy, SeenHeader, Scan, SeenRecord, Visit, Begins, At}
use Rattle.heap_laws.specs.Gate.{gate_after}
use Rattle.heap_laws.specs.Scanning.Words.{AtField, IsScanning}
use Rattle.heap_laws.specs.Steps.{Ready, IsAreaNow}
use Rattle.heap_laws.specs.Tracing.{IsFrontFor}
use Rattle.space_map.specs.declared.spaces.TheConstants.{PAGE_WORDS}

-- ---- an old record's header

-- what worker k reads at an old record of so many words: its header, the word of another worker that keeps the header, or a forward
-- to the copy
pub data OldHeader (E : Era) (front k size : ℕ) : Decoded → Type 0 where
  InPlace : (kind : HeaderKind) (len serial mutator : ℕ) → size ≡ len + 1 → OldHeader E front k size (HeaderWord kind len serial mutator)
  KeptBy : (len j : ℕ) → size ≡ len + 1 → j ≢ k → OldHeader E front k size (BusyWord len j)
  Forwards : (len to : ℕ) → size ≡ len + 1 → (E.start ≤ to) × (to + size ≤ front) → OldHeader E front k size (ForwardWord len to)

-- the record that a quest asks for lies in the table with all its words
pub record OldHeaderAnswers (E : Era) (m : Memory) (g : Ghost) (k : ℕ) (q : Quest) : Type 0 where
  pub below : q.old + g.size q.old ≤ E.board
  pub word : OldHeader E m.front k (g.size q.old) (decode (m.heap q.old))

abbrev pub OldHeadersAreRead : Type 0
OldHeadersAreRead = (E : Era) (m : Memory) (team : Team) (g : Ghost) (k : ℕ) (q : Quest) → Ready E m team g k → (team.worker k).quest ≡ Some q → (team.worker k).copy ≡ None
    → OldHeaderAnswers E m g k q

-- the words of the old record, and of the place that is reserved for the copy, are words of the table, and so are its crossings
pub record CopyRows (E : Era) (c : Copy) : Type 0 where
  pub from : c.from + c.size ≤ E.board
  pub to : c.reserved ≡ true → c.to + c.size ≤ E.board
  pub crossed : c.reserved ≡ true → first_word c.crossed < c.to + c.size → c.crossed < page_of E.board

abbrev pub CopiesAreThere : Type 0
CopiesAreThere = (E : Era) (m : Memory) (team : Team) (g : Ghost) (k : ℕ) (c : Copy) → Ready E m team g k → (team.worker k).copy ≡ Some c → CopyRows E c

-- ---- a page that is scanned

-- a record's header stands there, and the record ends at FRONT or before; a mixed one has a word for its count
pub record MeetsHeader (m : Memory) (a : ℕ) : Type 0 where
  pub kind : HeaderKind
  pub len : ℕ
  pub serial : ℕ
  pub mutator : ℕ
  pub header : decode (m.heap a) ≡ HeaderWord kind len serial mutator
  pub within : a + (len + 1) ≤ m.front
  pub counted : kind ≡ header_kinds.Mixed → 0 < len

-- What a scan reads: of a page that isn't the board, the crossing, which lies in the space and not behind the page's first word; the
-- header of the record over that word, which reaches past it; the next header, which is never 0; the count of a mixed record, which
-- has room for so many fields; and a field or a board word, which leads to a record that nobody writes if it is a pointer. All are
-- rows of the table.
pub record ScanAnswers (E : Era) (m : Memory) (g : Ghost) (s : Scan) : Type 0 where
  pub crossing : s.page ≢ page_of E.board → (s.page < page_of E.board) × (E.start ≤ m.cross s.page) × (m.cross s.page ≤ first_word s.page)
  pub first : (a : ℕ) → s.page ≢ page_of E.board → s.over ≡ Some a → (a ≤ first_word s.page) × ((h : MeetsHeader m a) × (first_word s.page < a + (h.len + 1)))
  pub next : (r : SeenRecord) → s.page ≢ page_of E.board → s.current ≡ Some r → s.cursor ≡ r.next → s.cursor < first_word s.page + PAGE_WORDS → (s.inner ≡ true) ⊎ (s.in_place ≡ false) → MeetsHeader m s.cursor
  pub count : (h : SeenHeader) → s.headed ≡ Some h → (count : ℕ) × (decode (m.heap (h.at + 1)) ≡ NumberWord count) × (count + 2 ≤ h.size)
  pub field : AtField E s → (s.cursor < E.board + PAGE_WORDS) × Lands g.size g.writer (m.heap s.cursor)
  pub front : m.front ≤ E.board

abbrev pub ScansAreAnswered : Type 0
ScansAreAnswered = (E : Era) (m : Memory) (team : Team) (g : Ghost) (k : ℕ) (s : Scan) → Ready E m team g k → IsScanning team k s → ScanAnswers E m g s

-- ---- a walk over the chain of copied cells

-- the word leads to a cell of the table, or is 0
abbrev pub LeadsToCell : Era → (word more : ℕ) → Type 0
LeadsToCell E word more = (word ≡ 0) ⊎ ((a : ℕ) × (word ≡ a + 1) × (a + 3 ≤ E.board) × (0 < more))

-- the first word of an old record where nobody copies any more: its header, or a forward to the copy
pub data SettledHeader (E : Era) (front : ℕ) : Decoded → Type 0 where
  NotCopied : (kind : HeaderKind) (len serial mutator : ℕ) → SettledHeader E front (HeaderWord kind len serial mutator)
  CopiedTo : (len to : ℕ) → (E.start ≤ to) × (to < front) → SettledHeader E front (ForwardWord len to)

-- What the walk reads at a cell: the cell lies in the table with its three words; the old record to which its target leads does, too, and
-- its first word says whether it is copied; the link leads to a cell, of which as many may come as are left, or is 0.
pub record WalkAnswers (E : Era) (m : Memory) (v : Visit) : Type 0 where
  pub cell : v.cell + 3 ≤ E.board
  pub old : (b : ℕ) → v.past ≡ false → v.old ≡ Some b → (b < E.board) × SettledHeader E m.front (decode (m.heap b))
  pub link : v.past ≡ true → LeadsToCell E (m.heap (v.cell + 2)) (v.more - 1)

abbrev pub WalksAreAnswered : Type 0
WalksAreAnswered = (E : Era) (m : Memory) (team : Team) (g : Ghost) (k : ℕ) (v : Visit) → Ready E m team g k → (team.worker k).pass ≡ Some (At v) → WalkAnswers E m v

-- what it reads at its beginning: WEAK leads to a cell, or is 0
abbrev pub ChainsAreAnswered : Type 0
ChainsAreAnswered = (E : Era) (m : Memory) (team : Team) (g : Ghost) (k more : ℕ) → Ready E m team g k → (team.worker k).pass ≡ Some Begins → E.span < 3 * (more + 1) → LeadsToCell E m.weak more

-- ---- the gate

-- of what a passage takes away the gate counts at least one
abbrev pub IsCounted : GateWord → Passage → Type 0
IsCounted gate Enter = ⊤
IsCounted gate Park = 0 < gate.running
IsCounted gate (Request asked) = 0 < gate.running
IsCounted gate RequestSnap = 0 < gate.running
IsCounted gate Clear = ⊤
IsCounted gate Forwarded = 0 < gate.behind
IsCounted gate Resume = ⊤
IsCounted gate Leave = (0 < gate.live) × (0 < gate.running)

-- the gate that is read fits its word, and so does the one that a passage makes of it
pub record GateAnswers (gate : GateWord) (p : Passage) : Type 0 where
  pub counted : IsCounted gate p
  pub fits : GateFits gate
  pub after : GateFits (gate_after p gate)

abbrev pub PassagesFit : Type 0
PassagesFit = (E : Era) (m : Memory) (team : Team) (g : Ghost) (k : ℕ) (p : Passage) → Ready E m team g k
    → Passes (team.worker k).post (team.worker k).epoch (team.worker k).done (is_some (team.worker k).account.end) (team.worker k).traced_seen m.gate p
    → GateAnswers m.gate p

-- ---- areas

-- an area word of a heap of so many pages a space: FRONT and LOW are in order, and within the space
pub record AreaAnswers (pages : ℕ) (area : AreaWord) : Type 0 where
  pub order : (area.front ≤ area.low) × (area.low ≤ PAGE_WORDS * pages)
  pub fits : AreaFits area

-- Both spaces' areas are in order, also for a worker of an epoch that is past. The area of the epoch's space is the one that the laws
-- speak of. A worker reads in the area of its own epoch's space the FRONT that its round looks at.
pub record AreasAnswer (c : Configuration) : Type 0 where
  pub each : (space : ℕ) → space < 2 → AreaAnswers c.pages ((table c).area space)
  pub now : IsAreaNow (era c) (memory c) ((table c).area (to_space (era c).epoch))
  pub front : (k : ℕ) → k < length c.workers
      → IsFrontFor (era c) (memory c) ((team c).worker k) (space_start c.pages (to_space ((team c).worker k).epoch) + ((table c).area (to_space ((team c).worker k).epoch)).front)

abbrev pub AreasAreRead : Type 0
AreasAreRead = (c : Configuration) (p : Plain) → Stands c p → AreasAnswer c
