-- What a worker holds between two steps, by component. Each machine's state is read as these, whatever its phases are.
use Rattle.std.specs.Prelude.{◌≡◌, ℕ, ◌+◌, ◌<◌, ◌==◌, ◌&&◌, ◌⊎◌, Bool, true, false, List, [], length, Option, Some, None}
use Rattle.plain_state.specs.declared.end.End.{End}
use Rattle.space_map.specs.declared.gate_word.GateWord.{GateWord}
use Rattle.space_map.specs.declared.page_word.PageWord.{PageWord}

-- ---- at the gate

-- Where a worker stands at the gate: a scanner never enters; a mutator is outside, runs, is stopped, is stopped and
-- flips because it asked for so many pages, is stopped and begins a checkpoint, or is gone.
pub data Post : Type 0 where
  Scanner : Post
  Outside : Post
  Running : Post
  Stopped : Post
  Flipping : (asked : ℕ) → Post
  Snapping : Post
  Gone : Post

abbrev pub is_mutator : Post → Bool
is_mutator Scanner = false
is_mutator _ = true

-- it has attached and not left
abbrev pub is_live : Post → Bool
is_live Running = true
is_live Stopped = true
is_live (Flipping asked) = true
is_live Snapping = true
is_live _ = false

abbrev pub is_running : Post → Bool
is_running Running = true
is_running _ = false

abbrev pub is_flipper : Post → Bool
is_flipper (Flipping asked) = true
is_flipper _ = false

-- the request is its own: it flips or begins a checkpoint
abbrev pub is_asking : Post → Bool
is_asking (Flipping asked) = true
is_asking Snapping = true
is_asking _ = false

abbrev pub is_gone : Post → Bool
is_gone Gone = true
is_gone _ = false

-- what a worker is about to exchange the gate for
pub data Passage : Type 0 where
  Enter : Passage
  Park : Passage
  Request : (asked : ℕ) → Passage
  RequestSnap : Passage
  Clear : Passage
  Forwarded : Passage
  Resume : Passage
  Leave : Passage

-- a step at the gate, from the gate that was read
pub record GateStep : Type 0 where
  pub read : GateWord
  pub passage : Passage

-- A flip in progress: the gate read, with nobody running and nobody behind; the space's size, once it is read; the size that the
-- other space gets, and the words in use, once AREA is read; whether that size is stored; whether the other space's AREA is; and
-- whether WEAK is.
pub record Reset : Type 0 where
  pub read : GateWord
  pub size : Option ℕ
  pub grown : Option ℕ
  pub used : Option ℕ
  pub sized : Bool
  pub stored : Bool
  pub cleared : Bool

-- the other space's size is stored
abbrev pub is_sized : Option Reset → Bool
is_sized None = false
is_sized (Some r) = r.sized

-- WEAK is stored
abbrev pub is_cleared : Option Reset → Bool
is_cleared None = false
is_cleared (Some r) = r.cleared

-- ---- new records and accesses

-- Words that a mutator has claimed to place new records in: those from `at` to `end`, in this epoch. Those below `zeroed`
-- are 0, but for the words `ahead`, which are stored behind the place ahead of a record's header. The pages below `opened`
-- are open. A run is a stock with both at its end.
pub record Stock : Type 0 where
  pub epoch : ℕ
  pub at : ℕ
  pub end : ℕ
  pub zeroed : ℕ
  pub opened : ℕ
  pub ahead : List ℕ

-- the address is that of none of the words stored ahead
abbrev pub IsNotAhead : Stock → ℕ → Type 0
IsNotAhead q x = (x ≡ q.at) ⊎ (q.at + length q.ahead < x)

-- a record that a scan has entered: its address, the one where its fields end, and the one where the next record begins
pub record SeenRecord : Type 0 where
  pub at : ℕ
  pub fields_end : ℕ
  pub next : ℕ

-- the header of a mixed record that a scan has read, whose count of fields it has still to read: its address, and the record's size
pub record SeenHeader : Type 0 where
  pub at : ℕ
  pub size : ℕ

-- what stands at a word of a record: a field, a plain number, or the target of a cell; or a field or a number, as the record's count has
-- still to say
pub data Role : Type 0 where
  FieldRole : Role
  NumberRole : Role
  TargetRole : Role
  UnknownRole : Role

-- The access to a word of a record whose header was read: the record's place; the word at which its values begin and the one
-- that is accessed, both counted from its first; and the role of that word.
pub record Access : Type 0 where
  pub at : ℕ
  pub first : ℕ
  pub word : ℕ
  pub role : Role

-- ---- copying

-- which word leads to the record that is asked for: a register of the worker's own, or a word that it scans
pub data Origin : Type 0 where
  Register : (r : ℕ) → Origin
  Scanned : (addr : ℕ) → Origin

-- the search for the copy of the record at an old place, and the copy's place once it is known
pub record Quest : Type 0 where
  pub old : ℕ
  pub origin : Origin
  pub found : Option ℕ

-- A copy in progress: the header kept, the old place, the new one, the record's size, the words copied so far, the word
-- after them once it is loaded, whether the new place was read as FRONT, whether it is announced, whether it is reserved, and
-- the first page whose crossing isn't stored yet.
pub record Copy : Type 0 where
  pub header : ℕ
  pub from : ℕ
  pub to : ℕ
  pub size : ℕ
  pub done : ℕ
  pub word : Option ℕ
  pub aimed : Bool
  pub announced : Bool
  pub reserved : Bool
  pub crossed : ℕ

-- ---- scanning

-- A scan: the page, the first word not passed, whether the page was claimed as the filling one, the record over the page's
-- first word once CROSS is read, the mixed record whose count is to be read, the record in which the cursor stands, whether
-- FRONT was seen past the cursor, and whether nothing is left to pass.
pub record Scan : Type 0 where
  pub page : ℕ
  pub cursor : ℕ
  pub in_place : Bool
  pub over : Option ℕ
  pub headed : Option SeenHeader
  pub current : Option SeenRecord
  pub inner : Bool
  pub ended : Bool

-- a round of the duty: TRACED as read, and FRONT once it is read
pub record Round : Type 0 where
  pub traced : ℕ
  pub front : Option ℕ

-- A claim before its exchange: the page, the word read, whether it is claimed as the filling page, how many announced
-- places were looked at, and whether the gate was read again.
pub record Claim : Type 0 where
  pub page : ℕ
  pub old : PageWord
  pub in_place : Bool
  pub looked : ℕ
  pub sure : Bool

-- The first look at the end of the area: the space's first word, FRONT as read or that word before, whether the board was
-- found open, the pages below `upto` found open, and whether the filling page was found open or there is none.
pub record Look : Type 0 where
  pub traced : ℕ
  pub start : ℕ
  pub front : ℕ
  pub board : Bool
  pub upto : ℕ
  pub filled : Bool

-- the second look, after which the turn is taken, and TRACED is exchanged from this word
pub record LastLook : Type 0 where
  pub traced : ℕ

-- ---- the chain of copied cells

-- A cell that was copied and isn't linked yet: its place, WEAK once it is read, and whether that word is stored as the cell's link.
pub record Linking : Type 0 where
  pub cell : ℕ
  pub read : Option ℕ
  pub stored : Bool

-- the place of the cell that is to be linked
abbrev pub cell_to_link : Option Linking → Option ℕ
cell_to_link None = None
cell_to_link (Some l) = Some l.cell

-- A walk that has come to a cell: the cell's place; the old place that its target leads to, or the word that is to replace the
-- target, once this is known; whether the walk has done with the target; and how many cells may still come, this one with them.
pub record Visit : Type 0 where
  pub cell : ℕ
  pub old : Option ℕ
  pub word : Option ℕ
  pub past : Bool
  pub more : ℕ

-- a walk over the chain: WEAK isn't read yet; it has come to a cell; or it is behind the last one
pub data Pass : Type 0 where
  Begins : Pass
  At : (visit : Visit) → Pass
  Done : Pass

-- ---- the whole

-- what a mutator has that its plain mutator has too
pub record Account : Type 0 where
  pub counter : ℕ
  pub printed : List ℕ
  pub executed : ℕ
  pub serial : ℕ
  pub end : Option End

-- A worker: its post, its epoch, its account, its registers and how many of them it has forwarded since the flip; then
-- what it is about to do, and what it knows by what it has read in its epoch: `opened` is a page that it found open, and
-- `size_seen` the pages in use of the epoch's space. `linking` is the cell that it has to link, and `pass` its walk over the chain.
pub record Known : Type 0 where
  pub post : Post
  pub epoch : ℕ
  pub account : Account
  pub registers : ℕ → ℕ
  pub done : ℕ
  pub stock : Option Stock
  pub access : Option Access
  pub opened : Option ℕ
  pub quest : Option Quest
  pub copy : Option Copy
  pub scan : Option Scan
  pub round : Option Round
  pub claim : Option Claim
  pub look : Option Look
  pub last_look : Option LastLook
  pub traced_seen : Bool
  pub size_seen : Option ℕ
  pub gate_step : Option GateStep
  pub reset : Option Reset
  pub linking : Option Linking
  pub pass : Option Pass

-- a mutator of this post and of the epoch `own` has not forwarded its registers since the flip to this epoch
abbrev pub is_behind : ℕ → Post → ℕ → Bool
is_behind epoch post own = is_live post && (own + 1 == epoch)

-- the worker is such a mutator
abbrev pub is_late : ℕ → Known → Bool
is_late epoch w = is_behind epoch w.post w.epoch

-- a worker that has done nothing yet
abbrev pub fresh : Post → Known
fresh post = record {
  post = post;
  epoch = 0;
  account = record { counter = 0; printed = []; executed = 0; serial = 0; end = None };
  registers = λ r. 0;
  done = 0;
  stock = None;
  access = None;
  opened = None;
  quest = None;
  copy = None;
  scan = None;
  round = None;
  claim = None;
  look = None;
  last_look = None;
  traced_seen = false;
  size_seen = None;
  gate_step = None;
  reset = None;
  linking = None;
  pass = None;
}

-- all workers, by their numbers: the mutators first, then the scanners
pub record Team : Type 0 where
  pub mutators : ℕ
  pub count : ℕ
  pub worker : ℕ → Known
