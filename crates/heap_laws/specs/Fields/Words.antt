-- Words of records of the epoch's space and of the board, as a mutator loads and stores them.
use Rattle.std.specs.Prelude.{◌≡◌, ℕ, ◌+◌, ◌-◌, ◌<◌, ◌≤◌, true, false, Some, None}
use Rattle.heap_words.specs.Decoded.{NumberWord, PointerWord, HeaderWord, decode}
use Rattle.plain_state.specs.declared.value.Value.{Value}
use Rattle.plain_state.specs.declared.value.Value.TheVariants.{Number}
use Rattle.plain_state.specs.State as plain
use Rattle.plain_state.specs.Layout.{is_field, is_raw, word_of_value}
use Rattle.plain_state.specs.declared.kind.Kind.{Kind}
use Rattle.space_map.specs.declared.page_word.PageWord.TheVariants.{Open}
use Rattle.heap_state.specs.Memory.Era.{Era, Memory}
use Rattle.heap_state.specs.Invariant.Ghost.{Ghost, header_kind}
use Rattle.heap_state.specs.Invariant.Parts.Knowledge.{HasRole}
use Rattle.heap_state.specs.Meaning.Values.{Shown, Shows, value_of}
use Rattle.heap_state.specs.Known.{Team, Access, is_mutator, is_late}
use Rattle.heap_laws.specs.Fields.Held.{MayHold}
use Rattle.heap_laws.specs.Steps.{Ready}
use Rattle.space_map.specs.Spaces.{page_of}
use Rattle.plain_state.specs.declared.sizes.TheConstants.{NUMBERS}

-- ---- what is written

-- value x of the record at a: the record stands in the epoch's space, and nobody writes it any more
pub record IsWordOf (E : Era) (size writer : ℕ → ℕ) (kind : ℕ → Kind) (a x : ℕ) : Type 0 where
  pub stands : 0 < size a
  pub written : writer a ≡ 0
  pub inside : (E.start ≤ a) × (a < E.start + E.span)
  pub last : word_of_value (kind a) x < size a

-- a word may stand at value x of a record of this kind: in a field, what a mutator may hold; elsewhere a number below 2^62
pub record MayStore (E : Era) (size writer : ℕ → ℕ) (k : Kind) (x v : ℕ) : Type 0 where
  pub held : is_field k (word_of_value k x) ≡ true → MayHold E size writer v
  pub number : is_field k (word_of_value k x) ≡ false → v < NUMBERS

-- what a word at value x of a record of this kind shows: in a field, the value that it denotes; else its number
pub record StandsFor (g : Ghost) (k : Kind) (x v : ℕ) (y : Value) : Type 0 where
  pub denotes : is_field k (word_of_value k x) ≡ true → value_of g.identity v ≡ Some y
  pub number : is_raw k (word_of_value k x) ≡ true → Number v ≡ y

-- ---- loads

-- The record that a register of a mutator leads to: it stands in the epoch's space, nobody writes it any more, its header says
-- its kind, size and identity, and it shows the plain record of that identity.
pub record IsLedTo (E : Era) (m : Memory) (g : Ghost) (p : plain.Plain) (a : ℕ) : Type 0 where
  pub stands : (0 < g.size a) × (g.writer a ≡ 0)
  pub inside : (E.start ≤ a) × (a < E.start + E.span)
  pub header : decode (m.heap a) ≡ HeaderWord (header_kind (g.kind a)) (g.size a - 1) (g.identity a).serial (g.identity a).mutator
  pub shows : (r : plain.Record) × (plain.record_of p.heap (g.identity a) ≡ Some r) × Shows (value_of g.identity) m.heap a (g.kind a) (g.size a) r

abbrev pub HeadersAreRead : Type 0
HeadersAreRead = (E : Era) (m : Memory) (team : Team) (g : Ghost) (p : plain.Plain) (k w a : ℕ) → Ready E m team g k → Shown E m team g p
    → MayHold E g.size g.writer w → decode w ≡ PointerWord a → IsLedTo E m g p a

-- A word that a mutator has access to, and whose page it has found open, is one that it may load and store: of a record of the
-- epoch's space that nobody writes, on an open page, and with the role that was read.
pub record IsAccessed (E : Era) (m : Memory) (g : Ghost) (f : Access) : Type 0 where
  pub word : (x : ℕ) → f.word ≡ word_of_value (g.kind f.at) x → IsWordOf E g.size g.writer g.kind f.at x
  pub opens : m.page (page_of (f.at + f.word)) ≡ Open E.epoch
  pub role : HasRole (g.kind f.at) f.word f.role

abbrev pub AccessesAreAllowed : Type 0
AccessesAreAllowed = (E : Era) (m : Memory) (team : Team) (g : Ghost) (k : ℕ) (f : Access) → Ready E m team g k
    → (team.worker k).access ≡ Some f → (team.worker k).opened ≡ Some (page_of (f.at + f.word)) → IsAccessed E m g f

-- what is loaded from a field on an open page, or from the open board, a mutator may hold; what is loaded from elsewhere in a
-- record is a number below 2^62
abbrev pub WordsAreLoaded : Type 0
WordsAreLoaded = (E : Era) (m : Memory) (team : Team) (g : Ghost) (k a x : ℕ) → Ready E m team g k → IsWordOf E g.size g.writer g.kind a x
    → m.page (page_of (a + word_of_value (g.kind a) x)) ≡ Open E.epoch → MayStore E g.size g.writer (g.kind a) x (m.heap (a + word_of_value (g.kind a) x))

abbrev pub BoardIsLoaded : Type 0
BoardIsLoaded = (E : Era) (m : Memory) (team : Team) (g : Ghost) (k x : ℕ) → Ready E m team g k → x < 16
    → m.page (page_of E.board) ≡ Open E.epoch → MayHold E g.size g.writer (m.heap (E.board + x))

-- the registers of a mutator without an end that is not behind are what it may hold
abbrev pub RegistersAreHeld : Type 0
RegistersAreHeld = (E : Era) (m : Memory) (team : Team) (g : Ghost) (k j : ℕ) → Ready E m team g k → is_mutator (team.worker k).post ≡ true → is_late E.epoch (team.worker k) ≡ false
    → (team.worker k).account.end ≡ None → j < 8 → MayHold E g.size g.writer ((team.worker k).registers j)

-- a number is what a mutator may hold
abbrev pub NumbersAreHeld : Type 0
NumbersAreHeld = (E : Era) (size writer : ℕ → ℕ) (w n : ℕ) → decode w ≡ NumberWord n → MayHold E size writer w
