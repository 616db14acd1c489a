-- What a running mutator's registers, and the words that it accesses, are to the plain machine.
use Rattle.std.specs.Prelude.{◌≡◌, ℕ, ◌+◌, ◌<◌, ⊤, true, length, Option, Some, None, slice_get, false}
use Rattle.heap_words.specs.declared.kind.Kind.{Kind as HeaderKind}
use Rattle.heap_words.specs.Decoded.{NumberWord, PointerWord, HeaderWord, decode, number_in}
use Rattle.plain_state.specs.Layout.{values_at, word_of_value, size_of}
use Rattle.plain_state.specs.State as plain
use Rattle.plain_state.specs.declared.kind.Kind.TheVariants.{Mixed}
use Rattle.plain_state.specs.declared.value.Value.{Value}
use Rattle.plain_state.specs.declared.value.Value.TheVariants.{Number, Reference}
use Rattle.space_map.specs.declared.page_word.PageWord.TheVariants.{Open}
use Rattle.heap_state.specs.Memory.Era.{Era, Memory}
use Rattle.heap_state.specs.Invariant.Ghost.{Ghost, said_kind}
use Rattle.heap_state.specs.Invariant.Parts.Knowledge.{HasRole, Accesses}
pub use Rattle.heap_state.specs.Meaning.Loaded.{word_held, FitsRole}
use Rattle.heap_state.specs.Meaning.Values.{Shown}
use Rattle.heap_state.specs.Known.{Team, Role, FieldRole, NumberRole, TargetRole, UnknownRole, Access, is_mutator, is_late}
use Rattle.heap_laws.specs.Fields.Words.{IsWordOf, MayStore, StandsFor}
use Rattle.heap_laws.specs.Fields.Held.{MayHold, HoldsValue}
use Rattle.heap_laws.specs.Fields.Stores.{IsAs}
use Rattle.heap_laws.specs.Steps.{Ready}
use Rattle.space_map.specs.Spaces.{page_of}

-- ---- mutators

-- mutator k is like the plain mutator q
pub record IsLikePlain (E : Era) (m : Memory) (team : Team) (g : Ghost) (p : plain.Plain) (k : ℕ) (q : plain.Mutator) : Type 0 where
  pub is : slice_get p.mutators k ≡ Some q
  pub same : IsAs g p.heap k (team.worker k) q

-- each mutator has its plain one
abbrev pub MutatorsAreShown : Type 0
MutatorsAreShown = (E : Era) (m : Memory) (team : Team) (g : Ghost) (p : plain.Plain) (k : ℕ) → Ready E m team g k → Shown E m team g p
    → is_mutator (team.worker k).post ≡ true → (q : plain.Mutator) × IsLikePlain E m team g p k q

-- ---- registers

-- Register j of a mutator without an end that is not late holds what its plain register has: where it is a number that number, and where it
-- is a pointer a reference to the record that stands there.
pub record RegisterHolds (E : Era) (g : Ghost) (w : ℕ) (y : Value) : Type 0 where
  pub holds : HoldsValue E g w y
  pub number : (n : ℕ) → decode w ≡ NumberWord n → y ≡ Number n
  pub reference : (a : ℕ) → decode w ≡ PointerWord a → y ≡ Reference (g.identity a)

abbrev pub RegistersHold : Type 0
RegistersHold = (E : Era) (m : Memory) (team : Team) (g : Ghost) (p : plain.Plain) (k : ℕ) (q : plain.Mutator) (j : ℕ) → Ready E m team g k → IsLikePlain E m team g p k q
    → is_mutator (team.worker k).post ≡ true → is_late E.epoch (team.worker k) ≡ false → (team.worker k).account.end ≡ None → j < 8
    → (y : Value) × (slice_get q.registers j ≡ Some y) × RegisterHolds E g ((team.worker k).registers j) y

-- ---- headers

-- What the header at a says of the plain record there: its kind, and its length in words behind the header; and an access to any of
-- its values may begin.
pub record HeaderSays (E : Era) (m : Memory) (g : Ghost) (p : plain.Plain) (a : ℕ) (head : HeaderKind) (len : ℕ) : Type 0 where
  pub record_there : plain.Record
  pub is : plain.record_of p.heap (g.identity a) ≡ Some record_there
  pub kind : record_there.kind ≡ said_kind head (m.heap (a + 1))
  pub long : size_of record_there ≡ len + 1
  pub access : (x : ℕ) (role : Role) → x < length record_there.values → HasRole record_there.kind (word_of_value record_there.kind x) role
      → Accesses E g.size g.writer g.kind (record { at = a; first = values_at record_there.kind; word = word_of_value record_there.kind x; role = role })

abbrev pub HeadersSay : Type 0
HeadersSay = (E : Era) (m : Memory) (team : Team) (g : Ghost) (p : plain.Plain) (k a len serial mutator : ℕ) (w : ℕ) (head : HeaderKind) → Ready E m team g k → Shown E m team g p
    → MayHold E g.size g.writer w → decode w ≡ PointerWord a → decode (m.heap a) ≡ HeaderWord head len serial mutator → HeaderSays E m g p a head len

-- ---- counts

-- What the count says of a mixed record to which there is an access whose role isn't known: how many fields the plain record there
-- has. With the role that the word then has, the access may go on.
pub record CountSays (E : Era) (m : Memory) (g : Ghost) (p : plain.Plain) (f : Access) : Type 0 where
  pub record_there : plain.Record
  pub is : plain.record_of p.heap (g.identity f.at) ≡ Some record_there
  pub count : ℕ
  pub kind : record_there.kind ≡ Mixed count
  pub says : decode (m.heap (f.at + 1)) ≡ NumberWord count
  pub within : f.word < length record_there.values + values_at (Mixed count)
  pub access : (role : Role) → HasRole (Mixed count) f.word role → Accesses E g.size g.writer g.kind (record f { role = role })

abbrev pub CountsAreRead : Type 0
CountsAreRead = (E : Era) (m : Memory) (team : Team) (g : Ghost) (p : plain.Plain) (k : ℕ) (f : Access) → Ready E m team g k → Shown E m team g p
    → (team.worker k).access ≡ Some f → f.role ≡ UnknownRole → CountSays E m g p f

-- ---- words of records

-- The word that a mutator stores for one that it holds, if it may be stored: nothing is in a cell, and as long as the role isn't known.
abbrev pub word_stored : Role → ℕ → Option ℕ
word_stored FieldRole w = Some w
word_stored NumberRole w = number_in (decode w)
word_stored TargetRole w = None
word_stored UnknownRole w = None

-- a word with this role is loaded as it stands, whether the epoch is traced or not, and may be stored
abbrev pub IsFieldOrNumber : Role → Type 0
IsFieldOrNumber FieldRole = ⊤
IsFieldOrNumber NumberRole = ⊤
IsFieldOrNumber TargetRole = ⊥
IsFieldOrNumber UnknownRole = ⊥

-- The word that is accessed is value x of the plain record there: on an open page, a word of a record that stands; what is loaded
-- from it holds that value, and what is stored there for a value stands for it.
pub record IsValueOf (E : Era) (m : Memory) (g : Ghost) (p : plain.Plain) (f : Access) (x : ℕ) : Type 0 where
  pub record_there : plain.Record
  pub is : plain.record_of p.heap (g.identity f.at) ≡ Some record_there
  pub kind : record_there.kind ≡ g.kind f.at
  pub role : HasRole record_there.kind (word_of_value record_there.kind x) f.role
  pub word : IsWordOf E g.size g.writer g.kind f.at x
  pub opens : m.page (page_of (f.at + f.word)) ≡ Open E.epoch
  pub value : Value
  pub there : slice_get record_there.values x ≡ Some value
  pub loaded : HoldsValue E g (word_held f.role (m.heap (f.at + f.word))) value
  pub stored : (w v : ℕ) (y : Value) → HoldsValue E g w y → word_stored f.role w ≡ Some v → FitsRole f.role v → MayStore E g.size g.writer (g.kind f.at) x v × StandsFor g (g.kind f.at) x v y

abbrev pub AccessesAreValues : Type 0
AccessesAreValues = (E : Era) (m : Memory) (team : Team) (g : Ghost) (p : plain.Plain) (k : ℕ) (f : Access) (x : ℕ) → Ready E m team g k → Shown E m team g p
    → (team.worker k).access ≡ Some f → IsFieldOrNumber f.role → (team.worker k).opened ≡ Some (page_of (f.at + f.word)) → f.word ≡ word_of_value (g.kind f.at) x → IsValueOf E m g p f x

-- ---- targets of cells

-- the plain record is a cell, and what is loaded from its target holds its value
pub record IsTargetOf (E : Era) (m : Memory) (g : Ghost) (p : plain.Plain) (f : Access) : Type 0 where
  pub record_there : plain.Record
  pub is : plain.record_of p.heap (g.identity f.at) ≡ Some record_there
  pub value : Value
  pub there : slice_get record_there.values 0 ≡ Some value
  pub loaded : HoldsValue E g (m.heap (f.at + f.word)) value

-- it does so for a mutator that has seen its epoch traced
abbrev pub TargetsAreValues : Type 0
TargetsAreValues = (E : Era) (m : Memory) (team : Team) (g : Ghost) (p : plain.Plain) (k : ℕ) (f : Access) → Ready E m team g k → Shown E m team g p
    → (team.worker k).access ≡ Some f → f.role ≡ TargetRole → (team.worker k).traced_seen ≡ true → IsTargetOf E m g p f

-- ---- words of the board

-- word x of the open board holds the value of the plain board
abbrev pub BoardWordsAreValues : Type 0
BoardWordsAreValues = (E : Era) (m : Memory) (team : Team) (g : Ghost) (p : plain.Plain) (k x : ℕ) → Ready E m team g k → Shown E m team g p
    → m.page (page_of E.board) ≡ Open E.epoch → x < 16 → (y : Value) × (slice_get p.heap.board x ≡ Some y) × HoldsValue E g (m.heap (E.board + x)) y
