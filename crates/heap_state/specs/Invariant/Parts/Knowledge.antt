-- What each worker knows, component by component.
use Rattle.std.specs.Prelude.{◌≡◌, ℕ, ◌+◌, ◌*◌, ◌<◌, ◌≤◌, ◌⊎◌, Bool, true, false, Some}
use Rattle.heap_words.specs.Decoded.{PointerWord, decode}
use Rattle.plain_state.specs.Layout.{is_field, is_raw, values_at}
use Rattle.plain_state.specs.declared.kind.Kind.{Kind}
use Rattle.plain_state.specs.declared.kind.Kind.TheVariants.{Mixed, Weak}
use Rattle.space_map.specs.declared.gate_word.GateWord.{GateWord}
use Rattle.space_map.specs.declared.spaces.TheConstants.{PAGE_WORDS}
use Rattle.heap_state.specs.Memory.Era.{Era}
use Rattle.heap_state.specs.Invariant.Ghost.{Leads, Lands}
use Rattle.heap_state.specs.Known.{Post, Outside, Stopped, Snapping, Passage, Enter, Park, Request, RequestSnap, Clear, Forwarded, Resume, Leave, Reset, Role, FieldRole, NumberRole, TargetRole, UnknownRole, Access, is_live, is_running, is_asking, is_gone, is_behind}

-- ---- epochs and the gate

-- No worker is of a later epoch; one that is live is of this epoch or the one before, and one that runs, or whose the request is,
-- of this one. Only who is late has forwarded registers.
pub record Timely (E : Era) (post : Post) (epoch done : ℕ) : Type 0 where
  pub past : epoch ≤ E.epoch
  pub live : is_live post ≡ true → (epoch ≡ E.epoch) ⊎ (epoch + 1 ≡ E.epoch)
  pub running : is_running post ≡ true → epoch ≡ E.epoch
  pub asking : is_asking post ≡ true → epoch ≡ E.epoch
  pub rest : is_behind E.epoch post epoch ≡ false → done ≡ 0
  pub below : done ≤ 8

-- who has an end runs or is gone, and who is gone has one
pub record Ends (post : Post) (ended : Bool) : Type 0 where
  pub stays : ended ≡ true → (is_running post ≡ true) ⊎ (is_gone post ≡ true)
  pub gone : is_gone post ≡ true → ended ≡ true

-- the passage is one that the gate that was read allows to this worker
abbrev pub Passes : (post : Post) (epoch done : ℕ) (ended traced_seen : Bool) → GateWord → Passage → Type 0
Passes post epoch done ended traced_seen read Enter = (post ≡ Outside) × (read.request ≡ false) × (read.behind ≡ 0)
Passes post epoch done ended traced_seen read Park = (is_running post ≡ true) × (ended ≡ false) × (read.request ≡ true)
Passes post epoch done ended traced_seen read (Request asked) = (is_running post ≡ true) × (ended ≡ false) × (read.request ≡ false) × (traced_seen ≡ true)
Passes post epoch done ended traced_seen read RequestSnap = (is_running post ≡ true) × (ended ≡ false) × (read.request ≡ false) × (traced_seen ≡ true)
Passes post epoch done ended traced_seen read Clear = post ≡ Snapping
Passes post epoch done ended traced_seen read Forwarded = (post ≡ Stopped) × (read.epoch ≡ epoch + 1) × (done ≡ 8)
Passes post epoch done ended traced_seen read Resume = (post ≡ Stopped) × (read.epoch ≡ epoch) × (read.request ≡ false) × (read.behind ≡ 0)
Passes post epoch done ended traced_seen read Leave = (is_running post ≡ true) × (ended ≡ true)

-- While a flip is in progress the gate stands still. The size and the words in use are those that are. The other space gets no
-- smaller than the epoch's; its size and its AREA are what was stored.
pub record Resets (E : Era) (gate : GateWord) (front low old_front old_low old_owed : ℕ) (r : Reset) : Type 0 where
  pub unmoved : gate ≡ r.read
  pub stopped : (r.read.running ≡ 0) × (r.read.behind ≡ 0)
  pub size : (p : ℕ) → r.size ≡ Some p → E.span ≡ PAGE_WORDS * p
  pub grown : (q : ℕ) → r.grown ≡ Some q → E.span ≤ PAGE_WORDS * q
  pub used : (u : ℕ) → r.used ≡ Some u → u + low ≡ E.span + front
  pub sized : r.sized ≡ true → (q : ℕ) × (r.grown ≡ Some q) × (E.old_span ≡ PAGE_WORDS * q)
  pub stored : r.stored ≡ true → (r.sized ≡ true) × (old_front ≡ E.old_start) × (old_low ≡ E.old_start + E.old_span) × (r.used ≡ Some old_owed)

-- ---- registers and accesses

-- Registers lead to records. Those of who is late that are not forwarded yet lead into the old space, and all others do not.
pub record Clean (E : Era) (size writer : ℕ → ℕ) (late : Bool) (done : ℕ) (registers : ℕ → ℕ) : Type 0 where
  pub clean : (j : ℕ) → j < 8 → (late ≡ true → j < done) → ¬ (Leads E (registers j))
  pub lands : (j : ℕ) → j < 8 → Lands size writer (registers j)
  pub old : late ≡ true → (j b : ℕ) → done ≤ j → j < 8 → decode (registers j) ≡ PointerWord b → (E.old_start ≤ b) × (b < E.old_start + E.old_span)

-- a word of a record of this kind has this role; of a mixed record alone it may not be known
abbrev pub HasRole : Kind → (word : ℕ) → Role → Type 0
HasRole kind word FieldRole = is_field kind word ≡ true
HasRole kind word NumberRole = is_raw kind word ≡ true
HasRole kind word TargetRole = (kind ≡ Weak) × (word ≡ 1)
HasRole kind word UnknownRole = (count : ℕ) × (kind ≡ Mixed count)

-- the access is to a value of a record of the epoch's space that nobody writes, and its word has this role
pub record Accesses (E : Era) (size writer : ℕ → ℕ) (kind : ℕ → Kind) (f : Access) : Type 0 where
  pub stands : 0 < size f.at
  pub written : writer f.at ≡ 0
  pub inside : (E.start ≤ f.at) × (f.at < E.start + E.span)
  pub first : f.first ≡ values_at (kind f.at)
  pub word : (f.first ≤ f.word) × (f.word < size f.at)
  pub role : HasRole (kind f.at) f.word f.role
