-- What the proofs know of the heap beside its words: where records stand and what has become of them.
use Rattle.std.specs.Prelude.{◌≡◌, ℕ, ◌+◌, ◌-◌, ◌<◌, ◌≤◌, ◌⊎◌, true}
use Rattle.plain_state.specs.declared.kind.Kind.{Kind}
use Rattle.heap_words.specs.declared.kind.Kind.{Kind as HeaderKind}
use Rattle.heap_words.specs.declared.kind.Kind.TheVariants as header
use Rattle.heap_words.specs.Decoded.{Decoded, NumberWord, PointerWord, decode}
use Rattle.plain_state.specs.declared.value.Identity.{Identity}
use Rattle.plain_state.specs.declared.kind.Kind.TheVariants.{Fields, Raw, Mixed, Weak}
use Rattle.plain_state.specs.Layout.{is_field, values_at, words_behind}
use Rattle.heap_state.specs.Memory.Era.{Era}

-- By place: the size of the record or of the place reserved for one that begins there, or 0 where none does; the worker
-- that still writes it, and one more, or 0; the place of its copy, and one more, or 0; the worker that keeps its header,
-- and one more, or 0; its kind and its identity, as the plain machine has them. By worker: the place of the record whose header
-- it keeps, and one more, or 0. A place that is written and a record that has a copy both count as standing.
pub record Ghost : Type 0 where
  pub size : ℕ → ℕ
  pub writer : ℕ → ℕ
  pub copy : ℕ → ℕ
  pub keeper : ℕ → ℕ
  pub kind : ℕ → Kind
  pub identity : ℕ → Identity
  pub kept : ℕ → ℕ

-- ---- words

-- the kind that the header of a record of this kind has
abbrev pub header_kind : Kind → HeaderKind
header_kind Fields = header.Fields
header_kind Raw = header.Raw
header_kind (Mixed count) = header.Mixed
header_kind Weak = header.Weak

-- the count that word 1 of a mixed record says
abbrev pub count_said : Decoded → ℕ
count_said (NumberWord n) = n
count_said _ = 0

-- the length that the header of a record of this kind with so many values has: the words behind it
abbrev pub header_len : Kind → (count : ℕ) → ℕ
header_len kind count = count + (values_at kind - 1 + words_behind kind)

-- the kind of a record whose header has this kind, and whose next word is this
abbrev pub said_kind : HeaderKind → (next : ℕ) → Kind
said_kind header.Fields next = Fields
said_kind header.Raw next = Raw
said_kind header.Mixed next = Mixed (count_said (decode next))
said_kind header.Weak next = Weak

-- the word is a pointer into the old space
unfoldable pub Leads : Era → ℕ → Type 0
Leads E w = (b : ℕ) × (decode w ≡ PointerWord b) × (E.old_start ≤ b) × (b < E.old_start + E.old_span)

-- where the word is a pointer, it is to a record that nobody writes any more
unfoldable pub Lands : (size writer : ℕ → ℕ) → ℕ → Type 0
Lands size writer w = (b : ℕ) → decode w ≡ PointerWord b → (0 < size b) × (writer b ≡ 0)

-- word i of the record at a is a field, and nobody writes the record any more
pub record IsField (size writer : ℕ → ℕ) (kind : ℕ → Kind) (a i : ℕ) : Type 0 where
  pub stands : 0 < size a
  pub written : writer a ≡ 0
  pub field : is_field (kind a) i ≡ true
  pub first : 0 < i
  pub last : i < size a

-- the address is a field of a record of the epoch's space
pub record InRecord (E : Era) (size writer : ℕ → ℕ) (kind : ℕ → Kind) (x : ℕ) : Type 0 where
  pub a : ℕ
  pub i : ℕ
  pub field : IsField size writer kind a i
  pub inside : (E.start ≤ a) × (a < E.start + E.span)
  pub at : x ≡ a + i

-- the address is a board word
abbrev pub OnBoard : Era → ℕ → Type 0
OnBoard E x = (E.board ≤ x) × (x < E.board + 16)

-- the address is one that mutators read: a field of a record of the epoch's space, or a board word
unfoldable pub Here : (E : Era) (size writer : ℕ → ℕ) (kind : ℕ → Kind) → ℕ → Type 0
Here E size writer kind x = InRecord E size writer kind x ⊎ OnBoard E x
