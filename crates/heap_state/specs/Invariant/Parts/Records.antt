-- Where records stand.
use Rattle.std.specs.Prelude.{◌≡◌, ◌≢◌, ℕ, ◌+◌, ◌-◌, ◌%◌, ◌<◌, ◌≤◌, ◌⊎◌, false}
use Rattle.plain_state.specs.declared.kind.Kind.{Kind}
use Rattle.plain_state.specs.declared.kind.Kind.TheVariants.{Mixed}
use Rattle.heap_words.specs.Word.{number_word}
use Rattle.heap_words.specs.Decoded.{HeaderWord, BusyWord, ForwardWord, decode}
use Rattle.plain_state.specs.declared.value.Identity.{Identity}
use Rattle.plain_state.specs.Layout.{is_field}
use Rattle.space_map.specs.declared.page_word.PageWord.{PageWord}
use Rattle.space_map.specs.declared.page_word.PageWord.TheVariants.{Open}
use Rattle.heap_state.specs.Memory.Era.{Era}
use Rattle.heap_state.specs.Invariant.Ghost.{header_kind}
use Rattle.space_map.specs.Spaces.{page_of}
use Rattle.space_map.specs.declared.spaces.TheConstants.{PAGE_WORDS}
use Rattle.plain_state.specs.declared.sizes.TheConstants.{NUMBERS}

-- No two records share a word. A record lies below FRONT, from LOW up, or in the old space. Below FRONT they follow
-- one another without a gap.
pub record Laid (E : Era) (front low : ℕ) (size : ℕ → ℕ) : Type 0 where
  pub apart : (a b : ℕ) → 0 < size a → 0 < size b → a < b → a + size a ≤ b
  pub lies : (a : ℕ) → 0 < size a
      → ((E.start ≤ a) × (a + size a ≤ front))
      ⊎ (((low ≤ a) × (a + size a ≤ E.start + E.span)) ⊎ ((E.old_start ≤ a) × (a + size a ≤ E.old_start + E.old_span)))
  pub order : (E.start ≤ front) × (front ≤ low) × (low ≤ E.start + E.span)
  pub aligned : low % PAGE_WORDS ≡ 0
  pub start : (E.start ≡ front) ⊎ (0 < size E.start)
  pub next : (a : ℕ) → E.start ≤ a → a < front → 0 < size a → (a + size a ≡ front) ⊎ (0 < size (a + size a))

-- A record's first word: its own header; or the word of the worker that keeps its header; or, once it is copied, a
-- forward to the copy.
pub record Headed (size writer copy keeper : ℕ → ℕ) (kind : ℕ → Kind) (identity : ℕ → Identity) (heap : ℕ → ℕ) : Type 0 where
  pub own : (a : ℕ) → 0 < size a → writer a ≡ 0 → copy a ≡ 0 → keeper a ≡ 0
      → decode (heap a) ≡ HeaderWord (header_kind (kind a)) (size a - 1) (identity a).serial (identity a).mutator
  pub kept : (a k : ℕ) → 0 < size a → keeper a ≡ k + 1 → decode (heap a) ≡ BusyWord (size a - 1) k
  pub gone : (a b : ℕ) → 0 < size a → copy a ≡ b + 1 → keeper a ≡ 0 → decode (heap a) ≡ ForwardWord (size a - 1) b

-- a place that a walk from LOW up comes to: the first word of a page, or the end of a record
abbrev pub WalkComesTo : (size : ℕ → ℕ) → ℕ → Type 0
WalkComesTo size x = (x % PAGE_WORDS ≡ 0) ⊎ ((a : ℕ) × (0 < size a) × (a + size a ≡ x))

-- Records from LOW up: their pages are open; one that begins within a page begins where another ends; and on an open page a
-- word that a walk comes to and that belongs to no record is 0.
pub record NewArea (low end epoch : ℕ) (size heap : ℕ → ℕ) (page : ℕ → PageWord) : Type 0 where
  pub opened : (a x : ℕ) → 0 < size a → low ≤ a → a < end → a ≤ x → x < a + size a → page (page_of x) ≡ Open epoch
  pub prior : (b : ℕ) → 0 < size b → low ≤ b → b < end → b % PAGE_WORDS ≢ 0 → (a : ℕ) × (0 < size a) × (a + size a ≡ b)
  pub blank : (x : ℕ) → low ≤ x → x < end → WalkComesTo size x → page (page_of x) ≡ Open epoch → ((a : ℕ) → 0 < size a → (x < a) ⊎ (a + size a ≤ x)) → heap x ≡ 0

-- nobody writes a record from LOW up
pub record NewWritten (E : Era) (low : ℕ) (size writer : ℕ → ℕ) : Type 0 where
  pub written : (a : ℕ) → 0 < size a → low ≤ a → a < E.start + E.span → writer a ≡ 0

-- a space of this epoch with its records, from its first word to its end, that a walk can pass
pub record SpaceOf (start front low end epoch : ℕ) (size heap : ℕ → ℕ) (page : ℕ → PageWord) : Type 0 where
  pub lies : (a : ℕ) → 0 < size a → start ≤ a → a < end → (a + size a ≤ front) ⊎ ((low ≤ a) × (a + size a ≤ end))
  pub order : (start ≤ front) × (front ≤ low) × (low ≤ end)
  pub aligned : low % PAGE_WORDS ≡ 0
  pub first : (start ≡ front) ⊎ (0 < size start)
  pub next : (a : ℕ) → start ≤ a → a < front → 0 < size a → (a + size a ≡ front) ⊎ (0 < size (a + size a))
  pub new : NewArea low end epoch size heap page

-- a word of a record that is no field is a number below 2^62
pub record RawWords (size writer : ℕ → ℕ) (kind : ℕ → Kind) (heap : ℕ → ℕ) : Type 0 where
  pub raw : (a i : ℕ) → 0 < size a → writer a ≡ 0 → 0 < i → i < size a → is_field (kind a) i ≡ false → heap (a + i) < NUMBERS

-- word 1 of a mixed record has the count of its fields, which it has room for
pub record Counts (size writer : ℕ → ℕ) (kind : ℕ → Kind) (heap : ℕ → ℕ) : Type 0 where
  pub counts : (a count : ℕ) → 0 < size a → writer a ≡ 0 → kind a ≡ Mixed count → (heap (a + 1) ≡ number_word count) × (count + 2 ≤ size a)
