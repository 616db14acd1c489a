-- What the proofs know of the heap as it was when the last checkpoint was begun.
use Rattle.std.specs.Prelude.{◌≡◌, ℕ, ◌+◌, ◌*◌, ◌<◌, ◌≤◌, ◌⊎◌, Bool, true}
use Rattle.plain_state.specs.declared.kind.Kind.{Kind}
use Rattle.plain_state.specs.declared.value.Identity.{Identity}
use Rattle.space_map.specs.declared.page_word.PageWord.TheVariants.{Open}
use Rattle.space_map.specs.SaveWord.{number_of}
use Rattle.space_map.specs.Spaces.{board_page, to_space}
use Rattle.heap_state.specs.Memory.Table.{Table}
use Rattle.heap_state.specs.Saving.Words.{Saves, IsInProgress}

-- The heap as it was then. `held` are the pages of the checkpoint: the board, and each page of the epoch's space that was open.
-- Then come the words; and by place the size of the record that begins there, or 0, its kind and its identity. Nothing of it changes
-- before the next checkpoint is begun.
pub record Frozen : Type 0 where
  pub held : ℕ → Bool
  pub heap : ℕ → ℕ
  pub size : ℕ → ℕ
  pub kind : ℕ → Kind
  pub identity : ℕ → Identity

-- ---- which pages may be saved

-- the page is the board's, or one of the space of this epoch, in a heap with n pages a space
unfoldable pub IsPageOf : (n epoch page : ℕ) → Type 0
IsPageOf n epoch page = (page ≡ board_page n) ⊎ ((n * to_space epoch ≤ page) × (page < n * to_space epoch + n))

-- Whoever saves the page for checkpoint c does no harm: its SAVE is of c or a later one, so that the exchange is lost; or c is in
-- progress, and the page is one of it.
unfoldable pub IsSafe : Saves → Frozen → (page c : ℕ) → Type 0
IsSafe s z page c = (c ≤ number_of (s.save page)) ⊎ (IsInProgress s c × (z.held page ≡ true))

-- Each page of that epoch's space that is open in it may be saved for checkpoint c: c was in progress in that epoch once, or is
-- above each number for which pages were left unsaved there.
unfoldable pub MayBeSaved : Table → Saves → Frozen → (c epoch : ℕ) → Type 0
MayBeSaved t s z c epoch = (page : ℕ) → IsPageOf t.pages epoch page → t.page page ≡ Open epoch → IsSafe s z page c
