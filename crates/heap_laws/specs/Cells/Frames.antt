-- The chain of copied cells: what each kind of step keeps of it.
use Rattle.std.specs.Prelude.{◌≡◌, ◌≢◌, ℕ, ◌+◌, ◌<◌, ◌≤◌, ⊤, true, Option, Some, None, is_some}
use Rattle.plain_state.specs.declared.kind.Kind.TheVariants.{Weak}
use Rattle.space_map.specs.declared.area_word.AreaWord.{AreaWord}
use Rattle.space_map.specs.Spaces.{to_space}
use Rattle.heap_state.specs.Cells.{Ranks, IsCopiedCell, MayCopy, KnowsCopy, SameGround, HasWalker, Chain}
use Rattle.heap_state.specs.Memory.Entries.{Entry, GateIs, AreaIs, PageIs, CrossIs, WordIs, AnnounceIs, SnapIs, LastSavedIs, SaveIs, ImageIs}
use Rattle.heap_state.specs.Memory.Era.{Era, Memory, from_space}
use Rattle.heap_state.specs.Invariant.Ghost.{Ghost}
use Rattle.heap_state.specs.Known.{Known, Team, is_cleared}
use Rattle.heap_laws.specs.Steps.{Ready, WritesRow, with_worker}

-- ---- what the chain reads

-- The worker w has the cell to link and the walk of u. If it has a cell to link, it may still copy and has found the copy that it asks
-- for; and if it walks, its walk rests on the same.
pub record GoesOnInChain (E : Era) (w u : Known) : Type 0 where
  pub linking : w.linking ≡ u.linking
  pub pass : w.pass ≡ u.pass
  pub cleared : is_cleared w.reset ≡ true → is_cleared u.reset ≡ true
  pub licence : is_some u.linking ≡ true → KnowsCopy u → MayCopy E u → MayCopy E w × KnowsCopy w
  pub ground : is_some u.pass ≡ true → SameGround w u

-- the same records stand and are written, of the same kinds and with the same copies
pub record SameCells (g h : Ghost) : Type 0 where
  pub size : h.size ≡ g.size
  pub writer : h.writer ≡ g.writer
  pub kind : h.kind ≡ g.kind
  pub copy : h.copy ≡ g.copy

-- What the chain reads of the memory and of what stands stays: TRACED, which cells are copied ones, their targets and links, and
-- while one walks what has a copy. New cells take three words.
pub record CarriesChain (E : Era) (m later : Memory) (team : Team) (g h : Ghost) : Type 0 where
  pub traced : later.traced ≡ m.traced
  pub fewer : (a : ℕ) → IsCopiedCell E later.front h a → IsCopiedCell E m.front g a
  pub cells : (a : ℕ) → IsCopiedCell E m.front g a → IsCopiedCell E later.front h a
  pub targets : (a : ℕ) → IsCopiedCell E m.front g a → later.heap (a + 1) ≡ m.heap (a + 1)
  pub links : (a : ℕ) → IsCopiedCell E m.front g a → later.heap (a + 2) ≡ m.heap (a + 2)
  pub copies : HasWalker team → h.copy ≡ g.copy
  pub stands : (b : ℕ) → 0 < g.size b → 0 < h.size b
  pub three : (a : ℕ) → 0 < h.size a → h.kind a ≡ Weak → h.size a ≡ 3

abbrev pub ChainIsCarried : Type 0
ChainIsCarried = (E : Era) (m later : Memory) (weak turn : ℕ) (team : Team) (g h : Ghost) (r : Ranks) (k : ℕ) (w : Known) → CarriesChain E m later team g h
    → GoesOnInChain E w (team.worker k) → Chain E m weak turn team g r → Chain E later weak turn (with_worker team k w) h r

-- ---- rows and words that the chain doesn't read

-- the chain doesn't read the row
abbrev pub IsUnreadRow : Era → Option Entry → Type 0
IsUnreadRow E None = ⊤
IsUnreadRow E (Some (GateIs gate)) = ⊤
IsUnreadRow E (Some (AreaIs space area)) = space ≡ from_space E.epoch
IsUnreadRow E (Some (PageIs page word)) = ⊤
IsUnreadRow E (Some (CrossIs page place)) = ⊤
IsUnreadRow E (Some (AnnounceIs worker place)) = ⊤
IsUnreadRow E (Some (SnapIs number)) = ⊤
IsUnreadRow E (Some (LastSavedIs number)) = ⊤
IsUnreadRow E (Some (SaveIs page word)) = ⊤
IsUnreadRow E (Some (ImageIs addr word)) = ⊤
IsUnreadRow E _ = ⊥

abbrev pub UnreadRowsCarryChain : Type 0
UnreadRowsCarryChain = (E : Era) (m later : Memory) (weak turn : ℕ) (team : Team) (g h : Ghost) (r : Ranks) (k : ℕ) (e : Option Entry) (w : Known)
    → WritesRow E m e later → IsUnreadRow E e → SameCells g h → GoesOnInChain E w (team.worker k)
    → Chain E m weak turn team g r → Chain E later weak turn (with_worker team k w) h r

-- the address is that of no target and no link of a copied cell
abbrev pub IsNoCellWord : Era → Memory → Ghost → ℕ → Type 0
IsNoCellWord E m g x = (a : ℕ) → IsCopiedCell E m.front g a → (x ≢ a + 1) × (x ≢ a + 2)

abbrev pub UnreadWordsCarryChain : Type 0
UnreadWordsCarryChain = (E : Era) (m later : Memory) (weak turn : ℕ) (team : Team) (g h : Ghost) (r : Ranks) (k x v : ℕ) (w : Known)
    → WritesRow E m (Some (WordIs x v)) later → IsNoCellWord E m g x → SameCells g h → GoesOnInChain E w (team.worker k)
    → Chain E m weak turn team g r → Chain E later weak turn (with_worker team k w) h r

-- Such is a word of a record that is no copied cell, and the first word of any record; and a word behind FRONT that is no old one.
pub record WordsAreUnread (E : Era) (m : Memory) (team : Team) (g : Ghost) (weak turn : ℕ) (r : Ranks) : Type 0 where
  pub of_others : (b i : ℕ) → i < g.size b → ¬ (IsCopiedCell E m.front g b) → IsNoCellWord E m g (b + i)
  pub first : (b : ℕ) → 0 < g.size b → IsNoCellWord E m g b
  pub behind : (x : ℕ) → m.front ≤ x → IsNoCellWord E m g x

abbrev pub NoCellWords : Type 0
NoCellWords = (E : Era) (m : Memory) (team : Team) (g : Ghost) (k weak turn : ℕ) (r : Ranks) → Ready E m team g k → Chain E m weak turn team g r → WordsAreUnread E m team g weak turn r

-- the area is stored with the same FRONT
abbrev pub SameFrontCarriesChain : Type 0
SameFrontCarriesChain = (E : Era) (m later : Memory) (weak turn : ℕ) (team : Team) (g h : Ghost) (r : Ranks) (k : ℕ) (area : AreaWord) (w : Known)
    → WritesRow E m (Some (AreaIs (to_space E.epoch) area)) later → E.start + area.front ≡ m.front → SameCells g h → GoesOnInChain E w (team.worker k)
    → Chain E m weak turn team g r → Chain E later weak turn (with_worker team k w) h r
