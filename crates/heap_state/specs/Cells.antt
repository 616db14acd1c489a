-- The chain of copied cells: cells that were copied in an epoch are linked from WEAK, and one worker walks over them when all else of
-- the epoch is done.
use Rattle.std.specs.Prelude.{◌≡◌, ℕ, ◌+◌, ◌<◌, ◌≤◌, ◌⊎◌, true, false, if◌then◌else◌, Some, is_some}
use Rattle.plain_state.specs.declared.kind.Kind.TheVariants.{Weak}
use Rattle.heap_words.specs.Decoded.{NumberWord, PointerWord, decode}
use Rattle.heap_state.specs.Memory.Era.{Era, Memory}
use Rattle.heap_state.specs.Invariant.Ghost.{Ghost, Leads}
use Rattle.heap_state.specs.Known.{Known, Team, Quest, Scan, LastLook, Linking, Visit, Pass, Begins, At, Done, cell_to_link, is_late, is_cleared}

-- ---- the chain

-- By place: the rank of a linked cell, counted from the chain's end from 1, and 0 for all other places. And how many are linked.
pub record Ranks : Type 0 where
  pub rank : ℕ → ℕ
  pub length : ℕ

-- nothing is linked
abbrev pub no_ranks : Ranks
no_ranks = record { rank = λ a. 0; length = 0 }

-- a cell stands there that was copied in this epoch, and nobody writes it
pub record IsCopiedCell (E : Era) (front : ℕ) (g : Ghost) (a : ℕ) : Type 0 where
  pub stands : 0 < g.size a
  pub written : g.writer a ≡ 0
  pub weak : g.kind a ≡ Weak
  pub inside : (E.start ≤ a) × (a < front)

-- the word leads to the cell of this rank, or it is 0 and so is the rank
abbrev pub LeadsToRank : Ranks → (word n : ℕ) → Type 0
LeadsToRank r word n = ((word ≡ 0) × (n ≡ 0)) ⊎ ((a : ℕ) × (word ≡ a + 1) × (0 < r.rank a) × (r.rank a ≡ n))

-- WEAK and the links lead once through all linked cells
pub record Linked (E : Era) (m : Memory) (weak : ℕ) (g : Ghost) (r : Ranks) : Type 0 where
  pub ranked : (a : ℕ) → 0 < r.rank a → IsCopiedCell E m.front g a × (r.rank a ≤ r.length)
  pub alone : (a b : ℕ) → 0 < r.rank a → r.rank a ≡ r.rank b → a ≡ b
  pub head : LeadsToRank r weak r.length
  pub link : (a n : ℕ) → r.rank a ≡ n + 1 → LeadsToRank r (m.heap (a + 2)) n

-- ---- who links

-- the worker copies, or may: it scans a page or is late
abbrev pub MayCopy : Era → Known → Type 0
MayCopy E w = ((s : Scan) × (w.scan ≡ Some s)) ⊎ (is_late E.epoch w ≡ true)

-- the worker asks for a copy, and has found it
abbrev pub KnowsCopy : Known → Type 0
KnowsCopy w = (q : Quest) × (w.quest ≡ Some q) × (is_some q.found ≡ true)

-- a copied cell waits for its copier, who has asked for it, and knows which word the cell's link has
pub record Links (E : Era) (m : Memory) (g : Ghost) (r : Ranks) (w : Known) (l : Linking) : Type 0 where
  pub copying : m.traced ≤ E.epoch
  pub cell : IsCopiedCell E m.front g l.cell
  pub unlinked : r.rank l.cell ≡ 0
  pub licensed : MayCopy E w
  pub asked : KnowsCopy w
  pub stored : (v : ℕ) → l.read ≡ Some v → l.stored ≡ true → m.heap (l.cell + 2) ≡ v

-- some worker has the cell to link
pub record HasCopier (team : Team) (a : ℕ) : Type 0 where
  pub worker : ℕ
  pub member : worker < team.count
  pub links : cell_to_link (team.worker worker).linking ≡ Some a

-- ---- who walks

-- cells of this rank or a greater one are passed
abbrev pub passed_from : Ranks → Pass → ℕ
passed_from r Begins = r.length + 1
passed_from r (At v) = if v.past then r.rank v.cell else r.rank v.cell + 1
passed_from r Done = 1

-- the word that replaces a target: a pointer to the copy of the record at b, or the number 0 if it has none
abbrev pub ReplacesTarget : Ghost → (b word : ℕ) → Type 0
ReplacesTarget g b word = ((d : ℕ) × (g.copy b ≡ d + 1) × (decode word ≡ PointerWord d)) ⊎ ((g.copy b ≡ 0) × (decode word ≡ NumberWord 0))

-- the cell's target leads to this record of the old space
abbrev pub TargetsOld : Era → Memory → Ghost → (cell b : ℕ) → Type 0
TargetsOld E m g cell b = (decode (m.heap (cell + 1)) ≡ PointerWord b) × (0 < g.size b) × (E.old_start ≤ b) × (b < E.old_start + E.old_span)

-- What the walker knows of the cell that it has come to: it is linked, and no more cells come than may; which record of the old space
-- its target leads to, or what is to replace the target that leads to one, until it is replaced.
pub record Visits (E : Era) (m : Memory) (g : Ghost) (r : Ranks) (v : Visit) : Type 0 where
  pub linked : 0 < r.rank v.cell
  pub few : r.rank v.cell ≤ v.more
  pub old : (b : ℕ) → v.past ≡ false → v.old ≡ Some b → TargetsOld E m g v.cell b
  pub word : (x : ℕ) → v.past ≡ false → v.word ≡ Some x → (b : ℕ) × TargetsOld E m g v.cell b × ReplacesTarget g b x

-- The walker is of this epoch, which isn't traced, and has the turn. TRACED is as it was at its second look. No target that it has
-- passed leads into the old space.
pub record Passing (E : Era) (m : Memory) (turn : ℕ) (g : Ghost) (r : Ranks) (w : Known) (q : Pass) : Type 0 where
  pub now : (w.epoch ≡ E.epoch) × (m.traced ≤ E.epoch) × (turn ≡ E.epoch + 1)
  pub look : (l : LastLook) × (w.last_look ≡ Some l) × (l.traced ≡ m.traced)
  pub at : (v : Visit) → q ≡ At v → Visits E m g r v
  pub passed : (a : ℕ) → 0 < r.rank a → passed_from r q ≤ r.rank a → ¬ (Leads E (m.heap (a + 1)))

-- what a walk rests on is the same of both: the worker's epoch, and what it knows of its second look
abbrev pub SameGround : (w u : Known) → Type 0
SameGround w u = (w.epoch ≡ u.epoch) × (w.last_look ≡ u.last_look)

-- some worker walks
pub record HasWalker (team : Team) : Type 0 where
  pub worker : ℕ
  pub member : worker < team.count
  pub walks : is_some (team.worker worker).pass ≡ true

-- ---- the whole

-- What stands of the chain, with WEAK and WEAKTURN. WEAKTURN is the epoch or one more, and one more once the epoch is traced. While it
-- isn't, a copied cell is linked or has a copier who is to link it, no two the same one; and one worker walks if the turn is taken, no
-- two at once. A flipper that has stored WEAK finds it 0. A cell takes three words.
pub record Chain (E : Era) (m : Memory) (weak turn : ℕ) (team : Team) (g : Ghost) (r : Ranks) : Type 0 where
  pub top : (turn ≡ E.epoch) ⊎ (turn ≡ E.epoch + 1)
  pub turned : m.traced ≡ E.epoch + 1 → turn ≡ E.epoch + 1
  pub linked : m.traced ≤ E.epoch → Linked E m weak g r
  pub all : m.traced ≤ E.epoch → (a : ℕ) → IsCopiedCell E m.front g a → r.rank a ≡ 0 → HasCopier team a
  pub linking : (k : ℕ) (l : Linking) → k < team.count → (team.worker k).linking ≡ Some l → Links E m g r (team.worker k) l
  pub apart : (j k a : ℕ) → j < team.count → k < team.count → cell_to_link (team.worker j).linking ≡ Some a → cell_to_link (team.worker k).linking ≡ Some a → j ≡ k
  pub pass : (k : ℕ) (q : Pass) → k < team.count → (team.worker k).pass ≡ Some q → Passing E m turn g r (team.worker k) q
  pub one : (j k : ℕ) → j < team.count → k < team.count → is_some (team.worker j).pass ≡ true → is_some (team.worker k).pass ≡ true → j ≡ k
  pub walker : m.traced ≤ E.epoch → turn ≡ E.epoch + 1 → HasWalker team
  pub reset : (k : ℕ) → k < team.count → is_cleared (team.worker k).reset ≡ true → weak ≡ 0
  pub three : (a : ℕ) → 0 < g.size a → g.kind a ≡ Weak → g.size a ≡ 3
