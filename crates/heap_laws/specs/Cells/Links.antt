-- The chain of copied cells grows: a copy of a cell is published, its link is stored, and WEAK is exchanged.
use Rattle.std.specs.Prelude.{◌≡◌, ℕ, ◌+◌, true, false, Some, None}
use Rattle.space_map.specs.declared.area_word.AreaWord.{AreaWord}
use Rattle.space_map.specs.Spaces.{to_space}
use Rattle.heap_state.specs.Cells.{Ranks, KnowsCopy, SameGround, Chain}
use Rattle.heap_state.specs.Functions.{put}
use Rattle.heap_state.specs.Memory.Entries.{WordIs, AreaIs, WeakIs}
use Rattle.heap_state.specs.Memory.Era.{Era, Memory}
use Rattle.heap_state.specs.Invariant.Ghost.{Ghost}
use Rattle.heap_state.specs.Known.{Known, Team, Linking, Copy}
use Rattle.heap_laws.specs.Cells.Frames.{GoesOnInChain}
use Rattle.heap_laws.specs.Copying.{LinksCopy, published, reserved, moved_by}
use Rattle.heap_laws.specs.Steps.{Ready, WritesRow, IsAreaNow, with_worker}

-- but for the cell to link, the chain reads of worker w what it reads of u
pub record SameBesideLinking (w u : Known) : Type 0 where
  pub post : w.post ≡ u.post
  pub ground : SameGround w u
  pub scan : w.scan ≡ u.scan
  pub asked : KnowsCopy u → KnowsCopy w
  pub reset : w.reset ≡ u.reset
  pub pass : w.pass ≡ u.pass

-- ---- the copy

-- a place is reserved for a copy: FRONT rises by a place that is written
abbrev pub ReservationsCarryChain : Type 0
ReservationsCarryChain = (E : Era) (m later : Memory) (weak turn : ℕ) (team : Team) (g : Ghost) (r : Ranks) (k : ℕ) (c : Copy) (area : AreaWord) (w : Known) → Ready E m team g k
    → (team.worker k).copy ≡ Some c → c.announced ≡ true → c.reserved ≡ false → c.to ≡ m.front → IsAreaNow E m area
    → WritesRow E m (Some (AreaIs (to_space E.epoch) (moved_by c.size area))) later → GoesOnInChain E w (team.worker k)
    → Chain E m weak turn team g r → Chain E later weak turn (with_worker team k w) (reserved g k c.from c.to c.size) r

-- the forward is stored, by a worker that had no cell to link
abbrev pub PublishingCarriesChain : Type 0
PublishingCarriesChain = (E : Era) (m later : Memory) (weak turn : ℕ) (team : Team) (g : Ghost) (r : Ranks) (k : ℕ) (c : Copy) (v : ℕ) (w : Known) → Ready E m team g k
    → (team.worker k).copy ≡ Some c → c.reserved ≡ true → (team.worker k).linking ≡ None → WritesRow E m (Some (WordIs c.from v)) later
    → LinksCopy c w.linking → KnowsCopy w → SameBesideLinking w (team.worker k)
    → Chain E m weak turn team g r → Chain E later weak turn (with_worker team k w) (published g k c.from c.to) r

-- ---- the link

-- WEAK is read, or is forgotten
abbrev pub ReadingWeakCarriesChain : Type 0
ReadingWeakCarriesChain = (E : Era) (m later : Memory) (weak turn : ℕ) (team : Team) (g : Ghost) (r : Ranks) (k : ℕ) (l n : Linking) (w : Known) → Ready E m team g k
    → (team.worker k).linking ≡ Some l → w.linking ≡ Some n → n.cell ≡ l.cell → n.stored ≡ false → WritesRow E m None later → SameBesideLinking w (team.worker k)
    → Chain E m weak turn team g r → Chain E later weak turn (with_worker team k w) g r

-- the word that was read is stored as the cell's link
abbrev pub StoringLinkCarriesChain : Type 0
StoringLinkCarriesChain = (E : Era) (m later : Memory) (weak turn : ℕ) (team : Team) (g : Ghost) (r : Ranks) (k : ℕ) (l : Linking) (v : ℕ) (w : Known) → Ready E m team g k
    → (team.worker k).linking ≡ Some l → w.linking ≡ Some (record { cell = l.cell; read = Some v; stored = true }) → WritesRow E m (Some (WordIs (l.cell + 2) v)) later
    → SameBesideLinking w (team.worker k)
    → Chain E m weak turn team g r → Chain E later weak turn (with_worker team k w) g r

-- one more cell is linked, as the first of the chain
abbrev pub one_more : Ranks → (a : ℕ) → Ranks
one_more r a = record { rank = put r.rank a (r.length + 1); length = r.length + 1 }

-- the exchange of WEAK is won
abbrev pub LinkingCarriesChain : Type 0
LinkingCarriesChain = (E : Era) (m later : Memory) (weak turn : ℕ) (team : Team) (g : Ghost) (r : Ranks) (k : ℕ) (l : Linking) (w : Known) → Ready E m team g k
    → (team.worker k).linking ≡ Some l → l.read ≡ Some weak → l.stored ≡ true → w.linking ≡ None → WritesRow E m (Some (WeakIs (l.cell + 1))) later
    → SameBesideLinking w (team.worker k)
    → Chain E m weak turn team g r → Chain E later (l.cell + 1) turn (with_worker team k w) g (one_more r l.cell)
