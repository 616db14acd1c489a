-- What an allocation keeps of itself: its places are in the table, its run and the pages that it claimed are in the spaces, no more
-- pages are in use than a space has, the areas that it writes fit their words, and pages are marked new only for a checkpoint.
use Rattle.std.specs.Prelude.{◌≡◌, ℕ, ◌+◌, ◌*◌, ◌^◌, ◌<◌, ◌≤◌, ⊤, false}
use Rattle.space_map.specs.AreaWord.{part_end}
use Rattle.space_map.specs.Spaces.{Layout, IsPageCount, page_of}
use Rattle.heap_words.specs.declared.kind.Kind.TheVariants.{Mixed, Weak}
use Rattle.record_layout.specs.declared.header.Header.{Header}
use Rattle.alloc_end.specs.declared.run.Run.{Run}
use Rattle.alloc_end.specs.declared.fitting.Fitting.{Fitting}
use Rattle.alloc_end.specs.declared.new_pages.NewPages.{NewPages}
use Rattle.alloc_end.specs.declared.place_stage.PlaceStage.{PlaceStage}
use Rattle.alloc_end.specs.declared.place_stage.PlaceStage.TheVariants.{LoadsTraced, LoadsSize, LoadsArea, ExchangesArea, StoresZero, StoresNew, OpensPage, StoresCount, StoresTarget, StoresLink, StoresHeader, Ended}
use Rattle.alloc_end.specs.Place.{Placing, size_of, pages_for, kept_room}

-- the run lies in the spaces
abbrev pub RunLiesInSpaces : (pages : ℕ) → Run → Type 0
RunLiesInSpaces n run = (run.at ≤ run.end) × (run.end ≤ 128 * n)

-- a mixed record holds its fields and their count
abbrev pub HoldsFields : Header → (fields : ℕ) → Type 0
HoldsFields header fields = header.kind ≡ Mixed → fields < header.len

-- a cell holds its target and its link
abbrev pub HoldsTargetAndLink : Header → Type 0
HoldsTargetAndLink header = header.kind ≡ Weak → 2 < size_of header

-- the area has room for so many words, and its parts are in their ranges
pub record AreaHoldsClaim (pages words : ℕ) (f : Fitting) : Type 0 where
  pub kept : words + kept_room f.traced f.area + f.area.front ≤ f.area.low
  pub in_space : f.area.low ≤ 64 * pages
  pub owed : f.area.owed < part_end

-- so many words from the first one lie in the spaces
abbrev pub IsClaimed : (pages words first : ℕ) → Type 0
IsClaimed n words first = first + words ≤ 128 * n

-- the first page and the next one are among so many that were claimed
abbrev pub IsAtPage : (pages asked : ℕ) → NewPages → Type 0
IsAtPage n asked new = IsClaimed n (64 * asked) new.first × (page_of new.first ≤ new.next) × (new.next < page_of new.first + asked)

-- checkpoints are begun only where the layout has room for them
abbrev pub HasRoomToMark : Layout → (snap : ℕ) → Type 0
HasRoomToMark layout snap = layout.checkpoints ≡ false → snap ≡ 0

-- where the record needs so many pages, and so many checkpoints were begun
abbrev pub FitsPlaceStage : (pages asked snap : ℕ) → Run → Header → PlaceStage → Type 0
FitsPlaceStage n asked snap run header LoadsTraced = ⊤
FitsPlaceStage n asked snap run header (LoadsSize traced) = ⊤
FitsPlaceStage n asked snap run header (LoadsArea traced size) = size ≤ n
FitsPlaceStage n asked snap run header (ExchangesArea f) = AreaHoldsClaim n (64 * asked) f
FitsPlaceStage n asked snap run header (StoresZero new) = IsClaimed n (64 * asked) new.first × (new.first ≤ new.next) × (new.next < new.first + 64 * asked)
FitsPlaceStage n asked snap run header (StoresNew new) = IsAtPage n asked new × (0 < snap)
FitsPlaceStage n asked snap run header (OpensPage new) = IsAtPage n asked new
FitsPlaceStage n asked snap run header StoresCount = (header.kind ≡ Mixed) × (1 < size_of header) × (run.at + size_of header ≤ run.end)
FitsPlaceStage n asked snap run header StoresTarget = (header.kind ≡ Weak) × (2 < size_of header) × (run.at + size_of header ≤ run.end)
FitsPlaceStage n asked snap run header StoresLink = (header.kind ≡ Weak) × (2 < size_of header) × (run.at + size_of header ≤ run.end)
FitsPlaceStage n asked snap run header StoresHeader = run.at + size_of header ≤ run.end
FitsPlaceStage n asked snap run header (Ended result) = ⊤

pub record IsSoundPlacing (p : Placing) : Type 0 where
  pub pages : IsPageCount p.layout.pages
  pub run : RunLiesInSpaces p.layout.pages p.run
  pub fields : HoldsFields p.header p.fields
  pub cell : HoldsTargetAndLink p.header
  pub epoch : p.epoch < 2 ^ 32
  pub snap : p.snap < 2 ^ 32
  pub room : HasRoomToMark p.layout p.snap
  pub stage : FitsPlaceStage p.layout.pages (pages_for (size_of p.header)) p.snap p.run p.header p.stage

-- the allocation has a next step
abbrev pub IsPlacingGoing : PlaceStage → Type 0
IsPlacingGoing (Ended result) = ⊥
IsPlacingGoing stage = ⊤
