-- What the copy of a record knows of itself: its steps are in the table, and what it read is what it took it for.
use Rattle.std.specs.Prelude.{◌≡◌, ℕ, ◌+◌, ◌*◌, ◌^◌, ◌<◌, ◌≤◌, ⊤}
use Rattle.heap_words.specs.Decoded.{HeaderWord, decode}
use Rattle.space_map.specs.declared.area_word.AreaWord.{AreaWord}
use Rattle.space_map.specs.declared.spaces.TheConstants.{LAST_WORKER}
use Rattle.space_map.specs.AreaWord.{AreaFits}
use Rattle.space_map.specs.Spaces.{IsPageCount, first_word}
use Rattle.forwarding.specs.declared.kept_header.KeptHeader.{KeptHeader}
use Rattle.forwarding.specs.declared.reserved.Reserved.{Reserved}
use Rattle.forwarding.specs.declared.evac_stage.EvacStage.{EvacStage}
use Rattle.forwarding.specs.declared.evac_stage.EvacStage.TheVariants.{LoadsHeader, TakesHeader, LoadsArea, Announces, Reserves, StoresHeader, LoadsWord, StoresWord, StoresCross, StoresForward, LoadsWeak, StoresLink, TakesWeak, Clears, Ended}
use Rattle.forwarding.specs.Evacuation.{Evacuation, link_of, size_of}

-- the word kept is a header of this kind and length, of a record in one of the spaces
pub record IsKeptHeader (pages addr : ℕ) (kept : KeptHeader) : Type 0 where
  pub serial : ℕ
  pub mutator : ℕ
  pub says : decode kept.word ≡ HeaderWord kept.kind kept.len serial mutator
  pub short : kept.len ≤ 4095
  pub inside : addr + size_of kept ≤ 128 * pages

-- the area has room for a copy of this size, and that room is owed
pub record AreaHoldsCopy (pages size : ℕ) (area : AreaWord) : Type 0 where
  pub fits : AreaFits area
  pub owed : size ≤ area.owed
  pub below_low : area.front + size ≤ area.low
  pub in_space : area.low ≤ 64 * pages

-- the copy lies in one of the spaces
pub record HasReserved (pages addr : ℕ) (r : Reserved) : Type 0 where
  pub keeps : IsKeptHeader pages addr r.kept
  pub inside : r.to + size_of r.kept ≤ 128 * pages

abbrev pub FitsStage : (pages addr : ℕ) → EvacStage → Type 0
FitsStage n a LoadsHeader = ⊤
FitsStage n a (TakesHeader kept) = IsKeptHeader n a kept
FitsStage n a (LoadsArea kept) = IsKeptHeader n a kept
FitsStage n a (Announces kept area) = IsKeptHeader n a kept × AreaHoldsCopy n (size_of kept) area
FitsStage n a (Reserves kept area) = IsKeptHeader n a kept × AreaHoldsCopy n (size_of kept) area
FitsStage n a (StoresHeader r) = HasReserved n a r
FitsStage n a (LoadsWord r i) = HasReserved n a r × (0 < i) × (i < size_of r.kept)
FitsStage n a (StoresWord r w) = HasReserved n a r × (0 < w.number) × (w.number < size_of r.kept)
FitsStage n a (StoresCross r page) = HasReserved n a r × (r.to ≤ first_word page) × (first_word page < r.to + size_of r.kept)
FitsStage n a (StoresForward r) = HasReserved n a r
FitsStage n a (LoadsWeak to) = link_of to < 128 * n
FitsStage n a (StoresLink to head) = (link_of to < 128 * n) × (head < 2 ^ 62)
FitsStage n a (TakesWeak to head) = (link_of to < 128 * n) × (head < 2 ^ 62)
FitsStage n a (Clears to) = to < 2 ^ 32
FitsStage n a (Ended to) = to < 2 ^ 32

pub record IsSound (v : Evacuation) : Type 0 where
  pub pages : IsPageCount v.layout.pages
  pub worker : v.worker ≤ LAST_WORKER
  pub addr : v.addr < 128 * v.layout.pages
  pub fits : FitsStage v.layout.pages v.addr v.stage
