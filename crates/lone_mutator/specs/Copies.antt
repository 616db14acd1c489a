-- What a lone worker that copies a record has read, and what the copy has still to pay.
use Rattle.std.specs.Prelude.{◌≡◌, ℕ, ⊤}
use Rattle.space_map.specs.Spaces.{to_space}
use Rattle.forwarding.specs.declared.evac_stage.EvacStage.{EvacStage}
use Rattle.forwarding.specs.declared.evac_stage.EvacStage.TheVariants.{LoadsHeader, TakesHeader, LoadsArea, Announces, Reserves, StoresLink, TakesWeak}
use Rattle.forwarding.specs.Evacuation.{Evacuation}
use Rattle.forwarding.specs.Left as evac
use Rattle.heap_state.specs.Memory.Table.{Table}

-- the header, the area and WEAK are as they were read
abbrev pub CopyStands : Table → Evacuation → EvacStage → Type 0
CopyStands t v (TakesHeader kept) = t.heap v.addr ≡ kept.word
CopyStands t v (Announces kept area) = t.area (to_space v.epoch) ≡ area
CopyStands t v (Reserves kept area) = t.area (to_space v.epoch) ≡ area
CopyStands t v (StoresLink to head) = t.weak ≡ head
CopyStands t v (TakesWeak to head) = t.weak ≡ head
CopyStands t v stage = ⊤

-- From the exchange of the area on, the words that are no longer owed pay for the copy; before it, the word that led to it does.
abbrev pub copy_left : EvacStage → ℕ
copy_left LoadsHeader = 5
copy_left (TakesHeader kept) = 4
copy_left (LoadsArea kept) = 3
copy_left (Announces kept area) = 2
copy_left (Reserves kept area) = 1
copy_left stage = evac.left_at stage
