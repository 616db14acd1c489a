-- How many steps the scan of a page has left.
use Rattle.std.specs.Prelude.{◌≡◌, ℕ, ◌+◌, ◌-◌, ◌*◌, Bool, true, false, None, is_some, nat_lt, if◌then◌else◌}
use Rattle.atom_store.specs.declared.reply.Reply.{Reply}
use Rattle.atom_store.specs.declared.reply.Reply.TheVariants.{Value, Done}
use Rattle.heap_words.specs.Decoded.{decode}
use Rattle.heap_words.specs.FirstWords.{is_header}
use Rattle.space_map.specs.AreaWord.{decode_area}
use Rattle.page_scan.specs.declared.scan_stage.ScanStage.{ScanStage}
use Rattle.page_scan.specs.declared.scan_stage.ScanStage.TheVariants.{LoadsCross, LoadsFirst, LoadsCount, LoadsWord, Asks, StoresCopy, LoadsFront, LoadsNext, Ended}
use Rattle.page_scan.specs.Scanning.{Scanning, address_of}
use Rattle.page_scan.specs.Taken.{is_count, scan_end}

-- at most so many steps are left of a scan whose words end here, those of the copies that are asked for apart
abbrev pub left_at : ℕ → ScanStage → ℕ
left_at end LoadsCross = 451
left_at end (LoadsFirst at) = 450
left_at end (LoadsCount h) = if nat_lt h.at (end - 64) then 449 else 7 * (end - h.at) - 2
left_at end (LoadsWord spot) = 7 * (end - address_of spot)
left_at end (Asks asked) = 7 * (end - address_of asked.spot - 1) + 1
left_at end (StoresCopy asked to) = 7 * (end - address_of asked.spot - 1) + 1
left_at end (LoadsFront r) = 7 * (end - r.next)
left_at end (LoadsNext r) = 7 * (end - r.next) - 1
left_at end (Ended ending) = 0

abbrev pub left : Scanning → ℕ
left v = left_at (scan_end v.layout v.page) v.stage

-- the reply takes the scan on, as each does that can be there
abbrev pub advances : ScanStage → Reply → Bool
advances LoadsCross (Value w) = true
advances (LoadsFirst at) (Value w) = is_header (decode w)
advances (LoadsCount h) (Value w) = is_count h.size (decode w)
advances (LoadsWord spot) (Value w) = true
advances (StoresCopy asked to) Done = true
advances (LoadsFront r) (Value w) = is_some (decode_area w)
advances (LoadsNext r) (Value w) = is_header (decode w)
advances _ _ = false

-- what alone holds the scan up: a word that can't be there
abbrev pub IsHeldUp : ScanStage → Reply → Type 0
IsHeldUp (LoadsFirst at) (Value w) = is_header (decode w) ≡ false
IsHeldUp (LoadsCount h) (Value w) = is_count h.size (decode w) ≡ false
IsHeldUp (LoadsFront r) (Value w) = decode_area w ≡ None
IsHeldUp (LoadsNext r) (Value w) = is_header (decode w) ≡ false
IsHeldUp _ _ = ⊥
