-- What a reply or an answer makes of the scan of a page, and what the scan then tells.
use Rattle.std.specs.Prelude.{ℕ, ◌+◌, ◌*◌, ◌==◌, ◌&&◌, Bool, true, false, Option, Some, None, nat_lt, nat_le, max, if◌then◌else◌}
use Rattle.atom_store.specs.declared.reply.Reply.{Reply}
use Rattle.atom_store.specs.declared.reply.Reply.TheVariants.{Value, Done}
use Rattle.atom_store.specs.declared.turn.Turn.{Turn}
use Rattle.atom_store.specs.declared.turn.Turn.TheVariants.{More, Finished}
use Rattle.atom_store.specs.Machine.{Machine}
use Rattle.heap_words.specs.declared.kind.Kind.{Kind as HeaderKind}
use Rattle.heap_words.specs.declared.kind.Kind.TheVariants as header
use Rattle.plain_state.specs.declared.sizes.TheConstants.{BOARD_WORDS}
use Rattle.plain_state.specs.declared.kind.Kind.{Kind}
use Rattle.plain_state.specs.declared.kind.Kind.TheVariants.{Fields, Raw, Mixed, Weak}
use Rattle.heap_state.specs.Memory.FieldSpan.{first_field, fields_end}
use Rattle.heap_words.specs.Decoded.{Decoded, NumberWord, PointerWord, HeaderWord, ForwardWord, BusyWord, Malformed, decode}
use Rattle.space_map.specs.declared.area_word.AreaWord.{AreaWord}
use Rattle.space_map.specs.AreaWord.{decode_area}
use Rattle.space_map.specs.Spaces.{Layout, to_space, space_start, first_word, board_page}
use Rattle.page_scan.specs.declared.headed_record.HeadedRecord.{HeadedRecord}
use Rattle.page_scan.specs.declared.scan_stage.ScanStage.{ScanStage}
use Rattle.page_scan.specs.declared.scan_stage.ScanStage.TheVariants.{LoadsCross, LoadsFirst, LoadsCount, LoadsWord, Asks, StoresCopy, LoadsFront, LoadsNext, Ended}
use Rattle.page_scan.specs.declared.scanned.Scanned.{Scanned}
use Rattle.page_scan.specs.declared.scanned.Scanned.TheVariants as told_as
use Rattle.page_scan.specs.declared.scanned_record.ScannedRecord.{ScannedRecord}
use Rattle.page_scan.specs.declared.spot.Spot.{Spot}
use Rattle.page_scan.specs.declared.spot.Spot.TheVariants.{OnBoard, InRecord}
use Rattle.page_scan.specs.Scanning.{Scanning, wanted}

-- ---- what is scanned

-- the number of words used of the board's page
abbrev pub board_words : ℕ
board_words = BOARD_WORDS

-- the first word behind what is scanned of a page
abbrev pub scan_end : Layout → ℕ → ℕ
scan_end l page = if page == board_page l.pages then first_word page + board_words else first_word (page + 1)

-- the record of this kind and size at this address
abbrev pub record_at : ℕ → Kind → (size : ℕ) → ScannedRecord
record_at at kind size = record { at = at; fields_end = at + fields_end kind size; next = at + size }

-- the word says how many fields a mixed record of this size has
abbrev pub is_count : (size : ℕ) → Decoded → Bool
is_count size (NumberWord c) = nat_le (c + 2) size
is_count size _ = false

-- the word leads into the space from which records are copied in this epoch, to this address
abbrev pub is_old : Layout → (epoch address : ℕ) → Bool
is_old l epoch address =
    nat_le (space_start l.pages (to_space (epoch + 1))) address
    && nat_lt address (space_start l.pages (to_space (epoch + 1)) + 64 * l.pages)

-- ---- where it goes on

-- At a word of a record: a field on the page is loaded. Behind the record's fields the next record is, unless it begins
-- behind the page.
abbrev pub goes_on_at : (page : ℕ) (in_place : Bool) → ScannedRecord → ℕ → ScanStage
goes_on_at page in_place r x =
    if nat_lt x r.fields_end
    then (if nat_lt x (first_word (page + 1)) then LoadsWord (InRecord r x) else Ended (record { cursor = x; at_front = false }))
    else if nat_lt r.next (first_word (page + 1))
    then (if in_place then LoadsFront r else LoadsNext r)
    else Ended (record { cursor = r.next; at_front = false })

-- the word at a spot is passed
abbrev pub passes_word : (page : ℕ) (in_place : Bool) → Spot → ScanStage
passes_word page in_place (OnBoard x) =
    if nat_lt (x + 1) (first_word page + board_words)
    then LoadsWord (OnBoard (x + 1))
    else Ended (record { cursor = x + 1; at_front = false })
passes_word page in_place (InRecord r x) = goes_on_at page in_place r (x + 1)

-- a record is entered at its first field on the page
abbrev pub enters : (page : ℕ) (in_place : Bool) (at : ℕ) → Kind → (size : ℕ) → ScanStage
enters page in_place at kind size = goes_on_at page in_place (record_at at kind size) (max (at + first_field kind) (first_word page))

-- by the kind that a header says: where the fields of a mixed record end is known once its count is read
abbrev pub by_kind : (page : ℕ) (in_place : Bool) (at : ℕ) → HeaderKind → (size : ℕ) → ScanStage
by_kind page in_place at header.Fields size = enters page in_place at Fields size
by_kind page in_place at header.Raw size = enters page in_place at Raw size
by_kind page in_place at header.Mixed size = LoadsCount (record { at = at; size = size })
by_kind page in_place at header.Weak size = enters page in_place at Weak size

-- ---- what a word makes of it

-- by a word of the board, or a field: a pointer into the old space is asked about
abbrev pub by_word : Layout → (page epoch : ℕ) (in_place : Bool) → Spot → Decoded → ScanStage
by_word l page epoch in_place spot (PointerWord address) =
    if is_old l epoch address then Asks (record { spot = spot; old = address }) else passes_word page in_place spot
by_word l page epoch in_place spot (NumberWord n) = passes_word page in_place spot
by_word l page epoch in_place spot (HeaderWord kind len serial mutator) = passes_word page in_place spot
by_word l page epoch in_place spot (ForwardWord len address) = passes_word page in_place spot
by_word l page epoch in_place spot (BusyWord len worker) = passes_word page in_place spot
by_word l page epoch in_place spot Malformed = passes_word page in_place spot

-- by the first word at an address: a header; there is no other word
abbrev pub by_header : (page : ℕ) (in_place : Bool) → (at : ℕ) → ScanStage → Decoded → ScanStage
by_header page in_place at stage (HeaderWord kind len serial mutator) = by_kind page in_place at kind (len + 1)
by_header page in_place at stage (NumberWord n) = stage
by_header page in_place at stage (PointerWord address) = stage
by_header page in_place at stage (ForwardWord len address) = stage
by_header page in_place at stage (BusyWord len worker) = stage
by_header page in_place at stage Malformed = stage

-- by the word behind a mixed record's header: with its count the record is entered; there is no other word
abbrev pub by_count : (page : ℕ) (in_place : Bool) → HeadedRecord → Decoded → ScanStage
by_count page in_place h (NumberWord c) = if nat_le (c + 2) h.size then enters page in_place h.at (Mixed c) h.size else LoadsCount h
by_count page in_place h (PointerWord address) = LoadsCount h
by_count page in_place h (HeaderWord kind len serial mutator) = LoadsCount h
by_count page in_place h (ForwardWord len address) = LoadsCount h
by_count page in_place h (BusyWord len worker) = LoadsCount h
by_count page in_place h Malformed = LoadsCount h

-- by the area: a scan in place ends at FRONT
abbrev pub by_area : Layout → ℕ → ScannedRecord → Option AreaWord → ScanStage
by_area l epoch r (Some area) =
    if space_start l.pages (to_space epoch) + area.front == r.next
    then Ended (record { cursor = r.next; at_front = true })
    else LoadsNext r
by_area l epoch r None = LoadsFront r

-- ---- the machine

-- the stage after a reply; one that can't be there changes nothing
abbrev pub stage_after : Layout → (page epoch : ℕ) (in_place : Bool) → ScanStage → Reply → ScanStage
stage_after l p e in_place LoadsCross (Value w) = LoadsFirst w
stage_after l p e in_place (LoadsFirst at) (Value w) = by_header p in_place at (LoadsFirst at) (decode w)
stage_after l p e in_place (LoadsCount h) (Value w) = by_count p in_place h (decode w)
stage_after l p e in_place (LoadsWord spot) (Value w) = by_word l p e in_place spot (decode w)
stage_after l p e in_place (StoresCopy asked to) Done = passes_word p in_place asked.spot
stage_after l p e in_place (LoadsFront r) (Value w) = by_area l e r (decode_area w)
stage_after l p e in_place (LoadsNext r) (Value w) = by_header p in_place r.next (LoadsNext r) (decode w)
stage_after l p e in_place stage reply = stage

-- the scan after a reply
abbrev pub taken : Scanning → Reply → Scanning
taken v reply = record v { stage = stage_after v.layout v.page v.epoch v.in_place v.stage reply }

-- the stage after an answer
abbrev pub stage_answered : ScanStage → ℕ → ScanStage
stage_answered (Asks asked) to = StoresCopy asked to
stage_answered stage to = stage

-- the scan after an answer
abbrev pub answered : Scanning → ℕ → Scanning
answered v to = record v { stage = stage_answered v.stage to }

-- what a scan tells that has come to this stage
abbrev pub told : ScanStage → Turn Scanned
told (Asks asked) = Finished (told_as.Ask asked.old)
told (Ended ending) = Finished (told_as.Ended ending.at_front)
told _ = More

-- the scan of a page as a machine, which is answered in between
abbrev pub scan_machine : Machine Scanning Scanned
scan_machine = record { wanted = wanted; taken = taken; told = λ v. told v.stage }
