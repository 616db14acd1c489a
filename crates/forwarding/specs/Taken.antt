-- What a reply makes of the copy of a record, and what the machine then tells.
use Rattle.std.specs.Prelude.{ℕ, ◌+◌, ◌==◌, Option, Some, None, nat_lt, if◌then◌else◌}
use Rattle.atom_store.specs.declared.reply.Reply.{Reply}
use Rattle.atom_store.specs.declared.reply.Reply.TheVariants.{Value, Done, Won, Lost}
use Rattle.atom_store.specs.declared.turn.Turn.{Turn}
use Rattle.atom_store.specs.declared.turn.Turn.TheVariants.{More, Finished}
use Rattle.atom_store.specs.Machine.{Machine}
use Rattle.heap_words.specs.Decoded.{Decoded, NumberWord, PointerWord, HeaderWord, ForwardWord, BusyWord, Malformed, decode}
use Rattle.space_map.specs.declared.area_word.AreaWord.{AreaWord}
use Rattle.space_map.specs.AreaWord.{decode_area}
use Rattle.space_map.specs.Spaces.{Layout, first_page_from, first_word}
use Rattle.forwarding.specs.declared.kept_header.KeptHeader.{KeptHeader}
use Rattle.forwarding.specs.declared.reserved.Reserved.{Reserved}
use Rattle.forwarding.specs.declared.evac_stage.EvacStage.{EvacStage}
use Rattle.forwarding.specs.declared.evac_stage.EvacStage.TheVariants.{LoadsHeader, TakesHeader, LoadsArea, Announces, Reserves, StoresHeader, LoadsWord, StoresWord, StoresCross, StoresForward, LoadsWeak, StoresLink, TakesWeak, Clears, Ended}
use Rattle.forwarding.specs.declared.to.To.{To}
use Rattle.forwarding.specs.Evacuation.{Evacuation, size_of, front_of, is_cell, wanted}

-- By the old record's first word: a forward leads to the copy; a header is to be taken; and where another worker has taken
-- it, the word is loaded again.
abbrev pub by_first_word : ℕ → Decoded → EvacStage
by_first_word w (ForwardWord len to) = Ended to
by_first_word w (HeaderWord kind len serial mutator) = TakesHeader (record { word = w; kind = kind; len = len })
by_first_word w (BusyWord len worker) = LoadsHeader
by_first_word w (NumberWord n) = LoadsHeader
by_first_word w (PointerWord address) = LoadsHeader
by_first_word w Malformed = LoadsHeader

-- by the area that was loaded
abbrev pub by_area : KeptHeader → Option AreaWord → EvacStage
by_area kept (Some area) = Announces kept area
by_area kept None = LoadsArea kept

-- by the area that the exchange was lost to: one with another FRONT is announced first
abbrev pub by_other_area : KeptHeader → AreaWord → Option AreaWord → EvacStage
by_other_area kept area (Some other) = if other.front == area.front then Reserves kept other else Announces kept other
by_other_area kept area None = Reserves kept area

-- the copy's room begins at FRONT of the area that was exchanged
abbrev pub reserved_at : Layout → ℕ → KeptHeader → AreaWord → Reserved
reserved_at l epoch kept area = record { kept = kept; to = front_of l epoch area }

-- the first page that begins at the copy's header or behind it
abbrev pub first_page : Reserved → ℕ
first_page r = first_page_from r.to

-- all pages below this one are crossed: it is next if it begins in the copy, else the forward
abbrev pub crossed : Reserved → ℕ → EvacStage
crossed r page = if nat_lt (first_word page) (r.to + size_of r.kept) then StoresCross r page else StoresForward r

-- so many words are copied: the next one, or the pages that begin in the copy
abbrev pub copied : Reserved → ℕ → EvacStage
copied r count = if nat_lt count (size_of r.kept) then LoadsWord r count else crossed r (first_page r)

-- the copy is published: a cell is linked next
abbrev pub published : Reserved → EvacStage
published r = if is_cell r.kept then LoadsWeak r.to else Clears r.to

-- the stage after a reply; one that can't be there changes nothing
abbrev pub stage_after : Layout → (epoch : ℕ) → EvacStage → Reply → EvacStage
stage_after l e LoadsHeader (Value w) = by_first_word w (decode w)
stage_after l e (TakesHeader kept) Won = LoadsArea kept
stage_after l e (TakesHeader kept) (Lost w) = LoadsHeader
stage_after l e (LoadsArea kept) (Value w) = by_area kept (decode_area w)
stage_after l e (Announces kept area) Done = Reserves kept area
stage_after l e (Reserves kept area) Won = StoresHeader (reserved_at l e kept area)
stage_after l e (Reserves kept area) (Lost w) = by_other_area kept area (decode_area w)
stage_after l e (StoresHeader r) Done = copied r 1
stage_after l e (LoadsWord r i) (Value w) = StoresWord r (record { number = i; word = w })
stage_after l e (StoresWord r w) Done = copied r (w.number + 1)
stage_after l e (StoresCross r page) Done = crossed r (page + 1)
stage_after l e (StoresForward r) Done = published r
stage_after l e (LoadsWeak to) (Value w) = StoresLink to w
stage_after l e (StoresLink to head) Done = TakesWeak to head
stage_after l e (TakesWeak to head) Won = Clears to
stage_after l e (TakesWeak to head) (Lost w) = LoadsWeak to
stage_after l e (Clears to) Done = Ended to
stage_after l e stage reply = stage

-- the machine after a reply
abbrev pub taken : Evacuation → Reply → Evacuation
taken v reply = record v { stage = stage_after v.layout v.epoch v.stage reply }

-- what a machine tells that has come to this stage
abbrev pub told : EvacStage → Turn To
told (Ended to) = Finished (record { 0 = to })
told _ = More

-- the copy of a record as a machine
abbrev pub evac_machine : Machine Evacuation To
evac_machine = record { wanted = wanted; taken = taken; told = λ v. told v.stage }
