-- What a worker keeps while it copies a record.
use Rattle.std.specs.Prelude.{ℕ, ◌+◌, Option, Some, None}
use Rattle.forwarding.specs.declared.evac_stage.EvacStage.{EvacStage}
use Rattle.forwarding.specs.declared.evac_stage.EvacStage.TheVariants.{LoadsArea, Announces, Reserves, StoresHeader, LoadsWord, StoresWord, StoresCross, StoresForward}
use Rattle.forwarding.specs.declared.kept_header.KeptHeader.{KeptHeader}

-- the header that it keeps, from the won exchange of the old header to the store of the forward
abbrev pub header_kept : EvacStage → Option KeptHeader
header_kept (LoadsArea kept) = Some kept
header_kept (Announces kept area) = Some kept
header_kept (Reserves kept area) = Some kept
header_kept (StoresHeader r) = Some r.kept
header_kept (LoadsWord r i) = Some r.kept
header_kept (StoresWord r w) = Some r.kept
header_kept (StoresCross r page) = Some r.kept
header_kept (StoresForward r) = Some r.kept
header_kept _ = None

-- the address that it has reserved, from the won exchange of the area to the store of the forward
abbrev pub address_reserved : EvacStage → Option ℕ
address_reserved (StoresHeader r) = Some r.to
address_reserved (LoadsWord r i) = Some r.to
address_reserved (StoresWord r w) = Some r.to
address_reserved (StoresCross r page) = Some r.to
address_reserved (StoresForward r) = Some r.to
address_reserved _ = None

-- the kept header as a word, 0 for none
abbrev pub kept_word : Option KeptHeader → ℕ
kept_word (Some kept) = kept.word
kept_word None = 0

-- the reserved address and one more, 0 for none
abbrev pub reserved_word : Option ℕ → ℕ
reserved_word (Some to) = to + 1
reserved_word None = 0
