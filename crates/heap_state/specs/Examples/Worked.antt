-- A small configuration worked out by hand, the plain state that it represents, and three that break a rule.
--
-- Four pages a space, epoch 1, not traced: records are copied from the words 0 to 255 to the words 256 to 511. Mutator 0 has
-- made two records, both on page 3: the first at 192, with the fields 7 and a reference to the second, and the second at
-- 195, with a reference to the first. Scanner 1 has copied the first to 256. It scans its page in place, has come to the
-- field that leads to the second record, has reserved 259 for its copy, and has copied the header.
use Rattle.std.specs.Prelude.{ℕ, true, false, List, [], ◌∷◌, Some, None, if◌then◌else◌, ◌==◌}
use Rattle.heap_words.specs.Word.{number_word, pointer_word, header_word, forward_word, busy_word}
use Rattle.heap_words.specs.declared.kind.Kind.TheVariants as heap_kind
use Rattle.plain_state.specs.declared.kind.Kind.TheVariants as plain_kind
use Rattle.plain_state.specs.declared.value.Identity.{Identity}
use Rattle.plain_state.specs.declared.value.Value.{Value}
use Rattle.plain_state.specs.declared.value.Value.TheVariants.{Number, Reference}
use Rattle.plain_state.specs.State as plain
use Rattle.space_map.specs.declared.page_word.PageWord.TheVariants.{Open, Scanning}
use Rattle.heap_state.specs.Configuration.{Configuration}
use Rattle.heap_state.specs.Memory.Entries.{Entry, GateIs, TracedIs, AreaIs, WeakTurnIs, SizeIs, PageIs, CrossIs, WordIs, AnnounceIs, written}
use Rattle.heap_state.specs.Known.{Known, fresh, Running, Scanner, Scanned}

-- ---- the table

-- the gate, TRACED, areas, sizes, pages and crossings: mutator 0 runs and has claimed the pages 5 to 7; what is free is as much as is
-- owed, to the word
abbrev pub worked_shared : List Entry
worked_shared =
    GateIs (record { epoch = 1; live = 1; running = 1; behind = 0; request = false; left = 0 })
    ∷ TracedIs 1
    ∷ AreaIs 0 (record { front = 0; low = 192; owed = 0 })
    ∷ AreaIs 1 (record { front = 5; low = 64; owed = 59 })
    ∷ WeakTurnIs 1
    ∷ SizeIs 0 4
    ∷ SizeIs 1 4
    ∷ PageIs 3 (Open 0)
    ∷ PageIs 4 (Scanning 1 1)
    ∷ PageIs 5 (Open 1)
    ∷ PageIs 6 (Open 1)
    ∷ PageIs 7 (Open 1)
    ∷ PageIs 8 (Open 1)
    ∷ CrossIs 4 256
    ∷ AnnounceIs 1 260
    ∷ []

-- the words of both records, of the copy, and of the reserved place; and a board word that leads to the copy
abbrev pub worked_entries : List Entry
worked_entries =
    WordIs 192 (forward_word 2 256)
    ∷ WordIs 193 (number_word 7)
    ∷ WordIs 194 (pointer_word 195)
    ∷ WordIs 195 (busy_word 1 1)
    ∷ WordIs 196 (pointer_word 192)
    ∷ WordIs 256 (header_word heap_kind.Fields 2 1 0)
    ∷ WordIs 257 (number_word 7)
    ∷ WordIs 258 (pointer_word 195)
    ∷ WordIs 259 (header_word heap_kind.Fields 1 2 0)
    ∷ WordIs 515 (pointer_word 256)
    ∷ worked_shared

-- ---- the workers

-- mutator 0 holds the first record, and a run of three pages that it hasn't begun
abbrev pub worked_mutator : Known
worked_mutator = record (fresh Running) {
  epoch = 1;
  account = record { counter = 12; printed = 7 ∷ []; executed = 20; serial = 2; end = None };
  registers = λ r. if r == 0 then pointer_word 256 else 0;
  stock = Some (record { epoch = 1; at = 320; end = 512; zeroed = 512; opened = 512; ahead = [] });
}

-- scanner 1 copies the second record, for the field at 258
abbrev pub worked_scanner : Known
worked_scanner = record (fresh Scanner) {
  epoch = 1;
  quest = Some (record { old = 195; origin = Scanned 258; found = None });
  copy = Some (record { header = header_word heap_kind.Fields 1 2 0; from = 195; to = 259; size = 2; done = 1; word = None; aimed = true; announced = true; reserved = true; crossed = 0 });
  scan = Some (record { page = 4; cursor = 258; in_place = true; over = None; headed = None; current = Some (record { at = 256; fields_end = 259; next = 259 }); inner = false; ended = false });
}

-- ---- the configurations

-- a configuration of these entries and workers
abbrev pub configured : List Entry → Configuration
configured entries = record { pages = 4; words = written 4 entries; mutators = 1; workers = worked_mutator ∷ worked_scanner ∷ [] }

abbrev pub worked : Configuration
worked = configured worked_entries

-- the first record is forwarded to the word after its copy's header
abbrev pub forwarded_wrong : Configuration
forwarded_wrong = configured (WordIs 192 (forward_word 2 257) ∷ worked_entries)

-- the page of the copy is open, though its last field leads to an old record
abbrev pub opened_early : Configuration
opened_early = configured (PageIs 4 (Open 1) ∷ worked_entries)

-- one word more is owed than there is room for
abbrev pub short_of_room : Configuration
short_of_room = configured (AreaIs 1 (record { front = 5; low = 64; owed = 60 }) ∷ worked_entries)

-- ---- the plain state

abbrev pub made : ℕ → Identity
made serial = record { mutator = 0; serial = serial }

-- seven numbers 0, and then these
abbrev pub zeros_after : List Value → List Value
zeros_after rest = Number 0 ∷ Number 0 ∷ Number 0 ∷ Number 0 ∷ Number 0 ∷ Number 0 ∷ Number 0 ∷ rest

abbrev pub worked_plain : plain.Plain
worked_plain = record {
  heap = record {
    records = (record { kind = plain_kind.Fields; values = Number 7 ∷ Reference (made 2) ∷ [] }
        ∷ record { kind = plain_kind.Fields; values = Reference (made 1) ∷ [] } ∷ []) ∷ [];
    board = Number 0 ∷ Number 0 ∷ Number 0 ∷ Reference (made 1) ∷ Number 0 ∷ Number 0 ∷ Number 0 ∷ Number 0 ∷ Number 0 ∷ zeros_after [];
    snaps = 0;
    snapped = plain.none_snapped;
  };
  mutators = record { counter = 12; registers = Reference (made 1) ∷ zeros_after []; printed = 7 ∷ []; executed = 20; end = None } ∷ [];
}
