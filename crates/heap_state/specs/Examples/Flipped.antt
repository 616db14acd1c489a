-- A second small configuration worked out by hand, right after a flip, and the plain state that it represents.
--
-- Four pages a space, epoch 1: nothing is copied yet to the words 256 to 511. Mutator 0 is stopped and has forwarded none of
-- its registers. It has made one record at 192, of the raw words 7 and 9, which still has its header there.
use Rattle.std.specs.Prelude.{false, List, [], ◌∷◌, None, if◌then◌else◌, ◌==◌}
use Rattle.heap_words.specs.Word.{pointer_word, header_word}
use Rattle.heap_words.specs.declared.kind.Kind.TheVariants as heap_kind
use Rattle.plain_state.specs.declared.kind.Kind.TheVariants as plain_kind
use Rattle.plain_state.specs.declared.value.Value.TheVariants.{Number, Reference}
use Rattle.plain_state.specs.State as plain
use Rattle.space_map.specs.declared.page_word.PageWord.TheVariants.{Open}
use Rattle.heap_state.specs.Configuration.{Configuration}
use Rattle.heap_state.specs.Memory.Entries.{Entry, GateIs, TracedIs, AreaIs, WeakTurnIs, SizeIs, PageIs, WordIs, written}
use Rattle.heap_state.specs.Examples.Worked.{made, zeros_after}
use Rattle.heap_state.specs.Known.{Known, fresh, Stopped}

-- one mutator is behind; the words in use at the flip, those of page 3, are owed
abbrev pub flipped_entries : List Entry
flipped_entries =
    WordIs 192 (header_word heap_kind.Raw 2 1 0)
    ∷ WordIs 193 7
    ∷ WordIs 194 9
    ∷ GateIs (record { epoch = 1; live = 1; running = 0; behind = 1; request = false; left = 0 })
    ∷ TracedIs 1
    ∷ AreaIs 0 (record { front = 0; low = 192; owed = 0 })
    ∷ AreaIs 1 (record { front = 0; low = 256; owed = 64 })
    ∷ WeakTurnIs 1
    ∷ SizeIs 0 4
    ∷ SizeIs 1 4
    ∷ PageIs 3 (Open 0)
    ∷ PageIs 8 (Open 0)
    ∷ []

-- it is of the epoch before, and its first register leads to the record
abbrev pub late_mutator : Known
late_mutator = record (fresh Stopped) {
  account = record { counter = 12; printed = 7 ∷ []; executed = 20; serial = 1; end = None };
  registers = λ r. if r == 0 then pointer_word 192 else 0;
}

abbrev pub flipped : Configuration
flipped = record { pages = 4; words = written 4 flipped_entries; mutators = 1; workers = late_mutator ∷ [] }

abbrev pub flipped_plain : plain.Plain
flipped_plain = record {
  heap = record {
    records = (record { kind = plain_kind.Raw; values = Number 7 ∷ Number 9 ∷ [] } ∷ []) ∷ [];
    board = zeros_after (zeros_after (Number 0 ∷ Number 0 ∷ []));
    snaps = 0;
    snapped = plain.none_snapped;
  };
  mutators = record { counter = 12; registers = Reference (made 1) ∷ zeros_after []; printed = 7 ∷ []; executed = 20; end = None } ∷ [];
}
