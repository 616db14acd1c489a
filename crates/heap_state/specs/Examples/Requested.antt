-- A third small configuration worked out by hand, in which a mutator has begun a checkpoint, and one that breaks a rule.
--
-- It is the second one's heap before its flip: four pages a space, epoch 0, which is traced. Mutator 0 has exchanged the number of
-- checkpoints for 1, and is about to clear the request, which is its own. It represents the same plain state, whose heap has begun
-- that checkpoint.
use Rattle.std.specs.Prelude.{true, List, [], ◌∷◌, Some, None, if◌then◌else◌, ◌==◌}
use Rattle.heap_words.specs.Word.{pointer_word, header_word}
use Rattle.heap_words.specs.declared.kind.Kind.TheVariants as heap_kind
use Rattle.plain_state.specs.State.{Plain}
use Rattle.plain_state.specs.Writing.{with_heap, took}
use Rattle.space_map.specs.declared.gate_word.GateWord.{GateWord}
use Rattle.space_map.specs.declared.page_word.PageWord.TheVariants.{Open}
use Rattle.heap_state.specs.Configuration.{Configuration}
use Rattle.heap_state.specs.Examples.Flipped.{flipped_plain}
use Rattle.heap_state.specs.Memory.Entries.{Entry, GateIs, TracedIs, AreaIs, WeakTurnIs, SizeIs, PageIs, WordIs, SnapIs}
use Rattle.heap_state.specs.Saving.Written.{written_whole}
use Rattle.heap_state.specs.Known.{Known, fresh, Running, Snapping, Clear}

-- nobody runs, and there is a request
abbrev pub requested_gate : GateWord
requested_gate = record { epoch = 0; live = 1; running = 0; behind = 0; request = true; left = 0 }

abbrev pub requested_entries : List Entry
requested_entries =
    WordIs 192 (header_word heap_kind.Raw 2 1 0)
    ∷ WordIs 193 7
    ∷ WordIs 194 9
    ∷ GateIs requested_gate
    ∷ TracedIs 1
    ∷ AreaIs 0 (record { front = 0; low = 192; owed = 0 })
    ∷ AreaIs 1 (record { front = 0; low = 256; owed = 0 })
    ∷ WeakTurnIs 1
    ∷ SizeIs 0 4
    ∷ SizeIs 1 4
    ∷ PageIs 3 (Open 0)
    ∷ PageIs 8 (Open 0)
    ∷ SnapIs 1
    ∷ []

-- it has read the gate, and its first register leads to the record
abbrev pub snapping_mutator : Known
snapping_mutator = record (fresh Snapping) {
  account = record { counter = 12; printed = 7 ∷ []; executed = 20; serial = 1; end = None };
  registers = λ r. if r == 0 then pointer_word 192 else 0;
  traced_seen = true;
  gate_step = Some (record { read = requested_gate; passage = Clear });
}

abbrev pub requested : Configuration
requested = record { pages = 4; words = written_whole 4 requested_entries; mutators = 1; workers = snapping_mutator ∷ [] }

abbrev pub requested_plain : Plain
requested_plain = with_heap flipped_plain (took flipped_plain.heap)

-- it runs though there is a request, which nobody else has made
abbrev pub running_on : Configuration
running_on = record {
  pages = 4;
  words = written_whole 4 (GateIs (record { epoch = 0; live = 1; running = 1; behind = 0; request = true; left = 0 }) ∷ requested_entries);
  mutators = 1;
  workers = record snapping_mutator { post = Running; gate_step = None } ∷ [];
}
