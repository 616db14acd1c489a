-- A fourth small configuration worked out by hand, in which a checkpoint is in progress, the heap as it was when that was begun,
-- and three that break a rule.
--
-- Four pages a space, epoch 0, which is traced. Mutator 0 had made a record on page 3, with the field 5, and put it on the board,
-- when checkpoint 1 was begun: its pages are 3 and 8, the board. Since then the mutator has saved page 3, has stored 6 in the
-- field, and has made a raw record of 63 words, for which it has opened page 2, marked as new. Scanner 1 saves the board: it has
-- copied two words of it, and loaded the third.
use Rattle.std.specs.Prelude.{ℕ, true, false, List, [], ◌∷◌, Some, None, if◌then◌else◌, ◌==◌, ◌||◌, slice_index_or}
use Rattle.heap_words.specs.Word.{number_word, pointer_word, header_word}
use Rattle.heap_words.specs.declared.kind.Kind.TheVariants as heap_kind
use Rattle.plain_state.specs.declared.kind.Kind.TheVariants as plain_kind
use Rattle.plain_state.specs.declared.value.Value.{Value}
use Rattle.plain_state.specs.declared.value.Value.TheVariants.{Number, Reference}
use Rattle.plain_state.specs.State.{Record}
use Rattle.space_map.specs.declared.page_word.PageWord.TheVariants.{Open}
use Rattle.space_map.specs.declared.save_word.SaveWord.TheVariants.{Unsaved, Saving, Saved, New}
use Rattle.heap_state.specs.Memory.Entries.{Entry, GateIs, TracedIs, AreaIs, WeakTurnIs, SizeIs, PageIs, WordIs, SnapIs, LastSavedIs, SaveIs, ImageIs}
use Rattle.heap_state.specs.Memory.Table.{table_of}
use Rattle.heap_state.specs.Saving.Words.{saves_of}
use Rattle.heap_state.specs.Saving.Frozen.{Frozen}
use Rattle.heap_state.specs.Saving.Savers.{Saver, no_saver}
use Rattle.heap_state.specs.Saving.Parts.{SavingStands}
use Rattle.heap_state.specs.Saving.Written.{written_whole}
use Rattle.heap_state.specs.Examples.Worked.{made, zeros_after}

-- ---- the table

-- the heap's words, the gate with its pages and areas, and what is said of checkpoints
abbrev pub saving_entries : List Entry
saving_entries =
    WordIs 128 (header_word heap_kind.Raw 63 2 0)
    ∷ WordIs 192 (header_word heap_kind.Fields 1 1 0)
    ∷ WordIs 193 (number_word 6)
    ∷ WordIs 512 (pointer_word 192)
    ∷ GateIs (record { epoch = 0; live = 1; running = 1; behind = 0; request = false; left = 0 })
    ∷ TracedIs 1
    ∷ AreaIs 0 (record { front = 0; low = 128; owed = 0 })
    ∷ AreaIs 1 (record { front = 0; low = 256; owed = 0 })
    ∷ WeakTurnIs 1
    ∷ SizeIs 0 4
    ∷ SizeIs 1 4
    ∷ PageIs 2 (Open 0)
    ∷ PageIs 3 (Open 0)
    ∷ PageIs 8 (Open 0)
    ∷ SnapIs 1
    ∷ LastSavedIs 0
    ∷ SaveIs 2 (New 1)
    ∷ SaveIs 3 (Saved 1)
    ∷ SaveIs 8 (Saving 1 1)
    ∷ ImageIs 192 (header_word heap_kind.Fields 1 1 0)
    ∷ ImageIs 193 (number_word 5)
    ∷ ImageIs 512 (pointer_word 192)
    ∷ []

-- ---- the workers

-- it has found page 3 saved, and stores in the record there next
abbrev pub saving_mutator : Saver
saving_mutator = record no_saver { runs = true; recalled = true; snap = 1; running = 1; guarded = Some 3 }

-- in a round it has found the board unsaved, and won it
abbrev pub saving_scanner : Saver
saving_scanner = record no_saver {
  save = Some (record { page = 8; number = 1; found = Unsaved; won = true; copied = 2; word = Some 0 });
  round = Some (record { number = 1; epoch = 0; board = false; upto = 0; busy = false; opened = None });
}

abbrev pub saving_workers : ℕ → Saver
saving_workers k = slice_index_or (saving_mutator ∷ saving_scanner ∷ []) k no_saver

-- ---- the checkpoint

-- the heap when it was begun: the record's words, and the board's first one
abbrev pub frozen_heap : Frozen
frozen_heap = record {
  held = λ page. (page == 3) || (page == 8);
  heap = λ x. if x == 192 then header_word heap_kind.Fields 1 1 0 else if x == 193 then number_word 5 else if x == 512 then pointer_word 192 else 0;
  size = λ a. if a == 192 then 2 else 0;
  kind = λ a. plain_kind.Fields;
  identity = λ a. made 1;
}

-- what the plain heap has kept: the record on the board's first word, with 5 in its field
abbrev pub kept_board : List Value
kept_board = Reference (made 1) ∷ zeros_after (zeros_after (Number 0 ∷ []))

abbrev pub kept_records : List (List Record)
kept_records = (record { kind = plain_kind.Fields; values = Number 5 ∷ [] } ∷ []) ∷ []

-- ---- what stands, and what doesn't

-- what each step keeps of checkpoints, in a table that was written from these entries
abbrev pub StandsFrom : List Entry → Frozen → (count : ℕ) → (ℕ → Saver) → Type 0
StandsFrom entries z count saver = SavingStands (table_of 4 (written_whole 4 entries)) (saves_of 4 (written_whole 4 entries)) z count saver

-- page 2 is marked as new for a checkpoint that wasn't begun
abbrev pub marked_ahead : List Entry
marked_ahead = SaveIs 2 (New 2) ∷ saving_entries

-- the board is saved by a third of two workers
abbrev pub saved_by_nobody : List Entry
saved_by_nobody = SaveIs 8 (Saving 1 2) ∷ saving_entries

-- page 3 is said to be saved, but its image has the number that was stored since
abbrev pub saved_too_late : List Entry
saved_too_late = ImageIs 193 (number_word 6) ∷ saving_entries
