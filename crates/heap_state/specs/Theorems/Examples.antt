-- What is proved of the configurations that were worked out by hand.
use Rattle.std.specs.Prelude.{◌≡◌, ℕ, [], ◌∷◌, true, Some, None}
use Rattle.heap_words.specs.Word.{number_word, pointer_word}
use Rattle.plain_state.specs.declared.value.Value.TheVariants.{Number, Reference}
use Rattle.plain_state.specs.Reachable.{IsLive}
use Rattle.plain_state.specs.State.{Plain}
use Rattle.heap_state.specs.Meaning.Denotes.{denoted}
use Rattle.heap_state.specs.Examples.Flipped.{flipped, flipped_plain, late_mutator}
use Rattle.heap_state.specs.Examples.Requested.{requested, requested_plain, running_on}
use Rattle.heap_state.specs.Examples.Saving.{saving_entries, saving_workers, frozen_heap, kept_board, kept_records, StandsFrom, marked_ahead, saved_by_nobody, saved_too_late}
use Rattle.heap_state.specs.Memory.Table.{table_of, IsFormed}
use Rattle.heap_state.specs.Saving.Words.{saves_of, save_word_in, word_read, AreFormedSaves}
use Rattle.heap_state.specs.Saving.Frozen.{Frozen}
use Rattle.heap_state.specs.Saving.Savers.{Saver}
use Rattle.heap_state.specs.Saving.Kept.{KeepsPicture}
use Rattle.heap_state.specs.Saving.Written.{written_whole}
use Rattle.space_map.specs.Table.{SaveOf}
use Rattle.heap_state.specs.Sums.{uncopied}
use Rattle.heap_state.specs.Memory.Walk.{walk_of, old_walk_of}
use Rattle.heap_state.specs.Known.{is_late}
use Rattle.heap_state.specs.Examples.Worked.{worked, forwarded_wrong, opened_early, short_of_room, worked_plain, made}
use Rattle.heap_state.specs.Configuration.{Stands, era, memory, team}
use Rattle.heap_state.specs.Cycles.Cycle.{Cycle}
use Rattle.heap_state.specs.Invariant.Holds.{GateHolds, AccessHolds, RoomHolds}
use Rattle.heap_state.specs.Meaning.Represents.{Represents}
use Rattle.heap_state.specs.Theorems.Standing.{IsSound}

-- ---- a configuration worked out by hand

-- what the definitions say of the worked configuration
pub record IsWorkedOut : Type 0 where
  pub stands : Stands worked worked_plain
  pub sound : IsSound worked worked_plain
  pub copies : walk_of worked ≡ record { at = 256; size = 3 } ∷ []
  pub old : old_walk_of worked ≡ record { at = 192; size = 3 } ∷ record { at = 195; size = 2 } ∷ []
  pub uncopied_words : uncopied worked (old_walk_of worked) ≡ 0
  pub number : denoted worked (number_word 7) ≡ Some (Number 7)
  pub copied : denoted worked (pointer_word 256) ≡ Some (Reference (made 1))
  pub forwarded : denoted worked (pointer_word 192) ≡ Some (Reference (made 1))
  pub in_copy : denoted worked (pointer_word 195) ≡ Some (Reference (made 2))
  pub not_there : denoted worked (pointer_word 193) ≡ None
  pub live : IsLive worked_plain 5
  pub cycle : Cycle (era worked) (memory worked) (team worked) stands.ghost worked_plain

-- what the definitions say of the configuration after a flip: its mutator is behind, and its record is still to be copied
pub record IsWorkedOutFlipped : Type 0 where
  pub stands : Stands flipped flipped_plain
  pub sound : IsSound flipped flipped_plain
  pub late : is_late 1 late_mutator ≡ true
  pub old : old_walk_of flipped ≡ record { at = 192; size = 3 } ∷ []
  pub uncopied_words : uncopied flipped (old_walk_of flipped) ≡ 3
  pub in_place : denoted flipped (pointer_word 192) ≡ Some (Reference (made 1))

-- what the definitions say of the configuration whose mutator has begun a checkpoint: its plain state has begun as many
pub record IsWorkedOutRequested : Type 0 where
  pub stands : Stands requested requested_plain
  pub sound : IsSound requested requested_plain
  pub number : (saves_of 4 requested.words).snap ≡ requested_plain.heap.snaps

-- What the definitions say of the one in the midst of a checkpoint: its words can be read, what each step keeps of checkpoints stands,
-- and the heap of then shows what the plain heap has kept. SAVE of the pages 2, 3 and 8 are these words. Of the record's field and of
-- the board's first word, the words of the checkpoint are read.
pub record IsWorkedOutSaving : Type 0 where
  pub formed : IsFormed 4 (written_whole 4 saving_entries)
  pub saves_formed : AreFormedSaves 4 (written_whole 4 saving_entries)
  pub stands : StandsFrom saving_entries frozen_heap 2 saving_workers
  pub picture : KeepsPicture 4 frozen_heap kept_board kept_records
  pub page_2 : save_word_in 4 (written_whole 4 saving_entries) (SaveOf 2) ≡ 65539
  pub page_3 : save_word_in 4 (written_whole 4 saving_entries) (SaveOf 3) ≡ 65538
  pub page_8 : save_word_in 4 (written_whole 4 saving_entries) (SaveOf 8) ≡ 65541
  pub field : word_read (saves_of 4 (written_whole 4 saving_entries)) (table_of 4 (written_whole 4 saving_entries)).heap 193 ≡ number_word 5
  pub board : word_read (saves_of 4 (written_whole 4 saving_entries)) (table_of 4 (written_whole 4 saving_entries)).heap 512 ≡ pointer_word 192

-- What is broken is told. No heap of then and no workers stand with a page that is new for a checkpoint above SNAP; nor with a SAVE
-- that names a third of two workers; nor with an image that has another number than the record kept.
pub record TellsBrokenSaves : Type 0 where
  pub ahead : (z : Frozen) (count : ℕ) (saver : ℕ → Saver) → ¬ (StandsFrom marked_ahead z count saver)
  pub nobody : (z : Frozen) (saver : ℕ → Saver) → ¬ (StandsFrom saved_by_nobody z 2 saver)
  pub too_late : (z : Frozen) (count : ℕ) (saver : ℕ → Saver) → KeepsPicture 4 z kept_board kept_records → ¬ (StandsFrom saved_too_late z count saver)

-- what is broken is told: no plain state is represented, or the part of the invariant that speaks of it doesn't hold
pub record TellsBroken : Type 0 where
  pub wrong : (p : Plain) → ¬ (Represents forwarded_wrong p)
  pub early : ¬ (AccessHolds opened_early)
  pub short : ¬ (RoomHolds short_of_room)
  pub runs_on : ¬ (GateHolds running_on)
