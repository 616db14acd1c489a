-- What is printed of the last checkpoint of a run, by the words of its core.
use Rattle.std.proofs.Common.{◌≡◌, ℕ, Bool, true, false, List, length, refl}
use Rattle.mutator_asm.specs.declared.instr.Instr.{Instr}
use Rattle.plain_heap.specs.declared.mark.Mark.{Mark}
use Rattle.space_map.specs.Spaces.{IsPageCount}
use Rattle.space_map.specs.Table.{saving_length}
use Rattle.checkpoint_text.specs.Text.{AreLinesOf}
use Rattle.gc_core.specs.Checkpoints.{TellsLastCheckpoint}
use Rattle.gc_core.specs.Core.{CoreState}
use Rattle.ael_jobs.specs.Runs.Checkpoint.{TellsLast, TellsLastIf}
use Rattle.ael_jobs.specs.Runs.Told.{AreLinesIf}

-- ---- the lines

module _ (program : List (List Instr)) (turns : ℕ) (order : List Mark) (s : CoreState) (count : IsPageCount s.heap.pages) (bytes : List ℕ) where
  told : s.heap.checkpoints ≡ true → TellsLastCheckpoint program turns order s → AreLinesOf s.heap.words bytes → TellsLast program turns order bytes
  told room tells lines =
      let whole : length s.heap.words ≡ saving_length s.heap.pages = rw room at tells.told.whole in
      record {
        lines = lines.told _ _ (record { pages = s.heap.pages; table = record { count = count; length = whole }; says = tells.told.says });
        last = tells.last;
      }

  -- they are the lines of the last checkpoint of the order, if these are asked for
  pub told_if : (flag : Bool) → s.heap.checkpoints ≡ flag → (flag ≡ true → TellsLastCheckpoint program turns order s) → AreLinesIf flag s.heap.words bytes → TellsLastIf flag program turns order bytes
  told_if true room tells lines = told room (tells refl) lines
  told_if false room tells none = none
