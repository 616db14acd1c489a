-- What a worker holds between two steps, and what its task asks for.
use Rattle.std.specs.Prelude.{ℕ, ◌+◌, ◌^◌, ◌&&◌, Bool, List, Option, Some, None, nat_lt, slice_index}
use Rattle.std.specs.Option.{option_and_then}
use Rattle.heap_words.specs.Decoded.{HeaderWord}
use Rattle.plain_state.specs.declared.kind.Kind.{Kind}
use Rattle.plain_state.specs.declared.kind.Kind.TheVariants.{Fields, Raw, Mixed, Weak}
use Rattle.record_layout.specs.declared.header.Header.{Header}
use Rattle.record_layout.specs.Layout.{header_in}
use Rattle.space_map.specs.Spaces.{Layout}
use Rattle.mutator_asm.specs.declared.instr.Instr.{Instr}
use Rattle.mutator_asm.specs.declared.instr.Instr.TheVariants as instrs
use Rattle.plain_heap.specs.Action.{action}
use Rattle.alloc_end.specs.declared.run.Run.{Run}
use Rattle.alloc_end.specs.Place.{size_of, pages_for}
use Rattle.heap_state.specs.Invariant.Ghost.{header_kind, header_len}
use Rattle.heap_state.specs.Known.{Account}
use Rattle.gc_worker.specs.Plain.Seen.{Making, making_in, seen}
use Rattle.gc_worker.specs.declared.stage.Stage.{Stage}
use Rattle.gc_worker.specs.declared.task.Task.{Task}
use Rattle.gc_worker.specs.declared.task.Task.TheVariants.{Calls, Stops}

-- A worker: its number, the layout of the heap, the number of mutators and whether they may print, which never change; its epoch, and that
-- at the look which began its instruction; how many checkpoints were begun when it began to run, and the one that was in progress then, or
-- 0; its account, its eight registers, and its run; the task that it was given and has not answered; and what it is about to do.
pub record Held : Type 0 where
  pub number : ℕ
  pub layout : Layout
  pub mutators : ℕ
  pub prints : Bool
  pub epoch : ℕ
  pub begun : ℕ
  pub snap : ℕ
  pub running : ℕ
  pub account : Account
  pub registers : List ℕ
  pub run : Option Run
  pub task : Option Task
  pub stage : Stage

abbrev pub at_stage : Held → Stage → Held
at_stage x stage = record x { stage = stage }

-- it has seen a flip since its instruction began, whoever flipped
abbrev pub has_seen_flip : Held → Bool
has_seen_flip x = nat_lt x.begun x.epoch

-- ---- the record that the task asks for

-- the record that an instruction makes of these registers
abbrev pub making_for : Held → Option Task → Option Making
making_for x (Some (Calls instr)) = making_in (action (seen x.account x.registers) instr)
making_for x (Some (Stops end)) = None
making_for x None = None

-- the header of the worker's next record, which is this
abbrev pub header_of : Held → Making → Option Header
header_of x m = header_in (HeaderWord (header_kind m.kind) (header_len m.kind m.len) (x.account.serial + 1) x.number)

-- the header of the record that the task makes, if it does
abbrev pub header_for : Held → Option Header
header_for x = option_and_then (header_of x) (making_for x x.task)

abbrev pub pages_asked : Option Header → ℕ
pages_asked (Some header) = pages_for (size_of header)
pages_asked None = 0

-- the fields that a mixed record of this kind has
abbrev pub fields_of : Kind → ℕ
fields_of Fields = 0
fields_of Raw = 0
fields_of (Mixed fields) = fields
fields_of Weak = 0

abbrev pub fields_made : Option Making → ℕ
fields_made (Some m) = fields_of m.kind
fields_made None = 0

-- those of the record that the task makes, if it is mixed
abbrev pub fields_for : Held → ℕ
fields_for x = fields_made (making_for x x.task)

-- the word of the register that an instruction names as the target of the cell that it makes, or 0 if it makes none
abbrev pub target_named : List ℕ → Instr → ℕ
target_named registers (instrs.Weak d a) = slice_index registers a
target_named registers instr = 0

-- that word, by the task
abbrev pub target_in : List ℕ → Option Task → ℕ
target_in registers (Some (Calls instr)) = target_named registers instr
target_in registers (Some (Stops end)) = 0
target_in registers None = 0

abbrev pub target_for : Held → ℕ
target_for x = target_in x.registers x.task

-- the pages that it needs
abbrev pub pages_needed : Held → ℕ
pages_needed x = pages_asked (header_for x)

-- ---- the run

-- a mutator that has no run has one without words
abbrev pub run_in : Option Run → Run
run_in (Some run) = run
run_in None = record { at = 0; end = 0 }

abbrev pub run_held : Held → Run
run_held x = run_in x.run

-- ---- checkpoints

-- checkpoints can be begun, and there is a number for one more
abbrev pub may_snap : Held → Bool
may_snap x = x.layout.checkpoints && nat_lt (x.snap + 1) (2 ^ 32)
