-- What a run tells of itself at its end.
use Rattle.std.specs.Prelude.{◌≡◌, ℕ, ◌-◌, ◌^◌, ◌<◌, false, List, ◌++◌, Some, IsSome, length, map, slice_get}
use Rattle.plain_state.specs.declared.end.End.{End}
use Rattle.plain_state.specs.State.{Mutator}
use Rattle.mutator_asm.specs.declared.instr.Instr.{Instr}
use Rattle.plain_heap.specs.Checkpoints.LastCheckpoint.{IsLastCheckpoint}
use Rattle.plain_heap.specs.Order.{first_story, opening, plain, story}
use Rattle.plain_heap.specs.Print.{Seen}
use Rattle.heap_state.specs.Kept.{Kept}
use Rattle.heap_state.specs.Memory.Table.{word_in}
use Rattle.space_map.specs.Spaces.{to_space}
use Rattle.space_map.specs.Table.{Area, Traced, whole_length}
use Rattle.gc_worker.specs.declared.config.Config.{Config}
use Rattle.gc_worker.specs.Config.{layout_by}
use Rattle.gc_worker.specs.declared.open_error.OpenError.{OpenError}
use Rattle.gc_worker.specs.declared.open_error.OpenError.TheVariants as opens
use Rattle.gc_worker.specs.declared.stage.Stage.TheVariants.{Gone}
use Rattle.gc_worker.specs.Laws.Between.{ShowsRegisters}
use Rattle.gc_worker.specs.Workers.Held.{Held}
use Rattle.gc_worker.specs.Laws.Step.{Heap, epoch_of}
use Rattle.gc_worker.specs.Plain.Marks.{EachActs}
use Rattle.gc_worker.specs.Readers.{cycles_in, kept_in, live_in, live_said, registers_in, seen_in}
use Rattle.gc_worker.specs.Steps.Stepped.{header_kept, place_kept}
use Rattle.ael_threads.specs.declared.view.Plan.{Plan}
use Rattle.ael_threads.specs.declared.programs.outputs.Outputs.{Outputs}
use Rattle.ael_threads.specs.declared.programs.outputs.Printed.{Printed}
use Rattle.ael_threads.specs.declared.programs.outputs.RunError.{RunError}
use Rattle.ael_threads.specs.declared.programs.outputs.RunError.TheVariants as runs
use Rattle.gc_worker.specs.History.Needs.{EachFullIs, EachMayCome, HasNoFull, IsEnoughForOne, IsLargeEnough, flips_in}
use Rattle.gc_worker.specs.History.Tally.{tally}
use Rattle.ael_threads.specs.Histories.{opening_tally, Each}
use Rattle.gc_worker.specs.History.Legal.{after_all, last_flip}
use Rattle.ael_threads.specs.Opened.{plan_of}
use Rattle.gc_worker.specs.History.Order.{order_of}
use Rattle.ael_threads.specs.Readers.{SeatedScanner, seated}
use Rattle.ael_threads.specs.Rule.{heap_of}
use Rattle.ael_threads.specs.Runs.Running.{FullIn}
use Rattle.ael_threads.specs.Seats.{Closes, Seated, WordsTellHistory}

-- ---- what is read of a worker

abbrev pub HasEnd : Seated → Type 0
HasEnd s = IsSome s.worker.account.end

abbrev pub seat_seen : Seated → Seen
seat_seen s = record { printed = s.worker.account.printed; end = s.worker.account.end }

abbrev pub seat_registers : Seated → List ℕ
seat_registers s = s.worker.registers

abbrev pub seat_kept : Seated → ℕ × ℕ
seat_kept s = (header_kept s.worker.stage, place_kept s.worker.stage)

-- ---- what is told

abbrev pub printed_by : Printed → Seen
printed_by p = record { printed = p.numbers.items; end = Some p.end }

abbrev pub as_kept : ℕ × ℕ → Kept
as_kept k = record { header = k.0; place = k.1 }

-- a heap's words and its workers tell this
pub record Tells (h : Heap) (told : Outputs) : Type 0 where
  pub mutators : map printed_by told.mutators.items ≡ seen_in h
  pub cycles : told.cycles ≡ cycles_in h
  pub live : told.live ≡ live_in h
  pub registers : told.regs.items ≡ registers_in h
  pub kept : map as_kept told.kept.items ≡ kept_in h

-- what is told of a heap that was closed, by these mutators and scanners and by its words
pub record IsToldOnClose (plan : Plan) (mutators : List Seated) (scanners : List SeatedScanner) (told : Outputs) : Type 0 where
  pub closes : Closes plan (map seated scanners ++ mutators) told.words
  pub layout : told.spaces ≡ plan.spaces
  pub all_words : length told.words ≡ whole_length plan.spaces
  pub printed : map printed_by told.mutators.items ≡ map seat_seen mutators
  pub registers : told.regs.items ≡ map seat_registers mutators
  pub kept : told.kept.items ≡ map seat_kept (mutators ++ map seated scanners)
  pub cycles : told.cycles ≡ epoch_of plan.spaces.pages told.words
  pub live : told.live ≡ live_said told.cycles (word_in plan.spaces.pages told.words Traced) (word_in plan.spaces.pages told.words (Area (to_space told.cycles)))

-- the registers told of mutator m show those of q
pub record TellsRegisters (told : Outputs) (m : ℕ) (q : Mutator) : Type 0 where
  pub words : List ℕ
  pub is : slice_get told.regs.items m ≡ Some words
  pub shows : ShowsRegisters words q

-- THE CLAUSE OF RUN: all calls of its mutators stand in one legal history. In the order of that history the plain machine executes the
-- program, each mutator its section from the start, none of its instructions skipped and none executed twice, to its end. The words that
-- are told, with what all workers hold, which have left, stand for the plain state after it, and registers show the plain ones; what was
-- copied in an epoch that is traced is what was live at its last flip, and exactly those cells of its space are empty that lost their
-- targets by that flip, or were empty then; what the plain machine has kept is the last checkpoint of the order, and if checkpoints can be
-- begun, the words say it; what else is told is what these say. Each flip was for a record, an instruction asking for one at most of a
-- space all of whose pages are in use, and left the pages in use or doubled them; where a mutator's end is that the heap is full, it was,
-- by words with which all workers stood at that call, and what was live at the flip before and the room left no more of the pages in use
-- than the pages of records made since then, or made next by others; there is a look by which the mutator began that instruction, and that
-- flip came since and all pages of the space were in use, if it is not the last that there can be. So it is by the order alone; and a heap
-- whose limit is as large as the order needs is never full, but after the last flip that there can be its pages at first have to be enough.
pub record Runs (code : List (List Instr)) (turns : ℕ) (config : Config) (told : Outputs) : Type 0 where
  pub words_tell : WordsTellHistory (opening code) (plan_of (length code) config) told.words
  pub open words_tell use *
  pub plain_is : plain code turns (order_of log) ≡ after_all (opening code) log
  pub acts : EachActs code turns (first_story code) (order_of log)
  pub flip_is : last_flip (opening code) log ≡ (story code turns (order_of log)).flip
  pub ended : (m : ℕ) (q : Mutator) → slice_get (after_all (opening code) log).mutators m ≡ Some q → IsSome q.end
  pub last : IsLastCheckpoint code turns (order_of log)
  pub epoch : told.cycles ≡ (tally (opening_tally (plan_of (length code) config)) log).flips
  pub left : Each (λ (x : Held). x.stage ≡ Gone) workers
  pub shows : (m : ℕ) (q : Mutator) → slice_get (after_all (opening code) log).mutators m ≡ Some q → TellsRegisters told m q
  pub layout : told.spaces ≡ layout_by config
  pub all_words : length told.words ≡ whole_length (layout_by config)
  pub tells : Tells (heap_of (plan_of (length code) config) told.words workers) told
  pub full : (m : ℕ) (q : Mutator) (end : End) → slice_get (after_all (opening code) log).mutators m ≡ Some q → q.end ≡ Some end → FullIn (plan_of (length code) config) m log end
  pub filled : EachFullIs config.limit config.pages code turns (first_story code) 0 0 (order_of log)
  pub follows : EachMayCome (λ m. false) 0 (order_of log)
  pub large : IsLargeEnough config.limit config.pages code turns (order_of log) → HasNoFull (order_of log)
  pub lone : length code ≡ 1 → flips_in 0 (order_of log) < 2 ^ 32 - 1 → IsEnoughForOne config.limit code turns (order_of log) → HasNoFull (order_of log)

-- ---- errors

abbrev pub as_run_error : OpenError → RunError
as_run_error opens.BadPages = runs.BadPages
as_run_error opens.NoMemory = runs.NoMemory
