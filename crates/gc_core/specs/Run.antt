-- A whole run: one event after another by a schedule, and the order of what happened.
use Rattle.std.specs.Prelude.{ℕ, ◌+◌, ◌%◌, ◌≤◌, Bool, true, false, List, [], ◌++◌, ⊤, IsTrue, Option, if◌then◌else◌, zero, suc}
use Rattle.std.specs.Option.{is_some, option_to_list}
use Rattle.std.specs.List.{list_all}
use Rattle.mutator_asm.specs.declared.instr.Instr.{Instr}
use Rattle.mutator_asm.specs.declared.item.Item.{Item}
use Rattle.mutator_asm.specs.Program.{IsWellFormed}
use Rattle.space_map.specs.declared.spaces.TheConstants.{MOST_SCANNERS}
use Rattle.plain_heap.specs.declared.mark.Mark.{Mark}
use Rattle.gc_worker.specs.declared.config.Config.{Config}
use Rattle.gc_worker.specs.declared.config.TheConstants.{MOST_TURNS}
use Rattle.gc_worker.specs.Plain.Marks.{mark_of}
use Rattle.gc_core.specs.Core.{CoreState, has_sizes, opening_core}
use Rattle.gc_core.specs.Event.{event_of, core_after}
use Rattle.gc_core.specs.Readers.{seen_of}

-- whether every mutator has its end
abbrev pub all_ended : CoreState → Bool
all_ended s = list_all (λ k. is_some k.end) (seen_of s)

-- what a run comes to: the core in the end, and the marks of its events in order
pub record Ran : Type 0 where
  pub last : CoreState
  pub order : List Mark

-- a run that began with an event
abbrev pub after_event : Option Mark → Ran → Ran
after_event mark r = record { last = r.last; order = option_to_list mark ++ r.order }

-- The run from a position of the schedule on, which names a worker for each position: up to the
-- last end, or so many steps.
unfoldable pub run_from : (ℕ → ℕ) → ℕ → ℕ → CoreState → Ran
run_from schedule at zero s = record { last = s; order = [] }
run_from schedule at (suc n) s =
    if all_ended s then record { last = s; order = [] }
    else after_event (mark_of (event_of s (schedule at)).told) (run_from schedule (at + 1) n (core_after s (schedule at)))

-- the workers in turn
abbrev pub in_turn : ℕ → ℕ → ℕ
in_turn workers at = at % workers

abbrev pub Unless : Bool → Type 0 → Type 0
Unless true rest = ⊤
Unless false rest = rest

-- each event of that run is so, by the core before it and the worker
unfoldable pub EachEvent : (CoreState → ℕ → Type 0) → (ℕ → ℕ) → ℕ → ℕ → CoreState → Type 0
EachEvent IsSo schedule at zero s = ⊤
EachEvent IsSo schedule at (suc n) s = Unless (all_ended s) (IsSo s (schedule at) × EachEvent IsSo schedule (at + 1) n (core_after s (schedule at)))

-- ---- runs from an opening

-- so many events of a program by a schedule, from its opening
abbrev pub run_of : List (List Instr) → (turns : ℕ) → Config → (ℕ → ℕ) → ℕ → Ran
run_of code turns config schedule n = run_from schedule 0 n (opening_core code turns config)

-- it is so of every run of every program, by any schedule and for any number of steps
abbrev pub InEveryRun : (List (List Instr) → (turns : ℕ) → Config → (ℕ → ℕ) → ℕ → Type 0) → Type 0
InEveryRun IsSo = (code : List (List Instr)) (items : List Item) (turns : ℕ) (config : Config) (schedule : ℕ → ℕ) (n : ℕ)
    → IsWellFormed code items → IsTrue (has_sizes config) → turns ≤ MOST_TURNS → config.scanners ≤ MOST_SCANNERS → IsSo code turns config schedule n
