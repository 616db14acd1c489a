-- That a run of one mutator gets on, where no other worker is.
use Rattle.std.specs.Prelude.{◌≡◌, ℕ, ◌+◌, ◌*◌, ◌/◌, ◌≤◌, ◌⊎◌, Bool, true, List, [], ◌∷◌, is_some, IsTrue}
use Rattle.mutator_asm.specs.declared.instr.Instr.{Instr}
use Rattle.mutator_asm.specs.declared.item.Item.{Item}
use Rattle.mutator_asm.specs.Program.{IsWellFormed}
use Rattle.space_map.specs.Spaces.{Layout}
use Rattle.gc_worker.specs.declared.config.Config.{Config}
use Rattle.gc_worker.specs.declared.config.TheConstants.{MOST_TURNS}
use Rattle.gc_worker.specs.Laws.Step.{held_at}
use Rattle.gc_core.specs.Core.{CoreState, opening_core, has_sizes, layout_by}
use Rattle.gc_core.specs.Run.{run_from}
use Rattle.lone_mutator.specs.Bound.{most_steps_of}

-- mutator m has its end
abbrev pub has_end : CoreState → (m : ℕ) → Bool
has_end s m = is_some (held_at s.heap m).account.end

-- how many instructions it has executed
abbrev pub executed_by : CoreState → (m : ℕ) → ℕ
executed_by s m = (held_at s.heap m).account.executed

-- in so many steps the first mutator came to its end, or executed an instruction for each time that the most steps of one are in them
abbrev pub KeepsPace : Layout → (steps : ℕ) → CoreState → Type 0
KeepsPace l steps s = (has_end s 0 ≡ true) ⊎ (steps / most_steps_of l ≤ executed_by s 0)

-- every run of every program of one section, without scanners and for any number of steps
abbrev pub LoneMutatorsGoOn : Type 0
LoneMutatorsGoOn = (section : List Instr) (items : List Item) (turns : ℕ) (config : Config) (schedule : ℕ → ℕ) (steps : ℕ)
    → IsWellFormed (section ∷ []) items → IsTrue (has_sizes config) → turns ≤ MOST_TURNS → config.scanners ≡ 0 → ((at : ℕ) → schedule at ≡ 0)
    → KeepsPace (layout_by config) steps (run_from schedule 0 steps (opening_core (section ∷ []) turns config)).last

-- with turns for so many instructions it has its end after so many steps
abbrev pub LoneRunsEnd : Type 0
LoneRunsEnd = (section : List Instr) (items : List Item) (turns : ℕ) (config : Config) (schedule : ℕ → ℕ) (steps : ℕ)
    → IsWellFormed (section ∷ []) items → IsTrue (has_sizes config) → turns ≤ MOST_TURNS → config.scanners ≡ 0 → ((at : ℕ) → schedule at ≡ 0)
    → (turns + 1) * most_steps_of (layout_by config) ≤ steps → has_end (run_from schedule 0 steps (opening_core (section ∷ []) turns config)).last 0 ≡ true
