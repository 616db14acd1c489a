-- The options of runs, of concordances and of audits, and the operands of the benchmark, by the rows of what was given.
use Rattle.std.specs.Prelude.{ℕ, ◌≤◌, IsTrue, List, [], ◌∷◌, Option, Some, None, codes, if◌then◌else◌, nat_le, option_map, unwrap_or}
use Rattle.clap.specs.Walk.{Row, Text}
use Rattle.space_map.specs.declared.spaces.TheConstants.{FEWEST_PAGES, MOST_MUTATORS, MOST_PAGES, MOST_SCANNERS}
use Rattle.space_map.specs.Spaces.{is_size}
use Rattle.gc_core.specs.Core.{has_sizes}
use Rattle.gc_worker.specs.declared.config.TheConstants.{MOST_TURNS}
use Rattle.simple_commands.specs.Options.{number_given}
use Rattle.simple_commands.specs.Readers.{number_of, number_or, was_given}
use Rattle.simple_commands.specs.declared.options.Numbers.{Numbers}
use Rattle.ael_jobs.specs.declared.arguments.operands.BenchOperands.{BenchOperands}
use Rattle.ael_jobs.specs.declared.arguments.options.AuditOptions.{AuditOptions}
use Rattle.ael_jobs.specs.declared.arguments.options.ConcordOptions.{ConcordOptions}
use Rattle.ael_jobs.specs.declared.arguments.options.RunOptions.{RunOptions}
use Rattle.ael_jobs.specs.declared.arguments.options.SimOptions.{SimOptions}
use Rattle.ael_jobs.specs.Runs.Simulation.{config}

-- `--pages`
abbrev pub pages_option : Text × Numbers
pages_option = (codes "pages", record { least = FEWEST_PAGES; most = MOST_PAGES; default = 256 })

-- `--limit`. If it isn't given it is what `--pages` is, so the default here is never read.
abbrev pub limit_option : Text × Numbers
limit_option = (codes "limit", record { least = FEWEST_PAGES; most = MOST_PAGES; default = 256 })

-- `--scanners`
abbrev pub scanners_option : Text × Numbers
scanners_option = (codes "scanners", record { least = 0; most = MOST_SCANNERS; default = 1 })

-- `--workers`
abbrev pub workers_option : Text × Numbers
workers_option = (codes "workers", record { least = 1; most = MOST_MUTATORS; default = 2 })

-- `--turns`
abbrev pub turns_option : Text × Numbers
turns_option = (codes "turns", record { least = 1; most = MOST_TURNS; default = 1000000 })

-- `--steps`
abbrev pub steps_option : Text × Numbers
steps_option = (codes "steps", record { least = 1; most = 100000000; default = 10000000 })

-- `--seed`, which has no default, or `SEED`
abbrev pub seed_option : Text
seed_option = codes "seed"

-- `--order`
abbrev pub order_flag : Text
order_flag = codes "order"

-- `--cycles`
abbrev pub cycles_flag : Text
cycles_flag = codes "cycles"

-- `--snap`
abbrev pub snap_flag : Text
snap_flag = codes "snap"

-- `--dump`
abbrev pub dump_flag : Text
dump_flag = codes "dump"

-- `DEPTH`, which is always there
abbrev pub depth_operand : Text × Numbers
depth_operand = (codes "depth", record { least = 1; most = 9; default = 1 })

-- the tables of `bench`, whose second operand is `SEED`
abbrev pub bench_numbers : List (Text × Numbers)
bench_numbers = depth_operand ∷ []

abbrev pub bench_wide : List Text
bench_wide = seed_option ∷ []

-- the tables of `run`
abbrev pub run_numbers : List (Text × Numbers)
run_numbers = pages_option ∷ limit_option ∷ scanners_option ∷ turns_option ∷ []

abbrev pub run_wide : List Text
run_wide = []

abbrev pub run_flags : List Text
run_flags = cycles_flag ∷ snap_flag ∷ dump_flag ∷ []

-- the tables of `concord`
abbrev pub concord_numbers : List (Text × Numbers)
concord_numbers = workers_option ∷ pages_option ∷ []

abbrev pub concord_wide : List Text
concord_wide = []

abbrev pub concord_flags : List Text
concord_flags = []

-- the tables of `audit`
abbrev pub audit_numbers : List (Text × Numbers)
audit_numbers = turns_option ∷ []

abbrev pub audit_wide : List Text
audit_wide = []

abbrev pub audit_flags : List Text
audit_flags = []

-- the tables of `sim`
abbrev pub sim_numbers : List (Text × Numbers)
sim_numbers = pages_option ∷ limit_option ∷ scanners_option ∷ turns_option ∷ steps_option ∷ []

abbrev pub sim_wide : List Text
sim_wide = seed_option ∷ []

abbrev pub sim_flags : List Text
sim_flags = order_flag ∷ cycles_flag ∷ snap_flag ∷ dump_flag ∷ []

abbrev pub pages_given : List Row → ℕ
pages_given rows = number_given pages_option rows

abbrev pub limit_given : List Row → ℕ
limit_given rows = number_or (pages_given rows) limit_option.0 rows

-- the options of a run, as they were given
abbrev pub run_options_in : List Row → RunOptions
run_options_in rows = record {
  pages = pages_given rows;
  limit = limit_given rows;
  scanners = number_given scanners_option rows;
  turns = number_given turns_option rows;
  cycles = was_given cycles_flag rows;
  snap = was_given snap_flag rows;
  dump = was_given dump_flag rows;
}

-- the options of a run, unless fewer pages may come into use than are in use at first
abbrev pub run_options_of : List Row → Option RunOptions
run_options_of rows = if nat_le (pages_given rows) (limit_given rows) then Some (run_options_in rows) else None

-- those of a run by a schedule, which is this run
abbrev pub sim_options_in : List Row → RunOptions → SimOptions
sim_options_in rows run = record {
  run = run;
  steps = number_given steps_option rows;
  seed = number_of seed_option rows;
  order = was_given order_flag rows;
}

abbrev pub sim_options_of : List Row → Option SimOptions
sim_options_of rows = option_map (sim_options_in rows) (run_options_of rows)

-- so many pages of a space may be in use at first and in all, there may be so many scanners, and a mutator may execute so many instructions
pub record AreInRange (options : RunOptions) : Type 0 where
  pub sizes : IsTrue (has_sizes (config options))
  pub scanners : options.scanners ≤ MOST_SCANNERS
  pub turns : (1 ≤ options.turns) × (options.turns ≤ MOST_TURNS)

abbrev pub concord_options_of : List Row → ConcordOptions
concord_options_of rows = record { workers = number_given workers_option rows; pages = number_given pages_option rows }

-- so many workers may make a concordance, and a space may have so many pages
pub record AreConcordOptions (options : ConcordOptions) : Type 0 where
  pub workers : (1 ≤ options.workers) × (options.workers ≤ MOST_MUTATORS)
  pub pages : IsTrue (is_size options.pages)

abbrev pub audit_options_of : List Row → AuditOptions
audit_options_of rows = record { turns = number_given turns_option rows }

-- a mutator may execute so many instructions
abbrev pub AreAuditOptions : AuditOptions → Type 0
AreAuditOptions options = (1 ≤ options.turns) × (options.turns ≤ MOST_TURNS)

abbrev pub operands_of : List Row → BenchOperands
operands_of rows = record { depth = number_given depth_operand rows; seed = unwrap_or (number_of seed_option rows) 0 }

-- the trees are of a depth that they may have
abbrev pub IsDepth : ℕ → Type 0
IsDepth depth = (1 ≤ depth) × (depth ≤ 9)
