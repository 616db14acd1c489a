-- The command line of `ael`, as a command of `clap`.
use Rattle.std.specs.Prelude.{true, false, List, [], ◌∷◌, codes}
use Rattle.clap.specs.Simple.{App, Shape, new_app, new_shape}
use Rattle.simple_commands.specs.Options.{operand_rules_of, rules_of, with_rules}
use Rattle.ael_jobs.specs.Arguments.Options.{audit_flags, audit_numbers, audit_wide, bench_numbers, bench_wide, concord_flags, concord_numbers, concord_wide, run_flags, run_numbers, run_wide, sim_flags, sim_numbers, sim_wide}

-- `sim`, with its options and flags
abbrev pub sim_app : App
sim_app = with_rules (new_app (codes "sim")) (rules_of sim_numbers sim_wide sim_flags)

-- `run`, with its options and flags
abbrev pub run_app : App
run_app = with_rules (new_app (codes "run")) (rules_of run_numbers run_wide run_flags)

-- `concord`, with its options
abbrev pub concord_app : App
concord_app = with_rules (new_app (codes "concord")) (rules_of concord_numbers concord_wide concord_flags)

-- `bench`, with its operands
abbrev pub bench_app : App
bench_app = with_rules (new_app (codes "bench")) (operand_rules_of bench_numbers bench_wide)

-- `audit`, with its option
abbrev pub audit_app : App
audit_app = with_rules (new_app (codes "audit")) (rules_of audit_numbers audit_wide audit_flags)

-- `asm`
abbrev pub asm_app : App
asm_app = new_app (codes "asm")

-- these subcommands, with no name of the program before them and no help
abbrev pub ael_with : List Shape → App
ael_with subs = record {
  top = record (new_shape (codes "ael")) {
    is_leaf = false;
    no_binary_name = true;
    disable_help_flag = true;
    disable_help_subcommand = true;
  };
  subs = subs;
}

-- all subcommands
abbrev pub ael_app : App
ael_app = ael_with (asm_app.top ∷ sim_app.top ∷ run_app.top ∷ concord_app.top ∷ bench_app.top ∷ audit_app.top ∷ [])
