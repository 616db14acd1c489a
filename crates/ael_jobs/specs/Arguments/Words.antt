-- What the words of the command line ask for.
use Rattle.std.specs.Prelude.{◌≡◌, ◌⊎◌, ⊤, List, Option, Some, None, codes, option_map, if◌then◌else◌}
use Rattle.std.specs.Option.{option_and_then}
use Rattle.std.specs.Str.{bytes_eq}
use Rattle.clap.specs.Walk.{Row, Text}
use Rattle.clap.specs.Simple.{subcommand_of}
use Rattle.clap.specs.Takes.{takes}
use Rattle.simple_commands.specs.Options.{HoldOptions}
use Rattle.ael_jobs.specs.declared.arguments.job.Job.{Job}
use Rattle.ael_jobs.specs.declared.arguments.job.Job.TheVariants.{Asm, Audit, Bench, Concord, Run, Sim}
use Rattle.ael_jobs.specs.Arguments.CommandLine.{ael_app}
use Rattle.ael_jobs.specs.Arguments.Options.{AreAuditOptions, AreInRange, AreConcordOptions, IsDepth, audit_numbers, audit_options_of, audit_wide, bench_numbers, bench_wide, concord_numbers, concord_options_of, concord_wide, operands_of, run_numbers, run_options_of, run_wide, sim_numbers, sim_options_of, sim_wide}

-- the job of a subcommand, by its name and its rows, if it can be; there are `asm`, `sim`, `run`, `concord`, `bench` and `audit`
abbrev pub job_from : Text × List Row → Option Job
job_from p =
    if bytes_eq p.0 (codes "asm") then Some Asm
    else (if bytes_eq p.0 (codes "sim") then option_map (λ options. Sim options) (sim_options_of p.1)
    else (if bytes_eq p.0 (codes "run") then option_map (λ options. Run options) (run_options_of p.1)
    else (if bytes_eq p.0 (codes "concord") then Some (Concord (concord_options_of p.1))
    else (if bytes_eq p.0 (codes "bench") then Some (Bench (operands_of p.1))
    else Some (Audit (audit_options_of p.1))))))

-- the job that the words ask for: `clap` takes them as a command line of `ael`, and they name a subcommand that can be done
abbrev pub job_of : List Text → Option Job
job_of words = if takes ael_app words then option_and_then job_from (subcommand_of ael_app words) else None

-- a subcommand of the command line, with rows whose values can be read
abbrev pub IsKnown : Text × List Row → Type 0
IsKnown p =
    (p.0 ≡ codes "asm")
    ⊎ (((p.0 ≡ codes "sim") × HoldOptions sim_numbers sim_wide p.1)
    ⊎ (((p.0 ≡ codes "run") × HoldOptions run_numbers run_wide p.1)
    ⊎ (((p.0 ≡ codes "concord") × HoldOptions concord_numbers concord_wide p.1)
    ⊎ (((p.0 ≡ codes "bench") × HoldOptions bench_numbers bench_wide p.1)
    ⊎ ((p.0 ≡ codes "audit") × HoldOptions audit_numbers audit_wide p.1)))))

-- the numbers of a job are in their ranges
abbrev pub NumbersAreInRange : Job → Type 0
NumbersAreInRange Asm = ⊤
NumbersAreInRange (Bench operands) = IsDepth operands.depth
NumbersAreInRange (Sim options) = AreInRange options.run
NumbersAreInRange (Run options) = AreInRange options
NumbersAreInRange (Concord options) = AreConcordOptions options
NumbersAreInRange (Audit options) = AreAuditOptions options
