-- The command line of `ael`: what it takes, and what it then gives.
use Rattle.std.proofs.Common.{◌≡◌, ◌≢◌, refl, sym, subst, List, Option, Some, None, inl, inr}
use Rattle.std.specs.Prelude.{IfSome, IsTrue, codes}
use Rattle.clap.specs.Simple.{App}
use Rattle.clap.specs.Walk.{Row, Text}
use Rattle.simple_commands.specs.Exact.{is_exact}
use Rattle.simple_commands.specs.Held.{IsSubcommandOf}
use Rattle.simple_commands.proofs.Taking.{holds_operands, holds_options}
use Rattle.ael_jobs.specs.Arguments.CommandLine.{ael_app}
use Rattle.ael_jobs.specs.Arguments.Options.{audit_flags, audit_numbers, audit_wide, bench_numbers, bench_wide, concord_flags, concord_numbers, concord_wide, run_flags, run_numbers, run_wide, sim_flags, sim_numbers, sim_wide}
use Rattle.ael_jobs.specs.Arguments.Words.{IsKnown}

pub exact : (a : App) → a ≡ ael_app → IsTrue (is_exact a)
exact a is = let holds : IsTrue (is_exact ael_app) = refl in subst (λ (x : App). IsTrue (is_exact x)) (sym is) holds

-- the subcommands are `asm`, `sim`, `run`, `concord`, `bench` and `audit`
pub known : (a : App) (o : Option (Text × List Row)) → a ≡ ael_app → IfSome o (IsSubcommandOf a) → IfSome o IsKnown
known a None is h = tt
known a (Some p) is h = elim (subst (λ (x : App). IsSubcommandOf x p) is h) [
  | inl asm ↦ inl asm.0
  | inr more ↦ elim more [
    | inl sim ↦ inr (inl (sim.0, holds_options 1 sim_numbers sim_wide sim_flags p.1 sim.1))
    | inr others ↦ elim others [
      | inl run ↦ inr (inr (inl (run.0, holds_options 1 run_numbers run_wide run_flags p.1 run.1)))
      | inr more_others ↦ elim more_others [
        | inl concord ↦ inr (inr (inr (inl (concord.0, holds_options 1 concord_numbers concord_wide concord_flags p.1 concord.1))))
        | inr last_two ↦ elim last_two [
          | inl bench ↦ inr (inr (inr (inr (inl (bench.0, holds_operands 1 bench_numbers bench_wide p.1 bench.1)))))
          | inr last ↦ elim last [ inl audit ↦ inr (inr (inr (inr (inr (audit.0, holds_options 1 audit_numbers audit_wide audit_flags p.1 audit.1))))) | inr none ↦ absurd none ]
        ]
      ]
    ]
  ]
]

-- and have no other names
pub never_another : (p : Text × List Row) → IsKnown p → p.0 ≢ codes "asm" → p.0 ≢ codes "sim" → p.0 ≢ codes "run" → p.0 ≢ codes "concord" → p.0 ≢ codes "bench" → p.0 ≢ codes "audit" → ⊥
never_another p (inl asm) not_asm not_sim not_run not_concord not_bench not_audit = not_asm asm
never_another p (inr (inl sim)) not_asm not_sim not_run not_concord not_bench not_audit = not_sim sim.0
never_another p (inr (inr (inl run))) not_asm not_sim not_run not_concord not_bench not_audit = not_run run.0
never_another p (inr (inr (inr (inl concord)))) not_asm not_sim not_run not_concord not_bench not_audit = not_concord concord.0
never_another p (inr (inr (inr (inr (inl bench))))) not_asm not_sim not_run not_concord not_bench not_audit = not_bench bench.0
never_another p (inr (inr (inr (inr (inr audit))))) not_asm not_sim not_run not_concord not_bench not_audit = not_audit audit.0
