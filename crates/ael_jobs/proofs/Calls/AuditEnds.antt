-- How a call of `audit` ends.
use Rattle.std.proofs.Common.{◌≡◌, ℕ, List, [], subst, inl, inr}
use Rattle.std.specs.Prelude.{◌⊎◌, codes}
use Rattle.mutator_asm.specs.Theorems.{HasNoFault, MeansOneProgram}
use Rattle.ael_jobs.specs.declared.arguments.job.Job.TheVariants.{Audit}
use Rattle.ael_jobs.specs.declared.arguments.options.AuditOptions.{AuditOptions}
use Rattle.ael_jobs.specs.declared.status.Status.{Status}
use Rattle.ael_jobs.specs.declared.status.Status.TheVariants.{BadOutput, Done, Text}
use Rattle.ael_jobs.specs.Calls.Audits.{AuditEnd, AuditEnds, BadOutputTold, SaysYesToTrueOutputs, TextFaultTold, VerdictTold, WantOfMemoryTold}
use Rattle.ael_jobs.specs.Calls.Call.{Call}
use Rattle.ael_jobs.specs.Calls.Concordance.{CallTells}
use Rattle.ael_jobs.specs.Calls.Headline.{CallIsAnswered}
use Rattle.ael_jobs.specs.Tasks.Audit.{HasFaultyPart}
use Rattle.ael_jobs.proofs.Audits.{never_bad, never_faulty, says_yes_to_true}
use Rattle.ael_jobs.proofs.Calls.SoundEnds.{ByRefusal, ForMemory, OfInput, SoundCause, cause, call_tells}

module _ (call : Call) (options : AuditOptions) (input : List ℕ) where
  -- what is told of a faulty input
  fault_told : (status : Status) → HasFaultyPart input status → CallTells call [] status → AuditEnd call options input
  fault_told (Text number line) fault told = TextFaultTold number line fault told
  fault_told (BadOutput line) bad told = BadOutputTold line bad told
  fault_told _ fault told = absurd fault

-- what is told without output
told_alone : (call : Call) (output : List ℕ) (status : Status) → output ≡ [] → CallTells call output status → CallTells call [] status
told_alone call output status silent told = subst (λ o. CallTells call o status) silent told

module _ (call : Call) (a : CallIsAnswered call) where
  pub audit_ends : AuditEnds call
  audit_ends options input ends = by (cause call a (Audit options) input ends) (call_tells call a (Audit options) input ends)
    where
      by : SoundCause (Audit options) input a.output a.status → CallTells call a.output a.status → AuditEnd call options input
      by (OfInput made) told = VerdictTold a.output a.status made told
      by (ByRefusal faulty silent) told = fault_told call options input a.status faulty (told_alone call a.output a.status silent told)
      by (ForMemory wanting silent) told = WantOfMemoryTold (subst (λ s. CallTells call [] s) wanting (told_alone call a.output a.status silent told))

module _ (one : MeansOneProgram) (no_fault : HasNoFault) (call : Call) (a : CallIsAnswered call) where
  pub says_yes : SaysYesToTrueOutputs call
  says_yes options input ends true_output = by (audit_ends call a options input ends)
    where
      by : AuditEnd call options input → CallTells call (codes "audit: yes\n") Done ⊎ (call.code ≡ 7)
      by (VerdictTold output status is told) =
          let yes = says_yes_to_true one options.turns input output status true_output is in
          inl (subst (λ o. CallTells call o Done) yes.0 (subst (λ s. CallTells call output s) yes.1 told))
      by (TextFaultTold number line fault told) = absurd (never_faulty one no_fault input (Text number line) true_output.has fault)
      by (BadOutputTold line bad told) = absurd (never_bad one input line true_output.has bad)
      by (WantOfMemoryTold told) = inr told.code_is
