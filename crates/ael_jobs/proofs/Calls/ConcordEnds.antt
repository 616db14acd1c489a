-- How a call of `concord` ends.
use Rattle.std.proofs.Common.{◌≡◌, ℕ, List, [], sym, ◌∙◌, subst, inl, inr}
use Rattle.std.specs.Prelude.{◌⊎◌}
use Rattle.concordance_text.specs.Theorems.{OneListOfRows}
use Rattle.ael_jobs.specs.declared.arguments.job.Job.TheVariants.{Concord}
use Rattle.ael_jobs.specs.declared.status.Status.{Status}
use Rattle.ael_jobs.specs.Calls.Call.{Call}
use Rattle.ael_jobs.specs.Calls.Concordance.{ConcordEnd, ConcordEnds, ConcordanceIsPrinted, ConcordanceTold, HeapFullTold, CallTells, LargeHeapsSuffice, LongWordTold, NoMemoryTold, PrintsConcordance}
use Rattle.ael_jobs.specs.Calls.Headline.{CallIsAnswered}
use Rattle.ael_jobs.specs.Tasks.Concord.{Concorded, FoundFull}
use Rattle.ael_jobs.proofs.Concordances.{never_long, never_full}
use Rattle.ael_jobs.proofs.Calls.SoundEnds.{ByRefusal, ForMemory, OfInput, SoundCause, cause, call_tells}

-- what is told without output
told_alone : (call : Call) (output : List ℕ) (status own : Status) → output ≡ [] → status ≡ own → CallTells call output status → CallTells call [] own
told_alone call output status own silent is told = subst (λ s. CallTells call [] s) is (subst (λ o. CallTells call o status) silent told)

module _ (call : Call) (a : CallIsAnswered call) where
  pub concord_ends : ConcordEnds call
  concord_ends options text ends = by (cause call a (Concord options) text ends) (call_tells call a (Concord options) text ends)
    where
      by : SoundCause (Concord options) text a.output a.status → CallTells call a.output a.status → ConcordEnd call options text
      by (OfInput (Concorded short is done)) told = ConcordanceTold a.output short is (subst (λ s. CallTells call a.output s) done told)
      by (OfInput (FoundFull asked room short small full silent)) told = HeapFullTold asked room short small (told_alone call a.output a.status _ silent full told)
      by (ByRefusal long silent) told = LongWordTold long.line long.first (told_alone call a.output a.status _ silent long.told told)
      by (ForMemory wanting silent) told = NoMemoryTold (told_alone call a.output a.status _ silent wanting told)

  pub prints_concordance : PrintsConcordance call
  prints_concordance options text ends code = by (concord_ends options text ends)
    where
      by : ConcordEnd call options text → ConcordanceIsPrinted call text
      by (ConcordanceTold output short is told) = record { output = output; is = is; prints = told.printed }
      by (LongWordTold line first told) = absurd (let one : 0 ≡ 1 = sym code ∙ told.code_is in cc)
      by (HeapFullTold asked room short small told) = absurd (let three : 0 ≡ 3 = sym code ∙ told.code_is in cc)
      by (NoMemoryTold told) = absurd (let seven : 0 ≡ 7 = sym code ∙ told.code_is in cc)

  pub large_heaps_suffice : OneListOfRows → LargeHeapsSuffice call
  large_heaps_suffice one options text ends short room = by (concord_ends options text ends)
    where
      by : ConcordEnd call options text → (call.code ≡ 0) ⊎ (call.code ≡ 7)
      by (ConcordanceTold output short_too is told) = inl told.code_is
      by (LongWordTold line first told) = absurd (never_long text line short first)
      by (HeapFullTold asked left short_too small told) = absurd (never_full one options.pages text asked left room small)
      by (NoMemoryTold told) = inr told.code_is
