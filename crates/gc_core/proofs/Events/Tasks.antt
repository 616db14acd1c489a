-- A worker that awaits a task may be given its next one.
use Rattle.std.proofs.Common.{◌≡◌, ℕ, ◌+◌, ◌≤◌, true, false, nat_lt, Option, Some, None, List, refl, ap, sym, subst, ◌∙◌, arith, ltb-true}
use Rattle.std.specs.Option.{is_some}
use Rattle.std.specs.Prelude.{IsTrue}
use Rattle.plain_state.specs.declared.end.End.{End}
use Rattle.mutator_asm.specs.declared.instr.Instr.{Instr}
use Rattle.mutator_asm.specs.Program.{is_valid}
use Rattle.heap_state.specs.Known.{Account}
use Rattle.gc_worker.specs.declared.stage.Stage.{Stage}
use Rattle.gc_worker.specs.declared.stage.Stage.TheVariants.{Looks}
use Rattle.gc_worker.specs.declared.task.Task.{Task}
use Rattle.gc_worker.specs.Laws.Between.{IsIdle}
use Rattle.gc_worker.specs.Workers.Fits.{FitsCall, FitsEnd, IsOnSide}
use Rattle.gc_worker.specs.Workers.Held.{Held}
use Rattle.gc_worker.specs.Workers.Counted.{CountsApart, counted, count_after}
use Rattle.gc_worker.specs.Steps.Stepped.{IsSound, awaits, awaits_at, stepped_by, uncounted}
use Rattle.gc_worker.specs.declared.steps.stepped.Stepped.TheVariants as steps
use Rattle.gc_worker.specs.declared.calls.did.Did.TheVariants.{Done}
use Rattle.gc_worker.specs.Steps.Turned.{Told, Answers, told, turned}
use Rattle.atom_store.specs.declared.reply.Reply.{Reply}
use Rattle.atom_store.specs.declared.step.Step.{Step}
use Rattle.atom_store.specs.Step.{reply_of}
use Rattle.gc_worker.specs.Steps.Made.{AllowsStep, MayMake, step_made, step_made_by}
use Rattle.gc_worker.specs.Steps.Wanted.{wanted}
use Rattle.gc_worker.proofs.Workers.ApartFromCount.{counted_fit, counts_are_apart}

pub at_look : (stage : Stage) (task : Option Task) → awaits_at stage task ≡ true → (stage ≡ Looks) × (task ≡ None)
at_look Looks None is = (refl, refl)
at_look _ _ is = absurd (cc)

none_by : (o : Option End) → is_some o ≡ false → o ≡ None
none_by None is = refl
none_by (Some end) is = absurd (cc)

-- it is idle
pub idle_by : (x : Held) → IsSound x → awaits x ≡ true → IsIdle x
idle_by x sound is =
    let at = at_look x.stage x.task is in
    record {
      is_mutator = ltb-true x.number x.mutators (subst (λ (stage : Stage). IsOnSide stage (nat_lt x.number x.mutators) (is_some x.account.end)) at.0 sound.side);
      no_end = none_by x.account.end (subst (λ (stage : Stage). FitsEnd stage (is_some x.account.end)) at.0 sound.end);
      no_task = at.1;
    }

-- a valid instruction may be begun, where few records were made
pub call_by : (account : Account) (registers : List ℕ) (instr : Instr) → IsTrue (is_valid instr) → account.serial ≤ 10000000 → FitsCall account registers instr
call_by account registers instr valid few = record { valid = valid; serial = λ making is. omega (arith, few) }

-- ---- the count beside it

-- it is sound with its count, and so without
pub sound_apart : (count : ℕ) (x : Held) → IsSound (counted count x) → IsSound x
sound_apart count x sound = (counted_fit x.layout.pages x.mutators x.number count x).0 sound

module _ (count : ℕ) (x : Held) (sound : IsSound (counted count x)) where
  apart : CountsApart count x
  apart = counts_are_apart x.layout.pages x.mutators x.number count x (sound_apart count x sound)

  -- what it becomes is sound
  turned_sound : (reply : Reply) → IsSound (turned (counted count x) reply) → IsSound (turned x reply)
  turned_sound reply is = sound_apart (count_after count (told x reply)) (turned x reply) (subst IsSound (apart.turns reply) is)

  -- and with its new count it is that
  turned_with : (reply : Reply) (now : ℕ) → now ≡ count_after count (told x reply) → counted now (uncounted (turned x reply)) ≡ turned (counted count x) reply
  turned_with reply now is = ap (λ (n : ℕ). counted n (turned x reply)) is ∙ sym (apart.turns reply)

  tells_with : (reply : Reply) → stepped_by x.number (told x reply) ≡ stepped_by x.number (told (counted count x) reply)
  tells_with reply = ap (stepped_by x.number) (sym (apart.tells reply))

-- an effect is counted
counts_effect : (k m count : ℕ) (t : Told) → stepped_by k t ≡ steps.Effect m → count + 1 ≡ count_after count t
counts_effect k m count (Answers task Done) is = refl
counts_effect k m count _ is = absurd (cc)

-- and nothing else is
counts_no_other : (k count : ℕ) (t : Told) → ((m : ℕ) → stepped_by k t ≡ steps.Effect m → ⊥) → count ≡ count_after count t
counts_no_other k count (Answers task Done) other = absurd (other k refl)
counts_no_other k count _ other = refl

-- ---- its step with the count beside it

module _ (count : ℕ) (x : Held) (sound : IsSound (counted count x)) (words : List ℕ) where
  abbrev y : Held
  y = counted count x

  wants : wanted y ≡ wanted x
  wants = (apart count x sound).wants

  pub may_apart : MayMake y words → MayMake x words
  may_apart may = by_step (wanted x) (subst (AllowsStep y words) wants may)
    where
      by_step : (o : Option Step) → AllowsStep y words o → AllowsStep x words o
      by_step None may = tt
      by_step (Some q) may = record { place = may.place; takes = may.takes; fits = turned_sound count x sound (reply_of q words) may.fits }

  pub words_apart : (step_made x words).words ≡ (step_made y words).words
  words_apart = by_step (wanted x) ∙ ap (λ (o : Option Step). (step_made_by y words o).words) (sym wants)
    where
      by_step : (o : Option Step) → (step_made_by x words o).words ≡ (step_made_by y words o).words
      by_step None = refl
      by_step (Some q) = refl

  pub told_apart : (step_made x words).told ≡ (step_made y words).told
  told_apart = by_step (wanted x) ∙ ap (λ (o : Option Step). (step_made_by y words o).told) (sym wants)
    where
      by_step : (o : Option Step) → (step_made_by x words o).told ≡ (step_made_by y words o).told
      by_step None = refl
      by_step (Some q) = tells_with count x sound (reply_of q words)

  pub made_effect : (m : ℕ) → (step_made x words).told ≡ steps.Effect m → counted (count + 1) (uncounted (step_made x words).held) ≡ (step_made y words).held
  made_effect m is = by_step (wanted x) is ∙ ap (λ (o : Option Step). (step_made_by y words o).held) (sym wants)
    where
      by_step : (o : Option Step) → (step_made_by x words o).told ≡ steps.Effect m → counted (count + 1) (uncounted (step_made_by x words o).held) ≡ (step_made_by y words o).held
      by_step None is = absurd (cc)
      by_step (Some q) is = turned_with count x sound (reply_of q words) (count + 1) (counts_effect x.number m count (told x (reply_of q words)) is)

  pub made_other : ((m : ℕ) → (step_made x words).told ≡ steps.Effect m → ⊥) → counted count (uncounted (step_made x words).held) ≡ (step_made y words).held
  made_other other = by_step (wanted x) other ∙ ap (λ (o : Option Step). (step_made_by y words o).held) (sym wants)
    where
      by_step : (o : Option Step) → ((m : ℕ) → (step_made_by x words o).told ≡ steps.Effect m → ⊥) → counted count (uncounted (step_made_by x words o).held) ≡ (step_made_by y words o).held
      by_step None other = refl
      by_step (Some q) other = turned_with count x sound (reply_of q words) count (counts_no_other x.number count (told x (reply_of q words)) other)
