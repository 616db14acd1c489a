-- Who may execute an instruction, by whether it prints, and that this stays.
use Rattle.std.proofs.Common.{◌≡◌, ℕ, Bool, true, false, List, Option, Some, None, refl, sym, ap, subst, ◌∙◌}
use Rattle.atom_store.specs.declared.step.Step.{Step}
use Rattle.atom_store.specs.Step.{reply_of}
use Rattle.mutator_asm.specs.declared.instr.Instr.{Instr}
use Rattle.mutator_asm.specs.declared.instr.Instr.TheVariants.{Out}
use Rattle.gc_worker.specs.Workers.Held.{Held}
use Rattle.gc_worker.specs.Steps.Made.{step_made, step_made_by}
use Rattle.gc_worker.specs.Steps.Stepped.{IsSound, MayExecute, MayIf, is_output, uncounted}
use Rattle.gc_worker.specs.Steps.Wanted.{wanted}
use Rattle.gc_worker.proofs.Between.KeptTasks.{workers_go_on}

-- who may print may execute all
pub may_execute_all : (prints : Bool) (instr : Instr) → prints ≡ true → MayExecute prints instr
may_execute_all prints instr may = by_output (is_output instr)
  where
    by_output : (asks : Bool) → MayIf asks prints
    by_output true = may
    by_output false = tt

-- all may execute what prints nothing
pub may_execute_silent : (prints : Bool) (instr : Instr) → is_output instr ≡ false → MayExecute prints instr
may_execute_silent prints instr silent = subst (λ (asks : Bool). MayIf asks prints) (sym silent) tt

-- what is so of an instruction, but of none that prints
pub prints_nothing : (P : Instr → Type 0) → ((a : ℕ) → P (Out a) → ⊥) → (instr : Instr) → P instr → is_output instr ≡ false
prints_nothing P never (Out a) is = absurd (never a is)
prints_nothing P never _ is = refl

-- a step doesn't change whether a worker may print
pub made_prints : (x y : Held) (words : List ℕ) → IsSound x → y ≡ uncounted (step_made x words).held → y.prints ≡ x.prints
made_prints x y words sound is = ap (λ (z : Held). z.prints) is ∙ by_step (wanted x)
  where
    by_step : (step : Option Step) → (step_made_by x words step).held.prints ≡ x.prints
    by_step None = refl
    by_step (Some q) = (workers_go_on x.layout.pages x.mutators x.number x (reply_of q words) sound).prints
