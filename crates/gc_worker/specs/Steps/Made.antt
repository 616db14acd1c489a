-- What a worker's next step is on the words that all share, where its own code makes it.
use Rattle.std.specs.Prelude.{ℕ, ◌<◌, ⊤, List, length, Option, Some, None}
use Rattle.atom_store.specs.declared.step.Step.{Step}
use Rattle.atom_store.specs.Step.{place_in, words_after, reply_of}
use Rattle.gc_worker.specs.declared.steps.stepped.Stepped.{Stepped}
use Rattle.gc_worker.specs.declared.steps.stepped.Stepped.TheVariants.{Idle}
use Rattle.gc_worker.specs.Workers.Fits.{Takes}
use Rattle.gc_worker.specs.Workers.Held.{Held}
use Rattle.gc_worker.specs.Steps.Stepped.{IsSound, stepped_by}
use Rattle.gc_worker.specs.Steps.Turned.{told, turned}
use Rattle.gc_worker.specs.Steps.Wanted.{wanted}

-- the worker and the words after it, and what is told of it
pub record Made : Type 0 where
  pub held : Held
  pub words : List ℕ
  pub told : Stepped

-- a worker makes this step, or none
abbrev pub step_made_by : Held → List ℕ → Option Step → Made
step_made_by x words None = record { held = x; words = words; told = Idle }
step_made_by x words (Some q) = record {
  held = turned x (reply_of q words);
  words = words_after q words;
  told = stepped_by x.number (told x (reply_of q words));
}

abbrev pub step_made : Held → List ℕ → Made
step_made x words = step_made_by x words (wanted x)

-- the words have the step's place, and the worker may take the reply and is sound then
pub record Allows (x : Held) (words : List ℕ) (q : Step) : Type 0 where
  pub place : place_in q < length words
  pub takes : Takes x (reply_of q words)
  pub fits : IsSound (turned x (reply_of q words))

abbrev pub AllowsStep : Held → List ℕ → Option Step → Type 0
AllowsStep x words None = ⊤
AllowsStep x words (Some q) = Allows x words q

-- what a worker asks of the words on which it makes its next step
abbrev pub MayMake : Held → List ℕ → Type 0
MayMake x words = AllowsStep x words (wanted x)
