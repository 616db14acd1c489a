-- The task `concord`: the concordance of a text is made.
use Rattle.std.specs.Prelude.{◌≡◌, ℕ, true, false, List, []}
use Rattle.gc_worker.specs.declared.config.Config.{Config}
use Rattle.concordance_text.specs.MayBeFull.{MayBeFull}
use Rattle.concordance_text.specs.Rows.{IsConcordanceOf}
use Rattle.concordance_text.specs.Words.{HasShortWords, IsFirstTooLong}
use Rattle.ael_jobs.specs.declared.arguments.options.ConcordOptions.{ConcordOptions}
use Rattle.ael_jobs.specs.declared.status.Status.{Status}
use Rattle.ael_jobs.specs.declared.status.Status.TheVariants.{Done, HeapFull, LongWord, NoMemory}
use Rattle.ael_jobs.specs.Tasks.Task.{Everything, Task}

-- the heap, with all its pages in use from the start and one scanner
abbrev pub concord_config : ConcordOptions → Config
concord_config options = record { pages = options.pages; limit = options.pages; scanners = 1; snap = false }

-- a word of the text is too long, and the first line that has one is told
pub record TellsLongWord (text : List ℕ) (status : Status) : Type 0 where
  pub line : ℕ
  pub first : IsFirstTooLong text line
  pub told : status ≡ LongWord line

-- What is made of a text without such words: its concordance, or nothing, if a space of so many pages may be full for it.
pub data IsMadeOfText (pages : ℕ) (text output : List ℕ) (status : Status) : Type 0 where
  Concorded : (short : HasShortWords text) (is : IsConcordanceOf text output) (done : status ≡ Done) → IsMadeOfText pages text output status
  FoundFull : (asked room : ℕ) (short : HasShortWords text) (may : MayBeFull pages text asked room) (told : status ≡ HeapFull asked room) (silent : output ≡ [])
      → IsMadeOfText pages text output status

-- Why there is no concordance: a word is too long, the heap was told to be full, as it may be, or memory to be wanting.
pub data HasNoConcordance (pages : ℕ) (text : List ℕ) (status : Status) : Type 0 where
  HasLongWord : (long : TellsLongWord text status) → HasNoConcordance pages text status
  HasNoRoom : (asked room : ℕ) (short : HasShortWords text) (may : MayBeFull pages text asked room) (told : status ≡ HeapFull asked room) → HasNoConcordance pages text status
  HasNoMemory : (wanting : status ≡ NoMemory) → HasNoConcordance pages text status

-- it reads a text, and waits for the threads that make the concordance
abbrev pub concord_task : ConcordOptions → Task
concord_task options = record {
  reads = Everything;
  waits = true;
  IsRight = HasShortWords;
  Refuses = TellsLongWord;
  Makes = IsMadeOfText options.pages;
}
