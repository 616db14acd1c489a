-- What a call of `concord` comes to if no end fails.
use Rattle.std.specs.Prelude.{◌≡◌, ◌⊎◌, ℕ, ◌+◌, ◌*◌, ◌≤◌, List, [], length}
use Rattle.plain_state.specs.declared.sizes.TheConstants.{PAGE_WORDS}
use Rattle.concordance_text.specs.MayBeFull.{MayBeFull}
use Rattle.concordance_text.specs.Rows.{AreRowsOf, IsConcordanceOf, WordRow, need}
use Rattle.concordance_text.specs.Words.{HasShortWords, IsFirstTooLong, mentions_of}
use Rattle.ael_jobs.specs.declared.arguments.job.Job.TheVariants.{Concord}
use Rattle.ael_jobs.specs.declared.arguments.options.ConcordOptions.{ConcordOptions}
use Rattle.ael_jobs.specs.declared.status.Status.{Status}
use Rattle.ael_jobs.specs.declared.status.Status.TheVariants.{Done, HeapFull, LongWord, NoMemory}
use Rattle.ael_jobs.specs.Calls.Call.{Call}
use Rattle.ael_jobs.specs.Calls.Status.{status_code, status_line}
use Rattle.ael_jobs.specs.Calls.Success.{NoEndFails}
use Rattle.ael_jobs.specs.Streams.Stream.{Grows}

-- the bytes held grow by the text's concordance
pub record ConcordanceIsPrinted (call : Call) (text : List ℕ) : Type 0 where
  pub output : List ℕ
  pub is : IsConcordanceOf text output
  pub prints : Grows call.out.held output call.out.holds

-- if the exit status of `concord` is 0, it prints the concordance of its input
abbrev pub PrintsConcordance : Call → Type 0
PrintsConcordance call = (options : ConcordOptions) (text : List ℕ) → NoEndFails call (Concord options) text → call.code ≡ 0 → ConcordanceIsPrinted call text

-- ---- how it may end

-- `out` gets this output, `err` the line of this status, and the exit status is its code
pub record CallTells (call : Call) (output : List ℕ) (status : Status) : Type 0 where
  pub printed : Grows call.out.held output call.out.holds
  pub told : Grows call.err.held (status_line status) call.err.holds
  pub code_is : call.code ≡ status_code status

-- The exit status is 0, and the concordance is printed; or 1, and the first line is told that has a word that is too long; or 3, and a full
-- heap is told, of spaces that may be full for the text; or 7, and that memory is wanting. But for 0 there is no output.
pub data ConcordEnd (call : Call) (options : ConcordOptions) (text : List ℕ) : Type 0 where
  ConcordanceTold : (output : List ℕ) (short : HasShortWords text) (is : IsConcordanceOf text output) (told : CallTells call output Done) → ConcordEnd call options text
  LongWordTold : (line : ℕ) (first : IsFirstTooLong text line) (told : CallTells call [] (LongWord line)) → ConcordEnd call options text
  HeapFullTold : (asked room : ℕ) (short : HasShortWords text) (may : MayBeFull options.pages text asked room) (told : CallTells call [] (HeapFull asked room))
      → ConcordEnd call options text
  NoMemoryTold : (told : CallTells call [] NoMemory) → ConcordEnd call options text

-- `concord` ends in one of these ways
abbrev pub ConcordEnds : Call → Type 0
ConcordEnds call = (options : ConcordOptions) (text : List ℕ) → NoEndFails call (Concord options) text → ConcordEnd call options text

-- ---- how large a heap it needs

-- A space of so many pages suffices for the text's concordance: it has four pages for each word of the text and two, or two pages more than
-- the text's rows need.
pub data SufficesFor (pages : ℕ) (text : List ℕ) : Type 0 where
  ByWords : (large : 4 * length (mentions_of text) + 2 ≤ pages) → SufficesFor pages text
  ByRows : (rows : List WordRow) (are : AreRowsOf (mentions_of text) rows) (large : need rows + 2 * PAGE_WORDS ≤ PAGE_WORDS * pages) → SufficesFor pages text

-- if it does, and no word is too long, `concord` ends with 0 or 7
abbrev pub LargeHeapsSuffice : Call → Type 0
LargeHeapsSuffice call = (options : ConcordOptions) (text : List ℕ) → NoEndFails call (Concord options) text → HasShortWords text → SufficesFor options.pages text
    → (call.code ≡ 0) ⊎ (call.code ≡ 7)
