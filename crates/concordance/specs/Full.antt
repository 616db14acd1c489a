-- A clerk that has the heap for itself finds it full only if its own records fill it.
use Rattle.std.specs.Prelude.{◌≡◌, ℕ, ◌+◌, ◌-◌, ◌*◌, ◌^◌, ◌<◌, ◌≤◌, List, length}
use Rattle.std.specs.List.{sum_by}
use Rattle.plain_state.specs.declared.end.End.TheVariants.{HeapFull}
use Rattle.plain_state.specs.declared.sizes.TheConstants.{PAGE_WORDS}
use Rattle.plain_state.specs.Layout.{size_of}
use Rattle.plain_state.specs.Reachable.{IsLive}
use Rattle.plain_state.specs.State.{Heap, Plain, made_by, serial_of}
use Rattle.mutator_asm.specs.declared.instr.Instr.{Instr}
use Rattle.gc_worker.specs.declared.calls.did.Did.TheVariants.{Trap}
use Rattle.gc_worker.specs.declared.task.Task.TheVariants.{Calls}
use Rattle.ael_threads.specs.declared.view.Plan.{Plan}
use Rattle.ael_threads.specs.Calls.{Called}
use Rattle.ael_threads.specs.Histories.{Each}
use Rattle.ael_threads.specs.Seats.{Seated, ShowsSeen, first_number, first_own}
use Rattle.concordance_text.specs.declared.letters.TheConstants.{MOST_LETTERS}
use Rattle.concordance_text.specs.Rows.{AreRowsOf, WordRow, need}
use Rattle.concordance_text.specs.Words.{Mention}
use Rattle.concordance.specs.Desk.{desk_size_made}
use Rattle.concordance.specs.Lone.{FindsFull, IsLone, KeepsSeat, alone_by, desk_of}
use Rattle.concordance.specs.OneMutator.{IsWhole, WasDone}

-- the words that all records take which mutator m has made
abbrev pub words_made : Heap → (m : ℕ) → ℕ
words_made heap m = sum_by size_of (made_by heap m)

-- if one mutator has made all records, what is live takes no more words than they do
abbrev pub LiveIsMade : Type 0
LiveIsMade = (p : Plain) (words : ℕ) → length p.heap.records ≡ 1 → IsLive p words → words ≤ words_made p.heap 0

-- each call of a clerk that has no end was executed
abbrev pub LoneCallsAreDone : Type 0
LoneCallsAreDone = (s : Seated) → IsLone s → ShowsSeen s.worker s.knows → Each WasDone (first_own s.knows.hands)

-- The heap has one mutator, the clerk's, whose calls so far were executed, and which has made fewer records than there can be flips; all pages
-- of its spaces are in use from the beginning. If its next call finds the heap full, its records and the room that is left are at least the words of a space.
abbrev pub LoneFullsAreFilled : Type 0
LoneFullsAreFilled = (a b : Seated) (i : Instr) (asked room live : ℕ) → IsLone a → a.knows.plan.mutators ≡ 1 → IsWhole a.knows.plan → first_number a.knows.hands ≡ 0
    → Each WasDone (first_own a.knows.hands) → serial_of (alone_by a).heap 0 + 1 < 2 ^ 32 - 1 → Called a (Calls i) (Trap (HeapFull asked room live)) b
    → PAGE_WORDS * a.knows.plan.spaces.pages ≤ room + words_made (alone_by a).heap 0

-- The heap was full for a record of at most 65 words, as one of 64 letters has, for which the clerk asked in one call. Since `a` it had made at
-- most so many records before that, of at most so many heap words.
pub record FindsFullWithin (a : Seated) (records words : ℕ) (asked room : ℕ) : Type 0 where
  pub here : Seated
  pub then : Seated
  pub instr : Instr
  pub seat : KeepsSeat a here
  pub lone : IsLone here
  pub shows : ShowsSeen here.worker here.knows
  pub full : FindsFull here instr asked room then
  pub short : desk_size_made instr ≤ MOST_LETTERS + 1
  pub few_records : length (desk_of here).records ≤ length (desk_of a).records + records
  pub few_words : sum_by size_of (desk_of here).records ≤ sum_by size_of (desk_of a).records + words

-- The heap was full for this clerk, which notes just these words, for a record of at most 65 words, for which it asked in one call. What it had
-- made so far is at most three records for each of the words, 74 heap words in all for each, and no more than the words' rows need.
pub record WasFullFor (plan : Plan) (number : ℕ) (mentions : List Mention) (asked room : ℕ) : Type 0 where
  pub here : Seated
  pub then : Seated
  pub instr : Instr
  pub plan_is : here.knows.plan ≡ plan
  pub number_is : first_number here.knows.hands ≡ number
  pub lone : IsLone here
  pub shows : ShowsSeen here.worker here.knows
  pub full : FindsFull here instr asked room then
  pub short : desk_size_made instr ≤ MOST_LETTERS + 1
  pub few_records : length (desk_of here).records ≤ 3 * length mentions
  pub few_words : sum_by size_of (desk_of here).records ≤ 74 * length mentions
  pub needed : (rows : List WordRow) → AreRowsOf mentions rows → sum_by size_of (desk_of here).records ≤ need rows
