-- The histories of a heap that has one mutator: its plain states, and how many flips there are.
use Rattle.std.specs.Prelude.{◌≡◌, ◌+◌, ◌≤◌, true, List, length}
use Rattle.plain_state.specs.State.{Plain, serial_of}
use Rattle.gc_worker.specs.declared.calls.call.Call.{Call}
use Rattle.gc_worker.specs.declared.calls.did.Did.TheVariants.{Done}
use Rattle.gc_worker.specs.declared.calls.entry.Entry.{Entry}
use Rattle.gc_worker.specs.History.Legal.{IsLegal, after_all, calls_of}
use Rattle.gc_worker.specs.History.Tally.{EachEntry, EntryIs, Sizes, Tasks, tally}
use Rattle.ael_threads.specs.declared.view.Plan.{Plan}
use Rattle.ael_threads.specs.Alone.{alone_history}
use Rattle.ael_threads.specs.Histories.{AreSizesOf, first_plain, opening_tally}
use Rattle.ael_threads.specs.Unread.{EachCall}
use Rattle.concordance.specs.NoCells.{HasNoCells, MakesNoCell}

-- the call was executed
abbrev pub WasDone : Call → Type 0
WasDone c = c.did ≡ Done

-- the plain state is that after the mutator's calls alone, if it makes no cell
abbrev pub LoneHistories : Type 0
LoneHistories = (p : Plain) (log : List Entry) → length p.mutators ≡ 1 → HasNoCells p → EachCall MakesNoCell log → IsLegal p log
    → after_all p log ≡ after_all p (alone_history (calls_of 0 log))

-- if a flip came since its last call, nothing has changed since that flip, if it makes no cell
abbrev pub LoneFlipsAreNow : Type 0
LoneFlipsAreNow = (plan : Plan) (log : List Entry) → plan.mutators ≡ 1 → EachCall MakesNoCell log → IsLegal (first_plain plan) log → (tally (opening_tally plan) log).since 0 ≡ true
    → (tally (opening_tally plan) log).flip ≡ (tally (opening_tally plan) log).now

-- all pages of its spaces are in use from the beginning
abbrev pub IsWhole : Plan → Type 0
IsWhole plan = plan.least ≡ plan.spaces.pages

-- if each call was executed, and all pages are in use from the beginning, no more flips came than it has made records, and one more
abbrev pub LoneFlipsAreFew : Type 0
LoneFlipsAreFew = (plan : Plan) (z : Sizes) (tasks : Tasks) (log : List Entry) → plan.mutators ≡ 1 → IsWhole plan → AreSizesOf plan z → IsLegal (first_plain plan) log → EachCall WasDone log
    → EachEntry (EntryIs z tasks) (opening_tally plan) log → (tally (opening_tally plan) log).flips ≤ serial_of (tally (opening_tally plan) log).now.heap 0 + 1
