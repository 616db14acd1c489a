-- What the calls of a history have to do with one record: a load gets what the last store wrote, an exchange compares with it, and
-- no record's kind or length changes.
use Rattle.std.specs.Prelude.{◌≡◌, ℕ, List, [], ◌∷◌, ◌++◌, Option, Some, Ok, slice_get}
use Rattle.plain_state.specs.declared.value.Identity.{Identity}
use Rattle.plain_state.specs.declared.value.Value.{Value}
use Rattle.plain_state.specs.declared.value.Value.TheVariants.{Number}
use Rattle.plain_state.specs.State.{Mutator, Plain}
use Rattle.mutator_asm.specs.declared.instr.Instr.{Instr}
use Rattle.plain_heap.specs.declared.action.Action.{Action}
use Rattle.plain_heap.specs.declared.action.Action.TheVariants.{Loads, Compares}
use Rattle.plain_heap.specs.Action.{action}
use Rattle.plain_heap.specs.Call.{set_register, went_on}
use Rattle.plain_heap.specs.Records.{RecordShape, loaded_there, record_word, shape_of, success, word_after}
use Rattle.heap_laws.specs.Opening.{opening_plain}
use Rattle.gc_worker.specs.declared.calls.call.Call.{Call}
use Rattle.gc_worker.specs.declared.calls.did.Did.{Did}
use Rattle.gc_worker.specs.declared.calls.did.Did.TheVariants.{Done}
use Rattle.gc_worker.specs.declared.calls.entry.Entry.{Entry}
use Rattle.gc_worker.specs.declared.calls.entry.Entry.TheVariants.{Made, Exchanged, Emptied}
use Rattle.gc_worker.specs.declared.task.Task.{Task}
use Rattle.gc_worker.specs.declared.task.Task.TheVariants.{Calls}
use Rattle.gc_worker.specs.History.Legal.{IsLegal, after_all, after_call}
use Rattle.gc_worker.specs.Plain.Answer.{with_emptied}

-- ---- stores

-- what a mutator's task leaves in the word of a record at this index, in which this stands: an instruction that has its effect may store there
abbrev pub word_after_task : Option Mutator → Task → Did → Identity → (index : ℕ) → Value → Value
word_after_task (Some mutator) (Calls instr) Done identity index now = word_after (action mutator instr) identity index now
word_after_task _ task did identity index now = now

-- what a call leaves there
abbrev pub word_after_call : Plain → Call → Identity → (index : ℕ) → Value → Value
word_after_call plain call identity index now = word_after_task (slice_get plain.mutators call.by) call.task call.did identity index now

-- what the last store of a history in the word of a record at this index wrote there; if there is none, what stood there first
abbrev pub last_stored : Plain → List Entry → Identity → (index : ℕ) → (first : Value) → Value
last_stored plain [] identity index first = first
last_stored plain (Made call ∷ entries) identity index first =
    last_stored (after_call plain call) entries identity index (word_after_call plain call identity index first)
last_stored plain (Exchanged by asked ∷ entries) identity index first = last_stored plain entries identity index first
last_stored plain (Emptied cells ∷ entries) identity index first = last_stored (with_emptied plain cells) entries identity index first

-- in a legal history each word of each record is what was stored last in it
abbrev pub WordsAreStored : Type 0
WordsAreStored = (plain : Plain) (log : List Entry) (identity : Identity) (index : ℕ) → IsLegal plain log
    → record_word (after_all plain log).heap identity index ≡ last_stored plain log identity index (record_word plain.heap identity index)

-- before the first call of a new heap, which has no records, each word counts as the number 0
abbrev pub WordsBeginAsZero : Type 0
WordsBeginAsZero = (mutators : ℕ) (identity : Identity) (index : ℕ) → record_word (opening_plain mutators).heap identity index ≡ Number 0

-- ---- loads and exchanges

-- the call is an instruction of this mutator that had its effect, which was to do that
pub record CallDoes (plain : Plain) (call : Call) (own : Mutator) (act : Action) : Type 0 where
  pub mutator : slice_get plain.mutators call.by ≡ Some own
  pub instr : Instr
  pub task : call.task ≡ Calls instr
  pub does : action own instr ≡ Ok act
  pub done : call.did ≡ Done

-- In a legal history a load gets what was stored there last before it, or the value of a cell: its mutator goes on with that in the register.
abbrev pub LoadsGetTheLastStore : Type 0
LoadsGetTheLastStore = (plain : Plain) (front rest : List Entry) (call : Call) (own : Mutator) (register : ℕ) (identity : Identity) (index : ℕ)
    → IsLegal plain (front ++ Made call ∷ rest) → CallDoes (after_all plain front) call own (Loads register identity index)
    → slice_get (after_all plain (front ++ Made call ∷ [])).mutators call.by
    ≡ Some (went_on (set_register own register (loaded_there (after_all plain front).heap identity index (last_stored plain front identity index (record_word plain.heap identity index)))))

-- An exchange finds what was stored there last before it: if that is what it expects, its mutator goes on with 1 in the register, else with 0.
abbrev pub ExchangesFindTheLastStore : Type 0
ExchangesFindTheLastStore = (plain : Plain) (front rest : List Entry) (call : Call) (own : Mutator) (register : ℕ) (identity : Identity) (index : ℕ) (expected new : Value)
    → IsLegal plain (front ++ Made call ∷ rest) → CallDoes (after_all plain front) call own (Compares register identity index expected new)
    → slice_get (after_all plain (front ++ Made call ∷ [])).mutators call.by
    ≡ Some (went_on (set_register own register (success (last_stored plain front identity index (record_word plain.heap identity index)) expected)))

-- ---- kinds and lengths

-- a record that a history has made is there after each history that goes on from there, with its kind and its length
abbrev pub RecordsKeepTheirShape : Type 0
RecordsKeepTheirShape = (plain : Plain) (front rest : List Entry) (identity : Identity) (known : RecordShape) → shape_of (after_all plain front).heap identity ≡ Some known
    → shape_of (after_all plain (front ++ rest)).heap identity ≡ Some known
