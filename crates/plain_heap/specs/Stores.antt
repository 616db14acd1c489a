-- What the steps of an order have to do with one word of a record: a load gets what the last store wrote, and an exchange compares with it.
use Rattle.std.specs.Prelude.{◌≡◌, ℕ, List, [], ◌∷◌, ◌++◌, Option, Some, None, Ok, slice_get}
use Rattle.std.specs.Option.{option_and_then, option_map_or}
use Rattle.std.specs.Result.{result_ok}
use Rattle.plain_state.specs.declared.end.End.{End}
use Rattle.plain_state.specs.declared.value.Identity.{Identity}
use Rattle.plain_state.specs.declared.value.Value.{Value}
use Rattle.plain_state.specs.declared.value.Value.TheVariants.{Number}
use Rattle.plain_state.specs.State.{Heap, Mutator, Plain}
use Rattle.mutator_asm.specs.declared.instr.Instr.{Instr}
use Rattle.plain_heap.specs.declared.action.Action.{Action}
use Rattle.plain_heap.specs.declared.action.Action.TheVariants.{Loads, Compares}
use Rattle.plain_heap.specs.declared.mark.Mark.{Mark}
use Rattle.plain_heap.specs.declared.mark.Mark.TheVariants.{Step, Flip, Full, Traced}
use Rattle.plain_heap.specs.Action.{◌>>=◌, action}
use Rattle.plain_heap.specs.Call.{set_register, went_on, call}
use Rattle.plain_heap.specs.Order.{Story, first_story, plain, story_marked}
use Rattle.plain_heap.specs.Records.{loaded_there, record_word, success, word_after}
use Rattle.plain_heap.specs.Step.{fetch, mutator_in}

-- ---- actions

-- what mutator m, which is k, does at its turn: the action of its next instruction, if that is executed and no end comes in its place
abbrev pub turn_does : List (List Instr) → ℕ → (m : ℕ) → Heap → (k : Mutator) → Option End → Option Action
turn_does code turns m heap k (Some why) = None
turn_does code turns m heap k None = result_ok (do
  instr ← fetch code turns m k
  after ← call m heap k instr
  action k instr)

-- what a mark does
abbrev pub mark_does : List (List Instr) → ℕ → Plain → Mark → Option Action
mark_does code turns s (Step m) = option_and_then (λ k. turn_does code turns m s.heap k k.end) (mutator_in code s m)
mark_does code turns s (Flip asked) = None
mark_does code turns s (Full m asked room live) = None
mark_does code turns s Traced = None

-- a step of mutator m, which is this, does that
pub record StepDoes (code : List (List Instr)) (turns : ℕ) (s : Plain) (m : ℕ) (own : Mutator) (act : Action) : Type 0 where
  pub mutator : mutator_in code s m ≡ Some own
  pub does : turn_does code turns m s.heap own own.end ≡ Some act

-- ---- stores

-- what a mark leaves in the word of a record at this index, in which this stands
abbrev pub word_after_mark : List (List Instr) → ℕ → Plain → Mark → Identity → (index : ℕ) → Value → Value
word_after_mark code turns s mark identity index now = option_map_or (λ act. word_after (Ok act) identity index now) (mark_does code turns s mark) now

-- what the last store of these marks in that word wrote there; if there is none, what stood there first
abbrev pub last_in_order : List (List Instr) → ℕ → Story → List Mark → Identity → (index : ℕ) → (first : Value) → Value
last_in_order code turns s [] identity index first = first
last_in_order code turns s (mark ∷ marks) identity index first =
    last_in_order code turns (story_marked code turns s mark) marks identity index (word_after_mark code turns s.now mark identity index first)

-- what the last store of an order in that word wrote there; if there is none, the number 0
abbrev pub last_store : List (List Instr) → ℕ → List Mark → Identity → (index : ℕ) → Value
last_store code turns order identity index = last_in_order code turns (first_story code) order identity index (Number 0)

-- after an order each word of each record is what was stored last in it
abbrev pub OrdersStoreWords : Type 0
OrdersStoreWords = (code : List (List Instr)) (turns : ℕ) (order : List Mark) (identity : Identity) (index : ℕ)
    → record_word (plain code turns order).heap identity index ≡ last_store code turns order identity index

-- ---- loads and exchanges

-- A load gets what was stored there last before it, or the value of a cell: its mutator goes on with that in the register.
abbrev pub StepsLoadTheLastStore : Type 0
StepsLoadTheLastStore = (code : List (List Instr)) (turns : ℕ) (front : List Mark) (m : ℕ) (own : Mutator) (register : ℕ) (identity : Identity) (index : ℕ)
    → StepDoes code turns (plain code turns front) m own (Loads register identity index)
    → slice_get (plain code turns (front ++ Step m ∷ [])).mutators m ≡ Some (went_on (set_register own register (loaded_there (plain code turns front).heap identity index (last_store code turns front identity index))))

-- An exchange finds what was stored there last before it: if that is what it expects, its mutator goes on with 1 in the register, else with 0.
abbrev pub StepsCompareTheLastStore : Type 0
StepsCompareTheLastStore = (code : List (List Instr)) (turns : ℕ) (front : List Mark) (m : ℕ) (own : Mutator) (register : ℕ) (identity : Identity) (index : ℕ) (expected new : Value)
    → StepDoes code turns (plain code turns front) m own (Compares register identity index expected new)
    → slice_get (plain code turns (front ++ Step m ∷ [])).mutators m ≡ Some (went_on (set_register own register (success (last_store code turns front identity index) expected)))
