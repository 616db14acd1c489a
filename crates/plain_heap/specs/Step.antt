-- One step of a mutator on the plain machine.
use Rattle.std.specs.Prelude.{ℕ, ◌+◌, ◌-◌, ◌/◌, List, Option, Some, None, Result, Ok, Err, length, nat_le, nat_lt, if◌then◌else◌, slice_get, slice_set}
use Rattle.std.specs.Option.{ok_or, option_and_then, option_map}
use Rattle.std.specs.Result.{result_ok}
use Rattle.plain_state.specs.declared.end.End.{End}
use Rattle.plain_state.specs.declared.end.End.TheVariants.{JumpOut, TurnsOut}
use Rattle.plain_state.specs.declared.sizes.TheConstants.{PAGE_WORDS}
use Rattle.plain_state.specs.Layout.{size_of}
use Rattle.plain_state.specs.State.{Record, Heap, Mutator, Plain}
use Rattle.mutator_asm.specs.declared.instr.Instr.{Instr}
use Rattle.mutator_asm.specs.Program.{instr_at}
use Rattle.plain_heap.specs.declared.action.Action.{Action}
use Rattle.plain_heap.specs.declared.action.Action.TheVariants.{Makes}
use Rattle.plain_heap.specs.Action.{◌>>=◌, action}
use Rattle.plain_heap.specs.Call.{After, call, filled}

-- the instruction that a mutator executes next, or the end that stands in its place
abbrev pub fetch : List (List Instr) → ℕ → ℕ → Mutator → Result Instr End
fetch code turns m k = if nat_le turns k.executed then Err TurnsOut else ok_or (instr_at code m k.counter) JumpOut

-- what the next step of a mutator without an end does
abbrev pub executes : List (List Instr) → ℕ → ℕ → Heap → Mutator → Result After End
executes code turns m heap k = do
  i ← fetch code turns m k
  call m heap k i

-- the mutator gets its end, and all else stays
abbrev pub ended : Plain → ℕ → Mutator → End → Plain
ended s m k why = record s { mutators = slice_set s.mutators m (record k { end = Some why }) }

-- the state after a step of mutator m, which was k
abbrev pub settled : Plain → ℕ → Mutator → Result After End → Plain
settled s m k (Ok after) = record { heap = after.heap; mutators = slice_set s.mutators m after.mutator }
settled s m k (Err why) = ended s m k why

-- where a mutator has its end nothing changes
abbrev pub stepped_if : List (List Instr) → ℕ → Plain → ℕ → Mutator → Option End → Plain
stepped_if code turns s m k (Some why) = s
stepped_if code turns s m k None = settled s m k (executes code turns m s.heap k)

abbrev pub stepped_as : List (List Instr) → ℕ → Plain → ℕ → Option Mutator → Plain
stepped_as code turns s m None = s
stepped_as code turns s m (Some k) = stepped_if code turns s m k k.end

-- mutator m, where the program and the state have it
abbrev pub mutator_in : List (List Instr) → Plain → ℕ → Option Mutator
mutator_in code s m = if nat_lt m (length code) then slice_get s.mutators m else None

-- a step of mutator m; where there is no such mutator nothing changes
unfoldable pub stepped : List (List Instr) → ℕ → Plain → ℕ → Plain
stepped code turns s m = stepped_as code turns s m (mutator_in code s m)

-- ---- the room that the next step asks for

-- the record that an action makes
abbrev pub record_made : Result Action End → Option Record
record_made (Ok (Makes kind d n v)) = Some (filled kind n v)
record_made _ = None

-- the record that an instruction would allocate
abbrev pub new_record : Mutator → Instr → Option Record
new_record k instr = record_made (action k instr)

-- the pages that so many words take
abbrev pub pages_for : (size : ℕ) → ℕ
pages_for size = (size + (PAGE_WORDS - 1)) / PAGE_WORDS

-- the pages that a record takes with its header
abbrev pub pages_of : Record → ℕ
pages_of r = pages_for (size_of r)

abbrev pub asked_if : List (List Instr) → ℕ → ℕ → Mutator → Option End → Option ℕ
asked_if code turns m k (Some why) = None
asked_if code turns m k None = option_map pages_of (option_and_then (new_record k) (result_ok (fetch code turns m k)))

-- the pages that the record would take which mutator m's next step would allocate
unfoldable pub asked_by : List (List Instr) → ℕ → Plain → ℕ → Option ℕ
asked_by code turns s m = option_and_then (λ k. asked_if code turns m k k.end) (slice_get s.mutators m)
