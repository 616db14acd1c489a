-- What an instruction leaves as it was, and the record that it makes.
use Rattle.std.proofs.Common.{◌≡◌, ◌≢◌, ℕ, length, Option, Some, None, Result, Ok, Err, slice_get, refl, sym, length-set}
use Rattle.std.specs.Result.{IfOk}
use Rattle.std.proofs.lemmas.Option.{same_Some}
use Rattle.plain_state.specs.declared.end.End.{End}
use Rattle.plain_state.specs.declared.value.Identity.{Identity}
use Rattle.plain_state.specs.declared.value.Value.{Value}
use Rattle.plain_state.specs.declared.value.Value.TheVariants.{Number}
use Rattle.plain_state.specs.State.{Record, Heap, Mutator, Plain, record_of, serial_of}
use Rattle.plain_state.specs.Writing.{stored}
use Rattle.plain_state.proofs.Elements.{slice_get-set_other}
use Rattle.plain_state.proofs.Stored.{stored_serial}
use Rattle.plain_heap.specs.declared.action.Action.{Action}
use Rattle.plain_heap.specs.declared.action.Action.TheVariants.{Makes, Loads, Stores, Compares}
use Rattle.plain_heap.specs.Action.{◌>>=◌, action}
use Rattle.plain_heap.specs.Call.{After, value_in, may_hold, store_in, filled, set_register, performed, call, went_on}
use Rattle.plain_heap.specs.Calls.{CallLeavesOthers, CallKeepsCount, CallMakesNewRecord, IsMadeBy, NewRecordIsMade, ElseNoneIsMade, AsksForNewRecord}
use Rattle.plain_heap.specs.Step.{settled, record_made}
use Rattle.plain_heap.proofs.Calls.CallOutcomes.{if_ok-bind, if_ok-is, performed_exchange}

-- ---- the other mutators

settled-others : (s : Plain) (m j : ℕ) (k : Mutator) (o : Result After End) → j ≢ m → slice_get (settled s m k o).mutators j ≡ slice_get s.mutators j
settled-others s m j k (Ok after) other = slice_get-set_other s.mutators m j after.mutator other
settled-others s m j k (Err why) other = slice_get-set_other s.mutators m j (record k { end = Some why }) other

pub settled-count : (s : Plain) (m : ℕ) (k : Mutator) (o : Result After End) → length (settled s m k o).mutators ≡ length s.mutators
settled-count s m k (Ok after) = length-set s.mutators m after.mutator
settled-count s m k (Err why) = length-set s.mutators m (record k { end = Some why })

pub call-others : CallLeavesOthers
call-others s m j k instr other = settled-others s m j k (call m s.heap k instr) other

pub call-count : CallKeepsCount
call-count s m k instr = settled-count s m k (call m s.heap k instr)

-- ---- new records

pub call-makes : CallMakesNewRecord
unfolding call
call-makes m heap k instr kind d n v is = rw is (refl, refl)

made_as : (o : Result Action End) (r : Record) → record_made o ≡ Some r → IsMadeBy o r
made_as (Ok (Makes kind d n v)) r is = record { kind = kind; register = d; len = n; value = v; makes = refl; is = sym (same_Some (filled kind n v) r is) }
made_as _ r is = cc

pub new_record-made : NewRecordIsMade
new_record-made k instr r is = made_as (action k instr) r is

module _ (m j : ℕ) (heap : Heap) (k : Mutator) where
  abbrev MakesNone : After → Type 0
  MakesNone after = serial_of after.heap j ≡ serial_of heap j

  stores-none : (l : Mutator) (i : Identity) (o : Option Record) (x : ℕ) (v : Value) → record_of heap i ≡ o → IfOk (store_in heap i o x v >>= (λ h. Ok (record { heap = h; mutator = l }))) MakesNone
  stores-none l i None x v found = tt
  stores-none l i (Some r) x v found = held-none (may_hold r.kind x v)
    where
      held-none : (o : Result Value End) → IfOk ((o >>= (λ v. Ok (stored heap i r x v))) >>= (λ h. Ok (record { heap = h; mutator = l }))) MakesNone
      held-none (Ok v) = stored_serial heap i r x v found j
      held-none (Err why) = tt

  performed-none : (act : Action) → record_made (Ok act) ≡ None → IfOk (performed m heap k act) MakesNone
  performed-none (Makes kind d n v) none = cc
  performed-none (Loads d i x) none = if_ok-bind MakesNone (value_in heap i x) _ (λ v. refl)
  performed-none (Stores i x v) none = if_ok-bind MakesNone (value_in heap i x) _ (λ old. stores-none (went_on k) i (record_of heap i) x v refl)
  performed-none (Compares d i x expected new) none =
      performed_exchange m heap k d i x expected new MakesNone refl (stores-none (went_on (set_register k d (Number 1))) i (record_of heap i) x new refl)
  performed-none _ none = refl

  none_as : (o : Result Action End) → record_made o ≡ None → IfOk (o >>= performed m heap k) MakesNone
  none_as (Ok act) none = performed-none act none
  none_as (Err why) none = tt

pub call-none : ElseNoneIsMade
unfolding call
call-none m j heap k instr after none is = if_ok-is (λ after. serial_of after.heap j ≡ serial_of heap j) (call m heap k instr) after (none_as m j heap k (action k instr) none) is

pub asks-new_record : AsksForNewRecord
asks-new_record code turns m k instr is = rw is refl
