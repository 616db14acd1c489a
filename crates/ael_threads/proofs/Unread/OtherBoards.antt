-- An instruction that leaves the board alone, on two heaps with the same records: it does the same on both, and leaves the board as it was.
use Rattle.std.proofs.Common.{◌≡◌, ℕ, Bool, true, false, cond, Option, Some, None, Result, Ok, Err, refl}
use Rattle.std.specs.Bool.{⊤}
use Rattle.std.specs.Result.{IfOk}
use Rattle.plain_state.specs.declared.end.End.{End}
use Rattle.plain_state.specs.declared.value.Identity.{Identity}
use Rattle.plain_state.specs.declared.value.Value.{Value}
use Rattle.plain_state.specs.declared.value.Value.TheVariants.{Number}
use Rattle.plain_state.specs.Operation.{applied}
use Rattle.plain_state.specs.State.{Heap, Mutator, Record, record_of}
use Rattle.plain_state.specs.Writing.{stored}
use Rattle.mutator_asm.specs.declared.instr.Instr.{Instr}
use Rattle.mutator_asm.specs.declared.instr.Instr.TheVariants as instrs
use Rattle.plain_heap.specs.declared.action.Action.{Action}
use Rattle.plain_heap.specs.declared.action.Action.TheVariants.{Loads, Stores, Compares, Gets, Puts, Swaps}
use Rattle.plain_heap.specs.Action.{◌>>=◌, action, are_same}
use Rattle.plain_heap.specs.Alone.{leaves_board}
use Rattle.plain_heap.specs.Call.{After, call, loads, may_hold, performed, store_in, value_in, went_on}
use Rattle.plain_heap.proofs.Alone.Alike.{Same, same-bind}
use Rattle.plain_heap.proofs.Calls.Named.{Names, Spells, named}
use Rattle.plain_heap.proofs.Calls.CallOutcomes.{computed}

-- the heap there with the records of this one
abbrev pub with_records_of : Heap → (there : Heap) → Heap
with_records_of heap there = record there { records = heap.records }

-- both times the mutator becomes the same, and so do the records; the first heap keeps its board
pub record KeepsBoard (heap : Heap) (a b : After) : Type 0 where
  pub mutator : b.mutator ≡ a.mutator
  pub records : b.heap.records ≡ a.heap.records
  pub board : a.heap.board ≡ heap.board

module _ (m : ℕ) (heap there : Heap) (k : Mutator) where
  abbrev other : Heap
  other = with_records_of heap there

  abbrev DoTheSame : Result After End → Result After End → Type 0
  DoTheSame = Same (KeepsBoard heap)

  stored_same : (i : Identity) (r : Record) (x : ℕ) (o : Result Value End)
      → DoTheSame ((o >>= (λ v. Ok (stored heap i r x v))) >>= (λ h. Ok (record { heap = h; mutator = went_on k })))
      ((o >>= (λ v. Ok (stored other i r x v))) >>= (λ h. Ok (record { heap = h; mutator = went_on k })))
  stored_same i r x (Ok v) = record { mutator = refl; records = refl; board = refl }
  stored_same i r x (Err why) = refl

  stores_same : (i : Identity) (o : Option Record) (x : ℕ) (v : Value)
      → DoTheSame (store_in heap i o x v >>= (λ h. Ok (record { heap = h; mutator = went_on k }))) (store_in other i o x v >>= (λ h. Ok (record { heap = h; mutator = went_on k })))
  stores_same i None x v = refl
  stores_same i (Some r) x v = stored_same i r x (may_hold r.kind x v)

  exchanged_same : (d : ℕ) (i : Identity) (r : Record) (x : ℕ) (same : Bool) (o : Result Value End)
      → DoTheSame ((o >>= (λ v. Ok (stored heap i r x v))) >>= (λ h. Ok (cond same (loads h k d (Number 1)) (loads heap k d (Number 0)))))
      ((o >>= (λ v. Ok (stored other i r x v))) >>= (λ h. Ok (cond same (loads h k d (Number 1)) (loads other k d (Number 0)))))
  exchanged_same d i r x true (Ok v) = record { mutator = refl; records = refl; board = refl }
  exchanged_same d i r x false (Ok v) = record { mutator = refl; records = refl; board = refl }
  exchanged_same d i r x same (Err why) = refl

  exchanges_same : (d : ℕ) (i : Identity) (o : Option Record) (x : ℕ) (v : Value) (same : Bool)
      → DoTheSame (store_in heap i o x v >>= (λ h. Ok (cond same (loads h k d (Number 1)) (loads heap k d (Number 0)))))
      (store_in other i o x v >>= (λ h. Ok (cond same (loads h k d (Number 1)) (loads other k d (Number 0)))))
  exchanges_same d i None x v same = refl
  exchanges_same d i (Some r) x v same = exchanged_same d i r x same (may_hold r.kind x v)

  performed-same : (act : Action) → Names (λ v. ⊤) ⊥ k act → DoTheSame (performed m heap k act) (performed m other k act)
  performed-same (Loads d i x) is = same-bind (KeepsBoard heap) (value_in heap i x) _ _ (λ v at. record { mutator = refl; records = refl; board = refl })
  performed-same (Stores i x v) is = same-bind (KeepsBoard heap) (value_in heap i x) _ _ (λ old at. stores_same i (record_of heap i) x v)
  performed-same (Compares d i x expected v) is = same-bind (KeepsBoard heap) (value_in heap i x) _ _ (λ found at. exchanges_same d i (record_of heap i) x v (are_same found expected))
  performed-same (Gets d x) is = absurd is.0
  performed-same (Puts x v) is = absurd is.0
  performed-same (Swaps d x v) is = absurd is.0
  performed-same _ is = record { mutator = refl; records = refl; board = refl }

  spells : (i : Instr) → leaves_board i ≡ true → Spells (λ v. ⊤) ⊥ i
  spells (instrs.Get d x) leaves = cc
  spells (instrs.Put x a) leaves = cc
  spells (instrs.Swap d x) leaves = cc
  spells (instrs.Li d n) leaves = tt
  spells _ leaves = tt

  acts_as : (o : Result Action End) → IfOk o (Names (λ v. ⊤) ⊥ k) → DoTheSame (o >>= performed m heap k) (o >>= performed m other k)
  acts_as (Ok act) is = performed-same act is
  acts_as (Err why) is = refl

  pub call-same : (i : Instr) → leaves_board i ≡ true → DoTheSame (call m heap k i) (call m other k i)
  unfolding call
  call-same i leaves = acts_as (action k i) (named (λ v. ⊤) ⊥ k (λ r. tt) tt (λ b. tt) (λ operation a b is_a is_b. computed (applied operation a b)) i (spells i leaves))
