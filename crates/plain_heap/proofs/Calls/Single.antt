-- What single instructions leave, if their operands are what they ask for.
use Rattle.std.proofs.Common.{◌≡◌, ℕ, ◌+◌, ◌<◌, ◌≤◌, length, Some, Ok, Err, slice_index_or, refl}
use Rattle.std.proofs.lemmas.Bool.{le-leb, lt-ltb}
use Rattle.plain_state.specs.declared.end.End.{End}
use Rattle.plain_state.specs.declared.kind.Kind.TheVariants.{Fields, Raw, Mixed}
use Rattle.plain_state.specs.declared.sizes.TheConstants.{BOARD_WORDS, LONGEST_RECORD}
use Rattle.plain_state.specs.declared.value.Identity.{Identity}
use Rattle.plain_state.specs.declared.value.Value.{Value}
use Rattle.plain_state.specs.declared.value.Value.TheVariants.{Number, Reference}
use Rattle.plain_state.specs.Operation.{one_if}
use Rattle.plain_state.specs.State.{Heap, Mutator, Record, record_of}
use Rattle.plain_state.specs.Writing.{stored, with_board}
use Rattle.mutator_asm.specs.declared.instr.Instr.TheVariants as instrs
use Rattle.mutator_asm.specs.declared.operand.Operand.TheVariants as operands
use Rattle.plain_heap.specs.Action.{action, are_same, register}
use Rattle.plain_heap.specs.Call.{allocated, board_word, call, loads, may_hold, values_of, went_on}

module _ (m : ℕ) (heap : Heap) (k : Mutator) where
  pub call-li : (d n : ℕ) → call m heap k (instrs.Li d n) ≡ Ok (loads heap k d (Number n))
  unfolding call action
  call-li d n = refl

  pub call-mov : (d a : ℕ) → call m heap k (instrs.Mov d a) ≡ Ok (loads heap k d (register k a))
  unfolding call action
  call-mov d a = refl

  pub call-eq : (d a b : ℕ) → call m heap k (instrs.Eq d a b) ≡ Ok (loads heap k d (Number (one_if (are_same (register k a) (register k b)))))
  unfolding call action
  call-eq d a b = refl

  pub call-len : (d a : ℕ) (i : Identity) → register k a ≡ Reference i → call m heap k (instrs.Len d a) ≡ Ok (loads heap k d (Number (length (values_of heap i))))
  unfolding call action
  call-len d a i leads = rw leads refl

  pub call-ld : (d a x : ℕ) (i : Identity) → register k a ≡ Reference i → x < length (values_of heap i)
      → call m heap k (instrs.Ld d a (operands.Number x)) ≡ Ok (loads heap k d (slice_index_or (values_of heap i) x (Number 0)))
  unfolding call action
  call-ld d a x i leads within = rw (leads, lt-ltb x (length (values_of heap i)) within) refl

  pub call-st : (a x b : ℕ) (i : Identity) (r : Record) (v : Value) → register k a ≡ Reference i → record_of heap i ≡ Some r → x < length r.values → may_hold r.kind x (register k b) ≡ Ok v
      → call m heap k (instrs.St a (operands.Number x) b) ≡ Ok (record { heap = stored heap i r x v; mutator = went_on k })
  unfolding call action
  call-st a x b i r v leads found within holds = rw (leads, found, lt-ltb x (length r.values) within, holds) refl

  -- what can't be held is the end
  pub call-st_not : (a x b : ℕ) (i : Identity) (r : Record) (end : End) → register k a ≡ Reference i → record_of heap i ≡ Some r → x < length r.values → may_hold r.kind x (register k b) ≡ Err end
      → call m heap k (instrs.St a (operands.Number x) b) ≡ Err end
  unfolding call action
  call-st_not a x b i r end leads found within holds = rw (leads, found, lt-ltb x (length r.values) within, holds) refl

  pub call-get : (d x : ℕ) → x < BOARD_WORDS → call m heap k (instrs.Get d (operands.Number x)) ≡ Ok (loads heap k d (board_word heap x))
  unfolding call action
  call-get d x within = rw (lt-ltb x BOARD_WORDS within) refl

  pub call-put : (x a : ℕ) → x < BOARD_WORDS → call m heap k (instrs.Put (operands.Number x) a) ≡ Ok (record { heap = with_board heap x (register k a); mutator = went_on k })
  unfolding call action
  call-put x a within = rw (lt-ltb x BOARD_WORDS within) refl

  pub call-swap : (d x : ℕ) → x < BOARD_WORDS → call m heap k (instrs.Swap d (operands.Number x)) ≡ Ok (loads (with_board heap x (register k d)) k d (board_word heap x))
  unfolding call action
  call-swap d x within = rw (lt-ltb x BOARD_WORDS within) refl

  pub call-new : (d n : ℕ) → n ≤ LONGEST_RECORD → call m heap k (instrs.New d (operands.Number n)) ≡ Ok (allocated m heap k Fields d n (Number 0))
  unfolding call action
  call-new d n short = rw (le-leb n LONGEST_RECORD short) refl

  pub call-raw : (d n : ℕ) → n ≤ LONGEST_RECORD → call m heap k (instrs.Raw d (operands.Number n)) ≡ Ok (allocated m heap k Raw d n (Number 0))
  unfolding call action
  call-raw d n short = rw (le-leb n LONGEST_RECORD short) refl

  pub call-mix : (d f n : ℕ) → f + n < LONGEST_RECORD → call m heap k (instrs.Mix d (operands.Number f) (operands.Number n)) ≡ Ok (allocated m heap k (Mixed f) d (f + n) (Number 0))
  unfolding call action
  call-mix d f n short = rw (lt-ltb (f + n) LONGEST_RECORD short) refl
