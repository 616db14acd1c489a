-- Calls that name a word of the board.
use Rattle.std.proofs.Common.{◌≡◌, ℕ, ◌<◌, [], ◌∷◌, refl, ap, sym, ◌∙◌, subst, arith}
use Rattle.plain_state.specs.declared.sizes.TheConstants.{BOARD_WORDS, REGISTERS}
use Rattle.plain_state.specs.declared.value.Value.TheVariants.{Number}
use Rattle.plain_state.specs.State.{Heap}
use Rattle.plain_state.specs.Writing.{with_board}
use Rattle.mutator_asm.specs.declared.instr.Instr.TheVariants as instrs
use Rattle.mutator_asm.specs.declared.operand.Operand.TheVariants as operands
use Rattle.plain_heap.specs.Call.{board_word}
use Rattle.plain_heap.proofs.Calls.Single.{call-get, call-put, call-swap}
use Rattle.gc_worker.proofs.Plain.RecordsMade.{made_of}
use Rattle.ael_threads.specs.Seats.{Seated}
use Rattle.ael_runtime.specs.declared.root.Root.{Root}
use Rattle.ael_runtime.specs.declared.root.TheConstants.{SCRATCH}
use Rattle.ael_runtime.specs.Calling.{HadEffect, IsSure, HadEffects, done}
use Rattle.ael_runtime.specs.Reading.{heap_before, held, number, root_register, seen_heap, seen_mutator}
use Rattle.ael_runtime.proofs.Effects.{sets, writes}
use Rattle.ael_runtime.proofs.NumberCalls.{leaves_one, li_sets, root_within}
use Rattle.ael_runtime.proofs.PlainCalls.{is_done}

-- ---- put

pub sure_put : (a : Seated) (x r : ℕ) → x < BOARD_WORDS → IsSure a (instrs.Put (operands.Number x) r)
sure_put a x r within = record {
  other = λ e. absurd (cc);
  no_record = λ k. made_of k (instrs.Put (operands.Number x) r);
  ok = λ heap at. is_done _ _ (call-put (number a) heap (seen_mutator a) x r within);
}

pub is_put : (a b : Seated) (x r : ℕ) → x < BOARD_WORDS → HadEffect a (instrs.Put (operands.Number x) r) b
    → (seen_heap b ≡ with_board (heap_before b) x (held a r)) × HadEffects a (done (instrs.Put (operands.Number x) r) ∷ []) SCRATCH b
is_put a b x r within e =
    let s = writes a b (instrs.Put (operands.Number x) r) e (with_board e.heap x (held a r)) (call-put (number a) e.heap (seen_mutator a) x r within) in (
      s.heap_is ∙ ap (λ (h : Heap). with_board h x (held a r)) (sym e.before),
      record { called = (b, (e.called, refl)); had_no_end = e.had_no_end; no_end = e.called.ends; others = λ j other scratch. s.registers j },
    )

-- ---- get

pub sure_get : (a : Seated) (d x : ℕ) → x < BOARD_WORDS → IsSure a (instrs.Get d (operands.Number x))
sure_get a d x within = record {
  other = λ e. absurd (cc);
  no_record = λ k. made_of k (instrs.Get d (operands.Number x));
  ok = λ heap at. is_done _ _ (call-get (number a) heap (seen_mutator a) d x within);
}

pub is_got : (a b : Seated) (d x : ℕ) → d < REGISTERS → x < BOARD_WORDS → HadEffect a (instrs.Get d (operands.Number x)) b
    → (held b d ≡ board_word (seen_heap b) x) × HadEffects a (done (instrs.Get d (operands.Number x)) ∷ []) d b
is_got a b d x into within e =
    let s = sets a b (instrs.Get d (operands.Number x)) e d (board_word e.heap x) e.heap into (call-get (number a) e.heap (seen_mutator a) d x within) in
    (s.value ∙ ap (λ (h : Heap). board_word h x) (sym s.heap_is), leaves_one a b (instrs.Get d (operands.Number x)) e d (board_word e.heap x) e.heap s)

-- ---- swap

pub sure_swap : (a : Seated) (d x : ℕ) → x < BOARD_WORDS → IsSure a (instrs.Swap d (operands.Number x))
sure_swap a d x within = record {
  other = λ e. absurd (cc);
  no_record = λ k. made_of k (instrs.Swap d (operands.Number x));
  ok = λ heap at. is_done _ _ (call-swap (number a) heap (seen_mutator a) d x within);
}

-- a word is taken, and 0 put in its place
pub record IsTaken (a : Seated) (d x : ℕ) (b : Seated) : Type 0 where
  pub value : held b d ≡ board_word (heap_before b) x
  pub empty : seen_heap b ≡ with_board (heap_before b) x (Number 0)
  pub effects : HadEffects a (done (instrs.Li d 0) ∷ done (instrs.Swap d (operands.Number x)) ∷ []) d b

pub is_taken : (a then b : Seated) (d x : ℕ) → d < REGISTERS → x < BOARD_WORDS → HadEffect a (instrs.Li d 0) then → HadEffect then (instrs.Swap d (operands.Number x)) b → IsTaken a d x b
is_taken a then b d x into within e f =
    let zero = li_sets a then d 0 e into in
    let s = sets then b (instrs.Swap d (operands.Number x)) f d (board_word f.heap x) (with_board f.heap x (held then d)) into (call-swap (number then) f.heap (seen_mutator then) d x within) in record {
      value = s.value ∙ ap (λ (h : Heap). board_word h x) (sym f.before);
      empty = s.heap_is ∙ (ap (λ (h : Heap). with_board h x (held then d)) (sym f.before) ∙ ap (with_board (heap_before b) x) zero.value);
      effects = record {
        called = (then, (e.called, (b, (f.called, refl))));
        had_no_end = e.had_no_end;
        no_end = f.called.ends;
        others = λ j other scratch. s.others j other ∙ zero.others j other;
      };
    }

-- ---- of roots, with numbers that are equal to what was passed

pub within_board : (word one other : ℕ) → one ≡ word → other ≡ word → one < BOARD_WORDS → other < BOARD_WORDS
within_board word one other one_is other_is within = omega (arith, one_is, other_is, within)

module _ (a b : Seated) (root : Root) (word x r : ℕ) (x_is : x ≡ word) (r_is : r ≡ root_register root) (within : x < BOARD_WORDS) where
  inside : word < BOARD_WORDS
  inside = omega (arith, x_is, within)

  pub put_root : HadEffect a (instrs.Put (operands.Number x) r) b
      → (seen_heap b ≡ with_board (heap_before b) word (held a (root_register root))) × HadEffects a (done (instrs.Put (operands.Number word) (root_register root)) ∷ []) SCRATCH b
  put_root was =
      is_put a b word (root_register root) inside
      (subst (λ (n : ℕ). HadEffect a (instrs.Put (operands.Number n) (root_register root)) b) x_is (subst (λ (n : ℕ). HadEffect a (instrs.Put (operands.Number x) n) b) r_is was))

  pub got_root : HadEffect a (instrs.Get r (operands.Number x)) b
      → (held b (root_register root) ≡ board_word (seen_heap b) word) × HadEffects a (done (instrs.Get (root_register root) (operands.Number word)) ∷ []) (root_register root) b
  got_root was =
      is_got a b (root_register root) word (root_within root (root_register root) refl) inside
      (subst (λ (n : ℕ). HadEffect a (instrs.Get (root_register root) (operands.Number n)) b) x_is (subst (λ (n : ℕ). HadEffect a (instrs.Get n (operands.Number x)) b) r_is was))

pub taken_root : (a then b : Seated) (to : Root) (word x r q : ℕ) → x ≡ word → r ≡ root_register to → q ≡ root_register to → x < BOARD_WORDS
    → HadEffect a (instrs.Li r 0) then → HadEffect then (instrs.Swap q (operands.Number x)) b → IsTaken a (root_register to) word b
taken_root a then b to word x r q x_is r_is q_is within e f =
    is_taken a then b (root_register to) word (root_within to (root_register to) refl) (omega (arith, x_is, within))
    (subst (λ (n : ℕ). HadEffect a (instrs.Li n 0) then) r_is e)
    (subst (λ (n : ℕ). HadEffect then (instrs.Swap (root_register to) (operands.Number n)) b) x_is (subst (λ (n : ℕ). HadEffect then (instrs.Swap n (operands.Number x)) b) q_is f))
