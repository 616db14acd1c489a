-- A clerk puts what leads to its latest entry on a word of the board: the call is executed, if the board has the word.
use Rattle.std.proofs.Common.{◌≡◌, ℕ, ◌<◌, ◌++◌, List, None, Some, Ok, refl, sym, ◌∙◌, subst, arith}
use Rattle.std.specs.Prelude.{IsTrue}
use Rattle.std.proofs.lemmas.Bool.{lt-ltb}
use Rattle.plain_state.specs.declared.end.End.{End}
use Rattle.plain_state.specs.declared.sizes.TheConstants.{BOARD_WORDS, NUMBERS}
use Rattle.plain_state.specs.State.{Heap, Mutator, Plain}
use Rattle.plain_state.specs.Writing.{with_board}
use Rattle.mutator_asm.specs.declared.instr.Instr.{Instr}
use Rattle.mutator_asm.specs.declared.instr.Instr.TheVariants.{Put}
use Rattle.mutator_asm.specs.declared.operand.Operand.TheVariants as operands
use Rattle.mutator_asm.specs.Program.{is_valid}
use Rattle.plain_heap.specs.Action.{action, register}
use Rattle.plain_heap.specs.Call.{After, call, went_on}
use Rattle.heap_state.specs.Known.{Account}
use Rattle.gc_worker.specs.declared.calls.did.Did.{Did}
use Rattle.gc_worker.specs.declared.calls.did.Did.TheVariants.{Trap}
use Rattle.gc_worker.specs.declared.task.Task.TheVariants.{Calls}
use Rattle.gc_worker.specs.History.Legal.{after_all}
use Rattle.gc_worker.specs.Plain.Answer.{MayCome}
use Rattle.gc_worker.specs.Plain.Seen.{seen}
use Rattle.gc_worker.specs.Workers.Fits.{FitsCall}
use Rattle.gc_worker.proofs.Plain.RecordsMade.{made_of}
use Rattle.ael_threads.specs.Calls.{Called}
use Rattle.ael_threads.specs.Histories.{first_plain}
use Rattle.ael_threads.specs.Seats.{Seated, first_number}
use Rattle.concordance.specs.declared.registers.TheConstants.{LATEST}
use Rattle.concordance.proofs.Gathered.Reads.{not_ended, record_none}

module _ (x : ℕ) (within : x < BOARD_WORDS) where
  -- what is put
  abbrev put : Instr
  put = Put (operands.Number x) LATEST

  abbrev left : Heap → Mutator → After
  left heap k = record { heap = with_board heap x (register k LATEST); mutator = went_on k }

  call-put : (m : ℕ) (heap : Heap) (k : Mutator) → call m heap k put ≡ Ok (left heap k)
  unfolding call action
  call-put m heap k = rw (lt-ltb x BOARD_WORDS within) refl

  put_is_valid : IsTrue (is_valid put)
  put_is_valid = rw (lt-ltb x NUMBERS (omega (arith, within))) refl

  pub put_begins : (account : Account) (registers : List ℕ) → FitsCall account registers put
  put_begins account registers = record { valid = put_is_valid; serial = λ m makes. absurd (let no : None ≡ Some m = sym (made_of (seen account registers) put) ∙ makes in cc) }

  pub put_not_end : (a b : Seated) (did : Did) → Called a (Calls put) did b → (end : End) → did ≡ Trap end → ⊥
  put_not_end a b did h end e =
      let m = first_number a.knows.hands in
      let p : Plain = after_all (first_plain a.knows.plan) (a.knows.seen ++ h.history.between) in
      let k = h.comes.mutator in
      not_ended m p.heap k put end (left p.heap k) (call-put m p.heap k) (record_none (action k put) (made_of k put)) (subst (MayCome m p.heap k (Calls put)) e h.comes.may)
