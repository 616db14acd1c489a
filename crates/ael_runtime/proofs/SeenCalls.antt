-- What a call does to what its mutator sees: since it saw the history before the call, others may have made calls, but it hasn't.
use Rattle.std.proofs.Common.{◌≡◌, ℕ, ◌-◌, ◌<◌, List, [], ◌∷◌, ◌++◌, length, take, None, Some, Result, Ok, Err, slice_get, slice_index_or, refl, ap, sym, ◌∙◌, subst, append_assoc, arith, get_or-set_same}
use Rattle.std.specs.Prelude.{IsOk}
use Rattle.std.proofs.Math.Seq.{take-append_seam}
use Rattle.std.proofs.lemmas.List.{append_cancel_right, length-append, length-replicate}
use Rattle.std.proofs.lemmas.Option.{get_or_from_slice_get, slice_get_within}
use Rattle.plain_state.specs.declared.end.End.{End}
use Rattle.plain_state.specs.State.{Mutator, Plain, Record}
use Rattle.plain_heap.specs.Action.{register}
use Rattle.plain_state.proofs.Elements.{slice_get-set_same}
use Rattle.mutator_asm.specs.declared.instr.Instr.{Instr}
use Rattle.plain_heap.specs.Call.{After, call}
use Rattle.plain_heap.specs.Order.{fresh}
use Rattle.plain_heap.specs.Records.{shape_of}
use Rattle.plain_heap.specs.Step.{ended, settled}
use Rattle.heap_laws.specs.Opening.{opening_mutator}
use Rattle.gc_worker.specs.declared.calls.call.Call.{Call}
use Rattle.gc_worker.specs.declared.calls.did.Did.{Did}
use Rattle.gc_worker.specs.declared.calls.did.Did.TheVariants.{Done, Trap}
use Rattle.gc_worker.specs.declared.calls.entry.Entry.{Entry}
use Rattle.gc_worker.specs.declared.calls.entry.Entry.TheVariants.{Made}
use Rattle.gc_worker.specs.declared.task.Task.{Task}
use Rattle.gc_worker.specs.declared.task.Task.TheVariants.{Calls}
use Rattle.gc_worker.specs.History.Legal.{after_all, after_call, calls_of}
use Rattle.gc_worker.specs.Plain.Answer.{MayEnd, after_answer}
use Rattle.gc_worker.specs.Steps.Turned.{Answers}
use Rattle.gc_worker.proofs.History.Extensions.{Agrees, after_append, as_many, calls_more, seen_keeps}
use Rattle.gc_worker.proofs.History.Loads.{records_keep_their_shape}
use Rattle.ael_threads.specs.Calls.{Called, call_by}
use Rattle.ael_threads.specs.Histories.{HasOwnCalls, first_plain}
use Rattle.ael_threads.specs.Seats.{IsMine, Seated, first_number, first_own, plain_after_seen}
use Rattle.ael_threads.proofs.WholeCalls.OneMore.{makers}
use Rattle.ael_runtime.specs.Calling.{AtCall, HadEffect, KeepsShapes, WasTrapped}
use Rattle.ael_runtime.specs.Reading.{heap_before, number, seen_heap, seen_mutator}
use Rattle.ael_threads.proofs.RegisterCount.{have_registers}

-- the beginning of a list with one more element behind it
pub take_front : {A : Type 0} (xs : List A) (x : A) → take (length (xs ++ x ∷ []) - 1) (xs ++ x ∷ []) ≡ xs
take_front {A} xs x =
    let e : length (xs ++ x ∷ []) - 1 ≡ length xs = omega (arith, length-append xs (x ∷ [])) in
    ap (λ (n : ℕ). take n (xs ++ x ∷ [])) e ∙ take-append_seam xs (x ∷ [])

module _ (a b : Seated) (task : Task) (did : Did) (mine : IsMine a.knows) (h : Called a task did b) where
  abbrev n : ℕ
  n = number a

  abbrev start : Plain
  start = first_plain a.knows.plan

  -- the history before the call
  abbrev front : List Entry
  front = a.knows.seen ++ h.history.between

  abbrev at : Plain
  at = after_all start front

  abbrev c : Call
  c = call_by a task did

  own_then : calls_of n b.knows.seen ≡ first_own a.knows.hands ++ c ∷ []
  own_then = (subst (HasOwnCalls b.knows.seen) h.hands h.history.own).0

  own_front : calls_of n front ≡ first_own a.knows.hands
  own_front = append_cancel_right (calls_of n front) (first_own a.knows.hands) (c ∷ [])
      (sym (calls_more start front n (Answers task did) (calls_of n front) refl) ∙ (ap (calls_of n) (sym h.history.is) ∙ own_then))

  agrees : Agrees n (after_all start a.knows.seen) at
  agrees = seen_keeps start a.knows.seen front n (first_own a.knows.hands) (h.history.between, refl) mine own_front

  caller_is : seen_mutator a ≡ h.comes.mutator
  unfolding seen_mutator
  caller_is = get_or_from_slice_get (plain_after_seen a.knows).mutators n h.comes.mutator fresh (sym agrees.mutator ∙ h.comes.is)

  caller_within : n < length at.mutators
  caller_within = slice_get_within at.mutators n h.comes.mutator h.comes.is

  number_same : number b ≡ n
  number_same = ap first_number h.hands

  seen_all : plain_after_seen b.knows ≡ after_all start (front ++ Made c ∷ [])
  seen_all = λ i. after_all (first_plain (h.plan i)) (h.history.is i)

  seen_then : plain_after_seen b.knows ≡ after_call at c
  seen_then = seen_all ∙ after_append start front (Made c ∷ [])

  shapes_stay : KeepsShapes (seen_heap a) (seen_heap b)
  unfolding seen_heap
  shapes_stay i known is =
      subst (λ (p : Plain). shape_of p.heap i ≡ Some known) (sym seen_all)
      (subst (λ (log : List Entry). shape_of (after_all start log).heap i ≡ Some known) (sym (append_assoc a.knows.seen h.history.between (Made c ∷ [])))
      (records_keep_their_shape start a.knows.seen (h.history.between ++ Made c ∷ []) i known is))

  before_is : heap_before b ≡ at.heap
  unfolding heap_before
  before_is =
      (λ i. (after_all (first_plain (h.plan i)) (take (length (h.history.is i) - 1) (h.history.is i))).heap)
      ∙ ap (λ (log : List Entry). (after_all start log).heap) (take_front front (Made c))

  kept_there : n < length at.heap.records
  kept_there =
      let there = as_many start front in
      let lists = makers start front in
      let first = length-replicate a.knows.plan.mutators opening_mutator in
      let none = length-replicate {A = List Record} a.knows.plan.mutators [] in
      let within = caller_within in
      omega (arith, within, there, lists, first, none)

  pub at_call_of : AtCall a at.heap
  unfolding seen_heap
  at_call_of = record {
    shapes = λ i known is. records_keep_their_shape start a.knows.seen h.history.between i known is;
    serial = agrees.serial;
    kept = kept_there;
    registers = ap (λ (k : Mutator). length k.registers) caller_is ∙ have_registers a.knows.plan.mutators front n h.comes.mutator h.comes.is;
  }

-- ---- an instruction

module _ (a b : Seated) (i : Instr) (had_no_end : a.worker.account.end ≡ None) (mine : IsMine a.knows) (h : Called a (Calls i) Done b) where
  abbrev m : ℕ
  m = number a

  abbrev then : Plain
  then = after_all (first_plain a.knows.plan) (a.knows.seen ++ h.history.between)

  abbrev caller : Mutator
  caller = h.comes.mutator

  by_outcome : (o : Result After End) → call m then.heap caller i ≡ o → IsOk o → HadEffect a i b
  unfolding seen_heap seen_mutator
  by_outcome (Ok after) is ok =
      let left : plain_after_seen b.knows ≡ settled then m caller (Ok after) =
      seen_then a b (Calls i) Done mine h ∙ (ap (after_answer then m (Calls i) Done) h.comes.is ∙ ap (settled then m caller) is) in record {
        called = h;
        had_no_end = had_no_end;
        shapes = shapes_stay a b (Calls i) Done mine h;
        heap = then.heap;
        at_call = at_call_of a b (Calls i) Done mine h;
        after = after;
        is = ap (λ (k : Mutator). call m then.heap k i) (caller_is a b (Calls i) Done mine h) ∙ is;
        before = before_is a b (Calls i) Done mine h;
        heap_is = ap (λ (p : Plain). p.heap) left;
        mutator_is = (λ j. slice_index_or (left j).mutators (number_same a b (Calls i) Done mine h j) fresh)
            ∙ get_or-set_same then.mutators m after.mutator fresh (caller_within a b (Calls i) Done mine h);
        number_is = number_same a b (Calls i) Done mine h;
        serial_is = (h.shows after.mutator
            ((λ j. slice_get (left j).mutators (number_same a b (Calls i) Done mine h j)) ∙ slice_get-set_same then.mutators m after.mutator (caller_within a b (Calls i) Done mine h))).serial;
      }
  by_outcome (Err why) is ok = absurd (cc)

  pub executed : HadEffect a i b
  executed = by_outcome (call m then.heap caller i) refl h.comes.may

module _ (a b : Seated) (i : Instr) (end : End) (had_no_end : a.worker.account.end ≡ None) (mine : IsMine a.knows) (h : Called a (Calls i) (Trap end) b) where
  abbrev last : Plain
  last = after_all (first_plain a.knows.plan) (a.knows.seen ++ h.history.between)

  abbrev stopped : Mutator
  stopped = record h.comes.mutator { end = Some end }

  left : plain_after_seen b.knows ≡ ended last (number a) h.comes.mutator end
  left = seen_then a b (Calls i) (Trap end) mine h ∙ ap (after_answer last (number a) (Calls i) (Trap end)) h.comes.is

  mutator_is : seen_mutator b ≡ stopped
  unfolding seen_mutator
  mutator_is = (λ j. slice_index_or (left j).mutators (number_same a b (Calls i) (Trap end) mine h j) fresh)
      ∙ get_or-set_same last.mutators (number a) stopped fresh (caller_within a b (Calls i) (Trap end) mine h)

  pub may_trap : WasTrapped a i end b
  unfolding seen_heap
  may_trap = record {
    called = h;
    had_no_end = had_no_end;
    heap = last.heap;
    at_call = at_call_of a b (Calls i) (Trap end) mine h;
    may = subst (λ (k : Mutator). MayEnd (number a) last.heap k i end) (sym (caller_is a b (Calls i) (Trap end) mine h)) h.comes.may;
    before = before_is a b (Calls i) (Trap end) mine h;
    heap_is = ap (λ (p : Plain). p.heap) left;
    registers = λ j. ap (λ (k : Mutator). register k j) mutator_is ∙ ap (λ (k : Mutator). register k j) (sym (caller_is a b (Calls i) (Trap end) mine h));
  }
