-- A clerk that leaves the board alone is alone: what one call more of it does to its desk.
use Rattle.std.proofs.Common.{◌≡◌, ℕ, ◌<◌, List, [], ◌∷◌, ◌++◌, length, Some, None, Ok, slice_get, true, false, drop, refl, ap, sym, ◌∙◌, subst, arith, ⊎_elim}
use Rattle.std.specs.Prelude.{IsTrue}
use Rattle.std.specs.Option.{option_map}
use Rattle.std.proofs.lemmas.Bool.{cases_Bool, true_from_ne_false}
use Rattle.std.proofs.lemmas.List.{get_or-set_same, length-replicate}
use Rattle.std.proofs.lemmas.Option.{get_or_from_slice_get, same_Some, slice_get_within}
use Rattle.plain_state.specs.declared.end.End.{End}
use Rattle.plain_state.specs.declared.end.End.TheVariants.{HeapFull}
use Rattle.plain_state.specs.State.{Heap, Mutator, Plain, Record}
use Rattle.mutator_asm.specs.declared.instr.Instr.{Instr}
use Rattle.plain_heap.specs.Alone.{is_heap_full, leaves_board}
use Rattle.plain_heap.specs.Call.{After, call}
use Rattle.plain_heap.specs.Order.{fresh}
use Rattle.plain_heap.specs.Step.{new_record, pages_for, pages_of, settled}
use Rattle.heap_laws.specs.Opening.{opening_mutator}
use Rattle.gc_worker.specs.declared.calls.call.Call.{Call}
use Rattle.gc_worker.specs.declared.calls.did.Did.{Did}
use Rattle.gc_worker.specs.declared.calls.did.Did.TheVariants.{Done, Trap}
use Rattle.gc_worker.specs.declared.calls.entry.Entry.{Entry}
use Rattle.gc_worker.specs.declared.calls.entry.Entry.TheVariants.{Made}
use Rattle.gc_worker.specs.declared.task.Task.{Task}
use Rattle.gc_worker.specs.declared.task.Task.TheVariants.{Calls}
use Rattle.gc_worker.specs.History.Legal.{IsLegal, after_all, after_call, calls_of, worker_call}
use Rattle.gc_worker.specs.Plain.Answer.{ComesTo, MayCome, MayEnd, after_answer}
use Rattle.gc_worker.proofs.History.Extensions.{after_append, as_many, legal_last}
use Rattle.ael_threads.specs.declared.view.Hand.{Hand}
use Rattle.ael_threads.specs.declared.view.Plan.{Plan}
use Rattle.ael_threads.specs.Alone.{ComesToTheSame, LeavesBoard, alone_history}
use Rattle.ael_threads.specs.Calls.{Called, call_by, end_by_did}
use Rattle.ael_threads.specs.Histories.{Each, HasOwnCalls, first_plain, hand}
use Rattle.ael_threads.specs.Seats.{Seated, first_number, first_own}
use Rattle.ael_threads.proofs.Alone.LoneCalls.{lone_calls_come_to_the_same}
use Rattle.ael_threads.proofs.WholeCalls.OneMore.{makers}
use Rattle.concordance.specs.Desk.{CanDo, CanMake, Desk, desk_after, desk_at, desk_in, desk_size_made}
use Rattle.concordance.specs.Lone.{FindsFull, IsLone, alone_by, desk_of}
use Rattle.concordance.proofs.Doing.{IsDone, does, does_leave_board, does_no_record, makes, makes_leave_board, makes_pages}

each_push : {A : Type 0} (P : A → Type 0) (xs : List A) (x : A) → Each P xs → P x → Each P (xs ++ x ∷ [])
each_push P [] x all last = (last, tt)
each_push P (y ∷ ys) x all last = (all.0, each_push P ys x all.1 last)

alone_push : (cs : List Call) (c : Call) → alone_history (cs ++ c ∷ []) ≡ alone_history cs ++ Made c ∷ []
alone_push [] c = refl
alone_push (d ∷ ds) c = ap (λ (es : List Entry). Made d ∷ es) (alone_push ds c)

-- ---- calls of mutator n, which are all that a history has of it

module _ (plan : Plan) (n : ℕ) where
  -- they come to the same alone
  pub same_alone : (seen : List Entry) (own : List Call) → calls_of n seen ≡ own → IsLegal (first_plain plan) seen → Each LeavesBoard own
      → ComesToTheSame (first_plain plan) (after_all (first_plain plan) seen) n own
  same_alone seen own mine legal leaves = subst (ComesToTheSame (first_plain plan) (after_all (first_plain plan) seen) n) mine
      (lone_calls_come_to_the_same plan.mutators seen n legal (subst (Each LeavesBoard) (sym mine) leaves))

  module _ (own : List Call) (task : Task) (did : Did) where
    abbrev last : Call
    last = worker_call n task did

    pub one_more : after_all (first_plain plan) (alone_history (own ++ last ∷ [])) ≡ after_call (after_all (first_plain plan) (alone_history own)) last
    one_more = ap (after_all (first_plain plan)) (alone_push own last) ∙ after_append (first_plain plan) (alone_history own) (Made last ∷ [])

    pub last_comes : IsLegal (first_plain plan) (alone_history (own ++ last ∷ [])) → ComesTo (after_all (first_plain plan) (alone_history own)) n task did
    last_comes legal = legal_last (first_plain plan) (alone_history own) last (subst (IsLegal (first_plain plan)) (alone_push own last) legal)

-- ---- a call

module _ (a b : Seated) (i : Instr) (did : Did) (lone : IsLone a) (leaves : IsTrue (leaves_board i)) (h : Called a (Calls i) did b) where
  abbrev n : ℕ
  n = first_number a.knows.hands

  abbrev own : List Call
  own = first_own a.knows.hands

  abbrev c : Call
  c = call_by a (Calls i) did

  hands_are : b.knows.hands ≡ hand n b.worker (own ++ c ∷ []) ∷ []
  hands_are = h.hands ∙ ap (λ (hs : List Hand). hand n b.worker (own ++ c ∷ []) ∷ drop 1 hs) lone.one

  mine : calls_of n b.knows.seen ≡ own ++ c ∷ []
  mine = (subst (HasOwnCalls b.knows.seen) h.hands h.history.own).0

  all_leave : Each LeavesBoard (own ++ c ∷ [])
  all_leave = each_push LeavesBoard own c lone.leaves leaves

  -- it is still alone, if the call was executed
  pub lone_then : did ≡ Done → IsLone b
  lone_then done = record {
    one = subst (λ (hs : List Hand). hs ≡ hand (first_number hs) b.worker (first_own hs) ∷ []) (sym hands_are) refl;
    mine = subst (λ (hs : List Hand). calls_of (first_number hs) b.knows.seen ≡ first_own hs) (sym hands_are) mine;
    legal = subst (λ (plan : Plan). IsLegal (first_plain plan) b.knows.seen) (sym h.plan) h.history.legal;
    leaves = subst (λ (hs : List Hand). Each LeavesBoard (first_own hs)) (sym hands_are) all_leave;
    no_end = h.ends ∙ ap end_by_did done;
  }

  -- the call comes to what the plain machine's may, made alone
  pub comes : ComesTo (alone_by a) n (Calls i) did
  comes = last_comes a.knows.plan n own (Calls i) did (same_alone a.knows.plan n b.knows.seen (own ++ c ∷ []) mine h.history.legal all_leave).legal

  after : alone_by b ≡ after_call (alone_by a) c
  after = (λ j. after_all (first_plain (h.plan j)) (alone_history (first_own (hands_are j)))) ∙ one_more a.knows.plan n own (Calls i) did

  number_is : first_number b.knows.hands ≡ n
  number_is = ap first_number hands_are

-- ---- the desk

-- the clerk has a list of records
kept : (a : Seated) (m : ℕ) (k : Mutator) → slice_get (alone_by a).mutators m ≡ Some k → m < length (alone_by a).heap.records
kept a m k is =
    let log = alone_history (first_own a.knows.hands) in
    let p = first_plain a.knows.plan in
    let within = slice_get_within (after_all p log).mutators m k is in
    let there = as_many p log in
    let lists = makers p log in
    let first = length-replicate a.knows.plan.mutators opening_mutator in
    let none = length-replicate {A = List Record} a.knows.plan.mutators [] in
    omega (arith, within, there, lists, first, none)

-- that of a mutator that is there
desk_is : (a : Seated) (k : Mutator) → slice_get (alone_by a).mutators (first_number a.knows.hands) ≡ Some k → desk_of a ≡ desk_at (first_number a.knows.hands) (alone_by a).heap k
unfolding desk_of
desk_is a k is = ap (desk_at (first_number a.knows.hands) (alone_by a).heap) (get_or_from_slice_get (alone_by a).mutators (first_number a.knows.hands) k fresh is)

settled_desk : (p : Plain) (m : ℕ) (k : Mutator) (after : After) → m < length p.mutators → desk_in (settled p m k (Ok after)) m ≡ desk_at m after.heap after.mutator
settled_desk p m k after within = ap (desk_at m after.heap) (get_or-set_same p.mutators m after.mutator fresh within)

-- an end that is not that the heap is full is the instruction's own
not_executed : (m : ℕ) (heap : Heap) (k : Mutator) (i : Instr) (end : End) (after : After) → call m heap k i ≡ Ok after → is_heap_full end ≡ false → MayEnd m heap k i end → ⊥
not_executed m heap k i (HeapFull asked room live) after ok few may = cc
not_executed m heap k i _ after ok few may = cc

-- nor is the heap full, of one that makes no record
not_full : (m : ℕ) (heap : Heap) (k : Mutator) (i : Instr) (end : End) → new_record k i ≡ None → is_heap_full end ≡ true → MayEnd m heap k i end → ⊥
not_full m heap k i (HeapFull asked room live) none full may = let asks : None ≡ Some asked = sym (ap (option_map pages_of) none) ∙ may in cc
not_full m heap k i _ none full may = cc

module _ (a b : Seated) (i : Instr) (lone : IsLone a) (leaves : IsTrue (leaves_board i)) (did : Did) (h : Called a (Calls i) did b) where
  abbrev m : ℕ
  m = first_number a.knows.hands

  abbrev p : Plain
  p = alone_by a

  abbrev t : ComesTo p m (Calls i) did
  t = comes a b i did lone leaves h

  -- the mutator that makes the call
  abbrev caller : Mutator
  caller = t.mutator

  caller_kept : m < length p.heap.records
  caller_kept = kept a m caller t.is

  caller_desk : desk_of a ≡ desk_at m p.heap caller
  caller_desk = desk_is a caller t.is

  does_it : CanDo (desk_of a) i → IsDone m p.heap caller i
  does_it can = does m p.heap caller caller_kept i (subst (λ (d : Desk). CanDo d i) caller_desk can)

  makes_it : CanMake (desk_of a) i → IsDone m p.heap caller i
  makes_it can = makes m p.heap caller caller_kept i (subst (λ (d : Desk). CanMake d i) caller_desk can)

  done_desk : did ≡ Done → IsDone m p.heap caller i → desk_of b ≡ desk_after (desk_of a) i
  unfolding desk_of
  done_desk e done =
      let left : alone_by b ≡ settled p m caller (Ok done.after) =
      after a b i did lone leaves h ∙ (ap (λ (d : Did). after_call p (call_by a (Calls i) d)) e ∙ (ap (after_answer p m (Calls i) Done) t.is ∙ ap (settled p m caller) done.ok)) in
      (λ j. desk_in (left j) (number_is a b i did lone leaves h j))
      ∙ (settled_desk p m caller done.after (slice_get_within p.mutators m caller t.is) ∙ (done.desk_is ∙ ap (λ (d : Desk). desk_after d i) (sym caller_desk)))

  may_end : (end : End) → did ≡ Trap end → MayEnd m p.heap caller i end
  may_end end e = subst (MayCome m p.heap caller (Calls i)) e t.may

-- ---- an instruction that makes no record

module _ (a b : Seated) (i : Instr) (lone : IsLone a) (can : CanDo (desk_of a) i) (did : Did) (h : Called a (Calls i) did b) where
  leaves_it : IsTrue (leaves_board i)
  leaves_it = does_leave_board (desk_of a) i can

  pub does_lone : did ≡ Done → IsLone b
  does_lone = lone_then a b i did lone leaves_it h

  pub does_desk : did ≡ Done → desk_of b ≡ desk_after (desk_of a) i
  does_desk e = done_desk a b i lone leaves_it did h e (does_it a b i lone leaves_it did h can)

  -- it is executed
  pub does_not_end : (end : End) → did ≡ Trap end → ⊥
  does_not_end end e =
      let m = first_number a.knows.hands in
      let k = (comes a b i did lone leaves_it h).mutator in
      let done = does_it a b i lone leaves_it did h can in
      let may = may_end a b i lone leaves_it did h end e in
      ⊎_elim (λ full. not_full m (alone_by a).heap k i end (does_no_record k (desk_of a) i can) full may)
      (λ few. not_executed m (alone_by a).heap k i end done.after done.ok few may) (cases_Bool (is_heap_full end))

-- ---- an instruction that makes a record

module _ (a b : Seated) (i : Instr) (lone : IsLone a) (can : CanMake (desk_of a) i) (did : Did) (h : Called a (Calls i) did b) where
  spares_it : IsTrue (leaves_board i)
  spares_it = makes_leave_board (desk_of a) i can

  pub makes_lone : did ≡ Done → IsLone b
  makes_lone = lone_then a b i did lone spares_it h

  pub makes_desk : did ≡ Done → desk_of b ≡ desk_after (desk_of a) i
  makes_desk e = done_desk a b i lone spares_it did h e (makes_it a b i lone spares_it did h can)

  -- it is executed, unless the heap is full
  pub makes_full : (end : End) → did ≡ Trap end → is_heap_full end ≡ true
  makes_full end e =
      let done = makes_it a b i lone spares_it did h can in
      let may = may_end a b i lone spares_it did h end e in
      true_from_ne_false (is_heap_full end) (λ few. not_executed (first_number a.knows.hands) (alone_by a).heap (comes a b i did lone spares_it h).mutator i end done.after done.ok few may)

  pub finds_full : (asked room live : ℕ) → did ≡ Trap (HeapFull asked room live) → FindsFull a i asked room b
  finds_full asked room live e =
      let k = (comes a b i did lone spares_it h).mutator in record {
        live = live;
        called = subst (λ (d : Did). Called a (Calls i) d b) e h;
        asked_is = same_Some asked (pages_for (desk_size_made i)) (sym (may_end a b i lone spares_it did h (HeapFull asked room live) e) ∙ makes_pages k (desk_of a) i can);
      }
