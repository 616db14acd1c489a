-- Each state that a program comes to is consistent.
use Rattle.std.proofs.Common.{◌≡◌, ℕ, ◌<◌, Bool, true, false, nat_lt, nat_le, List, [], ◌∷◌, length, replicate, Option, Some, None, Result, Ok, Err, slice_get, refl, ap, sym, ◌∙◌, arith, length-set}
use Rattle.std.specs.Bool.{IsTrue}
use Rattle.std.specs.List.{All, list_all}
use Rattle.std.specs.Option.{ok_or, option_map_or, IfSome}
use Rattle.std.specs.Result.{IfOk}
use Rattle.std.proofs.lemmas.List.{length-replicate}
use Rattle.std.proofs.lemmas.List.Elements.{All-nil, All-set, All-replicate, All-weaker}
use Rattle.std.proofs.lemmas.Option.{slice_get_within}
use Rattle.plain_state.specs.declared.end.End.{End}
use Rattle.plain_state.specs.declared.end.End.TheVariants.{HeapFull, JumpOut}
use Rattle.plain_state.specs.declared.sizes.TheConstants.{NUMBERS, REGISTERS, BOARD_WORDS}
use Rattle.plain_state.specs.declared.value.Value.TheVariants.{Number}
use Rattle.plain_state.specs.declared.value.Identity.{Identity}
use Rattle.plain_state.specs.Cells.{is_cell}
use Rattle.plain_state.specs.Consistent.{IsHeap, IsRecord, IsMutator, IsConsistent}
use Rattle.plain_state.specs.State.{Heap, Mutator, Plain, Record, IsValue, none_snapped, record_of}
use Rattle.plain_state.specs.Writing.{stored}
use Rattle.plain_state.proofs.Stored.{stored_made, stored_makers}
use Rattle.mutator_asm.specs.declared.instr.Instr.{Instr}
use Rattle.mutator_asm.specs.Program.{instr_at, is_valid}
use Rattle.mutator_asm.proofs.Programs.Instructions.{valid_at}
use Rattle.plain_heap.specs.Call.{After, call}
use Rattle.plain_heap.specs.Step.{fetch, executes, ended, settled, stepped_if, stepped_as, stepped, asked_by}
use Rattle.plain_heap.specs.declared.mark.Mark.{Mark}
use Rattle.plain_heap.specs.declared.mark.Mark.TheVariants.{Step, Flip, Full, Traced}
use Rattle.plain_heap.specs.Order.{Story, ended_for_want, first_story, fresh, is_asked, opening, plain, story_after, story_marked}
use Rattle.plain_heap.specs.Emptied.{emptied}
use Rattle.plain_heap.proofs.Calls.Consistency.{AfterIsConsistent, HeapGrows, mutator-grows, call-kept, stored-kept}
use Rattle.plain_heap.proofs.Calls.CallOutcomes.{if_ok-then}
use Rattle.plain_heap.proofs.Reaching.Emptying.{emptied_heap_keeps, emptied_of_lost_cells}
use Rattle.plain_heap.proofs.States.OpeningState.{opening-replicate}
use Rattle.plain_heap.proofs.Alone.Owned.{found_all}

-- ---- the opening

fresh-mutator : (heap : Heap) → IsMutator heap fresh
fresh-mutator heap = record {
  counter = omega arith;
  register_count = length-replicate REGISTERS (Number 0);
  registers = All-replicate (IsValue heap) REGISTERS (Number 0) (omega arith);
  few_printed = omega arith;
  printed = All-nil (λ n. n < NUMBERS);
}

pub opening-consistent : (code : List (List Instr)) → IsConsistent (opening code)
opening-consistent code =
    let empty : Heap = record { records = replicate (length code) []; board = replicate BOARD_WORDS (Number 0); snaps = 0; snapped = none_snapped } in
    rw (opening-replicate code) (record {
      heap = record {
        board_words = length-replicate BOARD_WORDS (Number 0);
        board = All-replicate (IsValue empty) BOARD_WORDS (Number 0) (omega arith);
        records = All-replicate (All (IsRecord empty)) (length code) [] (All-nil (IsRecord empty));
      };
      mutators = All-replicate (IsMutator empty) (length code) fresh (fresh-mutator empty);
      as_many = length-replicate (length code) [] ∙ sym (length-replicate (length code) fresh);
    })

-- ---- a mark

module _ (code : List (List Instr)) (turns : ℕ) (valid : list_all (list_all is_valid) code ≡ true) where
  instr-valid : (o : Option Instr) → IfSome o (λ i. IsTrue (is_valid i)) → IfOk (ok_or o JumpOut) (λ i. is_valid i ≡ true)
  instr-valid None is = tt
  instr-valid (Some i) is = is

  fetch-valid : (m : ℕ) (k : Mutator) (out : Bool) → nat_le turns k.executed ≡ out → IfOk (fetch code turns m k) (λ i. is_valid i ≡ true)
  fetch-valid m k true is = rw is tt
  fetch-valid m k false is = rw is (instr-valid (instr_at code m k.counter) (valid_at code m k.counter valid))

  module _ (s : Plain) (is : IsConsistent s) where
    ended-consistent : (m : ℕ) (k : Mutator) (why : End) → IsMutator s.heap k → IsConsistent (ended s m k why)
    ended-consistent m k why is_mutator = record {
      heap = is.heap;
      mutators = All-set (IsMutator s.heap) s.mutators m (record k { end = Some why })
          (record { counter = is_mutator.counter; register_count = is_mutator.register_count; registers = is_mutator.registers; few_printed = is_mutator.few_printed; printed = is_mutator.printed }) is.mutators;
      as_many = is.as_many ∙ sym (length-set s.mutators m (record k { end = Some why }));
    }

    settled-consistent : (m : ℕ) (k : Mutator) (o : Result After End) → IsMutator s.heap k → IfOk o (AfterIsConsistent s.heap) → IsConsistent (settled s m k o)
    settled-consistent m k (Ok after) is_mutator kept = record {
      heap = kept.heap;
      mutators = All-set (IsMutator after.heap) s.mutators m after.mutator kept.mutator
          (All-weaker (IsMutator s.heap) (IsMutator after.heap) (mutator-grows s.heap after.heap kept.grows) s.mutators is.mutators);
      as_many = kept.as_many ∙ is.as_many ∙ sym (length-set s.mutators m after.mutator);
    }
    settled-consistent m k (Err why) is_mutator kept = ended-consistent m k why is_mutator

    executes-kept : (m : ℕ) (k : Mutator) → IsMutator s.heap k → m < length s.heap.records → IfOk (executes code turns m s.heap k) (AfterIsConsistent s.heap)
    executes-kept m k is_mutator within =
        if_ok-then (λ i. is_valid i ≡ true) (AfterIsConsistent s.heap) (fetch code turns m k) (λ i. call m s.heap k i) (fetch-valid m k (nat_le turns k.executed) refl)
        (λ i fetched. call-kept m s.heap k is.heap is_mutator within i fetched)

    found-mutator : (m : ℕ) (k : Mutator) → slice_get s.mutators m ≡ Some k → IsMutator s.heap k
    found-mutator m k found = found_all (IsMutator s.heap) s.mutators m k is.mutators found

    stepped_if-consistent : (m : ℕ) (k : Mutator) (end : Option End) → slice_get s.mutators m ≡ Some k → IsConsistent (stepped_if code turns s m k end)
    stepped_if-consistent m k (Some why) found = is
    stepped_if-consistent m k None found =
        let within : m < length s.heap.records = omega (arith, slice_get_within s.mutators m k found, is.as_many) in
        settled-consistent m k (executes code turns m s.heap k) (found-mutator m k found) (executes-kept m k (found-mutator m k found) within)

    stepped_as-consistent : (m : ℕ) (o : Option Mutator) → slice_get s.mutators m ≡ o → IsConsistent (stepped_as code turns s m o)
    stepped_as-consistent m None found = is
    stepped_as-consistent m (Some k) found = stepped_if-consistent m k k.end found

    stepped-consistent : (m : ℕ) (has : Bool) → nat_lt m (length code) ≡ has → IsConsistent (stepped code turns s m)
    unfolding stepped
    stepped-consistent m true has = rw has (stepped_as-consistent m (slice_get s.mutators m) refl)
    stepped-consistent m false has = rw has is

    full-consistent : (m asked room live : ℕ) (o : Option Mutator) → slice_get s.mutators m ≡ o → IsConsistent (option_map_or (λ k. ended s m k (HeapFull asked room live)) o s)
    full-consistent m asked room live None found = is
    full-consistent m asked room live (Some k) found = ended-consistent m k (HeapFull asked room live) (found-mutator m k found)

    full_if-consistent : (m asked room live : ℕ) (asks : Bool) → is_asked asked (asked_by code turns s m) ≡ asks → IsConsistent (ended_for_want code turns s m asked room live)
    unfolding ended_for_want
    full_if-consistent m asked room live true asks = rw asks (full-consistent m asked room live (slice_get s.mutators m) refl)
    full_if-consistent m asked room live false asks = rw asks is

    -- what was allocated is still there, and each record with it
    record EmptiedIs (heap : Heap) : Type 0 where
      is_heap : IsHeap heap
      grows : HeapGrows s.heap heap
      as_many : length heap.records ≡ length s.heap.records

    emptied-consistent : (o : Plain) → IsConsistent (emptied o s)
    emptied-consistent o =
        let mutators = (emptied_of_lost_cells o s).mutators in
        let kept = emptied_heap_keeps EmptiedIs more o s (record { is_heap = is.heap; grows = λ i made. made; as_many = refl }) in
        record {
          heap = kept.is_heap;
          mutators = rw mutators (All-weaker (IsMutator s.heap) (IsMutator (emptied o s).heap) (mutator-grows s.heap (emptied o s).heap kept.grows) s.mutators is.mutators);
          as_many = kept.as_many ∙ is.as_many ∙ sym (ap length mutators);
        }
      where
        more : (heap : Heap) (i : Identity) (r : Record) → record_of heap i ≡ Some r → is_cell r.kind ≡ true → EmptiedIs heap → EmptiedIs (stored heap i r 0 (Number 0))
        more heap i r found cell kept = record {
          is_heap = stored-kept heap kept.is_heap i r 0 (Number 0) found (omega arith) (λ raw. omega arith);
          grows = λ j made. stored_made heap i r 0 (Number 0) found j (kept.grows j made);
          as_many = stored_makers heap i r 0 (Number 0) found ∙ kept.as_many;
        }

  pub marked-consistent : (s : Story) → IsConsistent s.now → (mark : Mark) → IsConsistent (story_marked code turns s mark).now
  marked-consistent s is (Step m) = stepped-consistent s.now is m (nat_lt m (length code)) refl
  marked-consistent s is (Flip asked) = is
  marked-consistent s is (Full m asked room live) = full_if-consistent s.now is m asked room live (is_asked asked (asked_by code turns s.now m)) refl
  marked-consistent s is Traced = emptied-consistent s.now is s.flip

  story_after-consistent : (s : Story) (order : List Mark) → IsConsistent s.now → IsConsistent (story_after code turns s order).now
  story_after-consistent s [] is = is
  story_after-consistent s (mark ∷ marks) is = story_after-consistent (story_marked code turns s mark) marks (marked-consistent s is mark)

-- ---- a run

pub marks-keep : (code : List (List Instr)) (turns : ℕ) (s : Story) (mark : Mark) → list_all (list_all is_valid) code ≡ true → IsConsistent s.now → IsConsistent (story_marked code turns s mark).now
marks-keep code turns s mark valid is = marked-consistent code turns valid s is mark

pub plain-consistent : (code : List (List Instr)) (turns : ℕ) (order : List Mark) → list_all (list_all is_valid) code ≡ true → IsConsistent (plain code turns order)
plain-consistent code turns order valid = story_after-consistent code turns valid (first_story code) order (opening-consistent code)
