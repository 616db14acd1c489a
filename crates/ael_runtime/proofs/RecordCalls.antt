-- Calls that look at a record, read a word of it or write one.
use Rattle.std.proofs.Common.{◌≡◌, ◌≢◌, ℕ, ◌<◌, inl, inr, Bool, false, List, [], ◌∷◌, ◌++◌, length, Option, Some, None, Result, Ok, Err, slice_index_or, slice_set, refl, ap, sym, ◌∙◌, subst, arith, get_or-set_same, length-set}
use Rattle.std.specs.Prelude.{IsTrue, is_some}
use Rattle.std.specs.Option.{option_map_or}
use Rattle.std.proofs.lemmas.Bool.{lt-ltb}
use Rattle.plain_state.specs.declared.end.End.{End}
use Rattle.plain_state.specs.declared.sizes.TheConstants.{NUMBERS, REGISTERS}
use Rattle.plain_state.specs.declared.value.Identity.{Identity}
use Rattle.plain_state.specs.declared.value.Value.{Value}
use Rattle.plain_state.specs.declared.value.Value.TheVariants.{Number, Reference}
use Rattle.plain_state.specs.State.{Heap, Record, record_of}
use Rattle.plain_state.specs.Writing.{stored, with_value}
use Rattle.plain_state.proofs.Stored.{stored_there}
use Rattle.mutator_asm.specs.declared.instr.Instr.{Instr}
use Rattle.mutator_asm.specs.declared.instr.Instr.TheVariants as instrs
use Rattle.mutator_asm.specs.declared.operand.Operand.TheVariants as operands
use Rattle.mutator_asm.specs.Program.{is_valid}
use Rattle.plain_heap.specs.Call.{After, call, may_hold, values_of}
use Rattle.plain_heap.proofs.Calls.RecordsAfterCalls.{held_same}
use Rattle.plain_heap.proofs.Calls.Single.{call-ld, call-len, call-st, call-st_not}
use Rattle.gc_worker.proofs.Plain.RecordsMade.{made_of}
use Rattle.heap_state.specs.Known.{Account}
use Rattle.gc_worker.specs.Plain.Seen.{seen}
use Rattle.gc_worker.specs.Workers.Fits.{FitsCall}
use Rattle.ael_threads.specs.Seats.{Seated}
use Rattle.ael_runtime.specs.declared.root.TheConstants.{SCRATCH}
use Rattle.ael_runtime.specs.Calling.{AtCall, CalledAll, EndedByOnceSeen, HadEffect, IsSure, HadEffects, HadEffectsOnceSeen, WasTrapped, OneCall, done, trapped}
use Rattle.ael_runtime.specs.Failing.{CantHold}
use Rattle.ael_runtime.specs.Reading.{held, len_of, number, value_number, seen_heap, seen_mutator, record_word}
use Rattle.ael_runtime.proofs.Effects.{sets, writes}
use Rattle.ael_runtime.proofs.Lengths.{len_by_record, len_stays, there_by_len}
use Rattle.ael_runtime.proofs.PlainCalls.{is_done, own_end}

-- ---- values

pub leads_by : (v : Value) → is_some (value_number v) ≡ false → (i : Identity) × (v ≡ Reference i)
leads_by (Number n) is = absurd (cc)
leads_by (Reference i) is = (i, refl)

pub leads_by_len : (heap : Heap) (v : Value) (x : ℕ) → x < len_of heap v → (i : Identity) × (v ≡ Reference i)
leads_by_len heap (Number n) x within = absurd (omega (arith, within))
leads_by_len heap (Reference i) x within = (i, refl)

-- a result is one end
same_end : (o : Result After End) (x y : End) → o ≡ Err x → o ≡ Err y → x ≡ y
same_end o x y is other = cc

pub leads_tested : (v : Value) (o : Option ℕ) (told : Bool) → o ≡ value_number v → told ≡ is_some o → told ≡ false → (i : Identity) × (v ≡ Reference i)
leads_tested v o told is told_is none = leads_by v (ap is_some (sym is) ∙ (sym told_is ∙ none))

-- ---- calls one after another

pub called_then : (a : Seated) (cs : List OneCall) (b : Seated) (ds : List OneCall) (c : Seated) → CalledAll a cs b → CalledAll b ds c → CalledAll a (cs ++ ds) c
called_then a [] b ds c first rest = subst (λ (s : Seated). CalledAll s ds c) first rest
called_then a (x ∷ xs) b ds c first rest = (first.0, (first.1.0, called_then first.0 xs b ds c first.1.1 rest))

-- ---- len

pub sure_len : (a : Seated) (d s : ℕ) (i : Identity) → held a s ≡ Reference i → IsSure a (instrs.Len d s)
sure_len a d s i is = record {
  other = λ e. absurd (cc);
  no_record = λ k. made_of k (instrs.Len d s);
  ok = λ heap at. is_done _ _ (call-len (number a) heap (seen_mutator a) d s i is);
}

pub measured : (a b : Seated) (s : ℕ) (i : Identity) → held a s ≡ Reference i → HadEffect a (instrs.Len SCRATCH s) b
    → (held b SCRATCH ≡ Number (len_of (seen_heap b) (held a s))) × HadEffects a (done (instrs.Len SCRATCH s) ∷ []) SCRATCH b
measured a b s i is e =
    let to = sets a b (instrs.Len SCRATCH s) e SCRATCH (Number (length (values_of e.heap i))) e.heap (omega arith) (call-len (number a) e.heap (seen_mutator a) SCRATCH s i is) in (
      to.value ∙ sym (ap (λ (v : Value). Number (len_of (seen_heap b) v)) is ∙ ap (λ (h : Heap). Number (length (values_of h i))) to.heap_is),
      record { called = (b, (e.called, refl)); had_no_end = e.had_no_end; no_end = e.called.ends; others = λ j other scratch. to.others j other },
    )

-- ---- after a look, or without it

pub seen_others : (a : Seated) (of : ℕ) (cs : List OneCall) (r : ℕ) (b : Seated) → HadEffectsOnceSeen a of cs r b → (j : ℕ) → j ≢ r → j ≢ SCRATCH → held b j ≡ held a j
seen_others a of cs r b (inl l) = l.others
seen_others a of cs r b (inr l) = l.others

-- one more call
leaves_more : (a : Seated) (of : ℕ) (then : Seated) (c : OneCall) (r : ℕ) (b : Seated) → HadEffectsOnceSeen a of [] SCRATCH then → CalledAll then (c ∷ []) b → b.worker.account.end ≡ None
    → ((j : ℕ) → j ≢ r → held b j ≡ held then j) → HadEffectsOnceSeen a of (c ∷ []) r b
leaves_more a of then c r b (inl l) called no_end others = inl (record {
  called = called_then a [] then (c ∷ []) b l.called called;
  had_no_end = l.had_no_end;
  no_end = no_end;
  others = λ j other scratch. others j other ∙ l.others j scratch scratch;
})
leaves_more a of then c r b (inr l) called no_end others = inr (record {
  called = called_then a (done (instrs.Len SCRATCH of) ∷ []) then (c ∷ []) b l.called called;
  had_no_end = l.had_no_end;
  no_end = no_end;
  others = λ j other scratch. others j other ∙ l.others j scratch scratch;
})

-- one more, which is the end
ends_more : (a : Seated) (of : ℕ) (then : Seated) (i : Instr) (end : End) (b : Seated) → HadEffectsOnceSeen a of [] SCRATCH then → WasTrapped then i end b → EndedByOnceSeen a of (trapped i end ∷ []) end b
ends_more a of then i end b (inl l) t = inl (record {
  called = called_then a [] then (trapped i end ∷ []) b l.called (b, (t.called, refl));
  had_no_end = l.had_no_end;
  ended = t.called.ends;
  heap = t.heap_is ∙ sym t.before;
  others = λ j scratch. t.registers j ∙ l.others j scratch scratch;
})
ends_more a of then i end b (inr l) t = inr (record {
  called = called_then a (done (instrs.Len SCRATCH of) ∷ []) then (trapped i end ∷ []) b l.called (b, (t.called, refl));
  had_no_end = l.had_no_end;
  ended = t.called.ends;
  heap = t.heap_is ∙ sym t.before;
  others = λ j scratch. t.registers j ∙ l.others j scratch scratch;
})

-- ---- a word of it

-- after a look at its length, or without it
module _ (a then : Seated) (of at : ℕ) (look : HadEffectsOnceSeen a of [] SCRATCH then) (other : of ≢ SCRATCH) (within : at < len_of (seen_heap then) (held a of)) where
  look_others : (j : ℕ) → j ≢ SCRATCH → held then j ≡ held a j
  look_others j scratch = seen_others a of [] SCRATCH then look j scratch scratch

  still : held then of ≡ held a of
  still = look_others of other

  abbrev i : Identity
  i = (leads_by_len (seen_heap then) (held a of) at within).0

  leads : held a of ≡ Reference i
  leads = (leads_by_len (seen_heap then) (held a of) at within).1

  leads_then : held then of ≡ Reference i
  leads_then = still ∙ leads

  -- it has this length at the call
  module _ (heap : Heap) (at_call : AtCall then heap) where
    len_at_call : len_of heap (held a of) ≡ len_of (seen_heap then) (held a of)
    len_at_call = len_stays (seen_heap then) heap at_call.shapes (held a of) at within

    within_at_call : at < length (values_of heap i)
    within_at_call =
        let e = len_at_call in
        let f = ap (len_of heap) leads in
        omega (arith, within, e, f)

  -- ---- ld

  module _ (to : ℕ) where
    pub sure_ld : IsSure then (instrs.Ld to of (operands.Number at))
    sure_ld = record {
      other = λ e. absurd (cc);
      no_record = λ k. made_of k (instrs.Ld to of (operands.Number at));
      ok = λ heap at_call. is_done _ _ (call-ld (number then) heap (seen_mutator then) to of at i leads_then (within_at_call heap at_call));
    }

    pub record Fetched (b : Seated) : Type 0 where
      pub value : held b to ≡ record_word (seen_heap b) (held a of) at
      pub inside : at < len_of (seen_heap b) (held a of)
      pub effects : HadEffectsOnceSeen a of (done (instrs.Ld to of (operands.Number at)) ∷ []) to b

    pub fetched : (b : Seated) → to < REGISTERS → HadEffect then (instrs.Ld to of (operands.Number at)) b → Fetched b
    fetched b into e =
        let word = slice_index_or (values_of e.heap i) at (Number 0) in
        let s = sets then b (instrs.Ld to of (operands.Number at)) e to word e.heap into (call-ld (number then) e.heap (seen_mutator then) to of at i leads_then (within_at_call e.heap e.at_call)) in
        let len : len_of (seen_heap b) (held a of) ≡ len_of (seen_heap then) (held a of) = ap (λ (h : Heap). len_of h (held a of)) s.heap_is ∙ len_at_call e.heap e.at_call in record {
          value = s.value ∙ sym (ap (λ (v : Value). record_word (seen_heap b) v at) leads ∙ ap (λ (h : Heap). record_word h (Reference i) at) s.heap_is);
          inside = omega (arith, within, len);
          effects = leaves_more a of then (done (instrs.Ld to of (operands.Number at))) to b look (b, (e.called, refl)) e.called.ends s.others;
        }

  -- ---- st

  module _ (what : ℕ) (not_scratch : what ≢ SCRATCH) where
    abbrev store : Instr
    store = instrs.St of (operands.Number at) what

    abbrev v : Value
    v = held then what

    same_value : v ≡ held a what
    same_value = look_others what not_scratch

    pub record Kept (b : Seated) : Type 0 where
      pub value : record_word (seen_heap b) (held a of) at ≡ held a what
      pub inside : at < len_of (seen_heap b) (held a of)
      pub effects : HadEffectsOnceSeen a of (done store ∷ []) SCRATCH b

    -- the record is there at the call
    module _ (heap : Heap) (at_call : AtCall then heap) where
      abbrev r : Record
      r = (there_by_len heap i at (within_at_call heap at_call)).0

      r_is : record_of heap i ≡ Some r
      r_is = (there_by_len heap i at (within_at_call heap at_call)).1

      r_within : at < length r.values
      r_within = let len = len_by_record heap i r r_is in let w = within_at_call heap at_call in omega (arith, len, w)

    pub kept : (b : Seated) → HadEffect then store b → Kept b
    kept b e = by_hold (may_hold found.kind at v) refl
      where
        found : Record
        found = r e.heap e.at_call

        there : record_of e.heap i ≡ Some found
        there = r_is e.heap e.at_call

        in_found : at < length found.values
        in_found = r_within e.heap e.at_call

        by_hold : (o : Result Value End) → may_hold found.kind at v ≡ o → Kept b
        by_hold (Ok w) holds =
            let s = writes then b store e (stored e.heap i found at w) (call-st (number then) e.heap (seen_mutator then) of at what i found w leads_then there in_found holds) in
            let new : record_of (seen_heap b) i ≡ Some (with_value found at w) = ap (λ (h : Heap). record_of h i) s.heap_is ∙ stored_there e.heap i found at w there in
            let values : values_of (seen_heap b) i ≡ slice_set found.values at w = ap (λ (o : Option Record). option_map_or (λ (q : Record). q.values) o []) new in
            let same : w ≡ held a what = sym (held_same found.kind at v w holds) ∙ same_value in
            let there_len = ap (len_of (seen_heap b)) leads in
            let new_len = ap length values in
            let old_len = length-set found.values at w in record {
              value = ap (λ (z : Value). record_word (seen_heap b) z at) leads ∙ (ap (λ (vs : List Value). slice_index_or vs at (Number 0)) values ∙ (get_or-set_same found.values at w (Number 0) in_found ∙ same));
              inside = omega (arith, there_len, new_len, old_len, in_found);
              effects = leaves_more a of then (done store) SCRATCH b look (b, (e.called, refl)) e.called.ends (λ j apart. s.registers j);
            }
        by_hold (Err end) holds =
            let no = call-st_not (number then) e.heap (seen_mutator then) of at what i found end leads_then there in_found holds in
            let yes = e.is in
            absurd (cc)

    valid_st : of < REGISTERS → what < REGISTERS → at < NUMBERS → IsTrue (is_valid store)
    valid_st from value few = rw (lt-ltb of REGISTERS from, lt-ltb at NUMBERS few, lt-ltb what REGISTERS value) refl

    pub store_begins : (account : Account) (registers : List ℕ) → of < REGISTERS → what < REGISTERS → at < NUMBERS → FitsCall account registers store
    store_begins account registers from value few = record {
      valid = valid_st from value few;
      serial = λ m makes. let none : None ≡ Some m = sym (made_of (seen account registers) store) ∙ makes in absurd (cc);
    }

    -- the record can't hold it
    pub cant_hold : (b : Seated) (end : End) → WasTrapped then store end b → CantHold a of at what end b
    cant_hold b end t = by_hold (may_hold found.kind at v) refl
      where
        found : Record
        found = r t.heap t.at_call

        there : record_of t.heap i ≡ Some found
        there = r_is t.heap t.at_call

        inside : at < length found.values
        inside = r_within t.heap t.at_call

        ends : call (number then) t.heap (seen_mutator then) store ≡ Err end
        ends = own_end (number then) t.heap (seen_mutator then) store end (made_of (seen_mutator then) store) t.may

        len : len_of (seen_heap b) (held a of) ≡ len_of (seen_heap then) (held a of)
        len = ap (λ (h : Heap). len_of h (held a of)) t.heap_is ∙ len_at_call t.heap t.at_call

        by_hold : (o : Result Value End) → may_hold found.kind at v ≡ o → CantHold a of at what end b
        by_hold (Ok w) holds =
            let no = call-st (number then) t.heap (seen_mutator then) of at what i found w leads_then there inside holds in
            let yes = ends in
            absurd (cc)
        by_hold (Err other_end) holds =
            let is = call-st_not (number then) t.heap (seen_mutator then) of at what i found other_end leads_then there inside holds in
            let same : other_end ≡ end = same_end _ other_end end is ends in record {
              ends = ends_more a of then store end b look t;
              within = omega (arith, within, len);
              identity = i;
              leads = leads;
              found = found;
              is = ap (λ (h : Heap). record_of h i) t.heap_is ∙ there;
              refuses = ap (may_hold found.kind at) (sym same_value) ∙ (holds ∙ ap Err same);
            }
