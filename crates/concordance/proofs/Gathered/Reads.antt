-- One call more of a clerk that has taken in all others, which reads.
use Rattle.std.proofs.Common.{◌≡◌, ℕ, ◌<◌, ◌&&◌, Bool, true, false, List, length, Some, None, Result, Ok, slice_get, slice_index, slice_index_or, slice_set, refl, ap, sym, ◌∙◌, subst}
use Rattle.std.specs.Prelude.{IsTrue}
use Rattle.std.specs.Option.{option_map}
use Rattle.std.proofs.lemmas.Bool.{and_parts, lt-ltb, ltb-true}
use Rattle.std.proofs.lemmas.List.{get_or-set_other, get_or-set_same}
use Rattle.std.proofs.lemmas.Option.{get_or_from_slice_get, slice_get-get_or, slice_get_within}
use Rattle.heap_words.specs.Decoded.{NumberWord, PointerWord, decode}
use Rattle.heap_state.specs.Known.{Account}
use Rattle.plain_state.specs.declared.end.End.{End}
use Rattle.plain_state.specs.declared.end.End.TheVariants.{HeapFull}
use Rattle.plain_state.specs.declared.sizes.TheConstants.{REGISTERS}
use Rattle.plain_state.specs.declared.value.Identity.{Identity}
use Rattle.plain_state.specs.declared.value.Value.{Value}
use Rattle.plain_state.specs.declared.value.Value.TheVariants.{Number, Reference}
use Rattle.plain_state.specs.State.{Heap, Mutator, Plain, Record, record_of}
use Rattle.mutator_asm.specs.declared.instr.Instr.{Instr}
use Rattle.mutator_asm.specs.declared.instr.Instr.TheVariants as instrs
use Rattle.mutator_asm.specs.declared.operand.Operand.TheVariants as operands
use Rattle.mutator_asm.specs.Program.{is_operand, is_register, is_valid}
use Rattle.plain_heap.specs.declared.action.Action.{Action}
use Rattle.plain_heap.specs.declared.action.Action.TheVariants.{Makes}
use Rattle.plain_heap.specs.Action.{action, register}
use Rattle.plain_heap.specs.Call.{After, call, loads}
use Rattle.plain_heap.specs.Order.{fresh}
use Rattle.plain_heap.specs.Step.{new_record, pages_of, record_made, settled}
use Rattle.plain_heap.specs.Tracing.{is_weak}
use Rattle.plain_heap.proofs.Calls.Single.{call-get}
use Rattle.gc_worker.specs.declared.calls.did.Did.{Did}
use Rattle.gc_worker.specs.declared.calls.did.Did.TheVariants.{Done, Trap}
use Rattle.gc_worker.specs.declared.task.Task.TheVariants.{Calls}
use Rattle.gc_worker.specs.History.Legal.{after_call}
use Rattle.gc_worker.specs.Plain.Answer.{MayCome, MayEnd, after_answer}
use Rattle.gc_worker.specs.Plain.Seen.{making_in, seen}
use Rattle.gc_worker.specs.Workers.Fits.{FitsCall}
use Rattle.gc_worker.proofs.Plain.RecordsMade.{made_of}
use Rattle.ael_threads.specs.Calls.{Called, call_by, end_by_did}
use Rattle.ael_threads.specs.Readers.{IsThere}
use Rattle.ael_threads.specs.Seats.{IsShown, Seated, ShowsSeen, first_number, plain_after_seen}
use Rattle.concordance.specs.Gathering.{CanGet, HasAll, HasGot, HasRead, HasValueAt, WholeDesk, record_at, register_set, value_got, whole_desk_of, whole_register}
use Rattle.concordance.specs.Lone.{KeepsSeat}
use Rattle.concordance.specs.Whole.{CallsWhole}
use Rattle.ael_threads.proofs.RegisterCount.{have_registers}
use Rattle.concordance.proofs.WholeClerk.{whole_calls}

-- ---- the plain machine's call

abbrev desk_by : Heap → Mutator → WholeDesk
desk_by heap k = record { heap = heap; registers = k.registers }

reference_there : (heap : Heap) (v : Value) (r : Record) → record_at heap v ≡ Some r → (i : Identity) × (v ≡ Reference i) × (record_of heap i ≡ Some r)
reference_there heap (Number n) r is = cc
reference_there heap (Reference i) r is = (i, refl, is)

module _ (m : ℕ) (heap : Heap) (k : Mutator) where
  call-ld : (d a x : ℕ) (has : HasValueAt heap (register k a) x) → call m heap k (instrs.Ld d a (operands.Number x)) ≡ Ok (loads heap k d (slice_index_or has.found.values x (Number 0)))
  unfolding call action
  call-ld d a x has =
      let there = reference_there heap (register k a) has.found has.is in
      rw (there.1, there.2, lt-ltb x (length has.found.values) has.within) refl

  call-len : (d a : ℕ) (r : Record) → record_at heap (register k a) ≡ Some r → call m heap k (instrs.Len d a) ≡ Ok (loads heap k d (Number (length r.values)))
  unfolding call action
  call-len d a r is = let there = reference_there heap (register k a) r is in rw (there.1, there.2) refl

  -- it is executed, and a register takes what is read
  gets_by : (i : Instr) → CanGet (desk_by heap k) i → call m heap k i ≡ Ok (loads heap k (register_set i) (value_got (desk_by heap k) i))
  gets_by (instrs.Get d (operands.Number x)) can = call-get m heap k d x can
  gets_by (instrs.Ld d a (operands.Number x)) can = call-ld d a x can ∙ rw can.is refl
  gets_by (instrs.Len d a) can = call-len d a can.0 can.1 ∙ rw can.1 refl
  gets_by _ can = absurd can

-- ---- no end comes of it

-- it makes no record
makes_none : (q : Mutator) (desk : WholeDesk) (i : Instr) → CanGet desk i → making_in (action q i) ≡ None
makes_none q desk (instrs.Get d x) can = made_of q (instrs.Get d x)
makes_none q desk (instrs.Ld d a x) can = made_of q (instrs.Ld d a x)
makes_none q desk (instrs.Len d a) can = made_of q (instrs.Len d a)
makes_none q desk _ can = absurd can

pub record_none : (o : Result Action End) → making_in o ≡ None → record_made o ≡ None
record_none (Ok (Makes kind d n v)) none = cc
record_none _ none = refl

pub not_ended : (m : ℕ) (heap : Heap) (k : Mutator) (i : Instr) (end : End) (after : After) → call m heap k i ≡ Ok after → new_record k i ≡ None → MayEnd m heap k i end → ⊥
not_ended m heap k i (HeapFull asked room live) after ok none may = let asks : None ≡ Some asked = sym (ap (option_map pages_of) none) ∙ may in cc
not_ended m heap k i _ after ok none may = cc

-- ---- what a call asks of its mutator

pub gets_begins : (account : Account) (registers : List ℕ) (desk : WholeDesk) (i : Instr) → IsTrue (is_valid i) → CanGet desk i → FitsCall account registers i
gets_begins account registers desk i valid can = record { valid = valid; serial = λ m makes. let no : None ≡ Some m = sym (makes_none (seen account registers) desk i can) ∙ makes in absurd cc }

first_register : (d : ℕ) (b : Bool) → (is_register d && b) ≡ true → d < REGISTERS
first_register d b valid = ltb-true d REGISTERS (and_parts (is_register d) b valid).0

-- the register that it sets is there
sets_register : (desk : WholeDesk) (i : Instr) → CanGet desk i → IsTrue (is_valid i) → register_set i < REGISTERS
sets_register desk (instrs.Get d x) can valid = first_register d (is_operand x) valid
sets_register desk (instrs.Ld d a x) can valid = first_register d (is_register a) (and_parts (is_register d && is_register a) (is_operand x) valid).0
sets_register desk (instrs.Len d a) can valid = first_register d (is_register a) valid
sets_register desk _ can valid = absurd can

-- it makes no cell
gets_no_cell : (desk : WholeDesk) (i : Instr) → CanGet desk i → is_weak i ≡ false
gets_no_cell desk (instrs.Get d x) can = refl
gets_no_cell desk (instrs.Ld d a x) can = refl
gets_no_cell desk (instrs.Len d a) can = refl
gets_no_cell desk _ can = absurd can

-- ---- a call

module _ (a b : Seated) (i : Instr) (all : HasAll a) (can : CanGet (whole_desk_of a) i) (did : Did) (h : Called a (Calls i) did b) where
  abbrev m : ℕ
  m = first_number a.knows.hands

  abbrev p : Plain
  p = plain_after_seen a.knows

  whole : CallsWhole a (Calls i) did b
  whole = whole_calls a b (Calls i) did all.whole (gets_no_cell (whole_desk_of a) i can) h

  abbrev caller : Mutator
  caller = whole.comes.mutator

  caller_is : slice_get p.mutators m ≡ Some caller
  caller_is = whole.comes.is

  desk_is : whole_desk_of a ≡ desk_by p.heap caller
  unfolding whole_desk_of
  desk_is = ap (desk_by p.heap) (get_or_from_slice_get p.mutators m caller fresh caller_is)

  can_get : CanGet (desk_by p.heap caller) i
  can_get = subst (λ (d : WholeDesk). CanGet d i) desk_is can

  abbrev got : Value
  got = value_got (desk_by p.heap caller) i

  abbrev left : After
  left = loads p.heap caller (register_set i) got

  executed : call m p.heap caller i ≡ Ok left
  executed = gets_by m p.heap caller i can_get

  -- it is executed
  pub gets_not_end : (end : End) → did ≡ Trap end → ⊥
  gets_not_end end e = not_ended m p.heap caller i end left executed (record_none (action caller i) (makes_none caller (whole_desk_of a) i can)) (subst (MayCome m p.heap caller (Calls i)) e whole.comes.may)

  number_is : first_number b.knows.hands ≡ m
  number_is = ap first_number h.hands

  module _ (done : did ≡ Done) where
    after : plain_after_seen b.knows ≡ settled p m caller (Ok left)
    after = whole.after ∙ (ap (λ (d : Did). after_call p (call_by a (Calls i) d)) done ∙ (ap (after_answer p m (Calls i) Done) caller_is ∙ ap (settled p m caller) executed))

    -- its desk then
    desk_then : whole_desk_of b ≡ record { heap = p.heap; registers = slice_set caller.registers (register_set i) got }
    unfolding whole_desk_of
    desk_then =
        let within : m < length p.mutators = slice_get_within p.mutators m caller caller_is in
        (λ j. let q : Plain = after j in let d : WholeDesk = record { heap = q.heap; registers = (slice_index_or q.mutators (number_is j) fresh).registers } in d)
        ∙ ap (desk_by p.heap) (get_or-set_same p.mutators m left.mutator fresh within)

    all_registers : length caller.registers ≡ REGISTERS
    all_registers = have_registers a.knows.plan.mutators a.knows.seen m caller caller_is

    has_all : HasAll b
    has_all = record { whole = whole.whole; no_end = h.ends ∙ ap end_by_did done }

    seat : b.table ≡ a.table → KeepsSeat a b
    seat table = record { table = table; plan = h.plan; number = number_is }

    read : b.table ≡ a.table → HasRead a b
    read table = record { seat = seat table; all = has_all; heap = ap (λ (d : WholeDesk). d.heap) desk_then ∙ sym (ap (λ (d : WholeDesk). d.heap) desk_is) }

    pub gets_it : b.table ≡ a.table → IsTrue (is_valid i) → HasGot a (register_set i) (value_got (whole_desk_of a) i) b
    gets_it table valid =
        let d = register_set i in
        let within : d < length caller.registers = subst (λ (n : ℕ). d < n) (sym all_registers) (sets_register (whole_desk_of a) i can valid) in
        record {
          read = read table;
          taken = ap (λ (w : WholeDesk). whole_register w d) desk_then ∙ (get_or-set_same caller.registers d got (Number 0) within ∙ ap (λ (w : WholeDesk). value_got w i) (sym desk_is));
          others = λ r other. ap (λ (w : WholeDesk). whole_register w r) desk_then ∙ (get_or-set_other caller.registers d r got (Number 0) other ∙ ap (λ (w : WholeDesk). whole_register w r) (sym desk_is));
        }

-- ---- what its registers show

module _ (s : Seated) (shows : ShowsSeen s.worker s.knows) (there : IsThere s) where
  abbrev mine : Mutator
  mine = slice_index_or (plain_after_seen s.knows).mutators (first_number s.knows.hands) fresh

  shown : IsShown (plain_after_seen s.knows).heap (first_number s.knows.hands) s.worker mine
  shown = shows mine (slice_get-get_or (plain_after_seen s.knows).mutators (first_number s.knows.hands) fresh (subst (λ (j : ℕ). j < length (plain_after_seen s.knows).mutators) (sym there.0) there.1))

  pub number_seen : (r w : ℕ) → r < REGISTERS → decode (slice_index s.worker.registers r) ≡ NumberWord w → whole_register (whole_desk_of s) r ≡ Number w
  unfolding whole_desk_of
  number_seen r w below is = get_or_from_slice_get mine.registers r (Number w) (Number 0) (shown.registers.numbers r w below is)

  pub pointer_seen : (r address : ℕ) → r < REGISTERS → decode (slice_index s.worker.registers r) ≡ PointerWord address → (i : Identity) × (whole_register (whole_desk_of s) r ≡ Reference i)
  unfolding whole_desk_of
  pointer_seen r address below is =
      let leads = shown.registers.pointers r address below is in
      (leads.0, get_or_from_slice_get mine.registers r (Reference leads.0) (Number 0) leads.1)

  -- one that holds a number shows no pointer
  pub no_pointer : (r address n : ℕ) → r < REGISTERS → decode (slice_index s.worker.registers r) ≡ PointerWord address → whole_register (whole_desk_of s) r ≡ Number n → ⊥
  no_pointer r address n below is number = let leads = pointer_seen r address below is in let same : Reference leads.0 ≡ Number n = sym leads.1 ∙ number in cc

-- ---- the heap that it reads

pub whole_heap : (s : Seated) → (whole_desk_of s).heap ≡ (plain_after_seen s.knows).heap
unfolding whole_desk_of
whole_heap s = refl
