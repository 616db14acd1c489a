-- What a task comes to is what the mark of it does to the plain machine.
use Rattle.std.proofs.Common.{◌≡◌, ℕ, ◌+◌, ◌<◌, ◌≤◌, Bool, true, false, nat_le, List, length, Option, Some, None, Result, Ok, Err, slice_get, slice_set, refl, ap, sym, ◌∙◌, arith, lt-ltb, leb-false, eq-eqb}
use Rattle.std.specs.Option.{option_map, ok_or}
use Rattle.std.specs.Prelude.{IfOk, IsOk, if◌then◌else◌, [], ◌∷◌, map, replicate}
use Rattle.std.proofs.lemmas.Option.{slice_get_within}
use Rattle.plain_state.specs.declared.end.End.{End}
use Rattle.plain_state.specs.declared.end.End.TheVariants as ends
use Rattle.plain_state.specs.State.{Record, Heap, Mutator, Plain, none_snapped, record_of, serial_of}
use Rattle.plain_state.specs.declared.value.Identity.{Identity}
use Rattle.plain_state.specs.declared.value.Value.{Value}
use Rattle.plain_state.specs.declared.value.Value.TheVariants.{Number}
use Rattle.plain_state.specs.Writing.{filled, stored}
use Rattle.plain_state.proofs.Elements.{slice_get-set_same}
use Rattle.plain_state.proofs.Gained.{gained_serial}
use Rattle.plain_state.proofs.Stored.{stored_serial}
use Rattle.mutator_asm.specs.declared.instr.Instr.{Instr}
use Rattle.mutator_asm.specs.Program.{instr_at}
use Rattle.plain_heap.specs.declared.mark.Mark.{Mark}
use Rattle.plain_heap.specs.declared.mark.Mark.TheVariants as marks
use Rattle.plain_heap.specs.declared.action.Action.{Action}
use Rattle.plain_heap.specs.declared.action.Action.TheVariants.{Makes, Loads, Stores, Compares}
use Rattle.plain_heap.specs.Action.{◌>>=◌, action}
use Rattle.plain_heap.specs.Call.{After, call, performed, value_in, store_in, may_hold, set_register, went_on}
use Rattle.plain_heap.specs.Order.{ended_for_want, end_of, story_marked}
use Rattle.plain_heap.specs.Step.{fetch, executes, ended, settled, stepped, asked_by, new_record, pages_of}
use Rattle.plain_heap.proofs.Calls.CountedCalls.{Went, call-went}
use Rattle.plain_heap.proofs.Calls.CallOutcomes.{if_ok-bind, performed_exchange}
use Rattle.heap_laws.specs.Opening.{opening_plain}
use Rattle.plain_heap.specs.Order as order
use Rattle.gc_worker.specs.Plain.Answer.{MayEnd, MayCome, after_outcome}
use Rattle.gc_worker.specs.declared.calls.did.Did.{Did}
use Rattle.gc_worker.specs.declared.calls.did.Did.TheVariants.{Done, Trap}
use Rattle.gc_worker.specs.Plain.Marks.{end_mark, task_of, mark_by}

-- ---- the opening

-- one for each element
map_const : {A B : Type 0} (b : B) (xs : List A) → map (λ x. b) xs ≡ replicate (length xs) b
map_const b [] = refl
map_const b (x ∷ xs) = ap (λ rest. b ∷ rest) (map_const b xs)

pub opens_so : (code : List (List Instr)) → opening_plain (length code) ≡ order.opening code
opens_so code = λ i. record {
  heap = record { records = sym (map_const [] code) i; board = replicate 16 (Number 0); snaps = 0; snapped = none_snapped };
  mutators = sym (map_const order.fresh code) i;
}

-- ---- ends

-- an end for want of room, or one that is a step's
pub data Sort (m : ℕ) (why : End) : Type 0 where
  IsFull : (asked room live : ℕ) → why ≡ ends.HeapFull asked room live → Sort m why
  IsStep : end_mark m why ≡ marks.Step m → ((heap : Heap) (q : Mutator) (instr : Instr) → MayEnd m heap q instr why → call m heap q instr ≡ Err why) → Sort m why

pub sort : (m : ℕ) (why : End) → Sort m why
sort m (ends.HeapFull asked room live) = IsFull asked room live refl
sort m _ = IsStep refl (λ heap q instr y. y)

-- ---- counts

module _ (m : ℕ) (heap : Heap) (k : Mutator) (made : m < length heap.records) where
  abbrev Counted : After → Type 0
  Counted a = serial_of a.heap m ≤ serial_of heap m + 1

  -- a store makes no record
  stores : (l : Mutator) (i : Identity) (x : ℕ) (v : Value) (o : Option Record) → record_of heap i ≡ o → IfOk (store_in heap i o x v >>= (λ h. Ok (record { heap = h; mutator = l }))) Counted
  stores l i x v None e = tt
  stores l i x v (Some r) e = by_held (may_hold r.kind x v)
    where
      by_held : (o : Result Value End) → IfOk ((o >>= (λ v. Ok (stored heap i r x v))) >>= (λ h. Ok (record { heap = h; mutator = l }))) Counted
      by_held (Ok y) = let z = stored_serial heap i r x y e m in omega (arith, z)
      by_held (Err why) = tt

  performed-counted : (act : Action) → IfOk (performed m heap k act) Counted
  performed-counted (Makes kind d n v) = let g = gained_serial heap m (filled kind n v) made in omega (arith, g)
  performed-counted (Loads d i x) = if_ok-bind Counted (value_in heap i x) _ (λ v. omega arith)
  performed-counted (Stores i x v) = if_ok-bind Counted (value_in heap i x) _ (λ old. stores (went_on k) i x v (record_of heap i) refl)
  performed-counted (Compares d i x expected v) =
      performed_exchange m heap k d i x expected v Counted (omega arith) (stores (went_on (set_register k d (Number 1))) i x v (record_of heap i) refl)
  performed-counted _ = omega arith

  pub call-counted : (i : Instr) → IfOk (call m heap k i) Counted
  unfolding call
  call-counted i = if_ok-bind Counted (action k i) (performed m heap k) performed-counted

-- ---- the mark of a call

-- the plain state after a step, or after the end that stands in its place
abbrev pub now_marked : List (List Instr) → ℕ → Plain → Mark → Plain
now_marked code turns p (marks.Step m) = stepped code turns p m
now_marked code turns p (marks.Full m asked room live) = ended_for_want code turns p m asked room live
now_marked code turns p mark = p

-- such a mark is no flip
pub no_flip : (code : List (List Instr)) (turns : ℕ) (p o : Plain) (m : ℕ) (did : Did)
    → story_marked code turns (record { flip = o; now = p }) (mark_by m did) ≡ record { flip = o; now = now_marked code turns p (mark_by m did) }
no_flip code turns p o m Done = refl
no_flip code turns p o m (Trap why) = by_sort (sort m why)
  where
    by_sort : Sort m why → story_marked code turns (record { flip = o; now = p }) (mark_by m (Trap why)) ≡ record { flip = o; now = now_marked code turns p (mark_by m (Trap why)) }
    by_sort (IsStep s c) = rw s refl
    by_sort (IsFull asked room live e) = rw e refl

-- ---- a mutator without an end, and its next task

module _ (code : List (List Instr)) (turns : ℕ) (p : Plain) (m : ℕ) (q : Mutator) (has : m < length code) (is : slice_get p.mutators m ≡ Some q) (running : q.end ≡ None) where
  within : m < length p.mutators
  within = slice_get_within p.mutators m q is

  steps : stepped code turns p m ≡ settled p m q (executes code turns m p.heap q)
  unfolding stepped
  steps = rw (lt-ltb m (length code) has, is, running) refl

  no_end : end_of p m ≡ Some None
  no_end = rw (is, running) refl

  -- the end of the mutator that is written back
  end_after : (heap : Heap) (k : Mutator) → end_of (record { heap = heap; mutators = slice_set p.mutators m k }) m ≡ Some k.end
  end_after heap k = rw (slice_get-set_same p.mutators m k within) refl

  -- ---- its task

  pub asks : (instr : Instr) (asked : ℕ) → fetch code turns m q ≡ Ok instr → option_map pages_of (new_record q instr) ≡ Some asked → asked_by code turns p m ≡ Some asked
  unfolding asked_by action
  asks instr asked e may = rw (is, running, e) may

  fills : (asked room live : ℕ) → asked_by code turns p m ≡ Some asked → ended_for_want code turns p m asked room live ≡ ended p m q (ends.HeapFull asked room live)
  unfolding ended_for_want
  fills asked room live e = rw (e, eq-eqb asked asked refl, is) refl

  executes-ok : (instr : Instr) → fetch code turns m q ≡ Ok instr → executes code turns m p.heap q ≡ call m p.heap q instr
  executes-ok instr e = rw e refl

  executes-err : (why : End) → fetch code turns m q ≡ Err why → executes code turns m p.heap q ≡ Err why
  executes-err why e = rw e refl

  -- the plain state after what it comes to
  abbrev Then : Did → Plain
  Then outcome = now_marked code turns p (mark_by m outcome)

  by_end : (instr : Instr) (why : End) → fetch code turns m q ≡ Ok instr → MayEnd m p.heap q instr why → Sort m why → Then (Trap why) ≡ ended p m q why
  by_end instr why e may (IsStep s c) = rw (s, steps, executes-ok instr e, c p.heap q instr may) refl
  by_end instr why e may (IsFull asked room live y) =
      rw y (fills asked room live (asks instr asked e (rw y at may)))

  -- what stands in place of an instruction is no want of room
  no_full : (asked room live : ℕ) → fetch code turns m q ≡ Err (ends.HeapFull asked room live) → ⊥
  no_full asked room live e = by_turns (nat_le turns q.executed) (instr_at code m q.counter) e
    where
      by_turns : (b : Bool) (o : Option Instr) → (if b then Err ends.TurnsOut else ok_or o ends.JumpOut) ≡ Err (ends.HeapFull asked room live) → ⊥
      by_turns true o y = cc
      by_turns false None y = cc
      by_turns false (Some instr) y = cc

  by_stop : (why : End) → fetch code turns m q ≡ Err why → Sort m why → Then (Trap why) ≡ ended p m q why
  by_stop why e (IsStep s c) = rw (s, steps, executes-err why e) refl
  by_stop why e (IsFull asked room live y) = absurd (no_full asked room live (rw y at e))

  comes_by : (f : Result Instr End) → fetch code turns m q ≡ f → (outcome : Did) → MayCome m p.heap q (task_of f) outcome → Then outcome ≡ after_outcome p m q (task_of f) outcome
  comes_by (Ok instr) e Done may = steps ∙ ap (settled p m q) (executes-ok instr e)
  comes_by (Ok instr) e (Trap why) may = by_end instr why e may (sort m why)
  comes_by (Err why) e Done may = absurd may
  comes_by (Err why) e (Trap other) may = rw may (by_stop why e (sort m why))

  -- what its task comes to is what the mark of it does
  pub comes : (outcome : Did) → MayCome m p.heap q (task_of (fetch code turns m q)) outcome → Then outcome ≡ after_outcome p m q (task_of (fetch code turns m q)) outcome
  comes = comes_by (fetch code turns m q) refl

  -- ---- the mutator then

  abbrev end_in : Did → Option End
  end_in Done = None
  end_in (Trap why) = Some why

  end_by : (f : Result Instr End) (outcome : Did) → MayCome m p.heap q (task_of f) outcome → end_of (after_outcome p m q (task_of f) outcome) m ≡ Some (end_in outcome)
  end_by (Ok instr) Done may = by_call (call m p.heap q instr) (call-went m p.heap q instr) may
    where
      by_call : (r : Result After End) → IfOk r (λ a. Went q a.mutator) → IsOk r → end_of (settled p m q r) m ≡ Some None
      by_call (Ok a) went ok = end_after a.heap a.mutator ∙ ap Some (went.going ∙ running)
      by_call (Err why) went ok = absurd (cc)
  end_by (Ok instr) (Trap why) may = end_after p.heap (record q { end = Some why })
  end_by (Err why) Done may = absurd may
  end_by (Err why) (Trap other) may = end_after p.heap (record q { end = Some other })

  pub end_then : (outcome : Did) → MayCome m p.heap q (task_of (fetch code turns m q)) outcome → end_of (Then outcome) m ≡ Some (end_in outcome)
  end_then outcome may = ap (λ s. end_of s m) (comes outcome may) ∙ end_by (fetch code turns m q) outcome may

  -- where it ends for want of room its next step asks for so much
  pub asks_then : (asked room live : ℕ) → MayCome m p.heap q (task_of (fetch code turns m q)) (Trap (ends.HeapFull asked room live)) → asked_by code turns p m ≡ Some asked
  asks_then asked room live may = by_task (fetch code turns m q) refl may
    where
      by_task : (f : Result Instr End) → fetch code turns m q ≡ f → MayCome m p.heap q (task_of f) (Trap (ends.HeapFull asked room live)) → asked_by code turns p m ≡ Some asked
      by_task (Ok instr) e y = asks instr asked e y
      by_task (Err why) e y = absurd (no_full asked room live (rw (sym y) at e))

  pub was_running : end_of p m ≡ Some None
  was_running = no_end

  -- ---- what it made and executed

  -- it made no more records than it executed instructions, and executed no more than it may
  pub record IsCounted (heap : Heap) (ks : List Mutator) : Type 0 where
    pub mutator : Mutator
    pub found : slice_get ks m ≡ Some mutator
    pub counted : serial_of heap m ≤ mutator.executed
    pub bounded : mutator.executed ≤ turns

  -- an instruction is executed only where there are turns left
  turns_left : (instr : Instr) → fetch code turns m q ≡ Ok instr → q.executed < turns
  turns_left instr e = by_turns (nat_le turns q.executed) (instr_at code m q.counter) refl e
    where
      by_turns : (b : Bool) (o : Option Instr) → nat_le turns q.executed ≡ b → (if b then Err ends.TurnsOut else ok_or o ends.JumpOut) ≡ Ok instr → q.executed < turns
      by_turns true o y z = absurd (cc)
      by_turns false o y z = leb-false turns q.executed y

  ends_counted : (why : End) → serial_of p.heap m ≤ q.executed → q.executed ≤ turns → IsCounted p.heap (slice_set p.mutators m (record q { end = Some why }))
  ends_counted why c b = record { mutator = record q { end = Some why }; found = slice_get-set_same p.mutators m (record q { end = Some why }) within; counted = c; bounded = b }

  counted_by : (f : Result Instr End) → fetch code turns m q ≡ f → (outcome : Did) → MayCome m p.heap q (task_of f) outcome → m < length p.heap.records → serial_of p.heap m ≤ q.executed → q.executed ≤ turns
      → IsCounted (after_outcome p m q (task_of f) outcome).heap (after_outcome p m q (task_of f) outcome).mutators
  counted_by (Ok instr) e Done may made c b = by_call (call m p.heap q instr) (call-went m p.heap q instr) (call-counted m p.heap q made instr)
    where
      by_call : (r : Result After End) → IfOk r (λ a. Went q a.mutator) → IfOk r (λ a. serial_of a.heap m ≤ serial_of p.heap m + 1) → IsCounted (settled p m q r).heap (settled p m q r).mutators
      by_call (Ok a) went y = let x = went.executed in let l = turns_left instr e in record { mutator = a.mutator; found = slice_get-set_same p.mutators m a.mutator within; counted = omega (arith, x, y, c); bounded = omega (arith, x, l) }
      by_call (Err why) went y = ends_counted why c b
  counted_by (Ok instr) e (Trap why) may made c b = ends_counted why c b
  counted_by (Err why) e Done may made c b = absurd may
  counted_by (Err why) e (Trap other) may made c b = ends_counted other c b

  pub counted_then : (outcome : Did) → MayCome m p.heap q (task_of (fetch code turns m q)) outcome → m < length p.heap.records → serial_of p.heap m ≤ q.executed → q.executed ≤ turns
      → IsCounted (after_outcome p m q (task_of (fetch code turns m q)) outcome).heap (after_outcome p m q (task_of (fetch code turns m q)) outcome).mutators
  counted_then outcome may made c b = counted_by (fetch code turns m q) refl outcome may made c b
