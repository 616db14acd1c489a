-- What one more call of a mutator does to what its thread knows of the history that it has seen.
use Rattle.std.proofs.Common.{◌≡◌, ℕ, ◌+◌, ◌<◌, ◌≤◌, Bool, cond, List, [], ◌∷◌, ◌++◌, length, Option, Some, None, Result, Ok, Err, slice_get, slice_set, refl, sym, ◌∙◌, ap, subst, arith, append-nil, eq-eqb}
use Rattle.std.specs.Prelude.{IfOk, IsOk}
use Rattle.std.proofs.lemmas.List.{append_cancel_right, get_or-replicate, length-replicate}
use Rattle.std.proofs.lemmas.Option.{same_Some, slice_get_within}
use Rattle.std.proofs.Math.ListN.{length-set}
use mathlib.Core.List.{IsPrefix}
use Rattle.plain_state.specs.declared.end.End.{End}
use Rattle.plain_state.specs.declared.value.Identity.{Identity}
use Rattle.plain_state.specs.declared.value.Value.{Value}
use Rattle.plain_state.specs.State.{Record, Heap, Mutator, Plain, made_by, record_of, serial_of}
use Rattle.plain_state.specs.State as plain
use Rattle.plain_state.specs.Writing.{filled}
use Rattle.plain_state.proofs.Elements.{slice_get-replicate, slice_get-set_same}
use Rattle.mutator_asm.specs.declared.instr.Instr.{Instr}
use Rattle.plain_heap.specs.declared.action.Action.{Action}
use Rattle.plain_heap.specs.declared.action.Action.TheVariants.{Makes, Loads, Stores, Compares}
use Rattle.plain_heap.specs.Action.{action}
use Rattle.plain_heap.specs.Call.{After, call, may_hold, performed, store_in, value_in}
use Rattle.plain_heap.specs.Step.{ended, fetch, settled}
use Rattle.plain_heap.proofs.Calls.CountedCalls.{Went, call-went}
use Rattle.plain_heap.proofs.Calls.CallOutcomes.{if_ok-bind, if_ok-then, performed_exchange}
use Rattle.heap_laws.specs.Opening.{opening_mutator, opening_plain}
use Rattle.gc_worker.specs.declared.task.Task.{Task}
use Rattle.gc_worker.specs.declared.task.Task.TheVariants.{Calls, Stops}
use Rattle.gc_worker.specs.Plain.Answer.{ComesTo, MayCome, after_answer, after_outcome, with_emptied}
use Rattle.gc_worker.specs.Workers.Held.{Held}
use Rattle.gc_worker.specs.Plain.Marks.{task_of}
use Rattle.gc_worker.proofs.Plain.TaskOutcomes.{call-counted}
use Rattle.gc_worker.specs.declared.calls.call.Call.{Call}
use Rattle.gc_worker.specs.declared.calls.did.Did.{Did}
use Rattle.gc_worker.specs.declared.calls.did.Did.TheVariants.{Done, Trap}
use Rattle.gc_worker.specs.declared.calls.entry.Entry.{Entry}
use Rattle.gc_worker.specs.declared.calls.entry.Entry.TheVariants.{Made, Exchanged, Emptied}
use Rattle.ael_threads.specs.declared.view.Hand.{Hand}
use Rattle.ael_threads.specs.declared.view.Plan.{Plan}
use Rattle.gc_worker.specs.History.Legal.{IsLegal, after_all, after_call, calls_of}
use Rattle.gc_worker.specs.History.Order.{AreFetched, AreShort, IsShort}
use Rattle.ael_threads.specs.Runs.Programs.{HasCount, Executes, count_after_call, fetched_at}
use Rattle.ael_threads.specs.Seats.{Extends, IsShown}
use Rattle.gc_worker.proofs.Plain.CellTargets.Emptied.{same_makers}
use Rattle.gc_worker.proofs.History.Orders.{fetched_append, fetched_none, short_append, short_none}
use Rattle.gc_worker.proofs.History.Extensions.{legal_last, no_more, Agrees, after_append, calls_append, seen_keeps}

-- ---- how many records there are lists of

module _ (m : ℕ) (heap : Heap) (k : Mutator) where
  abbrev AsMany : Heap → Type 0
  AsMany h = length h.records ≡ length heap.records

  stores-makers : (i : Identity) (x : ℕ) (v : Value) (o : Option Record) → IfOk (store_in heap i o x v) AsMany
  stores-makers i x v None = tt
  stores-makers i x v (Some r) = if_ok-bind AsMany (may_hold r.kind x v) _ (λ w. length-set heap.records i.mutator _)

  performed-makers : (act : Action) → IfOk (performed m heap k act) (λ a. AsMany a.heap)
  performed-makers (Makes kind d n v) = length-set heap.records m (made_by heap m ++ filled kind n v ∷ [])
  performed-makers (Loads d i x) = if_ok-bind (λ (a : After). AsMany a.heap) (value_in heap i x) _ (λ v. refl)
  performed-makers (Stores i x v) = if_ok-bind (λ (a : After). AsMany a.heap) (value_in heap i x) _
      (λ old. if_ok-then AsMany (λ (a : After). AsMany a.heap) (store_in heap i (record_of heap i) x v) _ (stores-makers i x v (record_of heap i)) (λ h same. same))
  performed-makers (Compares d i x expected v) =
      performed_exchange m heap k d i x expected v (λ (a : After). AsMany a.heap) refl
      (if_ok-then AsMany (λ (a : After). AsMany a.heap) (store_in heap i (record_of heap i) x v) _ (stores-makers i x v (record_of heap i)) (λ h same. same))
  performed-makers _ = refl

  call-makers : (i : Instr) → IfOk (call m heap k i) (λ a. AsMany a.heap)
  unfolding call
  call-makers i = if_ok-bind (λ (a : After). AsMany a.heap) (action k i) (performed m heap k) performed-makers

makers_outcome : (p : Plain) (m : ℕ) (q : Mutator) (task : Task) (outcome : Did) → length (after_outcome p m q task outcome).heap.records ≡ length p.heap.records
makers_outcome p m q (Calls instr) Done = by_call (call m p.heap q instr) (call-makers m p.heap q instr)
  where
    by_call : (r : Result After End) → IfOk r (λ a. length a.heap.records ≡ length p.heap.records) → length (settled p m q r).heap.records ≡ length p.heap.records
    by_call (Ok a) same = same
    by_call (Err why) same = refl
makers_outcome p m q (Stops end) Done = refl
makers_outcome p m q (Calls instr) (Trap why) = refl
makers_outcome p m q (Stops end) (Trap why) = refl

makers_answer : (p : Plain) (m : ℕ) (task : Task) (outcome : Did) (o : Option Mutator) → length (after_answer p m task outcome o).heap.records ≡ length p.heap.records
makers_answer p m task outcome (Some q) = makers_outcome p m q task outcome
makers_answer p m task outcome None = refl

-- no call adds or takes away such a list
pub makers : (p : Plain) (log : List Entry) → length (after_all p log).heap.records ≡ length p.heap.records
makers p [] = refl
makers p (Made c ∷ es) = makers (after_call p c) es ∙ makers_answer p c.by c.task c.did (slice_get p.mutators c.by)
makers p (Exchanged by asked ∷ es) = makers p es
makers p (Emptied cells ∷ es) = makers (with_emptied p cells) es ∙ same_makers p cells

-- ---- what came since is none of its calls

-- the whole history has no more calls of mutator m than this beginning
module _ (m : ℕ) (seen log : List Entry) (begins : IsPrefix seen log) (same : calls_of m log ≡ calls_of m seen) where
  rest_none : calls_of m begins.0 ≡ []
  rest_none = no_more seen begins.0 m (sym (calls_append m seen begins.0) ∙ (ap (calls_of m) begins.1 ∙ same))

  pub fetched_all : (code : List (List Instr)) (turns : ℕ) (p : Plain) → AreFetched code turns m p seen → AreFetched code turns m p log
  fetched_all code turns p h = subst (AreFetched code turns m p) begins.1 (fetched_append code turns m p seen begins.0 h (fetched_none code turns m (after_all p seen) begins.0 rest_none))

  pub short_all : AreShort m seen → AreShort m log
  short_all h = subst (AreShort m) begins.1 (short_append m seen begins.0 h (short_none m begins.0 rest_none))

  agrees_all : (p : Plain) → Agrees m (after_all p seen) (after_all p log)
  agrees_all p = seen_keeps p seen log m (calls_of m seen) begins refl same

  pub counts_all : (p : Plain) (count : ℕ) → HasCount (after_all p seen) m count → HasCount (after_all p log) m count
  counts_all p count h =
      let few = h.serial in
      let kept = h.kept in
      let same = (agrees_all p).serial in
      let a = makers p seen in
      let b = makers p log in record {
        executed = λ q is. h.executed q (sym (agrees_all p).mutator ∙ is);
        serial = omega (arith, few, same);
        kept = omega (arith, kept, a, b);
      }

-- ---- counts

pub counts_first : (n m : ℕ) → m < n → HasCount (opening_plain n) m 0
counts_first n m below = record {
  executed = λ q is. ap (λ (k : Mutator). k.executed) (slice_get-replicate n m opening_mutator q is);
  serial = let e : serial_of (opening_plain n).heap m ≡ 0 = ap length (get_or-replicate n m [] [] below) in omega (arith, e);
  kept = let e = length-replicate {A = List Record} n [] in omega (arith, e, below);
}

-- a call that is executed counts, and an end doesn't
counts_outcome : (p : Plain) (m count : ℕ) (q : Mutator) (task : Task) (did : Did) → slice_get p.mutators m ≡ Some q → MayCome m p.heap q task did → HasCount p m count
    → HasCount (after_outcome p m q task did) m (count_after_call did count)
counts_outcome p m count q task did is may h = by_task task did may
  where
    within : m < length p.mutators
    within = slice_get_within p.mutators m q is

    -- it is the mutator that is written back
    written : (k l : Mutator) → slice_get (slice_set p.mutators m k) m ≡ Some l → l.executed ≡ k.executed
    written k l its = ap (λ (z : Mutator). z.executed) (same_Some l k (sym its ∙ slice_get-set_same p.mutators m k within))

    by_end : (why : End) → HasCount (ended p m q why) m count
    by_end why = record { executed = λ l its. written (record q { end = Some why }) l its ∙ h.executed q is; serial = h.serial; kept = h.kept }

    by_call : (r : Result After End) → IfOk r (λ a. Went q a.mutator) → IfOk r (λ a. serial_of a.heap m ≤ serial_of p.heap m + 1) → IfOk r (λ a. length a.heap.records ≡ length p.heap.records) → IsOk r
        → HasCount (settled p m q r) m (count + 1)
    by_call (Ok a) went counted same ok =
        let was = h.executed q is in
        let more = went.executed in
        let few = h.serial in
        let kept = h.kept in record {
          executed = λ l its. let e = written a.mutator l its in omega (arith, e, more, was);
          serial = omega (arith, counted, few);
          kept = omega (arith, kept, same);
        }
    by_call (Err why) went counted same ok = absurd (cc)

    by_task : (task : Task) (did : Did) → MayCome m p.heap q task did → HasCount (after_outcome p m q task did) m (count_after_call did count)
    by_task (Calls instr) Done may = by_call (call m p.heap q instr) (call-went m p.heap q instr) (call-counted m p.heap q h.kept instr) (call-makers m p.heap q instr) may
    by_task (Calls instr) (Trap why) may = by_end why
    by_task (Stops end) Done may = absurd may
    by_task (Stops end) (Trap why) may = by_end why

-- ---- one more call

-- the history goes on with calls of others, and then with this one
pub record OneMore (seen : List Entry) (c : Call) (later : List Entry) : Type 0 where
  pub between : List Entry
  pub is : later ≡ (seen ++ between) ++ Made c ∷ []
  pub others : calls_of c.by between ≡ []

own_last : (c : Call) → calls_of c.by (Made c ∷ []) ≡ c ∷ []
own_last c = ap (λ (b : Bool). cond b (c ∷ []) []) (eq-eqb c.by c.by refl)

pub one_more : (plan : Plan) (hands : List Hand) (seen later : List Entry) (c : Call) (own : List Call) → Extends plan hands seen c later → calls_of c.by seen ≡ own → calls_of c.by later ≡ own ++ c ∷ [] → OneMore seen c later
one_more plan hands seen later c own h was now =
    let front : List Entry = seen ++ h.between in
    let all : calls_of c.by front ++ c ∷ [] ≡ own ++ c ∷ [] =
    sym (ap (λ (z : List Call). calls_of c.by front ++ z) (own_last c)) ∙ (sym (calls_append c.by front (Made c ∷ [])) ∙ (sym (ap (calls_of c.by) h.is) ∙ now)) in
    let some : calls_of c.by seen ++ calls_of c.by h.between ≡ calls_of c.by seen = sym (calls_append c.by seen h.between) ∙ (append_cancel_right (calls_of c.by front) own (c ∷ []) all ∙ sym was) in
    record { between = h.between; is = h.is; others = no_more seen h.between c.by some }

module _ (seen later : List Entry) (c : Call) (h : OneMore seen c later) where
  abbrev front : List Entry
  front = seen ++ h.between

  begins : IsPrefix seen front
  begins = (h.between, refl)

  no_others : calls_of c.by front ≡ calls_of c.by seen
  no_others = calls_append c.by seen h.between ∙ (ap (λ (z : List Call). calls_of c.by seen ++ z) h.others ∙ append-nil (calls_of c.by seen))

  -- what it fetched stands in the history
  pub fetched_more : (code : List (List Instr)) (turns : ℕ) (p : Plain) → AreFetched code turns c.by p seen
      → ((q : Mutator) → slice_get (after_all p seen).mutators c.by ≡ Some q → c.task ≡ task_of (fetch code turns c.by q)) → AreFetched code turns c.by p later
  fetched_more code turns p was task = subst (AreFetched code turns c.by p) (sym h.is) (fetched_append code turns c.by p front (Made c ∷ []) (fetched_all c.by seen front begins no_others code turns p was)
      ((λ by q is. task q (sym (agrees_all c.by seen front begins no_others p).mutator ∙ is)), tt))

  pub short_more : AreShort c.by seen → IsShort c.did → AreShort c.by later
  short_more was short = subst (AreShort c.by) (sym h.is) (short_append c.by front (Made c ∷ []) (short_all c.by seen front begins no_others was) ((λ by. short), tt))

  after_is : (p : Plain) → after_all p later ≡ after_call (after_all p front) c
  after_is p = ap (after_all p) h.is ∙ after_append p front (Made c ∷ [])

  comes_to : (p : Plain) → IsLegal p later → ComesTo (after_all p front) c.by c.task c.did
  comes_to p legal = legal_last p front c (subst (IsLegal p) h.is legal)

  -- the plain state after it, of the mutator that made it
  after_task : (p : Plain) (legal : IsLegal p later) → after_all p later ≡ after_outcome (after_all p front) c.by (comes_to p legal).mutator c.task c.did
  after_task p legal = after_is p ∙ ap (after_answer (after_all p front) c.by c.task c.did) (comes_to p legal).is

  -- a call that is executed is one more
  pub counted_more : (p : Plain) (count : ℕ) → IsLegal p later → HasCount (after_all p seen) c.by count → HasCount (after_all p later) c.by (count_after_call c.did count)
  counted_more p count legal k =
      let t = comes_to p legal in
      subst (λ (z : Plain). HasCount z c.by (count_after_call c.did count)) (sym (after_task p legal)) (counts_outcome (after_all p front) c.by count t.mutator c.task c.did t.is t.may (counts_all c.by seen front begins no_others p count k))

-- ---- all of it

pub executes_first : (code : List (List Instr)) (turns n m : ℕ) → m < n → Executes code turns (opening_plain n) m 0 []
executes_first code turns n m below = record { fetched = tt; short = tt; counts = counts_first n m below }

-- one more call of what mutator m fetches
pub executes_more : (code : List (List Instr)) (turns : ℕ) (p : Plain) (seen later : List Entry) (c : Call) (count : ℕ) → OneMore seen c later → IsLegal p later → Executes code turns p c.by count seen
    → ((q : Mutator) → slice_get (after_all p seen).mutators c.by ≡ Some q → c.task ≡ task_of (fetch code turns c.by q)) → IsShort c.did → Executes code turns p c.by (count_after_call c.did count) later
executes_more code turns p seen later c count more legal h task short = record {
  fetched = fetched_more seen later c more code turns p h.fetched task;
  short = short_more seen later c more h.short short;
  counts = counted_more seen later c more p count legal h.counts;
}

-- the whole history, which has no more calls of it
pub executes_all : (code : List (List Instr)) (turns : ℕ) (p : Plain) (m count : ℕ) (seen log : List Entry) → IsPrefix seen log → calls_of m log ≡ calls_of m seen → Executes code turns p m count seen
    → Executes code turns p m count log
executes_all code turns p m count seen log begins same h = record {
  fetched = fetched_all m seen log begins same code turns p h.fetched;
  short = short_all m seen log begins same h.short;
  counts = counts_all m seen log begins same p count h.counts;
}

-- ---- the next task

-- what a plain mutator fetches is read off its worker
pub fetches_shown : (code : List (List Instr)) (turns m count : ℕ) (records : plain.Heap) (x : Held) (q : Mutator) → IsShown records m x q → q.executed ≡ count → fetch code turns m q ≡ fetched_at code turns m x.account.counter count
fetches_shown code turns m count records x q shown executed = rw (executed, sym shown.counter) refl
