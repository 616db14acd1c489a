-- A history beside the calls of one mutator in it, which leave the board alone.
use Rattle.std.proofs.Common.{◌≡◌, ◌≢◌, ℕ, ◌⊎◌, inl, inr, Bool, true, false, cond, ◌==◌, List, [], ◌∷◌, Some, Result, Ok, Err, slice_get, refl, ap, sym, ◌∙◌, subst, eq-eqb, ne_eqb}
use Rattle.std.specs.Prelude.{IsOk}
use Rattle.std.proofs.lemmas.Bool.{cases_eq}
use Rattle.plain_state.specs.declared.end.End.{End}
use Rattle.plain_state.specs.declared.end.End.TheVariants.{HeapFull}
use Rattle.plain_state.specs.State.{Heap, Mutator, Plain}
use Rattle.mutator_asm.specs.declared.instr.Instr.{Instr}
use Rattle.plain_heap.specs.Call.{After, call}
use Rattle.plain_heap.proofs.Alone.Alike.{GoAlike, Same}
use Rattle.gc_worker.specs.declared.task.Task.{Task}
use Rattle.gc_worker.specs.declared.task.Task.TheVariants.{Calls, Stops}
use Rattle.gc_worker.specs.Plain.Answer.{ComesTo, MayCome, MayEnd, after_answer, after_outcome, with_emptied}
use Rattle.gc_worker.specs.declared.calls.did.Did.{Did}
use Rattle.gc_worker.specs.declared.calls.did.Did.TheVariants.{Done, Trap}
use Rattle.gc_worker.specs.declared.calls.call.Call.{Call}
use Rattle.gc_worker.specs.declared.calls.entry.Entry.{Entry}
use Rattle.gc_worker.specs.declared.calls.entry.Entry.TheVariants.{Made, Exchanged, Emptied}
use Rattle.ael_threads.specs.Alone.{LeavesBoard, alone_history, task_leaves_board}
use Rattle.gc_worker.specs.History.Legal.{IsLegal, after_all, after_call, calls_of}
use Rattle.ael_threads.specs.Histories.{Each}
use Rattle.ael_threads.proofs.Alone.Matching.{Matches, answers-alike, emptied-matches, is_there, other-calls, other-ends, own-calls, own-ends}

-- ---- a call of another

module _ (m j : ℕ) (other : j ≢ m) (p u : Plain) (same : Matches m p u) (k : Mutator) (is : slice_get p.mutators j ≡ Some k) where
  other_comes : (task : Task) (outcome : Did) → Matches m (after_outcome p j k task outcome) u
  other_comes (Calls instr) Done = other-calls m j other p u same k is instr
  other_comes (Calls instr) (Trap end) = other-ends m j other p u same k is end
  other_comes (Stops end) Done = same
  other_comes (Stops end) (Trap why) = other-ends m j other p u same k is why

-- ---- a call of mutator m

-- the same is executed, and the same is an end
pub executed_too : (R : After → After → Type 0) (o v : Result After End) → Same R o v → IsOk o → IsOk v
executed_too R (Ok a) (Ok b) same is = refl
executed_too R (Ok a) (Err why) same is = absurd same
executed_too R (Err why) v same is = cc

pub ended_too : (R : After → After → Type 0) (o v : Result After End) (end : End) → Same R o v → o ≡ Err end → v ≡ Err end
ended_too R (Ok a) v end same is = cc
ended_too R (Err why) (Ok b) end same is = absurd same
ended_too R (Err why) (Err other) end same is = ap Err (sym same) ∙ is

-- an end that an instruction may have
pub may_end_too : (m : ℕ) (heap there : Heap) (k : Mutator) (instr : Instr) (end : End) → (call m heap k instr ≡ Err end → call m there k instr ≡ Err end)
    → MayEnd m heap k instr end → MayEnd m there k instr end
may_end_too m heap there k instr (HeapFull asked room live) too may = may
may_end_too m heap there k instr _ too may = too may

module _ (m : ℕ) (p u : Plain) (same : Matches m p u) (k : Mutator) (is : slice_get p.mutators m ≡ Some k) where
  own_comes : (task : Task) (outcome : Did) → task_leaves_board task ≡ true → Matches m (after_outcome p m k task outcome) (after_outcome u m k task outcome)
  own_comes (Calls instr) Done leaves = own-calls m p u same k is instr leaves
  own_comes (Calls instr) (Trap end) leaves = own-ends m p u same k is end
  own_comes (Stops end) Done leaves = same
  own_comes (Stops end) (Trap why) leaves = own-ends m p u same k is why

  may_come_too : (task : Task) (outcome : Did) → task_leaves_board task ≡ true → MayCome m p.heap k task outcome → MayCome m u.heap k task outcome
  may_come_too (Calls instr) Done leaves may =
      executed_too (GoAlike m p.heap u.heap) (call m p.heap k instr) (call m u.heap k instr) (answers-alike m p u same k is instr leaves) may
  may_come_too (Calls instr) (Trap end) leaves may =
      may_end_too m p.heap u.heap k instr end
      (ended_too (GoAlike m p.heap u.heap) (call m p.heap k instr) (call m u.heap k instr) end (answers-alike m p u same k is instr leaves)) may
  may_come_too (Stops end) Done leaves may = may
  may_come_too (Stops end) (Trap other) leaves may = may

-- ---- an entry

pub apart : true ≡ false → ⊥
apart e = cc

-- the plain state after a call of a mutator that is there
pub after_is : (p : Plain) (c : Call) (m : ℕ) (k : Mutator) → c.by ≡ m → slice_get p.mutators m ≡ Some k → after_call p c ≡ after_outcome p m k c.task c.did
after_is p c m k e is = ap (λ (j : ℕ). after_call p (record { by = j; task = c.task; did = c.did })) e ∙ ap (after_answer p m c.task c.did) is

-- What a history has of mutator m comes to the same from the state u on as the history from the state p on.
pub record GoesTheSame (m : ℕ) (p u : Plain) (log : List Entry) (own : List Call) : Type 0 where
  pub legal : IsLegal u (alone_history own)
  pub same : Matches m (after_all p log) (after_all u (alone_history own))

-- where the two states match, the rest of the history goes so
abbrev pub Rest : ℕ → List Entry → Type 0
Rest m es = (p u : Plain) → Matches m p u → IsLegal p es → Each LeavesBoard (calls_of m es) → GoesTheSame m p u es (calls_of m es)

module _ (m : ℕ) (p u : Plain) (c : Call) (es : List Entry) (same : Matches m p u) (comes : ComesTo p c.by c.task c.did) (legal : IsLegal (after_call p c) es) (rest : Rest m es) where
  by_other : c.by ≢ m → Each LeavesBoard (calls_of m es) → GoesTheSame m p u (Made c ∷ es) (calls_of m es)
  by_other other leaves =
      let k = comes.mutator in
      let next : Matches m (after_call p c) u = subst (λ (s : Plain). Matches m s u) (sym (after_is p c c.by k refl comes.is))
      (other_comes m c.by other p u same k comes.is c.task c.did) in
      let goes = rest (after_call p c) u next legal leaves in
      record { legal = goes.legal; same = goes.same }

  by_itself : c.by ≡ m → LeavesBoard c → Each LeavesBoard (calls_of m es) → GoesTheSame m p u (Made c ∷ es) (c ∷ calls_of m es)
  by_itself e leaves others =
      let k = comes.mutator in
      let is : slice_get p.mutators m ≡ Some k = ap (λ (j : ℕ). slice_get p.mutators j) (sym e) ∙ comes.is in
      let there : slice_get u.mutators m ≡ Some k = is_there m p u same k is in
      let may : MayCome m p.heap k c.task c.did = subst (λ (j : ℕ). MayCome j p.heap k c.task c.did) e comes.may in
      let may_there : MayCome m u.heap k c.task c.did = may_come_too m p u same k is c.task c.did leaves may in
      let comes_there : ComesTo u m c.task c.did = record { mutator = k; is = there; no_end = comes.no_end; may = may_there } in
      let next : Matches m (after_call p c) (after_call u c) = rw (after_is p c m k e is, after_is u c m k e there) (own_comes m p u same k is c.task c.did leaves) in
      let goes = rest (after_call p c) (after_call u c) next legal others in
      record { legal = (subst (λ (j : ℕ). ComesTo u j c.task c.did) (sym e) comes_there, goes.legal); same = goes.same }

  of_call : (b : Bool) → ((b ≡ true) × (c.by ≡ m)) ⊎ ((b ≡ false) × (c.by ≢ m)) → Each LeavesBoard (cond b (c ∷ calls_of m es) (calls_of m es))
      → GoesTheSame m p u (Made c ∷ es) (cond b (c ∷ calls_of m es) (calls_of m es))
  of_call true (inl is) leaves = by_itself is.1 leaves.0 leaves.1
  of_call true (inr is) leaves = absurd (apart is.0)
  of_call false (inl is) leaves = absurd (apart (sym is.0))
  of_call false (inr is) leaves = by_other is.1 leaves

pub is_by : (m : ℕ) (c : Call) → (c.by ≡ m) ⊎ (c.by ≡ m → ⊥) → (((c.by == m) ≡ true) × (c.by ≡ m)) ⊎ (((c.by == m) ≡ false) × (c.by ≢ m))
is_by m c (inl e) = inl (eq-eqb c.by m e, e)
is_by m c (inr other) = inr (ne_eqb c.by m other, other)

pub goes_alone : (m : ℕ) (es : List Entry) → Rest m es
goes_alone m [] p u same legal leaves = record { legal = tt; same = same }
goes_alone m (Exchanged by asked ∷ es) p u same legal leaves = let goes = goes_alone m es p u same legal leaves in record { legal = goes.legal; same = goes.same }
goes_alone m (Emptied cells ∷ es) p u same legal leaves =
    let goes = goes_alone m es (with_emptied p cells) u (emptied-matches m p u same cells) legal leaves in
    record { legal = goes.legal; same = goes.same }
goes_alone m (Made c ∷ es) p u same legal leaves =
    of_call m p u c es same legal.0 legal.1 (goes_alone m es) (c.by == m) (is_by m c (cases_eq c.by m)) leaves
