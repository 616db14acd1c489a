-- One call that doesn't read the board, and the same call with a move in place of a put, made on another board.
use Rattle.std.proofs.Common.{◌≡◌, ℕ, inl, inr, Bool, true, false, cond, List, [], ◌∷◌, fold, Option, Some, None, Result, Ok, Err, slice_set, refl, ap, sym, ◌∙◌, subst}
use Rattle.std.specs.Prelude.{IsOk, IsTrue}
use Rattle.std.proofs.lemmas.List.{set-get_or}
use Rattle.plain_state.specs.declared.end.End.{End}
use Rattle.plain_state.specs.declared.value.Value.{Value}
use Rattle.plain_state.specs.declared.value.Value.TheVariants.{Number}
use Rattle.plain_state.specs.declared.value.Identity.{Identity}
use Rattle.plain_state.specs.Cells.{is_cell}
use Rattle.plain_state.specs.State.{Heap, Mutator, Plain, Record, record_of}
use Rattle.plain_state.specs.Writing.{stored, with_heap}
use Rattle.mutator_asm.specs.declared.instr.Instr.{Instr}
use Rattle.mutator_asm.specs.declared.instr.Instr.TheVariants as instrs
use Rattle.mutator_asm.specs.declared.operand.Operand.{Operand}
use Rattle.plain_heap.specs.declared.action.Action.TheVariants.{Puts}
use Rattle.plain_heap.specs.Action.{◌>>=◌, action, board_place, register}
use Rattle.plain_heap.specs.Alone.{leaves_board}
use Rattle.plain_heap.specs.Call.{After, call, performed, went_on}
use Rattle.plain_heap.specs.Emptied.{emptied_cell, emptied_record}
use Rattle.plain_heap.specs.Step.{settled}
use Rattle.plain_heap.proofs.Alone.Alike.{Same}
use Rattle.gc_worker.specs.declared.task.Task.{Task}
use Rattle.gc_worker.specs.declared.task.Task.TheVariants.{Calls, Stops}
use Rattle.gc_worker.specs.declared.calls.call.Call.{Call}
use Rattle.gc_worker.specs.declared.calls.did.Did.{Did}
use Rattle.gc_worker.specs.declared.calls.did.Did.TheVariants.{Done, Trap}
use Rattle.gc_worker.specs.History.Legal.{after_call, worker_call}
use Rattle.gc_worker.specs.Plain.Answer.{ComesTo, MayCome, after_outcome, with_emptied}
use Rattle.ael_threads.specs.Alone.{LeavesBoard, task_leaves_board}
use Rattle.ael_threads.specs.Unread.{IsPut, LeavesUnread, as_move, instr_as_move, task_as_move}
use Rattle.ael_threads.proofs.Alone.LoneHistories.{after_is, ended_too, executed_too, may_end_too}
use Rattle.ael_threads.proofs.Unread.OtherBoards.{KeepsBoard, call-same, with_records_of}

-- the state with another heap, which has the same records
abbrev pub moved_to : Plain → Heap → Plain
moved_to p other = with_heap p (with_records_of p.heap other)

-- cells are records, which are the same there
emptied-one : (heap there : Heap) (i : Identity) → emptied_cell (with_records_of heap there) i ≡ with_records_of (emptied_cell heap i) there
emptied-one heap there i = by_record (record_of heap i)
  where
    by_kind : (r : Record) (cell : Bool) → cond cell (stored (with_records_of heap there) i r 0 (Number 0)) (with_records_of heap there) ≡ with_records_of (cond cell (stored heap i r 0 (Number 0)) heap) there
    by_kind r true = refl
    by_kind r false = refl

    by_record : (o : Option Record) → emptied_record (with_records_of heap there) i o ≡ with_records_of (emptied_record heap i o) there
    by_record None = refl
    by_record (Some r) = by_kind r (is_cell r.kind)

emptied-all : (heap there : Heap) (cells : List Identity) → fold emptied_cell (with_records_of heap there) cells ≡ with_records_of (fold emptied_cell heap cells) there
emptied-all heap there [] = refl
emptied-all heap there (i ∷ cells) = ap (λ (h : Heap). fold emptied_cell h cells) (emptied-one heap there i) ∙ emptied-all (emptied_cell heap i) there cells

pub emptied-beside : (p : Plain) (other : Heap) (cells : List Identity) → with_emptied (moved_to p other) cells ≡ moved_to (with_emptied p cells) other
emptied-beside p other cells = ap (with_heap p) (emptied-all p.heap other cells)

-- with another heap the second state is the first
pub record IsMovedTo (was now : Plain) : Type 0 where
  pub heap : Heap
  pub is : now ≡ moved_to was heap

module _ (p : Plain) (other : Heap) (m : ℕ) (k : Mutator) where
  abbrev there : Plain
  there = moved_to p other

  -- ---- a task that leaves the board alone

  settles : (o v : Result After End) → Same (KeepsBoard p.heap) o v → IsMovedTo (settled p m k o) (settled there m k v)
  settles (Ok a) (Ok b) same = record {
    heap = b.heap;
    is = λ i. record { heap = record b.heap { records = same.records i }; mutators = slice_set p.mutators m (same.mutator i) };
  }
  settles (Ok a) (Err why) same = absurd same
  settles (Err why) (Ok b) same = absurd same
  settles (Err why) (Err end) same = record { heap = other; is = λ i. settled there m k (Err (sym same i)) }

  leaving-may : (task : Task) (did : Did) → IsTrue (task_leaves_board task) → MayCome m p.heap k task did → MayCome m there.heap k task did
  leaving-may (Calls instr) Done leaves may =
      executed_too (KeepsBoard p.heap) (call m p.heap k instr) (call m there.heap k instr) (call-same m p.heap other k instr leaves) may
  leaving-may (Calls instr) (Trap end) leaves may =
      may_end_too m p.heap there.heap k instr end
      (ended_too (KeepsBoard p.heap) (call m p.heap k instr) (call m there.heap k instr) end (call-same m p.heap other k instr leaves)) may
  leaving-may (Stops end) Done leaves may = may
  leaving-may (Stops end) (Trap why) leaves may = may

  leaving-after : (task : Task) (did : Did) → IsTrue (task_leaves_board task) → IsMovedTo (after_outcome p m k task did) (after_outcome there m k task did)
  leaving-after (Calls instr) Done leaves = settles (call m p.heap k instr) (call m there.heap k instr) (call-same m p.heap other k instr leaves)
  leaving-after (Calls instr) (Trap end) leaves = record { heap = other; is = refl }
  leaving-after (Stops end) Done leaves = record { heap = other; is = refl }
  leaving-after (Stops end) (Trap why) leaves = record { heap = other; is = refl }

  -- ---- a put, and a move

  -- the mutator goes on, and the records stay
  abbrev gone_on : Plain
  gone_on = record { heap = there.heap; mutators = slice_set p.mutators m (went_on k) }

  move_executed : (a : ℕ) → IsOk (call m there.heap k (instrs.Mov a a))
  unfolding call action
  move_executed a = refl

  move_is : (a : ℕ) → settled there m k (call m there.heap k (instrs.Mov a a)) ≡ gone_on
  unfolding call action
  move_is a = ap (λ (rs : List Value). let r : Plain = record { heap = there.heap; mutators = slice_set p.mutators m (went_on (record k { registers = rs })) } in r) (set-get_or k.registers a (Number 0))

  put_at : (a : ℕ) (o : Result ℕ End) → IsOk ((o >>= (λ x. Ok (Puts x (register k a)))) >>= performed m p.heap k)
      → moved_to (settled p m k ((o >>= (λ x. Ok (Puts x (register k a)))) >>= performed m p.heap k)) other ≡ gone_on
  put_at a (Ok x) executed = refl
  put_at a (Err why) executed = cc

  put_is : (place : Operand) (a : ℕ) → IsOk (call m p.heap k (instrs.Put place a)) → moved_to (settled p m k (call m p.heap k (instrs.Put place a))) other ≡ gone_on
  unfolding call action
  put_is place a executed = put_at a (board_place k place) executed

-- ---- calls

-- the call d on another heap with the same records does what the call c does
pub record IsSameBeside (p : Plain) (other : Heap) (c d : Call) : Type 0 where
  pub comes : ComesTo (moved_to p other) d.by d.task d.did
  pub after : IsMovedTo (after_call p c) (after_call (moved_to p other) d)

leaving-same : (p : Plain) (other : Heap) (c : Call) → LeavesBoard c → ComesTo p c.by c.task c.did → IsSameBeside p other c c
leaving-same p other c leaves t =
    let k = t.mutator in
    let next = leaving-after p other c.by k c.task c.did leaves in record {
      comes = record { mutator = k; is = t.is; no_end = t.no_end; may = leaving-may p other c.by k c.task c.did leaves t.may };
      after = record {
        heap = next.heap;
        is = after_is (moved_to p other) c c.by k refl t.is ∙ (next.is ∙ ap (λ (z : Plain). moved_to z next.heap) (sym (after_is p c c.by k refl t.is)));
      };
    }

pub same_as_move : (c : Call) → LeavesBoard c → as_move c ≡ c
same_as_move c leaves = ap (λ (task : Task). let d : Call = record c { task = task } in d) (by_task c.task leaves)
  where
    by_instr : (instr : Instr) → leaves_board instr ≡ true → instr_as_move instr ≡ instr
    by_instr (instrs.Put place a) is = cc
    by_instr (instrs.Li d n) is = refl
    by_instr _ is = refl

    by_task : (task : Task) → IsTrue (task_leaves_board task) → task_as_move task ≡ task
    by_task (Calls instr) is = ap Calls (by_instr instr is)
    by_task (Stops end) is = refl

putting : (p : Plain) (other : Heap) (m : ℕ) (place : Operand) (a : ℕ) → ComesTo p m (Calls (instrs.Put place a)) Done
    → IsSameBeside p other (worker_call m (Calls (instrs.Put place a)) Done) (worker_call m (Calls (instrs.Mov a a)) Done)
putting p other m place a t =
    let k = t.mutator in record {
      comes = record { mutator = k; is = t.is; no_end = t.no_end; may = move_executed p other m k a };
      after = record {
        heap = other;
        is = after_is (moved_to p other) (worker_call m (Calls (instrs.Mov a a)) Done) m k refl t.is
            ∙ (move_is p other m k a ∙ (sym (put_is p other m k place a t.may)
            ∙ ap (λ (z : Plain). moved_to z other) (sym (after_is p (worker_call m (Calls (instrs.Put place a)) Done) m k refl t.is))));
      };
    }

put-same : (p : Plain) (other : Heap) (c : Call) (place : Operand) (a : ℕ) → IsPut c place a → ComesTo p c.by c.task c.did → IsSameBeside p other c (as_move c)
put-same p other c place a put t =
    subst (λ (z : Task × Did). ComesTo p c.by z.0 z.1 → IsSameBeside p other (worker_call c.by z.0 z.1) (as_move (worker_call c.by z.0 z.1)))
    (λ i. (sym put.task i, sym put.did i)) (putting p other c.by place a) t

pub unread-same : (p : Plain) (other : Heap) (c : Call) → LeavesUnread c → ComesTo p c.by c.task c.did → IsSameBeside p other c (as_move c)
unread-same p other c (inl leaves) t = subst (IsSameBeside p other c) (sym (same_as_move c leaves)) (leaving-same p other c leaves t)
unread-same p other c (inr puts) t = put-same p other c puts.0 puts.1 puts.2 t
