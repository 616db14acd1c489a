-- Where nobody makes a cell no cell is emptied, so that a history without calls changes nothing.
use Rattle.std.proofs.Common.{◌≡◌, ℕ, zero, suc, Bool, true, false, cond, List, [], ◌∷◌, fold, replicate, Option, Some, None, Result, Ok, Err, slice_get, refl, ap, sym, ◌∙◌, subst}
use Rattle.std.proofs.lemmas.List.Elements.{All-replicate}
use Rattle.plain_state.specs.declared.end.End.{End}
use Rattle.plain_state.specs.declared.value.Identity.{Identity}
use Rattle.plain_state.specs.declared.value.Value.TheVariants.{Number}
use Rattle.plain_state.specs.State.{Heap, Mutator, Plain, Record, at_serial, made_by, record_of}
use Rattle.plain_state.specs.Writing.{stored, with_heap}
use Rattle.mutator_asm.specs.declared.instr.Instr.{Instr}
use Rattle.mutator_asm.specs.declared.instr.Instr.TheVariants as instrs
use Rattle.plain_heap.specs.Alone.{leaves_board}
use Rattle.plain_heap.specs.Call.{After, call}
use Rattle.plain_heap.specs.Emptied.{emptied_cell, emptied_record}
use Rattle.plain_heap.specs.Step.{settled}
use Rattle.plain_heap.specs.Tracing.{is_weak}
use Rattle.plain_heap.proofs.Alone.Owned.{read_all}
use Rattle.plain_heap.proofs.Calls.MadeCells.{no_cells_come}
use Rattle.heap_laws.specs.Opening.{opening_plain}
use Rattle.gc_worker.specs.declared.calls.call.Call.{Call}
use Rattle.gc_worker.specs.declared.calls.did.Did.{Did}
use Rattle.gc_worker.specs.declared.calls.did.Did.TheVariants.{Done, Trap}
use Rattle.gc_worker.specs.declared.calls.entry.Entry.{Entry}
use Rattle.gc_worker.specs.declared.calls.entry.Entry.TheVariants.{Made, Exchanged, Emptied}
use Rattle.gc_worker.specs.declared.task.Task.{Task}
use Rattle.gc_worker.specs.declared.task.Task.TheVariants.{Calls, Stops}
use Rattle.gc_worker.specs.History.Legal.{after_all, after_call}
use Rattle.gc_worker.specs.Plain.Answer.{after_answer, after_outcome, with_emptied}
use Rattle.ael_threads.specs.Alone.{LeavesBoard, task_leaves_board}
use Rattle.ael_threads.specs.Unread.{EachCall}
use Rattle.concordance.specs.NoCells.{HasNoCells, MakesNoCell, task_makes_cell}

-- ---- nothing is emptied

module _ (p : Plain) (none : HasNoCells p) where
  one_same : (i : Identity) → emptied_cell p.heap i ≡ p.heap
  one_same i = by_record (record_of p.heap i) refl
    where
      by_record : (o : Option Record) → record_of p.heap i ≡ o → emptied_record p.heap i o ≡ p.heap
      by_record None found = refl
      by_record (Some r) found = ap (λ (cell : Bool). cond cell (stored p.heap i r 0 (Number 0)) p.heap) (none i r found)

  all_same : (cells : List Identity) → fold emptied_cell p.heap cells ≡ p.heap
  all_same [] = refl
  all_same (i ∷ cells) = ap (λ (h : Heap). fold emptied_cell h cells) (one_same i) ∙ all_same cells

  pub emptied_same : (cells : List Identity) → with_emptied p cells ≡ p
  emptied_same cells = ap (with_heap p) (all_same cells)

  pub emptied_none : (cells : List Identity) → HasNoCells (with_emptied p cells)
  emptied_none cells = subst HasNoCells (sym (emptied_same cells)) none

-- ---- calls

module _ (p : Plain) (none : HasNoCells p) (m : ℕ) (q : Mutator) where
  by_call : (instr : Instr) → is_weak instr ≡ false → (o : Result After End) → call m p.heap q instr ≡ o → HasNoCells (settled p m q o)
  by_call instr other (Ok after) is = no_cells_come m p.heap q instr after other none is
  by_call instr other (Err why) is = none

  by_outcome : (task : Task) (did : Did) → task_makes_cell task ≡ false → HasNoCells (after_outcome p m q task did)
  by_outcome (Calls instr) Done other = by_call instr other (call m p.heap q instr) refl
  by_outcome (Calls instr) (Trap end) other = none
  by_outcome (Stops end) Done other = none
  by_outcome (Stops end) (Trap why) other = none

pub call_none : (p : Plain) (c : Call) → MakesNoCell c → HasNoCells p → HasNoCells (after_call p c)
call_none p c other none = by_mutator (slice_get p.mutators c.by)
  where
    by_mutator : (o : Option Mutator) → HasNoCells (after_answer p c.by c.task c.did o)
    by_mutator (Some q) = by_outcome p none c.by q c.task c.did other
    by_mutator None = none

-- a call that leaves the board alone makes none
leaves_instr : (i : Instr) → leaves_board i ≡ true → is_weak i ≡ false
leaves_instr (instrs.Weak d a) leaves = absurd (cc)
leaves_instr _ leaves = refl

pub leaves_none : (c : Call) → LeavesBoard c → MakesNoCell c
leaves_none c leaves = by_task c.task leaves
  where
    by_task : (task : Task) → task_leaves_board task ≡ true → task_makes_cell task ≡ false
    by_task (Calls instr) is = leaves_instr instr is
    by_task (Stops end) is = refl

-- ---- a history

pub all_none : (p : Plain) (log : List Entry) → HasNoCells p → EachCall MakesNoCell log → HasNoCells (after_all p log)
all_none p [] none each = none
all_none p (Made c ∷ es) none each = all_none (after_call p c) es (call_none p c each.0 none) each.1
all_none p (Exchanged by asked ∷ es) none each = all_none p es none each
all_none p (Emptied cells ∷ es) none each = all_none (with_emptied p cells) es (emptied_none p none cells) each

-- before which nobody has a record
pub opening_none : (mutators : ℕ) → HasNoCells (opening_plain mutators)
opening_none mutators i r found = absurd (no_record i.serial (sym (ap (λ (rs : List Record). at_serial rs i.serial) made) ∙ found))
  where
    empty : List Record
    empty = []

    no_record : (serial : ℕ) → at_serial [] serial ≡ Some r → ⊥
    no_record zero found = cc
    no_record (suc n) found = cc

    made : made_by (opening_plain mutators).heap i.mutator ≡ []
    made = read_all (λ (rs : List Record). rs ≡ []) (replicate mutators empty) i.mutator empty (All-replicate (λ (rs : List Record). rs ≡ []) mutators empty refl) refl
