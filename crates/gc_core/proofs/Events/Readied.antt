-- A mutator is given its next task before it looks at the gate: the heap stands on.
use Rattle.std.proofs.Common.{◌≡◌, ℕ, ◌<◌, ◌≤◌, Bool, true, false, nat_lt, nat_le, List, length, Option, Some, None, Err, refl, ap, sym, subst, ◌∙◌, arith, inl, inr, get_or-set_same, length-set, leb-false, ltb-true}
use Rattle.std.specs.Option.{is_some, ok_or}
use Rattle.std.specs.Prelude.{IsTrue, IfSome, if◌then◌else◌}
use Rattle.std.specs.List.{list_all}
use Rattle.std.proofs.lemmas.List.{set-get_or, set-set}
use Rattle.plain_state.specs.declared.end.End.{End}
use Rattle.plain_state.specs.declared.end.End.TheVariants.{TurnsOut, JumpOut}
use Rattle.plain_state.specs.State.{Plain}
use Rattle.mutator_asm.specs.declared.instr.Instr.{Instr}
use Rattle.mutator_asm.specs.Program.{is_valid, instr_at}
use Rattle.mutator_asm.proofs.Programs.Instructions.{valid_at}
use Rattle.plain_heap.specs.Step.{fetch}
use Rattle.atom_store.specs.declared.step.Step.{Step}
use Rattle.atom_store.specs.Step.{words_after, reply_of}
use Rattle.heap_state.specs.Known.{Account}
use Rattle.gc_worker.specs.declared.stage.Stage.{Stage}
use Rattle.gc_worker.specs.declared.stage.Stage.TheVariants.{Looks}
use Rattle.gc_worker.specs.declared.task.Task.{Task}
use Rattle.gc_worker.specs.Laws.Between.{ReadyingStands, TasksMayBegin, IsIdle, with_task, with_worker}
use Rattle.gc_worker.specs.Laws.Between as between
use Rattle.gc_worker.specs.Laws.Cycles.{HasNextSize}
use Rattle.gc_worker.specs.Workers.Fits.{Fits, MayBegin, FitsEnd, IsOnSide}
use Rattle.gc_worker.specs.Workers.Held.{Held}
use Rattle.gc_worker.specs.Laws.Step.{Heap, nobody, held_at, moved, WorkersStand}
use Rattle.gc_worker.specs.Plain.Seen.{seen}
use Rattle.gc_worker.specs.Steps.Stepped.{awaits, awaits_at}
use Rattle.gc_worker.specs.Steps.Turned.{turned}
use Rattle.gc_worker.specs.Plain.Marks.{task_of}
use Rattle.gc_core.specs.Core.{CoreState}
use Rattle.gc_core.specs.Event.{fetched_task, readied, ready}
use Rattle.gc_core.specs.Law.{IsSteady}
use Rattle.gc_core.proofs.Events.Tasks.{at_look}

-- ---- whether a task is due

-- it is given one, or stays as it is
pub data Due (code : List (List Instr)) (turns m : ℕ) (x : Held) : Type 0 where
  Begins : x.stage ≡ Looks → x.task ≡ None → readied code turns m x ≡ with_task x (fetched_task code turns m x) → Due code turns m x
  Rests : readied code turns m x ≡ x → Due code turns m x

module _ (code : List (List Instr)) (turns m : ℕ) (x : Held) where
  due_by : (stage : Stage) (task : Option Task) → x.stage ≡ stage → x.task ≡ task → Due code turns m x
  due_by Looks None e f = Begins e f (rw (e, f) refl)
  due_by _ _ e f = Rests (rw (e, f) refl)

  pub due : Due code turns m x
  due = due_by x.stage x.task refl refl

  -- one that awaits a task is given its next one
  pub readied_awaits : awaits x ≡ true → readied code turns m x ≡ with_task x (fetched_task code turns m x)
  readied_awaits is = let at = at_look x.stage x.task is in rw (at.0, at.1) refl

  -- another stays as it is
  pub readied_rests : awaits x ≡ false → readied code turns m x ≡ x
  readied_rests is = by_due due
    where
      by_due : Due code turns m x → readied code turns m x ≡ x
      by_due (Rests same) = same
      by_due (Begins stage none same) = absurd (let late : true ≡ false = sym (λ i. awaits_at (stage i) (none i)) ∙ is in cc)

-- ---- it may begin it

module _ (code : List (List Instr)) (turns m : ℕ) (account : Account) (registers : List ℕ) (valid : IsTrue (list_all (list_all is_valid) code)) (few : turns ≤ 10000000) (counted : account.serial ≤ account.executed) where
  begins_by : (b : Bool) (o : Option Instr) → nat_le turns account.executed ≡ b → IfSome o (λ i. IsTrue (is_valid i))
      → MayBegin account registers (Some (task_of (if b then Err TurnsOut else ok_or o JumpOut)))
  begins_by true o e v = tt
  begins_by false None e v = tt
  begins_by false (Some instr) e v = record { valid = v; serial = λ making is. let l = leb-false turns account.executed e in omega (arith, l, few, counted) }

  pub may_begin : MayBegin account registers (Some (task_of (fetch code turns m (seen account registers))))
  may_begin = begins_by (nat_le turns account.executed) (instr_at code m account.counter) refl (valid_at code m account.counter valid)

-- ---- the heap in which it is given

pub record ReadyToStep (s : CoreState) (w : ℕ) (p o : Plain) : Type 0 where
  pub heap : Heap
  pub stands : WorkersStand heap p o
  pub below : w < length heap.workers
  pub holds : held_at heap w ≡ ready s w
  pub words : heap.words ≡ s.heap.words
  pub pages : heap.pages ≡ s.heap.pages
  pub mutators : heap.mutators ≡ s.heap.mutators
  pub moves : (x : Held) (q : Step) → moved heap w x q ≡ moved s.heap w x q
  pub is : heap ≡ with_worker s.heap w (ready s w)

no_end : (end : Option End) → is_some end ≡ false → end ≡ None
no_end None e = refl
no_end (Some why) e = cc

module _ (readies : ReadyingStands) (tasks : TasksMayBegin) (s : CoreState) (w : ℕ) (p o : Plain) (steady : IsSteady s) (stands : WorkersStand s.heap p o) (below : w < length s.heap.workers) where
  abbrev x : Held
  x = held_at s.heap w

  fits : Fits s.heap.pages s.heap.mutators w x
  fits = stands.fit w below

  -- who looks at the gate is a mutator without an end
  pub looks_idle : x.stage ≡ Looks → x.task ≡ None → IsIdle x
  looks_idle e f = record {
    is_mutator = mutator_by (nat_lt x.number x.mutators) refl (subst (λ (t : Stage). IsOnSide t (nat_lt x.number x.mutators) (is_some x.account.end)) e fits.side);
    no_end = no_end x.account.end (subst (λ (t : Stage). FitsEnd t (is_some x.account.end)) e fits.end);
    no_task = f;
  }
    where
      mutator_by : (b : Bool) → nat_lt x.number x.mutators ≡ b → b ≡ true → x.number < x.mutators
      mutator_by true e b = ltb-true x.number x.mutators e
      mutator_by false e b = absurd (cc)

  ready_by : Due s.code s.turns w x → ReadyToStep s w p o
  ready_by (Rests e) = record { heap = s.heap; stands = stands; below = below; holds = sym e; words = refl; pages = refl; mutators = refl; moves = λ y q. refl; is = sym (ap (with_worker s.heap w) e ∙ ap (λ (ks : List Held). record s.heap { workers = ks }) (set-get_or s.heap.workers w nobody)) }
  ready_by (Begins e f is) =
      let idle = looks_idle e f in
      let task = fetched_task s.code s.turns w x in
      let number : w < s.heap.mutators = (let n = idle.is_mutator in let a = fits.number in let b = fits.beside in omega (arith, n, a, b)) in
      let r = tasks s.heap.pages s.heap.mutators w x task fits idle (may_begin s.code s.turns w x.account x.registers steady.valid steady.turns_fit (steady.on_task w number).counted) in
      record {
        heap = with_worker s.heap w (with_task x task);
        stands = readies s.heap p o w (with_task x task) stands below r;
        below = rw (length-set s.heap.workers w (with_task x task)) below;
        holds = get_or-set_same s.heap.workers w (with_task x task) nobody below ∙ sym is;
        words = refl;
        pages = refl;
        mutators = refl;
        moves = λ y q. ap (λ (ks : List Held). record s.heap { words = words_after q s.heap.words; workers = ks }) (set-set s.heap.workers w (with_task x task) (turned y (reply_of q s.heap.words)));
        is = ap (with_worker s.heap w) (sym is);
      }

  pub readied_stands : ReadyToStep s w p o
  readied_stands = ready_by (due s.code s.turns w x)

-- ---- what it holds then

-- what it has found for a flip, which no task changes
pub ready_found : (n : ℕ) (words : List ℕ) (s : CoreState) (w : ℕ) → HasNextSize n words (held_at s.heap w) → HasNextSize n words (ready s w)
ready_found n words s w own = by_due (due s.code s.turns w (held_at s.heap w))
  where
    by_due : Due s.code s.turns w (held_at s.heap w) → HasNextSize n words (ready s w)
    by_due (Begins stage none is) = subst (HasNextSize n words) (sym is) own
    by_due (Rests is) = subst (HasNextSize n words) (sym is) own

-- the next task is that of an account with this counter and so many instructions executed
pub same_task : (code : List (List Instr)) (turns m : ℕ) (x y : Held) → x.account.counter ≡ y.account.counter → x.account.executed ≡ y.account.executed
    → fetched_task code turns m x ≡ fetched_task code turns m y
same_task code turns m x y c e = rw (c, e) refl

module _ (s : CoreState) (w : ℕ) (steady : IsSteady s) (few : w < s.heap.mutators) where
  -- the task that it has then is its next one
  pub ready_task : (task : Task) → (ready s w).task ≡ Some task → task ≡ fetched_task s.code s.turns w (held_at s.heap w)
  ready_task task e = by_due (due s.code s.turns w (held_at s.heap w))
    where
      by_due : Due s.code s.turns w (held_at s.heap w) → task ≡ fetched_task s.code s.turns w (held_at s.heap w)
      by_due (Begins stage none is) = let q : Some (fetched_task s.code s.turns w (held_at s.heap w)) ≡ Some task = sym (ap (λ (h : Held). h.task) is) ∙ e in cc
      by_due (Rests is) = (steady.on_task w few).task task (sym (ap (λ (h : Held). h.task) is) ∙ e)

-- it is as it was, or was given its next task
pub ready_begins : (s : CoreState) (w : ℕ) → between.Begins (held_at s.heap w) (ready s w)
ready_begins s w = by_due (due s.code s.turns w (held_at s.heap w))
  where
    by_due : Due s.code s.turns w (held_at s.heap w) → between.Begins (held_at s.heap w) (ready s w)
    by_due (Begins stage none is) = inr (fetched_task s.code s.turns w (held_at s.heap w), none, is)
    by_due (Rests is) = inl is

pub ready_account : (s : CoreState) (w : ℕ) → (ready s w).account ≡ (held_at s.heap w).account
ready_account s w = by_due (due s.code s.turns w (held_at s.heap w))
  where
    by_due : Due s.code s.turns w (held_at s.heap w) → (ready s w).account ≡ (held_at s.heap w).account
    by_due (Begins stage none is) = ap (λ (h : Held). h.account) is
    by_due (Rests is) = ap (λ (h : Held). h.account) is

pub ready_stage : (s : CoreState) (w : ℕ) → (ready s w).stage ≡ (held_at s.heap w).stage
ready_stage s w = by_due (due s.code s.turns w (held_at s.heap w))
  where
    by_due : Due s.code s.turns w (held_at s.heap w) → (ready s w).stage ≡ (held_at s.heap w).stage
    by_due (Begins stage none is) = ap (λ (h : Held). h.stage) is
    by_due (Rests is) = ap (λ (h : Held). h.stage) is
