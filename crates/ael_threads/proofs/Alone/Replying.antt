-- A legal history of one mutator: its replies, and its end.
use Rattle.std.proofs.Common.{◌≡◌, ◌≢◌, ℕ, ◌⊎◌, inl, inr, Bool, true, false, cond, ◌==◌, List, [], ◌∷◌, None, Some, Result, Ok, Err, slice_get, slice_index_or, refl, ap, sym, ◌∙◌, subst}
use Rattle.std.specs.Prelude.{IsOk}
use Rattle.std.proofs.lemmas.Bool.{cases_eq}
use Rattle.std.proofs.lemmas.Option.{get_or_from_slice_get, same_Some, slice_get_within}
use Rattle.plain_state.specs.declared.end.End.{End}
use Rattle.plain_state.specs.declared.end.End.TheVariants.{HeapFull}
use Rattle.plain_state.specs.State.{Heap, Mutator, Plain}
use Rattle.plain_state.proofs.Elements.{slice_get-set_same}
use Rattle.mutator_asm.specs.declared.instr.Instr.{Instr}
use Rattle.plain_heap.specs.Alone.{is_heap_full}
use Rattle.plain_heap.specs.Call.{After, call}
use Rattle.plain_heap.specs.Order.{fresh}
use Rattle.gc_worker.specs.declared.task.Task.{Task}
use Rattle.gc_worker.specs.declared.task.Task.TheVariants.{Calls, Stops}
use Rattle.gc_worker.specs.Plain.Answer.{ComesTo, MayCome, MayEnd, after_outcome}
use Rattle.gc_worker.specs.declared.calls.call.Call.{Call}
use Rattle.gc_worker.specs.declared.calls.did.Did.{Did}
use Rattle.gc_worker.specs.declared.calls.did.Did.TheVariants.{Done, Trap}
use Rattle.gc_worker.specs.declared.calls.entry.Entry.{Entry}
use Rattle.gc_worker.specs.declared.calls.entry.Entry.TheVariants.{Made, Exchanged, Emptied}
use Rattle.ael_threads.specs.Alone.{EndIsLast, alone_history, before_full, did_by, is_full_did, replied, replies_alone, replies_of, reply_by, tasks_of}
use Rattle.gc_worker.specs.History.Legal.{IsLegal, after_call, calls_of}
use Rattle.ael_threads.specs.Histories.{Each}
use Rattle.ael_threads.proofs.Alone.LoneHistories.{after_is, apart, is_by}

-- calls of mutator m alone
abbrev pub AllBy : ℕ → List Call → Type 0
AllBy m cs = Each (λ (c : Call). c.by ≡ m) cs

kept_by : (m : ℕ) (c : Call) (cs : List Call) (b : Bool) → ((b ≡ true) × (c.by ≡ m)) ⊎ ((b ≡ false) × (c.by ≢ m)) → AllBy m cs → AllBy m (cond b (c ∷ cs) cs)
kept_by m c cs true (inl is) rest = (is.1, rest)
kept_by m c cs true (inr is) rest = absurd (apart is.0)
kept_by m c cs false is rest = rest

pub calls_by : (m : ℕ) (log : List Entry) → AllBy m (calls_of m log)
calls_by m [] = tt
calls_by m (Exchanged by asked ∷ es) = calls_by m es
calls_by m (Emptied cells ∷ es) = calls_by m es
calls_by m (Made c ∷ es) = kept_by m c (calls_of m es) (c.by == m) (is_by m c (cases_eq c.by m)) (calls_by m es)

-- ---- their replies

done_is : (o : Result After End) → IsOk o → did_by o ≡ Done
done_is (Ok after) is = refl
done_is (Err why) is = cc

-- an end that is no want of room is the instruction's own
own_end : (m : ℕ) (heap : Heap) (k : Mutator) (instr : Instr) (end : End) → is_heap_full end ≡ false → MayEnd m heap k instr end → call m heap k instr ≡ Err end
own_end m heap k instr (HeapFull asked room live) few may = cc
own_end m heap k instr _ few may = may

reply_is : (m : ℕ) (heap : Heap) (k : Mutator) (task : Task) (did : Did) → is_full_did did ≡ false → MayCome m heap k task did → reply_by m heap k task ≡ did
reply_is m heap k (Calls instr) Done few may = done_is (call m heap k instr) may
reply_is m heap k (Calls instr) (Trap end) few may = ap did_by (own_end m heap k instr end few may)
reply_is m heap k (Stops end) Done few may = absurd may
reply_is m heap k (Stops end) (Trap other) few may = ap Trap (sym may)

module _ (m : ℕ) (u : Plain) (c : Call) (by : c.by ≡ m) (comes : ComesTo u c.by c.task c.did) where
  its : slice_get u.mutators m ≡ Some comes.mutator
  its = ap (λ (j : ℕ). slice_get u.mutators j) (sym by) ∙ comes.is

  its_may : MayCome m u.heap comes.mutator c.task c.did
  its_may = subst (λ (j : ℕ). MayCome j u.heap comes.mutator c.task c.did) by comes.may

  -- the reply is that of the plain machine, if that isn't that the heap is full
  replied_is : is_full_did c.did ≡ false → replied u m c.task ≡ c
  replied_is few =
      let same : reply_by m u.heap (slice_index_or u.mutators m fresh) c.task ≡ c.did =
      ap (λ (k : Mutator). reply_by m u.heap k c.task) (get_or_from_slice_get u.mutators m comes.mutator fresh its) ∙ reply_is m u.heap comes.mutator c.task c.did few its_may in
      λ i. record { by = sym by i; task = c.task; did = same i }

  replies_next : (cs : List Call) (b : Bool) → is_full_did c.did ≡ b → replies_alone (after_call u c) m (tasks_of cs) ≡ replies_of cs
      → replies_alone u m (tasks_of (cond b [] (c ∷ cs))) ≡ replies_of (cond b [] (c ∷ cs))
  replies_next cs true is rest = refl
  replies_next cs false is rest =
      ap (λ (d : Call). d.did ∷ replies_alone (after_call u d) m (tasks_of cs)) (replied_is is) ∙ ap (λ (ds : List Did). c.did ∷ ds) rest

  -- after it the mutator has the end that it got
  pub end_is : (end : End) → c.did ≡ Trap end → slice_get (after_call u c).mutators m ≡ Some (record comes.mutator { end = Some end })
  end_is end e =
      let after : after_call u c ≡ after_outcome u m comes.mutator c.task (Trap end) =
      after_is u c m comes.mutator by its ∙ ap (λ (d : Did). after_outcome u m comes.mutator c.task d) e in
      ap (λ (s : Plain). slice_get s.mutators m) after ∙ by_task c.task
    where
      by_task : (task : Task) → slice_get (after_outcome u m comes.mutator task (Trap end)).mutators m ≡ Some (record comes.mutator { end = Some end })
      by_task (Calls instr) = slice_get-set_same u.mutators m (record comes.mutator { end = Some end }) (slice_get_within u.mutators m comes.mutator its)
      by_task (Stops why) = slice_get-set_same u.mutators m (record comes.mutator { end = Some end }) (slice_get_within u.mutators m comes.mutator its)

-- a mutator with an end makes no call
none_follows : (m : ℕ) (u : Plain) (k : Mutator) (end : End) (cs : List Call) → slice_get u.mutators m ≡ Some (record k { end = Some end }) → AllBy m cs
    → IsLegal u (alone_history cs) → cs ≡ []
none_follows m u k end [] is by legal = refl
none_follows m u k end (c ∷ cs) is by legal =
    let same : record k { end = Some end } ≡ legal.0.mutator = same_Some (record k { end = Some end }) legal.0.mutator (sym is ∙ its m u c by.0 legal.0) in
    absurd (no_end (ap (λ (k : Mutator). k.end) same ∙ legal.0.no_end))
  where
    no_end : Some end ≡ None → ⊥
    no_end e = cc

pub ends_last : (m : ℕ) (u : Plain) (cs : List Call) → AllBy m cs → IsLegal u (alone_history cs) → EndIsLast cs
ends_last m u [] by legal = tt
ends_last m u (c ∷ cs) by legal = (
  (λ end e. none_follows m (after_call u c) legal.0.mutator end cs (end_is m u c by.0 legal.0 end e) by.1 legal.1),
  ends_last m (after_call u c) cs by.1 legal.1,
)

pub replies_so : (m : ℕ) (u : Plain) (cs : List Call) → AllBy m cs → IsLegal u (alone_history cs) → replies_alone u m (tasks_of (before_full cs)) ≡ replies_of (before_full cs)
replies_so m u [] by legal = refl
replies_so m u (c ∷ cs) by legal = replies_next m u c by.0 legal.0 (before_full cs) (is_full_did c.did) refl (replies_so m (after_call u c) cs by.1 legal.1)
