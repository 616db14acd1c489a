-- The words of records along a history, and their kinds and lengths.
use Rattle.std.proofs.Common.{◌≡◌, ℕ, List, [], ◌∷◌, ◌++◌, Option, Some, None, Result, Ok, Err, slice_get, refl, sym, ap, subst, ◌∙◌}
use Rattle.std.specs.Prelude.{IsOk}
use Rattle.std.proofs.lemmas.Option.{same_Some, slice_get_within}
use Rattle.plain_state.specs.declared.end.End.{End}
use Rattle.plain_state.specs.declared.value.Identity.{Identity}
use Rattle.plain_state.specs.declared.value.Value.{Value}
use Rattle.plain_state.specs.State.{Mutator, Plain}
use Rattle.plain_state.proofs.Elements.{slice_get-set_same}
use Rattle.mutator_asm.specs.declared.instr.Instr.{Instr}
use Rattle.plain_heap.specs.declared.action.Action.{Action}
use Rattle.plain_heap.specs.declared.action.Action.TheVariants.{Loads, Compares}
use Rattle.plain_heap.specs.Action.{action}
use Rattle.plain_heap.specs.Call.{After, call, set_register, went_on}
use Rattle.plain_heap.specs.Records.{RecordShape, loaded_there, record_word, shape_of, success, word_after}
use Rattle.plain_heap.specs.Step.{settled}
use Rattle.plain_heap.proofs.Orders.LastStores.{no_words}
use Rattle.plain_heap.proofs.Calls.RecordsAfterCalls.{exchanges_find_the_word, loads_take_the_word, only_stores_change_words, shapes_stay}
use Rattle.heap_laws.specs.Opening.{opening_plain}
use Rattle.gc_worker.specs.Plain.Answer.{ComesTo, MayCome, after_answer, after_outcome, with_emptied}
use Rattle.gc_worker.specs.declared.calls.call.Call.{Call}
use Rattle.gc_worker.specs.declared.calls.did.Did.{Did}
use Rattle.gc_worker.specs.declared.calls.did.Did.TheVariants.{Done, Trap}
use Rattle.gc_worker.specs.declared.calls.entry.Entry.{Entry}
use Rattle.gc_worker.specs.declared.calls.entry.Entry.TheVariants.{Made, Exchanged, Emptied}
use Rattle.gc_worker.specs.declared.task.Task.{Task}
use Rattle.gc_worker.specs.declared.task.Task.TheVariants.{Calls, Stops}
use Rattle.gc_worker.specs.History.Legal.{IsLegal, after_all, after_call}
use Rattle.gc_worker.specs.History.Loads.{CallDoes, ExchangesFindTheLastStore, LoadsGetTheLastStore, RecordsKeepTheirShape, WordsAreStored, WordsBeginAsZero, last_stored, word_after_call, word_after_task}
use Rattle.gc_worker.proofs.Plain.CellTargets.Emptied.{same_shape, same_word}
use Rattle.gc_worker.proofs.History.Extensions.{after_append}

-- ---- words

-- what a legal call does to a word
module _ (p : Plain) (k : ℕ) (q : Mutator) (i : Identity) (x : ℕ) where
  by_call : (instr : Instr) (o : Result After End) → call k p.heap q instr ≡ o → IsOk o
      → record_word (settled p k q o).heap i x ≡ word_after (action q instr) i x (record_word p.heap i x)
  by_call instr (Ok after) is ok = only_stores_change_words k p.heap q instr after i x is
  by_call instr (Err why) is ok = absurd (cc)

  by_outcome : (task : Task) (did : Did) → MayCome k p.heap q task did
      → record_word (after_outcome p k q task did).heap i x ≡ word_after_task (Some q) task did i x (record_word p.heap i x)
  by_outcome (Calls instr) Done may = by_call instr (call k p.heap q instr) refl may
  by_outcome (Calls instr) (Trap end) may = refl
  by_outcome (Stops end) Done may = absurd may
  by_outcome (Stops end) (Trap other) may = refl

call_word : (p : Plain) (c : Call) (i : Identity) (x : ℕ) → ComesTo p c.by c.task c.did
    → record_word (after_call p c).heap i x ≡ word_after_call p c i x (record_word p.heap i x)
call_word p c i x h =
    subst (λ (o : Option Mutator). record_word (after_answer p c.by c.task c.did o).heap i x ≡ word_after_task o c.task c.did i x (record_word p.heap i x))
    (sym h.is) (by_outcome p c.by h.mutator i x c.task c.did h.may)

pub words_are_stored : WordsAreStored
words_are_stored p [] i x legal = refl
words_are_stored p (Made c ∷ es) i x legal =
    words_are_stored (after_call p c) es i x legal.1 ∙ ap (λ (first : Value). last_stored (after_call p c) es i x first) (call_word p c i x legal.0)
words_are_stored p (Exchanged by asked ∷ es) i x legal = words_are_stored p es i x legal
words_are_stored p (Emptied cells ∷ es) i x legal =
    words_are_stored (with_emptied p cells) es i x legal ∙ ap (λ (first : Value). last_stored (with_emptied p cells) es i x first) (same_word p cells i x)

pub words_begin_as_zero : WordsBeginAsZero
words_begin_as_zero mutators i x = no_words mutators (opening_plain mutators).heap.board i x

-- ---- loads and exchanges

legal_at : (p : Plain) (front rest : List Entry) (c : Call) → IsLegal p (front ++ Made c ∷ rest) → IsLegal p front × ComesTo (after_all p front) c.by c.task c.did
legal_at p [] rest c h = (tt, h.0)
legal_at p (Made d ∷ es) rest c h = let later = legal_at (after_call p d) es rest c h.1 in ((h.0, later.0), later.1)
legal_at p (Exchanged by asked ∷ es) rest c h = legal_at p es rest c h
legal_at p (Emptied cells ∷ es) rest c h = legal_at (with_emptied p cells) es rest c h

-- what a legal call that does this leaves of its mutator
module _ (p : Plain) (c : Call) (q : Mutator) (act : Action) (call_does : CallDoes p c q act) (h : ComesTo p c.by c.task c.did) where
  same : h.mutator ≡ q
  same = same_Some h.mutator q (sym h.is ∙ call_does.mutator)

  executed : IsOk (call c.by p.heap q call_does.instr)
  executed = subst (λ (z : Mutator). MayCome c.by p.heap z (Calls call_does.instr) Done) same (rw (call_does.task, call_does.done) at h.may)

  -- whatever is so of the mutator that the plain machine's call leaves
  module _ (next : Mutator) (leaves : (after : After) → call c.by p.heap q call_does.instr ≡ Ok after → after.mutator ≡ next) where
    by_outcome_of : (o : Result After End) → call c.by p.heap q call_does.instr ≡ o → IsOk o → slice_get (settled p c.by q o).mutators c.by ≡ Some next
    by_outcome_of (Ok after) is ok =
        slice_get-set_same p.mutators c.by after.mutator (slice_get_within p.mutators c.by q call_does.mutator) ∙ ap (λ (l : Mutator). Some l) (leaves after is)
    by_outcome_of (Err why) is ok = absurd (cc)

    goes_on : slice_get (after_call p c).mutators c.by ≡ Some next
    goes_on = rw (call_does.mutator, call_does.task, call_does.done) (by_outcome_of (call c.by p.heap q call_does.instr) refl executed)

pub loads_get_the_last_store : LoadsGetTheLastStore
loads_get_the_last_store p front rest c q d i x legal load =
    let at = legal_at p front rest c legal in
    let here = after_all p front in
    ap (λ (z : Plain). slice_get z.mutators c.by) (after_append p front (Made c ∷ []))
    ∙ (goes_on here c q (Loads d i x) load at.1 (went_on (set_register q d (loaded_there here.heap i x (record_word here.heap i x))))
    (λ after is. ap (λ (a : After). a.mutator) (loads_take_the_word c.by here.heap q load.instr after d i x load.does is))
    ∙ ap (λ (v : Value). Some (went_on (set_register q d (loaded_there here.heap i x v)))) (words_are_stored p front i x at.0))

pub exchanges_find_the_last_store : ExchangesFindTheLastStore
exchanges_find_the_last_store p front rest c q d i x expected new legal exchange =
    let at = legal_at p front rest c legal in
    let here = after_all p front in
    ap (λ (z : Plain). slice_get z.mutators c.by) (after_append p front (Made c ∷ []))
    ∙ (goes_on here c q (Compares d i x expected new) exchange at.1 (went_on (set_register q d (success (record_word here.heap i x) expected)))
    (λ after is. (exchanges_find_the_word c.by here.heap q exchange.instr after d i x expected new exchange.does is).mutator_is)
    ∙ ap (λ (v : Value). Some (went_on (set_register q d (success v expected)))) (words_are_stored p front i x at.0))

-- ---- kinds and lengths

module _ (i : Identity) (s : RecordShape) where
  abbrev Has : Plain → Type 0
  Has p = shape_of p.heap i ≡ Some s

  settled_has : (p : Plain) (k : ℕ) (q : Mutator) (instr : Instr) (o : Result After End) → call k p.heap q instr ≡ o → Has p → Has (settled p k q o)
  settled_has p k q instr (Ok after) is has = shapes_stay k p.heap q instr after i s is has
  settled_has p k q instr (Err why) is has = has

  outcome_has : (p : Plain) (k : ℕ) (q : Mutator) (task : Task) (did : Did) → Has p → Has (after_outcome p k q task did)
  outcome_has p k q (Calls instr) Done has = settled_has p k q instr (call k p.heap q instr) refl has
  outcome_has p k q (Calls instr) (Trap end) has = has
  outcome_has p k q (Stops end) Done has = has
  outcome_has p k q (Stops end) (Trap other) has = has

  answer_has : (p : Plain) (k : ℕ) (task : Task) (did : Did) (o : Option Mutator) → Has p → Has (after_answer p k task did o)
  answer_has p k task did (Some q) has = outcome_has p k q task did has
  answer_has p k task did None has = has

  all_have : (p : Plain) (log : List Entry) → Has p → Has (after_all p log)
  all_have p [] has = has
  all_have p (Made c ∷ es) has = all_have (after_call p c) es (answer_has p c.by c.task c.did (slice_get p.mutators c.by) has)
  all_have p (Exchanged by asked ∷ es) has = all_have p es has
  all_have p (Emptied cells ∷ es) has = all_have (with_emptied p cells) es (same_shape p cells i ∙ has)

pub records_keep_their_shape : RecordsKeepTheirShape
records_keep_their_shape p front rest i s has = subst (Has i s) (sym (after_append p front rest)) (all_have i s (after_all p front) rest has)
