-- The words of records along an order.
use Rattle.std.proofs.Common.{◌≡◌, ℕ, zero, suc, ◌<◌, ◌≤◌, Bool, true, false, cond, nat_lt, List, [], ◌∷◌, ◌++◌, length, replicate, Option, Some, None, Result, Ok, Err, slice_get, slice_index_or, refl, ap, ◌∙◌, ⊎_elim}
use Rattle.std.specs.Option.{option_and_then, option_map_or}
use Rattle.std.specs.Result.{result_ok}
use Rattle.std.proofs.lemmas.Bool.{cases_lt}
use Rattle.std.proofs.lemmas.List.{get_or-replicate, get_or_past, length-replicate}
use Rattle.std.proofs.lemmas.Option.{slice_get_within}
use Rattle.plain_state.specs.declared.end.End.{End}
use Rattle.plain_state.specs.declared.end.End.TheVariants.{HeapFull}
use Rattle.plain_state.specs.declared.value.Identity.{Identity}
use Rattle.plain_state.specs.declared.value.Value.{Value}
use Rattle.plain_state.specs.declared.value.Value.TheVariants.{Number}
use Rattle.plain_state.specs.State.{Heap, Mutator, Plain, Record, at_serial, made_by, none_snapped, record_of}
use Rattle.plain_state.specs.Writing.{stored}
use Rattle.plain_state.proofs.Elements.{slice_get-set_same}
use Rattle.mutator_asm.specs.declared.instr.Instr.{Instr}
use Rattle.plain_heap.specs.declared.action.Action.{Action}
use Rattle.plain_heap.specs.declared.action.Action.TheVariants.{Loads, Compares}
use Rattle.plain_heap.specs.declared.mark.Mark.{Mark}
use Rattle.plain_heap.specs.declared.mark.Mark.TheVariants.{Step, Flip, Full, Traced}
use Rattle.plain_heap.specs.Action.{◌>>=◌, action}
use Rattle.plain_heap.specs.Call.{After, call, is_cell, set_register, went_on, words_in}
use Rattle.plain_heap.specs.Emptied.{emptied}
use Rattle.plain_heap.specs.Order.{Story, ended_for_want, first_story, is_asked, opening, plain, story_after, story_marked}
use Rattle.plain_heap.specs.Records.{loaded_there, record_word, success, word_after}
use Rattle.plain_heap.specs.Step.{asked_by, ended, fetch, mutator_in, settled, stepped, stepped_as, stepped_if}
use Rattle.plain_heap.specs.Stores.{OrdersStoreWords, StepDoes, StepsCompareTheLastStore, StepsLoadTheLastStore, last_in_order, turn_does, word_after_mark}
use Rattle.plain_heap.proofs.Calls.RecordsAfterCalls.{cell_word, exchanges_find_the_word, loads_take_the_word, only_stores_change_words}
use Rattle.plain_heap.proofs.Orders.Stories.{story_after-append}
use Rattle.plain_heap.proofs.Reaching.Emptying.{emptied_heap_keeps}
use Rattle.plain_heap.proofs.States.OpeningState.{opening-replicate}

-- ---- stores

module _ (code : List (List Instr)) (turns : ℕ) (s : Plain) (i : Identity) (x : ℕ) where
  abbrev word : Value
  word = record_word s.heap i x

  abbrev left_by : Option Action → Value
  left_by o = option_map_or (λ act. word_after (Ok act) i x word) o word

  as_done : (o : Result Action End) → word_after o i x word ≡ left_by (result_ok o)
  as_done (Ok act) = refl
  as_done (Err why) = refl

  module _ (m : ℕ) (k : Mutator) where
    by_call : (instr : Instr) (o : Result After End) → call m s.heap k instr ≡ o → record_word (settled s m k o).heap i x ≡ left_by (result_ok (o >>= (λ after. action k instr)))
    by_call instr (Ok after) is = only_stores_change_words m s.heap k instr after i x is ∙ as_done (action k instr)
    by_call instr (Err why) is = refl

    by_fetch : (o : Result Instr End) → record_word (settled s m k (o >>= call m s.heap k)).heap i x ≡ left_by (result_ok (o >>= (λ instr. call m s.heap k instr >>= (λ after. action k instr))))
    by_fetch (Ok instr) = by_call instr (call m s.heap k instr) refl
    by_fetch (Err why) = refl

    by_end : (o : Option End) → record_word (stepped_if code turns s m k o).heap i x ≡ left_by (turn_does code turns m s.heap k o)
    by_end None = by_fetch (fetch code turns m k)
    by_end (Some why) = refl

  by_mutator : (m : ℕ) (o : Option Mutator) → record_word (stepped_as code turns s m o).heap i x ≡ left_by (option_and_then (λ k. turn_does code turns m s.heap k k.end) o)
  by_mutator m None = refl
  by_mutator m (Some k) = by_end m k k.end

  by_full : (m asked room live : ℕ) (is : Bool) (o : Option Mutator) → record_word (cond is (option_map_or (λ k. ended s m k (HeapFull asked room live)) o s) s).heap i x ≡ word
  by_full m asked room live true None = refl
  by_full m asked room live true (Some k) = refl
  by_full m asked room live false o = refl

-- what is emptied is no word that is loaded and stored
emptied_word : (i : Identity) (x : ℕ) (o p : Plain) → record_word (emptied o p).heap i x ≡ record_word p.heap i x
emptied_word i x o p = emptied_heap_keeps (λ h. record_word h i x ≡ record_word p.heap i x) stays o p refl
  where
    stays : (heap : Heap) (j : Identity) (r : Record) → record_of heap j ≡ Some r → is_cell r.kind ≡ true → record_word heap i x ≡ record_word p.heap i x
        → record_word (stored heap j r 0 (Number 0)) i x ≡ record_word p.heap i x
    stays heap j r found cell same = cell_word heap j r 0 (Number 0) found i cell x ∙ same

mark_word : (code : List (List Instr)) (turns : ℕ) (s : Story) (i : Identity) (x : ℕ) (mark : Mark)
    → record_word (story_marked code turns s mark).now.heap i x ≡ word_after_mark code turns s.now mark i x (record_word s.now.heap i x)
unfolding ended_for_want stepped
mark_word code turns s i x (Step m) = by_mutator code turns s.now i x m (mutator_in code s.now m)
mark_word code turns s i x (Flip asked) = refl
mark_word code turns s i x (Full m asked room live) = by_full code turns s.now i x m asked room live (is_asked asked (asked_by code turns s.now m)) (slice_get s.now.mutators m)
mark_word code turns s i x Traced = emptied_word i x s.flip s.now

marks_store_words : (code : List (List Instr)) (turns : ℕ) (s : Story) (order : List Mark) (i : Identity) (x : ℕ)
    → record_word (story_after code turns s order).now.heap i x ≡ last_in_order code turns s order i x (record_word s.now.heap i x)
marks_store_words code turns s [] i x = refl
marks_store_words code turns s (mark ∷ marks) i x =
    marks_store_words code turns (story_marked code turns s mark) marks i x
    ∙ ap (λ (first : Value). last_in_order code turns (story_marked code turns s mark) marks i x first) (mark_word code turns s i x mark)

-- a heap without a record
pub no_words : (mutators : ℕ) (board : List Value) (i : Identity) (x : ℕ) → record_word (record { records = replicate mutators []; board = board; snaps = 0; snapped = none_snapped }) i x ≡ Number 0
no_words mutators board i x = rw none (by_serial i.serial)
  where
    none : made_by (record { records = replicate mutators []; board = board; snaps = 0; snapped = none_snapped }) i.mutator ≡ []
    none =
        let no_records : List Record = [] in
        ⊎_elim
        (λ (l : i.mutator < mutators). get_or-replicate mutators i.mutator no_records no_records l)
        (λ (l : mutators ≤ i.mutator). get_or_past (replicate mutators no_records) i.mutator no_records (rw (length-replicate mutators no_records) l))
        (cases_lt i.mutator mutators)

    by_serial : (serial : ℕ) → slice_index_or (option_map_or words_in (at_serial [] serial) []) x (Number 0) ≡ Number 0
    by_serial zero = refl
    by_serial (suc n) = refl

opening_word : (code : List (List Instr)) (i : Identity) (x : ℕ) → record_word (opening code).heap i x ≡ Number 0
opening_word code i x = ap (λ (s : Plain). record_word s.heap i x) (opening-replicate code) ∙ no_words (length code) (opening code).heap.board i x

pub orders_store_words : OrdersStoreWords
orders_store_words code turns order i x =
    marks_store_words code turns (first_story code) order i x ∙ ap (λ (first : Value). last_in_order code turns (first_story code) order i x first) (opening_word code i x)

-- ---- loads and exchanges

-- an instruction that a step executes
record Executed (m : ℕ) (s : Plain) (k : Mutator) (act : Action) (next : Plain) : Type 0 where
  instr : Instr
  acts : action k instr ≡ Ok act
  after : After
  leaves : call m s.heap k instr ≡ Ok after
  mutator : slice_get next.mutators m ≡ Some after.mutator

module _ (code : List (List Instr)) (turns : ℕ) (s : Plain) (m : ℕ) (k : Mutator) (act : Action) (step : StepDoes code turns s m k act) where
  within : m < length s.mutators
  within = by_place (nat_lt m (length code)) step.mutator
    where
      by_place : (b : Bool) → cond b (slice_get s.mutators m) None ≡ Some k → m < length s.mutators
      by_place true is = slice_get_within s.mutators m k is
      by_place false is = absurd (cc)

  does_call : (instr : Instr) (o : Result After End) → call m s.heap k instr ≡ o → result_ok (o >>= (λ after. action k instr)) ≡ Some act → Executed m s k act (settled s m k o)
  does_call instr (Ok after) is does = record {
    instr = instr;
    acts = by_action (action k instr) does;
    after = after;
    leaves = is;
    mutator = slice_get-set_same s.mutators m after.mutator within;
  }
    where
      by_action : (o : Result Action End) → result_ok o ≡ Some act → o ≡ Ok act
      by_action (Ok other) h = cc
      by_action (Err why) h = cc
  does_call instr (Err why) is does = absurd (cc)

  does_fetched : (o : Result Instr End) → result_ok (o >>= (λ instr. call m s.heap k instr >>= (λ after. action k instr))) ≡ Some act → Executed m s k act (settled s m k (o >>= call m s.heap k))
  does_fetched (Ok instr) does = does_call instr (call m s.heap k instr) refl does
  does_fetched (Err why) does = absurd (cc)

  does_turn : (o : Option End) → turn_does code turns m s.heap k o ≡ Some act → Executed m s k act (stepped_if code turns s m k o)
  does_turn None does = does_fetched (fetch code turns m k) does
  does_turn (Some why) does = absurd (cc)

  executed : Executed m s k act (stepped code turns s m)
  unfolding stepped
  executed = rw step.mutator (does_turn k.end step.does)

module _ (code : List (List Instr)) (turns : ℕ) (front : List Mark) (m : ℕ) (k : Mutator) (act : Action) (step : StepDoes code turns (plain code turns front) m k act) where
  abbrev there : Plain
  there = plain code turns front

  abbrev does : Executed m there k act (stepped code turns there m)
  does = executed code turns there m k act step

  goes_on : slice_get (plain code turns (front ++ Step m ∷ [])).mutators m ≡ Some does.after.mutator
  goes_on = ap (λ (s : Story). slice_get s.now.mutators m) (story_after-append code turns (first_story code) front (Step m ∷ [])) ∙ does.mutator

pub steps_load_the_last_store : StepsLoadTheLastStore
steps_load_the_last_store code turns front m k d i x step =
    let act : Action = Loads d i x in
    let e = does code turns front m k act step in
    goes_on code turns front m k act step
    ∙ (ap (λ (a : After). Some a.mutator) (loads_take_the_word m (plain code turns front).heap k e.instr e.after d i x e.acts e.leaves)
    ∙ ap (λ (v : Value). Some (went_on (set_register k d (loaded_there (plain code turns front).heap i x v)))) (orders_store_words code turns front i x))

pub steps_compare_the_last_store : StepsCompareTheLastStore
steps_compare_the_last_store code turns front m k d i x expected new step =
    let act : Action = Compares d i x expected new in
    let e = does code turns front m k act step in
    goes_on code turns front m k act step
    ∙ (ap (λ (l : Mutator). Some l) (exchanges_find_the_word m (plain code turns front).heap k e.instr e.after d i x expected new e.acts e.leaves).mutator_is
    ∙ ap (λ (v : Value). Some (went_on (set_register k d (success v expected)))) (orders_store_words code turns front i x))
