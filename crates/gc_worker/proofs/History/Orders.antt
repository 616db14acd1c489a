-- The order of a history in which mutators execute a program: the plain machine that is run by it comes to what the history comes to,
-- each of its marks acts, and its flips are those of the history.
use Rattle.std.proofs.Common.{◌≡◌, ℕ, ◌<◌, ◌≤◌, List, [], ◌∷◌, ◌++◌, length, Some, None, slice_get, refl, sym, ◌∙◌, ap, subst, arith, ⊎_elim}
use Rattle.std.proofs.lemmas.Bool.{cases_lt}
use Rattle.std.proofs.lemmas.List.{length-replicate}
use Rattle.std.proofs.lemmas.Option.{slice_get_within}
use Rattle.plain_state.specs.declared.value.Identity.{Identity}
use Rattle.plain_state.specs.State.{Mutator, Plain}
use Rattle.mutator_asm.specs.declared.instr.Instr.{Instr}
use Rattle.plain_heap.specs.declared.mark.Mark.TheVariants.{Traced}
use Rattle.plain_heap.specs.Emptied.{cells_to_empty}
use Rattle.plain_heap.specs.Order.{Story, first_story, opening, plain, story, story_after, story_marked}
use Rattle.plain_heap.specs.Step.{fetch}
use Rattle.heap_laws.specs.Opening.{opening_mutator, opening_plain}
use Rattle.gc_worker.specs.declared.task.Task.{Task}
use Rattle.gc_worker.specs.Plain.Answer.{ComesTo, MayCome, with_emptied}
use Rattle.gc_worker.specs.Plain.Marks.{MarkActs, EachActs, task_of, mark_by}
use Rattle.gc_worker.proofs.Plain.TaskOutcomes.{Sort, IsFull, IsStep, sort, comes, asks_then, no_flip, now_marked, opens_so, was_running}
use Rattle.gc_worker.specs.declared.calls.call.Call.{Call}
use Rattle.gc_worker.specs.declared.calls.did.Did.{Did}
use Rattle.gc_worker.specs.declared.calls.did.Did.TheVariants.{Done, Trap}
use Rattle.gc_worker.specs.declared.calls.entry.Entry.{Entry}
use Rattle.gc_worker.specs.declared.calls.entry.Entry.TheVariants.{Made, Exchanged, Emptied}
use Rattle.gc_worker.specs.History.Legal.{EmptiesLost, IsLegal, after_all, after_call, calls_of, flip_from, last_flip}
use Rattle.gc_worker.specs.History.Order.{AreFetched, AreShort, IsShort, order_of}
use Rattle.gc_worker.proofs.Plain.CellTargets.Emptied.{emptied_is}
use Rattle.gc_worker.proofs.History.Extensions.{as_many, none_first, none_past}

-- ---- a history in two parts

module _ (code : List (List Instr)) (turns m : ℕ) where
  pub fetched_append : (p : Plain) (xs ys : List Entry) → AreFetched code turns m p xs → AreFetched code turns m (after_all p xs) ys → AreFetched code turns m p (xs ++ ys)
  fetched_append p [] ys h k = k
  fetched_append p (Made c ∷ es) ys h k = (h.0, fetched_append (after_call p c) es ys h.1 k)
  fetched_append p (Exchanged by asked ∷ es) ys h k = fetched_append p es ys h k
  fetched_append p (Emptied cells ∷ es) ys h k = fetched_append (with_emptied p cells) es ys h k

  -- where mutator m has no call
  pub fetched_none : (p : Plain) (log : List Entry) → calls_of m log ≡ [] → AreFetched code turns m p log
  fetched_none p [] none = tt
  fetched_none p (Made c ∷ es) none = let h = none_first m c es none in ((λ by. absurd (h.0 (sym by))), fetched_none (after_call p c) es h.1)
  fetched_none p (Exchanged by asked ∷ es) none = fetched_none p es none
  fetched_none p (Emptied cells ∷ es) none = fetched_none (with_emptied p cells) es none

module _ (m : ℕ) where
  pub short_append : (xs ys : List Entry) → AreShort m xs → AreShort m ys → AreShort m (xs ++ ys)
  short_append [] ys h k = k
  short_append (Made c ∷ es) ys h k = (h.0, short_append es ys h.1 k)
  short_append (Exchanged by asked ∷ es) ys h k = short_append es ys h k
  short_append (Emptied cells ∷ es) ys h k = short_append es ys h k

  pub short_none : (log : List Entry) → calls_of m log ≡ [] → AreShort m log
  short_none [] none = tt
  short_none (Made c ∷ es) none = let h = none_first m c es none in ((λ by. absurd (h.0 (sym by))), short_none es h.1)
  short_none (Exchanged by asked ∷ es) none = short_none es none
  short_none (Emptied cells ∷ es) none = short_none es none

-- ---- its order

-- What the order of a history does to the plain machine, from this state and that of the last flip.
pub record IsOrder (code : List (List Instr)) (turns : ℕ) (p o : Plain) (log : List Entry) : Type 0 where
  pub story : story_after code turns (record { flip = o; now = p }) (order_of log) ≡ record { flip = flip_from p o log; now = after_all p log }
  pub acts : EachActs code turns (record { flip = o; now = p }) (order_of log)

-- the same of a history from the opening on, and of the program's own
pub record IsProgramOrder (code : List (List Instr)) (turns mutators : ℕ) (log : List Entry) : Type 0 where
  pub plain : plain code turns (order_of log) ≡ after_all (opening_plain mutators) log
  pub acts : EachActs code turns (first_story code) (order_of log)
  pub flip : (story code turns (order_of log)).flip ≡ last_flip (opening_plain mutators) log

module _ (code : List (List Instr)) (turns : ℕ) where
  -- ---- one call

  -- of mutator m, which is q, and has the task that it fetches
  module _ (p : Plain) (m : ℕ) (q : Mutator) (has : m < length code) (is : slice_get p.mutators m ≡ Some q) (running : q.end ≡ None) (task : Task) (own : task ≡ task_of (fetch code turns m q)) where
    -- its mark does what it does
    marks_so : (did : Did) → MayCome m p.heap q task did → now_marked code turns p (mark_by m did) ≡ after_call p (record { by = m; task = task; did = did })
    marks_so Done may = comes code turns p m q has is running Done (rw own at may) ∙ rw (is, own) refl
    marks_so (Trap why) may = comes code turns p m q has is running (Trap why) (rw own at may) ∙ rw is refl

    -- and acts
    mark_acts : (did : Did) → MayCome m p.heap q task did → IsShort did → MarkActs code turns p (mark_by m did)
    mark_acts Done may short = was_running code turns p m q has is running
    mark_acts (Trap why) may short = by_sort (sort m why)
      where
        by_sort : Sort m why → MarkActs code turns p (mark_by m (Trap why))
        by_sort (IsStep s c) = rw s (was_running code turns p m q has is running)
        by_sort (IsFull asked room live e) = rw e (was_running code turns p m q has is running, asks_then code turns p m q has is running asked room live (rw (own, e) at may), rw e at short)

  -- what a call does to the story its mark does
  pub call_turns : (p o : Plain) (c : Call) → ComesTo p c.by c.task c.did → length p.mutators ≡ length code
      → ((q : Mutator) → slice_get p.mutators c.by ≡ Some q → c.task ≡ task_of (fetch code turns c.by q))
      → story_marked code turns (record { flip = o; now = p }) (mark_by c.by c.did) ≡ record { flip = o; now = after_call p c }
  call_turns p o c h sections own =
      let within = slice_get_within p.mutators c.by h.mutator h.is in
      let same = marks_so p c.by h.mutator (omega (arith, within, sections)) h.is h.no_end c.task (own h.mutator h.is) c.did h.may in
      no_flip code turns p o c.by c.did ∙ (λ i. record { flip = o; now = same i })

  -- and where the epoch is traced
  pub tracing_turns : (p o : Plain) (cells : List Identity) → cells ≡ cells_to_empty o
      → story_marked code turns (record { flip = o; now = p }) Traced ≡ record { flip = o; now = with_emptied p cells }
  tracing_turns p o cells are = λ i. record { flip = o; now = (emptied_is o p ∙ ap (with_emptied p) (sym are)) i }

  -- ---- a history

  -- one call more at its beginning
  first : (p o : Plain) (c : Call) (es : List Entry) → now_marked code turns p (mark_by c.by c.did) ≡ after_call p c → MarkActs code turns p (mark_by c.by c.did)
      → IsOrder code turns (after_call p c) o es → IsOrder code turns p o (Made c ∷ es)
  first p o c es same act rest =
      let to : story_marked code turns (record { flip = o; now = p }) (mark_by c.by c.did) ≡ record { flip = o; now = after_call p c } =
      no_flip code turns p o c.by c.did ∙ (λ i. record { flip = o; now = same i }) in
      record {
        story = ap (λ (s : Story). story_after code turns s (order_of es)) to ∙ rest.story;
        acts = (act, subst (λ (s : Story). EachActs code turns s (order_of es)) (sym to) rest.acts);
      }

  pub orders_act : (p o : Plain) (log : List Entry) → IsLegal p log → EmptiesLost p o log → length p.mutators ≡ length code → ((m : ℕ) → AreFetched code turns m p log)
      → ((m : ℕ) → AreShort m log) → IsOrder code turns p o log
  orders_act p o [] legal lost sections fetched short = record { story = refl; acts = tt }
  orders_act p o (Made c ∷ es) legal lost sections fetched short =
      let h : ComesTo p c.by c.task c.did = legal.0 in
      let within = slice_get_within p.mutators c.by h.mutator h.is in
      let has : c.by < length code = omega (arith, within, sections) in
      let own : c.task ≡ task_of (fetch code turns c.by h.mutator) = (fetched c.by).0 refl h.mutator h.is in
      first p o c es
      (marks_so p c.by h.mutator has h.is h.no_end c.task own c.did h.may)
      (mark_acts p c.by h.mutator has h.is h.no_end c.task own c.did h.may ((short c.by).0 refl))
      (orders_act (after_call p c) o es legal.1 lost (as_many p (Made c ∷ []) ∙ sections) (λ m. (fetched m).1) (λ m. (short m).1))
  orders_act p o (Exchanged by asked ∷ es) legal lost sections fetched short =
      let rest = orders_act p p es legal lost sections fetched short in
      record { story = rest.story; acts = (tt, rest.acts) }
  orders_act p o (Emptied cells ∷ es) legal lost sections fetched short =
      let rest = orders_act (with_emptied p cells) o es legal lost.1 sections fetched short in
      let to = tracing_turns p o cells lost.0 in
      record {
        story = ap (λ (s : Story). story_after code turns s (order_of es)) to ∙ rest.story;
        acts = (tt, subst (λ (s : Story). EachActs code turns s (order_of es)) (sym to) rest.acts);
      }

  -- ---- mutators that there are

  -- no other has calls
  pub fetched_each : (p : Plain) (log : List Entry) → IsLegal p log → ((m : ℕ) → m < length p.mutators → AreFetched code turns m p log) → (m : ℕ) → AreFetched code turns m p log
  fetched_each p log legal each m = ⊎_elim (λ (l : m < length p.mutators). each m l) (λ (l : length p.mutators ≤ m). fetched_none code turns m p log (none_past p log m legal l)) (cases_lt m (length p.mutators))

  short_each : (p : Plain) (log : List Entry) → IsLegal p log → ((m : ℕ) → m < length p.mutators → AreShort m log) → (m : ℕ) → AreShort m log
  short_each p log legal each m = ⊎_elim (λ (l : m < length p.mutators). each m l) (λ (l : length p.mutators ≤ m). short_none m log (none_past p log m legal l)) (cases_lt m (length p.mutators))

  -- ---- from the opening on

  -- each mutator that there is executes its section
  pub orders_program : (mutators : ℕ) (log : List Entry) → mutators ≡ length code → IsLegal (opening_plain mutators) log → EmptiesLost (opening_plain mutators) (opening_plain mutators) log
      → ((m : ℕ) → m < mutators → AreFetched code turns m (opening_plain mutators) log) → ((m : ℕ) → m < mutators → AreShort m log) → IsProgramOrder code turns mutators log
  orders_program mutators log sections legal lost fetched short =
      let p : Plain = opening_plain mutators in
      let many : length p.mutators ≡ mutators = length-replicate mutators opening_mutator in
      let opens : p ≡ opening code = ap opening_plain sections ∙ opens_so code in
      let h = orders_act p p log legal lost (many ∙ sections)
      (fetched_each p log legal (λ m l. fetched m (omega (arith, l, many))))
      (short_each p log legal (λ m l. short m (omega (arith, l, many)))) in
      record {
        plain = ap (λ (z : Plain). (story_after code turns (record { flip = z; now = z }) (order_of log)).now) (sym opens) ∙ ap (λ (s : Story). s.now) h.story;
        acts = subst (λ (z : Plain). EachActs code turns (record { flip = z; now = z }) (order_of log)) opens h.acts;
        flip = ap (λ (z : Plain). (story_after code turns (record { flip = z; now = z }) (order_of log)).flip) (sym opens) ∙ ap (λ (s : Story). s.flip) h.story;
      }
