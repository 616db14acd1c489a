-- The full heaps of a history by its order alone, and why a heap that is large enough is never full.
use Rattle.std.proofs.Common.{◌≡◌, ◌≢◌, ℕ, ◌+◌, ◌-◌, ◌^◌, ◌≤◌, ◌==◌, inl, inr, Bool, true, false, cond, List, [], ◌∷◌, ◌++◌, length, Option, Some, None, Result, Ok, Err, slice_get, refl, sym, ap, subst, ◌∙◌, arith, ⊎_elim}
use Rattle.std.specs.Prelude.{unwrap_or}
use Rattle.std.specs.Option.{option_and_then}
use Rattle.std.proofs.lemmas.Bool.{eqb-true, eqb-false}
use Rattle.std.proofs.lemmas.Option.{same_Some, slice_get_within}
use Rattle.plain_state.specs.declared.end.End.{End}
use Rattle.plain_state.specs.declared.end.End.TheVariants as ends
use Rattle.plain_state.specs.State.{Mutator, Plain}
use Rattle.mutator_asm.specs.declared.instr.Instr.{Instr}
use Rattle.plain_heap.specs.declared.mark.Mark.{Mark}
use Rattle.plain_heap.specs.declared.mark.Mark.TheVariants.{Step, Full}
use Rattle.plain_heap.specs.Order.{Story, story_after, story_marked}
use Rattle.plain_heap.specs.Step.{asked_by, fetch}
use Rattle.gc_worker.specs.declared.calls.call.Call.{Call}
use Rattle.gc_worker.specs.declared.calls.did.Did.{Did}
use Rattle.gc_worker.specs.declared.calls.did.Did.TheVariants.{Done, Trap}
use Rattle.gc_worker.specs.declared.calls.entry.Entry.{Entry}
use Rattle.gc_worker.specs.declared.calls.entry.Entry.TheVariants.{Made, Exchanged, Emptied}
use Rattle.gc_worker.specs.declared.task.Task.{Task}
use Rattle.gc_worker.specs.declared.task.Task.TheVariants.{Calls, Stops}
use Rattle.gc_worker.specs.Plain.Answer.{with_emptied}
use Rattle.gc_worker.specs.History.Legal.{EmptiesLost, IsLegal, after_all, after_call}
use Rattle.gc_worker.proofs.History.Large.{least_full}
use Rattle.gc_worker.specs.History.Needs.{EachFullIs, EachMayCome, HasNoFull, IsFullAt, IsLargeEnough, FullMayCome, being_made, flips_by, flips_in, made_after, made_after_mark, first_story, pages_next, since_by, since_in}
use Rattle.gc_worker.specs.History.Order.{AreFetched, order_of}
use Rattle.gc_worker.specs.History.Tally.{EachEntry, EntryIs, IsFilled, IsFilledBy, IsFilledByEnd, Sizes, Tally, Tasks, after_entry, asked_by_task, asked_for, asked_unless_ended, made_next, made_if, next_task, pages_by_task, size_now, tally}
use Rattle.gc_worker.specs.Plain.Marks.{end_mark, task_of, mark_by}
use Rattle.gc_worker.specs.Steps.Turned.{Answers}
use Rattle.gc_worker.proofs.Between.Others.{answers_leave_the_others}
use Rattle.gc_worker.proofs.History.Extensions.{as_many}
use Rattle.gc_worker.proofs.History.Orders.{call_turns, tracing_turns}
use Rattle.gc_worker.proofs.History.Counted.Sums.{sum_below-most}
use Rattle.gc_worker.proofs.Plain.TaskOutcomes.{Sort, IsFull, IsStep, asks, sort}

-- ---- what mutators do next

-- a task of mutator j, if it has no end, is what it fetches
abbrev pub IsNext : List (List Instr) → (turns : ℕ) → Plain → (j : ℕ) → Option Task → Type 0
IsNext code turns p j o = (task : Task) (q : Mutator) → o ≡ Some task → slice_get p.mutators j ≡ Some q → q.end ≡ None → task ≡ task_of (fetch code turns j q)

fetched : (instr : Instr) (r : Result Instr End) → Calls instr ≡ task_of r → r ≡ Ok instr
fetched instr (Ok other) e = cc
fetched instr (Err why) e = absurd (cc)

module _ (code : List (List Instr)) (turns : ℕ) (tasks : Tasks) where
  -- so is what it does next in a history in which all is fetched, by its calls there or else by its task
  next_at : (p : Plain) (log : List Entry) → ((m : ℕ) → AreFetched code turns m p log) → ((j : ℕ) → IsNext code turns (after_all p log) j (tasks j))
      → (j : ℕ) → IsNext code turns p j (next_task j log (tasks j))
  next_at p [] own last j task q = last j task q
  next_at p (Made c ∷ es) own last j task q = by_call (next_at (after_call p c) es (λ m. (own m).1) last j task q) (c.by == j) refl
    where
      by_call : (next_task j es (tasks j) ≡ Some task → slice_get (after_call p c).mutators j ≡ Some q → q.end ≡ None → task ≡ task_of (fetch code turns j q)) → (b : Bool) → (c.by == j) ≡ b
          → cond b (Some c.task) (next_task j es (tasks j)) ≡ Some task → slice_get p.mutators j ≡ Some q → q.end ≡ None → task ≡ task_of (fetch code turns j q)
      by_call later true same e its none = sym (same_Some c.task task e) ∙ (own j).0 (eqb-true c.by j same) q its
      by_call later false other e its none =
          let leaves = answers_leave_the_others [] p c.by (Answers c.task c.did) in
          later e (leaves.mutator j (λ same. eqb-false c.by j other (sym same)) ∙ its) none
  next_at p (Exchanged by asked ∷ es) own last j task q = next_at p es own last j task q
  next_at p (Emptied cells ∷ es) own last j task q = next_at (with_emptied p cells) es own last j task q

  -- ---- the pages of its record

  module _ (p : Plain) (sections : length p.mutators ≡ length code) where
    asks_next : (j asked : ℕ) (o : Option Task) → IsNext code turns p j o → asked_by_task p j o ≡ Some asked → asked_by code turns p j ≡ Some asked
    asks_next j asked o own = by_mutator (slice_get p.mutators j) refl
      where
        by_task : (q : Mutator) (t : Option Task) → o ≡ t → slice_get p.mutators j ≡ Some q → q.end ≡ None → asked_for q t ≡ Some asked → asked_by code turns p j ≡ Some asked
        by_task q None is its none e = absurd (cc)
        by_task q (Some (Stops end)) is its none e = absurd (cc)
        by_task q (Some (Calls instr)) is its none e =
            let within = slice_get_within p.mutators j q its in
            asks code turns p j q (omega (arith, within, sections)) its none instr asked (fetched instr (fetch code turns j q) (own (Calls instr) q is its none)) e

        by_end : (q : Mutator) (end : Option End) → slice_get p.mutators j ≡ Some q → q.end ≡ end → asked_unless_ended end q o ≡ Some asked → asked_by code turns p j ≡ Some asked
        by_end q None its none e = by_task q o refl its none e
        by_end q (Some end) its some e = absurd (cc)

        by_mutator : (m : Option Mutator) → slice_get p.mutators j ≡ m → option_and_then (λ (q : Mutator). asked_unless_ended q.end q o) m ≡ Some asked → asked_by code turns p j ≡ Some asked
        by_mutator None is e = absurd (cc)
        by_mutator (Some q) is e = by_end q q.end is refl e

    pages_most : (j : ℕ) (o : Option Task) → IsNext code turns p j o → pages_by_task p j o ≤ pages_next code turns p j
    pages_most j o own = by_asked (asked_by_task p j o) refl
      where
        by_asked : (a : Option ℕ) → asked_by_task p j o ≡ a → unwrap_or a 0 ≤ pages_next code turns p j
        by_asked None e = omega arith
        by_asked (Some asked) e = let same : pages_next code turns p j ≡ asked = ap (λ (a : Option ℕ). unwrap_or a 0) (asks_next j asked o own e) in omega (arith, same)

    -- by all but mutator m
    pub making_most : (m : ℕ) (es : List Entry) → ((j : ℕ) → j ≢ m → IsNext code turns p j (next_task j es (tasks j))) → made_next p tasks m es ≤ being_made code turns p m
    making_most m es own = sum_below-most (length p.mutators) _ _ (λ j below. either j (j == m) refl)
      where
        either : (j : ℕ) (b : Bool) → (j == m) ≡ b → cond b 0 (pages_by_task p j (next_task j es (tasks j))) ≤ cond b 0 (pages_next code turns p j)
        either j true same = omega arith
        either j false other = pages_most j (next_task j es (tasks j)) (own j (eqb-false j m other))

  -- ---- a call

  drops : (b x y : Bool) → (x ≡ true → y ≡ true) → cond b false x ≡ true → cond b false y ≡ true
  drops true x y on e = e
  drops false x y on e = on e

  kept : (b x : Bool) → cond b false x ≡ true → x ≡ true
  kept true x e = absurd (cc)
  kept false x e = e

  made_most : (did : Did) (pages : ℕ) → made_if did pages ≤ pages
  made_most Done pages = omega arith
  made_most (Trap end) pages = omega arith

  module _ (z : Sizes) (t : Tally) (made : ℕ) (since : ℕ → Bool) (c : Call) (es : List Entry) (sections : length t.now.mutators ≡ length code)
      (its : IsNext code turns t.now c.by (Some c.task)) (next : (j : ℕ) → j ≢ c.by → IsNext code turns t.now j (next_task j es (tasks j)))
      (covers : t.made ≤ made) (has : (m : ℕ) → t.since m ≡ true → since m ≡ true) where
    abbrev before : Story
    before = record { flip = t.flip; now = t.now }

    abbrev after : Story
    after = record { flip = t.flip; now = after_call t.now c }

    -- these marks are so, and whether they may come
    abbrev Are : Story → (made : ℕ) → (ℕ → Bool) → List Mark → Type 0
    Are s made since marks = EachFullIs z.limit z.least code turns s t.flips made marks × EachMayCome since t.flips marks

    -- the later marks, if so many pages were made at least, and of whom a flip came at least
    abbrev Later : Did → Type 0
    Later did = (more : ℕ) (then : ℕ → Bool) → t.made + made_if did (pages_by_task t.now c.by (Some c.task)) ≤ more → ((m : ℕ) → cond (m == c.by) false (t.since m) ≡ true → then m ≡ true)
        → Are after more then (order_of es)

    steps : (did : Did) → Later did → (mark : Mark) → mark ≡ Step c.by → story_marked code turns before mark ≡ after → Are before made since (mark ∷ order_of es)
    unfolding EachMayCome
    steps did later mark is turn =
        let most = pages_most t.now sections c.by (Some c.task) its in
        let few = made_most did (pages_by_task t.now c.by (Some c.task)) in
        let rest = later (made + pages_next code turns t.now c.by) (since_by since (Step c.by)) (omega (arith, covers, most, few)) (λ m. drops (m == c.by) (t.since m) (since m) (has m)) in
        let to : story_marked code turns before (Step c.by) ≡ after = subst (λ (z : Mark). story_marked code turns before z ≡ after) is turn in
        subst (λ (z : Mark). Are before made since (z ∷ order_of es)) (sym is)
        ((tt, subst (λ (s : Story). EachFullIs z.limit z.least code turns s t.flips (made + pages_next code turns t.now c.by) (order_of es)) (sym to) rest.0), (tt, rest.1))

    fills : (asked room live : ℕ) → IsFilled z tasks t c.by c.task asked room live es → Later (Trap (ends.HeapFull asked room live)) → story_marked code turns before (Full c.by asked room live) ≡ after
        → Are before made since (Full c.by asked room live ∷ order_of es)
    unfolding EachMayCome
    fills asked room live f later turn =
        let rest = later made since (omega (arith, covers)) (λ m e. has m (kept (m == c.by) (t.since m) e)) in
        let most = making_most t.now sections c.by es next in
        let few = f.for_records in
        let full : IsFullAt z.limit z.least code turns before t.flips made c.by asked room live = record {
          asked_is = asks_next t.now sections c.by asked (Some c.task) its f.asked_is;
          short = f.short;
          live_is = f.live_is;
          size = size_now z t;
          within = f.within;
          grown = ⊎_elim (λ (flipped : (t.since c.by ≡ true) × (size_now z t ≡ z.limit)). inl flipped.1) (λ (last : t.flips ≡ 2 ^ 32 - 1). inr last) f.no_flip;
          claims = f.claims;
          filled = f.filled;
          for_records = omega (arith, most, few, covers);
        } in
        let may : FullMayCome since t.flips (Full c.by asked room live) = ⊎_elim (λ (flipped : (t.since c.by ≡ true) × (size_now z t ≡ z.limit)). inl (has c.by flipped.0)) (λ (last : t.flips ≡ 2 ^ 32 - 1). inr last) f.no_flip in
        ((full, subst (λ (s : Story). EachFullIs z.limit z.least code turns s t.flips made (order_of es)) (sym turn) rest.0), (may, rest.1))

    by_sort : (why : End) → IsFilledByEnd z tasks t c.by c.task why es → Later (Trap why) → story_marked code turns before (end_mark c.by why) ≡ after → Sort c.by why
        → Are before made since (end_mark c.by why ∷ order_of es)
    by_sort why f later turn (IsStep is calls) = steps (Trap why) later (end_mark c.by why) is turn
    by_sort why f later turn (IsFull asked room live is) =
        subst (λ (end : End). IsFilledByEnd z tasks t c.by c.task end es → Later (Trap end) → story_marked code turns before (end_mark c.by end) ≡ after → Are before made since (end_mark c.by end ∷ order_of es)) (sym is)
        (fills asked room live) f later turn

    call_fills : (did : Did) → IsFilledBy z tasks t c.by c.task did es → Later did → story_marked code turns before (mark_by c.by did) ≡ after → Are before made since (mark_by c.by did ∷ order_of es)
    call_fills Done f later turn = steps Done later (Step c.by) refl turn
    call_fills (Trap why) f later turn = by_sort why f later turn (sort c.by why)

  -- ---- a history

  -- in which all is fetched, as the tasks are that workers hold at its end
  pub orders_fill : (z : Sizes) (t : Tally) (made : ℕ) (since : ℕ → Bool) (log : List Entry) → IsLegal t.now log → length t.now.mutators ≡ length code → ((m : ℕ) → AreFetched code turns m t.now log)
      → ((j : ℕ) → IsNext code turns (after_all t.now log) j (tasks j)) → EachEntry (EntryIs z tasks) t log → t.made ≤ made → ((m : ℕ) → t.since m ≡ true → since m ≡ true)
      → EachFullIs z.limit z.least code turns (record { flip = t.flip; now = t.now }) t.flips made (order_of log) × EachMayCome since t.flips (order_of log)
  unfolding EachMayCome
  orders_fill z t made since [] legal sections own last each covers has = (tt, tt)
  orders_fill z t made since (Made c ∷ es) legal sections own last each covers has =
      let later = next_at (after_call t.now c) es (λ m. (own m).1) last in
      let leaves = answers_leave_the_others [] t.now c.by (Answers c.task c.did) in
      call_fills z t made since c es sections
      (λ task q is its none. sym (same_Some c.task task is) ∙ (own c.by).0 refl q its)
      (λ j other task q is its none. later j task q is (leaves.mutator j other ∙ its) none)
      covers has c.did each.0
      (λ more then most on. orders_fill z (after_entry t (Made c)) more then es legal.1 (as_many t.now (Made c ∷ []) ∙ sections) (λ m. (own m).1) last each.1 most on)
      (call_turns code turns t.now t.flip c legal.0 sections ((own c.by).0 refl))
  orders_fill z t made since (Exchanged by asked ∷ es) legal sections own last each covers has =
      let rest = orders_fill z (after_entry t (Exchanged by asked)) 0 (λ m. true) es legal sections own last each.1 (omega arith) (λ m e. refl) in
      ((tt, rest.0), (tt, rest.1))
  orders_fill z t made since (Emptied cells ∷ es) legal sections own last each covers has =
      let rest = orders_fill z (after_entry t (Emptied cells)) made since es legal sections own last each.1 covers has in
      let to = tracing_turns code turns t.now t.flip cells each.0 in
      ((tt, subst (λ (s : Story). EachFullIs z.limit z.least code turns s t.flips made (order_of es)) (sym to) rest.0), (tt, rest.1))

  -- ---- what it makes

  call_made : (t : Tally) (made : ℕ) (c : Call) → length t.now.mutators ≡ length code → IsNext code turns t.now c.by (Some c.task) → t.made ≤ made
      → t.made + made_if c.did (pages_by_task t.now c.by (Some c.task)) ≤ made_after_mark code turns t.now made (mark_by c.by c.did)
  call_made t made c sections its covers = by_did c.did
    where
      by_sort : (why : End) → Sort c.by why → t.made ≤ made_after_mark code turns t.now made (end_mark c.by why)
      by_sort why (IsStep is calls) = rw is (omega (arith, covers))
      by_sort why (IsFull asked room live is) = rw is covers

      by_did : (did : Did) → t.made + made_if did (pages_by_task t.now c.by (Some c.task)) ≤ made_after_mark code turns t.now made (mark_by c.by did)
      by_did Done = let most = pages_most t.now sections c.by (Some c.task) its in omega (arith, covers, most)
      by_did (Trap why) = let most = by_sort why (sort c.by why) in omega (arith, most)

  -- no more than its order tells
  pub order_makes : (t : Tally) (made : ℕ) (log : List Entry) → IsLegal t.now log → EmptiesLost t.now t.flip log → length t.now.mutators ≡ length code → ((m : ℕ) → AreFetched code turns m t.now log) → t.made ≤ made
      → (tally t log).made ≤ made_after code turns (record { flip = t.flip; now = t.now }) made (order_of log)
  order_makes t made [] legal lost sections own covers = covers
  order_makes t made (Made c ∷ es) legal lost sections own covers =
      let more = made_after_mark code turns t.now made (mark_by c.by c.did) in
      let most = call_made t made c sections (λ task q is its none. sym (same_Some c.task task is) ∙ (own c.by).0 refl q its) covers in
      subst (λ (s : Story). (tally (after_entry t (Made c)) es).made ≤ made_after code turns s more (order_of es))
      (sym (call_turns code turns t.now t.flip c legal.0 sections ((own c.by).0 refl)))
      (order_makes (after_entry t (Made c)) more es legal.1 lost (as_many t.now (Made c ∷ []) ∙ sections) (λ m. (own m).1) most)
  order_makes t made (Exchanged by asked ∷ es) legal lost sections own covers = order_makes (after_entry t (Exchanged by asked)) 0 es legal lost sections own (omega arith)
  order_makes t made (Emptied cells ∷ es) legal lost sections own covers =
      subst (λ (s : Story). (tally (after_entry t (Emptied cells)) es).made ≤ made_after code turns s made (order_of es))
      (sym (tracing_turns code turns t.now t.flip cells lost.0))
      (order_makes (after_entry t (Emptied cells)) made es legal lost.1 sections own covers)

  -- its order leads to what is counted along it
  pub order_turns : (t : Tally) (log : List Entry) → IsLegal t.now log → EmptiesLost t.now t.flip log → length t.now.mutators ≡ length code → ((m : ℕ) → AreFetched code turns m t.now log)
      → story_after code turns (record { flip = t.flip; now = t.now }) (order_of log) ≡ record { flip = (tally t log).flip; now = (tally t log).now }
  order_turns t [] legal lost sections own = refl
  order_turns t (Made c ∷ es) legal lost sections own =
      ap (λ (s : Story). story_after code turns s (order_of es)) (call_turns code turns t.now t.flip c legal.0 sections ((own c.by).0 refl))
      ∙ order_turns (after_entry t (Made c)) es legal.1 lost (as_many t.now (Made c ∷ []) ∙ sections) (λ m. (own m).1)
  order_turns t (Exchanged by asked ∷ es) legal lost sections own = order_turns (after_entry t (Exchanged by asked)) es legal lost sections own
  order_turns t (Emptied cells ∷ es) legal lost sections own =
      ap (λ (s : Story). story_after code turns s (order_of es)) (tracing_turns code turns t.now t.flip cells lost.0)
      ∙ order_turns (after_entry t (Emptied cells)) es legal lost.1 sections own

-- ---- a heap that is large enough

-- the marks before one lead to its story
pub at_full : (limit least : ℕ) (code : List (List Instr)) (turns : ℕ) (s : Story) (flips made : ℕ) (front rest : List Mark) (m asked room live : ℕ)
    → EachFullIs limit least code turns s flips made (front ++ Full m asked room live ∷ rest)
    → IsFullAt limit least code turns (story_after code turns s front) (flips_in flips front) (made_after code turns s made front) m asked room live
at_full limit least code turns s flips made [] rest m asked room live each = each.0
at_full limit least code turns s flips made (mark ∷ front) rest m asked room live each =
    at_full limit least code turns (story_marked code turns s mark) (flips_by flips mark) (made_after_mark code turns s.now made mark) front rest m asked room live each.1

-- and to whether it may come
pub may_come_at : (since : ℕ → Bool) (flips : ℕ) (front rest : List Mark) (mark : Mark) → EachMayCome since flips (front ++ mark ∷ rest) → FullMayCome (since_in since front) (flips_in flips front) mark
unfolding EachMayCome
may_come_at since flips [] rest mark each = each.0
may_come_at since flips (first ∷ front) rest mark each = may_come_at (since_by since first) (flips_by flips first) front rest mark each.1

pub large_is_never_full : (limit least : ℕ) (code : List (List Instr)) (turns : ℕ) (order : List Mark) → EachFullIs limit least code turns (first_story code) 0 0 order → EachMayCome (λ j. false) 0 order
    → IsLargeEnough limit least code turns order → HasNoFull order
large_is_never_full limit least code turns order each may large front rest m asked room live is =
    let mark = Full m asked room live in
    let comes = may_come_at (λ j. false) 0 front rest mark (subst (EachMayCome (λ j. false) 0) (sym is) may) in
    let full = at_full limit least code turns (first_story code) 0 0 front rest m asked room live (subst (EachFullIs limit least code turns (first_story code) 0 0) (sym is) each) in
    let most = least_full limit least (flips_in 0 front) full.size full.within.0 full.grown in
    let fits = large front (mark ∷ rest) m is comes asked live full.asked_is full.live_is in
    let filled = full.filled in
    let few = full.for_records in
    let short = full.short in
    omega (arith, fits, filled, few, short, most)
