-- What a step does to what is counted along the history, and what its entry tells.
use Rattle.std.proofs.Common.{◌≡◌, ◌≢◌, ℕ, ◌+◌, ◌-◌, ◌*◌, ◌^◌, ◌<◌, ◌≤◌, ◌==◌, ◌⊎◌, inl, inr, Bool, true, false, cond, nat_lt, is_some, List, [], ◌++◌, length, Option, Some, None, get_or, slice_get, refl, sym, ap, subst, ◌∙◌, arith, ⊎_elim, eq-eqb, ne_eqb, ltb-true, get_or-set_same, get_or-set_other, length-set}
use Rattle.std.proofs.lemmas.Bool.{cases_eq}
use Rattle.std.proofs.lemmas.Option.{slice_get-get_or, slice_get_within}
use Rattle.plain_state.specs.declared.end.End.{End}
use Rattle.plain_state.specs.declared.end.End.TheVariants as ends
use Rattle.plain_state.specs.declared.sizes.TheConstants.{PAGE_WORDS}
use Rattle.plain_state.specs.State.{Mutator, Plain}
use Rattle.plain_heap.specs.Order.{fresh}
use Rattle.atom_store.specs.declared.reply.Reply.{Reply}
use Rattle.atom_store.specs.declared.step.Step.{Step}
use Rattle.atom_store.specs.Step.{words_after, reply_of}
use Rattle.space_map.specs.Spaces.{to_space}
use Rattle.space_map.specs.Table.{Size}
use Rattle.heap_state.specs.Memory.Table.{word_in}
use Rattle.gate_core.specs.Flip.{Flipping}
use Rattle.heap_state.specs.Known.{Account}
use Rattle.gc_worker.specs.declared.stage.Stage.{Stage}
use Rattle.gc_worker.specs.declared.stage.Stage.TheVariants.{Looks, Flips}
use Rattle.gc_worker.specs.declared.task.Task.{Task}
use Rattle.gc_worker.specs.Plain.Answer.{ComesTo, IsAnswered}
use Rattle.gc_worker.specs.Workers.Begun.{IsPastLook}
use Rattle.gc_worker.specs.Laws.Between.{KeepsToTask, IsAsPlain, IsNoAnswer, IsSo, is_present}
use Rattle.gc_worker.specs.Laws.Cycles.{BeginsAnew, IsFirst, IsInCall, LowGoes, SetsAside, SizeGoes, StaysInCall, words_claimed, low_at, low_of, low_said, set_aside, size_of, snaps_at}
use Rattle.gc_worker.specs.Laws.Growth.{Grows}
use Rattle.gc_worker.specs.Workers.Fits.{Fits, FitsEnd, FitsTask, IsMaking, IsOnSide}
use Rattle.gc_worker.specs.Plain.Full.{FindsNoRoom, FullWhereTold}
use Rattle.gc_worker.specs.Workers.Held.{Held}
use Rattle.gc_worker.specs.Workers.Knows.{post_in}
use Rattle.gc_worker.specs.Laws.Step.{FlipsOnce, FlipsWhereTold, Heap, StepKeeps, WorkersStand, epoch_of, held_at, moved, nobody}
use Rattle.gc_worker.specs.declared.calls.did.Did.TheVariants.{Done, Trap}
use Rattle.gc_worker.specs.Steps.Turned.{Told, Silent, Empties, Answers, Marks, epoch_in_gate, told, turned}
use Rattle.gc_worker.specs.Steps.Wanted.{wanted}
use Rattle.gc_worker.proofs.Between.Begun.{beginnings_are_kept, full_is_found_later, rests_before}
use Rattle.gc_worker.proofs.Between.Pages.Claims.{flips_at}
use Rattle.gc_worker.proofs.Between.Pages.Copied.{full_tells_live}
use Rattle.gc_worker.proofs.Between.KeptTasks.{workers_go_on}
use Rattle.gc_worker.proofs.Between.StandingHeaps.{what_stands_is_so}
use Rattle.gc_worker.proofs.Cycles.Calls.{calls_go_on}
use Rattle.gc_worker.proofs.Cycles.Flips.{flips_are_first, flips_stay_first}
use Rattle.gc_worker.proofs.Cycles.Lows.{low_falls_by_claims}
use Rattle.gc_worker.proofs.Cycles.SizesOfSpaces.{sizes_are_within, sizes_stay}
use Rattle.gc_worker.proofs.Words.GrownSizes.{grown_within}
use Rattle.gc_worker.proofs.Cycles.SetAside.{claims_are_set_aside}
use Rattle.gc_worker.proofs.Stages.Gate.Resuming.{end_none}
use Rattle.gc_worker.proofs.Plain.NewRecords.{asked_is, plain_pages}
use Rattle.gc_worker.proofs.StepKeeps.{steps_keep}
use Rattle.gc_worker.specs.declared.calls.entry.Entry.{Entry}
use Rattle.gc_worker.specs.History.Tally.{FitsTally, EachEntry, EntryIs, IsAskedFor, IsFilled, IsFilledByEnd, IsTallied, Sizes, Tally, size_now, Tasks, aside_in, asked_by_task, made_next, next_task, pages_by_task, tally, tasks_held}
use Rattle.gc_worker.specs.History.Legal.{extra}
use Rattle.gc_worker.proofs.History.Aside.{aside_changes, aside_most, aside_of_others}
use Rattle.gc_worker.proofs.History.FullHeaps.{full_asks, full_calls, past_look}
use Rattle.gc_worker.proofs.History.SameRecords.{makes_its_record}
use Rattle.gc_worker.proofs.History.Counted.Tallies.{asks_as, entries_on, flips_most, tally_append}

-- ---- the step of worker k, which holds y

module _ (h : Heap) (k : ℕ) (y : Held) (q : Step) (below : k < length h.workers) (holds : held_at h k ≡ y) (want : wanted y ≡ Some q)
    (least : ℕ) (first : Tally) (log : List Entry) (b : IsTallied least h first log) (st : WorkersStand h (tally first log).now (tally first log).flip) where
  abbrev n : ℕ
  n = h.pages

  abbrev t : Tally
  t = tally first log

  abbrev p : Plain
  p = t.now

  abbrev o : Plain
  o = t.flip

  abbrev c : FitsTally h b.sizes t
  c = b.counts

  abbrev reply : Reply
  reply = reply_of q h.words

  abbrev words' : List ℕ
  words' = words_after q h.words

  abbrev z : Held
  z = turned y reply

  abbrev after : Heap
  after = moved h k y q

  -- what is counted then, by what the step tells
  abbrev then_by : Told → Tally
  then_by u = tally t (extra o k u)

  law : StepKeeps h p o k y q
  law = steps_keep h p o k y q st below holds want

  fits : Fits n h.mutators k y
  fits = subst (Fits n h.mutators k) holds (st.fit k below)

  so : IsSo h p
  so = what_stands_is_so h p o st

  as_plain : (w : Mutator) → slice_get p.mutators k ≡ Some w → IsAsPlain h p k y w
  as_plain w its = subst (λ (x : Held). IsAsPlain h p k x w) holds (so.mutators k w its)

  its_mutator : k < h.mutators → (w : Mutator) × (slice_get p.mutators k ≡ Some w)
  its_mutator few = (get_or p.mutators k fresh, slice_get-get_or p.mutators k fresh (let many = so.as_many in omega (arith, few, many)))

  goes : KeepsToTask y reply
  goes = workers_go_on n h.mutators k y reply fits

  it_holds : held_at after k ≡ z
  it_holds = get_or-set_same h.workers k z nobody below

  -- the others hold what they held
  pub other_holds : (m : ℕ) → m ≢ k → held_at after m ≡ held_at h m
  other_holds m other = get_or-set_other h.workers k m z nobody other

  -- ---- the words claimed

  abbrev claims_after : Told → ℕ
  claims_after (Marks asked) = 0
  claims_after _ = c.claims + words_claimed y reply

  -- the next epoch's size, if there is a flip, is that of the words
  abbrev sizes_after : Sizes
  sizes_after = record b.sizes { in_use = λ e. cond (e == t.flips + 1) (size_of n words') (b.sizes.in_use e) }

  agree : (e : ℕ) → e ≤ t.flips → sizes_after.in_use e ≡ b.sizes.in_use e
  agree e few = ap (λ (b' : Bool). cond b' (size_of n words') (b.sizes.in_use e)) (ne_eqb e (t.flips + 1) (λ same. omega (arith, few, same)))

  next_size : sizes_after.in_use (t.flips + 1) ≡ size_of n words'
  next_size = ap (λ (b' : Bool). cond b' (size_of n words') (b.sizes.in_use (t.flips + 1))) (eq-eqb (t.flips + 1) (t.flips + 1) refl)

  goes_size : SizeGoes n h.words words' (told y reply)
  goes_size = sizes_stay h p o k y q st below holds want

  sizes_go : (u : Told) → told y reply ≡ u → SizeGoes n h.words words' u
  sizes_go u e = subst (SizeGoes n h.words words') e goes_size

  size_after : (u : Told) → SizeGoes n h.words words' u → size_of n words' ≡ size_now sizes_after (then_by u)
  size_after (Marks asked) grows = sym next_size
  size_after (Answers _ Done) same = same ∙ (c.size ∙ sym (agree t.flips (omega arith)))
  size_after _ same = same ∙ (c.size ∙ sym (agree t.flips (omega arith)))

  least_after : (u : Told) → SizeGoes n h.words words' u → b.sizes.least ≤ size_of n words'
  least_after (Marks asked) grows =
      let was = c.least in let size = c.size in let within = (sizes_are_within h p o st).1 in
      let more = grown_within n (size_of n h.words) (size_of n words') within grows in
      omega (arith, was, size, more)
  least_after _ same = let was = c.least in let size = c.size in omega (arith, was, size, same)

  low_after : (u : Told) → SizeGoes n h.words words' u → LowGoes n h.words words' (words_claimed y reply) u → low_of n words' + claims_after u ≡ PAGE_WORDS * size_of n words'
  low_after (Marks asked) grows low = omega (arith, low)
  low_after _ same low = let was = c.low in let size = c.size in omega (arith, low, was, same, size)

  its_most : (task : Task) → y.task ≡ Some task → set_aside y ≤ PAGE_WORDS * pages_by_task t.now k (Some task)
  its_most task is =
      subst (λ (asks : Option Task). set_aside y ≤ PAGE_WORDS * pages_by_task p k asks) is
      (subst (λ (x : Held). set_aside x ≤ PAGE_WORDS * pages_by_task p k x.task) holds (aside_most h p o st k below))

  covers_after : (u : Told) → told y reply ≡ u → SetsAside y (words_claimed y reply) z u → claims_after u ≤ PAGE_WORDS * (then_by u).made + aside_in after
  covers_after (Answers task Done) e sets =
      let was = c.for_records in
      let change = aside_changes h k y q below holds in
      let most = its_most task (goes.answers task Done e).asked in
      omega (arith, sets, was, change, most)
  covers_after (Marks asked) e sets = omega arith
  covers_after _ e sets = let was = c.for_records in let change = aside_changes h k y q below holds in omega (arith, sets, was, change)

  -- where all have a flip since their last call no record was made since it
  none_after : (u : Told) → told y reply ≡ u → ((m : ℕ) → m < h.mutators → (then_by u).since m ≡ true) → (then_by u).made ≡ 0
  none_after Silent e all = c.none_made all
  none_after Empties e all = c.none_made all
  none_after (Answers task outcome) e all =
      let comes = subst (IsAnswered p k) e law.answered in
      let inside = slice_get_within p.mutators k comes.mutator comes.is in
      let many = so.as_many in
      let has = all k (omega (arith, inside, many)) in
      let not : cond (k == k) false (t.since k) ≡ false = ap (λ (b : Bool). cond b false (t.since k)) (eq-eqb k k refl) in
      absurd (let never = sym not ∙ has in cc)
  none_after (Marks asked) e all = refl

  -- ---- flips

  epoch_after : (u : Told) → FlipsWhereTold n h.words words' y u → epoch_of n words' ≡ (then_by u).flips
  epoch_after (Marks asked) f = let is = f.epoch in let next = f.next in let was = c.epoch in omega (arith, is, next, was)
  epoch_after _ f = f.epoch ∙ c.epoch

  -- a mutator that looks is of the gate's epoch
  at_look : k < h.mutators → y.stage ≡ Looks → t.flips ≡ y.epoch
  at_look few looks = let w = its_mutator few in sym c.epoch ∙ (as_plain w.0 w.1).epoch (ap (λ (s : Stage). is_present (post_in y s)) looks)

  -- who has no end had none
  had_no_end : z.account.end ≡ None → y.account.end ≡ None
  had_no_end none = by_end y.account.end refl
    where
      by_end : (end : Option End) → y.account.end ≡ end → y.account.end ≡ None
      by_end None e = e
      by_end (Some why) e = absurd (let kept : None ≡ Some why = sym none ∙ (ap (λ (a : Account). a.end) (goes.ended why e).0 ∙ e) in cc)

  -- worker m, where it holds x, has this since its last call
  abbrev IsSince : (ℕ → Bool) → (m : ℕ) → Held → Type 0
  IsSince since m x = m < h.mutators → x.account.end ≡ None → IsPastLook x.stage → x.begun < t.flips → since m ≡ true

  -- it looked, in the gate's epoch; or it began before this step
  began : k < h.mutators → z.account.end ≡ None → IsPastLook z.stage → (z.begun ≡ t.flips) ⊎ (IsPastLook y.stage × (z.begun ≡ y.begun))
  began few none past = ⊎_elim
      (λ (looks : (y.stage ≡ Looks) × (z.begun ≡ y.epoch)). inl (looks.1 ∙ sym (at_look few looks.0)))
      (λ (goes_on : IsPastLook y.stage × (z.begun ≡ y.begun)). inr goes_on)
      (beginnings_are_kept n h.mutators k y reply fits past)

  -- worker m, where it holds x, began in no later epoch than that
  abbrev IsBegun : ℕ → (m : ℕ) → Held → Type 0
  IsBegun flips m x = m < h.mutators → x.account.end ≡ None → IsPastLook x.stage → x.begun ≤ flips

  own_begun : IsBegun t.flips k z
  own_begun few none past = ⊎_elim
      (λ (looks : z.begun ≡ t.flips). omega (arith, looks))
      (λ (goes_on : IsPastLook y.stage × (z.begun ≡ y.begun)).
      let was = subst (IsBegun t.flips k) holds (c.begun k) few (had_no_end none) goes_on.0 in let same = goes_on.1 in omega (arith, was, same))
      (began few none past)

  more_flips : (u : Told) → t.flips ≤ (then_by u).flips
  more_flips Silent = omega arith
  more_flips _ = omega arith

  begun_after : (u : Told) (m : ℕ) → IsBegun (then_by u).flips m (held_at after m)
  begun_after u m few none past = let up = more_flips u in let was = by_worker few none past in omega (arith, up, was)
    where
      by_worker : IsBegun t.flips m (held_at after m)
      by_worker = ⊎_elim
          (λ (same : m ≡ k). subst (λ (j : ℕ). IsBegun t.flips j (held_at after j)) (sym same) (subst (IsBegun t.flips k) (sym it_holds) own_begun))
          (λ (other : m ≢ k). subst (IsBegun t.flips m) (sym (other_holds m other)) (c.begun m))
          (cases_eq m k)

  own_since : IsSince t.since k z
  own_since few none past early = ⊎_elim
      (λ (looks : z.begun ≡ t.flips). absurd (omega (arith, looks, early)))
      (λ (goes_on : IsPastLook y.stage × (z.begun ≡ y.begun)).
      subst (IsSince t.since k) holds (c.since k) few (had_no_end none) goes_on.0 (subst (λ (begun : ℕ). begun < t.flips) goes_on.1 early))
      (began few none past)

  all_since : (since : ℕ → Bool) → ((m : ℕ) → m ≢ k → since m ≡ t.since m) → IsSince since k z → (m : ℕ) → IsSince since m (held_at after m)
  all_since since beside self m = ⊎_elim
      (λ (same : m ≡ k). subst (λ (j : ℕ). IsSince since j (held_at after j)) (sym same) (subst (IsSince since k) (sym it_holds) self))
      (λ (other : m ≢ k) few none past early. beside m other ∙ subst (IsSince t.since m) (sym (other_holds m other)) (c.since m) few none past early)
      (cases_eq m k)

  -- of the caller nothing came since
  abbrev since_call : ℕ → Bool
  since_call j = cond (j == k) false (t.since j)

  beside_call : (m : ℕ) → m ≢ k → since_call m ≡ t.since m
  beside_call m other = ap (λ (b : Bool). cond b false (t.since m)) (ne_eqb m k other)

  since_after : (u : Told) → told y reply ≡ u → (m : ℕ) → m < h.mutators → (held_at after m).account.end ≡ None → IsPastLook (held_at after m).stage
      → (held_at after m).begun < (then_by u).flips → (then_by u).since m ≡ true
  since_after Silent e = all_since t.since (λ m other. refl) own_since
  since_after Empties e = all_since t.since (λ m other. refl) own_since
  since_after (Answers task Done) e = all_since since_call beside_call (λ few none past early. absurd (rests_before y.stage z.stage (goes.answers task Done e).after past))
  since_after (Answers task (Trap end)) e = all_since since_call beside_call
      (λ few none past early. absurd (let ended : None ≡ Some end = sym none ∙ ap (λ (a : Account). a.end) (goes.answers task (Trap end) e).after.0 in cc))
  since_after (Marks asked) e = λ m few none past early. refl

  -- ---- who asks for a flip

  first_after : (m : ℕ) → m < length after.workers → IsFirst n words' (held_at after m)
  first_after m inside = flips_stay_first h p o k y q st below holds want c.first m (let many = length-set h.workers k z in omega (arith, many, inside))

  -- worker m, where it holds x, is in its call, which begins no checkpoint, and has seen a flip
  abbrev HasSeen : ℕ → Held → Type 0
  HasSeen flips x = IsInCall x.stage × (x.begun < flips) × (snaps_at x.stage ≡ false)

  -- its own step, where it doesn't answer
  own_call : (flips : ℕ) → IsNoAnswer (told y reply) → IsInCall y.stage → y.begun < flips → snaps_at y.stage ≡ false → HasSeen flips z
  own_call flips none call early no_snap = (goes_on.0, omega (arith, early, kept), goes_on.1 no_snap)
    where
      goes_on : StaysInCall y.stage z.stage
      goes_on = ⊎_elim
          (λ (stays : StaysInCall y.stage z.stage). stays)
          (λ (anew : BeginsAnew y.stage z). absurd (let never = sym no_snap ∙ anew.0 in cc))
          (calls_go_on n h.mutators k y reply fits law.fits call none)

      kept : z.begun ≡ y.begun
      kept = ⊎_elim
          (λ (looks : (y.stage ≡ Looks) × (z.begun ≡ y.epoch)). absurd (subst IsInCall looks.0 call))
          (λ (goes_on : IsPastLook y.stage × (z.begun ≡ y.begun)). goes_on.1)
          (beginnings_are_kept n h.mutators k y reply fits (past_look z.stage goes_on.0))

  -- the others are where they were
  other_call : (u : Told) (m : ℕ) → m ≢ k → t.asked m ≡ true → HasSeen (then_by u).flips (held_at after m)
  other_call u m other has =
      let was = c.call m has in
      let up = more_flips u in
      let early = was.1 in
      subst (HasSeen (then_by u).flips) (sym (other_holds m other)) (was.0, omega (arith, early, up), was.2)

  -- with what is so of worker k itself
  all_call : (u : Told) (has : ℕ → Bool) → ((m : ℕ) → m ≢ k → has m ≡ t.asked m) → (has k ≡ true → HasSeen (then_by u).flips z) → (m : ℕ) → has m ≡ true
      → HasSeen (then_by u).flips (held_at after m)
  all_call u has beside self m = ⊎_elim
      (λ (same : m ≡ k). subst (λ (j : ℕ). has j ≡ true → HasSeen (then_by u).flips (held_at after j)) (sym same) (λ is. subst (HasSeen (then_by u).flips) (sym it_holds) (self is)))
      (λ (other : m ≢ k) is. other_call u m other (sym (beside m other) ∙ is))
      (cases_eq m k)

  its_call : t.asked k ≡ true → HasSeen t.flips y
  its_call has = subst (HasSeen t.flips) holds (c.call k has)

  -- a flip
  module _ (asked : ℕ) (e : told y reply ≡ Marks asked) where
    at_flip : (f : Flipping) × (y.stage ≡ Flips f)
    at_flip = flips_at y reply asked y.stage e

    once : FlipsOnce n h.words words' y asked
    once = subst (FlipsWhereTold n h.words words' y) e law.flips

    making : IsMaking y.account y.registers y.task
    making = (subst (FitsTask y) at_flip.1 fits.task).0

    unended : y.account.end ≡ None
    unended = end_none y.account.end (subst (λ (s : Stage). FitsEnd s (is_some y.account.end)) at_flip.1 fits.end)

    is_mutator : k < h.mutators
    is_mutator =
        let side : nat_lt y.number y.mutators ≡ true = subst (λ (s : Stage). IsOnSide s (nat_lt y.number y.mutators) (is_some y.account.end)) at_flip.1 fits.side in
        let less = ltb-true y.number y.mutators side in
        let number = fits.number in
        let beside = fits.beside in
        omega (arith, less, number, beside)

    in_call : IsInCall y.stage
    in_call = subst IsInCall (sym at_flip.1) tt

    flipper_seen : HasSeen (t.flips + 1) z
    flipper_seen =
        let was = subst (IsBegun t.flips k) holds (c.begun k) is_mutator unended (past_look y.stage in_call) in
        own_call (t.flips + 1) (subst IsNoAnswer (sym e) tt) in_call (omega (arith, was)) (ap snaps_at at_flip.1)

    -- it has asked for none, or the space may still grow
    pub none_asked : (t.asked k ≡ false) ⊎ (size_of n h.words < n)
    none_asked = ⊎_elim
        (λ (own : y.epoch ≤ y.begun). inl (by_asked own (t.asked k) refl))
        (λ (grows : size_of n h.words < n). inr grows)
        (flips_are_first n h.words y reply asked (subst (IsFirst n h.words) holds (c.first k below)) e)
      where
        by_asked : y.epoch ≤ y.begun → (has : Bool) → t.asked k ≡ has → t.asked k ≡ false
        by_asked own false is = is
        by_asked own true is = absurd
            (let seen = (its_call is).1 in
            let epoch = once.epoch in
            let flips = c.epoch in
            omega (arith, seen, own, epoch, flips))

  call_after : (u : Told) → told y reply ≡ u → (m : ℕ) → (then_by u).asked m ≡ true → HasSeen (then_by u).flips (held_at after m)
  call_after Silent e = all_call Silent t.asked (λ m other. refl) (λ has. let was = its_call has in own_call t.flips (subst IsNoAnswer (sym e) tt) was.0 was.1 was.2)
  call_after Empties e = all_call Empties t.asked (λ m other. refl) (λ has. let was = its_call has in own_call t.flips (subst IsNoAnswer (sym e) tt) was.0 was.1 was.2)
  call_after (Answers task outcome) e = all_call (Answers task outcome) (then_by (Answers task outcome)).asked (λ m other. ap (λ (s : Bool). cond s false (t.asked m)) (ne_eqb m k other))
      (λ has. absurd (let not : cond (k == k) false (t.asked k) ≡ false = ap (λ (s : Bool). cond s false (t.asked k)) (eq-eqb k k refl) in let never = sym not ∙ has in cc))
  call_after (Marks asked) e = all_call (Marks asked) (then_by (Marks asked)).asked (λ m other. ap (λ (s : Bool). cond s true (t.asked m)) (ne_eqb m k other)) (λ has. flipper_seen asked e)

  counts_by : (u : Told) → told y reply ≡ u → FitsTally after sizes_after (then_by u)
  counts_by u e = record {
    limit = c.limit;
    size = size_after u (sizes_go u e);
    least = (let least = least_after u (sizes_go u e) in let size = size_after u (sizes_go u e) in omega (arith, least, size));
    claims = claims_after u;
    low = low_after u (sizes_go u e) (subst (LowGoes n h.words words' (words_claimed y reply)) e (low_falls_by_claims h p o k y q st below holds want))
        ∙ ap (λ (size : ℕ). PAGE_WORDS * size) (size_after u (sizes_go u e));
    for_records = covers_after u e (subst (SetsAside y (words_claimed y reply) z) e (claims_are_set_aside n h.mutators k y reply fits));
    none_made = none_after u e;
    epoch = epoch_after u (subst (FlipsWhereTold n h.words words' y) e law.flips);
    begun = begun_after u;
    since = since_after u e;
    first = first_after;
    call = call_after u e;
  }

  -- ---- the entry

  abbrev tasks : Tasks
  tasks = tasks_held after.workers

  -- a full heap
  module _ (task : Task) (asked room live : ℕ) (e : told y reply ≡ Answers task (Trap (ends.HeapFull asked room live))) where
    found : FindsNoRoom n h.words y asked room live
    found = subst (FullWhereTold n h.words y) e law.full

    comes : ComesTo p k task (Trap (ends.HeapFull asked room live))
    comes = subst (IsAnswered p k) e law.answered

    of_now : epoch_of n h.words ≡ y.epoch
    of_now = ap (epoch_in_gate 0) found.gate_is ∙ found.epoch

    few : k < h.mutators
    few = let inside = slice_get_within p.mutators k comes.mutator comes.is in let many = so.as_many in omega (arith, inside, many)

    -- it has read the size of the epoch's space
    size_found : found.size ≡ size_now sizes_after t
    size_found =
        sym found.size_is ∙ (ap (λ (e : ℕ). word_in n h.words (Size (to_space e))) (sym of_now) ∙ (c.size ∙ sym (agree t.flips (omega arith))))

    no_flip : ((t.since k ≡ true) × (size_now sizes_after t ≡ b.sizes.limit)) ⊎ (t.flips ≡ 2 ^ 32 - 1)
    no_flip =
        let same : t.flips ≡ y.epoch = sym c.epoch ∙ of_now in
        let none : y.account.end ≡ None = (as_plain comes.mutator comes.is).account.end ∙ comes.no_end in
        let past = full_is_found_later n h.mutators k y reply task asked room live fits e in
        ⊎_elim
        (λ (early : (y.begun < y.epoch) × (found.size ≡ n)). inl (subst (IsSince t.since k) holds (c.since k) few none past (omega (arith, early.0, same)), sym size_found ∙ (early.1 ∙ sym c.limit)))
        (λ (last : y.epoch ≡ 2 ^ 32 - 1). inr (same ∙ last))
        found.no_flip

    none_aside : set_aside (held_at h k) ≡ 0
    none_aside =
        let sets : words_claimed y reply + set_aside y ≡ 0 = subst (SetsAside y (words_claimed y reply) z) e (claims_are_set_aside n h.mutators k y reply fits) in
        ap set_aside holds ∙ (omega (arith, sets))

    pub for_others : c.claims ≤ PAGE_WORDS * (t.made + made_next t.now tasks k [])
    for_others =
        let was = c.for_records in
        let aside = aside_of_others h p o st k tasks below none_aside (λ j other. ap (λ (x : Held). x.task) (other_holds j other)) in
        omega (arith, was, aside)

    -- of a single mutator
    single : length t.now.mutators ≡ 1 → t.since k ≡ true → t.made ≡ 0
    single one has =
        let many = so.as_many in
        let here = few in
        c.none_made (λ m inside. subst (λ (j : ℕ). t.since j ≡ true) (let only : k ≡ m = omega (arith, one, many, here, inside) in only) has)

    is_filled : IsFilled sizes_after tasks t k task asked room live []
    is_filled =
        let calls = full_calls n h.mutators k y reply fits task asked room live e in
        let low : low_of n h.words ≡ found.area.low = ap (λ (epoch : ℕ). low_at n h.words (to_space epoch)) of_now ∙ ap low_said found.area_is in
        let whole = c.low in
        let room_is = found.room_is in
        let live_is = found.live_is in
        record {
          asked_is = full_asks p k task calls.0 asked room live calls.1 comes;
          short = found.short;
          no_flip = no_flip;
          within = (let least = c.least in let size = c.size in let same = agree t.flips (omega arith) in let most = (sizes_are_within h p o st).1 in let limit = c.limit in
              (omega (arith, least, same), omega (arith, size, same, most, limit)));
          live_is = full_tells_live h p o y asked room live st found;
          claims = c.claims;
          filled = (let same = agree t.flips (omega arith) in omega (arith, low, whole, room_is, live_is, same));
          for_records = for_others;
          single = single;
        }

  end_is : (task : Task) (end : End) → told y reply ≡ Answers task (Trap end) → IsFilledByEnd sizes_after tasks t k task end []
  end_is task (ends.HeapFull asked room live) e = is_filled task asked room live e
  end_is task _ e = tt

  -- a flip
  module _ (asked : ℕ) (e : told y reply ≡ Marks asked) where
    -- the plain mutator's record takes as many pages
    its_pages : asked_by_task p k y.task ≡ Some asked
    its_pages =
        let w = its_mutator (is_mutator asked e) in
        let plain = as_plain w.0 w.1 in
        let none : w.0.end ≡ None = sym plain.account.end ∙ unended asked e in
        let makes = making asked e in
        let its = makes_its_record y w.0 fits.eight fits.registers (plain.shows none) makes in
        let pages = plain_pages y makes w.0 its.0 its.1 in
        ap (asked_by_task p k) makes.executes.task_is ∙ asks_as p k w.0 makes.executes.instr asked w.1 none (pages ∙ ap (λ (a : ℕ). Some a) (sym ((once asked e).asked_is ∙ asked_is y makes)))

    is_asked_for : IsAskedFor sizes_after tasks t k asked []
    is_asked_for =
        let same : tasks k ≡ y.task = ap (λ (x : Held). x.task) it_holds ∙ goes.kept (subst IsNoAnswer (sym e) tt) in
        record { first = first_asked; makes = ap (asked_by_task p k) same ∙ its_pages; grows = grows }
      where
        first_asked : (t.asked k ≡ false) ⊎ (size_now sizes_after t < b.sizes.limit)
        first_asked = ⊎_elim
            (λ (none : t.asked k ≡ false). inl none)
            (λ (fewer : size_of n h.words < n). inr (let size = c.size in let same = agree t.flips (omega arith) in let limit = c.limit in omega (arith, fewer, size, same, limit)))
            (none_asked asked e)

        grows : Grows b.sizes.limit (size_now sizes_after t) (sizes_after.in_use (t.flips + 1))
        grows =
            let goes = subst (SizeGoes n h.words words') e goes_size in
            let was : size_now sizes_after t ≡ size_of n h.words = agree t.flips (omega arith) ∙ sym c.size in
            rw (was, next_size, c.limit) goes

  entry_is : (u : Told) → told y reply ≡ u → EachEntry (EntryIs sizes_after tasks) t (extra o k u)
  entry_is Silent e = tt
  entry_is Empties e = (refl, tt)
  entry_is (Answers task Done) e = (tt, tt)
  entry_is (Answers task (Trap end)) e = (end_is task end e, tt)
  entry_is (Marks asked) e = (is_asked_for asked e, tt)

  -- ---- the tasks go on

  same_task : IsNoAnswer (told y reply) → (j : ℕ) → tasks j ≡ tasks_held h.workers j
  same_task none j = ⊎_elim
      (λ (same : j ≡ k). subst (λ (i : ℕ). tasks i ≡ tasks_held h.workers i) (sym same) (ap (λ (x : Held). x.task) it_holds ∙ (goes.kept none ∙ sym (ap (λ (x : Held). x.task) holds))))
      (λ (other : j ≢ k). ap (λ (x : Held). x.task) (other_holds j other))
      (cases_eq j k)

  tasks_go_on : (u : Told) → told y reply ≡ u → (j : ℕ) (task : Task) → tasks_held h.workers j ≡ Some task → next_task j (extra o k u) (tasks j) ≡ Some task
  tasks_go_on (Answers done outcome) e j task is = ⊎_elim
      (λ (same : j ≡ k).
      let was : Some done ≡ Some task = sym (goes.answers done outcome e).asked ∙ (sym (ap (λ (x : Held). x.task) holds) ∙ (ap (tasks_held h.workers) (sym same) ∙ is)) in
      ap (λ (b : Bool). cond b (Some done) (tasks j)) (eq-eqb k j (sym same)) ∙ was)
      (λ (other : j ≢ k). ap (λ (b : Bool). cond b (Some done) (tasks j)) (ne_eqb k j (λ f. other (sym f))) ∙ (ap (λ (x : Held). x.task) (other_holds j other) ∙ is))
      (cases_eq j k)
  tasks_go_on _ e j task is = same_task (subst IsNoAnswer (sym e) tt) j ∙ is

  pub step_tallied : IsTallied least after first (log ++ extra (tally first log).flip k (told y reply))
  step_tallied = record {
    sizes = sizes_after;
    began = (b.began.0, agree first.flips (flips_most first log) ∙ b.began.1);
    entries = entries_on (tasks_held h.workers) tasks (extra o k (told y reply)) b.sizes sizes_after.in_use t.flips agree (tasks_go_on (told y reply) refl) first log (omega arith) b.entries (entry_is (told y reply) refl);
    counts = subst (FitsTally after sizes_after) (sym (tally_append first log (extra o k (told y reply)))) (counts_by (told y reply) refl);
  }
