-- A clerk that has the heap for itself finds it full only if its own records fill it.
use Rattle.std.proofs.Common.{◌≡◌, ℕ, ◌+◌, ◌-◌, ◌*◌, ◌^◌, ◌<◌, ◌≤◌, ◌⊎◌, inl, inr, Bool, true, cond, ◌==◌, List, [], ◌∷◌, ◌++◌, length, ap, sym, ◌∙◌, subst, arith, eq-eqb}
use Rattle.std.proofs.lemmas.List.{append_cancel_right, length-replicate}
use Rattle.plain_state.specs.declared.end.End.TheVariants.{HeapFull}
use Rattle.plain_state.specs.declared.sizes.TheConstants.{PAGE_WORDS}
use Rattle.plain_state.specs.Reachable.{IsLive}
use Rattle.plain_state.specs.State.{Plain, Record, serial_of}
use Rattle.mutator_asm.specs.declared.instr.Instr.{Instr}
use Rattle.heap_state.specs.Functions.{sum_below}
use Rattle.heap_laws.specs.Opening.{opening_mutator}
use Rattle.gc_worker.specs.declared.calls.call.Call.{Call}
use Rattle.gc_worker.specs.declared.calls.did.Did.TheVariants.{Trap}
use Rattle.gc_worker.specs.declared.calls.entry.Entry.{Entry}
use Rattle.gc_worker.specs.declared.calls.entry.Entry.TheVariants.{Made, Exchanged, Emptied}
use Rattle.gc_worker.specs.declared.task.Task.TheVariants.{Calls}
use Rattle.gc_worker.specs.History.Legal.{IsLegal, after_all, after_call, calls_of, extra, last_flip, worker_call}
use Rattle.gc_worker.specs.History.Tally.{EachEntry, EntryIs, Sizes, Tally, Tasks, made_next, next_task, pages_by_task, size_now, tally, tasks_held}
use Rattle.gc_worker.specs.Steps.Turned.{Told}
use Rattle.gc_worker.specs.Plain.Answer.{with_emptied}
use Rattle.gc_worker.proofs.History.Extensions.{as_many, calls_append}
use Rattle.gc_worker.proofs.History.Counted.Tallies.{tally_now}
use Rattle.ael_threads.specs.declared.view.Plan.{Plan}
use Rattle.ael_threads.specs.Alone.{LeavesBoard, alone_history}
use Rattle.ael_threads.specs.Calls.{Called, call_by}
use Rattle.ael_threads.specs.Histories.{AreSizesOf, Each, HasOwnCalls, first_plain, opening_tally}
use Rattle.ael_threads.specs.Seats.{Seated, first_number, first_own, seen_after}
use Rattle.ael_threads.specs.Unread.{EachCall}
use Rattle.ael_threads.proofs.Lists.Elements.{each_map}
use Rattle.ael_threads.proofs.TableRule.PagesInUse.{tallied_sizes}
use Rattle.ael_threads.proofs.WholeCalls.OneMore.{makers}
use Rattle.concordance.specs.Full.{LoneFullsAreFilled, words_made}
use Rattle.concordance.specs.Lone.{IsLone, alone_by}
use Rattle.concordance.specs.NoCells.{MakesNoCell}
use Rattle.concordance.specs.OneMutator.{IsWhole, WasDone}
use Rattle.concordance.proofs.NoCells.{leaves_none, opening_none}
use Rattle.concordance.proofs.LoneHeaps.FewFlips.{lone_flips_are_few}
use Rattle.concordance.proofs.LoneHeaps.LiveWords.{live_is_made}
use Rattle.concordance.proofs.LoneHeaps.OneMutator.{each_call, lone_flips_are_now, lone_histories}

pub legal_front : (p : Plain) (xs ys : List Entry) → IsLegal p (xs ++ ys) → IsLegal p xs
legal_front p [] ys h = tt
legal_front p (Made c ∷ xs) ys h = (h.0, legal_front (after_call p c) xs ys h.1)
legal_front p (Exchanged by asked ∷ xs) ys h = legal_front p xs ys h
legal_front p (Emptied cells ∷ xs) ys h = legal_front (with_emptied p cells) xs ys h

at_one : (f : ℕ → ℕ) → f 0 ≡ 0 → sum_below 1 f ≡ 0
unfolding sum_below
at_one f none = omega (arith, none)

sum_one : (n : ℕ) (f : ℕ → ℕ) → n ≡ 1 → f 0 ≡ 0 → sum_below n f ≡ 0
sum_one n f one none = ap (λ (k : ℕ). sum_below k f) one ∙ at_one f none

module _ (a b : Seated) (i : Instr) (asked room live : ℕ) (lone : IsLone a) (single : a.knows.plan.mutators ≡ 1) (whole : IsWhole a.knows.plan) (zero_is : first_number a.knows.hands ≡ 0)
    (done : Each WasDone (first_own a.knows.hands)) (h : Called a (Calls i) (Trap (HeapFull asked room live)) b) where
  abbrev c : Call
  c = call_by a (Calls i) (Trap (HeapFull asked room live))

  abbrev p : Plain
  p = first_plain a.knows.plan

  -- all that came before the call
  abbrev front : List Entry
  front = a.knows.seen ++ h.history.between

  abbrev own : List Call
  own = first_own a.knows.hands

  abbrev t : Tally
  t = tally (opening_tally a.knows.plan) front

  -- ---- the history before the call

  many : length p.mutators ≡ 1
  many = length-replicate a.knows.plan.mutators opening_mutator ∙ single

  legal : IsLegal p front
  legal = legal_front p front (Made c ∷ []) (subst (IsLegal p) h.history.is h.history.legal)

  own_front : calls_of 0 front ≡ own
  own_front =
      let now : calls_of (first_number a.knows.hands) b.knows.seen ≡ own ++ c ∷ [] = (subst (HasOwnCalls b.knows.seen) h.hands h.history.own).0 in
      let at : calls_of 0 (front ++ Made c ∷ []) ≡ own ++ c ∷ [] = ap (calls_of 0) (sym h.history.is) ∙ (ap (λ (n : ℕ). calls_of n b.knows.seen) (sym zero_is) ∙ now) in
      let last : calls_of 0 (Made c ∷ []) ≡ c ∷ [] = ap (λ (z : Bool). cond z (c ∷ []) []) (eq-eqb (first_number a.knows.hands) 0 zero_is) in
      append_cancel_right (calls_of 0 front) own (c ∷ []) (ap (λ (z : List Call). calls_of 0 front ++ z) (sym last) ∙ (sym (calls_append 0 front (Made c ∷ [])) ∙ at))

  makes_none : EachCall MakesNoCell front
  makes_none = each_call MakesNoCell p front many legal (subst (Each MakesNoCell) (sym own_front) (each_map LeavesBoard MakesNoCell leaves_none own lone.leaves))

  state : after_all p front ≡ alone_by a
  state = lone_histories p front many (opening_none a.knows.plan.mutators) makes_none legal ∙ ap (λ (cs : List Call). after_all p (alone_history cs)) own_front

  now : t.now ≡ alone_by a
  now = tally_now (opening_tally a.knows.plan) front ∙ state

  -- it is what the words stood for that the last act found
  found_is : h.acts.knows.found.log ≡ front
  found_is =
      let k = h.acts.knows in
      let call_is : worker_call (first_number h.last.knows.hands) (Calls i) (Trap (HeapFull asked room live)) ≡ c =
      ap (λ (n : ℕ). worker_call n (Calls i) (Trap (HeapFull asked room live))) h.waits.rests.number in
      let grows : k.stands.log ≡ k.found.log ++ Made c ∷ [] =
      k.grows ∙ (ap (λ (z : Told). k.found.log ++ extra (last_flip (first_plain h.last.knows.plan) k.found.log) (first_number h.last.knows.hands) z) h.answers ∙ ap (λ (z : Call). k.found.log ++ Made z ∷ []) call_is) in
      let seen : b.knows.seen ≡ k.stands.log = k.sees ∙ ap (seen_after h.last.knows.seen k.stands.log) h.answers in
      append_cancel_right k.found.log front (Made c ∷ []) (sym grows ∙ (sym seen ∙ h.history.is))

  -- ---- its flips

  abbrev tasks : Tasks
  tasks = tasks_held h.acts.knows.found.workers

  abbrev sizes : Sizes
  sizes = h.acts.knows.found.tallied.sizes

  sized : AreSizesOf a.knows.plan sizes
  sized = subst (λ (q : Plan). AreSizesOf q sizes) h.waits.rests.plan
      (tallied_sizes h.last.knows.plan h.acts.knows.before h.acts.knows.found.workers h.acts.knows.found.log h.acts.knows.found.tallied)

  entries : EachEntry (EntryIs sizes tasks) (opening_tally a.knows.plan) front
  entries = subst (λ (z : Plan × List Entry). EachEntry (EntryIs sizes tasks) (opening_tally z.0) z.1) (λ j. (h.waits.rests.plan j, found_is j)) h.acts.knows.found.tallied.entries

  few : t.flips ≤ serial_of (alone_by a).heap 0 + 1
  few = subst (λ (q : Plain). t.flips ≤ serial_of q.heap 0 + 1) now
      (lone_flips_are_few a.knows.plan sizes tasks front single whole sized legal (each_call WasDone p front many legal (subst (Each WasDone) (sym own_front) done)) entries)

  -- those in use after the call's last act
  abbrev later : Sizes
  later = h.acts.knows.stands.tallied.sizes

  -- all pages are in use
  all_in_use : size_now later t ≡ a.knows.plan.spaces.pages
  all_in_use =
      let s : AreSizesOf a.knows.plan later = subst (λ (q : Plan). AreSizesOf q later) h.waits.rests.plan
      (tallied_sizes h.last.knows.plan h.acts.knows.after h.acts.knows.stands.workers h.acts.knows.stands.log h.acts.knows.stands.tallied) in
      let least = s.least in
      let limit = s.limit in
      let some = h.filled.within.0 in
      let most = h.filled.within.1 in
      omega (arith, least, limit, some, most, whole)

  since : serial_of (alone_by a).heap 0 + 1 < 2 ^ 32 - 1 → t.since 0 ≡ true
  since small = by_flip h.filled.no_flip
    where
      by_flip : ((t.since (first_number a.knows.hands) ≡ true) × (size_now later t ≡ later.limit)) ⊎ (t.flips ≡ 2 ^ 32 - 1) → t.since 0 ≡ true
      by_flip (inl e) = ap t.since (sym zero_is) ∙ e.0
      by_flip (inr e) = let most = few in absurd (omega (arith, most, small, e))

  -- ---- what was claimed

  now_many : length t.now.mutators ≡ 1
  now_many = ap (λ (q : Plain). length q.mutators) (tally_now (opening_tally a.knows.plan) front) ∙ (as_many p front ∙ many)

  none_made : t.since 0 ≡ true → t.made ≡ 0
  none_made flipped = h.filled.single now_many (ap t.since zero_is ∙ flipped)

  -- nobody else makes a record
  none_next : made_next t.now (tasks_held h.acts.knows.stands.workers) (first_number a.knows.hands) [] ≡ 0
  none_next = sum_one (length t.now.mutators) (λ j. cond (j == first_number a.knows.hands) 0 (pages_by_task t.now j (next_task j [] (tasks_held h.acts.knows.stands.workers j)))) now_many
      (ap (λ (z : Bool). cond z 0 (pages_by_task t.now 0 (next_task 0 [] (tasks_held h.acts.knows.stands.workers 0)))) (eq-eqb 0 (first_number a.knows.hands) (sym zero_is)))

  -- ---- what was live

  one_maker : length (alone_by a).heap.records ≡ 1
  one_maker = makers p (alone_history own) ∙ (length-replicate {A = List Record} a.knows.plan.mutators [] ∙ single)

  live_is_small : t.since 0 ≡ true → live ≤ words_made (alone_by a).heap 0
  live_is_small flipped =
      let flip : t.flip ≡ alone_by a = lone_flips_are_now a.knows.plan front single makes_none legal flipped ∙ now in
      live_is_made (alone_by a) live one_maker (subst (λ (q : Plain). IsLive q live) flip h.filled.live_is)

  filled : serial_of (alone_by a).heap 0 + 1 < 2 ^ 32 - 1 → PAGE_WORDS * a.knows.plan.spaces.pages ≤ room + words_made (alone_by a).heap 0
  filled small =
      let flipped = since small in
      let less = live_is_small flipped in
      let none = none_made flipped in
      let alone_here = none_next in
      let claims = h.filled.for_records in
      let all = all_in_use in
      let fills = h.filled.filled in
      omega (arith, less, none, alone_here, claims, all, fills)

pub lone_fulls_are_filled : LoneFullsAreFilled
lone_fulls_are_filled a b i asked room live lone single whole zero_is done small h = filled a b i asked room live lone single whole zero_is done h small
