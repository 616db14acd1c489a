-- A worker that is given a task leaves what is counted.
use Rattle.std.proofs.Common.{◌≡◌, ◌≢◌, ℕ, ◌<◌, ◌≤◌, inl, inr, List, [], length, true, false, Some, None, refl, sym, ap, subst, ◌∙◌, arith, ⊎_elim, append-nil, get_or-set_same, get_or-set_other, length-set}
use Rattle.std.proofs.lemmas.Bool.{cases_eq}
use Rattle.heap_state.specs.Functions.{sum_below}
use Rattle.heap_state.proofs.Puts.{sum_below-same}
use Rattle.gate_core.specs.declared.passage.Passage.{Passage}
use Rattle.gate_core.specs.declared.passage.Passage.TheVariants.{Request}
use Rattle.page_saves.specs.SaveRound.{SavingRound}
use Rattle.gc_worker.specs.declared.stage.after.After.{After}
use Rattle.gc_worker.specs.declared.stage.after.After.TheVariants as afters
use Rattle.gc_worker.specs.declared.stage.goal.Goal.{Goal}
use Rattle.gc_worker.specs.declared.stage.goal.Goal.TheVariants.{ForFlip, ForSnap, ForScanner}
use Rattle.gc_worker.specs.declared.stage.Stage.{Stage}
use Rattle.gc_worker.specs.declared.stage.Stage.TheVariants.{Looks, Passes, Flips, Places, Checkpoints}
use Rattle.gc_worker.specs.declared.task.Task.{Task}
use Rattle.gc_worker.specs.Workers.Begun.{IsPastLook}
use Rattle.gc_worker.specs.Laws.Between.{Begins, with_task, with_worker}
use Rattle.gc_worker.specs.Laws.Cycles.{IsFirst, IsFirstAt, IsFirstBy, IsInCall, set_aside, set_aside_at, size_of, snaps_at}
use Rattle.gc_worker.specs.Workers.Held.{Held}
use Rattle.gc_worker.specs.Laws.Step.{Heap, held_at, nobody}
use Rattle.heap_state.specs.Known.{Account}
use Rattle.gc_worker.specs.declared.calls.entry.Entry.{Entry}
use Rattle.gc_worker.specs.History.Tally.{EachEntry, EntryIs, IsTallied, Tally, aside_in, tally, tasks_held}
use Rattle.gc_worker.proofs.History.Counted.Tallies.{entries_on}

-- all but the task is as it was, and a task stays
record IsBut (was now : Held) : Type 0 where
  first : (n : ℕ) (words : List ℕ) → IsFirst n words was → IsFirst n words now
  stage : now.stage ≡ was.stage
  account : now.account ≡ was.account
  begun : now.begun ≡ was.begun
  task : (task : Task) → was.task ≡ Some task → now.task ≡ Some task

first_request : (n size : ℕ) (x : Held) (task : Task) (after : After) → IsFirstBy n size x Request after → IsFirstBy n size (with_task x task) Request after
first_request n size x task afters.Places f = f
first_request n size x task afters.Looks f = tt
first_request n size x task afters.Snaps f = tt

first_passage : (n size : ℕ) (x : Held) (task : Task) (passage : Passage) (after : After) → IsFirstBy n size x passage after → IsFirstBy n size (with_task x task) passage after
first_passage n size x task Request after f = first_request n size x task after f
first_passage n size x task _ after f = tt

first_round : (n size : ℕ) (x : Held) (task : Task) (r : SavingRound) (goal : Goal) → IsFirstAt n size x (Checkpoints r goal) → IsFirstAt n size (with_task x task) (Checkpoints r goal)
first_round n size x task r ForFlip f = f
first_round n size x task r ForSnap f = tt
first_round n size x task r ForScanner f = tt

first_given : (n size : ℕ) (x : Held) (task : Task) (stage : Stage) → IsFirstAt n size x stage → IsFirstAt n size (with_task x task) stage
first_given n size x task (Passes g after) f = first_passage n size x task g.passage after f
first_given n size x task (Flips g) f = f
first_given n size x task (Checkpoints r goal) f = first_round n size x task r goal f
first_given n size x task _ f = tt

is_but : (was now : Held) → Begins was now → IsBut was now
is_but was now (inl same) = record {
  first = λ n words. subst (IsFirst n words) (sym same);
  stage = ap (λ (x : Held). x.stage) same;
  account = ap (λ (x : Held). x.account) same;
  begun = ap (λ (x : Held). x.begun) same;
  task = λ task is. ap (λ (x : Held). x.task) same ∙ is;
}
is_but was now (inr given) = record {
  first = λ n words f. subst (IsFirst n words) (sym given.2) (first_given n (size_of n words) was given.0 was.stage f);
  stage = ap (λ (x : Held). x.stage) given.2;
  account = ap (λ (x : Held). x.account) given.2;
  begun = ap (λ (x : Held). x.begun) given.2;
  task = λ task is. absurd (let none : None ≡ Some task = sym given.1 ∙ is in cc);
}

module _ (h : Heap) (k : ℕ) (now : Held) (below : k < length h.workers) (begins : Begins (held_at h k) now) (least : ℕ) (first : Tally) (log : List Entry) (b : IsTallied least h first log) where
  abbrev after : Heap
  after = with_worker h k now

  -- each worker is as it was but for its task
  all_but : (j : ℕ) → IsBut (held_at h j) (held_at after j)
  all_but j = ⊎_elim
      (λ (same : j ≡ k). subst (λ (i : ℕ). IsBut (held_at h i) (held_at after i)) (sym same)
      (subst (IsBut (held_at h k)) (sym (get_or-set_same h.workers k now nobody below)) (is_but (held_at h k) now begins)))
      (λ (other : j ≢ k). subst (IsBut (held_at h j)) (sym (get_or-set_other h.workers k j now nobody other)) (is_but (held_at h j) (held_at h j) (inl refl)))
      (cases_eq j k)

  same_aside : aside_in after ≡ aside_in h
  same_aside =
      ap (λ (n : ℕ). sum_below n (λ j. set_aside (held_at after j))) (length-set h.workers k now)
      ∙ sum_below-same (length h.workers) (λ j. set_aside (held_at after j)) (λ j. set_aside (held_at h j)) (λ j inside. ap set_aside_at (all_but j).stage)

  abbrev t : Tally
  t = tally first log

  since : (m : ℕ) → m < h.mutators → (held_at after m).account.end ≡ None → IsPastLook (held_at after m).stage → (held_at after m).begun < t.flips → t.since m ≡ true
  since m few none past early =
      let same = all_but m in
      b.counts.since m few (ap (λ (a : Account). a.end) (sym same.account) ∙ none) (subst IsPastLook same.stage past) (subst (λ (begun : ℕ). begun < t.flips) same.begun early)

  begun : (m : ℕ) → m < h.mutators → (held_at after m).account.end ≡ None → IsPastLook (held_at after m).stage → (held_at after m).begun ≤ t.flips
  begun m few none past =
      let same = all_but m in
      subst (λ (begun : ℕ). begun ≤ t.flips) (sym same.begun) (b.counts.begun m few (ap (λ (a : Account). a.end) (sym same.account) ∙ none) (subst IsPastLook same.stage past))

  call : (m : ℕ) → t.asked m ≡ true → IsInCall (held_at after m).stage × ((held_at after m).begun < t.flips) × (snaps_at (held_at after m).stage ≡ false)
  call m has =
      let same = all_but m in
      let was = b.counts.call m has in
      (subst IsInCall (sym same.stage) was.0, subst (λ (begun : ℕ). begun < t.flips) (sym same.begun) was.1, ap snaps_at same.stage ∙ was.2)

  pub task_tallied : IsTallied least after first log
  task_tallied = record {
    sizes = b.sizes;
    began = b.began;
    entries = subst (EachEntry (EntryIs b.sizes (tasks_held after.workers)) first) (append-nil log)
        (entries_on (tasks_held h.workers) (tasks_held after.workers) [] b.sizes b.sizes.in_use t.flips (λ e most. refl) (λ j task is. (all_but j).task task is) first log (omega arith) b.entries tt);
    counts = record {
      limit = b.counts.limit;
      size = b.counts.size;
      least = b.counts.least;
      claims = b.counts.claims;
      low = b.counts.low;
      for_records = (let was = b.counts.for_records in let same = same_aside in omega (arith, was, same));
      none_made = b.counts.none_made;
      epoch = b.counts.epoch;
      begun = begun;
      since = since;
      first = λ m inside. (all_but m).first h.pages h.words (b.counts.first m (let same = length-set h.workers k now in omega (arith, inside, same)));
      call = call;
    };
  }
