-- The gate and the checkpoints: at each passage but the one that clears the request nobody is still; and what is kept of checkpoints
-- stands after each of them, and after a flip.
use Rattle.std.proofs.Common.{◌≡◌, ◌≢◌, ℕ, ◌+◌, ◌<◌, Bool, ⊎_elim, true, false, Some, None, is_some, refl, sym, ap, ◌∙◌, arith}
use Rattle.std.proofs.lemmas.Bool.{cases_eq}
use Rattle.space_map.specs.declared.gate_word.GateWord.{GateWord}
use Rattle.heap_state.specs.Functions.{count_one, put}
use Rattle.heap_state.specs.Invariant.Ghost.{Ghost}
use Rattle.heap_state.specs.Invariant.Parts.Gate.{Counted}
use Rattle.heap_state.specs.Invariant.Parts.Knowledge.{Passes}
use Rattle.heap_state.specs.Memory.Entries.{GateIs}
use Rattle.heap_state.specs.Memory.Era.{era_of, memory_of}
use Rattle.heap_state.specs.Memory.Table.{Table}
use Rattle.heap_state.specs.Saving.Frozen.{Frozen}
use Rattle.heap_state.specs.Saving.Parts.{SavingStands}
use Rattle.heap_state.specs.Saving.Savers.{Saver}
use Rattle.heap_state.specs.Saving.Words.{Saves}
use Rattle.heap_state.specs.Known.{Known, Team, Post, Running, Snapping, Passage, Enter, Park, Request, RequestSnap, Clear, Forwarded, Resume, Leave, Reset, is_running, is_asking}
use Rattle.heap_state.proofs.Puts.{put_at, put_other, true_false}
use Rattle.heap_laws.specs.Answers.{IsCounted}
use Rattle.heap_laws.specs.Flipping.Flip.{Flips, flipped_gate, after_flip}
use Rattle.heap_laws.specs.Gate.{WinsGate, gate_after, worker_after}
use Rattle.heap_laws.specs.Lifting.{table_after}
use Rattle.heap_laws.specs.Saving.Rows.{NobodyIsStill, SparesGate, saver_after_flip}
use Rattle.heap_laws.specs.Saving.Snapping.{FollowPosts}
use Rattle.heap_laws.specs.Saving.Rounds.{saver_stopped}
use Rattle.heap_laws.specs.Saving.Sparing.{IsAstir, NobodyAsks, SomeoneRuns, SomeoneIsBehind, NobodyIsStillWhereAstir, IsPassed, PassagesAreSpared, saver_passed, PassagesFollowPosts, PassagesKeepSaving, FlippersKeepSaving, FlippersFollowPosts}
use Rattle.heap_laws.specs.Steps.{Ready}
use Rattle.heap_laws.proofs.Flipping.Sums.{sum_below-term, one_of}
use Rattle.heap_laws.proofs.Flipping.FlippedWorkers.{none_true}
use Rattle.heap_laws.proofs.Saving.Forgotten.{runs_keep_saving}
use Rattle.heap_laws.proofs.Saving.Requests.{runners_are_counted, askers_are_alone, requests_are_spared, runners_are_spared, clears_are_spared}
use Rattle.heap_laws.proofs.Saving.SavingWorkers.{none_if, steps_are_spared, settled_may_flip, flips_are_spared}
use Rattle.heap_laws.proofs.Steps.Answers.{passages_fit}
use Rattle.heap_laws.proofs.Gate.Passages.{same_epoch}

-- ---- nobody is still

module _ (t : Table) (s : Saves) (z : Frozen) (count : ℕ) (worker : ℕ → Known) (saver : ℕ → Saver) (stands : SavingStands t s z count saver)
    (counted : Counted t.gate count worker) (follow : FollowPosts count worker saver) where
  nobody_asks : t.gate.request ≡ false → (j : ℕ) → j < count → (saver j).asks ≡ false
  nobody_asks clear j j_in = none_true (saver j).asks (λ asks.
      let term = sum_below-term count (λ i. count_one (is_asking (worker i).post)) j j_in in
      let one = one_of (is_asking (worker j).post) (sym (follow.asks j j_in) ∙ asks) in
      let sum = counted.request in
      let none = ap count_one clear in
      absurd (omega (arith, term, one, sum, none)))

  where_clear : t.gate.request ≡ false → NobodyIsStill count saver
  where_clear clear j j_in = none_if (saver j).still (λ gate is.
      true_false (nobody_asks clear j j_in) ((stands.workers.each j j_in).still gate is).0)

  where_run : 0 < t.gate.running → NobodyIsStill count saver
  where_run some j j_in = none_if (saver j).still (λ gate is.
      let seen = (stands.workers.each j j_in).still gate is in
      let same = ap (λ (g : GateWord). g.running) seen.1 in
      let none = seen.2 in
      absurd (omega (arith, some, same, none)))

  where_astir : IsAstir t.gate → NobodyIsStill count saver
  where_astir (NobodyAsks clear) = where_clear clear
  where_astir (SomeoneRuns some) = where_run some
  where_astir (SomeoneIsBehind some) = where_clear (counted.still some).1

pub nobody_is_still_where_astir : NobodyIsStillWhereAstir
nobody_is_still_where_astir t s z count worker saver stands counted follow astir =
    where_astir t s z count worker saver stands counted follow astir

-- ---- passages

-- a gate from which a passage other than that is made
passes_astir : (post : Post) (epoch done : ℕ) (ended traced_seen : Bool) (gate : GateWord) (p : Passage) → Passes post epoch done ended traced_seen gate p → IsCounted gate p
    → p ≢ Clear → IsAstir gate
passes_astir post epoch done ended traced_seen gate Enter may some other = NobodyAsks may.1
passes_astir post epoch done ended traced_seen gate Park may some other = SomeoneRuns some
passes_astir post epoch done ended traced_seen gate Clear may some other = absurd (other refl)
passes_astir post epoch done ended traced_seen gate Forwarded may some other = SomeoneIsBehind some
passes_astir post epoch done ended traced_seen gate Leave may some other = SomeoneRuns some.1
passes_astir post epoch done ended traced_seen gate _ may some other = NobodyAsks may.2

pub passages_are_spared : PassagesAreSpared
passages_are_spared t s z team g saver k step stands ready follow wins other =
    let me = ready.invariant.workers k ready.member in
    let unchanged = wins.unchanged in
    let may : Passes (team.worker k).post (team.worker k).epoch (team.worker k).done (is_some (team.worker k).account.end) (team.worker k).traced_seen t.gate step.passage
    = rw unchanged (me.passage step wins.step) in
    let some = (passages_fit (era_of t) (memory_of t) team g k step.passage ready may).counted in
    let astir = passes_astir (team.worker k).post (team.worker k).epoch (team.worker k).done (is_some (team.worker k).account.end) (team.worker k).traced_seen t.gate step.passage may some other in
    record {
      epoch = same_epoch step.passage step.read ∙ ap (λ (gate : GateWord). gate.epoch) (sym unchanged);
      nobody = where_astir t s z team.count team.worker saver stands ready.invariant.counted follow astir;
    }

-- ---- what is kept after them

module _ (t : Table) (s : Saves) (z : Frozen) (count : ℕ) (saver : ℕ → Saver) (k : ℕ) (gate : GateWord) (stands : SavingStands t s z count saver)
    (in_team : k < count) (passed : IsPassed t count saver gate) where
  abbrev Kept : Saver → Type 0
  Kept w = SavingStands (table_after t (Some (GateIs gate))) s z count (put saver k w)

  stops : Kept (saver_stopped (saver k))
  stops = runs_keep_saving.stopped t s z count saver k (Some (GateIs gate)) stands in_team (SparesGate gate passed.epoch passed.nobody)

  stays : Kept (saver k)
  stays =
      steps_are_spared t s z count saver k (Some (GateIs gate)) (saver k) stands in_team (SparesGate gate passed.epoch passed.nobody)
      (stands.workers.each k in_team)
      (λ page c is. (stands.workers.savers page c k is).1)
      (λ g is. is)

  passes_on : (p : Passage) → p ≢ Clear → Kept (saver_passed p (saver k))
  passes_on Enter other = runners_are_spared t s z count saver k gate stands in_team passed.epoch passed.nobody
  passes_on Park other = stops
  passes_on (Request asked) other = requests_are_spared t s z count saver k gate stands in_team passed.epoch passed.nobody
  passes_on RequestSnap other = requests_are_spared t s z count saver k gate stands in_team passed.epoch passed.nobody
  passes_on Clear other = absurd (other refl)
  passes_on Forwarded other = stays
  passes_on Resume other = runners_are_spared t s z count saver k gate stands in_team passed.epoch passed.nobody
  passes_on Leave other = stops

module _ (t : Table) (s : Saves) (z : Frozen) (team : Team) (g : Ghost) (saver : ℕ → Saver) (k : ℕ) (stands : SavingStands t s z team.count saver)
    (ready : Ready (era_of t) (memory_of t) team g k) (follow : FollowPosts team.count team.worker saver) where
  alone : is_asking (team.worker k).post ≡ true → (j : ℕ) → j < team.count → j ≢ k → (saver j).asks ≡ false
  alone asks = askers_are_alone t.gate team.count team.worker saver k ready.invariant.counted follow ready.member (follow.asks k ready.member ∙ asks)

  other : (read : GateWord) (p : Passage) → WinsGate (memory_of t) team k (record { read = read; passage = p }) → p ≢ Clear
      → SavingStands (table_after t (Some (GateIs (gate_after p read)))) s z team.count (put saver k (saver_passed p (saver k)))
  other read p wins apart = passes_on t s z team.count saver k (gate_after p read) stands ready.member
      (passages_are_spared t s z team g saver k (record { read = read; passage = p }) stands ready follow wins apart) p apart

  -- each passage
  by_passage : (read : GateWord) (p : Passage) → WinsGate (memory_of t) team k (record { read = read; passage = p })
      → SavingStands (table_after t (Some (GateIs (gate_after p read)))) s z team.count (put saver k (saver_passed p (saver k)))
  by_passage read Clear wins =
      let me = ready.invariant.workers k ready.member in
      let post : (team.worker k).post ≡ Snapping = me.passage (record { read = read; passage = Clear }) wins.step in
      clears_are_spared t s z team.count saver k (gate_after Clear read) stands ready.member (ap (λ (gate : GateWord). gate.epoch) (sym wins.unchanged))
      (alone (ap is_asking post))
  by_passage read Enter wins = other read Enter wins (λ is. absurd (cc))
  by_passage read Park wins = other read Park wins (λ is. absurd (cc))
  by_passage read (Request asked) wins = other read (Request asked) wins (λ is. absurd (cc))
  by_passage read RequestSnap wins = other read RequestSnap wins (λ is. absurd (cc))
  by_passage read Forwarded wins = other read Forwarded wins (λ is. absurd (cc))
  by_passage read Resume wins = other read Resume wins (λ is. absurd (cc))
  by_passage read Leave wins = other read Leave wins (λ is. absurd (cc))

  flips : (r : Reset) → Flips (era_of t) team k r → (saver k).settled ≡ true → (saver k).still ≡ None
      → SavingStands (table_after t (Some (GateIs (flipped_gate r.read)))) s z team.count (put saver k (saver_after_flip (saver k)))
  flips r may settled loose =
      let reset = (ready.invariant.workers k ready.member).reset r may.reset in
      let same : t.gate ≡ r.read = reset.unmoved in
      let none : t.gate.running ≡ 0 = rw same reset.stopped.0 in
      flips_are_spared t s z team.count saver k (flipped_gate r.read) stands ready.member (ap (λ (gate : GateWord). gate.epoch + 1) (sym same))
      (settled_may_flip t s z team.count saver k stands ready.member settled loose
      (runners_are_counted t.gate team.count team.worker saver ready.invariant.counted follow none) (alone (ap is_asking may.post)))

pub passages_keep_saving : PassagesKeepSaving
passages_keep_saving t s z team g saver k step stands ready follow wins =
    by_passage t s z team g saver k stands ready follow step.read step.passage wins

pub flippers_keep_saving : FlippersKeepSaving
flippers_keep_saving t s z team g saver k r stands ready follow may settled loose =
    flips t s z team g saver k stands ready follow r may settled loose

-- ---- who runs and who holds the request

follow_put : (count : ℕ) (worker : ℕ → Known) (saver : ℕ → Saver) (k : ℕ) (v : Known) (w : Saver) → FollowPosts count worker saver → w.runs ≡ is_running v.post
    → w.asks ≡ is_asking v.post → FollowPosts count (put worker k v) (put saver k w)
follow_put count worker saver k v w follow runs asks = record {
  runs = λ j j_in. ⊎_elim
      (λ (same : j ≡ k). rw (put_at saver k w j same, put_at worker k v j same) runs)
      (λ (other : j ≢ k). rw (put_other saver k w j other, put_other worker k v j other) (follow.runs j j_in))
      (cases_eq j k);
  asks = λ j j_in. ⊎_elim
      (λ (same : j ≡ k). rw (put_at saver k w j same, put_at worker k v j same) asks)
      (λ (other : j ≢ k). rw (put_other saver k w j other, put_other worker k v j other) (follow.asks j j_in))
      (cases_eq j k);
}

-- who runs doesn't hold the request
runs_idle : (post : Post) → is_running post ≡ true → is_asking post ≡ false
runs_idle Running is = refl
runs_idle _ is = absurd (cc)

module _ (epoch : ℕ) (v : Known) (w : Saver) (runs : w.runs ≡ is_running v.post) (asks : w.asks ≡ is_asking v.post) where
  post_after : (read : GateWord) (p : Passage) → Passes v.post v.epoch v.done (is_some v.account.end) v.traced_seen read p
      → ((saver_passed p w).runs ≡ is_running (worker_after epoch p v).post) × ((saver_passed p w).asks ≡ is_asking (worker_after epoch p v).post)
  post_after read Enter may = (refl, asks ∙ ap is_asking may.0)
  post_after read Park may = (refl, asks ∙ runs_idle v.post may.0)
  post_after read (Request asked) may = (refl, refl)
  post_after read RequestSnap may = (refl, refl)
  post_after read Clear may = (runs ∙ ap is_running may, refl)
  post_after read Forwarded may = (runs, asks)
  post_after read Resume may = (refl, asks ∙ ap is_asking may.0)
  post_after read Leave may = (refl, asks ∙ runs_idle v.post may.0)

pub passages_follow_posts : PassagesFollowPosts
passages_follow_posts E m team g saver k step ready follow wins =
    let after = post_after step.read.epoch (team.worker k) (saver k) (follow.runs k ready.member) (follow.asks k ready.member) step.read step.passage
    ((ready.invariant.workers k ready.member).passage step wins.step) in
    follow_put team.count team.worker saver k (worker_after step.read.epoch step.passage (team.worker k)) (saver_passed step.passage (saver k)) follow after.0 after.1

pub flippers_follow_posts : FlippersFollowPosts
flippers_follow_posts E m team g saver k r ready follow may =
    follow_put team.count team.worker saver k (after_flip (team.worker k)) (saver_after_flip (saver k)) follow (follow.runs k ready.member ∙ ap is_running may.post) refl
