-- A worker that knows less of checkpoints than before, and mutators that begin to run and stop.
use Rattle.std.proofs.Common.{◌≡◌, ℕ, ◌⊎◌, inl, inr, ⊎_elim, Bool, true, false, Option, Some, None, refl, sym, subst, ◌∙◌}
use Rattle.heap_state.specs.Memory.Table.{Table}
use Rattle.heap_state.specs.Saving.Words.{Saves}
use Rattle.heap_state.specs.Saving.Frozen.{Frozen}
use Rattle.heap_state.specs.Saving.Savers.{Saver, SaveRound, FirstReads, NoReads}
use Rattle.heap_state.specs.Saving.Parts.{RecalledStands, Guarded, ReadsTell, KnowsSaving}
use Rattle.heap_state.proofs.Puts.{true_false, none≢some}
use Rattle.heap_laws.specs.Saving.Snapping.{saver_after_request, saver_running}
use Rattle.heap_laws.specs.Saving.Rounds.{KnowsNoMore, SaversForget, KeepsSavingAs, RunsKeepSaving, saver_stopped, EachIsForgotten, saver_unsettled, saver_unguarded, saver_unmarked, saver_after_reads, saver_after_round}
use Rattle.heap_laws.proofs.Saving.SavingWorkers.{has_won_as, steps_are_spared}

-- ---- by parts

-- a reading that another worker has too
pub recalls_as : (t : Table) (s : Saves) (z : Frozen) (v w : Saver) → w.runs ≡ true → w.reads_done ≡ v.reads_done → w.snap ≡ v.snap → w.running ≡ v.running
    → RecalledStands t s z v → RecalledStands t s z w
recalls_as t s z v w runs reads_done snap running r = record {
  runs = runs;
  snap = snap ∙ r.snap;
  none = λ read zero. r.none (sym reads_done ∙ read) (sym running ∙ zero);
  one = rw running r.one;
}

-- ---- less

module _ (t : Table) (s : Saves) (z : Frozen) (k : ℕ) (v w : Saver) (less : KnowsNoMore w v) (knows : KnowsSaving t s z k v) where
  guarded_still : (page : ℕ) → w.guarded ≡ Some page → Guarded s w page
  guarded_still page is =
      let has = less.guarded page is in
      let was = knows.guarded page has.0 in
      let same = (less.recalled has.1).4 in
      record { recalled = (has.1, rw same was.recalled.1); says = rw same was.says }

  pub knows_no_more : KnowsSaving t s z k w
  knows_no_more = record {
    recalls = λ is. let has = less.recalled is in recalls_as t s z v w has.1 has.2 has.3 has.4 (knows.recalls has.0);
    settles = λ is.
        let has = less.settled is in
        let was = knows.settles has.0 in
        record { alive = has.2; snap = has.1 ∙ was.snap; rests = was.rests; traced = was.traced };
    still = λ gate is. let has = less.still gate is in let was = knows.still gate has.0 in (has.1, was.1, was.2);
    guarded = guarded_still;
    marked = λ page is. let has = less.marked page is in (has.1, (knows.marked page has.0).1);
    begins = λ step is. knows.begins step (sym less.save ∙ is);
    saves = λ step is. knows.saves step (sym less.save ∙ is);
    reads = ⊎_elim
        (λ (none : w.reads ≡ NoReads). subst (ReadsTell t s z) (sym none) tt)
        (λ (same : w.reads ≡ v.reads). subst (ReadsTell t s z) (sym same) knows.reads)
        less.reads;
    round = λ r is. knows.round r (less.round r is);
  }

pub savers_forget : SaversForget
savers_forget t s z count saver k e w stands in_team spares less = steps_are_spared t s z count saver k e w stands in_team spares
    (knows_no_more t s z k (saver k) w less (stands.workers.each k in_team))
    (λ page c is. has_won_as (saver k) w page c less.save (stands.workers.savers page c k is).1)
    (λ gate is. (less.still gate is).0)

-- what it becomes by a store that spares the checkpoints, if it knows no more by that
keeps_as : (next : Saver → Saver) → ((t : Table) (s : Saves) (z : Frozen) (k : ℕ) (v : Saver) → KnowsSaving t s z k v → KnowsNoMore (next v) v)
    → KeepsSavingAs next
keeps_as next less t s z count saver k e stands in_team spares =
    let knows = stands.workers.each k in_team in
    savers_forget t s z count saver k e (next (saver k)) stands in_team spares (less t s z k (saver k) knows)

-- ---- one thing that is forgotten

module _ (t : Table) (s : Saves) (z : Frozen) (k : ℕ) (v : Saver) (knows : KnowsSaving t s z k v) where
  -- a worker that runs or asks as before, with what it was settled by, looked at, marked, read and passed, or less
  less_with : (settled : Bool) (guarded marked : Option ℕ) (reads : FirstReads) (round : Option SaveRound) → (settled ≡ true → v.settled ≡ true)
      → ((page : ℕ) → guarded ≡ Some page → v.guarded ≡ Some page) → ((page : ℕ) → marked ≡ Some page → v.marked ≡ Some page)
      → (reads ≡ NoReads) ⊎ (reads ≡ v.reads) → ((r : SaveRound) → round ≡ Some r → v.round ≡ Some r)
      → KnowsNoMore (record v { settled = settled; guarded = guarded; marked = marked; reads = reads; round = round }) v
  less_with settled guarded marked reads round settles guards marks tells rounds = record {
    recalled = λ is. (is, (knows.recalls is).runs, refl, refl, refl);
    settled = λ is. (settles is, refl, (knows.settles (settles is)).alive);
    still = λ gate is. (is, (knows.still gate is).0);
    guarded = λ page is. (guards page is, (knows.guarded page (guards page is)).recalled.0);
    marked = λ page is. (marks page is, (knows.marked page (marks page is)).0);
    save = refl;
    reads = tells;
    round = rounds;
  }

  unsettled : KnowsNoMore (saver_unsettled v) v
  unsettled = less_with false v.guarded v.marked v.reads v.round (λ is. true_false refl is) (λ page is. is) (λ page is. is) (inr refl) (λ r is. is)

  unguarded : KnowsNoMore (saver_unguarded v) v
  unguarded = less_with v.settled None v.marked v.reads v.round (λ is. is) (λ page is. none≢some is) (λ page is. is) (inr refl) (λ r is. is)

  unmarked : KnowsNoMore (saver_unmarked v) v
  unmarked = less_with v.settled v.guarded None v.reads v.round (λ is. is) (λ page is. is) (λ page is. none≢some is) (inr refl) (λ r is. is)

  after_reads : KnowsNoMore (saver_after_reads v) v
  after_reads = less_with v.settled v.guarded v.marked NoReads v.round (λ is. is) (λ page is. is) (λ page is. is) (inl refl) (λ r is. is)

  after_round : KnowsNoMore (saver_after_round v) v
  after_round = less_with v.settled v.guarded v.marked v.reads None (λ is. is) (λ page is. is) (λ page is. is) (inr refl) (λ r is. none≢some is)

  -- ---- a mutator begins to run, and stops

  begun : KnowsNoMore (saver_running v) v
  begun = record {
    recalled = λ is. (is, refl, refl, refl, refl);
    settled = λ is. (is, refl, inl refl);
    still = λ gate is. (is, (knows.still gate is).0);
    guarded = λ page is. (is, (knows.guarded page is).recalled.0);
    marked = λ page is. (is, (knows.marked page is).0);
    save = refl;
    reads = inr refl;
    round = λ r is. is;
  }

  stopped : KnowsNoMore (saver_stopped v) v
  stopped = record {
    recalled = λ is. true_false refl is;
    settled = λ is. true_false refl is;
    still = λ gate is. (is, (knows.still gate is).0);
    guarded = λ page is. none≢some is;
    marked = λ page is. none≢some is;
    save = refl;
    reads = inr refl;
    round = λ r is. is;
  }

  asking : KnowsNoMore (saver_after_request v) v
  asking = record {
    recalled = λ is. true_false refl is;
    settled = λ is. (is, refl, inr refl);
    still = λ gate is. (is, refl);
    guarded = λ page is. none≢some is;
    marked = λ page is. none≢some is;
    save = refl;
    reads = inr refl;
    round = λ r is. is;
  }

pub each_is_forgotten : EachIsForgotten
each_is_forgotten = record {
  unsettled = keeps_as saver_unsettled unsettled;
  unguarded = keeps_as saver_unguarded unguarded;
  unmarked = keeps_as saver_unmarked unmarked;
  after_reads = keeps_as saver_after_reads after_reads;
  after_round = keeps_as saver_after_round after_round;
}

pub runs_keep_saving : RunsKeepSaving
runs_keep_saving = record {
  begun = keeps_as saver_running begun;
  stopped = keeps_as saver_stopped stopped;
  asking = keeps_as saver_after_request asking;
}
