-- Workers: one becomes another, all keep what they know at a flip, and before the first checkpoint nobody knows of one.
use Rattle.std.proofs.Common.{◌≡◌, ◌≢◌, ℕ, ◌+◌, ◌<◌, ⊎_elim, Bool, true, false, Option, Some, None, refl, sym, subst, ◌∙◌, arith}
use Rattle.std.proofs.lemmas.Bool.{cases_Bool, cases_eq}
use Rattle.space_map.specs.declared.gate_word.GateWord.{GateWord}
use Rattle.space_map.specs.Spaces.{page_of}
use Rattle.space_map.specs.declared.save_word.SaveWord.TheVariants.{Unsaved, Saving}
use Rattle.heap_state.specs.Functions.{put}
use Rattle.heap_state.specs.Memory.Entries.{Entry}
use Rattle.heap_state.specs.Memory.Table.{Table}
use Rattle.heap_state.specs.Saving.Words.{Saves, IsAtRest}
use Rattle.heap_state.specs.Saving.Frozen.{Frozen, MayBeSaved}
use Rattle.heap_state.specs.Saving.Savers.{Saver, SaveRound, FirstReads, NoReads, GateRead, SnapRead, DoneRead}
use Rattle.heap_state.specs.Saving.Parts.{SavingWords, Settles, ReadsTell, SavesRound, KnowsSaving, HasWonSave}
use Rattle.heap_state.proofs.Puts.{each_put, team_put, true_false, none≢some}
use Rattle.heap_laws.specs.Saving.Rows.{NobodyIsStill, Spares, SparesNone, SparesCross, SparesAnnounce, SparesArea, SparesWeak, SparesWeakTurn, SparesSize, SparesWord, SparesPage, SparesTraced, SparesGate, SaverChanges, StepsAreSpared, SettledMayFlip, FlipsAreSpared, saver_after_flip, KnowsNothing, SavesOpen}
use Rattle.heap_laws.proofs.Saving.SparedRows.{rows_are_spared}

pub saver_changes : SaverChanges
saver_changes t s z count saver k w stands in_team knows own = record {
  words = stands.words;
  workers = record {
    savers = λ page c j is.
        let was = stands.workers.savers page c j is in
        (was.0, each_put (λ j x. HasWonSave x page c) saver k w j (λ other. was.1) (λ same. own page c (rw same at is)));
    each = team_put count (KnowsSaving t s z) saver k w (λ j j_in other. stands.workers.each j j_in) knows;
  };
}

-- ---- a worker that has the same

-- a won save that another worker has too
pub has_won_as : (v w : Saver) (page c : ℕ) → w.save ≡ v.save → HasWonSave v page c → HasWonSave w page c
has_won_as v w page c same won = record { step = won.step; is = same ∙ won.is; won = won.won; page = won.page; number = won.number }

-- what a worker knows that differs in what it has by the request alone
pub asker_knows : (t : Table) (s : Saves) (z : Frozen) (k : ℕ) (w : Saver) → KnowsSaving t s z k w → (asks settled : Bool) (still : Option GateWord)
    → (settled ≡ true → Settles t s (record w { asks = asks; settled = settled; still = still }))
    → ((gate : GateWord) → still ≡ Some gate → (asks ≡ true) × (t.gate ≡ gate) × (gate.running ≡ 0))
    → KnowsSaving t s z k (record w { asks = asks; settled = settled; still = still })
asker_knows t s z k w knows asks settled still settles stands = record {
  recalls = λ is. let was = knows.recalls is in record { runs = was.runs; snap = was.snap; none = was.none; one = was.one };
  settles = settles;
  still = stands;
  guarded = λ page is. let was = knows.guarded page is in record { recalled = was.recalled; says = was.says };
  marked = knows.marked;
  begins = knows.begins;
  saves = knows.saves;
  reads = knows.reads;
  round = knows.round;
}

-- ---- a step

pub none_if : {X : Type 0} (o : Option X) → ((x : X) → o ≡ Some x → ⊥) → o ≡ None
none_if None never = refl
none_if (Some x) never = absurd (never x refl)

-- the row spares them all the same if worker k becomes one that isn't still unless it was
module _ (t : Table) (s : Saves) (z : Frozen) (count : ℕ) (saver : ℕ → Saver) (k : ℕ) (w : Saver)
    (still : (gate : GateWord) → w.still ≡ Some gate → (saver k).still ≡ Some gate) where
  nobody_after : NobodyIsStill count saver → NobodyIsStill count (put saver k w)
  nobody_after nobody j in_team = each_put (λ i (x : Saver). x.still ≡ None) saver k w j (λ other. nobody j in_team)
      (λ same. none_if w.still (λ gate is. none≢some (sym (rw same at (nobody j in_team)) ∙ still gate is)))

  spares_after : (e : Option Entry) → Spares t s z count saver e → Spares t s z count (put saver k w) e
  spares_after _ SparesNone = SparesNone
  spares_after _ (SparesCross page place) = SparesCross page place
  spares_after _ (SparesAnnounce worker place) = SparesAnnounce worker place
  spares_after _ (SparesArea space area) = SparesArea space area
  spares_after _ (SparesWeak word) = SparesWeak word
  spares_after _ (SparesWeakTurn word) = SparesWeakTurn word
  spares_after _ (SparesSize space pages) = SparesSize space pages
  spares_after _ (SparesWord addr word saved) = SparesWord addr word saved
  spares_after _ (SparesPage page word loose opens) = SparesPage page word loose opens
  spares_after _ (SparesTraced word untraced is) = SparesTraced word untraced is
  spares_after _ (SparesGate gate same nobody) = SparesGate gate same (nobody_after nobody)

pub steps_are_spared : StepsAreSpared
steps_are_spared t s z count saver k e w stands in_team spares knows own still =
    rows_are_spared t s z count (put saver k w) e (saver_changes t s z count saver k w stands in_team knows own) (spares_after t s z count saver k w still e spares)

-- ---- the flip

pub settled_may_flip : SettledMayFlip
settled_may_flip t s z count saver k stands in_team settled loose nobody_runs nobody_asks = record {
  rests = ((stands.workers.each k in_team).settles settled).rests;
  recalled = λ j j_in. ⊎_elim
      (λ (is : (saver j).recalled ≡ true). true_false (nobody_runs j j_in) ((stands.workers.each j j_in).recalls is).runs)
      (λ (is : (saver j).recalled ≡ false). is)
      (cases_Bool (saver j).recalled);
  settled = λ j j_in other. ⊎_elim
      (λ (is : (saver j).settled ≡ true). ⊎_elim
      (λ (runs : (saver j).runs ≡ true). true_false (nobody_runs j j_in) runs)
      (λ (asks : (saver j).asks ≡ true). true_false (nobody_asks j j_in other) asks)
      ((stands.workers.each j j_in).settles is).alive)
      (λ (is : (saver j).settled ≡ false). is)
      (cases_Bool (saver j).settled);
  still = λ j j_in. ⊎_elim
      (λ (same : j ≡ k). rw same loose)
      (λ (other : j ≢ k). none_if (saver j).still (λ gate is. true_false (nobody_asks j j_in other) ((stands.workers.each j j_in).still gate is).0))
      (cases_eq j k);
}

module _ (t : Table) (s : Saves) (z : Frozen) (gate : GateWord) (next : gate.epoch ≡ t.gate.epoch + 1) (rests : IsAtRest s) where
  abbrev flipped : Table
  flipped = record t { gate = gate }

  words_after_flip : SavingWords t s z → SavingWords flipped s z
  words_after_flip w = record {
    order = w.order;
    young = w.young;
    within = w.within;
    traced = λ runs. absurd (omega (arith, runs, rests));
    opened = λ runs. absurd (omega (arith, runs, rests));
    old = w.old;
    unsaved = w.unsaved;
    saved = w.saved;
    done = w.done;
    ran = λ runs. absurd (omega (arith, runs, rests));
  }

  may_still : (c v : ℕ) → MayBeSaved t s z c v → MayBeSaved flipped s z c v
  unfolding MayBeSaved
  may_still c v may = may

  reads_after_flip : (r : FirstReads) → ReadsTell t s z r → ReadsTell flipped s z r
  reads_after_flip NoReads tell = tt
  reads_after_flip (GateRead v) tell = omega (arith, tell, next)
  reads_after_flip (SnapRead v c) tell = let past = tell.0 in (omega (arith, past, next), tell.1, λ now. absurd (omega (arith, past, next, now)))
  reads_after_flip (DoneRead v c) tell = let past = tell.0 in (omega (arith, past, next), tell.1, λ now. absurd (omega (arith, past, next, now)))

  round_after_flip : (r : SaveRound) → SavesRound t s z r → SavesRound flipped s z r
  round_after_flip r saves = let past = saves.begun.1 in record {
    begun = (saves.begun.0, omega (arith, past, next));
    traced = λ now. absurd (omega (arith, past, next, now));
    runs = λ runs. absurd (let snap = runs.0 in let done = runs.1 in omega (arith, snap, done, rests));
    pages = may_still r.number r.epoch saves.pages;
    opened = saves.opened;
    passed = saves.passed;
  }

  -- a worker that has recalled no checkpoint, isn't settled and isn't still
  knows_after_flip : (k : ℕ) (w : Saver) → w.recalled ≡ false → w.settled ≡ false → w.still ≡ None → KnowsSaving t s z k w → KnowsSaving flipped s z k w
  knows_after_flip k w not_recalled not_settled not_still knows = record {
    recalls = λ is. true_false not_recalled is;
    settles = λ is. true_false not_settled is;
    still = λ g is. none≢some (sym not_still ∙ is);
    guarded = knows.guarded;
    marked = knows.marked;
    begins = knows.begins;
    saves = knows.saves;
    reads = reads_after_flip w.reads knows.reads;
    round = λ r is. round_after_flip r (knows.round r is);
  }

pub flips_are_spared : FlipsAreSpared
flips_are_spared t s z count saver k gate stands in_team next may =
    let after : (j : ℕ) → j < count → j ≢ k → KnowsSaving (record t { gate = gate }) s z j (saver j) = λ j j_in other.
    knows_after_flip t s z gate next may.rests j (saver j) (may.recalled j j_in) (may.settled j j_in other) (may.still j j_in) (stands.workers.each j j_in) in
    let own = asker_knows t s z k (saver k) (stands.workers.each k in_team) false false (saver k).still
    (λ is. true_false refl is) (λ g is. none≢some (sym (may.still k in_team) ∙ is)) in
    record {
      words = words_after_flip t s z gate next may.rests stands.words;
      workers = record {
        savers = λ page c j is.
            let was = stands.workers.savers page c j is in (
              was.0,
              each_put (λ j x. HasWonSave x page c) saver k (saver_after_flip (saver k)) j (λ other. was.1)
                  (λ same. has_won_as (saver k) (saver_after_flip (saver k)) page c refl (rw same at was.1)),
            );
        each = team_put count (KnowsSaving (record t { gate = gate }) s z) saver k (saver_after_flip (saver k)) after
            (knows_after_flip t s z gate next may.rests k (saver_after_flip (saver k)) (may.recalled k in_team) refl (may.still k in_team) own);
      };
    }

-- ---- the opening

unsaved≢saving : (c k : ℕ) → Unsaved ≡ Saving c k → ⊥
unsaved≢saving c k is = absurd (cc)

-- who knows nothing knows nothing wrong
pub knows_nothing : (t : Table) (s : Saves) (z : Frozen) (k : ℕ) (w : Saver) → KnowsNothing w → KnowsSaving t s z k w
knows_nothing t s z k w nothing = record {
  recalls = λ is. true_false nothing.recalled is;
  settles = λ is. true_false nothing.settled is;
  still = λ gate is. none≢some (sym nothing.still ∙ is);
  guarded = λ page is. none≢some (sym nothing.guarded ∙ is);
  marked = λ page is. none≢some (sym nothing.marked ∙ is);
  begins = λ v is. none≢some (sym nothing.save ∙ is);
  saves = λ v is. none≢some (sym nothing.save ∙ is);
  reads = subst (ReadsTell t s z) (sym nothing.reads) tt;
  round = λ r is. none≢some (sym nothing.round ∙ is);
}

pub saves_open : SavesOpen
saves_open t s z count saver none nobody =
    let first = none.snap in
    let last = none.done in
    record {
      words = record {
        order = (omega (arith, first, last), omega (arith, first, last), omega (arith, first));
        young = λ page. rw (none.save page) (omega arith);
        within = λ page held. true_false (none.held page) held;
        traced = λ runs. absurd (omega (arith, runs, first));
        opened = λ runs. absurd (omega (arith, runs, first));
        old = λ runs. absurd (omega (arith, runs, first));
        unsaved = λ runs. absurd (omega (arith, runs, first));
        saved = λ runs. absurd (omega (arith, runs, first));
        done = λ rests x held. true_false (none.held (page_of x)) held;
        ran = λ runs. absurd (omega (arith, runs, first));
      };
      workers = record {
        savers = λ page c k is. absurd (unsaved≢saving c k (sym (none.save page) ∙ is));
        each = λ k in_team. knows_nothing t s z k (saver k) (nobody k in_team);
      };
    }
