-- A checkpoint is finished: what is kept of checkpoints, and what each worker knows, after the exchange of DONE.
use Rattle.std.proofs.Common.{◌≡◌, ◌≢◌, ℕ, ◌+◌, ◌-◌, ◌<◌, ◌≤◌, inl, ⊎_elim, true, None, sym, ap, subst, ◌∙◌, arith}
use Rattle.std.proofs.lemmas.Bool.{cases_eq}
use Rattle.space_map.specs.declared.save_word.SaveWord.TheVariants.{Saving, Saved}
use Rattle.space_map.specs.SaveWord.{number_of}
use Rattle.space_map.specs.Spaces.{page_of}
use Rattle.heap_state.specs.Memory.Table.{Table}
use Rattle.heap_state.specs.Saving.Words.{Saves, IsInProgress}
use Rattle.heap_state.specs.Saving.Frozen.{Frozen, IsSafe, MayBeSaved}
use Rattle.heap_state.specs.Saving.Savers.{Saver, SaveRound}
use Rattle.heap_state.specs.Saving.Parts.{SavingWords, RecalledStands, SavesRound, KnowsSaving, SavingStands}
use Rattle.heap_laws.specs.Saving.Rows.{HasPassedAll, AllAreSaved, SparesNone}
use Rattle.heap_laws.specs.Saving.Rounds.{CheckpointsEnd}
use Rattle.heap_laws.proofs.Saving.Forgotten.{each_is_forgotten}
use Rattle.heap_laws.proofs.Saving.PassedRounds.{passed_rounds_have_saved}
use Rattle.heap_laws.proofs.Saving.Pages.Safe.{may_still, begins_still, reads_still, round_still}

saving≢saved : (a b k : ℕ) → Saving a k ≡ Saved b → ⊥
saving≢saved a b k is = absurd (cc)

module _ (t : Table) (s : Saves) (z : Frozen) (c : ℕ) (all : AllAreSaved s z c) where
  abbrev finished : Saves
  finished = record s { done = c }

  rests : c ≡ s.snap
  rests = sym all.runs.0

  never : {A : Type 0} → finished.done < finished.snap → A
  never runs = absurd (let is = rests in omega (arith, runs, is))

  runs_no_more : {A : Type 0} (d : ℕ) → IsInProgress finished d → A
  runs_no_more d runs = absurd (let is = rests in let snap = runs.0 in let done = runs.1 in omega (arith, is, snap, done))

  -- ---- pages that may be saved

  safe_still : (page d : ℕ) → IsSafe s z page d → IsSafe finished z page d
  unfolding IsSafe
  safe_still page d safe = ⊎_elim
      (λ (least : d ≤ number_of (s.save page)). inl least)
      (λ (runs : IsInProgress s d × (z.held page ≡ true)).
      let saved = all.saved page runs.1 in
      let same : d ≡ c = sym runs.0.0 ∙ all.runs.0 in
      inl (rw (saved, same) (omega arith)))
      safe

  may : (d epoch : ℕ) → MayBeSaved t s z d epoch → MayBeSaved t finished z d epoch
  may = may_still t s finished z z (omega arith) safe_still

  -- ---- the words

  words_finished : SavingWords t s z → SavingWords t finished z
  words_finished w = let is = rests in let below = w.order.2 in record {
    order = (omega (arith, is), omega (arith, is), below);
    young = w.young;
    within = w.within;
    traced = λ runs. never runs;
    opened = λ runs. never runs;
    old = λ runs. never runs;
    unsaved = λ runs. never runs;
    saved = λ runs. never runs;
    done = λ is_at x held.
        let snap = all.runs.0 in
        let done = all.runs.1 in
        w.saved (omega (arith, snap, done)) x held (rw snap (all.saved (page_of x) held));
    ran = λ runs. never runs;
  }

  -- ---- what a worker knows

  recalls_finished : (w : Saver) → RecalledStands t s z w → RecalledStands t finished z w
  recalls_finished w r = record {
    runs = r.runs;
    snap = r.snap;
    none = λ read zero. rests;
    one = λ some. let one = r.one some in (one.0, one.1, may w.running t.gate.epoch one.2);
  }

  knows_finished : (k : ℕ) (w : Saver) → KnowsSaving t s z k w → KnowsSaving t finished z k w
  knows_finished k w knows = record {
    recalls = λ is. recalls_finished w (knows.recalls is);
    settles = λ is. let was = knows.settles is in record { alive = was.alive; snap = was.snap; rests = rests; traced = was.traced };
    still = knows.still;
    guarded = λ page is. let was = knows.guarded page is in record { recalled = was.recalled; says = was.says };
    marked = knows.marked;
    begins = λ step is won. begins_still t s finished z z (omega arith) safe_still step (knows.begins step is won);
    saves = λ step is won.
        let was = knows.saves step is won in
        absurd (saving≢saved step.number c k (sym was.own ∙ all.saved step.page was.held));
    reads = reads_still t s finished z z (omega arith) safe_still w.reads (λ d epoch same now. inl same) knows.reads;
    round = λ r is. round_still t s finished z z (omega arith) safe_still r (runs_no_more r.number) (λ free. runs_no_more r.number) (knows.round r is);
  }

  stands_finished : (count : ℕ) (saver : ℕ → Saver) → SavingStands t s z count saver → SavingStands t finished z count saver
  stands_finished count saver stands = record {
    words = words_finished stands.words;
    workers = record { savers = stands.workers.savers; each = λ k in_team. knows_finished k (saver k) (stands.workers.each k in_team) };
  }

-- ---- the exchange

-- a checkpoint 0 is finished already
none_finished : (s : Saves) (c : ℕ) → s.done ≡ c - 1 → c ≡ 0 → s ≡ record s { done = c }
none_finished s c done zero = let is : s.done ≡ c = omega (arith, done, zero) in ap (λ d. record s { done = d }) is

stands_after : (t : Table) (s : Saves) (z : Frozen) (count : ℕ) (saver : ℕ → Saver) (r : SaveRound) → SavingStands t s z count saver → SavesRound t s z r
    → HasPassedAll t.pages r → s.done ≡ r.number - 1 → SavingStands t (record s { done = r.number }) z count saver
stands_after t s z count saver r stands saves all done = ⊎_elim
    (λ (zero : r.number ≡ 0). subst (λ x. SavingStands t x z count saver) (none_finished s r.number done zero) stands)
    (λ (some : r.number ≢ 0).
    let is : s.done + 1 ≡ r.number = omega (arith, done, some) in
    stands_finished t s z r.number (passed_rounds_have_saved t s z r stands.words saves all is) count saver stands)
    (cases_eq r.number 0)

pub checkpoints_end : CheckpointsEnd
checkpoints_end t s z count saver k r stands in_team round all done =
    let after = stands_after t s z count saver r stands ((stands.workers.each k in_team).round r round) all done in
    each_is_forgotten.after_round t (record s { done = r.number }) z count saver k None after in_team SparesNone
