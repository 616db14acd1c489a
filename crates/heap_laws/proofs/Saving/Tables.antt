-- A change of the table that leaves what is kept of checkpoints: in the words, and in what a worker knows.
use Rattle.std.proofs.Common.{◌≡◌, ◌≢◌, ℕ, ◌+◌, ◌<◌, ◌≤◌, ◌⊎◌, inl, inr, ⊎_elim, true, Some, refl, sym, subst, ◌∙◌, arith}
use Rattle.std.proofs.lemmas.Bool.{cases_eq}
use Rattle.space_map.specs.declared.page_word.PageWord.TheVariants.{Open}
use Rattle.space_map.specs.declared.save_word.SaveWord.TheVariants.{Saved}
use Rattle.space_map.specs.SaveWord.{number_of}
use Rattle.space_map.specs.Spaces.{page_of}
use Rattle.heap_state.specs.Memory.Table.{Table}
use Rattle.heap_state.specs.Saving.Words.{Saves}
use Rattle.heap_state.specs.Saving.Frozen.{Frozen, IsPageOf, IsSafe, MayBeSaved}
use Rattle.heap_state.specs.Saving.Savers.{Saver, SaveRound, FirstReads, NoReads, GateRead, SnapRead, DoneRead}
use Rattle.heap_state.specs.Saving.Parts.{SavingWords, RecalledStands, Settles, ReadsTell, SavesRound, KnowsSaving}

-- The table u is t but for what a checkpoint in progress doesn't read. It has the same epoch, traced if it was. A page that is open
-- was so, or is opened in this epoch with a SAVE of the last checkpoint. What is held and not saved stays.
pub record Leaves (t u : Table) (s : Saves) (z : Frozen) : Type 0 where
  pub pages : u.pages ≡ t.pages
  pub epoch : u.gate.epoch ≡ t.gate.epoch
  pub traced : t.traced ≡ t.gate.epoch + 1 → u.traced ≡ t.traced
  pub opened : (page v : ℕ) → u.page page ≡ Open v
      → (t.page page ≡ Open v) ⊎ ((v ≡ t.gate.epoch) × ((s.snap ≤ number_of (s.save page)) ⊎ (t.traced ≢ t.gate.epoch + 1)))
  pub held : s.done < s.snap → (page : ℕ) → z.held page ≡ true → u.page page ≡ t.page page
  pub heap : s.done < s.snap → (x : ℕ) → z.held (page_of x) ≡ true → s.save (page_of x) ≢ Saved s.snap → u.heap x ≡ t.heap x

module _ (t u : Table) (s : Saves) (z : Frozen) (l : Leaves t u s z) where
  -- pages that may be saved may be saved still, for a checkpoint that was begun, in an epoch that is traced if it is the gate's
  pub may_be_saved : (c v : ℕ) → c ≤ s.snap → (t.gate.epoch ≡ v → t.traced ≡ v + 1) → MayBeSaved t s z c v → MayBeSaved u s z c v
  unfolding MayBeSaved IsSafe
  may_be_saved c v begun traced may = λ page is opened. ⊎_elim
      (λ (was : t.page page ≡ Open v). may page (subst (λ n. IsPageOf n v page) l.pages is) was)
      (λ (new : (v ≡ t.gate.epoch) × ((s.snap ≤ number_of (s.save page)) ⊎ (t.traced ≢ t.gate.epoch + 1))). inl (⊎_elim
      (λ (marked : s.snap ≤ number_of (s.save page)). let least : c ≤ number_of (s.save page) = omega arith in least)
      (λ (untraced : t.traced ≢ t.gate.epoch + 1).
      let now = new.0 in let is_traced = traced (sym now) in absurd (untraced (omega (arith, now, is_traced))))
      new.1))
      (l.opened page v opened)

  of_the_gate : (c : ℕ) → MayBeSaved u s z c t.gate.epoch → MayBeSaved u s z c u.gate.epoch
  of_the_gate c = subst (MayBeSaved u s z c) (sym l.epoch)

  -- ---- the words

  pub words_after : SavingWords t s z → SavingWords u s z
  words_after w = record {
    order = w.order;
    young = w.young;
    within = λ page held. rw l.pages (w.within page held);
    traced = λ runs. rw (l.epoch, l.traced (w.traced runs)) (w.traced runs);
    opened = λ runs page held. rw (l.pages, l.epoch, l.held runs page held) (w.opened runs page held);
    old = w.old;
    unsaved = λ runs x held loose. l.heap runs x held loose ∙ w.unsaved runs x held loose;
    saved = w.saved;
    done = w.done;
    ran = λ runs. of_the_gate s.snap (may_be_saved s.snap t.gate.epoch (omega arith) (λ same. w.traced runs) (w.ran runs));
  }

  -- ---- what a worker knows

  traced_after : (v : ℕ) → t.gate.epoch ≡ v → t.traced ≡ v + 1 → u.traced ≡ v + 1
  traced_after v now traced = let is : t.traced ≡ t.gate.epoch + 1 = omega arith in l.traced is ∙ traced

  recalls_after : (w : Saver) → RecalledStands t s z w → RecalledStands u s z w
  recalls_after w r = record {
    runs = r.runs;
    snap = r.snap;
    none = r.none;
    one = λ some.
        let one = r.one some in
        let same = one.0 in
        (one.0, rw l.epoch (traced_after t.gate.epoch refl one.1), of_the_gate w.running (may_be_saved w.running t.gate.epoch (omega arith) (λ now. one.1) one.2));
  }

  settles_after : (w : Saver) → Settles t s w → Settles u s w
  settles_after w settles = record { alive = settles.alive; snap = settles.snap; rests = settles.rests; traced = rw l.epoch (traced_after t.gate.epoch refl settles.traced) }

  reads_after : (r : FirstReads) → ReadsTell t s z r → ReadsTell u s z r
  reads_after NoReads tell = tt
  reads_after (GateRead v) tell = rw l.epoch tell
  reads_after (SnapRead v c) tell = (
    rw l.epoch tell.0,
    tell.1,
    λ now. ⊎_elim
        (λ (same : s.snap ≡ c). inl same)
        (λ (apart : s.snap ≢ c). ⊎_elim
        (λ (same : s.snap ≡ c). inl same)
        (λ (rest : (t.traced ≡ v + 1) × MayBeSaved t s z (c + 1) v).
        let was : t.gate.epoch ≡ v = rw l.epoch at now in
        let begun = tell.1 in
        inr (traced_after v was rest.0, may_be_saved (c + 1) v (omega (arith, begun, apart)) (λ is. rest.0) rest.1))
        (tell.2 (rw l.epoch at now)))
        (cases_eq s.snap c),
  )
  reads_after (DoneRead v c) tell = (
    rw l.epoch tell.0,
    tell.1,
    λ now.
        let was : t.gate.epoch ≡ v = rw l.epoch at now in
        let rest = tell.2 was in
        (traced_after v was rest.0, may_be_saved c v tell.1 (λ is. rest.0) rest.1),
  )

  round_after : (r : SaveRound) → SavesRound t s z r → SavesRound u s z r
  round_after r saves = record {
    begun = (saves.begun.0, rw l.epoch saves.begun.1);
    traced = λ now. traced_after r.epoch (rw l.epoch at now) (saves.traced (rw l.epoch at now));
    runs = λ runs. rw l.epoch (saves.runs runs);
    pages = may_be_saved r.number r.epoch saves.begun.0 saves.traced saves.pages;
    opened = saves.opened;
    passed = λ free runs page held passed. saves.passed free runs page held (rw l.pages at passed);
  }

  pub knows_after : (k : ℕ) (w : Saver) → ((gate : _) → w.still ≡ Some gate → u.gate ≡ t.gate) → KnowsSaving t s z k w → KnowsSaving u s z k w
  knows_after k w still knows = record {
    recalls = λ is. recalls_after w (knows.recalls is);
    settles = λ is. settles_after w (knows.settles is);
    still = λ gate is. let was = knows.still gate is in (was.0, still gate is ∙ was.1, was.2);
    guarded = knows.guarded;
    marked = knows.marked;
    begins = knows.begins;
    saves = knows.saves;
    reads = reads_after w.reads knows.reads;
    round = λ r is. round_after r (knows.round r is);
  }
