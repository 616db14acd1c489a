-- The SAVE of a page becomes another word: what is kept of checkpoints then, in the words, and in what a worker knows.
use Rattle.std.proofs.Common.{◌≡◌, ◌≢◌, ℕ, ◌<◌, ◌≤◌, ◌⊎◌, inl, inr, ⊎_elim, true, Some, sym, ◌∙◌, arith}
use Rattle.std.proofs.lemmas.Bool.{cases_eq}
use Rattle.space_map.specs.declared.save_word.SaveWord.{SaveWord}
use Rattle.space_map.specs.declared.save_word.SaveWord.TheVariants.{Saving, Saved, New}
use Rattle.space_map.specs.SaveWord.{number_of}
use Rattle.space_map.specs.Spaces.{page_of}
use Rattle.heap_state.specs.Functions.{put}
use Rattle.heap_state.specs.Memory.Table.{Table}
use Rattle.heap_state.specs.Saving.Words.{Saves, IsInProgress}
use Rattle.heap_state.specs.Saving.Frozen.{Frozen, IsSafe, MayBeSaved}
use Rattle.heap_state.specs.Saving.Savers.{Saver, SaveStep, SaveRound}
use Rattle.heap_state.specs.Saving.Parts.{SavingWords, RecalledStands, Guarded, SavesRound, IsSaving, KnowsSaving, HasWonSave, SavingStands}
use Rattle.heap_state.proofs.Puts.{put_at, put_same, put_other, each_put, team_put}
use Rattle.heap_laws.proofs.Saving.Pages.Safe.{may_still, begins_still, reads_still, round_still}

-- ---- what a new SAVE has to be

-- The page is one of a checkpoint in progress: the new word v doesn't say that it is new; if it was saved, it says so, and if v says
-- so, its words are in their images; and no worker but k is saving it.
pub record IsHeldMark (s : Saves) (z : Frozen) (k page : ℕ) (v : SaveWord) : Type 0 where
  pub old : v ≢ New s.snap
  pub saved : s.save page ≡ Saved s.snap → v ≡ Saved s.snap
  pub copied : v ≡ Saved s.snap → (x : ℕ) → page_of x ≡ page → s.image x ≡ z.heap x
  pub own : (j : ℕ) → s.save page ≡ Saving s.snap j → j ≡ k

-- Worker k writes v in the SAVE of the page: its number doesn't fall, nor is it above SNAP. A page that was saved or new of the last
-- checkpoint is so still, and one that was new is new.
pub record Marks (s : Saves) (z : Frozen) (k page : ℕ) (v : SaveWord) : Type 0 where
  pub rises : number_of (s.save page) ≤ number_of v
  pub young : number_of v ≤ s.snap
  pub kept : (s.save page ≡ Saved s.snap) ⊎ (s.save page ≡ New s.snap) → (v ≡ Saved s.snap) ⊎ (v ≡ New s.snap)
  pub new : s.save page ≡ New s.snap → v ≡ New s.snap
  pub held : s.done < s.snap → z.held page ≡ true → IsHeldMark s z k page v

-- the worker saves no page that it has won, or another one
abbrev pub SavesAnother : (page : ℕ) → Saver → Type 0
SavesAnother page w = (v : SaveStep) → w.save ≡ Some v → v.won ≡ true → v.page ≢ page

module _ (t : Table) (s : Saves) (z : Frozen) (k page : ℕ) (v : SaveWord) (m : Marks s z k page v) where
  abbrev after : Saves
  after = record s { save = put s.save page v }

  -- ---- numbers

  pub numbers_rise : (p : ℕ) → number_of (s.save p) ≤ number_of (put s.save page v p)
  numbers_rise p = each_put (λ p x. number_of (s.save p) ≤ number_of x) s.save page v p (λ other. omega arith) (λ same. rw same m.rises)

  safe_after : (p c : ℕ) → IsSafe s z p c → IsSafe after z p c
  unfolding IsSafe
  safe_after p c safe = ⊎_elim
      (λ (past : c ≤ number_of (s.save p)). let rises = numbers_rise p in inl (omega (arith, past, rises)))
      (λ (runs : IsInProgress s c × (z.held p ≡ true)). inr runs)
      safe

  may_after : (c epoch : ℕ) → MayBeSaved t s z c epoch → MayBeSaved t after z c epoch
  may_after = may_still t s after z z (omega arith) safe_after

  -- ---- the words

  -- a page that was saved is saved still, if it is held
  saved_still : s.done < s.snap → (p : ℕ) → z.held p ≡ true → s.save p ≡ Saved s.snap → put s.save page v p ≡ Saved s.snap
  saved_still runs p held is = each_put (λ p x. x ≡ Saved s.snap) s.save page v p
      (λ other. is)
      (λ same. (m.held runs (rw same at held)).saved (rw same at is))

  words_marked : SavingWords t s z → SavingWords t after z
  words_marked w = record {
    order = w.order;
    young = λ p. each_put (λ p x. number_of x ≤ s.snap) s.save page v p (λ other. w.young p) (λ same. m.young);
    within = w.within;
    traced = w.traced;
    opened = w.opened;
    old = λ runs p held. each_put (λ p x. x ≢ New s.snap) s.save page v p
        (λ other. w.old runs p held)
        (λ same. (m.held runs (rw same at held)).old);
    unsaved = λ runs x held loose. w.unsaved runs x held (λ is. loose (saved_still runs (page_of x) held is));
    saved = λ runs x held is. ⊎_elim
        (λ (same : page_of x ≡ page). (m.held runs (rw same at held)).copied (sym (put_at s.save page v (page_of x) same) ∙ is) x same)
        (λ (other : page_of x ≢ page). w.saved runs x held (sym (put_other s.save page v (page_of x) other) ∙ is))
        (cases_eq (page_of x) page);
    done = w.done;
    ran = λ runs. may_after s.snap t.gate.epoch (w.ran runs);
  }

  -- ---- what a worker knows

  recalls_marked : (w : Saver) → RecalledStands t s z w → RecalledStands t after z w
  recalls_marked w r = record {
    runs = r.runs;
    snap = r.snap;
    none = r.none;
    one = λ some. let one = r.one some in (one.0, one.1, may_after w.running t.gate.epoch one.2);
  }

  guarded_marked : (w : Saver) (p : ℕ) → RecalledStands t s z w → Guarded s w p → Guarded after w p
  guarded_marked w p r g =
      let number : w.running ≡ s.snap = (r.one g.recalled.1).0 in
      record {
        recalled = g.recalled;
        says = each_put (λ p x. (x ≡ Saved w.running) ⊎ (x ≡ New w.running)) s.save page v p
            (λ other. g.says)
            (λ same. rw number (m.kept (rw same at (rw number at g.says))));
      }

  saving_marked : (j : ℕ) (u : SaveStep) → u.page ≢ page → IsSaving s z j u → IsSaving after z j u
  saving_marked j u other is = record {
    runs = is.runs;
    held = is.held;
    own = put_other s.save page v u.page other ∙ is.own;
    some = is.some;
    copied = is.copied;
    loaded = is.loaded;
  }

  round_marked : (r : SaveRound) → SavesRound t s z r → SavesRound t after z r
  round_marked r saves = round_still t s after z z (omega arith) safe_after r saves.runs
      (λ free runs p held passed.
      let snap : s.snap ≡ r.number = runs.0 in
      let done = runs.1 in
      rw snap at (saved_still (omega (arith, snap, done)) p held (rw snap (saves.passed free runs p held passed))))
      saves

  -- who saves no page or another one knows what it knew
  pub knows_marked : (j : ℕ) (w : Saver) → SavesAnother page w → KnowsSaving t s z j w → KnowsSaving t after z j w
  knows_marked j w another knows = record {
    recalls = λ is. recalls_marked w (knows.recalls is);
    settles = λ is. let was = knows.settles is in record { alive = was.alive; snap = was.snap; rests = was.rests; traced = was.traced };
    still = knows.still;
    guarded = λ p is. let was = knows.guarded p is in guarded_marked w p (knows.recalls was.recalled.0) was;
    marked = λ p is.
        let was = knows.marked p is in
        (was.0, each_put (λ p x. x ≡ New s.snap) s.save page v p (λ other. was.1) (λ same. m.new (rw same at was.1)));
    begins = λ u is won. begins_still t s after z z (omega arith) safe_after u (knows.begins u is won);
    saves = λ u is won. saving_marked j u (another u is won) (knows.saves u is won);
    reads = reads_still t s after z z (omega arith) safe_after w.reads (λ c epoch same now. inl same) knows.reads;
    round = λ r is. round_marked r (knows.round r is);
  }

  -- and another worker saves another one
  others_save : (j : ℕ) (w : Saver) → j ≢ k → KnowsSaving t s z j w → SavesAnother page w
  others_save j w other knows = λ u is won same.
      let saves = knows.saves u is won in
      let snap : s.snap ≡ u.number = saves.runs.0 in
      let done = saves.runs.1 in
      let mark = m.held (omega (arith, snap, done)) (rw same at saves.held) in
      other (mark.own j (rw snap (rw same at saves.own)))

-- ---- all of it

-- Worker k becomes w, which knows what is so with the new word. If that says saving, it names k, which has won the save; and k saves
-- each other page whose SAVE names it.
pub saves_are_marked : (t : Table) (s : Saves) (z : Frozen) (count : ℕ) (saver : ℕ → Saver) (k page : ℕ) (v : SaveWord) (w : Saver)
    → SavingStands t s z count saver → k < count → Marks s z k page v → KnowsSaving t (record s { save = put s.save page v }) z k w
    → ((c j : ℕ) → v ≡ Saving c j → (j ≡ k) × HasWonSave w page c) → ((p c : ℕ) → p ≢ page → s.save p ≡ Saving c k → HasWonSave w p c)
    → SavingStands t (record s { save = put s.save page v }) z count (put saver k w)
saves_are_marked t s z count saver k page v w stands in_team m knows names own = record {
  words = words_marked t s z k page v m stands.words;
  workers = record {
    savers = λ p c j is. ⊎_elim
        (λ (same : p ≡ page).
        let new : v ≡ Saving c j = sym (put_same s.save page v) ∙ (rw same at is) in
        let named = names c j new in
        (rw named.0 in_team, rw (named.0, same, put_same saver k w) named.1))
        (λ (other : p ≢ page).
        let before = sym (put_other s.save page v p other) ∙ is in
        let was = stands.workers.savers p c j before in
        (was.0, each_put (λ j x. HasWonSave x p c) saver k w j (λ apart. was.1) (λ same. own p c other (rw same at before))))
        (cases_eq p page);
    each = team_put count (KnowsSaving t (record s { save = put s.save page v }) z) saver k w
        (λ j j_in other.
        let was = stands.workers.each j j_in in
        knows_marked t s z k page v m j (saver j) (others_save t s z k page v m j (saver j) other was) was)
        knows;
  };
}
