-- A page is saved, stage by stage, or marked as new.
use Rattle.std.proofs.Common.{◌≡◌, ◌≢◌, ℕ, ◌+◌, ◌-◌, ◌<◌, ◌≤◌, ◌⊎◌, inl, inr, ⊎_elim, true, false, Option, Some, None, refl, sym, ap, subst, ◌∙◌, arith}
use Rattle.std.proofs.lemmas.Bool.{cases_eq}
use Rattle.space_map.specs.declared.page_word.PageWord.TheVariants.{Open}
use Rattle.space_map.specs.declared.save_word.SaveWord.{SaveWord}
use Rattle.space_map.specs.declared.save_word.SaveWord.TheVariants.{Saving, Saved, New}
use Rattle.space_map.specs.declared.spaces.TheConstants.{PAGE_WORDS}
use Rattle.space_map.specs.SaveWord.{number_of}
use Rattle.space_map.specs.Spaces.{page_of, first_word}
use Rattle.heap_state.specs.Functions.{put}
use Rattle.heap_state.specs.Memory.Table.{Table}
use Rattle.heap_state.specs.Saving.Words.{Saves, IsInProgress}
use Rattle.heap_state.specs.Saving.Frozen.{Frozen, IsPageOf, IsSafe, MayBeSaved}
use Rattle.heap_state.specs.Saving.Savers.{Saver, SaveStep, SaveRound}
use Rattle.heap_state.specs.Saving.Parts.{Guarded, BeginsSave, IsSaving, SavesRound, KnowsSaving, HasWonSave, SavingStands}
use Rattle.heap_state.proofs.Puts.{put_same, put_other, true_false, none≢some, some_same}
use Rattle.heap_laws.specs.Saving.Rounds.{save_begun}
use Rattle.heap_laws.specs.Saving.Pages.{save_at, save_with, next_word, saver_in_save, saver_after_save, saver_guarded, saver_marking, FindsKept, FindsUnsaved, LooksAgain, WinsSave, LosesSave, LoadsWord, StoresImage, EndsSave, EndsLook, MarksNew, PagesAreSaved, SaveNumbersRise}
use Rattle.heap_laws.proofs.Saving.SavingWorkers.{has_won_as, saver_changes}
use Rattle.heap_laws.proofs.Saving.Forgotten.{recalls_as}
use Rattle.heap_laws.proofs.Saving.Pages.MarkedPages.{Marks, SavesAnother, numbers_rise, knows_marked, saves_are_marked}
use Rattle.heap_laws.proofs.Saving.Pages.Images.{IsBeingSaved, on_page, place_on, place_small, knows_imaged, saves_are_imaged}

-- ---- a worker by parts

module _ (t : Table) (s : Saves) (z : Frozen) (k : ℕ) (v : Saver) (knows : KnowsSaving t s z k v) where
  -- one that differs in the page that it may write on, in the one that it has marked, in its save and in its round alone
  knows_with : (guarded marked : Option ℕ) (save : Option SaveStep) (round : Option SaveRound)
      → ((page : ℕ) → guarded ≡ Some page → Guarded s v page) → ((page : ℕ) → marked ≡ Some page → (v.recalled ≡ true) × (s.save page ≡ New s.snap))
      → ((u : SaveStep) → save ≡ Some u → u.won ≡ false → BeginsSave s z u) → ((u : SaveStep) → save ≡ Some u → u.won ≡ true → IsSaving s z k u)
      → ((r : SaveRound) → round ≡ Some r → SavesRound t s z r)
      → KnowsSaving t s z k (record v { guarded = guarded; marked = marked; save = save; round = round })
  knows_with guarded marked save round writes marks begins saves rounds = record {
    recalls = λ is.
        let r = knows.recalls is in
        recalls_as t s z v (record v { guarded = guarded; marked = marked; save = save; round = round }) r.runs refl refl refl r;
    settles = λ is. let was = knows.settles is in record { alive = was.alive; snap = was.snap; rests = was.rests; traced = was.traced };
    still = knows.still;
    guarded = λ page same. let is = writes page same in record { recalled = is.recalled; says = is.says };
    marked = marks;
    begins = begins;
    saves = saves;
    reads = knows.reads;
    round = rounds;
  }

  pub knows_guarded : (page : ℕ) → Guarded s v page → KnowsSaving t s z k (saver_guarded v page)
  knows_guarded page is =
      knows_with (Some page) v.marked v.save v.round
      (λ p same. subst (Guarded s v) (some_same same) is) knows.marked knows.begins knows.saves knows.round

  pub knows_marking : (page : ℕ) → v.recalled ≡ true → s.save page ≡ New s.snap → KnowsSaving t s z k (saver_marking v page)
  knows_marking page recalled is =
      knows_with v.guarded (Some page) v.save v.round
      knows.guarded (λ p same. (recalled, rw (← some_same same) is)) knows.begins knows.saves knows.round

  pub knows_beginning : (u : SaveStep) → u.won ≡ false → BeginsSave s z u → KnowsSaving t s z k (saver_in_save v u)
  knows_beginning u not_won is =
      knows_with v.guarded v.marked (Some u) v.round knows.guarded knows.marked
      (λ x same won. subst (BeginsSave s z) (some_same same) is)
      (λ x same won. true_false (ap (λ y. y.won) (sym (some_same same)) ∙ not_won) won)
      knows.round

  pub knows_saving : (u : SaveStep) → u.won ≡ true → IsSaving s z k u → KnowsSaving t s z k (saver_in_save v u)
  knows_saving u won is =
      knows_with v.guarded v.marked (Some u) v.round knows.guarded knows.marked
      (λ x same not_won. true_false not_won (ap (λ y. y.won) (sym (some_same same)) ∙ won))
      (λ x same yes. subst (IsSaving s z k) (some_same same) is)
      knows.round

  pub knows_after_save : KnowsSaving t s z k (saver_after_save v)
  knows_after_save =
      knows_with v.guarded v.marked None None knows.guarded knows.marked
      (λ x same. none≢some same) (λ x same. none≢some same) (λ r same. none≢some same)

-- who has won a save is saving that page
won_there : (v : Saver) (u : SaveStep) (page c : ℕ) → v.save ≡ Some u → HasWonSave v page c → (u.won ≡ true) × (u.page ≡ page) × (u.number ≡ c)
won_there v u page c is won =
    let same : won.step ≡ u = some_same (sym won.is ∙ is) in
    (ap (λ y. y.won) (sym same) ∙ won.won, ap (λ y. y.page) (sym same) ∙ won.page, ap (λ y. y.number) (sym same) ∙ won.number)

-- ---- what SAVE may become

module _ (s : Saves) (z : Frozen) (k page c : ℕ) where
  -- for a checkpoint in progress of which the page is one, from an earlier word: that this worker saves it
  saving_marks : number_of (s.save page) < c → s.snap ≡ c → Marks s z k page (Saving c k)
  saving_marks earlier snap = record {
    rises = omega (arith, earlier);
    young = omega (arith, snap);
    kept = λ was. ⊎_elim
        (λ (is : s.save page ≡ Saved s.snap). absurd (let number = ap number_of is in omega (arith, earlier, snap, number)))
        (λ (is : s.save page ≡ New s.snap). absurd (let number = ap number_of is in omega (arith, earlier, snap, number)))
        was;
    new = λ is. absurd (let number = ap number_of is in omega (arith, earlier, snap, number));
    held = λ runs held. record {
      old = λ is. absurd (cc);
      saved = λ is. absurd (let number = ap number_of is in omega (arith, earlier, snap, number));
      copied = λ is. absurd (cc);
      own = λ j is. absurd (let number = ap number_of is in omega (arith, earlier, snap, number));
    };
  }

  -- by who saves it, once its words are copied: that it is saved
  saved_marks : s.save page ≡ Saving c k → s.snap ≡ c → ((x : ℕ) → page_of x ≡ page → s.image x ≡ z.heap x) → Marks s z k page (Saved c)
  saved_marks own snap copied = record {
    rises = rw own (omega arith);
    young = omega (arith, snap);
    kept = λ was. ⊎_elim (λ (is : s.save page ≡ Saved s.snap). absurd (cc)) (λ (is : s.save page ≡ New s.snap). absurd (cc)) was;
    new = λ is. absurd (cc);
    held = λ runs held. record {
      old = λ is. absurd (cc);
      saved = λ is. absurd (cc);
      copied = λ is. copied;
      own = λ j is. cc;
    };
  }

  -- that a page is new which isn't one of a checkpoint in progress
  new_marks : number_of (s.save page) ≤ s.snap → s.snap ≡ c → (s.done < s.snap → z.held page ≡ false) → Marks s z k page (New c)
  new_marks young snap loose = record {
    rises = omega (arith, young, snap);
    young = omega (arith, snap);
    kept = λ was. inr (rw snap refl);
    new = λ is. rw snap refl;
    held = λ runs held. true_false (loose runs) held;
  }

-- ---- the stages of worker k

module _ (t : Table) (s : Saves) (z : Frozen) (count : ℕ) (saver : ℕ → Saver) (k : ℕ) (stands : SavingStands t s z count saver) (in_team : k < count) where
  abbrev w : Saver
  w = saver k

  me : KnowsSaving t s z k w
  me = stands.workers.each k in_team

  own : (page c : ℕ) → s.save page ≡ Saving c k → HasWonSave w page c
  own page c is = (stands.workers.savers page c k is).1

  -- a worker with the same save
  own_as : (x : Saver) → x.save ≡ w.save → (page c : ℕ) → s.save page ≡ Saving c k → HasWonSave x page c
  own_as x same page c is = has_won_as w x page c same (own page c is)

  -- no SAVE names a worker whose exchange is to come
  not_named : (v : SaveStep) → w.save ≡ Some v → v.won ≡ false → (page c : ℕ) → s.save page ≡ Saving c k → ⊥
  not_named v is not_won page c named = true_false not_won (won_there w v page c is (own page c named)).0

  -- only one page's SAVE names a worker
  named_there : (v : SaveStep) → w.save ≡ Some v → (page c : ℕ) → s.save page ≡ Saving c k → v.page ≡ page
  named_there v is page c named = (won_there w v page c is (own page c named)).1

  -- ---- the look before a write

  finds_kept : (page : ℕ) → w.recalled ≡ true → 0 < w.running → (s.save page ≡ Saved w.running) ⊎ (s.save page ≡ New w.running)
      → SavingStands t s z count (put saver k (saver_guarded w page))
  finds_kept page recalled runs says =
      saver_changes t s z count saver k (saver_guarded w page) stands in_team
      (knows_guarded t s z k w me page (record { recalled = (recalled, runs); says = says })) (own_as (saver_guarded w page) refl)

  may_begin : (page : ℕ) → w.recalled ≡ true → number_of (s.save page) < w.running → IsPageOf t.pages t.gate.epoch page → t.page page ≡ Open t.gate.epoch
      → IsSafe s z page w.running
  unfolding MayBeSaved
  may_begin page recalled earlier of opened = ((me.recalls recalled).one (omega (arith, earlier))).2 page of opened

  finds_unsaved : (page : ℕ) (says : SaveWord) → w.recalled ≡ true → w.save ≡ None → s.save page ≡ says → number_of says < w.running
      → IsPageOf t.pages t.gate.epoch page → t.page page ≡ Open t.gate.epoch
      → SavingStands t s z count (put saver k (saver_in_save w (save_begun page w.running says)))
  finds_unsaved page says recalled none is earlier of opened =
      saver_changes t s z count saver k (saver_in_save w (save_begun page w.running says)) stands in_team
      (knows_beginning t s z k w me (save_begun page w.running says) refl
      (record { earlier = earlier; safe = may_begin page recalled (rw is earlier) of opened }))
      (λ p c named. none≢some (sym none ∙ (own p c named).is))

  -- ---- the exchange of SAVE

  loses_save : (v : SaveStep) → w.save ≡ Some v → v.won ≡ false → SavingStands t s z count (put saver k (saver_after_save w))
  loses_save v is not_won =
      saver_changes t s z count saver k (saver_after_save w) stands in_team (knows_after_save t s z k w me)
      (λ page c named. absurd (not_named v is not_won page c named))

  module _ (v : SaveStep) (is : w.save ≡ Some v) (not_won : v.won ≡ false) (found : s.save v.page ≡ v.found) where
    abbrev begun : Saves
    begun = record s { save = put s.save v.page (Saving v.number k) }

    earlier : number_of (s.save v.page) < v.number
    earlier = rw found (me.begins v is not_won).earlier

    -- the checkpoint is in progress, and the page is one of it
    runs_there : IsInProgress s v.number × (z.held v.page ≡ true)
    unfolding IsSafe
    runs_there = ⊎_elim
        (λ (past : v.number ≤ number_of (s.save v.page)). let before = earlier in absurd (omega (arith, past, before)))
        (λ (runs : IsInProgress s v.number × (z.held v.page ≡ true)). runs)
        (me.begins v is not_won).safe

    begins_saving : IsSaving begun z k (save_at v 0)
    begins_saving = record {
      runs = runs_there.0;
      held = runs_there.1;
      own = put_same s.save v.page (Saving v.number k);
      some = omega arith;
      copied = λ i none. absurd (omega (arith, none));
      loaded = λ word none. none≢some none;
    }

    begins_marks : Marks s z k v.page (Saving v.number k)
    begins_marks = saving_marks s z k v.page v.number earlier runs_there.0.0

    wins_save : SavingStands t begun z count (put saver k (saver_in_save w (save_at v 0)))
    wins_save =
        let another : SavesAnother v.page w = λ u same won. true_false not_won (ap (λ y. y.won) (some_same (sym is ∙ same)) ∙ won) in
        saves_are_marked t s z count saver k v.page (Saving v.number k) (saver_in_save w (save_at v 0)) stands in_team begins_marks
        (knows_saving t begun z k w (knows_marked t s z k v.page (Saving v.number k) begins_marks k w another me)
        (save_at v 0) refl begins_saving)
        (λ c j named. let worker : j ≡ k = cc in let number : v.number ≡ c = cc in
        (worker, record { step = save_at v 0; is = refl; won = refl; page = refl; number = number }))
        (λ p c other named. absurd (not_named v is not_won p c named))

  -- ---- the words

  module _ (v : SaveStep) (is : w.save ≡ Some v) (won : v.won ≡ true) where
    saves_page : IsSaving s z k v
    saves_page = me.saves v is won

    in_progress : s.done < s.snap
    in_progress = let snap = saves_page.runs.0 in let done = saves_page.runs.1 in omega (arith, snap, done)

    -- its save with another word, or without one
    same_won : (u : SaveStep) → u.won ≡ true → u.page ≡ v.page → u.number ≡ v.number → (page c : ℕ) → s.save page ≡ Saving c k
        → HasWonSave (saver_in_save w u) page c
    same_won u won_too page_is number_is page c named =
        let there = won_there w v page c is (own page c named) in
        record { step = u; is = refl; won = won_too; page = page_is ∙ there.1; number = number_is ∙ there.2 }

    -- the words of the page are as they were
    word_of_then : v.copied < PAGE_WORDS → t.heap (next_word v) ≡ z.heap (next_word v)
    word_of_then small =
        let there = on_page v.page v.copied small in
        stands.words.unsaved in_progress (next_word v) (rw there saves_page.held)
        (λ saved. absurd (let named = saves_page.own in let same = rw there at saved in cc))

    loads_word : (word : ℕ) → v.copied < PAGE_WORDS → t.heap (next_word v) ≡ word → SavingStands t s z count (put saver k (saver_in_save w (save_with v word)))
    loads_word word small read =
        let holds : IsSaving s z k (save_with v word) = record {
          runs = saves_page.runs;
          held = saves_page.held;
          own = saves_page.own;
          some = saves_page.some;
          copied = saves_page.copied;
          loaded = λ x same. (small, sym (some_same same) ∙ sym read ∙ word_of_then small);
        } in
        saver_changes t s z count saver k (saver_in_save w (save_with v word)) stands in_team
        (knows_saving t s z k w me (save_with v word) won holds) (same_won (save_with v word) won refl refl)

    module _ (word : ℕ) (loaded : v.word ≡ Some word) where
      abbrev imaged : Saves
      imaged = record s { image = put s.image (next_word v) word }

      small : v.copied < PAGE_WORDS
      small = (saves_page.loaded word loaded).0

      its_own : IsBeingSaved s k (next_word v)
      its_own = record { number = v.number; runs = saves_page.runs; own = rw (on_page v.page v.copied small) saves_page.own }

      -- the words that it has copied stay
      copied_stay : (i : ℕ) → i < v.copied → put s.image (next_word v) word (first_word v.page + i) ≡ z.heap (first_word v.page + i)
      copied_stay i below =
          put_other s.image (next_word v) word (first_word v.page + i) (λ same. absurd (omega (arith, same, below))) ∙ saves_page.copied i below

      as_many : IsSaving imaged z k v
      as_many = record {
        runs = saves_page.runs;
        held = saves_page.held;
        own = saves_page.own;
        some = saves_page.some;
        copied = copied_stay;
        loaded = saves_page.loaded;
      }

      one_more : IsSaving imaged z k (save_at v (v.copied + 1))
      one_more = record {
        runs = saves_page.runs;
        held = saves_page.held;
        own = saves_page.own;
        some = omega (arith, small);
        copied = λ i below. ⊎_elim
            (λ (same : i ≡ v.copied). rw same (put_same s.image (next_word v) word ∙ (saves_page.loaded word loaded).1))
            (λ (other : i ≢ v.copied). copied_stay i (omega (arith, below, other)))
            (cases_eq i v.copied);
        loaded = λ x none. none≢some none;
      }

      stores_image : SavingStands t imaged z count (put saver k (saver_in_save w (save_at v (v.copied + 1))))
      stores_image =
          let still = knows_imaged t s z k (next_word v) word its_own k w
          (λ u same won. subst (IsSaving imaged z k) (some_same (sym is ∙ same)) as_many) me in
          saves_are_imaged t s z count saver k (next_word v) word (saver_in_save w (save_at v (v.copied + 1))) stands in_team its_own
          (knows_saving t imaged z k w still (save_at v (v.copied + 1)) refl one_more) (same_won (save_at v (v.copied + 1)) refl refl refl)

    -- ---- the end of a save

    module _ (all : v.copied ≡ PAGE_WORDS) where
      abbrev ended : Saves
      ended = record s { save = put s.save v.page (Saved v.number) }

      all_copied : (x : ℕ) → page_of x ≡ v.page → s.image x ≡ z.heap x
      all_copied x there =
          let low = place_on v.page x there in
          let high = place_small v.page x there in
          let at : first_word v.page + (x - first_word v.page) ≡ x = omega (arith, low) in
          rw at at (saves_page.copied (x - first_word v.page) (omega (arith, low, high, all)))

      ends_marks : Marks s z k v.page (Saved v.number)
      ends_marks = saved_marks s z k v.page v.number saves_page.own saves_page.runs.0 all_copied

      knows_ended : KnowsSaving t ended z k (saver_after_save w)
      knows_ended = knows_marked t s z k v.page (Saved v.number) ends_marks k (saver_after_save w)
          (λ u none. none≢some none) (knows_after_save t s z k w me)

      ends_as : (x : Saver) → KnowsSaving t ended z k x → SavingStands t ended z count (put saver k x)
      ends_as x knows = saves_are_marked t s z count saver k v.page (Saved v.number) x stands in_team ends_marks knows
          (λ c j named. absurd (cc))
          (λ p c other named. absurd (other (sym (named_there v is p c named))))

      ends_save : SavingStands t ended z count (put saver k (saver_after_save w))
      ends_save = ends_as (saver_after_save w) knows_ended

      ends_look : w.recalled ≡ true → w.running ≡ v.number → SavingStands t ended z count (put saver k (saver_guarded (saver_after_save w) v.page))
      ends_look recalled running =
          let done = saves_page.runs.1 in
          ends_as (saver_guarded (saver_after_save w) v.page)
          (knows_guarded t ended z k (saver_after_save w) knows_ended v.page (record {
            recalled = (recalled, omega (arith, running, done));
            says = inl (rw running (put_same s.save v.page (Saved v.number)));
          }))

  -- ---- a new page

  module _ (page : ℕ) (recalled : w.recalled ≡ true) (loose : s.done < s.snap → z.held page ≡ false) where
    abbrev marked : Saves
    marked = record s { save = put s.save page (New w.snap) }

    marks_as_new : Marks s z k page (New w.snap)
    marks_as_new = new_marks s z k page w.snap (stands.words.young page) (sym (me.recalls recalled).snap) loose

    -- a page that is being saved is one of a checkpoint in progress
    saves_others : SavesAnother page w
    saves_others = λ u is won same.
        let saves = me.saves u is won in
        let snap = saves.runs.0 in
        let done = saves.runs.1 in
        true_false (loose (omega (arith, snap, done))) (rw same at saves.held)

    marks_new : SavingStands t marked z count (put saver k (saver_marking w page))
    marks_new = saves_are_marked t s z count saver k page (New w.snap) (saver_marking w page) stands in_team marks_as_new
        (knows_marking t marked z k w (knows_marked t s z k page (New w.snap) marks_as_new k w saves_others me) page recalled
        (put_same s.save page (New w.snap) ∙ ap New (me.recalls recalled).snap))
        (λ c j named. absurd (cc))
        (λ p c other named. own_as (saver_marking w page) refl p c named)

-- ---- all of them

pub pages_are_saved : PagesAreSaved
pages_are_saved t s z count saver k _ _ stands in_team (FindsKept page says recalled runs is kept) =
    finds_kept t s z count saver k stands in_team page recalled runs (rw is kept)
pages_are_saved t s z count saver k _ _ stands in_team (FindsUnsaved page number says recalled running none is earlier of opened) =
    subst (λ n. SavingStands t s z count (put saver k (saver_in_save (saver k) (save_begun page n says)))) running
    (finds_unsaved t s z count saver k stands in_team page says recalled none is (rw running earlier) of opened)
pages_are_saved t s z count saver k _ _ stands in_team LooksAgain =
    saver_changes t s z count saver k (saver k) stands in_team
    (stands.workers.each k in_team) (λ page c is. (stands.workers.savers page c k is).1)
pages_are_saved t s z count saver k _ _ stands in_team (WinsSave v is not_won found) =
    wins_save t s z count saver k stands in_team v is not_won found
pages_are_saved t s z count saver k _ _ stands in_team (LosesSave v is not_won) =
    loses_save t s z count saver k stands in_team v is not_won
pages_are_saved t s z count saver k _ _ stands in_team (LoadsWord v word is won small read) =
    loads_word t s z count saver k stands in_team v is won word small read
pages_are_saved t s z count saver k _ _ stands in_team (StoresImage v word is won loaded) =
    stores_image t s z count saver k stands in_team v is won word loaded
pages_are_saved t s z count saver k _ _ stands in_team (EndsSave v is won all) =
    ends_save t s z count saver k stands in_team v is won all
pages_are_saved t s z count saver k _ _ stands in_team (EndsLook v is won all recalled running) =
    ends_look t s z count saver k stands in_team v is won all recalled running
pages_are_saved t s z count saver k _ _ stands in_team (MarksNew page number recalled snap loose) =
    subst (λ n. SavingStands t (record s { save = put s.save page (New n) }) z count (put saver k (saver_marking (saver k) page))) snap
    (marks_new t s z count saver k stands in_team page recalled loose)

pub save_numbers_rise : SaveNumbersRise
save_numbers_rise t s z count saver k _ _ stands in_team (WinsSave v is not_won found) p =
    numbers_rise t s z k v.page (Saving v.number k) (begins_marks t s z count saver k stands in_team v is not_won found) p
save_numbers_rise t s z count saver k _ _ stands in_team (EndsSave v is won all) p =
    numbers_rise t s z k v.page (Saved v.number) (ends_marks t s z count saver k stands in_team v is won all) p
save_numbers_rise t s z count saver k _ _ stands in_team (EndsLook v is won all recalled running) p =
    numbers_rise t s z k v.page (Saved v.number) (ends_marks t s z count saver k stands in_team v is won all) p
save_numbers_rise t s z count saver k _ _ stands in_team (MarksNew page number recalled snap loose) p =
    subst (λ n. number_of (s.save p) ≤ number_of (put s.save page (New n) p)) snap
    (numbers_rise t s z k page (New (saver k).snap) (marks_as_new t s z count saver k stands in_team page recalled loose) p)
save_numbers_rise t s z count saver k _ _ stands in_team (FindsUnsaved _ _ _ _ _ none _ _ _ _) p = omega arith
save_numbers_rise t s z count saver k _ _ stands in_team _ p = omega arith
