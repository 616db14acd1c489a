-- What a worker learns of checkpoints by a load: a mutator that begins to run, the first reads of a round, and its pages.
use Rattle.std.proofs.Common.{◌≡◌, ◌≢◌, ℕ, ◌+◌, ◌*◌, ◌<◌, ◌≤◌, ◌⊎◌, inl, inr, ⊎_elim, Bool, true, false, Option, Some, None, refl, sym, ap, subst, ◌∙◌, arith}
use Rattle.std.proofs.lemmas.Bool.{cases_eq, eq-eqb, ne_eqb}
use Rattle.space_map.specs.declared.page_word.PageWord.TheVariants.{Open}
use Rattle.space_map.specs.declared.save_word.SaveWord.{SaveWord}
use Rattle.space_map.specs.declared.save_word.SaveWord.TheVariants.{Unsaved, Saving, Saved, New}
use Rattle.space_map.specs.SaveWord.{number_of}
use Rattle.space_map.specs.Spaces.{board_page, to_space}
use Rattle.heap_state.specs.Memory.Table.{Table}
use Rattle.heap_state.specs.Saving.Words.{Saves, IsInProgress}
use Rattle.heap_state.specs.Saving.Frozen.{Frozen, IsPageOf, IsSafe, MayBeSaved}
use Rattle.heap_state.specs.Saving.Savers.{Saver, SaveStep, SaveRound, FirstReads, NoReads, GateRead, SnapRead, DoneRead, HasPassed}
use Rattle.heap_state.specs.Saving.Parts.{SavingWords, RecalledStands, ReadsTell, SavesRound, BeginsSave, IsSaving, KnowsSaving, HasWonSave}
use Rattle.heap_state.proofs.Puts.{true_false, none≢some, some_same}
use Rattle.heap_laws.specs.Saving.Rounds.{round_begun, round_past, IsNextPage, round_passing, RoundsFollow, running_by, save_begun, LearnsOfSaves, RecallsSnap, RecallsDone, FindsRest, BeginsRound, ReadsGate, ReadsSnap, ReadsDone, ReadsGateAgain, FindsOpen, PassesClosed, PassesKept, PassesBusy, BeginsSaving, SaversLearn, NumbersFit, NumbersStay}
use Rattle.heap_laws.proofs.Saving.SavingWorkers.{has_won_as, asker_knows, saver_changes}
use Rattle.heap_laws.proofs.Saving.Forgotten.{recalls_as}

-- ---- rounds at their stages

rounds_board : (n number epoch : ℕ) (busy : Bool)
    → round_passing n (record (round_begun n number epoch) { busy = busy }) (board_page n) ≡ round_past number epoch (n * to_space epoch) busy
rounds_board n number epoch busy = rw (eq-eqb (board_page n) (board_page n) refl) refl

pub rounds_follow : RoundsFollow
rounds_follow = record {
  board = rounds_board;
  pages = λ n number epoch page busy other. rw (ne_eqb page (board_page n) other) refl;
  all = λ n number epoch. record { board = refl; pages = omega arith; free = refl };
}

-- ---- a page that is passed

-- what a round has passed after the board it had passed before, or it is the board
passed_board : (n : ℕ) (r : SaveRound) (p : ℕ) → HasPassed n (record r { board = true; opened = None }) p → HasPassed n r p ⊎ (p ≡ board_page n)
unfolding HasPassed
passed_board n r p passed = ⊎_elim
    (λ (board : (p ≡ board_page n) × (true ≡ true)). inr board.0)
    (λ (within : (n * to_space r.epoch ≤ p) × (p < r.upto)). inl (inr within))
    passed

-- and what it has passed after the next page of its space
passed_page : (n : ℕ) (r : SaveRound) (page p : ℕ) → IsNextPage n r page → page ≢ board_page n
    → HasPassed n (record r { upto = page + 1; opened = None }) p → HasPassed n r p ⊎ (p ≡ page)
unfolding HasPassed
passed_page n r page p next other passed = ⊎_elim
    (λ (board : (p ≡ board_page n) × (r.board ≡ true)). inl (inl board))
    (λ (within : (n * to_space r.epoch ≤ p) × (p < page + 1)). ⊎_elim
    (λ (same : p ≡ page). inr same)
    (λ (apart : p ≢ page).
    let upto = next other in
    let low = within.0 in
    let high = within.1 in
    inl (inr (low, omega (arith, high, apart, upto))))
    (cases_eq p page))
    passed

module _ (t : Table) (s : Saves) (z : Frozen) (r : SaveRound) (saves : SavesRound t s z r) where
  -- a round that differs in what it has passed alone
  round_with : (board : Bool) (upto : ℕ) (busy : Bool)
      → (busy ≡ false → IsInProgress s r.number → (page : ℕ) → z.held page ≡ true
      → HasPassed t.pages (record r { board = board; upto = upto; busy = busy; opened = None }) page → s.save page ≡ Saved r.number)
      → SavesRound t s z (record r { board = board; upto = upto; busy = busy; opened = None })
  round_with board upto busy passed = record {
    begun = saves.begun;
    traced = saves.traced;
    runs = saves.runs;
    pages = saves.pages;
    opened = λ page is. none≢some is;
    passed = passed;
  }

  -- the page is saved if it is one of a checkpoint in progress
  abbrev IsKept : ℕ → Type 0
  IsKept page = r.busy ≡ false → IsInProgress s r.number → z.held page ≡ true → s.save page ≡ Saved r.number

  passes_board : (page : ℕ) → page ≡ board_page t.pages → IsKept page → SavesRound t s z (record r { board = true; opened = None })
  passes_board page is kept = round_with true r.upto r.busy (λ free runs p held passed. ⊎_elim
      (λ (before : HasPassed t.pages r p). saves.passed free runs p held before)
      (λ (board : p ≡ board_page t.pages). let same : p ≡ page = board ∙ sym is in rw same (kept free runs (rw same at held)))
      (passed_board t.pages r p passed))

  passes_page : (page : ℕ) → IsNextPage t.pages r page → page ≢ board_page t.pages → IsKept page
      → SavesRound t s z (record r { upto = page + 1; opened = None })
  passes_page page next other kept = round_with r.board (page + 1) r.busy (λ free runs p held passed. ⊎_elim
      (λ (before : HasPassed t.pages r p). saves.passed free runs p held before)
      (λ (same : p ≡ page). rw same (kept free runs (rw same at held)))
      (passed_page t.pages r page p next other passed))

  -- the round after it has passed a page
  passes : (page : ℕ) → IsNextPage t.pages r page → IsKept page → SavesRound t s z (round_passing t.pages r page)
  passes page next kept = ⊎_elim
      (λ (is : page ≡ board_page t.pages). rw (eq-eqb page (board_page t.pages) is) (passes_board page is kept))
      (λ (other : page ≢ board_page t.pages). rw (ne_eqb page (board_page t.pages) other) (passes_page page next other kept))
      (cases_eq page (board_page t.pages))

  -- a round that has found a page busy
  round_busy : SavesRound t s z (record r { busy = true })
  round_busy = record {
    begun = saves.begun;
    traced = saves.traced;
    runs = saves.runs;
    pages = saves.pages;
    opened = saves.opened;
    passed = λ free. true_false free refl;
  }

  safe_open : (page : ℕ) → IsPageOf t.pages r.epoch page → t.page page ≡ Open r.epoch → IsSafe s z page r.number
  unfolding MayBeSaved
  safe_open page is opened = saves.pages page is opened

  passed_as : (page p : ℕ) → HasPassed t.pages (record r { opened = Some page }) p → HasPassed t.pages r p
  unfolding HasPassed
  passed_as page p passed = passed

  -- a round that has found a page open
  round_opened : (page : ℕ) → IsPageOf t.pages r.epoch page → t.page page ≡ Open r.epoch → SavesRound t s z (record r { opened = Some page })
  round_opened page is opened = record {
    begun = saves.begun;
    traced = saves.traced;
    runs = saves.runs;
    pages = saves.pages;
    opened = λ p same. rw (← some_same same) (safe_open page is opened);
    passed = λ free runs p held passed. saves.passed free runs p held (passed_as page p passed);
  }

  -- a page that isn't open isn't held
  closed : (page : ℕ) → SavingWords t s z → t.page page ≢ Open r.epoch → IsInProgress s r.number → z.held page ≡ true → s.save page ≡ Saved r.number
  closed page w other runs held =
      let snap = runs.0 in
      let done = runs.1 in
      absurd (other (rw (← saves.runs runs) (w.opened (omega (arith, snap, done)) page held).1))

-- a SAVE of a checkpoint says that the page is saved, if it isn't new, and nobody saves it
kept_is_saved : (v : SaveWord) (c : ℕ) → 0 < c → number_of v ≡ c → ((worker : ℕ) → v ≢ Saving c worker) → v ≢ New c → v ≡ Saved c
kept_is_saved Unsaved c some is not_saving not_new = absurd (omega (arith, some, is))
kept_is_saved (Saving number worker) c some is not_saving not_new = absurd (not_saving worker (rw is refl))
kept_is_saved (Saved number) c some is not_saving not_new = rw is refl
kept_is_saved (New number) c some is not_saving not_new = absurd (not_new (rw is refl))

kept : (t : Table) (s : Saves) (z : Frozen) (page c : ℕ) → SavingWords t s z → number_of (s.save page) ≡ c → ((worker : ℕ) → s.save page ≢ Saving c worker)
    → IsInProgress s c → z.held page ≡ true → s.save page ≡ Saved c
kept t s z page c w is not_saving runs held =
    let snap = runs.0 in
    let done = runs.1 in
    kept_is_saved (s.save page) c (omega (arith, done)) is not_saving (λ new. w.old (omega (arith, snap, done)) page held (rw snap new))

-- ---- a round that begins

none_passed : (n number epoch p : ℕ) → HasPassed n (round_begun n number epoch) p → ⊥
unfolding HasPassed
none_passed n number epoch p passed = ⊎_elim
    (λ (board : (p ≡ board_page n) × (false ≡ true)). true_false refl board.1)
    (λ (within : (n * to_space epoch ≤ p) × (p < n * to_space epoch)).
    let low = within.0 in
    let high = within.1 in
    absurd (omega (arith, low, high)))
    passed

module _ (t : Table) (s : Saves) (z : Frozen) where
  round_anew : (number epoch : ℕ) → number ≤ s.snap → epoch ≤ t.gate.epoch → (t.gate.epoch ≡ epoch → t.traced ≡ epoch + 1)
      → (IsInProgress s number → t.gate.epoch ≡ epoch) → MayBeSaved t s z number epoch → SavesRound t s z (round_begun t.pages number epoch)
  round_anew number epoch begun past traced runs may = record {
    begun = (begun, past);
    traced = traced;
    runs = runs;
    pages = may;
    opened = λ page is. none≢some is;
    passed = λ free is page held passed. absurd (none_passed t.pages number epoch page passed);
  }

  -- what may be saved for the checkpoint after one that isn't finished last may be saved for this
  one_less : (c epoch : ℕ) → s.done ≢ c → MayBeSaved t s z (c + 1) epoch → MayBeSaved t s z c epoch
  unfolding MayBeSaved IsSafe
  one_less c epoch other may = λ page is opened. ⊎_elim
      (λ (above : c + 1 ≤ number_of (s.save page)). inl (omega (arith, above)))
      (λ (runs : IsInProgress s (c + 1) × (z.held page ≡ true)). let done = runs.0.1 in absurd (omega (arith, done, other)))
      (may page is opened)

  moves : SavingWords t s z → s.done ≢ s.snap → s.done < s.snap
  moves w other = let order = w.order.0 in omega (arith, order, other)

  reads_done : (epoch c : ℕ) → SavingWords t s z → s.done ≢ c → ReadsTell t s z (SnapRead epoch c) → ReadsTell t s z (DoneRead epoch c)
  reads_done epoch c w other tell = (
    tell.0,
    tell.1,
    λ now. ⊎_elim
        (λ (same : s.snap ≡ c).
        let runs = moves w (rw same other) in
        let traced = w.traced runs in
        (omega (arith, traced, now), rw (← same, ← now) (w.ran runs)))
        (λ (rest : (t.traced ≡ epoch + 1) × MayBeSaved t s z (c + 1) epoch). (rest.0, one_less c epoch other rest.1))
        (tell.2 now),
  )

  -- ---- what a mutator has read

  recalled_snap : (v : Saver) (number : ℕ) → v.runs ≡ true → s.snap ≡ number
      → RecalledStands t s z (record v { recalled = true; reads_done = true; snap = number; running = 0; settled = false })
  recalled_snap v number runs is =
      record { runs = runs; snap = sym is; none = λ read. true_false read refl; one = λ some. absurd (omega (arith, some)) }

  recalled_none : (v : Saver) → s.done ≡ v.snap → RecalledStands t s z v → RecalledStands t s z (record v { reads_done = false; running = 0; guarded = None })
  recalled_none v same r =
      let snap = r.snap in
      record { runs = r.runs; snap = snap; none = λ read zero. omega (arith, snap, same); one = λ some. absurd (omega (arith, some)) }

  recalled_one : (v : Saver) → SavingWords t s z → s.done ≢ v.snap → RecalledStands t s z v → RecalledStands t s z (record v { reads_done = false; running = v.snap; guarded = None })
  recalled_one v w other r =
      let runs = moves w (rw (← r.snap) other) in
      let snap = r.snap in
      record {
        runs = r.runs;
        snap = snap;
        none = λ read zero. absurd (omega (arith, zero, snap, runs));
        one = λ some. (snap, w.traced runs, rw snap (w.ran runs));
      }

  recalled_done : (v : Saver) → SavingWords t s z → RecalledStands t s z v
      → RecalledStands t s z (record v { reads_done = false; running = running_by v.snap s.done; guarded = None })
  recalled_done v w r = ⊎_elim
      (λ (same : s.done ≡ v.snap). rw (eq-eqb s.done v.snap same) (recalled_none v same r))
      (λ (other : s.done ≢ v.snap). rw (ne_eqb s.done v.snap other) (recalled_one v w other r))
      (cases_eq s.done v.snap)

  module _ (k : ℕ) (v : Saver) (knows : KnowsSaving t s z k v) where
    knows_snap : (number : ℕ) → v.runs ≡ true → v.recalled ≡ false → s.snap ≡ number
        → KnowsSaving t s z k (record v { recalled = true; reads_done = true; snap = number; running = 0; settled = false })
    knows_snap number runs not_recalled read = record {
      recalls = λ is. recalled_snap v number runs read;
      settles = λ is. true_false refl is;
      still = knows.still;
      guarded = λ page is. true_false not_recalled (knows.guarded page is).recalled.0;
      marked = λ page is. true_false not_recalled (knows.marked page is).0;
      begins = knows.begins;
      saves = knows.saves;
      reads = knows.reads;
      round = knows.round;
    }

    knows_done : SavingWords t s z → KnowsSaving t s z k (record v { reads_done = false; running = running_by v.snap s.done; guarded = None })
    knows_done w = record {
      recalls = λ is. recalled_done v w (knows.recalls is);
      settles = λ is. let was = knows.settles is in record { alive = was.alive; snap = was.snap; rests = was.rests; traced = was.traced };
      still = knows.still;
      guarded = λ page is. none≢some is;
      marked = knows.marked;
      begins = knows.begins;
      saves = knows.saves;
      reads = knows.reads;
      round = knows.round;
    }

    knows_rest : v.recalled ≡ true → s.done ≡ v.snap → t.traced ≡ t.gate.epoch + 1 → KnowsSaving t s z k (record v { settled = true })
    knows_rest recalled same traced =
        let r = knows.recalls recalled in
        asker_knows t s z k v knows v.asks true v.still
        (λ is. record { alive = inl r.runs; snap = r.snap; rests = same ∙ r.snap; traced = traced }) knows.still

    -- a worker that differs in its save, first reads and round alone
    knows_with : (save : Option SaveStep) (reads : FirstReads) (round : Option SaveRound)
        → ((step : SaveStep) → save ≡ Some step → step.won ≡ false → BeginsSave s z step)
        → ((step : SaveStep) → save ≡ Some step → step.won ≡ true → IsSaving s z k step) → ReadsTell t s z reads
        → ((r : SaveRound) → round ≡ Some r → SavesRound t s z r) → KnowsSaving t s z k (record v { save = save; reads = reads; round = round })
    knows_with save reads round begins saves tell rounds = record {
      recalls = λ is.
          let r = knows.recalls is in
          recalls_as t s z v (record v { save = save; reads = reads; round = round }) r.runs refl refl refl r;
      settles = λ is. let was = knows.settles is in record { alive = was.alive; snap = was.snap; rests = was.rests; traced = was.traced };
      still = knows.still;
      guarded = λ page is. let was = knows.guarded page is in record { recalled = was.recalled; says = was.says };
      marked = knows.marked;
      begins = begins;
      saves = saves;
      reads = tell;
      round = rounds;
    }

    knows_reads : (reads : FirstReads) → ReadsTell t s z reads → KnowsSaving t s z k (record v { reads = reads })
    knows_reads reads tell = knows_with v.save reads v.round knows.begins knows.saves tell knows.round

    knows_round : (r : SaveRound) → SavesRound t s z r → KnowsSaving t s z k (record v { round = Some r })
    knows_round r saves =
        knows_with v.save v.reads (Some r) knows.begins knows.saves knows.reads (λ other is. subst (SavesRound t s z) (some_same is) saves)

    knows_begun : (epoch c : ℕ) → v.reads ≡ DoneRead epoch c → t.gate.epoch ≡ epoch
        → KnowsSaving t s z k (record v { reads = NoReads; round = Some (round_begun t.pages c epoch) })
    knows_begun epoch c is now =
        let tell : ReadsTell t s z (DoneRead epoch c) = subst (ReadsTell t s z) is knows.reads in
        let saves = round_anew c epoch tell.1 tell.0 (λ same. (tell.2 now).0) (λ runs. now) (tell.2 now).1 in
        knows_with v.save NoReads (Some (round_begun t.pages c epoch)) knows.begins knows.saves tt
        (λ r same. subst (SavesRound t s z) (some_same same) saves)

    knows_saving : (r : SaveRound) (page : ℕ) (says : SaveWord) → v.round ≡ Some r → r.opened ≡ Some page → number_of says < r.number
        → KnowsSaving t s z k (record v { save = Some (save_begun page r.number says); round = Some (round_begun t.pages r.number r.epoch) })
    knows_saving r page says is opened earlier =
        let saves = knows.round r is in
        let anew = round_anew r.number r.epoch saves.begun.0 saves.begun.1 saves.traced saves.runs saves.pages in
        let begins : BeginsSave s z (save_begun page r.number says) = record { earlier = earlier; safe = saves.opened page opened } in
        knows_with (Some (save_begun page r.number says)) v.reads (Some (round_begun t.pages r.number r.epoch))
        (λ step same won. subst (BeginsSave s z) (some_same same) begins)
        (λ step same won. true_false (ap (λ x. x.won) (sym (some_same same))) won)
        knows.reads
        (λ other same. subst (SavesRound t s z) (some_same same) anew)

-- ---- by what is learnt

module _ (t : Table) (s : Saves) (z : Frozen) (k : ℕ) (v : Saver) (words : SavingWords t s z) (knows : KnowsSaving t s z k v) where
  begins_round : (number epoch : ℕ) → v.recalled ≡ true → v.snap ≡ number → s.done ≢ number → t.gate.epoch ≡ epoch
      → SavesRound t s z (round_begun t.pages number epoch)
  begins_round number epoch recalled known other now =
      let snap : s.snap ≡ number = sym (knows.recalls recalled).snap ∙ known in
      let runs = moves t s z words (rw snap other) in
      round_anew t s z number epoch (omega (arith, snap)) (omega (arith, now)) (λ is. rw (← now) (words.traced runs)) (λ is. now)
      (rw (← snap, ← now) (words.ran runs))

  knows_learnt : (w : Saver) → LearnsOfSaves t s v w → KnowsSaving t s z k w
  knows_learnt _ (RecallsSnap number runs not_recalled read) = knows_snap t s z k v knows number runs not_recalled read
  knows_learnt _ (RecallsDone done recalled next read) = rw (← read) (knows_done t s z k v knows words)
  knows_learnt _ (FindsRest recalled same traced) = knows_rest t s z k v knows recalled same traced
  knows_learnt _ (BeginsRound number epoch recalled known other now) =
      knows_round t s z k v knows (round_begun t.pages number epoch) (begins_round number epoch recalled known other now)
  knows_learnt _ (ReadsGate epoch now) = knows_reads t s z k v knows (GateRead epoch) (omega (arith, now))
  knows_learnt _ (ReadsSnap epoch number is read) =
      let tell : ReadsTell t s z (GateRead epoch) = subst (ReadsTell t s z) is knows.reads in
      knows_reads t s z k v knows (SnapRead epoch number) (tell, omega (arith, read), λ now. inl read)
  knows_learnt _ (ReadsDone epoch c is other) =
      knows_reads t s z k v knows (DoneRead epoch c) (reads_done t s z epoch c words other (subst (ReadsTell t s z) is knows.reads))
  knows_learnt _ (ReadsGateAgain epoch c is now) = knows_begun t s z k v knows epoch c is now
  knows_learnt _ (FindsOpen r page is of opened) =
      knows_round t s z k v knows (record r { opened = Some page }) (round_opened t s z r (knows.round r is) page of opened)
  knows_learnt _ (PassesClosed r page is next other) =
      let saves = knows.round r is in
      knows_round t s z k v knows (round_passing t.pages r page) (passes t s z r saves page next (λ free. closed t s z r saves page words other))
  knows_learnt _ (PassesKept r page says is next read of not_saving) =
      knows_round t s z k v knows (round_passing t.pages r page)
      (passes t s z r (knows.round r is) page next (λ free. kept t s z page r.number words (rw read of) (λ worker. rw read (not_saving worker))))
  knows_learnt _ (PassesBusy r page is next) =
      let busy = round_busy t s z r (knows.round r is) in
      knows_round t s z k v knows (round_passing t.pages (record r { busy = true }) page)
      (passes t s z (record r { busy = true }) busy page next (λ free. true_false free refl))
  knows_learnt _ (BeginsSaving r page says is opened none read earlier) = knows_saving t s z k v knows r page says is opened earlier

  own_learnt : (w : Saver) → LearnsOfSaves t s v w → ((page c : ℕ) → s.save page ≡ Saving c k → HasWonSave v page c) → (page c : ℕ) → s.save page ≡ Saving c k
      → HasWonSave w page c
  own_learnt _ (BeginsSaving r p says same opened none read earlier) own page c is = none≢some (sym none ∙ (own page c is).is)
  own_learnt _ _ own page c is = has_won_as v _ page c refl (own page c is)

pub savers_learn : SaversLearn
savers_learn t s z count saver k w stands in_team learns =
    saver_changes t s z count saver k w stands in_team
    (knows_learnt t s z k (saver k) stands.words (stands.workers.each k in_team) w learns)
    (own_learnt t s z k (saver k) stands.words (stands.workers.each k in_team) w learns (λ page c is. (stands.workers.savers page c k is).1))

pub numbers_fit : NumbersFit
numbers_fit t s z w = let order = w.order.0 in let below = w.order.2 in (below, omega (arith, order, below))

pub numbers_stay : NumbersStay
numbers_stay t s z count saver k stands in_team recalled = sym ((stands.workers.each k in_team).recalls recalled).snap
