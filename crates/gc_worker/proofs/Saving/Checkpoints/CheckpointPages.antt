-- The pages of a round for the checkpoint in progress: each is found open, or passed; and of an open one, SAVE says whether it is passed
-- too, or is saved next.
use Rattle.std.proofs.Common.{◌≡◌, ◌≢◌, ℕ, ◌+◌, ◌*◌, ◌<◌, ◌≤◌, ◌==◌, inl, inr, Bool, true, false, cond, nat_lt, Option, None, Some, is_some, refl, sym, ap, subst, ◌∙◌, arith}
use Rattle.std.proofs.lemmas.Bool.{eqb-false, eqb-true, ltb-false, ltb-true, ne_eqb}
use Rattle.std.proofs.lemmas.Option.{same_Some}
use Rattle.plain_state.specs.State.{Plain}
use Rattle.atom_store.specs.declared.reply.Reply.{Reply}
use Rattle.atom_store.specs.declared.reply.Reply.TheVariants.{Value}
use Rattle.atom_store.specs.declared.step.Step.{Step}
use Rattle.space_map.specs.declared.page_word.PageWord.TheVariants.{Open}
use Rattle.space_map.specs.declared.save_word.SaveWord.{SaveWord}
use Rattle.space_map.specs.declared.save_word.SaveWord.TheVariants.{Unsaved, Saving, Saved, New}
use Rattle.space_map.specs.PageWord.{decode_page, encode_page}
use Rattle.space_map.specs.SaveWord.{decode_save, number_of}
use Rattle.space_map.specs.Spaces.{board_page, to_space}
use Rattle.space_map.specs.Table.{Page, SaveOf}
use Rattle.space_map.specs.WholeTable.{Within, Behind}
use Rattle.space_map.proofs.PageWords.{decode_page-encode_page, encode_page-decode_page}
use Rattle.heap_state.specs.Configuration.{Configuration, table}
use Rattle.heap_state.specs.Memory.Entries.{word_in_whole}
use Rattle.heap_state.specs.Saving.Frozen.{Frozen, IsPageOf}
use Rattle.heap_state.specs.Saving.Savers.{Saver, SaveRound, NoReads}
use Rattle.heap_laws.specs.Saving.Rounds.{LearnsOfSaves, BeginsSaving, FindsOpen, IsNextPage, PassesBusy, PassesClosed, PassesKept, round_begun, round_passing, round_past, save_begun, saver_after_round}
use Rattle.heap_laws.proofs.Saving.Pages.Writes.{says_are_found}
use Rattle.atom_store.specs.declared.turn.Turn.{Turn}
use Rattle.atom_store.specs.declared.turn.Turn.TheVariants.{More}
use Rattle.page_saves.specs.declared.save_round_end.SaveRoundEnd.{SaveRoundEnd}
use Rattle.page_saves.specs.declared.save_round_end.SaveRoundEnd.TheVariants.{NothingNow}
use Rattle.page_saves.specs.declared.save_round_stage.SaveRoundStage.{SaveRoundStage}
use Rattle.page_saves.specs.declared.save_round_stage.SaveRoundStage.TheVariants.{LoadsPage, LoadsSave, Saves, ExchangesDone, Ended}
use Rattle.page_saves.specs.declared.save_state.SaveState.{SaveState}
use Rattle.page_saves.specs.declared.save_state.SaveState.TheVariants.{Waits, Copying, Kept, Past}
use Rattle.page_saves.specs.RoundTheorems.{LooksAtPage}
use Rattle.page_saves.specs.Save as save
use Rattle.page_saves.specs.SaveRound as save_round
use Rattle.page_saves.specs.SaveRound.{SavingRound, after_pages, looked_at_save, looked_by, page_after, passed_page, to_page}
use Rattle.page_saves.specs.SaveState.{state_of, state_within}
use Rattle.page_saves.specs.SoundRound.{IsRoundPage}
use Rattle.page_saves.proofs.PageOrder.{to_page-le}
use Rattle.gc_worker.specs.declared.stage.goal.Goal.{Goal}
use Rattle.gc_worker.specs.Steps.Turned.{turned_save_round}
use Rattle.gc_worker.specs.Steps.Wanted.{wanted}
use Rattle.gc_worker.specs.Workers.Held.{Held}
use Rattle.gc_worker.specs.Workers.Saves.{reads_at, save_round_at, round_to, save_of_round, saver_of}
use Rattle.gc_worker.proofs.Saving.Checkpoints.CheckpointRoundEnds.{By, WithIt, comes_to, ends_round, follows, learnt, loads_it, no_reads, nothing_ends, pages, table_pages, without_round}
use Rattle.gc_worker.proofs.Saving.Frame.Step.{Before, SavesStep, saves}
use Rattle.gc_worker.proofs.Stages.Checkpoints.NextCheckpointStage.{round}
use Rattle.gc_worker.proofs.Stages.Checkpoints.Rounded.{at}
use Rattle.gc_worker.proofs.Stages.Rounds.RoundWords.{page_now, page_says}

-- ---- the round before a page and after it

module _ (r : SavingRound) (page : ℕ) where
  abbrev n : ℕ
  n = r.layout.pages

  to_page_is : to_page r ≡ n * to_space r.epoch
  to_page_is = omega arith

  -- once it has passed the page
  abbrev pub passed : Bool → SaveRound
  passed busy = round_past r.number r.epoch (page_after r page) busy

  module _ (busy : Bool) where
    abbrev pub now : SaveRound
    now = round_to r page busy

    epoch_by : (b : Bool) → (page == board_page n) ≡ b → now.epoch ≡ r.epoch
    epoch_by true test = rw test refl
    epoch_by false test = rw test refl

    number_by : (b : Bool) → (page == board_page n) ≡ b → now.number ≡ r.number
    number_by true test = rw test refl
    number_by false test = rw test refl

    upto_by : (b : Bool) → (page == board_page n) ≡ b → page ≢ board_page n → now.upto ≡ page
    upto_by true test other = absurd (other (eqb-true page (board_page n) test))
    upto_by false test other = rw test refl

    closed_by : (b : Bool) → (page == board_page n) ≡ b → round_passing n now page ≡ passed busy
    closed_by true test = rw (test, to_page_is) refl
    closed_by false test = rw test refl

    kept_by : (b : Bool) → (page == board_page n) ≡ b → round_passing n (record now { opened = Some page }) page ≡ passed busy
    kept_by true test = rw (test, to_page_is) refl
    kept_by false test = rw test refl

    busy_by : (b : Bool) → (page == board_page n) ≡ b → round_passing n (record now { opened = Some page; busy = true }) page ≡ passed true
    busy_by true test = rw (test, to_page_is) refl
    busy_by false test = rw test refl

    pub epoch_is : now.epoch ≡ r.epoch
    epoch_is = epoch_by (page == board_page n) refl

    pub number_is : now.number ≡ r.number
    number_is = number_by (page == board_page n) refl

    pub next_is : IsNextPage n now page
    next_is other = upto_by (page == board_page n) refl other

    pub passes_closed : round_passing n now page ≡ passed busy
    passes_closed = closed_by (page == board_page n) refl

    pub passes_kept : round_passing n (record now { opened = Some page }) page ≡ passed busy
    passes_kept = kept_by (page == board_page n) refl

    pub passes_busy : round_passing n (record now { opened = Some page; busy = true }) page ≡ passed true
    passes_busy = busy_by (page == board_page n) refl

  -- ---- the page after it

  module _ (fits : IsRoundPage r page) (some : 0 < n) where
    -- it is one of the space, if there is one more
    pub goes_past : (busy : Bool) → page_after r page < to_page r + n → round_to r (page_after r page) busy ≡ passed busy
    goes_past busy more =
        let low = to_page-le r in
        let other : page_after r page ≢ board_page n = λ same. absurd (omega (arith, same, more, low)) in
        rw (ne_eqb (page_after r page) (board_page n) other) refl

    next_by : (b : Bool) → (page == board_page n) ≡ b → to_page r + n ≤ page_after r page → page_after r page ≡ n * to_space r.epoch + n
    next_by true test none =
        let after : page_after r page ≡ to_page r = rw test refl in
        absurd (omega (arith, after, none, some))
    next_by false test none =
        let after : page_after r page ≡ page + 1 = rw test refl in
        let high = fits.high (eqb-false page (board_page n) test) in
        let same = to_page_is in
        omega (arith, after, none, high, same)

    -- or all of them are passed
    pub goes_last : to_page r + n ≤ page_after r page → passed false ≡ round_past r.number r.epoch (n * to_space r.epoch + n) false
    goes_last none = ap (λ (m : ℕ). round_past r.number r.epoch m false) (next_by (page == board_page n) refl none)

    -- of those that may be saved
    page_of_by : (b : Bool) → (page == board_page n) ≡ b → IsPageOf n r.epoch page
    unfolding IsPageOf
    page_of_by true test = inl (eqb-true page (board_page n) test)
    page_of_by false test =
        let other = eqb-false page (board_page n) test in
        let low = fits.low other in
        let high = fits.high other in
        let same = to_page_is in
        inr (omega (arith, low, same), omega (arith, high, same))

    pub page_of_round : IsPageOf n r.epoch page
    page_of_round = page_of_by (page == board_page n) refl

module _ (c : Configuration) (p : Plain) (z : Frozen) (saver : ℕ → Saver) (k : ℕ) (y : Held) (r : SavingRound) (goal : Goal) where
  abbrev Stage : SaveRoundStage → Held
  Stage stage = at y (round r stage) goal

  -- ---- a page is passed

  module _ (stage : SaveRoundStage) (b : Before c p z saver k (Stage stage)) (first : reads_at r stage ≡ NoReads) (alone : save_of_round stage ≡ None) (page : ℕ) (fits : IsRoundPage r page) (some : 0 < r.layout.pages) where
    abbrev v : Saver
    v = saver_of (Stage stage)

    abbrev WithRound : SaveRound → Type 0
    WithRound q = WithIt c p z saver k y (round r stage) goal b (record v { round = Some q })

    abbrev Comes : Reply → Type 0
    Comes reply = By c p z saver k y (round r stage) goal b reply

    goes_by : (reply : Reply) (next : SaveRoundStage) (q : SaveRound) → save_round.taken (round r stage) reply ≡ round r next → save_round.told_at next ≡ More → saver_of (Stage next) ≡ record v { round = Some q } → WithRound q → Comes reply
    goes_by reply next q taken more same stands =
        comes_to c p z saver k y (round r stage) goal b reply (round r next) (record v { round = Some q }) taken
        (ap (λ (t : Turn SaveRoundEnd). saver_of (turned_save_round (Stage stage) (round r next) goal t)) more ∙ same) stands

    ends_by : (reply : Reply) (word : ℕ) → save_round.taken (round r stage) reply ≡ round r (Ended (NothingNow word)) → Comes reply
    ends_by reply word taken =
        comes_to c p z saver k y (round r stage) goal b reply (round r (Ended (NothingNow word))) (saver_after_round v) taken
        (ends_round y (round r stage) goal (NothingNow word) (nothing_ends goal word) alone first) (without_round c p z saver k y (round r stage) goal b)

    then_is : (next : SaveRoundStage) → reads_at r next ≡ NoReads → save_of_round next ≡ None → saver_of (Stage next) ≡ record v { round = save_round_at r next }
    then_is next none empty = follows y r goal stage next first none (empty ∙ sym alone)

    module _ (reply : Reply) where
      last_by : (busy : Option ℕ) → WithRound (passed r page (is_some busy)) → to_page r + r.layout.pages ≤ page_after r page → save_round.taken (round r stage) reply ≡ round r (after_pages busy) → Comes reply
      last_by (Some word) stands none taken = ends_by reply word taken
      last_by None stands none taken =
          goes_by reply ExchangesDone (passed r page false) taken refl
          (then_is ExchangesDone refl refl ∙ ap (λ (q : SaveRound). record v { round = Some q }) (sym (goes_last r page fits some none))) stands

      next_by_test : (busy : Option ℕ) (more : Bool) → nat_lt (page_after r page) (to_page r + r.layout.pages) ≡ more → WithRound (passed r page (is_some busy))
          → save_round.taken (round r stage) reply ≡ round r (cond more (LoadsPage (page_after r page) busy) (after_pages busy)) → Comes reply
      next_by_test busy true test stands taken =
          goes_by reply (LoadsPage (page_after r page) busy) (passed r page (is_some busy)) taken refl
          (then_is (LoadsPage (page_after r page) busy) refl refl
          ∙ ap (λ (q : SaveRound). record v { round = Some q }) (goes_past r page fits some (is_some busy) (ltb-true (page_after r page) (to_page r + r.layout.pages) test))) stands
      next_by_test busy false test stands taken = last_by busy stands (ltb-false (page_after r page) (to_page r + r.layout.pages) test) taken

      passes : (busy : Option ℕ) → WithRound (passed r page (is_some busy)) → save_round.taken (round r stage) reply ≡ round r (passed_page r page busy) → Comes reply
      passes busy stands taken = next_by_test busy (nat_lt (page_after r page) (to_page r + r.layout.pages)) refl stands taken

    -- what it learns of the page
    table_is : r.layout.pages ≡ (table c).pages
    table_is = table_pages c p z saver k y (round r stage) goal b

    of_round : (busy : Bool) → IsPageOf (table c).pages (now r page busy).epoch page
    of_round busy =
        subst (λ (m : ℕ). IsPageOf m (now r page busy).epoch page) table_is
        (subst (λ (e : ℕ). IsPageOf r.layout.pages e page) (sym (epoch_is r page busy)) (page_of_round r page fits some))

    next_page : (busy : Bool) → IsNextPage (table c).pages (now r page busy) page
    next_page busy = subst (λ (m : ℕ). IsNextPage m (now r page busy) page) table_is (next_is r page busy)

    passed_so : (q : SaveRound) (busy : Bool) → round_passing r.layout.pages q page ≡ passed r page busy → WithRound (round_passing (table c).pages q page) → WithRound (passed r page busy)
    passed_so q busy same stands = subst WithRound (ap (λ (m : ℕ). round_passing m q page) (sym table_is) ∙ same) stands

  -- ---- what PAGE says

  module _ (page : ℕ) (busy : Option ℕ) (b : Before c p z saver k (Stage (LoadsPage page busy))) where
    abbrev x : Held
    x = Stage (LoadsPage page busy)

    abbrev word : ℕ
    word = page_now c page

    abbrev fits : IsRoundPage r page
    fits = b.is.fits.stage.sound.stage

    some : 0 < r.layout.pages
    some = let few = b.is.fits.stage.sound.pages.0 in omega (arith, few)

    says : decode_page word ≡ Some ((table c).page page)
    says = let low = fits.in_table in let same = pages c p z saver k y (round r (LoadsPage page busy)) goal b in page_says c p b.stands page (omega (arith, low, same))

    opened : word ≡ encode_page (Open r.epoch) → (table c).page page ≡ Open r.epoch
    opened same = same_Some ((table c).page page) (Open r.epoch) (sym says ∙ (ap decode_page same ∙ decode_page-encode_page (Open r.epoch) b.is.fits.stage.sound.epoch))

    closed : word ≢ encode_page (Open r.epoch) → (table c).page page ≢ Open (now r page (is_some busy)).epoch
    closed other same = other (sym (encode_page-decode_page word (Open r.epoch) (says ∙ ap Some (same ∙ ap Open (epoch_is r page (is_some busy))))))

    learns : (w : Saver) → LearnsOfSaves (table c) (saves c) (saver_of x) w → WithIt c p z saver k y (round r (LoadsPage page busy)) goal b w
    learns = learnt c p z saver k y (round r (LoadsPage page busy)) goal b

    page_by : (open_now : Bool) → (word == encode_page (Open r.epoch)) ≡ open_now → By c p z saver k y (round r (LoadsPage page busy)) goal b (Value word)
    page_by true test =
        let q : SaveRound = record (now r page (is_some busy)) { opened = Some page } in
        goes_by (LoadsPage page busy) b refl refl page fits some (Value word) (LoadsSave page busy) q
        (ap (λ (t : Bool). round r (cond t (LoadsSave page busy) (passed_page r page busy))) test) refl (then_is (LoadsPage page busy) b refl refl page fits some (LoadsSave page busy) refl refl)
        (learns (record (saver_of x) { round = Some q })
        (FindsOpen (now r page (is_some busy)) page refl (of_round (LoadsPage page busy) b refl refl page fits some (is_some busy)) (opened (eqb-true word (encode_page (Open r.epoch)) test) ∙ ap Open (sym (epoch_is r page (is_some busy))))))
    page_by false test =
        passes (LoadsPage page busy) b refl refl page fits some (Value word) busy
        (passed_so (LoadsPage page busy) b refl refl page fits some (now r page (is_some busy)) (is_some busy) (passes_closed r page (is_some busy))
        (learns (record (saver_of x) { round = Some (round_passing (table c).pages (now r page (is_some busy)) page) })
        (PassesClosed (now r page (is_some busy)) page refl (next_page (LoadsPage page busy) b refl refl page fits some (is_some busy)) (closed (eqb-false word (encode_page (Open r.epoch)) test)))))
        (ap (λ (t : Bool). round r (cond t (LoadsSave page busy) (passed_page r page busy))) test)

    loads_page : (q : Step) → wanted x ≡ Some q → SavesStep c p saver k x q
    loads_page = loads_it c p z saver k y (round r (LoadsPage page busy)) goal b (Within (Page page)) fits.in_table refl (page_by (word == encode_page (Open r.epoch)) refl)

  -- ---- what SAVE says

  module _ (page : ℕ) (busy : Option ℕ) (b : Before c p z saver k (Stage (LoadsSave page busy))) where
    abbrev x_save : Held
    x_save = Stage (LoadsSave page busy)

    abbrev word_save : ℕ
    word_save = word_in_whole c.pages c.words (Behind (SaveOf page))

    abbrev fits_save : IsRoundPage r page
    fits_save = b.is.fits.stage.sound.stage

    some_save : 0 < r.layout.pages
    some_save = let few = b.is.fits.stage.sound.pages.0 in omega (arith, few)

    below : page ≤ 2 * c.pages
    below = let low = fits_save.in_table in let same = pages c p z saver k y (round r (LoadsSave page busy)) goal b in omega (arith, low, same)

    reads_it : decode_save word_save ≡ Some ((saves c).save page)
    reads_it = says_are_found.loaded c.pages c.words page b.formed below

    abbrev found : SaveRound
    found = record (now r page (is_some busy)) { opened = Some page }

    knows_it : (w : Saver) → LearnsOfSaves (table c) (saves c) (saver_of x_save) w → WithIt c p z saver k y (round r (LoadsSave page busy)) goal b w
    knows_it = learnt c p z saver k y (round r (LoadsSave page busy)) goal b

    module _ (says : SaveWord) (is : (saves c).save page ≡ says) where
      taken_by : (state : SaveState) → state_of says r.number ≡ state
          → save_round.taken (round r (LoadsSave page busy)) (Value word_save) ≡ round r (looked_by r page busy word_save says state)
      taken_by state test =
          ap (λ (o : Option SaveWord). round r (looked_at_save r page busy word_save o)) (reads_it ∙ ap Some is) ∙ ap (λ (s : SaveState). round r (looked_by r page busy word_save says s)) test

      abbrev Looked : Type 0
      Looked = By c p z saver k y (round r (LoadsSave page busy)) goal b (Value word_save)

      -- it is saved next
      begins : number_of says < r.number → state_of says r.number ≡ Waits → Looked
      begins earlier test =
          let s = saver_of x_save in
          let own : found.number ≡ r.number = number_is r page (is_some busy) in
          let w : Saver = record s { save = Some (save_begun page found.number says); round = Some (round_begun (table c).pages found.number found.epoch) } in
          let next = Saves (save.begun r.layout page says r.number r.worker) in
          let reads = no_reads y (round r next) goal refl ∙ sym (no_reads y (round r (LoadsSave page busy)) goal refl) in
          let as_next : saver_of (Stage next) ≡ w = (λ i. record s {
            save = Some (save_begun page (sym own i) says);
            reads = reads i;
            round = Some (round_begun (table_is (LoadsSave page busy) b refl refl page fits_save some_save i) (sym own i) (sym (epoch_is r page (is_some busy)) i));
          }) in
          comes_to c p z saver k y (round r (LoadsSave page busy)) goal b (Value word_save) (round r next) w (taken_by Waits test) as_next
          (knows_it w (BeginsSaving found page says refl refl refl is (subst (λ (m : ℕ). number_of says < m) (sym own) earlier)))

      -- it is passed
      passes_it : number_of says ≡ r.number → ((worker : ℕ) → says ≢ Saving r.number worker) → state_of says r.number ≡ Kept → Looked
      passes_it same other test =
          let own : found.number ≡ r.number = number_is r page (is_some busy) in
          passes (LoadsSave page busy) b refl refl page fits_save some_save (Value word_save) busy
          (passed_so (LoadsSave page busy) b refl refl page fits_save some_save found (is_some busy) (passes_kept r page (is_some busy))
          (knows_it (record (saver_of x_save) { round = Some (round_passing (table c).pages found page) })
          (PassesKept found page says refl (next_page (LoadsSave page busy) b refl refl page fits_save some_save (is_some busy)) is (same ∙ sym own)
          (λ worker at. other worker (at ∙ ap (λ (m : ℕ). Saving m worker) own))))) (taken_by Kept test)

      passes_busy_one : state_of says r.number ≡ Copying → Looked
      passes_busy_one test =
          passes (LoadsSave page busy) b refl refl page fits_save some_save (Value word_save) (Some word_save)
          (passed_so (LoadsSave page busy) b refl refl page fits_save some_save (record found { busy = true }) true (passes_busy r page (is_some busy))
          (knows_it (record (saver_of x_save) { round = Some (round_passing (table c).pages (record found { busy = true }) page) })
          (PassesBusy found page refl (next_page (LoadsSave page busy) b refl refl page fits_save some_save (is_some busy))))) (taken_by Copying test)

      ends_past : state_of says r.number ≡ Past → Looked
      ends_past test = ends_by (LoadsSave page busy) b refl refl page fits_save some_save (Value word_save) word_save (taken_by Past test)

    -- of this checkpoint
    own_by : (says : SaveWord) (is : (saves c).save page ≡ says) → number_of says ≡ r.number → state_of says r.number ≡ state_within says → Looked says is
    own_by (Saving number worker) is same test = passes_busy_one (Saving number worker) is test
    own_by Unsaved is same test = passes_it Unsaved is same (λ worker at. absurd (cc)) test
    own_by (Saved number) is same test = passes_it (Saved number) is same (λ worker at. absurd (cc)) test
    own_by (New number) is same test = passes_it (New number) is same (λ worker at. absurd (cc)) test

    looks_by : (says : SaveWord) (is : (saves c).save page ≡ says) (earlier own : Bool) → nat_lt (number_of says) r.number ≡ earlier → (number_of says == r.number) ≡ own → Looked says is
    looks_by says is true own test same = begins says is (ltb-true (number_of says) r.number test) (rw test refl)
    looks_by says is false true test same = own_by says is (eqb-true (number_of says) r.number same) (rw (test, same) refl)
    looks_by says is false false test same = ends_past says is (rw (test, same) refl)

    loads_save : (q : Step) → wanted x_save ≡ Some q → SavesStep c p saver k x_save q
    loads_save =
        let says = (saves c).save page in
        loads_it c p z saver k y (round r (LoadsSave page busy)) goal b (Behind (SaveOf page)) fits_save.in_table refl
        (looks_by says refl (nat_lt (number_of says) r.number) (number_of says == r.number) refl refl)

  -- ---- each look

  pub looks : (stage : SaveRoundStage) → LooksAtPage stage → Before c p z saver k (Stage stage) → (q : Step) → wanted (Stage stage) ≡ Some q
      → SavesStep c p saver k (Stage stage) q
  looks (LoadsPage page busy) at b = loads_page page busy b
  looks (LoadsSave page busy) at b = loads_save page busy b
  looks _ at b = elim at [ ]
