-- The loads of a save round by a lone mutator: each takes it on, and the round finds no page that another worker saves.
use Rattle.std.proofs.Common.{◌≡◌, ℕ, ◌+◌, ◌*◌, ◌<◌, ◌≤◌, ◌^◌, ◌==◌, Bool, true, false, cond, nat_lt, Option, Some, refl, sym, ap, subst, ◌∙◌, arith}
use Rattle.std.specs.Prelude.{is_some}
use Rattle.std.proofs.lemmas.Bool.{eqb-false, lt-ltb, ltb-false}
use Rattle.plain_state.specs.State.{Plain}
use Rattle.atom_store.specs.declared.reply.Reply.{Reply}
use Rattle.atom_store.specs.declared.reply.Reply.TheVariants.{Value}
use Rattle.space_map.specs.declared.page_word.PageWord.TheVariants.{Open}
use Rattle.space_map.specs.declared.save_word.SaveWord.{SaveWord}
use Rattle.space_map.specs.declared.save_word.SaveWord.TheVariants.{Unsaved, Saving, Saved, New}
use Rattle.space_map.specs.PageWord.{encode_page}
use Rattle.space_map.specs.SaveWord.{decode_save, number_of}
use Rattle.space_map.specs.Table.{SnapNumber, LastSaved, Page, SaveOf}
use Rattle.space_map.specs.WholeTable.{Within, Behind}
use Rattle.heap_state.specs.Configuration.{Configuration, Stands, table}
use Rattle.heap_state.specs.Memory.Entries.{word_in_whole}
use Rattle.heap_state.specs.Memory.Table.{word_in}
use Rattle.heap_laws.proofs.Saving.Pages.Writes.{says_are_found}
use Rattle.page_saves.specs.declared.save_caller.SaveCaller.{SaveCaller}
use Rattle.page_saves.specs.declared.save_caller.SaveCaller.TheVariants.{Mutates}
use Rattle.page_saves.specs.declared.save_round_end.SaveRoundEnd.TheVariants.{NoneRuns}
use Rattle.page_saves.specs.declared.save_round_stage.SaveRoundStage.{SaveRoundStage}
use Rattle.page_saves.specs.declared.save_round_stage.SaveRoundStage.TheVariants.{LoadsSnap, LoadsDone, LoadsPage, LoadsSave, Saves, ExchangesDone, Ended}
use Rattle.page_saves.specs.declared.save_state.SaveState.{SaveState}
use Rattle.page_saves.specs.declared.save_state.SaveState.TheVariants.{Waits, Kept}
use Rattle.page_saves.specs.RoundTheorems.{LooksAtPage}
use Rattle.page_saves.specs.Save as save
use Rattle.page_saves.specs.SaveRound as save_round
use Rattle.page_saves.specs.SaveRound.{SavingRound, after_pages, first_page, found_done, found_snap, looked_at_save, looked_by, number_in, page_after, passed_page, to_page}
use Rattle.page_saves.specs.SaveState.{state_of, state_within}
use Rattle.gc_worker.specs.declared.stage.goal.Goal.{Goal}
use Rattle.gc_worker.specs.Steps.Turned.{turned_save_round}
use Rattle.gc_worker.specs.Workers.Held.{Held, at_stage}
use Rattle.gc_worker.proofs.Saving.Frame.Read.{done_now, snap_now}
use Rattle.gc_worker.proofs.Stages.Checkpoints.NextCheckpointStage.{round}
use Rattle.gc_worker.proofs.Stages.Checkpoints.Rounded.{at}
use Rattle.gc_worker.proofs.Stages.Rounds.RoundWords.{page_now}
use Rattle.lone_mutator.specs.Law.{IsAlone, Lowers, StepsLower, saves}
use Rattle.lone_mutator.specs.Lone.{IsRoundFree}
use Rattle.lone_mutator.specs.Potential.{save_round_left}
use Rattle.lone_mutator.proofs.Steps.Owed.{Owes}
use Rattle.lone_mutator.proofs.Stages.Checkpoints.NextCheckpointCost.{asks_so, goes_on, loads_it, mutates, of_mutator, own_snap, pages, past_goal, stands}

-- a word that is a checkpoint's number
pub is_number : (word : ℕ) → word < 2 ^ 32 → number_in word ≡ Some word
is_number word fits = rw (lt-ltb word (2 ^ 32) fits) refl

module _ (c : Configuration) (p : Plain) (s : Stands c p) (y : Held) (r : SavingRound) (goal : Goal) where
  abbrev Stage : SaveRoundStage → Held
  Stage stage = at y (round r stage) goal

  -- ---- SNAP

  module _ (a : IsAlone c (Stage LoadsSnap)) where
    abbrev snap : ℕ
    snap = word_in c.pages c.words SnapNumber

    snap_fits : snap < 2 ^ 32
    snap_fits = let order = (stands c p s y r goal LoadsSnap a).words.order in let same = snap_now c in omega (arith, order, same)

    pub loads_snap : StepsLower c (Stage LoadsSnap)
    loads_snap =
        loads_it c p s y r goal LoadsSnap a (Within SnapNumber) tt refl
        (goes_on c p s y r goal LoadsSnap a (Value snap) (record r { number = snap; stage = LoadsDone })
        (ap (found_snap (round r LoadsSnap)) (is_number snap snap_fits)) refl refl refl tt (lt-ltb snap (2 ^ 32) snap_fits))

  -- ---- DONE

  module _ (a : IsAlone c (Stage LoadsDone)) where
    abbrev x : Held
    x = Stage LoadsDone

    abbrev done : ℕ
    done = word_in c.pages c.words LastSaved

    own : r.number ≡ (saves c).snap
    own = (of_mutator c p s y r goal LoadsDone a).number ∙ own_snap c p s y r goal LoadsDone a

    done_fits : done < 2 ^ 32
    done_fits = let order = (stands c p s y r goal LoadsDone a).words.order in let same = done_now c in omega (arith, order, same)

    abbrev after_done : (none : Bool) → SaveCaller → SaveRoundStage
    after_done none caller = cond none (Ended (NoneRuns done)) (save_round.when_one_runs r caller)

    found : (none : Bool) → (done == r.number) ≡ none → found_done (round r LoadsDone) (number_in done) ≡ after_done none Mutates
    found none test = let fits = lt-ltb done (2 ^ 32) done_fits in let by = (of_mutator c p s y r goal LoadsDone a).caller in rw (fits, test, by) refl

    -- none is in progress, and it asks
    asks : (done == r.number) ≡ true → Owes c p s x (table c) (Value done)
    asks test =
        subst (λ (z : SaveRoundStage). Lowers c.pages (saves c) (table c) (table c) x (turned_save_round x (round r z) goal (save_round.told_at z))) (sym (found true test))
        (subst (λ z. Lowers c.pages (saves c) (table c) (table c) x (at_stage x z)) (sym (asks_so x goal done (mutates c p s y r goal LoadsDone a)))
        (record {
          remembers = record { began = λ past. a.remembers.began (past_goal goal (mutates c p s y r goal LoadsDone a)); quiet = a.remembers.quiet; stands = (tt, tt) };
          falls = omega arith;
        }))

    -- one is, and it looks at its pages
    runs : (done == r.number) ≡ false → (saves c).done < (saves c).snap
    runs test =
        let order = (stands c p s y r goal LoadsDone a).words.order in
        let other = eqb-false done r.number test in
        let same = done_now c in
        let n = own in
        omega (arith, order, other, same, n)

    by_done : (none : Bool) → (done == r.number) ≡ none → Owes c p s x (table c) (Value done)
    by_done true test = asks test
    by_done false test = goes_on c p s y r goal LoadsDone a (Value done) (round r (first_page r)) (ap (round r) (found false test)) refl refl refl (runs test, refl) (lt-ltb done (2 ^ 32) done_fits)

    pub loads_done : StepsLower c x
    loads_done = loads_it c p s y r goal LoadsDone a (Within LastSaved) tt refl (by_done (done == r.number) refl)

  -- ---- a page is passed

  module _ (stage : SaveRoundStage) (a : IsAlone c (Stage stage)) (page : ℕ) (busy : Option ℕ) (reply : Reply) (unpaid : save_round_left c.pages stage ≡ 0)
      (known : IsRoundFree (saves c) busy) (advances : save_round.advances_at stage reply ≡ true) where
    abbrev Takes : SaveRoundStage → Type 0
    Takes next = save_round.taken (round r stage) reply ≡ round r next

    abbrev next : Bool → SaveRoundStage
    next more = cond more (LoadsPage (page_after r page) busy) (after_pages busy)

    next_by : (more : Bool) → Takes (next more) → Owes c p s (Stage stage) (table c) reply
    next_by true takes = goes_on c p s y r goal stage a reply (round r (LoadsPage (page_after r page) busy)) takes refl unpaid refl known advances
    next_by false takes =
        goes_on c p s y r goal stage a reply (round r ExchangesDone) (takes ∙ ap (λ (b : Option ℕ). round r (after_pages b)) known.1) refl unpaid refl known.0 advances

    passes : Takes (passed_page r page busy) → Owes c p s (Stage stage) (table c) reply
    passes takes = next_by (nat_lt (page_after r page) (to_page r + r.layout.pages)) takes

  -- ---- what PAGE says

  module _ (page : ℕ) (busy : Option ℕ) (a : IsAlone c (Stage (LoadsPage page busy))) where
    abbrev word : ℕ
    word = page_now c page

    abbrev after_page : Bool → SaveRoundStage
    after_page opened = cond opened (LoadsSave page busy) (passed_page r page busy)

    by_page : (opened : Bool) → save_round.taken (round r (LoadsPage page busy)) (Value word) ≡ round r (after_page opened) → Owes c p s (Stage (LoadsPage page busy)) (table c) (Value word)
    by_page true takes = goes_on c p s y r goal (LoadsPage page busy) a (Value word) (round r (LoadsSave page busy)) takes refl refl refl a.remembers.stands.0 refl
    by_page false takes = passes (LoadsPage page busy) a page busy (Value word) refl a.remembers.stands.0 refl takes

    loads_page : StepsLower c (Stage (LoadsPage page busy))
    loads_page =
        loads_it c p s y r goal (LoadsPage page busy) a (Within (Page page))
        (let in_table = a.is.fits.stage.sound.stage.in_table in let n = pages c p s y r goal (LoadsPage page busy) a in omega (arith, in_table, n)) refl
        (by_page (word == encode_page (Open r.epoch)) refl)

  -- ---- what SAVE says

  module _ (page : ℕ) (busy : Option ℕ) (a : IsAlone c (Stage (LoadsSave page busy))) where
    abbrev z : Held
    z = Stage (LoadsSave page busy)

    abbrev said : ℕ
    said = word_in_whole c.pages c.words (Behind (SaveOf page))

    below : page ≤ 2 * c.pages
    below = let in_table = a.is.fits.stage.sound.stage.in_table in let n = pages c p s y r goal (LoadsSave page busy) a in omega (arith, in_table, n)

    reads : decode_save said ≡ Some ((saves c).save page)
    reads = says_are_found.loaded c.pages c.words page (stands c p s y r goal (LoadsSave page busy) a).formed below

    own_number : r.number ≡ (saves c).snap
    own_number = (of_mutator c p s y r goal (LoadsSave page busy) a).number ∙ own_snap c p s y r goal (LoadsSave page busy) a

    module _ (says : SaveWord) (is : (saves c).save page ≡ says) where
      takes : (state : SaveState) → state_of says r.number ≡ state → save_round.taken (round r (LoadsSave page busy)) (Value said) ≡ round r (looked_by r page busy said says state)
      takes state test =
          ap (λ (o : Option SaveWord). round r (looked_at_save r page busy said o)) (reads ∙ ap Some is) ∙ ap (λ (t : SaveState). round r (looked_by r page busy said says t)) test

      advances : save_round.advances_at (LoadsSave page busy) (Value said) ≡ true
      advances = ap is_some reads

      -- it is saved next
      waits : state_of says r.number ≡ Waits → Owes c p s z (table c) (Value said)
      waits test = goes_on c p s y r goal (LoadsSave page busy) a (Value said) (round r (Saves (save.begun r.layout page says r.number r.worker))) (takes Waits test) refl refl refl is advances

      -- or it is saved, or new
      kept : state_of says r.number ≡ Kept → Owes c p s z (table c) (Value said)
      kept test = passes (LoadsSave page busy) a page busy (Value said) refl a.remembers.stands.0 advances (takes Kept test)

    -- nobody else saves it
    own_by : (says : SaveWord) → (saves c).save page ≡ says → state_of says r.number ≡ state_within says → Owes c p s z (table c) (Value said)
    own_by (Saving number worker) is test = absurd (let none = ((stands c p s y r goal (LoadsSave page busy) a).savers page number worker is).is in cc)
    own_by Unsaved is test = kept Unsaved is test
    own_by (Saved number) is test = kept (Saved number) is test
    own_by (New number) is test = kept (New number) is test

    looks_by : (says : SaveWord) → (saves c).save page ≡ says → (earlier same : Bool) → nat_lt (number_of says) r.number ≡ earlier → (number_of says == r.number) ≡ same
        → Owes c p s z (table c) (Value said)
    looks_by says is true same earlier test = waits says is (rw earlier refl)
    looks_by says is false true earlier test = own_by says is (rw (earlier, test) refl)
    looks_by says is false false earlier test =
        let young = (stands c p s y r goal (LoadsSave page busy) a).words.young page in
        let low = ltb-false (number_of says) r.number earlier in
        let other = eqb-false (number_of says) r.number test in
        let own = own_number in
        let same = ap number_of is in
        absurd (omega (arith, young, low, other, own, same))

    loads_save : StepsLower c z
    loads_save =
        let says = (saves c).save page in
        loads_it c p s y r goal (LoadsSave page busy) a (Behind (SaveOf page)) below refl
        (looks_by says refl (nat_lt (number_of says) r.number) (number_of says == r.number) refl refl)

  -- ---- each look

  pub looks : (stage : SaveRoundStage) → LooksAtPage stage → IsAlone c (Stage stage) → StepsLower c (Stage stage)
  looks (LoadsPage page busy) at a = loads_page page busy a
  looks (LoadsSave page busy) at a = loads_save page busy a
  looks _ at a = elim at [ ]
