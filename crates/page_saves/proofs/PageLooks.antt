-- A look at a page, or at what is said of one: where the round goes on from there, and what it then tells.
use Rattle.std.proofs.Common.{◌≡◌, ◌≢◌, ℕ, ◌+◌, Bool, true, false, cond, nat_eq, nat_lt, List, Option, Some, None, arith, refl, ap, ◌∙◌}
use Rattle.std.specs.Prelude.{⊤}
use Rattle.std.proofs.lemmas.Bool.Decides.{nat_tests}
use Rattle.atom_store.specs.declared.reply.Reply.{Reply}
use Rattle.atom_store.specs.declared.reply.Reply.TheVariants.{Value, Won, Lost}
use Rattle.atom_store.specs.declared.turn.Turn.{Turn}
use Rattle.atom_store.specs.declared.turn.Turn.TheVariants.{More, Finished}
use Rattle.atom_store.specs.Acts.{MakesStep}
use Rattle.space_map.specs.declared.page_word.PageWord.TheVariants.{Open}
use Rattle.space_map.specs.declared.save_word.SaveWord.{SaveWord}
use Rattle.space_map.specs.PageWord.{encode_page}
use Rattle.space_map.specs.SaveWord.{decode_save}
use Rattle.space_map.specs.Table.{Page, SaveOf}
use Rattle.space_map.specs.WholeTable.{Within, Behind}
use Rattle.page_saves.specs.declared.save_end.SaveEnd.{SaveEnd}
use Rattle.page_saves.specs.declared.save_round_end.SaveRoundEnd.{SaveRoundEnd}
use Rattle.page_saves.specs.declared.save_round_end.SaveRoundEnd.TheVariants.{Marked, NothingNow}
use Rattle.page_saves.specs.declared.save_round_stage.SaveRoundStage.{SaveRoundStage}
use Rattle.page_saves.specs.declared.save_round_stage.SaveRoundStage.TheVariants.{LoadsGate, LoadsSnap, LoadsDone, LoadsGateAgain, LoadsPage, LoadsSave, Saves, ExchangesDone, Ended}
use Rattle.page_saves.specs.declared.save_state.SaveState.{SaveState}
use Rattle.page_saves.specs.declared.save_state.SaveState.TheVariants.{Waits, Copying, Kept, Past}
use Rattle.page_saves.specs.RoundTheorems.{IsLastPage, LooksAtPage, ShowsByPage, ShowsNothingToSave, OfLater, BusyBefore, BusyHere, word_of_row}
use Rattle.page_saves.specs.Save.{PageSaving}
use Rattle.page_saves.specs.Save as save
use Rattle.page_saves.specs.SaveRound.{SavingRound, after_pages, at_stage, looked_at_page, looked_at_save, looked_by, page_after, passed_page, save_round_machine, save_went, taken_at, to_page, told_at}
use Rattle.page_saves.specs.SaveState.{state_of}
use Rattle.page_saves.proofs.RoundEnds.{says_state}

-- ---- where it goes on

-- a page that is open is looked at further, any other is passed
pub of_page : (P : SaveRoundStage → Type 0) (r : SavingRound) (page : ℕ) (busy : Option ℕ) (word : ℕ)
    → (word ≡ encode_page (Open r.epoch) → P (LoadsSave page busy)) → (word ≢ encode_page (Open r.epoch) → P (passed_page r page busy))
    → P (looked_at_page r page busy word)
of_page P r page busy word opened passed = by_test (nat_eq word (encode_page (Open r.epoch))) refl
  where
    by_test : (b : Bool) → nat_eq word (encode_page (Open r.epoch)) ≡ b → P (cond b (LoadsSave page busy) (passed_page r page busy))
    by_test true test = opened (grind (arith, nat_tests))
    by_test false test = passed (grind (arith, nat_tests))

-- the first loads, which show whether a checkpoint runs, are behind it
abbrev pub IsPastReads : SaveRoundStage → Type 0
IsPastReads LoadsGate = ⊥
IsPastReads LoadsSnap = ⊥
IsPastReads LoadsDone = ⊥
IsPastReads LoadsGateAgain = ⊥
IsPastReads _ = ⊤

past_after : (busy : Option ℕ) → IsPastReads (after_pages busy)
past_after (Some word) = tt
past_after None = tt

past_passed : (r : SavingRound) (page : ℕ) (busy : Option ℕ) → IsPastReads (passed_page r page busy)
past_passed r page busy = by_test (nat_lt (page_after r page) (to_page r + r.layout.pages))
  where
    by_test : (more : Bool) → IsPastReads (cond more (LoadsPage (page_after r page) busy) (after_pages busy))
    by_test true = tt
    by_test false = past_after busy

past_by : (r : SavingRound) (page : ℕ) (busy : Option ℕ) (word : ℕ) (says : SaveWord) (state : SaveState) → IsPastReads (looked_by r page busy word says state)
past_by r page busy word says Copying = past_passed r page (Some word)
past_by r page busy word says Kept = past_passed r page busy
past_by r page busy word says _ = tt

past_save : (r : SavingRound) (page : ℕ) (busy : Option ℕ) (word : ℕ) (o : Option SaveWord) → IsPastReads (looked_at_save r page busy word o)
past_save r page busy word (Some says) = past_by r page busy word says (state_of says r.number)
past_save r page busy word None = tt

past_went : (s : PageSaving) (turn : Turn SaveEnd) → IsPastReads (save_went s turn)
past_went s More = tt
past_went s (Finished result) = tt

-- they stay behind it, and nothing that it has read changes
pub record GoesPast (r q : SavingRound) : Type 0 where
  pub next : SaveRoundStage
  pub past : IsPastReads next
  pub is : q ≡ at_stage r next

pub goes_past : (r : SavingRound) (stage : SaveRoundStage) (answer : Reply) → IsPastReads stage → GoesPast r (taken_at (at_stage r stage) stage answer)
goes_past r (LoadsPage page busy) (Value word) past =
    record { next = looked_at_page r page busy word; past = of_page IsPastReads r page busy word (λ opened. tt) (λ other. past_passed r page busy); is = refl }
goes_past r (LoadsSave page busy) (Value word) past =
    record { next = looked_at_save r page busy word (decode_save word); past = past_save r page busy word (decode_save word); is = refl }
goes_past r (Saves s) answer past =
    record { next = save_went (save.taken s answer) (save.told (save.taken s answer)); past = past_went _ (save.told (save.taken s answer)); is = refl }
goes_past r ExchangesDone Won past = record { next = Ended Marked; past = tt; is = refl }
goes_past r ExchangesDone (Lost word) past = record { next = Ended (NothingNow word); past = tt; is = refl }
goes_past r LoadsGate answer past = absurd past
goes_past r LoadsSnap answer past = absurd past
goes_past r LoadsDone answer past = absurd past
goes_past r LoadsGateAgain answer past = absurd past
goes_past r stage answer past = record { next = stage; past = past; is = refl }

-- ---- what it tells

-- behind the last page the word was told by which a page was found being saved
record PassedEnds (r : SavingRound) (page : ℕ) (busy : Option ℕ) (result : SaveRoundEnd) : Type 0 where
  word : ℕ
  told_word : result ≡ NothingNow word
  busy_page : busy ≡ Some word
  last : IsLastPage r page

passed_ends : (r : SavingRound) (page : ℕ) (busy : Option ℕ) (result : SaveRoundEnd) → told_at (passed_page r page busy) ≡ Finished result
    → PassedEnds r page busy result
passed_ends r page busy result tells = by_test (nat_lt (page_after r page) (to_page r + r.layout.pages)) refl tells
  where
    after : IsLastPage r page → (busy : Option ℕ) → told_at (after_pages busy) ≡ Finished result → PassedEnds r page busy result
    after last (Some word) e = record { word = word; told_word = cc; busy_page = refl; last = last }
    after last None e = cc

    by_test : (b : Bool) → nat_lt (page_after r page) (to_page r + r.layout.pages) ≡ b
        → told_at (cond b (LoadsPage (page_after r page) busy) (after_pages busy)) ≡ Finished result → PassedEnds r page busy result
    by_test true test e = cc
    by_test false test e = after (grind (arith, nat_tests)) busy e

-- and the page isn't open
page_ends : (r : SavingRound) (page loaded : ℕ) (busy : Option ℕ) (result : SaveRoundEnd) → told_at (looked_at_page r page busy loaded) ≡ Finished result
    → PassedEnds r page busy result × (loaded ≢ encode_page (Open r.epoch))
page_ends r page loaded busy result =
    of_page (λ z. told_at z ≡ Finished result → PassedEnds r page busy result × (loaded ≢ encode_page (Open r.epoch))) r page busy loaded
    (λ opened tells. cc) (λ other tells. (passed_ends r page busy result tells, other))

-- a word was told by what is said of the page, or was said of one before it
record SaveEnds (r : SavingRound) (page loaded : ℕ) (busy : Option ℕ) (result : SaveRoundEnd) : Type 0 where
  word : ℕ
  told_word : result ≡ NothingNow word
  shows : ShowsByPage r page busy loaded word

-- the word by which this page was found being saved
loaded_word : (loaded word : ℕ) → Some loaded ≡ Some word → word ≡ loaded
loaded_word loaded word same = cc

state_ends : (r : SavingRound) (page loaded : ℕ) (busy : Option ℕ) (result : SaveRoundEnd) (says : SaveWord) (state : SaveState) → state_of says r.number ≡ state
    → decode_save loaded ≡ Some says → told_at (looked_by r page busy loaded says state) ≡ Finished result → SaveEnds r page loaded busy result
state_ends r page loaded busy result says Waits is reads tells = cc
state_ends r page loaded busy result says Copying is reads tells =
    let ends = passed_ends r page (Some loaded) result tells in
    let by = (says_state says r.number).copying is in
    let same = loaded_word loaded ends.word ends.busy_page in
    record { word = ends.word; told_word = ends.told_word; shows = BusyHere same by.0 (ap decode_save same ∙ reads ∙ ap Some by.1) ends.last }
state_ends r page loaded busy result says Kept is reads tells =
    let ends = passed_ends r page busy result tells in record { word = ends.word; told_word = ends.told_word; shows = BusyBefore ends.busy_page ends.last }
state_ends r page loaded busy result says Past is reads tells =
    record { word = loaded; told_word = cc; shows = OfLater refl says reads ((says_state says r.number).past is) }

look_ends : (r : SavingRound) (page loaded : ℕ) (busy : Option ℕ) (result : SaveRoundEnd) (o : Option SaveWord) → decode_save loaded ≡ o
    → told_at (looked_at_save r page busy loaded o) ≡ Finished result → SaveEnds r page loaded busy result
look_ends r page loaded busy result (Some says) reads tells = state_ends r page loaded busy result says (state_of says r.number) refl reads tells
look_ends r page loaded busy result None reads tells = cc

-- so a look tells that there is nothing to do now, by a word that shows it
pub record LookEnds (r : SavingRound) (stage : SaveRoundStage) (before after : List ℕ) (result : SaveRoundEnd) : Type 0 where
  pub word : ℕ
  pub told_word : result ≡ NothingNow word
  pub shows : ShowsNothingToSave r stage before word
  pub stays : after ≡ before

pub looks_end : (r : SavingRound) (stage : SaveRoundStage) (before after : List ℕ) (result : SaveRoundEnd) → LooksAtPage stage
    → MakesStep save_round_machine (at_stage r stage) before after (Finished result) → LookEnds (at_stage r stage) stage before after result
looks_end r (LoadsPage page busy) before after result at acts =
    let ends = page_ends (at_stage r (LoadsPage page busy)) page (word_of_row r (Within (Page page)) before) busy result acts.tells in
    record { word = ends.0.word; told_word = ends.0.told_word; shows = (ends.1, ends.0.busy_page, ends.0.last); stays = acts.makes }
looks_end r (LoadsSave page busy) before after result at acts =
    let ends = look_ends (at_stage r (LoadsSave page busy)) page (word_of_row r (Behind (SaveOf page)) before) busy result _ refl acts.tells in
    record { word = ends.word; told_word = ends.told_word; shows = ends.shows; stays = acts.makes }
looks_end r _ before after result at acts = elim at [ ]
