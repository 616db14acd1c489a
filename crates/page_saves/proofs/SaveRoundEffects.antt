-- What a save round's step does to the words, by what it then tells.
use Rattle.std.proofs.Common.{◌≡◌, ℕ, ◌-◌, List, slice_index, arith, refl, sym, ap, ◌∙◌, subst}
use Rattle.std.specs.Prelude.{⊤}
use Rattle.atom_store.specs.declared.reply.Reply.{Reply}
use Rattle.atom_store.specs.declared.reply.Reply.TheVariants as reply
use Rattle.atom_store.specs.declared.step.Step.TheVariants.{Exchange}
use Rattle.atom_store.specs.declared.turn.Turn.TheVariants.{Finished}
use Rattle.atom_store.specs.Acts.{MakesStep}
use Rattle.atom_store.specs.Step.{reply_of}
use Rattle.atom_store.proofs.Acting.{no_step}
use Rattle.atom_store.proofs.StepWords.{slice_index-words_after, slice_index-won, won_exactly, lost_tells_another, words_after-lost}
use Rattle.space_map.specs.GateWord.{decode_gate}
use Rattle.space_map.specs.Spaces.{Layout}
use Rattle.space_map.specs.Table.{Gate, SnapNumber, LastSaved}
use Rattle.page_saves.specs.declared.save_end.SaveEnd.{SaveEnd}
use Rattle.page_saves.specs.declared.save_end.SaveEnd.TheVariants as save_end
use Rattle.page_saves.specs.declared.save_round_end.SaveRoundEnd.{SaveRoundEnd}
use Rattle.page_saves.specs.declared.save_round_end.SaveRoundEnd.TheVariants.{NoneRuns, Saved, Marked, NothingNow}
use Rattle.page_saves.specs.declared.save_round_stage.SaveRoundStage.{SaveRoundStage}
use Rattle.page_saves.specs.declared.save_round_stage.SaveRoundStage.TheVariants.{LoadsGate, LoadsSnap, LoadsDone, LoadsGateAgain, Saves, ExchangesDone, Ended}
use Rattle.page_saves.specs.RoundTheorems.{SavesPage, MarksDone, ShowsNothingToSave, word_of_row}
use Rattle.page_saves.specs.SaveRound
use Rattle.page_saves.specs.SaveRound.{SavingRound, at_stage, told, taken_at, save_round_machine}
use Rattle.page_saves.specs.SoundRound.{IsSoundSaveRound}
use Rattle.space_map.specs.WholeTable.{Within, HoldsWhole, whole_place_of}
use Rattle.page_saves.proofs.PageLooks.{looks_end}
use Rattle.page_saves.proofs.RoundEnds
use Rattle.page_saves.proofs.SaveEffects as saving
use Rattle.space_map.proofs.WholeRows.{whole_place_of-lt}

-- ---- nothing to do now

same_word : (word loaded : ℕ) → NothingNow word ≡ NothingNow loaded → word ≡ loaded
same_word word loaded same = cc

save_taken : (outcome : SaveEnd) (word : ℕ) → NothingNow word ≡ SaveRound.save_comes_to outcome → outcome ≡ save_end.Taken word
save_taken save_end.Saved word same = cc
save_taken (save_end.Taken lost) word same = let e : lost ≡ word = cc in ap save_end.Taken e

pub shows_nothing : (r : SavingRound) (stage : SaveRoundStage) (before after : List ℕ) (word : ℕ)
    → MakesStep save_round_machine (at_stage r stage) before after (Finished (NothingNow word))
    → ShowsNothingToSave (at_stage r stage) stage before word × (after ≡ before)
shows_nothing r LoadsGate before after word acts =
    let loaded : ℕ = word_of_row r (Within Gate) before in
    let ends = RoundEnds.gate_ends (at_stage r LoadsGate) loaded (NothingNow word) (decode_gate loaded) acts.tells in
    let same = same_word word loaded ends.told_word in
    (RoundEnds.left_shows (at_stage r LoadsGate) before word ends.gate r.caller refl ends.all same (ap decode_gate same ∙ ends.is), acts.makes)
shows_nothing r LoadsSnap before after word acts =
    absurd (RoundEnds.snap_never (at_stage r LoadsSnap) (SaveRound.number_in (word_of_row r (Within SnapNumber) before)) (NothingNow word) acts.tells)
shows_nothing r LoadsDone before after word acts =
    let ends = RoundEnds.done_ends (at_stage r LoadsDone) (NothingNow word) (SaveRound.number_in (word_of_row r (Within LastSaved) before)) acts.tells in
    absurd (let e = ends.told_number in cc)
shows_nothing r LoadsGateAgain before after word acts =
    let loaded : ℕ = word_of_row r (Within Gate) before in
    let ends = RoundEnds.gate_again_ends (at_stage r LoadsGateAgain) loaded (NothingNow word) (decode_gate loaded) acts.tells in
    let same = same_word word loaded ends.told_word in
    (record { gate = ends.gate; read = same; says = ap decode_gate same ∙ ends.is; other = ends.other }, acts.makes)
shows_nothing r (Saves s) before after word acts =
    let ends = RoundEnds.saving_ends r s before after (NothingNow word) acts in
    let tells = ends.is ∙ ap Finished (save_taken ends.outcome word ends.told_end) in
    saving.takes s s.stage before after word (record { has_step = acts.has_step; makes = acts.makes; tells = tells })
shows_nothing r ExchangesDone before after word acts =
    let p : ℕ = whole_place_of r.layout.pages (Within LastSaved) in
    let lost = RoundEnds.exchange_loses (at_stage r ExchangesDone) (reply_of (Exchange p (r.number - 1) r.number) before) word acts.tells refl in
    let another = lost_tells_another p (r.number - 1) r.number word before lost in
    ((another.0, another.1), acts.makes ∙ words_after-lost p (r.number - 1) r.number word before lost)
shows_nothing r (Ended result) before after word acts = absurd (no_step acts.has_step)
shows_nothing r stage before after word acts =
    let ends = looks_end r stage before after (NothingNow word) tt acts in
    (subst (ShowsNothingToSave (at_stage r stage) stage before) (sym (same_word word ends.word ends.told_word)) ends.shows, ends.stays)

-- ---- at the looks

-- at these stages a round ends with a word alone
abbrev TellsWord : SaveRoundStage → Type 0
TellsWord LoadsDone = ⊥
TellsWord (Saves s) = ⊥
TellsWord ExchangesDone = ⊥
TellsWord stage = ⊤

word_told : (r : SavingRound) (stage : SaveRoundStage) (before after : List ℕ) (result : SaveRoundEnd) → TellsWord stage
    → MakesStep save_round_machine (at_stage r stage) before after (Finished result) → (word : ℕ) × (result ≡ NothingNow word)
word_told r LoadsGate before after result at acts =
    let loaded : ℕ = word_of_row r (Within Gate) before in
    let ends = RoundEnds.gate_ends (at_stage r LoadsGate) loaded result (decode_gate loaded) acts.tells in (loaded, ends.told_word)
word_told r LoadsSnap before after result at acts =
    absurd (RoundEnds.snap_never (at_stage r LoadsSnap) (SaveRound.number_in (word_of_row r (Within SnapNumber) before)) result acts.tells)
word_told r LoadsGateAgain before after result at acts =
    let loaded : ℕ = word_of_row r (Within Gate) before in
    let ends = RoundEnds.gate_again_ends (at_stage r LoadsGateAgain) loaded result (decode_gate loaded) acts.tells in (loaded, ends.told_word)
word_told r LoadsDone before after result at acts = absurd at
word_told r (Saves s) before after result at acts = absurd at
word_told r ExchangesDone before after result at acts = absurd at
word_told r (Ended last) before after result at acts = absurd (no_step acts.has_step)
word_told r stage before after result at acts = let ends = looks_end r stage before after result tt acts in (ends.word, ends.told_word)

-- ---- no checkpoint runs

not_none : (outcome : SaveEnd) (number : ℕ) → NoneRuns number ≡ SaveRound.save_comes_to outcome → ⊥
not_none save_end.Saved number same = cc
not_none (save_end.Taken lost) number same = cc

exchange_never_none : (r : SavingRound) (answer : Reply) (number : ℕ) → told (taken_at (at_stage r ExchangesDone) ExchangesDone answer) ≡ Finished (NoneRuns number) → ⊥
exchange_never_none r reply.Won number tells = cc
exchange_never_none r _ number tells = cc

-- the number that the round has is loaded as that of the checkpoint done last; no word changes
pub record FindsSame (r : SavingRound) (before after : List ℕ) (number : ℕ) : Type 0 where
  pub last : r.stage ≡ LoadsDone
  pub read : number ≡ word_of_row r (Within LastSaved) before
  pub same : number ≡ r.number
  pub stays : after ≡ before

pub none_runs : (r : SavingRound) (stage : SaveRoundStage) (before after : List ℕ) (number : ℕ)
    → MakesStep save_round_machine (at_stage r stage) before after (Finished (NoneRuns number)) → FindsSame (at_stage r stage) before after number
none_runs r LoadsDone before after number acts =
    let loaded : ℕ = word_of_row r (Within LastSaved) before in
    let ends = RoundEnds.done_ends (at_stage r LoadsDone) (NoneRuns number) (SaveRound.number_in loaded) acts.tells in
    let same : number ≡ ends.number = let e = ends.told_number in cc in
    record { last = refl; read = same ∙ RoundEnds.number_is loaded ends.number ends.is; same = same ∙ ends.same; stays = acts.makes }
none_runs r (Saves s) before after number acts =
    let ends = RoundEnds.saving_ends r s before after (NoneRuns number) acts in absurd (not_none ends.outcome number ends.told_end)
none_runs r ExchangesDone before after number acts =
    absurd (exchange_never_none r (reply_of (Exchange (whole_place_of r.layout.pages (Within LastSaved)) (r.number - 1) r.number) before) number acts.tells)
none_runs r stage before after number acts = absurd (let e = (word_told r stage before after (NoneRuns number) tt acts).1 in cc)

-- ---- a page is saved

is_saved : (outcome : SaveEnd) → Saved ≡ SaveRound.save_comes_to outcome → outcome ≡ save_end.Saved
is_saved save_end.Saved same = refl
is_saved (save_end.Taken lost) same = cc

exchange_never_saves : (r : SavingRound) (answer : Reply) → told (taken_at (at_stage r ExchangesDone) ExchangesDone answer) ≡ Finished Saved → ⊥
exchange_never_saves r reply.Won tells = cc
exchange_never_saves r _ tells = cc

pub saves_page : (r : SavingRound) (stage : SaveRoundStage) (before after : List ℕ) → IsSoundSaveRound (at_stage r stage) → HoldsWhole r.layout before
    → MakesStep save_round_machine (at_stage r stage) before after (Finished Saved) → SavesPage (at_stage r stage) before after
saves_page r LoadsDone before after sound whole acts =
    let ends = RoundEnds.done_ends (at_stage r LoadsDone) Saved (SaveRound.number_in (word_of_row r (Within LastSaved) before)) acts.tells in
    absurd (let e = ends.told_number in cc)
saves_page r (Saves s) before after sound whole acts =
    let own = sound.stage.1 in
    let ends = RoundEnds.saving_ends r s before after Saved acts in
    let tells = ends.is ∙ ap Finished (is_saved ends.outcome ends.told_end) in
    let holds : HoldsWhole s.layout before = subst (λ (l : Layout). HoldsWhole l before) (sym own.in_layout) whole in
    record {
      save = s;
      saving = refl;
      own = own;
      of_round = sound.stage.0;
      ends = saving.ends s s.stage before after own.sound holds (record { has_step = acts.has_step; makes = acts.makes; tells = tells });
    }
saves_page r ExchangesDone before after sound whole acts =
    absurd (exchange_never_saves r (reply_of (Exchange (whole_place_of r.layout.pages (Within LastSaved)) (r.number - 1) r.number) before) acts.tells)
saves_page r stage before after sound whole acts = absurd (let e = (word_told r stage before after Saved tt acts).1 in cc)

-- ---- the checkpoint is done

not_marked : (outcome : SaveEnd) → Marked ≡ SaveRound.save_comes_to outcome → ⊥
not_marked save_end.Saved same = cc
not_marked (save_end.Taken lost) same = cc

pub marks_done : (r : SavingRound) (stage : SaveRoundStage) (before after : List ℕ) → IsSoundSaveRound (at_stage r stage) → HoldsWhole r.layout before
    → MakesStep save_round_machine (at_stage r stage) before after (Finished Marked) → MarksDone (at_stage r stage) before after
marks_done r LoadsDone before after sound whole acts =
    let ends = RoundEnds.done_ends (at_stage r LoadsDone) Marked (SaveRound.number_in (word_of_row r (Within LastSaved) before)) acts.tells in
    absurd (let e = ends.told_number in cc)
marks_done r (Saves s) before after sound whole acts =
    let ends = RoundEnds.saving_ends r s before after Marked acts in absurd (not_marked ends.outcome ends.told_end)
marks_done r ExchangesDone before after sound whole acts =
    let p : ℕ = whole_place_of r.layout.pages (Within LastSaved) in
    let won = RoundEnds.exchange_wins (at_stage r ExchangesDone) (reply_of (Exchange p (r.number - 1) r.number) before) acts.tells refl in
    let inside = whole_place_of-lt r.layout (Within LastSaved) sound.room tt in
    record {
      last = refl;
      was = (won_exactly p (r.number - 1) r.number before).0 won;
      is = ap (λ ws. slice_index ws p) acts.makes ∙ slice_index-won p (r.number - 1) r.number before (omega (arith, inside, whole)) won;
      others = λ other apart. ap (λ ws. slice_index ws other) acts.makes ∙ slice_index-words_after (Exchange p (r.number - 1) r.number) before other apart;
    }
marks_done r stage before after sound whole acts = absurd (let e = (word_told r stage before after Marked tt acts).1 in cc)
