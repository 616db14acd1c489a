-- What a save's step does to the words, by what it then tells.
use Rattle.std.proofs.Common.{◌≡◌, ℕ, ◌+◌, Bool, true, false, cond, nat_lt, List, slice_index, arith, refl, ap, ◌∙◌}
use Rattle.atom_store.specs.declared.reply.Reply.{Reply}
use Rattle.atom_store.specs.declared.reply.Reply.TheVariants as reply
use Rattle.atom_store.specs.declared.step.Step.TheVariants.{Store, Exchange}
use Rattle.atom_store.specs.declared.turn.Turn.TheVariants.{More, Finished}
use Rattle.atom_store.specs.Acts.{MakesStep}
use Rattle.atom_store.specs.Step.{reply_of}
use Rattle.atom_store.proofs.Acting.{no_step}
use Rattle.atom_store.proofs.StepWords.{slice_index-words_after, slice_index-stored, slice_index-won, won_exactly, lost_tells_another, words_after-lost}
use Rattle.space_map.specs.declared.save_word.SaveWord.TheVariants as save_word
use Rattle.space_map.specs.SaveWord.{decode_save, encode_save}
use Rattle.space_map.specs.Table.{SaveOf}
use Rattle.space_map.proofs.SaveWords.{decode_save-encode_save}
use Rattle.page_saves.specs.declared.save_end.SaveEnd.{SaveEnd}
use Rattle.page_saves.specs.declared.save_end.SaveEnd.TheVariants.{Saved, Taken}
use Rattle.page_saves.specs.declared.save_stage.SaveStage.{SaveStage}
use Rattle.page_saves.specs.declared.save_stage.SaveStage.TheVariants.{Exchanges, LoadsWord, StoresImage, StoresSaved, Ended}
use Rattle.page_saves.specs.Save.{PageSaving, save_machine, told_at, next_stage, after_word}
use Rattle.page_saves.specs.SoundSave.{IsSoundSave}
use Rattle.page_saves.specs.Theorems.{BeginsSave, ShowsSaveTaken, EndsSave, place}
use Rattle.space_map.specs.WholeTable.{Behind, HoldsWhole}
use Rattle.space_map.proofs.WholeRows.{whole_place_of-lt}

abbrev at : PageSaving → SaveStage → PageSaving
at s stage = record s { stage = stage }

-- ---- what is told

exchange_wins : (won : Bool) (word : ℕ) → told_at (next_stage Exchanges (cond won reply.Won (reply.Lost word))) ≡ More
    → cond won reply.Won (reply.Lost word) ≡ reply.Won
exchange_wins true word tells = refl
exchange_wins false word tells = cc

exchange_loses : (r : Reply) (word : ℕ) → told_at (next_stage Exchanges r) ≡ Finished (Taken word) → r ≡ reply.Lost word
exchange_loses (reply.Lost lost) word tells = let same : lost ≡ word = cc in ap reply.Lost same
exchange_loses _ word tells = cc

exchange_never_saves : (r : Reply) → told_at (next_stage Exchanges r) ≡ Finished Saved → ⊥
exchange_never_saves (reply.Lost _) tells = cc
exchange_never_saves _ tells = cc

-- after a word it goes on
pub word_goes_on : (i : ℕ) (result : SaveEnd) → told_at (after_word i) ≡ Finished result → ⊥
word_goes_on i result tells = by_test (nat_lt (i + 1) 64) tells
  where
    by_test : (more : Bool) → told_at (cond more (LoadsWord (i + 1)) StoresSaved) ≡ Finished result → ⊥
    by_test true e = cc
    by_test false e = cc

-- ---- the words

pub begins : (s : PageSaving) (before after : List ℕ) → IsSoundSave s → HoldsWhole s.layout before
    → MakesStep save_machine (at s Exchanges) before after More → BeginsSave s before after
begins s before after sound whole acts =
    let p : ℕ = place s (Behind (SaveOf s.page)) in
    let new : ℕ = encode_save (save_word.Saving s.number s.worker) in
    let won : reply_of (Exchange p (encode_save s.found) new) before ≡ reply.Won = exchange_wins _ _ acts.tells in
    let was = (won_exactly p (encode_save s.found) new before).0 won in
    let inside = whole_place_of-lt s.layout (Behind (SaveOf s.page)) sound.room sound.page in
    let number = sound.number in
    let worker = sound.worker in
    record {
      was = ap decode_save was ∙ decode_save-encode_save s.found sound.found;
      earlier = sound.earlier;
      is = ap (λ ws. decode_save (slice_index ws p)) acts.makes
          ∙ ap decode_save (slice_index-won p (encode_save s.found) new before (omega (arith, inside, whole)) won)
          ∙ decode_save-encode_save (save_word.Saving s.number s.worker) (number, (omega (arith, worker)));
      others = λ other apart. ap (λ ws. slice_index ws other) acts.makes ∙ slice_index-words_after (Exchange p (encode_save s.found) new) before other apart;
    }

pub takes : (s : PageSaving) (stage : SaveStage) (before after : List ℕ) (word : ℕ)
    → MakesStep save_machine (at s stage) before after (Finished (Taken word)) → ShowsSaveTaken s before word × (after ≡ before)
takes s Exchanges before after word acts =
    let p : ℕ = place s (Behind (SaveOf s.page)) in
    let new : ℕ = encode_save (save_word.Saving s.number s.worker) in
    let lost = exchange_loses (reply_of (Exchange p (encode_save s.found) new) before) word acts.tells in
    let another = lost_tells_another p (encode_save s.found) new word before lost in
    (record { read = another.0; other = another.1 }, acts.makes ∙ words_after-lost p (encode_save s.found) new word before lost)
takes s (LoadsWord i) before after word acts = absurd (let e = acts.tells in cc)
takes s (StoresImage i value) before after word acts = absurd (word_goes_on i (Taken word) acts.tells)
takes s StoresSaved before after word acts = absurd (let e = acts.tells in cc)
takes s (Ended result) before after word acts = absurd (no_step acts.has_step)

pub ends : (s : PageSaving) (stage : SaveStage) (before after : List ℕ) → IsSoundSave (at s stage) → HoldsWhole s.layout before
    → MakesStep save_machine (at s stage) before after (Finished Saved) → EndsSave (at s stage) before after
ends s Exchanges before after sound whole acts =
    let new : ℕ = encode_save (save_word.Saving s.number s.worker) in
    absurd (exchange_never_saves (reply_of (Exchange (place s (Behind (SaveOf s.page))) (encode_save s.found) new) before) acts.tells)
ends s (LoadsWord i) before after sound whole acts = absurd (let e = acts.tells in cc)
ends s (StoresImage i value) before after sound whole acts = absurd (word_goes_on i Saved acts.tells)
ends s StoresSaved before after sound whole acts =
    let p : ℕ = place s (Behind (SaveOf s.page)) in
    let new : ℕ = encode_save (save_word.Saved s.number) in
    let inside = whole_place_of-lt s.layout (Behind (SaveOf s.page)) sound.room sound.page in
    record {
      last = refl;
      is = ap (λ ws. decode_save (slice_index ws p)) acts.makes
          ∙ ap decode_save (slice_index-stored p new before (omega (arith, inside, whole)))
          ∙ decode_save-encode_save (save_word.Saved s.number) sound.number;
      others = λ other apart. ap (λ ws. slice_index ws other) acts.makes ∙ slice_index-words_after (Store p new) before other apart;
    }
ends s (Ended result) before after sound whole acts = absurd (no_step acts.has_step)
