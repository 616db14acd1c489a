-- The save of a page in a save round of a lone mutator: the page pays for it once its exchange is won, and for the round after it.
use Rattle.std.proofs.Common.{◌≡◌, ℕ, ◌+◌, ◌*◌, ◌<◌, ◌≤◌, Bool, true, false, nat_lt, None, refl, sym, ap, subst, ◌∙◌, arith, ⊎_elim}
use Rattle.std.proofs.lemmas.Bool.{ltb-true}
use Rattle.plain_state.specs.State.{Plain}
use Rattle.space_map.specs.declared.save_word.SaveWord.{SaveWord}
use Rattle.space_map.specs.declared.save_word.SaveWord.TheVariants as save_word
use Rattle.space_map.specs.SaveWord.{number_of}
use Rattle.space_map.specs.Spaces.{Layout}
use Rattle.heap_state.specs.Configuration.{Configuration, Stands, table}
use Rattle.heap_state.specs.Memory.Entries.{Entry, SaveIs, ImageIs}
use Rattle.heap_state.specs.Saving.Frozen.{IsSafe}
use Rattle.heap_state.specs.Saving.Parts.{BeginsSave, IsSaving}
use Rattle.heap_state.specs.Saving.Words.{IsInProgress, Saves as SaidOfCheckpoints}
use Rattle.heap_state.specs.Saving.Written.{saves_with}
use Rattle.page_saves.specs.declared.save_round_stage.SaveRoundStage.TheVariants.{Saves}
use Rattle.page_saves.specs.declared.save_stage.SaveStage.{SaveStage}
use Rattle.page_saves.specs.declared.save_stage.SaveStage.TheVariants.{Exchanges, LoadsWord, StoresImage, StoresSaved, Ended}
use Rattle.page_saves.specs.Save.{PageSaving, word_of_page}
use Rattle.page_saves.specs.SaveRound.{SavingRound}
use Rattle.page_saves.specs.SoundSave.{IsOwnSave}
use Rattle.gc_worker.specs.declared.stage.goal.Goal.{Goal}
use Rattle.gc_worker.specs.declared.stage.Stage.{Stage}
use Rattle.gc_worker.specs.Workers.Held.{Held, at_stage}
use Rattle.gc_worker.specs.Workers.Saves.{save_step}
use Rattle.gc_worker.proofs.Stages.Checkpoints.NextCheckpointStage.{round}
use Rattle.gc_worker.proofs.Stages.Checkpoints.Rounded.{at}
use Rattle.lone_mutator.specs.Bound.{save_round_cost}
use Rattle.lone_mutator.specs.Law.{IsAlone, Pays, Said, SavesStand, StepsLower, said, saves}
use Rattle.lone_mutator.specs.Lone.{Remembers, SaveStands}
use Rattle.lone_mutator.specs.Saving.{saving_in}
use Rattle.lone_mutator.proofs.Epochs.SavedPages.{saving_in-images}
use Rattle.lone_mutator.proofs.Epochs.CheckpointDebt.{saving_in-kept, saving_saved}
use Rattle.lone_mutator.proofs.Stages.Checkpoints.NextCheckpointCost.{mutates, pages, saved_so, stands}
use Rattle.lone_mutator.proofs.Stages.SaveCosts.{OwesSave, saves_page}

module _ (c : Configuration) (p : Plain) (s : Stands c p) (y : Held) (r : SavingRound) (goal : Goal) (v : PageSaving) where
  -- the save at a stage, and the mutator that makes it
  abbrev saving : SaveStage → PageSaving
  saving stage = record v { stage = stage }

  abbrev on : SaveStage → Held
  on stage = at y (round r (Saves (saving stage))) goal

  module _ (stage : SaveStage) (a : IsAlone c (on stage)) where
    own : IsOwnSave r.layout v.page r.number r.worker (saving stage)
    own = a.is.fits.stage.sound.stage.1

    known : SavesStand c (on stage)
    known = stands c p s y r goal (Saves (saving stage)) a

    -- what its next step owes
    abbrev Owing : Type 0
    Owing = OwesSave c p s (on stage) a known (saving stage) (own.in_layout ∙ a.is.fits.stage.layout) own.sound stage

    -- a mutator's round goes on
    remembers_at : (s' : SaidOfCheckpoints) (next : SaveStage) → SaveStands s' (saving next) next → Remembers (table c) s' (on next)
    remembers_at s' next so = record { began = a.remembers.began; quiet = a.remembers.quiet; stands = (so, mutates c p s y r goal (Saves (saving stage)) a) }

  -- ---- the exchange

  module _ (a : IsAlone c (on Exchanges)) where
    abbrev word : SaveWord
    word = save_word.Saving v.number v.worker

    abbrev entry : Entry
    entry = SaveIs v.page word

    abbrev then : Said
    then = record { table = table c; saves = saves_with entry (saves c) }

    begins : BeginsSave (saves c) (known Exchanges a).frozen (save_step (saving Exchanges) false 0 None)
    begins = (known Exchanges a).knows.begins _ refl refl

    found : (saves c).save v.page ≡ v.found
    found = a.remembers.stands.0

    earlier : number_of ((saves c).save v.page) < v.number
    earlier = let e = begins.earlier in let f = ap number_of found in omega (arith, e, f)

    in_progress : IsInProgress (saves c) v.number
    unfolding IsSafe
    in_progress = ⊎_elim
        (λ (later : v.number ≤ number_of ((saves c).save v.page)). absurd (let e = earlier in omega (arith, later, e)))
        (λ (both : IsInProgress (saves c) v.number × _). both.0)
        begins.safe

    page : v.page ≤ 2 * c.pages
    page = let low = (own Exchanges a).sound.page in let n = pages c p s y r goal (Saves (saving Exchanges)) a in let l = ap (λ (m : Layout). m.pages) (own Exchanges a).in_layout in omega (arith, low, n, l)

    -- the page pays
    paid : saving_in y.layout.checkpoints c.pages (saves_with entry (saves c)) + save_round_cost c.pages ≤ saving_in y.layout.checkpoints c.pages (saves c)
    paid =
        let now = in_progress in
        let room = a.is.fits.stage.room in
        rw room
        (saving_saved c.pages (saves c) v.page word (let same = now.0 in omega (arith, same)) (λ rests. let same = now.0 in let next = now.1 in absurd (omega (arith, rests, same, next))) page
        (let e = earlier in let same = now.0 in omega (arith, e, same)))

    owes_exchange : Owing Exchanges a
    owes_exchange = record { remembers = remembers_at Exchanges a then.saves (LoadsWord 0) tt; falls = (let less = paid in omega (arith, less)) }

  -- ---- the words

  owes_word : (i : ℕ) (a : IsAlone c (on (LoadsWord i))) → Owing (LoadsWord i) a
  owes_word i a word = record {
    remembers = remembers_at (LoadsWord i) a (saves c) (StoresImage i word) tt;
    falls = (let few = (own (LoadsWord i) a).sound.stage in omega (arith, few));
  }

  module _ (i word : ℕ) (a : IsAlone c (on (StoresImage i word))) where
    abbrev imaged : Said
    imaged = record { table = table c; saves = saves_with (ImageIs (word_of_page v.page i) word) (saves c) }

    few : i < 64
    few = (own (StoresImage i word) a).sound.stage

    same : saving_in y.layout.checkpoints c.pages imaged.saves ≡ saving_in y.layout.checkpoints c.pages (saves c)
    same = saving_in-images y.layout.checkpoints c.pages (saves c) imaged.saves.image

    abbrev PaysAt : SaveStage → Type 0
    PaysAt next = Pays c.pages y.layout.checkpoints (said c.pages c.words) imaged (on (StoresImage i word)) (on next)

    next_word : i + 1 < 64 → PaysAt (LoadsWord (i + 1))
    next_word more = record { remembers = remembers_at (StoresImage i word) a imaged.saves (LoadsWord (i + 1)) tt; falls = (let kept = same in omega (arith, more, kept)) }

    all_words : PaysAt StoresSaved
    all_words = record { remembers = remembers_at (StoresImage i word) a imaged.saves StoresSaved tt; falls = (let low = few in let kept = same in omega (arith, low, kept)) }

    -- the next word, or that the page is saved
    owes_image : (more : Bool) → nat_lt (i + 1) 64 ≡ more → Owing (StoresImage i word) a
    owes_image true test = rw test (next_word (ltb-true (i + 1) 64 test))
    owes_image false test = rw test all_words

  -- ---- the page is saved

  module _ (a : IsAlone c (on StoresSaved)) where
    abbrev after_all : Said
    after_all = record { table = table c; saves = saves_with (SaveIs v.page (save_word.Saved v.number)) (saves c) }

    is_saving : IsSaving (saves c) (known StoresSaved a).frozen 0 (save_step (saving StoresSaved) true 64 None)
    is_saving = (known StoresSaved a).knows.saves _ refl refl

    kept : saving_in y.layout.checkpoints c.pages after_all.saves ≤ saving_in y.layout.checkpoints c.pages (saves c)
    kept = saving_in-kept c.pages (saves c) v.page (save_word.Saved v.number) (let same = is_saving.runs.0 in omega (arith, same)) y.layout.checkpoints

    owes_again : Owing StoresSaved a
    owes_again =
        subst (λ (z : Stage). Pays c.pages y.layout.checkpoints (said c.pages c.words) after_all (on StoresSaved) (at_stage (on StoresSaved) z))
        (sym (saved_so (on StoresSaved) goal (mutates c p s y r goal (Saves (saving StoresSaved)) a)))
        (record {
          remembers = record { began = a.remembers.began; quiet = a.remembers.quiet; stands = (tt, mutates c p s y r goal (Saves (saving StoresSaved)) a) };
          falls = (let less = kept in let n = a.is.fits.pages in omega (arith, less, n));
        })

  -- ---- all

  owes : (stage : SaveStage) (a : IsAlone c (on stage)) → Owing stage a
  owes Exchanges a = owes_exchange a
  owes (LoadsWord i) a = owes_word i a
  owes (StoresImage i word) a = owes_image i word a (nat_lt (i + 1) 64) refl
  owes StoresSaved a = owes_again a
  owes (Ended result) a = tt

  pub saves_it : (stage : SaveStage) → IsAlone c (on stage) → StepsLower c (on stage)
  saves_it stage a =
      let it = own stage a in
      saves_page c p s (on stage) a (known stage a) (saving stage) (it.in_layout ∙ a.is.fits.stage.layout) it.sound it.going a.remembers.stands.0 refl (owes stage a)
