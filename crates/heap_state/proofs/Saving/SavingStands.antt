-- The configuration in which a checkpoint is in progress keeps what each step keeps of checkpoints.
use Rattle.std.proofs.Common.{◌≡◌, ◌≢◌, ℕ, ◌+◌, ◌≤◌, ◌<◌, inl, inr, true, false, zero, suc, Some, None, refl, sym, ap, ◌∙◌, arith, ⊎_elim}
use Rattle.space_map.specs.declared.page_word.PageWord.TheVariants.{Open}
use Rattle.space_map.specs.declared.save_word.SaveWord.TheVariants.{Unsaved, Saving, Saved, New}
use Rattle.space_map.specs.SaveWord.{number_of}
use Rattle.space_map.specs.Spaces.{page_of}
use Rattle.heap_state.specs.Examples.Saving.{saving_workers, saving_mutator, frozen_heap}
use Rattle.heap_state.specs.Functions.{put}
use Rattle.heap_state.specs.Saving.Frozen.{IsPageOf, IsSafe, MayBeSaved}
use Rattle.heap_state.specs.Saving.Savers.{SaveStep, SaveRound, HasPassed}
use Rattle.heap_state.specs.Saving.Parts.{SavingWords, KnowsSaving, RecalledStands, Guarded, IsSaving, SavesRound, HasWonSave, SavingStands}
use Rattle.heap_state.proofs.Puts.{none≢some, some_same, true_false}
use Rattle.heap_state.proofs.Saving.CheckpointWords.{saving_table, saving_saves, save_3, save_8, each_page, held_page, image_then, board_then}

-- ---- the words

-- of each page's SAVE that is open, the checkpoint is 1
safe : MayBeSaved saving_table saving_saves frozen_heap 1 0
unfolding MayBeSaved IsSafe put
safe = each_page (λ p. IsPageOf 4 0 p → saving_table.page p ≡ Open 0 → IsSafe saving_saves frozen_heap p 1)
    (λ l o. inl (omega arith)) (λ l o. inl (omega arith)) (λ l o. inl (omega arith)) (λ p u s l o. absurd (let q = sym u ∙ o in cc))

young : (page : ℕ) → number_of (saving_saves.save page) ≤ 1
unfolding put
young = each_page (λ p. number_of (saving_saves.save p) ≤ 1) (omega arith) (omega arith) (omega arith) (λ p u s. rw s (omega arith))

within : (page : ℕ) → frozen_heap.held page ≡ true → page ≤ 8
within page h = ⊎_elim (λ (e : page ≡ 3). omega arith) (λ (e : page ≡ 8). omega arith) (held_page page h)

opened : (page : ℕ) → frozen_heap.held page ≡ true → IsPageOf 4 0 page × (saving_table.page page ≡ Open 0)
unfolding IsPageOf put
opened page h = ⊎_elim
    (λ (e : page ≡ 3). rw e (inr (omega arith, omega arith), refl))
    (λ (e : page ≡ 8). rw e (inl refl, refl))
    (held_page page h)

old : (page : ℕ) → frozen_heap.held page ≡ true → saving_saves.save page ≢ New 1
old page h new = ⊎_elim
    (λ (e : page ≡ 3). absurd (let q : Saved 1 ≡ New 1 = sym save_3 ∙ (rw e at new) in cc))
    (λ (e : page ≡ 8). absurd (let q : Saving 1 1 ≡ New 1 = sym save_8 ∙ (rw e at new) in cc))
    (held_page page h)

unsaved : (x : ℕ) → frozen_heap.held (page_of x) ≡ true → saving_saves.save (page_of x) ≢ Saved 1 → saving_table.heap x ≡ frozen_heap.heap x
unsaved x h apart = ⊎_elim
    (λ (e : page_of x ≡ 3). absurd (apart (rw e save_3)))
    (λ (e : page_of x ≡ 8). board_then x (omega (arith, e)))
    (held_page (page_of x) h)

words : SavingWords saving_table saving_saves frozen_heap
words = record {
  order = (omega arith, omega arith, omega arith);
  young = young;
  within = within;
  traced = λ l. refl;
  opened = λ l. opened;
  old = λ l. old;
  unsaved = λ l. unsaved;
  saved = λ l x h e. image_then x;
  done = λ e. absurd (omega (arith, e));
  ran = λ l. safe;
}

-- ---- the workers

abbrev KnowsHere : ℕ → Type 0
KnowsHere k = KnowsSaving saving_table saving_saves frozen_heap k (saving_workers k)

recalls : RecalledStands saving_table saving_saves frozen_heap saving_mutator
recalls = record { runs = refl; snap = refl; none = λ d e. absurd (omega (arith, e)); one = λ l. (refl, refl, safe) }

guarded : Guarded saving_saves saving_mutator 3
guarded = record { recalled = (refl, omega arith); says = inl save_3 }

mutator_knows : KnowsHere 0
mutator_knows = record {
  recalls = λ e. recalls;
  settles = λ e. true_false refl e;
  still = λ gate e. none≢some e;
  guarded = λ page e. rw (← some_same e) guarded;
  marked = λ page e. none≢some e;
  begins = λ v e w. none≢some e;
  saves = λ v e w. none≢some e;
  reads = tt;
  round = λ r e. none≢some e;
}

-- the save of the board, and the round
abbrev the_save : SaveStep
the_save = record { page = 8; number = 1; found = Unsaved; won = true; copied = 2; word = Some 0 }

abbrev the_round : SaveRound
the_round = record { number = 1; epoch = 0; board = false; upto = 0; busy = false; opened = None }

saves : IsSaving saving_saves frozen_heap 1 the_save
saves = record {
  runs = (refl, refl);
  held = refl;
  own = save_8;
  some = omega arith;
  copied = λ i l. image_then (512 + i);
  loaded = λ word e. (omega arith, rw (← some_same e) refl);
}

round : SavesRound saving_table saving_saves frozen_heap the_round
unfolding HasPassed
round = record {
  begun = (omega arith, omega arith);
  traced = λ e. refl;
  runs = λ r. refl;
  pages = safe;
  opened = λ page e. none≢some e;
  passed = λ b r page h p. ⊎_elim (λ (q : (page ≡ 8) × (false ≡ true)). true_false refl q.1) (λ (q : (0 ≤ page) × (page < 0)). absurd (omega (arith, q))) p;
}

scanner_knows : KnowsHere 1
scanner_knows = record {
  recalls = λ e. true_false refl e;
  settles = λ e. true_false refl e;
  still = λ gate e. none≢some e;
  guarded = λ page e. none≢some e;
  marked = λ page e. none≢some e;
  begins = λ v e w. true_false w (ap (λ (x : SaveStep). x.won) (sym (some_same e)));
  saves = λ v e w. rw (← some_same e) saves;
  reads = tt;
  round = λ r e. rw (← some_same e) round;
}

knows : (k : ℕ) → k < 2 → KnowsHere k
knows zero l = mutator_knows
knows (suc zero) l = scanner_knows
knows (suc (suc k)) l = absurd (omega arith)

-- only the board is being saved, by worker 1
savers : (page c k : ℕ) → saving_saves.save page ≡ Saving c k → (k < 2) × HasWonSave (saving_workers k) page c
unfolding put
savers = each_page (λ p. (c k : ℕ) → saving_saves.save p ≡ Saving c k → (k < 2) × HasWonSave (saving_workers k) p c)
    (λ c k e. absurd (cc))
    (λ c k e. absurd (cc))
    (λ c k e. let one : 1 ≡ c = cc in let own : 1 ≡ k = cc in rw (← one, ← own) (omega arith, record { step = the_save; is = refl; won = refl; page = refl; number = refl }))
    (λ p u s c k e. absurd (let q = sym s ∙ e in cc))

pub stands : SavingStands saving_table saving_saves frozen_heap 2 saving_workers
stands = record { words = words; workers = record { savers = savers; each = knows } }
