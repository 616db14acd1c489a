-- What a step may read of checkpoints: a word that takes its machine on, or that of another worker which saves the page.
use Rattle.std.proofs.Common.{◌≡◌, ◌≢◌, ℕ, ◌*◌, ◌^◌, ◌<◌, ◌≤◌, ◌&&◌, Bool, true, false, Some, None, is_some, slice_index, refl, sym, ap, subst, ◌∙◌, arith}
use Rattle.std.proofs.lemmas.Bool.{lt-ltb}
use Rattle.std.proofs.lemmas.Option.{same_Some}
use Rattle.plain_state.specs.State.{Plain}
use Rattle.atom_store.specs.declared.reply.Reply.{Reply}
use Rattle.atom_store.specs.declared.reply.Reply.TheVariants.{Lost}
use Rattle.atom_store.specs.declared.step.Step.{Step}
use Rattle.atom_store.specs.declared.step.Step.TheVariants.{Load}
use Rattle.atom_store.specs.Step.{reply_of}
use Rattle.space_map.specs.declared.save_word.SaveWord.{SaveWord}
use Rattle.space_map.specs.declared.save_word.SaveWord.TheVariants.{Saving}
use Rattle.space_map.specs.SaveWord.{decode_save, number_of}
use Rattle.space_map.specs.Spaces.{board_page}
use Rattle.space_map.specs.Table.{SnapNumber, LastSaved, SaveOf, save_place_of}
use Rattle.gate_core.specs.declared.recall.recall_stage.RecallStage.{RecallStage}
use Rattle.gate_core.specs.declared.recall.recall_stage.RecallStage.TheVariants as recall_stage
use Rattle.gate_core.specs.declared.snap.snap_stage.SnapStage.{SnapStage}
use Rattle.gate_core.specs.declared.snap.snap_stage.SnapStage.TheVariants as snap_stage
use Rattle.gate_core.specs.Recall as recall
use Rattle.gate_core.specs.Snap as snap
use Rattle.page_saves.specs.declared.guard_stage.GuardStage.{GuardStage}
use Rattle.page_saves.specs.declared.guard_stage.GuardStage.TheVariants as guard_stage
use Rattle.page_saves.specs.declared.save_round_stage.SaveRoundStage.{SaveRoundStage}
use Rattle.page_saves.specs.declared.save_round_stage.SaveRoundStage.TheVariants as round_stage
use Rattle.page_saves.specs.Guard as guard
use Rattle.page_saves.specs.HeldUp.{AnotherSaves, IsGuardHeldUp, IsOwn, IsOfLater, MakesLookAgain, SaysNothing}
use Rattle.page_saves.specs.Save as save
use Rattle.page_saves.specs.SaveRound as save_round
use Rattle.page_saves.specs.SoundRound.{FitsSaveRoundStage}
use Rattle.page_saves.proofs.SaveGoesOn.{guards_go_on, saves_go_on}
use Rattle.heap_state.specs.Configuration.{Configuration, Stands, table}
use Rattle.heap_state.specs.Memory.Table.{word_in}
use Rattle.heap_state.specs.Saving.Frozen.{Frozen}
use Rattle.heap_state.specs.Saving.Parts.{HasWonSave, SavingStands}
use Rattle.heap_state.specs.Saving.Savers.{Saver}
use Rattle.heap_state.specs.Saving.Words.{AreFormedSaves, save_word_in, saves_of}
use Rattle.heap_state.proofs.Puts.{none≢some}
use Rattle.heap_laws.proofs.Saving.Pages.Writes.{none_is_of_later, says_are_found}
use Rattle.heap_laws.proofs.Saving.LearntSaves.{numbers_fit}
use Rattle.heap_laws.proofs.Saving.Stores.{saves_are_read}
use Rattle.gc_worker.specs.declared.stage.write.Write.{Write}
use Rattle.gc_worker.specs.declared.stage.Stage.TheVariants.{Guards}
use Rattle.gc_worker.specs.Steps.Goes.{Is}
use Rattle.gc_worker.specs.Workers.Held.{Held, at_stage}
use Rattle.gc_worker.specs.Workers.Saves.{save_of_guard, saver_of}
use Rattle.worker_progress.proofs.Replies.{TakesOn, Advances, Loses, Waits, On, either_way, says_gate, won_or_lost, word_at, word_is}

-- what is kept of checkpoints, where there is room for them, and worker k holds x
pub record SavesAre (c : Configuration) (k : ℕ) (x : Held) : Type 0 where
  pub formed : AreFormedSaves c.pages c.words
  pub frozen : Frozen
  pub count : ℕ
  pub saver : ℕ → Saver
  pub stands : SavingStands (table c) (saves_of c.pages c.words) frozen count saver
  pub below : k < count
  pub own : saver k ≡ saver_of x

-- worker k loads what is said of a page that another one saves
pub record MeetsSaving (c : Configuration) (k : ℕ) (q : Step) : Type 0 where
  pub page : ℕ
  pub loads : q ≡ Load (save_place_of c.pages (SaveOf page))
  pub number : ℕ
  pub worker : ℕ
  pub saving : decode_save (save_word_in c.pages c.words (SaveOf page)) ≡ Some (Saving number worker)
  pub other : worker ≢ k

-- ---- the numbers

snap_fits : (c : Configuration) (k : ℕ) (x : Held) → SavesAre c k x → word_in c.pages c.words SnapNumber < 2 ^ 32
unfolding saves_of
snap_fits c k x z = (numbers_fit (table c) (saves_of c.pages c.words) z.frozen z.stands.words).0

done_fits : (c : Configuration) (k : ℕ) (x : Held) → SavesAre c k x → word_in c.pages c.words LastSaved < 2 ^ 32
unfolding saves_of
done_fits c k x z = (numbers_fit (table c) (saves_of c.pages c.words) z.frozen z.stands.words).1

reads_number : (word : ℕ) → word < 2 ^ 32 → is_some (recall.number_in word) ≡ true
reads_number word fits = rw (lt-ltb word (2 ^ 32) fits) refl

module _ (c : Configuration) (p : Plain) (s : Stands c p) (k : ℕ) (x : Held) where
  -- the words of SNAP and DONE, by a machine's own layout
  snap_at : (n : ℕ) → n ≡ c.pages → SavesAre c k x → word_at c p s k n SnapNumber < 2 ^ 32
  snap_at n same z = subst (λ (w : ℕ). w < 2 ^ 32) (sym (word_is c p s k n same SnapNumber tt)) (snap_fits c k x z)

  done_at : (n : ℕ) → n ≡ c.pages → SavesAre c k x → word_at c p s k n LastSaved < 2 ^ 32
  done_at n same z = subst (λ (w : ℕ). w < 2 ^ 32) (sym (word_is c p s k n same LastSaved tt)) (done_fits c k x z)

  -- ---- what a mutator recalls, and the beginning of a checkpoint

  pub recalling : (r : recall.Recalling) (stage : RecallStage) (q : Step) → r.layout.pages ≡ c.pages → SavesAre c k x → recall.wanted_at r stage ≡ Some q
      → On c p s k (recall.advances_at stage) q
  recalling r recall_stage.LoadsSnap q same z asked =
      subst (On c p s k (recall.advances_at recall_stage.LoadsSnap)) (same_Some _ q asked) (Advances (reads_number _ (snap_at r.layout.pages same z)))
  recalling r (recall_stage.LoadsDone number) q same z asked =
      subst (On c p s k (recall.advances_at (recall_stage.LoadsDone number))) (same_Some _ q asked) (Advances (reads_number _ (done_at r.layout.pages same z)))
  recalling r (recall_stage.Ended result) q same z asked = absurd (cc)

  pub snapping : (b : snap.Snapping) (stage : SnapStage) (q : Step) → b.layout.pages ≡ c.pages → snap.wanted_at b stage ≡ Some q → On c p s k (snap.advances_at stage) q
  snapping b snap_stage.LoadsGate q same asked =
      subst (On c p s k (snap.advances_at snap_stage.LoadsGate)) (same_Some _ q asked) (Advances (says_gate c p s k b.layout.pages same))
  snapping b (snap_stage.ExchangesSnap gate) q same asked =
      subst (On c p s k (snap.advances_at (snap_stage.ExchangesSnap gate))) (same_Some _ q asked) (won_or_lost _ _ _ _ refl)
  snapping b (snap_stage.Ended result) q same asked = absurd (cc)

  -- ---- rounds

  says_save : (n : ℕ) → n ≡ c.pages → SavesAre c k x → (page : ℕ) → page ≤ board_page n → is_some (decode_save (slice_index c.words (save_place_of n (SaveOf page)))) ≡ true
  says_save n same z page within =
      ap (λ (m : ℕ). is_some (decode_save (slice_index c.words (save_place_of m (SaveOf page))))) same
      ∙ ap is_some (says_are_found.loaded c.pages c.words page z.formed (omega (arith, within, same)))

  pub rounding : (d : save_round.SavingRound) (stage : SaveRoundStage) (q : Step) → d.layout.pages ≡ c.pages → SavesAre c k x → FitsSaveRoundStage d stage
      → save_round.wanted_at d stage ≡ Some q → On c p s k (save_round.advances_at stage) q
  rounding d round_stage.LoadsGate q same z fits asked =
      subst (On c p s k (save_round.advances_at round_stage.LoadsGate)) (same_Some _ q asked) (Advances (says_gate c p s k d.layout.pages same))
  rounding d round_stage.LoadsSnap q same z fits asked =
      subst (On c p s k (save_round.advances_at round_stage.LoadsSnap)) (same_Some _ q asked) (Advances (lt-ltb _ (2 ^ 32) (snap_at d.layout.pages same z)))
  rounding d round_stage.LoadsDone q same z fits asked =
      subst (On c p s k (save_round.advances_at round_stage.LoadsDone)) (same_Some _ q asked) (Advances (lt-ltb _ (2 ^ 32) (done_at d.layout.pages same z)))
  rounding d round_stage.LoadsGateAgain q same z fits asked =
      subst (On c p s k (save_round.advances_at round_stage.LoadsGateAgain)) (same_Some _ q asked) (Advances (says_gate c p s k d.layout.pages same))
  rounding d (round_stage.LoadsPage page busy) q same z fits asked =
      subst (On c p s k (save_round.advances_at (round_stage.LoadsPage page busy))) (same_Some _ q asked) (Advances refl)
  rounding d (round_stage.LoadsSave page busy) q same z fits asked =
      subst (On c p s k (save_round.advances_at (round_stage.LoadsSave page busy))) (same_Some _ q asked) (Advances (says_save d.layout.pages same z page fits.in_table))
  rounding d (round_stage.Saves v) q same z fits asked = Advances (saves_go_on v q c.words asked)
  rounding d round_stage.ExchangesDone q same z fits asked =
      subst (On c p s k (save_round.advances_at round_stage.ExchangesDone)) (same_Some _ q asked) (either_way _ _ _ _ refl refl)
  rounding d (round_stage.Ended result) q same z fits asked = absurd (cc)

-- ---- looks before a write

module _ (c : Configuration) (k : ℕ) (x : Held) (g : guard.Guarding) (write : Write) (is : Is c k (at_stage x (Guards g write))) (z : SavesAre c k (at_stage x (Guards g write))) where
  abbrev its_step : Step
  its_step = Load (save_place_of c.pages (SaveOf g.page))

  abbrev its_word : ℕ
  its_word = slice_index c.words (save_place_of c.pages (SaveOf g.page))

  pages : g.layout.pages ≡ c.pages
  pages = ap (λ l. l.pages) is.fits.stage.layout ∙ is.fits.pages

  within : g.page ≤ 2 * c.pages
  within = let w = is.fits.stage.sound.page in let n = pages in omega (arith, w, n)

  abbrev says_now : SaveWord
  says_now = (saves_of c.pages c.words).save g.page

  says : decode_save its_word ≡ Some says_now
  says = says_are_found.loaded c.pages c.words g.page z.formed within

  -- it saves nothing itself
  saves_none : g.stage ≡ guard_stage.Looks → (z.saver k).save ≡ None
  saves_none looks = ap (λ (v : Saver). v.save) z.own ∙ ap save_of_guard looks

  recalled : (z.saver k).recalled ≡ true
  recalled = ap (λ (v : Saver). v.recalled) z.own ∙ ap (λ (b : Bool). b && true && true) is.fits.stage.room

  running : (z.saver k).running ≡ x.running
  running = ap (λ (v : Saver). v.running) z.own

  -- and what is said is of no later checkpoint
  no_later : number_of says_now ≤ g.number
  no_later =
      let own = running in
      let runs = is.fits.stage.runs in
      let number = is.fits.stage.number in
      let few = none_is_of_later (table c) (saves_of c.pages c.words) z.frozen z.count z.saver k g.page z.stands z.below recalled (omega (arith, own, runs)) in
      omega (arith, few, own, number)

  worker_is : g.worker ≡ k
  worker_is = is.fits.stage.worker ∙ is.fits.number

  no_own : g.stage ≡ guard_stage.Looks → says_now ≡ Saving g.number g.worker → ⊥
  no_own looks own =
      let saves : HasWonSave (z.saver k) g.page g.number = (z.stands.workers.savers g.page g.number k (own ∙ ap (Saving g.number) worker_is)).1 in
      none≢some (sym (saves_none looks) ∙ saves.is)

  abbrev Meets : Type 0
  Meets = MeetsSaving c k its_step

  meets : g.stage ≡ guard_stage.Looks → MakesLookAgain g.number g.worker its_word → Meets
  meets looks (AnotherSaves other apart reads) = record {
    page = g.page;
    loads = refl;
    number = g.number;
    worker = other;
    saving = ap decode_save (sym (saves_are_read.rows c.pages c.words (SaveOf g.page) within)) ∙ reads;
    other = λ same. apart (same ∙ sym worker_is);
  }
  meets looks (SaysNothing reads) = absurd (none≢some (sym reads ∙ says))
  meets looks (IsOfLater other reads later) =
      let same : other ≡ says_now = same_Some other says_now (sym reads ∙ says) in
      let of_it = ap number_of same in
      let few = no_later in
      absurd (omega (arith, later, of_it, few))
  meets looks (IsOwn reads) = absurd (no_own looks (same_Some says_now (Saving g.number g.worker) (sym says ∙ reads)))

  -- a look is taken on, or meets a save
  abbrev pub LooksOn : Step → Type 0
  LooksOn q = TakesOn (guard.advances g) (reply_of q c.words) (MeetsSaving c k q)

  held_save : (v : save.PageSaving) (q : Step) (r : Reply) → IsGuardHeldUp g (guard_stage.Saves v) r → r ≡ reply_of q c.words → LooksOn q
  held_save v q (Lost word) held same = Loses word (sym same)
  held_save v q r held same = absurd held

  held_by : (stage : GuardStage) (q : Step) → g.stage ≡ stage → guard.wanted_at g stage ≡ Some q → IsGuardHeldUp g stage (reply_of q c.words) → LooksOn q
  held_by guard_stage.Looks q at asked held =
      let step : its_step ≡ q = ap (λ (n : ℕ). Load (save_place_of n (SaveOf g.page))) (sym pages) ∙ same_Some (Load (save_place_of g.layout.pages (SaveOf g.page))) q asked in
      Waits (subst (MeetsSaving c k) step (meets at (subst (λ (y : Step). IsGuardHeldUp g guard_stage.Looks (reply_of y c.words)) (sym step) held)))
  held_by (guard_stage.Saves v) q at asked held = held_save v q (reply_of q c.words) held refl
  held_by (guard_stage.Ended result) q at asked held = absurd held

  pub looking : (q : Step) → guard.wanted g ≡ Some q → LooksOn q
  looking q asked = by_advance (guard.advances g (reply_of q c.words)) refl
    where
      by_advance : (b : Bool) → guard.advances g (reply_of q c.words) ≡ b → LooksOn q
      by_advance true on = Advances on
      by_advance false off = held_by g.stage q refl asked (guards_go_on g q c.words asked off)
