-- What is kept of checkpoints says that the last one is safe, whatever the workers are about to do.
use Rattle.std.proofs.Common.{◌≡◌, ◌≢◌, ◌⊎◌, ⊎_elim, ℕ, ◌+◌, ◌*◌, ◌<◌, ◌≤◌, Bool, true, false, length, Some, refl, sym, ap, subst, ◌∙◌, arith}
use Rattle.std.specs.Prelude.{◌&&◌}
use Rattle.std.proofs.lemmas.Bool.{cases_eq, ne_eqb}
use Rattle.plain_state.specs.State.{Plain}
use Rattle.space_map.specs.declared.page_word.PageWord.TheVariants.{Open}
use Rattle.space_map.specs.declared.save_word.SaveWord.{SaveWord}
use Rattle.space_map.specs.declared.save_word.SaveWord.TheVariants.{Saving, Saved, New}
use Rattle.space_map.specs.Spaces.{board_page, first_word, page_of, to_space}
use Rattle.space_map.specs.Table.{HeapWord}
use Rattle.heap_state.specs.Configuration.{table}
use Rattle.heap_state.specs.Memory.Table.{Table, table_of, word_in}
use Rattle.heap_state.specs.Saving.Frozen.{Frozen}
use Rattle.heap_state.specs.Saving.Parts.{HasWonSave, IsSaving, KnowsSaving, SavesRound, SavingWords}
use Rattle.heap_state.specs.Saving.Said.{SaysCheckpoint}
use Rattle.heap_state.specs.Saving.Savers.{SaveRound, Saver}
use Rattle.heap_state.specs.Saving.Words.{IsInProgress, Saves}
use Rattle.heap_state.proofs.Saving.Read.{words_read_are_frozen}
use Rattle.heap_laws.specs.Saving.Rounds.{round_past}
use Rattle.heap_laws.specs.Saving.Rows.{HasPassedAll}
use Rattle.heap_laws.proofs.Saving.Pages.Images.{on_page}
use Rattle.heap_laws.proofs.Saving.PassedRounds.{passed_rounds_have_saved}
use Rattle.heap_laws.proofs.Saving.LearntSaves.{rounds_follow}
use Rattle.page_saves.specs.declared.save_round_stage.SaveRoundStage.TheVariants.{ExchangesDone}
use Rattle.page_saves.specs.SaveRound.{SavingRound}
use Rattle.gc_worker.specs.declared.stage.after.After.TheVariants as afters
use Rattle.gc_worker.specs.declared.stage.goal.Goal.{Goal}
use Rattle.gc_worker.specs.declared.stage.Stage.{Stage}
use Rattle.gc_worker.specs.declared.stage.Stage.TheVariants.{Passes, Flips, Accesses, Places, Recalls, Checkpoints}
use Rattle.gc_worker.specs.Laws.Checkpoints.{CheckpointIsSafe, CheckpointsAreSafe, FindsAtRest, HasCopied, IsOpenNow, IsSavedOrNew, IsUnfinished, flips_next, writes_next}
use Rattle.gc_worker.specs.Laws.Claims.{epoch_of_heap}
use Rattle.gc_worker.specs.Laws.Copied.{IsTraced}
use Rattle.gc_worker.specs.Laws.Step.{CheckpointsStand, Heap, WorkersStand, held_at, read, saves_in}
use Rattle.gc_worker.specs.Workers.Fits.{FitsStage}
use Rattle.gc_worker.specs.Workers.Saves.{guarded_by, guarded_in, save_round_at, saver_at, saver_of, settled_in, snap_in}
use Rattle.gc_worker.proofs.Between.Pages.Claims.{of_now}
use Rattle.gc_worker.proofs.Saving.Won.{kept}
use Rattle.gc_worker.proofs.Stages.Rounds.RoundWords.{page_says, traced_word}

-- ---- stages

-- who flips next is on its way to a request, or has it
flips_settled : (stage : Stage) → flips_next stage ≡ true → settled_in stage ≡ true
flips_settled (Flips f) is = refl
flips_settled (Passes g afters.Snaps) is = absurd (cc)
flips_settled (Passes g afters.Looks) is = is
flips_settled (Passes g afters.Places) is = is
flips_settled stage is = absurd (cc)

-- and goes by the SNAP that it has read
snap_settled : (own : ℕ) (stage : Stage) → settled_in stage ≡ true → snap_in own stage ≡ own
snap_settled own (Recalls r after) is = absurd (cc)
snap_settled own stage is = refl

false_if : (b : Bool) → (b ≡ true → ⊥) → b ≡ false
false_if true never = absurd (never refl)
false_if false never = refl

saving_not_saved : (w : SaveWord) (c k n : ℕ) → w ≡ Saving c k → w ≢ Saved n
saving_not_saved w c k n saving saved = absurd (cc)

module _ (h : Heap) (p o : Plain) (st : WorkersStand h p o) (room : h.checkpoints ≡ true) where
  all : CheckpointsStand h p
  all = kept h p o st room

  abbrev z : Frozen
  z = all.frozen

  abbrev t : Table
  t = table (read h)

  abbrev s : Saves
  s = saves_in h

  words : SavingWords t s z
  words = all.stands.words

  knows : (k : ℕ) → k < length h.workers → KnowsSaving t s z k (saver_of (held_at h k))
  knows k l = all.stands.workers.each k l

  knows_at : (k : ℕ) (stage : Stage) → k < length h.workers → (held_at h k).stage ≡ stage → KnowsSaving t s z k (saver_at (held_at h k) stage)
  knows_at k stage l staged = subst (λ (now : Stage). KnowsSaving t s z k (saver_at (held_at h k) now)) staged (knows k l)

  -- ---- the words

  table_pages : t.pages ≡ h.pages
  unfolding table_of
  table_pages = refl

  heap_word : (x : ℕ) → t.heap x ≡ word_in h.pages h.words (HeapWord x)
  unfolding table_of
  heap_word x = refl

  gate_epoch : t.gate.epoch ≡ epoch_of_heap h
  gate_epoch = of_now h p o st

  is_traced : t.traced ≡ t.gate.epoch + 1 → IsTraced h
  is_traced is = sym (traced_word (read h)) ∙ (is ∙ ap (λ (e : ℕ). e + 1) gate_epoch)

  held_within : (page : ℕ) → z.held page ≡ true → page ≤ board_page h.pages
  held_within page held = subst (λ (n : ℕ). page ≤ board_page n) table_pages (words.within page held)

  says : SaysCheckpoint h.pages h.words p.heap.snaps p.heap.snapped
  says = record {
    frozen = z;
    formed = all.formed;
    number_is = all.shows.number;
    picture = λ some. all.shows.keeps (let number = all.shows.number in omega (arith, number, some));
    within = held_within;
    read = λ some x held. words_read_are_frozen t s z x words held;
  }

  opened : IsUnfinished h → (page : ℕ) → z.held page ≡ true → IsOpenNow h page × (s.save page ≢ New s.snap)
  opened unfinished page held =
      let open_is = (words.opened unfinished page held).1 in
      let within = held_within page held in (
        page_says (read h) p st.stands page within ∙ (ap Some open_is ∙ ap (λ (e : ℕ). Some (Open e)) gate_epoch),
        words.old unfinished page held,
      )

  -- ---- requests

  settled : (k : ℕ) → k < length h.workers → settled_in (held_at h k).stage ≡ true → FindsAtRest h k
  settled k l is =
      let found = (knows k l).settles is in
      record {
        rests = found.rests;
        snap = sym (snap_settled (held_at h k).snap (held_at h k).stage is) ∙ found.snap;
        traced = is_traced found.traced;
      }

  no_flip : IsUnfinished h → (k : ℕ) → k < length h.workers → flips_next (held_at h k).stage ≡ false
  no_flip unfinished k l =
      false_if (flips_next (held_at h k).stage) (λ is. let rests = ((knows k l).settles (flips_settled (held_at h k).stage is)).rests in omega (arith, rests, unfinished))

  -- ---- copies

  module _ (page c k : ℕ) (saving : s.save page ≡ Saving c k) (l : k < length h.workers) (won : HasWonSave (saver_of (held_at h k)) page c) where
    saves : IsSaving s z k won.step
    saves = (knows k l).saves won.step won.is won.won

    abbrev at : ℕ → ℕ
    at i = first_word page + i

    in_frozen : (i : ℕ) → i < won.step.copied → s.image (at i) ≡ z.heap (at i)
    in_frozen i below = subst (λ (q : ℕ). s.image (first_word q + i) ≡ z.heap (first_word q + i)) won.page (saves.copied i below)

    in_heap : (i : ℕ) → i < won.step.copied → word_in h.pages h.words (HeapWord (at i)) ≡ z.heap (at i)
    in_heap i below =
        let some = saves.some in
        let on : page_of (at i) ≡ page = on_page page i (omega (arith, some, below)) in
        let begun = saves.runs.0 in
        let done = saves.runs.1 in
        let held : z.held (page_of (at i)) ≡ true = ap z.held (on ∙ sym won.page) ∙ saves.held in
        sym (heap_word (at i)) ∙ words.unsaved (omega (arith, begun, done)) (at i) held (saving_not_saved (s.save (page_of (at i))) c k s.snap (ap s.save on ∙ saving))

    has_copied : HasCopied h z page c k
    has_copied = record {
      worker = l;
      step = won.step;
      is = won.is;
      page_is = won.page;
      number_is = won.number;
      in_image = λ i below. in_frozen i below ∙ sym (in_heap i below);
      in_heap = in_heap;
    }

  copied : (page c k : ℕ) → s.save page ≡ Saving c k → HasCopied h z page c k
  copied page c k saving = let own = all.stands.workers.savers page c k saving in has_copied page c k saving own.0 own.1

  -- ---- writes

  guarded_by_known : (k page : ℕ) (w : Saver) → KnowsSaving t s z k w → w.guarded ≡ Some page → IsSavedOrNew h page
  guarded_by_known k page w known is =
      let guard = known.guarded page is in
      let one = (known.recalls guard.recalled.0).one guard.recalled.1 in
      subst (λ (n : ℕ). (s.save page ≡ Saved n) ⊎ (s.save page ≡ New n)) one.0 guard.says

  guarded : (k page : ℕ) → k < length h.workers → guarded_in (held_at h k).running (held_at h k).stage ≡ Some page → IsSavedOrNew h page
  guarded k page l is = guarded_by_known k page (saver_of (held_at h k)) (knows k l) is

  -- a mutator that runs, and has read SNAP and DONE, writes next on a page that it looked at if a checkpoint was in progress then
  running_writes : (k page : ℕ) (w : Saver) → KnowsSaving t s z k w → w.recalled ≡ true → w.reads_done ≡ false → w.guarded ≡ guarded_by w.running (Some page) → IsUnfinished h → IsSavedOrNew h page
  running_writes k page w known recalled read_both guard unfinished = ⊎_elim
      (λ (none : w.running ≡ 0). absurd (let rests : s.done ≡ s.snap = (known.recalls recalled).none read_both none in omega (arith, rests, unfinished)))
      (λ (some : w.running ≢ 0). guarded_by_known k page w known (rw (ne_eqb w.running 0 some) at guard))
      (cases_eq w.running 0)

  has_room : (k : ℕ) → k < length h.workers → (held_at h k).layout.checkpoints ≡ true
  has_room k l = st.laid_out k l ∙ room

  written_at : IsUnfinished h → (k page : ℕ) (l : k < length h.workers) (stage : Stage) → (held_at h k).stage ≡ stage → writes_next stage ≡ Some page → IsSavedOrNew h page
  written_at unfinished k page l (Accesses a) staged is =
      running_writes k page (saver_at (held_at h k) (Accesses a)) (knows_at k (Accesses a) l staged) (ap (λ (b : Bool). b && true && true) (has_room k l)) refl
      (ap (guarded_by (held_at h k).running) is) unfinished
  written_at unfinished k page l (Places q) staged is =
      running_writes k page (saver_at (held_at h k) (Places q)) (knows_at k (Places q) l staged) (ap (λ (b : Bool). b && true && true) (has_room k l)) refl
      (ap (guarded_by (held_at h k).running) is) unfinished
  written_at unfinished k page l stage staged is = absurd (cc)

  -- ---- the end

  module _ (k : ℕ) (r : SavingRound) (goal : Goal) (l : k < length h.workers) (staged : (held_at h k).stage ≡ Checkpoints r goal) (ends : r.stage ≡ ExchangesDone) where
    abbrev last : SaveRound
    last = round_past r.number r.epoch (r.layout.pages * to_space r.epoch + r.layout.pages) false

    round_pages : r.layout.pages ≡ t.pages
    round_pages =
        let fits = subst (FitsStage (held_at h k)) staged (st.fit k l).stage in
        ap (λ layout. layout.pages) fits.layout ∙ ((st.fit k l).pages ∙ sym table_pages)

    all_passed : HasPassedAll t.pages last
    all_passed = subst (λ (n : ℕ). HasPassedAll n last) round_pages (rounds_follow.all r.layout.pages r.number r.epoch)

    saves_round : SavesRound t s z last
    saves_round = (knows_at k (Checkpoints r goal) l staged).round last (ap (save_round_at r) ends)

    finishing : s.done + 1 ≡ r.number → IsInProgress s r.number × ((page : ℕ) → z.held page ≡ true → s.save page ≡ Saved r.number)
    finishing done = let saved = passed_rounds_have_saved t s z last words saves_round all_passed done in (saved.runs, saved.saved)

  is_safe : CheckpointIsSafe h p
  unfolding says
  is_safe = record {
    says = says;
    traced = λ unfinished. is_traced (words.traced unfinished);
    no_flip = no_flip;
    copied = copied;
    settled = settled;
    guarded = guarded;
    written = λ unfinished k page l is. written_at unfinished k page l (held_at h k).stage refl is;
    opened = opened;
    finishing = λ k r goal l staged ends done. finishing k r goal l staged ends done;
  }

pub checkpoints_are_safe : CheckpointsAreSafe
checkpoints_are_safe h p o st room = is_safe h p o st room
