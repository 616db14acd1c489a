-- What is kept of checkpoints stands after each step, where they can be begun.
use Rattle.std.proofs.Common.{◌≡◌, [], ℕ, ◌<◌, List, Bool, true, false, refl, length, Some, subst, sym, ap, ◌∙◌}
use Rattle.std.proofs.lemmas.List.{get_or-map, length-map}
use Rattle.std.proofs.Common.{get_or-set_same, get_or-set_other, length-set}
use Rattle.plain_state.specs.declared.value.Identity.{Identity}
use Rattle.plain_state.specs.State.{Plain}
use Rattle.atom_store.specs.declared.step.Step.{Step}
use Rattle.atom_store.specs.Step.{reply_of}
use Rattle.heap_state.specs.Configuration.{Configuration, table, team}
use Rattle.heap_state.specs.Functions.{put}
use Rattle.heap_state.specs.Memory.Table.{table_of}
use Rattle.heap_state.specs.Saving.Savers.{Saver}
use Rattle.heap_state.specs.Saving.Words.{saves_of, AreFormedSaves}
use Rattle.heap_state.specs.Known.{Known, Scanner, fresh, is_running, is_asking}
use Rattle.heap_state.proofs.Puts.{put_is}
use Rattle.heap_laws.specs.Lifting.{table_after}
use Rattle.heap_laws.specs.Saving.Snapping.{FollowPosts}
use Rattle.heap_laws.specs.Saving.Stores.{saves_after}
use Rattle.heap_laws.proofs.Lifting.Configurations.{seen}
use Rattle.heap_laws.proofs.Saving.Stores.{saves_follow}
use Rattle.gc_worker.specs.Laws.Step.{Heap, read, nobody, held_at, saves_in, CheckpointsStand, StandIf, WorkersStand, moved}
use Rattle.gc_worker.specs.Plain.Answer.{after_told, with_emptied}
use Rattle.gc_worker.specs.Steps.Turned.{Told, Empties, turned, told}
use Rattle.gc_worker.specs.Steps.Wanted.{wanted}
use Rattle.gc_worker.specs.Workers.Held.{Held}
use Rattle.gc_worker.specs.Workers.Knows.{knows}
use Rattle.gc_worker.specs.Workers.Saves.{saver_of}
use Rattle.gc_worker.proofs.Plain.CellTargets.Emptied.{kept_if}
use Rattle.gc_worker.proofs.Plain.Represented.{kept_by}
use Rattle.gc_worker.proofs.Saving.Kinds.{kinds}
use Rattle.gc_worker.proofs.Saving.Frame.Step.{Before, SavesStep}
use Rattle.gc_worker.proofs.Workers.Members.{member}

module _ (h : Heap) (p o : Plain) (k : ℕ) (x : Held) (q : Step) (st : WorkersStand h p o) (l : k < length h.workers) (holds : held_at h k ≡ x) (room : h.checkpoints ≡ true) where
  abbrev c : Configuration
  c = read h

  abbrev saver : ℕ → Saver
  saver j = saver_of (held_at h j)

  abbrev y : Held
  y = turned x (reply_of q h.words)

  abbrev later : Heap
  later = moved h k x q

  before_it : CheckpointsStand h p
  before_it = subst (λ b. StandIf b h p) room st.saving

  as_many : (team c).count ≡ length h.workers
  as_many = length-map h.workers knows

  known : (j : ℕ) → j < length h.workers → (team c).worker j ≡ knows (held_at h j)
  known j in_team = get_or-map knows h.workers j nobody (fresh Scanner) in_team

  posts : FollowPosts (team c).count (team c).worker saver
  posts = record {
    runs = λ j in_team. ap (λ (w : Known). is_running w.post) (sym (known j (rw (sym as_many) in_team)));
    asks = λ j in_team. ap (λ (w : Known). is_asking w.post) (sym (known j (rw (sym as_many) in_team)));
  }

  before : Before c p before_it.frozen saver k x
  before = record {
    stands = st.stands;
    formed = before_it.formed;
    saving = rw as_many before_it.stands;
    shows = before_it.shows;
    posts = posts;
    is = member h p o k x st l holds;
    own = ap saver_of holds;
    room = ap (λ (x : Held). x.layout.checkpoints) (sym holds) ∙ (st.laid_out k l ∙ room);
  }

  savers_after : (λ (j : ℕ). saver_of (held_at later j)) ≡ put saver k (saver_of y)
  savers_after = put_is saver (λ j. saver_of (held_at later j)) k (saver_of y) (ap saver_of (get_or-set_same h.workers k y nobody l))
      (λ j d. ap saver_of (get_or-set_other h.workers k j y nobody d))

  module _ (step : SavesStep c p saver k x q) where
    table_then : table (read later) ≡ table_after (table c) step.entry
    table_then = ap (table_of h.pages) step.writes ∙ (seen c step.entry k (knows y) st.stands.formed (member h p o k x st l holds).below step.fits).table_said

    said : saves_in later ≡ saves_after (saves_in h) step.entry
    said = ap (saves_of h.pages) step.writes ∙ (saves_follow h.pages h.words step.entry before_it.formed step.fits).says

    lifted : CheckpointsStand later (after_told [] p k (told x (reply_of q h.words)))
    lifted = record {
      formed = subst (AreFormedSaves h.pages) (sym step.writes) (saves_follow h.pages h.words step.entry before_it.formed step.fits).formed;
      frozen = step.frozen;
      stands = rw (table_then, said, length-set h.workers k y, sym as_many, savers_after) step.stands;
      shows = rw said step.shows;
    }

by_room : (h : Heap) (p o : Plain) (k : ℕ) (x : Held) (q : Step) → WorkersStand h p o → k < length h.workers → held_at h k ≡ x → wanted x ≡ Some q
    → (b : Bool) → h.checkpoints ≡ b → StandIf b (moved h k x q) (after_told [] p k (told x (reply_of q h.words)))
by_room h p o k x q st l holds asked false room = tt
by_room h p o k x q st l holds asked true room =
    lifted h p o k x q st l holds room (kinds (read h) p (before_it h p o k x q st l holds room).frozen (λ j. saver_of (held_at h j)) k x (before h p o k x q st l holds room) q asked)

-- Each step of a heap with checkpoints keeps what is kept of them, whichever cells are emptied.
pub saving_kept : (empty : List Identity) (h : Heap) (p o : Plain) (k : ℕ) (x : Held) (q : Step) → WorkersStand h p o → k < length h.workers → held_at h k ≡ x → wanted x ≡ Some q
    → StandIf h.checkpoints (moved h k x q) (after_told empty p k (told x (reply_of q h.words)))
saving_kept empty h p o k x q st l holds asked = by_told (told x (reply_of q h.words)) (by_room h p o k x q st l holds asked h.checkpoints refl)
  where
    by_told : (t : Told) → StandIf h.checkpoints (moved h k x q) (after_told [] p k t) → StandIf h.checkpoints (moved h k x q) (after_told empty p k t)
    by_told Empties saved = kept_by (moved h k x q) p (with_emptied p empty) h.checkpoints saved (kept_if p empty h.checkpoints)
    by_told _ saved = saved
