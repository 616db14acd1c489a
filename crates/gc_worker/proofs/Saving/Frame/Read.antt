-- What a step keeps of checkpoints by what it loads: the worker's saver stays as it is, or learns.
use Rattle.std.proofs.Common.{◌≡◌, ℕ, Some, None, refl, sym, subst, ◌∙◌}
use Rattle.std.proofs.lemmas.Option.{same_Some}
use Rattle.plain_state.specs.State.{Plain}
use Rattle.atom_store.specs.declared.reply.Reply.{Reply}
use Rattle.atom_store.specs.declared.reply.Reply.TheVariants.{Value}
use Rattle.atom_store.specs.declared.step.Step.{Step}
use Rattle.atom_store.specs.declared.step.Step.TheVariants.{Load}
use Rattle.space_map.specs.Table.{SnapNumber, LastSaved}
use Rattle.heap_state.specs.Configuration.{Configuration, table, team}
use Rattle.heap_state.specs.Functions.{put}
use Rattle.heap_state.specs.Memory.Entries.{WholeRow, IsWholeRow, word_in_whole, whole_place_of}
use Rattle.heap_state.specs.Memory.Table.{word_in}
use Rattle.heap_state.specs.Saving.Frozen.{Frozen}
use Rattle.heap_state.specs.Saving.Parts.{SavingStands}
use Rattle.heap_state.specs.Saving.Savers.{Saver}
use Rattle.heap_state.specs.Saving.Words.{saves_of}
use Rattle.heap_state.proofs.Puts.{put_is}
use Rattle.gc_worker.specs.Steps.Turned.{Silent, turned, told}
use Rattle.gc_worker.specs.Steps.Wanted.{wanted}
use Rattle.gc_worker.specs.Workers.Held.{Held}
use Rattle.gc_worker.specs.Workers.Saves.{saver_of}
use Rattle.gc_worker.proofs.Saving.Frame.Answers.{keeps_snaps}
use Rattle.gc_worker.proofs.Saving.Frame.StepRows.{SavedBy, learns_by, loads_so, reads_any}
use Rattle.gc_worker.proofs.Saving.Frame.Step.{Before, SavesStep, saves}

-- ---- words

pub snap_now : (c : Configuration) → (saves c).snap ≡ word_in c.pages c.words SnapNumber
unfolding saves_of
snap_now c = refl

pub done_now : (c : Configuration) → (saves c).done ≡ word_in c.pages c.words LastSaved
unfolding saves_of
done_now c = refl

-- ---- the worker

module _ (c : Configuration) (p : Plain) (z : Frozen) (saver : ℕ → Saver) (k : ℕ) (x : Held) (b : Before c p z saver k x) where
  -- its next step keeps what is kept
  pub wants_so : (q : Step) → wanted x ≡ Some q → SavesStep c p saver k x q → (r : Step) → wanted x ≡ Some r → SavesStep c p saver k x r
  wants_so q next keeps r asked = subst (SavesStep c p saver k x) (same_Some q r (sym next ∙ asked)) keeps

  -- what is kept of checkpoints with another saver for worker k
  abbrev pub With : Saver → Type 0
  With w = SavingStands (table c) (saves c) z (team c).count (put saver k w)

  -- what it had
  pub own_stands : With (saver_of x)
  own_stands = subst (SavingStands (table c) (saves c) z (team c).count) (put_is saver saver k (saver_of x) b.own (λ j other. refl)) b.saving

  -- a reply that writes nothing, after which it has this
  pub becomes_by : (reply : Reply) (w : Saver) → saver_of (turned x reply) ≡ w → With w → told x reply ≡ Silent → SavedBy c p saver k x None reply
  becomes_by reply w same stands silent = learns_by c p z saver k x b reply (subst With (sym same) stands) (rw silent (keeps_snaps p k Silent tt))

  -- or the same as before
  pub stays_by : (reply : Reply) → saver_of (turned x reply) ≡ saver_of x → told x reply ≡ Silent → SavedBy c p saver k x None reply
  stays_by reply same silent = becomes_by reply (saver_of x) same own_stands silent

  -- a load of a row's word
  pub loads_row : (row : WholeRow) → IsWholeRow c.pages row → SavedBy c p saver k x None (Value (word_in_whole c.pages c.words row))
      → SavesStep c p saver k x (Load (whole_place_of c.pages row))
  loads_row row is g = loads_so c p z saver k x b (whole_place_of c.pages row) (rw (reads_any c row is) g)
