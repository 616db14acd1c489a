-- Each worker of a heap that stands is one of its configuration's.
use Rattle.std.proofs.Common.{◌≡◌, ℕ, ◌<◌, ◌≤◌, Bool, true, false, length, refl, ap, sym, subst, ◌∙◌, arith}
use Rattle.std.specs.Prelude.{◌&&◌, not}
use Rattle.std.proofs.lemmas.List.{get_or-map, length-map}
use Rattle.plain_state.specs.State.{Plain}
use Rattle.space_map.specs.Table.{SnapNumber, whole_length}
use Rattle.heap_state.specs.Memory.Table.{word_in}
use Rattle.heap_state.specs.Saving.Words.{saves_of}
use Rattle.heap_state.specs.Known.{Scanner, fresh, is_running}
use Rattle.gc_worker.specs.Steps.Goes.{Is}
use Rattle.gc_worker.specs.Workers.Held.{Held}
use Rattle.gc_worker.specs.Workers.Knows.{knows, post_in}
use Rattle.gc_worker.specs.Workers.Saves.{saver_of, reads_snap_in}
use Rattle.gc_worker.specs.Laws.Step.{Heap, read, nobody, held_at, CheckpointsStand, StandIf, WorkersStand}

module _ (h : Heap) (p o : Plain) (k : ℕ) (st : WorkersStand h p o) (l : k < length h.workers) where
  -- it has the table of the heap
  has_whole : whole_length (held_at h k).layout ≤ length h.words
  has_whole = rw ((st.fit k l).pages, st.laid_out k l) st.whole

  -- SNAP is as it has read it
  reads_as_is : CheckpointsStand h p → (saver_of (held_at h k)).recalled ≡ true → word_in h.pages h.words SnapNumber ≡ (saver_of (held_at h k)).snap
  unfolding saves_of
  reads_as_is stand recalled = sym ((stand.stands.workers.each k l).recalls recalled).snap

  by_room : (b : Bool) → (held_at h k).layout.checkpoints ≡ b → (saver_of (held_at h k)).recalled ≡ true
      → word_in h.pages h.words SnapNumber ≡ (saver_of (held_at h k)).snap
  by_room true room recalled = reads_as_is (subst (λ (b : Bool). StandIf b h p) (sym (st.laid_out k l) ∙ room) st.saving) recalled
  by_room false none recalled =
      let never : false ≡ true = sym (ap (λ (b : Bool). b && is_running (post_in (held_at h k) (held_at h k).stage) && not (reads_snap_in (held_at h k).stage)) none) ∙ recalled in
      absurd (cc)

  its_own : Is (read h) k (held_at h k)
  its_own = record {
    below = (let n = length-map h.workers knows in omega (arith, n, l));
    as_known = get_or-map knows h.workers k nobody (fresh Scanner) l;
    fits = st.fit k l;
    whole = has_whole;
    recalls = by_room (held_at h k).layout.checkpoints refl;
  }

pub member : (h : Heap) (p o : Plain) (k : ℕ) (x : Held) → WorkersStand h p o → k < length h.workers → held_at h k ≡ x → Is (read h) k x
member h p o k x st l holds = subst (Is (read h) k) holds (its_own h p o k st l)
