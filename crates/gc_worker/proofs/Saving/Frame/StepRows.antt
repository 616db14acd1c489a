-- From rows of the whole table to the words of a step: what a step that is on a row, and gets this reply, keeps of checkpoints.
use Rattle.std.proofs.Common.{◌≡◌, [], ◌≢◌, ℕ, ◌==◌, true, false, refl, Option, None, Some, slice_index, sym, ◌∙◌, ⊎_elim}
use Rattle.std.proofs.lemmas.Bool.{eq-eqb, ne_eqb, cases_eq}
use Rattle.plain_state.specs.State.{Plain}
use Rattle.atom_store.specs.declared.reply.Reply.{Reply}
use Rattle.atom_store.specs.declared.reply.Reply.TheVariants.{Value, Done, Won, Lost}
use Rattle.atom_store.specs.declared.step.Step.TheVariants.{Load, Store, Exchange}
use Rattle.space_map.specs.Table.{HeapWord, IsRow, place_of}
use Rattle.heap_state.specs.Configuration.{Configuration, table, team}
use Rattle.heap_state.specs.Functions.{put}
use Rattle.heap_state.specs.Memory.Entries.{WholeRow, Within, Behind, whole_place_of, IsWholeRow, word_in_whole, Entry, row_of, word_of}
use Rattle.heap_state.specs.Memory.Table.{table_of}
use Rattle.heap_state.specs.Saving.Frozen.{Frozen}
use Rattle.heap_state.specs.Saving.Kept.{ShowsSnapped}
use Rattle.heap_state.specs.Saving.Parts.{SavingStands}
use Rattle.heap_state.specs.Saving.Savers.{Saver}
use Rattle.heap_state.proofs.Table.StoredRows.{word_in-row}
use Rattle.heap_laws.specs.Lifting.{table_after, RowFits}
use Rattle.heap_laws.specs.Saving.Rounds.{KnowsNoMore}
use Rattle.heap_laws.specs.Saving.Rows.{Spares, SparesNone}
use Rattle.heap_laws.specs.Saving.Stores.{saves_after}
use Rattle.heap_laws.proofs.Saving.Forgotten.{savers_forget}
use Rattle.gc_worker.specs.Plain.Answer.{after_told}
use Rattle.gc_worker.specs.Steps.Turned.{turned, told}
use Rattle.gc_worker.specs.Workers.Held.{Held}
use Rattle.gc_worker.specs.Workers.Saves.{saver_of}
use Rattle.gc_worker.proofs.Saving.Frame.Step.{Before, KeepsSnaps, SavesStep, saves, shows_still, spares_leave}

-- the row is written, or none, and worker k gets this reply
pub record SavedBy (c : Configuration) (p : Plain) (saver : ℕ → Saver) (k : ℕ) (x : Held) (e : Option Entry) (reply : Reply) : Type 0 where
  pub fits : RowFits c.pages e
  pub frozen : Frozen
  pub stands : SavingStands (table_after (table c) e) (saves_after (saves c) e) frozen (team c).count (put saver k (saver_of (turned x reply)))
  pub shows : ShowsSnapped c.pages (saves_after (saves c) e) frozen (after_told [] p k (told x reply)).heap

-- the word at a row's place
pub reads_any : (c : Configuration) (row : WholeRow) → IsWholeRow c.pages row → slice_index c.words (whole_place_of c.pages row) ≡ word_in_whole c.pages c.words row
reads_any c (Within row) is = sym (word_in-row c.pages c.words row is)
reads_any c (Behind row) is = refl

-- a word of the heap
pub heap_now : (c : Configuration) (addr : ℕ) → IsRow c.pages (HeapWord addr) → (table c).heap addr ≡ slice_index c.words (place_of c.pages (HeapWord addr))
unfolding table_of
heap_now c addr is = word_in-row c.pages c.words (HeapWord addr) is

module _ (c : Configuration) (p : Plain) (z : Frozen) (saver : ℕ → Saver) (k : ℕ) (x : Held) (b : Before c p z saver k x) where
  -- ---- what is kept then

  abbrev By : Option Entry → Reply → Type 0
  By = SavedBy c p saver k x

  abbrev after : Reply → ℕ → Saver
  after reply = put saver k (saver_of (turned x reply))

  -- SNAP stays, whatever else is said of checkpoints
  pub kept_by : (e : Option Entry) (reply : Reply) → RowFits c.pages e → (saves_after (saves c) e).snap ≡ (saves c).snap
      → SavingStands (table_after (table c) e) (saves_after (saves c) e) z (team c).count (after reply) → KeepsSnaps p k (told x reply) → By e reply
  kept_by e reply fits same stands keeps = record {
    fits = fits;
    frozen = z;
    stands = stands;
    shows = shows_still c.pages (saves_after (saves c) e) z p k (told x reply) (record { number = same ∙ b.shows.number; keeps = rw same b.shows.keeps }) keeps;
  }

  -- it stores in a row that spares the checkpoints, and knows no more of them then
  pub stores_by : (e : Option Entry) (reply : Reply) → RowFits c.pages e → Spares (table c) (saves c) z (team c).count saver e
      → KnowsNoMore (saver_of (turned x reply)) (saver_of x) → KeepsSnaps p k (told x reply) → By e reply
  stores_by e reply fits spares less keeps =
      let same = spares_leave (table c) (saves c) z (team c).count saver e spares in
      kept_by e reply fits (rw same refl)
      (rw same (savers_forget (table c) (saves c) z (team c).count saver k e (saver_of (turned x reply)) b.saving b.is.below spares (rw b.own less))) keeps

  pub forgets_by : (reply : Reply) → KnowsNoMore (saver_of (turned x reply)) (saver_of x) → KeepsSnaps p k (told x reply) → By None reply
  forgets_by reply less keeps = stores_by None reply tt SparesNone less keeps

  -- it learns of checkpoints
  pub learns_by : (reply : Reply) → SavingStands (table c) (saves c) z (team c).count (after reply) → KeepsSnaps p k (told x reply) → By None reply
  learns_by reply stands keeps = kept_by None reply tt refl stands keeps

  -- ---- steps on a row

  pub loads_so : (at : ℕ) → By None (Value (slice_index c.words at)) → SavesStep c p saver k x (Load at)
  loads_so at g = record { entry = None; writes = refl; fits = g.fits; frozen = g.frozen; stands = g.stands; shows = g.shows }

  pub stores_so : (e : Entry) → By (Some e) Done → SavesStep c p saver k x (Store (whole_place_of c.pages (row_of e)) (word_of e))
  stores_so e g = record { entry = Some e; writes = refl; fits = g.fits; frozen = g.frozen; stands = g.stands; shows = g.shows }

  module _ (e : Entry) (old : ℕ) (is : IsWholeRow c.pages (row_of e)) where
    abbrev word : ℕ
    word = slice_index c.words (whole_place_of c.pages (row_of e))

    abbrev Exchanges : Type 0
    Exchanges = SavesStep c p saver k x (Exchange (whole_place_of c.pages (row_of e)) old (word_of e))

    pub by_won : (word == old) ≡ true → By (Some e) Won → Exchanges
    by_won test g = record { entry = Some e; writes = rw test refl; fits = g.fits; frozen = g.frozen; stands = rw test g.stands; shows = rw test g.shows }

    by_lost : (word == old) ≡ false → By None (Lost word) → Exchanges
    by_lost test g = record { entry = None; writes = rw test refl; fits = g.fits; frozen = g.frozen; stands = rw test g.stands; shows = rw test g.shows }

    pub exchanges_so : (word_in_whole c.pages c.words (row_of e) ≡ old → By (Some e) Won) → By None (Lost word) → Exchanges
    exchanges_so won lost = ⊎_elim
        (λ (same : word ≡ old). by_won (eq-eqb word old same) (won (sym (reads_any c (row_of e) is) ∙ same)))
        (λ (other : word ≢ old). by_lost (ne_eqb word old other) lost)
        (cases_eq word old)
