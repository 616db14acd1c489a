-- A worker that knows no more of checkpoints after any reply, and answers no task: each of its steps, by the row that it is on.
use Rattle.std.proofs.Common.{◌≡◌, ℕ, None, Some, sym, slice_index, ◌∙◌}
use Rattle.plain_state.specs.State.{Plain}
use Rattle.atom_store.specs.declared.reply.Reply.{Reply}
use Rattle.atom_store.specs.declared.reply.Reply.TheVariants.{Value, Done, Won, Lost}
use Rattle.atom_store.specs.declared.step.Step.{Step}
use Rattle.atom_store.specs.declared.step.Step.TheVariants.{Load, Store, Exchange}
use Rattle.heap_state.specs.Configuration.{Configuration, table, team}
use Rattle.heap_state.specs.Memory.Entries.{Entry, EntryFits, row_of, whole_place_of, word_in_whole, word_of}
use Rattle.heap_state.specs.Saving.Frozen.{Frozen}
use Rattle.heap_state.specs.Saving.Savers.{Saver}
use Rattle.heap_state.proofs.Table.Stores.{entry_has_row}
use Rattle.heap_laws.specs.Saving.Rounds.{KnowsNoMore}
use Rattle.heap_laws.specs.Saving.Rows.{Spares}
use Rattle.gc_worker.specs.Steps.Turned.{turned, told}
use Rattle.gc_worker.specs.Steps.Wanted.{wanted}
use Rattle.gc_worker.specs.Workers.Held.{Held}
use Rattle.gc_worker.specs.Workers.Saves.{saver_of}
use Rattle.gc_worker.proofs.Saving.Frame.StepRows.{exchanges_so, forgets_by, loads_so, stores_by, stores_so}
use Rattle.gc_worker.proofs.Plain.Quiet.{IsQuiet}
use Rattle.gc_worker.proofs.Saving.Frame.Answers.{quiet_keeps}
use Rattle.gc_worker.proofs.Saving.Mutators.KeptSaves.{asked_so}
use Rattle.gc_worker.proofs.Saving.Frame.Step.{Before, KeepsSnaps, SavesStep, saves}

-- it is such a worker
pub record IsForgetful (x : Held) : Type 0 where
  pub less : (reply : Reply) → KnowsNoMore (saver_of (turned x reply)) (saver_of x)
  pub quiet : (reply : Reply) → IsQuiet (told x reply)

-- what each step that a worker wants keeps
abbrev pub SavesSo : (c : Configuration) (p : Plain) (saver : ℕ → Saver) (k : ℕ) → Held → Type 0
SavesSo c p saver k x = (q : Step) → wanted x ≡ Some q → SavesStep c p saver k x q

module _ (c : Configuration) (p : Plain) (z : Frozen) (saver : ℕ → Saver) (k : ℕ) (x : Held) (b : Before c p z saver k x) (f : IsForgetful x) where
  keeps : (reply : Reply) → KeepsSnaps p k (told x reply)
  keeps reply = quiet_keeps p k (told x reply) (f.quiet reply)

  abbrev Saves : Type 0
  Saves = SavesSo c p saver k x

  wants : (q : Step) → wanted x ≡ Some q → SavesStep c p saver k x q → Saves
  wants q next so = λ r asked. asked_so c p z saver k x b q r next asked so

  pub nothing : wanted x ≡ None → Saves
  nothing none = λ r asked. absurd (let same = sym none ∙ asked in cc)

  pub loads : (at : ℕ) → wanted x ≡ Some (Load at) → Saves
  loads at next = wants (Load at) next (loads_so c p z saver k x b at (forgets_by c p z saver k x b (Value (slice_index c.words at)) (f.less (Value (slice_index c.words at))) (keeps (Value (slice_index c.words at)))))

  module _ (e : Entry) (fits : EntryFits c.pages e) where
    pub stores : Spares (table c) (saves c) z (team c).count saver (Some e) → wanted x ≡ Some (Store (whole_place_of c.pages (row_of e)) (word_of e)) → Saves
    stores spares next =
        wants (Store (whole_place_of c.pages (row_of e)) (word_of e)) next
        (stores_so c p z saver k x b e (stores_by c p z saver k x b (Some e) Done fits spares (f.less Done) (keeps Done)))

    pub exchanges : (old : ℕ) → (word_in_whole c.pages c.words (row_of e) ≡ old → Spares (table c) (saves c) z (team c).count saver (Some e))
        → wanted x ≡ Some (Exchange (whole_place_of c.pages (row_of e)) old (word_of e)) → Saves
    exchanges old spares next =
        let now : ℕ = slice_index c.words (whole_place_of c.pages (row_of e)) in
        wants (Exchange (whole_place_of c.pages (row_of e)) old (word_of e)) next
        (exchanges_so c p z saver k x b e old (entry_has_row c.pages e fits)
        (λ same. stores_by c p z saver k x b (Some e) Won fits (spares same) (f.less Won) (keeps Won))
        (forgets_by c p z saver k x b (Lost now) (f.less (Lost now)) (keeps (Lost now))))
