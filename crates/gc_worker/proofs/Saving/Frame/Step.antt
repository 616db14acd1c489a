-- What is kept of checkpoints after a step of one worker: what each kind of step owes, and the kinds that teach nothing of them.
use Rattle.std.proofs.Common.{◌≡◌, [], ℕ, inl, true, false, refl, Option, None, sym, ◌∙◌}
use Rattle.plain_state.specs.State.{Plain}
use Rattle.atom_store.specs.declared.step.Step.{Step}
use Rattle.atom_store.specs.Step.{words_after, reply_of}
use Rattle.heap_state.specs.Configuration.{Configuration, Stands, table, era, memory, team}
use Rattle.heap_state.specs.Functions.{put}
use Rattle.heap_state.specs.Memory.Entries.{Entry}
use Rattle.heap_state.specs.Memory.Table.{Table}
use Rattle.heap_state.specs.Saving.Frozen.{Frozen}
use Rattle.heap_state.specs.Saving.Kept.{ShowsSnapped}
use Rattle.heap_state.specs.Saving.Parts.{SavingStands}
use Rattle.heap_state.specs.Saving.Savers.{Saver, NoReads}
use Rattle.heap_state.specs.Saving.Words.{Saves, AreFormedSaves, saves_of}
use Rattle.heap_state.proofs.Puts.{true_false, none≢some}
use Rattle.heap_laws.specs.Lifting.{words_after_row, table_after, RowFits}
use Rattle.heap_laws.specs.Saving.Rounds.{KnowsNoMore}
use Rattle.heap_laws.specs.Saving.Rows.{Spares, SparesNone}
use Rattle.heap_laws.specs.Saving.Snapping.{FollowPosts}
use Rattle.heap_laws.specs.Saving.Stores.{saves_after}
use Rattle.heap_laws.specs.Steps.{Ready}
use Rattle.heap_laws.proofs.Lifting.Configurations.{ready}
use Rattle.gc_worker.specs.Plain.Answer.{after_told}
use Rattle.gc_worker.specs.Steps.Goes.{Is}
use Rattle.gc_worker.specs.Steps.Turned.{Told, turned, told}
use Rattle.gc_worker.specs.Workers.Held.{Held}
use Rattle.gc_worker.specs.Workers.Saves.{saver_of}

-- what the words of a configuration say of checkpoints
abbrev pub saves : Configuration → Saves
saves c = saves_of c.pages c.words

-- Worker k, which holds x, is about to make a step in a configuration that stands, in which checkpoints can be begun and what is
-- kept of them stands.
pub record Before (c : Configuration) (p : Plain) (z : Frozen) (saver : ℕ → Saver) (k : ℕ) (x : Held) : Type 0 where
  pub stands : Stands c p
  pub formed : AreFormedSaves c.pages c.words
  pub saving : SavingStands (table c) (saves c) z (team c).count saver
  pub shows : ShowsSnapped c.pages (saves c) z p.heap
  pub posts : FollowPosts (team c).count (team c).worker saver
  pub is : Is c k x
  pub own : saver k ≡ saver_of x
  pub room : x.layout.checkpoints ≡ true

-- it is ready for the laws of the heap
pub prepared : (c : Configuration) (p : Plain) (z : Frozen) (saver : ℕ → Saver) (k : ℕ) (x : Held) (b : Before c p z saver k x) → Ready (era c) (memory c) (team c) b.stands.ghost k
prepared c p z saver k x b = ready c p b.stands k b.is.below

-- The step writes a row, or none, and what is kept of checkpoints stands after it, for the worker as it is then, and the plain heap
-- as it is then.
pub record SavesStep (c : Configuration) (p : Plain) (saver : ℕ → Saver) (k : ℕ) (x : Held) (q : Step) : Type 0 where
  pub entry : Option Entry
  pub writes : words_after q c.words ≡ words_after_row c.pages c.words entry
  pub fits : RowFits c.pages entry
  pub frozen : Frozen
  pub stands : SavingStands (table_after (table c) entry) (saves_after (saves c) entry) frozen (team c).count (put saver k (saver_of (turned x (reply_of q c.words))))
  pub shows : ShowsSnapped c.pages (saves_after (saves c) entry) frozen (after_told [] p k (told x (reply_of q c.words))).heap

-- ---- the plain heap

-- a step that is this to the plain machine leaves what its heap has kept of checkpoints
pub record KeepsSnaps (p : Plain) (k : ℕ) (t : Told) : Type 0 where
  pub snaps : (after_told [] p k t).heap.snaps ≡ p.heap.snaps
  pub snapped : (after_told [] p k t).heap.snapped ≡ p.heap.snapped

pub shows_still : (n : ℕ) (s : Saves) (z : Frozen) (p : Plain) (k : ℕ) (t : Told) → ShowsSnapped n s z p.heap → KeepsSnaps p k t → ShowsSnapped n s z (after_told [] p k t).heap
shows_still n s z p k t shows keeps = record { number = shows.number ∙ sym keeps.snaps; keeps = λ some. rw keeps.snapped (shows.keeps some) }

-- ---- rows that spare the checkpoints

pub spares_leave : (t : Table) (s : Saves) (z : Frozen) (count : ℕ) (saver : ℕ → Saver) (e : Option Entry) → Spares t s z count saver e → saves_after s e ≡ s
spares_leave t s z count saver _ SparesNone = refl
spares_leave t s z count saver _ _ = refl

-- ---- who knows no more

-- the worker knows nothing of checkpoints but what it read when it began to run
pub record IsBare (w : Saver) : Type 0 where
  pub settled : w.settled ≡ false
  pub still : w.still ≡ None
  pub guarded : w.guarded ≡ None
  pub marked : w.marked ≡ None
  pub save : w.save ≡ None
  pub reads : w.reads ≡ NoReads
  pub round : w.round ≡ None

-- what it has read, the other has read too
abbrev pub RecallsAs : (w v : Saver) → Type 0
RecallsAs w v = w.recalled ≡ true → (v.recalled ≡ true) × (w.runs ≡ true) × (w.reads_done ≡ v.reads_done) × (w.snap ≡ v.snap) × (w.running ≡ v.running)

pub bare_knows_no_more : (w v : Saver) → IsBare w → RecallsAs w v → v.save ≡ None → KnowsNoMore w v
bare_knows_no_more w v bare recalls none = record {
  recalled = recalls;
  settled = λ is. true_false bare.settled is;
  still = λ gate is. none≢some (sym bare.still ∙ is);
  guarded = λ page is. none≢some (sym bare.guarded ∙ is);
  marked = λ page is. none≢some (sym bare.marked ∙ is);
  save = bare.save ∙ sym none;
  reads = inl bare.reads;
  round = λ r is. none≢some (sym bare.round ∙ is);
}
