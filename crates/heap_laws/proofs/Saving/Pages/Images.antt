-- A word is stored in its IMAGE by the worker that saves its page: what is kept of checkpoints then.
use Rattle.std.proofs.Common.{◌≡◌, ◌≢◌, ℕ, ◌+◌, ◌<◌, ◌≤◌, inl, true, Some, ◌∙◌, arith}
use Rattle.space_map.specs.declared.save_word.SaveWord.TheVariants.{Saving}
use Rattle.space_map.specs.declared.spaces.TheConstants.{PAGE_WORDS}
use Rattle.space_map.specs.Spaces.{page_of, first_word}
use Rattle.heap_state.specs.Functions.{put}
use Rattle.heap_state.specs.Memory.Table.{Table}
use Rattle.heap_state.specs.Saving.Words.{Saves, IsInProgress}
use Rattle.heap_state.specs.Saving.Frozen.{Frozen, IsSafe, MayBeSaved}
use Rattle.heap_state.specs.Saving.Savers.{Saver, SaveStep}
use Rattle.heap_state.specs.Saving.Parts.{SavingWords, IsSaving, KnowsSaving, HasWonSave, SavingStands}
use Rattle.heap_state.proofs.Puts.{put_other, each_put, team_put}
use Rattle.heap_laws.proofs.Saving.Pages.Safe.{may_still, begins_still, reads_still, round_still}

-- ---- where words lie

-- the words of a page lie on it
pub on_page : (page i : ℕ) → i < PAGE_WORDS → page_of (first_word page + i) ≡ page
on_page page i small = omega (arith, small)

-- a word of a page has a place in it
pub place_on : (page x : ℕ) → page_of x ≡ page → first_word page ≤ x
place_on page x is = omega (arith, is)

pub place_small : (page x : ℕ) → page_of x ≡ page → x < first_word page + PAGE_WORDS
place_small page x is = omega (arith, is)

-- ---- a word of a page that is being saved

-- the address lies on a page that worker k is saving for a checkpoint in progress
pub record IsBeingSaved (s : Saves) (k addr : ℕ) : Type 0 where
  pub number : ℕ
  pub runs : IsInProgress s number
  pub own : s.save (page_of addr) ≡ Saving number k

module _ (t : Table) (s : Saves) (z : Frozen) (k addr word : ℕ) (saved : IsBeingSaved s k addr) where
  abbrev after : Saves
  after = record s { image = put s.image addr word }

  words_imaged : SavingWords t s z → SavingWords t after z
  unfolding MayBeSaved IsSafe
  words_imaged w = record {
    order = w.order;
    young = w.young;
    within = w.within;
    traced = w.traced;
    opened = w.opened;
    old = w.old;
    unsaved = w.unsaved;
    saved = λ runs x held is.
        put_other s.image addr word x (λ same. absurd (let own = saved.own in let there = rw same at is in cc)) ∙ w.saved runs x held is;
    done = λ rests. absurd (let snap = saved.runs.0 in let done = saved.runs.1 in omega (arith, snap, done, rests));
    ran = w.ran;
  }

  safe_still : (page c : ℕ) → IsSafe s z page c → IsSafe after z page c
  unfolding IsSafe
  safe_still page c safe = safe

  -- another worker saves another page
  saving_imaged : (j : ℕ) (u : SaveStep) → j ≢ k → IsSaving s z j u → IsSaving after z j u
  saving_imaged j u other is = record {
    runs = is.runs;
    held = is.held;
    own = is.own;
    some = is.some;
    copied = λ i small. put_other s.image addr word (first_word u.page + i)
        (λ same.
        let some = is.some in
        let there : page_of addr ≡ u.page = rw (← same) (on_page u.page i (omega (arith, small, some))) in
        other (let own = rw there at saved.own in let theirs = is.own in cc))
        ∙ is.copied i small;
    loaded = is.loaded;
  }

  -- who isn't saving a page by the exchange that it has won knows what it knew
  pub knows_imaged : (j : ℕ) (w : Saver) → ((u : SaveStep) → w.save ≡ Some u → u.won ≡ true → IsSaving after z j u) → KnowsSaving t s z j w
      → KnowsSaving t after z j w
  knows_imaged j w saving knows = record {
    recalls = λ is. let r = knows.recalls is in record {
      runs = r.runs;
      snap = r.snap;
      none = r.none;
      one = λ some. let one = r.one some in (one.0, one.1, may_still t s after z z (omega arith) safe_still w.running t.gate.epoch one.2);
    };
    settles = λ is. let was = knows.settles is in record { alive = was.alive; snap = was.snap; rests = was.rests; traced = was.traced };
    still = knows.still;
    guarded = λ page is. let was = knows.guarded page is in record { recalled = was.recalled; says = was.says };
    marked = knows.marked;
    begins = λ u is won. begins_still t s after z z (omega arith) safe_still u (knows.begins u is won);
    saves = saving;
    reads = reads_still t s after z z (omega arith) safe_still w.reads (λ c epoch same now. inl same) knows.reads;
    round = λ r is. let saves = knows.round r is in round_still t s after z z (omega arith) safe_still r saves.runs saves.passed saves;
  }

-- worker k becomes w, which knows what is so with the word in its image, and has won each save for which a SAVE names k
pub saves_are_imaged : (t : Table) (s : Saves) (z : Frozen) (count : ℕ) (saver : ℕ → Saver) (k addr word : ℕ) (w : Saver)
    → SavingStands t s z count saver → k < count → IsBeingSaved s k addr → KnowsSaving t (record s { image = put s.image addr word }) z k w
    → ((page c : ℕ) → s.save page ≡ Saving c k → HasWonSave w page c) → SavingStands t (record s { image = put s.image addr word }) z count (put saver k w)
saves_are_imaged t s z count saver k addr word w stands in_team saved knows own = record {
  words = words_imaged t s z k addr word saved stands.words;
  workers = record {
    savers = λ page c j is.
        let was = stands.workers.savers page c j is in
        (was.0, each_put (λ j x. HasWonSave x page c) saver k w j (λ other. was.1) (λ same. own page c (rw same at is)));
    each = team_put count (KnowsSaving t (record s { image = put s.image addr word }) z) saver k w
        (λ j j_in other.
        let was = stands.workers.each j j_in in
        knows_imaged t s z k addr word saved j (saver j)
        (λ u is won. saving_imaged t s z k addr word saved j u other (was.saves u is won)) was)
        knows;
  };
}
