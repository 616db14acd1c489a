-- A checkpoint is begun: by the exchange of SNAP the heap of now becomes the frozen one, which shows what the plain heap keeps.
use Rattle.std.proofs.Common.{◌≡◌, ℕ, ◌+◌, ◌^◌, ◌<◌, ◌≤◌, inl, inr, ⊎_elim, true, false, refl, ap, subst, arith}
use Rattle.std.proofs.lemmas.Bool.{ne_eqb}
use Rattle.plain_state.specs.declared.sizes.TheConstants.{MOST_CHECKPOINTS}
use Rattle.plain_state.specs.State as plain
use Rattle.plain_state.specs.Writing.{took}
use Rattle.space_map.specs.SaveWord.{number_of}
use Rattle.space_map.specs.Spaces.{page_of}
use Rattle.heap_state.specs.Invariant.Ghost.{Ghost}
use Rattle.heap_state.specs.Memory.Table.{Table}
use Rattle.heap_state.specs.Saving.Frozen.{Frozen, IsSafe, MayBeSaved}
use Rattle.heap_state.specs.Saving.Parts.{SavingWords, KnowsSaving, HasWonSave}
use Rattle.heap_state.specs.Saving.Savers.{Saver}
use Rattle.heap_state.specs.Saving.Words.{Saves, IsInProgress, IsAtRest}
use Rattle.heap_state.proofs.Puts.{each_put, team_put, true_false}
use Rattle.heap_laws.specs.Saving.Snapping.{frozen_of, next_saves, saver_after_snap, SnapsAreBegun, SnapsAreKept}
use Rattle.heap_laws.proofs.Flipping.FlippedWorkers.{none_true}
use Rattle.heap_laws.proofs.Saving.Pictures.{open_held, held_open, below_board, frozen_heaps_show}
use Rattle.heap_laws.proofs.Saving.Pages.Safe.{begins_still, reads_still, round_still}
use Rattle.heap_laws.proofs.Saving.Requests.{runners_are_counted, askers_are_alone}
use Rattle.heap_laws.proofs.Saving.SavingWorkers.{has_won_as, asker_knows}

-- ---- the words and the workers

module _ (t : Table) (s : Saves) (z : Frozen) (g : Ghost) (rests : IsAtRest s) (traced : t.traced ≡ t.gate.epoch + 1) where
  abbrev s' : Saves
  s' = next_saves s

  abbrev z' : Frozen
  z' = frozen_of t g

  -- who does no harm at rest does none later: its SAVE is of that checkpoint or a later one
  safe_still : (page c : ℕ) → IsSafe s z page c → IsSafe s' z' page c
  unfolding IsSafe
  safe_still page c safe = ⊎_elim
      (λ (past : c ≤ number_of (s.save page)). inl past)
      (λ (runs : IsInProgress s c × (z.held page ≡ true)). absurd (let now = runs.0 in omega (arith, now, rests)))
      safe

  -- each open page may be saved for the next one
  may_now : MayBeSaved t s' z' (s.snap + 1) t.gate.epoch
  unfolding MayBeSaved IsSafe
  may_now = λ page is opened. inr ((refl, omega (arith, rests)), open_held t g page is opened)

  may_next : (c v : ℕ) → s.snap ≡ c → t.gate.epoch ≡ v → MayBeSaved t s' z' (c + 1) v
  may_next c v same now = subst (MayBeSaved t s' z' (c + 1)) now (subst (λ d. MayBeSaved t s' z' (d + 1) t.gate.epoch) same may_now)

  words_begun : s.snap + 1 < 2 ^ 32 → SavingWords t s z → SavingWords t s' z'
  words_begun fits w = record {
    order = (omega (arith, rests), omega (arith, rests), fits);
    young = λ page. let most = w.young page in omega (arith, most);
    within = λ page held. below_board t.pages t.gate.epoch page (held_open t g page held).0;
    traced = λ runs. traced;
    opened = λ runs page held. held_open t g page held;
    old = λ runs page held is. let most = w.young page in absurd (let number = ap number_of is in omega (arith, most, number));
    unsaved = λ runs x held loose. refl;
    saved = λ runs x held is. absurd (let most = w.young (page_of x) in let number = ap number_of is in omega (arith, most, number));
    done = λ now. absurd (omega (arith, now, rests));
    ran = λ runs. may_now;
  }

  -- a worker that doesn't run and isn't settled
  knows_begun : (k : ℕ) (w : Saver) → w.runs ≡ false → w.settled ≡ false → KnowsSaving t s z k w → KnowsSaving t s' z' k w
  knows_begun k w idle unsettled knows = record {
    recalls = λ is. true_false idle (knows.recalls is).runs;
    settles = λ is. true_false unsettled is;
    still = knows.still;
    guarded = λ page is. true_false idle (knows.recalls (knows.guarded page is).recalled.0).runs;
    marked = λ page is. true_false idle (knows.recalls (knows.marked page is).0).runs;
    begins = λ v is won. begins_still t s s' z z' (omega arith) safe_still v (knows.begins v is won);
    saves = λ v is won. absurd (let runs = (knows.saves v is won).runs in omega (arith, runs, rests));
    reads = reads_still t s s' z z' (omega arith) safe_still w.reads
        (λ c v same now. inr (subst (λ e. t.traced ≡ e + 1) now traced, may_next c v same now)) knows.reads;
    round = λ r is.
        let saves = knows.round r is in
        let begun = saves.begun.0 in
        round_still t s s' z z' (omega arith) safe_still r (λ runs. absurd (omega (arith, begun, runs))) (λ free runs. absurd (omega (arith, begun, runs))) saves;
  }

pub snaps_are_begun : SnapsAreBegun
snaps_are_begun t s z g count saver k stands in_team may =
    let settles = (stands.workers.each k in_team).settles may.settled in
    let after = saver_after_snap (saver k) in
    let own = stands.workers.each k in_team in
    let unsettled = asker_knows t s z k (saver k) own (saver k).asks false (saver k).still (λ is. true_false refl is) own.still in
    record {
      words = words_begun t s z g settles.rests settles.traced may.fits stands.words;
      workers = record {
        savers = λ page c j is.
            let was = stands.workers.savers page c j is in
            (was.0, each_put (λ j x. HasWonSave x page c) saver k after j (λ other. was.1) (λ same. has_won_as (saver k) after page c refl (rw same at was.1)));
        each = team_put count (KnowsSaving t (next_saves s) (frozen_of t g)) saver k after
            (λ j j_in other.
            let knows = stands.workers.each j j_in in
            knows_begun t s z g settles.rests settles.traced j (saver j) (may.runs j j_in)
            (none_true (saver j).settled (λ is. ⊎_elim
            (λ (runs : (saver j).runs ≡ true). true_false (may.runs j j_in) runs)
            (λ (asks : (saver j).asks ≡ true). true_false (may.asks j j_in other) asks)
            (knows.settles is).alive))
            knows)
            (knows_begun t s z g settles.rests settles.traced k after (may.runs k in_team) refl unsettled);
      };
    }

-- ---- the plain heap

-- the number is one more, and the board and the records are kept
module _ (heap : plain.Heap) (few : heap.snaps + 1 < 2 ^ 32) where
  took_number : (took heap).snaps ≡ heap.snaps + 1
  took_number = rw (ne_eqb heap.snaps MOST_CHECKPOINTS (λ is. omega (arith, few, is))) refl

  took_board : (took heap).snapped.board ≡ heap.board
  took_board = rw (ne_eqb heap.snaps MOST_CHECKPOINTS (λ is. omega (arith, few, is))) refl

  took_records : (took heap).snapped.records ≡ heap.records
  took_records = rw (ne_eqb heap.snaps MOST_CHECKPOINTS (λ is. omega (arith, few, is))) refl

pub snaps_are_kept : SnapsAreKept
snaps_are_kept t s z team g p saver k out inv shown stands shows follow in_team snaps =
    let knows = stands.workers.each k in_team in
    let still = knows.still snaps.gate snaps.still in
    let none : t.gate.running ≡ 0 = rw still.1 still.2 in
    let few : p.heap.snaps + 1 < 2 ^ 32 = let number = shows.number in let fits = snaps.fits in omega (arith, number, fits) in
    record {
      stands = snaps_are_begun t s z g team.count saver k stands in_team (record {
        settled = snaps.settled;
        runs = runners_are_counted t.gate team.count team.worker saver inv.counted follow none;
        asks = askers_are_alone t.gate team.count team.worker saver k inv.counted follow in_team still.0;
        fits = snaps.fits;
      });
      shows = record {
        number = rw (took_number p.heap few, shows.number) refl;
        keeps = λ some. rw (took_board p.heap few, took_records p.heap few) (frozen_heaps_show t team g p out inv shown (knows.settles snaps.settled).traced);
      };
    }
