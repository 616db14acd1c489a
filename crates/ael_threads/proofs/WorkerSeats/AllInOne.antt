-- All callers in one, and what stands at the end.
use Rattle.std.proofs.Common.{◌≡◌, ℕ, ◌<◌, length, List, [], ◌∷◌, ◌++◌, map, arith, refl, sym, ◌∙◌, ap, subst, append_assoc}
use mathlib.Core.List.{IsPrefix}
use Rattle.atomic_table.specs.Table as table
use Rattle.atomic_table.specs.Seated.{TableId}
use Rattle.std.proofs.lemmas.List.{length-map, length-replicate}
use Rattle.heap_laws.specs.Opening.{opening_mutator}
use Rattle.gc_worker.specs.declared.calls.entry.Entry.{Entry}
use Rattle.gc_worker.specs.Workers.Held.{Held}
use Rattle.gc_worker.specs.Laws.Step.{epoch_of}
use Rattle.gc_worker.specs.Laws.Stories.{StoryStands}
use Rattle.gc_worker.proofs.Between.Pages.Copied.{copied_was_live}
use Rattle.gc_worker.proofs.Plain.CellTargets.LostCells.{lost_cells_are_empty}
use Rattle.gc_worker.proofs.Saving.Won.{checkpoints_are_kept}
use Rattle.space_map.specs.Table.{whole_length}
use Rattle.ael_threads.specs.declared.view.WonClaim.{WonClaim}
use Rattle.ael_threads.specs.declared.view.Hand.{Hand}
use Rattle.ael_threads.specs.declared.view.Plan.{Plan}
use Rattle.ael_threads.specs.Histories.{AreBy, opening_tally, Each, IsOnce, first_plain, hand_number}
use Rattle.gc_worker.proofs.History.CheckpointsOfHistories.{histories_keep_the_last_checkpoint}
use Rattle.gc_worker.proofs.History.Large.{large_has_no_full}
use Rattle.gc_worker.specs.History.Large.{HasNoFullCall, IsLargeFor}
use Rattle.gc_worker.specs.History.Tally.{size_now, tally, tasks_held}
use Rattle.gc_worker.specs.Laws.Cycles.{size_of}
use Rattle.gc_worker.specs.History.Legal.{IsLegal, after_all, last_flip}
use Rattle.ael_threads.specs.Rule.{HasHand, RuleHolds, crew, heap_of}
use Rattle.ael_threads.specs.Seats.{Absorbs, Closes, FitsTable, Gathers, HasFlippedIfFull, Seated, Stays, all_hands}
use Rattle.ael_threads.proofs.Callers.{are_by, each_is_there}
use Rattle.ael_threads.proofs.BegunLooks.{hand_flipped}
use Rattle.ael_threads.proofs.Lists.Elements.{each_at, each_map, each_to_map, prefix_self, prefix_trans}
use Rattle.ael_threads.proofs.Lists.Reads.{at_inside}
use Rattle.ael_threads.proofs.TableRule.PagesInUse.{tallied_sizes}

pub gathers_one : (t : TableId) (one : Seated) → one.table ≡ t → Gathers t (one ∷ []) one
gathers_one t one same = record { table = same; hands = refl; claims = refl; seen = (prefix_self one.knows.seen, tt); heard = (prefix_self one.knows.heard, tt) }

pub gathers_more : (t : TableId) (all : List Seated) (one other one' : Seated) → Gathers t all one → one'.table ≡ one.table → Absorbs one.knows other.knows one'.knows → Gathers t (other ∷ all) one'
gathers_more t all one other one' g same a = record {
  table = same ∙ g.table;
  hands = a.hands ∙ ap (λ (z : List Hand). z ++ other.knows.hands) g.hands;
  claims = a.claims ∙ ap (λ (z : List WonClaim). z ++ other.knows.claims) g.claims;
  seen = (
    a.other,
    each_map (λ (s : Seated). IsPrefix s.knows.seen one.knows.seen) (λ (s : Seated). IsPrefix s.knows.seen one'.knows.seen)
        (λ s h. prefix_trans s.knows.seen one.knows.seen one'.knows.seen h a.mine) all g.seen,
  );
  heard = (
    hears_too other.knows.heard a.other_heard,
    each_map (λ (s : Seated). IsPrefix s.knows.heard one.knows.heard) (λ (s : Seated). IsPrefix s.knows.heard one'.knows.heard)
        (λ s h. prefix_trans s.knows.heard one.knows.heard one'.knows.heard h (hears_too one.knows.heard a.heard)) all g.heard,
  );
}
  where
    hears_too : (log : List Entry) → IsPrefix log one'.knows.seen → IsPrefix log one'.knows.heard
    hears_too log h = subst (IsPrefix log) (sym a.hears) h

-- the calls are by these, where all workers are among them
all_by : (plan : Plan) (workers : List Held) (log : List Entry) (hands : List Hand) → length workers ≡ crew plan → IsLegal (first_plain plan) log → Each (Stays workers log) hands → IsOnce (map hand_number hands)
    → length hands ≡ crew plan → AreBy (map hand_number hands) log
all_by plan workers log hands count legal stays apart many =
    let below : Each (λ j. j < crew plan) (map hand_number hands) =
    each_to_map (λ j. j < crew plan) hand_number hands (each_map (Stays workers log) (λ (h : Hand). h.number < crew plan) (λ h k. let i = at_inside workers h.number k.state.held k.state.is in omega (arith, i, count)) hands stays) in
    let mutators : length (first_plain plan).mutators ≡ plan.mutators = length-replicate plan.mutators opening_mutator in
    are_by (map hand_number hands) (first_plain plan) log (λ j mine. each_is_there (crew plan) (map hand_number hands) apart below (length-map hands hand_number ∙ many) j (omega (arith, mine, mutators))) legal

-- what the table's end tells of the caller that has taken in all, where it leaves all words
pub closes : (plan : Plan) (id : ℕ) (t : TableId) (all : List Seated) (one : Seated) (words xs : List ℕ) → Gathers t all one → FitsTable t one.knows → length words ≡ t.words → table.Final (table.Seen (RuleHolds plan) id one.knows) words xs → Closes plan all words
closes plan id t all one words xs g fits many end =
    let s = end.0 in
    let b = end.1.0 in
    let story : StoryStands (heap_of plan words b.workers) (after_all (first_plain plan) b.log) (last_flip (first_plain plan) b.log) =
    subst (λ (z : List ℕ). StoryStands (heap_of plan z b.workers) (after_all (first_plain plan) b.log) (last_flip (first_plain plan) b.log)) end.2 b.story in
    let stands = story.stands in
    let f = b.seats id one.knows end.1.1 in
    let whole : length words ≡ whole_length plan.spaces = many ∙ (fits.1 ∙ ap (λ (z : Plan). whole_length z.spaces) (f.same fits.0)) in
    let sized = tallied_sizes plan s.words b.workers b.log b.tallied in
    let hands = subst (Each (Stays b.workers b.log)) g.hands (each_map (HasHand b.workers b.log b.owner id) (Stays b.workers b.log) (λ h k. record { state = k.state; calls = k.calls }) one.knows.hands f.hands) in
    let apart = subst (λ (hands : List Hand). IsOnce (map hand_number hands)) g.hands f.apart in record {
      words_tell = record {
        history = record {
          log = b.log;
          workers = b.workers;
          legal = b.legal;
          count = b.count;
          stands = stands;
          lost = lost_cells_are_empty (heap_of plan words b.workers) (after_all (first_plain plan) b.log) (last_flip (first_plain plan) b.log) story;
        };
        copied = copied_was_live (heap_of plan words b.workers) (after_all (first_plain plan) b.log) (last_flip (first_plain plan) b.log) stands;
        kept = λ room. record { counted = stands.stands.size; whole = whole; says = checkpoints_are_kept (heap_of plan words b.workers) (after_all (first_plain plan) b.log) (last_flip (first_plain plan) b.log) stands room };
        sizes = b.tallied.sizes;
        sized = sized;
        size = subst (λ (z : List ℕ). size_of plan.spaces.pages z ≡ size_now b.tallied.sizes (tally (opening_tally plan) b.log)) end.2 b.tallied.counts.size;
        entries = b.tallied.entries;
        all_flipped = b.flipped;
      };
      last = b.last;
      last_snap = histories_keep_the_last_checkpoint (first_plain plan) b.log refl;
      epoch = subst (λ (z : List ℕ). epoch_of plan.spaces.pages z ≡ (tally (opening_tally plan) b.log).flips) end.2 b.tallied.counts.epoch;
      large = subst (λ (pages : ℕ × ℕ). IsLargeFor pages.0 pages.1 (tasks_held b.workers) (opening_tally plan) b.log → HasNoFullCall b.log) (λ i. (sized.limit i, sized.least i))
          (large_has_no_full b.tallied.sizes (tasks_held b.workers) (opening_tally plan) b.log b.tallied.entries);
      flipped = subst (Each (HasFlippedIfFull plan b.log)) g.hands
          (each_map (HasHand b.workers b.log b.owner id) (HasFlippedIfFull plan b.log) (λ h k. hand_flipped plan b.workers b.log h k.state b.flipped) one.knows.hands f.hands);
      seen = each_map (λ (c : Seated). IsPrefix c.knows.seen one.knows.seen) (λ (c : Seated). IsPrefix c.knows.seen b.log) (λ c h. prefix_trans c.knows.seen one.knows.seen b.log h f.seen) all g.seen;
      heard = each_map (λ (c : Seated). IsPrefix c.knows.heard one.knows.heard) (λ (c : Seated). IsPrefix c.knows.heard b.log) (λ c h. prefix_trans c.knows.heard one.knows.heard b.log h f.heard) all g.heard;
      hands = hands;
      others = λ many. all_by plan b.workers b.log (all_hands all) b.count b.legal hands apart many;
      apart = apart;
      once = subst IsOnce g.claims f.once;
    }

-- ---- the callers that are still to be taken in

module _ {A : Type 0} where
  -- the last of what was left goes in front of what was done
  pub shifts : (all old new done : List A) (x : A) → all ≡ old ++ done → old ≡ new ++ x ∷ [] → all ≡ new ++ x ∷ done
  shifts all old new done x is e = is ∙ (ap (λ z. z ++ done) e ∙ append_assoc new (x ∷ []) done)

  -- a fact of all is one of the next
  pub next_has : (P : A → Type 0) (all new done : List A) (x : A) → all ≡ new ++ x ∷ done → Each P all → P x
  next_has P all new done x e h = each_at P new done x (subst (Each P) e h)
