-- A look at the gate's word: it changes nothing, and the workers stand by the words among which it is.
use Rattle.std.proofs.Common.{◌≡◌, ◌≢◌, ℕ, ◌<◌, ⊎_elim, List, [], ◌∷◌, length, set, slice_index, refl, sym, ◌∙◌, ap, subst, length-set}
use mathlib.Core.Option.{some}
use Rattle.std.proofs.lemmas.List.{set-get_or}
use lib.ListN.{get_elem?}
use Rattle.atomic_table.specs.Table as table
use Rattle.plain_state.specs.State.{Plain}
use Rattle.space_map.specs.Table.{Gate, place_of}
use Rattle.heap_state.specs.Memory.Table.{word_in}
use Rattle.gc_worker.specs.Workers.Counted.{counted}
use Rattle.gc_worker.specs.Workers.Held.{Held}
use Rattle.gc_worker.specs.Laws.Between.{Begins, Readies}
use Rattle.gc_worker.specs.Laws.Step.{WorkersStand, held_at, nobody}
use Rattle.gc_worker.specs.declared.calls.entry.Entry.{Entry}
use Rattle.gc_worker.specs.History.Legal.{after_all, last_flip}
use Rattle.gc_worker.proofs.Between.Readying.{readying_stands}
use Rattle.gc_worker.proofs.History.Counted.TalliedTasks.{task_tallied}
use Rattle.gc_worker.proofs.Plain.CellTargets.LostCells.{lost_cells_are_empty}
use Rattle.ael_threads.specs.declared.view.Hand.{Hand}
use Rattle.ael_threads.specs.declared.view.Plan.{Plan}
use Rattle.ael_threads.specs.declared.view.View.{View}
use Rattle.ael_threads.specs.declared.view.WonClaim.{WonClaim}
use Rattle.ael_threads.specs.GateLooks.{FindsGate, Glances}
use Rattle.ael_threads.specs.Histories.{first_plain, opening_tally}
use Rattle.ael_threads.specs.Rule.{FitsView, HasHand, RuleHolds, heap_of, view}
use Rattle.ael_threads.specs.Seats.{Follows, Heads, Me, StandWith, first_number}
use Rattle.ael_threads.proofs.Lists.Reads.{at_inside, at_set, get_of, set_here}
use Rattle.ael_threads.proofs.TableRule.StepKeeps.{TableState, begins_counted}

-- the gate's word is the first
gate_is : (n : ℕ) (words : List ℕ) → slice_index words 0 ≡ word_in n words Gate
unfolding word_in place_of
gate_is n words = refl

-- ---- the seat's own worker, which held was.worker after its last step, and whose code holds x now

module _ (plan : Plan) (id : ℕ) (was : Hand) (x : Held) (others : List Hand) (seen heard : List Entry) (claims : List WonClaim) (s : TableState) (b : RuleHolds plan s)
    (at : get_elem? s.views id ≡ some (view plan (was ∷ others) seen heard claims)) (follows : Follows plan was.number was.worker x) where
  abbrev m : ℕ
  m = was.number

  abbrev p : Plain
  p = after_all (first_plain plan) b.log

  abbrev o : Plain
  o = last_flip (first_plain plan) b.log

  abbrev fits_view : FitsView plan s.words b.workers b.log b.owner b.winner id (view plan (was ∷ others) seen heard claims)
  fits_view = b.seats id (view plan (was ∷ others) seen heard claims) at

  abbrev has : HasHand b.workers b.log b.owner id was
  has = fits_view.hands.0

  -- as it stands in the list, and then as its code has it, with its count
  abbrev old : Held
  old = has.state.held

  abbrev y : Held
  y = counted old.account.executed x

  inside : m < length b.workers
  inside = at_inside b.workers m old has.state.is

  abbrev workers1 : List Held
  workers1 = set b.workers m y

  old_is : held_at (heap_of plan s.words b.workers) m ≡ counted old.account.executed was.worker
  old_is = get_of b.workers m old nobody has.state.is ∙ ap (counted old.account.executed) has.state.shown

  readied : WorkersStand (heap_of plan s.words workers1) p o
  readied = readying_stands (heap_of plan s.words b.workers) p o m y b.story.stands inside (subst (λ (w : Held). Readies plan.spaces.pages plan.mutators m w y) (sym old_is) (follows.readies old.account.executed))

  stands : StandWith plan m x seen s.words
  stands = record {
    history = record {
      log = b.log;
      workers = workers1;
      legal = b.legal;
      count = length-set b.workers m y ∙ b.count;
      stands = readied;
      lost = lost_cells_are_empty (heap_of plan s.words workers1) p o (record { stands = readied; cells = b.story.cells });
    };
    begins = fits_view.seen;
    here = record { held = y; is = set_here b.workers m y inside; shown = refl };
    tallied = task_tallied (heap_of plan s.words b.workers) m y inside (subst (λ (w : Held). Begins w y) (sym old_is) (begins_counted old.account.executed was.worker x follows.begins)) plan.least (opening_tally plan) b.log b.tallied;
  }

  pub finds_gate : FindsGate (view plan (was ∷ others) seen heard claims) m x (slice_index s.words 0)
  unfolding stands
  finds_gate = record { finds = record { words = s.words; stands = stands; heard = fits_view.heard; own = has.calls }; gate = gate_is plan.spaces.pages s.words }

finds : (plan : Plan) (id : ℕ) (v : View) (x : Held) (hs : List Hand) → v.hands ≡ hs → 0 < v.plan.spaces.pages → Heads v.plan x hs → (s : TableState) → RuleHolds plan s → get_elem? s.views id ≡ some v
    → FindsGate v (first_number v.hands) x (slice_index s.words 0)
finds plan id v x [] e live heads s b at = absurd heads
finds plan id v x (was ∷ others) e live heads s b at =
    let fixed : v.plan ≡ plan = (b.seats id v at).same live in
    let same : v ≡ view plan (was ∷ others) v.seen v.heard v.claims = (λ i. view (fixed i) (e i) v.seen v.heard v.claims) in
    subst (λ (z : View). FindsGate z (first_number z.hands) x (slice_index s.words 0)) (sym same)
    (finds_gate plan id was x others v.seen v.heard v.claims s b (at ∙ ap some same) (subst (λ (z : Plan). Follows z was.number was.worker x) fixed heads))

-- a load of word 0 leaves all as it was, and keeps the rule, if what its seat's view then says is so
pub keeps_rule : (plan : Plan) (id : ℕ) (s : TableState) (b : RuleHolds plan s) (mine : List (ℕ × ℕ)) (w : View) → FitsView plan s.words b.workers b.log b.owner b.winner id w
    → RuleHolds plan (table.stepped s 0 (slice_index s.words 0) id mine w table.keeps)
keeps_rule plan id s b mine w fit = subst (λ (z : List ℕ). RuleHolds plan (record { words = z; homes = s.homes; views = set s.views id w })) (sym (set-get_or s.words 0 0)) (record {
  log = b.log;
  workers = b.workers;
  count = b.count;
  owner = b.owner;
  winner = b.winner;
  legal = b.legal;
  story = b.story;
  last = b.last;
  tallied = b.tallied;
  begun = b.begun;
  flipped = b.flipped;
  seats = λ j u at'. ⊎_elim (λ (t : (j ≡ id) × (w ≡ u)). subst (λ (z : ℕ × View). FitsView plan s.words b.workers b.log b.owner b.winner z.0 z.1) (λ i. (sym t.0 i, t.1 i)) fit)
      (λ (t : (j ≢ id) × (get_elem? s.views j ≡ some u)). b.seats j u t.1)
      (at_set s.views id j w u at');
})

-- a look at the gate
pub glances : (plan : Plan) (slots id : ℕ) (me : Me) (st : table.Step ℕ) → 0 < me.0.plan.spaces.pages → table.Allows (RuleHolds plan) slots id me 0 (λ n. n) (Glances st me)
glances plan slots id me st live s b homes at small =
    (me.0, table.keeps, tt, keeps_rule plan id s b me.1 me.0 (b.seats id me.0 at), (refl, λ x heads. finds plan id me.0 x me.0.hands refl live heads s b at))
