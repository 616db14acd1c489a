-- A caller between two steps.
use Rattle.std.proofs.Common.{None, inl, inr, ◌≡◌, ℕ, ◌+◌, ◌<◌, ◌≤◌, Bool, true, false, nat_lt, List, [], ◌∷◌, ◌++◌, Some, refl, sym, ap, subst, ◌∙◌, slice_get, arith}
use Rattle.std.specs.Prelude.{if◌then◌else◌}
use Rattle.space_map.specs.declared.spaces.TheConstants.{LAST_WORKER, MOST_MUTATORS, MOST_SCANNERS}
use mathlib.Core.List.{IsPrefix}
use Rattle.atomic_table.specs.Seated.{TableId}
use Rattle.atom_store.specs.declared.reply.Reply.{Reply}
use Rattle.plain_state.specs.State.{Mutator}
use Rattle.space_map.specs.Spaces.{Layout, IsPageCount}
use Rattle.space_map.specs.Table.{whole_length}
use Rattle.gc_worker.specs.declared.task.Task.{Task}
use Rattle.gc_worker.specs.Laws.Between.{Begins, IsAsPlain, IsIdle, fresh_mutator, fresh_scanner, fresh_worker, opening_heap, with_task}
use Rattle.gc_worker.specs.Workers.Counted.{counted}
use Rattle.gc_worker.specs.Workers.Fits.{Fits, MayBegin}
use Rattle.gc_worker.specs.Workers.Held.{Held}
use Rattle.gc_worker.specs.Laws.Step.{Heap, held_at, nobody}
use Rattle.gc_worker.specs.Steps.Stepped.{uncounted}
use Rattle.gc_worker.specs.Steps.Turned.{turned}
use Rattle.gc_worker.proofs.Between.Beginning.{tasks_may_begin}
use Rattle.gc_worker.proofs.Between.KeptTasks.{workers_go_on}
use Rattle.gc_worker.proofs.Between.OpenedHeap.{heaps_open, mutator_fits, scanner_fits}
use Rattle.gc_worker.proofs.Between.StandingHeaps.{what_stands_is_so}
use Rattle.gc_worker.proofs.Workers.ApartFromCount.{beginning, counted_fit}
use Rattle.gc_worker.specs.declared.calls.entry.Entry.{Entry}
use Rattle.ael_threads.specs.declared.view.Hand.{Hand}
use Rattle.ael_threads.specs.declared.view.Plan.{Plan}
use Rattle.ael_threads.specs.declared.view.View.{View}
use Rattle.gc_worker.specs.History.Legal.{after_all, calls_of}
use Rattle.ael_threads.specs.Histories.{HasOwnCalls, first_held, first_plain, hand}
use Rattle.ael_threads.specs.Rule.{crew, view}
use Rattle.ael_threads.specs.Seats.{Absorbs, Follows, HasHeardAllSeen, Heads, FitsTable, IsMine, IsShown, Learned, Moves, Seated, ShowsSeen, both_of, first_number, first_own}
use Rattle.ael_threads.proofs.Lists.Elements.{prefix_trans}
use Rattle.ael_threads.proofs.Lists.Reads.{get_of}
use Rattle.gc_worker.proofs.History.Extensions.{seen_keeps}
use Rattle.ael_threads.proofs.TableRule.OpenedRule.{uncounted_first, worker_at}
use Rattle.ael_threads.proofs.WholeCalls.Acts.{heads_fit}
use Rattle.ael_threads.proofs.WorkerSeats.Shown.{shown_by}

-- ---- its own worker

-- one without a task was not given one since
begins_more : (was x : Held) (task : Task) → Begins was x → x.task ≡ None → Begins was (with_task x task)
begins_more was x task (inl same) none = inr (task, ap (λ (z : Held). z.task) (sym same) ∙ none, ap (λ (z : Held). with_task z task) same)
begins_more was x task (inr given) none = absurd (let some : None ≡ Some given.0 = sym none ∙ ap (λ (z : Held). z.task) given.2 in cc)

-- a worker that is given a task is to the proofs of the heap as it was
pub begins : (plan : Plan) (x now : Held) (task : Task) (hs : List Hand) → now ≡ with_task x task → Heads plan x hs → IsIdle x → MayBegin x.account x.registers (Some task) → Heads plan now hs
begins plan x now task [] is h idle may = absurd h
begins plan x now task (was ∷ others) is h idle may = subst (Follows plan was.number was.worker) (sym is) (record {
  begins = begins_more was.worker x task h.begins idle.no_task;
  readies = λ count.
      let r = h.readies count in
      let s = tasks_may_begin plan.spaces.pages plan.mutators was.number (counted count x) task ((counted_fit plan.spaces.pages plan.mutators was.number count x).1 h.fits)
      (record { is_mutator = idle.is_mutator; no_end = idle.no_end; no_task = idle.no_task }) (beginning count x (Some task) may) in
      record { same = s.same ∙ r.same; saver = s.saver ∙ r.saver; layout = s.layout ∙ r.layout; fits = λ f. s.fits (r.fits f) };
  fits = (tasks_may_begin plan.spaces.pages plan.mutators was.number x task h.fits idle may).fits h.fits;
  laid_out = h.laid_out;
  prints = h.prints;
})

-- and shows what it did
pub begun_shows : (x now : Held) (task : Task) (v : View) → now ≡ with_task x task → ShowsSeen x v → ShowsSeen now v
begun_shows x now task v is h = subst (λ (z : Held). ShowsSeen z v) (sym is) (λ q its. let s = h q its in record {
  counter = s.counter;
  printed = s.printed;
  end = s.end;
  serial = s.serial;
  registers = s.registers;
})

pub shows_of : (a b : Seated) → a ≡ b → ShowsSeen a.worker a.knows → ShowsSeen b.worker b.knows
shows_of a b same h = subst (λ (z : Seated). ShowsSeen z.worker z.knows) same h

-- as it stands after a step
stays : (plan : Plan) (m : ℕ) (x : Held) → Fits plan.spaces.pages plan.mutators m x → x.layout ≡ plan.spaces → x.prints ≡ plan.prints → Follows plan m x x
stays plan m x f layout prints = record { begins = inl refl; readies = λ count. record { same = refl; saver = refl; layout = refl; fits = λ g. g }; fits = f; laid_out = layout; prints = prints }

-- its layout is the heap's
laid_out : (plan : Plan) (x : Held) (hs : List Hand) → Heads plan x hs → x.layout ≡ plan.spaces
laid_out plan x [] h = absurd h
laid_out plan x (was ∷ others) h = h.laid_out

-- it may print if they may
pub may_print : (plan : Plan) (x : Held) (hs : List Hand) → Heads plan x hs → x.prints ≡ plan.prints
may_print plan x [] h = absurd h
may_print plan x (was ∷ others) h = h.prints

pub moved_heads : (v : View) (x now : Held) (r : Reply) (w : View) → Heads v.plan x v.hands → Moves v (first_number v.hands) x r w → now ≡ uncounted (turned x r) → Heads w.plan now w.hands
moved_heads v x now r w h t e =
    let n = v.plan.spaces.pages in
    let m = first_number v.hands in
    let f : Fits n v.plan.mutators m (uncounted (turned x r)) = (counted_fit n v.plan.mutators m 0 (turned x r)).1 t.fits in
    let goes = workers_go_on n v.plan.mutators m x r (heads_fit v.plan x v.hands h) in
    let layout : (turned x r).layout ≡ v.plan.spaces = goes.layout ∙ laid_out v.plan x v.hands h in
    let prints : (turned x r).prints ≡ v.plan.prints = goes.prints ∙ may_print v.plan x v.hands h in
    subst (λ (z : Plan × (Held × List Hand)). Heads z.0 z.1.0 z.1.1) (λ i. (sym t.plan i, (sym e i, sym t.hands i))) (stays v.plan m (uncounted (turned x r)) f layout prints)

-- after a step the seat has heard of the history after it
pub has_heard_all : (v : View) (m : ℕ) (x : Held) (r : Reply) (w : View) → Moves v m x r w → HasHeardAllSeen w
has_heard_all v m x r w t = subst (IsPrefix w.seen) (sym t.hears) t.stands.begins

pub still_live : (t u : TableId) (v w : View) → t ≡ u → w.plan ≡ v.plan → FitsTable u v → FitsTable t w
still_live t u v w e f live = subst (λ (z : TableId × Plan). (0 < z.1.spaces.pages) × (z.0.words ≡ whole_length z.1.spaces)) (λ i. (sym e i, sym f i)) live

-- ---- a new caller

first_fits : (plan : Plan) (k : ℕ) → IsPageCount plan.spaces.pages → k ≤ LAST_WORKER → Fits plan.spaces.pages plan.mutators k (first_held plan k)
first_fits plan k size few = by_side (nat_lt k plan.mutators) refl
  where
    by_side : (b : Bool) → nat_lt k plan.mutators ≡ b → Fits plan.spaces.pages plan.mutators k (if b then fresh_mutator plan.prints plan.spaces plan.mutators k else fresh_scanner plan.prints plan.spaces plan.mutators k)
    by_side true e = mutator_fits plan.prints plan.spaces plan.mutators k size few e
    by_side false e = scanner_fits plan.prints plan.spaces plan.mutators k size few e

first_layout : (plan : Plan) (k : ℕ) → (first_held plan k).layout ≡ plan.spaces
first_layout plan k = by_side (nat_lt k plan.mutators)
  where
    by_side : (b : Bool) → (if b then fresh_mutator plan.prints plan.spaces plan.mutators k else fresh_scanner plan.prints plan.spaces plan.mutators k).layout ≡ plan.spaces
    by_side true = refl
    by_side false = refl

first_prints : (plan : Plan) (k : ℕ) → (first_held plan k).prints ≡ plan.prints
first_prints plan k = by_side (nat_lt k plan.mutators)
  where
    by_side : (b : Bool) → (if b then fresh_mutator plan.prints plan.spaces plan.mutators k else fresh_scanner plan.prints plan.spaces plan.mutators k).prints ≡ plan.prints
    by_side true = refl
    by_side false = refl

pub fresh_heads : (plan : Plan) (k : ℕ) (x : Held) (v : View) → IsPageCount plan.spaces.pages → k ≤ LAST_WORKER → x ≡ first_held plan k → v ≡ view plan (hand k (first_held plan k) [] ∷ []) [] [] [] → Heads v.plan x v.hands
fresh_heads plan k x v size few e is =
    subst (λ (z : Held × View). Heads z.1.plan z.0 z.1.hands) (λ i. (sym e i, sym is i)) (stays plan k (first_held plan k) (first_fits plan k size few) (first_layout plan k) (first_prints plan k))

first_end : (prints : Bool) (l : Layout) (mutators k : ℕ) → (fresh_worker prints l mutators k).account.end ≡ None
first_end prints l mutators k = by_side (nat_lt k mutators)
  where
    by_side : (b : Bool) → (if b then fresh_mutator prints l mutators k else fresh_scanner prints l mutators k).account.end ≡ None
    by_side true = refl
    by_side false = refl

-- what it shows is the opening's plain mutator
fresh_shown : (plan : Plan) (k : ℕ) → IsPageCount plan.spaces.pages → plan.mutators ≤ MOST_MUTATORS → crew plan ≤ MOST_MUTATORS + MOST_SCANNERS → k < crew plan → (q : Mutator) → slice_get (first_plain plan).mutators k ≡ Some q
    → IsShown (first_plain plan).heap k (first_held plan k) q
fresh_shown plan k size few all below q its =
    let n = plan.spaces.pages in
    let l : Layout = plan.spaces in
    let first : ℕ → Held = fresh_worker plan.prints l plan.mutators in
    let h : Heap = opening_heap plan.prints l n plan.mutators plan.scanners in
    let so = what_stands_is_so h (first_plain plan) (first_plain plan) (heaps_open plan.prints l n plan.mutators plan.scanners size size.0 (omega arith) few all) in
    let same : 0 + k ≡ k = omega arith in
    let held : held_at h k ≡ counted 0 (first k) = get_of h.workers k (first (0 + k)) nobody (worker_at plan.prints l plan.mutators 0 (crew plan) k below) ∙ (ap first same ∙ sym (uncounted_first plan.prints l plan.mutators k)) in
    let a : IsAsPlain h (first_plain plan) k (counted 0 (first k)) q = subst (λ (x : Held). IsAsPlain h (first_plain plan) k x q) held (so.mutators k q its) in
    let shown = shown_by h (first_plain plan) k 0 (first k) q a (a.shows (sym a.account.end ∙ first_end plan.prints l plan.mutators k)) in
    subst (λ (x : Held). IsShown (first_plain plan).heap k x q) (uncounted_first plan.prints l plan.mutators k) shown

pub fresh_shows : (plan : Plan) (k : ℕ) (x : Held) (v : View) → IsPageCount plan.spaces.pages → plan.mutators ≤ MOST_MUTATORS → crew plan ≤ MOST_MUTATORS + MOST_SCANNERS → k < crew plan → x ≡ first_held plan k
    → v ≡ view plan (hand k (first_held plan k) [] ∷ []) [] [] [] → ShowsSeen x v
fresh_shows plan k x v size few all below e is =
    subst (λ (z : Held × View). ShowsSeen z.0 z.1) (λ i. (sym e i, sym is i)) (fresh_shown plan k size few all below)

-- ---- a caller that has taken in another

-- the first worker stays the first
more_heads : (plan : Plan) (x : Held) (hs gs : List Hand) → Heads plan x hs → Heads plan x (hs ++ gs)
more_heads plan x [] gs h = absurd h
more_heads plan x (was ∷ others) gs h = h

pub absorbed_heads : (v u w : View) (x : Held) → Heads v.plan x v.hands → Absorbs v u w → Heads w.plan x w.hands
absorbed_heads v u w x h a = subst (λ (z : Plan × List Hand). Heads z.0 x z.1) (λ i. (sym a.plan i, sym a.hands i)) (more_heads v.plan x v.hands u.hands h)

-- the first worker's calls stand in the whole history
first_mine : (plan : Plan) (x : Held) (hs gs : List Hand) (log : List Entry) → Heads plan x hs → HasOwnCalls log (hs ++ gs) → (first_number (hs ++ gs) ≡ first_number hs) × (first_own (hs ++ gs) ≡ first_own hs) × (calls_of (first_number hs) log ≡ first_own hs)
first_mine plan x [] gs log h own = absurd h
first_mine plan x (was ∷ others) gs log h own = (refl, refl, own.0)

-- the whole history begins with what each had heard of, and so with what each had seen
pub absorbs : (v u y w : View) → HasHeardAllSeen v → HasHeardAllSeen u → y ≡ both_of v u → Learned y w → Absorbs v u w
absorbs v u y w before other e l =
    let heard : IsPrefix v.heard w.seen = subst (λ (b : View). IsPrefix b.seen w.seen) e l.seen in
    let other_heard : IsPrefix u.heard w.seen = subst (λ (b : View). IsPrefix b.heard w.seen) e l.heard in record {
      plan = l.plan ∙ ap (λ (b : View). b.plan) e;
      hands = l.hands ∙ ap (λ (b : View). b.hands) e;
      claims = l.claims ∙ ap (λ (b : View). b.claims) e;
      mine = prefix_trans v.seen v.heard w.seen before heard;
      other = prefix_trans u.seen u.heard w.seen other other_heard;
      heard = heard;
      other_heard = other_heard;
      whole = l.whole;
    }

-- what is shown stays so where more was seen
pub absorbed : (v u w : View) (x : Held) → Heads v.plan x v.hands → IsMine v → ShowsSeen x v → Absorbs v u w → IsMine w × ShowsSeen x w
absorbed v u w x h mine shows a =
    let f = first_mine v.plan x v.hands u.hands w.seen h (subst (HasOwnCalls w.seen) a.hands a.own) in
    let number_is : first_number w.hands ≡ first_number v.hands = ap first_number a.hands ∙ f.0 in
    let own_is : first_own w.hands ≡ first_own v.hands = ap first_own a.hands ∙ f.1 in
    let kept = seen_keeps (first_plain v.plan) v.seen w.seen (first_number v.hands) (first_own v.hands) a.mine mine f.2 in (
      (λ i. calls_of (number_is i) w.seen) ∙ (f.2 ∙ sym own_is),
      subst (λ (z : Plan × ℕ). (q : Mutator) → slice_get (after_all (first_plain z.0) w.seen).mutators z.1 ≡ Some q → IsShown (after_all (first_plain z.0) w.seen).heap z.1 x q)
          (λ i. (sym a.plan i, sym number_is i)) (λ q its. let s = shows q (sym kept.mutator ∙ its) in record {
            counter = s.counter;
            printed = s.printed;
            end = s.end;
            serial = s.serial ∙ sym kept.serial;
            registers = s.registers;
          }),
    )
