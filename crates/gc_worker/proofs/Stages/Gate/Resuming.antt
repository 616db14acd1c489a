-- A stopped mutator meets the gate of a later epoch, and begins to forward its registers.
use Rattle.std.proofs.Common.{◌≡◌, ℕ, ◌+◌, ◌*◌, ◌<◌, ◌≤◌, Bool, true, false, cond, slice_index, Option, Some, None, is_some, refl, ap, subst, ◌∙◌, arith, ⊎_elim, nat_lt}
use Rattle.std.specs.Prelude.{nat_lt}
use Rattle.std.proofs.lemmas.Bool.{ltb-true, eq-eqb}
use Rattle.plain_state.specs.State.{Plain}
use Rattle.heap_words.specs.Decoded.{decode}
use Rattle.forwarding.specs.Evacuation as evac
use Rattle.gate_core.specs.declared.passage.Passage.TheVariants.{Resume, Forwarded}
use Rattle.heap_state.specs.Configuration.{Configuration, Stands, era, memory, team}
use Rattle.heap_state.specs.Known.{Known, Register, Quest, is_late}
use Rattle.heap_laws.specs.Composites.{AsksAt, AllDone, AsksNext, come_to}
use Rattle.heap_laws.proofs.Steps.Composites.{registers_are_passed}
use Rattle.gc_worker.specs.declared.stage.after.After.{After}
use Rattle.gc_worker.specs.declared.stage.Stage.TheVariants.{Forwards}
use Rattle.gc_worker.specs.Workers.Fits.{Fits, FitsTaskAfter}
use Rattle.gc_worker.specs.Steps.Goes.{Is}
use Rattle.gc_worker.specs.Workers.Held.{Held, at_stage}
use Rattle.gc_worker.specs.Workers.Knows.{knows, known_at}
use Rattle.gc_worker.specs.Steps.Turned.{Pointed, first_pointer, passes, forwards_it, forwards_from}
use Rattle.gc_worker.proofs.Words.Eras.{board_is}
use Rattle.gc_worker.proofs.Workers.KeptParts.{refit, before_passage, page_count}
use Rattle.gc_worker.proofs.Words.Pointers.{FirstPointer, Nowhere, There, word_at, found, is_pointer, leads_nowhere}
use Rattle.gc_worker.proofs.Words.RowSteps.{Law, nothing, prepared}

pub end_none : {X : Type 0} (o : Option X) → is_some o ≡ false → o ≡ None
end_none None e = refl
end_none (Some x) e = cc

module _ (c : Configuration) (p : Plain) (s : Stands c p) (k : ℕ) (x : Held) (after : After) (is : Is c k x)
    (stops : knows x ≡ known_at x (passes x (Resume x.epoch) after)) (unended : is_some x.account.end ≡ false) where
  abbrev w : Known
  w = (team c).worker k

  as_stopped : w ≡ known_at x (passes x (Resume x.epoch) after)
  as_stopped = is.as_known ∙ stops

  module _ (later : x.epoch < (era c).epoch) where
    -- it is of the epoch before
    before : x.epoch + 1 ≡ (era c).epoch
    before =
        let t = (s.invariant.workers k is.below).timely in
        let e : w.epoch ≡ x.epoch = ap (λ (v : Known). v.epoch) as_stopped in
        ⊎_elim
        (λ (same : w.epoch ≡ (era c).epoch). omega (arith, later, e, same))
        (λ (next : w.epoch + 1 ≡ (era c).epoch). omega (arith, e, next))
        (t.live (rw as_stopped refl))

    late : is_late (era c).epoch w ≡ true
    late = rw as_stopped (eq-eqb (x.epoch + 1) (era c).epoch before)

    registers : (j : ℕ) → w.registers j ≡ slice_index x.registers j
    registers j = ap (λ (v : Known). v.registers j) as_stopped

    -- what the registers before this one are, the worker has passed
    come : (j : ℕ) (q : Option Quest) → j ≤ 8 → ((i : ℕ) → 0 ≤ i → i < j → word_at x.registers i ≡ None) → AsksAt w.registers j q
        → Law c p s k x None (come_to (known_at x (passes x (Resume x.epoch) after)) j q) s.ghost
    come j q small none asks =
        subst (λ (v : Known). Law c p s k x None (come_to v j q) s.ghost) as_stopped
        (registers_are_passed (era c) (memory c) (team c) s.ghost k j q (prepared c p s k x is) late (rw as_stopped refl) (rw as_stopped (omega arith)) small
        (rw as_stopped (λ r l u. leads_nowhere (era c) (slice_index x.registers r) (none r l u))) asks)

    leads_by : (o : Option Pointed) → FirstPointer x.registers 8 0 o → Law c p s k x None (knows (at_stage x (forwards_it x after o))) s.ghost
    leads_by None (Nowhere none) = come 8 None (omega arith) (λ i l u. none i l u) (AllDone refl)
    leads_by (Some q) (There r a l u at before) =
        come r (Some (record { old = a; origin = Register r; found = None })) (omega (arith, u)) before
        (AsksNext a u (ap decode (registers r) ∙ is_pointer (decode (slice_index x.registers r)) a at))

    -- a register that holds a pointer leads into the table
    short : (r a : ℕ) → r < 8 → word_at x.registers r ≡ Some a → a < 128 * x.layout.pages
    short r a u at =
        let know = s.invariant.workers k is.below in
        let clean = know.registers (rw as_stopped refl) (rw as_stopped (end_none x.account.end unended)) in
        let old = clean.old late r a (rw as_stopped (omega arith)) u (ap decode (registers r) ∙ is_pointer (decode (slice_index x.registers r)) a at) in
        let below = (prepared c p s k x is).laid_out.old_below in
        let board = board_is c in
        let n = is.fits.pages in
        omega (arith, old, below, n, board)

    fits_by : nat_lt x.number x.mutators ≡ true → FitsTaskAfter x after → (o : Option Pointed) → FirstPointer x.registers 8 0 o → Fits c.pages c.mutators k (at_stage x (forwards_it x after o))
    fits_by mutator task None (Nowhere none) = before_passage c.pages c.mutators k x is.fits Forwarded after unended mutator task tt
    fits_by mutator task (Some q) (There r a l u at before) =
        refit c.pages c.mutators k x is.fits (Forwards (record { register = r; evac = evac.begun x.layout a (x.epoch + 1) x.number; after = after })) unended mutator task (record {
          register = u;
          copy = record {
            layout = refl;
            of_epoch = refl;
            worker = refl;
            going = tt;
            sound = record { pages = page_count c.pages c.mutators k x is.fits; worker = rw is.fits.number is.fits.few; addr = short r a u at; fits = tt };
          };
        })

  -- what becomes of it by whether the gate's epoch is a later one
  abbrev pub stopped_at : Bool → Held
  stopped_at later = at_stage x (cond later (forwards_from x after 0) (passes x (Resume x.epoch) after))

  pub stopped_law : (b : Bool) → nat_lt x.epoch (era c).epoch ≡ b → Law c p s k x None (knows (stopped_at b)) s.ghost
  stopped_law true is_later = leads_by (ltb-true x.epoch (era c).epoch is_later) (first_pointer x.registers 8 0) (found x.registers 8 0)
  stopped_law false is_later = nothing c p s k x is (known_at x (passes x (Resume x.epoch) after)) stops

  pub stopped_fits : nat_lt x.number x.mutators ≡ true → FitsTaskAfter x after → (b : Bool) → nat_lt x.epoch (era c).epoch ≡ b → Fits c.pages c.mutators k (stopped_at b)
  stopped_fits mutator task true is_later = fits_by (ltb-true x.epoch (era c).epoch is_later) mutator task (first_pointer x.registers 8 0) (found x.registers 8 0)
  stopped_fits mutator task false is_later = before_passage c.pages c.mutators k x is.fits (Resume x.epoch) after unended mutator task refl
