-- The seats of a new heap: its clerks have made no call.
use Rattle.std.proofs.Common.{◌≡◌, ℕ, zero, suc, ◌+◌, ◌<◌, ◌≤◌, List, [], ◌∷◌, ◌++◌, None, length, reverse, inl, refl, sym, ap, ◌∙◌, subst, arith, lt-ltb}
use Rattle.std.proofs.lemmas.List.{get_or-replicate, length_push, reverse-append}
use Rattle.atomic_table.specs.Seated.{TableId}
use Rattle.plain_state.specs.declared.value.Value.TheVariants.{Number}
use Rattle.plain_state.specs.State.{Record}
use Rattle.plain_heap.specs.Order.{fresh}
use Rattle.heap_laws.specs.Opening.{opening_mutator}
use Rattle.ael_threads.specs.declared.view.Plan.{Plan}
use Rattle.ael_threads.specs.Histories.{Each}
use Rattle.ael_threads.specs.Opened.{new_scanner, new_scanners}
use Rattle.ael_threads.specs.Readers.{SeatedScanner}
use Rattle.ael_threads.specs.Runs.Running.{EachFrom}
use Rattle.ael_threads.specs.Seats.{Seated, new_callers, new_seated}
use Rattle.ael_threads.proofs.Lists.Elements.{each_append}
use Rattle.ael_threads.proofs.ProgramRuns.Outputs.{from_append}
use Rattle.ael_threads.proofs.ProgramRuns.StartAndEnd.{callers_length}
use Rattle.concordance.specs.Desk.{Desk}
use Rattle.concordance.specs.Lone.{IsLone, desk_of}
use Rattle.concordance.specs.Notes.Desks.{HasNotedJust}
use Rattle.concordance.specs.Notes.Invariant.{HoldsNotes}
use Rattle.concordance.specs.Working.{AreReady, IsReady, SharedHeap, shared_heap}
use Rattle.concordance.proofs.Lists.Numbered.{from_last}

-- no notes, in no records
holds_none : (m : ℕ) → HoldsNotes m [] (Number 0) (Number 0) [] []
holds_none m = record {
  kept = record { entries = refl; apart = tt; lines = tt; begins = inl refl; turns = tt; found = tt; ends = λ turns. refl };
  told = record { all = λ n h. absurd h; only = λ n h. absurd h };
  filled = record { words = refl; few_words = omega arith; few_records = omega arith };
}

-- the mutator of clerk k, which has made no call and has begun none
pub record IsNew (w : SharedHeap) (k : ℕ) (s : Seated) : Type 0 where
  pub ready : IsReady w k s
  pub rests : s.worker.task ≡ None

module _ (t : TableId) (plan : Plan) where
  -- a clerk's desk is empty
  module _ (k : ℕ) (below : k < plan.mutators) where
    abbrev empty : Desk
    empty = record { number = k; records = []; registers = opening_mutator.registers }

    desk_is : desk_of (new_seated t plan k) ≡ empty
    unfolding desk_of
    desk_is =
        let records = get_or-replicate {A = List Record} plan.mutators k [] [] below in
        let mutator = get_or-replicate plan.mutators k opening_mutator fresh below in
        λ i. record { number = k; records = records i; registers = (mutator i).registers }

    noted_none : HasNotedJust (desk_of (new_seated t plan k)) []
    noted_none = subst (λ (d : Desk). HasNotedJust d []) (sym desk_is) (record { notes = []; holds = holds_none k })

    lone_first : IsLone (new_seated t plan k)
    lone_first = record { one = refl; mine = refl; legal = tt; leaves = tt; no_end = rw (lt-ltb k plan.mutators below) refl }

    ready_first : IsReady (shared_heap t plan) k (new_seated t plan k)
    ready_first = record { table = refl; plan = refl; number = refl; lone = lone_first; none = noted_none }

    new_first : IsNew (shared_heap t plan) k (new_seated t plan k)
    new_first = record { ready = ready_first; rests = rw (lt-ltb k plan.mutators below) refl }

  -- all of them
  all_new : (n : ℕ) → n ≤ plan.mutators → EachFrom (IsNew (shared_heap t plan)) 0 (new_callers t plan 0 n)
  all_new zero few = tt
  all_new (suc n) few =
      let many = callers_length t plan 0 n in
      from_append (IsNew (shared_heap t plan)) 0 (new_callers t plan 0 n) (new_seated t plan (0 + n) ∷ []) (all_new n (omega (arith, few)))
      (subst (λ (m : ℕ). IsNew (shared_heap t plan) m (new_seated t plan (0 + n))) (omega (arith, many)) (new_first (0 + n) (omega (arith, few))), tt)

  pub mutators_new : (mutators : List Seated) → mutators ≡ new_callers t plan 0 plan.mutators → EachFrom (IsNew (shared_heap t plan)) 0 mutators
  mutators_new mutators is = subst (EachFrom (IsNew (shared_heap t plan)) 0) (sym is) (all_new plan.mutators (omega arith))

  pub mutators_many : (mutators : List Seated) → mutators ≡ new_callers t plan 0 plan.mutators → length mutators ≡ plan.mutators
  mutators_many mutators is = ap length is ∙ callers_length t plan 0 plan.mutators

  -- the scanners are of the heap
  pub scanners_of_heap : (from n : ℕ) → Each (λ (s : SeatedScanner). s.seated.table ≡ t) (new_scanners t plan from n)
  scanners_of_heap from zero = tt
  scanners_of_heap from (suc n) =
      each_append (λ (s : SeatedScanner). s.seated.table ≡ t) (new_scanners t plan from n) (new_scanner t plan (from + n) ∷ []) (scanners_of_heap from n) (refl, tt)

-- ---- the mutators, taken last first

-- The mutators that are left, and the clerks of those that were taken, the latest last.
pub record SeatsSoFar (w : SharedHeap) (many room : ℕ) (mutators clerks : List Seated) : Type 0 where
  pub left : EachFrom (IsNew w) 0 mutators
  pub taken : AreReady w (length mutators) (reverse clerks)
  pub many_is : length mutators + length clerks ≡ many
  pub fits : many ≤ room

pub seats_first : (w : SharedHeap) (room : ℕ) (mutators : List Seated) → EachFrom (IsNew w) 0 mutators → length mutators ≤ room → SeatsSoFar w (length mutators) room mutators []
seats_first w room mutators new fits = record { left = new; taken = tt; many_is = omega arith; fits = fits }

module _ (w : SharedHeap) (many room : ℕ) (old new clerks : List Seated) (s : Seated) (e : old ≡ new ++ s ∷ []) (h : SeatsSoFar w many room old clerks) where
  both : EachFrom (IsNew w) 0 new × IsNew w (0 + length new) s
  both = from_last (IsNew w) 0 new s (subst (EachFrom (IsNew w) 0) e h.left)

  one_fewer : length old ≡ length new + 1
  one_fewer = ap length e ∙ length_push new s

  pub next_new : IsNew w (length new) s
  next_new = subst (λ (k : ℕ). IsNew w k s) (omega arith) both.1

  pub seats_more : SeatsSoFar w many room new (clerks ++ s ∷ [])
  seats_more = record {
    left = both.0;
    taken = subst (AreReady w (length new)) (sym (reverse-append clerks (s ∷ [])))
        (next_new.ready, subst (λ (k : ℕ). AreReady w k (reverse clerks)) one_fewer h.taken);
    many_is = let p = length_push clerks s in let m = h.many_is in let o = one_fewer in omega (arith, p, m, o);
    fits = h.fits;
  }
