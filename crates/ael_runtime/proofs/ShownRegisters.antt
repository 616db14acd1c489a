-- What a mutator's registers show of what it sees, and what stays while it makes no call.
use Rattle.std.proofs.Common.{◌≡◌, ℕ, ◌<◌, length, Some, slice_get, slice_index, slice_index_or, sym, ◌∙◌, subst}
use Rattle.std.proofs.lemmas.Option.{get_or_from_slice_get, slice_get-get_or}
use Rattle.heap_words.specs.Decoded.{NumberWord, PointerWord, decode}
use Rattle.plain_state.specs.declared.sizes.TheConstants.{REGISTERS}
use Rattle.plain_state.specs.declared.value.Identity.{Identity}
use Rattle.plain_state.specs.declared.value.Value.TheVariants.{Number, Reference}
use Rattle.plain_state.specs.State.{Mutator, serial_of}
use Rattle.plain_heap.specs.Order.{fresh}
use Rattle.gc_worker.specs.History.Legal.{after_all, calls_of}
use Rattle.ael_threads.specs.Calls.{StaysSilent}
use Rattle.ael_threads.specs.Histories.{first_plain}
use Rattle.ael_threads.specs.Readers.{IsThere}
use Rattle.ael_threads.specs.Seats.{IsMine, IsShown, Seated, ShowsSeen, plain_after_seen}
use Rattle.ael_runtime.specs.Reading.{SeesSame, held, number, seen_heap, seen_mutator}

module _ (s : Seated) (shows : ShowsSeen s.worker s.knows) (there : IsThere s) where
  abbrev k : Mutator
  k = slice_index_or (plain_after_seen s.knows).mutators (number s) fresh

  is_there : slice_get (plain_after_seen s.knows).mutators (number s) ≡ Some k
  is_there = slice_get-get_or (plain_after_seen s.knows).mutators (number s) fresh (subst (λ (j : ℕ). j < length (plain_after_seen s.knows).mutators) (sym there.0) there.1)

  pub shown : IsShown (plain_after_seen s.knows).heap (number s) s.worker k
  shown = shows k is_there

  pub number_shown : (r w : ℕ) → r < REGISTERS → decode (slice_index s.worker.registers r) ≡ NumberWord w → held s r ≡ Number w
  unfolding seen_mutator
  number_shown r w below is = get_or_from_slice_get k.registers r (Number w) (Number 0) (shown.registers.numbers r w below is)

  pub pointer_shown : (r address : ℕ) → r < REGISTERS → decode (slice_index s.worker.registers r) ≡ PointerWord address → (i : Identity) × (held s r ≡ Reference i)
  unfolding seen_mutator
  pointer_shown r address below is =
      let leads = shown.registers.pointers r address below is in
      (leads.0, get_or_from_slice_get k.registers r (Reference leads.0) (Number 0) leads.1)

  pub serial_shown : s.worker.account.serial ≡ serial_of (seen_heap s) (number s)
  unfolding seen_heap
  serial_shown = shown.serial

-- ---- no call

module _ (a b : Seated) (q : StaysSilent a b) where
  pub mine_silent : IsMine a.knows → IsMine b.knows
  mine_silent mine = (λ i. calls_of (q.rests.number i) (q.rests.seen i)) ∙ (mine ∙ sym q.rests.own)

  pub sees_same : b.worker.account.end ≡ a.worker.account.end → SeesSame a b
  unfolding seen_heap seen_mutator
  sees_same end = record {
    heap = λ i. (after_all (first_plain (q.rests.plan i)) (q.rests.seen i)).heap;
    mutator = λ i. slice_index_or (after_all (first_plain (q.rests.plan i)) (q.rests.seen i)).mutators (q.rests.number i) fresh;
    number = q.rests.number;
    end = end;
  }
