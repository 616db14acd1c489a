-- What a step of mutator m is, which is k: it is written back into the list ks of the mutators.
use Rattle.std.proofs.Common.{◌≡◌, ℕ, ◌<◌, true, false, Bool, cond, ◌≤◌, nat_lt, List, length, Option, Some, None, Ok, Err, is_some, slice_get, slice_set, get_or, refl, ap}
use Rattle.std.proofs.lemmas.Bool.{lt-ltb, le-ltb}
use Rattle.std.proofs.lemmas.List.{set-get_or}
use Rattle.std.proofs.lemmas.Option.{slice_get_read}
use Rattle.plain_state.specs.declared.end.End.{End}
use Rattle.plain_state.specs.State.{Heap, Mutator, Plain}
use Rattle.mutator_asm.specs.declared.instr.Instr.{Instr}
use Rattle.plain_heap.specs.Memory.{StepTakesMemory, TurnTakesMemory}
use Rattle.plain_heap.specs.Step.{executes, settled, stepped_if, stepped_as, mutator_in, stepped}

cond_same : (b : Bool) (k : Option Mutator) → cond b k k ≡ k
cond_same true k = refl
cond_same false k = refl

-- a state by its parts
abbrev pub state : Heap → List Mutator → Plain
state heap ks = record { heap = heap; mutators = ks }

-- the program has no such mutator
pub stepped-past : (code : List (List Instr)) (turns : ℕ) (s : Plain) (m : ℕ) → length code ≤ m → stepped code turns s m ≡ s
unfolding stepped
stepped-past code turns s m past = rw (le-ltb m (length code) past)

mutator_in-none : (code : List (List Instr)) (s : Plain) (m : ℕ) → slice_get s.mutators m ≡ None → mutator_in code s m ≡ None
mutator_in-none code s m none = rw none (cond_same (nat_lt m (length code)) None)

-- the state has no such mutator
pub stepped-none : (code : List (List Instr)) (turns : ℕ) (s : Plain) (m : ℕ) → slice_get s.mutators m ≡ None → stepped code turns s m ≡ s
unfolding stepped
stepped-none code turns s m none = ap (stepped_as code turns s m) (mutator_in-none code s m none)

stepped_if-some : (code : List (List Instr)) (turns : ℕ) (s : Plain) (m : ℕ) (k : Mutator) (end : Option End) → is_some end ≡ true → stepped_if code turns s m k end ≡ s
stepped_if-some code turns s m k None h = cc
stepped_if-some code turns s m k (Some why) h = refl

stepped_if-none : (code : List (List Instr)) (turns : ℕ) (s : Plain) (m : ℕ) (k : Mutator) (end : Option End) → is_some end ≡ false → stepped_if code turns s m k end ≡ settled s m k (executes code turns m s.heap k)
stepped_if-none code turns s m k None h = refl
stepped_if-none code turns s m k (Some why) h = cc

-- nothing changes where mutator m stays as it is
pub written_back : (heap : Heap) (ks : List Mutator) (m : ℕ) (k : Mutator) → k ≡ get_or ks m k → state heap (slice_set ks m k) ≡ state heap ks
written_back heap ks m k is = rw is (ap (state heap) (set-get_or ks m k))

none_if : (end : Option End) → is_some end ≡ false → end ≡ None
none_if None h = refl
none_if (Some why) h = cc

module _ (code : List (List Instr)) (turns : ℕ) (heap : Heap) (ks : List Mutator) (m : ℕ) (k : Mutator) (has : m < length code) (within : m < length ks) (is : k ≡ get_or ks m k) where
  found : mutator_in code (state heap ks) m ≡ Some k
  found = rw (lt-ltb m (length code) has) (slice_get_read ks (length ks) m k refl within is)

  -- its turn is the step
  pub step-takes_memory : is_some k.end ≡ false → TurnTakesMemory code turns m heap k → StepTakesMemory code turns (state heap ks) m
  step-takes_memory no_end takes = record { mutator = k; is_there = slice_get_read ks (length ks) m k refl within is; no_end = none_if k.end no_end; turn = takes }

  -- it has its end
  pub stepped-ended : is_some k.end ≡ true → state heap (slice_set ks m k) ≡ stepped code turns (state heap ks) m
  unfolding stepped
  stepped-ended has_end = rw (found, stepped_if-some code turns (state heap ks) m k k.end has_end) (written_back heap ks m k is)

  stepped-settled : is_some k.end ≡ false → stepped code turns (state heap ks) m ≡ settled (state heap ks) m k (executes code turns m heap k)
  unfolding stepped
  stepped-settled no_end = rw found (stepped_if-none code turns (state heap ks) m k k.end no_end)

  -- it executes its next instruction
  pub stepped-executed : (heap' : Heap) (k' : Mutator) → is_some k.end ≡ false → executes code turns m heap k ≡ Ok (record { heap = heap'; mutator = k' })
      → state heap' (slice_set ks m k') ≡ stepped code turns (state heap ks) m
  stepped-executed heap' k' no_end is_executed = rw (stepped-settled no_end, is_executed) refl

  -- it gets its end
  pub stepped-stopped : (why : End) → is_some k.end ≡ false → executes code turns m heap k ≡ Err why
      → state heap (slice_set ks m (record k { end = Some why })) ≡ stepped code turns (state heap ks) m
  stepped-stopped why no_end is_executed = rw (stepped-settled no_end, is_executed) refl
