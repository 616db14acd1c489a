-- A mutator that is run alone.
use Rattle.std.proofs.Common.{◌≡◌, ℕ, zero, suc, ◌+◌, ◌<◌, ◌≤◌, Bool, true, false, List, length, replicate, Option, Some, None, Result, Ok, Err, is_some, nat_le, get_or, refl, ap, sym, ◌∙◌, subst, arith}
use Rattle.std.specs.Result.{IfOk}
use Rattle.std.proofs.lemmas.Bool.{lt-ltb, leb-false}
use Rattle.std.proofs.lemmas.List.{get_or-set_same}
use Rattle.std.proofs.lemmas.Option.{slice_get-get_or}
use Rattle.plain_state.specs.declared.end.End.{End}
use Rattle.plain_state.specs.declared.end.End.TheVariants.{TurnsOut}
use Rattle.plain_state.specs.State.{Mutator, Plain}
use Rattle.mutator_asm.specs.declared.instr.Instr.{Instr}
use Rattle.plain_heap.specs.Action.{◌>>=◌}
use Rattle.plain_heap.specs.Call.{After, call}
use Rattle.plain_heap.specs.Step.{fetch, executes, settled, stepped_if, stepped_as, mutator_in, stepped}
use Rattle.plain_heap.specs.declared.mark.Mark.TheVariants.{Step}
use Rattle.plain_heap.specs.Order.{fresh}
use Rattle.plain_heap.proofs.Alone.MarksAlone.{state_after}
use Rattle.plain_heap.proofs.Calls.Rest.{settled-count}
use Rattle.plain_heap.proofs.Calls.CountedCalls.{Grown, grown-refl, grown-trans, Went, call-went}

-- what mutator m is
abbrev pub mutator_of : Plain → ℕ → Mutator
mutator_of s m = get_or s.mutators m fresh

-- the state after so many steps of mutator m
abbrev pub after_steps : List (List Instr) → ℕ → Plain → ℕ → ℕ → Plain
after_steps code turns s n m = state_after code turns s (replicate n (Step m))

-- a mutator with an end stays what it is; another executes an instruction, for which it has a turn, or
-- gets its end
pub record FollowsTurn (turns : ℕ) (k l : Mutator) : Type 0 where
  pub printed : Grown k.printed l.printed
  pub rests : is_some k.end ≡ true → l ≡ k
  pub goes : is_some l.end ≡ false → (l.executed ≡ k.executed + 1) × (k.executed < turns)

module _ (code : List (List Instr)) (turns : ℕ) (s : Plain) (m : ℕ) (has : m < length code) (counted : length s.mutators ≡ length code) where
  within : m < length s.mutators
  within = subst (λ n. m < n) (sym counted) has

  found : mutator_in code s m ≡ Some (mutator_of s m)
  found = rw (lt-ltb m (length code) has) (slice_get-get_or s.mutators m fresh within)

  pub stepped-is : stepped code turns s m ≡ stepped_if code turns s m (mutator_of s m) (mutator_of s m).end
  unfolding stepped
  stepped-is = ap (stepped_as code turns s m) found

  rests_as : (k : Mutator) (end : Option End) → is_some end ≡ true → stepped_if code turns s m k end ≡ s
  rests_as k None is = cc
  rests_as k (Some why) is = refl

  -- a step of a mutator with an end changes nothing
  pub stepped-rests : is_some (mutator_of s m).end ≡ true → stepped code turns s m ≡ s
  stepped-rests is = stepped-is ∙ rests_as (mutator_of s m) (mutator_of s m).end is

  goes_as : (k : Mutator) (end : Option End) → is_some end ≡ false → stepped_if code turns s m k end ≡ settled s m k (executes code turns m s.heap k)
  goes_as k None is = refl
  goes_as k (Some why) is = cc

  -- a step of a mutator without an end
  pub stepped-goes : is_some (mutator_of s m).end ≡ false → stepped code turns s m ≡ settled s m (mutator_of s m) (executes code turns m s.heap (mutator_of s m))
  stepped-goes is = stepped-is ∙ goes_as (mutator_of s m) (mutator_of s m).end is

  counted_as : (end : Bool) → is_some (mutator_of s m).end ≡ end → length (stepped code turns s m).mutators ≡ length s.mutators
  counted_as true is = ap (λ t. length t.mutators) (stepped-rests is)
  counted_as false is = ap (λ t. length t.mutators) (stepped-goes is) ∙ settled-count s m (mutator_of s m) (executes code turns m s.heap (mutator_of s m))

  -- no mutator comes or goes
  pub stepped-counted : length (stepped code turns s m).mutators ≡ length s.mutators
  stepped-counted = counted_as (is_some (mutator_of s m).end) refl

  out_of_turns : (k : Mutator) → nat_le turns k.executed ≡ true → executes code turns m s.heap k ≡ Err TurnsOut
  out_of_turns k out = rw out refl

  -- what is executed has a turn
  fetched_as : (k : Mutator) (after : After) (out : Bool) → nat_le turns k.executed ≡ out → executes code turns m s.heap k ≡ Ok after → k.executed < turns
  fetched_as k after true out is = absurd (apart (sym (out_of_turns k out) ∙ is))
    where
      apart : Err TurnsOut ≡ Ok after → ⊥
      apart e = cc
  fetched_as k after false out is = leb-false turns k.executed out

  went_as : (k : Mutator) (o : Result Instr End) → IfOk (o >>= (λ i. call m s.heap k i)) (λ after. Went k after.mutator)
  went_as k (Ok i) = call-went m s.heap k i
  went_as k (Err why) = tt

  settled-follows : (o : Result After End) → is_some (mutator_of s m).end ≡ false → executes code turns m s.heap (mutator_of s m) ≡ o → IfOk o (λ after. Went (mutator_of s m) after.mutator)
      → FollowsTurn turns (mutator_of s m) (mutator_of (settled s m (mutator_of s m) o) m)
  settled-follows (Ok after) no_end is went = rw (get_or-set_same s.mutators m after.mutator fresh within) (record {
    printed = went.printed;
    rests = λ ended. cc;
    goes = λ no_end. (went.executed, fetched_as (mutator_of s m) after (nat_le turns (mutator_of s m).executed) refl is);
  })
  settled-follows (Err why) no_end is went = rw (get_or-set_same s.mutators m (record (mutator_of s m) { end = Some why }) fresh within) (record {
    printed = grown-refl (mutator_of s m).printed;
    rests = λ ended. cc;
    goes = λ no_end. cc;
  })

  follows_as : (end : Bool) → is_some (mutator_of s m).end ≡ end → FollowsTurn turns (mutator_of s m) (mutator_of (stepped code turns s m) m)
  follows_as true is = rw (stepped-rests is) (record { printed = grown-refl (mutator_of s m).printed; rests = λ ended. refl; goes = λ no_end. cc })
  follows_as false is = rw (stepped-goes is)
      (settled-follows (executes code turns m s.heap (mutator_of s m)) is refl (went_as (mutator_of s m) (fetch code turns m (mutator_of s m))))

  pub stepped-follows : FollowsTurn turns (mutator_of s m) (mutator_of (stepped code turns s m) m)
  stepped-follows = follows_as (is_some (mutator_of s m).end) refl

-- ---- many steps

-- after so many steps
pub record Comes (turns n : ℕ) (k l : Mutator) : Type 0 where
  pub printed : Grown k.printed l.printed
  pub rests : is_some k.end ≡ true → l ≡ k
  pub goes : is_some l.end ≡ false → k.executed ≤ turns → k.executed + n ≤ turns

no_end_before : (k l : Mutator) (end : Bool) → is_some k.end ≡ end → (is_some k.end ≡ true → l ≡ k) → is_some l.end ≡ false → is_some k.end ≡ false
no_end_before k l true is rests no_end = absurd (both (sym (ap (λ k. is_some k.end) (rests is)) ∙ no_end))
  where
    both : is_some k.end ≡ false → ⊥
    both e = cc
no_end_before k l false is rests no_end = is

comes-next : (turns n : ℕ) (k l final : Mutator) → FollowsTurn turns k l → Comes turns n l final → Comes turns (suc n) k final
comes-next turns n k l final first rest = record {
  printed = grown-trans k.printed l.printed final.printed first.printed rest.printed;
  rests = λ is. rest.rests (ap (λ k. is_some k.end) (first.rests is) ∙ is) ∙ first.rests is;
  goes = λ no_end few.
      let step = first.goes (no_end_before l final (is_some l.end) refl rest.rests no_end) in
      omega (arith, step.0, step.1, rest.goes no_end (omega (arith, step.0, step.1)));
}

pub steps-come : (code : List (List Instr)) (turns m n : ℕ) (s : Plain) → m < length code → length s.mutators ≡ length code
    → Comes turns n (mutator_of s m) (mutator_of (after_steps code turns s n m) m)
steps-come code turns m zero s has counted = record { printed = grown-refl (mutator_of s m).printed; rests = λ is. refl; goes = λ no_end few. omega (arith, few) }
steps-come code turns m (suc n) s has counted =
    comes-next turns n (mutator_of s m) (mutator_of (stepped code turns s m) m) _ (stepped-follows code turns s m has counted)
    (steps-come code turns m n (stepped code turns s m) has (stepped-counted code turns s m has counted ∙ counted))

-- more steps than there are turns lead to an end
pub steps-end : (code : List (List Instr)) (turns m : ℕ) (s : Plain) → m < length code → length s.mutators ≡ length code → (mutator_of s m).executed ≡ 0
    → is_some (mutator_of (after_steps code turns s (turns + 1) m) m).end ≡ true
steps-end code turns m s has counted begun = ended_as (mutator_of (after_steps code turns s (turns + 1) m) m) (is_some (mutator_of (after_steps code turns s (turns + 1) m) m).end) refl
    (steps-come code turns m (turns + 1) s has counted)
  where
    ended_as : (l : Mutator) (end : Bool) → is_some l.end ≡ end → Comes turns (turns + 1) (mutator_of s m) l → is_some l.end ≡ true
    ended_as l true is comes = is
    ended_as l false is comes = absurd (omega (arith, begun, comes.goes is (omega (arith, begun))))
