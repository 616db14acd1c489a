-- What a mark does to a state in which no mutator is led to a record of another.
use Rattle.std.proofs.Common.{◌≡◌, ℕ, ◌<◌, ◌≤◌, ◌⊎◌, inl, inr, Bool, true, false, List, [], length, Option, Some, None, Result, Ok, Err, is_some, nat_le, slice_get, slice_set, get_or, refl, ap, sym, ◌∙◌, subst}
use Rattle.std.specs.List.{list_all}
use Rattle.std.specs.Option.{ok_or}
use Rattle.std.proofs.lemmas.Bool.{cases_eq, cases_lt}
use Rattle.std.proofs.lemmas.List.Sums.{AllPass-from_list_all}
use Rattle.std.proofs.lemmas.Option.{slice_get-get_or, slice_get_within, get_or_from_slice_get}
use Rattle.plain_state.specs.declared.end.End.{End}
use Rattle.plain_state.specs.declared.end.End.TheVariants.{HeapFull, JumpOut, TurnsOut}
use Rattle.plain_state.specs.State.{Record, Mutator, Plain, made_by}
use Rattle.mutator_asm.specs.declared.instr.Instr.{Instr}
use Rattle.mutator_asm.specs.Program.{instr_at}
use Rattle.plain_heap.specs.Call.{After, call}
use Rattle.plain_heap.specs.Step.{fetch, executes, ended, settled, stepped, asked_by, asked_if}
use Rattle.plain_heap.specs.declared.mark.Mark.{Mark}
use Rattle.plain_heap.specs.declared.mark.Mark.TheVariants.{Step, Flip, Full, Traced}
use Rattle.plain_heap.specs.Order.{ended_for_want, fresh, is_asked}
use Rattle.plain_heap.specs.Alone.{leaves_board, shares_nothing}
use Rattle.plain_heap.proofs.States.MutatorSteps.{stepped-past}
use Rattle.plain_heap.proofs.Alone.Owned.{OwnsRecords, found_all, read_all}
use Rattle.plain_heap.proofs.Alone.MarksAlone.{marked}
use Rattle.plain_heap.proofs.Alone.Alike.{Same, GoAlike, HasRecords, call-alike, same-bind, unchanged}
use Rattle.plain_heap.proofs.Alone.Runs.{mutator_of, stepped-rests, stepped-goes}
use Rattle.plain_heap.proofs.Alone.Apart.{IsApart, IsMoved, MovesMutator, HasSameMutator, moves-other, moved-meets, moves-apart, moves-mutator, stays-moves, full-moves}

-- both states take these records of mutator m, and in both it becomes the same
record MovesBoth (m : ℕ) (s u s_after u_after : Plain) : Type 0 where
  records : List Record
  mutator : Mutator
  is : IsMoved s m records mutator s_after
  other_is : IsMoved u m records mutator u_after
  own : OwnsRecords m records mutator

-- a step of mutator m from two states in which it is the same
pub record StepsAlike (m : ℕ) (s u s_after u_after : Plain) : Type 0 where
  pub one : MovesMutator m s s_after
  pub other : MovesMutator m u u_after
  pub meets : HasSameMutator m s_after u_after

-- ---- a step

-- an instruction of a program whose mutators share nothing
fetched-leaves : (code : List (List Instr)) (m counter : ℕ) (i : Instr) → shares_nothing code ≡ true → instr_at code m counter ≡ Some i → leaves_board i ≡ true
fetched-leaves code m counter i alone is =
    let sections = AllPass-from_list_all (list_all leaves_board) code alone in
    let section = read_all (λ is. list_all leaves_board is ≡ true) code m [] sections refl in
    found_all (λ i. leaves_board i ≡ true) (get_or code m []) counter i (AllPass-from_list_all leaves_board (get_or code m []) section) is

module _ (code : List (List Instr)) (turns : ℕ) (alone : shares_nothing code ≡ true) (m : ℕ) (s u : Plain) (apart : IsApart code s) (other_apart : IsApart code u) (meets : HasSameMutator m s u) (has : m < length code) where
  at_counter : (k : Mutator) (i : Instr) (o : Option Instr) → instr_at code m k.counter ≡ o → ok_or o JumpOut ≡ Ok i → leaves_board i ≡ true
  at_counter k i None found is = cc
  at_counter k i (Some j) found is = subst (λ i. leaves_board i ≡ true) (same_Ok is) (fetched-leaves code m k.counter j alone found)
    where
      same_Ok : (ok_or (Some j) JumpOut ≡ Ok i) → j ≡ i
      same_Ok is = cc

  leaves_as : (k : Mutator) (i : Instr) (out : Bool) → nat_le turns k.executed ≡ out → fetch code turns m k ≡ Ok i → leaves_board i ≡ true
  leaves_as k i true out is = absurd (no_instr (rw out at is))
    where
      no_instr : (Err TurnsOut ≡ Ok i) → ⊥
      no_instr e = cc
  leaves_as k i false out is = at_counter k i (instr_at code m k.counter) refl (rw out at is)

  executes-alike : Same (GoAlike m s.heap u.heap) (executes code turns m s.heap (mutator_of s m)) (executes code turns m u.heap (mutator_of s m))
  executes-alike = same-bind (GoAlike m s.heap u.heap) (fetch code turns m (mutator_of s m)) (λ i. call m s.heap (mutator_of s m) i) (λ i. call m u.heap (mutator_of s m) i)
      (λ i is. call-alike m s.heap u.heap (mutator_of s m) meets.records (apart.own m) i (leaves_as (mutator_of s m) i _ refl is))

  settles : (o p : Result After End) → Same (GoAlike m s.heap u.heap) o p → MovesBoth m s u (settled s m (mutator_of s m) o) (settled u m (mutator_of s m) p)
  settles (Ok a) (Ok b) same = record {
    records = same.records;
    mutator = a.mutator;
    is = record { heap = same.heap_is; mutators = refl };
    other_is = record { heap = same.other_is; mutators = ap (slice_set u.mutators m) same.mutator_is };
    own = same.own;
  }
  settles (Ok a) (Err why) same = absurd same
  settles (Err why) (Ok b) same = absurd same
  settles (Err why) (Err other) same = rw (← same) (record {
    records = made_by s.heap m;
    mutator = record (mutator_of s m) { end = Some why };
    is = record { heap = unchanged s.heap m; mutators = refl };
    other_is = record { heap = subst (λ records. HasRecords u.heap m records u.heap) meets.records (unchanged u.heap m); mutators = refl };
    own = record { registers = (apart.own m).registers; words = (apart.own m).words };
  })

  step-both : is_some (mutator_of s m).end ≡ false → MovesBoth m s u (stepped code turns s m) (stepped code turns u m)
  step-both no_end =
      let there : is_some (mutator_of u m).end ≡ false = ap (λ k. is_some k.end) meets.mutator ∙ no_end in
      rw (stepped-goes code turns s m has apart.counted no_end, stepped-goes code turns u m has other_apart.counted there, meets.mutator)
      (settles (executes code turns m s.heap (mutator_of s m)) (executes code turns m u.heap (mutator_of s m)) executes-alike)

  ended_apart : true ≡ false → ⊥
  ended_apart e = cc

  -- a step of mutator m, which has no end
  pub step-alike : is_some (mutator_of s m).end ≡ false → StepsAlike m s u (stepped code turns s m) (stepped code turns u m)
  step-alike no_end =
      let both = step-both no_end in
      let there : is_some (mutator_of u m).end ≡ false = ap (λ k. is_some k.end) meets.mutator ∙ no_end in
      record {
        one = record { records = both.records; mutator = both.mutator; is = both.is; own = both.own; rests = λ ended. absurd (ended_apart (sym ended ∙ no_end)) };
        other = record { records = both.records; mutator = both.mutator; is = both.other_is; own = both.own; rests = λ ended. absurd (ended_apart (sym ended ∙ there)) };
        meets = moved-meets m s u (stepped code turns s m) (stepped code turns u m) both.records both.mutator both.is both.other_is
            (subst (λ n. m < n) (sym apart.counted) has) (subst (λ n. m < n) (sym apart.as_many) has) (subst (λ n. m < n) (sym other_apart.counted) has) (subst (λ n. m < n) (sym other_apart.as_many) has);
      }

-- ---- a mark

-- the mutator whose mark it is; the exchange of the spaces and tracing change none
abbrev pub mover : Mark → ℕ
mover (Step m) = m
mover (Flip asked) = 0
mover (Full m asked room live) = m
mover Traced = 0

-- the mark changes nothing, or one mutator of the program moves
abbrev pub MovesAtMostOne : List (List Instr) → ℕ → Plain → Plain → Type 0
MovesAtMostOne code m s after = (after ≡ s) ⊎ ((m < length code) × MovesMutator m s after)

-- an end for want of room comes to a mutator that had none
abbrev pub GetsFullEnd : List (List Instr) → ℕ → Plain → ℕ → ℕ → ℕ → ℕ → Type 0
GetsFullEnd code turns s m asked room live =
    (m < length code) × (is_some (mutator_of s m).end ≡ false) × (marked code turns s (Full m asked room live) ≡ ended s m (mutator_of s m) (HeapFull asked room live))

module _ (code : List (List Instr)) (turns : ℕ) (alone : shares_nothing code ≡ true) (s : Plain) (apart : IsApart code s) where
  itself : (m : ℕ) → HasSameMutator m s s
  itself m = record { mutator = refl; records = refl }

  step_as : (m : ℕ) (end : Bool) → m < length code → is_some (mutator_of s m).end ≡ end → MovesMutator m s (stepped code turns s m)
  step_as m true has is = stays-moves code s apart m (stepped code turns s m) (stepped-rests code turns s m has apart.counted is)
  step_as m false has is = (step-alike code turns alone m s s apart apart (itself m) has is).one

  step_acts : (m : ℕ) → (m < length code) ⊎ (length code ≤ m) → MovesAtMostOne code m s (stepped code turns s m)
  step_acts m (inl has) = inr (has, step_as m (is_some (mutator_of s m).end) has refl)
  step_acts m (inr past) = inl (stepped-past code turns s m past)

  asks_as : (m asked : ℕ) (k : Mutator) (end : Option End) → is_asked asked (asked_if code turns m k end) ≡ true → is_some end ≡ false
  asks_as m asked k None asks = refl
  asks_as m asked k (Some why) asks = cc

  found_as : (m asked : ℕ) (o : Option Mutator) → slice_get s.mutators m ≡ o → is_asked asked (asked_by code turns s m) ≡ true → (m < length s.mutators) × (is_some (mutator_of s m).end ≡ false)
  unfolding asked_by
  found_as m asked None found asks = absurd (none (rw found at asks))
    where
      none : false ≡ true → ⊥
      none e = cc
  found_as m asked (Some k) found asks = (
    slice_get_within s.mutators m k found,
    subst (λ k. is_some k.end ≡ false) (sym (get_or_from_slice_get s.mutators m k fresh found)) (asks_as m asked k k.end (rw found at asks)),
  )

  fills_as : (m asked room live : ℕ) (asks : Bool) → is_asked asked (asked_by code turns s m) ≡ asks → (marked code turns s (Full m asked room live) ≡ s) ⊎ GetsFullEnd code turns s m asked room live
  unfolding ended_for_want
  fills_as m asked room live false is = inl (rw is refl)
  fills_as m asked room live true is =
      let found = found_as m asked (slice_get s.mutators m) refl is in
      inr (subst (λ n. m < n) apart.counted found.0, found.1, rw (is, slice_get-get_or s.mutators m fresh found.0) refl)

  pub fills : (m asked room live : ℕ) → (marked code turns s (Full m asked room live) ≡ s) ⊎ GetsFullEnd code turns s m asked room live
  fills m asked room live = fills_as m asked room live (is_asked asked (asked_by code turns s m)) refl

  full_acts : (m asked room live : ℕ) → (marked code turns s (Full m asked room live) ≡ s) ⊎ GetsFullEnd code turns s m asked room live → MovesAtMostOne code m s (marked code turns s (Full m asked room live))
  full_acts m asked room live (inl same) = inl same
  full_acts m asked room live (inr fills) = inr (fills.0, rw fills.2 (full-moves code s apart m (HeapFull asked room live) fills.1))

  acts : (mark : Mark) → MovesAtMostOne code (mover mark) s (marked code turns s mark)
  acts (Step m) = step_acts m (cases_lt m (length code))
  acts (Flip asked) = inl refl
  acts (Full m asked room live) = full_acts m asked room live (fills m asked room live)
  acts Traced = inl refl

  apart_after : (m : ℕ) (after : Plain) → MovesAtMostOne code m s after → IsApart code after
  apart_after m after (inl same) = rw same apart
  apart_after m after (inr moves) = moves-apart code s apart m after moves.1 moves.0

  pub marked-apart : (mark : Mark) → IsApart code (marked code turns s mark)
  marked-apart mark = apart_after (mover mark) (marked code turns s mark) (acts mark)

  other_after : (m j : ℕ) (after : Plain) → MovesAtMostOne code j s after → (m ≡ j → ⊥) → HasSameMutator m s after
  other_after m j after (inl same) other = rw same (itself m)
  other_after m j after (inr moves) other = moves-other m j s after moves.1 other

  -- a mark of another mutator
  pub marked-other : (m : ℕ) (mark : Mark) → (m ≡ mover mark → ⊥) → HasSameMutator m s (marked code turns s mark)
  marked-other m mark other = other_after m (mover mark) (marked code turns s mark) (acts mark) other

  rests_after : (m j : ℕ) (after : Plain) → MovesAtMostOne code j s after → (m ≡ j) ⊎ (m ≡ j → ⊥) → is_some (mutator_of s m).end ≡ true → mutator_of after m ≡ mutator_of s m
  rests_after m j after (inl same) e ended = rw same refl
  rests_after m j after (inr moves) (inl e) ended = subst (λ n. mutator_of after n ≡ mutator_of s n) (sym e)
      (moves-mutator code s apart j after moves.1 moves.0 ∙ moves.1.rests (subst (λ n. is_some (mutator_of s n).end ≡ true) e ended))
  rests_after m j after (inr moves) (inr other) ended = (moves-other m j s after moves.1 other).mutator

  -- a mutator with an end stays what it is
  pub marked-rests : (m : ℕ) (mark : Mark) → is_some (mutator_of s m).end ≡ true → mutator_of (marked code turns s mark) m ≡ mutator_of s m
  marked-rests m mark ended = rests_after m (mover mark) (marked code turns s mark) (acts mark) (cases_eq m (mover mark)) ended
