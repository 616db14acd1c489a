-- A state in which no mutator is led to a record of another, and a move of one mutator.
use Rattle.std.proofs.Common.{◌≡◌, ℕ, ◌<◌, ◌⊎◌, inl, inr, true, false, List, [], length, replicate, Some, is_some, slice_set, get_or, refl, ap, sym, ◌∙◌, subst, length-set}
use Rattle.std.specs.List.{All}
use Rattle.std.proofs.lemmas.Bool.{cases_eq}
use Rattle.std.proofs.lemmas.List.{length-replicate, get_or-set_same, get_or-set_other, set-get_or}
use Rattle.std.proofs.lemmas.List.Elements.{All-nil, All-replicate}
use Rattle.plain_state.specs.declared.end.End.{End}
use Rattle.plain_state.specs.declared.sizes.TheConstants.{BOARD_WORDS}
use Rattle.plain_state.specs.declared.value.Value.TheVariants.{Number}
use Rattle.plain_state.specs.State.{Record, Mutator, Plain, made_by, none_snapped}
use Rattle.mutator_asm.specs.declared.instr.Instr.{Instr}
use Rattle.plain_heap.specs.Step.{ended}
use Rattle.plain_heap.specs.Order.{fresh, opening}
use Rattle.plain_heap.proofs.States.OpeningState.{opening-replicate}
use Rattle.plain_heap.proofs.Alone.Alike.{HasRecords, unchanged}
use Rattle.plain_heap.proofs.Alone.Owned.{LeadsToOwn, AllOf, OwnsRecords, read_all}
use Rattle.plain_heap.proofs.Alone.Runs.{mutator_of}

-- no mutator of the state is led to a record of another
pub record IsApart (code : List (List Instr)) (s : Plain) : Type 0 where
  pub counted : length s.mutators ≡ length code
  pub as_many : length s.heap.records ≡ length code
  pub own : (m : ℕ) → OwnsRecords m (made_by s.heap m) (mutator_of s m)

-- mutator m becomes k, and its records these
pub record IsMoved (s : Plain) (m : ℕ) (records : List Record) (k : Mutator) (after : Plain) : Type 0 where
  pub heap : HasRecords s.heap m records after.heap
  pub mutators : after.mutators ≡ slice_set s.mutators m k

-- the state after a mark of mutator m
pub record MovesMutator (m : ℕ) (s after : Plain) : Type 0 where
  pub records : List Record
  pub mutator : Mutator
  pub is : IsMoved s m records mutator after
  pub own : OwnsRecords m records mutator
  pub rests : is_some (mutator_of s m).end ≡ true → mutator ≡ mutator_of s m

-- two states have the same mutator m, with the same records
pub record HasSameMutator (m : ℕ) (s u : Plain) : Type 0 where
  pub mutator : mutator_of u m ≡ mutator_of s m
  pub records : made_by u.heap m ≡ made_by s.heap m

-- ---- a move

module _ (s after : Plain) (m : ℕ) (records : List Record) (k : Mutator) (is : IsMoved s m records k after) where
  moved-same : m < length s.mutators → mutator_of after m ≡ k
  moved-same within = ap (λ ks. get_or ks m fresh) is.mutators ∙ get_or-set_same s.mutators m k fresh within

  records-same : m < length s.heap.records → made_by after.heap m ≡ records
  records-same within = ap (λ rs. get_or rs m []) is.heap.records_are ∙ get_or-set_same s.heap.records m records [] within

-- the same move from two states
pub moved-meets : (m : ℕ) (s u after there : Plain) (records : List Record) (k : Mutator) → IsMoved s m records k after → IsMoved u m records k there
    → m < length s.mutators → m < length s.heap.records → m < length u.mutators → m < length u.heap.records → HasSameMutator m after there
moved-meets m s u after there records k is is_there within in_heap other_within other_in_heap = record {
  mutator = moved-same u there m records k is_there other_within ∙ sym (moved-same s after m records k is within);
  records = records-same u there m records k is_there other_in_heap ∙ sym (records-same s after m records k is in_heap);
}

pub moves-other : (m j : ℕ) (s after : Plain) → MovesMutator j s after → (m ≡ j → ⊥) → HasSameMutator m s after
moves-other m j s after moves other = record {
  mutator = ap (λ ks. get_or ks m fresh) moves.is.mutators ∙ get_or-set_other s.mutators j m moves.mutator fresh other;
  records = ap (λ rs. get_or rs m []) moves.is.heap.records_are ∙ get_or-set_other s.heap.records j m moves.records [] other;
}

apart_same : (m : ℕ) (s after : Plain) (moves : MovesMutator m s after) → m < length s.mutators → m < length s.heap.records → OwnsRecords m (made_by after.heap m) (mutator_of after m)
apart_same m s after moves within in_heap =
    rw (moved-same s after m moves.records moves.mutator moves.is within, records-same s after m moves.records moves.mutator moves.is in_heap) moves.own

apart_other : (m j : ℕ) (s after : Plain) → HasSameMutator m s after → OwnsRecords m (made_by s.heap m) (mutator_of s m) → OwnsRecords m (made_by after.heap m) (mutator_of after m)
apart_other m j s after meets own = rw (meets.mutator, meets.records) own

module _ (code : List (List Instr)) (s : Plain) (apart : IsApart code s) where
  apart_as : (m j : ℕ) (after : Plain) → MovesMutator j s after → j < length code → (m ≡ j) ⊎ (m ≡ j → ⊥) → OwnsRecords m (made_by after.heap m) (mutator_of after m)
  apart_as m j after moves has (inl e) =
      subst (λ n. OwnsRecords n (made_by after.heap n) (mutator_of after n)) (sym e)
      (apart_same j s after moves (subst (λ n. j < n) (sym apart.counted) has) (subst (λ n. j < n) (sym apart.as_many) has))
  apart_as m j after moves has (inr other) = apart_other m j s after (moves-other m j s after moves other) (apart.own m)

  -- a move keeps the state apart
  pub moves-apart : (j : ℕ) (after : Plain) → MovesMutator j s after → j < length code → IsApart code after
  moves-apart j after moves has = record {
    counted = ap length moves.is.mutators ∙ length-set s.mutators j moves.mutator ∙ apart.counted;
    as_many = ap length moves.is.heap.records_are ∙ length-set s.heap.records j moves.records ∙ apart.as_many;
    own = λ m. apart_as m j after moves has (cases_eq m j);
  }

  -- what mutator m is after its move
  pub moves-mutator : (m : ℕ) (after : Plain) (moves : MovesMutator m s after) → m < length code → mutator_of after m ≡ moves.mutator
  moves-mutator m after moves has = moved-same s after m moves.records moves.mutator moves.is (subst (λ n. m < n) (sym apart.counted) has)

  unmoved : (m : ℕ) → IsMoved s m (made_by s.heap m) (mutator_of s m) s
  unmoved m = record { heap = unchanged s.heap m; mutators = sym (set-get_or s.mutators m fresh) }

  -- nothing changes
  pub stays-moves : (m : ℕ) (after : Plain) → after ≡ s → MovesMutator m s after
  stays-moves m after e = record { records = made_by s.heap m; mutator = mutator_of s m; is = subst (IsMoved s m (made_by s.heap m) (mutator_of s m)) (sym e) (unmoved m); own = apart.own m; rests = λ ended. refl }

  -- the mutator has the end that it gets
  pub ended-mutator : (m : ℕ) (why : End) → m < length code → mutator_of (ended s m (mutator_of s m) why) m ≡ record (mutator_of s m) { end = Some why }
  ended-mutator m why has = get_or-set_same s.mutators m (record (mutator_of s m) { end = Some why }) fresh (subst (λ n. m < n) (sym apart.counted) has)

  -- the end for want of room
  pub full-moves : (m : ℕ) (why : End) → is_some (mutator_of s m).end ≡ false → MovesMutator m s (ended s m (mutator_of s m) why)
  full-moves m why no_end = record {
    records = made_by s.heap m;
    mutator = record (mutator_of s m) { end = Some why };
    is = record { heap = unchanged s.heap m; mutators = refl };
    own = record { registers = (apart.own m).registers; words = (apart.own m).words };
    rests = λ ended. cc;
  }

-- ---- the opening

module _ (code : List (List Instr)) where
  abbrev begun : Plain
  begun = record { heap = record { records = replicate (length code) []; board = replicate BOARD_WORDS (Number 0); snaps = 0; snapped = none_snapped }; mutators = replicate (length code) fresh }

  begun-own : (m : ℕ) → OwnsRecords m (made_by begun.heap m) (mutator_of begun m)
  begun-own m =
      let registers : All (LeadsToOwn m) fresh.registers = All-replicate (LeadsToOwn m) 8 (Number 0) tt in
      record {
        registers = read_all (λ k. All (LeadsToOwn m) k.registers) (replicate (length code) fresh) m fresh (All-replicate (λ k. All (LeadsToOwn m) k.registers) (length code) fresh registers) registers;
        words = read_all (λ records. All (AllOf m) records) (replicate (length code) []) m [] (All-replicate (λ records. All (AllOf m) records) (length code) [] (All-nil (AllOf m))) (All-nil (AllOf m));
      }

  pub opening-apart : IsApart code (opening code)
  opening-apart = rw (opening-replicate code) (record {
    counted = length-replicate (length code) fresh;
    as_many = length-replicate (length code) [];
    own = begun-own;
  })

  -- no mutator has executed an instruction
  pub opening-begun : (m : ℕ) → (mutator_of (opening code) m).executed ≡ 0
  opening-begun m = ap (λ s. (mutator_of s m).executed) (opening-replicate code)
      ∙ read_all (λ k. k.executed ≡ 0) (replicate (length code) fresh) m fresh (All-replicate (λ k. k.executed ≡ 0) (length code) fresh refl) refl
