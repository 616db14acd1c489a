-- Two states in which mutator m is the same, which shares nothing: a step of it, and one of another in one of the states.
use Rattle.std.proofs.Common.{◌≡◌, ◌≢◌, ℕ, zero, suc, ◌<◌, ◌⊎◌, inl, inr, true, false, List, [], length, replicate, Some, Result, Ok, Err, slice_get, slice_set, get_or, refl, ap, sym, ◌∙◌, subst, length-set, ⊎_elim}
use Rattle.std.specs.List.{All}
use Rattle.std.specs.Result.{IfOk}
use Rattle.std.proofs.lemmas.Bool.{cases_eq}
use Rattle.std.proofs.lemmas.List.{length-replicate, get_or-set_same, get_or-set_other}
use Rattle.std.proofs.lemmas.List.Elements.{All-nil, All-replicate}
use Rattle.std.proofs.lemmas.Option.{slice_get_within}
use Rattle.plain_state.specs.declared.end.End.{End}
use Rattle.plain_state.specs.declared.value.Value.{Value}
use Rattle.plain_state.specs.declared.value.Identity.{Identity}
use Rattle.plain_state.specs.declared.value.Value.TheVariants.{Number}
use Rattle.plain_state.specs.Cells.{is_cell}
use Rattle.plain_state.specs.State.{Heap, Record, Mutator, Plain, at_serial, made_by, none_snapped, record_of}
use Rattle.plain_state.specs.Writing.{stored}
use Rattle.plain_state.proofs.Elements.{set-found, slice_get-replicate, slice_get-set_other, slice_get-set_same}
use Rattle.mutator_asm.specs.declared.instr.Instr.{Instr}
use Rattle.plain_heap.specs.Alone.{leaves_board}
use Rattle.plain_heap.specs.Call.{After, call}
use Rattle.plain_heap.specs.Step.{ended, settled}
use Rattle.plain_heap.proofs.Alone.Alike.{GoAlike, HasRecords, Same, call-alike, unchanged}
use Rattle.plain_heap.proofs.Alone.Apart.{IsMoved}
use Rattle.plain_heap.proofs.Alone.Owned.{AllOf, LeadsToOwn, OwnsRecords, read_all}
use Rattle.plain_heap.proofs.Calls.MadeCells.{no_cells_come}
use Rattle.plain_heap.proofs.Reaching.Emptying.{NoCells, all-keep}
use Rattle.plain_heap.proofs.Alone.MarksAlone.{leaves-no_weak}
use Rattle.gc_worker.specs.Plain.Answer.{with_emptied}
use Rattle.gc_worker.proofs.Plain.CellTargets.Emptied.{same_makers}
use Rattle.ael_threads.proofs.Alone.Sparing.{AllElse, IsElse, IsSpared, Spares, call-spares, emptied-spares}

-- Mutator m of state p is that of state u, with the same records; it is led to these alone, and nobody else in p is led to one of them.
-- In u nobody has a cell.
pub record Matches (m : ℕ) (p u : Plain) : Type 0 where
  pub mutator : slice_get u.mutators m ≡ slice_get p.mutators m
  pub records : made_by u.heap m ≡ made_by p.heap m
  pub as_many : length p.heap.records ≡ length p.mutators
  pub as_many_there : length u.heap.records ≡ length u.mutators
  pub words : All (AllOf m) (made_by p.heap m)
  pub registers : (k : Mutator) → slice_get p.mutators m ≡ Some k → All (LeadsToOwn m) k.registers
  pub spared : IsSpared m p.heap
  pub others : (j : ℕ) (k : Mutator) → j ≢ m → slice_get p.mutators j ≡ Some k → All (IsElse m) k.registers
  pub none : NoCells u.heap

-- ---- a step of another

module _ (m j : ℕ) (other : j ≢ m) (p u : Plain) (same : Matches m p u) (k : Mutator) (is : slice_get p.mutators j ≡ Some k) where
  becomes : (after : After) → Spares m p.heap after → Matches m (record { heap = after.heap; mutators = slice_set p.mutators j after.mutator }) u
  becomes after spares =
      let stays : slice_get (slice_set p.mutators j after.mutator) m ≡ slice_get p.mutators m = slice_get-set_other p.mutators j m after.mutator (λ e. other (sym e)) in
      record {
        mutator = same.mutator ∙ sym stays;
        records = same.records ∙ sym spares.same;
        as_many = spares.as_many ∙ same.as_many ∙ sym (length-set p.mutators j after.mutator);
        as_many_there = same.as_many_there;
        words = subst (All (AllOf m)) (sym spares.same) same.words;
        registers = λ n at. same.registers n (sym stays ∙ at);
        spared = spares.spared;
        others = λ i n else at. by_number i n else at (cases_eq i j);
        none = same.none;
      }
    where
      by_number : (i : ℕ) (n : Mutator) → i ≢ m → slice_get (slice_set p.mutators j after.mutator) i ≡ Some n → (i ≡ j) ⊎ (i ≡ j → ⊥) → All (IsElse m) n.registers
      by_number i n else at (inl e) =
          subst (λ (k : Mutator). All (IsElse m) k.registers) (set-found p.mutators j i after.mutator n e (slice_get_within p.mutators j k is) at) spares.registers
      by_number i n else at (inr elsewhere) = same.others i n else (sym (slice_get-set_other p.mutators j i after.mutator elsewhere) ∙ at)

  -- it has its end
  pub other-ends : (why : End) → Matches m (ended p j k why) u
  other-ends why = becomes (record { heap = p.heap; mutator = record k { end = Some why } })
      (record { same = refl; as_many = refl; spared = same.spared; registers = same.others j k other is })

  settles : (o : Result After End) → IfOk o (Spares m p.heap) → Matches m (settled p j k o) u
  settles (Ok after) spares = becomes after spares
  settles (Err why) spares = other-ends why

  -- it executes an instruction
  pub other-calls : (instr : Instr) → Matches m (settled p j k (call j p.heap k instr)) u
  other-calls instr = settles (call j p.heap k instr) (call-spares m j other p.heap k same.spared (same.others j k other is) instr)

-- ---- cells that are emptied

-- mutator m has none
module _ (m : ℕ) (p u : Plain) (same : Matches m p u) where
  record Stays (heap : Heap) : Type 0 where
    made : made_by heap m ≡ made_by p.heap m
    spared : IsSpared m heap

  stays : (heap : Heap) (i : Identity) (r : Record) → record_of heap i ≡ Some r → is_cell r.kind ≡ true → Stays heap → Stays (stored heap i r 0 (Number 0))
  stays heap i r found cell so = ⊎_elim
      (λ (own : i.mutator ≡ m).
      let records : made_by u.heap i.mutator ≡ made_by heap i.mutator = ap (made_by u.heap) own ∙ (same.records ∙ (sym so.made ∙ ap (made_by heap) (sym own))) in
      let there : record_of u.heap i ≡ Some r = ap (λ (rs : List Record). at_serial rs i.serial) records ∙ found in
      absurd (let never : true ≡ false = sym cell ∙ same.none i r there in cc))
      (λ (other : i.mutator ≢ m). let spares = emptied-spares m heap i r other found so.spared in record { made = spares.same ∙ so.made; spared = spares.spared })
      (cases_eq i.mutator m)

  pub emptied-matches : (cells : List Identity) → Matches m (with_emptied p cells) u
  emptied-matches cells =
      let so = all-keep Stays stays cells p.heap (record { made = refl; spared = same.spared }) in record {
        mutator = same.mutator;
        records = same.records ∙ sym so.made;
        as_many = same_makers p cells ∙ same.as_many;
        as_many_there = same.as_many_there;
        words = subst (All (AllOf m)) (sym so.made) same.words;
        registers = same.registers;
        spared = so.spared;
        others = same.others;
        none = same.none;
      }

-- ---- a step of mutator m

module _ (m : ℕ) (p u : Plain) (same : Matches m p u) (k : Mutator) (is : slice_get p.mutators m ≡ Some k) where
  pub is_there : slice_get u.mutators m ≡ Some k
  is_there = same.mutator ∙ is

  own : OwnsRecords m (made_by p.heap m) k
  own = record { registers = same.registers k is; words = same.words }

  -- in both states it becomes this, with these records
  comes : (p_after u_after : Plain) (records : List Record) (next : Mutator) → IsMoved p m records next p_after → IsMoved u m records next u_after → OwnsRecords m records next → NoCells u_after.heap
      → Matches m p_after u_after
  comes p_after u_after records next e f its none =
      let within : m < length p.mutators = slice_get_within p.mutators m k is in
      let within_there : m < length u.mutators = slice_get_within u.mutators m k is_there in
      let made : made_by p_after.heap m ≡ records =
      ap (λ rs. get_or rs m []) e.heap.records_are ∙ get_or-set_same p.heap.records m records [] (subst (λ n. m < n) (sym same.as_many) within) in
      let made_there : made_by u_after.heap m ≡ records =
      ap (λ rs. get_or rs m []) f.heap.records_are ∙ get_or-set_same u.heap.records m records [] (subst (λ n. m < n) (sym same.as_many_there) within_there) in
      let at_place = λ (j : ℕ). ap (λ ks. slice_get ks j) e.mutators in
      record {
        mutator = ap (λ ks. slice_get ks m) f.mutators ∙ slice_get-set_same u.mutators m next within_there ∙ sym (at_place m ∙ slice_get-set_same p.mutators m next within);
        records = made_there ∙ sym made;
        as_many = ap length e.heap.records_are ∙ length-set p.heap.records m records ∙ same.as_many ∙ sym (ap length e.mutators ∙ length-set p.mutators m next);
        as_many_there = ap length f.heap.records_are ∙ length-set u.heap.records m records ∙ same.as_many_there ∙ sym (ap length f.mutators ∙ length-set u.mutators m next);
        words = subst (All (AllOf m)) (sym made) its.words;
        registers = λ n at. subst (λ (k : Mutator). All (LeadsToOwn m) k.registers) (set-found p.mutators m m next n refl within (sym (at_place m) ∙ at)) its.registers;
        spared = record {
          board = subst (All (IsElse m)) (sym e.heap.board) same.spared.board;
          records = λ j else. subst (All (AllElse m)) (sym (ap (λ rs. get_or rs j []) e.heap.records_are ∙ get_or-set_other p.heap.records m j records [] else)) (same.spared.records j else);
        };
        others = λ j n else at. same.others j n else (sym (at_place j ∙ slice_get-set_other p.mutators m j next else) ∙ at);
        none = none;
      }

  -- it has its end
  pub own-ends : (why : End) → Matches m (ended p m k why) (ended u m k why)
  own-ends why = comes (ended p m k why) (ended u m k why) (made_by p.heap m) (record k { end = Some why })
      (record { heap = unchanged p.heap m; mutators = refl })
      (record { heap = subst (λ records. HasRecords u.heap m records u.heap) same.records (unchanged u.heap m); mutators = refl })
      (record { registers = own.registers; words = own.words })
      same.none

  both_settle : (o v : Result After End) → Same (GoAlike m p.heap u.heap) o v → ((after : After) → v ≡ Ok after → NoCells after.heap) → Matches m (settled p m k o) (settled u m k v)
  both_settle (Ok a) (Ok b) alike none = comes (settled p m k (Ok a)) (settled u m k (Ok b)) alike.records a.mutator
      (record { heap = alike.heap_is; mutators = refl })
      (record { heap = alike.other_is; mutators = ap (slice_set u.mutators m) alike.mutator_is })
      alike.own
      (none b refl)
  both_settle (Ok a) (Err why) alike none = absurd alike
  both_settle (Err why) (Ok b) alike none = absurd alike
  both_settle (Err why) (Err other) alike none = rw (← alike) (own-ends why)

  module _ (instr : Instr) (leaves : leaves_board instr ≡ true) where
    -- both heaps answer the same
    pub answers-alike : Same (GoAlike m p.heap u.heap) (call m p.heap k instr) (call m u.heap k instr)
    answers-alike = call-alike m p.heap u.heap k same.records own instr leaves

    -- it executes an instruction
    pub own-calls : Matches m (settled p m k (call m p.heap k instr)) (settled u m k (call m u.heap k instr))
    own-calls = both_settle (call m p.heap k instr) (call m u.heap k instr) answers-alike (λ after is. no_cells_come m u.heap k instr after (leaves-no_weak instr leaves) same.none is)

-- ---- the opening

module _ (m n : ℕ) (board : List Value) (k : Mutator) (of : All (LeadsToOwn m) k.registers) (else : All (IsElse m) k.registers) (none : All (IsElse m) board) where
  -- nobody has a record, and all mutators are this
  abbrev begun : Plain
  begun = record { heap = record { records = replicate n []; board = board; snaps = 0; snapped = none_snapped }; mutators = replicate n k }

  no_record : (serial : ℕ) (r : Record) → at_serial [] serial ≡ Some r → ⊥
  no_record zero r found = cc
  no_record (suc n) r found = cc

  no_cell : NoCells begun.heap
  no_cell i r found =
      let empty : List Record = [] in
      let made : made_by begun.heap i.mutator ≡ [] = read_all (λ (rs : List Record). rs ≡ []) (replicate n []) i.mutator [] (All-replicate (λ (rs : List Record). rs ≡ []) n empty refl) refl in
      absurd (no_record i.serial r (sym (ap (λ (rs : List Record). at_serial rs i.serial) made) ∙ found))

  pub begins : Matches m begun begun
  begins = record {
    mutator = refl;
    records = refl;
    as_many = length-replicate n [] ∙ sym (length-replicate n k);
    as_many_there = length-replicate n [] ∙ sym (length-replicate n k);
    words = read_all (All (AllOf m)) (replicate n []) m [] (All-replicate (All (AllOf m)) n [] (All-nil (AllOf m))) (All-nil (AllOf m));
    registers = λ q at. subst (λ (q : Mutator). All (LeadsToOwn m) q.registers) (sym (slice_get-replicate n m k q at)) of;
    spared = record {
      board = none;
      records = λ j apart. read_all (All (AllElse m)) (replicate n []) j [] (All-replicate (All (AllElse m)) n [] (All-nil (AllElse m))) (All-nil (AllElse m));
    };
    others = λ j q apart at. subst (λ (q : Mutator). All (IsElse m) q.registers) (sym (slice_get-replicate n j k q at)) else;
    none = no_cell;
  }
