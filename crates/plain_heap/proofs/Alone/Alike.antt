-- An instruction that leaves the board alone does the same on any two heaps in which its mutator has
-- the same records, and leads it to no record of another.
use Rattle.std.proofs.Common.{◌≡◌, ℕ, ◌+◌, ◌-◌, Bool, true, false, cond, List, [], ◌∷◌, ◌++◌, length, Option, Some, None, Result, Ok, Err, slice_set, refl, sym, subst}
use Rattle.std.specs.Result.{IfOk}
use Rattle.std.proofs.lemmas.List.{set-get_or}
use Rattle.plain_state.specs.declared.end.End.{End}
use Rattle.plain_state.specs.declared.kind.Kind.{Kind}
use Rattle.plain_state.specs.declared.value.Identity.{Identity}
use Rattle.plain_state.specs.declared.value.Value.{Value}
use Rattle.plain_state.specs.declared.value.Value.TheVariants.{Number, Reference}
use Rattle.plain_state.specs.Operation.{applied}
use Rattle.plain_state.specs.State.{Record, Heap, Mutator, made_by, record_of, serial_of}
use Rattle.plain_state.specs.Writing.{with_value, with_records, stored, took}
use Rattle.mutator_asm.specs.declared.instr.Instr.{Instr}
use Rattle.plain_heap.specs.declared.action.Action.{Action}
use Rattle.plain_heap.specs.declared.action.Action.TheVariants.{Sets, Jumps, Links, Prints, Makes, Measures, Loads, Stores, Compares, Snaps}
use Rattle.plain_heap.specs.Action.{◌>>=◌, are_same, next_of, action}
use Rattle.plain_heap.specs.Call.{After, value_in, values_of, may_hold, store_in, filled, jumped, went_on, set_register, loads, allocated, performed, call}
use Rattle.plain_heap.specs.Alone.{leaves_board}
use Rattle.plain_heap.proofs.Calls.Named.{Names, named, spells_numbers}
use Rattle.plain_heap.proofs.Alone.Owned.{LeadsToOwn, OwnsRecords, register-own, word-own, held-own, loads-own, jumps-own, stores-own, fills-own, gains-own}
use Rattle.plain_heap.proofs.Calls.CallOutcomes.{computed}

-- two outcomes with the same end, or both with none
abbrev pub Same : (After → After → Type 0) → Result After End → Result After End → Type 0
Same R (Ok a) (Ok b) = R a b
Same R (Ok a) (Err why) = ⊥
Same R (Err why) (Ok b) = ⊥
Same R (Err why) (Err other) = why ≡ other

pub same-bind : {A : Type 0} (R : After → After → Type 0) (o : Result A End) (f g : A → Result After End) → ((a : A) → o ≡ Ok a → Same R (f a) (g a)) → Same R (o >>= f) (o >>= g)
same-bind R (Ok a) f g next = next a refl
same-bind R (Err why) f g next = refl

-- the heap after has these records of mutator m, and those of others and the board as before
pub record HasRecords (heap : Heap) (m : ℕ) (records : List Record) (after : Heap) : Type 0 where
  pub records_are : after.records ≡ slice_set heap.records m records
  pub board : after.board ≡ heap.board

-- both heaps take these records of mutator m, and both times it becomes the same
pub record GoAlike (m : ℕ) (heap other : Heap) (a b : After) : Type 0 where
  pub records : List Record
  pub heap_is : HasRecords heap m records a.heap
  pub other_is : HasRecords other m records b.heap
  pub mutator_is : b.mutator ≡ a.mutator
  pub own : OwnsRecords m records a.mutator

-- a heap has the records that it has
pub unchanged : (heap : Heap) (m : ℕ) → HasRecords heap m (made_by heap m) heap
unchanged heap m = record { records_are = sym (set-get_or heap.records m []); board = refl }

-- with other records of mutator m
pub has_records : (heap : Heap) (m : ℕ) (records : List Record) → HasRecords heap m records (with_records heap m records)
has_records heap m records = record { records_are = refl; board = refl }

module _ (m : ℕ) (heap other : Heap) (k : Mutator) (same : made_by other m ≡ made_by heap m) (own : OwnsRecords m (made_by heap m) k) where
  abbrev IsAlike : Result After End → Result After End → Type 0
  IsAlike = Same (GoAlike m heap other)

  -- neither heap changes
  stays : (k' : Mutator) → OwnsRecords m (made_by heap m) k' → GoAlike m heap other (record { heap = heap; mutator = k' }) (record { heap = other; mutator = k' })
  stays k' own' = record {
    records = made_by heap m;
    heap_is = unchanged heap m;
    other_is = subst (λ records. HasRecords other m records other) same (unchanged other m);
    mutator_is = refl;
    own = own';
  }

  -- both heaps begin a checkpoint
  snaps-alike : GoAlike m heap other (record { heap = took heap; mutator = went_on k }) (record { heap = took other; mutator = went_on k })
  snaps-alike =
      let same = stays (went_on k) (jumps-own m (made_by heap m) k (next_of k) own) in
      record {
        records = same.records;
        heap_is = record { records_are = same.heap_is.records_are; board = refl };
        other_is = record { records_are = same.other_is.records_are; board = refl };
        mutator_is = refl;
        own = same.own;
      }

  loads-alike : (d : ℕ) (v : Value) → LeadsToOwn m v → GoAlike m heap other (loads heap k d v) (loads other k d v)
  loads-alike d v is = stays (went_on (set_register k d v)) (loads-own m (made_by heap m) k d (next_of k) v own is)

  allocated-alike : (kind : Kind) (d n : ℕ) (v : Value) → LeadsToOwn m v → GoAlike m heap other (allocated m heap k kind d n v) (allocated m other k kind d n v)
  allocated-alike kind d n v is = rw same (record {
    records = made_by heap m ++ filled kind n v ∷ [];
    heap_is = has_records heap m _;
    other_is = has_records other m _;
    mutator_is = refl;
    own = loads-own m _ k d (next_of k) (Reference (record { mutator = m; serial = serial_of heap m + 1 }))
        (record { registers = own.registers; words = gains-own m (made_by heap m) kind n v own.words is }) refl;
  })

  abbrev own_record : ℕ → Identity
  own_record n = record { mutator = m; serial = n }

  word-same : (n x : ℕ) → value_in other (own_record n) x ≡ value_in heap (own_record n) x
  word-same n x = rw same refl

  -- a word of a record of the mutator
  word-alike : (n x : ℕ) (f g : Value → Result After End) → ((v : Value) → LeadsToOwn m v → IsAlike (f v) (g v))
      → IsAlike (value_in heap (own_record n) x >>= f) (value_in other (own_record n) x >>= g)
  word-alike n x f g next =
      subst (λ o. IsAlike (value_in heap (own_record n) x >>= f) (o >>= g)) (sym (word-same n x))
      (same-bind (GoAlike m heap other) (value_in heap (own_record n) x) f g (λ v is. next v (word-own m heap n x v own.words is)))

  -- the records of the mutator after a store in one
  abbrev StoredAlike : (f g : Heap → After) → Type 0
  StoredAlike f g = (n : ℕ) (r : Record) (x : ℕ) (v : Value) → record_of heap (own_record n) ≡ Some r → LeadsToOwn m v → GoAlike m heap other (f (stored heap (own_record n) r x v)) (g (stored other (own_record n) r x v))

  stored-alike : (l : Mutator) → OwnsRecords m (made_by heap m) l → StoredAlike (λ h. record { heap = h; mutator = l }) (λ h. record { heap = h; mutator = l })
  stored-alike l own_l n r x v found is = rw same (record {
    records = slice_set (made_by heap m) (n - 1) (with_value r x v);
    heap_is = has_records heap m _;
    other_is = has_records other m _;
    mutator_is = refl;
    own = record { registers = own_l.registers; words = stores-own m (made_by heap m) n r x v own.words found is };
  })

  record-same : (n : ℕ) → record_of other (own_record n) ≡ record_of heap (own_record n)
  record-same n = rw same refl

  -- what follows the store goes alike
  module _ (f g : Heap → After) (goes : StoredAlike f g) where
    held-alike : (n : ℕ) (r : Record) (x : ℕ) (u : Value) (o : Result Value End) → record_of heap (own_record n) ≡ Some r → LeadsToOwn m u → may_hold r.kind x u ≡ o
        → IsAlike ((o >>= (λ v. Ok (stored heap (own_record n) r x v))) >>= (λ h. Ok (f h))) ((o >>= (λ v. Ok (stored other (own_record n) r x v))) >>= (λ h. Ok (g h)))
    held-alike n r x u (Ok v) found is held = goes n r x v found (held-own m r.kind x u v is held)
    held-alike n r x u (Err why) found is held = refl

    store_as : (n : ℕ) (o : Option Record) (x : ℕ) (u : Value) → record_of heap (own_record n) ≡ o → LeadsToOwn m u
        → IsAlike (store_in heap (own_record n) o x u >>= (λ h. Ok (f h))) (store_in other (own_record n) o x u >>= (λ h. Ok (g h)))
    store_as n None x u found is = refl
    store_as n (Some r) x u found is = held-alike n r x u (may_hold r.kind x u) found is refl

    store-alike : (n x : ℕ) (v : Value) → LeadsToOwn m v
        → IsAlike (store_in heap (own_record n) (record_of heap (own_record n)) x v >>= (λ h. Ok (f h))) (store_in other (own_record n) (record_of other (own_record n)) x v >>= (λ h. Ok (g h)))
    store-alike n x v is =
        subst (λ o. IsAlike (store_in heap (own_record n) (record_of heap (own_record n)) x v >>= (λ h. Ok (f h))) (store_in other (own_record n) o x v >>= (λ h. Ok (g h))))
        (sym (record-same n)) (store_as n (record_of heap (own_record n)) x v refl is)

  stores-alike : (n x : ℕ) (v : Value) (l : Mutator) → LeadsToOwn m v → OwnsRecords m (made_by heap m) l
      → IsAlike (store_in heap (own_record n) (record_of heap (own_record n)) x v >>= (λ h. Ok (record { heap = h; mutator = l })))
      (store_in other (own_record n) (record_of other (own_record n)) x v >>= (λ h. Ok (record { heap = h; mutator = l })))
  stores-alike n x v l is own_l = store-alike _ _ (stored-alike l own_l) n x v is

  exchange-alike : (d n x : ℕ) (new : Value) (same_word : Bool) → LeadsToOwn m new
      → IsAlike (store_in heap (own_record n) (record_of heap (own_record n)) x new >>= (λ h. Ok (cond same_word (loads h k d (Number 1)) (loads heap k d (Number 0)))))
      (store_in other (own_record n) (record_of other (own_record n)) x new >>= (λ h. Ok (cond same_word (loads h k d (Number 1)) (loads other k d (Number 0)))))
  exchange-alike d n x new true is = stores-alike n x new (went_on (set_register k d (Number 1))) is (loads-own m (made_by heap m) k d (next_of k) (Number 1) own tt)
  exchange-alike d n x new false is = store-alike _ _ (λ n r x v found is_v. loads-alike d (Number 0) tt) n x new is

  length-same : (n : ℕ) → length (values_of other (own_record n)) ≡ length (values_of heap (own_record n))
  length-same n = rw same refl

  measures-alike : (d n : ℕ) → IsAlike (performed m heap k (Measures d (own_record n))) (performed m other k (Measures d (own_record n)))
  measures-alike d n =
      let len = length (values_of heap (own_record n)) in
      subst (λ t. GoAlike m heap other (loads heap k d (Number len)) (loads other k d (Number t))) (sym (length-same n)) (loads-alike d (Number len) tt)

  -- a record that an action of the mutator names is its own
  owned : (act : Identity → Action) (i : Identity) → i.mutator ≡ m → ((n : ℕ) → IsAlike (performed m heap k (act (own_record n))) (performed m other k (act (own_record n))))
      → IsAlike (performed m heap k (act i)) (performed m other k (act i))
  owned act i is next = subst (λ j. let of : Identity = record { mutator = j; serial = i.serial } in IsAlike (performed m heap k (act of)) (performed m other k (act of))) (sym is) (next i.serial)

  performed-alike : (act : Action) → Names (LeadsToOwn m) ⊥ k act → IsAlike (performed m heap k act) (performed m other k act)
  performed-alike (Sets d v) is = loads-alike d v is
  performed-alike (Jumps target) is = stays (jumped k target) (jumps-own m (made_by heap m) k target own)
  performed-alike (Links d target) is = stays (jumped (set_register k d (Number (next_of k))) target) (loads-own m (made_by heap m) k d target (Number (next_of k)) own tt)
  performed-alike (Prints n) is = stays (went_on (record k { printed = k.printed ++ n ∷ [] })) (record { registers = own.registers; words = own.words })
  performed-alike (Makes kind d n v) is = allocated-alike kind d n v (fills-own m kind v is.1)
  performed-alike (Measures d i) is = owned (Measures d) i is (λ n. measures-alike d n)
  performed-alike (Loads d i x) is = owned (λ i. Loads d i x) i is (λ n. word-alike n x _ _ (λ v is_v. loads-alike d v is_v))
  performed-alike (Stores i x v) is = owned (λ i. Stores i x v) i is.0 (λ n. word-alike n x _ _ (λ old is_old. stores-alike n x v (went_on k) is.1 (jumps-own m (made_by heap m) k (next_of k) own)))
  performed-alike (Compares d i x expected new) is = owned (λ i. Compares d i x expected new) i is.0 (λ n. word-alike n x _ _ (λ found is_found. exchange-alike d n x new (are_same found expected) is.2))
  performed-alike Snaps is = snaps-alike
  performed-alike _ is = absurd is.0

  action-own : (i : Instr) → leaves_board i ≡ true → IfOk (action k i) (Names (LeadsToOwn m) ⊥ k)
  action-own i leaves = named (LeadsToOwn m) ⊥ k (λ r. register-own m k r own.registers) tt (λ b. tt) (λ operation a b is_a is_b. computed (applied operation a b)) i (spells_numbers (LeadsToOwn m) ⊥ (λ n. tt) i leaves)

  acts_as : (o : Result Action End) → IfOk o (Names (LeadsToOwn m) ⊥ k) → IsAlike (o >>= performed m heap k) (o >>= performed m other k)
  acts_as (Ok act) is = performed-alike act is
  acts_as (Err why) is = refl

  pub call-alike : (i : Instr) → leaves_board i ≡ true → IsAlike (call m heap k i) (call m other k i)
  unfolding call
  call-alike i leaves = acts_as (action k i) (action-own i leaves)
