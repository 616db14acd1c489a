-- What a mutator holds that shares nothing: numbers, and references to records of its own.
use Rattle.std.proofs.Common.{◌≡◌, ℕ, zero, suc, ◌-◌, ◌<◌, ◌≤◌, ◌⊎◌, inl, inr, List, [], ◌∷◌, ◌++◌, length, Option, Some, None, Result, Ok, Err, slice_get, slice_set, slice_index_or, get_or, refl, sym, subst}
use Rattle.std.specs.Bool.{⊤}
use Rattle.std.specs.Option.{option_map_or}
use Rattle.std.specs.List.{All}
use Rattle.std.proofs.lemmas.Bool.{cases_lt}
use Rattle.std.proofs.lemmas.List.{get_or_past}
use Rattle.std.proofs.lemmas.List.Elements.{All-get_or, All-nil, All-set, All-push, All-replicate}
use Rattle.std.proofs.lemmas.Option.{slice_get_within, get_or_from_slice_get}
use Rattle.plain_state.specs.declared.end.End.{End}
use Rattle.plain_state.specs.declared.kind.Kind.{Kind}
use Rattle.plain_state.specs.declared.kind.Kind.TheVariants.{Weak}
use Rattle.plain_state.specs.declared.value.Value.{Value}
use Rattle.plain_state.specs.declared.value.Value.TheVariants.{Number, Reference}
use Rattle.plain_state.specs.State.{Record, Heap, Mutator, made_by, at_serial}
use Rattle.plain_state.specs.Writing.{with_value}
use Rattle.plain_heap.specs.Action.{◌>>=◌, register, in_record}
use Rattle.plain_heap.specs.Call.{values_of, value_in, may_hold, filled, jumped, set_register}
use Rattle.plain_heap.proofs.Calls.Named.{FillsKind}
use Rattle.plain_heap.proofs.Calls.RecordsAfterCalls.{held_same}

-- a number, or a reference to a record of mutator m
abbrev pub LeadsToOwn : ℕ → Value → Type 0
LeadsToOwn m (Number n) = ⊤
LeadsToOwn m (Reference i) = i.mutator ≡ m

abbrev pub AllOf : ℕ → Record → Type 0
AllOf m r = All (LeadsToOwn m) r.values

-- mutator m, which is k, and its records lead to no record of another
pub record OwnsRecords (m : ℕ) (records : List Record) (k : Mutator) : Type 0 where
  pub registers : All (LeadsToOwn m) k.registers
  pub words : All (AllOf m) records

-- ---- what is read

read_as : {A : Type 0} (P : A → Type 0) (xs : List A) (i : ℕ) (d : A) → All P xs → P d → (i < length xs) ⊎ (length xs ≤ i) → P (get_or xs i d)
read_as P xs i d all none (inl within) = All-get_or P xs i d within all
read_as P xs i d all none (inr past) = rw (get_or_past xs i d past) none

-- what holds of each element and of the default holds of each place
pub read_all : {A : Type 0} (P : A → Type 0) (xs : List A) (i : ℕ) (d : A) → All P xs → P d → P (get_or xs i d)
read_all P xs i d all none = read_as P xs i d all none (cases_lt i (length xs))

pub found_all : {A : Type 0} (P : A → Type 0) (xs : List A) (i : ℕ) (x : A) → All P xs → slice_get xs i ≡ Some x → P x
found_all P xs i x all is = subst P (get_or_from_slice_get xs i x x is) (All-get_or P xs i x (slice_get_within xs i x is) all)

pub register-own : (m : ℕ) (k : Mutator) (r : ℕ) → All (LeadsToOwn m) k.registers → LeadsToOwn m (register k r)
register-own m k r all = read_all (LeadsToOwn m) k.registers r (Number 0) all tt

-- what holds of each record holds of one found by its serial
pub found_serial : (P : Record → Type 0) (records : List Record) (n : ℕ) (r : Record) → All P records → at_serial records n ≡ Some r → P r
found_serial P records zero r all is = cc
found_serial P records (suc n) r all is = found_all P records n r all is

values_as : (m : ℕ) (records : List Record) (n : ℕ) (o : Option Record) → All (AllOf m) records → at_serial records n ≡ o → All (LeadsToOwn m) (option_map_or (λ r. r.values) o [])
values_as m records n None all is = All-nil (LeadsToOwn m)
values_as m records n (Some r) all is = found_serial (AllOf m) records n r all is

word_as : (m : ℕ) (values : List Value) (o : Result ℕ End) (v : Value) → All (LeadsToOwn m) values → (o >>= (λ y. Ok (slice_index_or values y (Number 0)))) ≡ Ok v → LeadsToOwn m v
word_as m values (Ok y) v all is = let e : slice_index_or values y (Number 0) ≡ v = cc in subst (LeadsToOwn m) e (read_all (LeadsToOwn m) values y (Number 0) all tt)
word_as m values (Err why) v all is = cc

-- a word that is read of the record of mutator m with a serial
pub word-own : (m : ℕ) (heap : Heap) (n x : ℕ) (v : Value) → All (AllOf m) (made_by heap m) → value_in heap (record { mutator = m; serial = n }) x ≡ Ok v → LeadsToOwn m v
word-own m heap n x v all is =
    let values = values_of heap (record { mutator = m; serial = n }) in
    word_as m values (in_record (length values) x) v (values_as m (made_by heap m) n (at_serial (made_by heap m) n) all refl) is

-- ---- what is written

pub held-own : (m : ℕ) (kind : Kind) (x : ℕ) (u v : Value) → LeadsToOwn m u → may_hold kind x u ≡ Ok v → LeadsToOwn m v
held-own m kind x u v own is = subst (LeadsToOwn m) (held_same kind x u v is) own

-- register d takes a value, and the mutator goes on
pub loads-own : (m : ℕ) (records : List Record) (k : Mutator) (d target : ℕ) (v : Value) → OwnsRecords m records k → LeadsToOwn m v → OwnsRecords m records (jumped (set_register k d v) target)
loads-own m records k d target v own is = record { registers = All-set (LeadsToOwn m) k.registers d v is own.registers; words = own.words }

pub jumps-own : (m : ℕ) (records : List Record) (k : Mutator) (target : ℕ) → OwnsRecords m records k → OwnsRecords m records (jumped k target)
jumps-own m records k target own = record { registers = own.registers; words = own.words }

-- a word of the record with a serial takes a value
pub stores-own : (m : ℕ) (records : List Record) (n : ℕ) (r : Record) (x : ℕ) (v : Value) → All (AllOf m) records → at_serial records n ≡ Some r → LeadsToOwn m v
    → All (AllOf m) (slice_set records (n - 1) (with_value r x v))
stores-own m records n r x v all found is =
    All-set (AllOf m) records (n - 1) (with_value r x v) (All-set (LeadsToOwn m) r.values x v is (found_serial (AllOf m) records n r all found)) all

-- so is what fills a new record
pub fills-own : (m : ℕ) (kind : Kind) (v : Value) → FillsKind (LeadsToOwn m) kind v → LeadsToOwn m v
fills-own m Weak v fills = fills
fills-own m _ v fills = subst (LeadsToOwn m) (sym fills) tt

pub gains-own : (m : ℕ) (records : List Record) (kind : Kind) (n : ℕ) (v : Value) → All (AllOf m) records → LeadsToOwn m v → All (AllOf m) (records ++ filled kind n v ∷ [])
gains-own m records kind n v all is = All-push (AllOf m) records (filled kind n v) all (All-replicate (LeadsToOwn m) n v is)
