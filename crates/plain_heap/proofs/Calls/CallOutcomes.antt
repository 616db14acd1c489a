-- What holds of the outcome of two steps.
use Rattle.std.proofs.Common.{◌≡◌, ℕ, Bool, true, false, cond, Result, Ok, Err, refl, subst}
use Rattle.std.specs.Prelude.{⊤}
use Rattle.std.specs.Result.{IfOk}
use Rattle.plain_state.specs.declared.end.End.{End}
use Rattle.plain_state.specs.declared.value.Identity.{Identity}
use Rattle.plain_state.specs.declared.value.Value.{Value}
use Rattle.plain_state.specs.declared.value.Value.TheVariants.{Number}
use Rattle.plain_state.specs.State.{Heap, Mutator, record_of}
use Rattle.plain_heap.specs.declared.action.Action.TheVariants.{Compares}
use Rattle.plain_heap.specs.Action.{◌>>=◌, are_same}
use Rattle.plain_heap.specs.Call.{After, value_in, store_in, loads, performed}

-- whatever the first answers
pub if_ok-bind : {A B : Type 0} (P : B → Type 0) (o : Result A End) (f : A → Result B End) → ((a : A) → IfOk (f a) P) → IfOk (o >>= f) P
if_ok-bind P (Ok a) f next = next a
if_ok-bind P (Err why) f next = tt

-- a fact of what the first answers leads on to the second
pub if_ok-then : {A B : Type 0} (Q : A → Type 0) (P : B → Type 0) (o : Result A End) (f : A → Result B End) → IfOk o Q → ((a : A) → Q a → IfOk (f a) P) → IfOk (o >>= f) P
if_ok-then Q P (Ok a) f is next = next a is
if_ok-then Q P (Err why) f is next = tt

-- what is computed is a number, or an end
pub computed : (o : Result ℕ End) → IfOk o (λ n. ⊤)
computed (Ok n) = tt
computed (Err why) = tt

-- a result has one value
pub ok_same : {A : Type 0} (o : Result A End) (a b : A) → o ≡ Ok a → o ≡ Ok b → a ≡ b
ok_same o a b is_a is_b = cc

-- what holds of a value holds of the one that there is
pub if_ok-is : {A : Type 0} (P : A → Type 0) (o : Result A End) (a : A) → IfOk o P → o ≡ Ok a → P a
if_ok-is P (Ok b) a holds is = subst P (ok_same _ b a refl is) holds
if_ok-is P (Err why) a holds is = cc

-- of an exchange: what holds if it leaves the heap, and if it stores
module _ (m : ℕ) (heap : Heap) (k : Mutator) (d : ℕ) (i : Identity) (x : ℕ) (expected new : Value) (P : After → Type 0) (kept : P (loads heap k d (Number 0)))
    (stored : IfOk (store_in heap i (record_of heap i) x new >>= (λ h. Ok (loads h k d (Number 1)))) P) where
  by_word : (same : Bool) → IfOk (store_in heap i (record_of heap i) x new >>= (λ h. Ok (cond same (loads h k d (Number 1)) (loads heap k d (Number 0))))) P
  by_word true = stored
  by_word false = if_ok-bind P (store_in heap i (record_of heap i) x new) _ (λ h. kept)

  pub performed_exchange : IfOk (performed m heap k (Compares d i x expected new)) P
  performed_exchange = if_ok-bind P (value_in heap i x) _ (λ found. by_word (are_same found expected))
