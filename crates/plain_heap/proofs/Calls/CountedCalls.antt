-- An instruction that is executed counts, and takes back no number.
use Rattle.std.proofs.Common.{◌≡◌, ℕ, ◌+◌, List, [], ◌∷◌, ◌++◌, refl, ap, sym, ◌∙◌, append_assoc, append-nil}
use Rattle.std.specs.Result.{IfOk}
use Rattle.plain_state.specs.State.{Heap, Mutator, record_of}
use Rattle.mutator_asm.specs.declared.instr.Instr.{Instr}
use Rattle.plain_heap.specs.declared.action.Action.{Action}
use Rattle.plain_heap.specs.declared.action.Action.TheVariants.{Prints, Loads, Stores, Compares}
use Rattle.plain_heap.specs.Action.{action}
use Rattle.plain_heap.specs.Call.{After, value_in, store_in, performed, call}
use Rattle.plain_heap.proofs.Calls.CallOutcomes.{if_ok-bind, performed_exchange}

-- the second list is the first with more behind it
pub record Grown (xs ys : List ℕ) : Type 0 where
  pub rest : List ℕ
  pub is : ys ≡ xs ++ rest

pub grown-refl : (xs : List ℕ) → Grown xs xs
grown-refl xs = record { rest = []; is = sym (append-nil xs) }

pub grown-trans : (xs ys zs : List ℕ) → Grown xs ys → Grown ys zs → Grown xs zs
grown-trans xs ys zs a b = record { rest = a.rest ++ b.rest; is = b.is ∙ ap (λ l. l ++ b.rest) a.is ∙ append_assoc xs a.rest b.rest }

-- a mutator after an instruction
pub record Went (k l : Mutator) : Type 0 where
  pub printed : Grown k.printed l.printed
  pub executed : l.executed ≡ k.executed + 1
  pub going : l.end ≡ k.end

module _ (m : ℕ) (heap : Heap) (k : Mutator) where
  abbrev WentOn : After → Type 0
  WentOn after = Went k after.mutator

  -- nothing is printed
  quiet : (l : Mutator) → l.printed ≡ k.printed → l.executed ≡ k.executed + 1 → l.end ≡ k.end → Went k l
  quiet l printed executed going = record { printed = record { rest = []; is = printed ∙ sym (append-nil k.printed) }; executed = executed; going = going }

  performed-went : (act : Action) → IfOk (performed m heap k act) WentOn
  performed-went (Prints n) = record { printed = record { rest = n ∷ []; is = refl }; executed = refl; going = refl }
  performed-went (Loads d i x) = if_ok-bind WentOn (value_in heap i x) _ (λ v. quiet _ refl refl refl)
  performed-went (Stores i x v) = if_ok-bind WentOn (value_in heap i x) _ (λ old. if_ok-bind WentOn (store_in heap i (record_of heap i) x v) _ (λ h. quiet _ refl refl refl))
  performed-went (Compares d i x expected new) =
      performed_exchange m heap k d i x expected new WentOn (quiet _ refl refl refl) (if_ok-bind WentOn (store_in heap i (record_of heap i) x new) _ (λ h. quiet _ refl refl refl))
  performed-went _ = quiet _ refl refl refl

  pub call-went : (i : Instr) → IfOk (call m heap k i) WentOn
  unfolding call
  call-went i = if_ok-bind WentOn (action k i) (performed m heap k) performed-went
