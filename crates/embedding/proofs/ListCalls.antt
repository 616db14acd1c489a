-- What calls leave of lists.
use Rattle.std.proofs.Common.{◌≡◌, ℕ, List, Option, Some, Result, Ok, Err, sym, ◌∙◌, ap, arith}
use Rattle.std.specs.Prelude.{IfOk}
use Rattle.std.specs.Result.{result_ok}
use Rattle.plain_state.specs.declared.value.Value.{Value}
use Rattle.plain_state.specs.declared.value.Value.TheVariants.{Number, Reference}
use Rattle.ael_threads.specs.Seats.{Seated}
use Rattle.ael_runtime.specs.Calling.{HadEffects, HadEffectsOnceSeen, OneCall}
use Rattle.ael_runtime.specs.Reading.{record_word, root_register, seen_heap, value_number}
use Rattle.ael_runtime.proofs.RecordCalls.{seen_others}
use Rattle.embedding.specs.declared.lists.TheConstants.{LIST, NUMBER, NUMBER_FIELD, REST, REST_FIELD}
use Rattle.embedding.specs.Lists.{head_in, list_of, rest_of, tail_in}

-- the register of what a runtime's calls look at, which no root has
abbrev scratch : ℕ
scratch = 5

module _ (a b : Seated) (cs : List OneCall) where
  pub list_keeps_rest : HadEffects a cs (root_register LIST) b → rest_of b ≡ rest_of a
  list_keeps_rest l = l.others (root_register REST) (λ e. absurd (omega (arith, e))) (λ e. absurd (omega (arith, e)))

  pub number_keeps_rest : HadEffects a cs (root_register NUMBER) b → rest_of b ≡ rest_of a
  number_keeps_rest l = l.others (root_register REST) (λ e. absurd (omega (arith, e))) (λ e. absurd (omega (arith, e)))

  -- a store in the list's record
  module _ (stores : HadEffectsOnceSeen a (root_register LIST) cs scratch b) where
    pub store_keeps_list : list_of b ≡ list_of a
    store_keeps_list = seen_others a (root_register LIST) cs scratch b stores (root_register LIST) (λ e. absurd (omega (arith, e))) (λ e. absurd (omega (arith, e)))

    pub store_keeps_rest : rest_of b ≡ rest_of a
    store_keeps_rest = seen_others a (root_register LIST) cs scratch b stores (root_register REST) (λ e. absurd (omega (arith, e))) (λ e. absurd (omega (arith, e)))

    -- what is stored is its first number, or what follows it
    pub head_stored : (v : Value) → record_word (seen_heap b) (list_of a) NUMBER_FIELD ≡ v → head_in b (list_of b) ≡ v
    head_stored v is = ap (head_in b) store_keeps_list ∙ is

    pub tail_stored : (v : Value) → record_word (seen_heap b) (list_of a) REST_FIELD ≡ v → tail_in b (list_of b) ≡ v
    tail_stored v is = ap (tail_in b) store_keeps_list ∙ is

-- a number that was had out of a root is what the root holds
is_number : (v : Value) (n : ℕ) → value_number v ≡ Some n → v ≡ Number n
is_number (Number m) n is = cc
is_number (Reference i) n is = absurd (cc)

pub number_had : {E : Type 0} (r : Result ℕ E) (o : Option ℕ) (v w : Value) → o ≡ value_number v → o ≡ result_ok r → v ≡ w → IfOk r (λ n. w ≡ Number n)
number_had (Ok n) o v w had ok is = sym is ∙ is_number v n (sym had ∙ ok)
number_had (Err e) o v w had ok is = tt
