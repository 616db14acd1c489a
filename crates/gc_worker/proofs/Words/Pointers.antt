-- The first register from one on that holds a pointer.
use Rattle.std.proofs.Common.{◌≡◌, ℕ, zero, suc, ◌+◌, ◌<◌, ◌≤◌, List, slice_index, Option, Some, None, refl, sym, ap, ◌∙◌, arith, ⊎_elim}
use Rattle.std.proofs.lemmas.Bool.{cases_eq}
use Rattle.heap_words.specs.Decoded.{Decoded, PointerWord, decode, pointer_in}
use Rattle.heap_state.specs.Memory.Era.{Era}
use Rattle.heap_state.specs.Invariant.Ghost.{Leads}
use Rattle.gc_worker.specs.Steps.Turned.{Pointed, first_pointer, pointer_at}

abbrev pub word_at : List ℕ → ℕ → Option ℕ
word_at registers r = pointer_in (decode (slice_index registers r))

-- from register j on the first pointer is this one, or there is none in this and the next n
pub data FirstPointer (registers : List ℕ) (n j : ℕ) : Option Pointed → Type 0 where
  Nowhere : ((i : ℕ) → j ≤ i → i < j + n → word_at registers i ≡ None) → FirstPointer registers n j None
  There : (r a : ℕ) → j ≤ r → r < j + n → word_at registers r ≡ Some a → ((i : ℕ) → j ≤ i → i < r → word_at registers i ≡ None)
      → FirstPointer registers n j (Some (record { register = r; addr = a }))

-- one register further down
further : (registers : List ℕ) (n j : ℕ) → word_at registers j ≡ None → (o : Option Pointed) → FirstPointer registers n (j + 1) o → FirstPointer registers (suc n) j o
further registers n j none None (Nowhere all) = Nowhere (λ i l u. ⊎_elim
    (λ (e : i ≡ j). rw e none)
    (λ d. all i (omega (arith, l, d)) (omega (arith, u)))
    (cases_eq i j))
further registers n j none (Some q) (There r a l u at before) = There r a (omega (arith, l)) (omega (arith, u)) at (λ i m v. ⊎_elim
    (λ (e : i ≡ j). rw e none)
    (λ d. before i (omega (arith, m, d)) v)
    (cases_eq i j))

by_word : (registers : List ℕ) (n j : ℕ) (later : Option Pointed) → FirstPointer registers n (j + 1) later → (w : Option ℕ) → word_at registers j ≡ w → FirstPointer registers (suc n) j (pointer_at j w later)
by_word registers n j later found None at = further registers n j at later found
by_word registers n j later found (Some a) at = There j a (omega arith) (omega arith) at (λ i l u. absurd (omega (arith, l, u)))

pub found : (registers : List ℕ) (n j : ℕ) → FirstPointer registers n j (first_pointer registers n j)
unfolding first_pointer
found registers zero j = Nowhere (λ i l u. absurd (omega (arith, l, u)))
found registers (suc n) j = by_word registers n j (first_pointer registers n (j + 1)) (found registers n (j + 1)) (word_at registers j) refl

-- ---- where words lead

pub is_pointer : (d : Decoded) (a : ℕ) → pointer_in d ≡ Some a → d ≡ PointerWord a
is_pointer (PointerWord _) a same = cc
is_pointer _ a same = cc

-- a word that is no pointer leads nowhere
pub leads_nowhere : (E : Era) (w : ℕ) → pointer_in (decode w) ≡ None → ¬ (Leads E w)
unfolding Leads
leads_nowhere E w none leads = let at = ap pointer_in leads.1 in let e = sym none ∙ at in cc
