-- Records that lie packed: where they begin, and where their fields are.
use Rattle.std.proofs.Common.{IsTrue, refl, ◌≡◌, ℕ, zero, suc, ◌+◌, ◌-◌, ◌<◌, ◌≤◌, ap, subst, arith, ⊎_elim}
use Rattle.std.proofs.lemmas.Bool.{cases_lt, leb-true}
use Rattle.heap_words.specs.declared.kind.Kind.{Kind as HeaderKind}
use Rattle.heap_words.specs.declared.kind.Kind.TheVariants as header
use Rattle.heap_words.specs.Decoded.{Decoded, NumberWord, HeaderWord, decode}
use Rattle.plain_state.specs.declared.kind.Kind.TheVariants.{Mixed}
use Rattle.heap_state.specs.Invariant.Ghost.{count_said, said_kind}
use Rattle.heap_state.proofs.Records.FieldSpans.{span-within}
use Rattle.heap_state.specs.Kept.{size_said}
use Rattle.page_scan.specs.Fields.{IsFieldBelow, record_begins, first_said, fields_said}
use Rattle.page_scan.specs.Taken.{is_count}

-- where the next word is a count, it is said
count-le : (size : ℕ) (d : Decoded) → IsTrue (is_count size d) → count_said d + 2 ≤ size
count-le size (NumberWord c) is = leb-true (c + 2) size is
count-le size _ is = absurd (cc)

-- the word behind a mixed record's header is its count
abbrev pub IsCounted : Decoded → (next : ℕ) → Type 0
IsCounted d next = (len serial mutator : ℕ) → d ≡ HeaderWord header.Mixed len serial mutator → IsTrue (is_count (len + 1) (decode next))

room-said : (kind : HeaderKind) (len serial mutator next : ℕ) → IsCounted (HeaderWord kind len serial mutator) next
    → (count : ℕ) → said_kind kind next ≡ Mixed count → count + 2 ≤ len + 1
room-said header.Mixed len serial mutator next counted count is =
    let said : count_said (decode next) ≡ count = cc in
    let le = count-le (len + 1) (decode next) (counted len serial mutator refl) in
    omega arith
room-said _ len serial mutator next counted count is = absurd (cc)

-- a record's fields begin and end within it
said-within : (d : Decoded) (next : ℕ) → IsCounted d next → (first_said d next ≤ size_said d) × (fields_said d next ≤ size_said d)
said-within (HeaderWord kind len serial mutator) next counted =
    let z = span-within (said_kind kind next) (len + 1) (omega arith) (room-said kind len serial mutator next counted) in (z.1, z.2)
said-within _ next counted = (omega arith, omega arith)

module _ (heap : ℕ → ℕ) (from front : ℕ) where
  abbrev at : ℕ → ℕ
  at n = record_begins heap from n

  pub begins-next : (n : ℕ) → at (n + 1) ≡ at n + size_said (decode (heap (at n)))
  unfolding record_begins
  begins-next n = let e : n + 1 ≡ suc n = omega arith in ap at e

  further : (n d : ℕ) → at n ≤ at (n + d)
  further n zero = let e : n ≡ n + 0 = omega arith in subst (λ k. at n ≤ at k) e (omega arith)
  further n (suc d) =
      let e : n + d + 1 ≡ n + suc d = omega arith in
      subst (λ k. at n ≤ at k) e (let z = further n d in let s = begins-next (n + d) in omega arith)

  pub begins-le : (n m : ℕ) → n ≤ m → at n ≤ at m
  begins-le n m le = let e : n + (m - n) ≡ m = omega arith in subst (λ k. at n ≤ at k) e (further n (m - n))

  -- the number of words of the record of this number up to its fields, and up to their end
  abbrev pub first : ℕ → ℕ
  first n = first_said (decode (heap (at n))) (heap (at n + 1))

  abbrev pub last : ℕ → ℕ
  last n = fields_said (decode (heap (at n))) (heap (at n + 1))

  pub first-before : (n : ℕ) → IsCounted (decode (heap (at n))) (heap (at n + 1)) → at n + first n ≤ at (n + 1)
  first-before n counted = let s = begins-next n in let z = (said-within (decode (heap (at n))) (heap (at n + 1)) counted).0 in omega arith

  pub last-before : (n : ℕ) → IsCounted (decode (heap (at n))) (heap (at n + 1)) → at n + last n ≤ at (n + 1)
  last-before n counted = let s = begins-next n in let z = (said-within (decode (heap (at n))) (heap (at n + 1)) counted).1 in omega arith

  module _ (counted : (n : ℕ) → at n < front → IsCounted (decode (heap (at n))) (heap (at n + 1))) where
    pub field-below : (x : ℕ) (f : IsFieldBelow heap from front x) → x < at (f.0 + 1)
    field-below x f =
        let s = begins-next f.0 in let z = (said-within (decode (heap (at f.0))) (heap (at f.0 + 1)) (counted f.0 f.1)).1 in let b = f.3 in omega arith

    -- a field that lies between two records' first words is one of the first's
    pub field-of : (x k : ℕ) → IsFieldBelow heap from front x → at k ≤ x → x < at (k + 1) → (at k + first k ≤ x) × (x < at k + last k)
    field-of x k f behind before = ⊎_elim
        (λ (l : f.0 < k). let z = begins-le (f.0 + 1) k (omega arith) in let b = field-below x f in absurd (omega arith))
        (λ (l : k ≤ f.0). ⊎_elim
        (λ (m : k < f.0). let z = begins-le (k + 1) f.0 (omega arith) in let b = f.2 in absurd (omega arith))
        (λ (m : f.0 ≤ k). let e : f.0 ≡ k = omega arith in subst (λ n. (at n + first n ≤ x) × (x < at n + last n)) e (f.2, f.3))
        (cases_lt k f.0))
        (cases_lt f.0 k)
