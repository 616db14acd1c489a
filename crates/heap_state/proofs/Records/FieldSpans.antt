-- Where the fields of a record lie, and that a scan passes over none.
use Rattle.std.proofs.Common.{◌≡◌, ℕ, ◌+◌, ◌-◌, ◌<◌, ◌≤◌, ◌↔◌, max, true, nat_le, nat_lt, refl, arith, lt-ltb, le-ltb, ⊎_elim}
use Rattle.std.proofs.lemmas.Bool.{and_parts, cases_lt, le-leb, leb-true, ltb-true}
use Rattle.plain_state.specs.declared.kind.Kind.{Kind}
use Rattle.plain_state.specs.declared.kind.Kind.TheVariants.{Fields, Raw, Mixed, Weak}
use Rattle.plain_state.specs.Layout.{is_field}
use Rattle.heap_state.specs.Memory.FieldSpan.{first_field, fields_end, next_scanned, entry_of}
use Rattle.heap_state.specs.Known.{SeenRecord}

-- a word behind the header is a field exactly where it lies from the first field up to the fields' end
pub field-span : (k : Kind) (i size : ℕ) → 0 < i → i < size → (is_field k i ≡ true) ↔ ((first_field k ≤ i) × (i < fields_end k size))
field-span Fields i size f l = (λ _. (omega arith, l), λ _. refl)
field-span Raw i size f l = (λ e. absurd (cc), λ o. absurd (omega (arith, o)))
field-span (Mixed count) i size f l = (
  λ e. let p = and_parts (nat_le 2 i) (nat_lt i (count + 2)) e in (leb-true 2 i p.0, ltb-true i (count + 2) p.1),
  λ o. rw (le-leb 2 i o.0, lt-ltb i (count + 2) o.1) refl,
)
field-span Weak i size f l = (λ e. absurd (cc), λ o. absurd (omega (arith, o)))

-- no field is a record's first word, and none lies behind the record
pub span-within : (k : Kind) (size : ℕ) → 0 < size → ((count : ℕ) → k ≡ Mixed count → count + 2 ≤ size) → (0 < first_field k) × (first_field k ≤ size) × (fields_end k size ≤ size)
span-within (Mixed count) size s room = let r = room count refl in (omega arith, omega (arith, r), r)
span-within _ size s room = (omega arith, omega arith, omega arith)

module _ (r : SeenRecord) (k : Kind) (size : ℕ) (fields : r.fields_end ≡ r.at + fields_end k size) (whole : r.next ≡ r.at + size) where
  -- a scan goes on not before y, and not behind the record
  pub next_within : (y : ℕ) → y ≤ r.next → (y ≤ next_scanned r y) × (next_scanned r y ≤ r.next)
  next_within y l = ⊎_elim
      (λ (n : y < r.fields_end). rw (lt-ltb y r.fields_end n) (omega arith, l))
      (λ (n : r.fields_end ≤ y). rw (le-ltb y r.fields_end n) (l, omega arith))
      (cases_lt y r.fields_end)

  -- what it passes over is no field
  pub passes_no_field : (y x : ℕ) → y ≤ x → r.at < x → x < r.next → x < next_scanned r y → ¬ (is_field k (x - r.at) ≡ true)
  passes_no_field y x l f b n e =
      let t = (field-span k (x - r.at) size (omega arith) (omega arith)).0 e in
      ⊎_elim
      (λ (c : y < r.fields_end). absurd (let q : x < y = rw (lt-ltb y r.fields_end c) at n in omega (arith, q, l)))
      (λ (c : r.fields_end ≤ y). absurd (omega (arith, c, t, l)))
      (cases_lt y r.fields_end)

  -- it enters a record behind the header and what is before its fields
  pub enters_within : first_field k ≤ size → (y : ℕ) → y ≤ r.next → (y ≤ entry_of r k y) × (r.at + first_field k ≤ entry_of r k y) × (entry_of r k y ≤ r.next)
  enters_within first y l =
      let q = next_within (max y (r.at + first_field k)) (omega arith) in
      (omega (arith, q), omega (arith, q), q.1)

  -- and what it passes over then is no field
  pub enters_past_no_field : (y x : ℕ) → y ≤ x → r.at < x → x < r.next → x < entry_of r k y → ¬ (is_field k (x - r.at) ≡ true)
  enters_past_no_field y x l f b n e = ⊎_elim
      (λ (c : x < max y (r.at + first_field k)). absurd (let t = (field-span k (x - r.at) size (omega arith) (omega arith)).0 e in omega (arith, c, t, l)))
      (λ (c : max y (r.at + first_field k) ≤ x). passes_no_field (max y (r.at + first_field k)) x c f b n e)
      (cases_lt x (max y (r.at + first_field k)))
