-- What is known of the worked configuration beside its words.
use Rattle.std.proofs.Common.{◌≡◌, ◌≢◌, ℕ, ◌<◌, refl, arith, ⊎_elim, ◌⊎◌, inl, inr}
use Rattle.std.specs.Prelude.{if◌then◌else◌, ◌==◌}
use Rattle.std.proofs.lemmas.Bool.{cases_eq, ne_eqb}
use Rattle.plain_state.specs.declared.kind.Kind.TheVariants.{Fields}
use Rattle.plain_state.specs.declared.value.Identity.{Identity}
use Rattle.heap_state.specs.Memory.Entries.{table_with}
use Rattle.heap_state.specs.Memory.Era.{Era}
use Rattle.heap_state.specs.Invariant.Ghost.{Ghost}
use Rattle.heap_state.specs.Memory.Table.{Table}
use Rattle.heap_state.specs.Examples.Worked.{worked_entries, made}

abbrev pub worked_table : Table
worked_table = table_with 4 worked_entries

abbrev pub worked_era : Era
worked_era = record { epoch = 1; start = 256; span = 256; old_start = 0; old_span = 256; board = 512 }

-- ---- the ghost

abbrev pub size : ℕ → ℕ
size a = if a == 192 then 3 else if a == 195 then 2 else if a == 256 then 3 else if a == 259 then 2 else 0

abbrev pub writer : ℕ → ℕ
writer a = if a == 259 then 2 else 0

abbrev pub copy : ℕ → ℕ
copy a = if a == 192 then 257 else if a == 195 then 260 else 0

abbrev pub keeper : ℕ → ℕ
keeper a = if a == 195 then 2 else 0

abbrev pub identity : ℕ → Identity
identity a = if a == 192 then made 1 else if a == 256 then made 1 else made 2

abbrev pub kept : ℕ → ℕ
kept k = if k == 1 then 196 else 0

abbrev pub worked_ghost : Ghost
worked_ghost = record { size = size; writer = writer; copy = copy; keeper = keeper; kind = λ a. Fields; identity = identity; kept = kept }

-- ---- where records stand

-- the four places, for goals that compute
pub each_place : (P : ℕ → Type 0) → P 192 → P 195 → P 256 → P 259 → (a : ℕ) → 0 < size a → P a
each_place P p q r s a st = ⊎_elim (λ (e : a ≡ 192). rw e p) (λ (n : a ≢ 192).
    ⊎_elim (λ (e : a ≡ 195). rw e q) (λ (o : a ≢ 195).
    ⊎_elim (λ (e : a ≡ 256). rw e r) (λ (x : a ≢ 256).
    ⊎_elim (λ (e : a ≡ 259). rw e s) (λ (y : a ≢ 259).
    absurd (let z : 0 < 0 = rw (ne_eqb a 192 n, ne_eqb a 195 o, ne_eqb a 256 x, ne_eqb a 259 y) at st in omega arith))
    (cases_eq a 259)) (cases_eq a 256)) (cases_eq a 195)) (cases_eq a 192)

-- the same for goals on numbers
abbrev pub Sizes : ℕ → Type 0
Sizes a = ((a ≡ 192) × (size a ≡ 3)) ⊎ (((a ≡ 195) × (size a ≡ 2)) ⊎ (((a ≡ 256) × (size a ≡ 3)) ⊎ ((a ≡ 259) × (size a ≡ 2))))

pub sizes : (a : ℕ) → 0 < size a → Sizes a
sizes = each_place Sizes (inl (refl, refl)) (inr (inl (refl, refl))) (inr (inr (inl (refl, refl)))) (inr (inr (inr (refl, refl))))
