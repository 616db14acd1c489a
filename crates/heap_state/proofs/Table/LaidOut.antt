-- The spaces of a configuration lie apart, in whole pages, below the board.
use Rattle.std.proofs.Common.{◌≡◌, ◌≢◌, ℕ, ◌+◌, ◌%◌, ◌≤◌, List, refl, arith, ⊎_elim, inl, inr}
use Rattle.std.proofs.lemmas.Bool.{cases_eq}
use Rattle.heap_state.specs.Memory.Era.{era_at, era_of, from_space, IsLaidOut}
use Rattle.heap_state.specs.Memory.Table.{table_of, word_in, IsFormed}
use Rattle.space_map.specs.Spaces.{to_space}
use Rattle.space_map.specs.Table.{Size}

pub table_pages : (n : ℕ) (words : List ℕ) → (table_of n words).pages ≡ n
unfolding table_of
table_pages n words = refl

pub table_in_use : (n : ℕ) (words : List ℕ) → (table_of n words).in_use ≡ (λ space. word_in n words (Size space))
unfolding table_of
table_in_use n words = refl

pub laid_out-era_at : (n e : ℕ) (in_use : ℕ → ℕ) → in_use 0 ≤ n → in_use 1 ≤ n → IsLaidOut (era_at n in_use e)
laid_out-era_at n e in_use first second = ⊎_elim
    (λ (z : e % 2 ≡ 0).
    let o : (e + 1) % 2 ≡ 1 = omega arith in
    record {
      start = rw z (omega arith);
      span = omega arith;
      old_start = rw o (omega arith);
      old_span = omega arith;
      board = omega arith;
      apart = rw (z, o) (inl (omega (arith, first)));
      below = rw z (omega (arith, first));
      old_below = rw o (omega (arith, second));
    })
    (λ (z : e % 2 ≢ 0).
    let q : e % 2 ≡ 1 = omega arith in
    let o : (e + 1) % 2 ≡ 0 = omega arith in
    record {
      start = rw q (omega arith);
      span = omega arith;
      old_start = rw o (omega arith);
      old_span = omega arith;
      board = omega arith;
      apart = rw (q, o) (inr (omega (arith, first)));
      below = rw q (omega (arith, second));
      old_below = rw o (omega (arith, first));
    })
    (cases_eq (e % 2) 0)

pub laid_out : (n : ℕ) (words : List ℕ) → IsFormed n words → IsLaidOut (era_of (table_of n words))
laid_out n words formed =
    rw (table_pages n words, table_in_use n words)
    (laid_out-era_at n (table_of n words).gate.epoch (λ space. word_in n words (Size space)) (formed.sizes 0 (omega arith)).1 (formed.sizes 1 (omega arith)).1)

-- the space of the epoch before is the old one
pub to_space-before : (d e : ℕ) → d + 1 ≡ e → to_space d ≡ from_space e
to_space-before d e h = omega arith
