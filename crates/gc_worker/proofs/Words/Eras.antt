-- The spaces of a configuration, by its number of pages and by those in use.
use Rattle.std.proofs.Common.{◌≡◌, ◌≢◌, ℕ, ◌+◌, ◌*◌, ◌%◌, ◌≤◌, ◌⊎◌, arith, inl, inr, ⊎_elim}
use Rattle.std.proofs.lemmas.Bool.{cases_eq}
use Rattle.plain_state.specs.State.{Plain}
use Rattle.space_map.specs.Spaces.{to_space, space_start}
use Rattle.heap_state.specs.Configuration.{Configuration, Stands, era}
use Rattle.heap_state.specs.Memory.Era.{from_space}
use Rattle.heap_state.specs.Memory.Table.{table_of}
use Rattle.gc_worker.proofs.Words.GrownSizes.{size_now, size_within}

pub board_is : (c : Configuration) → (era c).board ≡ 64 * (2 * c.pages)
unfolding table_of
board_is c = λ i. 64 * (2 * c.pages)

pub start_is : (c : Configuration) → (era c).start ≡ space_start c.pages (to_space (era c).epoch)
unfolding table_of
start_is c = λ i. space_start c.pages (to_space (era c).epoch)

pub old_start_is : (c : Configuration) → (era c).old_start ≡ space_start c.pages (from_space (era c).epoch)
unfolding table_of
old_start_is c = λ i. space_start c.pages (from_space (era c).epoch)

pub span_is : (c : Configuration) → (era c).span ≡ 64 * size_now c (to_space (era c).epoch)
unfolding table_of
span_is c = λ i. 64 * size_now c (to_space (era c).epoch)

pub old_span_is : (c : Configuration) → (era c).old_span ≡ 64 * size_now c (from_space (era c).epoch)
unfolding table_of
old_span_is c = λ i. 64 * size_now c (from_space (era c).epoch)

-- the spaces with all their pages, in use or not, lie apart
pub spaces_apart : (n epoch : ℕ) → (space_start n (to_space epoch) + 64 * n ≤ space_start n (from_space epoch)) ⊎ (space_start n (from_space epoch) + 64 * n ≤ space_start n (to_space epoch))
spaces_apart n epoch = ⊎_elim
    (λ (z : epoch % 2 ≡ 0). let o : (epoch + 1) % 2 ≡ 1 = omega arith in rw (z, o) (inl (omega arith)))
    (λ (z : epoch % 2 ≢ 0).
    let q : epoch % 2 ≡ 1 = omega arith in
    let o : (epoch + 1) % 2 ≡ 0 = omega arith in
    rw (q, o) (inr (omega arith)))
    (cases_eq (epoch % 2) 0)

-- both end at the board at the latest
pub ends_below : (n epoch : ℕ) → space_start n (to_space epoch) + 64 * n ≤ 128 * n
ends_below n epoch = ⊎_elim
    (λ (z : epoch % 2 ≡ 0). rw z (omega arith))
    (λ (z : epoch % 2 ≢ 0). let q : epoch % 2 ≡ 1 = omega arith in rw q (omega arith))
    (cases_eq (epoch % 2) 0)

-- no more pages are in use than there are
pub span_within : (c : Configuration) (p : Plain) → Stands c p → (era c).span ≤ 64 * c.pages
span_within c p s = let e = span_is c in let z = size_within c p s (to_space (era c).epoch) (omega arith) in omega (arith, e, z)

pub old_span_within : (c : Configuration) (p : Plain) → Stands c p → (era c).old_span ≤ 64 * c.pages
old_span_within c p s = let e = old_span_is c in let z = size_within c p s (from_space (era c).epoch) (omega arith) in omega (arith, e, z)
