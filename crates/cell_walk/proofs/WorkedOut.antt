-- The worked walks, computed from the table.
use Rattle.std.proofs.Common.{◌≡◌, ℕ, zero, suc, ◌+◌, ◌*◌, ◌<◌, List, [], ◌∷◌, refl, arith, lit≤, lit<, inl, inr}
use Rattle.std.specs.Prelude.{All, AllPairs}
use Rattle.atom_store.specs.Runs.{alone}
use Rattle.heap_words.specs.Decoded.{PointerWord, decode}
use Rattle.heap_words.specs.Word.{tag_of, number_word, pointer_word}
use Rattle.space_map.specs.Table.{place_of}
use Rattle.space_map.specs.Worked.{four_pages}
use Rattle.cell_walk.specs.Chains.{AreApart, IsChain, IsNotOf, LeadsBack}
use Rattle.cell_walk.specs.Theorems.{IsWorkedOut}
use Rattle.cell_walk.specs.Worked.{words_before, words_after}

abbrev cells : List ℕ
cells = 261 ∷ 258 ∷ []

-- ---- the cells lie on a chain

leads_first : (old : ℕ) → LeadsBack four_pages 1 words_before 261 old → old ≡ 198
unfolding decode tag_of place_of words_before
leads_first old back = let e : PointerWord 198 ≡ PointerWord old = back.leads in cc

leads_second : (old : ℕ) → LeadsBack four_pages 1 words_before 258 old → old ≡ 192
unfolding decode tag_of place_of words_before
leads_second old back = let e : PointerWord 192 ≡ PointerWord old = back.leads in cc

-- each of the two cells
each : (P : ℕ → Type 0) → P 261 → P 258 → All P cells
each P first second zero d within = first
each P first second (suc zero) d within = second
each P first second (suc (suc k)) d within = absurd (omega arith)

beside : (cell : ℕ) → 198 < cell → All (λ other. (old : ℕ) → LeadsBack four_pages 1 words_before other old → IsNotOf cell old) cells
beside cell behind =
    each (λ other. (old : ℕ) → LeadsBack four_pages 1 words_before other old → IsNotOf cell old)
    (λ old back. inl (let e = leads_first old back in omega arith))
    (λ old back. inl (let e = leads_second old back in omega arith))

apart : AllPairs AreApart cells
apart zero (suc zero) d before within = inr (lit< tt)
apart zero zero d before within = absurd (omega arith)
apart zero (suc (suc j)) d before within = absurd (omega arith)
apart (suc i) zero d before within = absurd (omega arith)
apart (suc i) (suc zero) d before within = absurd (omega arith)
apart (suc i) (suc (suc j)) d before within = absurd (omega arith)

chain : IsChain four_pages 1 words_before cells
unfolding place_of words_before
chain = record {
  whole = lit≤ tt;
  linked = (refl, (refl, refl));
  few = lit≤ tt;
  inside = each (λ cell. cell + 2 < 128 * four_pages.pages) (lit< tt) (lit< tt);
  apart = apart;
  beside_old = each (λ cell. All (λ other. (old : ℕ) → LeadsBack four_pages 1 words_before other old → IsNotOf cell old) cells)
      (beside 261 (lit< tt)) (beside 258 (lit< tt));
}

-- ---- the walks

pub is_worked_out : IsWorkedOut
unfolding decode tag_of number_word pointer_word place_of alone words_before words_after
is_worked_out = record {
  two = record { steps = refl; ends = refl };
  stay = record { steps = refl; ends = refl };
  none = record { steps = refl; ends = refl };
  taken_turn = record { steps = refl; ends = refl };
  later = record { steps = refl; ends = refl };
  lost = record { steps = refl; ends = refl };
  chain = chain;
  words = refl;
  passed = refl;
}
