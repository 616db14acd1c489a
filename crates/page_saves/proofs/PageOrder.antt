-- The pages of a save round in their order: the board, and then those of the space that is copied into.
use Rattle.std.proofs.Common.{◌≡◌, ◌≢◌, ℕ, ◌+◌, ◌-◌, ◌*◌, ◌%◌, ◌<◌, ◌≤◌, Bool, true, false, arith, refl, nat_eq}
use Rattle.std.proofs.Math.Nat.{mul-le-mul_left}
use Rattle.std.proofs.lemmas.Bool.Decides.{nat_tests}
use Rattle.space_map.specs.Spaces.{board_page}
use Rattle.page_saves.specs.SaveRound.{SavingRound, to_page, page_after, pages_left}
use Rattle.page_saves.specs.SoundRound.{IsRoundPage}

-- the space lies below the board
pub to_page-le : (r : SavingRound) → to_page r ≤ r.layout.pages
to_page-le r =
    let below : r.layout.pages * (r.epoch % 2) ≤ r.layout.pages * 1 = mul-le-mul_left r.layout.pages (let rest : r.epoch % 2 < 2 = omega arith in omega arith) in
    omega (arith, below)

-- whether the page is the board
pub data IsOrNot (r : SavingRound) (page : ℕ) : Type 0 where
  Board : page ≡ board_page r.layout.pages → page_after r page ≡ to_page r → pages_left r page ≡ r.layout.pages + 1 → IsOrNot r page
  Other : page ≢ board_page r.layout.pages → page_after r page ≡ page + 1 → pages_left r page ≡ to_page r + r.layout.pages - page → IsOrNot r page

pub board_or_not : (r : SavingRound) (page : ℕ) → IsOrNot r page
board_or_not r page = by_test (nat_eq page (board_page r.layout.pages)) refl
  where
    by_test : (b : Bool) → nat_eq page (board_page r.layout.pages) ≡ b → IsOrNot r page
    by_test true test = Board (grind (arith, nat_tests)) (rw test refl) (rw test refl)
    by_test false test = Other (grind (arith, nat_tests)) (rw test refl) (rw test refl)

-- a page of the round is one of those that are left
pub pages_left_gt : (r : SavingRound) (page : ℕ) → IsRoundPage r page → 0 < pages_left r page
pages_left_gt r page fits = by_board (board_or_not r page)
  where
    by_board : IsOrNot r page → 0 < pages_left r page
    by_board (Board is next count) = rw count (omega arith)
    by_board (Other apart next count) = let high = fits.high apart in rw count (omega arith)

-- after it fewer are left, if there is a next one
pub further : (r : SavingRound) (page : ℕ) → 0 < r.layout.pages → page_after r page < to_page r + r.layout.pages
    → pages_left r (page_after r page) < pages_left r page
further r page some more = by_board (board_or_not r page) (board_or_not r (page_after r page))
  where
    by_board : IsOrNot r page → IsOrNot r (page_after r page) → pages_left r (page_after r page) < pages_left r page
    by_board this (Board is next count) = let low = to_page-le r in absurd (omega (arith, more, is, low, some))
    by_board (Board is next count) (Other apart next_one count_there) =
        let low = to_page-le r in omega (arith, count, count_there, next, low, some)
    by_board (Other apart next count) (Other apart_there next_one count_there) = omega (arith, count, count_there, next, more)
