-- If a round has passed all pages of its checkpoint, they are saved.
use Rattle.std.proofs.Common.{◌≡◌, ℕ, ◌+◌, ◌*◌, ◌<◌, ◌≤◌, inl, inr, ⊎_elim, subst, arith}
use Rattle.space_map.specs.Spaces.{board_page, to_space}
use Rattle.heap_state.specs.Saving.Words.{IsInProgress}
use Rattle.heap_state.specs.Saving.Frozen.{IsPageOf}
use Rattle.heap_state.specs.Saving.Savers.{SaveRound, HasPassed}
use Rattle.heap_laws.specs.Saving.Rows.{PassedRoundsHaveSaved, HasPassedAll}

-- a round that has passed all pages has passed each that may be one of its checkpoint
pub passes_each : (n : ℕ) (r : SaveRound) (page : ℕ) → HasPassedAll n r → IsPageOf n r.epoch page → HasPassed n r page
unfolding IsPageOf HasPassed
passes_each n r page all is = ⊎_elim
    (λ (board : page ≡ board_page n). inl (board, all.board))
    (λ (within : (n * to_space r.epoch ≤ page) × (page < n * to_space r.epoch + n)).
    let least = within.0 in let most = within.1 in let passed = all.pages in inr (least, omega (arith, most, passed)))
    is

pub passed_rounds_have_saved : PassedRoundsHaveSaved
passed_rounds_have_saved t s z r w saves all done =
    let begun = saves.begun.0 in
    let order = w.order.1 in
    let snap : s.snap ≡ r.number = omega (arith, begun, order, done) in
    let runs : IsInProgress s r.number = (snap, done) in
    record {
      runs = runs;
      saved = λ page held.
          let at = (w.opened (omega (arith, snap, done)) page held).0 in
          saves.passed all.free runs page held (passes_each t.pages r page all (subst (λ v. IsPageOf t.pages v page) (saves.runs runs) at));
    }
