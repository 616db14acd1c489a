-- A page of this epoch's copies, or the board, whose word becomes one of this epoch: the new area and the stocks stay.
use Rattle.std.proofs.Common.{◌≡◌, ◌≢◌, ℕ, ◌+◌, ◌*◌, ◌/◌, ◌%◌, ◌<◌, ◌≤◌, arith, ◌⊎◌}
use Rattle.space_map.specs.declared.page_word.PageWord.{PageWord}
use Rattle.space_map.specs.declared.page_word.PageWord.TheVariants.{Open}
use Rattle.space_map.specs.PageWord.{age_of}
use Rattle.heap_state.specs.Memory.Era.{Era, IsLaidOut}
use Rattle.heap_state.specs.Functions.{put}
use Rattle.heap_state.specs.Invariant.Parts.Records.{NewArea}
use Rattle.heap_state.specs.Invariant.Parts.Stocks.{Stocks, Stocked}
use Rattle.heap_state.specs.Known.{Known, Stock}
use Rattle.heap_state.proofs.Puts.{put_other}
use Rattle.heap_laws.proofs.Frames.PageWords.{Turns, stays}

-- the page is the board or begins below FRONT, and LOW begins a page
pub record PageTurns (E : Era) (front low : ℕ) (page : ℕ → PageWord) (p : ℕ) (v : PageWord) : Type 0 where
  pub out : IsLaidOut E
  pub order : (E.start ≤ front) × (front ≤ low) × (low ≤ E.start + E.span)
  pub aligned : low % 64 ≡ 0
  pub place : (p ≡ E.board / 64) ⊎ ((E.start ≤ 64 * p) × (64 * p < front))
  pub turn : Turns E page p v

module _ {E : Era} {front low : ℕ} {page : ℕ → PageWord} {p : ℕ} {v : PageWord} (t : PageTurns E front low page p v) where
  open t use {out, order, aligned, place, turn}

  abbrev page' : ℕ → PageWord
  page' = put page p v

  -- the page is none of the new area, and none of the old space
  not_new : (x : ℕ) → low ≤ 64 * x → 64 * x + 64 ≤ E.start + E.span → x ≢ p
  not_new x l m e = let b = out.board in let w = out.below in omega (arith, place, order, e, l, m, b, w)

  not_new_word : (x : ℕ) → low ≤ x → x < E.start + E.span → x / 64 ≢ p
  not_new_word x l m e = let b = out.board in let w = out.below in omega (arith, place, order, aligned, e, l, m, b, w)

  pub not_old_word : (x : ℕ) → E.old_start ≤ x → x < E.old_start + E.old_span → x / 64 ≢ p
  not_old_word x l m e = let b = out.board in let w = out.old_below in let s = out.old_start in let a = out.apart in let z = out.start in let y = out.span in let r = out.old_span in
      omega (arith, place, order, e, l, m, b, w, s, a, z, y, r)

  pub new_turns : {size heap : ℕ → ℕ} → NewArea low (E.start + E.span) E.epoch size heap page → NewArea low (E.start + E.span) E.epoch size heap page'
  new_turns n = record {
    opened = λ a x st l m o q. stays turn (x / 64) (n.opened a x st l m o q);
    prior = n.prior;
    blank = λ x l m w o. n.blank x l m w (rw (put_other page p v (x / 64) (not_new_word x l m)) at o);
  }

  pub stocks_turn : {count : ℕ} {size heap : ℕ → ℕ} {worker : ℕ → Known} → Stocks E low count size heap page worker → Stocks E low count size heap page' worker
  stocks_turn {count} {size} {heap} s = record { apart = s.apart; stocked = λ k l q e n. turns q (s.stocked k l q e n) }
    where
      turns : (q : Stock) → Stocked E low size heap page q → Stocked E low size heap page' q
      turns q o =
          let a : (x : ℕ) → q.opened ≤ 64 * x → 64 * x + 64 ≤ q.end → age_of (page' x) ≤ E.epoch = λ x l m. let b = o.lies in let w = o.whole in
          rw (put_other page p v x (not_new x (omega (arith, b, w, l)) (omega (arith, b, m)))) (o.shut x l m) in
          let b : (x : ℕ) → q.at ≤ x → x < q.opened → page' (x / 64) ≡ Open E.epoch = λ x l m. stays turn (x / 64) (o.opens x l m) in
          assumption
