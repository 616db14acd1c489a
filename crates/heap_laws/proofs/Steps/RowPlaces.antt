-- The places of records, pages and workers are those of rows of the table.
use Rattle.std.proofs.Common.{◌≡◌, ℕ, ◌+◌, ◌*◌, ◌/◌, ◌<◌, ◌≤◌, arith, ◌⊎◌, ⊎_elim}
use Rattle.heap_state.specs.Memory.Era.{Era, Memory}
use Rattle.heap_state.specs.Invariant.Ghost.{Ghost, Here}
use Rattle.heap_state.specs.Known.{Team}
use Rattle.heap_laws.specs.Steps.{Ready}
use Rattle.heap_laws.proofs.Scanning.Scanners.{here_lies}

module _ {E : Era} {m : Memory} {team : Team} {g : Ghost} {k : ℕ} (ready : Ready E m team g k) where
  -- a record lies below the board
  pub below_board : (a : ℕ) → 0 < g.size a → a + g.size a ≤ E.board
  below_board a st = let y = ready.invariant.laid.lies a st in let o = ready.invariant.laid.order in let l = ready.laid_out in omega (arith, y, o, l.below, l.old_below)

  -- a word that mutators read is one of the heap
  pub here_below : (x : ℕ) → Here E g.size g.writer g.kind x → x < E.board + 64
  here_below x h =
      let y = here_lies E m team g ready.invariant ready.laid_out x h in
      let b = ready.laid_out.below in
      let o = ready.invariant.laid.order in
      ⊎_elim (λ z. omega (arith, z)) (λ z. ⊎_elim (λ a. omega (arith, a, o, b)) (λ a. omega (arith, a.0, a.1, b)) z) y

  -- the board's page and a page below FRONT are pages of the heap
  pub page_below : (q : ℕ) → (q ≡ E.board / 64) ⊎ ((E.start ≤ 64 * q) × (64 * q < m.front)) → q ≤ E.board / 64
  page_below q place = let o = ready.invariant.laid.order in let b = ready.laid_out.below in omega (arith, place, o, b)

  -- there are at most 24 workers
  pub few : k < 24
  few = let f = ready.invariant.staffed.few in let l = ready.member in omega (arith, f, l)
