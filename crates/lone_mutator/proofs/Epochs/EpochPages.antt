-- What the invariant says of the pages of a heap with one worker.
use Rattle.std.proofs.Common.{◌≡◌, ◌≢◌, ℕ, ◌+◌, ◌<◌, ◌≤◌, ⊎_elim, Some, None, sym, ap, ◌∙◌, arith}
use Rattle.std.proofs.lemmas.Bool.{cases_lt}
use Rattle.space_map.specs.declared.page_word.PageWord.{PageWord}
use Rattle.space_map.specs.declared.page_word.PageWord.TheVariants.{Unset, Open, Scanning}
use Rattle.space_map.specs.PageWord.{age_of}
use Rattle.space_map.specs.Spaces.{page_of, first_word}
use Rattle.heap_state.specs.Memory.Era.{Era, Memory}
use Rattle.heap_state.specs.Invariant.Ghost.{Ghost}
use Rattle.heap_state.specs.Invariant.Inductive.{Invariant}
use Rattle.heap_state.specs.Known.{Team, Known, Scan}
use Rattle.heap_state.proofs.Puts.{none≢some}

module _ (E : Era) (m : Memory) (team : Team) (g : Ghost) (i : Invariant E m team g) (one : team.count ≡ 1) where
  abbrev own : Known
  own = team.worker 0

  -- ---- pages

  by_word : (w : PageWord) → age_of w ≡ E.epoch + 1 → ((k : ℕ) → w ≢ Scanning E.epoch k) → w ≡ Open E.epoch
  by_word Unset age unscanned = absurd (omega (arith, age))
  by_word (Open epoch) age unscanned = ap Open (let same : epoch ≡ E.epoch = omega (arith, age) in same)
  by_word (Scanning epoch k) age unscanned = absurd (unscanned k (ap (λ e. Scanning e k) (let same : epoch ≡ E.epoch = omega (arith, age) in same)))

  -- where it scans none, each page of the epoch is open
  pub opened : own.scan ≡ None → (p : ℕ) → age_of (m.page p) ≡ E.epoch + 1 → m.page p ≡ Open E.epoch
  opened idle p age = by_word (m.page p) age (λ k is.
      let by = i.scanned.scanned p k is in
      let first : k ≡ 0 = let l = by.0 in omega (arith, l, one) in
      let scan = by.1.1 in
      none≢some (sym idle ∙ (ap (λ j. (team.worker j).scan) (sym first) ∙ scan)))

  -- ---- an epoch that isn't traced

  open_scanned : {A : Type 0} (w : PageWord) (k : ℕ) → w ≡ Scanning E.epoch k → w ≡ Open E.epoch → A
  open_scanned w k scanned is_open = absurd (let e = sym scanned ∙ is_open in cc)

  -- while someone is behind
  pub untraced_behind : 0 < m.gate.behind → m.traced ≢ E.epoch + 1
  untraced_behind some traced = let quiet = (i.tracing.quiet traced).none in absurd (omega (arith, some, quiet))

  -- while it scans a page
  pub untraced_scanning : (r : Scan) → own.scan ≡ Some r → m.traced ≢ E.epoch + 1
  untraced_scanning r scan traced =
      let scans = (i.workers 0 (omega (arith, one))).scan r scan in
      ⊎_elim
      (λ (board : r.page ≡ page_of E.board). open_scanned (m.page r.page) 0 scans.claimed (ap m.page board ∙ (i.tracing.quiet traced).board))
      (λ (inside : (E.start ≤ first_word r.page) × (first_word r.page < m.front)). ⊎_elim
      (λ (last : m.front < first_word r.page + 64). open_scanned (m.page r.page) 0 scans.claimed (i.tracing.last traced r.page inside.1 last))
      (λ (full : first_word r.page + 64 ≤ m.front). open_scanned (m.page r.page) 0 scans.claimed ((i.tracing.quiet traced).full r.page inside.0 full))
      (cases_lt m.front (first_word r.page + 64)))
      scans.place
