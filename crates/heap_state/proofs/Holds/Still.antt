-- Where all is quiet only who scans the filling page can copy, and where the epoch is traced nobody does.
use Rattle.std.proofs.Common.{◌≡◌, ◌≢◌, ℕ, ◌+◌, ◌-◌, ◌*◌, ◌/◌, ◌<◌, ◌≤◌, true, Some, sym, ap, ◌∙◌, arith, ⊎_elim, ◌⊎◌, inl, inr}
use Rattle.std.proofs.lemmas.Bool.{cases_eq, cases_lt}
use Rattle.space_map.specs.declared.page_word.PageWord.{PageWord}
use Rattle.space_map.specs.declared.page_word.PageWord.TheVariants.{Open, Scanning}
use Rattle.heap_state.specs.Memory.Era.{Era, Memory}
use Rattle.heap_state.specs.Invariant.Ghost.{Ghost}
use Rattle.heap_state.specs.Invariant.Inductive.{Invariant}
use Rattle.heap_state.specs.Invariant.Parts.Pages.{Quiet}
use Rattle.heap_state.specs.Invariant.Parts.Scanning.{Scans}
use Rattle.heap_state.specs.Theorems.Standing.{ScansFillingPage, StandsStill}
use Rattle.heap_state.specs.Known.{Team, Copy, Scan, is_late}
use Rattle.heap_state.proofs.Records.Holding.{writer}

pub open_scanning : {p : PageWord} {e k : ℕ} {A : Type 0} → p ≡ Open e → p ≡ Scanning e k → A
open_scanning q r = absurd (cc)

module _ (E : Era) (m : Memory) (team : Team) (g : Ghost) (inv : Invariant E m team g) where
  -- a worker that scans, where all is quiet, scans the filling page
  pub scans_filling : (k : ℕ) (s : Scan) → k < team.count → (team.worker k).scan ≡ Some s → Quiet E m.gate.behind m.front m.page → ScansFillingPage E m.front m.page k
  scans_filling k s l e quiet = by_place ((inv.workers k l).scan s e) ((inv.workers k l).scan s e).place
    where
      by_place : Scans E m.front g.size g.writer g.kind m.heap m.page k s → (s.page ≡ E.board / 64) ⊎ ((E.start ≤ 64 * s.page) × (64 * s.page < m.front)) → ScansFillingPage E m.front m.page k
      by_place sc (inl b) = open_scanning quiet.board (ap m.page (sym b) ∙ sc.claimed)
      by_place sc (inr b) = ⊎_elim
          (λ (f : m.front < 64 * s.page + 64). record { page_number = s.page; begun = b.1; filling = f; scanned = sc.claimed })
          (λ (f : 64 * s.page + 64 ≤ m.front). open_scanning (quiet.full s.page b.0 f) sc.claimed)
          (cases_lt m.front (64 * s.page + 64))

  -- and so does one that copies
  pub still : (k : ℕ) (c : Copy) → k < team.count → (team.worker k).copy ≡ Some c → Quiet E m.gate.behind m.front m.page → ScansFillingPage E m.front m.page k
  still k c l e quiet = ⊎_elim
      (λ s. scans_filling k s.0 l s.1 quiet)
      (λ (late : is_late E.epoch (team.worker k) ≡ true). absurd (let b = (inv.workers k l).licensed.counted late in omega (arith, b, quiet.none)))
      ((inv.workers k l).licensed.licensed c e)

  -- where the epoch is traced nobody scans
  pub nobody_scans : m.traced ≡ E.epoch + 1 → (k : ℕ) (s : Scan) → k < team.count → (team.worker k).scan ≡ Some s → ⊥
  nobody_scans t k s l e = let f = scans_filling k s l e (inv.tracing.quiet t) in open_scanning (inv.tracing.last t f.page_number f.begun f.filling) f.scanned

  -- and nobody copies
  pub nobody_copies : m.traced ≡ E.epoch + 1 → (k : ℕ) (c : Copy) → k < team.count → (team.worker k).copy ≡ Some c → ⊥
  nobody_copies t k c l e = let f = still k c l e (inv.tracing.quiet t) in open_scanning (inv.tracing.last t f.page_number f.begun f.filling) f.scanned

  -- nor is any place written
  pub nobody_writes : m.traced ≡ E.epoch + 1 → (b : ℕ) → 0 < g.size b → g.writer b ≡ 0
  nobody_writes t b st = ⊎_elim
      (λ (z : g.writer b ≡ 0). z)
      (λ (z : g.writer b ≢ 0). let p = writer E m team g inv b (g.writer b - 1) st (omega arith) in absurd (nobody_copies t (g.writer b - 1) p.copy p.below p.copies))
      (cases_eq (g.writer b) 0)

  pub stands_still : StandsStill E m team g
  stands_still = record { still = still; nobody_scans = nobody_scans; nobody_copies = nobody_copies; nobody_writes = nobody_writes }
