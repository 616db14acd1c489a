-- Who copies and who scans, and where words of this epoch's records lie.
use Rattle.std.proofs.Common.{◌≡◌, ℕ, ◌+◌, ◌-◌, ◌*◌, ◌/◌, ◌<◌, ◌≤◌, Bool, true, false, ◌&&◌, eqb, Some, refl, arith, ⊎_elim, ◌⊎◌, inl, inr}
use Rattle.std.proofs.lemmas.Bool.{cases_lt, ne_eqb}
use Rattle.space_map.specs.declared.page_word.PageWord.{PageWord}
use Rattle.space_map.specs.declared.page_word.PageWord.TheVariants.{Open, Scanning}
use Rattle.space_map.specs.PageWord.{age_of}
use Rattle.heap_state.specs.Memory.Era.{Era, Memory, IsLaidOut}
use Rattle.heap_state.specs.Invariant.Ghost.{Ghost, IsField, Here, OnBoard}
use Rattle.heap_state.specs.Invariant.Inductive.{Invariant}
use Rattle.heap_state.specs.Invariant.Parts.Pages.{Quiet}
use Rattle.heap_state.specs.Known.{Team, Known, Post, Copy, Scan, is_live, is_behind, is_late}
use Rattle.heap_state.proofs.Records.Holding.{writer}
use Rattle.heap_state.proofs.Puts.{true_false}

-- ---- page words

pub open_age : (p : PageWord) (e : ℕ) → p ≡ Open e → age_of p ≡ e + 1
open_age p e q = rw q refl

pub scan_age : (p : PageWord) (e k : ℕ) → p ≡ Scanning e k → age_of p ≡ e + 1
scan_age p e k q = rw q refl

pub open_scan : {p : PageWord} {e d k : ℕ} {A : Type 0} → p ≡ Open e → p ≡ Scanning d k → A
open_scan q r = absurd (cc)

pub scan_scan : {p : PageWord} {e j k : ℕ} → p ≡ Scanning e j → p ≡ Scanning e k → j ≡ k
scan_scan q r = cc

-- ---- who is late

-- who is of the current epoch is not late
pub now_not_late : (e own : ℕ) (post : Post) → own ≡ e → is_behind e post own ≡ false
now_not_late e own post now = both (is_live post) (eqb (own + 1) e) (ne_eqb (own + 1) e (omega arith))
  where
    both : (a b : Bool) → b ≡ false → a && b ≡ false
    both true b n = n
    both false b n = refl

pub not_late : (e : ℕ) (w : Known) {A : Type 0} → w.epoch ≡ e → is_late e w ≡ true → A
not_late e w now late = true_false (now_not_late e w.epoch w.post now) late

-- ---- who copies

module _ (E : Era) (m : Memory) (team : Team) (g : Ghost) (inv : Invariant E m team g) where
  -- the page of FRONT is the only one that can be scanned where all is quiet
  pub scans_last : (k : ℕ) (s : Scan) → k < team.count → (team.worker k).scan ≡ Some s → Quiet E m.gate.behind m.front m.page
      → (64 * s.page < m.front) × (m.front < 64 * s.page + 64) × (m.page s.page ≡ Scanning E.epoch k)
  scans_last k s l e q = let sc = (inv.workers k l).scan s e in by_place sc.claimed sc.place
    where
      by_place : m.page s.page ≡ Scanning E.epoch k → (s.page ≡ E.board / 64) ⊎ ((E.start ≤ 64 * s.page) × (64 * s.page < m.front))
          → (64 * s.page < m.front) × (m.front < 64 * s.page + 64) × (m.page s.page ≡ Scanning E.epoch k)
      by_place c (inl b) = open_scan q.board (rw b at c)
      by_place c (inr b) = ⊎_elim
          (λ (f : m.front < 64 * s.page + 64). (b.1, f, c))
          (λ (f : 64 * s.page + 64 ≤ m.front). open_scan (q.full s.page b.0 f) c)
          (cases_lt m.front (64 * s.page + 64))

  -- where all is quiet, who copies scans that page
  pub copies_last : (k : ℕ) (c : Copy) → k < team.count → (team.worker k).copy ≡ Some c → Quiet E m.gate.behind m.front m.page
      → (s : Scan) × ((team.worker k).scan ≡ Some s) × (64 * s.page < m.front) × (m.front < 64 * s.page + 64) × (m.page s.page ≡ Scanning E.epoch k)
  copies_last k c l e q = by_licence ((inv.workers k l).licensed.licensed c e)
    where
      by_licence : ((s : Scan) × ((team.worker k).scan ≡ Some s)) ⊎ (is_late E.epoch (team.worker k) ≡ true)
          → (s : Scan) × ((team.worker k).scan ≡ Some s) × (64 * s.page < m.front) × (m.front < 64 * s.page + 64) × (m.page s.page ≡ Scanning E.epoch k)
      by_licence (inl s) = let z = scans_last k s.0 l s.1 q in (s.0, s.1, z.0, z.1, z.2)
      by_licence (inr late) = absurd (let y = (inv.workers k l).licensed.counted late in omega (arith, y, q.none))

  -- where no page is scanned there either, no place is written
  pub none_writes : Quiet E m.gate.behind m.front m.page → ((p j : ℕ) → 64 * p < m.front → m.front < 64 * p + 64 → ¬ (m.page p ≡ Scanning E.epoch j)) → (b : ℕ) → 0 < g.size b → g.writer b ≡ 0
  none_writes q free b st = ⊎_elim
      (λ (w : 0 < g.writer b). absurd (let y = writer E m team g inv b (g.writer b - 1) st (omega arith) in let z = copies_last (g.writer b - 1) y.copy y.below y.copies q in free z.0.page (g.writer b - 1) z.2 z.3 z.4))
      (λ (w : g.writer b ≤ 0). let z : g.writer b ≡ 0 = omega arith in z)
      (cases_lt 0 (g.writer b))

  -- ---- where words lie

  -- a word of the epoch's records that is on a page begun below FRONT lies below FRONT or from LOW up on an open page
  module _ (out : IsLaidOut E) where
    pub here_lies : (x : ℕ) → Here E g.size g.writer g.kind x → (OnBoard E x) ⊎ (((E.start ≤ x) × (x < m.front)) ⊎ ((m.low ≤ x) × (x < E.start + E.span) × (m.page (x / 64) ≡ Open E.epoch)))
    unfolding Here
    here_lies x (inr b) = inl b
    here_lies x (inl u) =
        let f : IsField g.size g.writer g.kind u.a u.i = u.field in
        inr (by_place f.stands f.last (inv.laid.lies u.a f.stands))
      where
        by_place : 0 < g.size u.a → u.i < g.size u.a
            → ((E.start ≤ u.a) × (u.a + g.size u.a ≤ m.front)) ⊎ (((m.low ≤ u.a) × (u.a + g.size u.a ≤ E.start + E.span)) ⊎ ((E.old_start ≤ u.a) × (u.a + g.size u.a ≤ E.old_start + E.old_span)))
            → ((E.start ≤ x) × (x < m.front)) ⊎ ((m.low ≤ x) × (x < E.start + E.span) × (m.page (x / 64) ≡ Open E.epoch))
        by_place st l (inl p) = inl (omega (arith, p, u.at), omega (arith, p, u.at, l))
        by_place st l (inr (inl p)) = inr (omega (arith, p, u.at), omega (arith, p, u.at, l), inv.new.opened u.a x st p.0 u.inside.1 (omega (arith, u.at)) (omega (arith, u.at, l)))
        by_place st l (inr (inr p)) = absurd (let a = out.apart in omega (arith, p, u.inside, a, st))
