-- While somebody copies the epoch is not traced, and there is room for the copy.
use Rattle.std.proofs.Common.{◌≡◌, ◌≢◌, ℕ, ◌+◌, ◌-◌, ◌*◌, ◌/◌, ◌<◌, ◌≤◌, false, sym, ap, ◌∙◌, arith, Some, ⊎_elim}
use Rattle.std.proofs.lemmas.Bool.{cases_eq}
use Rattle.space_map.specs.declared.page_word.PageWord.TheVariants.{Scanning}
use Rattle.heap_state.specs.Memory.Era.{Era, Memory}
use Rattle.heap_state.specs.Invariant.Ghost.{Ghost}
use Rattle.heap_state.specs.Invariant.Inductive.{Invariant, Knows}
use Rattle.heap_state.specs.Invariant.Parts.Copies.{owing}
use Rattle.heap_state.specs.Invariant.Parts.Copying.{IsOrigin}
use Rattle.heap_state.specs.Invariant.Parts.Pages.{Quiet}
use Rattle.heap_state.specs.Known.{Team, Copy, Scan, Origin, Register, Scanned, is_late}
use Rattle.heap_state.proofs.Puts.{some_same}
use Rattle.heap_state.proofs.Holds.Still.{still, nobody_copies}
use Rattle.heap_laws.specs.Copying.{HasRoomForCopy, CopiesHaveRoom}
use Rattle.heap_laws.specs.Steps.{Ready}
use Rattle.heap_laws.proofs.Flipping.Sums.{sum_below-term}
use Rattle.heap_laws.proofs.Scanning.Scanners.{scan_scan}

module _ (E : Era) (m : Memory) (team : Team) (g : Ghost) (k : ℕ) (c : Copy) (ready : Ready E m team g k) (has : (team.worker k).copy ≡ Some c) where
  abbrev before : Invariant E m team g
  before = ready.invariant

  known : Knows E m.gate m.traced m.front m.low m.old_front m.old_low m.old_owed g m.page m.cross m.announced m.heap k (team.worker k)
  known = before.workers k ready.member

  -- while somebody copies the epoch is not traced
  pub untraced : m.traced ≤ E.epoch
  untraced = ⊎_elim
      (λ (e : m.traced ≡ E.epoch + 1). absurd (nobody_copies E m team g before e k c ready.member has))
      (λ (d : m.traced ≢ E.epoch + 1). let t = before.tracing.top in omega (arith, t, d))
      (cases_eq m.traced (E.epoch + 1))

  -- who scans where all is quiet is who copies, and has not come to the end
  pub alone : Quiet E m.gate.behind m.front m.page → (j : ℕ) (s : Scan) → m.page s.page ≡ Scanning E.epoch j → 64 * s.page < m.front → m.front < 64 * s.page + 64 → j ≡ k
  alone quiet j s claimed begun filling =
      let f = still E m team g before k c ready.member has quiet in
      let e : s.page ≡ f.page_number = omega (arith, f.begun, f.filling, begun, filling) in
      scan_scan claimed (ap m.page e ∙ f.scanned)

  pub goes_on : Quiet E m.gate.behind m.front m.page → (s : Scan) → (team.worker k).scan ≡ Some s → s.ended ≡ false
  goes_on quiet s e = let a = known.licensed.asked c has in by_origin (a.0).origin (known.origin a.0 a.1)
    where
      by_origin : (o : Origin) → IsOrigin E g.size g.writer g.kind m.heap (is_late E.epoch (team.worker k)) (team.worker k).done (team.worker k).registers (team.worker k).scan ((known.licensed.asked c has).0).old o → s.ended ≡ false
      by_origin (Register r) x = absurd (let b = known.licensed.counted x.0 in let z = quiet.none in omega (arith, b, z))
      by_origin (Scanned y) x =
          let of : (t : Scan) × ((team.worker k).scan ≡ Some t) × (t.cursor ≡ y) × (y / 64 ≡ t.page) × (t.ended ≡ false) = x.0 in
          let q : of.0 ≡ s = some_same (sym of.1 ∙ e) in ap (λ (t : Scan). t.ended) (sym q) ∙ of.4

  module _ (loose : c.reserved ≡ false) where
    pub at_source : owing g.size g.copy (E.old_start + (c.from - E.old_start)) ≡ c.size
    at_source = let o = (known.copy c has).old in let q : E.old_start + (c.from - E.old_start) ≡ c.from = omega (arith, o) in let y = ((known.copy c has).loose loose).0 in rw (q, y) (o.1)

    pub has_room : HasRoomForCopy m c
    has_room =
        let o = (known.copy c has).old in
        let q = sum_below-term E.old_span (λ x. owing g.size g.copy (E.old_start + x)) (c.from - E.old_start) (omega (arith, o)) in
        let r = before.room.needs untraced in
        let f = before.room.fits untraced in
        record { owed = omega (arith, q, r, at_source); below_low = omega (arith, q, r, at_source, f) }

pub copies_have_room : CopiesHaveRoom
copies_have_room E m team g k c ready has loose = has_room E m team g k c ready has loose
