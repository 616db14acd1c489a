-- A scan goes on.
use Rattle.std.proofs.Common.{◌≡◌, ◌≢◌, ℕ, ◌+◌, ◌*◌, ◌/◌, ◌<◌, ◌≤◌, true, Some, None, refl, sym, ap, ◌∙◌, arith, ⊎_elim, ◌⊎◌, inl, inr}
use Rattle.std.proofs.lemmas.Bool.{cases_eq, cases_lt, eq-eqb, ne_eqb, leb-true}
use Rattle.plain_state.specs.declared.kind.Kind.{Kind}
use Rattle.heap_state.specs.Memory.Era.{Era, Memory}
use Rattle.heap_state.specs.Invariant.Ghost.{Ghost, Here, Leads}
use Rattle.heap_state.specs.Invariant.Inductive.{Invariant, Knows}
use Rattle.heap_state.specs.Invariant.Parts.Copying.{Copies, IsOrigin, Keeps, Licensed, Seeks}
use Rattle.heap_state.specs.Invariant.Parts.Scanning.{Scans, Stepping}
use Rattle.heap_state.specs.Known.{Known, Team, Copy, Scan, SeenRecord, Quest, is_late}
use Rattle.heap_state.proofs.Records.Holding.{writer}
use Rattle.heap_state.proofs.Puts.{some_same, none≢some}
use Rattle.heap_laws.specs.Scanning.Words.{scanning, is_past, on_to}
use Rattle.heap_laws.specs.Steps.{with_worker, Preserves}
use Rattle.heap_laws.proofs.Cells.Kept.{idle_in_chain}
use Rattle.heap_laws.proofs.Steps.Learning.{learns}

-- from s the scan may go on as t over these words
pub record ScanGoesOn (E : Era) (front : ℕ) (size writer : ℕ → ℕ) (kind : ℕ → Kind) (heap : ℕ → ℕ) (s t : Scan) : Type 0 where
  pub page : t.page ≡ s.page
  pub clean : (x : ℕ) → Here E size writer kind x → x / 64 ≡ s.page → s.cursor ≤ x → x < t.cursor → ¬ (Leads E (heap x))
  pub top : (s.page ≡ E.board / 64) ⊎ (t.cursor ≤ front)
  pub stepping : Stepping E front size writer kind t

-- what is past is past
pub past : (E : Era) (page y : ℕ) → is_past E page y ≡ true → (64 * page + 64 ≤ y) ⊎ ((page ≡ E.board / 64) × (E.board + 16 ≤ y))
past E page y e = ⊎_elim
    (λ (b : page ≡ E.board / 64). inr (b, leb-true (E.board + 16) y (rw (eq-eqb page (E.board / 64) b) at e)))
    (λ (n : page ≢ E.board / 64). inl (leb-true (64 * page + 64) y (rw (ne_eqb page (E.board / 64) n) at e)))
    (cases_eq page (E.board / 64))

-- which record the cursor is in, further on in the same
pub stepping_on : (E : Era) (front : ℕ) (size writer : ℕ → ℕ) (kind : ℕ → Kind) (s : Scan) (y : ℕ) → s.cursor ≤ y → ((r : SeenRecord) → s.current ≡ Some r → y ≤ r.next)
    → Stepping E front size writer kind s → Stepping E front size writer kind (on_to E s y)
stepping_on E front size writer kind s y forward within p = record {
  over = p.over;
  headed = λ h e. none≢some e;
  current = λ r e. let c = p.current r e in
      record { stands = c.stands; written = c.written; fields = c.fields; whole = c.whole; inside = c.inside; entered = let q = c.entered in omega (arith, q, forward); cursor = within r e };
  inner = λ e. absurd (cc);
  begun = let b = p.begun in omega (arith, b, forward);
  full = p.full;
  ended = λ e. ⊎_elim (λ l. inl l) (λ b. inr (inl b)) (past E s.page y e);
}

module _ (E : Era) (m : Memory) (team : Team) (g : Ghost) (k : ℕ) (s : Scan) (inv : Invariant E m team g) (below : k < team.count) (scans : (team.worker k).scan ≡ Some s) (no_copy : (c : Copy) → (team.worker k).copy ≡ Some c → ⊥) where
  abbrev KnowsThen : (ℕ → ℕ) → Known → Type 0
  KnowsThen heap w = Knows E m.gate m.traced m.front m.low m.old_front m.old_low m.old_owed g m.page m.cross m.announced heap k w

  me : Knows E m.gate m.traced m.front m.low m.old_front m.old_low m.old_owed g m.page m.cross m.announced m.heap k (team.worker k)
  me = inv.workers k below

  -- what the worker knows of its scan after it went on
  scans_on : (heap : ℕ → ℕ) (t : Scan) → ScanGoesOn E m.front g.size g.writer g.kind heap s t → Scans E m.front g.size g.writer g.kind heap m.page k s → Scans E m.front g.size g.writer g.kind heap m.page k t
  scans_on heap t on p = record {
    claimed = rw on.page p.claimed;
    place = rw on.page p.place;
    passed = λ x u e l. let f : x / 64 ≡ s.page = e ∙ on.page in ⊎_elim (λ (q : x < s.cursor). p.passed x u f q) (λ (q : s.cursor ≤ x). on.clean x u f q l) (cases_lt x s.cursor);
    cursor = rw on.page on.top;
    above = λ b x st w l n e. absurd (let y = writer E m team g inv b k st w in no_copy y.copy y.copies);
  }

  pub same_page : (t : Scan) → t.page ≡ s.page → (r : Scan) → (team.worker k).scan ≡ Some r → (u : Scan) × ((scanning (team.worker k) t).scan ≡ Some u) × (u.page ≡ r.page)
  same_page t e r f = let z : s ≡ r = some_same (sym scans ∙ f) in (t, refl, e ∙ ap (λ (y : Scan). y.page) z)

  -- what the worker knows after it went on
  pub knows_on : (heap : ℕ → ℕ) (t : Scan) → ScanGoesOn E m.front g.size g.writer g.kind heap s t → Scans E m.front g.size g.writer g.kind heap m.page k s → KnowsThen heap (scanning (team.worker k) t)
  knows_on heap t on sc =
      let u = me in
      let o1 : (q : Quest) → None ≡ Some q → IsOrigin E g.size g.writer g.kind heap (is_late E.epoch (team.worker k)) (team.worker k).done (team.worker k).registers (Some t) q.old q.origin = λ q e. none≢some e in
      let o2 : (q : Quest) → None ≡ Some q → Seeks E g.size g.writer g.copy q = λ q e. none≢some e in
      let o3 : Licensed m.gate.behind g.kept k (is_late E.epoch (team.worker k)) (team.worker k).copy None (Some t) =
      record { licensed = λ c e. absurd (no_copy c e); asked = λ c e. absurd (no_copy c e); counted = me.licensed.counted; idle = me.licensed.idle } in
      let o4 : (c : Copy) → (team.worker k).copy ≡ Some c → Copies E m.front g.size g.writer g.copy g.keeper g.kept m.announced m.cross heap k c = λ c e. absurd (no_copy c e) in
      let o5 : (c : Copy) → (team.worker k).copy ≡ Some c → Keeps g.kind g.identity heap c = λ c e. absurd (no_copy c e) in
      let o6 : (r : Scan) → Some t ≡ Some r → (team.worker k).epoch ≡ E.epoch = λ r e. me.present s scans in
      let o7 : (r : Scan) → Some t ≡ Some r → Scans E m.front g.size g.writer g.kind heap m.page k r = λ r e. rw (← some_same e) (scans_on heap t on sc) in
      let o8 : (r : Scan) → Some t ≡ Some r → Stepping E m.front g.size g.writer g.kind r = λ r e. rw (← some_same e) on.stepping in
      assumption

  -- a load after which the scan goes on
  pub goes_on : (team.worker k).quest ≡ None → (t : Scan) → ScanGoesOn E m.front g.size g.writer g.kind m.heap s t → Preserves E m m team (with_worker team k (scanning (team.worker k) t)) g g
  goes_on idle t on = learns E m team g k (scanning (team.worker k) t) inv
      (let c = idle_in_chain (scanning (team.worker k) t) (team.worker k) idle refl refl (refl, refl) refl in
      assumption)
      (same_page t on.page) (knows_on m.heap t on (me.scan s scans))

-- who asks for nothing copies nothing
pub no_copy : (E : Era) (m : Memory) (team : Team) (g : Ghost) (k : ℕ) → Invariant E m team g → k < team.count → (team.worker k).quest ≡ None → (c : Copy) → (team.worker k).copy ≡ Some c → ⊥
no_copy E m team g k inv below idle c e = let q = (inv.workers k below).licensed.asked c e in none≢some (sym idle ∙ q.1)
