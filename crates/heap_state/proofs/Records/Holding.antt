-- What the invariant says of a record's first word, and of who keeps its header or writes it.
use Rattle.std.proofs.Common.{◌≡◌, ◌≢◌, ℕ, ◌+◌, ◌-◌, ◌<◌, ◌≤◌, true, false, Option, Some, None, refl, sym, ap, ◌∙◌, arith, ⊎_elim, ◌⊎◌, inl, inr}
use Rattle.std.proofs.lemmas.Bool.{cases_eq, cases_lt, cases_Bool}
use Rattle.heap_words.specs.Decoded.{HeaderWord, BusyWord, ForwardWord, decode}
use Rattle.heap_state.specs.Memory.Era.{Era, Memory, IsLaidOut}
use Rattle.heap_state.specs.Invariant.Ghost.{Ghost, header_kind}
use Rattle.heap_state.specs.Invariant.Inductive.{Invariant, Knows}
use Rattle.heap_state.specs.Memory.Walk.{Record, met_word}
use Rattle.heap_state.specs.Known.{Team, Copy}

-- the worker at k keeps the header of the record at a, and copies it to b or to nowhere yet
pub record Keeper (g : Ghost) (team : Team) (a k : ℕ) : Type 0 where
  pub below : k < team.count
  pub copy : Copy
  pub copies : (team.worker k).copy ≡ Some copy
  pub from : copy.from ≡ a
  pub sized : copy.size ≡ g.size a
  pub keeps : decode copy.header ≡ HeaderWord (header_kind (g.kind a)) (g.size a - 1) (g.identity a).serial (g.identity a).mutator

-- the worker at k writes the copy at b, in the place that it has reserved
pub record Writer (g : Ghost) (team : Team) (b k : ℕ) : Type 0 where
  pub below : k < team.count
  pub copy : Copy
  pub copies : (team.worker k).copy ≡ Some copy
  pub reserved : copy.reserved ≡ true
  pub to : copy.to ≡ b
  pub sized : copy.size ≡ g.size b

module _ (E : Era) (m : Memory) (team : Team) (g : Ghost) (inv : Invariant E m team g) where
  knows : (k : ℕ) → k < team.count → Knows E m.gate m.traced m.front m.low m.old_front m.old_low m.old_owed g m.page m.cross m.announced m.heap k (team.worker k)
  knows = inv.workers

  -- who keeps a header copies that record
  pub keeper : (a k : ℕ) → 0 < g.size a → g.keeper a ≡ k + 1 → Keeper g team a k
  keeper a k st y =
      let lt = inv.kept.kept a k st y in
      let mine = (inv.copied.keeper_of a k st y).0 in
      by_copy lt mine (team.worker k).copy refl
    where
      by_copy : k < team.count → g.kept k ≡ a + 1 → (o : Option Copy) → (team.worker k).copy ≡ o → Keeper g team a k
      by_copy lt mine None e = absurd (let z = (knows k lt).licensed.idle e in omega (arith, z, mine))
      by_copy lt mine (Some c) e =
          let cs = (knows k lt).copy c e in
          let ks = (knows k lt).keeps c e in
          let from : c.from ≡ a = omega (arith, cs.old.3, mine) in
          let sized : c.size ≡ g.size a = sym cs.old.1 ∙ ap g.size from in
          record { below = lt; copy = c; copies = e; from = from; sized = sized; keeps = rw (from, sized) at ks.keeps }

  -- a place that is written is one that its worker has reserved
  pub writer : (b k : ℕ) → 0 < g.size b → g.writer b ≡ k + 1 → Writer g team b k
  writer b k st w =
      let o = inv.copied.origin b st (omega (arith, w)) in
      let t = inv.copied.target o.0 b o.1 o.2 in
      let y : g.keeper o.0 ≡ k + 1 = omega (arith, t.7, w) in
      let kp = keeper o.0 k o.1 y in
      by_place o.0 o.2 t.4 kp (cases_Bool kp.copy.reserved)
    where
      by_place : (a : ℕ) → g.copy a ≡ b + 1 → g.size b ≡ g.size a → (kp : Keeper g team a k) → (kp.copy.reserved ≡ true) ⊎ (kp.copy.reserved ≡ false) → Writer g team b k
      by_place a c s kp (inr r) = absurd (let cs = (knows k kp.below).copy kp.copy kp.copies in let l = cs.loose r in let q : g.copy kp.copy.from ≡ g.copy a = ap g.copy kp.from in omega (arith, l.0, q, c))
      by_place a c s kp (inl r) =
          let cs = (knows k kp.below).copy kp.copy kp.copies in
          let p = cs.place r in
          let q : g.copy kp.copy.from ≡ g.copy a = ap g.copy kp.from in
          record { below = kp.below; copy = kp.copy; copies = kp.copies; reserved = r; to = omega (arith, p.1, q, c); sized = kp.sized ∙ sym s }

  -- a reserved place is written by who has reserved it
  pub reserves : (k : ℕ) (c : Copy) → k < team.count → (team.worker k).copy ≡ Some c → c.reserved ≡ true → (g.writer c.to ≡ k + 1) × (g.size c.to ≡ c.size) × (0 < c.size)
  reserves k c lt e r = let cs = (knows k lt).copy c e in let p = cs.place r in (p.2, p.3, cs.old.0)

  -- ---- a record's first word

  -- what stands at the place of a record that nobody writes
  pub data First (a : ℕ) : Type 0 where
    OwnHeader : g.copy a ≡ 0 → g.keeper a ≡ 0 → decode (m.heap a) ≡ HeaderWord (header_kind (g.kind a)) (g.size a - 1) (g.identity a).serial (g.identity a).mutator → First a
    KeptBy : (k : ℕ) → g.keeper a ≡ k + 1 → decode (m.heap a) ≡ BusyWord (g.size a - 1) k → First a
    GoneTo : (b : ℕ) → g.keeper a ≡ 0 → g.copy a ≡ b + 1 → decode (m.heap a) ≡ ForwardWord (g.size a - 1) b → First a

  pub first : (a : ℕ) → 0 < g.size a → g.writer a ≡ 0 → First a
  first a st w = ⊎_elim
      (λ (y : g.keeper a ≡ 0). ⊎_elim
      (λ (n : g.copy a ≡ 0). OwnHeader n y (inv.headed.own a st w n y))
      (λ (n : g.copy a ≢ 0). let e : g.copy a ≡ (g.copy a - 1) + 1 = omega arith in GoneTo (g.copy a - 1) y e (inv.headed.gone a (g.copy a - 1) st e y))
      (cases_eq (g.copy a) 0))
      (λ (y : g.keeper a ≢ 0). let e : g.keeper a ≡ (g.keeper a - 1) + 1 = omega arith in KeptBy (g.keeper a - 1) e (inv.headed.kept a (g.keeper a - 1) st e))
      (cases_eq (g.keeper a) 0)

  pub says : (a : ℕ) → 0 < g.size a → g.writer a ≡ 0 → met_word (decode (m.heap a)) ≡ Record (g.size a)
  says a st w = by_first (first a st w)
    where
      z : g.size a - 1 + 1 ≡ g.size a
      z = omega arith

      by_first : First a → met_word (decode (m.heap a)) ≡ Record (g.size a)
      by_first (OwnHeader n y e) = rw (e, z) refl
      by_first (KeptBy k y e) = rw (e, z) refl
      by_first (GoneTo b y c e) = rw (e, z) refl

  -- a record of the epoch's space has no copy, and nobody keeps its header
  module _ (laid_out : IsLaidOut E) where
    pub uncopied_here : (a : ℕ) → 0 < g.size a → E.start ≤ a → a < E.start + E.span → (g.copy a ≡ 0) × (g.keeper a ≡ 0)
    uncopied_here a st f l = (
      ⊎_elim (λ (n : 0 < g.copy a). absurd (let t = inv.copied.target a (g.copy a - 1) st (omega arith) in omega (arith, t.0, t.1, laid_out.apart))) (λ (n : g.copy a ≤ 0). let q : g.copy a ≡ 0 = omega arith in q) (cases_lt 0 (g.copy a)),
      ⊎_elim (λ (n : 0 < g.keeper a). absurd (let t = inv.copied.keeper_of a (g.keeper a - 1) st (omega arith) in omega (arith, t.1, t.2, laid_out.apart))) (λ (n : g.keeper a ≤ 0). let q : g.keeper a ≡ 0 = omega arith in q) (cases_lt 0 (g.keeper a)),
    )
