-- A word denotes what the proofs know it to.
use Rattle.std.proofs.Common.{◌≡◌, ℕ, ◌+◌, ◌-◌, ◌*◌, ◌/◌, ◌<◌, ◌≤◌, Option, Some, refl, ap, arith, ⊎_elim, ◌⊎◌, inl, inr}
use Rattle.std.proofs.lemmas.Bool.{cases_lt}
use Rattle.heap_words.specs.Decoded.{Decoded, PointerWord, HeaderWord, ForwardWord, Malformed, decode}
use Rattle.plain_state.specs.declared.value.Identity.{Identity}
use Rattle.space_map.specs.declared.page_word.PageWord.TheVariants.{Open}
use Rattle.heap_state.specs.Memory.Table.{IsFormed}
use Rattle.heap_state.specs.Configuration.{Configuration, era, memory, team}
use Rattle.heap_state.specs.Meaning.Denotes.{named_in, denoted, denoted_in, denoted_by}
use Rattle.heap_state.specs.Meaning.Dump.{dump_of}
use Rattle.heap_state.specs.Kept.{kept_of}
use Rattle.heap_state.specs.Meaning.Represents.{own_header}
use Rattle.heap_state.proofs.Walks.Reserving.{kept_there}
use Rattle.heap_state.specs.Memory.Era.{Era, Memory}
use Rattle.heap_state.specs.Invariant.Ghost.{Ghost, IsField, Here, Leads, Lands, header_kind}
use Rattle.heap_state.specs.Invariant.Inductive.{Invariant}
use Rattle.heap_state.specs.Meaning.Values.{value_of, value_said}
use Rattle.heap_state.specs.Targets.{IsCell}
use Rattle.heap_state.proofs.Records.Holding.{First, OwnHeader, KeptBy, GoneTo, first, keeper, uncopied_here}
use Rattle.heap_state.proofs.Walks.InHeap.{IsInReach, lay}

module _ (c : Configuration) (g : Ghost) (formed : IsFormed c.pages c.words) (inv : Invariant (era c) (memory c) (team c) g) where
  abbrev E : Era
  E = era c

  abbrev m : Memory
  m = memory c

  -- the header of a record, by its kind, size and identity
  abbrev pub header_of : ℕ → Decoded
  header_of a = HeaderWord (header_kind (g.kind a)) (g.size a - 1) (g.identity a).serial (g.identity a).mutator

  -- a record has its own header, or is forwarded to its copy
  pub data Headers (a : ℕ) : Type 0 where
    Own : own_header (dump_of c) a ≡ header_of a → (g.copy a ≡ 0) ⊎ (0 < g.keeper a) → Headers a
    Forwarded : (b : ℕ) → own_header (dump_of c) a ≡ Malformed → g.keeper a ≡ 0 → g.copy a ≡ b + 1 → decode (m.heap a) ≡ ForwardWord (g.size a - 1) b → Headers a

  pub headers : (a : ℕ) → 0 < g.size a → g.writer a ≡ 0 → Headers a
  headers a st w = by_first (first E m (team c) g inv a st w)
    where
      by_first : First E m (team c) g inv a → Headers a
      by_first (OwnHeader n y e) = Own (rw e refl) (inl n)
      by_first (KeptBy k y e) = let kp = keeper E m (team c) g inv a k st y in Own (rw (e, kept_there c.workers k, kp.copies) kp.keeps) (inr (omega arith))
      by_first (GoneTo b y n e) = Forwarded b (rw e refl) y n e

  -- ---- words

  -- at a record that nobody writes its identity is named
  pub named : (a : ℕ) → 0 < g.size a → g.writer a ≡ 0 → named_in m.heap (kept_of c.workers) (decode (m.heap a)) ≡ Some (g.identity a)
  named a st w = by_first (first E m (team c) g inv a st w)
    where
      by_first : First E m (team c) g inv a → named_in m.heap (kept_of c.workers) (decode (m.heap a)) ≡ Some (g.identity a)
      by_first (OwnHeader n y e) = rw e refl
      by_first (KeptBy k y e) = let kp = keeper E m (team c) g inv a k st y in rw (e, kept_there c.workers k, kp.copies, kp.keeps) refl
      by_first (GoneTo b y n e) =
          let t = inv.copied.target a b st n in
          let sb : 0 < g.size b = omega (arith, t.4) in
          let wb : g.writer b ≡ 0 = omega (arith, t.7) in
          let u = uncopied_here E m (team c) g inv (lay c g formed inv) b sb t.2 (omega (arith, t.3, inv.laid.order)) in
          rw (e, inv.headed.own b sb wb u.0 u.1) (ap {B = Option Identity} Some t.5)

  -- a word that lands denotes the value that the proofs give it
  pub denotes : (w : ℕ) → Lands g.size g.writer w → denoted c w ≡ value_of g.identity w
  unfolding denoted_in value_of Lands
  denotes w lands = by_word (decode w) refl
    where
      by_word : (d : Decoded) → decode w ≡ d → denoted_by m.heap (kept_of c.workers) d ≡ value_said g.identity d
      by_word (PointerWord a) e = let l = lands a e in rw (named a l.0 l.1) refl
      by_word _ e = refl

  -- ---- where words lead

  -- where the epoch is traced, each page that mutators read is open
  pub all_open : m.traced ≡ E.epoch + 1 → (x : ℕ) → Here E g.size g.writer g.kind x → m.page (x / 64) ≡ Open E.epoch
  unfolding Here
  all_open t x (inr b) = let e : x / 64 ≡ E.board / 64 = omega (arith, (lay c g formed inv).board) in rw e ((inv.tracing.quiet t).board)
  all_open t x (inl f) =
      let st : 0 < g.size f.a = f.field.stands in
      let l = inv.laid.lies f.a st in
      ⊎_elim
      (λ (b : x < m.front). ⊎_elim
      (λ (n : m.front < 64 * (x / 64) + 64). inv.tracing.last t (x / 64) (omega arith) n)
      (λ (n : 64 * (x / 64) + 64 ≤ m.front). (inv.tracing.quiet t).full (x / 64) (omega (arith, f.at, f.inside, (lay c g formed inv).start)) n)
      (cases_lt m.front (64 * (x / 64) + 64)))
      (λ (b : m.front ≤ x). inv.new.opened f.a x st (omega (arith, l, f.at, f.inside, f.field.last, b, (lay c g formed inv).apart, inv.laid.order)) f.inside.1 (omega (arith, f.at)) (omega (arith, f.at, f.field.last)))
      (cases_lt x m.front)

  -- nothing that mutators read leads into the old space then
  pub none_leads : m.traced ≡ E.epoch + 1 → (x : ℕ) → Here E g.size g.writer g.kind x → ¬ (Leads E (m.heap x))
  none_leads t x h = inv.opened.opened x h (all_open t x h)

  -- a word that lands, and that leads into the old space only while records are copied from it, lands in reach
  pub reaches : (w b : ℕ) → Lands g.size g.writer w → (m.traced ≡ E.epoch + 1 → ¬ (Leads E w)) → decode w ≡ PointerWord b → (0 < g.size b) × (g.writer b ≡ 0) × IsInReach E m.traced b
  unfolding Lands Leads
  reaches w b lands leads e =
      let l = lands b e in (
        l.0,
        l.1,
        ⊎_elim
            (λ p. inl (p.0, omega (arith, p.1, l.0, inv.laid.order)))
            (λ p. ⊎_elim
            (λ q. inl (omega (arith, q.0, inv.laid.order), omega (arith, q.1, l.0)))
            (λ q. ⊎_elim
            (λ (t : E.epoch < m.traced). absurd (leads (omega (arith, t, inv.tracing.top)) (b, e, q.0, omega (arith, q.1, l.0))))
            (λ (t : m.traced ≤ E.epoch). inr (t, q.0, omega (arith, q.1, l.0)))
            (cases_lt E.epoch m.traced))
            p)
            (inv.laid.lies b l.0),
      )

  -- a field of a record in reach lands, and leads into the old space only while records are copied from it
  pub field_lands : (a i : ℕ) → IsField g.size g.writer g.kind a i → IsInReach E m.traced a
      → Lands g.size g.writer (m.heap (a + i)) × (m.traced ≡ E.epoch + 1 → ¬ (Leads E (m.heap (a + i))))
  unfolding Here Lands
  field_lands a i f (inl r) =
      let h : Here E g.size g.writer g.kind (a + i) = inl (record { a = a; i = i; field = f; inside = r; at = refl }) in
      (inv.landing.lands (a + i) h, λ t. none_leads t (a + i) h)
  field_lands a i f (inr r) = ((λ b e. let o = inv.older.older a i b f r.1 r.2 e in (o.0, inv.older.written b o.0 o.1 o.2)), λ t. absurd (omega (arith, t, r.0)))

  -- once the epoch is traced no target of a cell of its space leads into the old one
  pub target_clean : m.traced ≡ E.epoch + 1 → (a : ℕ) → IsCell g a → E.start ≤ a → a < E.start + E.span → ¬ (Leads E (m.heap (a + 1)))
  target_clean t a z from to = ⊎_elim
      (λ (l : (E.start ≤ a) × (a + g.size a ≤ m.front)). inv.cells.targets.clean t a (record { stands = z.stands; written = z.written; weak = z.weak; inside = (from, (let st = z.stands in omega (arith, l, st))) }))
      (λ y. ⊎_elim
      (λ l. inv.cells.targets.new a z l.0 to)
      (λ l. absurd (let o = (lay c g formed inv).apart in let st = z.stands in omega (arith, l, from, to, o, st)))
      y)
      (inv.laid.lies a z.stands)

  -- a target of a cell in reach lands, and leads into the old space only while records are copied from it
  pub target_lands : (a : ℕ) → IsCell g a → IsInReach E m.traced a → Lands g.size g.writer (m.heap (a + 1)) × (m.traced ≡ E.epoch + 1 → ¬ (Leads E (m.heap (a + 1))))
  unfolding Lands
  target_lands a z (inl r) = (inv.cells.targets.lands a z r.0 r.1, λ t. target_clean t a z r.0 r.1)
  target_lands a z (inr r) =
      ((λ b e. let o = inv.cells.targets.older r.0 a b z (r.1, r.2) e in (o.0, inv.older.written b o.0 o.1.0 o.1.1)), λ t. absurd (omega (arith, t, r.0)))

  pub board_lands : (x : ℕ) → x < 16 → Lands g.size g.writer (m.heap (E.board + x)) × (m.traced ≡ E.epoch + 1 → ¬ (Leads E (m.heap (E.board + x))))
  unfolding Here
  board_lands x l =
      let h : Here E g.size g.writer g.kind (E.board + x) = inr (omega arith, omega arith) in
      (inv.landing.lands (E.board + x) h, λ t. none_leads t (E.board + x) h)
