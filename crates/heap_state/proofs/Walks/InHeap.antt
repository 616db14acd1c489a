-- What the walks of a configuration meet is what its proofs know to stand there.
use Rattle.std.proofs.Common.{◌≡◌, ◌≢◌, ℕ, ◌+◌, ◌-◌, ◌<◌, ◌≤◌, refl, ap, arith, ⊎_elim, ◌⊎◌, inl, inr, Bool, true}
use Rattle.std.specs.List.{Contains}
use Rattle.heap_state.specs.Memory.Table.{IsFormed}
use Rattle.heap_state.specs.Configuration.{Configuration, table, era, memory, team}
use Rattle.heap_state.specs.Memory.Era.{Era, Memory, IsLaidOut}
use Rattle.heap_state.specs.Functions.{sum_below}
use Rattle.heap_state.specs.Invariant.Ghost.{Ghost}
use Rattle.heap_state.specs.Invariant.Inductive.{Invariant}
use Rattle.heap_state.specs.Invariant.Parts.Records.{SpaceOf}
use Rattle.heap_state.specs.Meaning.Dump.{dump_of}
use Rattle.heap_state.specs.Kept.{kept_of, reserved_in}
use Rattle.heap_state.specs.Meaning.Represents.{IsCopying, IsInHeap}
use Rattle.space_map.specs.declared.page_word.PageWord.{PageWord}
use Rattle.space_map.specs.declared.page_word.PageWord.TheVariants.{Unset, Open, Scanning}
use Rattle.std.proofs.lemmas.Bool.{cases_eq, cases_lt, eq-eqb, ne_eqb}
use Rattle.heap_state.specs.Sums.{sum_of_sizes}
use Rattle.heap_state.specs.Memory.Walk.{Walked, walk_of, old_walk_of, walk_space, is_protected, is_closed_before, IsWalkable, IsOldReadable, met_word, Record}
use Rattle.heap_state.proofs.Records.Holding.{says}
use Rattle.heap_state.proofs.Table.LaidOut.{laid_out}
use Rattle.heap_state.proofs.Walks.Reserving.{tells}
use Rattle.heap_state.proofs.Walks.SpaceWalks.{SpaceSaysSizes, IsClear}
use Rattle.heap_state.proofs.Walks.Spaces.{IsOf, space_sound, space_read, space_complete, space_sum}
use Rattle.heap_state.proofs.Walks.Walking.{item}
use Rattle.heap_words.specs.Decoded.{decode}

-- the address is in the epoch's space, or in the old one while records are copied from it
abbrev pub IsInReach : Era → ℕ → ℕ → Type 0
IsInReach E traced a = ((E.start ≤ a) × (a < E.start + E.span)) ⊎ ((traced ≤ E.epoch) × (E.old_start ≤ a) × (a < E.old_start + E.old_span))

-- a record in the heap stands there, and nobody writes it
pub record StandsWritten (E : Era) (traced : ℕ) (g : Ghost) (w : Walked) : Type 0 where
  pub sized : (0 < w.size) × (g.size w.at ≡ w.size)
  pub written : g.writer w.at ≡ 0
  pub inside : IsInReach E traced w.at

module _ (c : Configuration) (g : Ghost) (formed : IsFormed c.pages c.words) (inv : Invariant (era c) (memory c) (team c) g) where
  abbrev E : Era
  E = era c

  abbrev m : Memory
  m = memory c

  pub lay : IsLaidOut E
  lay = laid_out c.pages c.words formed

  says_here : (a : ℕ) → 0 < g.size a → g.writer a ≡ 0 → met_word (decode (m.heap a)) ≡ Record (g.size a)
  says_here = says E m (team c) g inv

  pub told_now : SpaceSaysSizes E.start m.front m.low (E.start + E.span) E.epoch g.size g.writer m.heap m.page
  told_now = record {
    space = record {
      lies = λ a st f l. ⊎_elim
          (λ p. inl p.1)
          (λ p. ⊎_elim (λ q. inr q) (λ q. absurd (omega (arith, q, f, l, lay.apart))) p)
          (inv.laid.lies a st);
      order = inv.laid.order;
      aligned = inv.laid.aligned;
      first = inv.laid.start;
      next = inv.laid.next;
      new = inv.new;
    };
    end_aligned = omega (arith, lay.start, lay.span);
    apart = inv.laid.apart;
    new_written = inv.new_written.written;
    says = λ a st f l w. says_here a st w;
  }

  clear_now : IsClear g.size m.low
  clear_now a st l = let p = inv.laid.lies a st in omega (arith, p, l, lay.apart, inv.laid.order)

  module _ (copying : m.traced ≤ E.epoch) (d : ℕ) (before : d + 1 ≡ E.epoch) where
    abbrev old : Type 0
    old = SpaceOf E.old_start m.old_front m.old_low (E.old_start + E.old_span) d g.size m.heap m.page

    old_space : old
    old_space = inv.old_space.walks copying d before

    told_old : SpaceSaysSizes E.old_start m.old_front m.old_low (E.old_start + E.old_span) d g.size g.writer m.heap m.page
    told_old = record {
      space = old_space;
      end_aligned = omega (arith, lay.old_start, lay.old_span);
      apart = inv.laid.apart;
      new_written = λ a st f l. inv.older.written a st (omega (arith, old_space.order)) l;
      says = λ a st f l w. says_here a st w;
    }

    clear_old : IsClear g.size m.old_low
    clear_old a st l = ⊎_elim
        (λ p. omega (arith, p, l, lay.apart, inv.laid.order, old_space.order))
        (λ p. ⊎_elim
        (λ q. omega (arith, q, l, lay.apart, inv.laid.order, old_space.order))
        (λ q. let r = old_space.lies a st q.0 (omega (arith, st, q.1)) in omega (arith, r, l, old_space.order))
        p)
        (inv.laid.lies a st)

    -- a page is closed in the epoch before where it is not open in that epoch
    abbrev closed : ℕ → Bool
    closed = λ p. is_protected d (m.page p)

    abbrev closed_then : ℕ → Bool
    closed_then = λ p. is_closed_before E.epoch (m.page p)

    closed_before : closed_then ≡ closed
    closed_before = λ i p. by_word (m.page p) i
      where
        by_word : (w : PageWord) → is_closed_before E.epoch w ≡ is_protected d w
        by_word Unset = refl
        by_word (Open e) = ⊎_elim
            (λ (s : e ≡ d). rw (eq-eqb e d s, eq-eqb (e + 1) E.epoch (omega arith)) refl)
            (λ (n : e ≢ d). rw (ne_eqb e d n, ne_eqb (e + 1) E.epoch (λ q. n (omega arith))) refl)
            (cases_eq e d)
        by_word (Scanning e k) = refl

    old_walk : old_walk_of c ≡ walk_space closed (reserved_in (kept_of c.workers)) m.heap E.old_start m.old_front m.old_low (E.old_start + E.old_span)
    old_walk = ap (λ (passes : ℕ → Bool). walk_space passes (reserved_in (kept_of c.workers)) m.heap E.old_start m.old_front m.old_low (E.old_start + E.old_span)) closed_before

    pub old_sound : (w : Walked) → Contains (old_walk_of c) w → IsOf E.old_start m.old_front m.old_low (E.old_start + E.old_span) g.size g.writer w
    old_sound w h = space_sound E.old_start m.old_front m.old_low (E.old_start + E.old_span) d g.size g.writer m.heap (reserved_in (kept_of c.workers)) m.page told_old
        (λ a f l st. tells E m c.mutators c.workers g inv a st) clear_old w (rw old_walk at h)

    pub old_read : IsOldReadable (table c) (kept_of c.workers)
    old_read = rw closed_before (space_read E.old_start m.old_front m.old_low (E.old_start + E.old_span) d g.size g.writer m.heap (reserved_in (kept_of c.workers)) m.page told_old
        (λ a f l st. tells E m c.mutators c.workers g inv a st) clear_old)

    pub old_complete : (a : ℕ) → E.old_start ≤ a → a < E.old_start + E.old_span → 0 < g.size a → g.writer a ≡ 0 → Contains (old_walk_of c) (item a (g.size a))
    old_complete a f l st w = rw old_walk (space_complete E.old_start m.old_front m.old_low (E.old_start + E.old_span) d g.size g.writer m.heap (reserved_in (kept_of c.workers)) m.page told_old
        (λ a f l st. tells E m c.mutators c.workers g inv a st) clear_old a f l st w)

    pub old_sum : (counts : Walked → Bool) (owes : ℕ → ℕ)
        → ((w : Walked) → IsOf E.old_start m.old_front m.old_low (E.old_start + E.old_span) g.size g.writer w → counts w ≡ true → owes w.at ≡ w.size)
        → sum_of_sizes counts (old_walk_of c) ≤ sum_below E.old_span (λ x. owes (E.old_start + x))
    old_sum counts owes has =
        let s = space_sum E.old_start m.old_front m.old_low (E.old_start + E.old_span) d g.size g.writer m.heap (reserved_in (kept_of c.workers)) m.page told_old
        (λ a f l st. tells E m c.mutators c.workers g inv a st) clear_old counts owes has in
        let e : E.old_start + E.old_span - E.old_start ≡ E.old_span = omega arith in
        rw old_walk (rw e at s)

  pub now_sound : (w : Walked) → Contains (walk_of c) w → IsOf E.start m.front m.low (E.start + E.span) g.size g.writer w
  now_sound w h = space_sound E.start m.front m.low (E.start + E.span) E.epoch g.size g.writer m.heap (reserved_in (kept_of c.workers)) m.page told_now
      (λ a f l st. tells E m c.mutators c.workers g inv a st) clear_now w h

  pub now_read : IsWalkable (table c) (kept_of c.workers)
  now_read = space_read E.start m.front m.low (E.start + E.span) E.epoch g.size g.writer m.heap (reserved_in (kept_of c.workers)) m.page told_now
      (λ a f l st. tells E m c.mutators c.workers g inv a st) clear_now

  -- while the epoch is not traced there is one before it
  pub still_copying : IsCopying (table c) → (m.traced ≤ E.epoch) × (E.epoch - 1 + 1 ≡ E.epoch)
  still_copying n =
      let t : m.traced ≤ E.epoch = ⊎_elim (λ (l : E.epoch < m.traced). absurd (n (omega (arith, l, inv.tracing.top)))) (λ (l : m.traced ≤ E.epoch). l) (cases_lt E.epoch m.traced) in
      (t, omega (arith, t, inv.tracing.begun))

  pub old_readable : IsCopying (table c) → IsOldReadable (table c) (kept_of c.workers)
  old_readable n = let t = still_copying n in old_read t.0 (E.epoch - 1) t.1

  pub now_complete : (a : ℕ) → E.start ≤ a → a < E.start + E.span → 0 < g.size a → g.writer a ≡ 0 → Contains (walk_of c) (item a (g.size a))
  now_complete a f l st w = space_complete E.start m.front m.low (E.start + E.span) E.epoch g.size g.writer m.heap (reserved_in (kept_of c.workers)) m.page told_now
      (λ a f l st. tells E m c.mutators c.workers g inv a st) clear_now a f l st w

  pub in_heap_sound : (w : Walked) → IsInHeap (dump_of c) w → StandsWritten E m.traced g w
  in_heap_sound w (inl h) = let i = now_sound w h in record { sized = i.sized; written = i.written; inside = inl i.inside }
  in_heap_sound w (inr h) =
      let t = still_copying h.0 in
      let i = old_sound t.0 (E.epoch - 1) t.1 w h.1 in
      record { sized = i.sized; written = i.written; inside = inr (t.0, i.inside.0, i.inside.1) }

  pub in_heap_complete : (a : ℕ) → 0 < g.size a → g.writer a ≡ 0 → IsInReach E m.traced a → IsInHeap (dump_of c) (item a (g.size a))
  in_heap_complete a st w (inl r) = inl (now_complete a r.0 r.1 st w)
  in_heap_complete a st w (inr r) =
      let d : E.epoch - 1 + 1 ≡ E.epoch = omega (arith, r.0, inv.tracing.begun) in
      inr ((λ e. omega (arith, e, r.0)), old_complete r.0 (E.epoch - 1) d a r.1 r.2 st w)
