-- The heap of now, frozen in a traced epoch, shows the board and the records of the plain heap, and lies on open pages.
use Rattle.std.proofs.Common.{◌≡◌, ◌≢◌, ℕ, ◌+◌, ◌*◌, ◌/◌, ◌%◌, ◌<◌, ◌≤◌, true, length, Some, slice_get, slice_index_or, inl, inr, ⊎_elim, refl, sym, ap, ◌∙◌, subst, arith}
use Rattle.std.proofs.lemmas.Bool.{cases_eq, cases_lt, and_parts, and_from, or_cases, or_left, or_right, eqb-true, eq-eqb, leb-true, le-leb, ltb-true, lt-ltb}
use Rattle.std.proofs.lemmas.Option.{slice_get-get_or}
use Rattle.std.specs.Option.{option_and_then}
use Rattle.heap_words.specs.Decoded.{PointerWord, decode}
use Rattle.plain_state.specs.declared.kind.Kind.TheVariants.{Weak}
use Rattle.plain_state.specs.declared.value.Value.TheVariants.{Number}
use Rattle.plain_state.specs.Cells.{cell_of, value_of_cell}
use Rattle.plain_state.specs.Layout.{is_field, size_of}
use Rattle.plain_state.specs.State as plain
use Rattle.space_map.specs.declared.page_word.PageWord.{PageWord}
use Rattle.space_map.specs.declared.page_word.PageWord.TheVariants.{Unset, Open, Scanning}
use Rattle.space_map.specs.Spaces.{board_page, to_space, page_of}
use Rattle.heap_state.specs.Invariant.Ghost.{Ghost, Here, Leads, Lands, IsField}
use Rattle.heap_state.specs.Invariant.Inductive.{Invariant}
use Rattle.heap_state.specs.Invariant.Parts.Pages.{Quiet}
use Rattle.heap_state.specs.Meaning.Values.{MayBeEmptied, Shown, value_of}
use Rattle.heap_state.specs.Memory.Era.{Era, Memory, IsLaidOut, era_at, era_of, memory_of}
use Rattle.heap_state.specs.Memory.Table.{Table}
use Rattle.heap_state.specs.Saving.Frozen.{Frozen, IsPageOf}
use Rattle.heap_state.specs.Saving.Kept.{ShowsKept}
use Rattle.heap_state.specs.Targets.{IsCell}
use Rattle.heap_state.specs.Known.{Team}
use Rattle.heap_state.proofs.Puts.{some_same}
use Rattle.heap_state.proofs.Records.Holding.{uncopied_here}
use Rattle.heap_laws.specs.Saving.Snapping.{is_page_of, is_open_in, frozen_of, FrozenHeapsShow}
use Rattle.heap_laws.specs.Tracing.{NothingLeads}
use Rattle.heap_laws.proofs.Flipping.Sums.{stood, inside}
use Rattle.heap_laws.proofs.Frames.Values.{board_here, field_here, pointer_lands}
use Rattle.heap_laws.proofs.Tracing.TracedExchange.{leads_nowhere}

-- ---- which pages are held

open_tested : (epoch : ℕ) (w : PageWord) → w ≡ Open epoch → is_open_in epoch w ≡ true
open_tested epoch w is = rw is (eq-eqb epoch epoch refl)

tested_open : (epoch : ℕ) (w : PageWord) → is_open_in epoch w ≡ true → w ≡ Open epoch
tested_open epoch Unset is = cc
tested_open epoch (Open e) is = let same = eqb-true e epoch is in rw same refl
tested_open epoch (Scanning e worker) is = cc

page_tested : (n epoch page : ℕ) → IsPageOf n epoch page → is_page_of n epoch page ≡ true
unfolding IsPageOf
page_tested n epoch page is = ⊎_elim
    (λ (board : page ≡ board_page n). or_left _ _ (eq-eqb page (board_page n) board))
    (λ (within : (n * to_space epoch ≤ page) × (page < n * to_space epoch + n)).
    or_right _ _ (and_from _ _ (le-leb (n * to_space epoch) page within.0) (lt-ltb page (n * to_space epoch + n) within.1)))
    is

tested_page : (n epoch page : ℕ) → is_page_of n epoch page ≡ true → IsPageOf n epoch page
unfolding IsPageOf
tested_page n epoch page is = ⊎_elim
    (λ board. inl (eqb-true page (board_page n) board))
    (λ within.
    let parts = and_parts _ _ within in
    inr (leb-true (n * to_space epoch) page parts.0, ltb-true page (n * to_space epoch + n) parts.1))
    (or_cases _ _ is)

-- a page of an epoch is one of the table
pub below_board : (n epoch page : ℕ) → IsPageOf n epoch page → page ≤ board_page n
unfolding IsPageOf
below_board n epoch page is = ⊎_elim
    (λ (board : page ≡ board_page n). omega (arith, board))
    (λ (within : (n * to_space epoch ≤ page) × (page < n * to_space epoch + n)). ⊎_elim
    (λ (even : epoch % 2 ≡ 0). let below = rw even at within in omega (arith, below))
    (λ (odd : epoch % 2 ≢ 0). let is_odd : epoch % 2 ≡ 1 = omega (arith, odd) in let below = rw is_odd at within in omega (arith, below))
    (cases_eq (epoch % 2) 0))
    is

module _ (t : Table) (g : Ghost) (page : ℕ) where
  -- a page of the epoch's space, or the board's, is held if it is open
  pub open_held : IsPageOf t.pages t.gate.epoch page → t.page page ≡ Open t.gate.epoch → (frozen_of t g).held page ≡ true
  open_held is opened = and_from _ _ (page_tested t.pages t.gate.epoch page is) (open_tested t.gate.epoch (t.page page) opened)

  pub held_open : (frozen_of t g).held page ≡ true → IsPageOf t.pages t.gate.epoch page × (t.page page ≡ Open t.gate.epoch)
  held_open held = let parts = and_parts _ _ held in (tested_page t.pages t.gate.epoch page parts.0, tested_open t.gate.epoch (t.page page) parts.1)

-- ---- where pages lie

-- no more pages are in use than there are
pub used_fits : (n e : ℕ) (in_use : ℕ → ℕ) → IsLaidOut (era_at n in_use e) → in_use (to_space e) ≤ n
used_fits n e in_use out = ⊎_elim
    (λ (z : e % 2 ≡ 0).
    let o : (e + 1) % 2 ≡ 1 = omega (arith, z) in
    let below = rw z at out.below in
    ⊎_elim
    (λ y. rw z (omega (arith, rw (z, o) at y)))
    (λ y. rw z (omega (arith, rw (z, o) at y, below)))
    out.apart)
    (λ (z : e % 2 ≢ 0).
    let q : e % 2 ≡ 1 = omega (arith, z) in
    let below = rw q at out.below in
    rw q (omega (arith, below)))
    (cases_eq (e % 2) 0)

pub within_pages : (first used n x : ℕ) → used ≤ n → 64 * first ≤ x → x < 64 * first + 64 * used → (first ≤ x / 64) × (x / 64 < first + n)
within_pages first used n x most least below = (omega (arith, least), omega (arith, most, below))

module _ (t : Table) (team : Team) (g : Ghost) (out : IsLaidOut (era_of t)) (inv : Invariant (era_of t) (memory_of t) team g)
    (traced : t.traced ≡ t.gate.epoch + 1) where
  abbrev E : Era
  E = era_of t

  abbrev m : Memory
  m = memory_of t

  abbrev z : Frozen
  z = frozen_of t g

  nothing : NothingLeads E m team g
  nothing = leads_nowhere E m team g out inv traced

  quiet : Quiet E m.gate.behind m.front m.page
  quiet = inv.tracing.quiet traced

  board_held : z.held (board_page t.pages) ≡ true
  unfolding IsPageOf
  board_held =
      let home : page_of E.board ≡ board_page t.pages = omega arith in
      open_held t g (board_page t.pages) (inl refl) (subst (λ p. t.page p ≡ Open t.gate.epoch) home quiet.board)

  -- a word of the epoch's space on an open page is held
  space_held : (x : ℕ) → E.start ≤ x → x < E.start + E.span → m.page (page_of x) ≡ Open E.epoch → z.held (page_of x) ≡ true
  unfolding IsPageOf
  space_held x least below opened =
      open_held t g (page_of x) (inr (within_pages (t.pages * to_space t.gate.epoch) (t.in_use (to_space t.gate.epoch)) t.pages x (used_fits t.pages t.gate.epoch t.in_use out) least below)) opened

  -- a word below FRONT is on an open page
  copied_open : (x : ℕ) → E.start ≤ x → x < m.front → m.page (page_of x) ≡ Open E.epoch
  copied_open x least below = ⊎_elim
      (λ (filling : m.front < 64 * (x / 64) + 64). inv.tracing.last traced (x / 64) (omega (arith, below)) filling)
      (λ (full : 64 * (x / 64) + 64 ≤ m.front). let start = out.start in quiet.full (x / 64) (omega (arith, least, start)) full)
      (cases_lt m.front (64 * (x / 64) + 64))

  -- each word of a record of the epoch's space is held
  record_held : (a i : ℕ) → 0 < g.size a → E.start ≤ a → a < E.start + E.span → i < g.size a → z.held (page_of (a + i)) ≡ true
  record_held a i stands least below within =
      let order = inv.laid.order in
      ⊎_elim
      (λ (copied : (E.start ≤ a) × (a + g.size a ≤ m.front)).
      space_held (a + i) (omega (arith, least)) (omega (arith, copied, order, within)) (copied_open (a + i) (omega (arith, least)) (omega (arith, copied, within))))
      (λ y. ⊎_elim
      (λ (new : (m.low ≤ a) × (a + g.size a ≤ E.start + E.span)).
      space_held (a + i) (omega (arith, least)) (omega (arith, new, within))
      (inv.new.opened a (a + i) stands new.0 below (omega arith) (omega (arith, within))))
      (λ (old : (E.old_start ≤ a) × (a + g.size a ≤ E.old_start + E.old_span)). absurd (let apart = out.apart in omega (arith, old, apart, stands, least, below)))
      y)
      (inv.laid.lies a stands)

  -- ---- where words lead

  -- what stands, but not in the old space, stands in the epoch's space
  lands_there : (w b : ℕ) → Lands g.size g.writer w → ¬ (Leads E w) → decode w ≡ PointerWord b → 0 < z.size b
  unfolding Leads
  lands_there w b lands out_of_old points =
      let stands = pointer_lands g.size g.writer w b lands points in
      let order = inv.laid.order in
      let kept : E.start ≤ b → b < E.start + E.span → 0 < z.size b = λ least below. let same = inside E.start E.span g.size b least below in omega (arith, same, stands) in
      ⊎_elim
      (λ (copied : (E.start ≤ b) × (b + g.size b ≤ m.front)). kept copied.0 (omega (arith, copied, order, stands)))
      (λ y. ⊎_elim
      (λ (new : (m.low ≤ b) × (b + g.size b ≤ E.start + E.span)). kept (omega (arith, new, order)) (omega (arith, new, stands)))
      (λ (old : (E.old_start ≤ b) × (b + g.size b ≤ E.old_start + E.old_span)). absurd (out_of_old (b, points, old.0, omega (arith, old, stands))))
      y)
      (inv.laid.lies b stands)

  -- so does what a word leads to that mutators read
  lands_here : (x b : ℕ) → Here E g.size g.writer g.kind x → decode (m.heap x) ≡ PointerWord b → 0 < z.size b
  lands_here x b here points = lands_there (m.heap x) b (inv.landing.lands x here) (nothing.clean x here) points

  -- ---- records

  module _ (a : ℕ) (kept : 0 < z.size a) where
    abbrev Stood : Type 0
    Stood = (0 < g.size a) × (E.start ≤ a) × (a < E.start + E.span) × (z.size a ≡ g.size a)

    pub it_stood : Stood
    it_stood = stood E.start E.span g.size a kept

    pub uncopied : (g.copy a ≡ 0) × (g.keeper a ≡ 0)
    uncopied = uncopied_here E m team g inv out a it_stood.0 it_stood.1 it_stood.2

    written : g.writer a ≡ 0
    written = nothing.none_writes a it_stood.0

    record_shows : (p : plain.Plain) → Shown E m team g p → ShowsKept z p.heap.records a
    record_shows p shown =
        let there = shown.objects.shows a it_stood.0 written (inl uncopied.0) in
        let header = inv.headed.own a it_stood.0 written uncopied.0 uncopied.1 in
        record {
          shown = there.0;
          is = there.1;
          shows = rw it_stood.3 there.2;
          header = rw it_stood.3 header;
          held = λ i within. record_held a i it_stood.0 it_stood.1 it_stood.2 (rw it_stood.3 at within);
        }

    field_leads : (i b : ℕ) → 0 < i → i < z.size a → is_field (g.kind a) i ≡ true → decode (m.heap (a + i)) ≡ PointerWord b → 0 < z.size b
    field_leads i b first last field points =
        let is : IsField g.size g.writer g.kind a i = record { stands = it_stood.0; written = written; field = field; first = first; last = rw it_stood.3 at last } in
        lands_here (a + i) b (field_here E g.size g.writer g.kind a i is (it_stood.1, it_stood.2)) points

    -- a cell of the epoch's space, whose target doesn't lead into the old one
    module _ (weak : g.kind a ≡ Weak) where
      cell : IsCell g a
      cell = record { stands = it_stood.0; written = written; weak = weak }

      target_out_of_old : ¬ (Leads E (m.heap (a + 1)))
      target_out_of_old = ⊎_elim
          (λ (copied : (E.start ≤ a) × (a + g.size a ≤ m.front)).
          inv.cells.targets.clean traced a (record { stands = cell.stands; written = cell.written; weak = weak; inside = (it_stood.1, omega (arith, copied, it_stood.0)) }))
          (λ y. ⊎_elim
          (λ (new : (m.low ≤ a) × (a + g.size a ≤ E.start + E.span)). inv.cells.targets.new a cell new.0 it_stood.2)
          (λ (old : (E.old_start ≤ a) × (a + g.size a ≤ E.old_start + E.old_span)). absurd (let apart = out.apart in omega (arith, old, apart, it_stood)))
          y)
          (inv.laid.lies a it_stood.0)

      target_leads : (b : ℕ) → decode (m.heap (a + 1)) ≡ PointerWord b → 0 < z.size b
      target_leads b points = lands_there (m.heap (a + 1)) b (inv.cells.targets.lands a cell it_stood.1 it_stood.2) target_out_of_old points

      three : z.size a ≡ 3
      three = it_stood.3 ∙ inv.cells.chain.three a it_stood.0 weak

      target_shows : (p : plain.Plain) → Shown E m team g p → (r : plain.Record) → plain.record_of p.heap (g.identity a) ≡ Some r → value_of g.identity (m.heap (a + 1)) ≡ slice_get r.values 0
      target_shows p shown r is =
          let there = shown.objects.shows a it_stood.0 written (inl uncopied.0) in
          let same : there.0 ≡ r = some_same (sym there.1 ∙ is) in
          let kind : r.kind ≡ Weak = sym (ap (λ (q : plain.Record). q.kind) same) ∙ there.2.kind ∙ weak in
          let size : size_of r ≡ 3 = ap size_of (sym same) ∙ there.2.size ∙ sym it_stood.3 ∙ three in
          let one : 0 < length r.values = omega (arith, size, rw kind at size) in
          let v = slice_index_or r.values 0 (Number 0) in
          let has : slice_get r.values 0 ≡ Some v = slice_get-get_or r.values 0 (Number 0) one in
          let cell_is : cell_of p.heap (g.identity a) ≡ Some v = ap (option_and_then value_of_cell) is ∙ rw kind has in
          ⊎_elim
          (λ (denotes : value_of g.identity (m.heap (a + 1)) ≡ Some v). denotes ∙ sym has)
          (λ (emptied : MayBeEmptied E m g a v). absurd (let early = emptied.walked.0 in omega (arith, early, traced)))
          (shown.targets.shows a v (record { cell = cell; place = inl (it_stood.1, it_stood.2) }) cell_is)

pub frozen_heaps_show : FrozenHeapsShow
frozen_heaps_show t team g p out inv shown traced = record {
  board = shown.board.board;
  sixteen = shown.board.sixteen;
  held = board_held t team g out inv traced;
  records = λ a kept. record_shows t team g out inv traced a kept p shown;
  three = λ a kept weak. three t team g out inv traced a kept weak;
  targets = λ a r kept weak is. target_shows t team g out inv traced a kept weak p shown r is;
  board_lands = λ x b within points. lands_here t team g out inv traced ((era_of t).board + x) b (board_here (era_of t) g.size g.writer g.kind x within) points;
  field_lands = λ a i b first last field points. field_leads t team g out inv traced a (omega (arith, last)) i b first last field points;
  target_lands = λ a b kept weak points. target_leads t team g out inv traced a kept weak b points;
  once = λ a b stands other same.
      let first = it_stood t team g out inv traced a stands in
      let second = it_stood t team g out inv traced b other in
      let alone = uncopied t team g out inv traced a stands in
      let apart = uncopied t team g out inv traced b other in
      ⊎_elim
      (λ (one : a ≡ b). one)
      (λ y. ⊎_elim
      (λ (copy : g.copy a ≡ b + 1). absurd (omega (arith, copy, alone)))
      (λ (copy : g.copy b ≡ a + 1). absurd (omega (arith, copy, apart)))
      y)
      (inv.once.once a b first.0 second.0 same);
}
