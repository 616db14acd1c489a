-- A new record is placed, behind all that is copied.
use Rattle.std.proofs.Common.{◌≡◌, ◌≢◌, ℕ, ◌+◌, ◌<◌, ◌≤◌, refl, sym, ◌∙◌, arith, ⊎_elim}
use Rattle.std.proofs.lemmas.Bool.{cases_eq}
use Rattle.plain_state.specs.declared.kind.Kind.{Kind}
use Rattle.plain_state.specs.declared.kind.Kind.TheVariants.{Fields, Weak}
use Rattle.plain_state.specs.Layout.{values_at}
use Rattle.heap_state.specs.Cells.{Ranks, IsCopiedCell, Chain}
use Rattle.heap_state.specs.Memory.Era.{Era, Memory}
use Rattle.heap_state.specs.Invariant.Ghost.{Ghost}
use Rattle.heap_state.specs.Known.{Known, Team, Stock}
use Rattle.heap_state.proofs.Puts.{put_at, put_other, each_put}
use Rattle.heap_laws.specs.Allocation.Records.{PlacesNext, allocated, next_identity}
use Rattle.heap_laws.specs.Cells.Flips.{PlacingCarriesChain}
use Rattle.heap_laws.specs.Cells.Frames.{GoesOnInChain}
use Rattle.heap_laws.specs.Steps.{Ready, with_worker}
use Rattle.heap_laws.proofs.Cells.Carried.{carried}
use Rattle.heap_laws.proofs.Cells.ChainRows.{StoresWord, stores_word, no_cell_words}

-- a record's values begin behind its header
pub some_values : (c : Kind) → 0 < values_at c
some_values Fields = omega arith
some_values _ = omega arith

module _ (E : Era) (m later : Memory) (weak turn : ℕ) (team : Team) (g : Ghost) (r : Ranks) (k : ℕ) (s : Stock) (c : Kind) (z v target : ℕ) (w : Known) (ready : Ready E m team g k) (places : PlacesNext team k s c z v target) (small : c ≡ Weak → z ≡ 3)
    (stores : StoresWord m later s.at v) (on : GoesOnInChain E w (team.worker k)) (chain : Chain E m weak turn team g r) where
  abbrev h : Ghost
  h = allocated g s.at z c (next_identity team k)

  behind : m.front ≤ s.at
  behind =
      let me = ready.invariant.workers k ready.member in
      let now = me.timely.running places.own.runs in
      let y = (ready.invariant.stocks.stocked k ready.member s places.own.has (me.stock s places.own.has ∙ now)).lies in
      let o = ready.invariant.laid.order in
      omega (arith, y, o)

  room : 0 < z
  room = let y = places.some in let x = some_values c in omega (arith, x, y)

  words : (a : ℕ) → IsCopiedCell E m.front g a → (later.heap (a + 1) ≡ m.heap (a + 1)) × (later.heap (a + 2) ≡ m.heap (a + 2))
  words a y =
      let n = (no_cell_words E m team g k weak turn r ready chain).behind s.at behind a y in
      (rw (stores.heap, put_other m.heap s.at v (a + 1) (λ e. n.0 (sym e))) refl, rw (stores.heap, put_other m.heap s.at v (a + 2) (λ e. n.1 (sym e))) refl)

  another : (a : ℕ) → a < m.front → a ≢ s.at
  another a l e = omega (arith, l, e, behind)

  fewer : (a : ℕ) → IsCopiedCell E later.front h a → IsCopiedCell E m.front g a
  fewer a y =
      let i : (E.start ≤ a) × (a < m.front) = rw stores.memory.front at y.inside in
      let d = another a i.1 in
      record {
        stands = rw (put_other g.size s.at z a d) at y.stands;
        written = rw (put_other g.writer s.at 0 a d) at y.written;
        weak = rw (put_other g.kind s.at c a d) at y.weak;
        inside = i;
      }

  cells : (a : ℕ) → IsCopiedCell E m.front g a → IsCopiedCell E later.front h a
  cells a y =
      let d = another a y.inside.1 in
      record {
        stands = rw (put_other g.size s.at z a d) y.stands;
        written = rw (put_other g.writer s.at 0 a d) y.written;
        weak = rw (put_other g.kind s.at c a d) y.weak;
        inside = rw stores.memory.front y.inside;
      }

  three : (a : ℕ) → 0 < h.size a → h.kind a ≡ Weak → h.size a ≡ 3
  three a st e = ⊎_elim
      (λ (x : a ≡ s.at). put_at g.size s.at z a x ∙ small (sym (put_at g.kind s.at c a x) ∙ e))
      (λ (d : a ≢ s.at). put_other g.size s.at z a d ∙ chain.three a (rw (put_other g.size s.at z a d) at st) (rw (put_other g.kind s.at c a d) at e))
      (cases_eq a s.at)

  pub places_record : Chain E later weak turn (with_worker team k w) h r
  places_record = carried E m later weak turn team g h r k w (record {
    traced = stores.memory.traced;
    fewer = fewer;
    cells = cells;
    targets = λ a y. (words a y).0;
    links = λ a y. (words a y).1;
    copies = λ _. refl;
    stands = λ b l. each_put (λ (_ y : ℕ). 0 < y) g.size s.at z b (λ _. l) (λ _. room);
    three = three;
  }) on chain

pub placing_carries_chain : PlacingCarriesChain
placing_carries_chain E m later weak turn team g r k s c z v target w ready places small writes on chain = places_record E m later weak turn team g r k s c z v target w ready places small (stores_word writes refl) on chain
