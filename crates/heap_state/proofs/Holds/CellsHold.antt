-- What keeps the invariant of the proofs keeps the part of cells by words and workers.
use Rattle.std.proofs.Common.{◌≡◌, ◌≢◌, ℕ, zero, suc, ◌+◌, ◌-◌, ◌*◌, ◌<◌, ◌≤◌, Bool, true, false, cond, List, [], ◌∷◌, length, Option, Some, None, slice_get, is_some, refl, sym, ap, ◌∙◌, subst, arith, ⊎_elim, ◌⊎◌, inl, inr}
use Rattle.std.proofs.lemmas.Bool.{cases_eq, cases_lt}
use Rattle.plain_state.specs.declared.kind.Kind.{Kind}
use Rattle.plain_state.specs.declared.kind.Kind.TheVariants.{Weak}
use Rattle.heap_words.specs.declared.kind.Kind.TheVariants as header_kinds
use Rattle.heap_words.specs.Decoded.{HeaderWord, decode}
use Rattle.heap_state.specs.Cells.{Ranks, IsCopiedCell, LeadsToRank, HasCopier, Linked, MayCopy, Passing, Chain, passed_from}
use Rattle.heap_state.specs.Configuration.{Configuration, era, memory, team}
use Rattle.heap_state.specs.Invariant.Ghost.{Ghost, Leads, header_kind}
use Rattle.heap_state.specs.Invariant.HoldsOfCells.{IsCopiedAt, WaitsForLink, LeadsThrough, IsChain, Passes, TurnHolds, IsWalkedTarget, CellsHold}
use Rattle.heap_state.specs.Invariant.Inductive.{Invariant}
use Rattle.heap_state.specs.Invariant.Parts.Pages.{Quiet, IsLastOpen}
use Rattle.heap_state.specs.Memory.Era.{Era, Memory}
use Rattle.heap_state.specs.Memory.Table.{IsFormed}
use Rattle.heap_state.specs.Targets.{IsCell}
use Rattle.heap_state.specs.Known.{Linking, Visit, Pass, Begins, At, Done, cell_to_link}
use Rattle.heap_state.proofs.Holds.Still.{open_scanning, scans_filling}
use Rattle.heap_state.proofs.Puts.{some_same, none≢some}
use Rattle.heap_state.proofs.Records.Holding.{uncopied_here}
use Rattle.heap_state.proofs.Represents.Owning.{owns}
use Rattle.heap_state.proofs.Walks.WalksBelowFront.{copied_complete, copied_sound}
use Rattle.heap_state.proofs.Workers.Walkers.{quiet_in_walk}
use Rattle.heap_state.proofs.Walks.InHeap.{lay, now_sound, still_copying}

-- ---- the list of the linked cells

module _ (E : Era) (m : Memory) (weak : ℕ) (g : Ghost) (r : Ranks) (linked : Linked E m weak g r) where
  -- the cells of this rank and of those below it, from the word that leads to the first
  record Listed (word n : ℕ) : Type 0 where
    cells : List ℕ
    long : length cells ≡ n
    leads : LeadsThrough m.heap word cells
    ranked : (i a : ℕ) → slice_get cells i ≡ Some a → (0 < r.rank a) × (r.rank a + i ≡ n)
    all : (a : ℕ) → 0 < r.rank a → r.rank a ≤ n → slice_get cells (n - r.rank a) ≡ Some a

  none_leads : (word : ℕ) → word ≡ 0 → LeadsThrough m.heap word []
  unfolding LeadsThrough
  none_leads word e = e

  one_leads : (word a : ℕ) (cells : List ℕ) → word ≡ a + 1 → LeadsThrough m.heap (m.heap (a + 2)) cells → LeadsThrough m.heap word (a ∷ cells)
  unfolding LeadsThrough
  one_leads word a cells e l = (e, l)

  listed : (n word : ℕ) → LeadsToRank r word n → Listed word n
  listed zero word (inl z) = record { cells = []; long = refl; leads = none_leads word z.0; ranked = λ i a e. absurd (cc); all = λ a p l. absurd (omega (arith, p, l)) }
  listed zero word (inr y) = absurd (let p = y.2 in let e = y.3 in omega (arith, p, e))
  listed (suc n) word (inl z) = absurd (let e = z.1 in omega (arith, e))
  listed (suc n) word (inr y) =
      let first = y.0 in
      let rest = listed n (m.heap (first + 2)) (linked.link first n (let e = y.3 in omega (arith, e))) in
      record {
        cells = first ∷ rest.cells;
        long = ap suc rest.long;
        leads = one_leads word first rest.cells y.1 rest.leads;
        ranked = ranked first rest y.2 y.3;
        all = all first rest y.3;
      }
    where
      ranked : (first : ℕ) (rest : Listed (m.heap (first + 2)) n) → 0 < r.rank first → r.rank first ≡ suc n → (i a : ℕ) → slice_get (first ∷ rest.cells) i ≡ Some a → (0 < r.rank a) × (r.rank a + i ≡ suc n)
      ranked first rest some is zero a e = let same : first ≡ a = some_same e in rw (← same) (some, omega (arith, is))
      ranked first rest some is (suc i) a e = let w = rest.ranked i a e in (w.0, omega (arith, w.1))

      all : (first : ℕ) (rest : Listed (m.heap (first + 2)) n) → r.rank first ≡ suc n → (a : ℕ) → 0 < r.rank a → r.rank a ≤ suc n → slice_get (first ∷ rest.cells) (suc n - r.rank a) ≡ Some a
      all first rest is a p l = ⊎_elim
          (λ (e : r.rank a ≡ suc n). let same : first ≡ a = linked.alone first a (omega (arith, is)) (is ∙ sym e) in let z : suc n - r.rank a ≡ 0 = omega (arith, e) in rw z (ap Some same))
          (λ (d : r.rank a ≢ suc n). let below : r.rank a ≤ n = omega (arith, l, d) in let z : suc n - r.rank a ≡ suc (n - r.rank a) = omega (arith, below) in rw z (rest.all a p below))
          (cases_eq (r.rank a) (suc n))

-- ---- a configuration

module _ (c : Configuration) (g : Ghost) (formed : IsFormed c.pages c.words) (inv : Invariant (era c) (memory c) (team c) g) where
  abbrev E : Era
  E = era c

  abbrev m : Memory
  m = memory c

  abbrev r : Ranks
  r = inv.cells.ranks

  chain : Chain E m m.weak m.weak_turn (team c) g r
  chain = inv.cells.chain

  -- ---- cells

  weak_kind : (kind : Kind) → header_kind kind ≡ header_kinds.Weak → kind ≡ Weak
  weak_kind Weak e = refl
  weak_kind _ e = absurd (cc)

  -- the header of a copy is in its place
  header : (a : ℕ) → 0 < g.size a → g.writer a ≡ 0 → E.start ≤ a → a < m.front → decode (m.heap a) ≡ HeaderWord (header_kind (g.kind a)) (g.size a - 1) (g.identity a).serial (g.identity a).mutator
  header a st w from below =
      let order = inv.laid.order in
      let u = uncopied_here E m (team c) g inv (lay c g formed inv) a st from (omega (arith, below, order)) in
      inv.headed.own a st w u.0 u.1

  copied_at : (a : ℕ) → IsCopiedCell E m.front g a → IsCopiedAt c a
  copied_at a y = record {
    size = g.size a;
    copied = copied_complete c g formed inv a y.inside.0 y.inside.1 y.stands y.written;
    len = g.size a - 1;
    serial = (g.identity a).serial;
    mutator = (g.identity a).mutator;
    header = subst (λ (kind : Kind). decode (m.heap a) ≡ HeaderWord (header_kind kind) (g.size a - 1) (g.identity a).serial (g.identity a).mutator) y.weak (header a y.stands y.written y.inside.0 y.inside.1);
  }

  cell_at : (a : ℕ) → IsCopiedAt c a → IsCopiedCell E m.front g a
  cell_at a y =
      let is = copied_sound c g formed inv (record { at = a; size = y.size }) y.copied in
      let z = is.sized in
      let st : 0 < g.size a = omega (arith, z) in
      let same = sym (header a st is.written is.inside.0 is.inside.1) ∙ y.header in
      record { stands = st; written = is.written; weak = weak_kind (g.kind a) (let e : header_kind (g.kind a) ≡ header_kinds.Weak = cc in e); inside = is.inside }

  -- ---- who links

  waits : (a : ℕ) → HasCopier (team c) a → WaitsForLink c a
  waits a y = record { worker = y.worker; member = y.member; links = y.links }

  linking_of : (o : Option Linking) (a : ℕ) → cell_to_link o ≡ Some a → (l : Linking) × (o ≡ Some l) × (l.cell ≡ a)
  linking_of None a e = none≢some e
  linking_of (Some l) a e = (l, refl, some_same e)

  unlinked : (a : ℕ) → WaitsForLink c a → r.rank a ≡ 0
  unlinked a y =
      let l = linking_of ((team c).worker y.worker).linking a y.links in
      rw l.2 at (chain.linking y.worker l.0 y.member l.1).unlinked

  -- ---- the chain

  module _ (copying : m.traced ≤ E.epoch) where
    list : Listed E m m.weak g r (chain.linked copying) m.weak r.length
    list = listed E m m.weak g r (chain.linked copying) r.length m.weak (chain.linked copying).head

    is_chain : IsChain c list.cells
    is_chain = record {
      leads = list.leads;
      copied = λ i a e. let y = (list.ranked i a e).0 in (copied_at a ((chain.linked copying).ranked a y).0, λ w. let z = unlinked a w in omega (arith, y, z));
      once = λ i j a e f. let x = (list.ranked i a e).1 in let y = (list.ranked j a f).1 in omega (arith, x, y);
      all = λ a y. ⊎_elim
          (λ (z : r.rank a ≡ 0). inr (waits a (chain.all copying a (cell_at a y) z)))
          (λ (d : r.rank a ≢ 0). let p : 0 < r.rank a = omega (arith, d) in inl (r.length - r.rank a, list.all a p ((chain.linked copying).ranked a p).1))
          (cases_eq (r.rank a) 0);
    }

    -- ---- the walk

    module _ (turn : m.weak_turn ≡ E.epoch + 1) where
      quiet : Quiet E m.gate.behind m.front m.page × IsLastOpen E m.front m.page
      quiet =
          let w = chain.walker copying turn in
          let q = some_of ((team c).worker w.worker).pass w.walks in
          let p = chain.pass w.worker q.0 w.member q.1 in
          quiet_in_walk w.worker inv w.member p
        where
          some_of : (o : Option Pass) → is_some o ≡ true → (q : Pass) × (o ≡ Some q)
          some_of None e = absurd (cc)
          some_of (Some q) e = (q, refl)

      none_may : (k : ℕ) → k < (team c).count → ¬ (MayCopy E ((team c).worker k))
      none_may k l (inl s) = let f = scans_filling E m (team c) g inv k s.0 l s.1 quiet.0 in open_scanning (quiet.1 f.page_number f.begun f.filling) f.scanned
      none_may k l (inr late) = let b = (inv.workers k l).licensed.counted late in let z = quiet.0.none in omega (arith, b, z)

      passes : (k : ℕ) (q : Pass) → k < (team c).count → ((team c).worker k).pass ≡ Some q → Passes c list.cells q
      passes k q l e = by_pass q (chain.pass k q l e)
        where
          rank_is : (i a : ℕ) → slice_get list.cells i ≡ Some a → (0 < r.rank a) × (r.rank a + i ≡ r.length)
          rank_is = list.ranked

          by_visit : (v : Visit) (past : Bool) → v.past ≡ past → Passing E m m.weak_turn g r ((team c).worker k) (At v) → Passes c list.cells (At v)
          by_visit v past is p =
              let y = p.at v refl in
              let i = r.length - r.rank v.cell in
              let there = list.all v.cell y.linked ((chain.linked copying).ranked v.cell y.linked).1 in
              let at = (rank_is i v.cell there).1 in
              record {
                count = cond v.past (i + 1) i;
                passed = (i, there, refl);
                clean = λ j a below e. let z = rank_is j a e in p.passed a z.0 (from past is i at j z.1 below);
              }
            where
              from : (past : Bool) → v.past ≡ past → (i : ℕ) → r.rank v.cell + i ≡ r.length → (j : ℕ) {a : ℕ} → r.rank a + j ≡ r.length → j < cond v.past (i + 1) i → passed_from r (At v) ≤ r.rank a
              from true is i at j e below = rw is (let b : j < i + 1 = rw is at below in omega (arith, at, e, b))
              from false is i at j e below = rw is (let b : j < i = rw is at below in omega (arith, at, e, b))

          by_pass : (q : Pass) → Passing E m m.weak_turn g r ((team c).worker k) q → Passes c list.cells q
          by_pass Begins p = record { count = 0; passed = refl; clean = λ i a below e. absurd (omega (arith, below)) }
          by_pass (At v) p = by_visit v v.past refl p
          by_pass Done p = record { count = length list.cells; passed = refl; clean = λ i a below e. let z = rank_is i a e in p.passed a z.0 (let y = z.0 in omega (arith, y)) }

      turn_holds : TurnHolds c list.cells
      turn_holds = record {
        none_wait = λ a y. let l = linking_of ((team c).worker y.worker).linking a y.links in none_may y.worker y.member (chain.linking y.worker l.0 y.member l.1).licensed;
        none_behind = quiet.0.none;
        board = quiet.0.board;
        copied = λ p from below. ⊎_elim
            (λ (n : m.front < 64 * p + 64). quiet.1 p below n)
            (λ (n : 64 * p + 64 ≤ m.front). quiet.0.full p from n)
            (cases_lt m.front (64 * p + 64));
        passes = passes;
      }

  -- ---- targets

  -- the target of a walked cell is that of a copied cell, or of one from LOW up
  record IsTarget (x : ℕ) : Type 0 where
    cell : ℕ
    at : x ≡ cell + 1
    is : IsCell g cell
    long : g.size cell ≡ 3
    inside : (E.start ≤ cell) × (cell < E.start + E.span)
    lies : (cell + g.size cell ≤ m.front) ⊎ (m.low ≤ cell)

  target : (x : ℕ) → IsWalkedTarget c x → IsTarget x
  target x y =
      let is = now_sound c g formed inv y.of y.walked in
      let o = owns c g formed inv y.of Weak y.len y.serial y.mutator y.own in
      let z = is.sized in
      let st : 0 < g.size y.of.at = omega (arith, z) in
      let weak : g.kind y.of.at ≡ Weak = sym o.of_kind in
      record {
        cell = y.of.at;
        at = y.at;
        is = record { stands = st; written = is.written; weak = weak };
        long = chain.three y.of.at st weak;
        inside = is.inside;
        lies = lies y.of.at st is.inside;
      }
    where
      lies : (a : ℕ) → 0 < g.size a → (E.start ≤ a) × (a < E.start + E.span) → (a + g.size a ≤ m.front) ⊎ (m.low ≤ a)
      lies a st inside = ⊎_elim
          (λ p. inl p.1)
          (λ q. inr (⊎_elim (λ p. p.0) (λ p. absurd (let y = (lay c g formed inv).apart in omega (arith, p, inside, y, st))) q))
          (inv.laid.lies a st)

  above : (x : ℕ) (t : IsTarget x) → m.low ≤ t.cell → ¬ (Leads E (m.heap x))
  above x t from = rw t.at (inv.cells.targets.new t.cell t.is from t.inside.1)

  clean : m.traced ≡ E.epoch + 1 → (x : ℕ) → IsWalkedTarget c x → ¬ (Leads E (m.heap x))
  clean traced x y =
      let t = target x y in
      ⊎_elim
      (λ (below : t.cell + g.size t.cell ≤ m.front).
      let copied : IsCopiedCell E m.front g t.cell =
      record { stands = t.is.stands; written = t.is.written; weak = t.is.weak; inside = (t.inside.0, let long = t.long in omega (arith, below, long)) } in
      rw t.at (inv.cells.targets.clean traced t.cell copied))
      (above x t)
      t.lies

  new : (x : ℕ) → IsWalkedTarget c x → m.low ≤ x → ¬ (Leads E (m.heap x))
  new x y from =
      let t = target x y in
      ⊎_elim
      (λ (below : t.cell + g.size t.cell ≤ m.front). absurd (let long = t.long in let at = t.at in let order = inv.laid.order in omega (arith, below, long, at, order, from)))
      (above x t)
      t.lies

  pub cells_hold : CellsHold c
  cells_hold = record {
    top = ⊎_elim (λ (e : m.weak_turn ≡ E.epoch). omega (arith, e)) (λ (e : m.weak_turn ≡ E.epoch + 1). omega (arith, e)) chain.top;
    licensed = λ k l below e. (chain.linking k l below e).licensed;
    chain = λ n. let copying = (still_copying c g formed inv n).0 in ((list copying).cells, is_chain copying, turn_holds copying);
    clean = clean;
    new = new;
  }
