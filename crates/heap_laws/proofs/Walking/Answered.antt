-- What the walk over the chain of copied cells reads, and that it is there.
use Rattle.std.proofs.Common.{◌≡◌, ℕ, ◌+◌, ◌-◌, ◌<◌, ◌≤◌, false, Some, refl, arith, ⊎_elim, inl, inr}
use Rattle.heap_words.specs.Decoded.{decode}
use Rattle.heap_state.specs.Cells.{IsCopiedCell, LeadsToRank, Linked, TargetsOld, Visits, Passing}
use Rattle.heap_state.specs.Invariant.Parts.Cells.{Cells}
use Rattle.heap_state.specs.Memory.Era.{Era, Memory}
use Rattle.heap_state.specs.Invariant.Ghost.{Ghost, header_kind}
use Rattle.heap_state.specs.Known.{Team, Visit, Pass, Begins, At}
use Rattle.heap_state.proofs.Records.Holding.{First, OwnHeader, KeptBy, GoneTo, first, keeper}
use Rattle.heap_laws.specs.Answers.{LeadsToCell, SettledHeader, NotCopied, CopiedTo, WalkAnswers, WalksAreAnswered, ChainsAreAnswered}
use Rattle.heap_laws.specs.Steps.{Ready}
use Rattle.heap_laws.proofs.Cells.ChainParts.{none_copies}
use Rattle.heap_laws.proofs.Cells.Short.{chain_is_short}
use Rattle.heap_laws.proofs.Steps.RowPlaces.{below_board}

-- ---- while one walks

module _ (E : Era) (m : Memory) (team : Team) (g : Ghost) (k : ℕ) (q : Pass) (ready : Ready E m team g k) (has : (team.worker k).pass ≡ Some q) where
  abbrev cells : Cells E m team g
  cells = ready.invariant.cells

  knows : Passing E m m.weak_turn g cells.ranks (team.worker k) q
  knows = cells.chain.pass k q ready.member has

  linked : Linked E m m.weak g cells.ranks
  linked = cells.chain.linked knows.now.1

  -- a linked cell lies in the table with its three words
  there : (a : ℕ) → 0 < cells.ranks.rank a → a + 3 ≤ E.board
  there a p =
      let c : IsCopiedCell E m.front g a = (linked.ranked a p).0 in
      let z = cells.chain.three a c.stands c.weak in
      let below = below_board ready a c.stands in
      omega (arith, z, below)

  -- a word that leads to a cell of a rank
  leads_there : (word n more : ℕ) → LeadsToRank cells.ranks word n → n ≤ more → LeadsToCell E word more
  leads_there word n more leads few = ⊎_elim
      (λ z. inl z.0)
      (λ z. inr (z.0, z.1, there z.0 z.2, let p = z.2 in let s = z.3 in omega (arith, p, s, few)))
      leads

  -- nobody keeps a header
  settled : (b : ℕ) → 0 < g.size b → g.writer b ≡ 0 → SettledHeader E m.front (decode (m.heap b))
  settled b st w = by_first (first E m team g ready.invariant b st w)
    where
      by_first : First E m team g ready.invariant b → SettledHeader E m.front (decode (m.heap b))
      by_first (OwnHeader n y h) = rw h (NotCopied (header_kind (g.kind b)) (g.size b - 1) (g.identity b).serial (g.identity b).mutator)
      by_first (KeptBy j y h) =
          let o = keeper E m team g ready.invariant b j st y in
          let u = ready.invariant.workers j o.below in
          absurd (none_copies E m m.weak m.weak_turn team g cells.ranks ready.invariant cells.chain k j q ready.member o.below has (u.licensed.licensed o.copy o.copies))
      by_first (GoneTo to y n h) = let t = ready.invariant.copied.target b to st n in rw h (CopiedTo (g.size b - 1) to (t.2, t.3))

-- ---- the cell that it has come to

module _ (E : Era) (m : Memory) (team : Team) (g : Ghost) (k : ℕ) (v : Visit) (ready : Ready E m team g k) (has : (team.worker k).pass ≡ Some (At v)) where
  visits : Visits E m g ready.invariant.cells.ranks v
  visits = (knows E m team g k (At v) ready has).at v refl

  old : (b : ℕ) → v.past ≡ false → v.old ≡ Some b → (b < E.board) × SettledHeader E m.front (decode (m.heap b))
  old b before e =
      let t : TargetsOld E m g v.cell b = visits.old b before e in
      let st = t.1 in
      let below = below_board ready b st in
      (omega (arith, st, below), settled E m team g k (At v) ready has b st (ready.invariant.older.written b st t.2 t.3))

  pub walk_answers : WalkAnswers E m v
  walk_answers = record {
    cell = there E m team g k (At v) ready has v.cell visits.linked;
    old = old;
    link = λ _.
        let r = ready.invariant.cells.ranks in
        let p = visits.linked in
        let f = visits.few in
        let n : r.rank v.cell ≡ (r.rank v.cell - 1) + 1 = omega (arith, p) in
        leads_there E m team g k (At v) ready has (m.heap (v.cell + 2)) (r.rank v.cell - 1) (v.more - 1) ((linked E m team g k (At v) ready has).link v.cell (r.rank v.cell - 1) n) (omega (arith, f, p));
  }

pub walks_are_answered : WalksAreAnswered
walks_are_answered E m team g k v ready has = walk_answers E m team g k v ready has

pub chains_are_answered : ChainsAreAnswered
chains_are_answered E m team g k more ready has room =
    let c = ready.invariant.cells in
    let short = chain_is_short E m m.weak m.weak_turn team g c.ranks k ready (knows E m team g k Begins ready has).now.1 c.chain in
    let o = ready.invariant.laid.order in
    leads_there E m team g k Begins ready has m.weak c.ranks.length more (linked E m team g k Begins ready has).head (omega (arith, short, room, o))
