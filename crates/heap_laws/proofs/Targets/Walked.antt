-- The walk over the chain finds what a target leads to, and replaces it. Then TRACED is exchanged.
use Rattle.std.proofs.Common.{◌≡◌, ◌≢◌, ℕ, ◌+◌, ◌-◌, ◌<◌, ◌≤◌, false, Some, refl, sym, ap, ◌∙◌, arith, ⊎_elim, inl, inr}
use Rattle.std.proofs.lemmas.Bool.{cases_eq, cases_lt}
use Rattle.heap_words.specs.Decoded.{PointerWord, decode}
use Rattle.heap_state.specs.Cells.{Ranks, IsCopiedCell, TargetsOld, ReplacesTarget, Visits, Passing, Chain}
use Rattle.heap_state.specs.Memory.Era.{Era, Memory}
use Rattle.heap_state.specs.Invariant.Ghost.{Ghost, Lands}
use Rattle.heap_state.specs.Targets.{Targets}
use Rattle.heap_state.specs.Known.{Team, Visit, At, Done}
use Rattle.heap_state.proofs.Puts.{put_at, put_other}
use Rattle.heap_state.proofs.Records.Holding.{writer}
use Rattle.heap_laws.specs.Cells.Walks.{IsWalked}
use Rattle.heap_laws.specs.Steps.{Ready, with_traced}
use Rattle.heap_laws.specs.Targets.Walks.{TargetIsFound, TargetsAreFound, ReplacingCarriesTargets, TracingCarriesTargets}
use Rattle.heap_laws.proofs.Cells.ChainParts.{none_copies}
use Rattle.heap_laws.proofs.Cells.ChainRows.{StoresWord, stores_word}
use Rattle.heap_laws.proofs.Cells.Turned.{walked, traced_memory}
use Rattle.heap_laws.proofs.Frames.Values.{pointer_same}
use Rattle.heap_laws.proofs.Targets.Carried.{cell_of, lands_at, landed}

-- ---- the cell that the walk has come to

module _ (E : Era) (m : Memory) (weak turn : ℕ) (team : Team) (g : Ghost) (r : Ranks) (k : ℕ) (v : Visit) (ready : Ready E m team g k) (has : (team.worker k).pass ≡ Some (At v)) (chain : Chain E m weak turn team g r) where
  pub passing : Passing E m turn g r (team.worker k) (At v)
  passing = chain.pass k (At v) ready.member has

  pub visited : Visits E m g r v
  visited = passing.at v refl

  pub cell : IsCopiedCell E m.front g v.cell
  cell = ((chain.linked passing.now.1).ranked v.cell visited.linked).0

  -- it is a cell of the epoch's space
  pub in_space : v.cell < E.start + E.span
  in_space = let i = cell.inside in let o = ready.invariant.laid.order in omega (arith, i, o)

  -- nobody writes a place while one walks
  pub none_writes : (b : ℕ) → 0 < g.size b → g.writer b ≡ 0
  none_writes b st = ⊎_elim
      (λ (p : 0 < g.writer b).
      let w = writer E m team g ready.invariant b (g.writer b - 1) st (omega (arith, p)) in
      let me = ready.invariant.workers (g.writer b - 1) w.below in
      absurd (none_copies E m weak turn team g r ready.invariant chain k (g.writer b - 1) (At v) ready.member w.below has (me.licensed.licensed w.copy w.copies)))
      (λ (z : g.writer b ≤ 0). omega (arith, z))
      (cases_lt 0 (g.writer b))

  pub found : Targets E m g → TargetIsFound E m g v
  found t = record {
    passed = λ clean. inl (clean, refl);
    old = λ b e out.
        let l = landed g.size g.writer (m.heap (v.cell + 1)) b (t.lands v.cell (cell_of E m.front g v.cell cell) cell.inside.0 in_space) e in
        let o = ready.invariant.laid.order in
        ⊎_elim
        (λ old. inr (b, (e, l.0, old.0, old.1), refl))
        (λ i. absurd (omega (arith, i, out, o)))
        (t.aims v.cell b cell e);
  }

pub targets_are_found : TargetsAreFound
targets_are_found E m weak turn team g r k v ready has chain t = found E m weak turn team g r k v ready has chain t

-- ---- its target is replaced

module _ (E : Era) (m later : Memory) (weak turn : ℕ) (team : Team) (g : Ghost) (r : Ranks) (k : ℕ) (v : Visit) (x : ℕ) (ready : Ready E m team g k) (has : (team.worker k).pass ≡ Some (At v)) (before : v.past ≡ false)
    (word : v.word ≡ Some x) (s : StoresWord m later (v.cell + 1) x) (chain : Chain E m weak turn team g r) (t : Targets E m g) where
  here : Visits E m g r v
  here = visited E m weak turn team g r k v ready has chain

  place : IsCopiedCell E m.front g v.cell
  place = cell E m weak turn team g r k v ready has chain

  untraced : m.traced ≤ E.epoch
  untraced = (passing E m weak turn team g r k v ready has chain).now.1

  -- the target leads to an old record, for which the word stands
  was_old : (b : ℕ) × TargetsOld E m g v.cell b × ReplacesTarget g b x
  was_old = here.word x before word

  -- a pointer is one to a copy
  copy_at : (d : ℕ) → decode x ≡ PointerWord d → (0 < g.size d) × (E.start ≤ d) × (d < m.front)
  copy_at d e = ⊎_elim
      (λ z.
      let o = was_old.1 in
      let c = ready.invariant.copied.target was_old.0 z.0 o.1 z.1 in
      let same : d ≡ z.0 = pointer_same x d z.0 e z.2 in
      let st = o.1 in
      (omega (arith, same, c.4, st, ap g.size same), omega (arith, same, c.2), omega (arith, same, c.3)))
      (λ z. absurd (let f = sym e ∙ z.1 in cc))
      was_old.2

  lands : Lands g.size g.writer x
  lands = lands_at g.size g.writer x (λ d e. let c = copy_at d e in (c.0, none_writes E m weak turn team g r k v ready has chain d c.0))

  new_word : later.heap (v.cell + 1) ≡ x
  new_word = rw s.heap (put_at m.heap (v.cell + 1) x (v.cell + 1) refl)

  same : (a : ℕ) → a ≢ v.cell → later.heap (a + 1) ≡ m.heap (a + 1)
  same a d = rw s.heap (put_other m.heap (v.cell + 1) x (a + 1) (λ e. d (let f : a ≡ v.cell = omega (arith, e) in f)))

  pub replaces : Targets E later g
  replaces = record {
    lands = λ a c from to. ⊎_elim
        (λ (e : a ≡ v.cell). rw (e, new_word) lands)
        (λ (d : a ≢ v.cell). rw (same a d) (t.lands a c from to))
        (cases_eq a v.cell);
    aims = λ a d c e.
        let f = s.memory.front in
        ⊎_elim
        (λ (i : a ≡ v.cell). let y = copy_at d (rw (i, new_word) at e) in inr (y.1, omega (arith, y.2, f)))
        (λ (i : a ≢ v.cell). rw f (t.aims a d (rw f at c) (rw (same a i) at e)))
        (cases_eq a v.cell);
    new = λ a c from to.
        let l : m.low ≤ a = rw s.low at from in
        let i = place.inside in
        let o = ready.invariant.laid.order in
        let d : a ≢ v.cell = λ e. omega (arith, e, l, i, o) in
        rw (same a d) (t.new a c l to);
    clean = λ e. absurd (let f = s.memory.traced in omega (arith, e, f, untraced));
    older = λ le a d c old e.
        let i = place.inside in
        let o = ready.invariant.laid.order in
        let p = ready.laid_out.apart in
        let n : a ≢ v.cell = λ y. omega (arith, y, old, i, o, p) in
        t.older untraced a d c old (rw (same a n) at e);
  }

pub replacing_carries_targets : ReplacingCarriesTargets
replacing_carries_targets E m later weak turn team g r k v x ready has before word writes chain t =
    replaces E m later weak turn team g r k v x ready has before word (stores_word writes refl) chain t

-- ---- TRACED

module _ (E : Era) (m : Memory) (weak turn : ℕ) (team : Team) (g : Ghost) (r : Ranks) (k : ℕ) (ready : Ready E m team g k) (has : (team.worker k).pass ≡ Some Done) (chain : Chain E m weak turn team g r) (t : Targets E m g) where
  now : (team.worker k).epoch ≡ E.epoch
  now = (chain.pass k Done ready.member has).now.0

  all : IsWalked E m g
  all = walked E m weak turn team g r k Done ready has chain refl

  pub traces : Targets E (with_traced m ((team.worker k).epoch + 1)) g
  traces = record {
    lands = t.lands;
    aims = t.aims;
    new = t.new;
    clean = λ _ a c. all.clean a c;
    older = λ le. absurd (omega (arith, le, now));
  }

pub tracing_carries_targets : TracingCarriesTargets
tracing_carries_targets E m later weak turn team g r k ready has writes chain t =
    let s : later ≡ with_traced m ((team.worker k).epoch + 1) = traced_memory writes refl in
    rw s (traces E m weak turn team g r k ready has chain t)
